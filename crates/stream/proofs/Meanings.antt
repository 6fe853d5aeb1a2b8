-- Laws of the meaning: a stream that has stopped, and lines taken one after the other.
-- Assumes nothing.
use mathlib.Core.Path.{◌≡◌, sym, ◌∙◌}
use mathlib.Core.Bool.{true}
use mathlib.Core.List.{List, [], ◌∷◌, ◌++◌}
use Prim.Native.Nat.{ℕ}
use lib.Dec.{eqb}
use Rattle.base.proofs.Tests.{by_test}
use Rattle.stream.specs.declared.State.{State}
use Rattle.stream.specs.declared.Said.TheVariants.{Nothing}
use Rattle.stream.specs.Steps.{takes, owners_after}
use Rattle.stream.specs.Meaning.{at_end, meaning}
use Rattle.stream.specs.Laws.{StoppedSilent, TakenFixed}

-- a stream that has stopped takes a line and stays as it is
pub stopped_takes : (s : State) (owners line : List ℕ) → s.stopped ≡ true → takes s owners line ≡ record { state = s; said = Nothing }
unfolding takes
stopped_takes s owners line e = rw e

pub stopped_silent : StoppedSilent
unfolding meaning at_end
stopped_silent s owners piece [] e = rw e
stopped_silent s owners piece (byte ∷ bytes) e =
    by_test (eqb byte 10)
    (λ t. rw (t, stopped_takes s owners piece e) (stopped_silent s (owners_after s owners piece) [] bytes e))
    (λ f. rw f (stopped_silent s owners (piece ++ byte ∷ []) bytes e))

pub taken_fixed : TakenFixed
taken_fixed s owners line x y t u p q v w = (p ∙ sym q, v ∙ sym w)
