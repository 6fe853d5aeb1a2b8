-- The numbers of the reasons: none is 0, and no two are the same.
-- Assumes nothing.
use mathlib.Core.Path.{◌≡◌, refl, sym, ap, ◌∙◌}
use mathlib.Core.List.{[], ◌∷◌}
use Prim.Native.Nat.{ℕ, ◌-◌}
use lib.ListN.{get_or}
use native.Mathlib.Omega.{arith}
use Rattle.std.specs.Prelude.{Result, Ok, Err}
use Rattle.base.specs.declared.Refusal.{Refusal}
use Rattle.base.specs.declared.Refusal.TheVariants.{SlotCount, BrokenRoster, WrongTable, HostNumber, Rate, HostAbsent, HostPresent, RosterFull, LongKey, NoOwner, Load, ListLength}
use Rattle.base.specs.Refusals.{number_of}

pub number_not_zero : (e : Refusal) → number_of e ≡ 0 → ⊥
number_not_zero SlotCount z = omega arith
number_not_zero BrokenRoster z = omega arith
number_not_zero WrongTable z = omega arith
number_not_zero HostNumber z = omega arith
number_not_zero Rate z = omega arith
number_not_zero HostAbsent z = omega arith
number_not_zero HostPresent z = omega arith
number_not_zero RosterFull z = omega arith
number_not_zero LongKey z = omega arith
number_not_zero NoOwner z = omega arith
number_not_zero Load z = omega arith
number_not_zero ListLength z = omega arith

-- the reason of a number
reason : ℕ → Refusal
reason n = get_or (SlotCount ∷ BrokenRoster ∷ WrongTable ∷ HostNumber ∷ Rate ∷ HostAbsent ∷ HostPresent ∷ RosterFull ∷ LongKey ∷ NoOwner ∷ Load ∷ ListLength ∷ []) (n - 1) SlotCount

back : (e : Refusal) → reason (number_of e) ≡ e
unfolding reason
back SlotCount = refl
back BrokenRoster = refl
back WrongTable = refl
back HostNumber = refl
back Rate = refl
back HostAbsent = refl
back HostPresent = refl
back RosterFull = refl
back LongKey = refl
back NoOwner = refl
back Load = refl
back ListLength = refl

pub same_reason : (d e : Refusal) → number_of d ≡ number_of e → d ≡ e
same_reason d e h = sym (back d) ∙ ap reason h ∙ back e

-- a result is fixed by what is told of it: an answer of 0 with the reply, or the reason's number
module _ {A B : Type 0} (told : Result A Refusal → B) (answer : B → ℕ)
    (zero : (a : A) → answer (told (Ok a)) ≡ 0) (number : (e : Refusal) → answer (told (Err e)) ≡ number_of e)
    (once : (a b : A) → told (Ok a) ≡ told (Ok b) → a ≡ b) where
  pub told_once : (x y : Result A Refusal) → told x ≡ told y → x ≡ y
  told_once (Ok a) (Ok b) h = ap Ok (once a b h)
  told_once (Ok a) (Err e) h = absurd (number_not_zero e (sym (number e) ∙ sym (ap answer h) ∙ zero a))
  told_once (Err d) (Ok b) h = absurd (number_not_zero d (sym (number d) ∙ ap answer h ∙ zero b))
  told_once (Err d) (Err e) h = ap Err (same_reason d e (sym (number d) ∙ ap answer h ∙ number e))
