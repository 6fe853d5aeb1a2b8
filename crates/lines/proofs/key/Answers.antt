-- `lines::key` meets its contract: what is left behind the name is the definition's, and nothing where the name is missing.
use mathlib.Core.Path.{◌≡◌, refl, sym, ap, ◌∙◌}
use mathlib.Core.List.{List, []}
use Prim.Native.Nat.{ℕ, ◌+◌}
use denote.Ref.{Bor}
use lib.Dec.{eqb}
use lib.ListN.{length, take, drop}
use lib.Pointwise.{pointwise}
use mathlib.Core.Bool.{true, false}
use Rattle.std.specs.Prelude.{Option, Some, None, MatchOption, unwrap_or}
use Rattle.lines.specs.Lines.{key_name, key_of}
use Rattle.lines.proofs.Starts.{starts_cut}
use Rattle.lines.proofs.key.Goals as goal

left : (line : List ℕ) (none : Bor (List ℕ)) (r : Option (Bor (List ℕ))) → none.now ≡ [] →
    MatchOption r (pointwise eqb (take (length key_name) line) key_name ≡ false) (λ x. (pointwise eqb (take (length key_name) line) key_name ≡ true) × (x.now ≡ drop (length key_name) line) × (length x.now + length key_name ≡ length line)) →
    (unwrap_or r none).now ≡ key_of line
unfolding key_of
left line none None empty starts = rw (sym (starts_cut key_name line) ∙ starts) empty
left line none (Some text) empty starts = rw (sym (starts_cut key_name line) ∙ starts.0) starts.1

pub returns : goal.returns
returns c = ap (λ text. text.now) c.unwrap_or.ensures ∙ left c.args.line.now _ c.strip_prefix.result refl c.strip_prefix.ensures.cases
