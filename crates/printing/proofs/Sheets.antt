-- Laws of a sheet: texts put one behind the other, and what is put for what is said.
-- Assumes nothing.
use mathlib.Core.Path.{refl, sym, ap, ◌∙◌}
use mathlib.Core.List.{List, [], ◌++◌}
use Prim.Native.Nat.{ℕ, ◌+◌, ◌≤◌}
use native.Mathlib.Omega.{arith}
use lib.ListN.{length, length-append}
use Rattle.printing.specs.declared.Sheet.{Sheet}
use Rattle.printing.specs.Wrote.{wrote}
use Rattle.printing.specs.Sheet.{Put}
use Rattle.printing.proofs.Texts.{wrote-behind, wrote_nothing}

pub put_nothing : (s : Sheet) → Put s s []
put_nothing s = record { lent = refl; size = refl; place = omega arith; bytes = sym (wrote_nothing s.out.now s.at) }

-- a text behind another
pub put_both : {s t u : Sheet} {a b : List ℕ} → s.at + length a ≤ length s.out.now → Put s t a → Put t u b → Put s u (a ++ b)
put_both {s} {t} {u} {a} {b} l p q =
    record {
      lent = q.lent ∙ p.lent;
      size = q.size ∙ p.size;
      place = let one = p.place in let two = q.place in omega (arith, length-append a b);
      bytes = q.bytes ∙ ap (λ o. wrote o t.at b) p.bytes ∙ ap (λ k. wrote (wrote s.out.now s.at a) k b) p.place ∙ wrote-behind s.out.now s.at a b l;
    }
