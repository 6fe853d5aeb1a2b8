-- Laws of the next line taken with no roster at hand: where it is taken, what it leaves is what feeding it leaves.
-- Assumes nothing.
use mathlib.Core.Path.{◌≡◌, refl, sym, ◌∙◌}
use mathlib.Core.Bool.{true, false}
use mathlib.Core.List.{List}
use Prim.Native.Nat.{ℕ}
use Rattle.std.specs.Prelude.{Option, Some, None}
use Rattle.std.specs.Option.{option_map}
use Rattle.base.proofs.Tests.{by_test}
use Rattle.stream.specs.declared.State.{State}
use Rattle.stream.specs.declared.Passed.{Passed}
use Rattle.stream.specs.Steps.{next_number, goes_on}
use Rattle.stream.specs.Passing.{passes}
use Rattle.stream.proofs.Passes.{passed-takes}
use Rattle.feed.specs.declared.Passing.{Passing}
use Rattle.feed.specs.Feed.{has_line, line_at, fed, owners_fed}
use Rattle.feed.specs.Passing.{with_place, passes_by}
use Rattle.feed.specs.Laws.{PassedFed, PassingFixed}
use Rattle.feed.proofs.Lines.{fed_line, owners_line}

module _ (s : State) (owners input : List ℕ) (from : ℕ) (p : Passing) (on : s.stopped ≡ false) where
  -- with the line passed told
  passed-line : (o : Option Passed) → has_line input from ≡ true → passes s.due (next_number s.lines) s.slots owners (line_at input from) ≡ o → option_map (with_place input from) o ≡ Some p →
      (fed s owners input from ≡ record { state = goes_on s p.due; said = p.said; next = p.next }) × (owners_fed s owners input from ≡ owners)
  passed-line None there is e = cc
  passed-line (Some q) there is e =
      let done = passed-takes s owners (line_at input from) q on is in
      let same : p ≡ with_place input from q = cc in
      (fed_line s owners input from there ∙ rw (same, done.0), owners_line s owners input from there ∙ done.1)

  -- a line that is passed is there, and what it leaves is what feeding it leaves
  passed-next : passes_by s.due (next_number s.lines) s.slots owners input from ≡ Some p →
      (has_line input from ≡ true) × (fed s owners input from ≡ record { state = goes_on s p.due; said = p.said; next = p.next }) × (owners_fed s owners input from ≡ owners)
  unfolding passes_by
  passed-next e =
      by_test (has_line input from)
      (λ t. let line = passed-line (passes s.due (next_number s.lines) s.slots owners (line_at input from)) t refl (rw t at e) in (t, line.0, line.1))
      (λ f. absurd (let none = rw f at e in cc))

pub passed_is_fed : PassedFed
passed_is_fed s owners input from p e on =
    let next = passed-next s owners input from p on e in
    (rw (next.0, next.1), next.2)

pub passing_fixed : PassingFixed
passing_fixed due number slots owners input from x y p q = p ∙ sym q
