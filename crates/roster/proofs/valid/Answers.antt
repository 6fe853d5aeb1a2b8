-- `roster::valid` meets its contract: every place is right exactly where the roster is valid.
use Prim.Native.Nat.{◌<◌}
use borrow.Author.Rules.{rules}
use borrow.Author.Tests.{lt-leb}
use lib.ListN.{length}
use native.Mathlib.Omega.{arith}
use mathlib.Core.Path.{◌≡◌, sym, ◌∙◌}
use Rattle.roster.proofs.Facts.{too_many, places_right}
use Rattle.roster.proofs.valid.Goals as goal

pub returns-then-r-le256 : goal.returns-then-r-le256
returns-then-r-le256 c =
    let r = c.args.r in
    let lh : length r.hosts ≡ 256 = search rules in
    let lr : length r.rates ≡ 256 = search rules in
    c.places_right.ensures.answer ∙ places_right r lh lr (omega arith) c.places_right.ensures.narrow

pub returns-else-r-le256 : goal.returns-else-r-le256
returns-else-r-le256 c = let h : 256 < c.args.r.count = omega arith in lt-leb _ _ h ∙ sym (too_many _ h)
