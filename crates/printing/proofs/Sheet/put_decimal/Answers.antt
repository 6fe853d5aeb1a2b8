-- `printing::Sheet::put_decimal` meets its contract: the digits that the library makes are the definition's.
use native.Mathlib.Omega.{arith}
use mathlib.Core.Path.{◌∙◌}
use Rattle.printing.proofs.Texts.{decimal-text}
use Rattle.printing.proofs.Sheet.put_decimal.Goals as goal

pub returns : goal.returns
returns c =
    let made = c.decimal-k.ensures in
    let text = made.digits ∙ decimal-text c.args.value _ (omega arith) made.len in
    rw text at c.put.ensures
