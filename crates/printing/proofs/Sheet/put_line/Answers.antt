-- `printing::Sheet::put_line` meets its contract: three texts, one behind the other.
use native.Mathlib.Omega.{arith}
use lib.ListN.{length-append}
use Rattle.stream.specs.Text.{decimal, printed_line}
use Rattle.stream.proofs.Texts.{length-decimal}
use Rattle.printing.proofs.Sheets.{put_both}
use Rattle.printing.proofs.Sheet.put_line.Goals as goal

pub put-requires-2 : goal.put-requires-2
put-requires-2 c = omega (arith, length-decimal 19 c.args.value)

pub returns : goal.returns
unfolding printed_line
returns c =
    let name = c.args.name.now in
    let value = c.args.value in
    put_both (omega (arith, length-append name (decimal value), length-decimal 19 value)) (put_both (omega arith) c.put.ensures c.put_decimal.ensures) c.put-2.ensures
