-- `printing::Sheet::put_said` meets its contract: each case has its own lines, one behind the other.
use native.Mathlib.Omega.{arith}
use lib.ListN.{length-append}
use Rattle.stream.specs.Text.{answer_name, slot_name, printed_line}
use Rattle.printing.proofs.Texts.{length_line}
use Rattle.printing.proofs.Sheets.{put_nothing, put_both}
use Rattle.printing.proofs.Sheet.put_said.Goals as goal

pub returns-in-Nothing : goal.returns-in-Nothing
returns-in-Nothing c = rw c.in-Nothing.is (put_nothing _)

pub returns-in-Moved : goal.returns-in-Moved
returns-in-Moved c = rw c.in-Moved.is (put_both (omega (arith, length_line)) c.put_line.ensures c.put_line-in-Moved.ensures)

pub returns-in-Owner : goal.returns-in-Owner
returns-in-Owner c =
    let both = length-append (printed_line answer_name c.in-Owner.answer) (printed_line slot_name c.in-Owner.slot) in
    rw c.in-Owner.is (put_both (omega (arith, length_line)) (put_both (omega (arith, length_line)) c.put_line-in-Owner.ensures c.put_line-in-Owner-2.ensures) c.put_line-in-Owner-3.ensures)

pub returns-in-Wrong : goal.returns-in-Wrong
returns-in-Wrong c = rw c.in-Wrong.is (put_both (omega (arith, length_line)) c.put_line-in-Wrong.ensures c.put_line-in-Wrong-2.ensures)
