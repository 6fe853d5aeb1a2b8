-- `report::report` meets its contract. The loop's invariant: before place i the list holds the hosts' records.
use mathlib.Core.Path.{◌≡◌}
use lib.ListN.{take}
use Rattle.report.specs.Report.{host_record, listed}
use Rattle.report.proofs.report.Given as goal

abbrev pub invariant-loop-i : goal.invariant-loop-i
invariant-loop-i l = take l.i l.out ≡ listed l.i (host_record l.fn.r l.slots)
