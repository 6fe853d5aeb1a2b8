-- Every key is served: the slot of a key is in the table, and in a table that belongs every owner is on the roster.
-- Assumes nothing.
use mathlib.Core.Path.{◌≡◌, refl, sym, subst}
use mathlib.Core.Bool.{true, false}
use Prim.Native.Nat.{◌<◌}
use native.Mathlib.Nat.{mod-lt}
use native.Mathlib.Omega.{arith}
use lib.Dec.{leb, eqb}
use lib.ListN.{length}
use borrow.Author.Tests.{eq-eqb, ne_eqb, le-ltb, leb-true, eqb-true}
use Rattle.base.specs.Rows.{lowest}
use Rattle.base.specs.Tables.{at}
use Rattle.base.proofs.Tests.{by_test, never, and_left}
use Rattle.roster.specs.Roster.{hosts_of, is_on}
use Rattle.table.specs.Table.{no_hosts}
use Rattle.table.proofs.Owners.{owners_some, belongs_exact}
use Rattle.table.proofs.Moves.{zero_off}
use Rattle.find.specs.Hash.{slot_of}
use Rattle.find.specs.Reply.{answer_of, found}
use Rattle.events.proofs.Histories.{reached_right}
use Rattle.every_key.specs.EveryKey.{EveryKeyServed}

pub every_key_served : EveryKeyServed
unfolding found answer_of lowest
every_key_served S fits r slots h some key short =
    let w = reached_right fits h in
    let v = w.sized.valid_roster in
    let long = w.sized.that_long in
    let count : 0 < S = leb-true 1 S (and_left (leb 1 S) _ fits) in
    let i = slot_of key S in
    let l : i < length slots = subst (λ n. i < n) (sym long) (mod-lt _ count) in
    let hosts : no_hosts r ≡ false = ne_eqb r.count 0 (λ z. omega arith) in
    let on : is_on (hosts_of r) (at slots i) ≡ true = subst (λ o. is_on o (at slots i) ≡ true) (owners_some r hosts) ((belongs_exact r v S slots long w.belonging).known i l) in
    let owned : eqb (at slots i) 0 ≡ false = by_test (eqb (at slots i) 0) (λ t. never _ (subst (λ o. is_on (hosts_of r) o ≡ true) (eqb-true _ _ t) on) (zero_off r v)) (λ f. f) in
    rw (fits, eq-eqb _ _ long, le-ltb _ _ short, owned) (refl, on)
