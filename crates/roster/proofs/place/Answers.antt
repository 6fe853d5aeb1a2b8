-- `roster::place` meets its contract: among rising numbers the point that parts the lower ones is the place.
use borrow.Author.Rules.{rules}
use lib.Dec.{ltb}
use Rattle.std.proofs.lemmas.List.Sorted.{IsPartitionPoint-from_clause}
use Rattle.roster.proofs.Search.{lower_part, place_parts}
use Rattle.roster.proofs.place.Goals as goal

pub returns-clause-sorted : goal.returns-clause-sorted
returns-clause-sorted c = λ rises.
    let host = c.args.host in
    place_parts _ rises host _ c.partition_point.ensures.bound
    (IsPartitionPoint-from_clause (λ y. ltb y host) _ _ c.partition_point.ensures.partitioned (lower_part _ rises host) (λ a r f k. search rules))
