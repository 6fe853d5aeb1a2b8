-- The laws that `find` promises, each by its proof.
use Rattle.find.proofs.Hashing.{hash_is_word, hash_grows}
use Rattle.find.proofs.Replies.{rows-rise, found_is_owner, refused_is_nothing, find_fixed, view_fixed, find_in_fixed}
use Rattle.find.proofs.promises.Goals as goal

pub returns : goal.returns
returns c =
    record {
      hashed = (hash_is_word, hash_grows);
      owned = (rows-rise, found_is_owner, refused_is_nothing);
      fixed = (find_fixed, view_fixed, find_in_fixed);
    }
