-- How slots move (document 01, Layout and events, sentences 10 to 12), on plain lists: hosts in rising number, their quotas, and a table of owners.
-- Assumes nothing.
use Rattle.std.specs.Prelude.{Bool, not, cond, List, [], ◌∷◌, ◌++◌, ℕ, ◌-◌, leb, eqb, length, replicate}
use Rattle.base.specs.Tables.{count, table, at}
use Rattle.roster.specs.Roster.{is_on, place}

-- how many of the first n slots a host holds
abbrev pub held_below : List ℕ → ℕ → ℕ → ℕ
held_below slots n host = count n (λ i. eqb (at slots i) host)

-- how many slots a host holds
abbrev pub held : List ℕ → ℕ → ℕ
held slots host = held_below slots (length slots) host

-- the quota of an owner, 0 for one that is not among the hosts
unfoldable pub quota_of : List ℕ → List ℕ → ℕ → ℕ
quota_of hosts quotas owner = cond (is_on hosts owner) (at quotas (place hosts owner)) 0

-- sentence 10: a slot is given up where its owner holds as many lower ones as its quota; an owner that is not among the hosts gives up all
abbrev pub freed : List ℕ → List ℕ → List ℕ → ℕ → Bool
freed hosts quotas slots i = leb (quota_of hosts quotas (at slots i)) (held_below slots i (at slots i))

-- how many slots below n are given up
abbrev pub freed_below : List ℕ → List ℕ → List ℕ → ℕ → ℕ
freed_below hosts quotas slots n = count n (freed hosts quotas slots)

-- how many slots the host at place j lacks
abbrev pub lack : List ℕ → List ℕ → List ℕ → ℕ → ℕ
lack hosts quotas slots j = at quotas j - held slots (at hosts j)

-- each host as often as a list says, in the hosts' order
unfoldable pub runs : List ℕ → List ℕ → List ℕ
runs [] times = []
runs (h ∷ hosts) [] = []
runs (h ∷ hosts) (n ∷ times) = replicate n h ++ runs hosts times

-- what the hosts lack, in their order
abbrev pub lacks : List ℕ → List ℕ → List ℕ → List ℕ
lacks hosts quotas slots = table (length hosts) (lack hosts quotas slots)

-- sentence 11: who receives, in rising host number, each as often as it lacks
abbrev pub receivers : List ℕ → List ℕ → List ℕ → List ℕ
receivers hosts quotas slots = runs hosts (lacks hosts quotas slots)

-- sentence 11: a slot given up goes to the receiver whose turn it is, the freed slots being taken in rising order; any other stays
abbrev pub new_owner : List ℕ → List ℕ → List ℕ → ℕ → ℕ
new_owner hosts quotas slots i =
    cond (freed hosts quotas slots i) (at (receivers hosts quotas slots) (freed_below hosts quotas slots i)) (at slots i)

-- the table after the move
abbrev pub moved : List ℕ → List ℕ → List ℕ → List ℕ
moved hosts quotas slots = table (length slots) (new_owner hosts quotas slots)

-- how many slots differ between two tables of the same length
abbrev pub changes : List ℕ → List ℕ → ℕ
changes before after = count (length before) (λ i. not (eqb (at before i) (at after i)))
