-- Histories of a small volume with one file, on which the definitions are tried.
use Rattle.std.specs.Prelude.{ℕ, ◌==◌, if◌then◌else◌, Bool, List, [], ◌∷◌, replicate, codes, Some}
use Rattle.std.specs.FinMap as fin
use Rattle.tape_types.specs.declared.moments.Moment.{Moment}
use Rattle.plain_tree.specs.Tree.{Tree, new_node}
use Rattle.plain_tree.specs.declared.nodes.Kind.TheVariants as kinds
use Rattle.plain_tree.specs.declared.calls.LockState.{LockState}
use Rattle.plain_tree.specs.declared.calls.LockState.TheVariants as locks
use Rattle.plain_tree.specs.declared.calls.Call.{Call}
use Rattle.plain_tree.specs.declared.calls.Call.TheVariants.{Write, Truncate, Setx}
use Rattle.plain_tree.specs.declared.calls.Fate.{Fate}
use Rattle.plain_tree.specs.declared.calls.Fate.TheVariants as fates
use Rattle.plain_tree.specs.declared.calls.Placed.{Placed}
use Rattle.space_laws.specs.Mount.{MountFacts}
use Rattle.space_laws.specs.Standing.{Given}

-- the path of the one file, and a tree with this file in the root
abbrev pub path : List (List ℕ)
path = codes "a" ∷ []

abbrev pub with_a : Moment → Tree
with_a at = record {
  highest = 2;
  lock = locks.Absent;
  nodes = fin.insert (fin.insert fin.empty [] (new_node kinds.Dir 1 at)) path (new_node (kinds.File []) 2 at);
}

abbrev pub given : Moment → MountFacts → List Call → Given
given at m calls = record {
  calls = λ who. if who == 1 then calls else [];
  tree = with_a at;
  mounted = m;
  limits = record { cap_ip = 64; cap_dp = 64 };
}

-- with this lock state
abbrev pub with_lock : LockState → Given → Given
with_lock state g = record g { tree = record g.tree { lock = state } }

abbrev pub with_blocks : ℕ → MountFacts → MountFacts
with_blocks size m = record m { label = record m.label { block = size } }

-- with a policy that wants files of at most so many bytes
abbrev pub with_policy : ℕ → Bool → MountFacts → MountFacts
with_policy size on m =
    record m { ip_on = on; index = record m.index { policy = Some record { size = size; names = [] } } }

abbrev pub placed : Moment → ℕ → Fate → Placed
placed at nth fate = record { who = 1; nth = nth; at = at; fate = fate }

-- the first calls of the session, all done
abbrev pub done : Moment → List Placed
done at = placed at 0 fates.Done ∷ placed at 1 fates.Done ∷ placed at 2 fates.Done ∷ []

-- three writes that fill the data partition but for its reserve, and one of a byte
abbrev pub filling : List Call
filling =
    Write path 0 (replicate 64 97) ∷ Write path 64 (replicate 64 98) ∷ Write path 128 (replicate 52 99)
    ∷ Write path 180 (100 ∷ []) ∷ []

-- a write, one within it, and a truncation behind the second one's first byte
abbrev pub overwriting : List Call
overwriting = Write path 0 (codes "abcdefghij") ∷ Write path 3 (codes "XY") ∷ Truncate path 4 ∷ []

abbrev pub writing : List Call
writing = Write path 0 (codes "hello") ∷ Write path 5 (codes "world") ∷ Write path 0 [] ∷ []

abbrev pub key : List ℕ
key = codes "key"

-- a key gets its bytes, these again, and others
abbrev pub setting : List Call
setting =
    Setx path key (codes "one") ∷ Setx path key (codes "one") ∷ Setx path key (codes "two") ∷ []
