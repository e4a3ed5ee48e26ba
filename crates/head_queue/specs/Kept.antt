-- What is kept of the requests that stand in a chain by place.
use Rattle.std.specs.Prelude.{◌≡◌, ℕ, ◌<◌, ◌≤◌, List, [], ◌∷◌, ◌++◌, map, length, Option, None, IsSome, ◌⊎◌}
use Rattle.std.specs.List.{AllByRecursion}
use Rattle.head_queue.specs.declared.entries.QueueEntry.{QueueEntry}
use Rattle.head_queue.specs.Waiting.{Waiting}
use Rattle.head_queue.specs.Cuts.{first_of, Misses, Differ, IsCut}
use Rattle.head_queue.specs.Entries.{entry_at, waiting_at}
use Rattle.head_queue.specs.Ranks.{rank, IsFit, Rising}

-- requests in their order, with numbers that fit
pub record AreOrdered (ws : List Waiting) : Type 0 where
  pub rising : Rising ws
  pub fit : AllByRecursion IsFit ws

-- Under the numbers of the chain something waits, and under no other. They stand in their order.
pub record AreKept (entries : List (Option QueueEntry)) (members : List ℕ) (size : ℕ) : Type 0 where
  pub wide : length entries ≡ size
  pub differ : Differ (0 ∷ members)
  pub filled : AllByRecursion (λ k. IsSome (entry_at entries k)) members
  pub empty : (k : ℕ) → Misses k members → entry_at entries k ≡ None
  pub ordered : AreOrdered (map (waiting_at entries) members)

-- it is the first that doesn't stand before a rank
pub record IsFirst (ws : List Waiting) (m : ℕ) (w : Waiting) : Type 0 where
  pub front : List Waiting
  pub behind : List Waiting
  pub parts : ws ≡ front ++ w ∷ behind
  pub below : AllByRecursion (λ v. rank v < m) front
  pub upto : m ≤ rank w

-- something waits under the number, and stands before a rank
pub record Leads (entries : List (Option QueueEntry)) (m : ℕ) (k : ℕ) : Type 0 where
  pub there : IsSome (entry_at entries k)
  pub below : rank (waiting_at entries k) < m

-- a walk to a rank may start here
abbrev pub Starts : List (Option QueueEntry) → ℕ → ℕ → Type 0
Starts entries m k = (k ≡ 0) ⊎ Leads entries m k

-- a walk along the chain stands here: all so far stand before a rank
pub record IsPassed (entries : List (Option QueueEntry)) (m : ℕ) (members : List ℕ) (at : ℕ) : Type 0 where
  pub cut : IsCut members at
  pub below : AllByRecursion (λ k. rank (waiting_at entries k) < m) cut.front

-- nothing behind stands first before a rank
abbrev pub IsNoneBefore : List (Option QueueEntry) → ℕ → List ℕ → Type 0
IsNoneBefore entries m [] = Unit {0}
IsNoneBefore entries m (k ∷ ks) = m ≤ rank (waiting_at entries k)

-- and this is the number that follows
pub record IsWalking (entries : List (Option QueueEntry)) (m : ℕ) (members : List ℕ) (at next : ℕ) : Type 0 where
  pub passed : IsPassed entries m members at
  pub next_is : next ≡ first_of 0 passed.cut.behind

-- the walk ends here
pub record IsWalked (entries : List (Option QueueEntry)) (m : ℕ) (members : List ℕ) (at : ℕ) : Type 0 where
  pub passed : IsPassed entries m members at
  pub ends : IsNoneBefore entries m passed.cut.behind
