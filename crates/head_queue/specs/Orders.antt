-- Requests in an order.
use Rattle.std.specs.Prelude.{◌≡◌, ℕ, List, ◌∷◌, ◌++◌}
use Rattle.head_queue.specs.Waiting.{Waiting}

-- the requests by place and then arrival, how many numbers there are, and for how many more there is room
pub record Order : Type 0 where
  pub order : List Waiting
  pub size : ℕ
  pub spare : ℕ

-- it is one of them
pub record IsIn {X : Type 0} (xs : List X) (x : X) : Type 0 where
  pub front : List X
  pub behind : List X
  pub parts : xs ≡ front ++ x ∷ behind

-- the request with this number is one of them
pub record HasNode (xs : List Waiting) (k : ℕ) : Type 0 where
  pub front : List Waiting
  pub here : Waiting
  pub behind : List Waiting
  pub parts : xs ≡ front ++ here ∷ behind
  pub node : here.node ≡ k

-- x was put in somewhere
pub record IsMore {X : Type 0} (xs : List X) (x : X) (ys : List X) : Type 0 where
  pub front : List X
  pub behind : List X
  pub before : xs ≡ front ++ behind
  pub now : ys ≡ front ++ x ∷ behind

-- the request with this number is an owner's
pub record HasOwner (xs : List Waiting) (o k : ℕ) : Type 0 where
  pub has : HasNode xs k
  pub owner : has.here.owner ≡ o
