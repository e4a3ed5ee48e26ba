-- The least of the keys of an op and of the requests.
use Rattle.std.proofs.Common.{◌≡◌, ◌≢◌, ℕ, ◌+◌, ◌<◌, Bool, true, false, not, nat_lt, nat_le, ◌&&◌, List, [], ◌∷◌, map, Option, Some, None, IfSome, refl, ap, sym, ◌∙◌, arith, inl, inr, ◌⊎◌}
use Rattle.std.proofs.lemmas.Bool.Decides.{nat_tests}
use Rattle.std.specs.List.{AllByRecursion, list_all}
use Rattle.tape_types.specs.declared.cartridges.Part.{Part}
use Rattle.tape_types.specs.declared.cartridges.Part.TheVariants.{Ip, Dp}
use Rattle.tape_types.specs.declared.cartridges.Place.{Place}
use Rattle.head_queue.specs.EventLaws.Waiting.{as_number, same_part, key, request_key, is_least}
use Rattle.head_queue.specs.Waiting.{Waiting, request}
use Rattle.head_queue.specs.Keys.{is_upto, key_within, keys_at, stands_in}
use Rattle.head_queue.specs.Orders.{IsIn, HasNode}
use Rattle.head_queue.specs.Queued.{by_arrival}
use Rattle.head_queue.specs.Picks.{IsPicked, IsOpPicked}
use Rattle.head_queue.proofs.RankLemmas.{lesser, alike}
use Rattle.head_queue.proofs.ArrivalLemmas.{sorted_all, sorted_in}

-- ---- keys in order

order : (x y : ℕ) → (x < y) ⊎ ((x ≡ y) ⊎ (y < x))
order x y = grind arith

beyond : (x y : ℕ) (xs ys : List ℕ) → y < x → is_upto (x ∷ xs) (y ∷ ys) ≡ false
beyond x y xs ys lt = grind (arith, nat_tests)

rest_of : (x y : ℕ) (xs ys : List ℕ) → x ≡ y → is_upto (x ∷ xs) (y ∷ ys) ≡ is_upto xs ys
rest_of x y xs ys e = grind (arith, nat_tests)

upto_self : (xs : List ℕ) → is_upto xs xs ≡ true
upto_self [] = refl
upto_self (x ∷ xs) = alike x x xs xs refl (upto_self xs)

-- of two keys in order, the first numbers are less or equal, and then the rest is in order
pub below_or : (x y : ℕ) (xs ys : List ℕ) → is_upto (x ∷ xs) (y ∷ ys) ≡ true → (x < y) ⊎ ((x ≡ y) × (is_upto xs ys ≡ true))
below_or x y xs ys h = by (order x y)
  where
    by : (x < y) ⊎ ((x ≡ y) ⊎ (y < x)) → (x < y) ⊎ ((x ≡ y) × (is_upto xs ys ≡ true))
    by (inl l) = inl l
    by (inr (inl e)) = inr (e, sym (rest_of x y xs ys e) ∙ h)
    by (inr (inr m)) = let f = beyond x y xs ys m in cc

chained : (xs ys zs : List ℕ) → is_upto xs ys ≡ true → is_upto ys zs ≡ true → is_upto xs zs ≡ true
chained [] ys [] h g = refl
chained [] ys (z ∷ zs) h g = refl
chained (x ∷ xs) [] zs h g = cc
chained (x ∷ xs) (y ∷ ys) [] h g = cc
chained (x ∷ xs) (y ∷ ys) (z ∷ zs) h g = by (chained xs ys zs) (below_or x y xs ys h) (below_or y z ys zs g)
  where
    by : (is_upto xs ys ≡ true → is_upto ys zs ≡ true → is_upto xs zs ≡ true) → (x < y) ⊎ ((x ≡ y) × (is_upto xs ys ≡ true)) → (y < z) ⊎ ((y ≡ z) × (is_upto ys zs ≡ true)) → is_upto (x ∷ xs) (z ∷ zs) ≡ true
    by on (inl l) (inl m) = lesser x z xs zs (omega arith)
    by on (inl l) (inr m) = let e : y ≡ z = m.0 in lesser x z xs zs (omega arith)
    by on (inr l) (inl m) = let e : x ≡ y = l.0 in lesser x z xs zs (omega arith)
    by on (inr l) (inr m) = alike x z xs zs (l.0 ∙ m.0) (on l.1 m.1)

turned_round : (xs ys : List ℕ) → is_upto xs ys ≡ false → is_upto ys xs ≡ true
turned_round [] [] h = cc
turned_round [] (y ∷ ys) h = cc
turned_round (x ∷ xs) [] h = refl
turned_round (x ∷ xs) (y ∷ ys) h = by (turned_round xs ys) (order x y)
  where
    by : (is_upto xs ys ≡ false → is_upto ys xs ≡ true) → (x < y) ⊎ ((x ≡ y) ⊎ (y < x)) → is_upto (y ∷ ys) (x ∷ xs) ≡ true
    by on (inl l) = let f = lesser x y xs ys l in cc
    by on (inr (inl e)) = alike y x ys xs (sym e) (on (sym (rest_of x y xs ys e) ∙ h))
    by on (inr (inr m)) = lesser y x ys xs m

-- ---- an op and a request

as_number_less : (b c : Bool) → b ≡ false → c ≡ true → as_number b < as_number c
as_number_less false true e f = omega arith
as_number_less true c e f = cc
as_number_less false false e f = cc

-- on the same partition
first_side : (head : Place) (x y : Place) (a : ℕ) → x.part ≡ y.part → nat_lt x.pos head.pos ≢ nat_lt y.pos head.pos
    → nat_lt y.pos head.pos ≡ is_upto (key head x 0) (key head y (a + 1))
first_side head x y a same ne = by (nat_lt x.pos head.pos) (nat_lt y.pos head.pos) refl refl ne
  where
    kx : Bool → List ℕ
    kx b = as_number b ∷ x.pos ∷ 0 ∷ []

    ky : Bool → List ℕ
    ky b = as_number b ∷ y.pos ∷ (a + 1) ∷ []

    parts : is_upto (key head x 0) (key head y (a + 1)) ≡ is_upto (kx (nat_lt x.pos head.pos)) (ky (nat_lt y.pos head.pos))
    parts = rest_of (as_number (not (same_part x.part head.part))) (as_number (not (same_part y.part head.part))) (kx (nat_lt x.pos head.pos)) (ky (nat_lt y.pos head.pos)) (ap (λ (p : Part). as_number (not (same_part p head.part))) same)

    by : (b c : Bool) → nat_lt x.pos head.pos ≡ b → nat_lt y.pos head.pos ≡ c → b ≢ c → nat_lt y.pos head.pos ≡ is_upto (key head x 0) (key head y (a + 1))
    by true true e f n = absurd (n refl)
    by false false e f n = absurd (n refl)
    by true false e f n = f ∙ sym (beyond 1 0 (x.pos ∷ 0 ∷ []) (y.pos ∷ (a + 1) ∷ []) (omega arith)) ∙ sym (parts ∙ ap (λ (b : Bool). is_upto (kx b) (ky (nat_lt y.pos head.pos))) e ∙ ap (λ (b : Bool). is_upto (kx true) (ky b)) f)
    by false true e f n = f ∙ sym (lesser 0 1 (x.pos ∷ 0 ∷ []) (y.pos ∷ (a + 1) ∷ []) (omega arith)) ∙ sym (parts ∙ ap (λ (b : Bool). is_upto (kx b) (ky (nat_lt y.pos head.pos))) e ∙ ap (λ (b : Bool). is_upto (kx false) (ky b)) f)

first_pos : (head : Place) (x y : Place) (a : ℕ) → x.part ≡ y.part → nat_lt x.pos head.pos ≡ nat_lt y.pos head.pos
    → nat_le x.pos y.pos ≡ is_upto (key head x 0) (key head y (a + 1))
first_pos head x y a same side = sym (
    rest_of (as_number (not (same_part x.part head.part))) (as_number (not (same_part y.part head.part))) (key_within head.pos x.pos 0) (key_within head.pos y.pos (a + 1)) (ap (λ (p : Part). as_number (not (same_part p head.part))) same)
    ∙ rest_of (as_number (nat_lt x.pos head.pos)) (as_number (nat_lt y.pos head.pos)) (x.pos ∷ 0 ∷ []) (y.pos ∷ (a + 1) ∷ []) (ap as_number side)
    ∙ by (order x.pos y.pos))
  where
    by : (x.pos < y.pos) ⊎ ((x.pos ≡ y.pos) ⊎ (y.pos < x.pos)) → is_upto (x.pos ∷ 0 ∷ []) (y.pos ∷ (a + 1) ∷ []) ≡ nat_le x.pos y.pos
    by (inl l) = lesser x.pos y.pos (0 ∷ []) ((a + 1) ∷ []) l ∙ (let t : nat_le x.pos y.pos ≡ true = grind (arith, nat_tests) in sym t)
    by (inr (inl e)) = alike x.pos y.pos (0 ∷ []) ((a + 1) ∷ []) e (lesser 0 (a + 1) [] [] (omega arith)) ∙ (let t : nat_le x.pos y.pos ≡ true = grind (arith, nat_tests) in sym t)
    by (inr (inr m)) = beyond x.pos y.pos (0 ∷ []) ((a + 1) ∷ []) m ∙ (let t : nat_le x.pos y.pos ≡ false = grind (arith, nat_tests) in sym t)

first_part : (head : Place) (x y : Place) (a : ℕ) → x.part ≢ y.part → same_part x.part head.part ≡ is_upto (key head x 0) (key head y (a + 1))
first_part head x y a ne = by head.part x.part y.part ne (key_within head.pos x.pos 0) (key_within head.pos y.pos (a + 1))
  where
    by : (h p q : Part) → p ≢ q → (xs ys : List ℕ) → same_part p h ≡ is_upto (as_number (not (same_part p h)) ∷ xs) (as_number (not (same_part q h)) ∷ ys)
    by Ip Ip Ip n xs ys = absurd (n refl)
    by Ip Ip Dp n xs ys = sym (lesser 0 1 xs ys (omega arith))
    by Ip Dp Ip n xs ys = sym (beyond 1 0 xs ys (omega arith))
    by Ip Dp Dp n xs ys = absurd (n refl)
    by Dp Ip Ip n xs ys = absurd (n refl)
    by Dp Ip Dp n xs ys = sym (beyond 1 0 xs ys (omega arith))
    by Dp Dp Ip n xs ys = sym (lesser 0 1 xs ys (omega arith))
    by Dp Dp Dp n xs ys = absurd (n refl)

-- ---- the least of all

all_keys : (head : Place) (k : List ℕ) (ws : List Waiting) → AllByRecursion (λ w. is_upto k (request_key head (request w)) ≡ true) ws
    → list_all (λ other. is_upto k other) (map (request_key head) (map request ws)) ≡ true
all_keys head k [] h = refl
all_keys head k (w ∷ ws) h = ap (λ (b : Bool). b && list_all (λ other. is_upto k other) (map (request_key head) (map request ws))) h.0 ∙ all_keys head k ws h.1

each_on : (head : Place) (k : List ℕ) (w : Waiting) (ws : List Waiting) → is_upto k (request_key head (request w)) ≡ true → AllByRecursion (λ v. stands_in head w v ≡ true) ws
    → AllByRecursion (λ v. is_upto k (request_key head (request v)) ≡ true) ws
each_on head k w [] h g = tt
each_on head k w (v ∷ vs) h g = (chained k (request_key head (request w)) (request_key head (request v)) h g.0, each_on head k w vs h g.1)

-- the first request, where no op comes before it
pub request_picked : (head : Place) (op : Option Place) (ws : List Waiting) (w : Waiting) → IsIn ws w → AllByRecursion (λ v. stands_in head w v ≡ true) ws
    → IfSome op (λ at. is_upto (key head at 0) (request_key head (request w)) ≡ false)
    → IsPicked head op (by_arrival ws) w.node w.owner w.place
request_picked head op ws w i least far = record {
  arrival = w.arrival;
  waits = sorted_in ws i.front i.behind w i.parts;
  least = by op far;
}
  where
    rest : list_all (λ other. is_upto (request_key head (request w)) other) (map (request_key head) (map request (by_arrival ws))) ≡ true
    rest = all_keys head (request_key head (request w)) (by_arrival ws) (sorted_all (λ v. stands_in head w v ≡ true) ws least)

    by : (op : Option Place) → IfSome op (λ at. is_upto (key head at 0) (request_key head (request w)) ≡ false) → is_least (request_key head (request w)) (keys_at head op (map request (by_arrival ws))) ≡ true
    by None f = rest
    by (Some at) f = ap (λ (b : Bool). b && list_all (λ other. is_upto (request_key head (request w)) other) (map (request_key head) (map request (by_arrival ws)))) (turned_round (key head at 0) (request_key head (request w)) f) ∙ rest

-- the op, where it comes before the first request
op_picked : (head : Place) (op : Option Place) (at : Place) (ws : List Waiting) → op ≡ Some at
    → AllByRecursion (λ v. is_upto (key head at 0) (request_key head (request v)) ≡ true) ws → IsOpPicked head op (by_arrival ws)
op_picked head op at ws is least = record {
  at = at;
  waits = is;
  least = ap (λ (q : Option Place). is_least (key head at 0) (keys_at head q (map request (by_arrival ws)))) is
      ∙ ap (λ (b : Bool). b && list_all (λ other. is_upto (key head at 0) other) (map (request_key head) (map request (by_arrival ws)))) (upto_self (key head at 0))
      ∙ all_keys head (key head at 0) (by_arrival ws) (sorted_all (λ v. is_upto (key head at 0) (request_key head (request v)) ≡ true) ws least);
}

-- where the op comes before the first request, the op is picked
pub op_first : (head : Place) (op : Option Place) (at : Place) (ws : List Waiting) (w : Waiting) → op ≡ Some at → AllByRecursion (λ v. stands_in head w v ≡ true) ws
    → is_upto (key head at 0) (request_key head (request w)) ≡ true → IsOpPicked head op (by_arrival ws)
op_first head op at ws w is least h = op_picked head op at ws is (each_on head (key head at 0) w ws h least)

-- what is picked has a number that can be taken out
has_picked : (head : Place) (op : Option Place) (ws : List Waiting) (node owner : ℕ) (place : Place) → IsPicked head op ws node owner place → HasNode ws node
has_picked head op ws node owner place p = record {
  front = p.waits.front;
  here = record { node = node; owner = owner; place = place; arrival = p.arrival };
  behind = p.waits.behind;
  parts = p.waits.parts;
  node = refl;
}
