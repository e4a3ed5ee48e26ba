-- What is kept after a request is put in or taken out.
use Rattle.std.proofs.Common.{◌≡◌, ◌≢◌, ℕ, zero, suc, ◌+◌, ◌*◌, ◌^◌, ◌<◌, ◌≤◌, Bool, true, false, cond, nat_eq, List, [], ◌∷◌, ◌++◌, length, get_or, map, Option, Some, None, IsSome, refl, ap, sym, subst, ◌∙◌, arith, inl, inr, ◌⊎◌}
use Rattle.std.proofs.lemmas.Bool.{eq-eqb, eqb-true}
use Rattle.std.specs.List.{AllByRecursion}
use Rattle.head_queue.specs.declared.entries.QueueEntry.{QueueEntry}
use Rattle.head_queue.specs.Cuts.{Misses, Differ, IsCut, IsMember}
use Rattle.head_queue.specs.Waiting.{Waiting}
use Rattle.head_queue.specs.Orders.{IsIn, HasNode}
use Rattle.head_queue.specs.Entries.{entry_at, waiting, waiting_at}
use Rattle.head_queue.specs.Ranks.{rank, rank_of, Rising, IsFit, part_number}
use Rattle.head_queue.specs.Kept.{AreKept, IsWalked, IsNoneBefore}
use Rattle.head_queue.proofs.PathLemmas.{misses_front, misses_behind, misses_both, misses_here, differ_more, differ_less}
use Rattle.head_queue.proofs.RingLemmas.{all_front, all_behind, all_both}
use Rattle.head_queue.proofs.WalkLemmas.{find, some_none}

-- ---- lists

-- what is made of two lists together is made of each of them
pub map_both : (f : ℕ → Waiting) (xs ys : List ℕ) → map f (xs ++ ys) ≡ map f xs ++ map f ys
map_both f [] ys = refl
map_both f (x ∷ xs) ys = ap (λ (ws : List Waiting). f x ∷ ws) (map_both f xs ys)

-- the numbers of two lists of requests are those of the one and then of the other
pub nodes_both : (xs ys : List Waiting) → map (λ (w : Waiting). w.node) (xs ++ ys) ≡ map (λ (w : Waiting). w.node) xs ++ map (λ (w : Waiting). w.node) ys
nodes_both [] ys = refl
nodes_both (x ∷ xs) ys = ap (λ (ks : List ℕ). x.node ∷ ks) (nodes_both xs ys)

-- the requests under some numbers have just these numbers
pub nodes_are : (es : List (Option QueueEntry)) (ks : List ℕ) → map (λ (w : Waiting). w.node) (map (waiting_at es) ks) ≡ ks
nodes_are es [] = refl
nodes_are es (k ∷ ks) = ap (λ (ns : List ℕ). k ∷ ns) (nodes_are es ks)

-- what holds of all requests holds of those in front
pub w_front : (P : Waiting → Type 0) (xs ys : List Waiting) → AllByRecursion P (xs ++ ys) → AllByRecursion P xs
w_front P [] ys h = tt
w_front P (x ∷ xs) ys h = (h.0, w_front P xs ys h.1)

-- what holds of all requests holds of those behind
pub w_behind : (P : Waiting → Type 0) (xs ys : List Waiting) → AllByRecursion P (xs ++ ys) → AllByRecursion P ys
w_behind P [] ys h = h
w_behind P (x ∷ xs) ys h = w_behind P xs ys h.1

-- what holds of the requests in front and of those behind holds of all
pub w_both : (P : Waiting → Type 0) (xs ys : List Waiting) → AllByRecursion P xs → AllByRecursion P ys → AllByRecursion P (xs ++ ys)
w_both P [] ys h g = g
w_both P (x ∷ xs) ys h g = (h.0, w_both P xs ys h.1 g)

-- what holds of what stands under each number holds of all that stands there
pub w_map : (P : Waiting → Type 0) (f : ℕ → Waiting) (ks : List ℕ) → AllByRecursion (λ k. P (f k)) ks → AllByRecursion P (map f ks)
w_map P f [] h = tt
w_map P f (k ∷ ks) h = (h.0, w_map P f ks h.1)

-- ---- orders

rising_front : (xs ys : List Waiting) → Rising (xs ++ ys) → Rising xs
rising_front [] ys h = tt
rising_front (x ∷ xs) ys h = (w_front (λ v. rank x < rank v) xs ys h.0, rising_front xs ys h.1)

-- behind a cut the requests still stand in their order
pub rising_behind : (xs ys : List Waiting) → Rising (xs ++ ys) → Rising ys
rising_behind [] ys h = h
rising_behind (x ∷ xs) ys h = rising_behind xs ys h.1

rising_less : (xs ys : List Waiting) (w : Waiting) → Rising (xs ++ w ∷ ys) → Rising (xs ++ ys)
rising_less [] ys w h = h.1
rising_less (x ∷ xs) ys w h =
    (w_both (λ v. rank x < rank v) xs ys (w_front (λ v. rank x < rank v) xs (w ∷ ys) h.0) (w_behind (λ v. rank x < rank v) xs (w ∷ ys) h.0).1, rising_less xs ys w h.1)

rising_more : (xs ys : List Waiting) (w : Waiting) → Rising (xs ++ ys) → AllByRecursion (λ v. rank v < rank w) xs → AllByRecursion (λ v. rank w < rank v) ys → Rising (xs ++ w ∷ ys)
rising_more [] ys w h below above = (above, h)
rising_more (x ∷ xs) ys w h below above =
    (w_both (λ v. rank x < rank v) xs (w ∷ ys) (w_front (λ v. rank x < rank v) xs ys h.0) (below.0, w_behind (λ v. rank x < rank v) xs ys h.0), rising_more xs ys w h.1 below.1 above)

-- what is at an equal rank or past it, and came earlier, stands past it
past : (x y a b m n : ℕ) → m ≡ x * 2 ^ 64 + a → n ≡ y * 2 ^ 64 + b → a < 2 ^ 64 → b < 2 ^ 64 → b < a → m ≤ n → m < n
past x y a b m n e f ha hb lt le = omega arith

-- requests that came one after the other don't have the same rank
pub later : (v : Waiting) (w : Waiting) → IsFit v → IsFit w → v.arrival < w.arrival → rank w ≤ rank v → rank w < rank v
later v w fv fw lt le = past (part_number w.place.part * 2 ^ 64 + w.place.pos) (part_number v.place.part * 2 ^ 64 + v.place.pos) w.arrival v.arrival (rank w) (rank v) refl refl fw.arrival fv.arrival lt le

-- all that follow the first one past a rank are past it
above : (es : List (Option QueueEntry)) (w : Waiting) (ks : List ℕ) → IsFit w → AllByRecursion IsFit (map (waiting_at es) ks) → AllByRecursion (λ v. v.arrival < w.arrival) (map (waiting_at es) ks)
    → Rising (map (waiting_at es) ks) → IsNoneBefore es (rank w) ks → AllByRecursion (λ v. rank w < rank v) (map (waiting_at es) ks)
above es w [] fw fit late rising h = tt
above es w (k ∷ ks) fw fit late rising h =
    let here : rank w < rank (waiting_at es k) = later (waiting_at es k) w fit.0 fw late.0 h in
    (here, on (map (waiting_at es) ks) here rising.0)
  where
    on : (vs : List Waiting) → rank w < rank (waiting_at es k) → AllByRecursion (λ v. rank (waiting_at es k) < rank v) vs → AllByRecursion (λ v. rank w < rank v) vs
    on [] here g = tt
    on (v ∷ vs) here g = (let l : rank (waiting_at es k) < rank v = g.0 in omega arith, on vs here g.1)

-- ---- entries that change at one number

-- at n the one has e, and all else is alike
abbrev pub Changed : List (Option QueueEntry) → List (Option QueueEntry) → ℕ → Option QueueEntry → Type 0
Changed es fs n e = (k : ℕ) → entry_at fs k ≡ cond (nat_eq k n) e (entry_at es k)

changed_here : (es fs : List (Option QueueEntry)) (n : ℕ) (e : Option QueueEntry) → Changed es fs n e → entry_at fs n ≡ e
changed_here es fs n e h = h n ∙ ap (λ (b : Bool). cond b e (entry_at es n)) (eq-eqb n n refl)

changed_not : (es fs : List (Option QueueEntry)) (n : ℕ) (e : Option QueueEntry) → Changed es fs n e → (k : ℕ) → k ≢ n → entry_at fs k ≡ entry_at es k
changed_not es fs n e h k ne = h k ∙ elim (nat_eq k n) as (λ b. nat_eq k n ≡ b → cond b e (entry_at es k) ≡ entry_at es k) [
  | true ↦ λ same. absurd (ne (eqb-true k n same))
  | false ↦ λ other. refl
] refl

same_map : (es fs : List (Option QueueEntry)) (n : ℕ) (e : Option QueueEntry) → Changed es fs n e → (ks : List ℕ) → Misses n ks → map (waiting_at fs) ks ≡ map (waiting_at es) ks
same_map es fs n e h [] m = refl
same_map es fs n e h (k ∷ ks) m =
    ap (λ (o : Option QueueEntry). waiting k o ∷ map (waiting_at fs) ks) (changed_not es fs n e h k (λ q. m.0 (sym q)))
    ∙ ap (λ (ws : List Waiting). waiting_at es k ∷ ws) (same_map es fs n e h ks m.1)

same_filled : (es fs : List (Option QueueEntry)) (n : ℕ) (e : Option QueueEntry) → Changed es fs n e → (ks : List ℕ) → Misses n ks → AllByRecursion (λ k. IsSome (entry_at es k)) ks → AllByRecursion (λ k. IsSome (entry_at fs k)) ks
same_filled es fs n e h [] m g = tt
same_filled es fs n e h (k ∷ ks) m g = (subst IsSome (sym (changed_not es fs n e h k (λ q. m.0 (sym q)))) g.0, same_filled es fs n e h ks m.1 g.1)

-- what the order is after a request was put in
pub order_more : (es fs : List (Option QueueEntry)) (n : ℕ) (e : Option QueueEntry) (members : List ℕ) (at : ℕ) → Changed es fs n e → (c : IsCut members at) → Misses n members
    → map (waiting_at fs) (c.front ++ n ∷ c.behind) ≡ map (waiting_at es) c.front ++ waiting n e ∷ map (waiting_at es) c.behind
order_more es fs n e members at h c m =
    let misses : Misses n (c.front ++ c.behind) = subst (Misses n) c.parts m in
    map_both (waiting_at fs) c.front (n ∷ c.behind)
    ∙ ap (λ (ws : List Waiting). ws ++ waiting_at fs n ∷ map (waiting_at fs) c.behind) (same_map es fs n e h c.front (misses_front n c.front c.behind misses))
    ∙ ap (λ (ws : List Waiting). map (waiting_at es) c.front ++ waiting_at fs n ∷ ws) (same_map es fs n e h c.behind (misses_behind n c.front c.behind misses))
    ∙ ap (λ (o : Option QueueEntry). map (waiting_at es) c.front ++ waiting n o ∷ map (waiting_at es) c.behind) (changed_here es fs n e h)

-- a request put in where the walk to its rank ends leaves the chain in order
pub kept_more : (es fs : List (Option QueueEntry)) (n : ℕ) (e : QueueEntry) (members : List ℕ) (size at : ℕ) → AreKept es members size → Changed es fs n (Some e)
    → (w : IsWalked es (rank_of e.place e.arrival) members at) → Misses n (0 ∷ members) → IsFit (waiting n (Some e))
    → AllByRecursion (λ v. v.arrival < e.arrival) (map (waiting_at es) members) → length fs ≡ size
    → AreKept fs (w.passed.cut.front ++ n ∷ w.passed.cut.behind) size
kept_more es fs n e members size at kept h w m fit late wide =
    let parts = w.passed.cut.parts in
    let front = w.passed.cut.front in
    let behind = w.passed.cut.behind in
    let differ : Differ (0 ∷ (front ++ behind)) = subst (λ (ns : List ℕ). Differ (0 ∷ ns)) parts kept.differ in
    let misses : Misses n (0 ∷ (front ++ behind)) = subst (λ (ns : List ℕ). Misses n (0 ∷ ns)) parts m in
    let filled : AllByRecursion (λ k. IsSome (entry_at es k)) (front ++ behind) = subst (AllByRecursion (λ k. IsSome (entry_at es k))) parts kept.filled in
    let both : map (waiting_at es) members ≡ map (waiting_at es) front ++ map (waiting_at es) behind = ap (map (waiting_at es)) parts ∙ map_both (waiting_at es) front behind in
    let rising : Rising (map (waiting_at es) front ++ map (waiting_at es) behind) = subst Rising both kept.ordered.rising in
    let fits : AllByRecursion IsFit (map (waiting_at es) front ++ map (waiting_at es) behind) = subst (AllByRecursion IsFit) both kept.ordered.fit in
    let lates : AllByRecursion (λ v. v.arrival < e.arrival) (map (waiting_at es) front ++ map (waiting_at es) behind) = subst (AllByRecursion (λ (v : Waiting). v.arrival < e.arrival)) both late in
    let now = order_more es fs n (Some e) members at h w.passed.cut m.1 in
    record {
      wide = wide;
      differ = differ_more (0 ∷ front) behind n misses differ;
      filled = all_both (λ k. IsSome (entry_at fs k)) front (n ∷ behind)
          (same_filled es fs n (Some e) h front (misses_front n front behind misses.1) (all_front (λ k. IsSome (entry_at es k)) front behind filled))
          (subst IsSome (sym (changed_here es fs n (Some e) h)) refl, same_filled es fs n (Some e) h behind (misses_behind n front behind misses.1) (all_behind (λ k. IsSome (entry_at es k)) front behind filled));
      empty = λ k misses_k. changed_not es fs n (Some e) h k (misses_behind k front (n ∷ behind) misses_k).0
          ∙ kept.empty k (subst (Misses k) (sym parts) (misses_both k front behind (misses_front k front (n ∷ behind) misses_k) (misses_behind k front (n ∷ behind) misses_k).1));
      ordered = record {
        rising = subst Rising (sym now) (rising_more (map (waiting_at es) front) (map (waiting_at es) behind) (waiting n (Some e)) rising
            (w_map (λ v. rank v < rank_of e.place e.arrival) (waiting_at es) front w.passed.below)
            (above es (waiting n (Some e)) behind fit (w_behind IsFit (map (waiting_at es) front) (map (waiting_at es) behind) fits)
            (w_behind (λ v. v.arrival < e.arrival) (map (waiting_at es) front) (map (waiting_at es) behind) lates) (rising_behind (map (waiting_at es) front) (map (waiting_at es) behind) rising) w.ends));
        fit = subst (AllByRecursion IsFit) (sym now) (w_both IsFit (map (waiting_at es) front) (waiting n (Some e) ∷ map (waiting_at es) behind)
            (w_front IsFit (map (waiting_at es) front) (map (waiting_at es) behind) fits) (fit, w_behind IsFit (map (waiting_at es) front) (map (waiting_at es) behind) fits));
      };
    }

-- what the order is after a request was taken out
order_less : (es fs : List (Option QueueEntry)) (n : ℕ) (members : List ℕ) → Differ members → Changed es fs n None → (w : IsMember members n)
    → map (waiting_at fs) (w.front ++ w.behind) ≡ map (waiting_at es) w.front ++ map (waiting_at es) w.behind
order_less es fs n members d h w =
    same_map es fs n None h (w.front ++ w.behind) (misses_here w.front w.behind n (subst Differ w.parts d)) ∙ map_both (waiting_at es) w.front w.behind

-- a request taken out leaves the chain in order
pub kept_less : (es fs : List (Option QueueEntry)) (n : ℕ) (members : List ℕ) (size : ℕ) → AreKept es members size → Changed es fs n None → (w : IsMember members n) → length fs ≡ size
    → AreKept fs (w.front ++ w.behind) size
kept_less es fs n members size kept h w wide =
    let differ : Differ (0 ∷ (w.front ++ n ∷ w.behind)) = subst (λ (ns : List ℕ). Differ (0 ∷ ns)) w.parts kept.differ in
    let misses : Misses n (w.front ++ w.behind) = misses_here w.front w.behind n differ.1 in
    let filled : AllByRecursion (λ k. IsSome (entry_at es k)) (w.front ++ n ∷ w.behind) = subst (AllByRecursion (λ k. IsSome (entry_at es k))) w.parts kept.filled in
    let both : map (waiting_at es) members ≡ map (waiting_at es) w.front ++ waiting_at es n ∷ map (waiting_at es) w.behind = ap (map (waiting_at es)) w.parts ∙ map_both (waiting_at es) w.front (n ∷ w.behind) in
    let now = order_less es fs n members kept.differ.1 h w in
    record {
      wide = wide;
      differ = differ_less (0 ∷ w.front) w.behind n differ;
      filled = same_filled es fs n None h (w.front ++ w.behind) misses
          (all_both (λ k. IsSome (entry_at es k)) w.front w.behind (all_front (λ k. IsSome (entry_at es k)) w.front (n ∷ w.behind) filled) (all_behind (λ k. IsSome (entry_at es k)) w.front (n ∷ w.behind) filled).1);
      empty = λ k misses_k. elim (nat_eq k n) as (λ b. nat_eq k n ≡ b → entry_at fs k ≡ None) [
        | true ↦ λ same. ap (entry_at fs) (eqb-true k n same) ∙ changed_here es fs n None h
        | false ↦ λ other. let ne : k ≢ n = (λ e. let t : nat_eq k n ≡ true = eq-eqb k n e in cc) in
            changed_not es fs n None h k ne ∙ kept.empty k (subst (Misses k) (sym w.parts) (misses_both k w.front (n ∷ w.behind) (misses_front k w.front w.behind misses_k) (ne, misses_behind k w.front w.behind misses_k)))
      ] refl;
      ordered = record {
        rising = subst Rising (sym now) (rising_less (map (waiting_at es) w.front) (map (waiting_at es) w.behind) (waiting_at es n) (subst Rising both kept.ordered.rising));
        fit = let fits : AllByRecursion IsFit (map (waiting_at es) w.front ++ waiting_at es n ∷ map (waiting_at es) w.behind) = subst (AllByRecursion IsFit) both kept.ordered.fit in
            subst (AllByRecursion IsFit) (sym now) (w_both IsFit (map (waiting_at es) w.front) (map (waiting_at es) w.behind)
            (w_front IsFit (map (waiting_at es) w.front) (waiting_at es n ∷ map (waiting_at es) w.behind) fits) (w_behind IsFit (map (waiting_at es) w.front) (waiting_at es n ∷ map (waiting_at es) w.behind) fits).1);
      };
    }

-- ---- from the requests to their numbers

-- a number with a request is one of the chain
abbrev pub member_of : (es : List (Option QueueEntry)) (members : List ℕ) (n : ℕ) → (h : HasNode (map (waiting_at es) members) n) → IsMember members n
member_of es members n h = record {
  front = map (λ (w : Waiting). w.node) h.front;
  behind = map (λ (w : Waiting). w.node) h.behind;
  parts = sym (nodes_are es members) ∙ ap (map (λ (w : Waiting). w.node)) h.parts ∙ nodes_both h.front (h.here ∷ h.behind)
      ∙ ap (λ (k : ℕ). map (λ (w : Waiting). w.node) h.front ++ k ∷ map (λ (w : Waiting). w.node) h.behind) h.node;
}

told : (es : List (Option QueueEntry)) (ks : List ℕ) → AllByRecursion (λ w. waiting_at es w.node ≡ w) (map (waiting_at es) ks)
told es [] = tt
told es (k ∷ ks) = (refl, told es ks)

again : (es : List (Option QueueEntry)) (ws : List Waiting) → AllByRecursion (λ w. waiting_at es w.node ≡ w) ws → map (waiting_at es) (map (λ (w : Waiting). w.node) ws) ≡ ws
again es [] h = refl
again es (w ∷ ws) h = ap (λ (v : Waiting). v ∷ map (waiting_at es) (map (λ (w : Waiting). w.node) ws)) h.0 ∙ ap (λ (vs : List Waiting). w ∷ vs) (again es ws h.1)

-- what is left of the requests is what stood before and behind
pub order_left : (es fs : List (Option QueueEntry)) (n : ℕ) (members : List ℕ) → Differ members → Changed es fs n None → (h : HasNode (map (waiting_at es) members) n)
    → map (waiting_at fs) ((member_of es members n h).front ++ (member_of es members n h).behind) ≡ h.front ++ h.behind
order_left es fs n members d g h =
    let each : AllByRecursion (λ w. waiting_at es w.node ≡ w) (h.front ++ h.here ∷ h.behind) = subst (AllByRecursion (λ (w : Waiting). waiting_at es w.node ≡ w)) h.parts (told es members) in
    order_less es fs n members d g (member_of es members n h)
    ∙ ap (λ (ws : List Waiting). ws ++ map (waiting_at es) (map (λ (w : Waiting). w.node) h.behind)) (again es h.front (w_front (λ w. waiting_at es w.node ≡ w) h.front (h.here ∷ h.behind) each))
    ∙ ap (λ (ws : List Waiting). h.front ++ ws) (again es h.behind (w_behind (λ w. waiting_at es w.node ≡ w) h.front (h.here ∷ h.behind) each).1)

-- no request has this number
pub misses_node : (es : List (Option QueueEntry)) (n : ℕ) (ks : List ℕ) → AllByRecursion (λ w. w.node ≢ n) (map (waiting_at es) ks) → Misses n ks
misses_node es n [] h = tt
misses_node es n (k ∷ ks) h = ((λ e. h.0 (sym e)), misses_node es n ks h.1)

nodes_miss : (es : List (Option QueueEntry)) (n : ℕ) (ks : List ℕ) → Misses n ks → AllByRecursion (λ w. w.node ≢ n) (map (waiting_at es) ks)
nodes_miss es n [] h = tt
nodes_miss es n (k ∷ ks) h = ((λ e. h.0 (sym e)), nodes_miss es n ks h.1)

-- what waits under a number is one of the requests
pub is_in : (es : List (Option QueueEntry)) (members : List ℕ) (size n : ℕ) (e : QueueEntry) → AreKept es members size → entry_at es n ≡ Some e → IsIn (map (waiting_at es) members) (waiting n (Some e))
is_in es members size n e kept is = by (find n members)
  where
    by : Misses n members ⊎ IsMember members n → IsIn (map (waiting_at es) members) (waiting n (Some e))
    by (inl m) = let none : entry_at es n ≡ None = kept.empty n m in absurd (let both : None ≡ Some e = sym none ∙ is in cc)
    by (inr w) = record {
      front = map (waiting_at es) w.front;
      behind = map (waiting_at es) w.behind;
      parts = ap (map (waiting_at es)) w.parts ∙ map_both (waiting_at es) w.front (n ∷ w.behind)
          ∙ ap (λ (o : Option QueueEntry). map (waiting_at es) w.front ++ waiting n o ∷ map (waiting_at es) w.behind) is;
    }

-- a number under which nothing waits is that of no request
pub is_none : (es : List (Option QueueEntry)) (members : List ℕ) (size n : ℕ) → AreKept es members size → entry_at es n ≡ None → AllByRecursion (λ w. w.node ≢ n) (map (waiting_at es) members)
is_none es members size n kept is = nodes_miss es n members (by (find n members))
  where
    by : Misses n members ⊎ IsMember members n → Misses n members
    by (inl m) = m
    by (inr w) = absurd (some_none (entry_at es n) is (all_behind (λ k. IsSome (entry_at es k)) w.front (n ∷ w.behind) (subst (AllByRecursion (λ k. IsSome (entry_at es k))) w.parts kept.filled)).0)

-- a number under which something waits is one of those that there are
within : (es : List (Option QueueEntry)) (k : ℕ) → IsSome (get_or es k None) → k < length es
within [] k h = absurd (some_none None refl h)
within (e ∷ es) zero h = omega arith
within (e ∷ es) (suc k) h = let lt : k < length es = within es k h in omega arith

-- a number of the chain is between 1 and the size
pub member_fits : (es : List (Option QueueEntry)) (members : List ℕ) (size n : ℕ) → AreKept es members size → IsMember members n → (1 ≤ n) × (n ≤ size)
member_fits es members size n kept w = by n (all_behind (λ k. IsSome (entry_at es k)) w.front (n ∷ w.behind) (subst (AllByRecursion (λ k. IsSome (entry_at es k))) w.parts kept.filled)).0
  where
    by : (k : ℕ) → IsSome (entry_at es k) → (1 ≤ k) × (k ≤ size)
    by zero h = absurd (some_none None refl h)
    by (suc k) h = (omega arith, let lt : k < length es = within es k h in let e = kept.wide in omega arith)
