-- The requests by arrival: what holds of them, one more that came last, and one less.
use Rattle.std.proofs.Common.{◌≡◌, ◌≢◌, ℕ, suc, ◌<◌, ◌≤◌, Bool, true, false, cond, nat_eq, nat_le, List, [], ◌∷◌, ◌++◌, length, map, refl, ap, sym, subst, ◌∙◌, arith}
use Rattle.std.proofs.lemmas.Bool.{eq-eqb, eqb-true}
use Rattle.std.proofs.lemmas.Bool.Decides.{nat_tests}
use Rattle.std.specs.List.{AllByRecursion}
use Rattle.head_queue.specs.Cuts.{Misses, Differ}
use Rattle.head_queue.specs.Waiting.{Waiting}
use Rattle.head_queue.specs.Orders.{IsIn, HasNode}
use Rattle.head_queue.specs.Queued.{put_in, by_arrival}
use Rattle.head_queue.specs.Ready.{node_of}
use Rattle.head_queue.proofs.PathLemmas.{misses_here}
use Rattle.head_queue.proofs.KeptLemmas.{nodes_both, w_behind}

-- ---- what holds of all

put_all : (P : Waiting → Type 0) (w : Waiting) (vs : List Waiting) → P w → AllByRecursion P vs → AllByRecursion P (put_in w vs)
put_all P w [] hw h = (hw, tt)
put_all P w (v ∷ vs) hw h = by (put_all P w vs hw h.1) (nat_le w.arrival v.arrival)
  where
    by : AllByRecursion P (put_in w vs) → (b : Bool) → AllByRecursion P (cond b (w ∷ v ∷ vs) (v ∷ put_in w vs))
    by on true = (hw, h)
    by on false = (h.0, on)

-- what holds of all requests holds of all of them by arrival
pub sorted_all : (P : Waiting → Type 0) (ws : List Waiting) → AllByRecursion P ws → AllByRecursion P (by_arrival ws)
sorted_all P [] h = tt
sorted_all P (w ∷ ws) h = put_all P w (by_arrival ws) h.0 (sorted_all P ws h.1)

record Both (P : Waiting → Type 0) (w : Waiting) (vs : List Waiting) : Type 0 where
  one : P w
  rest : AllByRecursion P vs

all_put : (P : Waiting → Type 0) (w : Waiting) (vs : List Waiting) → AllByRecursion P (put_in w vs) → Both P w vs
all_put P w [] h = record { one = h.0; rest = tt }
all_put P w (v ∷ vs) h = by (all_put P w vs) (nat_le w.arrival v.arrival) h
  where
    more : P v → Both P w vs → Both P w (v ∷ vs)
    more hv b = record { one = b.one; rest = (hv, b.rest) }

    by : (AllByRecursion P (put_in w vs) → Both P w vs) → (b : Bool) → AllByRecursion P (cond b (w ∷ v ∷ vs) (v ∷ put_in w vs)) → Both P w (v ∷ vs)
    by on true g = record { one = g.0; rest = g.1 }
    by on false g = more g.0 (on g.1)

all_sorted : (P : Waiting → Type 0) (ws : List Waiting) → AllByRecursion P (by_arrival ws) → AllByRecursion P ws
all_sorted P [] h = tt
all_sorted P (w ∷ ws) h = let b = all_put P w (by_arrival ws) h in (b.one, all_sorted P ws b.rest)

put_length : (w : Waiting) (vs : List Waiting) → length (put_in w vs) ≡ suc (length vs)
put_length w [] = refl
put_length w (v ∷ vs) = by (put_length w vs) (nat_le w.arrival v.arrival)
  where
    by : length (put_in w vs) ≡ suc (length vs) → (b : Bool) → length (cond b (w ∷ v ∷ vs) (v ∷ put_in w vs)) ≡ suc (suc (length vs))
    by on true = refl
    by on false = ap (λ (n : ℕ). suc n) on

-- by arrival there are as many requests
pub sorted_length : (ws : List Waiting) → length (by_arrival ws) ≡ length ws
sorted_length [] = refl
sorted_length (w ∷ ws) = put_length w (by_arrival ws) ∙ ap (λ (n : ℕ). suc n) (sorted_length ws)

empty_sorted : (ws : List Waiting) → by_arrival ws ≡ [] → ws ≡ []
empty_sorted [] h = refl
empty_sorted (w ∷ ws) h = let e : suc (length ws) ≡ 0 = sym (sorted_length (w ∷ ws)) ∙ ap length h in absurd (omega arith)

-- ---- one is one of them

in_more : (v w : Waiting) (vs : List Waiting) → IsIn vs w → IsIn (v ∷ vs) w
in_more v w vs h = record { front = v ∷ h.front; behind = h.behind; parts = ap (λ (us : List Waiting). v ∷ us) h.parts }

in_first : (w : Waiting) (vs : List Waiting) → IsIn (w ∷ vs) w
in_first w vs = record { front = []; behind = vs; parts = refl }

put_there : (w : Waiting) (vs : List Waiting) → IsIn (put_in w vs) w
put_there w [] = in_first w []
put_there w (v ∷ vs) = by (put_there w vs) (nat_le w.arrival v.arrival)
  where
    by : IsIn (put_in w vs) w → (b : Bool) → IsIn (cond b (w ∷ v ∷ vs) (v ∷ put_in w vs)) w
    by on true = in_first w (v ∷ vs)
    by on false = in_more v w (put_in w vs) on

put_kept : (w : Waiting) (vs xs ys : List Waiting) (x : Waiting) → vs ≡ xs ++ x ∷ ys → IsIn (put_in w vs) x
put_kept w vs [] ys x e = subst (λ (us : List Waiting). IsIn (put_in w us) x) (sym e) (by (nat_le w.arrival x.arrival))
  where
    by : (b : Bool) → IsIn (cond b (w ∷ x ∷ ys) (x ∷ put_in w ys)) x
    by true = in_more w x (x ∷ ys) (in_first x ys)
    by false = in_first x (put_in w ys)
put_kept w vs (z ∷ zs) ys x e = subst (λ (us : List Waiting). IsIn (put_in w us) x) (sym e) (by (put_kept w (zs ++ x ∷ ys) zs ys x refl) (nat_le w.arrival z.arrival))
  where
    by : IsIn (put_in w (zs ++ x ∷ ys)) x → (b : Bool) → IsIn (cond b (w ∷ z ∷ (zs ++ x ∷ ys)) (z ∷ put_in w (zs ++ x ∷ ys))) x
    by on true = record { front = w ∷ z ∷ zs; behind = ys; parts = refl }
    by on false = in_more z x (put_in w (zs ++ x ∷ ys)) on

-- a request that waits is among those by arrival
pub sorted_in : (ws xs ys : List Waiting) (x : Waiting) → ws ≡ xs ++ x ∷ ys → IsIn (by_arrival ws) x
sorted_in ws [] ys x e = subst (λ (us : List Waiting). IsIn (by_arrival us) x) (sym e) (put_there x (by_arrival ys))
sorted_in ws (z ∷ zs) ys x e = subst (λ (us : List Waiting). IsIn (by_arrival us) x) (sym e) (by (sorted_in (zs ++ x ∷ ys) zs ys x refl))
  where
    by : IsIn (by_arrival (zs ++ x ∷ ys)) x → IsIn (put_in z (by_arrival (zs ++ x ∷ ys))) x
    by h = put_kept z (by_arrival (zs ++ x ∷ ys)) h.front h.behind x h.parts

-- ---- one more that came last

put_last : (x w : Waiting) (vs : List Waiting) → x.arrival < w.arrival → put_in x (vs ++ w ∷ []) ≡ put_in x vs ++ w ∷ []
put_last x w [] lt = let is : nat_le x.arrival w.arrival ≡ true = grind (arith, nat_tests) in ap (λ (b : Bool). cond b (x ∷ w ∷ []) (w ∷ x ∷ [])) is
put_last x w (v ∷ vs) lt = by (put_last x w vs lt) (nat_le x.arrival v.arrival)
  where
    by : put_in x (vs ++ w ∷ []) ≡ put_in x vs ++ w ∷ [] → (b : Bool) → cond b (x ∷ v ∷ (vs ++ w ∷ [])) (v ∷ put_in x (vs ++ w ∷ [])) ≡ cond b (x ∷ v ∷ vs) (v ∷ put_in x vs) ++ w ∷ []
    by on true = refl
    by on false = ap (λ (us : List Waiting). v ∷ us) on

put_end : (w : Waiting) (vs : List Waiting) → AllByRecursion (λ v. v.arrival < w.arrival) vs → put_in w vs ≡ vs ++ w ∷ []
put_end w [] h = refl
put_end w (v ∷ vs) h =
    let is : nat_le w.arrival v.arrival ≡ false = (let lt : v.arrival < w.arrival = h.0 in grind (arith, nat_tests)) in
    ap (λ (b : Bool). cond b (w ∷ v ∷ vs) (v ∷ put_in w vs)) is ∙ ap (λ (us : List Waiting). v ∷ us) (put_end w vs h.1)

-- a request that came last stands last by arrival
pub sorted_more : (w : Waiting) (xs ys : List Waiting) → AllByRecursion (λ v. v.arrival < w.arrival) (xs ++ ys) → by_arrival (xs ++ w ∷ ys) ≡ by_arrival (xs ++ ys) ++ w ∷ []
sorted_more w [] ys h = put_end w (by_arrival ys) (sorted_all (λ v. v.arrival < w.arrival) ys h)
sorted_more w (x ∷ xs) ys h = ap (put_in x) (sorted_more w xs ys h.1) ∙ put_last x w (by_arrival (xs ++ ys)) h.0

-- ---- one less

-- no later one stands in front
abbrev Aged : List Waiting → Type 0
Aged [] = Unit {0}
Aged (w ∷ ws) = AllByRecursion (λ v. w.arrival ≤ v.arrival) ws × Aged ws

weaken : (a b : ℕ) (vs : List Waiting) → a ≤ b → AllByRecursion (λ v. b ≤ v.arrival) vs → AllByRecursion (λ v. a ≤ v.arrival) vs
weaken a b [] le h = tt
weaken a b (v ∷ vs) le h = (let g : b ≤ v.arrival = h.0 in omega arith, weaken a b vs le h.1)

put_aged : (w : Waiting) (vs : List Waiting) → Aged vs → Aged (put_in w vs)
put_aged w [] h = (tt, tt)
put_aged w (v ∷ vs) h = by (put_aged w vs h.1) (nat_le w.arrival v.arrival) refl
  where
    upto : nat_le w.arrival v.arrival ≡ true → w.arrival ≤ v.arrival
    upto e = grind (arith, nat_tests)

    past : nat_le w.arrival v.arrival ≡ false → v.arrival ≤ w.arrival
    past e = grind (arith, nat_tests)

    by : Aged (put_in w vs) → (b : Bool) → nat_le w.arrival v.arrival ≡ b → Aged (cond b (w ∷ v ∷ vs) (v ∷ put_in w vs))
    by on true e = ((upto e, weaken w.arrival v.arrival vs (upto e) h.0), h)
    by on false e = (put_all (λ u. v.arrival ≤ u.arrival) w vs (past e) h.0, on)

sorted_aged : (ws : List Waiting) → Aged (by_arrival ws)
sorted_aged [] = tt
sorted_aged (w ∷ ws) = put_aged w (by_arrival ws) (sorted_aged ws)

abbrev without : ℕ → List Waiting → List Waiting
without n [] = []
without n (w ∷ ws) = cond (nat_eq w.node n) (without n ws) (w ∷ without n ws)

without_all : (P : Waiting → Type 0) (n : ℕ) (ws : List Waiting) → AllByRecursion P ws → AllByRecursion P (without n ws)
without_all P n [] h = tt
without_all P n (w ∷ ws) h = by (without_all P n ws h.1) (nat_eq w.node n)
  where
    by : AllByRecursion P (without n ws) → (b : Bool) → AllByRecursion P (cond b (without n ws) (w ∷ without n ws))
    by on true = on
    by on false = (h.0, on)

put_front : (w : Waiting) (vs : List Waiting) → AllByRecursion (λ v. w.arrival ≤ v.arrival) vs → put_in w vs ≡ w ∷ vs
put_front w [] h = refl
put_front w (v ∷ vs) h =
    let is : nat_le w.arrival v.arrival ≡ true = (let le : w.arrival ≤ v.arrival = h.0 in grind (arith, nat_tests)) in
    ap (λ (b : Bool). cond b (w ∷ v ∷ vs) (v ∷ put_in w vs)) is

without_put : (n : ℕ) (w : Waiting) (vs : List Waiting) → Aged vs → without n (put_in w vs) ≡ cond (nat_eq w.node n) (without n vs) (put_in w (without n vs))
without_put n w [] h = refl
without_put n w (v ∷ vs) h = by (without_put n w vs h.1) (nat_le w.arrival v.arrival) refl
  where
    upto : nat_le w.arrival v.arrival ≡ true → w.arrival ≤ v.arrival
    upto e = grind (arith, nat_tests)

    each : nat_le w.arrival v.arrival ≡ true → AllByRecursion (λ u. w.arrival ≤ u.arrival) (without n (v ∷ vs))
    each e = without_all (λ u. w.arrival ≤ u.arrival) n (v ∷ vs) (upto e, weaken w.arrival v.arrival vs (upto e) h.0)

    there : nat_le w.arrival v.arrival ≡ false → put_in w (v ∷ without n vs) ≡ v ∷ put_in w (without n vs)
    there e = ap (λ (b : Bool). cond b (w ∷ v ∷ without n vs) (v ∷ put_in w (without n vs))) e

    both : nat_le w.arrival v.arrival ≡ false → (b d : Bool) → cond b (cond d (without n vs) (put_in w (without n vs))) (v ∷ cond d (without n vs) (put_in w (without n vs)))
        ≡ cond d (cond b (without n vs) (v ∷ without n vs)) (put_in w (cond b (without n vs) (v ∷ without n vs)))
    both e true true = refl
    both e true false = refl
    both e false true = refl
    both e false false = sym (there e)

    by : without n (put_in w vs) ≡ cond (nat_eq w.node n) (without n vs) (put_in w (without n vs)) → (b : Bool) → nat_le w.arrival v.arrival ≡ b → without n (cond b (w ∷ v ∷ vs) (v ∷ put_in w vs)) ≡ cond (nat_eq w.node n) (without n (v ∷ vs)) (put_in w (without n (v ∷ vs)))
    by on true e = ap (λ (us : List Waiting). cond (nat_eq w.node n) (without n (v ∷ vs)) us) (sym (put_front w (without n (v ∷ vs)) (each e)))
    by on false e = ap (λ (us : List Waiting). cond (nat_eq v.node n) us (v ∷ us)) on ∙ both e (nat_eq v.node n) (nat_eq w.node n)

without_sorted : (n : ℕ) (ws : List Waiting) → without n (by_arrival ws) ≡ by_arrival (without n ws)
without_sorted n [] = refl
without_sorted n (w ∷ ws) =
    without_put n w (by_arrival ws) (sorted_aged ws)
    ∙ ap (λ (us : List Waiting). cond (nat_eq w.node n) us (put_in w us)) (without_sorted n ws)
    ∙ by (nat_eq w.node n)
  where
    by : (b : Bool) → cond b (by_arrival (without n ws)) (put_in w (by_arrival (without n ws))) ≡ by_arrival (cond b (without n ws) (w ∷ without n ws))
    by true = refl
    by false = refl

kept_by : (us vs : List Waiting) (a b : ℕ) → a ≢ b → cond (nat_eq a b) us vs ≡ vs
kept_by us vs a b ne = elim (nat_eq a b) as (λ t. nat_eq a b ≡ t → cond t us vs ≡ vs) [
  | true ↦ λ e. absurd (ne (eqb-true a b e))
  | false ↦ λ e. refl
] refl

without_none : (n : ℕ) (ws : List Waiting) → Misses n (map node_of ws) → without n ws ≡ ws
without_none n [] h = refl
without_none n (w ∷ ws) h = kept_by (without n ws) (w ∷ without n ws) w.node n (λ e. h.0 (sym e)) ∙ ap (λ (us : List Waiting). w ∷ us) (without_none n ws h.1)

without_one : (n : ℕ) (x : Waiting) (xs ys : List Waiting) → x.node ≡ n → Misses n (map node_of (xs ++ ys)) → without n (xs ++ x ∷ ys) ≡ xs ++ ys
without_one n x [] ys is h = ap (λ (b : Bool). cond b (without n ys) (x ∷ without n ys)) (eq-eqb x.node n is) ∙ without_none n ys h
without_one n x (z ∷ zs) ys is h =
    kept_by (without n (zs ++ x ∷ ys)) (z ∷ without n (zs ++ x ∷ ys)) z.node n (λ e. h.0 (sym e)) ∙ ap (λ (us : List Waiting). z ∷ us) (without_one n x zs ys is h.1)

-- ---- numbers that differ

put_misses : (k : ℕ) (w : Waiting) (vs : List Waiting) → k ≢ w.node → Misses k (map node_of vs) → Misses k (map node_of (put_in w vs))
put_misses k w [] ne h = (ne, tt)
put_misses k w (v ∷ vs) ne h = by (put_misses k w vs ne h.1) (nat_le w.arrival v.arrival)
  where
    by : Misses k (map node_of (put_in w vs)) → (b : Bool) → Misses k (map node_of (cond b (w ∷ v ∷ vs) (v ∷ put_in w vs)))
    by on true = (ne, h)
    by on false = (h.0, on)

put_differ : (w : Waiting) (vs : List Waiting) → Misses w.node (map node_of vs) → Differ (map node_of vs) → Differ (map node_of (put_in w vs))
put_differ w [] m h = (tt, tt)
put_differ w (v ∷ vs) m h = by (put_differ w vs m.1 h.1) (nat_le w.arrival v.arrival)
  where
    by : Differ (map node_of (put_in w vs)) → (b : Bool) → Differ (map node_of (cond b (w ∷ v ∷ vs) (v ∷ put_in w vs)))
    by on true = (m, h)
    by on false = (put_misses v.node w vs (λ e. m.0 (sym e)) h.0, on)

sorted_misses : (k : ℕ) (ws : List Waiting) → Misses k (map node_of ws) → Misses k (map node_of (by_arrival ws))
sorted_misses k [] h = tt
sorted_misses k (w ∷ ws) h = put_misses k w (by_arrival ws) h.0 (sorted_misses k ws h.1)

sorted_differ : (ws : List Waiting) → Differ (map node_of ws) → Differ (map node_of (by_arrival ws))
sorted_differ [] h = tt
sorted_differ (w ∷ ws) h = put_differ w (by_arrival ws) (sorted_misses w.node ws h.0) (sorted_differ ws h.1)

-- of a number that stands once, the others are left
others : (xs ys : List Waiting) (x : Waiting) → Differ (map node_of (xs ++ x ∷ ys)) → without x.node (xs ++ x ∷ ys) ≡ xs ++ ys
others xs ys x d =
    without_one x.node x xs ys refl
    (subst (Misses x.node) (sym (nodes_both xs ys)) (misses_here (map node_of xs) (map node_of ys) x.node (subst Differ (nodes_both xs (x ∷ ys)) d)))

-- without a request, the others stay in the order of their arrival
pub sorted_less : (ws : List Waiting) (n : ℕ) → Differ (map node_of ws) → (g : HasNode ws n) (h : HasNode (by_arrival ws) n) → by_arrival (g.front ++ g.behind) ≡ h.front ++ h.behind
sorted_less ws n d g h =
    ap by_arrival (sym (others g.front g.behind g.here (subst (λ (us : List Waiting). Differ (map node_of us)) g.parts d)))
    ∙ ap (λ (us : List Waiting). by_arrival (without g.here.node us)) (sym g.parts)
    ∙ sym (without_sorted g.here.node ws)
    ∙ ap (λ (k : ℕ). without k (by_arrival ws)) (g.node ∙ sym h.node)
    ∙ ap (without h.here.node) h.parts
    ∙ others h.front h.behind h.here (subst (λ (us : List Waiting). Differ (map node_of us)) h.parts (sorted_differ ws d))

-- ---- a number that one has

has_either : (n : ℕ) (ws : List Waiting) → (AllByRecursion (λ w. w.node ≢ n) ws → ⊥) → HasNode ws n
has_either n [] h = absurd (h tt)
has_either n (w ∷ ws) h = elim (nat_eq w.node n) as (λ t. nat_eq w.node n ≡ t → HasNode (w ∷ ws) n) [
  | true ↦ λ e. record { front = []; here = w; behind = ws; parts = refl; node = eqb-true w.node n e }
  | false ↦ λ e. more (has_either n ws (λ g. h ((λ f. let t : nat_eq w.node n ≡ true = eq-eqb w.node n f in cc), g)))
] refl
  where
    more : HasNode ws n → HasNode (w ∷ ws) n
    more g = record { front = w ∷ g.front; here = g.here; behind = g.behind; parts = ap (λ (us : List Waiting). w ∷ us) g.parts; node = g.node }

-- a number with a request by arrival has one in any order
pub has_sorted : (ws : List Waiting) (n : ℕ) → HasNode (by_arrival ws) n → HasNode ws n
has_sorted ws n h = has_either n ws (λ g. misses (sorted_all (λ w. w.node ≢ n) ws g))
  where
    misses : AllByRecursion (λ w. w.node ≢ n) (by_arrival ws) → ⊥
    misses g = (w_behind (λ w. w.node ≢ n) h.front (h.here ∷ h.behind) (subst (AllByRecursion (λ (w : Waiting). w.node ≢ n)) h.parts g)).0 h.node
