-- The way of a head that serves by the pick is at most twice the way of any other.
use Rattle.std.proofs.Common.{◌≡◌, ◌≢◌, ℕ, ◌+◌, ◌*◌, ◌<◌, ◌≤◌, Bool, true, false, not, ◌&&◌, nat_lt, List, [], ◌∷◌, ◌++◌, map, refl, ap, sym, subst, ◌∙◌, arith, inl, inr, ◌⊎◌}
use Rattle.std.proofs.lemmas.Bool.Decides.{nat_tests}
use Rattle.std.specs.List.{AllByRecursion}
use Rattle.tape_types.specs.Cartridges.{next}
use Rattle.tape_types.specs.declared.cartridges.Part.{Part}
use Rattle.tape_types.specs.declared.cartridges.Place.{Place}
use Rattle.head_queue.specs.EventLaws.Waiting.{as_number, same_part, request_key, is_least}
use Rattle.head_queue.specs.Cuts.{Misses, Differ}
use Rattle.head_queue.specs.Waiting.{Waiting, request}
use Rattle.head_queue.specs.Keys.{is_upto}
use Rattle.head_queue.specs.Sweeps.{way_over, Among, pos_of, IsSwept, SweepsAreShort}
use Rattle.head_queue.proofs.PathLemmas.{misses_here, differ_less}
use Rattle.head_queue.proofs.RingLemmas.{all_front, all_behind, all_both}
use Rattle.head_queue.proofs.KeptLemmas.{w_front, w_behind, w_both}
use Rattle.head_queue.proofs.PickLemmas.{below_or}

-- ---- how far any way is

-- it comes up to each of its positions
reach_up : (h y : ℕ) (qs : List ℕ) → Among y qs → y + 1 ≤ h + way_over h qs
reach_up h y [] m = absurd m
reach_up h y (q ∷ qs) (inl e) = omega arith
reach_up h y (q ∷ qs) (inr m) = let up : y + 1 ≤ (q + 1) + way_over (q + 1) qs = reach_up (q + 1) y qs m in omega arith

-- and down
reach_down : (h x : ℕ) (qs : List ℕ) → Among x qs → h ≤ x + way_over h qs
reach_down h x [] m = absurd m
reach_down h x (q ∷ qs) (inl e) = omega arith
reach_down h x (q ∷ qs) (inr m) = let down : q + 1 ≤ x + way_over (q + 1) qs = reach_down (q + 1) x qs m in omega arith

-- and from one to another
reach_both : (h x y : ℕ) (qs : List ℕ) → Among x qs → Among y qs → y + 1 ≤ x + way_over h qs
reach_both h x y [] m n = absurd m
reach_both h x y (q ∷ qs) (inl e) (inl f) = omega arith
reach_both h x y (q ∷ qs) (inl e) (inr n) = let up : y + 1 ≤ (q + 1) + way_over (q + 1) qs = reach_up (q + 1) y qs n in omega arith
reach_both h x y (q ∷ qs) (inr m) (inl f) = let down : q + 1 ≤ x + way_over (q + 1) qs = reach_down (q + 1) x qs m in omega arith
reach_both h x y (q ∷ qs) (inr m) (inr n) = let on : y + 1 ≤ x + way_over (q + 1) qs = reach_both (q + 1) x y qs m n in omega arith

-- ---- the order of the pick, by positions

-- of what is ahead the nearest, and the lowest of what is below where none is ahead
record Fits (h p q : ℕ) : Type 0 where
  ahead : h ≤ q → (h ≤ p) × (p ≤ q)
  below : q < h → (h ≤ p) ⊎ (p ≤ q)

record Taken (h : ℕ) (ps : List ℕ) (p : ℕ) : Type 0 where
  front : List ℕ
  behind : List ℕ
  parts : ps ≡ front ++ p ∷ behind
  fits : AllByRecursion (Fits h p) ps

abbrev Served : ℕ → List ℕ → List ℕ → Type 0
Served h ps [] = ps ≡ []
Served h ps (p ∷ order) = (t : Taken h ps p) × Served (p + 1) (t.front ++ t.behind) order

-- what holds of the others, where it follows for each that differs from the one that is taken
others : (P Q : ℕ → Type 0) (h p : ℕ) (ps : List ℕ) → (t : Taken h ps p) → Differ ps → AllByRecursion P ps
    → ((q : ℕ) → p ≢ q → P q → Fits h p q → Q q) → AllByRecursion Q (t.front ++ t.behind)
others P Q h p ps t d hp f =
    let differ : Differ (t.front ++ p ∷ t.behind) = subst Differ t.parts d in
    let all : AllByRecursion P (t.front ++ p ∷ t.behind) = subst (AllByRecursion P) t.parts hp in
    let fits : AllByRecursion (Fits h p) (t.front ++ p ∷ t.behind) = subst (AllByRecursion (Fits h p)) t.parts t.fits in
    each (t.front ++ t.behind) (misses_here t.front t.behind p differ)
    (all_both P t.front t.behind (all_front P t.front (p ∷ t.behind) all) (all_behind P t.front (p ∷ t.behind) all).1)
    (all_both (Fits h p) t.front t.behind (all_front (Fits h p) t.front (p ∷ t.behind) fits) (all_behind (Fits h p) t.front (p ∷ t.behind) fits).1)
  where
    each : (qs : List ℕ) → Misses p qs → AllByRecursion P qs → AllByRecursion (Fits h p) qs → AllByRecursion Q qs
    each [] m a b = tt
    each (q ∷ qs) m a b = (f q m.0 a.0 b.0, each qs m.1 a.1 b.1)

its : (P : ℕ → Type 0) (h p : ℕ) (ps : List ℕ) → (t : Taken h ps p) → AllByRecursion P ps → P p
its P h p ps t a = (all_behind P t.front (p ∷ t.behind) (subst (AllByRecursion P) t.parts a)).0

left_differ : (h p : ℕ) (ps : List ℕ) → (t : Taken h ps p) → Differ ps → Differ (t.front ++ t.behind)
left_differ h p ps t d = differ_less t.front t.behind p (subst Differ t.parts d)

-- all lie from the head on, and before a top
record Between (low top q : ℕ) : Type 0 where
  from : low ≤ q
  upto : q < top

up : (h top : ℕ) (order ps : List ℕ) → Served h ps order → Differ ps → AllByRecursion (Between h top) ps → h ≤ top → way_over h order + h ≤ top
up h top [] ps s d a le = omega arith
up h top (p ∷ order) ps s d a le =
    let here : Between h top p = its (Between h top) h p ps s.0 a in
    let from : h ≤ p = here.from in
    let upto : p < top = here.upto in
    let on : way_over (p + 1) order + (p + 1) ≤ top = up (p + 1) top order (s.0.front ++ s.0.behind) s.1 (left_differ h p ps s.0 d)
    (others (Between h top) (Between (p + 1) top) h p ps s.0 d a (λ q ne b f. record { from = past p q ne (f.ahead b.from).1; upto = b.upto })) (omega arith) in
    omega arith
  where
    past : (p q : ℕ) → p ≢ q → p ≤ q → p + 1 ≤ q
    past p q ne le = omega arith

abbrev Either : ℕ → ℕ → ℕ → ℕ → Type 0
Either h low top q = Between h top q ⊎ Between low h q

-- some are ahead and some below a mark that the head doesn't go back behind
both : (h low mid top : ℕ) (order ps : List ℕ) → Served h ps order → Differ ps → AllByRecursion (λ q. Between h top q ⊎ Between low mid q) ps
    → mid ≤ h → low ≤ mid → h ≤ top → way_over h order + h + 2 * low ≤ 2 * top + mid
both h low mid top [] ps s d a mh lm ht = omega arith
both h low mid top (p ∷ order) ps s d a mh lm ht =
    by (its (λ q. Between h top q ⊎ Between low mid q) h p ps s.0 a)
    (λ ahead. both (p + 1) low mid top order (s.0.front ++ s.0.behind) s.1 (left_differ h p ps s.0 d)
    (others (λ q. Between h top q ⊎ Between low mid q) (λ q. Between (p + 1) top q ⊎ Between low mid q) h p ps s.0 d a (λ q ne b f. further q ne b f))
    (let le : h ≤ p = ahead.from in omega arith) lm (let lt : p < top = ahead.upto in omega arith))
    (λ below. up (p + 1) mid order (s.0.front ++ s.0.behind) s.1 (left_differ h p ps s.0 d)
    (others (λ q. Between h top q ⊎ Between low mid q) (Between (p + 1) mid) h p ps s.0 d a (λ q ne b f. lower below q ne b f))
    (let lt : p < mid = below.upto in omega arith))
  where
    past : (p q : ℕ) → p ≢ q → p ≤ q → p + 1 ≤ q
    past p q ne le = omega arith

    clash : (x y : ℕ) → x < y → y ≤ x → ⊥
    clash x y lt le = omega arith

    further : (q : ℕ) → p ≢ q → Between h top q ⊎ Between low mid q → Fits h p q → Between (p + 1) top q ⊎ Between low mid q
    further q ne (inl b) f = inl (record { from = past p q ne (f.ahead b.from).1; upto = b.upto })
    further q ne (inr b) f = inr b

    under : Between low mid p → h ≤ p → ⊥
    under below le = let lt : p < mid = below.upto in omega arith

    lowest : Between low mid p → (q : ℕ) → p ≢ q → (h ≤ p) ⊎ (p ≤ q) → p + 1 ≤ q
    lowest below q ne (inl le) = absurd (under below le)
    lowest below q ne (inr le) = past p q ne le

    lower : Between low mid p → (q : ℕ) → p ≢ q → Between h top q ⊎ Between low mid q → Fits h p q → Between (p + 1) mid q
    lower below q ne (inl b) f = absurd (under below (f.ahead b.from).0)
    lower below q ne (inr b) f = record { from = lowest below q ne (f.below (let lt : q < mid = b.upto in omega arith)); upto = b.upto }

    by : Between h top p ⊎ Between low mid p → (Between h top p → way_over (p + 1) order + (p + 1) + 2 * low ≤ 2 * top + mid) → (Between low mid p → way_over (p + 1) order + (p + 1) ≤ mid)
        → way_over h (p ∷ order) + h + 2 * low ≤ 2 * top + mid
    by (inl b) f g = let le : h ≤ p = b.from in let on : way_over (p + 1) order + (p + 1) + 2 * low ≤ 2 * top + mid = f b in omega arith
    by (inr b) f g = let le : low ≤ p = b.from in let lt : p < mid = b.upto in let on : way_over (p + 1) order + (p + 1) ≤ mid = g b in omega arith

-- ---- how far they lie

-- the end of those ahead, and the begin of those below; the head's position where there are none
record Reach (h : ℕ) (ps qs : List ℕ) : Type 0 where
  low : ℕ
  top : ℕ
  under : low ≤ h
  over : h ≤ top
  low_is : (low ≡ h) ⊎ Among low qs
  top_is : (top ≡ h) ⊎ ((y : ℕ) × (top ≡ y + 1) × Among y qs)
  each : AllByRecursion (λ q. Between h top q ⊎ Between low h q) ps

order_of : (x y : ℕ) → (x ≤ y) ⊎ (y < x)
order_of x y = grind arith

wider : (h low top low2 top2 : ℕ) (ps : List ℕ) → low2 ≤ low → top ≤ top2 → AllByRecursion (λ q. Between h top q ⊎ Between low h q) ps → AllByRecursion (λ q. Between h top2 q ⊎ Between low2 h q) ps
wider h low top low2 top2 [] a b g = tt
wider h low top low2 top2 (p ∷ ps) a b g = (one g.0, wider h low top low2 top2 ps a b g.1)
  where
    one : Between h top p ⊎ Between low h p → Between h top2 p ⊎ Between low2 h p
    one (inl u) = inl (record { from = u.from; upto = (let lt : p < top = u.upto in omega arith) })
    one (inr u) = inr (record { from = (let le : low ≤ p = u.from in omega arith); upto = u.upto })

reach : (h : ℕ) (ps qs : List ℕ) → AllByRecursion (λ q. Among q qs) ps → Reach h ps qs
reach h [] qs a = record { low = h; top = h; under = omega arith; over = omega arith; low_is = inl refl; top_is = inl refl; each = tt }
reach h (p ∷ ps) qs a = by (reach h ps qs a.1) (order_of h p)
  where
    top_more : (r : Reach h ps qs) → h ≤ p → (r.top ≤ p + 1) ⊎ (p + 1 < r.top) → Reach h (p ∷ ps) qs
    top_more r le (inl low) = record {
      low = r.low;
      top = p + 1;
      under = r.under;
      over = (omega arith);
      low_is = r.low_is;
      top_is = inr (p, refl, a.0);
      each = (inl (record { from = le; upto = omega arith }), wider h r.low r.top r.low (p + 1) ps (omega arith) low r.each);
    }
    top_more r le (inr high) = record {
      low = r.low;
      top = r.top;
      under = r.under;
      over = r.over;
      low_is = r.low_is;
      top_is = r.top_is;
      each = (inl (record { from = le; upto = omega arith }), r.each);
    }

    low_more : (r : Reach h ps qs) → p < h → (p ≤ r.low) ⊎ (r.low < p) → Reach h (p ∷ ps) qs
    low_more r lt (inl le) = record {
      low = p;
      top = r.top;
      under = (omega arith);
      over = r.over;
      low_is = inr a.0;
      top_is = r.top_is;
      each = (inr (record { from = omega arith; upto = lt }), wider h r.low r.top p r.top ps le (omega arith) r.each);
    }
    low_more r lt (inr high) = record {
      low = r.low;
      top = r.top;
      under = r.under;
      over = r.over;
      low_is = r.low_is;
      top_is = r.top_is;
      each = (inr (record { from = omega arith; upto = lt }), r.each);
    }

    by : Reach h ps qs → (h ≤ p) ⊎ (p < h) → Reach h (p ∷ ps) qs
    by r (inl le) = top_more r le (order_of r.top (p + 1))
    by r (inr lt) = low_more r lt (order_of p r.low)

-- ---- twice the best

ahead_only : (h low top : ℕ) (ps : List ℕ) → low ≡ h → AllByRecursion (λ q. Between h top q ⊎ Between low h q) ps → AllByRecursion (Between h top) ps
ahead_only h low top [] e g = tt
ahead_only h low top (p ∷ ps) e g = (one g.0, ahead_only h low top ps e g.1)
  where
    one : Between h top p ⊎ Between low h p → Between h top p
    one (inl u) = u
    one (inr u) = absurd (let le : low ≤ p = u.from in let lt : p < h = u.upto in omega arith)

twice : (h : ℕ) (order ps other : List ℕ) → Served h ps order → Differ ps → AllByRecursion (λ q. Among q other) ps → way_over h order ≤ 2 * way_over h other
twice h order ps other s d a = by (reach h ps other a)
  where
    ways : (r : Reach h ps other) → way_over h order + h + 2 * r.low ≤ 2 * r.top + h
    ways r = both h r.low h r.top order ps s d r.each (omega arith) r.under r.over

    -- none is below, so the way is as short as can be
    onward : (r : Reach h ps other) → r.low ≡ h → way_over h order + h ≤ r.top
    onward r e = up h r.top order ps s d (ahead_only h r.low r.top ps e r.each) r.over

    end : (r : Reach h ps other) → (r.low ≡ h) ⊎ Among r.low other → (r.top ≡ h) ⊎ ((y : ℕ) × (r.top ≡ y + 1) × Among y other) → way_over h order ≤ 2 * way_over h other
    end r (inl e) (inl f) = let g : way_over h order + h ≤ r.top = onward r e in omega arith
    end r (inl e) (inr t) = let g : way_over h order + h ≤ r.top = onward r e in let f : r.top ≡ t.0 + 1 = t.1 in let up : t.0 + 1 ≤ h + way_over h other = reach_up h t.0 other t.2 in omega arith
    end r (inr m) (inl f) = let g : way_over h order + h + 2 * r.low ≤ 2 * r.top + h = ways r in let down : h ≤ r.low + way_over h other = reach_down h r.low other m in omega arith
    end r (inr m) (inr t) = let g : way_over h order + h + 2 * r.low ≤ 2 * r.top + h = ways r in let f : r.top ≡ t.0 + 1 = t.1 in let all : t.0 + 1 ≤ r.low + way_over h other = reach_both h r.low t.0 other m t.2 in omega arith

    by : Reach h ps other → way_over h order ≤ 2 * way_over h other
    by r = end r r.low_is r.top_is

-- ---- from the keys

same_both : (b c d : Bool) → (b && c) ≡ true → (b ≡ true) × (c ≡ true)
same_both true c d h = (refl, h)
same_both false c d h = cc

fits_by : (h p q a b : ℕ) (x y : ℕ) → x ≡ y → is_upto (x ∷ as_number (nat_lt p h) ∷ p ∷ a ∷ []) (y ∷ as_number (nat_lt q h) ∷ q ∷ b ∷ []) ≡ true → Fits h p q
fits_by h p q a b x y same u = first (below_or x y (as_number (nat_lt p h) ∷ p ∷ a ∷ []) (as_number (nat_lt q h) ∷ q ∷ b ∷ []) u)
  where
    upto : (c d : Bool) → nat_lt p h ≡ c → nat_lt q h ≡ d → (as_number c < as_number d) ⊎ ((as_number c ≡ as_number d) × (p ≤ q)) → Fits h p q
    upto true true e f (inl lt) = absurd (omega arith)
    upto true false e f (inl lt) = absurd (omega arith)
    upto false false e f (inl lt) = absurd (omega arith)
    upto false true e f (inl lt) =
        let from : h ≤ p = grind (arith, nat_tests) in
        let under : q < h = grind (arith, nat_tests) in
        record { ahead = λ le. absurd (omega arith); below = λ lt. inl from }
    upto true true e f (inr g) =
        let under : q < h = grind (arith, nat_tests) in
        record { ahead = λ le. absurd (omega arith); below = λ lt. inr g.1 }
    upto true false e f (inr g) = absurd (let z = g.0 in omega arith)
    upto false true e f (inr g) = absurd (let z = g.0 in omega arith)
    upto false false e f (inr g) =
        let from : h ≤ p = grind (arith, nat_tests) in
        let past : h ≤ q = grind (arith, nat_tests) in
        record { ahead = λ le. (from, g.1); below = λ lt. absurd (omega arith) }

    third : (p < q) ⊎ ((p ≡ q) × (is_upto (a ∷ []) (b ∷ []) ≡ true)) → p ≤ q
    third (inl lt) = omega arith
    third (inr g) = let e : p ≡ q = g.0 in omega arith

    second : (as_number (nat_lt p h) < as_number (nat_lt q h)) ⊎ ((as_number (nat_lt p h) ≡ as_number (nat_lt q h)) × (is_upto (p ∷ a ∷ []) (q ∷ b ∷ []) ≡ true))
        → (as_number (nat_lt p h) < as_number (nat_lt q h)) ⊎ ((as_number (nat_lt p h) ≡ as_number (nat_lt q h)) × (p ≤ q))
    second (inl lt) = inl lt
    second (inr g) = inr (g.0, third (below_or p q (a ∷ []) (b ∷ []) g.1))

    first : (x < y) ⊎ ((x ≡ y) × (is_upto (as_number (nat_lt p h) ∷ p ∷ a ∷ []) (as_number (nat_lt q h) ∷ q ∷ b ∷ []) ≡ true)) → Fits h p q
    first (inl lt) = absurd (omega arith)
    first (inr g) = upto (nat_lt p h) (nat_lt q h) refl refl (second (below_or (as_number (nat_lt p h)) (as_number (nat_lt q h)) (p ∷ a ∷ []) (q ∷ b ∷ []) g.1))

fits_all : (head : Place) (w : Waiting) (ws : List Waiting) → w.place.part ≡ head.part → AllByRecursion (λ (v : Waiting). v.place.part ≡ head.part) ws
    → is_least (request_key head (request w)) (map (request_key head) (map request ws)) ≡ true → AllByRecursion (Fits head.pos w.place.pos) (map pos_of ws)
fits_all head w [] e a h = tt
fits_all head w (v ∷ vs) e a h =
    let g = same_both (is_upto (request_key head (request w)) (request_key head (request v))) (is_least (request_key head (request w)) (map (request_key head) (map request vs))) true h in (
      fits_by head.pos w.place.pos v.place.pos (w.arrival + 1) (v.arrival + 1) (as_number (not (same_part w.place.part head.part))) (as_number (not (same_part v.place.part head.part)))
          (ap (λ (p : Part). as_number (not (same_part p head.part))) (e ∙ sym a.0)) g.0,
      fits_all head w vs e a.1 g.1,
    )

pos_both : (xs ys : List Waiting) → map pos_of (xs ++ ys) ≡ map pos_of xs ++ map pos_of ys
pos_both [] ys = refl
pos_both (x ∷ xs) ys = ap (λ (ks : List ℕ). pos_of x ∷ ks) (pos_both xs ys)

served : (head : Place) (order waiting : List Waiting) → AllByRecursion (λ (w : Waiting). w.place.part ≡ head.part) waiting → IsSwept head waiting order → Served head.pos (map pos_of waiting) (map pos_of order)
served head [] waiting a s = ap (map pos_of) s
served head (w ∷ order) waiting a s =
    let n = s.0 in
    let all : AllByRecursion (λ (v : Waiting). v.place.part ≡ head.part) (n.front ++ w ∷ n.behind) = subst (AllByRecursion (λ (v : Waiting). v.place.part ≡ head.part)) n.parts a in
    let behind = w_behind (λ (v : Waiting). v.place.part ≡ head.part) n.front (w ∷ n.behind) all in
    let left : AllByRecursion (λ (v : Waiting). v.place.part ≡ head.part) (n.front ++ n.behind) = w_both (λ (v : Waiting). v.place.part ≡ head.part) n.front n.behind (w_front (λ (v : Waiting). v.place.part ≡ head.part) n.front (w ∷ n.behind) all) behind.1 in (
      record { front = map pos_of n.front; behind = map pos_of n.behind; parts = ap (map pos_of) n.parts ∙ pos_both n.front (w ∷ n.behind); fits = fits_all head w waiting behind.0 a n.least },
      subst (λ (ks : List ℕ). Served (w.place.pos + 1) ks (map pos_of order)) (pos_both n.front n.behind)
          (served (next w.place) order (n.front ++ n.behind) (subst (λ (p : Part). AllByRecursion (λ (v : Waiting). v.place.part ≡ p) (n.front ++ n.behind)) (sym behind.0) left) s.1),
    )

among_all : (other : List ℕ) (ws : List Waiting) → AllByRecursion (λ (w : Waiting). Among w.place.pos other) ws → AllByRecursion (λ q. Among q other) (map pos_of ws)
among_all other [] h = tt
among_all other (w ∷ ws) h = (h.0, among_all other ws h.1)

-- the way of a head that serves by the pick is at most twice the way of any other
pub sweeps_are_short : SweepsAreShort
sweeps_are_short = λ head waiting order other a d s m. twice head.pos (map pos_of order) (map pos_of waiting) other (served head order waiting a s) d (among_all other waiting m)
