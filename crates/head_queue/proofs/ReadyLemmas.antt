-- The numbers that are free and those that have a request, as requests come and go.
use Rattle.std.proofs.Common.{◌≡◌, ◌≢◌, ℕ, zero, suc, ◌+◌, ◌-◌, ◌<◌, ◌≤◌, Bool, true, false, cond, nat_eq, not, ◌||◌, List, [], ◌∷◌, ◌++◌, length, map, take, filter, count_by, Option, Some, None, IfSome, IfNone, refl, ap, sym, subst, ◌∙◌, append_assoc, arith, length-append}
use Rattle.std.proofs.lemmas.Bool.{eq-eqb, eqb-true}
use Rattle.std.proofs.lemmas.List.Sums.{sum_by-cons}
use Rattle.std.specs.List.{AllByRecursion, slice_index_or, list_any}
use Rattle.head_queue.specs.declared.newest.Owned.{Owned}
use Rattle.head_queue.specs.declared.entries.QueueEntry.{QueueEntry}
use Rattle.head_queue.specs.Cuts.{Misses, Differ}
use Rattle.head_queue.specs.Entries.{waiting}
use Rattle.head_queue.specs.Waiting.{Waiting}
use Rattle.head_queue.specs.Orders.{IsIn, HasNode, HasOwner, IsMore}
use Rattle.head_queue.specs.Queued.{by_arrival}
use Rattle.head_queue.specs.Newest.{number_or}
use Rattle.head_queue.specs.Holdings.{owner_of}
use Rattle.head_queue.specs.Ready.{AreNumbers, AreReady, node_of, owned}
use Rattle.head_queue.proofs.PathLemmas.{misses_front, misses_behind, misses_here, differ_more, differ_less, differ_behind}
use Rattle.head_queue.proofs.RingLemmas.{all_front, all_behind, all_both}
use Rattle.head_queue.proofs.KeptLemmas.{nodes_both, w_front, w_behind, w_both}
use Rattle.head_queue.proofs.NewestLemmas.{one, other}
use Rattle.head_queue.proofs.GroupLemmas.{owner_more, owner_less, some_not}
use Rattle.head_queue.proofs.ArrivalLemmas.{sorted_in, sorted_all, sorted_length}

-- ---- numbers

-- one of them stands elsewhere
moved : (fs bs cs ds : List ℕ) (n size : ℕ) → fs ++ bs ≡ cs ++ ds → AreNumbers (fs ++ n ∷ bs) size → AreNumbers (cs ++ n ∷ ds) size
moved fs bs cs ds n size same kept =
    let differ : Differ (0 ∷ (fs ++ bs)) = differ_less (0 ∷ fs) bs n kept.differ in
    let misses : Misses n (0 ∷ (fs ++ bs)) = misses_here (0 ∷ fs) bs n kept.differ in
    let front = all_front (λ k. k ≤ size) fs (n ∷ bs) kept.within in
    let behind = all_behind (λ k. k ≤ size) fs (n ∷ bs) kept.within in
    let within : AllByRecursion (λ k. k ≤ size) (cs ++ ds) = subst (AllByRecursion (λ (k : ℕ). k ≤ size)) same (all_both (λ k. k ≤ size) fs bs front behind.1) in
    record {
      differ = differ_more (0 ∷ cs) ds n (subst (λ (ks : List ℕ). Misses n (0 ∷ ks)) same misses) (subst (λ (ks : List ℕ). Differ (0 ∷ ks)) same differ);
      within = all_both (λ k. k ≤ size) cs (n ∷ ds) (all_front (λ k. k ≤ size) cs ds within) (behind.0, all_behind (λ k. k ≤ size) cs ds within);
      counted = counted (length fs) (length bs) (length cs) (length ds) (sym (length-append fs bs) ∙ ap length same ∙ length-append cs ds) (sym (length-append fs (n ∷ bs)) ∙ kept.counted) (length-append cs (n ∷ ds));
    }
  where
    counted : (a b c d : ℕ) → a + b ≡ c + d → a + suc b ≡ size → length (cs ++ n ∷ ds) ≡ c + suc d → length (cs ++ n ∷ ds) ≡ size
    counted a b c d e f g = omega arith

-- the next number is free too
wider : (free nodes : List ℕ) (size : ℕ) → AreNumbers (free ++ nodes) size → AreNumbers ((free ++ (size + 1) ∷ []) ++ nodes) (size + 1)
wider free nodes size kept = subst (λ (ks : List ℕ). AreNumbers ks (size + 1)) (sym (append_assoc free ((size + 1) ∷ []) nodes)) (record {
  differ = differ_more (0 ∷ free) nodes (size + 1) ((λ e. omega arith), past (free ++ nodes) kept.within) kept.differ;
  within = all_both (λ k. k ≤ size + 1) free ((size + 1) ∷ nodes) (weaker free (all_front (λ k. k ≤ size) free nodes kept.within)) (omega arith, weaker nodes (all_behind (λ k. k ≤ size) free nodes kept.within));
  counted = counted (length free) (length nodes) (sym (length-append free nodes) ∙ kept.counted) (length-append free ((size + 1) ∷ nodes));
})
  where
    past : (ks : List ℕ) → AllByRecursion (λ k. k ≤ size) ks → Misses (size + 1) ks
    past [] h = tt
    past (k ∷ ks) h = ((λ e. let le : k ≤ size = h.0 in omega arith), past ks h.1)

    weaker : (ks : List ℕ) → AllByRecursion (λ k. k ≤ size) ks → AllByRecursion (λ k. k ≤ size + 1) ks
    weaker [] h = tt
    weaker (k ∷ ks) h = (let le : k ≤ size = h.0 in omega arith, weaker ks h.1)

    counted : (a b : ℕ) → a + b ≡ size → length (free ++ (size + 1) ∷ nodes) ≡ a + suc b → length (free ++ (size + 1) ∷ nodes) ≡ size + 1
    counted a b e f = omega arith

-- the last one of a list
with_last : (xs : List ℕ) (d n : ℕ) → length xs ≡ n + 1 → xs ≡ take n xs ++ slice_index_or xs n d ∷ []
with_last [] d n e = absurd (omega arith)
with_last (x ∷ []) d zero e = refl
with_last (x ∷ y ∷ ys) d zero e = absurd (omega arith)
with_last (x ∷ xs) d (suc n) e = ap (λ (ks : List ℕ). x ∷ ks) (with_last xs d n (omega arith))

-- a list from which the last number was taken is the rest and that number
pub popped : (xs rest : List ℕ) (n len : ℕ) → len ≡ length xs → 0 < len → Some n ≡ Some (slice_index_or xs (len - 1) 0) → rest ≡ take (len - 1) xs → xs ≡ rest ++ n ∷ []
popped xs rest n len e lt v r =
    with_last xs 0 (len - 1) (omega arith)
    ∙ ap (λ (k : ℕ). take (len - 1) xs ++ k ∷ []) (sym (ap number_or v))
    ∙ ap (λ (ks : List ℕ). ks ++ n ∷ []) (sym r)

-- ---- what is told of a number

nodes_miss_by : (n : ℕ) (ws : List Waiting) → Misses n (map node_of ws) → AllByRecursion (λ w. w.node ≢ n) ws
nodes_miss_by n [] h = tt
nodes_miss_by n (w ∷ ws) h = ((λ e. h.0 (sym e)), nodes_miss_by n ws h.1)

owned_none : (n : ℕ) (ws : List Waiting) → Misses n (map node_of ws) → owner_of n (map owned ws) ≡ None
owned_none n [] h = refl
owned_none n (w ∷ ws) h = other (Some w.owner) (owner_of n (map owned ws)) n w.node h.0 ∙ owned_none n ws h.1

owned_both : (xs ys : List Waiting) → map owned (xs ++ ys) ≡ map owned xs ++ map owned ys
owned_both [] ys = refl
owned_both (x ∷ xs) ys = ap (λ (ps : List Owned). owned x ∷ ps) (owned_both xs ys)

owned_here : (w : Waiting) (xs ys : List Waiting) → Misses w.node (map node_of xs) → owner_of w.node (map owned (xs ++ w ∷ ys)) ≡ Some w.owner
owned_here w [] ys h = one (Some w.owner) (owner_of w.node (map owned ys)) w.node w.node refl
owned_here w (x ∷ xs) ys h = other (Some x.owner) (owner_of w.node (map owned (xs ++ w ∷ ys))) w.node x.node h.0 ∙ owned_here w xs ys h.1

-- a number that is an owner's has a request of that owner
has_owned : (n o : ℕ) (ws : List Waiting) → owner_of n (map owned ws) ≡ Some o → HasOwner ws o n
has_owned n o [] h = let e : None ≡ Some o = h in absurd (some_not o (sym e))
has_owned n o (w ∷ ws) h = elim (nat_eq n w.node) as (λ t. nat_eq n w.node ≡ t → cond t (Some w.owner) (owner_of n (map owned ws)) ≡ Some o → HasOwner (w ∷ ws) o n) [
  | true ↦ λ e g. record { has = record { front = []; here = w; behind = ws; parts = refl; node = sym (eqb-true n w.node e) }; owner = ap number_or g }
  | false ↦ λ e g. more (has_owned n o ws g)
] refl h
  where
    more : HasOwner ws o n → HasOwner (w ∷ ws) o n
    more g = record {
      has = record { front = w ∷ g.has.front; here = g.has.here; behind = g.has.behind; parts = ap (λ (us : List Waiting). w ∷ us) g.has.parts; node = g.has.node };
      owner = g.owner;
    }

owner_sorted : (ws : List Waiting) (o n : ℕ) → HasOwner ws o n → HasOwner (by_arrival ws) o n
owner_sorted ws o n h = by (sorted_in ws h.has.front h.has.behind h.has.here h.has.parts)
  where
    by : IsIn (by_arrival ws) h.has.here → HasOwner (by_arrival ws) o n
    by i = record { has = record { front = i.front; here = h.has.here; behind = i.behind; parts = i.parts; node = h.has.node }; owner = h.owner }

-- where no number is an owner's, no request is
none_owned : (o : ℕ) (ws : List Waiting) → Differ (map node_of ws) → ((k : ℕ) → owner_of k (map owned ws) ≢ Some o) → AllByRecursion (λ w. w.owner ≢ o) ws
none_owned o ws d h = by [] ws refl
  where
    by : (xs ys : List Waiting) → ws ≡ xs ++ ys → AllByRecursion (λ w. w.owner ≢ o) ys
    by xs [] e = tt
    by xs (y ∷ ys) e =
        let differ : Differ (map node_of xs ++ y.node ∷ map node_of ys) = subst Differ (ap (map node_of) e ∙ nodes_both xs (y ∷ ys)) d in
        let misses : Misses y.node (map node_of xs) = misses_front y.node (map node_of xs) (map node_of ys) (misses_here (map node_of xs) (map node_of ys) y.node differ) in
        ((λ f. h y.node (ap (λ (us : List Waiting). owner_of y.node (map owned us)) e ∙ owned_here y xs ys misses ∙ ap (λ (k : ℕ). Some k) f)), by (xs ++ y ∷ []) ys (e ∙ sym (append_assoc xs (y ∷ []) ys)))

-- ---- requests come and go

-- the numbers of the requests differ
pub nodes_differ : (order : List Waiting) (size : ℕ) (pairs : List Owned) (wide : ℕ) (free : List ℕ) (arrived capacity : ℕ) → AreReady order size pairs wide free arrived capacity
    → Differ (map node_of order)
nodes_differ order size pairs wide free arrived capacity r = differ_behind free (map node_of order) r.numbers.differ.1

-- what a number that is taken may be
pub record IsTaken (order : List Waiting) (size : ℕ) (pairs : List Owned) (left : List ℕ) (n : ℕ) : Type 0 where
  pub some : 1 ≤ n
  pub within : n ≤ size
  pub apart : AllByRecursion (λ w. w.node ≢ n) order
  pub unowned : owner_of n pairs ≡ None
  pub room : length order < size
  pub misses : Misses n (map node_of order)
  pub numbers : AreNumbers (left ++ n ∷ map node_of order) size

-- a free number that is taken is within the size, and has neither request nor owner yet
pub taken : (order : List Waiting) (size : ℕ) (pairs : List Owned) (wide : ℕ) (free : List ℕ) (arrived capacity : ℕ) (left : List ℕ) (n : ℕ)
    → AreReady order size pairs wide free arrived capacity → free ≡ left ++ n ∷ [] → IsTaken order size pairs left n
taken order size pairs wide free arrived capacity left n r is =
    let numbers : AreNumbers (left ++ n ∷ map node_of order) size = subst (λ (ks : List ℕ). AreNumbers ks size) (ap (λ (ks : List ℕ). ks ++ map node_of order) is ∙ append_assoc left (n ∷ []) (map node_of order)) r.numbers in
    let misses : Misses n (0 ∷ (left ++ map node_of order)) = misses_here (0 ∷ left) (map node_of order) n numbers.differ in
    let miss = misses_behind n left (map node_of order) misses.1 in
    record {
      some = some n misses.0;
      within = (all_behind (λ k. k ≤ size) left (n ∷ map node_of order) numbers.within).0;
      apart = nodes_miss_by n order miss;
      unowned = sym (r.agree n) ∙ owned_none n order miss;
      room = room (length left) (length order) (nodes_long order) (sym (length-append left (n ∷ map node_of order)) ∙ numbers.counted);
      misses = miss;
      numbers = numbers;
    }
  where
    some : (k : ℕ) → k ≢ 0 → 1 ≤ k
    some k ne = omega arith

    nodes_long : (ws : List Waiting) → length (map node_of ws) ≡ length ws
    nodes_long [] = refl
    nodes_long (w ∷ ws) = ap (λ (k : ℕ). suc k) (nodes_long ws)

    room : (a b : ℕ) → length (map node_of order) ≡ b → a + suc (length (map node_of order)) ≡ size → b < size
    room a b e f = omega arith

early_on : (ws : List Waiting) (n : ℕ) → AllByRecursion (λ (w : Waiting). w.arrival < n) ws → AllByRecursion (λ (w : Waiting). w.arrival < n + 1) ws
early_on [] n h = tt
early_on (w ∷ ws) n h = (let lt : w.arrival < n = h.0 in omega arith, early_on ws n h.1)

-- one more
pub ready_more : (order now : List Waiting) (size : ℕ) (pairs after : List Owned) (wide : ℕ) (free left : List ℕ) (arrived capacity room : ℕ) (w : Waiting)
    → AreReady order size pairs wide free arrived capacity → IsTaken order size pairs left w.node → w.arrival ≡ arrived → IsMore order w now
    → ((k : ℕ) → owner_of k after ≡ cond (nat_eq k w.node) (Some w.owner) (owner_of k pairs)) → length after ≡ length pairs + 1 → size ≤ room
    → AreReady now size after wide left (arrived + 1) room
ready_more order now size pairs after wide free left arrived capacity room w r t late m told counted fits =
    let nodes : map node_of order ≡ map node_of m.front ++ map node_of m.behind = ap (map node_of) m.before ∙ nodes_both m.front m.behind in
    let nodes_now : map node_of now ≡ map node_of m.front ++ w.node ∷ map node_of m.behind = ap (map node_of) m.now ∙ nodes_both m.front (w ∷ m.behind) in
    let miss : Misses w.node (map node_of m.front) = misses_front w.node (map node_of m.front) (map node_of m.behind) (subst (Misses w.node) nodes t.misses) in
    let early : AllByRecursion (λ (v : Waiting). v.arrival < arrived + 1) (m.front ++ m.behind) = subst (AllByRecursion (λ (v : Waiting). v.arrival < arrived + 1)) m.before (early_on order arrived r.early) in
    record {
      early = subst (AllByRecursion (λ (v : Waiting). v.arrival < arrived + 1)) (sym m.now)
          (w_both (λ (v : Waiting). v.arrival < arrived + 1) m.front (w ∷ m.behind) (w_front (λ (v : Waiting). v.arrival < arrived + 1) m.front m.behind early)
          (omega arith, w_behind (λ (v : Waiting). v.arrival < arrived + 1) m.front m.behind early));
      numbers = subst (λ (ks : List ℕ). AreNumbers ks size) (append_assoc left (map node_of m.front) (w.node ∷ map node_of m.behind) ∙ ap (λ (ks : List ℕ). left ++ ks) (sym nodes_now))
          (moved left (map node_of order) (left ++ map node_of m.front) (map node_of m.behind) w.node size
          (ap (λ (ks : List ℕ). left ++ ks) nodes ∙ sym (append_assoc left (map node_of m.front) (map node_of m.behind))) t.numbers);
      room = fits;
      alike = r.alike;
      agree = λ k. ap (λ (ws : List Waiting). owner_of k (map owned ws)) m.now
          ∙ ap (owner_of k) (owned_both m.front (w ∷ m.behind))
          ∙ owner_more w.node w.owner k (map owned m.front) (map owned m.behind) (owned_none w.node m.front miss)
          ∙ ap (λ (q : Option ℕ). cond (nat_eq k w.node) (Some w.owner) q) (sym (ap (owner_of k) (ap (map owned) m.before ∙ owned_both m.front m.behind)) ∙ r.agree k)
          ∙ sym (told k);
      counted = longer (length order) (length now) (length m.front) (length m.behind) (ap length m.before ∙ length-append m.front m.behind) (ap length m.now ∙ length-append m.front (w ∷ m.behind)) r.counted counted;
    }
  where
    longer : (a b c d : ℕ) → a ≡ c + d → b ≡ c + suc d → length pairs ≡ a → length after ≡ length pairs + 1 → length after ≡ b
    longer a b c d e f g h = omega arith

-- what is told of a number that has a request
pub record IsGiven (order : List Waiting) (pairs : List Owned) (n : ℕ) (e : QueueEntry) : Type 0 where
  pub has : HasNode order n
  pub owner : owner_of n pairs ≡ Some e.owner

-- a number under which a request waits has that request's owner
pub given : (order : List Waiting) (size : ℕ) (pairs : List Owned) (wide : ℕ) (free : List ℕ) (arrived capacity n : ℕ) (e : QueueEntry)
    → AreReady order size pairs wide free arrived capacity → IsIn order (waiting n (Some e)) → IsGiven order pairs n e
given order size pairs wide free arrived capacity n e r i =
    let differ : Differ (map node_of i.front ++ n ∷ map node_of i.behind) = subst Differ (ap (map node_of) i.parts ∙ nodes_both i.front (waiting n (Some e) ∷ i.behind)) (nodes_differ order size pairs wide free arrived capacity r) in
    let miss : Misses n (map node_of i.front) = misses_front n (map node_of i.front) (map node_of i.behind) (misses_here (map node_of i.front) (map node_of i.behind) n differ) in
    record {
      has = record { front = i.front; here = waiting n (Some e); behind = i.behind; parts = i.parts; node = refl };
      owner = sym (r.agree n) ∙ ap (λ (ws : List Waiting). owner_of n (map owned ws)) i.parts ∙ owned_here (waiting n (Some e)) i.front i.behind miss;
    }

-- one less
pub ready_less : (order now : List Waiting) (size : ℕ) (pairs after : List Owned) (wide : ℕ) (free : List ℕ) (arrived capacity room n : ℕ)
    → AreReady order size pairs wide free arrived capacity → (g : HasNode order n) → now ≡ g.front ++ g.behind
    → ((k : ℕ) → owner_of k after ≡ cond (nat_eq k n) None (owner_of k pairs)) → length after + 1 ≡ length pairs → size ≤ room
    → AreReady now size after wide (free ++ n ∷ []) arrived room
ready_less order now size pairs after wide free arrived capacity room n r g is told counted fits =
    let nodes : map node_of order ≡ map node_of g.front ++ n ∷ map node_of g.behind = ap (map node_of) g.parts ∙ nodes_both g.front (g.here ∷ g.behind) ∙ ap (λ (k : ℕ). map node_of g.front ++ k ∷ map node_of g.behind) g.node in
    let nodes_now : map node_of now ≡ map node_of g.front ++ map node_of g.behind = ap (map node_of) is ∙ nodes_both g.front g.behind in
    let differ : Differ (map node_of g.front ++ n ∷ map node_of g.behind) = subst Differ nodes (nodes_differ order size pairs wide free arrived capacity r) in
    let miss : Misses n (map node_of g.front ++ map node_of g.behind) = misses_here (map node_of g.front) (map node_of g.behind) n differ in
    let early : AllByRecursion (λ (v : Waiting). v.arrival < arrived) (g.front ++ g.here ∷ g.behind) = subst (AllByRecursion (λ (v : Waiting). v.arrival < arrived)) g.parts r.early in
    record {
      early = subst (AllByRecursion (λ (v : Waiting). v.arrival < arrived)) (sym is)
          (w_both (λ (v : Waiting). v.arrival < arrived) g.front g.behind (w_front (λ (v : Waiting). v.arrival < arrived) g.front (g.here ∷ g.behind) early) (w_behind (λ (v : Waiting). v.arrival < arrived) g.front (g.here ∷ g.behind) early).1);
      numbers = subst (λ (ks : List ℕ). AreNumbers ks size) (sym (append_assoc free (n ∷ []) (map node_of now)))
          (moved (free ++ map node_of g.front) (map node_of g.behind) free (map node_of now) n size
          (append_assoc free (map node_of g.front) (map node_of g.behind) ∙ ap (λ (ks : List ℕ). free ++ ks) (sym nodes_now))
          (subst (λ (ks : List ℕ). AreNumbers ks size) (ap (λ (ks : List ℕ). free ++ ks) nodes ∙ sym (append_assoc free (map node_of g.front) (n ∷ map node_of g.behind))) r.numbers));
      room = fits;
      alike = r.alike;
      agree = λ k. ap (λ (ws : List Waiting). owner_of k (map owned ws)) is
          ∙ ap (owner_of k) (owned_both g.front g.behind)
          ∙ owner_less n k (owned g.here) (map owned g.front) (map owned g.behind) g.node (owned_none n g.front (misses_front n (map node_of g.front) (map node_of g.behind) miss)) (owned_none n g.behind (misses_behind n (map node_of g.front) (map node_of g.behind) miss))
          ∙ ap (λ (q : Option ℕ). cond (nat_eq k n) None q) (sym (ap (owner_of k) (ap (map owned) g.parts ∙ owned_both g.front (g.here ∷ g.behind))) ∙ r.agree k)
          ∙ sym (told k);
      counted = shorter (length order) (length now) (length g.front) (length g.behind) (ap length g.parts ∙ length-append g.front (g.here ∷ g.behind)) (ap length is ∙ length-append g.front g.behind) r.counted counted;
    }
  where
    shorter : (a b c d : ℕ) → a ≡ c + suc d → b ≡ c + d → length pairs ≡ a → length after + 1 ≡ length pairs → length after ≡ b
    shorter a b c d e f g h = omega arith

-- one more number
pub ready_wider : (order : List Waiting) (size : ℕ) (pairs : List Owned) (wide : ℕ) (free : List ℕ) (arrived capacity room : ℕ)
    → AreReady order size pairs wide free arrived capacity → size + 1 ≤ room → AreReady order (size + 1) pairs (wide + 1) (free ++ (size + 1) ∷ []) arrived room
ready_wider order size pairs wide free arrived capacity room r fits = record {
  early = r.early;
  numbers = wider free (map node_of order) size r.numbers;
  room = fits;
  alike = let e = r.alike in omega arith;
  agree = r.agree;
  counted = r.counted;
}

-- said of what is equal, with room enough
pub ready_is : (order : List Waiting) (size : ℕ) (pairs : List Owned) (wide : ℕ) (free : List ℕ) (arrived capacity : ℕ)
    (order2 : List Waiting) (size2 : ℕ) (pairs2 : List Owned) (wide2 : ℕ) (free2 : List ℕ) (room : ℕ)
    → order2 ≡ order → size2 ≡ size → pairs2 ≡ pairs → wide2 ≡ wide → free2 ≡ free → size ≤ room
    → AreReady order size pairs wide free arrived capacity → AreReady order2 size2 pairs2 wide2 free2 arrived room
ready_is order size pairs wide free arrived capacity order2 size2 pairs2 wide2 free2 room a b c d e le r =
    subst (λ (ws : List Waiting). AreReady ws size2 pairs2 wide2 free2 arrived room) (sym a)
    (subst (λ (n : ℕ). AreReady order n pairs2 wide2 free2 arrived room) (sym b)
    (subst (λ (ps : List Owned). AreReady order size ps wide2 free2 arrived room) (sym c)
    (subst (λ (n : ℕ). AreReady order size pairs n free2 arrived room) (sym d)
    (subst (λ (ks : List ℕ). AreReady order size pairs wide ks arrived room) (sym e)
    (record { early = r.early; numbers = r.numbers; room = le; alike = r.alike; agree = r.agree; counted = r.counted })))))

-- so many numbers there are
pub ready_count : (order : List Waiting) (size : ℕ) (pairs : List Owned) (wide : ℕ) (free : List ℕ) (arrived capacity : ℕ) → AreReady order size pairs wide free arrived capacity
    → length free + length (by_arrival order) ≡ size
ready_count order size pairs wide free arrived capacity r = ap (λ (n : ℕ). length free + n) (sorted_length order ∙ sym (long order)) ∙ sym (length-append free (map node_of order)) ∙ r.numbers.counted
  where
    long : (ws : List Waiting) → length (map node_of ws) ≡ length ws
    long [] = refl
    long (w ∷ ws) = ap (λ (k : ℕ). suc k) (long ws)

-- ---- by owner

-- a number that has a request isn't missing among the requests
pub no_node : (ws : List Waiting) (n : ℕ) → HasNode ws n → AllByRecursion (λ w. w.node ≢ n) ws → ⊥
no_node ws n h g = (w_behind (λ w. w.node ≢ n) h.front (h.here ∷ h.behind) (subst (AllByRecursion (λ (w : Waiting). w.node ≢ n)) h.parts g)).0 h.node

-- where an owner has a newest number, a request of that owner waits
pub newest_has : (order : List Waiting) (pairs : List Owned) (o : ℕ) (r : Option ℕ) → ((k : ℕ) → owner_of k (map owned order) ≡ owner_of k pairs)
    → IfSome r (λ k. owner_of k pairs ≡ Some o) → IfSome r (HasOwner (by_arrival order) o)
newest_has order pairs o None agree h = tt
newest_has order pairs o (Some k) agree h = owner_sorted order o k (has_owned k o order (agree k ∙ h))

-- where an owner has no newest number, no request of that owner waits
pub newest_lacks : (order : List Waiting) (pairs : List Owned) (o : ℕ) (r : Option ℕ) → Differ (map node_of order) → ((k : ℕ) → owner_of k (map owned order) ≡ owner_of k pairs)
    → IfNone r ((k : ℕ) → owner_of k pairs ≢ Some o) → IfNone r (AllByRecursion (λ w. w.owner ≢ o) (by_arrival order))
newest_lacks order pairs o (Some k) d agree h = tt
newest_lacks order pairs o None d agree h = sorted_all (λ w. w.owner ≢ o) order (none_owned o order d (λ k e. h k (sym (agree k) ∙ e)))

not_owner : (o : ℕ) (w : Waiting) → w.owner ≢ o → nat_eq w.owner o ≡ false
not_owner o w ne = elim (nat_eq w.owner o) as (λ b. nat_eq w.owner o ≡ b → b ≡ false) [
  | true ↦ λ e. absurd (ne (eqb-true w.owner o e))
  | false ↦ λ e. refl
] refl

any_there : (o : ℕ) (xs ys : List Waiting) (w : Waiting) → w.owner ≡ o → list_any (λ (v : Waiting). nat_eq v.owner o) (xs ++ w ∷ ys) ≡ true
any_there o [] ys w is = ap (λ (b : Bool). b || list_any (λ (v : Waiting). nat_eq v.owner o) ys) (eq-eqb w.owner o is)
any_there o (x ∷ xs) ys w is = by (nat_eq x.owner o) (any_there o xs ys w is)
  where
    by : (b : Bool) → list_any (λ (v : Waiting). nat_eq v.owner o) (xs ++ w ∷ ys) ≡ true → (b || list_any (λ (v : Waiting). nat_eq v.owner o) (xs ++ w ∷ ys)) ≡ true
    by true h = refl
    by false h = h

-- where a request of an owner waits, the test for that owner says so
pub any_owner : (ws : List Waiting) (o k : ℕ) → HasOwner ws o k → list_any (λ (v : Waiting). nat_eq v.owner o) ws ≡ true
any_owner ws o k h = ap (list_any (λ (v : Waiting). nat_eq v.owner o)) h.has.parts ∙ any_there o h.has.front h.has.behind h.has.here h.owner

-- where no request of an owner waits, the test for that owner says no
pub none_owner : (o : ℕ) (ws : List Waiting) → AllByRecursion (λ w. w.owner ≢ o) ws → list_any (λ (v : Waiting). nat_eq v.owner o) ws ≡ false
none_owner o [] h = refl
none_owner o (w ∷ ws) h = ap (λ (b : Bool). b || list_any (λ (v : Waiting). nat_eq v.owner o) ws) (not_owner o w h.0) ∙ none_owner o ws h.1

-- the requests of the others
pub filter_same : (o : ℕ) (ws : List Waiting) → AllByRecursion (λ w. w.owner ≢ o) ws → filter (λ (w : Waiting). not (nat_eq w.owner o)) ws ≡ ws
filter_same o [] h = refl
filter_same o (w ∷ ws) h =
    ap (λ (b : Bool). cond (not b) (w ∷ filter (λ (v : Waiting). not (nat_eq v.owner o)) ws) (filter (λ (v : Waiting). not (nat_eq v.owner o)) ws)) (not_owner o w h.0)
    ∙ ap (λ (us : List Waiting). w ∷ us) (filter_same o ws h.1)

-- without one request of an owner, the requests of all others are the same
pub filter_less : (o : ℕ) (xs ys : List Waiting) (w : Waiting) → w.owner ≡ o
    → filter (λ (v : Waiting). not (nat_eq v.owner o)) (xs ++ ys) ≡ filter (λ (v : Waiting). not (nat_eq v.owner o)) (xs ++ w ∷ ys)
filter_less o [] ys w is = sym (ap (λ (b : Bool). cond (not b) (w ∷ filter (λ (v : Waiting). not (nat_eq v.owner o)) ys) (filter (λ (v : Waiting). not (nat_eq v.owner o)) ys)) (eq-eqb w.owner o is))
filter_less o (x ∷ xs) ys w is = ap (λ (us : List Waiting). cond (not (nat_eq x.owner o)) (x ∷ us) us) (filter_less o xs ys w is)

-- an owner without a request counts none
pub count_same : (o : ℕ) (ws : List Waiting) → AllByRecursion (λ w. w.owner ≢ o) ws → count_by (λ (w : Waiting). nat_eq w.owner o) ws ≡ 0
count_same o [] h = refl
count_same o (w ∷ ws) h =
    let here : cond (nat_eq w.owner o) 1 0 ≡ 0 = ap {B = ℕ} (λ b. cond b 1 0) (not_owner o w h.0) in
    let rest : count_by (λ (v : Waiting). nat_eq v.owner o) ws ≡ 0 = count_same o ws h.1 in
    omega (arith, here, rest, sum_by-cons (λ (v : Waiting). cond (nat_eq v.owner o) 1 0) w ws)

-- without one request of an owner, that owner counts one less
pub count_less : (o : ℕ) (xs ys : List Waiting) (w : Waiting) → w.owner ≡ o
    → count_by (λ (v : Waiting). nat_eq v.owner o) (xs ++ w ∷ ys) ≡ count_by (λ (v : Waiting). nat_eq v.owner o) (xs ++ ys) + 1
count_less o [] ys w is =
    let here : count_by (λ (v : Waiting). nat_eq v.owner o) (w ∷ ys) ≡ 1 + count_by (λ (v : Waiting). nat_eq v.owner o) ys =
    sum_by-cons (λ (v : Waiting). cond (nat_eq v.owner o) 1 0) w ys ∙ ap (λ (b : Bool). cond b 1 0 + count_by (λ (v : Waiting). nat_eq v.owner o) ys) (eq-eqb w.owner o is) in
    omega arith
count_less o (x ∷ xs) ys w is =
    let more = count_less o xs ys w is in
    let a = sum_by-cons (λ (v : Waiting). cond (nat_eq v.owner o) 1 0) x (xs ++ w ∷ ys) in
    let b = sum_by-cons (λ (v : Waiting). cond (nat_eq v.owner o) 1 0) x (xs ++ ys) in
    a ∙ ap (λ (n : ℕ). cond (nat_eq x.owner o) 1 0 + n) more ∙ by (cond (nat_eq x.owner o) 1 0) (count_by (λ (v : Waiting). nat_eq v.owner o) (xs ++ ys)) ∙ ap (λ (n : ℕ). n + 1) (sym b)
  where
    by : (m n : ℕ) → m + (n + 1) ≡ (m + n) + 1
    by m n = omega arith

-- with one request taken out there is one less
pub one_shorter : (ws now : List Waiting) (n : ℕ) → (h : HasNode ws n) → now ≡ h.front ++ h.behind → length now + 1 ≡ length ws
one_shorter ws now n h is =
    let a : length now ≡ length h.front + length h.behind = ap length is ∙ length-append h.front h.behind in
    let b : length ws ≡ length h.front + suc (length h.behind) = ap length h.parts ∙ length-append h.front (h.here ∷ h.behind) in
    omega arith
