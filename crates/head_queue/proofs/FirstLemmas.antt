-- The first request from a place on is the one that the head serves first.
use Rattle.std.proofs.Common.{◌≡◌, ◌≢◌, ℕ, ◌+◌, ◌*◌, ◌^◌, ◌<◌, ◌≤◌, true, not, nat_lt, List, [], ◌∷◌, ◌++◌, map, Option, Some, None, IsSome, IfSome, IfNone, refl, ap, sym, subst, ◌∙◌, arith, inl, inr, ◌⊎◌}
use Rattle.std.proofs.lemmas.Bool.Decides.{nat_tests}
use Rattle.std.specs.List.{AllByRecursion}
use Rattle.tape_types.specs.declared.cartridges.Part.{Part}
use Rattle.tape_types.specs.declared.cartridges.Part.TheVariants.{Ip, Dp}
use Rattle.tape_types.specs.declared.cartridges.Place.{Place}
use Rattle.tape_types.specs.Cartridges.{other}
use Rattle.head_queue.specs.declared.entries.QueueEntry.{QueueEntry}
use Rattle.head_queue.specs.Cuts.{first_of}
use Rattle.head_queue.specs.Waiting.{Waiting}
use Rattle.head_queue.specs.EventLaws.Waiting.{as_number, same_part}
use Rattle.head_queue.specs.Keys.{is_upto, key_within, comes_first, stands_in}
use Rattle.head_queue.specs.Entries.{entry_at, waiting, waiting_at}
use Rattle.head_queue.specs.Ranks.{rank, rank_of, part_number, IsFit, Rising}
use Rattle.head_queue.specs.Kept.{AreKept, AreOrdered, IsFirst, IsWalked, IsNoneBefore}
use Rattle.head_queue.proofs.RingLemmas.{all_behind}
use Rattle.head_queue.proofs.WalkLemmas.{some_none}
use Rattle.head_queue.proofs.KeptLemmas.{map_both, w_behind, w_both, w_map, rising_behind}
use Rattle.head_queue.proofs.RankLemmas.{lesser, alike, ahead_first, in_order, digits}

weak : (P Q : Waiting → Type 0) → ((v : Waiting) → P v → Q v) → (ws : List Waiting) → AllByRecursion P ws → AllByRecursion Q ws
weak P Q f [] h = tt
weak P Q f (w ∷ ws) h = (f w h.0, weak P Q f ws h.1)

zip : (P Q R : Waiting → Type 0) → ((v : Waiting) → P v → Q v → R v) → (ws : List Waiting) → AllByRecursion P ws → AllByRecursion Q ws → AllByRecursion R ws
zip P Q R f [] h g = tt
zip P Q R f (w ∷ ws) h g = (f w h.0 g.0, zip P Q R f ws h.1 g.1)

-- ---- where a walk ends

-- where a walk ends before a request, that is the first from a rank on
pub walked_some : (es : List (Option QueueEntry)) (members : List ℕ) (m at next : ℕ) (e : QueueEntry) → (w : IsWalked es m members at) → next ≡ first_of 0 w.passed.cut.behind
    → entry_at es next ≡ Some e → IsFirst (map (waiting_at es) members) m (waiting next (Some e))
walked_some es members m at next e w next_is is = by w.passed.cut.behind w.passed.cut.parts next_is w.ends
  where
    by : (behind : List ℕ) → members ≡ w.passed.cut.front ++ behind → next ≡ first_of 0 behind → IsNoneBefore es m behind → IsFirst (map (waiting_at es) members) m (waiting next (Some e))
    by [] parts here ends = let none : None ≡ Some e = sym (ap (entry_at es) here) ∙ is in cc
    by (b ∷ bs) parts here ends =
        let same : waiting_at es b ≡ waiting next (Some e) = ap (waiting_at es) (sym here) ∙ ap (waiting next) is in
        record {
          front = map (waiting_at es) w.passed.cut.front;
          behind = map (waiting_at es) bs;
          parts = ap (map (waiting_at es)) parts ∙ map_both (waiting_at es) w.passed.cut.front (b ∷ bs) ∙ ap (λ (v : Waiting). map (waiting_at es) w.passed.cut.front ++ v ∷ map (waiting_at es) bs) same;
          below = w_map (λ v. rank v < m) (waiting_at es) w.passed.cut.front w.passed.below;
          upto = subst (λ (v : Waiting). m ≤ rank v) same ends;
        }

-- where a walk ends with nothing behind it, all of a partition stand before the rank
pub walked_none : (es : List (Option QueueEntry)) (members : List ℕ) (size m at next : ℕ) (part : Part) → AreKept es members size → (w : IsWalked es m members at) → next ≡ first_of 0 w.passed.cut.behind
    → entry_at es next ≡ None → AllByRecursion (λ v. v.place.part ≡ part → rank v < m) (map (waiting_at es) members)
walked_none es members size m at next part kept w next_is is = by w.passed.cut.behind w.passed.cut.parts next_is
  where
    by : (behind : List ℕ) → members ≡ w.passed.cut.front ++ behind → next ≡ first_of 0 behind → AllByRecursion (λ v. v.place.part ≡ part → rank v < m) (map (waiting_at es) members)
    by [] parts here =
        subst (AllByRecursion (λ (v : Waiting). v.place.part ≡ part → rank v < m)) (sym (ap (map (waiting_at es)) parts ∙ map_both (waiting_at es) w.passed.cut.front []))
        (w_both (λ v. v.place.part ≡ part → rank v < m) (map (waiting_at es) w.passed.cut.front) [] (weak (λ v. rank v < m) (λ v. v.place.part ≡ part → rank v < m) (λ v h _. h) (map (waiting_at es) w.passed.cut.front) (w_map (λ v. rank v < m) (waiting_at es) w.passed.cut.front w.passed.below)) tt)
    by (b ∷ bs) parts here =
        absurd (some_none (entry_at es b) (ap (entry_at es) (sym here) ∙ is)
        (all_behind (λ k. IsSome (entry_at es k)) w.passed.cut.front (b ∷ bs) (subst (AllByRecursion (λ k. IsSome (entry_at es k))) parts kept.filled)).0)

-- ---- ranks of one partition

part_upto : (x p a y q b : ℕ) → p < 2 ^ 64 → a < 2 ^ 64 → (y * 2 ^ 64 + q) * 2 ^ 64 + b ≤ (x * 2 ^ 64 + p) * 2 ^ 64 + a → y ≤ x
part_upto x p a y q b hp ha le = omega arith

same_number : (a b : Part) → part_number a ≡ part_number b → a ≡ b
same_number Ip Ip e = refl
same_number Ip Dp e = cc
same_number Dp Ip e = cc
same_number Dp Dp e = refl

pos_below : (x p a pos : ℕ) → (x * 2 ^ 64 + p) * 2 ^ 64 + a < (x * 2 ^ 64 + pos) * 2 ^ 64 + 0 → p < pos
pos_below x p a pos lt = omega arith

pos_upto : (x p a pos : ℕ) → a < 2 ^ 64 → (x * 2 ^ 64 + pos) * 2 ^ 64 + 0 ≤ (x * 2 ^ 64 + p) * 2 ^ 64 + a → pos ≤ p
pos_upto x p a pos ha le = omega arith

-- of the partition, and before a position
below_pos : (part : Part) (pos : ℕ) (v : Waiting) → v.place.part ≡ part → rank v < rank_of (record { part = part; pos = pos }) 0 → v.place.pos < pos
below_pos part pos v e lt = pos_below (part_number part) v.place.pos v.arrival pos (subst (λ (x : ℕ). (x * 2 ^ 64 + v.place.pos) * 2 ^ 64 + v.arrival < (part_number part * 2 ^ 64 + pos) * 2 ^ 64 + 0) (ap part_number e) lt)

from_pos : (part : Part) (pos : ℕ) (v : Waiting) → IsFit v → v.place.part ≡ part → rank_of (record { part = part; pos = pos }) 0 ≤ rank v → pos ≤ v.place.pos
from_pos part pos v fit e le = pos_upto (part_number part) v.place.pos v.arrival pos fit.arrival (subst (λ (x : ℕ). (part_number part * 2 ^ 64 + pos) * 2 ^ 64 + 0 ≤ (x * 2 ^ 64 + v.place.pos) * 2 ^ 64 + v.arrival) (ap part_number e) le)

-- two of one partition
lexical : (part : Part) (w v : Waiting) → IsFit w → IsFit v → w.place.part ≡ part → v.place.part ≡ part → rank w < rank v
    → (w.place.pos < v.place.pos) ⊎ ((w.place.pos ≡ v.place.pos) × (w.arrival + 1 ≤ v.arrival + 1))
lexical part w v fw fv ew ev lt = by (digits (part_number w.place.part) w.place.pos w.arrival (part_number v.place.part) v.place.pos v.arrival fw.pos fw.arrival fv.pos fv.arrival lt)
  where
    by : (part_number w.place.part < part_number v.place.part) ⊎ ((part_number w.place.part ≡ part_number v.place.part) × ((w.place.pos < v.place.pos) ⊎ ((w.place.pos ≡ v.place.pos) × (w.arrival < v.arrival))))
        → (w.place.pos < v.place.pos) ⊎ ((w.place.pos ≡ v.place.pos) × (w.arrival + 1 ≤ v.arrival + 1))
    by (inl l) = let e : part_number w.place.part ≡ part_number v.place.part = ap part_number (ew ∙ sym ev) in absurd (omega arith)
    by (inr h) = rest h.1
      where
        rest : (w.place.pos < v.place.pos) ⊎ ((w.place.pos ≡ v.place.pos) × (w.arrival < v.arrival)) → (w.place.pos < v.place.pos) ⊎ ((w.place.pos ≡ v.place.pos) × (w.arrival + 1 ≤ v.arrival + 1))
        rest (inl l) = inl l
        rest (inr g) = inr (g.0, let lt : w.arrival < v.arrival = g.1 in omega arith)

-- ---- the first of a partition from a position on

-- the first one that isn't of the partition has none of it behind
pub other_first : (ws : List Waiting) (place : Place) (w : Waiting) → AreOrdered ws → IsFirst ws (rank_of place 0) w → w.place.part ≢ place.part
    → AllByRecursion (λ v. v.place.part ≡ place.part → rank v < rank_of place 0) ws
other_first ws place w ordered first ne =
    let rising : Rising (first.front ++ w ∷ first.behind) = subst Rising first.parts ordered.rising in
    let fit : AllByRecursion IsFit (first.front ++ w ∷ first.behind) = subst (AllByRecursion IsFit) first.parts ordered.fit in
    let fits = w_behind IsFit first.front (w ∷ first.behind) fit in
    let least : rank_of place 0 ≤ rank w = first.upto in
    let far : part_number place.part ≤ part_number w.place.part = part_upto (part_number w.place.part) w.place.pos w.arrival (part_number place.part) place.pos 0 fits.0.pos fits.0.arrival least in
    let P : Waiting → Type 0 = λ v. v.place.part ≡ place.part → rank v < rank_of place 0 in
    subst (AllByRecursion P) (sym first.parts)
    (w_both P first.front (w ∷ first.behind) (weak (λ v. rank v < rank_of place 0) P (λ v h _. h) first.front first.below) (
      (λ e. absurd (ne e)),
      zip (λ v. rank w < rank v) IsFit P (λ v lt fv e.
          let upto : rank w ≤ rank v = omega arith in
          let more : part_number w.place.part ≤ part_number v.place.part = part_upto (part_number v.place.part) v.place.pos v.arrival (part_number w.place.part) w.place.pos w.arrival fv.pos fv.arrival upto in
          let same : part_number v.place.part ≡ part_number place.part = ap part_number e in
          let equal : part_number w.place.part ≡ part_number place.part = omega arith in
          absurd (ne (same_number w.place.part place.part equal))) first.behind (rising_behind first.front (w ∷ first.behind) rising).0 fits.1,
    ))

-- what stands at the head or past it comes first
pub ahead : (ws : List Waiting) (part : Part) (pos : ℕ) (w : Waiting) → AreOrdered ws → IsFirst ws (rank_of (record { part = part; pos = pos }) 0) w → w.place.part ≡ part
    → AllByRecursion (λ v. v.place.part ≡ part → comes_first pos w v ≡ true) ws
ahead ws part pos w ordered first ew =
    let rising : Rising (first.front ++ w ∷ first.behind) = subst Rising first.parts ordered.rising in
    let fit : AllByRecursion IsFit (first.front ++ w ∷ first.behind) = subst (AllByRecursion IsFit) first.parts ordered.fit in
    let fits = w_behind IsFit first.front (w ∷ first.behind) fit in
    let here : pos ≤ w.place.pos = from_pos part pos w fits.0 ew first.upto in
    let P : Waiting → Type 0 = λ v. v.place.part ≡ part → comes_first pos w v ≡ true in
    subst (AllByRecursion P) (sym first.parts)
    (w_both P first.front (w ∷ first.behind)
    (weak (λ v. rank v < rank_of (record { part = part; pos = pos }) 0) P (λ v lt e. ahead_first pos w.place.pos v.place.pos (w.arrival + 1) (v.arrival + 1) here (below_pos part pos v e lt)) first.front first.below) (
      (λ e. in_order pos w.place.pos w.place.pos (w.arrival + 1) (w.arrival + 1) refl (inr (refl, omega arith))),
      zip (λ v. rank w < rank v) IsFit P (λ v lt fv e. in_order pos w.place.pos v.place.pos (w.arrival + 1) (v.arrival + 1) (sides pos w.place.pos v.place.pos here (lexical part w v fits.0 fv ew e lt)) (lexical part w v fits.0 fv ew e lt))
          first.behind (rising_behind first.front (w ∷ first.behind) rising).0 fits.1,
    ))
  where
    sides : (pos p q : ℕ) {a b : ℕ} → pos ≤ p → (p < q) ⊎ ((p ≡ q) × (a ≤ b)) → nat_lt p pos ≡ nat_lt q pos
    sides pos p q le (inl l) = grind (arith, nat_tests)
    sides pos p q le (inr h) = ap (λ (n : ℕ). nat_lt n pos) h.0

-- where none is ahead, the lowest comes first
round : (ws : List Waiting) (part : Part) (pos : ℕ) (w : Waiting) → AreOrdered ws → IsFirst ws (rank_of (record { part = part; pos = 0 }) 0) w → w.place.part ≡ part
    → AllByRecursion (λ v. v.place.part ≡ part → rank v < rank_of (record { part = part; pos = pos }) 0) ws
    → AllByRecursion (λ v. v.place.part ≡ part → comes_first pos w v ≡ true) ws
round ws part pos w ordered first ew behind =
    let rising : Rising (first.front ++ w ∷ first.behind) = subst Rising first.parts ordered.rising in
    let fit : AllByRecursion IsFit (first.front ++ w ∷ first.behind) = subst (AllByRecursion IsFit) first.parts ordered.fit in
    let fits = w_behind IsFit first.front (w ∷ first.behind) fit in
    let B : Waiting → Type 0 = λ v. v.place.part ≡ part → rank v < rank_of (record { part = part; pos = pos }) 0 in
    let backs : AllByRecursion B (first.front ++ w ∷ first.behind) = subst (AllByRecursion B) first.parts behind in
    let back = w_behind B first.front (w ∷ first.behind) backs in
    let low : w.place.pos < pos = below_pos part pos w ew (back.0 ew) in
    let P : Waiting → Type 0 = λ v. v.place.part ≡ part → comes_first pos w v ≡ true in
    subst (AllByRecursion P) (sym first.parts)
    (w_both P first.front (w ∷ first.behind)
    (weak (λ v. rank v < rank_of (record { part = part; pos = 0 }) 0) P (λ v lt e. let none : v.place.pos < 0 = below_pos part 0 v e lt in absurd (omega arith)) first.front first.below) (
      (λ e. in_order pos w.place.pos w.place.pos (w.arrival + 1) (w.arrival + 1) refl (inr (refl, omega arith))),
      zip (λ v. IsFit v × (rank w < rank v)) B P (λ v h b e. in_order pos w.place.pos v.place.pos (w.arrival + 1) (v.arrival + 1)
          (lows pos w.place.pos v.place.pos low (below_pos part pos v e (b e))) (lexical part w v fits.0 h.0 ew e h.1))
          first.behind (zip IsFit (λ v. rank w < rank v) (λ v. IsFit v × (rank w < rank v)) (λ v f l. (f, l)) first.behind fits.1 (rising_behind first.front (w ∷ first.behind) rising).0) back.1,
    ))
  where
    lows : (pos p q : ℕ) → p < pos → q < pos → nat_lt p pos ≡ nat_lt q pos
    lows pos p q l m = grind (arith, nat_tests)

none_of : (ws : List Waiting) (part : Part) → AllByRecursion (λ v. v.place.part ≡ part → rank v < rank_of (record { part = part; pos = 0 }) 0) ws → AllByRecursion (λ v. v.place.part ≢ part) ws
none_of ws part h = weak (λ v. v.place.part ≡ part → rank v < rank_of (record { part = part; pos = 0 }) 0) (λ v. v.place.part ≢ part)
    (λ v g e. let none : v.place.pos < 0 = below_pos part 0 v e (g e) in omega arith) ws h

-- ---- both partitions

-- what is served first on the head's partition is served first of all
pub part_first : (ws : List Waiting) (head : Place) (w : Waiting) → w.place.part ≡ head.part → AllByRecursion (λ v. v.place.part ≡ head.part → comes_first head.pos w v ≡ true) ws
    → AllByRecursion (λ v. stands_in head w v ≡ true) ws
part_first ws head w ew h = weak (λ v. v.place.part ≡ head.part → comes_first head.pos w v ≡ true) (λ v. stands_in head w v ≡ true) (λ v g. by (key_within head.pos w.place.pos (w.arrival + 1)) (key_within head.pos v.place.pos (v.arrival + 1)) head.part w.place.part v.place.part ew g) ws h
  where
    by : (xs ys : List ℕ) (h p q : Part) → p ≡ h → (q ≡ h → is_upto xs ys ≡ true) → is_upto (as_number (not (same_part p h)) ∷ xs) (as_number (not (same_part q h)) ∷ ys) ≡ true
    by xs ys Ip Ip Ip e g = alike 0 0 xs ys refl (g refl)
    by xs ys Ip Ip Dp e g = lesser 0 1 xs ys (omega arith)
    by xs ys Ip Dp q e g = cc
    by xs ys Dp Ip q e g = cc
    by xs ys Dp Dp Ip e g = lesser 0 1 xs ys (omega arith)
    by xs ys Dp Dp Dp e g = alike 0 0 xs ys refl (g refl)

part_second : (ws : List Waiting) (head : Place) (w : Waiting) → w.place.part ≡ other head.part → AllByRecursion (λ v. v.place.part ≢ head.part) ws
    → AllByRecursion (λ v. v.place.part ≡ other head.part → comes_first head.pos w v ≡ true) ws → AllByRecursion (λ v. stands_in head w v ≡ true) ws
part_second ws head w ew none h = zip (λ v. v.place.part ≢ head.part) (λ v. v.place.part ≡ other head.part → comes_first head.pos w v ≡ true) (λ v. stands_in head w v ≡ true)
    (λ v n g. by (key_within head.pos w.place.pos (w.arrival + 1)) (key_within head.pos v.place.pos (v.arrival + 1)) head.part w.place.part v.place.part ew n g) ws none h
  where
    by : (xs ys : List ℕ) (h p q : Part) → p ≡ other h → q ≢ h → (q ≡ other h → is_upto xs ys ≡ true) → is_upto (as_number (not (same_part p h)) ∷ xs) (as_number (not (same_part q h)) ∷ ys) ≡ true
    by xs ys Ip Ip q e n g = cc
    by xs ys Ip Dp Ip e n g = absurd (n refl)
    by xs ys Ip Dp Dp e n g = alike 1 1 xs ys refl (g refl)
    by xs ys Dp Ip Ip e n g = alike 1 1 xs ys refl (g refl)
    by xs ys Dp Ip Dp e n g = absurd (n refl)
    by xs ys Dp Dp q e n g = cc

no_part : (ws : List Waiting) (part : Part) → AllByRecursion (λ v. v.place.part ≢ part) ws → AllByRecursion (λ v. v.place.part ≢ other part) ws → ws ≡ []
no_part [] part h g = refl
no_part (w ∷ ws) part h g = absurd (by part w.place.part h.0 g.0)
  where
    by : (p q : Part) → q ≢ p → q ≢ other p → ⊥
    by Ip Ip h g = h refl
    by Ip Dp h g = g refl
    by Dp Ip h g = g refl
    by Dp Dp h g = h refl

-- ---- what the two searches answer

-- where nothing is ahead of the head, the first of its partition is served first there
pub second_least : (ws : List Waiting) (part : Part) (pos : ℕ) (r : Option (ℕ × QueueEntry)) → AreOrdered ws
    → IfSome r (λ p. IsFirst ws (rank_of (record { part = part; pos = 0 }) 0) (waiting p.0 (Some p.1))) → IfSome r (λ p. p.1.place.part ≡ part)
    → AllByRecursion (λ v. v.place.part ≡ part → rank v < rank_of (record { part = part; pos = pos }) 0) ws
    → IfSome r (λ p. AllByRecursion (λ v. v.place.part ≡ part → comes_first pos (waiting p.0 (Some p.1)) v ≡ true) ws)
second_least ws part pos None ordered first is behind = tt
second_least ws part pos (Some p) ordered first is behind = round ws part pos (waiting p.0 (Some p.1)) ordered first is behind

-- where nothing is found from position 0 on, nothing waits on the partition
pub second_none : (ws : List Waiting) (part : Part) (r : Option (ℕ × QueueEntry)) → IfNone r (AllByRecursion (λ v. v.place.part ≡ part → rank v < rank_of (record { part = part; pos = 0 }) 0) ws)
    → IfNone r (AllByRecursion (λ v. v.place.part ≢ part) ws)
second_none ws part None h = none_of ws part h
second_none ws part (Some p) h = tt

-- where the head's partition has no request, the first of the other is served first of all
pub far_least : (ws : List Waiting) (head : Place) (r : Option (ℕ × QueueEntry)) → AllByRecursion (λ v. v.place.part ≢ head.part) ws → IfSome r (λ p. p.1.place.part ≡ other head.part)
    → IfSome r (λ p. AllByRecursion (λ v. v.place.part ≡ other head.part → comes_first head.pos (waiting p.0 (Some p.1)) v ≡ true) ws)
    → IfSome r (λ p. AllByRecursion (λ v. stands_in head (waiting p.0 (Some p.1)) v ≡ true) ws)
far_least ws head None none is h = tt
far_least ws head (Some p) none is h = part_second ws head (waiting p.0 (Some p.1)) is none h

-- where neither partition has a request, none waits at all
pub far_none : (ws : List Waiting) (part : Part) (r : Option (ℕ × QueueEntry)) → AllByRecursion (λ v. v.place.part ≢ part) ws → IfNone r (AllByRecursion (λ v. v.place.part ≢ other part) ws) → IfNone r (ws ≡ [])
far_none ws part None h g = no_part ws part h g
far_none ws part (Some p) h g = tt
