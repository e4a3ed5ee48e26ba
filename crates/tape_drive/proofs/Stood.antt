-- The images of one partition: what `image_of` gives is what stood at some moment, with a Torn or without.
use Rattle.std.proofs.Common.{ℕ, ◌+◌, ◌-◌, ◌≤◌, ◌<◌, ◌≡◌, ◌⊎◌, ⊎_elim, inl, inr, Bool, true, false, List, [], ◌∷◌, ◌++◌, take, length, Option, Some, None, refl, sym, ◌∙◌, ap, arith}
use Rattle.std.specs.Prelude.{nat_lt, if◌then◌else◌}
use Rattle.std.proofs.lemmas.Bool.{cases_lt, lt-ltb, le-ltb, ltb-true}
use Rattle.std.proofs.lemmas.List.{length-take, take_all}
use Rattle.std.proofs.Math.Seq.{take-append_seam}
use Rattle.tape_types.specs.declared.cartridges.Part.{Part}
use Rattle.tape_types.specs.declared.cartridges.Item.{Item}
use Rattle.tape_types.specs.declared.cartridges.Item.TheVariants as item
use Rattle.tape_drive.specs.declared.record.Act.{Act}
use Rattle.tape_drive.specs.declared.record.Act.TheVariants.{Put, Flushed, Noted, Settled}
use Rattle.tape_drive.specs.declared.record.DoneCommand.{DoneCommand}
use Rattle.tape_drive.specs.Record.{front, IsStage}
use Rattle.tape_drive.specs.Images.{is_same, moments, undone, moments_after, stood_by, stood, earlier_or, next_by, next_put, torn_at, image_of}

-- what a partition may be found as by an act: at a stage of its own, or as it was before
abbrev pub OwnStage : Bool → List Item → List Item → Type 0 → Type 0
OwnStage true items image earlier = IsStage items image ⊎ earlier
OwnStage false items image earlier = earlier

-- what an act leaves that a partition may be found as
abbrev pub StoodBy : Part → Act → List Item → List Item → Type 0 → Type 0
StoodBy part (Put p gone failed) items image earlier = OwnStage (is_same part p) items image earlier
StoodBy part Flushed items image earlier = image ≡ items
StoodBy part (Noted p before) items image earlier = earlier
StoodBy part Settled items image earlier = earlier

-- what a partition may be found as, back over the record
abbrev pub Stood : Part → List Item → List DoneCommand → List Item → Type 0
Stood part items [] image = image ≡ items
Stood part items (e ∷ es) image = StoodBy part e.act items image (Stood part (undone part e.act items) es image)

-- what reads now has stood
now_by : (part : Part) (act : Act) (items : List Item) (E : List Item → List Item → Type 0) → ((l : List Item) → E l l) → StoodBy part act items items (E (undone part act items) items)
now_by part (Put p gone failed) items E all = own (is_same part p)
  where
    own : (b : Bool) → OwnStage b items items (E (if b then front items ++ gone else items) items)
    own true = inl (inr (inr refl))
    own false = all items
now_by part Flushed items E all = refl
now_by part (Noted p before) items E all = all items
now_by part Settled items E all = all items

-- what reads now is among what stood
pub stood_now : (part : Part) (items : List Item) (es : List DoneCommand) → Stood part items es items
stood_now part items [] = refl
stood_now part items (e ∷ es) = now_by part e.act items (λ (l x : List Item). Stood part l es x) (λ (l : List Item). stood_now part l es)

-- after the last moment nothing was written
none_by : (part : Part) (act : Act) (n m : ℕ) (items : List Item) (earlier : Option ℕ) → (n ≤ m → earlier ≡ None) → moments_after act n ≤ m → next_by part act n m items earlier ≡ None
none_by part (Put p gone failed) n m items earlier ih le =
    let none : earlier ≡ None = ih (omega arith) in
    let past : nat_lt n m ≡ true = lt-ltb n m (omega arith) in
    rw (none, past) refl
none_by part Flushed n m items earlier ih le = refl
none_by part (Noted p before) n m items earlier ih le = ih le
none_by part Settled n m items earlier ih le = ih le

-- behind the last moment nothing is written next
pub none_after : (part : Part) (items : List Item) (es : List DoneCommand) (m : ℕ) → moments es ≤ m → next_put part items es m ≡ None
none_after part items [] m le = refl
none_after part items (e ∷ es) m le =
    none_by part e.act (moments es) m items (next_put part (undone part e.act items) es m) (λ (h : moments es ≤ m). none_after part (undone part e.act items) es m h) le

-- where nothing was written since, it stands as it reads
still_own : (b1 b2 b : Bool) (k : ℕ) (items gone s : List Item) (earlier : Option ℕ) → (b2 ≡ true → earlier ≡ None → s ≡ (if b then front items ++ gone else items))
    → earlier_or earlier (if b1 then None else if b then Some k else None) ≡ None → (if b1 then items else if b2 then s else if b then front items else items) ≡ items
still_own true b2 b k items gone s earlier ih none = refl
still_own false b2 true k items gone s (Some pos) ih none = absurd (cc)
still_own false b2 true k items gone s None ih none = absurd (cc)
still_own false true false k items gone s (Some pos) ih none = absurd (cc)
still_own false true false k items gone s None ih none = ih refl refl
still_own false false false k items gone s earlier ih none = refl

still_by : (part : Part) (act : Act) (n m : ℕ) (items s : List Item) (earlier : Option ℕ) → (m < n → earlier ≡ None → s ≡ undone part act items) → m < moments_after act n
    → next_by part act n m items earlier ≡ None → stood_by part act n m items s ≡ items
still_by part (Put p gone failed) n m items s earlier ih lt none =
    still_own (nat_lt n m) (nat_lt m n) (is_same part p) (length items - 1) items gone s earlier (λ (before : nat_lt m n ≡ true) (e : earlier ≡ None). ih (ltb-true m n before) e) none
still_by part Flushed n m items s earlier ih lt none = refl
still_by part (Noted p before) n m items s earlier ih lt none = ih lt none
still_by part Settled n m items s earlier ih lt none = ih lt none

still_stands : (part : Part) (items : List Item) (es : List DoneCommand) (m : ℕ) → m < moments es → next_put part items es m ≡ None → stood part items es m ≡ items
still_stands part items [] m lt none = refl
still_stands part items (e ∷ es) m lt none =
    still_by part e.act (moments es) m items (stood part (undone part e.act items) es m) (next_put part (undone part e.act items) es m)
    (λ (below : m < moments es) (h : next_put part (undone part e.act items) es m ≡ None). still_stands part (undone part e.act items) es m below h) lt none

-- what stood at a moment
in_own : (b1 b2 b : Bool) (items gone s : List Item) (E : List Item → List Item → Type 0) → ((l : List Item) → E l l) → (b2 ≡ true → E (if b then front items ++ gone else items) s)
    → OwnStage b items (if b1 then items else if b2 then s else if b then front items else items)
    (E (if b then front items ++ gone else items) (if b1 then items else if b2 then s else if b then front items else items))
in_own true b2 true items gone s E all ih = inl (inr (inr refl))
in_own true b2 false items gone s E all ih = all items
in_own false true true items gone s E all ih = inr (ih refl)
in_own false true false items gone s E all ih = ih refl
in_own false false true items gone s E all ih = inl (inl refl)
in_own false false false items gone s E all ih = all items

in_by : (part : Part) (act : Act) (n m : ℕ) (items s : List Item) (E : List Item → List Item → Type 0) → ((l : List Item) → E l l) → (m < n → E (undone part act items) s) → m < moments_after act n
    → StoodBy part act items (stood_by part act n m items s) (E (undone part act items) (stood_by part act n m items s))
in_by part (Put p gone failed) n m items s E all ih lt = in_own (nat_lt n m) (nat_lt m n) (is_same part p) items gone s E all (λ (before : nat_lt m n ≡ true). ih (ltb-true m n before))
in_by part Flushed n m items s E all ih lt = refl
in_by part (Noted p before) n m items s E all ih lt = ih lt
in_by part Settled n m items s E all ih lt = ih lt

stood_in : (part : Part) (items : List Item) (es : List DoneCommand) (m : ℕ) → m < moments es → Stood part items es (stood part items es m)
stood_in part items [] m lt = refl
stood_in part items (e ∷ es) m lt =
    in_by part e.act (moments es) m items (stood part (undone part e.act items) es m) (λ (l x : List Item). Stood part l es x) (λ (l : List Item). stood_now part l es)
    (λ (below : m < moments es). stood_in part (undone part e.act items) es m below) lt

-- the front, once more cut
front_again : (items : List Item) → take (length items - 1) (front items) ≡ front items
front_again items = take_all (length items - 1) (front items) (omega (arith, length-take (length items - 1) items))

front_before : (items gone : List Item) → take (length items - 1) (front items ++ gone) ≡ front items
front_before items gone =
    let len : length (front items) ≡ length items - 1 = omega (arith, length-take (length items - 1) items) in
    ap (λ (k : ℕ). take k (front items ++ gone)) (sym len) ∙ take-append_seam (front items) gone

-- what stood at a moment, cut at the next item, with a Torn
torn_own : (b1 b2 b : Bool) (pos : ℕ) (items gone s : List Item) (earlier : Option ℕ) (E : List Item → List Item → Type 0)
    → (b2 ≡ false → earlier ≡ None) → (b1 ≡ false → b2 ≡ true → earlier ≡ Some pos → E (if b then front items ++ gone else items) (take pos s ++ item.Torn ∷ []))
    → (b2 ≡ true → earlier ≡ None → s ≡ (if b then front items ++ gone else items)) → (b1 ≡ true → b2 ≡ false)
    → earlier_or earlier (if b1 then None else if b then Some (length items - 1) else None) ≡ Some pos
    → OwnStage b items (take pos (if b1 then items else if b2 then s else if b then front items else items) ++ item.Torn ∷ [])
    (E (if b then front items ++ gone else items) (take pos (if b1 then items else if b2 then s else if b then front items else items) ++ item.Torn ∷ []))
torn_own true b2 b pos items gone s earlier E none ih still order is = let e : earlier ≡ None = none (order refl) in absurd (cc)
torn_own false true true pos items gone s (Some q) E none ih still order is = inr (ih refl refl is)
torn_own false true true pos items gone s None E none ih still order is =
    let k : length items - 1 ≡ pos = cc in
    inl (inr (inl (ap (λ (l : List Item). l ++ item.Torn ∷ []) (ap (λ (j : ℕ). take j s) (sym k) ∙ ap (λ (l : List Item). take (length items - 1) l) (still refl refl) ∙ front_before items gone))))
torn_own false true false pos items gone s (Some q) E none ih still order is = ih refl refl is
torn_own false true false pos items gone s None E none ih still order is = absurd (cc)
torn_own false false true pos items gone s (Some q) E none ih still order is = let e : Some q ≡ None = none refl in absurd (cc)
torn_own false false true pos items gone s None E none ih still order is =
    let k : length items - 1 ≡ pos = cc in
    inl (inr (inl (ap (λ (l : List Item). l ++ item.Torn ∷ []) (ap (λ (j : ℕ). take j (front items)) (sym k) ∙ front_again items))))
torn_own false false false pos items gone s (Some q) E none ih still order is = let e : Some q ≡ None = none refl in absurd (cc)
torn_own false false false pos items gone s None E none ih still order is = absurd (cc)

not_before : (m n : ℕ) → nat_lt m n ≡ false → n ≤ m
not_before m n is = ⊎_elim (λ (lt : m < n). let t : nat_lt m n ≡ true = lt-ltb m n lt in absurd (cc)) (λ (le : n ≤ m). le) (cases_lt m n)

torn_by : (part : Part) (act : Act) (n m pos : ℕ) (items s : List Item) (earlier : Option ℕ) (E : List Item → List Item → Type 0)
    → (n ≤ m → earlier ≡ None) → (m < n → earlier ≡ Some pos → E (undone part act items) (take pos s ++ item.Torn ∷ []))
    → (m < n → earlier ≡ None → s ≡ undone part act items) → m < moments_after act n → next_by part act n m items earlier ≡ Some pos
    → StoodBy part act items (take pos (stood_by part act n m items s) ++ item.Torn ∷ []) (E (undone part act items) (take pos (stood_by part act n m items s) ++ item.Torn ∷ []))
torn_by part (Put p gone failed) n m pos items s earlier E none ih still lt is =
    torn_own (nat_lt n m) (nat_lt m n) (is_same part p) pos items gone s earlier E
    (λ (after : nat_lt m n ≡ false). none (not_before m n after))
    (λ (h : nat_lt n m ≡ false) (before : nat_lt m n ≡ true) (e : earlier ≡ Some pos). ih (ltb-true m n before) e)
    (λ (before : nat_lt m n ≡ true) (e : earlier ≡ None). still (ltb-true m n before) e)
    (λ (after : nat_lt n m ≡ true). le-ltb m n (omega (arith, ltb-true n m after))) is
torn_by part Flushed n m pos items s earlier E none ih still lt is = absurd (cc)
torn_by part (Noted p before) n m pos items s earlier E none ih still lt is = ih lt is
torn_by part Settled n m pos items s earlier E none ih still lt is = ih lt is

torn_in : (part : Part) (items : List Item) (es : List DoneCommand) (m pos : ℕ) → m < moments es → next_put part items es m ≡ Some pos → Stood part items es (take pos (stood part items es m) ++ item.Torn ∷ [])
torn_in part items [] m pos lt is = absurd (cc)
torn_in part items (e ∷ es) m pos lt is =
    let l = undone part e.act items in
    torn_by part e.act (moments es) m pos items (stood part l es m) (next_put part l es m) (λ (l2 x : List Item). Stood part l2 es x)
    (λ (h : moments es ≤ m). none_after part l es m h)
    (λ (below : m < moments es) (h : next_put part (undone part e.act items) es m ≡ Some pos). torn_in part (undone part e.act items) es m pos below h)
    (λ (below : m < moments es) (h : next_put part (undone part e.act items) es m ≡ None). still_stands part l es m below h) lt is

-- each image by a cut has stood, with a Torn or without
image_by : (part : Part) (items s : List Item) (es : List DoneCommand) (nx : Option ℕ) (t : Bool) → Stood part items es s → ((pos : ℕ) → nx ≡ Some pos → Stood part items es (take pos s ++ item.Torn ∷ []))
    → Stood part items es (torn_at (if t then nx else None) s)
image_by part items s es nx false plain torn = plain
image_by part items s es None true plain torn = plain
image_by part items s es (Some pos) true plain torn = torn pos refl

-- an image by a cut is among what stood, with or without a Torn
pub image_in : (part : Part) (items : List Item) (es : List DoneCommand) (m : ℕ) (t : Bool) → m < moments es → Stood part items es (image_of part items es m t)
image_in part items es m t lt = image_by part items (stood part items es m) es (next_put part items es m) t (stood_in part items es m lt) (λ (pos : ℕ) (is : next_put part items es m ≡ Some pos). torn_in part items es m pos lt is)

-- some cut gives this image of a partition
abbrev pub IsImage : Part → List Item → List DoneCommand → List Item → Type 0
IsImage part items es image = (m : ℕ) × (t : Bool) × (m < moments es) × (image ≡ image_of part items es m t)

-- which of three a moment is
at_item : (n : ℕ) (x y z : List Item) → (if nat_lt n (n + 1) then x else if nat_lt (n + 1) n then y else z) ≡ x
at_item n x y z = let t : nat_lt n (n + 1) ≡ true = lt-ltb n (n + 1) (omega arith) in rw t refl

at_cut : (n : ℕ) (x y z : List Item) → (if nat_lt n n then x else if nat_lt n n then y else z) ≡ z
at_cut n x y z = let t : nat_lt n n ≡ false = le-ltb n n (omega arith) in rw t refl

at_before : (n m : ℕ) → m < n → (x y z : List Item) → (if nat_lt n m then x else if nat_lt m n then y else z) ≡ y
at_before n m lt x y z =
    let t : nat_lt n m ≡ false = le-ltb n m (omega arith) in
    let u : nat_lt m n ≡ true = lt-ltb m n lt in
    rw (t, u) refl

next_at_cut : (n k : ℕ) (earlier : Option ℕ) → earlier ≡ None → earlier_or earlier (if nat_lt n n then None else if true then Some k else None) ≡ Some k
next_at_cut n k earlier none = let t : nat_lt n n ≡ false = le-ltb n n (omega arith) in rw (none, t) refl

-- an earlier image is one still
keeps_earlier : (s x : List Item) (earlier later : Option ℕ) (t : Bool) → x ≡ torn_at (if t then earlier else None) s → (u : Bool) × (x ≡ torn_at (if u then earlier_or earlier later else None) s)
keeps_earlier s x earlier later false is = (false, is)
keeps_earlier s x (Some pos) later true is = (true, is)
keeps_earlier s x None later true is = (false, is)

module _ (n : ℕ) (items gone x : List Item) (f : ℕ → List Item) (g : ℕ → Option ℕ) (E : Type 0) where
  abbrev Image : Bool → ℕ → Bool → Type 0
  Image b m t = x ≡ torn_at (if t then earlier_or (g m) (if nat_lt n m then None else if b then Some (length items - 1) else None) else None) (if nat_lt n m then items else if nat_lt m n then f m else if b then front items else items)

  from_earlier : (b : Bool) → ((m : ℕ) × (t : Bool) × (m < n) × (x ≡ torn_at (if t then g m else None) (f m))) → (m : ℕ) × (t : Bool) × (m < n + 2) × Image b m t
  from_earlier b h =
      let m = h.0 in
      let lt = h.2 in
      let kept = keeps_earlier (f m) x (g m) (if nat_lt n m then None else if b then Some (length items - 1) else None) h.1 h.3 in (
        m,
        kept.0,
        omega (arith, lt),
        kept.1 ∙ ap (λ (l : List Item). torn_at (if kept.0 then earlier_or (g m) (if nat_lt n m then None else if b then Some (length items - 1) else None) else None) l) (sym (at_before n m lt items (f m) (if b then front items else items))),
      )

  from_own : (b : Bool) → g n ≡ None → (E → (m : ℕ) × (t : Bool) × (m < n) × (x ≡ torn_at (if t then g m else None) (f m))) → OwnStage b items x E → (m : ℕ) × (t : Bool) × (m < n + 2) × Image b m t
  from_own true none ih (inl (inl is)) = (n, false, omega arith, is ∙ sym (at_cut n items (f n) (front items)))
  from_own true none ih (inl (inr (inl is))) = (
    n,
    true,
    omega arith,
    is ∙ ap (λ (l : List Item). l ++ item.Torn ∷ []) (sym (front_again items))
        ∙ ap (λ (l : List Item). take (length items - 1) l ++ item.Torn ∷ []) (sym (at_cut n items (f n) (front items)))
        ∙ ap (λ (o : Option ℕ). torn_at o (if nat_lt n n then items else if nat_lt n n then f n else front items)) (sym (next_at_cut n (length items - 1) (g n) none)),
  )
  from_own true none ih (inl (inr (inr is))) = (n + 1, false, omega arith, is ∙ sym (at_item n items (f (n + 1)) (front items)))
  from_own true none ih (inr earlier) = from_earlier true (ih earlier)
  from_own false none ih earlier = from_earlier false (ih earlier)

from_by : (part : Part) (act : Act) (items x : List Item) (n : ℕ) (f : ℕ → List Item) (g : ℕ → Option ℕ) (E : Type 0) → g n ≡ None → (E → (m : ℕ) × (t : Bool) × (m < n) × (x ≡ torn_at (if t then g m else None) (f m)))
    → StoodBy part act items x E
    → (m : ℕ) × (t : Bool) × (m < moments_after act n) × (x ≡ torn_at (if t then next_by part act n m items (g m) else None) (stood_by part act n m items (f m)))
from_by part (Put p gone failed) items x n f g E none ih h = from_own n items gone x f g E (is_same part p) none ih h
from_by part Flushed items x n f g E none ih h = (0, false, omega arith, h)
from_by part (Noted p before) items x n f g E none ih h = ih h
from_by part Settled items x n f g E none ih h = ih h

-- what has stood is the image by some cut
pub image_from : (part : Part) (items : List Item) (es : List DoneCommand) (x : List Item) → Stood part items es x → IsImage part items es x
image_from part items [] x h = (0, false, omega arith, h)
image_from part items (e ∷ es) x h =
    let l = undone part e.act items in
    from_by part e.act items x (moments es) (λ (m : ℕ). stood part l es m) (λ (m : ℕ). next_put part l es m) (Stood part l es x) (none_after part l es (moments es) (omega arith))
    (λ (earlier : Stood part (undone part e.act items) es x). image_from part (undone part e.act items) es x earlier) h
