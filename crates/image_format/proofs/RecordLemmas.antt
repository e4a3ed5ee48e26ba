-- The records in front of bytes, by what they are and by the function that finds them.
use Rattle.std.proofs.Common.{◌≡◌, ◌≢◌, ℕ, zero, suc, ◌+◌, ◌-◌, ◌<◌, ◌≤◌, ◌^◌, ◌⊎◌, inl, inr, Bool, true, false, ◌==◌, List, [], ◌∷◌, ◌++◌, length, take, Option, Some, None, Result, Ok, Err, refl, sym, ap, ◌∙◌, subst, arith}
use Rattle.std.specs.Prelude.{if◌then◌else◌}
use Rattle.std.specs.List.{All, flat_map}
use Rattle.std.proofs.lemmas.Bool.{eq-eqb, eqb-true, eqb-false, ne_eqb}
use Rattle.std.proofs.lemmas.List.{append-nil, append_assoc, length-append, length-take, length-take-le, nil_from_length}
use Rattle.std.proofs.lemmas.List.Elements.{All-cons, All-drop, All-head, All-nil, All-tail, All-take}
use Rattle.tape_types.specs.Cartridges.{IsItem}
use Rattle.tape_types.specs.declared.cartridges.Item.{Item}
use Rattle.byte_disk.specs.Files.{AreBytes}
use Rattle.image_format.specs.declared.values.Half.{Half}
use Rattle.image_format.specs.Records.{AreRecords, HasNone, IsFaultAt, behind, filling, first_item, first_items, followed, items_in, record_bytes, width}
use Rattle.image_format.specs.Walks.{in_front}
use Rattle.image_format.proofs.HeadLemmas.{behind_found, item_found, item_only, none_found, none_only}

-- items that are found, and a record at fault
abbrev pub got : List Item → Result (List Item) ℕ
got items = Ok items

-- the record of this number is at fault
abbrev pub bad : ℕ → Result (List Item) ℕ
bad n = Err n

-- no items in front of a result leave it as it is
pub in_front_none : (r : Result (List Item) ℕ) → in_front [] r ≡ r
in_front_none (Ok more) = refl
in_front_none (Err n) = refl

followed_front : (at : ℕ) (x : Item) (xs : List Item) (r : Result (List Item) ℕ) → followed at (Some x) (in_front xs r) ≡ in_front (x ∷ xs) r
followed_front at x xs (Ok more) = refl
followed_front at x xs (Err n) = refl

front_found : (items : List Item) (n k at end : ℕ) (rest : List ℕ) → n ≡ length items + k → end ≡ at + length items → All IsItem items
    → first_items n at (flat_map record_bytes items ++ rest) ≡ in_front items (first_items k end rest)
front_found [] n k at end rest en ee all =
    let same : n ≡ k = omega (arith, en) in
    let here : at ≡ end = omega (arith, ee) in
    ap (λ (m : ℕ). first_items m at rest) same ∙ ap (λ (m : ℕ). first_items k m rest) here ∙ sym (in_front_none (first_items k end rest))
front_found (x ∷ xs) zero k at end rest en ee all = absurd (omega (arith, en))
front_found (x ∷ xs) (suc m) k at end rest en ee all =
    let assoc : (record_bytes x ++ flat_map record_bytes xs) ++ rest ≡ record_bytes x ++ (flat_map record_bytes xs ++ rest) =
    append_assoc (record_bytes x) (flat_map record_bytes xs) rest in
    let found : first_item ((record_bytes x ++ flat_map record_bytes xs) ++ rest) ≡ Some x =
    ap first_item assoc ∙ item_found x (flat_map record_bytes xs ++ rest) (All-head IsItem x xs all) in
    let left : behind (Some x) ((record_bytes x ++ flat_map record_bytes xs) ++ rest) ≡ flat_map record_bytes xs ++ rest =
    ap (behind (Some x)) assoc ∙ behind_found x (flat_map record_bytes xs ++ rest) in
    ap (λ (o : Option Item). followed at o (first_items m (at + 1) (behind o ((record_bytes x ++ flat_map record_bytes xs) ++ rest)))) found
    ∙ ap (λ (l : List ℕ). followed at (Some x) (first_items m (at + 1) l)) left
    ∙ ap (λ (r : Result (List Item) ℕ). followed at (Some x) r)
    (front_found xs m k (at + 1) end rest (omega (arith, en)) (omega (arith, ee)) (All-tail IsItem x xs all))
    ∙ followed_front at x xs (first_items k end rest)

-- so many whole records, and what stands behind them
record Front (bytes : List ℕ) (n : ℕ) (items : List Item) : Type 0 where
  rest : List ℕ
  count : length items ≡ n
  each : All IsItem items
  is : bytes ≡ flat_map record_bytes items ++ rest

one_more : (bytes rest : List ℕ) (x : Item) (xs : List Item) → bytes ≡ record_bytes x ++ behind (Some x) bytes
    → behind (Some x) bytes ≡ flat_map record_bytes xs ++ rest → bytes ≡ (record_bytes x ++ flat_map record_bytes xs) ++ rest
one_more bytes rest x xs one more =
    one ∙ ap (λ (l : List ℕ). record_bytes x ++ l) more ∙ sym (append_assoc (record_bytes x) (flat_map record_bytes xs) rest)

bytes_behind : (bytes : List ℕ) (x : Item) → AreBytes bytes → AreBytes (behind (Some x) bytes)
bytes_behind bytes x are = All-drop (λ (b : ℕ). b < 2 ^ 8) (width x) bytes are

front_by : (n at : ℕ) (bytes : List ℕ) (items : List Item) (o : Option Item) (r : Result (List Item) ℕ) → AreBytes bytes
    → ((l : List ℕ) (more : List Item) → AreBytes l → first_items n (at + 1) l ≡ Ok more → Front l n more)
    → first_item bytes ≡ o → first_items n (at + 1) (behind o bytes) ≡ r → followed at o r ≡ Ok items → Front bytes (suc n) items
front_by n at bytes items None r are ih eo er e = absurd (cc e)
front_by n at bytes items (Some x) (Err k) are ih eo er e = absurd (cc e)
front_by n at bytes items (Some x) (Ok more) are ih eo er e =
    let same : x ∷ more ≡ items = cc e in
    let f = item_only bytes x are eo in
    let h = ih (behind (Some x) bytes) more (bytes_behind bytes x are) er in
    subst (λ (l : List Item). Front bytes (suc n) l) same (record {
      rest = h.rest;
      count = omega (arith, h.count);
      each = All-cons IsItem x more f.form h.each;
      is = one_more bytes h.rest x more f.is h.is;
    })

front_only : (n at : ℕ) (bytes : List ℕ) (items : List Item) → AreBytes bytes → first_items n at bytes ≡ Ok items → Front bytes n items
front_only zero at bytes items are e =
    let same : [] ≡ items = cc e in
    subst (λ (l : List Item). Front bytes zero l) same (record { rest = bytes; count = refl; each = All-nil IsItem; is = refl })
front_only (suc n) at bytes items are e =
    front_by n at bytes items (first_item bytes) (first_items n (at + 1) (behind (first_item bytes) bytes)) are
    (λ l more all is. front_only n (at + 1) l more all is) refl refl e

-- whole records, fewer than so many, and none behind them
record Broken (bytes : List ℕ) (n at k : ℕ) : Type 0 where
  items : List Item
  rest : List ℕ
  place : k ≡ at + length items
  fewer : length items < n
  each : All IsItem items
  is : bytes ≡ flat_map record_bytes items ++ rest
  none : HasNone rest

broken_by : (n at k : ℕ) (bytes : List ℕ) (o : Option Item) (r : Result (List Item) ℕ) → AreBytes bytes
    → ((l : List ℕ) (m : ℕ) → AreBytes l → first_items n (at + 1) l ≡ Err m → Broken l n (at + 1) m)
    → first_item bytes ≡ o → first_items n (at + 1) (behind o bytes) ≡ r → followed at o r ≡ Err k → Broken bytes (suc n) at k
broken_by n at k bytes None r are ih eo er e =
    let same : at ≡ k = cc e in
    record {
      items = [];
      rest = bytes;
      place = omega (arith, same);
      fewer = omega arith;
      each = All-nil IsItem;
      is = refl;
      none = none_only bytes eo;
    }
broken_by n at k bytes (Some x) (Ok more) are ih eo er e = absurd (cc e)
broken_by n at k bytes (Some x) (Err m) are ih eo er e =
    let same : m ≡ k = cc e in
    let f = item_only bytes x are eo in
    let h = ih (behind (Some x) bytes) m (bytes_behind bytes x are) er in
    record {
      items = x ∷ h.items;
      rest = h.rest;
      place = omega (arith, same, h.place);
      fewer = omega (arith, h.fewer);
      each = All-cons IsItem x h.items f.form h.each;
      is = one_more bytes h.rest x h.items f.is h.is;
      none = h.none;
    }

broken_only : (n at k : ℕ) (bytes : List ℕ) → AreBytes bytes → first_items n at bytes ≡ Err k → Broken bytes n at k
broken_only zero at k bytes are e = absurd (cc e)
broken_only (suc n) at k bytes are e =
    broken_by n at k bytes (first_item bytes) (first_items n (at + 1) (behind (first_item bytes) bytes)) are
    (λ l m all is. broken_only n (at + 1) m l all is) refl refl e

-- where an item is wanted and none stands in front, its number is at fault
pub first_none : (k at : ℕ) (rest : List ℕ) → 1 ≤ k → first_item rest ≡ None → first_items k at rest ≡ Err at
first_none zero at rest le e = absurd (omega (arith, le))
first_none (suc k) at rest le e =
    ap (λ (o : Option Item). followed at o (first_items k (at + 1) (behind o rest))) e

-- the items of so many records are found
all_found : (items : List Item) (n : ℕ) (rest : List ℕ) → length items ≡ n → All IsItem items
    → first_items n 0 (flat_map record_bytes items ++ rest) ≡ Ok items
all_found items n rest count all =
    front_found items n 0 0 (length items) rest (omega (arith, count)) (omega arith) all ∙ ap (λ (l : List Item). got l) (append-nil items)

-- items whose records fill what they are to fill are those of the file
pub when_filled : (h : Half) (items : List Item) → length (flat_map record_bytes items) ≡ h.end → filling h (Ok items) ≡ Ok items
when_filled h items is =
    ap (λ (t : Bool). if t then got items else Err h.count) (eq-eqb (length (flat_map record_bytes items)) h.end is)

-- items whose records don't fill what they are to fill are at fault behind the last
pub when_unfilled : (h : Half) (items : List Item) → length (flat_map record_bytes items) ≢ h.end → filling h (Ok items) ≡ Err h.count
when_unfilled h items is =
    ap (λ (t : Bool). if t then got items else Err h.count) (ne_eqb (length (flat_map record_bytes items)) h.end is)

pub records_found : (h : Half) (file : List ℕ) (items : List Item) → AreRecords h file items → items_in h file ≡ Ok items
records_found h file items is =
    let bytes : take h.end file ≡ flat_map record_bytes items ++ [] = is.bytes ∙ sym (append-nil (flat_map record_bytes items)) in
    let size : length (flat_map record_bytes items) ≡ h.end = sym (ap length is.bytes) ∙ length-take-le h.end file is.end in
    ap (λ (l : List ℕ). filling h (first_items h.count 0 l)) bytes
    ∙ ap (filling h) (all_found items h.count [] is.count is.each)
    ∙ when_filled h items size

-- what filled something
record Fills (h : Half) (r : Result (List Item) ℕ) (items : List Item) : Type 0 where
  found : r ≡ Ok items
  size : length (flat_map record_bytes items) ≡ h.end

if_filled : (h : Half) (more items : List Item) (t : Bool) → (length (flat_map record_bytes more) == h.end) ≡ t
    → (if t then got more else Err h.count) ≡ Ok items → Fills h (Ok more) items
if_filled h more items true et e =
    let same : more ≡ items = cc e in
    record {
      found = ap (λ (l : List Item). got l) same;
      size = ap (λ (l : List Item). length (flat_map record_bytes l)) (sym same) ∙ eqb-true (length (flat_map record_bytes more)) h.end et;
    }
if_filled h more items false et e = absurd (cc e)

fills_by : (h : Half) (r : Result (List Item) ℕ) (items : List Item) → filling h r ≡ Ok items → Fills h r items
fills_by h (Ok more) items e = if_filled h more items (length (flat_map record_bytes more) == h.end) refl e
fills_by h (Err n) items e = absurd (cc e)

pub records_only : (h : Half) (file : List ℕ) (items : List Item) → AreBytes file → items_in h file ≡ Ok items → AreRecords h file items
records_only h file items are e =
    let f = fills_by h (first_items h.count 0 (take h.end file)) items e in
    let front = front_only h.count 0 (take h.end file) items (All-take (λ (b : ℕ). b < 2 ^ 8) h.end file are) f.found in
    let sizes : length (take h.end file) ≡ h.end + length front.rest =
    ap length front.is ∙ length-append (flat_map record_bytes items) front.rest ∙ ap (λ (n : ℕ). n + length front.rest) f.size in
    let none : front.rest ≡ [] = nil_from_length front.rest (omega (arith, sizes, length-take h.end file)) in
    record {
      count = front.count;
      each = front.each;
      end = omega (arith, sizes, length-take h.end file);
      bytes = front.is ∙ ap (λ (l : List ℕ). flat_map record_bytes items ++ l) none ∙ append-nil (flat_map record_bytes items);
    }

behind_bytes : (front rest : List ℕ) → AreBytes (front ++ rest) → AreBytes rest
behind_bytes [] rest all = all
behind_bytes (b ∷ front) rest all = behind_bytes front rest (All-tail (λ (k : ℕ). k < 2 ^ 8) b (front ++ rest) all)

-- a record at fault is found with its number
pub fault_found : (h : Half) (file : List ℕ) (n : ℕ) → AreBytes file → IsFaultAt h file n → items_in h file ≡ Err n
fault_found h file n are is = by is.fault
  where
    by : ((n < h.count) × HasNone is.rest) ⊎ ((n ≡ h.count) × (length (flat_map record_bytes is.items) ≢ h.end)) → items_in h file ≡ Err n
    by (inl (lt, none)) =
        let rest_bytes : AreBytes is.rest = behind_bytes (flat_map record_bytes is.items) is.rest
        (subst (λ (l : List ℕ). AreBytes l) is.front (All-take (λ (b : ℕ). b < 2 ^ 8) h.end file are)) in
        let at : length is.items ≡ n = is.count in
        let walked : first_items h.count 0 (take h.end file) ≡ Err n =
        ap (λ (l : List ℕ). first_items h.count 0 l) is.front
        ∙ front_found is.items h.count (h.count - n) 0 n is.rest (omega (arith, at, lt)) (omega (arith, at)) is.each
        ∙ ap (λ (r : Result (List Item) ℕ). in_front is.items r) (first_none (h.count - n) n is.rest (omega (arith, lt)) (none_found is.rest rest_bytes none)) in
        ap (filling h) walked
    by (inr (last, short)) =
        ap (λ (l : List ℕ). filling h (first_items h.count 0 l)) is.front
        ∙ ap (filling h) (all_found is.items h.count is.rest (is.count ∙ last) is.each)
        ∙ when_unfilled h is.items short
        ∙ ap bad (sym last)

module _ (h : Half) (file : List ℕ) (n : ℕ) (are : AreBytes file) where
  taken : AreBytes (take h.end file)
  taken = All-take (λ (b : ℕ). b < 2 ^ 8) h.end file are

  if_unfilled : (more : List Item) (t : Bool) → first_items h.count 0 (take h.end file) ≡ Ok more → (length (flat_map record_bytes more) == h.end) ≡ t
      → (if t then got more else Err h.count) ≡ Err n → IsFaultAt h file n
  if_unfilled more true found et e = absurd (cc e)
  if_unfilled more false found et e =
      let same : h.count ≡ n = cc e in
      let front = front_only h.count 0 (take h.end file) more taken found in
      record {
        items = more;
        rest = front.rest;
        count = front.count ∙ same;
        each = front.each;
        front = front.is;
        fault = inr (sym same, eqb-false (length (flat_map record_bytes more)) h.end et);
      }

  fault_by : (r : Result (List Item) ℕ) → first_items h.count 0 (take h.end file) ≡ r → filling h r ≡ Err n → IsFaultAt h file n
  fault_by (Ok more) found e = if_unfilled more (length (flat_map record_bytes more) == h.end) found refl e
  fault_by (Err k) found e =
      let same : k ≡ n = cc e in
      let b = broken_only h.count 0 k (take h.end file) taken found in
      record {
        items = b.items;
        rest = b.rest;
        count = omega (arith, b.place, same);
        each = b.each;
        front = b.is;
        fault = inl (omega (arith, b.place, b.fewer, same), b.none);
      }

  -- the number that is found is that of a record at fault
  pub fault_only : items_in h file ≡ Err n → IsFaultAt h file n
  fault_only e = fault_by (first_items h.count 0 (take h.end file)) refl e
