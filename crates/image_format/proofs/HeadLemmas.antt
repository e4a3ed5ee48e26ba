-- What a head says, by its bytes.
use Rattle.std.proofs.Common.{◌≡◌, ℕ, ◌+◌, ◌<◌, ◌≤◌, ◌^◌, Bool, true, false, ◌==◌, nat_le, List, [], ◌∷◌, ◌++◌, length, take, drop, get_or, Option, Some, None, refl, sym, ap, ◌∙◌, ⊎_elim, subst, arith}
use Rattle.std.specs.Prelude.{slice_index, slice_range, if◌then◌else◌}
use Rattle.std.specs.Int.{w32, from_be_bytes, to_be_bytes, is_in_range}
use Rattle.std.proofs.lemmas.Bool.{and_from, cases_lt, and_parts, eqb-true, leb-true, le-leb}
use Rattle.std.proofs.lemmas.List.{take_all, take_at, drop_at, drop-drop, take-append-drop, length-take-le, length-append, get_or_past}
use Rattle.std.proofs.lemmas.List.Elements.{All-get_or, All-tail, All-take}
use Rattle.std.proofs.lemmas.Nat.{be_bytes_4, from_be_bytes-to_be_bytes_4}
use Rattle.tape_types.specs.Cartridges.{IsItem}
use Rattle.tape_types.specs.declared.cartridges.Item.{Item}
use Rattle.tape_types.specs.declared.cartridges.Item.TheVariants as item
use Rattle.byte_disk.specs.Files.{AreBytes}
use Rattle.image_format.specs.declared.heads.Head.{Head}
use Rattle.image_format.specs.declared.heads.Head.TheVariants.{Block, Mark, Torn}
use Rattle.image_format.specs.Records.{HasNone, IsHead, behind, first_item, head_by, head_bytes, head_of, item_by, record_bytes, size_of, width}

in_range : (n : ℕ) → 1 ≤ n → n ≤ 1048576 → is_in_range 1 1048576 n ≡ true
in_range n low high = and_from (nat_le 1 n) (nat_le n 1048576) (le-leb 1 n low) (le-leb n 1048576 high)

-- the bytes of a head are read as that head
pub head_found : (h : Head) → IsHead h → head_of (head_bytes h) ≡ Some h
head_found (Block n) is =
    let back : from_be_bytes w32 (to_be_bytes w32 n) ≡ n = from_be_bytes-to_be_bytes_4 n (omega (arith, is.1)) in
    ap (λ (m : ℕ). if is_in_range 1 1048576 m then Some (Block m) else None) back
    ∙ ap (λ (t : Bool). if t then Some (Block n) else None) (in_range n is.0 is.1)
head_found Mark is = refl
head_found Torn is = refl

-- what five bytes are whose first one and whose number are such
record Spells (b : ℕ) (rest : List ℕ) (h : Head) : Type 0 where
  bytes : b ∷ rest ≡ head_bytes h
  form : IsHead h

spelled : (b n : ℕ) (rest : List ℕ) (h : Head) (kb km kt r z : Bool) → (b == 66) ≡ kb → (b == 77) ≡ km → (b == 84) ≡ kt
    → is_in_range 1 1048576 n ≡ r → (n == 0) ≡ z → to_be_bytes w32 n ≡ rest
    → (if kb then (if r then Some (Block n) else None) else if km then (if z then Some Mark else None) else if kt then (if z then Some Torn else None) else None) ≡ Some h
    → Spells b rest h
spelled b n rest h true km kt true z eb em et er ez is e =
    let same : Block n ≡ h = cc e in
    let kind : b ≡ 66 = eqb-true b 66 eb in
    let range = and_parts (nat_le 1 n) (nat_le n 1048576) er in
    subst (λ (x : Head). Spells b rest x) same (record {
      bytes = ap (λ (k : ℕ). k ∷ rest) kind ∙ ap (λ (l : List ℕ). 66 ∷ l) (sym is);
      form = (leb-true 1 n range.0, leb-true n 1048576 range.1);
    })
spelled b n rest h true km kt false z eb em et er ez is e = absurd (cc e)
spelled b n rest h false true kt r true eb em et er ez is e =
    let same : Mark ≡ h = cc e in
    let kind : b ≡ 77 = eqb-true b 77 em in
    let none : n ≡ 0 = eqb-true n 0 ez in
    subst (λ (x : Head). Spells b rest x) same (record {
      bytes = ap (λ (k : ℕ). k ∷ rest) kind ∙ ap (λ (l : List ℕ). 77 ∷ l) (sym is ∙ ap (to_be_bytes w32) none);
      form = tt;
    })
spelled b n rest h false true kt r false eb em et er ez is e = absurd (cc e)
spelled b n rest h false false true r true eb em et er ez is e =
    let same : Torn ≡ h = cc e in
    let kind : b ≡ 84 = eqb-true b 84 et in
    let none : n ≡ 0 = eqb-true n 0 ez in
    subst (λ (x : Head). Spells b rest x) same (record {
      bytes = ap (λ (k : ℕ). k ∷ rest) kind ∙ ap (λ (l : List ℕ). 84 ∷ l) (sym is ∙ ap (to_be_bytes w32) none);
      form = tt;
    })
spelled b n rest h false false true r false eb em et er ez is e = absurd (cc e)
spelled b n rest h false false false r z eb em et er ez is e = absurd (cc e)

-- where a test failed nothing is told
if_five : (t : Bool) (o : Option Head) (h : Head) → (if t then o else None) ≡ Some h → (t ≡ true) × (o ≡ Some h)
if_five true o h e = (refl, e)
if_five false o h e = absurd (cc e)

byte_below : (xs : List ℕ) → AreBytes xs → (i : ℕ) → get_or xs i 0 < 256
byte_below xs are i =
    ⊎_elim
    (λ (lt : i < length xs). All-get_or (λ (b : ℕ). b < 2 ^ 8) xs i 0 lt are)
    (λ (ge : length xs ≤ i). omega (arith, get_or_past xs i 0 ge))
    (cases_lt i (length xs))

five : (bytes : List ℕ) (h : Head) → AreBytes bytes → length bytes ≡ 5 → head_by (slice_index bytes 0) (from_be_bytes w32 (slice_range bytes 1 5)) ≡ Some h
    → (bytes ≡ head_bytes h) × IsHead h
five [] h are long e = absurd (omega (arith, long))
five (b ∷ rest) h are long e =
    let four : length rest ≡ 4 = omega (arith, long) in
    let all : take 4 rest ≡ rest = take_all 4 rest (omega (arith, four)) in
    let is : to_be_bytes w32 (from_be_bytes w32 (take 4 rest)) ≡ rest =
    be_bytes_4 rest (from_be_bytes w32 (take 4 rest)) four (byte_below rest (All-tail (λ (b : ℕ). b < 2 ^ 8) b rest are)) (ap (from_be_bytes w32) all) in
    let s = spelled b (from_be_bytes w32 (take 4 rest)) rest h (b == 66) (b == 77) (b == 84) (is_in_range 1 1048576 (from_be_bytes w32 (take 4 rest)))
    (from_be_bytes w32 (take 4 rest) == 0) refl refl refl refl refl is e in
    (s.bytes, s.form)

-- bytes that are read as a head are its bytes
pub head_only : (bytes : List ℕ) (h : Head) → AreBytes bytes → head_of bytes ≡ Some h → (bytes ≡ head_bytes h) × IsHead h
head_only bytes h are e =
    let p = if_five (length bytes == 5) (head_by (slice_index bytes 0) (from_be_bytes w32 (slice_range bytes 1 5))) h e in
    five bytes h are (eqb-true (length bytes) 5 p.0) p.1

-- the head of an item, and what follows it
abbrev pub head_for : Item → Head
head_for (item.Block bytes) = Block (length bytes)
head_for item.Mark = Mark
head_for item.Torn = Torn

abbrev pub body_of : Item → List ℕ
body_of (item.Block bytes) = bytes
body_of item.Mark = []
body_of item.Torn = []

is_head : (x : Item) → IsItem x → IsHead (head_for x)
is_head (item.Block bytes) is = is
is_head item.Mark is = tt
is_head item.Torn is = tt

-- a record is five bytes longer than what follows its head
pub width_is : (x : Item) → width x ≡ 5 + size_of (head_for x)
width_is (item.Block bytes) = omega arith
width_is item.Mark = refl
width_is item.Torn = refl

-- a record's item is found in front of whatever follows
pub item_found : (x : Item) (more : List ℕ) → IsItem x → first_item (record_bytes x ++ more) ≡ Some x
item_found (item.Block bytes) more is =
    let n : length bytes ≤ length (bytes ++ more) = omega (arith, length-append bytes more) in
    ap (λ (o : Option Head). item_by o (bytes ++ more)) (head_found (Block (length bytes)) is)
    ∙ ap (λ (t : Bool). if t then Some (item.Block (take (length bytes) (bytes ++ more))) else None) (le-leb (length bytes) (length (bytes ++ more)) n)
    ∙ ap (λ (l : List ℕ). Some (item.Block l)) (take_at bytes more (length bytes) refl)
item_found item.Mark more is = refl
item_found item.Torn more is = refl

-- behind a record stands what follows it
pub behind_found : (x : Item) (more : List ℕ) → behind (Some x) (record_bytes x ++ more) ≡ more
behind_found x more = drop_at (record_bytes x) more (width x) refl

-- an item that is found in front is that of the record there
pub record IsFirst (bytes : List ℕ) (x : Item) : Type 0 where
  pub form : IsItem x
  pub is : bytes ≡ record_bytes x ++ behind (Some x) bytes

if_long : (t : Bool) (y x : Item) → (if t then Some y else None) ≡ Some x → (t ≡ true) × (y ≡ x)
if_long true y x e = (refl, (let same : y ≡ x = cc e in same))
if_long false y x e = absurd (cc e)

first_by : (bytes : List ℕ) (x : Item) (o : Option Head) → AreBytes bytes → head_of (take 5 bytes) ≡ o → item_by o (drop 5 bytes) ≡ Some x → IsFirst bytes x
first_by bytes x None are eo e = absurd (cc e)
first_by bytes x (Some Mark) are eo e =
    let same : item.Mark ≡ x = cc e in
    let h = head_only (take 5 bytes) Mark (All-take (λ (b : ℕ). b < 2 ^ 8) 5 bytes are) eo in
    subst (λ (y : Item). IsFirst bytes y) same (record {
      form = tt;
      is = sym (take-append-drop 5 bytes) ∙ ap (λ (l : List ℕ). l ++ drop 5 bytes) h.0;
    })
first_by bytes x (Some Torn) are eo e =
    let same : item.Torn ≡ x = cc e in
    let h = head_only (take 5 bytes) Torn (All-take (λ (b : ℕ). b < 2 ^ 8) 5 bytes are) eo in
    subst (λ (y : Item). IsFirst bytes y) same (record {
      form = tt;
      is = sym (take-append-drop 5 bytes) ∙ ap (λ (l : List ℕ). l ++ drop 5 bytes) h.0;
    })
first_by bytes x (Some (Block n)) are eo e =
    let p = if_long (nat_le n (length (drop 5 bytes))) (item.Block (take n (drop 5 bytes))) x e in
    let le : n ≤ length (drop 5 bytes) = leb-true n (length (drop 5 bytes)) p.0 in
    let h = head_only (take 5 bytes) (Block n) (All-take (λ (b : ℕ). b < 2 ^ 8) 5 bytes are) eo in
    let size : length (take n (drop 5 bytes)) ≡ n = length-take-le n (drop 5 bytes) le in
    subst (λ (y : Item). IsFirst bytes y) p.1 (record {
      form = (omega (arith, size, h.1.0), omega (arith, size, h.1.1));
      is = block_bytes bytes n h.0 size;
    })
  where
    block_bytes : (bytes : List ℕ) (n : ℕ) → take 5 bytes ≡ 66 ∷ to_be_bytes w32 n → length (take n (drop 5 bytes)) ≡ n
        → bytes ≡ record_bytes (item.Block (take n (drop 5 bytes))) ++ behind (Some (item.Block (take n (drop 5 bytes)))) bytes
    block_bytes bytes n head size =
        let wide : width (item.Block (take n (drop 5 bytes))) ≡ 5 + n = omega (arith, size, width_is (item.Block (take n (drop 5 bytes)))) in
        let left : behind (Some (item.Block (take n (drop 5 bytes)))) bytes ≡ drop n (drop 5 bytes) =
        ap (λ (k : ℕ). drop k bytes) wide ∙ sym (drop-drop n 5 bytes) in
        let body : drop 5 bytes ≡ take n (drop 5 bytes) ++ behind (Some (item.Block (take n (drop 5 bytes)))) bytes =
        sym (take-append-drop n (drop 5 bytes)) ∙ ap (λ (l : List ℕ). take n (drop 5 bytes) ++ l) (sym left) in
        sym (take-append-drop 5 bytes)
        ∙ ap (λ (l : List ℕ). l ++ drop 5 bytes) head
        ∙ ap (λ (l : List ℕ). (66 ∷ to_be_bytes w32 n) ++ l) body
        ∙ ap (λ (k : ℕ). (66 ∷ to_be_bytes w32 k) ++ (take n (drop 5 bytes) ++ behind (Some (item.Block (take n (drop 5 bytes)))) bytes)) (sym size)

-- bytes that are read as beginning with an item begin with its record
pub item_only : (bytes : List ℕ) (x : Item) → AreBytes bytes → first_item bytes ≡ Some x → IsFirst bytes x
item_only bytes x are e = first_by bytes x (head_of (take 5 bytes)) are refl e

-- where none is found none stands, and the other way
pub none_found : (bytes : List ℕ) → AreBytes bytes → HasNone bytes → first_item bytes ≡ None
none_found bytes are none = by (first_item bytes) refl
  where
    by : (o : Option Item) → first_item bytes ≡ o → first_item bytes ≡ None
    by None e = e
    by (Some x) e = let f = item_only bytes x are e in absurd (none x (behind (Some x) bytes) f.form f.is)

-- where no item is read in front, no whole record stands there
pub none_only : (bytes : List ℕ) → first_item bytes ≡ None → HasNone bytes
none_only bytes e x more is same =
    let found : first_item bytes ≡ Some x = ap first_item same ∙ item_found x more is in
    let bad : Some x ≡ None = sym found ∙ e in
    absurd (cc bad)
