-- The records in the front of a file: fewer of them, one more, and the same ones in another file.
use Rattle.std.proofs.Common.{◌≡◌, ℕ, zero, suc, ◌+◌, ◌<◌, ◌≤◌, List, [], ◌∷◌, ◌++◌, length, take, drop, get_or, refl, sym, ap, ◌∙◌, arith}
use Rattle.std.specs.List.{flat_map}
use Rattle.std.proofs.lemmas.Grind.{flat_map-append}
use Rattle.std.proofs.lemmas.List.{append-nil, length-append, length-take, length-take-le, take-append-drop, take-take, take_at}
use Rattle.std.proofs.lemmas.List.Elements.{All-append, All-cons, All-nil, All-take}
use Rattle.tape_types.specs.Cartridges.{IsItem}
use Rattle.tape_types.specs.declared.cartridges.Item.{Item}
use Rattle.image_format.specs.declared.values.Half.{Half}
use Rattle.image_format.specs.Offsets.{offsets_from}
use Rattle.image_format.specs.Records.{AreRecords, record_bytes, width}

-- the bytes of the first records are the front of those of all
pub front_bytes : (n : ℕ) (items : List Item)
    → flat_map record_bytes items ≡ flat_map record_bytes (take n items) ++ flat_map record_bytes (drop n items)
front_bytes n items =
    ap (λ (l : List Item). flat_map record_bytes l) (sym (take-append-drop n items))
    ∙ flat_map-append record_bytes (take n items) (drop n items)

-- the first records of a file are no longer than all of them
pub front_size : (n : ℕ) (items : List Item) → length (flat_map record_bytes (take n items)) ≤ length (flat_map record_bytes items)
front_size n items =
    omega (arith, ap length (front_bytes n items), length-append (flat_map record_bytes (take n items)) (flat_map record_bytes (drop n items)))

-- how many bytes the records have
pub all_bytes : (h : Half) (file : List ℕ) (items : List Item) → AreRecords h file items → length (flat_map record_bytes items) ≡ h.end
all_bytes h file items are = sym (ap length are.bytes) ∙ length-take-le h.end file are.end

-- the first ones are records, too
pub fewer_records : (h front : Half) (file : List ℕ) (items : List Item) → AreRecords h file items → front.count ≤ h.count
    → front.end ≡ length (flat_map record_bytes (take front.count items)) → AreRecords front file (take front.count items)
fewer_records h front file items are fewer end =
    let most : front.end ≤ h.end = omega (arith, end, front_size front.count items, all_bytes h file items are) in
    record {
      count = length-take-le front.count items (omega (arith, are.count, fewer));
      each = All-take IsItem front.count items are.each;
      end = omega (arith, most, are.end);
      bytes =
          sym (take-take front.end h.end file most)
          ∙ ap (λ (l : List ℕ). take front.end l) (are.bytes ∙ front_bytes front.count items)
          ∙ take_at (flat_map record_bytes (take front.count items)) (flat_map record_bytes (drop front.count items)) front.end (sym end);
    }

-- a file with the same bytes in front has the same records
pub same_records : (h : Half) (file other : List ℕ) (items : List Item) → AreRecords h file items → take h.end other ≡ take h.end file
    → AreRecords h other items
same_records h file other items are same = record {
  count = are.count;
  each = are.each;
  end = omega (arith, ap length same, length-take h.end other, length-take h.end file, are.end);
  bytes = same ∙ are.bytes;
}

bytes_more : (items : List Item) (x : Item) → flat_map record_bytes (items ++ x ∷ []) ≡ flat_map record_bytes items ++ record_bytes x
bytes_more items x =
    flat_map-append record_bytes items (x ∷ [])
    ∙ ap (λ (l : List ℕ). flat_map record_bytes items ++ l) (append-nil (record_bytes x))

size_more : (items : List Item) (x : Item) → length (flat_map record_bytes (items ++ x ∷ [])) ≡ length (flat_map record_bytes items) + width x
size_more items x = ap length (bytes_more items x) ∙ length-append (flat_map record_bytes items) (record_bytes x)

-- with one more record behind the others
pub one_more_record : (h more : Half) (file other : List ℕ) (items : List Item) (x : Item) → AreRecords h file items → IsItem x
    → more.count ≡ h.count + 1 → more.end ≡ h.end + width x → more.end ≤ length other
    → take more.end other ≡ take h.end file ++ record_bytes x → AreRecords more other (items ++ x ∷ [])
one_more_record h more file other items x are is count end within bytes = record {
  count = omega (arith, length-append items (x ∷ []), are.count, count);
  each = All-append IsItem items (x ∷ []) are.each (All-cons IsItem x [] is (All-nil IsItem));
  end = within;
  bytes = bytes ∙ ap (λ (l : List ℕ). l ++ record_bytes x) are.bytes ∙ sym (bytes_more items x);
}

-- where the first records begin
pub fewer_offsets : (at n : ℕ) (items : List Item) → take n (offsets_from at items) ≡ offsets_from at (take n items)
fewer_offsets at zero items = refl
fewer_offsets at (suc n) [] = refl
fewer_offsets at (suc n) (x ∷ xs) = ap (λ (l : List ℕ). at ∷ l) (fewer_offsets (at + width x) n xs)

-- where the records begin with one record more
pub offsets_more : (at : ℕ) (items : List Item) (x : Item)
    → offsets_from at (items ++ x ∷ []) ≡ offsets_from at items ++ (at + length (flat_map record_bytes items)) ∷ []
offsets_more at [] x = ap (λ (n : ℕ). n ∷ []) (let e : at ≡ at + length (flat_map record_bytes []) = omega arith in e)
offsets_more at (y ∷ ys) x =
    ap (λ (l : List ℕ). at ∷ l) (offsets_more (at + width y) ys x)
    ∙ ap (λ (n : ℕ). at ∷ (offsets_from (at + width y) ys ++ n ∷ []))
    (let e : at + width y + length (flat_map record_bytes ys) ≡ at + length (record_bytes y ++ flat_map record_bytes ys) =
    omega (arith, length-append (record_bytes y) (flat_map record_bytes ys)) in e)

-- there is an offset for each record
pub offsets_size : (at : ℕ) (items : List Item) → length (offsets_from at items) ≡ length items
offsets_size at [] = refl
offsets_size at (x ∷ xs) = ap suc (offsets_size (at + width x) xs)

-- a record begins where those before it end
pub offset_is : (at n : ℕ) (items : List Item) (e : ℕ) → n < length items
    → get_or (offsets_from at items) n e ≡ at + length (flat_map record_bytes (take n items))
offset_is at n [] e lt = absurd (omega (arith, lt))
offset_is at zero (x ∷ xs) e lt = omega arith
offset_is at (suc n) (x ∷ xs) e lt =
    offset_is (at + width x) n xs e (omega (arith, lt))
    ∙ omega (arith, length-append (record_bytes x) (flat_map record_bytes (take n xs)))
