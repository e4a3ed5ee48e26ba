-- A walk over heads goes on from record to record.
use Rattle.std.proofs.Common.{◌≡◌, ◌≢◌, ℕ, zero, suc, ◌+◌, ◌-◌, ◌^◌, ◌<◌, ◌≤◌, ◌/◌, min, List, [], ◌∷◌, ◌++◌, length, take, Option, Some, None, Result, Ok, Err, refl, sym, ap, ◌∙◌, subst, arith}
use Rattle.std.specs.Prelude.{IfErr, OnOk}
use Rattle.std.specs.List.{flat_map}
use Rattle.std.proofs.lemmas.Grind.{flat_map-append}
use Rattle.std.proofs.lemmas.List.{append-nil, append_assoc, drop-drop, length-append, take_min}
use Rattle.tape_types.specs.declared.cartridges.Item.{Item}
use Rattle.byte_disk.specs.Files.{Files, bytes_of}
use Rattle.byte_disk.specs.declared.disk.ByteDisk.{Ghosts}
use Rattle.byte_disk.specs.declared.disk.File.{File}
use Rattle.image_slots.specs.State.{View}
use Rattle.image_format.specs.declared.refusal.WalkErr.{WalkErr}
use Rattle.image_format.specs.declared.refusal.WalkErr.TheVariants as errors
use Rattle.image_format.specs.declared.values.Half.{Half}
use Rattle.image_format.specs.declared.window.Window.{Window}
use Rattle.image_format.specs.Looks.{Looks}
use Rattle.image_format.specs.Offsets.{offsets_from}
use Rattle.image_format.specs.Records.{behind, filling, first_item, first_items, followed, record_bytes, width}
use Rattle.image_format.specs.Walks.{HasCome, HasWalked, IsPiece, IsWalked, Shows, in_front, rest_of, width_at, width_of}
use Rattle.image_format.proofs.Looking.{more_looks, no_looks, then_looks}
use Rattle.image_format.proofs.RecordLemmas.{first_none, got, in_front_none, when_filled, when_unfilled}

one_step : (k m n : ℕ) (rest : List ℕ) (x : Item) → k ≡ m + 1 → first_item rest ≡ Some x
    → first_items k n rest ≡ followed n (Some x) (first_items m (n + 1) (behind (Some x) rest))
one_step zero m n rest x e is = absurd (omega (arith, e))
one_step (suc k) m n rest x e is =
    let same : k ≡ m = omega (arith, e) in
    ap (λ (o : Option Item). followed n o (first_items k (n + 1) (behind o rest))) is
    ∙ ap (λ (j : ℕ). followed n (Some x) (first_items j (n + 1) (behind (Some x) rest))) same

in_front_more : (items : List Item) (x : Item) (n : ℕ) (r : Result (List Item) ℕ) → in_front items (followed n (Some x) r) ≡ in_front (items ++ x ∷ []) r
in_front_more items x n (Ok more) = ap (λ (l : List Item). got l) (sym (append_assoc items (x ∷ []) more))
in_front_more items x n (Err k) = refl

offsets_more : (at : ℕ) (items : List Item) (x : Item)
    → offsets_from at (items ++ x ∷ []) ≡ offsets_from at items ++ (at + length (flat_map record_bytes items)) ∷ []
offsets_more at [] x = ap (λ (n : ℕ). n ∷ []) (let e : at ≡ at + length (flat_map record_bytes []) = omega arith in e)
offsets_more at (y ∷ ys) x =
    ap (λ (l : List ℕ). at ∷ l) (offsets_more (at + width y) ys x)
    ∙ ap (λ (n : ℕ). at ∷ (offsets_from (at + width y) ys ++ n ∷ []))
    (let e : at + width y + length (flat_map record_bytes ys) ≡ at + length (record_bytes y ++ flat_map record_bytes ys) =
    omega (arith, length-append (record_bytes y) (flat_map record_bytes ys)) in e)

bytes_more : (items : List Item) (x : Item) → length (flat_map record_bytes (items ++ x ∷ [])) ≡ length (flat_map record_bytes items) + width x
bytes_more items x =
    ap length (flat_map-append record_bytes items (x ∷ []))
    ∙ length-append (flat_map record_bytes items) (record_bytes x ++ [])
    ∙ ap (λ (l : List ℕ). length (flat_map record_bytes items) + length l) (append-nil (record_bytes x))

begins : (count end : ℕ) (file : List ℕ) → HasCome count end file 0 0 []
begins count end file = record {
  items = [];
  left = sym (in_front_none (first_items (count - 0) 0 (rest_of 0 end file)) ∙ ap (λ (k : ℕ). first_items k 0 (take end file)) (let e : count - 0 ≡ count = omega arith in e));
  kept = refl;
  place = refl;
}

module _ (count end : ℕ) (file : List ℕ) (n at : ℕ) (offsets : List ℕ) (come : HasCome count end file n at offsets) where
  comes_on : (x : Item) → n < count → first_item (rest_of at end file) ≡ Some x → HasCome count end file (n + 1) (at + width x) (offsets ++ at ∷ [])
  comes_on x lt is = record {
    items = come.items ++ x ∷ [];
    left =
        come.left
        ∙ ap (in_front come.items) (one_step (count - n) (count - (n + 1)) n (rest_of at end file) x (omega (arith, lt)) is)
        ∙ in_front_more come.items x n (first_items (count - (n + 1)) (n + 1) (behind (Some x) (rest_of at end file)))
        ∙ ap (λ (l : List ℕ). in_front (come.items ++ x ∷ []) (first_items (count - (n + 1)) (n + 1) l)) (drop-drop (width x) at (take end file));
    kept =
        ap (λ (l : List ℕ). l ++ at ∷ []) come.kept
        ∙ ap (λ (k : ℕ). offsets_from 0 come.items ++ k ∷ []) (let e : at ≡ 0 + length (flat_map record_bytes come.items) = omega (arith, come.place) in e)
        ∙ sym (offsets_more 0 come.items x);
    place = omega (arith, come.place, bytes_more come.items x);
  }

  comes_by : (o : Option Item) (k : ℕ) → n < count → first_item (rest_of at end file) ≡ o → width_of o ≡ Some k
      → HasCome count end file (n + 1) (at + k) (offsets ++ at ∷ [])
  comes_by None k lt eo e = absurd (cc e)
  comes_by (Some x) k lt eo e =
      let same : width x ≡ k = cc e in
      subst (λ (j : ℕ). HasCome count end file (n + 1) (at + j) (offsets ++ at ∷ [])) same (comes_on x lt eo)

  pub comes : (k : ℕ) → n < count → Some k ≡ width_at at end file → HasCome count end file (n + 1) (at + k) (offsets ++ at ∷ [])
  comes k lt e = comes_by (first_item (rest_of at end file)) k lt refl (sym e)

  none_by : (o : Option Item) → first_item (rest_of at end file) ≡ o → width_of o ≡ None → first_item (rest_of at end file) ≡ None
  none_by None eo e = eo
  none_by (Some x) eo e = absurd (cc e)

  pub faulty : n < count → None ≡ width_at at end file → first_items count 0 (take end file) ≡ Err n
  faulty lt e =
      come.left
      ∙ ap (in_front come.items) (first_none (count - n) n (rest_of at end file) (omega (arith, lt)) (none_by (first_item (rest_of at end file)) refl (sym e)))

-- what a walk keeps from one record to the next
pub record Going {B : Type 0} (disk : Ghosts B) (first now : View B) (file : File) (count end number at : ℕ) (w : Window) (offsets : List ℕ) : Type 0 where
  pub piece : IsPiece end w
  pub low : w.from ≤ at
  pub high : at ≤ end
  pub looks : Looks disk (min number (w.from / 65532)) first now
  pub shows : (d : Files) → disk.held first.disk ≡ Some d → Shows (bytes_of file d) w
  pub read : (d : Files) → disk.held first.disk ≡ Some d → HasCome count end (bytes_of file d) number at offsets

-- a walk over heads begins with the first piece of the file
pub start_going : {B : Type 0} (disk : Ghosts B) (first : View B) (file : File) (count end : ℕ) (w : Window) → IsPiece end w → w.from ≡ 0
    → disk.commands first.disk ≤ 2 ^ 64 - 1 → ((d : Files) → disk.held first.disk ≡ Some d → Shows (bytes_of file d) w)
    → Going disk first first file count end 0 0 w []
start_going disk first file count end w piece from most shows = record {
  piece = piece;
  low = omega (arith, from);
  high = omega arith;
  looks = more_looks disk 0 (min 0 (w.from / 65532)) first first (omega arith) (no_looks disk first most);
  shows = shows;
  read = λ d held. begins count end (bytes_of file d);
}

module _ {B : Type 0} (disk : Ghosts B) (first now : View B) (file : File) (count end number at : ℕ) (w : Window) (offsets : List ℕ)
    (going : Going disk first now file count end number at w offsets) where
  -- what was told of the disk at first is told of it now
  pub still : {P : Files → Type 0} → ((d : Files) → disk.held first.disk ≡ Some d → P d) → (d : Files) → disk.held now.disk ≡ Some d → P d
  still each d held = each d (sym going.looks.held ∙ held)

  later : (after : View B) (v : Window) → w.from ≤ v.from → Looks disk (min 1 (v.from / 65532 - w.from / 65532)) now after
      → Looks disk (min (number + 1) (v.from / 65532)) first after
  later after v further look =
      more_looks disk (min number (w.from / 65532) + min 1 (v.from / 65532 - w.from / 65532)) (min (number + 1) (v.from / 65532)) first after
      (omega (arith, further)) (then_looks disk (min number (w.from / 65532)) (min 1 (v.from / 65532 - w.from / 65532)) first now after going.looks look)

  -- the bound of a walk holds of what was read by then
  pub all_looks : (after : View B) (v : Window) → number < count → IsPiece end v → w.from ≤ v.from
      → Looks disk (min 1 (v.from / 65532 - w.from / 65532)) now after → Looks disk (min count (end / 65532)) first after
  all_looks after v lt piece further look =
      more_looks disk (min (number + 1) (v.from / 65532)) (min count (end / 65532)) first after
      (omega (arith, lt, piece.from)) (later after v further look)

  -- a walk over all records has made no more reads than the file has pieces
  pub end_looks : number ≡ count → Looks disk (min count (end / 65532)) first now
  end_looks is = more_looks disk (min number (w.from / 65532)) (min count (end / 65532)) first now (omega (arith, is, going.piece.from)) going.looks

  -- a walk goes on behind a record whose width is told
  pub goes_on : (after : View B) (v : Window) (k : ℕ) → number < count → IsPiece end v → v.from ≤ at → w.from ≤ v.from → at + k ≤ end
      → ((d : Files) → disk.held now.disk ≡ Some d → Shows (bytes_of file d) v)
      → ((d : Files) → disk.held now.disk ≡ Some d → Some k ≡ width_at at end (bytes_of file d))
      → Looks disk (min 1 (v.from / 65532 - w.from / 65532)) now after
      → Going disk first after file count end (number + 1) (at + k) v (offsets ++ at ∷ [])
  goes_on after v k lt piece low further high shows told look = record {
    piece = piece;
    low = omega (arith, low);
    high = high;
    looks = later after v further look;
    shows = λ d held. shows d (going.looks.held ∙ held);
    read = λ d held. comes count end (bytes_of file d) number at offsets (going.read d held) k lt (told d (going.looks.held ∙ held));
  }

  -- where no width is told, the record of this number is at fault
  pub at_fault : number < count → ((d : Files) → disk.held now.disk ≡ Some d → None ≡ width_at at end (bytes_of file d))
      → (d : Files) → disk.held first.disk ≡ Some d → first_items count 0 (take end (bytes_of file d)) ≡ Err number
  at_fault lt told d held = faulty count end (bytes_of file d) number at offsets (going.read d held) lt (told d (going.looks.held ∙ held))

  -- a walk over all records has come past each of them
  pub at_end : number ≡ count → (d : Files) → disk.held first.disk ≡ Some d → HasCome count end (bytes_of file d) count at offsets
  at_end is d held = subst (λ (k : ℕ). HasCome count end (bytes_of file d) k at offsets) is (going.read d held)

-- what a whole walk tells
module _ (h : Half) (file : List ℕ) (end : ℕ) (offsets : List ℕ) (is : end ≡ min h.end (length file)) where
  same_front : take end file ≡ take h.end file
  same_front = ap (λ (k : ℕ). take k file) is ∙ take_min h.end file

  come_items : (at : ℕ) (come : HasCome h.count end file h.count at offsets) → first_items h.count 0 (take h.end file) ≡ Ok come.items
  come_items at come =
      let none : h.count - h.count ≡ 0 = omega arith in
      ap (λ (l : List ℕ). first_items h.count 0 l) (sym same_front)
      ∙ come.left
      ∙ ap (λ (k : ℕ). in_front come.items (first_items k h.count (rest_of at end file))) none
      ∙ ap (λ (l : List Item). got l) (append-nil come.items)

  -- a walk past all records ends where they should, or the count is at fault
  pub told_ended : {T : Type 0} (r : Result T WalkErr) (at : ℕ) → OnOk r (at ≡ h.end) → IfErr r (λ fault. (fault ≡ errors.Record h.count) × (at ≢ h.end))
      → HasCome h.count end file h.count at offsets → IsWalked h file r offsets
  told_ended (Ok t) at ok err come =
      (come.items, ap (filling h) (come_items at come) ∙ when_filled h come.items (sym come.place ∙ ok), come.kept)
  told_ended {T = T} (Err fault) at ok err come =
      subst (λ (f : WalkErr). IsWalked {T = T} h file (Err f) offsets) (sym err.0)
      (ap (filling h) (come_items at come) ∙ when_unfilled h come.items (λ same. err.1 (come.place ∙ same)))

  -- a fault that a walk met is the one of the file
  pub told_fault : (T : Type 0) (fault : WalkErr) → HasWalked h.count end file (Err fault) offsets → IsWalked {T = T} h file (Err fault) offsets
  told_fault T (errors.Record n) walked = ap (λ (l : List ℕ). filling h (first_items h.count 0 l)) (sym same_front) ∙ ap (filling h) walked
  told_fault T errors.Disk walked = tt

-- the length of a file is asked first, and then it is walked over
module _ {B : Type 0} (disk : Ghosts B) (first mid last : View B) (count end most : ℕ) (one : Looks disk 1 first mid)
    (rest : Looks disk (min count (end / 65532) + 1) mid last) (le : end ≤ most) where
  abbrev sum : ℕ
  sum = 1 + (min count (end / 65532) + 1)

  pub whole_looks : Looks disk (min count (most / 65532) + 2) first last
  whole_looks =
      more_looks disk sum (min count (most / 65532) + 2) first last (omega (arith, le))
      (then_looks disk 1 (min count (end / 65532) + 1) first mid last one rest)

  pub whole_commands : disk.commands last.disk ≤ disk.commands first.disk + most / 65532 + 2
  whole_commands =
      let all = then_looks disk 1 (min count (end / 65532) + 1) first mid last one rest in
      omega (arith, le, all.reads.bound)
