-- What a piece of a file in memory tells of the record at a place.
use Rattle.std.proofs.Common.{◌≡◌, ℕ, ◌+◌, ◌-◌, ◌<◌, ◌≤◌, Bool, List, length, take, drop, Option, Some, None, refl, sym, ap, ◌∙◌, ⊎_elim, arith}
use Rattle.std.specs.Prelude.{IfSome, if◌then◌else◌, slice_index, slice_range}
use Rattle.std.specs.Int.{w32, from_be_bytes}
use Rattle.std.proofs.lemmas.Bool.{cases_lt, le-leb, lt-leb, ne_eqb}
use Rattle.std.proofs.lemmas.List.{drop-drop, drop-take, length-drop, length-take, length-take-le, take-take}
use Rattle.tape_types.specs.declared.cartridges.Item.TheVariants as item
use Rattle.byte_disk.specs.Files.{Files, bytes_at}
use Rattle.image_format.specs.declared.heads.Head.{Head}
use Rattle.image_format.specs.declared.heads.Head.TheVariants.{Block, Mark, Torn}
use Rattle.image_format.specs.declared.window.Window.{Window}
use Rattle.image_format.specs.Records.{head_by, head_of, item_by, width}
use Rattle.image_format.specs.Walks.{HasHeadAt, Shows, rest_of, width_at, width_of, width_within}
use Rattle.image_format.proofs.HeadLemmas.{width_is}

-- a piece of a front of a file is that piece of the file
pub inside : (k m n : ℕ) (xs : List ℕ) → k + m ≤ n → take m (drop k (take n xs)) ≡ take m (drop k xs)
inside k m n xs le =
    let whole : k + (n - k) ≡ n = omega (arith, le) in
    ap (λ (j : ℕ). take m (drop k (take j xs))) (sym whole)
    ∙ ap (λ (l : List ℕ). take m l) (drop-take k (n - k) xs)
    ∙ take-take m (n - k) (drop k xs) (omega (arith, le))

if_told : (o : Option Files) (P : Files → Type 0) → ((d : Files) → o ≡ Some d → P d) → IfSome o P
if_told None P each = tt
if_told (Some d) P each = each d refl

-- the five bytes at a place of a piece are those of the file
seen : (file : List ℕ) (w : Window) (at end : ℕ) → at + 5 ≤ end → Shows file w → HasHeadAt at w
    → bytes_at (at - w.from) 5 w.bytes.items ≡ take 5 (rest_of at end file)
seen file w at end le shows head =
    let there : w.from + (at - w.from) ≡ at = omega (arith, head.low) in
    sym (inside (at - w.from) 5 w.filled w.bytes.items (omega (arith, head.low, head.high)))
    ∙ ap (λ (l : List ℕ). take 5 (drop (at - w.from) l)) shows
    ∙ inside (at - w.from) 5 w.filled (drop w.from file) (omega (arith, head.low, head.high))
    ∙ ap (λ (l : List ℕ). take 5 l) (drop-drop (at - w.from) w.from file)
    ∙ ap (λ (k : ℕ). take 5 (drop k file)) there
    ∙ sym (inside at 5 end file le)

width_told : (h : Option Head) (rest : List ℕ) → 5 ≤ length rest → width_within (length rest) h ≡ width_of (item_by h (drop 5 rest))
width_told None rest le = refl
width_told (Some Mark) rest le = ap (λ (t : Bool). if t then Some 5 else None) (le-leb 5 (length rest) le)
width_told (Some Torn) rest le = ap (λ (t : Bool). if t then Some 5 else None) (le-leb 5 (length rest) le)
width_told (Some (Block n)) rest le =
    ⊎_elim
    (λ (short : length rest < 5 + n).
    ap (λ (t : Bool). if t then Some (5 + n) else None) (lt-leb (5 + n) (length rest) short)
    ∙ sym (ap (λ (t : Bool). width_of (if t then Some (item.Block (take n (drop 5 rest))) else None))
    (lt-leb n (length (drop 5 rest)) (omega (arith, short, le, length-drop 5 rest)))))
    (λ (long : 5 + n ≤ length rest).
    let size : length (take n (drop 5 rest)) ≡ n = length-take-le n (drop 5 rest) (omega (arith, long, length-drop 5 rest)) in
    let wide : 5 + n ≡ width (item.Block (take n (drop 5 rest))) = omega (arith, size, width_is (item.Block (take n (drop 5 rest)))) in
    ap (λ (t : Bool). if t then Some (5 + n) else None) (le-leb (5 + n) (length rest) long)
    ∙ ap (λ (k : ℕ). Some k) wide
    ∙ sym (ap (λ (t : Bool). width_of (if t then Some (item.Block (take n (drop 5 rest))) else None))
    (le-leb n (length (drop 5 rest)) (omega (arith, long, length-drop 5 rest)))))
    (cases_lt (length rest) (5 + n))

left_is : (file : List ℕ) (at end : ℕ) → end ≤ length file → length (rest_of at end file) ≡ end - at
left_is file at end le = omega (arith, le, length-drop at (take end file), length-take end file)

-- the width of a record is told by its head, where that is in the piece in memory
pub told_width : (file : List ℕ) (w : Window) (at end : ℕ) (head : Option Head) → end ≤ length file → at + 5 ≤ end → Shows file w → HasHeadAt at w
    → head ≡ head_of (bytes_at (at - w.from) 5 w.bytes.items) → width_within (end - at) head ≡ width_at at end file
told_width file w at end head le five shows lies is =
    let left = left_is file at end le in
    ap (λ (k : ℕ). width_within k head) (sym left)
    ∙ ap (λ (o : Option Head). width_within (length (rest_of at end file)) o) (is ∙ ap head_of (seen file w at end five shows lies))
    ∙ width_told (head_of (take 5 (rest_of at end file))) (rest_of at end file) (omega (arith, left, five))

-- where fewer than five bytes are left, no record has a width
pub told_short : (file : List ℕ) (at end : ℕ) → end ≤ length file → end - at < 5 → None ≡ width_at at end file
told_short file at end le short =
    sym (ap (λ (t : Bool). width_of (item_by (if t then head_by (slice_index (take 5 (rest_of at end file)) 0) (from_be_bytes w32 (slice_range (take 5 (rest_of at end file)) 1 5)) else None) (drop 5 (rest_of at end file))))
    (ne_eqb (length (take 5 (rest_of at end file))) 5 (λ same. absurd (omega (arith, same, short, left_is file at end le, length-take 5 (rest_of at end file))))))
