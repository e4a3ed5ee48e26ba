-- What a slot's value says, by its fields and by its bytes.
use Rattle.std.proofs.Common.{◌≡◌, ℕ, Bool, true, false, ◌==◌, List, length, Option, Some, None, refl, sym, ap, ◌∙◌, subst, arith}
use Rattle.std.specs.Prelude.{slice_index, slice_range, if◌then◌else◌}
use Rattle.std.specs.Int.{w64, to_be_bytes}
use Rattle.std.proofs.lemmas.Bool.{eqb-true}
use Rattle.std.proofs.lemmas.List.{take_all}
use Rattle.tape_types.specs.declared.cartridges.Note.{Note}
use Rattle.tape_types.specs.declared.cartridges.Note.TheVariants.{Absent, Kept}
use Rattle.image_format.specs.declared.values.Half.{Half}
use Rattle.image_format.specs.declared.values.SlotValue.{SlotValue}
use Rattle.image_format.specs.Values.{IsHalf, IsNoteField, IsSized, IsSizedHalf, IsSizedNote, IsValue, flag, flag_in, half_by, half_bytes, half_of, note_by, note_bytes, number_at, value_by, value_bytes, value_of}
use Rattle.image_format.proofs.Fields.{number_back, parts}

flag_found : (t : Bool) → flag_in (flag t) ≡ Some t
flag_found true = refl
flag_found false = refl

flag_by : (b : ℕ) (t z o : Bool) → (b == 0) ≡ z → (b == 1) ≡ o → (if z then Some false else if o then Some true else None) ≡ Some t → b ≡ flag t
flag_by b true true o ez eo e = absurd (cc e)
flag_by b false true o ez eo e = eqb-true b 0 ez
flag_by b true false true ez eo e = eqb-true b 1 eo
flag_by b false false true ez eo e = absurd (cc e)
flag_by b true false false ez eo e = absurd (cc e)
flag_by b false false false ez eo e = absurd (cc e)

flag_only : (b : ℕ) (t : Bool) → flag_in b ≡ Some t → b ≡ flag t
flag_only b t e = flag_by b t (b == 0) (b == 1) refl refl e

-- whether there is a note
abbrev noted : Note → Bool
noted Absent = false
noted (Kept bytes) = true

note_flag : (b : ℕ) (bytes : List ℕ) (note : Note) → IsNoteField b bytes note → b ≡ flag (noted note)
note_flag b bytes Absent is = is
note_flag b bytes (Kept note) is = is.0

note_found : (b : ℕ) (bytes : List ℕ) (note : Note) → IsNoteField b bytes note → note_by (noted note) bytes ≡ note
note_found b bytes Absent is = refl
note_found b bytes (Kept note) is = ap Kept (sym is.1)

note_only : (b : ℕ) (bytes : List ℕ) (t : Bool) → b ≡ flag t → IsNoteField b bytes (note_by t bytes)
note_only b bytes true e = (e, refl)
note_only b bytes false e = e

abbrev half_with : List ℕ → Bool → Note → Half
half_with raw torn note = record { count = number_at raw 0; end = number_at raw 8; torn = torn; note = note }

half_found : (raw : List ℕ) (h : Half) → IsHalf raw h → half_of raw ≡ Some h
half_found raw h is =
    let torn : flag_in (slice_index raw 16) ≡ Some h.torn = ap flag_in is.torn ∙ flag_found h.torn in
    let note : flag_in (slice_index raw 17) ≡ Some (noted h.note) =
    ap flag_in (note_flag (slice_index raw 17) (slice_range raw 18 88) h.note is.note) ∙ flag_found (noted h.note) in
    let kept : note_by (noted h.note) (slice_range raw 18 88) ≡ h.note = note_found (slice_index raw 17) (slice_range raw 18 88) h.note is.note in
    let same : half_with raw h.torn (note_by (noted h.note) (slice_range raw 18 88)) ≡ h =
    λ t. record { count = sym is.count t; end = sym is.end t; torn = h.torn; note = kept t } in
    ap (λ (o : Option Bool). half_by raw o (flag_in (slice_index raw 17))) torn
    ∙ ap (λ (o : Option Bool). half_by raw (Some h.torn) o) note
    ∙ ap (λ (x : Half). Some x) same

half_only_by : (raw : List ℕ) (h : Half) (a b : Option Bool) → flag_in (slice_index raw 16) ≡ a → flag_in (slice_index raw 17) ≡ b
    → half_by raw a b ≡ Some h → IsHalf raw h
half_only_by raw h None b ea eb e = absurd (cc e)
half_only_by raw h (Some torn) None ea eb e = absurd (cc e)
half_only_by raw h (Some torn) (Some note) ea eb e =
    let told : Some (half_with raw torn (note_by note (slice_range raw 18 88))) ≡ Some h = e in
    let is : half_with raw torn (note_by note (slice_range raw 18 88)) ≡ h = cc told in
    subst (λ (x : Half). IsHalf raw x) is (record {
      count = refl;
      end = refl;
      torn = flag_only (slice_index raw 16) torn ea;
      note = note_only (slice_index raw 17) (slice_range raw 18 88) note (flag_only (slice_index raw 17) note eb);
    })

half_only : (raw : List ℕ) (h : Half) → half_of raw ≡ Some h → IsHalf raw h
half_only raw h e = half_only_by raw h (flag_in (slice_index raw 16)) (flag_in (slice_index raw 17)) refl refl e

abbrev value_with : List ℕ → Half → Half → SlotValue
value_with raw ip dp = record { serial = number_at raw 0; vcr = number_at raw 8; ip = ip; dp = dp }

-- what a value says by its fields is read of its bytes
pub value_found : (raw : List ℕ) (s : SlotValue) → IsValue raw s → value_of raw ≡ Some s
value_found raw s is =
    let same : value_with raw s.ip s.dp ≡ s = λ t. record { serial = sym is.serial t; vcr = sym is.vcr t; ip = s.ip; dp = s.dp } in
    ap (λ (o : Option Half). value_by raw o (half_of (slice_range raw 104 192))) (half_found (slice_range raw 16 104) s.ip is.ip)
    ∙ ap (λ (o : Option Half). value_by raw (Some s.ip) o) (half_found (slice_range raw 104 192) s.dp is.dp)
    ∙ ap (λ (x : SlotValue). Some x) same

value_only_by : (raw : List ℕ) (s : SlotValue) (a b : Option Half) → length raw ≡ 255 → half_of (slice_range raw 16 104) ≡ a
    → half_of (slice_range raw 104 192) ≡ b → value_by raw a b ≡ Some s → IsValue raw s
value_only_by raw s None b long ea eb e = absurd (cc e)
value_only_by raw s (Some ip) None long ea eb e = absurd (cc e)
value_only_by raw s (Some ip) (Some dp) long ea eb e =
    let told : Some (value_with raw ip dp) ≡ Some s = e in
    let is : value_with raw ip dp ≡ s = cc told in
    subst (λ (x : SlotValue). IsValue raw x) is (record {
      size = long;
      serial = refl;
      vcr = refl;
      ip = half_only (slice_range raw 16 104) ip ea;
      dp = half_only (slice_range raw 104 192) dp eb;
    })

-- what is read of 255 bytes is what they say by their fields
pub value_only : (raw : List ℕ) (s : SlotValue) → length raw ≡ 255 → value_of raw ≡ Some s → IsValue raw s
value_only raw s long e =
    value_only_by raw s (half_of (slice_range raw 16 104)) (half_of (slice_range raw 104 192)) long refl refl e

-- what is written

note_length : (note : Note) → IsSizedNote note → length (note_bytes note) ≡ 71
note_length Absent long = refl
note_length (Kept note) long = omega (arith, long)

written_note : (note : Note) → IsSizedNote note
    → IsNoteField (slice_index (note_bytes note) 0) (slice_range (note_bytes note) 1 71) note
written_note Absent long = refl
written_note (Kept note) long = (refl, sym (take_all 70 note (omega (arith, long))))

half_reads : (h : Half) → IsSizedHalf h → IsHalf (half_bytes h) h
half_reads h is = record {
  count = number_back h.count (to_be_bytes w64 h.count) is.count refl;
  end = number_back h.end (to_be_bytes w64 h.end) is.end refl;
  torn = refl;
  note = written_note h.note is.note;
}

half_length : (h : Half) → IsSizedHalf h → length (half_bytes h) ≡ 88
half_length h is = omega (arith, note_length h.note is.note)

-- the bytes of a value with fields in range say that value
pub value_reads : (s : SlotValue) → IsSized s → IsValue (value_bytes s) s
value_reads s is =
    let h = parts (to_be_bytes w64 s.serial) (to_be_bytes w64 s.vcr) (half_bytes s.ip) (half_bytes s.dp) refl refl (half_length s.ip is.ip) (half_length s.dp is.dp) in
    record {
      size = h.size;
      serial = number_back s.serial _ is.serial h.serial;
      vcr = number_back s.vcr _ is.vcr h.vcr;
      ip = subst (λ (x : List ℕ). IsHalf x s.ip) (sym h.ip) (half_reads s.ip is.ip);
      dp = subst (λ (x : List ℕ). IsHalf x s.dp) (sym h.dp) (half_reads s.dp is.dp);
    }
