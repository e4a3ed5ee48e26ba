-- What is said of a disk, and what is found of it.
use Rattle.std.proofs.Common.{◌≡◌, ℕ, ◌+◌, ◌≤◌, ◌⊎◌, inl, inr, Bool, true, false, ◌==◌, ◌&&◌, nat_lt, nat_le, List, length, take, drop, Option, Some, None, Result, Ok, Err, refl, sym, ap, ◌∙◌, subst, arith}
use Rattle.std.specs.Prelude.{if◌then◌else◌}
use Rattle.std.proofs.lemmas.Bool.{and_from, and_parts, eq-eqb, eqb-true, le-leb, leb-true, lt-ltb, ltb-true, false_from_ne_true}
use Rattle.std.proofs.lemmas.List.{length-drop, length-take, nil_from_length}
use Rattle.tape_types.specs.declared.cartridges.Cartridge.{Cartridge}
use Rattle.tape_types.specs.declared.cartridges.Item.{Item}
use Rattle.tape_types.specs.declared.cartridges.Limits.{Limits}
use Rattle.tape_types.specs.declared.cartridges.Part.TheVariants.{Ip, Dp}
use Rattle.byte_disk.specs.Files.{AreBytes, Files}
use Rattle.image_slots.specs.Sides.{chosen}
use Rattle.image_slots.specs.Slots.{Counts, HasValue, IsBlank, first_of, second_of, value_in}
use Rattle.image_slots.proofs.Choosing.{chosen_value, value_chosen}
use Rattle.image_format.specs.declared.refusal.Refusal.{Refusal}
use Rattle.image_format.specs.declared.refusal.Refusal.TheVariants.{Header, Record}
use Rattle.image_format.specs.declared.values.SlotValue.{SlotValue}
use Rattle.image_format.specs.Images.{IsHeader, IsSaid, blank, fits, fitting, header, header_by, image, image_by, is_blank, joined}
use Rattle.image_format.specs.Records.{items_in}
use Rattle.image_format.specs.Values.{flag, value_of}
use Rattle.image_format.proofs.RecordLemmas.{records_found, records_only, fault_found, fault_only}
use Rattle.image_format.proofs.ValueLemmas.{value_found, value_only}

-- the value of a slot has 255 bytes
counted_long : (cm raw : List ℕ) → HasValue cm raw → length raw ≡ 255
counted_long cm raw has = by has.counts
  where
    by : (Counts (first_of cm) (second_of cm) × (raw ≡ value_in (first_of cm)))
        ⊎ (Counts (second_of cm) (first_of cm) × (raw ≡ value_in (second_of cm))) → length raw ≡ 255
    by (inl (counts, is)) = ap length is ∙ omega (arith, has.size, length-drop 1 (take 256 cm), length-take 256 cm)
    by (inr (counts, is)) = ap length is ∙ omega (arith, has.size, length-drop 1 (drop 256 cm), length-drop 256 cm)

-- what a header says

fits_by : (n cap : ℕ) (t : Bool) → n + flag t ≤ cap → (if t then nat_lt n cap else nat_le n cap) ≡ true
fits_by n cap true le = lt-ltb n cap (omega (arith, le))
fits_by n cap false le = le-leb n cap (omega (arith, le))

fits_only : (n cap : ℕ) (t : Bool) → (if t then nat_lt n cap else nat_le n cap) ≡ true → n + flag t ≤ cap
fits_only n cap true e = omega (arith, ltb-true n cap e)
fits_only n cap false e = omega (arith, leb-true n cap e)

-- what a header says in form is read of it
pub header_found : (limits : Limits) (cm : List ℕ) (s : SlotValue) → IsHeader limits cm s → header limits cm ≡ Some s
header_found limits cm s is =
    ap (header_by limits) (value_chosen cm is.raw is.counts)
    ∙ ap (fitting limits) (value_found is.raw s is.told)
    ∙ ap (λ (t : Bool). if t then Some s else None)
    (and_from (fits limits.cap_ip s.ip) (fits limits.cap_dp s.dp)
    (fits_by s.ip.count limits.cap_ip s.ip.torn is.ip) (fits_by s.dp.count limits.cap_dp s.dp.torn is.dp))

module _ (limits : Limits) (cm : List ℕ) (s : SlotValue) where
  if_fits : (raw : List ℕ) (v : SlotValue) (t : Bool) → chosen cm ≡ Some raw → value_of raw ≡ Some v
      → (fits limits.cap_ip v.ip && fits limits.cap_dp v.dp) ≡ t → (if t then Some v else None) ≡ Some s → IsHeader limits cm s
  if_fits raw v true er ev et e =
      let same : v ≡ s = cc e in
      let has = chosen_value cm raw er in
      let both = and_parts (fits limits.cap_ip v.ip) (fits limits.cap_dp v.dp) et in
      subst (λ (x : SlotValue). IsHeader limits cm x) same (record {
        raw = raw;
        counts = has;
        told = value_only raw v (counted_long cm raw has) ev;
        ip = fits_only v.ip.count limits.cap_ip v.ip.torn both.0;
        dp = fits_only v.dp.count limits.cap_dp v.dp.torn both.1;
      })
  if_fits raw v false er ev et e = absurd (cc e)

  if_value : (raw : List ℕ) (o : Option SlotValue) → chosen cm ≡ Some raw → value_of raw ≡ o → fitting limits o ≡ Some s → IsHeader limits cm s
  if_value raw None er eo e = absurd (cc e)
  if_value raw (Some v) er eo e = if_fits raw v (fits limits.cap_ip v.ip && fits limits.cap_dp v.dp) er eo refl e

  if_counted : (o : Option (List ℕ)) → chosen cm ≡ o → header_by limits o ≡ Some s → IsHeader limits cm s
  if_counted None eo e = absurd (cc e)
  if_counted (Some raw) eo e = if_value raw (value_of raw) eo refl e

  -- what is read of a header, it says in form
  pub header_only : header limits cm ≡ Some s → IsHeader limits cm s
  header_only e = if_counted (chosen cm) refl e

-- a blank disk

blank_found : (d : Files) → IsBlank d → is_blank d ≡ true
blank_found d is =
    and_from ((length d.ip == 0) && (length d.dp == 0)) (nat_lt (length d.cm) 512)
    (and_from (length d.ip == 0) (length d.dp == 0) (eq-eqb (length d.ip) 0 (ap length is.ip)) (eq-eqb (length d.dp) 0 (ap length is.dp)))
    (lt-ltb (length d.cm) 512 is.cm)

blank_only : (d : Files) → is_blank d ≡ true → IsBlank d
blank_only d e =
    let both = and_parts ((length d.ip == 0) && (length d.dp == 0)) (nat_lt (length d.cm) 512) e in
    let parts = and_parts (length d.ip == 0) (length d.dp == 0) both.0 in
    record {
      ip = nil_from_length d.ip (eqb-true (length d.ip) 0 parts.0);
      dp = nil_from_length d.dp (eqb-true (length d.dp) 0 parts.1);
      cm = ltb-true (length d.cm) 512 both.1;
    }

not_blank : (d : Files) → ¬ (IsBlank d) → is_blank d ≡ false
not_blank d is = false_from_ne_true (is_blank d) (λ e. is (blank_only d e))

-- all of it

abbrev opened_as : Cartridge → Result Cartridge Refusal
opened_as c = Ok c

module _ (limits : Limits) (d : Files) (bytes_ip : AreBytes d.ip) (bytes_dp : AreBytes d.dp) where
  other : ¬ (IsBlank d) → image limits d ≡ image_by d (header limits d.cm)
  other is = ap (λ (t : Bool). if t then Ok blank else image_by d (header limits d.cm)) (not_blank d is)

  of_header : (s : SlotValue) → ¬ (IsBlank d) → IsHeader limits d.cm s → image limits d ≡ joined s (items_in s.ip d.ip) (items_in s.dp d.dp)
  of_header s is head = other is ∙ ap (image_by d) (header_found limits d.cm s head)

  no_header : (o : Option SlotValue) → header limits d.cm ≡ o → ((s : SlotValue) → ¬ (IsHeader limits d.cm s)) → image_by d o ≡ Err Header
  no_header None e lacks = refl
  no_header (Some s) e lacks = absurd (lacks s (header_only limits d.cm s e))

  -- what may be said of a disk is what is found of it
  pub said_found : (r : Result Cartridge Refusal) → IsSaid limits d r → image limits d ≡ r
  said_found (Ok c) (inl (is, same)) =
      ap (λ (t : Bool). if t then Ok blank else image_by d (header limits d.cm)) (blank_found d is) ∙ ap opened_as (sym same)
  said_found (Ok c) (inr (not, i)) =
      of_header i.s not i.head
      ∙ ap (λ (r : Result (List Item) ℕ). joined i.s r (items_in i.s.dp d.dp)) (records_found i.s.ip d.ip i.ip i.in_ip)
      ∙ ap (λ (r : Result (List Item) ℕ). joined i.s (Ok i.ip) r) (records_found i.s.dp d.dp i.dp i.in_dp)
      ∙ ap opened_as (sym i.is)
  said_found (Err Header) (not, lacks) = other not ∙ no_header (header limits d.cm) refl lacks
  said_found (Err (Record Ip n)) (not, (s, head, fault)) =
      of_header s not head
      ∙ ap (λ (r : Result (List Item) ℕ). joined s r (items_in s.dp d.dp)) (fault_found s.ip d.ip n bytes_ip fault)
  said_found (Err (Record Dp n)) (not, (s, head, (ip, records), fault)) =
      of_header s not head
      ∙ ap (λ (r : Result (List Item) ℕ). joined s r (items_in s.dp d.dp)) (records_found s.ip d.ip ip records)
      ∙ ap (λ (r : Result (List Item) ℕ). joined s (Ok ip) r) (fault_found s.dp d.dp n bytes_dp fault)

  said_items : (s : SlotValue) (a b : Result (List Item) ℕ) → ¬ (IsBlank d) → IsHeader limits d.cm s → items_in s.ip d.ip ≡ a → items_in s.dp d.dp ≡ b
      → IsSaid limits d (joined s a b)
  said_items s (Err n) b not head ea eb = (not, (s, head, fault_only s.ip d.ip n bytes_ip ea))
  said_items s (Ok ip) (Err n) not head ea eb =
      (not, (s, head, (ip, records_only s.ip d.ip ip bytes_ip ea), fault_only s.dp d.dp n bytes_dp eb))
  said_items s (Ok ip) (Ok dp) not head ea eb = inr (
    not,
    record {
      s = s;
      ip = ip;
      dp = dp;
      head = head;
      in_ip = records_only s.ip d.ip ip bytes_ip ea;
      in_dp = records_only s.dp d.dp dp bytes_dp eb;
      is = refl;
    },
  )

  said_header : (o : Option SlotValue) → ¬ (IsBlank d) → header limits d.cm ≡ o → IsSaid limits d (image_by d o)
  said_header None not e = (not, λ s head. absurd (let bad : None ≡ Some s = sym e ∙ header_found limits d.cm s head in cc bad))
  said_header (Some s) not e = said_items s (items_in s.ip d.ip) (items_in s.dp d.dp) not (header_only limits d.cm s e) refl refl

  said_by : (t : Bool) → is_blank d ≡ t → IsSaid limits d (if t then Ok blank else image_by d (header limits d.cm))
  said_by true e = inl (blank_only d e, refl)
  said_by false e =
      said_header (header limits d.cm) (λ is. absurd (let bad : true ≡ false = sym (blank_found d is) ∙ e in cc bad)) refl

  -- what is found of a disk is what may be said of it
  pub said_only : (r : Result Cartridge Refusal) → image limits d ≡ r → IsSaid limits d r
  said_only r e = subst (λ (x : Result Cartridge Refusal). IsSaid limits d x) e (said_by (is_blank d) refl)
