-- What a scan tells of a partition.
use Rattle.std.proofs.Common.{ℕ, suc, ◌+◌, ◌-◌, ◌*◌, ◌≤◌, ◌≡◌, ◌≢◌, List, [], ◌∷◌, ◌++◌, length, map, reverse, drop, slice_get, Option, Some, None, Result, Ok, refl, sym, ◌∙◌, ap, subst, arith, length-append}
use Rattle.std.specs.Prelude.{IfSome}
use Rattle.std.specs.List.{flat_map}
use Rattle.std.proofs.lemmas.List.{length-map, map-append, reverse-append, reverse-reverse}
use Rattle.tape_types.specs.declared.cartridges.Cartridge.{Cartridge}
use Rattle.tape_types.specs.declared.cartridges.Item.{Item}
use Rattle.tape_types.specs.declared.cartridges.Item.TheVariants.{Block, Mark, Torn}
use Rattle.tape_types.specs.declared.cartridges.Limits.{Limits}
use Rattle.tape_types.specs.declared.cartridges.Part.{Part}
use Rattle.tape_types.specs.declared.cartridges.Part.TheVariants.{Ip, Dp}
use Rattle.tape_types.specs.Cartridges.{capacity, items_of}
use Rattle.tape_drive.specs.Looks.{Looks}
use Rattle.tape_drive.specs.declared.drive.Drive.{Ghosts}
use Rattle.cartridge_meaning.specs.declared.errors.MountErr.{MountErr}
use Rattle.cartridge_meaning.specs.declared.errors.MountErr.TheVariants as errors
use Rattle.content_laws.specs.Readings.{HasForm, constructs_from, front, items_of_group, items_of_tail}
use Rattle.content_laws.specs.Readings as readings
use Rattle.content_laws.specs.Content.{phase_of}
use Rattle.content_laws.specs.Content as content
use Rattle.content_laws.specs.Ends.{lead_of}
use Rattle.content_laws.proofs.ReadForms.{form}
use Rattle.volume_scan.specs.declared.content.Construct.{Construct}
use Rattle.volume_scan.specs.declared.content.Content.{Content}
use Rattle.volume_scan.specs.declared.errors.ScanErr.{ScanErr}
use Rattle.volume_scan.specs.Scans.{AreBetween, HasCounts, IsContent, IsInPlaces, places_of}
use Rattle.cartridge_meaning.specs.Faults.{LacksFormOn}
use Rattle.cartridge_meaning.specs.Labels.{HasLabel, HasRecord}
use Rattle.ltfs_label.specs.Values.{LabelValue, label_of}
use Rattle.vol_label.specs.declared.Vol1.{Vol1}
use Rattle.mount_recover.specs.Lasts.{HasSomeLabels, IsSeen, LacksLayout}
use Rattle.mount_recover.specs.Steps.{Blames, IsSince, IsStep}
use Rattle.mount_recover.specs.declared.starts.Start.{Start}
use Rattle.mount_recover.proofs.StepLemmas.{looks_more, since_next}

-- what a scan answers, as a step of a mount
pub scanned : {D : Type 0} (drive : Ghosts D) (start : Start) (a b : D) (part : Part) (found : Content) (r : Result Content ScanErr) → IsSince drive start a
    → ((c : Cartridge) → drive.held a ≡ Some c → IsContent (items_of part c) found) → IsInPlaces (capacity part (drive.limits a)) found
    → HasCounts (drive.faults a) (drive.faults b) r → Looks drive ((capacity part (drive.limits a) - 3) * drive.MOST) a b
    → IsStep drive start (1 + capacity part start.limits) a b (λ found c. IsContent (items_of part c) found) (IsInPlaces (capacity part start.limits)) (LacksLayout part) (Ok found)
scanned drive start a b part found r since told places counts looks =
    let some = capacity part (drive.limits a) in
    let wide = looks_more drive start (some - 3) (1 + some) a b (omega arith) looks in
    let within = subst (λ (l : Limits). Looks drive ((1 + capacity part l) * drive.MOST) a b) since.limits wide in
    let later : start.faults ≤ drive.faults b = omega (arith, since.faults, counts.later) in
    record {
      found = told;
      any = subst (λ (l : Limits). IsInPlaces (capacity part l) found) since.limits places;
      refused = tt;
      counts = record { later = later; told = tt };
      looks = within;
      since = since_next drive start _ a b since within later;
    }

-- ---- which cartridges have a front of four items

tail_get : (items : List Item) (i : ℕ) → slice_get (drop 1 items) i ≡ slice_get items (suc i)
tail_get [] i = refl
tail_get (x ∷ items) i = refl

front_more : (items : List Item) (x : Item) (n : ℕ) → slice_get items 0 ≡ Some x → x ≢ Torn → n ≤ length (front (drop 1 items)) → n + 1 ≤ length (front items)
front_more [] x n is whole le = absurd (cc is)
front_more (Block b ∷ items) x n is whole le = omega (arith, le)
front_more (Mark ∷ items) x n is whole le = omega (arith, le)
front_more (Torn ∷ items) x n is whole le = absurd (whole (let same : Some x ≡ Some Torn = sym is in cc))

labels_in_front : (items : List Item) (v : Vol1) (l : LabelValue) → HasRecord items v → HasLabel items l → 4 ≤ length (front items)
labels_in_front items v l record_is label_is =
    let one = drop 1 items in
    let two = drop 1 one in
    let three = drop 1 two in
    front_more items (Block record_is.bytes) 3 record_is.stands.block (λ e. cc e)
    (front_more one Mark 2 (tail_get items 0 ∙ record_is.stands.mark) (λ e. cc e)
    (front_more two (Block label_is.bytes) 1 (tail_get one 0 ∙ tail_get items 1 ∙ label_is.stands.block) (λ e. cc e)
    (front_more three Mark 0 (tail_get two 0 ∙ tail_get one 1 ∙ tail_get items 2 ∙ label_is.stands.mark) (λ e. cc e) (omega arith))))

-- a partition with a label has four items in its front
pub long_front : (part : Part) (c : Cartridge) → HasSomeLabels c → 4 ≤ length (front (items_of part c))
long_front Ip c h = labels_in_front c.ip h.0.ip_record (label_of h.0.ip) h.1.ip_record h.1.ip
long_front Dp c h = labels_in_front c.dp h.0.dp_record (label_of h.0.dp) h.1.dp_record h.1.dp

-- where the drive tells a cartridge with labels, each front has four items
pub long_fronts : (part : Part) (o : Option Cartridge) → IfSome o HasSomeLabels → IfSome o (λ c. 4 ≤ length (front (items_of part c)))
long_fronts part None h = tt
long_fronts part (Some c) h = long_front part c h

-- ---- which check fails

-- an index partition without the form is what the cartridge lacks
pub blames_ip : (c : Cartridge) → HasSomeLabels c → (e : MountErr) → LacksLayout Ip e c → Blames e c
blames_ip c h (errors.Drive counts) lacks = tt
blames_ip c h errors.NoMemory lacks = tt
blames_ip c h (errors.Layout place) lacks =
    record { labels = h.0; has = h.1; lacks = subst (λ (p : Part). LacksFormOn p c place.pos) (sym lacks.0) lacks.1 }
blames_ip c h e lacks = absurd lacks

-- a data partition without the form, the other having it, is what the cartridge lacks
pub blames_dp : (c : Cartridge) → HasSomeLabels c → HasForm c.ip → (e : MountErr) → LacksLayout Dp e c → Blames e c
blames_dp c h form (errors.Drive counts) lacks = tt
blames_dp c h form errors.NoMemory lacks = tt
blames_dp c h form (errors.Layout place) lacks =
    record { labels = h.0; has = h.1; lacks = subst (λ (p : Part). LacksFormOn p c place.pos) (sym lacks.0) (form, lacks.1) }
blames_dp c h form e lacks = absurd lacks

-- ---- the indexes of a partition

lead_is : (before : ℕ) (lead : List (List ℕ)) (begun : Option (List (List ℕ)))
    → lead_of (before + length (items_of_tail lead begun)) (phase_of before lead begun) ≡ before + length lead
lead_is before lead None = omega (arith, length-map lead Block)
lead_is before lead (Some begun) = refl

-- where a scan says that indexes stand, those that are read stand
pub seen : (items : List Item) (found : Content) → 4 ≤ length (front items) → IsContent items found → IsSeen items found
seen items found long told =
    let f = told.form in record {
      form = f;
      long = long;
      constructs =
          told.constructs
          ∙ sym (ap (λ (s : content.Content). map places_of (reverse s.constructs)) (form items f)
          ∙ ap (λ (ks : List readings.Construct). map places_of ks) (reverse-reverse (constructs_from 4 f.groups)));
      lead =
          told.lead
          ∙ sym (ap (λ (s : content.Content). lead_of s.pos s.phase) (form items f)
          ∙ lead_is (4 + length (flat_map items_of_group f.groups)) f.lead f.begun);
      front = told.front;
    }

-- the newest index is the last one that a scan tells
pub last_first : (k : readings.Construct) (older : List readings.Construct)
    → map places_of (reverse (k ∷ older)) ≡ map places_of (reverse older) ++ places_of k ∷ []
last_first k older =
    ap (λ (ks : List readings.Construct). map places_of ks) (reverse-append (k ∷ []) older)
    ∙ map-append places_of (reverse older) (k ∷ [])

-- they stand behind the labels and within a capacity
pub within : (capacity : ℕ) (found : Content) → IsInPlaces capacity found → AreBetween 4 capacity found.constructs
within capacity found places = more 4 found.lead capacity found.constructs (omega (arith, places.lead, places.front)) places.constructs
  where
    more : (from to end : ℕ) (ks : List Construct) → to ≤ end → AreBetween from to ks → AreBetween from end ks
    more from to end [] le b = omega (arith, le, b)
    more from to end (k ∷ ks) le b = (b.0, b.1, b.2, more k.after to end ks le b.3)

-- all indexes but the last, and the last
pub parted : (ks : List readings.Construct) (places rest : List Construct) (place : Construct) → places ≡ map places_of (reverse ks)
    → places ≡ rest ++ place ∷ [] → (k : readings.Construct) × (older : List readings.Construct) × (ks ≡ k ∷ older) × (place ≡ places_of k) × (rest ≡ map places_of (reverse older))
parted [] places rest place are parts = absurd (none_parted rest (sym are ∙ parts))
  where
    none_parted : (rest : List Construct) → [] ≡ rest ++ place ∷ [] → ⊥
    none_parted [] e = cc e
    none_parted (x ∷ rest) e = cc e
parted (k ∷ older) places rest place are parts =
    let same = snoc_same rest (map places_of (reverse older)) place (places_of k) (sym parts ∙ are ∙ last_first k older) in
    (k, older, refl, same.1, same.0)
  where
    snoc_same : (xs ys : List Construct) (x y : Construct) → xs ++ x ∷ [] ≡ ys ++ y ∷ [] → (xs ≡ ys) × (x ≡ y)
    snoc_same [] [] x y e = (refl, (cc))
    snoc_same [] (b ∷ []) x y e = absurd (let none : [] ≡ y ∷ [] = cc in cc none)
    snoc_same [] (b ∷ c ∷ ys) x y e = absurd (let none : [] ≡ c ∷ (ys ++ y ∷ []) = cc in cc none)
    snoc_same (a ∷ []) [] x y e = absurd (let none : x ∷ [] ≡ [] = cc in cc none)
    snoc_same (a ∷ d ∷ xs) [] x y e = absurd (let none : d ∷ (xs ++ x ∷ []) ≡ [] = cc in cc none)
    snoc_same (a ∷ xs) (b ∷ ys) x y e =
        let heads : a ≡ b = cc in
        let tails : xs ++ x ∷ [] ≡ ys ++ y ∷ [] = cc in
        let same = snoc_same xs ys x y tails in ((λ i. heads i ∷ same.0 i), same.1)

-- where a scan tells no index, there is none
pub none_left : (ks : List readings.Construct) (places : List Construct) → places ≡ map places_of (reverse ks) → length places ≡ 0 → ks ≡ []
none_left [] places are none = refl
none_left (k ∷ older) places are none =
    absurd (omega (arith, none, ap length are, ap length (last_first k older), length-append (map places_of (reverse older)) (places_of k ∷ [])))
