-- The choice by the notes.
use Rattle.std.proofs.Common.{ℕ, ◌+◌, ◌≤◌, ◌<◌, ◌≡◌, ◌⊎◌, inl, inr, List, [], ◌∷◌, length, Option, Some, None, refl, sym, ◌∙◌, ap, subst, arith}
use Rattle.std.specs.Prelude.{IfNone, IfSome, MatchOption}
use Rattle.tape_types.specs.declared.cartridges.Cartridge.{Cartridge}
use Rattle.tape_types.specs.declared.cartridges.Limits.{Limits}
use Rattle.tape_types.specs.declared.cartridges.Note.{Note}
use Rattle.tape_types.specs.declared.cartridges.Part.{Part}
use Rattle.tape_types.specs.declared.cartridges.Part.TheVariants.{Ip, Dp}
use Rattle.tape_types.specs.Cartridges.{FitsLimits, capacity, items_of, note_of}
use Rattle.coherency.specs.declared.Coherency.{Coherency}
use Rattle.coherency.specs.Notes.{IsCurrent}
use Rattle.ltfs_label.specs.declared.Label.{Label}
use Rattle.content_laws.specs.Readings as readings
use Rattle.content_laws.specs.Readings.{after_of, front}
use Rattle.content_laws.specs.Content.{content}
use Rattle.content_laws.specs.Ends.{EndsWithLast, end_dp, end_ip}
use Rattle.content_laws.proofs.Placed.{AreOrdered, content_placed, end_dp_least, end_dp_within}
use Rattle.content_laws.proofs.Whole.{front_within}
use Rattle.cartridge_meaning.specs.Labels.{HasLabels}
use Rattle.cartridge_meaning.specs.Meaning.{Found, HasForms}
use Rattle.cartridge_meaning.specs.Notes.{HasHonestNotes, IsCoherent, IsHonestNote}
use Rattle.cartridge_meaning.specs.Pointers.{indexes_of}
use Rattle.cartridge_meaning.specs.declared.labels.Labels.{Labels}
use Rattle.cartridge_meaning.proofs.OneWay.{labels_once}
use Rattle.volume_scan.specs.declared.content.Construct.{Construct}
use Rattle.mount_recover.specs.Known.{IsKnownByNotes, blocks_of_newest, last_blocks}
use Rattle.mount_recover.specs.Lasts.{AreLasts, AreSoundLasts, EndsAs, IsDecided, IsSoundChoice, IsSoundLast, TellsStanding, dp_in, ip_in, newest, place_in, standing_of}
use Rattle.mount_recover.specs.Noted.{AreEndsBy, AreEndsOf, AreEndsWithin, AreNamed, AreNotedLasts, AreNotes, AreTold, CanBegin, EndWithLasts, IsChosenByNotes, IsCurrentAs, IsNotedLast, IsTold}
use Rattle.mount_recover.specs.declared.choices.Choice.{Choice}
use Rattle.mount_recover.specs.declared.choices.Standing.{Standing}
use Rattle.mount_recover.specs.declared.extents.Ends.{Ends}
use Rattle.mount_recover.specs.declared.lasts.LastIndex.{LastIndex}
use Rattle.mount_recover.specs.declared.lasts.Lasts.{Lasts}
use Rattle.mount_recover.specs.declared.notes.Named.{Named}
use Rattle.mount_recover.specs.declared.notes.Notes.{Notes}
use Rattle.mount_recover.proofs.ChoiceLemmas.{ends_at_mark, ends_dp, place_is}
use Rattle.mount_recover.proofs.FlagLemmas.{fits_count}
use Rattle.mount_recover.proofs.MountLemmas.{ends_same}
use Rattle.mount_recover.proofs.NotedLemmas.{last_from}
use Rattle.mount_recover.proofs.ScanLemmas.{long_front}

-- ---- the ends

ends_by_lasts : (ip dp : LastIndex) (ip_s dp_s : Option Standing) (ends : Ends) → ip_s ≡ standing_of (Some ip) → dp_s ≡ standing_of (Some dp) → AreEndsBy ip_s dp_s ends
    → (ends.ip ≡ ip.place.mark) × (ends.dp ≡ dp.place.after)
ends_by_lasts ip dp ip_s dp_s ends ip_is dp_is are =
    subst (λ (o : Option Standing). AreEndsBy (standing_of (Some ip)) o ends) dp_is (subst (λ (o : Option Standing). AreEndsBy o dp_s ends) ip_is are)

mark_end : (c : Cartridge) (l : LastIndex) (ks : List readings.Construct) → indexes_of c.ip ≡ ks → readings.HasForm c.ip → 4 ≤ length (front c.ip)
    → place_in (Some l) ≡ newest ks → EndsWithLast c.ip ks → end_ip (content c.ip) ≡ l.place.mark
mark_end c l [] are form long stands ends = absurd ends
mark_end c l (k ∷ older) are form long stands ends =
    ends_at_mark c.ip k older form long are ends ∙ ap (λ (p : Construct). p.mark) (sym (place_is l k older stands))

module _ (labels : Labels) (n : Named) (limits : Limits) (lasts : Lasts) (noted : AreNotedLasts labels.ip n limits lasts) (ends : Ends)
    (by : AreEndsBy (standing_of (ip_in lasts)) (standing_of (dp_in lasts)) ends) where
  are_by : (ends.ip ≡ noted.ip.place.mark) × (ends.dp ≡ noted.dp.place.after)
  are_by = ends_by_lasts noted.ip noted.dp (standing_of (ip_in lasts)) (standing_of (dp_in lasts)) ends (ap standing_of noted.ip_is) (ap standing_of noted.dp_is) by

  -- these ends lie within the capacities
  pub noted_within : AreEndsWithin limits (standing_of (dp_in lasts)) ends
  noted_within =
      let ip = noted.ip_noted.sound.place in
      let dp = noted.dp_noted.sound.place in
      record {
        ip = (omega (arith, are_by.0, ip.mark), omega (arith, are_by.0, ip.first, ip.block, ip.after));
        dp = (omega (arith, are_by.1, dp.mark, dp.first, dp.block), omega (arith, are_by.1, dp.after));
        last_dp = subst (λ (o : Option Standing). IfSome o (λ s. s.place.first < ends.dp)) (sym (ap standing_of noted.dp_is)) (omega (arith, are_by.1, dp.block));
      }

  module _ (c : Cartridge) (told : AreTold labels n c) (are : AreLasts labels.ip lasts c) (all : EndWithLasts c) where
    -- the labels are there, and both partitions have their form
    pub noted_forms : HasForms c labels
    noted_forms = record { has = told.has; ip = told.ip.form; dp = told.dp.form }

    -- these ends are those of the cartridge
    pub noted_ends : AreEndsOf c ends
    noted_ends = record {
      ip = are_by.0 ∙ sym (mark_end c noted.ip (indexes_of c.ip) refl told.ip.form told.ip.long (ap place_in (sym noted.ip_is) ∙ are.ip.place) all.ip);
      dp = are_by.1 ∙ ends_dp (indexes_of c.dp) (Some noted.dp) (ap place_in (sym noted.dp_is) ∙ are.dp.place);
    }

-- last indexes that were found by the notes are sound
pub noted_sound : (labels : Labels) (n : Named) (limits : Limits) (lasts : Lasts) → AreNotedLasts labels.ip n limits lasts → AreSoundLasts labels.ip limits lasts
noted_sound labels n limits lasts noted = record {
  dp = subst (λ (o : Option LastIndex). IfSome o (IsSoundLast labels.ip limits.cap_dp)) (sym noted.dp_is) noted.dp_noted.sound;
  ip = subst (λ (o : Option LastIndex). IfSome o (IsSoundLast labels.ip limits.cap_ip)) (sym noted.ip_is) noted.ip_noted.sound;
}

-- the notes have their last indexes
pub none_lacks : (labels : Labels) (n : Named) (limits : Limits) (lasts : Lasts) → AreNotedLasts labels.ip n limits lasts
    → (standing_of (ip_in lasts) ≡ None) ⊎ (standing_of (dp_in lasts) ≡ None) → ⊥
none_lacks labels n limits lasts noted (inl none) =
    let bad : standing_of (Some noted.ip) ≡ None = sym (ap standing_of noted.ip_is) ∙ none in cc bad
none_lacks labels n limits lasts noted (inr none) =
    let bad : standing_of (Some noted.dp) ≡ None = sym (ap standing_of noted.dp_is) ∙ none in cc bad

-- ---- the choice

tells : (note : Note) (vcr uuid capacity : ℕ) (label : Label) (part : Part) (values : Coherency) (l : LastIndex) (s : Option Standing) → IsCurrentAs note vcr uuid values
    → IsNotedLast label part values capacity l → s ≡ standing_of (Some l) → TellsStanding note vcr uuid s
tells note vcr uuid capacity label part values l s current noted is = record {
  values = values;
  has = current.has;
  vcr_is = current.vcr_is;
  uuid_is = current.uuid_is;
  last = record { place = l.place; generation = l.index.generation; back = l.index.back };
  is = is;
  generation = sym noted.noted.generation;
  block = noted.first;
}

-- what is decided of them is chosen by the notes
pub chosen_by_notes : (labels : Labels) (lasts : Lasts) (choice : Choice) (c : Cartridge) (n : Named) (limits : Limits) → IsDecided labels lasts choice c
    → AreTold labels n c → AreLasts labels.ip lasts c → EndWithLasts c → AreNotedLasts labels.ip n limits lasts → IsChosenByNotes labels choice c
chosen_by_notes labels lasts choice c n limits decided told are all noted = record {
  lasts = lasts;
  decided = decided;
  ip_ends = subst (EndsAs c.ip) (sym decided.choice_is.ip) ((ends_same c.ip (ip_in lasts) (indexes_of c.ip) are.ip.place).1 all.ip);
  dp_ends = subst (EndsAs c.dp) (sym decided.choice_is.dp) ((ends_same c.dp (dp_in lasts) (indexes_of c.dp) are.dp.place).1 all.dp);
  noted = record {
    on_ip = tells c.note_ip c.vcr labels.ip.uuid limits.cap_ip labels.ip Ip n.ip noted.ip choice.ip told.ip_current noted.ip_noted (decided.choice_is.ip ∙ ap standing_of noted.ip_is);
    on_dp = tells c.note_dp c.vcr labels.ip.uuid limits.cap_dp labels.ip Dp n.dp noted.dp choice.dp told.dp_current noted.dp_noted (decided.choice_is.dp ∙ ap standing_of noted.dp_is);
  };
}

-- ---- the values of honest notes

module _ (c : Cartridge) (labels : Labels) (has : HasLabels c labels) (honest : HasHonestNotes c) where
  long : (part : Part) → 4 ≤ length (front (items_of part c))
  long part = long_front part c (labels, has)

  one_told : (part : Part) (values : Coherency) → IsHonestNote c labels.ip part → IsCurrentAs (note_of part c) c.vcr labels.ip.uuid values → IsTold labels.ip part values c
  one_told part values note current =
      let t = note.truthful values current.has current.uuid_is current.vcr_is in record { long = long part; form = t.0; tells = t.1 }

  -- a place that a note tells of is one at which an index can begin
  begins : (part : Part) (limits : Limits) (values : Coherency) → FitsLimits limits c → IsTold labels.ip part values c → CanBegin (capacity part limits) values.block
  begins part limits values fits told =
      let l = last_from labels.ip part values c told in
      let placed = subst (λ (ks : List readings.Construct). end_dp ks ≤ length (front (items_of part c))) l.parts (end_dp_within (items_of part c) (long part)) in
      let ordered = low l.k l.older l.parts in (
        omega (arith, ordered, l.mark_is),
        omega (arith, placed, l.mark_is, ordered, front_within (items_of part c), fits_count c part limits fits),
      )
    where
      low : (k : readings.Construct) (older : List readings.Construct) → indexes_of (items_of part c) ≡ k ∷ older → 4 ≤ k.mark
      low k older are = lowest k older (subst AreOrdered are (content_placed (items_of part c)).ordered)
        where
          lowest : (k : readings.Construct) (older : List readings.Construct) → AreOrdered (k ∷ older) → 4 ≤ k.mark
          lowest k older ordered = let least = end_dp_least older ordered.2 in omega (arith, least, ordered.1)

  module _ (notes : Notes) (are : AreNotes notes c) where
    -- notes of an honest cartridge whose values are current tell of its last indexes
    pub named_told : (limits : Limits) (n : Named) → AreNamed notes labels.ip.uuid limits n → AreTold labels n c
    named_told limits n named =
        let ip = current notes.ip c.note_ip n.ip are.ip named.ip in
        let dp = current notes.dp c.note_dp n.dp are.dp named.dp in
        let both = honest labels has in
        record { has = has; ip_current = ip; dp_current = dp; ip = one_told Ip n.ip both.0 ip; dp = one_told Dp n.dp both.1 dp }
      where
        current : (read note : Note) (values : Coherency) → read ≡ note → IsCurrentAs read notes.vcr labels.ip.uuid values → IsCurrentAs note c.vcr labels.ip.uuid values
        current read note values same is =
            subst (λ (m : ℕ). IsCurrentAs note m labels.ip.uuid values) are.vcr (subst (λ (n : Note). IsCurrentAs n notes.vcr labels.ip.uuid values) same is)

    -- coherent notes of an honest cartridge name places at which an index can begin
    pub coherent_named : (limits : Limits) → FitsLimits limits c → IsCoherent c → (n : Named) × AreNamed notes labels.ip.uuid limits n
    coherent_named limits fits coherent =
        let same : coherent.labels ≡ labels = labels_once c coherent.labels labels coherent.has has in
        let ip = current c.note_ip (ap (λ (l : Labels). l.ip.uuid) same) coherent.ip in
        let dp = current c.note_dp (ap (λ (l : Labels). l.ip.uuid) same) coherent.dp in
        let both = honest labels has in (
          record { ip = ip.0; dp = dp.0 },
          record {
            ip = back notes.ip c.note_ip ip.0 are.ip ip.1;
            dp = back notes.dp c.note_dp dp.0 are.dp dp.1;
            ip_begins = begins Ip limits ip.0 fits (one_told Ip ip.0 both.0 ip.1);
            dp_begins = begins Dp limits dp.0 fits (one_told Dp dp.0 both.1 dp.1);
          },
        )
      where
        current : (note : Note) {uuid : ℕ} → uuid ≡ labels.ip.uuid → IsCurrent note c.vcr uuid → (values : Coherency) × IsCurrentAs note c.vcr labels.ip.uuid values
        current note same is = (is.0, record { has = is.1; vcr_is = is.2; uuid_is = is.3 ∙ same })

        back : (read note : Note) (values : Coherency) → read ≡ note → IsCurrentAs note c.vcr labels.ip.uuid values → IsCurrentAs read notes.vcr labels.ip.uuid values
        back read note values same is =
            subst (λ (m : ℕ). IsCurrentAs read m labels.ip.uuid values) (sym are.vcr) (subst (λ (n : Note). IsCurrentAs n c.vcr labels.ip.uuid values) (sym same) is)

    -- where the notes name nothing, the cartridge is not known by them
    pub unnamed : (limits : Limits) → FitsLimits limits c → ((n : Named) → AreNamed notes labels.ip.uuid limits n → ◌≡◌ {A = Option Named} None (Some n)) → ¬ IsKnownByNotes c
    unnamed limits fits none known =
        let n = coherent_named limits fits known.coherent in let bad = none n.0 n.1 in cc bad

-- both counts together
pub counts_both : (c : Cartridge) (i k : ℕ) → i ≤ 4 + blocks_of_newest (indexes_of c.dp) → k ≤ 4 + blocks_of_newest (indexes_of c.ip) → i + k ≤ 8 + last_blocks c
counts_both c i k first second = omega (arith, first, second)

-- the commands of the data partition alone
pub count_one : (c : Cartridge) (i : ℕ) → i ≤ 4 + blocks_of_newest (indexes_of c.dp) → i ≤ 8 + last_blocks c
count_one c i first = omega (arith, first)

-- what is made of the choice
pub maybe_chosen : (labels : Labels) (lasts : Lasts) (found : Option Choice) (c : Cartridge) (n : Named) (limits : Limits)
    → IfSome found (λ choice. (c : Cartridge) (n : Named) (limits : Limits) → AreTold labels n c → AreLasts labels.ip lasts c → EndWithLasts c
    → AreNotedLasts labels.ip n limits lasts → IsChosenByNotes labels choice c)
    → IfNone found ((c : Cartridge) (n : Named) (limits : Limits) → AreTold labels n c → AreLasts labels.ip lasts c → EndWithLasts c
    → AreNotedLasts labels.ip n limits lasts → ¬ Found c)
    → AreTold labels n c → AreLasts labels.ip lasts c → EndWithLasts c → AreNotedLasts labels.ip n limits lasts
    → MatchOption found (¬ IsKnownByNotes c) (λ choice. IsChosenByNotes labels choice c)
maybe_chosen labels lasts None c n limits some none told are all noted = λ known. none c n limits told are all noted known.found
maybe_chosen labels lasts (Some choice) c n limits some none told are all noted = some c n limits told are all noted

-- a choice that was made is sound
pub maybe_sound : (labels : Labels) (n : Named) (limits : Limits) (lasts : Lasts) (found : Option Choice) → AreNotedLasts labels.ip n limits lasts
    → IfSome found (λ choice. (n : Named) (limits : Limits) → AreNotedLasts labels.ip n limits lasts → IsSoundChoice labels.ip limits choice)
    → IfSome found (IsSoundChoice labels.ip limits)
maybe_sound labels n limits lasts None noted any = tt
maybe_sound labels n limits lasts (Some choice) noted any = any n limits noted
