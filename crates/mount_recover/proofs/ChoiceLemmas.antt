-- The chosen index, and the ends of the partitions.
use Rattle.std.proofs.Common.{ℕ, zero, suc, ◌≤◌, ◌<◌, ◌≡◌, ◌≢◌, inl, inr, List, [], ◌∷◌, length, Option, Some, None, Result, Ok, Err, IfOk, IfErr, refl, sym, ◌∙◌, ap, subst, arith}
use Rattle.std.specs.Prelude.{IfSome, Bool, true, false, cond, nat_lt}
use Rattle.std.specs.List.{AllByRecursion}
use Rattle.std.proofs.lemmas.Bool.Decides.{nat_tests}
use Rattle.tape_types.specs.declared.cartridges.Cartridge.{Cartridge}
use Rattle.tape_types.specs.declared.cartridges.Item.{Item}
use Rattle.tape_types.specs.declared.cartridges.Limits.{Limits}
use Rattle.tape_types.specs.declared.cartridges.Part.TheVariants.{Ip, Dp}
use Rattle.index_model.specs.declared.indexes.Index.{Index}
use Rattle.ltfs_label.specs.declared.Label.{Label}
use Rattle.content_laws.specs.Readings as readings
use Rattle.content_laws.specs.Readings.{HasForm, after_of, front}
use Rattle.content_laws.specs.Content.{Phase, Data, Index as InIndex, Bad, content}
use Rattle.content_laws.specs.Ends.{end_dp, end_ip, end_ip_in, lead_of}
use Rattle.content_laws.proofs.Placed.{EndsAt, content_placed, pos_is}
use Rattle.content_laws.proofs.ReadForms.{never_both}
use Rattle.cartridge_meaning.specs.Meaning.{FitsNode, HasForms, dp_end, ip_end}
use Rattle.cartridge_meaning.specs.Pointers.{chosen, indexes_of}
use Rattle.cartridge_meaning.specs.declared.errors.MountErr.{MountErr}
use Rattle.cartridge_meaning.specs.declared.errors.MountErr.TheVariants as errors
use Rattle.cartridge_meaning.specs.declared.labels.Labels.{Labels}
use Rattle.volume_scan.specs.declared.content.Construct.{Construct}
use Rattle.volume_scan.specs.declared.content.Content.{Content}
use Rattle.volume_scan.specs.Scans.{AreBetween, IsInPlaces, places_of}
use Rattle.mount_recover.specs.Lasts.{AreInPlaces, AreLasts, AreSoundLasts, HasNone, IsChosen, IsDecided, IsFirstOutside, IsIpEnd, IsPicked, IsScan, IsSeen, IsSound, IsSoundChoice, IsSoundLast, dp_ends, dp_in, index_in, ip_in, newest, place_in, standing_of, twin_of}
use Rattle.mount_recover.specs.Labels.{AreCounts}
use Rattle.cartridge_meaning.specs.Faults.{MountFault}
use Rattle.content_laws.proofs.Placed.{end_dp_within}
use Rattle.content_laws.proofs.Whole.{front_within}
use Rattle.mount_recover.specs.Noted.{AreEndsOf, AreEndsWithin}
use Rattle.mount_recover.specs.declared.extents.Ends.{Ends}
use Rattle.mount_recover.specs.declared.choices.Choice.{Choice}
use Rattle.mount_recover.specs.declared.choices.Standing.{Standing}
use Rattle.mount_recover.specs.declared.lasts.LastIndex.{LastIndex}
use Rattle.mount_recover.specs.declared.lasts.Lasts.{Lasts}
use Rattle.mount_recover.specs.declared.lasts.Lasts.TheVariants as found
use Rattle.mount_recover.specs.declared.lasts.TwinIndex.{TwinIndex}
use Rattle.mount_recover.specs.declared.scans.Scans.{Scans}
use Rattle.volume_scan.proofs.Told.{lacks_form}

-- ---- where the next items go

-- the place of a last index is that of the newest index of its partition
pub place_is : (l : LastIndex) (k : readings.Construct) (older : List readings.Construct) → place_in (Some l) ≡ newest (k ∷ older) → l.place ≡ places_of k
place_is l k older is = cc

none_newest : (ks : List readings.Construct) → None ≡ newest ks → ks ≡ []
none_newest [] is = refl
none_newest (k ∷ older) is = absurd (cc is)

ends_in : (pos : ℕ) (phase : Phase) (ks : List readings.Construct) (last : Option LastIndex) (found : Content) (end : ℕ) → EndsAt pos phase ks
    → ((at : ℕ) → phase ≢ Bad at) → found.lead ≡ lead_of pos phase → found.front ≡ pos → place_in last ≡ newest ks → IsIpEnd found (standing_of last) end
    → end ≡ end_ip_in pos phase ks
ends_in pos (Data zero) [] None found end at sound lead front_is is ends = ends ∙ lead
ends_in pos (Data (suc n)) [] None found end at sound lead front_is is ends = ends ∙ lead
ends_in pos (InIndex mark blocks) [] None found end at sound lead front_is is ends = ends ∙ lead
ends_in pos (Bad n) ks last found end at sound lead front_is is ends = absurd (sound n refl)
ends_in pos phase [] (Some l) found end at sound lead front_is is ends = absurd (cc is)
ends_in pos phase (k ∷ older) None found end at sound lead front_is is ends = absurd (cc is)
ends_in pos (Data zero) (k ∷ older) (Some l) found end at sound lead front_is is (inl ends) =
    ends.1 ∙ ap (λ (p : Construct). p.mark) (place_is l k older is)
ends_in pos (Data zero) (k ∷ older) (Some l) found end at sound lead front_is is (inr ends) =
    absurd (ends.0 (omega (arith, ap (λ (p : Construct). p.after) (place_is l k older is), front_is, at)))
ends_in pos (Data (suc n)) (k ∷ older) (Some l) found end at sound lead front_is is (inl ends) =
    absurd (omega (arith, ends.0, ap (λ (p : Construct). p.after) (place_is l k older is), front_is, at))
ends_in pos (Data (suc n)) (k ∷ older) (Some l) found end at sound lead front_is is (inr ends) = ends.1 ∙ lead
ends_in pos (InIndex mark blocks) (k ∷ older) (Some l) found end at sound lead front_is is (inl ends) =
    absurd (omega (arith, ends.0, ap (λ (p : Construct). p.after) (place_is l k older is), front_is, at.0, at.1))
ends_in pos (InIndex mark blocks) (k ∷ older) (Some l) found end at sound lead front_is is (inr ends) = ends.1 ∙ lead

sound_phase : (items : List Item) → HasForm items → (at : ℕ) → (content items).phase ≢ Bad at
sound_phase items form at bad = never_both items at form (lacks_form items at bad)

ends_ip : (items : List Item) (last : Option LastIndex) (found : Content) (end : ℕ) → IsSeen items found → place_in last ≡ newest (indexes_of items)
    → IsIpEnd found (standing_of last) end → end ≡ end_ip (content items)
ends_ip items last found end seen is ends =
    ends_in (content items).pos (content items).phase (content items).constructs last found end (content_placed items).ends (sound_phase items seen.form)
    seen.lead (seen.front ∙ sym (pos_is items seen.long (sound_phase items seen.form))) is ends

-- the end of the data partition by what is kept of its last index
pub ends_dp : (ks : List readings.Construct) (last : Option LastIndex) → place_in last ≡ newest ks → dp_ends (standing_of last) ≡ end_dp ks
ends_dp [] None is = refl
ends_dp [] (Some l) is = absurd (cc is)
ends_dp (k ∷ older) None is = absurd (cc is)
ends_dp (k ∷ older) (Some l) is = ap (λ (p : Construct). p.after) (place_is l k older is)

from_four : (ks : List Construct) (from to : ℕ) → AreBetween from to ks → from ≤ to
from_four [] from to b = b
from_four (k ∷ ks) from to b = omega (arith, b.0, b.1, b.2, from_four ks k.after to b.3)

ip_in_range : (capacity : ℕ) (label : Label) (last : Option LastIndex) (found : Content) (end : ℕ) → IsInPlaces capacity found → IfSome last (IsSoundLast label capacity)
    → IsIpEnd found (standing_of last) end → (4 ≤ end) × (end ≤ capacity)
ip_in_range capacity label None found end places sound ends =
    (omega (arith, ends, from_four found.constructs 4 found.lead places.constructs), omega (arith, ends, places.lead, places.front))
ip_in_range capacity label (Some l) found end places sound (inl ends) =
    (omega (arith, ends.1, sound.place.mark), omega (arith, ends.1, sound.place.first, sound.place.block, sound.place.after))
ip_in_range capacity label (Some l) found end places sound (inr ends) =
    (omega (arith, ends.1, from_four found.constructs 4 found.lead places.constructs), omega (arith, ends.1, places.lead, places.front))

dp_in_range : (capacity : ℕ) (label : Label) (last : Option LastIndex) (end : ℕ) → 4 ≤ capacity → IfSome last (IsSoundLast label capacity)
    → end ≡ dp_ends (standing_of last) → (4 ≤ end) × (end ≤ capacity) × IfSome (standing_of last) (λ s. s.place.first < end)
dp_in_range capacity label None end least sound ends = (omega (arith, ends), omega (arith, ends, least), tt)
dp_in_range capacity label (Some l) end least sound ends = (
  omega (arith, ends, sound.place.mark, sound.place.first, sound.place.block),
  omega (arith, ends, sound.place.after),
  omega (arith, ends, sound.place.block),
)

-- an index of its generation is beside that of the data partition
pub picked_alike : (twin : TwinIndex) (dp : LastIndex) → IsPicked (ip_in (found.Alike twin dp)) (Some dp) dp Dp
picked_alike twin dp = record {
  index = ap (λ (b : Bool). Some (cond b (twin_of dp.index twin) dp.index)) (not_below dp.index.generation);
  side_is = ap (λ (b : Bool). cond b Ip Dp) (not_below dp.index.generation);
  on = refl;
}
  where
    not_below : (n : ℕ) → nat_lt n n ≡ false
    not_below n = grind (arith, nat_tests)

-- ---- what is decided

module _ (c : Cartridge) (labels : Labels) (ends : Ends) (lasts : Lasts) (forms : HasForms c labels) (ends_are : AreEndsOf c ends) (are : AreLasts labels.ip lasts c) where
  -- where neither partition has a last index, the fault is that there is none
  pub no_index : HasNone lasts → MountFault c errors.NoIndex
  no_index none = record {
    labels = labels;
    forms = forms;
    ip = none_newest (indexes_of c.ip) (ap place_in (sym none.0) ∙ are.ip.place);
    dp = none_newest (indexes_of c.dp) (ap place_in (sym none.1) ∙ are.dp.place);
  }

  module _ (choice : Choice) (is : IsChosen lasts choice) (same : choice.ends ≡ ends) where
    ip_is : choice.ends.ip ≡ ip_end c
    ip_is = ap (λ (e : Ends). e.ip) same ∙ ends_are.ip

    dp_is : choice.ends.dp ≡ dp_end c
    dp_is = ap (λ (e : Ends). e.dp) same ∙ ends_are.dp

    -- a choice whose extents lie before the ends is decided
    pub decided : AllByRecursion (FitsNode labels.ip choice.ends.ip choice.ends.dp) choice.index.nodes → IsDecided labels lasts choice c
    decided fits = record {
      forms = forms;
      lasts_are = are;
      choice_is = is;
      end_ip = ip_is;
      end_dp = dp_is;
      within =
          subst (λ (n : ℕ). AllByRecursion (FitsNode labels.ip n (dp_end c)) choice.index.nodes) ip_is
          (subst (λ (n : ℕ). AllByRecursion (FitsNode labels.ip choice.ends.ip n) choice.index.nodes) dp_is fits);
    }

    pub bad_extent : (uid : ℕ) → IsFirstOutside labels.ip choice.ends.ip choice.ends.dp choice.index.nodes uid → MountFault c (errors.BadExtent uid)
    bad_extent uid out =
        let o = subst (λ (n : ℕ). IsFirstOutside labels.ip n (dp_end c) choice.index.nodes uid) ip_is
        (subst (λ (n : ℕ). IsFirstOutside labels.ip choice.ends.ip n choice.index.nodes uid) dp_is out) in
        record {
          labels = labels;
          forms = forms;
          on_dp = index_in (dp_in lasts);
          dp_last = are.dp.index;
          on_ip = index_in (ip_in lasts);
          ip_last = are.ip.index;
          index = choice.index;
          choice = is.picked.index ∙ ap (λ (x : Index). Some x) (sym is.index);
          before = o.before;
          node = o.node;
          behind = o.behind;
          nodes = o.parts;
          within = o.within;
          outside = o.outside;
          told = o.told;
        }

-- the chosen index is one of the last ones
sound_index : (label : Label) (ip dp : Option LastIndex) (capacity other : ℕ) (index : Index) → IfSome ip (IsSoundLast label capacity) → IfSome dp (IsSoundLast label other)
    → chosen (index_in ip) (index_in dp) ≡ Some index → IsSound label index
sound_index label None None capacity other index ip dp is = absurd (cc is)
sound_index label None (Some d) capacity other index ip dp is = let same : d.index ≡ index = cc is in subst (IsSound label) same dp.index
sound_index label (Some i) None capacity other index ip dp is = let same : i.index ≡ index = cc is in subst (IsSound label) same ip.index
sound_index label (Some i) (Some d) capacity other index ip dp is = either (nat_lt d.index.generation i.index.generation) is
  where
    either : (b : Bool) → ◌≡◌ {A = Option Index} (Some (cond b i.index d.index)) (Some index) → IsSound label index
    either true e = let same : i.index ≡ index = cc e in subst (IsSound label) same ip.index
    either false e = let same : d.index ≡ index = cc e in subst (IsSound label) same dp.index

sound_choice : (label : Label) (ends : Ends) (lasts : Lasts) (choice : Choice) (limits : Limits) → IsChosen lasts choice → choice.ends ≡ ends
    → AllByRecursion (FitsNode label choice.ends.ip choice.ends.dp) choice.index.nodes → AreEndsWithin limits (standing_of (dp_in lasts)) ends
    → AreSoundLasts label limits lasts → IsSoundChoice label limits choice
sound_choice label ends lasts choice limits is same fits within sound = record {
  index = subst (IsSound label) (sym is.index) (sound_index label (ip_in lasts) (dp_in lasts) limits.cap_ip limits.cap_dp is.last.index sound.ip sound.dp is.picked.index);
  fits = fits;
  last_dp =
      subst (λ (e : Ends). IfSome choice.dp (λ s. s.place.first < e.dp)) (sym same)
      (subst (λ (o : Option Standing). IfSome o (λ s. s.place.first < ends.dp)) (sym is.dp) within.last_dp);
  ip = subst (λ (e : Ends). (4 ≤ e.ip) × (e.ip ≤ limits.cap_ip)) (sym same) within.ip;
  dp = subst (λ (e : Ends). (4 ≤ e.dp) × (e.dp ≤ limits.cap_dp)) (sym same) within.dp;
}

-- what a check of the extents answers
module _ (labels : Labels) (ends : Ends) (lasts : Lasts) (choice : Choice) (is : IsChosen lasts choice) (same : choice.ends ≡ ends) where
  -- a choice within the ends is what is decided
  pub ok_decided : (r : Result Choice MountErr)
      → IfOk r (λ x. (x ≡ choice) × AllByRecursion (FitsNode labels.ip choice.ends.ip choice.ends.dp) choice.index.nodes)
      → IfOk r (λ x. (c : Cartridge) → HasForms c labels → AreEndsOf c ends → AreLasts labels.ip lasts c → IsDecided labels lasts x c)
  ok_decided (Ok x) fits =
      λ c forms ends_are are. subst (λ (y : Choice). IsDecided labels lasts y c) (sym fits.0) (decided c labels ends lasts forms ends_are are choice is same fits.1)
  ok_decided (Err e) fits = tt

  -- it is sound over every drive
  pub ok_sound : (r : Result Choice MountErr)
      → IfOk r (λ x. (x ≡ choice) × AllByRecursion (FitsNode labels.ip choice.ends.ip choice.ends.dp) choice.index.nodes)
      → IfOk r (λ x. (limits : Limits) → AreEndsWithin limits (standing_of (dp_in lasts)) ends → AreSoundLasts labels.ip limits lasts → IsSoundChoice labels.ip limits x)
  ok_sound (Ok x) fits =
      λ limits within sound. subst (λ (y : Choice). IsSoundChoice labels.ip limits y) (sym fits.0) (sound_choice labels.ip ends lasts choice limits is same fits.1 within sound)
  ok_sound (Err e) fits = tt

  -- one that is not within them is refused
  pub err_faults : (r : Result Choice MountErr)
      → IfErr r (λ e. (uid : ℕ) × (e ≡ errors.BadExtent uid) × IsFirstOutside labels.ip choice.ends.ip choice.ends.dp choice.index.nodes uid)
      → IfErr r (λ e. (c : Cartridge) → HasForms c labels → AreEndsOf c ends → AreLasts labels.ip lasts c → MountFault c e)
  err_faults (Ok x) out = tt
  err_faults (Err e) out =
      λ c forms ends_are are. subst (λ (x : MountErr). MountFault c x) (sym out.1) (bad_extent c labels ends lasts forms ends_are are choice is same out.0 out.2)

-- a fault of an extent tells no counts of a failed drive
pub err_counts : (r : Result Choice MountErr) (P : ℕ → Type 0) → IfErr r (λ e. (uid : ℕ) × (e ≡ errors.BadExtent uid) × P uid)
    → IfErr r (λ e. (before now : ℕ) → AreCounts before now e)
err_counts (Ok x) P out = tt
err_counts (Err e) P out = λ before now. subst (λ (x : MountErr). AreCounts before now x) (sym out.1) tt

-- ---- the ends that were scanned

-- ends that were scanned are those of the cartridge
pub scanned_ends : (c : Cartridge) (labels : Labels) (s : Scans) (lasts : Lasts) (ends : Ends) → IsScan labels s c → AreLasts labels.ip lasts c
    → IsIpEnd s.ip (standing_of (ip_in lasts)) ends.ip → ends.dp ≡ dp_ends (standing_of (dp_in lasts)) → AreEndsOf c ends
scanned_ends c labels s lasts ends scan are ip dp = record {
  ip = ends_ip c.ip (ip_in lasts) s.ip ends.ip scan.ip are.ip.place ip;
  dp = dp ∙ ends_dp (indexes_of c.dp) (dp_in lasts) are.dp.place;
}

-- they lie within the capacities
pub scanned_within : (label : Label) (limits : Limits) (s : Scans) (lasts : Lasts) (ends : Ends) → AreInPlaces limits s → AreSoundLasts label limits lasts
    → IsIpEnd s.ip (standing_of (ip_in lasts)) ends.ip → ends.dp ≡ dp_ends (standing_of (dp_in lasts)) → AreEndsWithin limits (standing_of (dp_in lasts)) ends
scanned_within label limits s lasts ends places sound ip dp =
    let least : 4 ≤ limits.cap_dp = omega (arith, from_four s.dp.constructs 4 s.dp.lead places.1.constructs, places.1.lead, places.1.front) in
    let d = dp_in_range limits.cap_dp label (dp_in lasts) ends.dp least sound.dp dp in
    record { ip = ip_in_range limits.cap_ip label (ip_in lasts) s.ip ends.ip places.0 sound.ip ip; dp = (d.0, d.1); last_dp = d.2 }

-- ---- the ends of partitions that end with their last indexes

data_behind : (pos : ℕ) (phase : Phase) (k : readings.Construct) (older : List readings.Construct) → EndsAt pos phase (k ∷ older) → ((at : ℕ) → phase ≢ Bad at)
    → pos ≡ after_of k → end_ip_in pos phase (k ∷ older) ≡ k.mark
data_behind pos (Data zero) k older at sound ends = refl
data_behind pos (Data (suc n)) k older at sound ends = absurd (omega (arith, at, ends))
data_behind pos (InIndex mark blocks) k older at sound ends = absurd (omega (arith, at.0, at.1, ends))
data_behind pos (Bad n) k older at sound ends = absurd (sound n refl)

-- the index partition ends at the mark of its last index, where it ends with that
pub ends_at_mark : (items : List Item) (k : readings.Construct) (older : List readings.Construct) → HasForm items → 4 ≤ length (front items)
    → indexes_of items ≡ k ∷ older → length items ≡ after_of k → end_ip (content items) ≡ k.mark
ends_at_mark items k older form long are ends =
    let placed = subst (λ (ks : List readings.Construct). EndsAt (content items).pos (content items).phase ks) are (content_placed items).ends in
    let pos = pos_is items long (sound_phase items form) in
    let most = subst (λ (ks : List readings.Construct). end_dp ks ≤ length (front items)) are (end_dp_within items long) in
    ap (λ (ks : List readings.Construct). end_ip_in (content items).pos (content items).phase ks) are
    ∙ data_behind (content items).pos (content items).phase k older placed (sound_phase items form)
    (omega (arith, pos, most, ends, front_within items))
