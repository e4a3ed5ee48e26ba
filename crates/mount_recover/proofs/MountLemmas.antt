-- What is found of a cartridge that mounts.
use Rattle.std.proofs.Common.{ℕ, ◌*◌, ◌<◌, ◌≡◌, ◌≢◌, Bool, true, false, List, [], ◌∷◌, Option, Some, None, Result, Ok, Err, IfOk, IfErr, refl, sym, ◌∙◌, ap, subst, arith}
use Rattle.std.specs.Prelude.{IfSome, ◌↔◌, cond, nat_lt}
use Rattle.std.specs.Option.{option_map}
use Rattle.tape_types.specs.declared.cartridges.Cartridge.{Cartridge}
use Rattle.tape_types.specs.declared.cartridges.Item.{Item}
use Rattle.tape_types.specs.declared.cartridges.Part.{Part}
use Rattle.tape_types.specs.declared.cartridges.Part.TheVariants.{Ip, Dp}
use Rattle.tape_types.specs.declared.cartridges.Place.{Place}
use Rattle.tape_types.specs.Cartridges.{items_of, note_of}
use Rattle.index_model.specs.declared.indexes.Index.{Index}
use Rattle.ltfs_label.specs.declared.Label.{Label}
use Rattle.content_laws.specs.Readings as readings
use Rattle.content_laws.specs.Ends.{EndsWithLast}
use Rattle.cartridge_meaning.specs.Faults.{MountFault}
use Rattle.cartridge_meaning.specs.Meaning.{Found}
use Rattle.cartridge_meaning.specs.Mounts.{IsDpDone, IsIpDone, Mounts, chosen_place, last_place}
use Rattle.cartridge_meaning.specs.Notes.{AreNoted, IsNoted, LastReads}
use Rattle.cartridge_meaning.specs.Pointers.{IsLastOnDp, IsLastOnIp, indexes_of, last_block, newest_spot}
use Rattle.cartridge_meaning.specs.declared.labels.Labels.{Labels}
use Rattle.cartridge_meaning.specs.declared.mounted.Mounted.{Mounted}
use Rattle.cartridge_meaning.proofs.OneFault.{found_no_fault}
use Rattle.cartridge_meaning.proofs.OneWay.{last_dp_once, last_ip_once}
use Rattle.volume_scan.specs.declared.content.Construct.{Construct}
use Rattle.std.specs.List.{AllByRecursion}
use Rattle.tape_types.specs.declared.cartridges.Limits.{Limits}
use Rattle.index_model.specs.Valid.{IsValid}
use Rattle.tape_drive.specs.Looks.{Looks}
use Rattle.tape_drive.specs.declared.drive.Drive.{Ghosts}
use Rattle.cartridge_meaning.specs.Labels.{HasLabels}
use Rattle.cartridge_meaning.specs.Meaning.{FitsNode}
use Rattle.cartridge_meaning.specs.declared.errors.MountErr.{MountErr}
use Rattle.cartridge_meaning.specs.declared.errors.MountErr.TheVariants as errors
use Rattle.mount_recover.specs.Labels.{AreLabels, Fails, HasCounts, IsSpelled}
use Rattle.mount_recover.specs.Steps.{Blames, IsFree, IsSince, IsStep}
use Rattle.mount_recover.specs.declared.scans.Scans.{Scans}
use Rattle.mount_recover.specs.declared.starts.Start.{Start}
use Rattle.mount_recover.proofs.ScanLemmas.{long_front, seen}
use Rattle.mount_recover.proofs.StepLemmas.{since_next}
use Rattle.mount_recover.specs.Lasts.{Agrees, AreScanned, IsMounted, IsScan, IsSoundChoice, IsSoundMount, EndsAs, IsDecided, IsMountedAs, TellsBoth, TellsStanding, dp_in, index_in, ip_in, newest, place_in, side, last_on, standing_of}
use Rattle.mount_recover.specs.Noted.{IsChosenByNotes}
use Rattle.mount_recover.specs.declared.choices.Choice.{Choice}
use Rattle.mount_recover.specs.declared.choices.Standing.{Standing}
use Rattle.mount_recover.specs.declared.flags.Flags.{Flags}
use Rattle.mount_recover.specs.declared.lasts.LastIndex.{LastIndex}
use Rattle.mount_recover.specs.declared.lasts.Lasts.{Lasts}
use Rattle.mount_recover.proofs.ChoiceLemmas.{place_is}

both : {A B C : Type 0} → A ↔ B → B ↔ C → A ↔ C
both first second = ((λ a. second.0 (first.0 a)), λ c. first.1 (second.1 c))

-- ---- by what is kept of a last index

standing_some : (last : Option LastIndex) (s : Standing) → standing_of last ≡ Some s
    → (l : LastIndex) × (last ≡ Some l) × (s.place ≡ l.place) × (s.generation ≡ l.index.generation) × (s.back ≡ l.index.back)
standing_some None s is = absurd (cc is)
standing_some (Some l) s is =
    let same : ◌≡◌ {A = Standing} (record { place = l.place; generation = l.index.generation; back = l.index.back }) s = cc is in
    (l, refl, sym (ap (λ (x : Standing). x.place) same), sym (ap (λ (x : Standing). x.generation) same), sym (ap (λ (x : Standing). x.back) same))

index_some : (last : Option LastIndex) (index : Index) → index_in last ≡ Some index → (l : LastIndex) × (last ≡ Some l) × (l.index ≡ index)
index_some None index is = absurd (cc is)
index_some (Some l) index is = (l, refl, (cc is))

place_some : (last : Option LastIndex) (ks : List readings.Construct) → place_in last ≡ newest ks → ks ≢ [] → (l : LastIndex) × (last ≡ Some l)
place_some (Some l) ks is some = (l, refl)
place_some None [] is some = absurd (some refl)
place_some None (k ∷ older) is some = absurd (cc is)

block_of : (l : LastIndex) (ks : List readings.Construct) → place_in (Some l) ≡ newest ks → last_block ks ≡ Some l.place.first
block_of l [] is = absurd (cc is)
block_of l (k ∷ older) is = ap (λ (p : Construct). Some p.first) (sym (place_is l k older is))

-- the newest place on the data partition is where its last index begins
pub spot_of : (label : Label) (l : LastIndex) (ks : List readings.Construct) → place_in (Some l) ≡ newest ks
    → newest_spot label ks ≡ Some (record { letter = label.dpart; block = l.place.first })
spot_of label l [] is = absurd (cc is)
spot_of label l (k ∷ older) is =
    ap (λ (p : Construct). Some (record { letter = label.dpart; block = p.first })) (sym (place_is l k older is))

first_last : (last : Option LastIndex) (ks : List readings.Construct) → place_in last ≡ newest ks
    → option_map (λ (s : Standing). s.place.first) (standing_of last) ≡ last_block ks
first_last None [] is = refl
first_last None (k ∷ older) is = absurd (cc is)
first_last (Some l) ks is = sym (block_of l ks is)

-- the items end as what is kept of the last index says, exactly where they end with that
pub ends_same : (items : List Item) (last : Option LastIndex) (ks : List readings.Construct) → place_in last ≡ newest ks
    → EndsAs items (standing_of last) ↔ EndsWithLast items ks
ends_same items None [] is = ((λ ends. ends), λ ends. ends)
ends_same items None (k ∷ older) is = absurd (cc is)
ends_same items (Some l) [] is = absurd (cc is)
ends_same items (Some l) (k ∷ older) is =
    let same = ap (λ (p : Construct). p.after) (place_is l k older is) in ((λ ends. ends ∙ same), λ ends. ends ∙ sym same)

not_empty : (l : LastIndex) (ks : List readings.Construct) → place_in (Some l) ≡ newest ks → ks ≢ []
not_empty l ks is none = absurd (let bad : place_in (Some l) ≡ None = is ∙ ap newest none in cc bad)

-- ---- the notes

tells_noted : (c : Cartridge) (label : Label) (part : Part) (last : Option LastIndex) (standing : Option Standing) → standing ≡ standing_of last
    → place_in last ≡ newest (indexes_of (items_of part c)) → ((index : Index) → index_in last ≡ Some index → LastReads label part c index)
    → ((index : Index) → LastReads label part c index → index_in last ≡ Some index)
    → TellsStanding (note_of part c) c.vcr label.uuid standing ↔ IsNoted c label part
tells_noted c label part last standing kept place reads once = (
  (λ t.
      let l = standing_some last t.last (sym kept ∙ t.is) in
      record {
        note = t.values;
        has = t.has;
        vcr = t.vcr_is;
        uuid = t.uuid_is;
        tells = record {
          index = l.0.index;
          last = reads l.0.index (ap index_in l.1);
          generation = t.generation ∙ l.3;
          block =
              block_of l.0 (indexes_of (items_of part c)) (ap place_in (sym l.1) ∙ place)
              ∙ ap (λ (p : Construct). Some p.first) (sym l.2)
              ∙ ap Some t.block;
        };
      }),
  λ n.
      let l = index_some last n.tells.index (once n.tells.index n.tells.last) in
      let at : Some l.0.place.first ≡ Some n.note.block =
      sym (block_of l.0 (indexes_of (items_of part c)) (ap place_in (sym l.1) ∙ place)) ∙ n.tells.block in
      record {
        values = n.note;
        has = n.has;
        vcr_is = n.vcr;
        uuid_is = n.uuid;
        last = record { place = l.0.place; generation = l.0.index.generation; back = l.0.index.back };
        is = kept ∙ ap standing_of l.1;
        generation = n.tells.generation ∙ sym (ap (λ (x : Index). x.generation) l.2);
        block = cc at;
      },
)

-- ---- what is found

cond_place : (b : Bool) (c : Cartridge) → cond b (last_place Ip c) (last_place Dp c) ≡ last_place (cond b Ip Dp) c
cond_place true c = refl
cond_place false c = refl

chosen_side : (on_ip on_dp : Option Index) (c : Cartridge) → chosen_place on_ip on_dp c ≡ last_place (side on_ip on_dp) c
chosen_side None on_dp c = refl
chosen_side (Some i) None c = refl
chosen_side (Some i) (Some d) c = cond_place (nat_lt d.generation i.generation) c

on_dp : (o : Option ℕ) (p : Place) → option_map (λ (pos : ℕ). record { part = Dp; pos = pos }) o ≡ Some p → p.part ≡ Dp
on_dp None p is = absurd (cc is)
on_dp (Some n) p is = let same : ◌≡◌ {A = Place} (record { part = Dp; pos = n }) p = cc is in sym (ap (λ (x : Place). x.part) same)

module _ (c : Cartridge) (labels : Labels) (lasts : Lasts) (choice : Choice) (d : IsDecided labels lasts choice c) where
  abbrev found : Found c
  found = record {
    labels = labels;
    forms = d.forms;
    on_dp = index_in (dp_in lasts);
    dp_last = d.lasts_are.dp.index;
    on_ip = index_in (ip_in lasts);
    ip_last = d.lasts_are.ip.index;
    index = choice.index;
    choice = d.choice_is.picked.index ∙ ap (λ (x : Index). Some x) (sym d.choice_is.index);
    within = d.within;
  }

  place_on : (part : Part) (last : LastIndex) → last_on part (ip_in lasts) (dp_in lasts) ≡ Some last → last_place part c ≡ Some (record { part = part; pos = last.place.first })
  place_on Ip last is = ap (option_map (λ (pos : ℕ). record { part = Ip; pos = pos })) (block_of last (indexes_of c.ip) (ap place_in (sym is) ∙ d.lasts_are.ip.place))
  place_on Dp last is = ap (option_map (λ (pos : ℕ). record { part = Dp; pos = pos })) (block_of last (indexes_of c.dp) (ap place_in (sym is) ∙ d.lasts_are.dp.place))

  own : last_place choice.chosen.part c ≡ Some choice.chosen
  own =
      place_on choice.chosen.part d.choice_is.last d.choice_is.picked.on
      ∙ (λ i. Some (record { part = choice.chosen.part; pos = sym d.choice_is.first i }))

  place : chosen_place (index_in (ip_in lasts)) (index_in (dp_in lasts)) c ≡ Some choice.chosen
  place = chosen_side (index_in (ip_in lasts)) (index_in (dp_in lasts)) c ∙ ap (λ (p : Part). last_place p c) d.choice_is.picked.side_is ∙ own

  on_dp_is : choice.chosen.part ≡ Dp → last_place Dp c ≡ Some choice.chosen
  on_dp_is is = subst (λ (p : Part). last_place p c ≡ Some choice.chosen) is own

  ip_on_is : (choice.chosen.part ≡ Dp) ↔ ((indexes_of c.dp ≢ []) × (chosen_place (index_in (ip_in lasts)) (index_in (dp_in lasts)) c ≡ last_place Dp c))
  ip_on_is = (
    (λ is. (
      (λ none. let bad : Some choice.chosen ≡ None = sym (on_dp_is is) ∙ ap (λ (ks : List readings.Construct). option_map (λ (pos : ℕ). record { part = Dp; pos = pos }) (last_block ks)) none in cc bad),
      place ∙ sym (on_dp_is is),
    )),
    λ both. on_dp (last_block (indexes_of c.dp)) choice.chosen (sym both.1 ∙ place),
  )

  module _ (flags : Flags) (ip : (flags.ip_ends ≡ true) ↔ EndsAs c.ip choice.ip) (dp : (flags.dp_ends ≡ true) ↔ EndsAs c.dp choice.dp)
      (noted : (flags.noted ≡ true) ↔ TellsBoth c labels.ip.uuid choice.ip choice.dp) where
    ip_ends : (flags.ip_ends ≡ true) ↔ EndsWithLast c.ip (indexes_of c.ip)
    ip_ends = both (subst (λ (s : Option Standing). (flags.ip_ends ≡ true) ↔ EndsAs c.ip s) d.choice_is.ip ip) (ends_same c.ip (ip_in lasts) (indexes_of c.ip) d.lasts_are.ip.place)

    dp_ends : (flags.dp_ends ≡ true) ↔ EndsWithLast c.dp (indexes_of c.dp)
    dp_ends = both (subst (λ (s : Option Standing). (flags.dp_ends ≡ true) ↔ EndsAs c.dp s) d.choice_is.dp dp) (ends_same c.dp (dp_in lasts) (indexes_of c.dp) d.lasts_are.dp.place)

    dp_done_is : ((choice.chosen.part ≡ Dp) × (flags.dp_ends ≡ true)) ↔ IsDpDone c found
    dp_done_is = (
      (λ both. record { ends = dp_ends.0 both.1; choice = (ip_on_is.0 both.0).1 }),
      λ done. (on_dp (last_block (indexes_of c.dp)) choice.chosen (sym done.choice ∙ place), dp_ends.1 done.ends),
    )

    ip_done_is : ((flags.ip_ends ≡ true) × Agrees labels.ip.dpart choice) ↔ IsIpDone c found
    ip_done_is = (
      (λ both.
          let a = both.1 in
          let i = standing_some (ip_in lasts) a.ip (sym d.choice_is.ip ∙ a.ip_is) in
          let k = standing_some (dp_in lasts) a.dp (sym d.choice_is.dp ∙ a.dp_is) in
          let stands : place_in (Some k.0) ≡ newest (indexes_of c.dp) = ap place_in (sym k.1) ∙ d.lasts_are.dp.place in
          record {
            ends = ip_ends.0 both.0;
            on_ip = i.0.index;
            last = ap index_in i.1;
            generation = sym i.3 ∙ a.generation;
            back =
                sym i.4
                ∙ a.back
                ∙ ap (λ (p : Construct). Some (record { letter = labels.ip.dpart; block = p.first })) k.2
                ∙ sym (spot_of labels.ip k.0 (indexes_of c.dp) stands);
            has_dp = not_empty k.0 (indexes_of c.dp) stands;
          }),
      λ done.
          let i = index_some (ip_in lasts) done.on_ip done.last in
          let k = place_some (dp_in lasts) (indexes_of c.dp) d.lasts_are.dp.place done.has_dp in
          let stands : place_in (Some k.0) ≡ newest (indexes_of c.dp) = ap place_in (sym k.1) ∙ d.lasts_are.dp.place in (
            ip_ends.1 done.ends,
            record {
              ip = record { place = i.0.place; generation = i.0.index.generation; back = i.0.index.back };
              ip_is = d.choice_is.ip ∙ ap standing_of i.1;
              dp = record { place = k.0.place; generation = k.0.index.generation; back = k.0.index.back };
              dp_is = d.choice_is.dp ∙ ap standing_of k.1;
              generation = ap (λ (x : Index). x.generation) i.2 ∙ done.generation;
              back = ap (λ (x : Index). x.back) i.2 ∙ done.back ∙ spot_of labels.ip k.0 (indexes_of c.dp) stands;
            },
          ),
    )

    noted_ip : TellsStanding c.note_ip c.vcr labels.ip.uuid choice.ip ↔ IsNoted c labels.ip Ip
    noted_ip =
        tells_noted c labels.ip Ip (ip_in lasts) choice.ip d.choice_is.ip d.lasts_are.ip.place
        (λ index is. (
          index_in (dp_in lasts),
          d.lasts_are.dp.index,
          subst (λ (o : Option Index). IsLastOnIp labels.ip (indexes_of c.ip) (indexes_of c.dp) (index_in (dp_in lasts)) o) is d.lasts_are.ip.index,
        ))
        (λ index reads.
        last_ip_once labels.ip (indexes_of c.ip) (indexes_of c.dp) reads.0 (index_in (ip_in lasts)) (Some index)
        (subst (λ (o : Option Index). IsLastOnIp labels.ip (indexes_of c.ip) (indexes_of c.dp) o (index_in (ip_in lasts)))
        (last_dp_once labels.ip (indexes_of c.dp) (index_in (dp_in lasts)) reads.0 d.lasts_are.dp.index reads.1) d.lasts_are.ip.index)
        reads.2)

    noted_dp : TellsStanding c.note_dp c.vcr labels.ip.uuid choice.dp ↔ IsNoted c labels.ip Dp
    noted_dp =
        tells_noted c labels.ip Dp (dp_in lasts) choice.dp d.choice_is.dp d.lasts_are.dp.place
        (λ index is. subst (λ (o : Option Index). IsLastOnDp labels.ip (indexes_of c.dp) o) is d.lasts_are.dp.index)
        (λ index reads. last_dp_once labels.ip (indexes_of c.dp) (index_in (dp_in lasts)) (Some index) d.lasts_are.dp.index reads)

    noted_is : TellsBoth c labels.ip.uuid choice.ip choice.dp ↔ AreNoted c labels.ip
    noted_is = (
      (λ t. record { ip = noted_ip.0 t.on_ip; dp = noted_dp.0 t.on_dp }),
      λ n. record { on_ip = noted_ip.1 n.ip; on_dp = noted_dp.1 n.dp },
    )

    -- a choice that is decided, with its flags, is a mount of the cartridge
    pub mounts : (m : Mounted) → IsMountedAs labels.ip choice flags m → Mounts c m
    mounts m made = record {
      found = found;
      label = made.label_is;
      index = made.index;
      chosen = ap Some made.chosen ∙ sym place;
      newest = made.newest;
      ip_end = made.end_ip ∙ d.end_ip;
      dp_end = made.end_dp ∙ d.end_dp;
      last_dp =
          made.last_dp
          ∙ ap (option_map (λ (s : Standing). s.place.first)) d.choice_is.dp
          ∙ first_last (dp_in lasts) (indexes_of c.dp) d.lasts_are.dp.place;
      ip_on = both made.ip_on ip_on_is;
      dp_done = both made.dp_done dp_done_is;
      ip_done = both made.ip_done ip_done_is;
      noted = both (subst (λ (b : Bool). (m.noted ≡ true) ↔ (b ≡ true)) made.noted ((λ e. e), λ e. e)) (both noted noted_is);
    }

-- ---- the steps of a mount

fails_blames : (c : Cartridge) (e : MountErr) → Fails c e → Blames e c
fails_blames c (errors.Vol1 part) fails = fails
fails_blames c (errors.Label part) fails = fails
fails_blames c errors.LabelsDiffer fails = fails
fails_blames c (errors.Drive counts) fails = tt
fails_blames c errors.NoMemory fails = tt
fails_blames c e fails = absurd fails

-- a check that fails is blamed
pub fault_blames : (c : Cartridge) (e : MountErr) → MountFault c e → Blames e c
fault_blames c (errors.Drive counts) fault = tt
fault_blames c errors.NoMemory fault = tt
fault_blames c e fault = fault

-- a failed drive or want of memory blames nothing of a cartridge
pub free_blames : (c : Cartridge) (e : MountErr) → IsFree e c → Blames e c
free_blames c (errors.Drive counts) free = tt
free_blames c errors.NoMemory free = tt
free_blames c e free = absurd free

-- reading the labels is one step of a mount
pub labels_step : {D : Type 0} (drive : Ghosts D) (start : Start) (a b : D) (r : Result Labels MountErr) → IsSince drive start a
    → IfOk r (λ l. (c : Cartridge) → drive.held a ≡ Some c → HasLabels c l) → IfErr r (λ e. (c : Cartridge) → drive.held a ≡ Some c → Fails c e)
    → IfOk r AreLabels → HasCounts start.faults (drive.faults b) r → Looks drive (12 * drive.MOST) a b
    → IsStep drive start 12 a b (λ l c. HasLabels c l) AreLabels Blames r
labels_step drive start a b r since found refused any counts looks = record {
  found = found;
  any = any;
  refused = blames r refused;
  counts = counts;
  looks = looks;
  since = since_next drive start (12 * drive.MOST) a b since looks counts.later;
}
  where
    blames : (q : Result Labels MountErr) → IfErr q (λ e. (c : Cartridge) → drive.held a ≡ Some c → Fails c e)
        → IfErr q (λ e. (c : Cartridge) → drive.held a ≡ Some c → Blames e c)
    blames (Ok l) fails = tt
    blames (Err e) fails = λ c h. fails_blames c e (fails c h)

-- labels that are there and scans of both partitions are a scan of the cartridge
pub scan_of : (c : Cartridge) (labels : Labels) (s : Scans) → HasLabels c labels → AreScanned s c → IsScan labels s c
scan_of c labels s has are = record {
  has = has;
  ip = seen c.ip s.ip (long_front Ip c (labels, has)) are.ip;
  dp = seen c.dp s.dp (long_front Dp c (labels, has)) are.dp;
}

-- what was chosen by the notes
pub mounts_by_notes : (c : Cartridge) (labels : Labels) (choice : Choice) (flags : Flags) (m : Mounted) → IsChosenByNotes labels choice c
    → flags.ip_ends ≡ true → flags.dp_ends ≡ true → flags.noted ≡ true → IsMountedAs labels.ip choice flags m → Mounts c m
mounts_by_notes c labels choice flags m is ip dp noted made =
    mounts c labels is.lasts choice is.decided flags ((λ yes. is.ip_ends), λ ends. ip) ((λ yes. is.dp_ends), λ ends. dp) ((λ yes. is.noted), λ tells. noted) m made

-- the notes are honest as long as the cartridge is the same
pub still_told : (P : Cartridge → Type 0) (a b : Option Cartridge) → b ≡ a → IfSome a P → IfSome b P
still_told P a b same told = subst (λ (o : Option Cartridge). IfSome o P) (sym same) told

-- a sound choice with proper labels makes a sound mount
pub sound_mount : (limits : Limits) (labels : Labels) (choice : Choice) (flags : Flags) (m : Mounted) → AreLabels labels
    → IsSoundChoice labels.ip limits choice → IsMountedAs labels.ip choice flags m → IsSoundMount limits m
sound_mount limits labels choice flags m are sound made = record {
  spelled = subst IsSpelled (sym made.label_is) are.ip;
  letters = λ same. are.one_volume.places.letters (sym (ap (λ (l : Label). l.index) made.label_is) ∙ same ∙ ap (λ (l : Label). l.dpart) made.label_is);
  valid = subst IsValid (sym made.index) sound.index.valid;
  uuid = ap (λ (x : Index). x.uuid) made.index ∙ sound.index.uuid ∙ sym (ap (λ (l : Label). l.uuid) made.label_is);
  newest = made.newest ∙ sym (ap (λ (x : Index). x.generation) made.index);
  fits =
      subst (λ (l : Label). AllByRecursion (FitsNode l m.end_ip m.end_dp) m.index.nodes) (sym made.label_is)
      (subst (λ (n : ℕ). AllByRecursion (FitsNode labels.ip n m.end_dp) m.index.nodes) (sym made.end_ip)
      (subst (λ (n : ℕ). AllByRecursion (FitsNode labels.ip choice.ends.ip n) m.index.nodes) (sym made.end_dp)
      (subst (λ (x : Index). AllByRecursion (FitsNode labels.ip choice.ends.ip choice.ends.dp) x.nodes) (sym made.index) sound.fits)));
  last_dp = subst (λ (o : Option ℕ). IfSome o (λ pos. pos < m.end_dp)) (sym made.last_dp) (below choice.dp sound.last_dp);
  ip_end = (omega (arith, made.end_ip, sound.ip.0), omega (arith, made.end_ip, sound.ip.1));
  dp_end = (omega (arith, made.end_dp, sound.dp.0), omega (arith, made.end_dp, sound.dp.1));
}
  where
    below : (o : Option Standing) → IfSome o (λ s. s.place.first < choice.ends.dp) → IfSome (option_map (λ (s : Standing). s.place.first) o) (λ pos. pos < m.end_dp)
    below None is = tt
    below (Some s) is = omega (arith, is, made.end_dp)

-- a cartridge of which something is found is not refused
pub only_mounts : (r : Result Mounted MountErr) (A : Cartridge → Type 0) → IfErr r (λ e. (c : Cartridge) → A c → Blames e c) → (c : Cartridge) → A c → Found c → IsMounted r
only_mounts (Ok m) A refused c h f = tt
only_mounts (Err (errors.Vol1 part)) A refused c h f = found_no_fault c (errors.Vol1 part) f (refused c h)
only_mounts (Err (errors.Label part)) A refused c h f = found_no_fault c (errors.Label part) f (refused c h)
only_mounts (Err errors.LabelsDiffer) A refused c h f = found_no_fault c errors.LabelsDiffer f (refused c h)
only_mounts (Err (errors.Layout place)) A refused c h f = found_no_fault c (errors.Layout place) f (refused c h)
only_mounts (Err errors.NoIndex) A refused c h f = found_no_fault c errors.NoIndex f (refused c h)
only_mounts (Err (errors.BadIndex place e)) A refused c h f = found_no_fault c (errors.BadIndex place e) f (refused c h)
only_mounts (Err (errors.WrongVolume place)) A refused c h f = found_no_fault c (errors.WrongVolume place) f (refused c h)
only_mounts (Err (errors.WrongPointer place)) A refused c h f = found_no_fault c (errors.WrongPointer place) f (refused c h)
only_mounts (Err (errors.BadExtent uid)) A refused c h f = found_no_fault c (errors.BadExtent uid) f (refused c h)
only_mounts (Err (errors.Drive counts)) A refused c h f = tt
only_mounts (Err errors.NoMemory) A refused c h f = tt
