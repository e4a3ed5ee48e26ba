-- The last indexes of a cartridge.
use Rattle.std.proofs.Common.{ℕ, ◌≤◌, ◌≡◌, ◌≢◌, List, [], ◌∷◌, ◌++◌, length, map, reverse, Option, Some, None, refl, sym, ◌∙◌, ap, subst, arith}
use Rattle.std.specs.Prelude.{IfSome}
use Rattle.tape_types.specs.declared.cartridges.Cartridge.{Cartridge}
use Rattle.tape_types.specs.declared.cartridges.Item.{Item}
use Rattle.tape_types.specs.declared.cartridges.Limits.{Limits}
use Rattle.tape_types.specs.declared.cartridges.Part.{Part}
use Rattle.tape_types.specs.declared.cartridges.Part.TheVariants.{Ip, Dp}
use Rattle.tape_types.specs.declared.cartridges.Place.{Place}
use Rattle.tape_types.specs.Cartridges.{items_of}
use Rattle.index_model.specs.Grammar.{IndexText, Stops}
use Rattle.index_model.specs.declared.indexes.Index.{Index}
use Rattle.ltfs_label.specs.declared.Label.{Label}
use Rattle.content_laws.specs.Readings as readings
use Rattle.content_laws.specs.Readings.{first_of}
use Rattle.cartridge_meaning.specs.Faults.{ComesTo, HasBadIndex, HasOtherVolume, Points}
use Rattle.cartridge_meaning.specs.Meaning.{HasForms}
use Rattle.cartridge_meaning.specs.Pointers.{IsLastOnDp, IsLastOnIp, IsOfVolume, PointsOnDp, PointsOnIp, indexes_of, text_of}
use Rattle.cartridge_meaning.specs.declared.errors.MountErr.{MountErr}
use Rattle.cartridge_meaning.specs.declared.errors.MountErr.TheVariants as errors
use Rattle.cartridge_meaning.specs.declared.labels.Labels.{Labels}
use Rattle.volume_scan.specs.declared.content.Construct.{Construct}
use Rattle.volume_scan.specs.declared.content.Content.{Content}
use Rattle.volume_scan.specs.Scans.{AreBetween, IsInPlaces, places_of}
use Rattle.mount_recover.specs.Labels.{AreCounts}
use Rattle.mount_recover.specs.Lasts.{AreLasts, AreLastsWith, AreSoundLasts, AreSoundWith, HasIndexAt, IsBadNewest, IsBadText, IsDocument, IsInPlace, IsKnownDp, IsKnownIp, IsLastDp, IsLastIp, IsNewest, IsNoText, IsOfNewest, IsParted, IsScan, IsSeen, IsSoundLast, IsSoundRead, IsTrueAt, index_in, ip_in, newest}
use Rattle.mount_recover.specs.declared.lasts.LastIndex.{LastIndex}
use Rattle.mount_recover.specs.declared.lasts.Lasts.{Lasts}
use Rattle.mount_recover.specs.declared.scans.Scans.{Scans}
use Rattle.mount_recover.specs.Steps.{Blames, IsFree}
use Rattle.mount_recover.proofs.ScanLemmas.{none_left, parted}

-- ---- what is read of an index that stands there

-- an index read at a place, with the label's UUID, is that of the volume there
pub of_volume_at : (label : Label) (items : List Item) (place : Construct) (document : List ℕ) (index : Index)
    → IsTrueAt items place (λ k. document ≡ text_of k) → IndexText document index → index.uuid ≡ label.uuid
    → IsTrueAt items place (λ k. IsOfVolume label k index)
of_volume_at label items place document index read text uuid = λ newer k older are same.
    record { text = subst (λ (t : List ℕ). IndexText t index) (read newer k older are same) text; uuid = uuid }

-- a document that is no index of the volume is none at its place
pub no_text_at : (items : List Item) (place : Construct) (document : List ℕ) (uuid : ℕ) (at : Place) (e : MountErr)
    → IsTrueAt items place (λ k. document ≡ text_of k) → IsBadText document uuid at e → IsTrueAt items place (λ k. IsNoText (text_of k) uuid at e)
no_text_at items place document uuid at e read bad = λ newer k older are same.
    none (text_of k) e (subst (λ (t : List ℕ). IsBadText t uuid at e) (read newer k older are same) bad)
  where
    none : (text : List ℕ) (e : MountErr) → IsBadText text uuid at e → IsNoText text uuid at e
    none text (errors.Drive counts) bad = tt
    none text e bad = bad

-- a failed drive or want of memory tells nothing of the document at a place
pub free_at : (items : List Item) (place : Construct) (uuid : ℕ) (at : Place) (e : MountErr) (c : Cartridge) → IsFree e c
    → IsTrueAt items place (λ k. IsNoText (text_of k) uuid at e)
free_at items place uuid at (errors.Drive counts) c free = λ newer k older are same. tt
free_at items place uuid at errors.NoMemory c free = λ newer k older are same. tt
free_at items place uuid at e c free = absurd free

-- ---- what is so of the newest index, where it stands there

newest_is : (k : readings.Construct) (older : List readings.Construct) (place : Construct) → newest (k ∷ older) ≡ Some place → places_of k ≡ place
newest_is k older place is = cc

-- where the newest index stands, an index stands
pub newest_there : (items : List Item) (place : Construct) → IsNewest items place → HasIndexAt items place
newest_there items place known = there (indexes_of items) refl known.stands
  where
    there : (ks : List readings.Construct) → indexes_of items ≡ ks → newest ks ≡ Some place → HasIndexAt items place
    there [] are is = absurd (cc is)
    there (k ∷ older) are is =
        record { form = known.form; long = known.long; newer = []; k = k; older = older; parts = are; place_is = newest_is k older place is }

of_newest_there : (Says : readings.Construct → Type 0) (Is : List readings.Construct → Type 0) (items : List Item) (place : Construct)
    → IsNewest items place → IsTrueAt items place Says
    → ((k : readings.Construct) (older : List readings.Construct) → Says k → Is (k ∷ older)) → Is (indexes_of items)
of_newest_there Says Is items place known says is = of (indexes_of items) refl known.stands
  where
    of : (ks : List readings.Construct) → indexes_of items ≡ ks → newest ks ≡ Some place → Is ks
    of [] are at = absurd (cc at)
    of (k ∷ older) are at = is k older (says [] k older are (newest_is k older place at))

-- the document read where the newest index stands is that index's
pub newest_document : (items : List Item) (place : Construct) (document : List ℕ) → IsNewest items place
    → IsTrueAt items place (λ k. document ≡ text_of k) → IsDocument document (indexes_of items)
newest_document items place document known read =
    of_newest_there (λ k. document ≡ text_of k) (IsDocument document) items place known read (λ k older is. is)

newest_bad : (items : List Item) (place : Construct) (uuid : ℕ) (at : Place) (e : MountErr) → IsNewest items place
    → IsTrueAt items place (λ k. IsNoText (text_of k) uuid at e) → IsBadNewest (indexes_of items) uuid at e
newest_bad items place uuid at e known none =
    of_newest_there (λ k. IsNoText (text_of k) uuid at e) (λ ks. IsBadNewest ks uuid at e) items place known none (λ k older is. bad k older e is)
  where
    bad : (k : readings.Construct) (older : List readings.Construct) (e : MountErr) → IsNoText (text_of k) uuid at e → IsBadNewest (k ∷ older) uuid at e
    bad k older (errors.Drive counts) is = tt
    bad k older e is = is

-- ---- what a document tells of the newest index

-- an index read of the newest document, with the label's UUID, is of the volume
pub of_newest : (label : Label) (ks : List readings.Construct) (document : List ℕ) (index : Index) → IsDocument document ks
    → IndexText document index → index.uuid ≡ label.uuid → IsOfNewest label index ks
of_newest label [] document index is text uuid = is
of_newest label (k ∷ older) document index is text uuid = record { text = subst (λ (t : List ℕ). IndexText t index) is text; uuid = uuid }

-- a document that is no index of the volume is the newest one's fault
pub bad_newest : (ks : List readings.Construct) (document : List ℕ) (uuid : ℕ) (place : Place) (e : MountErr) → IsDocument document ks
    → IsBadText document uuid place e → IsBadNewest ks uuid place e
bad_newest [] document uuid place e is bad = absurd is
bad_newest (k ∷ older) document uuid place (errors.Drive counts) is bad = tt
bad_newest (k ∷ older) document uuid place errors.NoMemory is bad = tt
bad_newest (k ∷ older) document uuid place e is bad = subst (λ (t : List ℕ). IsBadText t uuid place e) is bad

-- a document that is no index tells no counts of a failed drive
pub bad_counts : (text : List ℕ) (uuid : ℕ) (place : Place) (e : MountErr) (before now : ℕ) → IsBadText text uuid place e → AreCounts before now e
bad_counts text uuid place (errors.Drive counts) before now bad = absurd bad
bad_counts text uuid place errors.NoMemory before now bad = tt
bad_counts text uuid place e before now bad = tt

-- ---- why the last index of a partition is refused

module _ (c : Cartridge) (labels : Labels) (forms : HasForms c labels) (part : Part) (place : Construct) (on_dp : Option Index)
    (before : part ≡ Ip → IsLastOnDp labels.ip (indexes_of c.dp) on_dp) (stands : newest (indexes_of (items_of part c)) ≡ Some place) where
  comes : (k : readings.Construct) (older : List readings.Construct) → indexes_of (items_of part c) ≡ k ∷ older
      → (Says : Labels → readings.Construct → List readings.Construct → Option Index → Type 0) → Says labels k older on_dp
      → ComesTo c (record { part = part; pos = place.first }) Says
  comes k older are Says says =
      let both : Some (places_of k) ≡ Some place = sym (ap newest are) ∙ stands in
      let same : places_of k ≡ place = cc both in
      record {
        labels = labels;
        forms = forms;
        on_dp = on_dp;
        dp_before = before;
        last = k;
        older = older;
        stands = are;
        first = sym (ap (λ (p : Construct). p.first) same);
        says = says;
      }

  blamed_at : (ks : List readings.Construct) (e : MountErr) → indexes_of (items_of part c) ≡ ks
      → IsBadNewest ks labels.ip.uuid (record { part = part; pos = place.first }) e → Blames e c
  blamed_at ks (errors.Drive counts) are bad = tt
  blamed_at ks errors.NoMemory are bad = tt
  blamed_at [] (errors.Vol1 p) are bad = absurd bad
  blamed_at [] (errors.Label p) are bad = absurd bad
  blamed_at [] errors.LabelsDiffer are bad = absurd bad
  blamed_at [] (errors.Layout at) are bad = absurd bad
  blamed_at [] errors.NoIndex are bad = absurd bad
  blamed_at [] (errors.BadIndex at fault) are bad = absurd bad
  blamed_at [] (errors.WrongVolume at) are bad = absurd bad
  blamed_at [] (errors.WrongPointer at) are bad = absurd bad
  blamed_at [] (errors.BadExtent uid) are bad = absurd bad
  blamed_at (k ∷ older) (errors.Vol1 p) are bad = absurd bad
  blamed_at (k ∷ older) (errors.Label p) are bad = absurd bad
  blamed_at (k ∷ older) errors.LabelsDiffer are bad = absurd bad
  blamed_at (k ∷ older) (errors.Layout at) are bad = absurd bad
  blamed_at (k ∷ older) errors.NoIndex are bad = absurd bad
  blamed_at (k ∷ older) (errors.BadIndex at fault) are bad =
      subst (λ (p : Place). HasBadIndex c p fault) (sym bad.0) (comes k older are (λ labels k older on_dp. Stops (text_of k) fault) bad.1)
  blamed_at (k ∷ older) (errors.WrongVolume at) are bad =
      subst (λ (p : Place). HasOtherVolume c p) (sym bad.0)
      (comes k older are (λ labels k older on_dp. (index : Index) × IndexText (text_of k) index × (index.uuid ≢ labels.ip.uuid)) bad.1)
  blamed_at (k ∷ older) (errors.WrongPointer at) are bad = absurd bad
  blamed_at (k ∷ older) (errors.BadExtent uid) are bad = absurd bad

  pub blamed : (e : MountErr) → IsBadNewest (indexes_of (items_of part c)) labels.ip.uuid (record { part = part; pos = place.first }) e → Blames e c
  blamed e bad = blamed_at (indexes_of (items_of part c)) e refl bad

  pub wrong_pointer : (k : readings.Construct) (older : List readings.Construct) → indexes_of (items_of part c) ≡ k ∷ older → (index : Index)
      → IsOfVolume labels.ip k index → ¬ Points c labels part k older on_dp index → Blames (errors.WrongPointer (record { part = part; pos = place.first })) c
  wrong_pointer k older are index of wrong =
      comes k older are (λ labels k older on_dp. (index : Index) × IsOfVolume labels.ip k index × ¬ Points c labels part k older on_dp index) (index, of, wrong)

-- ---- the data partition

module _ (c : Cartridge) (labels : Labels) (place : Construct) (older : List Construct) (known : IsKnownDp labels place older c) where
  -- a bad document of the data partition's last index is what the cartridge lacks
  pub blamed_dp : (e : MountErr) → IsTrueAt c.dp place (λ k. IsNoText (text_of k) labels.ip.uuid (record { part = Dp; pos = place.first }) e)
      → Blames e c
  blamed_dp e none =
      blamed c labels known.forms Dp place None (λ is. absurd (cc is)) known.newest.stands e
      (newest_bad c.dp place labels.ip.uuid (record { part = Dp; pos = place.first }) e known.newest none)

  module _ (index : Index) (of : IsTrueAt c.dp place (λ k. IsOfVolume labels.ip k index)) where
    of_last : IsOfVolume labels.ip known.parted.last index
    of_last = of [] known.parted.last known.parted.before known.parted.parts (sym known.parted.place_is)

    -- an index with right pointers is the last one of the data partition
    pub right_dp : ((k : readings.Construct) (ks : List readings.Construct) → place.first ≡ first_of k → older ≡ map places_of (reverse ks)
        → PointsOnDp labels.ip k ks index) → IsLastDp labels.ip (Some (record { index = index; place = place })) c
    right_dp points = record {
      index =
          subst (λ (ks : List readings.Construct). IsLastOnDp labels.ip ks (Some index)) (sym known.parted.parts)
          (index, refl, of_last, points known.parted.last known.parted.before (ap (λ (p : Construct). p.first) known.parted.place_is) known.parted.older_are);
      place = sym known.newest.stands;
    }

    -- an index of the data partition with wrong pointers is blamed for them
    pub wrong_dp : ((k : readings.Construct) (ks : List readings.Construct) → place.first ≡ first_of k → older ≡ map places_of (reverse ks)
        → ¬ PointsOnDp labels.ip k ks index) → Blames (errors.WrongPointer (record { part = Dp; pos = place.first })) c
    wrong_dp wrong =
        wrong_pointer c labels known.forms Dp place None (λ is. absurd (cc is)) known.newest.stands known.parted.last known.parted.before known.parted.parts index of_last
        (wrong known.parted.last known.parted.before (ap (λ (p : Construct). p.first) known.parted.place_is) known.parted.older_are)

-- ---- the index partition

module _ (c : Cartridge) (labels : Labels) (place : Construct) (dps : List Construct) (on_dp : Option Index)
    (known : IsKnownIp labels place dps on_dp c) where
  -- a bad document of the index partition's last index is what the cartridge lacks
  pub blamed_ip : (e : MountErr) → IsBadNewest (indexes_of c.ip) labels.ip.uuid (record { part = Ip; pos = place.first }) e → Blames e c
  blamed_ip e bad = blamed c labels known.forms Ip place on_dp (λ is. known.dp_last) known.newest.stands e bad

  module _ (index : Index) (of : IsOfNewest labels.ip index (indexes_of c.ip)) where
    first_ip : (k : readings.Construct) (older : List readings.Construct) → indexes_of c.ip ≡ k ∷ older → place.first ≡ first_of k
    first_ip k older are =
        let both : Some (places_of k) ≡ Some place = sym (ap newest are) ∙ known.newest.stands in
        let same : places_of k ≡ place = cc both in
        sym (ap (λ (p : Construct). p.first) same)

    -- an index with right pointers is the last one of the index partition
    pub right_ip : ((k : readings.Construct) → place.first ≡ first_of k → PointsOnIp labels.ip k (indexes_of c.dp) on_dp index)
        → IsLastIp labels.ip on_dp (Some (record { index = index; place = place })) c
    right_ip points = record { index = last_is (indexes_of c.ip) refl of known.newest.stands; place = sym known.newest.stands }
      where
        last_is : (ks : List readings.Construct) → indexes_of c.ip ≡ ks → IsOfNewest labels.ip index ks → newest ks ≡ Some place
            → IsLastOnIp labels.ip ks (indexes_of c.dp) on_dp (Some index)
        last_is [] are of stands = absurd of
        last_is (k ∷ older) are of stands = (index, refl, of, points k (first_ip k older are))

    -- an index of the index partition with wrong pointers is blamed for them
    pub wrong_ip : ((k : readings.Construct) → place.first ≡ first_of k → ¬ PointsOnIp labels.ip k (indexes_of c.dp) on_dp index)
        → Blames (errors.WrongPointer (record { part = Ip; pos = place.first })) c
    wrong_ip wrong = blame (indexes_of c.ip) refl of
      where
        blame : (ks : List readings.Construct) → indexes_of c.ip ≡ ks → IsOfNewest labels.ip index ks → Blames (errors.WrongPointer (record { part = Ip; pos = place.first })) c
        blame [] are of = absurd of
        blame (k ∷ older) are of =
            wrong_pointer c labels known.forms Ip place on_dp (λ is. known.dp_last) known.newest.stands k older are index of (wrong k (first_ip k older are))

-- ---- both

-- the last index of each partition makes up the last ones of the cartridge
pub are_lasts : (label : Label) (dp : Option LastIndex) (lasts : Lasts) (c : Cartridge) → IsLastDp label dp c → AreLastsWith label dp lasts c → AreLasts label lasts c
are_lasts label dp lasts c last is = record {
  dp = subst (λ (o : Option LastIndex). IsLastDp label o c) (sym is.dp_is) last;
  ip = subst (λ (o : Option LastIndex). IsLastIp label (index_in o) (ip_in lasts) c) (sym is.dp_is) is.ip;
}

-- the last indexes are sound where that of each partition is
pub are_sound : (label : Label) (limits : Limits) (dp : Option LastIndex) (lasts : Lasts) → IfSome dp (IsSoundLast label limits.cap_dp)
    → AreSoundWith label limits.cap_ip dp lasts → AreSoundLasts label limits lasts
are_sound label limits dp lasts last is =
    record { dp = subst (λ (o : Option LastIndex). IfSome o (IsSoundLast label limits.cap_dp)) (sym is.dp_is) last; ip = is.ip }

-- ---- what a scan makes known

-- both partitions of a scanned cartridge have the form
pub forms_of : (c : Cartridge) (labels : Labels) (s : Scans) → IsScan labels s c → HasForms c labels
forms_of c labels s scan = record { has = scan.has; ip = scan.ip.form; dp = scan.dp.form }

newest_of : (items : List Item) (found : Content) (older : List Construct) (place : Construct) → IsSeen items found → found.constructs ≡ older ++ place ∷ []
    → IsNewest items place × IsParted (indexes_of items) place older
newest_of items found older place seen split =
    let p = parted (indexes_of items) found.constructs older place seen.constructs split in (
      record { form = seen.form; long = seen.long; stands = ap newest p.2 ∙ ap Some (sym p.3) },
      record { last = p.0; before = p.1; parts = p.2; place_is = p.3; older_are = p.4 },
    )

-- what a scan tells of the data partition's last index
pub known_dp : (c : Cartridge) (labels : Labels) (s : Scans) (older : List Construct) (place : Construct) → IsScan labels s c → s.dp.constructs ≡ older ++ place ∷ []
    → IsKnownDp labels place older c
known_dp c labels s older place scan split =
    let n = newest_of c.dp s.dp older place scan.dp split in record { forms = forms_of c labels s scan; newest = n.0; parted = n.1 }

-- what a scan tells of the index partition's last index
pub known_ip : (c : Cartridge) (labels : Labels) (s : Scans) (on_dp : Option LastIndex) (older : List Construct) (place : Construct) → IsScan labels s c
    → IsLastDp labels.ip on_dp c → s.ip.constructs ≡ older ++ place ∷ [] → IsKnownIp labels place s.dp.constructs (index_in on_dp) c
known_ip c labels s on_dp older place scan dp split =
    let n = newest_of c.ip s.ip older place scan.ip split in
    record { forms = forms_of c labels s scan; newest = n.0; dps_are = scan.dp.constructs; dp_last = dp.index }

no_dp : (c : Cartridge) (labels : Labels) (s : Scans) → IsScan labels s c → length s.dp.constructs ≡ 0 → IsLastDp labels.ip None c
no_dp c labels s scan none =
    let are = none_left (indexes_of c.dp) s.dp.constructs scan.dp.constructs none in
    record { index = subst (λ (ks : List readings.Construct). IsLastOnDp labels.ip ks None) (sym are) refl; place = sym (ap newest are) }

no_ip : (c : Cartridge) (labels : Labels) (s : Scans) (on_dp : Option Index) → IsScan labels s c → length s.ip.constructs ≡ 0 → IsLastIp labels.ip on_dp None c
no_ip c labels s on_dp scan none =
    let are = none_left (indexes_of c.ip) s.ip.constructs scan.ip.constructs none in
    record {
      index = subst (λ (ks : List readings.Construct). IsLastOnIp labels.ip ks (indexes_of c.dp) on_dp None) (sym are) refl;
      place = sym (ap newest are);
    }

last_between : (older : List Construct) (place : Construct) (from to capacity : ℕ) → 4 ≤ from → to ≤ capacity → AreBetween from to (older ++ place ∷ []) → IsInPlace capacity place
last_between [] place from to capacity low high b =
    record { mark = omega (arith, low, b.0); first = b.1; block = b.2; after = omega (arith, high, b.3) }
last_between (k ∷ older) place from to capacity low high b =
    last_between older place k.after to capacity (omega (arith, low, b.0, b.1, b.2)) high b.3

-- the last index that a scan tells stands within the capacity
pub last_in_place : (capacity : ℕ) (found : Content) (older : List Construct) (place : Construct) → IsInPlaces capacity found → found.constructs ≡ older ++ place ∷ []
    → IsInPlace capacity place
last_in_place capacity found older place places split =
    last_between older place 4 found.lead capacity (omega arith) (omega (arith, places.lead, places.front))
    (subst (λ (ks : List Construct). AreBetween 4 found.lead ks) split places.constructs)

-- the last index of a partition is sound, whatever document it was read of
pub sound_read : (label : Label) (capacity : ℕ) (document : List ℕ) (last : Option LastIndex) → IfSome last (IsSoundRead label capacity document) → IfSome last (IsSoundLast label capacity)
sound_read label capacity document None read = tt
sound_read label capacity document (Some l) read = read.sound
