-- Each check of a mount passes or fails.
use Rattle.std.proofs.Common.{◌≡◌, ◌⊎◌, ⊎_elim, ℕ, ◌+◌, ◌*◌, ◌≤◌, ◌<◌, Bool, true, false, List, [], ◌∷◌, ◌++◌, length, get_or, Option, Some, None, inl, inr, refl, sym, ap, subst, ◌∙◌}
use Rattle.std.specs.List.{AllByRecursion, slice_get, slice_range}
use Rattle.tape_types.specs.declared.cartridges.Item.{Item}
use Rattle.tape_types.specs.declared.cartridges.Item.TheVariants.{Block, Mark, Torn}
use Rattle.tape_types.specs.declared.cartridges.Part.{Part}
use Rattle.tape_types.specs.declared.cartridges.Part.TheVariants.{Ip, Dp}
use Rattle.tape_types.specs.declared.times.Civil.{Civil}
use Rattle.vol_label.specs.Table.{IsRecord, may_stand}
use Rattle.vol_label.specs.declared.Vol1.{Vol1}
use Rattle.vol_label.proofs.TableLemmas.{AllStand, all_stand-record, record_stands}
use Rattle.ltfs_label.specs.declared.Label.{Label}
use Rattle.ltfs_label.specs.Grammar.{LabelText}
use Rattle.ltfs_label.specs.Values.{LabelValue}
use Rattle.index_model.specs.declared.indexes.Index.{Index}
use Rattle.index_model.specs.declared.indexes.Spot.{Spot}
use Rattle.index_model.specs.declared.nodes.NodeKind.{NodeKind}
use Rattle.index_model.specs.declared.nodes.NodeKind.TheVariants as kinds
use Rattle.index_model.specs.declared.nodes.Node.{Node}
use Rattle.index_model.specs.declared.nodes.RawExtent.{RawExtent}
use Rattle.content_laws.specs.Readings.{Construct}
use Rattle.cartridge_meaning.specs.Labels.{AreInTheirPlaces, AreOfOneLayout, AreOfOneOrigin, AreOfOneVolume, HasSomeLabel, HasSomeRecord, IsMarkedBlock}
use Rattle.cartridge_meaning.specs.Meaning.{Fits, FitsKind, FitsNode, end_on}
use Rattle.cartridge_meaning.specs.Pointers.{NamesOneOf, PointsBack, PointsOnDp, PointsOnIp, letter_of, newest_spot, spot_of}
use Rattle.cartridge_meaning.proofs.Known.{Known, known_both, known_by, known_either, known_eq, known_le, known_lt, known_not, known_text, some_below}
use Rattle.ltfs_label.proofs.Texts.{label_or_stops, never_both as label_goes}

-- ---- blocks and marks

abbrev MarkAt : List Item → ℕ → Type 0
MarkAt items pos = slice_get items pos ≡ Some Mark

known_mark : (items : List Item) (pos : ℕ) → Known (MarkAt items pos)
known_mark items pos = by (slice_get items pos) refl
  where
    by : (o : Option Item) → slice_get items pos ≡ o → Known (MarkAt items pos)
    by None is = inr (λ h. let wrong : None ≡ Some Mark = sym is ∙ h in cc)
    by (Some Mark) is = inl is
    by (Some (Block bytes)) is = inr (λ h. let wrong : Some (Block bytes) ≡ Some Mark = sym is ∙ h in cc)
    by (Some Torn) is = inr (λ h. let wrong : Some Torn ≡ Some Mark = sym is ∙ h in cc)

-- a marked block of which something holds
abbrev MarkedBlock : List Item → ℕ → (List ℕ → Type 0) → Type 0
MarkedBlock items pos P = (bytes : List ℕ) × IsMarkedBlock items pos bytes × P bytes

known_marked : (items : List Item) (pos : ℕ) (P : List ℕ → Type 0) → ((bytes : List ℕ) → Known (P bytes)) → Known (MarkedBlock items pos P)
known_marked items pos P known = by (slice_get items pos) refl
  where
    by : (o : Option Item) → slice_get items pos ≡ o → Known (MarkedBlock items pos P)
    by None is = inr (λ h. let wrong : None ≡ Some (Block h.0) = sym is ∙ h.1.block in cc)
    by (Some Mark) is = inr (λ h. let wrong : Some Mark ≡ Some (Block h.0) = sym is ∙ h.1.block in cc)
    by (Some Torn) is = inr (λ h. let wrong : Some Torn ≡ Some (Block h.0) = sym is ∙ h.1.block in cc)
    by (Some (Block bytes)) is =
        known_by
        (λ h. (bytes, record { block = is; mark = h.0 }, h.1))
        (λ h. let same : h.0 ≡ bytes = (let both : Some (Block h.0) ≡ Some (Block bytes) = sym h.1.block ∙ is in cc) in (h.1.mark, subst P same h.2))
        (known_both (known_mark items (pos + 1)) (known bytes))

known_true : (b : Bool) → Known (b ≡ true)
known_true true = inl refl
known_true false = inr (λ h. cc)

-- the identifiers in 80 bytes
record_in : List ℕ → Vol1
record_in bytes = record { volume = slice_range bytes 4 10; owner = slice_range bytes 37 51 }

known_stand : (bytes : List ℕ) → Known (AllStand bytes)
known_stand bytes =
    known_by
    (λ none k less. ⊎_elim (λ yes_is. yes_is) (λ not_is. absurd (none (k, less, not_is))) (known_true (may_stand k (get_or bytes k 0))))
    (λ all bad. bad.2 (all bad.0 bad.1))
    (known_not (some_below (λ k. may_stand k (get_or bytes k 0) ≡ true → ⊥) (λ k. known_not (known_true (may_stand k (get_or bytes k 0)))) 80))

known_record : (bytes : List ℕ) → Known ((v : Vol1) × IsRecord bytes v)
known_record bytes =
    known_by
    (λ h. (record { volume = slice_range bytes 4 10; owner = slice_range bytes 37 51 }, all_stand-record bytes (record { volume = slice_range bytes 4 10; owner = slice_range bytes 37 51 }) h.0 h.1 refl refl))
    (λ r. (r.1.size, record_stands bytes r.0 r.1))
    (known_both (known_eq (length bytes) 80) (known_stand bytes))

-- whether a partition begins with a record can be decided
pub known_some_record : (items : List Item) → Known (HasSomeRecord items)
known_some_record items =
    known_by (λ h. (h.2.0, record { bytes = h.0; stands = h.1; spelled = h.2.1 })) (λ r. (r.1.bytes, r.1.stands, (r.0, r.1.spelled)))
    (known_marked items 0 (λ bytes. (v : Vol1) × IsRecord bytes v) known_record)

known_label_text : (text : List ℕ) → Known ((v : LabelValue) × LabelText text v)
known_label_text text = ⊎_elim
    (λ (some : (v : LabelValue) × LabelText text v). inl some)
    (λ stops. inr (λ (h : (v : LabelValue) × LabelText text v). label_goes text h.0 stops.0 h.1 stops.1))
    (label_or_stops text)

-- whether a partition has a label can be decided
pub known_some_label : (items : List Item) → Known (HasSomeLabel items)
known_some_label items =
    known_by (λ h. (h.2.0, record { bytes = h.0; stands = h.1; spelled = h.2.1 })) (λ r. (r.1.bytes, r.1.stands, (r.0, r.1.spelled)))
    (known_marked items 2 (λ bytes. (v : LabelValue) × LabelText bytes v) known_label_text)

-- ---- two labels

known_bool : (a b : Bool) → Known (a ≡ b)
known_bool true true = inl refl
known_bool false false = inl refl
known_bool true false = inr (λ e. cc)
known_bool false true = inr (λ e. cc)

known_civil : (a b : Civil) → Known (a ≡ b)
known_civil a b =
    known_by
    (λ h. λ i. record { year = h.0 i; month = h.1.0 i; day = h.1.1.0 i; hour = h.1.1.1.0 i; minute = h.1.1.1.1.0 i; second = h.1.1.1.1.1.0 i; nanos = h.1.1.1.1.1.1 i })
    (λ e. (ap (λ (c : Civil). c.year) e, (ap (λ (c : Civil). c.month) e, (ap (λ (c : Civil). c.day) e, (ap (λ (c : Civil). c.hour) e, (ap (λ (c : Civil). c.minute) e, (ap (λ (c : Civil). c.second) e, ap (λ (c : Civil). c.nanos) e)))))))
    (known_both (known_eq a.year b.year) (known_both (known_eq a.month b.month) (known_both (known_eq a.day b.day)
    (known_both (known_eq a.hour b.hour) (known_both (known_eq a.minute b.minute) (known_both (known_eq a.second b.second) (known_eq a.nanos b.nanos)))))))

known_origin : (a b : LabelValue) → Known (AreOfOneOrigin a b)
known_origin a b =
    known_by (λ h. record { creator = h.0; formatted = h.1.0; uuid = h.1.1 }) (λ o. (o.creator, (o.formatted, o.uuid)))
    (known_both (known_text a.creator b.creator) (known_both (known_civil a.formatted b.formatted) (known_eq a.uuid b.uuid)))

known_layout : (a b : LabelValue) → Known (AreOfOneLayout a b)
known_layout a b =
    known_by (λ h. record { index = h.0; dpart = h.1.0; block = h.1.1.0; compression = h.1.1.1 }) (λ o. (o.index, (o.dpart, (o.block, o.compression))))
    (known_both (known_eq a.index b.index) (known_both (known_eq a.dpart b.dpart) (known_both (known_eq a.block b.block) (known_bool a.compression b.compression))))

known_places : (a b : LabelValue) → Known (AreInTheirPlaces a b)
known_places a b =
    known_by (λ h. record { letters = h.0; in_index = h.1.0; in_data = h.1.1 }) (λ o. (o.letters, (o.in_index, o.in_data)))
    (known_both (known_not (known_eq a.index a.dpart)) (known_both (known_eq a.location a.index) (known_eq b.location b.dpart)))

-- whether two labels are of one volume can be decided
pub known_volume : (a b : LabelValue) → Known (AreOfOneVolume a b)
known_volume a b =
    known_by (λ h. record { origin = h.0; layout = h.1.0; places = h.1.1 }) (λ o. (o.origin, (o.layout, o.places)))
    (known_both (known_origin a b) (known_both (known_layout a b) (known_places a b)))

-- ---- pointers

known_spot : (a b : Spot) → Known (a ≡ b)
known_spot a b =
    known_by (λ h. λ i. record { letter = h.0 i; block = h.1 i }) (λ e. (ap (λ (s : Spot). s.letter) e, ap (λ (s : Spot). s.block) e))
    (known_both (known_eq a.letter b.letter) (known_eq a.block b.block))

known_back : (a b : Option Spot) → Known (a ≡ b)
known_back None None = inl refl
known_back None (Some b) = inr (λ e. let wrong : None ≡ Some b = e in cc)
known_back (Some a) None = inr (λ e. let wrong : Some a ≡ None = e in cc)
known_back (Some a) (Some b) = known_by (λ e. ap (λ (s : Spot). Some s) e) (λ e. let both : Some a ≡ Some b = e in cc) (known_spot a b)

known_names : (label : Label) (back : Option Spot) (ks : List Construct) → Known (NamesOneOf label back ks)
known_names label back [] = inr (λ h. h)
known_names label back (k ∷ older) = known_either (known_back back (Some (spot_of label Dp k))) (known_names label back older)

-- whether the pointers of the data partition's last index are right can be decided
pub known_on_dp : (label : Label) (k : Construct) (older : List Construct) (index : Index) → Known (PointsOnDp label k older index)
known_on_dp label k older index =
    known_by (λ h. record { here = h.0; back = h.1 }) (λ p. (p.here, p.back))
    (known_both (known_spot index.here (spot_of label Dp k)) (known_back index.back (newest_spot label older)))

known_points_back : (label : Label) (index : Index) (dps : List Construct) (on_dp : Option Index) → Known (PointsBack label index dps on_dp)
known_points_back label index dps None = known_back index.back None
known_points_back label index dps (Some d) =
    known_either
    (known_both (known_le d.generation index.generation) (known_back index.back (newest_spot label dps)))
    (known_both (known_lt index.generation d.generation) (known_names label index.back dps))

-- whether the pointers of the index partition's last index are right can be decided
pub known_on_ip : (label : Label) (k : Construct) (dps : List Construct) (on_dp : Option Index) (index : Index) → Known (PointsOnIp label k dps on_dp index)
known_on_ip label k dps on_dp index =
    known_by (λ h. record { here = h.0; back = h.1 }) (λ p. (p.here, p.back))
    (known_both (known_spot index.here (spot_of label Ip k)) (known_points_back label index dps on_dp))

-- ---- extents

module _ (label : Label) (ip dp : ℕ) where
  abbrev FitsOn : RawExtent → Part → Type 0
  FitsOn e part = (e.letter ≡ letter_of label part) × ((e.byte < label.block) × ((4 ≤ e.block) × (e.block * label.block + e.byte + e.count ≤ end_on part ip dp * label.block)))

  known_fits_on : (e : RawExtent) (part : Part) → Known (FitsOn e part)
  known_fits_on e part =
      known_both (known_eq e.letter (letter_of label part)) (known_both (known_lt e.byte label.block)
      (known_both (known_le 4 e.block) (known_le (e.block * label.block + e.byte + e.count) (end_on part ip dp * label.block))))

  as_fits : (e : RawExtent) (part : Part) → FitsOn e part → Fits label ip dp e
  as_fits e part h = record { part = part; letter = h.0; byte = h.1.0; low = h.1.1.0; high = h.1.1.1 }

  fits_as : (e : RawExtent) → Fits label ip dp e → FitsOn e Ip ⊎ FitsOn e Dp
  fits_as e f = by f.part (f.letter, (f.byte, (f.low, f.high)))
    where
      by : (part : Part) → FitsOn e part → FitsOn e Ip ⊎ FitsOn e Dp
      by Ip h = inl h
      by Dp h = inr h

  known_fits : (e : RawExtent) → Known (Fits label ip dp e)
  known_fits e = known_by (λ h. ⊎_elim (as_fits e Ip) (as_fits e Dp) h) (fits_as e) (known_either (known_fits_on e Ip) (known_fits_on e Dp))

  abbrev FitsIfSome : RawExtent → Type 0
  FitsIfSome e = 0 < e.count → Fits label ip dp e

  known_if_some : (e : RawExtent) → Known (FitsIfSome e)
  known_if_some e = ⊎_elim
      (λ (some : 0 < e.count). known_by (λ f count. f) (λ h. h some) (known_fits e))
      (λ none. inl (λ some. absurd (none some)))
      (known_lt 0 e.count)

  known_extents : (es : List RawExtent) → Known (AllByRecursion FitsIfSome es)
  known_extents [] = inl tt
  known_extents (e ∷ es) = known_both (known_if_some e) (known_extents es)

  known_kind : (kind : NodeKind) → Known (FitsKind label ip dp kind)
  known_kind kinds.Dir = inl tt
  known_kind (kinds.File size extents) = known_extents extents
  known_kind (kinds.Link text) = inl tt

  -- all nodes fit, or there is a first that doesn't
  pub record FirstOutside (nodes : List Node) : Type 0 where
    pub before : List Node
    pub node : Node
    pub behind : List Node
    pub split : nodes ≡ before ++ node ∷ behind
    pub within : AllByRecursion (FitsNode label ip dp) before
    pub outside : ¬ FitsNode label ip dp node

  -- the extents of all nodes lie before the ends, or there is a first node where not
  pub all_or_first : (nodes : List Node) → AllByRecursion (FitsNode label ip dp) nodes ⊎ FirstOutside nodes
  all_or_first [] = inl tt
  all_or_first (node ∷ nodes) = by (known_kind node.kind) (all_or_first nodes)
    where
      by : Known (FitsKind label ip dp node.kind) → AllByRecursion (FitsNode label ip dp) nodes ⊎ FirstOutside nodes
          → AllByRecursion (FitsNode label ip dp) (node ∷ nodes) ⊎ FirstOutside (node ∷ nodes)
      by (inr outside) more = inr (record { before = []; node = node; behind = nodes; split = refl; within = tt; outside = outside })
      by (inl fits) (inl all) = inl (fits, all)
      by (inl fits) (inr f) =
          inr (record { before = node ∷ f.before; node = f.node; behind = f.behind; split = ap (λ (ns : List Node). node ∷ ns) f.split; within = (fits, f.within); outside = f.outside })
