-- Each cartridge is read, or refused.
use Rattle.std.proofs.Common.{◌≡◌, ◌⊎◌, ⊎_elim, ℕ, List, [], ◌∷◌, Option, Some, None, inl, inr, refl, sym, subst}
use Rattle.tape_types.specs.declared.cartridges.Cartridge.{Cartridge}
use Rattle.tape_types.specs.declared.cartridges.Part.{Part}
use Rattle.tape_types.specs.declared.cartridges.Part.TheVariants.{Ip, Dp}
use Rattle.tape_types.specs.declared.cartridges.Place.{Place}
use Rattle.tape_types.specs.Cartridges.{items_of}
use Rattle.ltfs_label.specs.declared.Label.{Label}
use Rattle.ltfs_label.specs.Values.{LabelValue, label_of}
use Rattle.index_model.specs.Grammar.{IndexText}
use Rattle.index_model.specs.declared.indexes.Index.{Index}
use Rattle.content_laws.specs.Readings.{Construct, HasForm, LacksForm, first_of}
use Rattle.content_laws.proofs.SomeForm as forms
use Rattle.cartridge_meaning.specs.Faults.{HasRecords, MountFault, Points}
use Rattle.cartridge_meaning.specs.Labels.{AreOfOneVolume, HasLabel, HasLabels, HasSomeLabel, HasSomeRecord}
use Rattle.cartridge_meaning.specs.Meaning.{Found, HasForms, dp_end, ip_end}
use Rattle.cartridge_meaning.specs.Pointers.{IsLastOnDp, IsLastOnIp, IsOfVolume, PointsOnDp, PointsOnIp, chosen, indexes_of, text_of}
use Rattle.cartridge_meaning.specs.declared.errors.MountErr.{MountErr}
use Rattle.cartridge_meaning.specs.declared.errors.MountErr.TheVariants as errors
use Rattle.cartridge_meaning.specs.declared.labels.Labels.{Labels}
use Rattle.cartridge_meaning.proofs.Decided.{FirstOutside, all_or_first, known_on_dp, known_on_ip, known_some_label, known_some_record, known_volume}
use Rattle.cartridge_meaning.proofs.IndexOrStops.{index_or_stops}
use Rattle.cartridge_meaning.proofs.Known.{Known, known_eq}
use Rattle.ltfs_label.proofs.Texts.{label_formatted}
use Rattle.ltfs_documents.proofs.DocFields.Moments.{HasMoment}
use Rattle.cartridge_meaning.proofs.OneFault.{IsBad}

-- a label that says this
label_for : (v : LabelValue) → HasMoment v.formatted → (l : Label) × (label_of l ≡ v)
label_for v h = (
  record { creator = v.creator; formatted = h.0; uuid = v.uuid; location = v.location; index = v.index; dpart = v.dpart; block = v.block; compression = v.compression },
  λ i. record { creator = v.creator; formatted = h.1 i; uuid = v.uuid; location = v.location; index = v.index; dpart = v.dpart; block = v.block; compression = v.compression },
)

-- an index of the volume with its pointers right, or what is wrong with it
last_judged : (label : Label) (place : Place) (k : Construct) (Right : Index → Type 0) → ((index : Index) → Known (Right index))
    → ((index : Index) × IsOfVolume label k index × Right index) ⊎ ((e : MountErr) × IsBad label place k Right e)
last_judged label place k Right known = ⊎_elim by_index (λ stops. inr (errors.BadIndex place stops.0, inl (stops.0, refl, stops.1))) (index_or_stops (text_of k))
  where
    by_pointers : (index : Index) → IsOfVolume label k index → Known (Right index) → ((index : Index) × IsOfVolume label k index × Right index) ⊎ ((e : MountErr) × IsBad label place k Right e)
    by_pointers index v (inl right) = inl (index, v, right)
    by_pointers index v (inr wrong) = inr (errors.WrongPointer place, inr (inr (refl, (index, v, wrong))))

    by_volume : (index : Index) → IndexText (text_of k) index → Known (index.uuid ≡ label.uuid) → ((index : Index) × IsOfVolume label k index × Right index) ⊎ ((e : MountErr) × IsBad label place k Right e)
    by_volume index text (inl same) = by_pointers index (record { text = text; uuid = same }) (known index)
    by_volume index text (inr other) = inr (errors.WrongVolume place, inr (inl (refl, (index, text, other))))

    by_index : (index : Index) × IndexText (text_of k) index → ((index : Index) × IsOfVolume label k index × Right index) ⊎ ((e : MountErr) × IsBad label place k Right e)
    by_index x = by_volume x.0 x.1 (known_eq x.0.uuid label.uuid)

none_dp : (label : Label) (ks : List Construct) → IsLastOnDp label ks None → ks ≡ []
none_dp label [] h = refl
none_dp label (k ∷ older) h = absurd (let wrong : None ≡ Some h.0 = h.1 in cc)

none_ip : (label : Label) (ks dps : List Construct) (on_dp : Option Index) → IsLastOnIp label ks dps on_dp None → ks ≡ []
none_ip label [] dps on_dp h = refl
none_ip label (k ∷ older) dps on_dp h = absurd (let wrong : None ≡ Some h.0 = h.1 in cc)

none_chosen : (on_ip on_dp : Option Index) → chosen on_ip on_dp ≡ None → (on_ip ≡ None) × (on_dp ≡ None)
none_chosen None on_dp e = (refl, e)
none_chosen (Some i) None e = absurd (let wrong : Some i ≡ None = e in cc)
none_chosen (Some i) (Some d) e = absurd cc

module _ (c : Cartridge) where
  -- something is found of a cartridge, or some check of a mount fails
  abbrev pub Judged : Type 0
  Judged = Found c ⊎ ((e : MountErr) × MountFault c e)

  abbrev ips : List Construct
  ips = indexes_of c.ip

  abbrev dps : List Construct
  dps = indexes_of c.dp

  -- ---- the chosen index

  from_last : (labels : Labels) (forms : HasForms c labels) (on_dp : Option Index) → IsLastOnDp labels.ip dps on_dp
      → (on_ip : Option Index) → IsLastOnIp labels.ip ips dps on_dp on_ip → Judged
  from_last labels forms on_dp dp_last on_ip ip_last = by (chosen on_ip on_dp) refl
    where
      by : (o : Option Index) → chosen on_ip on_dp ≡ o → Judged
      by None is =
          let both = none_chosen on_ip on_dp is in
          inr (
            errors.NoIndex,
            record {
              labels = labels;
              forms = forms;
              ip = none_ip labels.ip ips dps on_dp (subst (λ (o : Option Index). IsLastOnIp labels.ip ips dps on_dp o) both.0 ip_last);
              dp = none_dp labels.ip dps (subst (IsLastOnDp labels.ip dps) both.1 dp_last);
            },
          )
      by (Some index) is = ⊎_elim
          (λ within. inl (record { labels = labels; forms = forms; on_dp = on_dp; dp_last = dp_last; on_ip = on_ip; ip_last = ip_last; index = index; choice = is; within = within }))
          (λ (f : FirstOutside labels.ip (ip_end c) (dp_end c) index.nodes). inr (
            errors.BadExtent f.node.uid,
            record {
              labels = labels;
              forms = forms;
              on_dp = on_dp;
              dp_last = dp_last;
              on_ip = on_ip;
              ip_last = ip_last;
              index = index;
              choice = is;
              before = f.before;
              node = f.node;
              behind = f.behind;
              nodes = f.split;
              within = f.within;
              outside = f.outside;
              told = refl;
            },
          ))
          (all_or_first labels.ip (ip_end c) (dp_end c) index.nodes)

  -- ---- the last indexes

  bad_fault : (part : Part) (labels : Labels) → HasForms c labels → (on_dp : Option Index) → ((part ≡ Ip) → IsLastOnDp labels.ip dps on_dp)
      → (k : Construct) (older : List Construct) → indexes_of (items_of part c) ≡ k ∷ older → (e : MountErr)
      → IsBad labels.ip (record { part = part; pos = first_of k }) k (Points c labels part k older on_dp) e → MountFault c e
  bad_fault part labels forms on_dp dp_before k older stands e (inl b) =
      subst (MountFault c) (sym b.1) (record { labels = labels; forms = forms; on_dp = on_dp; dp_before = dp_before; last = k; older = older; stands = stands; first = refl; says = b.2 })
  bad_fault part labels forms on_dp dp_before k older stands e (inr (inl b)) =
      subst (MountFault c) (sym b.0) (record { labels = labels; forms = forms; on_dp = on_dp; dp_before = dp_before; last = k; older = older; stands = stands; first = refl; says = b.1 })
  bad_fault part labels forms on_dp dp_before k older stands e (inr (inr b)) =
      subst (MountFault c) (sym b.0) (record { labels = labels; forms = forms; on_dp = on_dp; dp_before = dp_before; last = k; older = older; stands = stands; first = refl; says = b.1 })

  from_dp : (labels : Labels) → HasForms c labels → (on_dp : Option Index) → IsLastOnDp labels.ip dps on_dp → Judged
  from_dp labels forms on_dp dp_last = by ips refl
    where
      by : (ks : List Construct) → ips ≡ ks → Judged
      by [] is = from_last labels forms on_dp dp_last None (subst (λ (ks : List Construct). IsLastOnIp labels.ip ks dps on_dp None) (sym is) refl)
      by (k ∷ older) is = ⊎_elim
          (λ (good : (index : Index) × IsOfVolume labels.ip k index × PointsOnIp labels.ip k dps on_dp index).
          from_last labels forms on_dp dp_last (Some good.0)
          (subst (λ (ks : List Construct). IsLastOnIp labels.ip ks dps on_dp (Some good.0)) (sym is) (good.0, refl, good.1, good.2)))
          (λ bad. inr (bad.0, bad_fault Ip labels forms on_dp (λ here. dp_last) k older is bad.0 bad.1))
          (last_judged labels.ip (record { part = Ip; pos = first_of k }) k (PointsOnIp labels.ip k dps on_dp) (known_on_ip labels.ip k dps on_dp))

  from_forms : (labels : Labels) → HasForms c labels → Judged
  from_forms labels forms = by dps refl
    where
      by : (ks : List Construct) → dps ≡ ks → Judged
      by [] is = from_dp labels forms None (subst (λ (ks : List Construct). IsLastOnDp labels.ip ks None) (sym is) refl)
      by (k ∷ older) is = ⊎_elim
          (λ (good : (index : Index) × IsOfVolume labels.ip k index × PointsOnDp labels.ip k older index).
          from_dp labels forms (Some good.0) (subst (λ (ks : List Construct). IsLastOnDp labels.ip ks (Some good.0)) (sym is) (good.0, refl, good.1, good.2)))
          (λ bad. inr (bad.0, bad_fault Dp labels forms None (λ other. absurd cc) k older is bad.0 bad.1))
          (last_judged labels.ip (record { part = Dp; pos = first_of k }) k (PointsOnDp labels.ip k older) (known_on_dp labels.ip k older))

  -- ---- the form of the partitions

  from_labels : (labels : Labels) → HasLabels c labels → Judged
  from_labels labels has = ⊎_elim
      (λ (ip : HasForm c.ip). ⊎_elim
      (λ (dp : HasForm c.dp). from_forms labels (record { has = has; ip = ip; dp = dp }))
      (λ (lacks : (at : ℕ) × LacksForm c.dp at). inr (errors.Layout (record { part = Dp; pos = lacks.0 }), record { labels = labels; has = has; lacks = (ip, lacks.1) }))
      (forms.either c.dp))
      (λ (lacks : (at : ℕ) × LacksForm c.ip at). inr (errors.Layout (record { part = Ip; pos = lacks.0 }), record { labels = labels; has = has; lacks = lacks.1 }))
      (forms.either c.ip)

  -- ---- the labels

  of_volume : HasSomeRecord c.ip → HasSomeRecord c.dp → (v w : LabelValue) → HasLabel c.ip v → HasLabel c.dp w → AreOfOneVolume v w → Judged
  of_volume ip_record dp_record v w ip dp one =
      let l = label_for v (label_formatted ip.bytes v ip.spelled) in
      let m = label_for w (label_formatted dp.bytes w dp.spelled) in
      from_labels (record { ip_record = ip_record.0; ip = l.0; dp_record = dp_record.0; dp = m.0 }) (record {
        ip_record = ip_record.1;
        dp_record = dp_record.1;
        ip = subst (HasLabel c.ip) (sym l.1) ip;
        dp = subst (HasLabel c.dp) (sym m.1) dp;
        one_volume = subst (λ (x : LabelValue). AreOfOneVolume x (label_of m.0)) (sym l.1) (subst (AreOfOneVolume v) (sym m.1) one);
      })

  from_both : HasRecords c → (ip : HasSomeLabel c.ip) → (dp : HasSomeLabel c.dp) → Known (AreOfOneVolume ip.0 dp.0) → Judged
  from_both records ip dp (inl one) = of_volume records.ip records.dp ip.0 dp.0 ip.1 dp.1 one
  from_both records ip dp (inr differ) = inr (errors.LabelsDiffer, record { records = records; ip = ip.0; ip_is = ip.1; dp = dp.0; dp_is = dp.1; differ = differ })

  from_dp_label : HasRecords c → HasSomeLabel c.ip → Known (HasSomeLabel c.dp) → Judged
  from_dp_label records ip (inl dp) = from_both records ip dp (known_volume ip.0 dp.0)
  from_dp_label records ip (inr none) = inr (errors.Label Dp, (records, ip, none))

  from_ip_label : HasRecords c → Known (HasSomeLabel c.ip) → Judged
  from_ip_label records (inl ip) = from_dp_label records ip (known_some_label c.dp)
  from_ip_label records (inr none) = inr (errors.Label Ip, (records, none))

  from_dp_record : HasSomeRecord c.ip → Known (HasSomeRecord c.dp) → Judged
  from_dp_record ip (inl dp) = from_ip_label (record { ip = ip; dp = dp }) (known_some_label c.ip)
  from_dp_record ip (inr none) = inr (errors.Vol1 Dp, (ip, none))

  from_ip_record : Known (HasSomeRecord c.ip) → Judged
  from_ip_record (inl ip) = from_dp_record ip (known_some_record c.dp)
  from_ip_record (inr none) = inr (errors.Vol1 Ip, none)

  -- of each cartridge something is found, or some check of a mount fails
  pub judged : Judged
  judged = from_ip_record (known_some_record c.ip)
