-- The checks of a mount as one chain: each that fails is told in one way, and behind it none is made.
use Rattle.std.proofs.Common.{◌≡◌, ◌≢◌, ◌⊎◌, ℕ, List, [], ◌∷◌, ◌++◌, Option, Some, None, inl, inr, refl, sym, ap, subst, ◌∙◌}
use Rattle.std.specs.List.{AllByRecursion}
use Rattle.tape_types.specs.declared.cartridges.Cartridge.{Cartridge}
use Rattle.tape_types.specs.declared.cartridges.Part.{Part}
use Rattle.tape_types.specs.declared.cartridges.Part.TheVariants.{Ip, Dp}
use Rattle.tape_types.specs.declared.cartridges.Place.{Place}
use Rattle.index_model.specs.Grammar.{IndexText, Stops}
use Rattle.index_model.specs.declared.errors.IndexErr.{IndexErr}
use Rattle.index_model.specs.declared.indexes.Index.{Index}
use Rattle.index_model.specs.declared.nodes.Node.{Node}
use Rattle.ltfs_label.specs.declared.Label.{Label}
use Rattle.ltfs_label.specs.Values.{LabelValue, label_of}
use Rattle.index_read.proofs.Exact.{never_both, one_index_text, one_refusal}
use Rattle.content_laws.specs.Readings.{Construct, HasForm, LacksForm, first_of}
use Rattle.content_laws.proofs.ReadForms as forms
use Rattle.cartridge_meaning.specs.Faults.{ComesTo, HasBadExtent, HasRecords, HasUnlikeLabels, LacksFormOn, MountFault, Points}
use Rattle.cartridge_meaning.specs.Labels.{AreOfOneVolume, HasLabels, HasSomeLabel, HasSomeRecord}
use Rattle.cartridge_meaning.specs.Meaning.{FitsNode, Found, HasForms, dp_end, ip_end}
use Rattle.cartridge_meaning.specs.Pointers.{IsLastOnDp, IsLastOnIp, IsOfVolume, PointsOnDp, PointsOnIp, chosen, indexes_of, text_of}
use Rattle.cartridge_meaning.specs.declared.errors.MountErr.{MountErr}
use Rattle.cartridge_meaning.specs.declared.errors.MountErr.TheVariants as errors
use Rattle.cartridge_meaning.specs.declared.labels.Labels.{Labels}
use Rattle.cartridge_meaning.proofs.Extents.{all_middle, first_once}
use Rattle.cartridge_meaning.proofs.OneWay.{label_once, labels_once, last_dp_once, last_ip_once}

-- one refusal at most
abbrev pub Once : (MountErr → Type 0) → Type 0
Once F = (e f : MountErr) → F e → F f → e ≡ f

-- a check that passes fails with no refusal
abbrev pub Excludes : Type 0 → (MountErr → Type 0) → Type 0
Excludes P F = (e : MountErr) → F e → P → ⊥

-- a check fails, or it passes and a later one fails
abbrev pub Then : Type 0 → (F G : MountErr → Type 0) → MountErr → Type 0
Then P F G e = F e ⊎ (P × G e)

then_once : (P : Type 0) (F G : MountErr → Type 0) → Excludes P F → Once F → Once G → Once (Then P F G)
then_once P F G apart one more e f (inl a) (inl b) = one e f a b
then_once P F G apart one more e f (inl a) (inr b) = absurd (apart e a b.0)
then_once P F G apart one more e f (inr a) (inl b) = absurd (apart f b a.0)
then_once P F G apart one more e f (inr a) (inr b) = more e f a.1 b.1

then_none : (P : Type 0) (F G : MountErr → Type 0) → Excludes P F → P → ((e : MountErr) → ¬ G e) → (e : MountErr) → ¬ Then P F G e
then_none P F G apart p more e (inl a) = apart e a p
then_none P F G apart p more e (inr b) = more e b.1

-- ---- a check of one fact

abbrev pub Lacks : MountErr → Type 0 → MountErr → Type 0
Lacks told P e = (e ≡ told) × ¬ P

lacks_once : (told : MountErr) (P : Type 0) → Once (Lacks told P)
lacks_once told P e f a b = a.0 ∙ sym b.0

lacks_not : (told : MountErr) (P : Type 0) → Excludes P (Lacks told P)
lacks_not told P e a p = a.1 p

-- ---- the last index of a partition

-- what is wrong with the index at a place, whose pointers ought to be such
abbrev pub IsBad : Label → Place → Construct → (Index → Type 0) → MountErr → Type 0
IsBad label place k Points e =
    ((stop : IndexErr) × (e ≡ errors.BadIndex place stop) × Stops (text_of k) stop)
    ⊎ (((e ≡ errors.WrongVolume place) × ((index : Index) × IndexText (text_of k) index × (index.uuid ≢ label.uuid)))
    ⊎ ((e ≡ errors.WrongPointer place) × ((index : Index) × IsOfVolume label k index × ¬ Points index)))

module _ (label : Label) (place : Place) (k : Construct) (Points : Index → Type 0) where
  goes_on : (stop : IndexErr) (index : Index) → Stops (text_of k) stop → IndexText (text_of k) index → ⊥
  goes_on stop index s t = never_both (text_of k) index stop t s

  same_volume : (index other : Index) → IndexText (text_of k) index → (index.uuid ≢ label.uuid) → IsOfVolume label k other → ⊥
  same_volume index other t apart v =
      apart (ap (λ (x : Index). x.uuid) (one_index_text (text_of k) index other t v.text) ∙ v.uuid)

  bad_once : Once (IsBad label place k Points)
  bad_once e f (inl a) (inl b) = a.1 ∙ ap (errors.BadIndex place) (one_refusal (text_of k) a.0 b.0 a.2 b.2) ∙ sym b.1
  bad_once e f (inl a) (inr (inl b)) = absurd (goes_on a.0 b.1.0 a.2 b.1.1)
  bad_once e f (inl a) (inr (inr b)) = absurd (goes_on a.0 b.1.0 a.2 b.1.1.text)
  bad_once e f (inr (inl a)) (inl b) = absurd (goes_on b.0 a.1.0 b.2 a.1.1)
  bad_once e f (inr (inl a)) (inr (inl b)) = a.0 ∙ sym b.0
  bad_once e f (inr (inl a)) (inr (inr b)) = absurd (same_volume a.1.0 b.1.0 a.1.1 a.1.2 b.1.1)
  bad_once e f (inr (inr a)) (inl b) = absurd (goes_on b.0 a.1.0 b.2 a.1.1.text)
  bad_once e f (inr (inr a)) (inr (inl b)) = absurd (same_volume b.1.0 a.1.0 b.1.1 b.1.2 a.1.1)
  bad_once e f (inr (inr a)) (inr (inr b)) = a.0 ∙ sym b.0

  bad_not : (index : Index) → IsOfVolume label k index → Points index → (e : MountErr) → ¬ IsBad label place k Points e
  bad_not index v points e (inl a) = goes_on a.0 index a.2 v.text
  bad_not index v points e (inr (inl a)) = same_volume a.1.0 index a.1.1 a.1.2 v
  bad_not index v points e (inr (inr a)) =
      a.1.2 (subst Points (one_index_text (text_of k) index a.1.0 v.text a.1.1.text) points)

abbrev pub on_dp_at : Construct → Place
on_dp_at k = record { part = Dp; pos = first_of k }

abbrev pub on_ip_at : Construct → Place
on_ip_at k = record { part = Ip; pos = first_of k }

-- ---- the chain

module _ (c : Cartridge) where
  -- the indexes of the index partition, the newest first
  abbrev pub ips : List Construct
  ips = indexes_of c.ip

  -- the indexes of the data partition, the newest first
  abbrev pub dps : List Construct
  dps = indexes_of c.dp

  pub record BadOnDp (e : MountErr) : Type 0 where
    pub labels : Labels
    pub has : HasLabels c labels
    pub last : Construct
    pub older : List Construct
    pub stands : dps ≡ last ∷ older
    pub bad : IsBad labels.ip (on_dp_at last) last (PointsOnDp labels.ip last older) e

  pub record GoodOnDp : Type 0 where
    pub labels : Labels
    pub has : HasLabels c labels
    pub on_dp : Option Index
    pub last : IsLastOnDp labels.ip dps on_dp

  pub record BadOnIp (e : MountErr) : Type 0 where
    pub labels : Labels
    pub has : HasLabels c labels
    pub on_dp : Option Index
    pub dp_last : IsLastOnDp labels.ip dps on_dp
    pub last : Construct
    pub older : List Construct
    pub stands : ips ≡ last ∷ older
    pub bad : IsBad labels.ip (on_ip_at last) last (PointsOnIp labels.ip last dps on_dp) e

  pub record GoodOnIp : Type 0 where
    pub labels : Labels
    pub has : HasLabels c labels
    pub on_dp : Option Index
    pub dp_last : IsLastOnDp labels.ip dps on_dp
    pub on_ip : Option Index
    pub last : IsLastOnIp labels.ip ips dps on_dp on_ip

  abbrev pub SomeLabels : Type 0
  SomeLabels = (l : Labels) × HasLabels c l

  abbrev pub Unlike : MountErr → Type 0
  Unlike e = (e ≡ errors.LabelsDiffer) × HasUnlikeLabels c

  abbrev pub NoFormOnIp : MountErr → Type 0
  NoFormOnIp e = (at : ℕ) × (e ≡ errors.Layout (record { part = Ip; pos = at })) × LacksForm c.ip at

  abbrev pub NoFormOnDp : MountErr → Type 0
  NoFormOnDp e = (at : ℕ) × (e ≡ errors.Layout (record { part = Dp; pos = at })) × LacksForm c.dp at

  abbrev pub SomeIndex : Type 0
  SomeIndex = ips ≡ [] → dps ≡ [] → ⊥

  abbrev pub NoneThere : MountErr → Type 0
  NoneThere e = (e ≡ errors.NoIndex) × (ips ≡ []) × (dps ≡ [])

  abbrev pub Outside : MountErr → Type 0
  Outside e = (uid : ℕ) × (e ≡ errors.BadExtent uid) × HasBadExtent c uid

  -- behind each check those that follow
  abbrev pub FromIp : MountErr → Type 0
  FromIp = Then GoodOnIp BadOnIp Outside

  abbrev pub FromDp : MountErr → Type 0
  FromDp = Then GoodOnDp BadOnDp FromIp

  abbrev pub FromIndex : MountErr → Type 0
  FromIndex = Then SomeIndex NoneThere FromDp

  abbrev pub FromForms : MountErr → Type 0
  FromForms = Then (HasForm c.ip) NoFormOnIp (Then (HasForm c.dp) NoFormOnDp FromIndex)

  abbrev pub FromVolume : MountErr → Type 0
  FromVolume = Then SomeLabels Unlike FromForms

  abbrev pub FromLabels : MountErr → Type 0
  FromLabels = Then (HasSomeLabel c.ip) (Lacks (errors.Label Ip) (HasSomeLabel c.ip)) (Then (HasSomeLabel c.dp) (Lacks (errors.Label Dp) (HasSomeLabel c.dp)) FromVolume)

  -- the checks of a mount in their order, each where those before it hold
  abbrev pub Chain : MountErr → Type 0
  Chain = Then (HasSomeRecord c.ip) (Lacks (errors.Vol1 Ip) (HasSomeRecord c.ip)) (Then (HasSomeRecord c.dp) (Lacks (errors.Vol1 Dp) (HasSomeRecord c.dp)) FromLabels)

  -- ---- no check both passes and fails

  unlike_not : Excludes SomeLabels Unlike
  unlike_not e u l =
      let ip = label_once c.ip (label_of l.0.ip) u.1.ip l.1.ip u.1.ip_is in
      let dp = label_once c.dp (label_of l.0.dp) u.1.dp l.1.dp u.1.dp_is in
      u.1.differ (subst (λ (x : LabelValue). AreOfOneVolume u.1.ip x) dp (subst (λ (x : LabelValue). AreOfOneVolume x (label_of l.0.dp)) ip l.1.one_volume))

  bad_dp_not : Excludes GoodOnDp BadOnDp
  bad_dp_not e b g =
      let labels : g.labels ≡ b.labels = labels_once c g.labels b.labels g.has b.has in
      let last = subst (λ (ks : List Construct). IsLastOnDp b.labels.ip ks g.on_dp) b.stands (subst (λ (l : Labels). IsLastOnDp l.ip dps g.on_dp) labels g.last) in
      bad_not b.labels.ip (on_dp_at b.last) b.last (PointsOnDp b.labels.ip b.last b.older) last.0 last.2 last.3 e b.bad

  bad_ip_not : Excludes GoodOnIp BadOnIp
  bad_ip_not e b g =
      let labels : g.labels ≡ b.labels = labels_once c g.labels b.labels g.has b.has in
      let dp_last = subst (λ (l : Labels). IsLastOnDp l.ip dps g.on_dp) labels g.dp_last in
      let same : g.on_dp ≡ b.on_dp = last_dp_once b.labels.ip dps g.on_dp b.on_dp dp_last b.dp_last in
      let here = subst (λ (l : Labels). IsLastOnIp l.ip ips dps g.on_dp g.on_ip) labels g.last in
      let there = subst (λ (o : Option Index). IsLastOnIp b.labels.ip ips dps o g.on_ip) same here in
      let last = subst (λ (ks : List Construct). IsLastOnIp b.labels.ip ks dps b.on_dp g.on_ip) b.stands there in
      bad_not b.labels.ip (on_ip_at b.last) b.last (PointsOnIp b.labels.ip b.last dps b.on_dp) last.0 last.2 last.3 e b.bad

  form_ip_not : Excludes (HasForm c.ip) NoFormOnIp
  form_ip_not e l h = forms.never_both c.ip l.0 h l.2

  form_dp_not : Excludes (HasForm c.dp) NoFormOnDp
  form_dp_not e l h = forms.never_both c.dp l.0 h l.2

  none_not : Excludes SomeIndex NoneThere
  none_not e n some = some n.1 n.2

  -- ---- each tells one refusal

  form_ip_once : Once NoFormOnIp
  form_ip_once e f a b =
      a.1 ∙ ap (λ (at : ℕ). errors.Layout (record { part = Ip; pos = at })) (forms.one_place c.ip a.0 b.0 a.2 b.2) ∙ sym b.1

  form_dp_once : Once NoFormOnDp
  form_dp_once e f a b =
      a.1 ∙ ap (λ (at : ℕ). errors.Layout (record { part = Dp; pos = at })) (forms.one_place c.dp a.0 b.0 a.2 b.2) ∙ sym b.1

  bad_dp_once : Once BadOnDp
  bad_dp_once e f a b =
      let labels : a.labels ≡ b.labels = labels_once c a.labels b.labels a.has b.has in
      let both : a.last ∷ a.older ≡ b.last ∷ b.older = sym a.stands ∙ b.stands in
      let last : a.last ≡ b.last = cc in
      let older : a.older ≡ b.older = cc in
      let one = subst (λ (l : Labels). IsBad l.ip (on_dp_at a.last) a.last (PointsOnDp l.ip a.last a.older) e) labels a.bad in
      let two = subst (λ (k : Construct). IsBad b.labels.ip (on_dp_at k) k (PointsOnDp b.labels.ip k a.older) e) last one in
      let three = subst (λ (ks : List Construct). IsBad b.labels.ip (on_dp_at b.last) b.last (PointsOnDp b.labels.ip b.last ks) e) older two in
      bad_once b.labels.ip (on_dp_at b.last) b.last (PointsOnDp b.labels.ip b.last b.older) e f three b.bad

  bad_ip_once : Once BadOnIp
  bad_ip_once e f a b =
      let labels : a.labels ≡ b.labels = labels_once c a.labels b.labels a.has b.has in
      let dp_last = subst (λ (l : Labels). IsLastOnDp l.ip dps a.on_dp) labels a.dp_last in
      let same : a.on_dp ≡ b.on_dp = last_dp_once b.labels.ip dps a.on_dp b.on_dp dp_last b.dp_last in
      let both : a.last ∷ a.older ≡ b.last ∷ b.older = sym a.stands ∙ b.stands in
      let last : a.last ≡ b.last = cc in
      let one = subst (λ (l : Labels). IsBad l.ip (on_ip_at a.last) a.last (PointsOnIp l.ip a.last dps a.on_dp) e) labels a.bad in
      let two = subst (λ (k : Construct). IsBad b.labels.ip (on_ip_at k) k (PointsOnIp b.labels.ip k dps a.on_dp) e) last one in
      let three = subst (λ (o : Option Index). IsBad b.labels.ip (on_ip_at b.last) b.last (PointsOnIp b.labels.ip b.last dps o) e) same two in
      bad_once b.labels.ip (on_ip_at b.last) b.last (PointsOnIp b.labels.ip b.last dps b.on_dp) e f three b.bad

  -- ---- the extents of the chosen index

  pub record IsChosen (labels : Labels) (index : Index) : Type 0 where
    pub has : HasLabels c labels
    pub on_dp : Option Index
    pub dp_last : IsLastOnDp labels.ip dps on_dp
    pub on_ip : Option Index
    pub ip_last : IsLastOnIp labels.ip ips dps on_dp on_ip
    pub choice : chosen on_ip on_dp ≡ Some index

  chosen_once : (l m : Labels) (x y : Index) → IsChosen l x → IsChosen m y → x ≡ y
  chosen_once l m x y a b =
      let labels : l ≡ m = labels_once c l m a.has b.has in
      let dp_last = subst (λ (k : Labels). IsLastOnDp k.ip dps a.on_dp) labels a.dp_last in
      let on_dp : a.on_dp ≡ b.on_dp = last_dp_once m.ip dps a.on_dp b.on_dp dp_last b.dp_last in
      let here = subst (λ (k : Labels). IsLastOnIp k.ip ips dps a.on_dp a.on_ip) labels a.ip_last in
      let there = subst (λ (o : Option Index). IsLastOnIp m.ip ips dps o a.on_ip) on_dp here in
      let on_ip : a.on_ip ≡ b.on_ip = last_ip_once m.ip ips dps b.on_dp a.on_ip b.on_ip there b.ip_last in
      let both : Some x ≡ Some y = sym a.choice ∙ ap (λ (o : Option Index). chosen o a.on_dp) on_ip ∙ ap (chosen b.on_ip) on_dp ∙ b.choice in
      cc

  found_chosen : (f : Found c) → IsChosen f.labels f.index
  found_chosen f = record { has = f.forms.has; on_dp = f.on_dp; dp_last = f.dp_last; on_ip = f.on_ip; ip_last = f.ip_last; choice = f.choice }

  told_chosen : (uid : ℕ) (b : HasBadExtent c uid) → IsChosen b.labels b.index
  told_chosen uid b = record { has = b.forms.has; on_dp = b.on_dp; dp_last = b.dp_last; on_ip = b.on_ip; ip_last = b.ip_last; choice = b.choice }

  abbrev Fitting : Labels → Node → Type 0
  Fitting labels = FitsNode labels.ip (ip_end c) (dp_end c)

  uid_once : (m n : ℕ) → HasBadExtent c m → HasBadExtent c n → m ≡ n
  uid_once m n a b =
      let labels : a.labels ≡ b.labels = labels_once c a.labels b.labels a.forms.has b.forms.has in
      let index : a.index ≡ b.index = chosen_once a.labels b.labels a.index b.index (told_chosen m a) (told_chosen n b) in
      let nodes : a.before ++ a.node ∷ a.behind ≡ b.before ++ b.node ∷ b.behind = sym a.nodes ∙ ap (λ (x : Index). x.nodes) index ∙ b.nodes in
      let within = subst (λ (l : Labels). AllByRecursion (Fitting l) a.before) labels a.within in
      let outside = subst (λ (l : Labels). ¬ Fitting l a.node) labels a.outside in
      let node : a.node ≡ b.node = first_once (Fitting b.labels) a.before b.before a.node b.node a.behind b.behind nodes within outside b.within b.outside in
      a.told ∙ ap (λ (x : Node). x.uid) node ∙ sym b.told

  outside_once : Once Outside
  outside_once e f a b = a.1 ∙ ap (λ (n : ℕ). errors.BadExtent n) (uid_once a.0 b.0 a.2 b.2) ∙ sym b.1

  outside_not : (f : Found c) (e : MountErr) → ¬ Outside e
  outside_not f e b =
      let labels : f.labels ≡ b.2.labels = labels_once c f.labels b.2.labels f.forms.has b.2.forms.has in
      let index : f.index ≡ b.2.index = chosen_once f.labels b.2.labels f.index b.2.index (found_chosen f) (told_chosen b.0 b.2) in
      let here = subst (λ (l : Labels). AllByRecursion (Fitting l) f.index.nodes) labels f.within in
      let there = subst (λ (x : Index). AllByRecursion (Fitting b.2.labels) x.nodes) index here in
      let split = subst (λ (ns : List Node). AllByRecursion (Fitting b.2.labels) ns) b.2.nodes there in
      b.2.outside (all_middle (Fitting b.2.labels) b.2.before b.2.node b.2.behind split)

  some_index : (labels : Labels) (index : Index) → IsChosen labels index → SomeIndex
  some_index labels index h no_ip no_dp =
      let dp : h.on_dp ≡ None = subst (λ (ks : List Construct). IsLastOnDp labels.ip ks h.on_dp) no_dp h.dp_last in
      let ip : h.on_ip ≡ None = subst (λ (ks : List Construct). IsLastOnIp labels.ip ks dps h.on_dp h.on_ip) no_ip h.ip_last in
      let none : None ≡ Some index = sym dp ∙ ap (λ (o : Option Index). chosen o h.on_dp) (sym ip) ∙ h.choice in
      cc

  -- ---- the whole chain

  pub chain_once : Once Chain
  chain_once =
      then_once _ _ _ (lacks_not (errors.Vol1 Ip) (HasSomeRecord c.ip)) (lacks_once (errors.Vol1 Ip) (HasSomeRecord c.ip))
      (then_once _ _ _ (lacks_not (errors.Vol1 Dp) (HasSomeRecord c.dp)) (lacks_once (errors.Vol1 Dp) (HasSomeRecord c.dp))
      (then_once _ _ _ (lacks_not (errors.Label Ip) (HasSomeLabel c.ip)) (lacks_once (errors.Label Ip) (HasSomeLabel c.ip))
      (then_once _ _ _ (lacks_not (errors.Label Dp) (HasSomeLabel c.dp)) (lacks_once (errors.Label Dp) (HasSomeLabel c.dp))
      (then_once SomeLabels Unlike FromForms unlike_not (λ e f a b. a.0 ∙ sym b.0)
      (then_once (HasForm c.ip) NoFormOnIp _ form_ip_not form_ip_once
      (then_once (HasForm c.dp) NoFormOnDp FromIndex form_dp_not form_dp_once
      (then_once SomeIndex NoneThere FromDp none_not (λ e f a b. a.0 ∙ sym b.0)
      (then_once GoodOnDp BadOnDp FromIp bad_dp_not bad_dp_once
      (then_once GoodOnIp BadOnIp Outside bad_ip_not bad_ip_once outside_once)))))))))

  pub found_none : Found c → (e : MountErr) → ¬ Chain e
  found_none f =
      then_none _ _ _ (lacks_not (errors.Vol1 Ip) (HasSomeRecord c.ip)) (f.labels.ip_record, f.forms.has.ip_record)
      (then_none _ _ _ (lacks_not (errors.Vol1 Dp) (HasSomeRecord c.dp)) (f.labels.dp_record, f.forms.has.dp_record)
      (then_none _ _ _ (lacks_not (errors.Label Ip) (HasSomeLabel c.ip)) (label_of f.labels.ip, f.forms.has.ip)
      (then_none _ _ _ (lacks_not (errors.Label Dp) (HasSomeLabel c.dp)) (label_of f.labels.dp, f.forms.has.dp)
      (then_none SomeLabels Unlike FromForms unlike_not (f.labels, f.forms.has)
      (then_none (HasForm c.ip) NoFormOnIp _ form_ip_not f.forms.ip
      (then_none (HasForm c.dp) NoFormOnDp FromIndex form_dp_not f.forms.dp
      (then_none SomeIndex NoneThere FromDp none_not (some_index f.labels f.index (found_chosen f))
      (then_none GoodOnDp BadOnDp FromIp bad_dp_not (record { labels = f.labels; has = f.forms.has; on_dp = f.on_dp; last = f.dp_last })
      (then_none GoodOnIp BadOnIp Outside bad_ip_not (record { labels = f.labels; has = f.forms.has; on_dp = f.on_dp; dp_last = f.dp_last; on_ip = f.on_ip; last = f.ip_last })
      (outside_not f))))))))))

  -- ---- each fault stands in the chain

  from_records : HasRecords c → (e : MountErr) → FromLabels e → Chain e
  from_records r e x = inr (r.ip, inr (r.dp, x))

  from_labels : (l : Labels) → HasLabels c l → (e : MountErr) → FromForms e → Chain e
  from_labels l h e x =
      from_records (record { ip = (l.ip_record, h.ip_record); dp = (l.dp_record, h.dp_record) }) e
      (inr ((label_of l.ip, h.ip), inr ((label_of l.dp, h.dp), inr ((l, h), x))))

  from_forms : (l : Labels) → HasForms c l → (e : MountErr) → FromIndex e → Chain e
  from_forms l h e x = from_labels l h.has e (inr (h.ip, inr (h.dp, x)))

  layout : (part : Part) (pos : ℕ) (l : Labels) → HasLabels c l → LacksFormOn part c pos → Chain (errors.Layout (record { part = part; pos = pos }))
  layout Ip pos l h x = from_labels l h (errors.Layout (record { part = Ip; pos = pos })) (inl (pos, refl, x))
  layout Dp pos l h x = from_labels l h (errors.Layout (record { part = Dp; pos = pos })) (inr (x.0, inl (pos, refl, x.1)))

  abbrev Says : Type 1
  Says = Labels → Construct → List Construct → Option Index → Type 0

  comes : (part : Part) (pos : ℕ) (S : Says) (e : MountErr) (h : ComesTo c (record { part = part; pos = pos }) S)
      → IsBad h.labels.ip (record { part = part; pos = pos }) h.last (Points c h.labels part h.last h.older h.on_dp) e → Chain e
  comes Dp pos S e h bad =
      from_forms h.labels h.forms e (inr (
        λ no_ip no_dp. let wrong : h.last ∷ h.older ≡ [] = sym h.stands ∙ no_dp in cc,
        inl (record {
          labels = h.labels;
          has = h.forms.has;
          last = h.last;
          older = h.older;
          stands = h.stands;
          bad = subst (λ (n : ℕ). IsBad h.labels.ip (record { part = Dp; pos = n }) h.last (PointsOnDp h.labels.ip h.last h.older) e) h.first bad;
        }),
      ))
  comes Ip pos S e h bad =
      from_forms h.labels h.forms e (inr (
        λ no_ip no_dp. let wrong : h.last ∷ h.older ≡ [] = sym h.stands ∙ no_ip in cc,
        inr (
          record { labels = h.labels; has = h.forms.has; on_dp = h.on_dp; last = h.dp_before refl },
          inl (record {
            labels = h.labels;
            has = h.forms.has;
            on_dp = h.on_dp;
            dp_last = h.dp_before refl;
            last = h.last;
            older = h.older;
            stands = h.stands;
            bad = subst (λ (n : ℕ). IsBad h.labels.ip (record { part = Ip; pos = n }) h.last (PointsOnIp h.labels.ip h.last dps h.on_dp) e) h.first bad;
          }),
        ),
      ))

  pub told_chain : (e : MountErr) → MountFault c e → Chain e
  told_chain (errors.Vol1 Ip) h = inl (refl, h)
  told_chain (errors.Vol1 Dp) h = inr (h.0, inl (refl, h.1))
  told_chain (errors.Label Ip) h = from_records h.0 (errors.Label Ip) (inl (refl, h.1))
  told_chain (errors.Label Dp) h = from_records h.0 (errors.Label Dp) (inr (h.1, inl (refl, h.2)))
  told_chain errors.LabelsDiffer h = from_records h.records errors.LabelsDiffer (inr ((h.ip, h.ip_is), inr ((h.dp, h.dp_is), inl (refl, h))))
  told_chain (errors.Layout place) h = layout place.part place.pos h.labels h.has h.lacks
  told_chain errors.NoIndex h = from_forms h.labels h.forms errors.NoIndex (inl (refl, h.ip, h.dp))
  told_chain (errors.BadIndex place stop) h = comes place.part place.pos _ (errors.BadIndex place stop) h (inl (stop, refl, h.says))
  told_chain (errors.WrongVolume place) h = comes place.part place.pos _ (errors.WrongVolume place) h (inr (inl (refl, h.says)))
  told_chain (errors.WrongPointer place) h = comes place.part place.pos _ (errors.WrongPointer place) h (inr (inr (refl, h.says)))
  told_chain (errors.BadExtent uid) h = from_forms h.labels h.forms (errors.BadExtent uid) (inr (
    some_index h.labels h.index (told_chosen uid h),
    inr (
      record { labels = h.labels; has = h.forms.has; on_dp = h.on_dp; last = h.dp_last },
      inr (
        record { labels = h.labels; has = h.forms.has; on_dp = h.on_dp; dp_last = h.dp_last; on_ip = h.on_ip; last = h.ip_last },
        (uid, refl, h),
      ),
    ),
  ))
  told_chain (errors.Drive counts) h = absurd h
  told_chain errors.NoMemory h = absurd h

  -- one fault of a cartridge is told at most
  pub one_fault : (e f : MountErr) → MountFault c e → MountFault c f → e ≡ f
  one_fault e f h k = chain_once e f (told_chain e h) (told_chain f k)

  -- of a cartridge of which all is found no fault is told
  pub found_no_fault : (e : MountErr) → Found c → MountFault c e → ⊥
  found_no_fault e f h = found_none f e (told_chain e h)
