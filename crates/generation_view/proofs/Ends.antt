-- A chain ends in one way: it is whole, or breaks at one index for one reason.
use Rattle.std.proofs.Common.{◌≡◌, ◌≢◌, ◌⊎◌, ⊎_elim, ℕ, ◌<◌, ◌++◌, List, [], ◌∷◌, Option, Some, None, inl, inr, refl, sym, ap, subst, ◌∙◌, arith}
use Rattle.std.specs.List.{AllByRecursion}
use Rattle.tape_types.specs.declared.cartridges.Cartridge.{Cartridge}
use Rattle.index_model.specs.Grammar.{IndexText}
use Rattle.index_model.specs.declared.errors.IndexErr.{IndexErr}
use Rattle.index_model.specs.declared.indexes.Index.{Index}
use Rattle.index_model.specs.declared.nodes.Node.{Node}
use Rattle.index_read.proofs.Exact.{never_both, one_index_text, one_refusal}
use Rattle.ltfs_label.specs.declared.Label.{Label}
use Rattle.content_laws.specs.Readings.{Construct, first_of}
use Rattle.cartridge_meaning.specs.Meaning.{FitsNode, Found, ip_end}
use Rattle.cartridge_meaning.specs.Pointers.{IsOfVolume, PointsOnDp, indexes_of, text_of}
use Rattle.cartridge_meaning.proofs.Decided.{FirstOutside, all_or_first, known_on_dp}
use Rattle.cartridge_meaning.proofs.Extents.{all_middle, first_once}
use Rattle.cartridge_meaning.proofs.IndexOrStops.{index_or_stops}
use Rattle.cartridge_meaning.proofs.Known.{Known, known_eq, known_lt}
use Rattle.mount_recover.specs.Lasts.{IsFirstOutside}
use Rattle.generation_view.specs.Chain.{AreLinks, AreNewer, Breaks, IsBrokenBehind, IsBrokenOnWay, IsChain, IsLink, IsOlder, IsWayTo, LacksGeneration, behind, last_generation}
use Rattle.generation_view.specs.declared.errors.BreakWhy.{BreakWhy}
use Rattle.generation_view.specs.declared.errors.BreakWhy.TheVariants as breaks
use Rattle.generation_view.proofs.Chains.{links_after, one_link, one_way}

-- ---- one index

module _ (label : Label) (c : Cartridge) (k : Construct) (older : List Construct) (after : Option ℕ) where
  same_index : (i j : Index) → IndexText (text_of k) i → IndexText (text_of k) j → i ≡ j
  same_index i j a b = one_index_text (text_of k) i j a b

  -- an index that breaks the chain is no link
  pub not_link : (why : BreakWhy) (index : Index) → Breaks label c k older after why → IsLink label c k older after index → ⊥
  not_link (breaks.Text e) index b link = never_both (text_of k) index e link.of_volume.text b
  not_link breaks.Volume index b link =
      b.2 (ap (λ (x : Index). x.uuid) (same_index b.0 index b.1 link.of_volume.text) ∙ link.of_volume.uuid)
  not_link breaks.Pointer index b link =
      b.2 (subst (PointsOnDp label k older) (same_index index b.0 link.of_volume.text b.1.text) link.points)
  not_link breaks.Rises index b link =
      b.3 (subst (λ (x : Index). IsOlder x after) (same_index index b.0 link.of_volume.text b.1.text) link.rises)
  not_link (breaks.Extent uid) index b link =
      let out = b.4 in
      let nodes = ap (λ (x : Index). x.nodes) (same_index index b.0 link.of_volume.text b.1.text) ∙ out.parts in
      out.outside (all_middle (FitsNode label (ip_end c) k.mark) out.before out.node out.behind
      (subst (AllByRecursion (FitsNode label (ip_end c) k.mark)) nodes link.within))

  -- what each reason says beside the text: how far the tests before it hold
  abbrev Passes : BreakWhy → Index → Type 0
  Passes (breaks.Text e) i = ⊥
  Passes breaks.Volume i = i.uuid ≢ label.uuid
  Passes breaks.Pointer i = (i.uuid ≡ label.uuid) × ¬ PointsOnDp label k older i
  Passes breaks.Rises i = (i.uuid ≡ label.uuid) × PointsOnDp label k older i × ¬ IsOlder i after
  Passes (breaks.Extent uid) i = (i.uuid ≡ label.uuid) × PointsOnDp label k older i × IsOlder i after
      × IsFirstOutside label (ip_end c) k.mark i.nodes uid

  one_extent : (i : Index) (uid other : ℕ) → IsFirstOutside label (ip_end c) k.mark i.nodes uid
      → IsFirstOutside label (ip_end c) k.mark i.nodes other → uid ≡ other
  one_extent i uid other a b =
      a.told ∙ ap (λ (n : Node). n.uid) (first_once (FitsNode label (ip_end c) k.mark) a.before b.before a.node b.node a.behind b.behind
      (sym a.parts ∙ b.parts) a.within a.outside b.within b.outside) ∙ sym b.told

  one_reason : (i : Index) (why other : BreakWhy) → Passes why i → Passes other i → why ≡ other
  one_reason i (breaks.Text e) other a b = absurd a
  one_reason i breaks.Volume (breaks.Text e) a b = absurd b
  one_reason i breaks.Volume breaks.Volume a b = refl
  one_reason i breaks.Volume breaks.Pointer a b = absurd (a b.0)
  one_reason i breaks.Volume breaks.Rises a b = absurd (a b.0)
  one_reason i breaks.Volume (breaks.Extent uid) a b = absurd (a b.0)
  one_reason i breaks.Pointer (breaks.Text e) a b = absurd b
  one_reason i breaks.Pointer breaks.Volume a b = absurd (b a.0)
  one_reason i breaks.Pointer breaks.Pointer a b = refl
  one_reason i breaks.Pointer breaks.Rises a b = absurd (a.1 b.1)
  one_reason i breaks.Pointer (breaks.Extent uid) a b = absurd (a.1 b.1)
  one_reason i breaks.Rises (breaks.Text e) a b = absurd b
  one_reason i breaks.Rises breaks.Volume a b = absurd (b a.0)
  one_reason i breaks.Rises breaks.Pointer a b = absurd (b.1 a.1)
  one_reason i breaks.Rises breaks.Rises a b = refl
  one_reason i breaks.Rises (breaks.Extent uid) a b = absurd (a.2 b.2)
  one_reason i (breaks.Extent uid) (breaks.Text e) a b = absurd b
  one_reason i (breaks.Extent uid) breaks.Volume a b = absurd (b a.0)
  one_reason i (breaks.Extent uid) breaks.Pointer a b = absurd (b.1 a.1)
  one_reason i (breaks.Extent uid) breaks.Rises a b = absurd (b.2 a.2)
  one_reason i (breaks.Extent uid) (breaks.Extent other) a b = ap breaks.Extent (one_extent i uid other a.3 b.3)

  -- the text is that of an index, which fails that test; or it stops
  read_of : (why : BreakWhy) → Breaks label c k older after why
      → ((e : IndexErr) × (why ≡ breaks.Text e)) ⊎ ((i : Index) × IndexText (text_of k) i × Passes why i)
  read_of (breaks.Text e) b = inl (e, refl)
  read_of breaks.Volume b = inr (b.0, b.1, b.2)
  read_of breaks.Pointer b = inr (b.0, b.1.text, (b.1.uuid, b.2))
  read_of breaks.Rises b = inr (b.0, b.1.text, (b.1.uuid, b.2, b.3))
  read_of (breaks.Extent uid) b = inr (b.0, b.1.text, (b.1.uuid, b.2, b.3, b.4))

  text_alone : (e : IndexErr) (other : BreakWhy) → Breaks label c k older after (breaks.Text e) → Breaks label c k older after other
      → breaks.Text e ≡ other
  text_alone e (breaks.Text f) a b = ap breaks.Text (one_refusal (text_of k) e f a b)
  text_alone e breaks.Volume a b = absurd (never_both (text_of k) b.0 e b.1 a)
  text_alone e breaks.Pointer a b = absurd (never_both (text_of k) b.0 e b.1.text a)
  text_alone e breaks.Rises a b = absurd (never_both (text_of k) b.0 e b.1.text a)
  text_alone e (breaks.Extent uid) a b = absurd (never_both (text_of k) b.0 e b.1.text a)

  -- an index breaks the chain for one reason
  pub one_break : (why other : BreakWhy) → Breaks label c k older after why → Breaks label c k older after other → why ≡ other
  one_break why other a b = by (read_of why a) (read_of other b)
    where
      by : ((e : IndexErr) × (why ≡ breaks.Text e)) ⊎ ((i : Index) × IndexText (text_of k) i × Passes why i)
          → ((e : IndexErr) × (other ≡ breaks.Text e)) ⊎ ((i : Index) × IndexText (text_of k) i × Passes other i) → why ≡ other
      by (inl x) more = x.1 ∙ text_alone x.0 other (subst (Breaks label c k older after) x.1 a) b
      by (inr x) (inl y) = sym (y.1 ∙ text_alone y.0 why (subst (Breaks label c k older after) y.1 b) a)
      by (inr x) (inr y) = one_reason y.0 why other (subst (Passes why) (same_index x.0 y.0 x.1 y.1) x.2) y.2

  known_older : (i : Index) (after : Option ℕ) → Known (IsOlder i after)
  known_older i None = inl tt
  known_older i (Some g) = known_lt i.generation g

  abbrev pub Judged : Type 0
  Judged = ((i : Index) × IsLink label c k older after i) ⊎ ((why : BreakWhy) × Breaks label c k older after why)

  by_nodes : (i : Index) → IsOfVolume label k i → PointsOnDp label k older i → IsOlder i after
      → AllByRecursion (FitsNode label (ip_end c) k.mark) i.nodes ⊎ FirstOutside label (ip_end c) k.mark i.nodes → Judged
  by_nodes i v p o (inl all) = inl (i, record { of_volume = v; points = p; rises = o; within = all })
  by_nodes i v p o (inr f) =
      inr (
        breaks.Extent f.node.uid,
        (
          i,
          v,
          p,
          o,
          record {
            before = f.before;
            node = f.node;
            behind = f.behind;
            parts = f.split;
            within = f.within;
            outside = f.outside;
            told = refl;
          },
        ),
      )

  by_age : (i : Index) → IsOfVolume label k i → PointsOnDp label k older i → Known (IsOlder i after) → Judged
  by_age i v p (inl o) = by_nodes i v p o (all_or_first label (ip_end c) k.mark i.nodes)
  by_age i v p (inr not) = inr (breaks.Rises, (i, v, p, not))

  by_pointers : (i : Index) → IsOfVolume label k i → Known (PointsOnDp label k older i) → Judged
  by_pointers i v (inl p) = by_age i v p (known_older i after)
  by_pointers i v (inr not) = inr (breaks.Pointer, (i, v, not))

  by_volume : (i : Index) → IndexText (text_of k) i → Known (i.uuid ≡ label.uuid) → Judged
  by_volume i t (inl same) = by_pointers i (record { text = t; uuid = same }) (known_on_dp label k older i)
  by_volume i t (inr other) = inr (breaks.Volume, (i, t, other))

  -- an index is a link, or breaks the chain
  pub judged : Judged
  judged = ⊎_elim
      (λ (x : (i : Index) × IndexText (text_of k) i). by_volume x.0 x.1 (known_eq x.0.uuid label.uuid))
      (λ (x : (e : IndexErr) × _). inr (breaks.Text x.0, x.1))
      (index_or_stops (text_of k))

-- ---- all of them

module _ (label : Label) (c : Cartridge) where
  -- behind these links stands no further one
  abbrev pub AreAll : Option ℕ → List Construct → List Index → Type 0
  AreAll after ks links = (k : Construct) (older : List Construct) (i : Index) → behind ks links ≡ k ∷ older
      → IsLink label c k older (last_generation after links) i → ⊥

  pub same_links : (after : Option ℕ) (ks : List Construct) (one other : List Index) → AreLinks label c after ks one
      → AreLinks label c after ks other → AreAll after ks one → AreAll after ks other → one ≡ other
  same_links after ks [] [] a b ends more = refl
  same_links after [] [] (j ∷ other) a b ends more = absurd b
  same_links after (k ∷ older) [] (j ∷ other) a b ends more = absurd (ends k older j refl b.0)
  same_links after [] (i ∷ one) other a b ends more = absurd a
  same_links after (k ∷ older) (i ∷ one) [] a b ends more = absurd (more k older i refl a.0)
  same_links after (k ∷ older) (i ∷ one) (j ∷ other) a b ends more =
      let first = one_link label c k older after i j a.0 b.0 in
      let rest = same_links (Some i.generation) older one other a.1 (links_after label c older i j other first b.1) ends
      (λ q rest x at link. more q rest x at (subst (λ (y : Index). IsLink label c q rest (last_generation (Some y.generation) other) x) first link)) in
      λ n. first n ∷ rest n

  -- a way ends with a link that isn't newer: so not all of all links are
  pub not_all_newer : (g : ℕ) (after : Option ℕ) (ks : List Construct) (newer : List Index) (index : Index) (all : List Index)
      → AreLinks label c after ks (newer ++ index ∷ []) → ¬ (g < index.generation)
      → AreLinks label c after ks all → AreAll after ks all → AreNewer g all → ⊥
  not_all_newer g after [] [] index all a old b ends young = absurd a
  not_all_newer g after [] (i ∷ newer) index all a old b ends young = absurd a
  not_all_newer g after (k ∷ older) [] index [] a old b ends young = ends k older index refl a.0
  not_all_newer g after (k ∷ older) (i ∷ newer) index [] a old b ends young = ends k older i refl a.0
  not_all_newer g after (k ∷ older) [] index (j ∷ all) a old b ends young =
      old (subst (λ (x : Index). g < x.generation) (one_link label c k older after j index b.0 a.0) young.0)
  not_all_newer g after (k ∷ older) (i ∷ newer) index (j ∷ all) a old b ends young =
      let first = one_link label c k older after i j a.0 b.0 in
      not_all_newer g (Some i.generation) older newer index all a.1 old (links_after label c older i j all first b.1)
      (λ q rest x at link. ends q rest x at (subst (λ (y : Index). IsLink label c q rest (last_generation (Some y.generation) all) x) first link))
      young.1

  -- the links of a chain, and how it ends behind them
  abbrev pub Ends : Option ℕ → List Construct → List Index → Type 0
  Ends after ks links = (behind ks links ≡ []) ⊎ ((k : Construct) × (older : List Construct) × (behind ks links ≡ k ∷ older)
      × ((why : BreakWhy) × Breaks label c k older (last_generation after links) why))

  pub walked : (after : Option ℕ) (ks : List Construct) → (links : List Index) × AreLinks label c after ks links × Ends after ks links
  walked after [] = ([], tt, inl refl)
  walked after (k ∷ older) = ⊎_elim
      (λ (x : (i : Index) × IsLink label c k older after i).
      let rest = walked (Some x.0.generation) older in (x.0 ∷ rest.0, (x.1, rest.1), rest.2))
      (λ (x : (why : BreakWhy) × Breaks label c k older after why). ([], tt, inr (k, older, refl, x)))
      (judged label c k older after)

  -- all are newer, or there is a way to one that isn't
  pub newer_or_way : (g : ℕ) (after : Option ℕ) (ks : List Construct) (links : List Index) → AreLinks label c after ks links
      → AreNewer g links ⊎ ((newer : List Index) × (index : Index) × AreLinks label c after ks (newer ++ index ∷ [])
      × AreNewer g newer × ¬ (g < index.generation))
  newer_or_way g after ks [] a = inl tt
  newer_or_way g after [] (i ∷ links) a = absurd a
  newer_or_way g after (k ∷ older) (i ∷ links) a = by (known_lt g i.generation) (newer_or_way g (Some i.generation) older links a.1)
    where
      by : Known (g < i.generation)
          → AreNewer g links ⊎ ((newer : List Index) × (index : Index) × AreLinks label c (Some i.generation) older (newer ++ index ∷ [])
          × AreNewer g newer × ¬ (g < index.generation))
          → AreNewer g (i ∷ links) ⊎ ((newer : List Index) × (index : Index) × AreLinks label c after (k ∷ older) (newer ++ index ∷ [])
          × AreNewer g newer × ¬ (g < index.generation))
      by (inr not) more = inr ([], i, (a.0, tt), tt, not)
      by (inl young) (inl all) = inl (young, all)
      by (inl young) (inr w) = inr (i ∷ w.0, w.1, (a.0, w.2), (young, w.3), w.4)

-- ---- of a cartridge

module _ (c : Cartridge) (found : Found c) where
  chain_all : (links : List Index) → IsChain c found links → AreAll found.labels.ip c None (indexes_of c.dp) links
  chain_all links chain k older i at link = let none : [] ≡ k ∷ older = sym chain.whole ∙ at in cc none

  broken_all : (newer : List Index) (block : ℕ) (why : BreakWhy) → IsBrokenBehind c found newer block why
      → AreAll found.labels.ip c None (indexes_of c.dp) newer
  broken_all newer block why b k older i at link =
      let same : b.k ∷ b.older ≡ k ∷ older = sym b.stands ∙ at in
      let heads : b.k ≡ k = cc same in
      let tails : b.older ≡ older = cc same in
      not_link found.labels.ip c b.k b.older (last_generation None newer) why i b.fails
      (subst (λ (q : Construct). IsLink found.labels.ip c q b.older (last_generation None newer) i) (sym heads)
      (subst (λ (ks : List Construct). IsLink found.labels.ip c k ks (last_generation None newer) i) (sym tails) link))

  -- a cartridge has one whole chain at most
  pub one_chain : (links others : List Index) → IsChain c found links → IsChain c found others → links ≡ others
  one_chain links others a b =
      same_links found.labels.ip c None (indexes_of c.dp) links others a.links_are b.links_are (chain_all links a) (chain_all others b)

  -- a chain breaks at one index and for one reason at most
  pub one_end : (newer others : List Index) (block other : ℕ) (why reason : BreakWhy) → IsBrokenBehind c found newer block why
      → IsBrokenBehind c found others other reason → (newer ≡ others) × (block ≡ other) × (why ≡ reason)
  one_end newer others block other why reason a b =
      let same = same_links found.labels.ip c None (indexes_of c.dp) newer others a.links_are b.links_are (broken_all newer block why a) (broken_all others other reason b) in
      let there : b.k ∷ b.older ≡ a.k ∷ a.older = sym b.stands ∙ ap (behind (indexes_of c.dp)) (sym same) ∙ a.stands in
      let heads : b.k ≡ a.k = cc there in
      let tails : b.older ≡ a.older = cc there in
      let fails : Breaks found.labels.ip c a.k a.older (last_generation None newer) reason =
      subst (λ (ks : List Construct). Breaks found.labels.ip c a.k ks (last_generation None newer) reason) tails
      (subst (λ (q : Construct). Breaks found.labels.ip c q b.older (last_generation None newer) reason) heads
      (subst (λ (is : List Index). Breaks found.labels.ip c b.k b.older (last_generation None is) reason) (sym same) b.fails)) in (
        same,
        a.block_is ∙ ap (λ (q : Construct). first_of q) (sym heads) ∙ sym b.block_is,
        one_break found.labels.ip c a.k a.older (last_generation None newer) why reason a.fails fails,
      )

  -- a chain that is whole doesn't break
  pub whole_or_broken : (links newer : List Index) (block : ℕ) (why : BreakWhy) → IsChain c found links → IsBrokenBehind c found newer block why → ⊥
  whole_or_broken links newer block why a b =
      let same = same_links found.labels.ip c None (indexes_of c.dp) links newer a.links_are b.links_are (chain_all links a) (broken_all newer block why b) in
      let none : [] ≡ b.k ∷ b.older = sym a.whole ∙ ap (behind (indexes_of c.dp)) same ∙ b.stands in
      cc none

  -- a chain is whole or breaks somewhere
  pub some_end : ((links : List Index) × IsChain c found links)
      ⊎ ((newer : List Index) × (block : ℕ) × (why : BreakWhy) × IsBrokenBehind c found newer block why)
  some_end = ended (walked found.labels.ip c None (indexes_of c.dp))
    where
      ended : (links : List Index) × AreLinks found.labels.ip c None (indexes_of c.dp) links × Ends found.labels.ip c None (indexes_of c.dp) links
          → ((links : List Index) × IsChain c found links)
          ⊎ ((newer : List Index) × (block : ℕ) × (why : BreakWhy) × IsBrokenBehind c found newer block why)
      ended w = ⊎_elim
          (λ (whole : behind (indexes_of c.dp) w.0 ≡ []). inl (w.0, record { links_are = w.1; whole = whole }))
          (λ b. inr (w.0, first_of b.0, b.3.0, record { links_are = w.1; k = b.0; older = b.1; stands = b.2; block_is = refl; fails = b.3.1 }))
          w.2

  -- ---- of a generation

  -- a generation that the way leads to isn't lacking
  pub has_or_lacks : (g : ℕ) (newer : List Index) (index : Index) → IsWayTo c found g newer index → index.generation ≡ g
      → LacksGeneration c found g → ⊥
  has_or_lacks g newer index way is (inl lacks) =
      let same = one_way c found g newer lacks.0 index lacks.1 way lacks.2 in
      omega (arith, is, ap (λ (i : Index). i.generation) same, lacks.3)
  has_or_lacks g newer index way is (inr lacks) =
      not_all_newer found.labels.ip c g None (indexes_of c.dp) newer index lacks.0 way.links_are way.is_not lacks.1.links_are (chain_all lacks.0 lacks.1) lacks.2

  -- a way that leads to a generation doesn't break before it
  pub way_or_broken : (g : ℕ) (newer : List Index) (index : Index) (block : ℕ) (why : BreakWhy) → IsWayTo c found g newer index
      → IsBrokenOnWay c found g block why → ⊥
  way_or_broken g newer index block why way broken =
      not_all_newer found.labels.ip c g None (indexes_of c.dp) newer index broken.0 way.links_are way.is_not broken.1.links_are
      (broken_all broken.0 block why broken.1) broken.2

  -- a way without a generation doesn't break before its end
  pub lacks_or_broken : (g : ℕ) (block : ℕ) (why : BreakWhy) → LacksGeneration c found g → IsBrokenOnWay c found g block why → ⊥
  lacks_or_broken g block why (inl lacks) broken = way_or_broken g lacks.0 lacks.1 block why lacks.2 broken
  lacks_or_broken g block why (inr lacks) broken = whole_or_broken lacks.0 broken.0 block why lacks.1 broken.1

  -- the way to a number leads to its index, or is sound and has none, or breaks
  abbrev pub Answer : ℕ → Type 0
  Answer g = ((newer : List Index) × (index : Index) × IsWayTo c found g newer index × (index.generation ≡ g))
      ⊎ (LacksGeneration c found g ⊎ ((block : ℕ) × (why : BreakWhy) × IsBrokenOnWay c found g block why))

  less : (g : ℕ) (index : Index) → ¬ (g < index.generation) → ¬ (index.generation ≡ g) → index.generation < g
  less g index old apart = by (known_lt index.generation g)
    where
      by : Known (index.generation < g) → index.generation < g
      by (inl lt) = lt
      by (inr no_less) = absurd (apart (omega (arith, old, no_less)))

  there : (g : ℕ) (newer : List Index) (index : Index) → AreLinks found.labels.ip c None (indexes_of c.dp) (newer ++ index ∷ [])
      → AreNewer g newer → ¬ (g < index.generation) → Known (index.generation ≡ g) → Answer g
  there g newer index a young old (inl is) = inl (newer, index, record { links_are = a; are_newer = young; is_not = old }, is)
  there g newer index a young old (inr apart) =
      inr (inl (inl (newer, index, record { links_are = a; are_newer = young; is_not = old }, less g index old apart)))

  -- of each generation it can be said whether it is there, is lacking, or the way to it breaks
  pub some_answer : (g : ℕ) → Answer g
  some_answer g = answered some_end
    where
      answered : ((links : List Index) × IsChain c found links)
          ⊎ ((newer : List Index) × (block : ℕ) × (why : BreakWhy) × IsBrokenBehind c found newer block why) → Answer g
      answered (inl w) = ⊎_elim
          (λ (young : AreNewer g w.0). inr (inl (inr (w.0, w.1, young))))
          (λ way. there g way.0 way.1 way.2 way.3 way.4 (known_eq way.1.generation g))
          (newer_or_way found.labels.ip c g None (indexes_of c.dp) w.0 w.1.links_are)
      answered (inr w) = ⊎_elim
          (λ (young : AreNewer g w.0). inr (inr (w.1, w.2, (w.0, w.3, young))))
          (λ way. there g way.0 way.1 way.2 way.3 way.4 (known_eq way.1.generation g))
          (newer_or_way found.labels.ip c g None (indexes_of c.dp) w.0 w.3.links_are)
