-- A cartridge as a crash may leave it stands for a tree of the history.
use Rattle.std.proofs.Common.{◌≡◌, ◌≢◌, ⊎_elim, inl, inr, ℕ, ◌<◌, ◌≤◌, ◌++◌, Bool, true, false, cond, ltb, List, [], ◌∷◌, Option, Some, None, refl, sym, ap, subst, ◌∙◌, arith}
use Rattle.std.specs.Prelude.{IfSome}
use Rattle.std.proofs.lemmas.Bool.{cases_lt}
use Rattle.std.proofs.lemmas.Bool.Decides.{nat_tests}
use Rattle.tape_types.specs.declared.cartridges.Cartridge.{Cartridge}
use Rattle.plain_tree.specs.Tree.{Tree}
use Rattle.index_model.specs.declared.indexes.Index.{Index}
use Rattle.content_laws.specs.Readings.{Construct}
use Rattle.content_laws.specs.Ends.{end_dp}
use Rattle.cartridge_meaning.specs.Labels.{HasLabels}
use Rattle.cartridge_meaning.specs.Meaning.{Found, Stands, dp_end, ip_end}
use Rattle.cartridge_meaning.specs.Pointers.{IsLastOnIp, chosen, indexes_of}
use Rattle.cartridge_meaning.proofs.Frame.{labels_stay, nodes_further, tree_stays}
use Rattle.promises.specs.ImageLaws.Fine.{IsFine, IsSame}
use Rattle.promises.specs.ImageLaws.Images.{Counts, IsBehind, IsGrounded, IsImage, Tells}
use Rattle.promises.specs.ImageLaws.Made.{Base, CoveredIndex, Trees, Volume, least, newer_of, newest, newest_entry}
use Rattle.promises.proofs.ImageLaws.Fronts.{front_same}
use Rattle.promises.proofs.ImageLaws.Pointing.{at_most, behind_newest, counts_point}

-- which index is chosen, and that it tells a tree
pub record IsChosen (v : Volume) (t : Trees) (plan : Cartridge) (b : Base) (end : ℕ) (on_ip : Option Index) (last : CoveredIndex) : Type 0 where
  pub chosen_entry : CoveredIndex
  pub choice : chosen on_ip (Some last.index) ≡ Some chosen_entry.index
  pub low : least b ≤ chosen_entry.place
  pub tells : Tells v t plan b.sure end chosen_entry

picks : (i d : Index) (lt : Bool) → ltb d.generation i.generation ≡ lt → d.generation < i.generation → chosen (Some i) (Some d) ≡ Some i
picks i d true is less = ap (λ (b : Bool). Some (cond b i d)) is
picks i d false is less = absurd (let no : i.generation ≤ d.generation = grind (arith, nat_tests) in omega (arith, no, less))

passes : (i d : Index) (lt : Bool) → ltb d.generation i.generation ≡ lt → i.generation ≤ d.generation → chosen (Some i) (Some d) ≡ Some d
passes i d true is le = absurd (let no : d.generation < i.generation = grind (arith, nat_tests) in omega (arith, no, le))
passes i d false is le = ap (λ (b : Bool). Some (cond b i d)) is

dp_chosen : (on_ip : Option Index) (d : Index) → IfSome on_ip (λ i. i.generation ≤ d.generation) → chosen on_ip (Some d) ≡ Some d
dp_chosen None d le = refl
dp_chosen (Some i) d le = passes i d (ltb d.generation i.generation) refl le

-- the newest of what was flushed
newest_chosen : (floor : CoveredIndex) (ahead : Option CoveredIndex) (on_ip : Option Index) → IsBehind floor ahead on_ip
    → chosen on_ip (Some floor.index) ≡ Some (newer_of ahead floor).index
newest_chosen floor None on_ip h = dp_chosen on_ip floor.index h
newest_chosen floor (Some a) on_ip h =
    ap (λ (o : Option Index). chosen o (Some floor.index)) h.0 ∙ picks a.index floor.index (ltb floor.index.generation a.index.generation) refl h.1

module _ (v : Volume) (t : Trees) (plan : Cartridge) (b : Base) (g : IsGrounded v t plan b) where
  chosen_by : (end : ℕ) (more : List Construct) (last : CoveredIndex) (on_ip : Option Index) → IsBehind b.floor b.ahead on_ip
      → end ≡ end_dp (more ++ b.indexes) → Counts v t plan b end more last → IsChosen v t plan b end on_ip last
  chosen_by end more last on_ip h at (inl same) = record {
    chosen_entry = newest_entry b;
    choice = ap (λ (e : CoveredIndex). chosen on_ip (Some e.index)) same.1 ∙ newest_chosen b.floor b.ahead on_ip h;
    low = omega arith;
    tells = subst (λ (n : ℕ). Tells v t plan b.sure n (newest_entry b)) (ap (λ (m : List Construct). end_dp (m ++ b.indexes)) (sym same.0) ∙ sym at) g.tells;
  }
  chosen_by end more last on_ip h at (inr newer) = record {
    chosen_entry = last;
    choice = dp_chosen on_ip last.index (at_most on_ip (newest b) last.index.generation (omega (arith, newer.0)) (behind_newest b.floor b.ahead on_ip h));
    low = newer.1;
    tells = newer.2;
  }

  some_index : (ks more : List Construct) → ks ≡ more ++ b.indexes → ks ≢ []
  some_index ks [] is none = g.some (sym is ∙ none)
  some_index ks (k ∷ more) is none = let wrong : k ∷ (more ++ b.indexes) ≡ [] = sym is ∙ none in cc wrong

  -- with the labels of the plan
  pub image_labels : (c : Cartridge) → IsImage v t plan b c → HasLabels c v.labels
  image_labels c image = labels_stay plan c v.labels (sym (front_same 4 b.sure c.ip plan.ip g.low image.ip.agrees)) (sym image.dp.labels) g.labels

  -- it stands for the tree of the chosen index
  pub stands_by : (c : Cartridge) (image : IsImage v t plan b c) (x : IsChosen v t plan b (end_dp (indexes_of c.dp)) image.ip.on_ip image.last)
      → Stands c v.facts (t.nth x.chosen_entry.place) x.chosen_entry.index.generation
  stands_by c image x =
      let d = image.dp in
      let i = image.ip in
      let end : ℕ = end_dp (indexes_of c.dp) in
      let points : IsLastOnIp v.labels.ip (indexes_of c.ip) (indexes_of c.dp) (Some image.last.index) i.on_ip =
      subst (λ (ks : List Construct). IsLastOnIp v.labels.ip (indexes_of c.ip) ks (Some image.last.index) i.on_ip) (sym d.split)
      (counts_point v t plan b end (indexes_of c.ip) d.more image.last i.on_ip g.some i.behind d.counts i.reads) in
      let found : Found c = record {
        labels = v.labels;
        forms = record { has = image_labels c image; ip = i.form; dp = d.form };
        on_dp = Some image.last.index;
        dp_last = d.reads;
        on_ip = i.on_ip;
        ip_last = points;
        index = x.chosen_entry.index;
        choice = x.choice;
        within = nodes_further v.labels.ip b.sure end (ip_end c) (dp_end c) i.further (omega arith) x.chosen_entry.index.nodes x.tells.within;
      } in
      record {
        reads = record {
          found = found;
          facts_are = x.tells.facts;
          tree_is =
              tree_stays v.labels.ip b.sure end g.labels.one_volume.places.letters plan c x.chosen_entry.index (t.nth x.chosen_entry.place) x.tells.within
              (sym i.agrees) (sym d.agrees) x.tells.tree;
          generation_is = refl;
        };
        has_index = some_index (indexes_of c.dp) d.more d.split;
      }

  -- an image that a crash may leave is fine for all that was flushed
  pub fine : (c : Cartridge) → IsImage v t plan b c → IsFine v t (least b) c
  fine c image =
      let x = chosen_by (end_dp (indexes_of c.dp)) image.dp.more image.last image.ip.on_ip image.ip.behind (ap end_dp image.dp.split) image.dp.counts in
      let labels = image_labels c image in
      record {
        place = x.chosen_entry.place;
        low = x.low;
        high = x.tells.covered;
        generation = x.chosen_entry.index.generation;
        stands = stands_by c image x;
        labels = labels;
        one = image.ip.one;
        honest = record { labels = v.labels; has = labels; ip = image.honest.ip; dp = image.honest.dp };
      }

  -- no index of the data partition is newer than what was flushed where its last is the one that was
  none_newer : (ahead : Option CoveredIndex) (on_ip : Option Index) → IsBehind b.floor ahead on_ip → (newer_of ahead b.floor).index.generation < b.floor.index.generation → ⊥
  none_newer None on_ip h less = omega (arith, less)
  none_newer (Some a) on_ip h less = omega (arith, less, h.1)

  -- where the last index of the data partition was flushed, it stands for what was flushed
  pub flushed_stands : (c : Cartridge) (image : IsImage v t plan b c) → image.last ≡ b.floor → Stands c v.facts (t.nth (least b)) (newest b)
  flushed_stands c image is = by image.dp.counts
    where
      by : Counts v t plan b (end_dp (indexes_of c.dp)) image.dp.more image.last → Stands c v.facts (t.nth (least b)) (newest b)
      by (inl same) =
          let ends : end_dp b.indexes ≡ end_dp (indexes_of c.dp) = ap (λ (m : List Construct). end_dp (m ++ b.indexes)) (sym same.0) ∙ sym (ap end_dp image.dp.split) in
          stands_by c image (record {
            chosen_entry = newest_entry b;
            choice = ap (λ (e : CoveredIndex). chosen image.ip.on_ip (Some e.index)) same.1 ∙ newest_chosen b.floor b.ahead image.ip.on_ip image.ip.behind;
            low = omega arith;
            tells = subst (λ (n : ℕ). Tells v t plan b.sure n (newest_entry b)) ends g.tells;
          })
      by (inr newer) = absurd (none_newer b.ahead image.ip.on_ip image.ip.behind (omega (arith, newer.0, ap (λ (e : CoveredIndex). e.index.generation) is)))

-- of fewer placements at least
pub weaker : (v : Volume) (t : Trees) (j k : ℕ) (c : Cartridge) → j ≤ k → IsFine v t k c → IsFine v t j c
weaker v t j k c le f = record {
  place = f.place;
  low = omega (arith, le, f.low);
  high = f.high;
  generation = f.generation;
  stands = f.stands;
  labels = f.labels;
  one = f.one;
  honest = f.honest;
}

-- where the tree stays the same up to a place, an image that stands for no fewer placements holds what that place has
pub fine_same : (v : Volume) (t : Trees) (k place : ℕ) (c : Cartridge) → IsSame t k place → place ≤ t.count → IsFine v t k c → IsFine v t place c
fine_same v t k place c same le f = ⊎_elim
    (λ (less : f.place < place). record {
      place = place;
      low = omega arith;
      high = le;
      generation = f.generation;
      stands = subst (λ (tree : Tree). Stands c v.facts tree f.generation) (same f.place f.low (omega (arith, less))) f.stands;
      labels = f.labels;
      one = f.one;
      honest = f.honest;
    })
    (λ (more : place ≤ f.place). record {
      place = f.place;
      low = more;
      high = f.high;
      generation = f.generation;
      stands = f.stands;
      labels = f.labels;
      one = f.one;
      honest = f.honest;
    })
    (cases_lt f.place place)
