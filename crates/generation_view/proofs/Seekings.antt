-- What the way back to a generation leads to.
use Rattle.std.proofs.Common.{◌≡◌, ◌≢◌, ℕ, zero, suc, ◌+◌, ◌*◌, ◌<◌, ◌≤◌, true, false, cond, eqb, List, [], ◌∷◌, length, Some, Ok, inl, inr, refl, sym, ap, subst, ◌∙◌, arith}
use Rattle.std.specs.List.{AllByRecursion}
use Rattle.std.proofs.lemmas.Bool.Decides.{nat_tests}
use Rattle.tape_types.specs.declared.cartridges.Cartridge.{Cartridge}
use Rattle.tape_types.specs.declared.cartridges.Limits.{Limits}
use Rattle.tape_types.specs.declared.cartridges.Part.{Part}
use Rattle.tape_types.specs.declared.cartridges.Part.TheVariants.{Ip, Dp}
use Rattle.tape_types.specs.Cartridges.{IsLimits}
use Rattle.file_tree.specs.Blocks.{Ends, LiesBelow}
use Rattle.file_tree.specs.Mounts.{EndsBelow, part_of}
use Rattle.file_tree.specs.Mounts as mounts
use Rattle.file_tree.specs.Tree.{FileTree}
use Rattle.file_tree.proofs.MountedBlocks.{mounts_lie_below}
use Rattle.file_tree.proofs.PathLemmas.{some_same}
use Rattle.index_model.specs.Places.{IsAt}
use Rattle.index_model.specs.declared.indexes.Index.{Index}
use Rattle.index_model.specs.declared.indexes.Spot.{Spot}
use Rattle.index_model.specs.declared.nodes.Node.{Node}
use Rattle.index_model.specs.declared.nodes.RawExtent.{RawExtent}
use Rattle.ltfs_label.specs.declared.Label.{Label}
use Rattle.content_laws.specs.Readings.{Construct}
use Rattle.content_laws.specs.Ends.{end_dp}
use Rattle.content_laws.proofs.Placed.{AreOrdered, content_placed, end_dp_within, end_ip_within}
use Rattle.content_laws.proofs.Whole.{front_within}
use Rattle.cartridge_meaning.specs.Meaning.{Fits, FitsKind, FitsNode, Found, end_on, ip_end}
use Rattle.cartridge_meaning.specs.Pointers.{indexes_of, letter_of}
use Rattle.cartridge_meaning.specs.declared.mounted.Mounted.{Mounted}
use Rattle.mount_recover.specs.Lasts.{IsSoundMount}
use Rattle.mount_recover.proofs.MountedTree.{fits_can_mount}
use Rattle.mount_recover.proofs.ScanLemmas.{long_front}
use Rattle.generation_view.specs.Chain.{AreNewer, IsWayTo, behind}
use Rattle.cartridge_meaning.specs.declared.errors.MountErr.{MountErr}
use Rattle.cartridge_meaning.specs.declared.errors.MountErr.TheVariants as mount_errors
use Rattle.mount_recover.specs.Steps.{Blames, IsSince, IsStep}
use Rattle.mount_recover.specs.declared.starts.Start.{Start}
use Rattle.mount_recover.proofs.StepLemmas.{known, looks_more}
use Rattle.tape_drive.specs.Looks.{Looks}
use Rattle.tape_drive.specs.declared.drive.Drive.{Ghosts}
use Rattle.generation_view.specs.Told.{refusal}
use Rattle.generation_view.specs.Views.{CanBeRead, CanBeTree, EndsAt, IsMadeOf, IsSought, IsSoundSought, IsSoundWay, IsThere, IsWayAs, RefusesView, capacities, item_ends}
use Rattle.generation_view.specs.declared.errors.BreakWhy.{BreakWhy}
use Rattle.generation_view.specs.declared.errors.ViewErr.TheVariants as view_errors
use Rattle.generation_view.specs.declared.ways.Way.{Way}
use Rattle.generation_view.specs.declared.ways.Way.TheVariants as ways
use Rattle.generation_view.specs.declared.seeking.Sought.{Sought}
use Rattle.generation_view.specs.declared.seeking.Sought.TheVariants as sights

-- ---- the tree of an index lies where its extents do

module _ (label : Label) (ip dp : ℕ) (differ : label.index ≢ label.dpart) where
  abbrev ends : Ends
  ends part = end_on part ip dp

  end_is : (part : Part) (letter : ℕ) → letter ≡ letter_of label part → end_on part ip dp ≡ ends (part_of (label.index, label.dpart) letter)
  end_is Ip letter is = ap (λ b. end_on (cond b Ip Dp) ip dp) (sym same)
    where
      same : eqb letter label.index ≡ true
      same = grind (arith, nat_tests, is)
  end_is Dp letter is = ap (λ b. end_on (cond b Ip Dp) ip dp) (sym other)
    where
      apart : letter ≢ label.index
      apart e = differ (sym e ∙ is)

      other : eqb letter label.index ≡ false
      other = grind (arith, nat_tests, apart)

  raws_below : (raws : List RawExtent) → AllByRecursion (λ e. 0 < e.count → Fits label ip dp e) raws
      → AllByRecursion (EndsBelow ends (label.index, label.dpart) label.block) raws
  raws_below [] fits = tt
  raws_below (raw ∷ raws) fits = (
    (λ bytes. let f = fits.0 bytes in subst (λ n. raw.block * label.block + raw.byte + raw.count ≤ n * label.block) (end_is f.part raw.letter f.letter) f.high),
    raws_below raws fits.1,
  )

  node_fits : (nodes : List Node) (at : ℕ) (node : Node) → AllByRecursion (FitsNode label ip dp) nodes → IsAt nodes at node → FitsNode label ip dp node
  node_fits [] at node all is = absurd (cc is)
  node_fits (n ∷ nodes) zero node all is = subst (FitsNode label ip dp) (some_same n node is) all.0
  node_fits (n ∷ nodes) (suc at) node all is = node_fits nodes at node all.1 is

  -- where the extents of an index end before two places, its tree lies before them
  pub tree_below : (index : Index) (t : FileTree) → AllByRecursion (FitsNode label ip dp) index.nodes
      → mounts.IsTreeOf (label.index, label.dpart) label.block index t → LiesBelow ends t
  tree_below index t fits is = mounts_lie_below.below ends (label.index, label.dpart) label.block index t
      (λ at bytes raws file. raws_below raws (subst (FitsKind label ip dp) file.file (node_fits index.nodes at file.node fits file.is))) is

-- a tree before some ends lies before ends that are no earlier
below_more : (one other : Ends) (t : FileTree) → ((part : Part) → one part ≤ other part) → LiesBelow one t → LiesBelow other t
below_more one other t le below part pos stands = omega (arith, le part, below part pos stands)

-- ---- the index at the end of the way can be made a tree

-- the index to which a sound way leads can be made a tree
pub can_be_tree : (limits : Limits) (m : Mounted) (way : Way) → IsLimits limits → IsSoundMount limits m → IsSoundWay m.label m.end_ip limits.cap_dp way → CanBeTree m.label way
can_be_tree limits m (ways.Link block index) range sound is =
    fits_can_mount m.label m.end_ip is.mark index sound.spelled sound.letters is.sound.valid (omega (arith, sound.ip_end.1, range.ip_most))
    (omega (arith, is.within, range.dp_most)) is.fits
can_be_tree limits m ways.Ended range sound is = tt
can_be_tree limits m (ways.Broken block why) range sound is = tt

-- what is made of it names only places that the drive has
pub sound_sought : (limits : Limits) (m : Mounted) (generation : ℕ) (way : Way) (s : Sought) → IsSoundMount limits m → IsSoundWay m.label m.end_ip limits.cap_dp way
    → IsMadeOf m.label generation way s → IsSoundSought limits s
sound_sought limits m generation (ways.Link block index) (sights.There tree spot) sound is made =
    below_more (λ part. end_on part m.end_ip is.mark) (capacities limits) tree within (tree_below m.label m.end_ip is.mark sound.letters index tree is.fits made.1)
  where
    within : (part : Part) → end_on part m.end_ip is.mark ≤ capacities limits part
    within Ip = sound.ip_end.1
    within Dp = is.within
sound_sought limits m generation way sights.Lacking sound is made = tt
sound_sought limits m generation way (sights.Broken block why) sound is made = tt
sound_sought limits m generation ways.Ended (sights.There tree spot) sound is made = absurd made
sound_sought limits m generation (ways.Broken block why) (sights.There tree spot) sound is made = absurd made

-- ---- where an index stands

mark_before : (ks : List Construct) (newer : List Index) (k : Construct) (older : List Construct) → AreOrdered ks → behind ks newer ≡ k ∷ older → k.mark ≤ end_dp ks
mark_before [] [] k older ordered at = absurd (cc at)
mark_before [] (i ∷ newer) k older ordered at = absurd (cc at)
mark_before (q ∷ ks) [] k older ordered at = let same : q ≡ k = cc at in subst (λ (x : Construct). x.mark ≤ end_dp (q ∷ ks)) same (omega arith)
mark_before (q ∷ ks) (i ∷ newer) k older ordered at = omega (arith, mark_before ks newer k older ordered.2 at, ordered.1)

-- ---- what is found of a cartridge

module _ (c : Cartridge) (found : Found c) (differ : found.labels.ip.index ≢ found.labels.ip.dpart) (generation : ℕ) where
  -- the index partition's end lies within its items
  ip_within : ip_end c ≤ length c.ip
  ip_within = omega (arith, end_ip_within c.ip (long_front Ip c (found.labels, found.forms.has)), front_within c.ip)

  -- the mark of an index stands among the items
  mark_within : (newer : List Index) (block : ℕ) (index : Index) (ends : EndsAt c found newer block index) → ends.k.mark ≤ length c.dp
  mark_within newer block index ends =
      omega (
        arith,
        mark_before (indexes_of c.dp) newer ends.k ends.older (content_placed c.dp).ordered ends.stands,
        end_dp_within c.dp (long_front Dp c (found.labels, found.forms.has)),
        front_within c.dp,
      )

  way_to : (newer : List Index) (block : ℕ) (index : Index) → EndsAt c found newer block index → AreNewer generation newer
      → ¬ (generation < index.generation) → IsWayTo c found generation newer index
  way_to newer block index ends young old = record { links_are = ends.links_are; are_newer = young; is_not = old }

  there : (newer : List Index) (block : ℕ) (index : Index) (tree : FileTree) (spot : Spot) → EndsAt c found newer block index → AreNewer generation newer
      → ¬ (generation < index.generation) → ¬ (index.generation < generation)
      → mounts.IsTreeOf (found.labels.ip.index, found.labels.ip.dpart) found.labels.ip.block index tree
      → spot ≡ record { letter = found.labels.ip.dpart; block = block } → IsThere c found generation tree spot
  there newer block index tree spot ends young old new is spot_is = record {
    gen = record {
      newer = newer;
      index = index;
      way = way_to newer block index ends young old;
      generation_is = omega (arith, old, new);
      tree_is = (tree, is, refl);
    };
    made = refl;
    k = ends.k;
    older = ends.older;
    stands = ends.stands;
    spot_is = spot_is ∙ ap (λ (n : ℕ). record { letter = found.labels.ip.dpart; block = n }) ends.block_is;
    below = below_more (λ part. end_on part (ip_end c) ends.k.mark) (item_ends c) tree within
        (tree_below found.labels.ip (ip_end c) ends.k.mark differ index tree ends.within is);
  }
    where
      within : (part : Part) → end_on part (ip_end c) ends.k.mark ≤ item_ends c part
      within Ip = ip_within
      within Dp = mark_within newer block index ends

  -- what is made of a way is what was sought of its generation
  pub made_sought : (way : Way) (s : Sought) → IsWayAs c found generation way → IsMadeOf found.labels.ip generation way s → IsSought c found generation s
  made_sought (ways.Link block index) (sights.There tree spot) w made = there w.0 block index tree spot w.1 w.2 w.3 made.0 made.1 made.2
  made_sought (ways.Link block index) sights.Lacking w made = inl (w.0, index, way_to w.0 block index w.1 w.2 w.3, made)
  made_sought (ways.Link block index) (sights.Broken at why) w made = absurd made
  made_sought ways.Ended (sights.There tree spot) w made = absurd made
  made_sought ways.Ended sights.Lacking w made = inr w
  made_sought ways.Ended (sights.Broken at why) w made = absurd made
  made_sought (ways.Broken block why) (sights.There tree spot) w made = absurd made
  made_sought (ways.Broken block why) sights.Lacking w made = absurd made
  made_sought (ways.Broken block why) (sights.Broken at reason) w made =
      subst (λ (n : ℕ). IsSought c found generation (sights.Broken n reason)) (sym made.0)
      (subst (λ (y : _). IsSought c found generation (sights.Broken block y)) (sym made.1) w)

-- ---- what is told of it

module _ {D : Type 0} (drive : Ghosts D) (start : Start) (a b : D) (generation : ℕ) (s : Sought) where
  abbrev pub SeeksTo : Type 0
  SeeksTo = IsStep drive start ((23 + 2 * start.limits.cap_ip + 2 * start.limits.cap_dp) + start.limits.cap_dp) a b
      (λ s c. (found : Found c) × IsSought c found generation s) (IsSoundSought start.limits) Blames (Ok s)

  -- a view of what is there can be read on this drive
  pub can_be_read : (first : D) (tree : FileTree) (spot : Spot) → s ≡ sights.There tree spot → first ≡ b → SeeksTo
      → CanBeRead (drive.held first) (drive.limits first) tree
  can_be_read first tree spot is now step = subst (λ (d : D). CanBeRead (drive.held d) (drive.limits d) tree) (sym now) record {
    room = subst (λ (l : Limits). LiesBelow (capacities l) tree) (sym step.since.limits) (subst (IsSoundSought start.limits) is step.any);
    there = known drive start step (λ (c : Cartridge). LiesBelow (item_ends c) tree)
        (λ c h found. (subst (λ (x : Sought). IsSought c found.0 generation x) is found.1).below);
  }

  -- a generation that is found is there, with its tree
  pub seen_there : (c : Cartridge) (tree : FileTree) (spot : Spot) → s ≡ sights.There tree spot → drive.held a ≡ Some c → SeeksTo
      → (found : Found c) × IsThere c found generation tree spot
  seen_there c tree spot is h step =
      let found = step.found c h in (found.0, subst (λ (x : Sought). IsSought c found.0 generation x) is found.1)

  -- a generation that isn't found is lacking on the cartridge
  pub seen_lacking : (c : Cartridge) → s ≡ sights.Lacking → drive.held a ≡ Some c → SeeksTo → RefusesView generation (view_errors.NoGeneration generation) c
  seen_lacking c is h step =
      let found = step.found c h in (refl, (found.0, subst (λ (x : Sought). IsSought c found.0 generation x) is found.1))

  -- a way that breaks does so on the cartridge
  pub seen_broken : (c : Cartridge) (block : ℕ) (why : BreakWhy) → s ≡ sights.Broken block why → drive.held a ≡ Some c → SeeksTo
      → RefusesView generation (view_errors.Broken (record { part = Dp; pos = block }) why) c
  seen_broken c block why is h step =
      let found = step.found c h in (refl, (found.0, subst (λ (x : Sought). IsSought c found.0 generation x) is found.1))

  -- to seek a generation the drive is only looked at, with so many commands
  pub all_looks : IsSince drive start a → SeeksTo → Looks drive ((26 + 2 * (drive.limits a).cap_ip + 5 * (drive.limits a).cap_dp) * drive.MOST) a b
  all_looks since step =
      subst (λ (l : Limits). Looks drive ((26 + 2 * l.cap_ip + 5 * l.cap_dp) * drive.MOST) a b) (sym since.limits)
      (looks_more drive start ((23 + 2 * start.limits.cap_ip + 2 * start.limits.cap_dp) + start.limits.cap_dp)
      (26 + 2 * start.limits.cap_ip + 5 * start.limits.cap_dp) a b (omega arith) step.looks)

-- a cartridge that doesn't mount has no view
pub refuses_view : (c : Cartridge) (generation : ℕ) (e : MountErr) → Blames e c → RefusesView generation (refusal e) c
refuses_view c generation (mount_errors.Drive counts) blames = tt
refuses_view c generation mount_errors.NoMemory blames = tt
refuses_view c generation e blames = blames
