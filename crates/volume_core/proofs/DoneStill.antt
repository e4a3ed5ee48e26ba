-- A close that is done, with no index to write.
use Rattle.std.proofs.Common.{◌≡◌, ◌≢◌, ◌⊎◌, inl, inr, ℕ, ◌+◌, ◌&&◌, not, Bool, true, false, List, [], ◌∷◌, ◌++◌, length, reverse}
use Rattle.std.proofs.Common.{take, Option, Some, IfSome, refl, sym, ap, subst, ◌∙◌, append-nil, arith}
use Rattle.std.proofs.lemmas.List.{take_all}
use Rattle.std.proofs.lemmas.Option.{same_Some}
use Rattle.tape_types.specs.declared.cartridges.Cartridge.{Cartridge}
use Rattle.tape_types.specs.declared.cartridges.Item.{Item}
use Rattle.tape_types.specs.declared.cartridges.Part.TheVariants.{Ip, Dp}
use Rattle.tape_types.specs.declared.moments.Moment.{Moment}
use Rattle.tape_drive.specs.declared.drive.Drive.{Ghosts}
use Rattle.plain_tree.specs.Tree.{Tree}
use Rattle.index_model.specs.declared.indexes.Index.{Index}
use Rattle.ltfs_label.specs.declared.Label.{Label}
use Rattle.content_laws.specs.Readings.{Construct, HasForm, first_of}
use Rattle.tape_layout.specs.declared.ops.Op.{Op}
use Rattle.cartridge_meaning.specs.Carried.{Carried, carried}
use Rattle.cartridge_meaning.specs.Meaning.{AreAlike, IsTreeOf, Stands, ip_end}
use Rattle.cartridge_meaning.specs.Mounts.{Mounts}
use Rattle.cartridge_meaning.specs.Pointers.{IsLastOnDp, indexes_of, last_block}
use Rattle.cartridge_meaning.proofs.Frame.{tree_stays}
use Rattle.cartridge_meaning.proofs.Known.{Known}
use Rattle.cartridge_meaning.proofs.OneMount.{done_consistent}
use Rattle.cartridge_meaning.proofs.OneWay.{last_dp_once, same_tree}
use Rattle.space_laws.specs.Closing.{is_dp_due}
use Rattle.space_laws.specs.Mount.{was_sealed}
use Rattle.space_laws.specs.Space.{Space}
use Rattle.space_laws.specs.Standing.{Standing}
use Rattle.promises.specs.ServingPromise.Crash.{IsSound}
use Rattle.promises.specs.ServingPromise.Ends.{IsLeftApart}
use Rattle.promises.specs.ServingPromise.Meanings.{cartridges}
use Rattle.promises.specs.ServingPromise.Served.{Fixed, View, tree_after}
use Rattle.held_volume.specs.Stocks.{Stocked}
use Rattle.promises.specs.CrashLaws.Safe.{items_by}
use Rattle.promises.specs.PromiseLaws.Kept.{CanRead}
use Rattle.promises.specs.OrderLaws.Kept.{seen}
use Rattle.volume_state.specs.PlanLaws.Planned.{Items}
use Rattle.volume_state.specs.StateLaws.Parts.{Parts, view_of}
use Rattle.volume_state.specs.ClosingLaws.Closing.{IsAtRest}
use Rattle.volume_state.specs.ClosingLaws.Indexed.{EndsWithTree, cartridge_on}
use Rattle.volume_state.specs.ClosingLaws.Owned.{HasOwn, LeavesOwn, all_places}
use Rattle.volume_state.proofs.ClosingLaws.OwnLaw.{none_own}
use Rattle.volume_core.specs.Finish.{AdmitsOnDp, lasts_of}
use Rattle.volume_core.specs.Promised.{CanClose}
use Rattle.volume_core.proofs.Admitted as admitted
use Rattle.volume_core.proofs.DoneClose.{IsShown}
use Rattle.volume_core.proofs.DoneIndexed.{IsIndexedBy, indexed_now}
use Rattle.volume_core.proofs.DoneNotes.{AllDone, AreBothNoted, notes_done}
use Rattle.volume_core.proofs.Mid.{fits, mid_end, mid_generation, mid_last, mid_uuid}
use Rattle.volume_core.proofs.Settled.{none_done}
use Rattle.volume_core.proofs.Same.{same_alike, same_consistent, same_labels, same_one, same_stands}
use Rattle.volume_core.proofs.Still.{IsStill, dp_is, dp_last, ip_is, mounts_tell}
use Rattle.volume_core.proofs.There.{dp_whole, way_now}
use Rattle.volume_core.proofs.Unchanged.{unchanged}

module _ {D : Type 0} (drive : Ghosts D) (fixed : Fixed D) (next : Option Moment) (at : Moment) (p : Parts D)
    (can : CanClose drive fixed next at p) (read : CanRead drive fixed) (mid : Stocked)
    (dp : AdmitsOnDp at p.stock mid) (quiet : IsStill drive fixed next at p) where
  abbrev v : View D
  v = view_of fixed next p

  abbrev st1 : Standing
  st1 = admitted.st1 drive fixed next at p

  abbrev planned1 : Items
  planned1 = admitted.planned1 drive fixed next at p can.runs.planned can.runs.tied

  abbrev ops1 : List Op
  ops1 = p.stock.layout.ops ++ admitted.asked drive fixed next at p

  abbrev facts : Carried
  facts = carried fixed.mounted.index

  abbrev tree : Tree
  tree = tree_after v (length p.listed.history)

  abbrev c : Cartridge
  c = read.held

  abbrev mounts : Mounts c fixed.mounted
  mounts = can.runs.closes.mounts read.held read.told

  told_here : drive.held p.drive ≡ Some c
  told_here = quiet.held ∙ read.told

  -- ---- the cartridge is what is planned

  dp_planned : c.dp ≡ planned1 Dp
  dp_planned = dp_whole drive fixed next at p can read c told_here
      (ap (λ (l : List Op). items_by Dp l) quiet.no_ops)

  ip_planned : take (length (planned1 Ip)) c.ip ≡ planned1 Ip
  ip_planned =
      let way = way_now drive fixed next at p can c told_here in
      let made : planned1 Ip ≡ way.plan.made Ip =
      way.plan.leads Ip ∙ ap (λ (l : List Op). way.plan.made Ip ++ items_by Ip l) quiet.no_ops
      ∙ append-nil (way.plan.made Ip) in
      ap (λ (l : List Item). take (length l) c.ip) made ∙ way.reads Ip ∙ sym made

  indexed : IsIndexedBy fixed.mounted.label facts tree st1.space planned1
  indexed = indexed_now drive fixed next at p can read (fits drive fixed next at p can mid dp)

  abbrev told : EndsWithTree fixed.mounted.label facts tree st1.space planned1
  told = indexed.told

  -- its last index is the chosen one
  same_index : told.index ≡ mounts.found.index
  same_index = same_Some told.index mounts.found.index
      (last_dp_once fixed.mounted.label (indexes_of c.dp) (Some told.index) (Some mounts.found.index)
      (subst (λ (l : List Item). IsLastOnDp fixed.mounted.label (indexes_of l) (Some told.index)) (sym dp_planned)
      told.reads)
      (subst (λ (l : Label). IsLastOnDp l (indexes_of c.dp) (Some mounts.found.index)) (sym mounts.label)
      (dp_last c fixed.mounted mounts quiet.ip_done quiet.dp_done)))

  tree_here : IsTreeOf fixed.mounted.label c told.index tree
  tree_here = tree_stays fixed.mounted.label (length (planned1 Ip)) (length (planned1 Dp))
      (can.runs.tied.mount.letters.2) (cartridge_on planned1) c told.index tree told.within
      (take_all (length (planned1 Ip)) (planned1 Ip) (omega arith) ∙ sym ip_planned)
      (ap (λ (l : List Item). take (length (planned1 Dp)) l) (sym dp_planned)) told.tree_is

  stands : Stands c facts tree st1.space.newest
  stands = record {
    reads = record {
      found = mounts.found;
      facts_are = ap carried mounts.index;
      tree_is = subst (λ (l : Label). IsTreeOf l c mounts.found.index tree) mounts.label
          (subst (λ (x : Index). IsTreeOf fixed.mounted.label c x tree) same_index tree_here);
      generation_is = ap (λ (s : Space). s.newest) quiet.space_is ∙ mounts.newest;
    };
    has_index = (ip_is c fixed.mounted mounts quiet.ip_done quiet.dp_done).has_dp;
  }

  -- ---- the notes

  dp_block : (ks : List Construct) → ks ≢ [] → (block : ℕ) × (last_block ks ≡ Some block)
  dp_block [] some_is = absurd (some_is refl)
  dp_block (k ∷ older) some_is = (first_of k, refl)

  by_notes : (noted : Bool) (new : D) → fixed.mounted.noted ≡ noted
      → AllDone drive ops1 (lasts_of mid) (not noted) p.drive new
      → AreBothNoted drive mounts.found.labels.ip c new
  by_notes true new is all =
      let here : all.mid ≡ p.drive = none_done drive ops1 [] p.drive all.mid all.does quiet.no_ops in
      let stayed : new ≡ p.drive = all.notes.0 ∙ here in
      record {
        now = c;
        told = ap (λ (d : D). drive.held d) stayed ∙ told_here;
        ip = refl;
        dp = refl;
        noted = mounts.noted.0 is;
        rest = subst (λ (d : D). IsAtRest drive d) (sym stayed) quiet.rest;
      }
  by_notes false new is all =
      let here : all.mid ≡ p.drive = none_done drive ops1 [] p.drive all.mid all.does quiet.no_ops in
      let block = dp_block (indexes_of c.dp) (ip_is c fixed.mounted mounts quiet.ip_done quiet.dp_done).has_dp in
      let last = mid_last drive fixed next at p can mid dp ∙ ap (λ (s : Space). s.last_dp) quiet.space_is in
      notes_done drive mounts.found.labels.ip (lasts_of mid)
      (mid_uuid drive fixed next at p can mid dp ∙ ap (λ (l : Label). l.uuid) mounts.label) block.0
      (last ∙ mounts.last_dp ∙ block.1) all.mid new c all.notes (ap (λ (d : D). drive.held d) here ∙ told_here)
      (subst (λ (d : D). IsAtRest drive d) (sym here) quiet.rest)
      (mounts_tell c fixed.mounted mounts quiet.ip_done quiet.dp_done (lasts_of mid)
      (mid_generation drive fixed next at p can mid dp ∙ ap (λ (s : Space). s.newest) quiet.space_is)
      (mid_end drive fixed next at p can mid dp ∙ ap (λ (s : Space). s.ends.ip + 1) quiet.space_is) last)

  -- ---- what both partitions tell

  newest_is : st1.space.newest ≡ fixed.mounted.newest
  newest_is = ap (λ (s : Space). s.newest) quiet.space_is

  -- the tree is that of the start
  tree_is : fixed.tree ≡ tree
  tree_is = same_tree c facts facts fixed.tree tree fixed.mounted.newest st1.space.newest read.reads_as stands.reads

  alike_by : (d : Cartridge) → d.ip ≡ c.ip → d.dp ≡ c.dp → Known (AreAlike c facts fixed.tree fixed.mounted.newest)
      → AreAlike d facts tree st1.space.newest
      ⊎ IsLeftApart cartridges (seen drive fixed.first) fixed.mounted fixed.tree st1.space.newest
  alike_by d ip_same dp_same (inl alike) =
      inl (same_alike c d ip_same dp_same facts tree st1.space.newest
      (subst (λ (n : ℕ). AreAlike c facts tree n) (sym newest_is)
      (subst (λ (x : Tree). AreAlike c facts x fixed.mounted.newest) tree_is alike)))
  alike_by d ip_same dp_same (inr apart) = inr (
    quiet.ip_done,
    newest_is,
    subst (λ (o : Option Cartridge). IfSome o (λ x. AreAlike x facts fixed.tree fixed.mounted.newest → ⊥))
        (sym read.told) apart,
  )

  -- a close that is done without an index to write shows what is promised
  pub shown_still : (noted : Bool) (new : D) → fixed.mounted.noted ≡ noted
      → Known (AreAlike c facts fixed.tree fixed.mounted.newest)
      → AllDone drive ops1 (lasts_of mid) (not noted) p.drive new
      → IsShown drive fixed.first new fixed.mounted fixed.tree tree st1.space.newest
  shown_still noted new is known all =
      let both = by_notes noted new is all in
      record {
        now = both.now;
        told = both.told;
        labels = mounts.found.labels;
        has = same_labels c both.now both.ip both.dp mounts.found.labels mounts.found.forms.has;
        ip_form = subst (λ (x : List Item). HasForm x) (sym both.ip)
            mounts.found.forms.ip;
        dp_form = subst (λ (x : List Item). HasForm x) (sym both.dp)
            mounts.found.forms.dp;
        noted = both.noted;
        rest = both.rest;
        stands = same_stands c both.now both.ip both.dp facts tree st1.space.newest stands;
        consistent = same_consistent c both.now both.ip both.dp
            (done_consistent c mounts.found (dp_is c fixed.mounted mounts quiet.ip_done quiet.dp_done)
            (ip_is c fixed.mounted mounts quiet.ip_done quiet.dp_done));
        one = λ was. same_one c both.now both.ip both.dp
            (subst (λ (o : Option Cartridge). IfSome o (λ x. IsSound cartridges x)) read.told was).one_index;
        alike = alike_by both.now both.ip both.dp known;
      }

  -- no index of the run is there
  pub own_still : was_sealed fixed.mounted.index ≡ false → (noted : Bool) (new : D) → fixed.mounted.noted ≡ noted
      → AllDone drive ops1 (lasts_of mid) (not noted) p.drive new → (first : Cartridge)
      → drive.held fixed.first ≡ Some first
      → (held : Cartridge) × (drive.held new ≡ Some held) × LeavesOwn (drive.limits fixed.first) first held v
  own_still unsealed noted new is all first told =
      let both = by_notes noted new is all in
      let g = admitted.g drive fixed next at p in
      let older = indexes_of first.dp in
      let none : reverse (all_places g p.on p.listed.history) ≡ [] =
      none_own can.runs.planned (drive.limits fixed.first) older v (can.runs.closes.own read first told)
      (ap (λ (s : Space). s.newest) (unchanged g p.on p.listed.history quiet.changed quiet.admitted_none))
      (ap (λ (sealed : Bool). not sealed && is_dp_due g (admitted.st drive fixed next at p).space) unsealed
      ∙ quiet.not_due) in (
        both.now,
        both.told,
        record {
          labels = mounts.found.labels;
          has_labels = same_labels c both.now both.ip both.dp mounts.found.labels mounts.found.forms.has;
          label_is = mounts.label;
          has = subst (λ (ks : List ℕ). HasOwn fixed.mounted.label (ip_end both.now) both.now fixed.mounted.newest
              (tree_after v) older ks) (sym none) (record {
                own = [];
                links = ap indexes_of both.dp
                    ∙ ap (λ (x : Cartridge). indexes_of x.dp) (same_Some read.held first (sym read.told ∙ told));
                trees = tt;
              });
        },
      )
