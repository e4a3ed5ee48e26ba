-- A close that is done, with an index on the index partition.
use Rattle.std.proofs.Common.{◌≡◌, ◌≢◌, inl, ℕ, ◌≤◌, true, false, List, [], ◌∷◌, ◌++◌, length, reverse, Option, Some, None, IfSome}
use Rattle.std.proofs.Common.{refl, sym, ap, subst, ◌∙◌, append-nil, arith}
use Rattle.tape_types.specs.declared.cartridges.Cartridge.{Cartridge}
use Rattle.tape_types.specs.declared.cartridges.Item.{Item}
use Rattle.tape_types.specs.declared.cartridges.Part.TheVariants.{Ip, Dp}
use Rattle.tape_types.specs.declared.moments.Moment.{Moment}
use Rattle.tape_drive.specs.declared.drive.Drive.{Ghosts}
use Rattle.plain_tree.specs.Tree.{Tree}
use Rattle.tape_layout.specs.IndexConstruct.Blocks.{blocks_of}
use Rattle.index_model.specs.declared.indexes.Index.{Index}
use Rattle.ltfs_label.specs.declared.Label.{Label}
use Rattle.content_laws.specs.Readings.{Construct, first_of}
use Rattle.tape_layout.specs.declared.ops.Op.{Op}
use Rattle.cartridge_meaning.specs.Carried.{Carried, carried}
use Rattle.cartridge_meaning.specs.Meaning.{HasOneIndex}
use Rattle.cartridge_meaning.specs.Pointers.{indexes_of, last_block}
use Rattle.cartridge_meaning.specs.declared.labels.Labels.{Labels}
use Rattle.promises.specs.ImageLaws.Plans.{IsCloseDue}
use Rattle.promises.proofs.ImageLaws.Indexes.{construct_is, some_blocks, with_construct}
use Rattle.space_laws.specs.Closing.{close_limit, close_need, close_text}
use Rattle.space_laws.specs.Mount.{was_sealed}
use Rattle.space_laws.specs.Standing.{Given, Standing}
use Rattle.promises.specs.ServingPromise.Crash.{IsSound}
use Rattle.promises.specs.ServingPromise.Meanings.{cartridges}
use Rattle.promises.specs.ServingPromise.Served.{Fixed, View, tree_after}
use Rattle.held_volume.specs.Stocks.{Stocked}
use Rattle.promises.specs.CrashLaws.Safe.{Planned, trees_of, volume_of}
use Rattle.promises.specs.PromiseLaws.Kept.{CanRead}
use Rattle.volume_state.specs.PlanLaws.Planned.{Items}
use Rattle.volume_state.specs.StateLaws.Parts.{Parts, view_of}
use Rattle.volume_state.specs.ClosingLaws.Indexed.{EndsWithTree}
use Rattle.volume_state.specs.ClosingLaws.Owned.{LeavesOwn, all_places}
use Rattle.volume_state.proofs.ClosingLaws.OwnLaw.{closed_on}
use Rattle.volume_core.specs.Finish.{AdmitsOnDp, lasts_of}
use Rattle.volume_core.specs.Promised.{CanClose}
use Rattle.volume_core.proofs.Admitted as admitted
use Rattle.volume_core.proofs.DoneClose.{IsShown}
use Rattle.volume_core.proofs.DoneIndexed.{IsIndexedBy, alone_now, closing_has, indexed_now, items_on, plan_on}
use Rattle.volume_core.proofs.DoneNotes.{AllDone, AreBothNoted, notes_done}
use Rattle.volume_core.proofs.DoneWent.{WentBehind, close_dp, close_ip, went_alike, went_consistent, went_dp_form}
use Rattle.volume_core.proofs.DoneWent.{went_ip_form, went_labels, went_one, went_stands, went_tells}
use Rattle.volume_core.proofs.Exact.{does_there}
use Rattle.volume_core.proofs.CloseGiven.{near}
use Rattle.volume_core.proofs.Mid.{fits, mid_end, mid_generation, mid_last, mid_uuid}
use Rattle.volume_core.proofs.There.{closed_rests, closing_ops, planned2, there_last}

module _ {D : Type 0} (drive : Ghosts D) (fixed : Fixed D) (next : Option Moment) (at : Moment) (p : Parts D)
    (can : CanClose drive fixed next at p) (read : CanRead drive fixed) (mid : Stocked)
    (dp : AdmitsOnDp at p.stock mid) where
  abbrev v : View D
  v = view_of fixed next p

  abbrev g : Given
  g = admitted.g drive fixed next at p

  abbrev st1 : Standing
  st1 = admitted.st1 drive fixed next at p

  abbrev planned1 : Items
  planned1 = admitted.planned1 drive fixed next at p can.runs.planned can.runs.tied

  abbrev ops2 : List Op
  ops2 = (p.stock.layout.ops ++ admitted.asked drive fixed next at p) ++ closing_ops drive fixed next at p can

  abbrev facts : Carried
  facts = carried fixed.mounted.index

  abbrev tree : Tree
  tree = tree_after v (length p.listed.history)

  -- the drive still tells a cartridge
  pub told_now : (c : Cartridge) × (drive.held p.drive ≡ Some c)
  told_now = by (drive.held p.drive) refl
    where
      by : (o : Option Cartridge) → drive.held p.drive ≡ o → (c : Cartridge) × (drive.held p.drive ≡ Some c)
      by (Some c) is = (c, is)
      by None is = absurd (let wrong : None ≡ Some read.held = sym (can.runs.tied.told is) ∙ read.told in cc)

  pub indexed : IsIndexedBy fixed.mounted.label facts tree st1.space planned1
  indexed = indexed_now drive fixed next at p can read (fits drive fixed next at p can mid dp)

  abbrev labels : Labels
  labels = indexed.open_ends.labels

  some : 1 ≤ fixed.mounted.label.block
  some = omega (arith, can.runs.tied.mount.blocks.0)

  module _ (room : close_need g st1 at ≤ close_limit g) where
    abbrev text : List ℕ
    text = close_text g st1 at

    abbrev q : Planned
    q = plan_on fixed labels planned1

    due : (on_ip : Index)
        × IsCloseDue (volume_of q.labels v) (trees_of v) q.made st1.space (close_text g st1 at) on_ip
    due = admitted.ip_due drive fixed next at p can.runs.planned can.runs.tied can.good
        (near drive fixed next at p can read) (fits drive fixed next at p can mid dp) q indexed.open_ends.label_is
        (items_on fixed labels planned1) room

    went : WentBehind labels facts tree st1.space planned1 fixed.mounted.label.block text (trees_of v) q.made due.0
    went = record {
      has = indexed.open_ends.has;
      ready_ip = indexed.open_ends.ip;
      ready_dp = indexed.open_ends.dp;
      told = subst (λ (l : Label). EndsWithTree l facts tree st1.space planned1) indexed.open_ends.label_is
          indexed.told;
      last_is = indexed.last;
      ends = admitted.ends_now drive fixed next at p can.runs.planned can.runs.tied;
      due = due.1;
      tree_is = refl;
      made_is = refl;
      some_size = some;
    }

    last_ip : planned2 drive fixed next at p can Ip
        ≡ with_construct (planned1 Ip) (blocks_of fixed.mounted.label.block text)
    last_ip =
        ap (λ (l : List Item). planned1 Ip ++ l) (close_ip fixed.mounted.label.block st1.space.ends.ip text)
        ∙ sym (construct_is (planned1 Ip) (blocks_of fixed.mounted.label.block text))

    last_dp : planned2 drive fixed next at p can Dp ≡ planned1 Dp
    last_dp =
        ap (λ (l : List Item). planned1 Dp ++ l) (close_dp fixed.mounted.label.block st1.space.ends.ip text)
        ∙ append-nil (planned1 Dp)

    -- a cartridge whose partitions end so is closed
    module _ (c : Cartridge)
        (ip_is : c.ip ≡ with_construct (planned1 Ip) (blocks_of fixed.mounted.label.block text))
        (dp_is : c.dp ≡ planned1 Dp) where
      one_left : IfSome (drive.held fixed.first) (λ x. IsSound cartridges x) → HasOneIndex c
      one_left was =
          let sound = subst (λ (o : Option Cartridge). IfSome o (λ x. IsSound cartridges x)) read.told was in
          went_one labels facts tree st1.space planned1 fixed.mounted.label.block text (trees_of v) q.made due.0 went c
          ip_is dp_is (alone_now drive fixed next at p can read read.held read.told sound.one_index)

    -- the last index of the data partition has its first block there
    dp_block : (ks : List Construct) → ks ≢ [] → (block : ℕ) × (last_block ks ≡ Some block)
    dp_block [] some_is = absurd (some_is refl)
    dp_block (k ∷ older) some_is = (first_of k, refl)

    uuid_is : mid.frame.label.uuid ≡ labels.ip.uuid
    uuid_is = mid_uuid drive fixed next at p can mid dp ∙ ap (λ (l : Label). l.uuid) indexed.open_ends.label_is

    last_is : (block : ℕ) → last_block (indexes_of (planned1 Dp)) ≡ Some block → mid.frame.last_dp ≡ Some block
    last_is block is = mid_last drive fixed next at p can mid dp ∙ indexed.last ∙ is

    -- with both notes
    noted_last : (new : D) (c : Cartridge) → AreBothNoted drive labels.ip c new
        → c.ip ≡ with_construct (planned1 Ip) (blocks_of fixed.mounted.label.block text) → c.dp ≡ planned1 Dp
        → IsShown drive fixed.first new fixed.mounted fixed.tree tree st1.space.newest
    noted_last new c both ip_was dp_was =
        let ip_now : both.now.ip ≡ with_construct (planned1 Ip) (blocks_of fixed.mounted.label.block text) =
        both.ip ∙ ip_was in
        let dp_now : both.now.dp ≡ planned1 Dp = both.dp ∙ dp_was in
        record {
          now = both.now;
          told = both.told;
          labels = labels;
          has = went_labels labels facts tree st1.space planned1 fixed.mounted.label.block text (trees_of v) q.made
              due.0 went both.now ip_now dp_now;
          ip_form = went_ip_form labels facts tree st1.space planned1 fixed.mounted.label.block text (trees_of v)
              q.made due.0 went both.now ip_now dp_now;
          dp_form = went_dp_form labels facts tree st1.space planned1 fixed.mounted.label.block text (trees_of v)
              q.made due.0 went both.now ip_now dp_now;
          noted = both.noted;
          rest = both.rest;
          stands = went_stands labels facts tree st1.space planned1 fixed.mounted.label.block text (trees_of v) q.made
              due.0 went both.now ip_now dp_now;
          consistent = went_consistent labels facts tree st1.space planned1 fixed.mounted.label.block text (trees_of v)
              q.made due.0 went both.now ip_now dp_now;
          one = one_left both.now ip_now dp_now;
          alike = inl (went_alike labels facts tree st1.space planned1 fixed.mounted.label.block text (trees_of v)
              q.made due.0 went both.now ip_now dp_now);
        }

    abbrev items : List Item
    items = with_construct (planned1 Ip) (blocks_of fixed.mounted.label.block text)

    -- all ops and both notes are done
    last_both : (new : D) → AllDone drive ops2 (lasts_of mid) true p.drive new
        → (c : Cartridge) × AreBothNoted drive labels.ip c new × (c.ip ≡ items) × (c.dp ≡ planned1 Dp)
    last_both new all =
        let start = told_now in
        let done = does_there drive (planned2 drive fixed next at p can) ops2 [] p.drive all.mid all.does start.0
        (there_last drive fixed next at p can read room start.0 start.1) in
        let ip_now = done.1.ip refl ∙ last_ip in
        let dp_now = done.1.dp refl ∙ last_dp in
        let may = went_tells labels facts tree st1.space planned1 fixed.mounted.label.block text (trees_of v) q.made
        due.0 went done.0 ip_now dp_now (lasts_of mid) (mid_generation drive fixed next at p can mid dp)
        (mid_end drive fixed next at p can mid dp) (mid_last drive fixed next at p can mid dp) in
        let block = dp_block (indexes_of (planned1 Dp)) indexed.told.some in (
          done.0,
          notes_done drive labels.ip (lasts_of mid) uuid_is block.0 (last_is block.0 block.1) all.mid new done.0
              all.notes done.1.told
              (closed_rests drive fixed next at p can (p.stock.layout.ops ++ admitted.asked drive fixed next at p)
              p.drive all.mid all.does) may,
          ip_now,
          dp_now,
        )

    -- a close that is done with an index on the index partition shows what is promised
    pub shown_last : (new : D) → AllDone drive ops2 (lasts_of mid) true p.drive new
        → IsShown drive fixed.first new fixed.mounted fixed.tree tree st1.space.newest
    shown_last new all = let last = last_both new all in noted_last new last.0 last.1 last.2 last.3

    -- the indexes of the run are its top
    pub own_last : was_sealed fixed.mounted.index ≡ false → (new : D) → AllDone drive ops2 (lasts_of mid) true p.drive new → (first : Cartridge)
        → drive.held fixed.first ≡ Some first
        → (held : Cartridge) × (drive.held new ≡ Some held) × LeavesOwn (drive.limits fixed.first) first held v
    own_last unsealed new all first told =
        let last = last_both new all in (
          last.1.now,
          last.1.told,
          record {
            labels = labels;
            has_labels = went_labels labels facts tree st1.space planned1 fixed.mounted.label.block text (trees_of v)
                q.made due.0 went last.1.now (last.1.ip ∙ last.2) (last.1.dp ∙ last.3);
            label_is = indexed.open_ends.label_is;
            has = closed_on fixed.mounted.label can.runs.tied.mount.letters.2 planned1 fixed.mounted.newest (tree_after v)
                (indexes_of first.dp) (reverse (all_places g p.on p.listed.history))
                (blocks_of fixed.mounted.label.block text) last.1.now indexed.open_ends.ip
                (some_blocks fixed.mounted.label.block text some due.1.some) (last.1.ip ∙ last.2) (last.1.dp ∙ last.3)
                (closing_has drive fixed next at p can read unsealed (fits drive fixed next at p can mid dp) first told);
          },
        )
