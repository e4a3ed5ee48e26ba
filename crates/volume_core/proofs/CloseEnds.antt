-- A volume that is closed ends as is promised.
use Rattle.std.proofs.Common.{◌≡◌, ℕ, ◌≤◌, ◌||◌, not, Bool, true, false, List, ◌++◌, length, Option, Some, refl, sym, ap}
use Rattle.std.proofs.Common.{subst, ◌∙◌}
use Rattle.std.specs.Prelude.{Result, Ok, Err}
use Rattle.std.specs.FinMap as fin
use Rattle.tape_types.specs.declared.cartridges.Cartridge.{Cartridge}
use Rattle.tape_types.specs.declared.cartridges.Twin.{Twin}
use Rattle.tape_types.specs.declared.moments.Moment.{Moment}
use Rattle.tape_drive.specs.declared.drive.Drive.{Ghosts}
use Rattle.plain_tree.specs.Tree.{Tree}
use Rattle.tape_layout.specs.declared.ops.Op.{Op}
use Rattle.space_laws.specs.Mount.{was_sealed, where_sealed}
use Rattle.space_laws.specs.Standing.{Given, Standing}
use Rattle.space_laws.proofs.TreeLaw.{are_replays}
use Rattle.cartridge_meaning.specs.Carried.{carried}
use Rattle.promises.specs.ServingPromise.Ends.{LeavesTree, IsDoneClose, IsEnd, IsOpenEnd, IsSealedEnd, TellsNodes}
use Rattle.promises.specs.ServingPromise.Meanings.{cartridges}
use Rattle.promises.specs.ServingPromise.Served.{Fixed, View, tree_after}
use Rattle.promises.specs.declared.serving_promise.answers.CloseEnd.{CloseEnd}
use Rattle.promises.specs.declared.serving_promise.answers.CloseEnd.TheVariants as outcomes
use Rattle.promises.specs.OrderLaws.Kept.{seen}
use Rattle.promises.specs.CrashLaws.Laws.{CanServe}
use Rattle.promises.specs.PromiseLaws.Kept.{CanRead}
use Rattle.held_volume.specs.Stocks.{Stocked}
use Rattle.volume_state.specs.PlanLaws.Planned.{Items, tape_on}
use Rattle.volume_state.specs.StateLaws.Parts.{Parts, view_of}
use Rattle.volume_core.specs.Commands.{AreOpsDone, EndsWith}
use Rattle.volume_core.specs.Finish as finish
use Rattle.volume_core.specs.Finish.{AdmitsOnDp, AdmitsOnIp, Finishes, FinishesOpen, IsAdmittedOnIp, IsShortOnIp}
use Rattle.volume_core.specs.Finish.{close_end, lasts_of, short_end}
use Rattle.volume_state.specs.ClosingLaws.Owned.{LeavesOwn}
use Rattle.volume_core.specs.Promised.{CanClose, ClosesEnd, EndsAsPromised, LeavesOwnIndexes}
use Rattle.volume_core.proofs.Admitted as admitted
use Rattle.volume_core.proofs.Alike.{known_alike}
use Rattle.volume_core.proofs.Counts.{GoesOn, GoesTo, ends_to, ops_to, stays}
use Rattle.volume_core.proofs.Crashing.{admitted_survives, now_survives, short_holds, short_survives}
use Rattle.volume_core.proofs.DoneClose.{shown_done}
use Rattle.volume_core.proofs.DoneLast.{own_last, shown_last}
use Rattle.volume_core.proofs.DoneNotes.{AllDone, all_done}
use Rattle.volume_core.proofs.DoneSealed.{sealed_close, sealed_own}
use Rattle.volume_core.proofs.DoneStill.{own_still, shown_still}
use Rattle.volume_core.proofs.Keeping.{Survives}
use Rattle.volume_core.proofs.Mid.{admitted_ip, mid_generation, mid_ops}
use Rattle.volume_core.proofs.Nodes.{as_many}
use Rattle.volume_core.proofs.Shorts.{dp_short, fits_dp, not_short, short_on_dp, short_on_ip}
use Rattle.volume_core.proofs.Still.{still}
use Rattle.volume_core.proofs.There.{closing_ops}

module _ {D : Type 0} (drive : Ghosts D)
    (counts_now : (d : D) (t : ℕ) (image : Cartridge) → t ≤ drive.commands d → drive.leaves d image
    → drive.left_since d t image) (fixed : Fixed D) (next : Option Moment) (at : Moment) (p : Parts D) (noted : Bool)
    (can : CanClose drive fixed next at p) (is_noted : noted ≡ fixed.mounted.noted) where
  abbrev v : View D
  v = view_of fixed next p

  abbrev g : Given
  g = admitted.g drive fixed next at p

  abbrev st1 : Standing
  st1 = admitted.st1 drive fixed next at p

  abbrev planned : Items
  planned = can.runs.planned

  abbrev tree : Tree
  tree = tree_after v (length p.listed.history)

  abbrev IsEndFor : D → CloseEnd → Type 0
  IsEndFor new outcome = IsEnd cartridges (seen drive fixed.first) (seen drive p.drive) (seen drive new) v new at
      outcome

  -- what all ends share
  with_end : (new : D) (outcome : CloseEnd) → GoesOn drive p.drive new
      → TellsNodes outcome tree (fin.len p.stock.tree.nodes) → IsEndFor new outcome
      → (CanServe drive fixed → Survives drive v new) → LeavesOwnIndexes drive v new outcome
      → EndsAsPromised drive fixed next at p new outcome
  with_end new outcome goes nodes end crash own =
      let order = can.runs.kept.order.orderly in
      record {
        nodes = λ read. nodes;
        end = end;
        later = goes.commands;
        faults = goes.faults;
        limits = goes.limits ∙ order.limits;
        untold = λ none. goes.untold (order.untold none);
        crash = crash;
        own = own;
      }

  as_many_nodes : fin.len p.stock.tree.nodes ≡ fin.len tree.nodes
  as_many_nodes = as_many (tape_on planned) p.stock.tree tree
      ((admitted.held drive fixed next at p planned can.runs.tied).plain
      ∙ are_replays g p.on p.listed.history (length p.listed.history))

  -- whether it was mounted as sealed is what the frame says
  frame_sealed : was_sealed fixed.mounted.index ≡ p.stock.frame.sealed
  frame_sealed = sym (ap (λ f. f.sealed) (admitted.held drive fixed next at p planned can.runs.tied).frame)

  -- what ends so where it was mounted as sealed, or where it wasn't
  end_by : (new : D) (outcome : CloseEnd) (sealed : Bool) → was_sealed fixed.mounted.index ≡ sealed
      → where_sealed sealed
      (IsSealedEnd cartridges (seen drive fixed.first) (seen drive new) v new outcome)
      (IsOpenEnd cartridges (seen drive fixed.first) (seen drive p.drive) (seen drive new) v new at outcome)
      → IsEndFor new outcome
  end_by new outcome sealed is end = subst (λ (b : Bool). where_sealed b
      (IsSealedEnd cartridges (seen drive fixed.first) (seen drive new) v new outcome)
      (IsOpenEnd cartridges (seen drive fixed.first) (seen drive p.drive) (seen drive new) v new at outcome))
      (sym is) end

  -- ---- it was mounted as sealed

  sealed_end : was_sealed fixed.mounted.index ≡ true
      → EndsAsPromised drive fixed next at p p.drive (outcomes.Done p.stock.frame.generation)
  sealed_end is =
      with_end p.drive (outcomes.Done p.stock.frame.generation) (stays drive p.drive) as_many_nodes
      (end_by p.drive (outcomes.Done p.stock.frame.generation) true is
      (refl, λ read. sealed_close drive counts_now fixed next at p can is read))
      (λ serve. now_survives drive fixed next at p can counts_now serve)
      (λ read first told. sealed_own drive counts_now fixed next at p can is read first told)

  -- ---- it wasn't

  module _ (unsealed : was_sealed fixed.mounted.index ≡ false) where
    with_open : (new : D) (outcome : CloseEnd) → GoesOn drive p.drive new
        → TellsNodes outcome tree (fin.len p.stock.tree.nodes)
        → IsOpenEnd cartridges (seen drive fixed.first) (seen drive p.drive) (seen drive new) v new at outcome
        → (CanServe drive fixed → Survives drive v new) → LeavesOwnIndexes drive v new outcome
        → EndsAsPromised drive fixed next at p new outcome
    with_open new outcome goes nodes end crash own =
        with_end new outcome goes nodes (end_by new outcome false unsealed end) crash own

    -- ---- too little space

    -- what is held once all ops are done that stand then
    abbrev HoldsWhole : D → Result Unit Twin → Type 0
    HoldsWhole new (Ok done) = LeavesTree cartridges (carried fixed.mounted.index) tree (seen drive new)
    HoldsWhole new (Err counts) = Unit {0}

    holds_whole : (mid : Stocked) (dp : AdmitsOnDp at p.stock mid) (new : D) (result : Result Unit Twin)
        → AreOpsDone drive mid.layout.ops p.drive new result → CanServe drive fixed → HoldsWhole new result
    holds_whole mid dp new (Ok done) does serve =
        short_holds drive fixed next at p can counts_now serve mid dp new (Ok done) does
    holds_whole mid dp new (Err counts) does serve = tt

    on_dp_end : (need limit : ℕ) → finish.IsShortOnDp at p.stock need limit
        → EndsAsPromised drive fixed next at p p.drive (outcomes.Full need limit)
    on_dp_end need limit short =
        with_open p.drive (outcomes.Full need limit) (stays drive p.drive) tt (
          short_on_dp (tape_on planned) g p.on p.listed.history at p.stock
              (admitted.held drive fixed next at p planned can.runs.tied) need limit short,
          λ so. refl,
          λ serve fits. absurd (fits (
            need,
            limit,
            dp_short (tape_on planned) g p.on p.listed.history at p.stock
                (admitted.held drive fixed next at p planned can.runs.tied) need limit short,
          )),
        )
        (λ serve. now_survives drive fixed next at p can counts_now serve) tt

    module _ (mid : Stocked) (dp : AdmitsOnDp at p.stock mid) where
      on_ip_end : (need limit : ℕ) (new : D) (result : Result Unit Twin) → IsShortOnIp at p.stock need limit
          → GoesTo drive p.drive new result → (CanServe drive fixed → Survives drive v new)
          → (CanServe drive fixed → HoldsWhole new result)
          → EndsAsPromised drive fixed next at p new (short_end need limit result)
      on_ip_end need limit new (Ok done) short goes crash holds =
          let stock = admitted.held drive fixed next at p planned can.runs.tied in
          with_open new (outcomes.Full need limit) goes.goes tt (
            short_on_ip (tape_on planned) g p.on p.listed.history at p.stock stock need limit mid dp short,
            λ so. absurd (fits_dp (tape_on planned) g p.on p.listed.history at p.stock stock mid dp so),
            λ serve fits. holds serve,
          )
          crash tt
      on_ip_end need limit new (Err counts) short goes crash holds =
          with_open new (outcomes.Fault counts) goes.goes tt goes.tells crash tt

      -- ---- all was admitted

      -- all that is done on the tape, where an index goes to the index partition and where none does
      all_last : (last : Stocked) (new : D) → IsAdmittedOnIp g st1 at mid last true
          → AllDone drive last.layout.ops (lasts_of mid) true p.drive new
          → AllDone drive ((p.stock.layout.ops ++ admitted.asked drive fixed next at p) ++ closing_ops drive fixed next at p can)
          (lasts_of mid) true p.drive new
      all_last last new ip all = subst (λ (l : List Op). AllDone drive l (lasts_of mid) true p.drive new)
          (ip.1.ops
          ∙ ap (λ (l : List Op). l ++ closing_ops drive fixed next at p can) (mid_ops drive fixed next at p can mid dp)) all

      all_still : (last : Stocked) (new : D) → IsAdmittedOnIp g st1 at mid last false
          → AllDone drive last.layout.ops (lasts_of mid) (not noted) p.drive new
          → AllDone drive (p.stock.layout.ops ++ admitted.asked drive fixed next at p) (lasts_of mid) (not noted) p.drive new
      all_still last new ip all = subst (λ (l : List Op). AllDone drive l (lasts_of mid) (not noted) p.drive new)
          (ap (λ (s : Stocked). s.layout.ops) ip.1 ∙ mid_ops drive fixed next at p can mid dp) all

      shown_by : (last : Stocked) (due : Bool) (new : D) → IsAdmittedOnIp g st1 at mid last due
          → AllDone drive last.layout.ops (lasts_of mid) (due || not noted) p.drive new
          → CanRead drive fixed
          → IsDoneClose cartridges (seen drive fixed.first) (seen drive new) fixed.mounted fixed.tree tree
          st1.space.newest
          mid.frame.generation
      shown_by last true new ip all read =
          shown_done drive fixed.first new fixed.mounted fixed.tree tree st1.space.newest mid.frame.generation
          (mid_generation drive fixed next at p can mid dp)
          (shown_last drive fixed next at p can read mid dp ip.1.fits new (all_last last new ip all))
      shown_by last false new ip all read =
          let quiet = still drive fixed next at p can counts_now read ip.0 in
          shown_done drive fixed.first new fixed.mounted fixed.tree tree st1.space.newest mid.frame.generation
          (mid_generation drive fixed next at p can mid dp)
          (shown_still drive fixed next at p can read mid dp quiet noted new (sym is_noted)
          (known_alike read.held fixed.mounted (can.runs.closes.mounts read.held read.told) quiet.ip_done quiet.dp_done fixed.tree
          read.reads_as)
          (all_still last new ip all))

      own_by : (last : Stocked) (due : Bool) (new : D) → IsAdmittedOnIp g st1 at mid last due
          → AllDone drive last.layout.ops (lasts_of mid) (due || not noted) p.drive new → CanRead drive fixed
          → (first : Cartridge) → drive.held fixed.first ≡ Some first
          → (held : Cartridge) × (drive.held new ≡ Some held) × LeavesOwn (drive.limits fixed.first) first held v
      own_by last true new ip all read first told =
          own_last drive fixed next at p can read mid dp ip.1.fits unsealed new (all_last last new ip all) first told
      own_by last false new ip all read first told =
          own_still drive fixed next at p can read mid dp (still drive fixed next at p can counts_now read ip.0) unsealed
          noted new (sym is_noted) (all_still last new ip all) first told

      went_end : (last : Stocked) (due : Bool) (new : D) (result : Result Unit Twin) → AdmitsOnIp at p.stock mid last due
          → EndsWith drive last.layout.ops (lasts_of mid) (due || not noted) p.drive new result → GoesTo drive p.drive new result → (CanServe drive fixed → Survives drive v new)
          → EndsAsPromised drive fixed next at p new (close_end mid.frame.generation result)
      went_end last due new (Ok done) ip ends goes crash =
          with_open new (outcomes.Done mid.frame.generation) goes.goes as_many_nodes (
            not_short (tape_on planned) g p.on p.listed.history at p.stock
                (admitted.held drive fixed next at p planned can.runs.tied) mid last due dp ip,
            λ read. shown_by last due new (admitted_ip drive fixed next at p can mid dp last due ip)
                (all_done drive last.layout.ops (lasts_of mid) (due || not noted) p.drive new (Ok done) ends refl) read,
          )
          crash
          (λ read first told. own_by last due new (admitted_ip drive fixed next at p can mid dp last due ip)
          (all_done drive last.layout.ops (lasts_of mid) (due || not noted) p.drive new (Ok done) ends refl) read first told)
      went_end last due new (Err counts) ip ends goes crash =
          with_open new (outcomes.Fault counts) goes.goes tt goes.tells crash tt

    ended_open : (new : D) (outcome : CloseEnd) → FinishesOpen drive noted at p.stock p.drive new outcome
        → EndsAsPromised drive fixed next at p new outcome
    ended_open _ _ finish.no_memory =
        with_open p.drive outcomes.NoMemory (stays drive p.drive) tt refl
        (λ serve. now_survives drive fixed next at p can counts_now serve) tt
    ended_open _ _ (finish.short_on_dp need limit short) = on_dp_end need limit short
    ended_open _ _ (finish.short_on_ip need limit mid new result dp short does) =
        on_ip_end mid dp need limit new result short (ops_to drive mid.layout.ops p.drive new result does)
        (λ serve. short_survives drive fixed next at p can counts_now serve mid dp new result does)
        (λ serve. holds_whole mid dp new result does serve)
    ended_open _ _ (finish.went mid last due new result dp ip ends) =
        went_end mid dp last due new result ip ends
        (ends_to drive last.layout.ops (lasts_of mid) (due || not noted) p.drive new result ends)
        (λ serve. admitted_survives drive fixed next at p can counts_now serve mid dp last due (due || not noted) new
        result
        (admitted_ip drive fixed next at p can mid dp last due ip) ends)

  ended : (new : D) (outcome : CloseEnd) → Finishes drive noted at p.stock p.drive new outcome
      → EndsAsPromised drive fixed next at p new outcome
  ended _ _ (finish.sealed is) = sealed_end (frame_sealed ∙ is)
  ended _ _ (finish.unsealed new outcome is finishes) = ended_open (frame_sealed ∙ is) new outcome finishes

-- a volume that is closed ends as is promised
pub closes_end : {D : Type 0} (drive : Ghosts D)
    → ((d : D) (t : ℕ) (image : Cartridge) → t ≤ drive.commands d → drive.leaves d image
    → drive.left_since d t image) → ClosesEnd drive
closes_end drive counts_now fixed next at p noted new outcome can is_noted finishes =
    ended drive counts_now fixed next at p noted can is_noted new outcome finishes
