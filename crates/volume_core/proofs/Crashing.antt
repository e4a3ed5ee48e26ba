-- What a crash leaves of a volume that is closed.
use Rattle.std.proofs.Common.{◌≡◌, ℕ, ◌+◌, ◌≤◌, ◌&&◌, not, Bool, true, false, List, [], ◌∷◌, ◌++◌, Option, None, refl}
use Rattle.std.proofs.Common.{sym, ap, subst, ◌∙◌, append-nil, arith}
use Rattle.std.specs.Prelude.{Result, Ok, Err, length}
use Rattle.tape_types.specs.declared.cartridges.Cartridge.{Cartridge}
use Rattle.tape_types.specs.declared.cartridges.Part.{Part}
use Rattle.tape_types.specs.declared.cartridges.Part.TheVariants.{Ip, Dp}
use Rattle.tape_types.specs.declared.cartridges.Twin.{Twin}
use Rattle.tape_types.specs.declared.moments.Moment.{Moment}
use Rattle.tape_drive.specs.declared.drive.Drive.{Ghosts}
use Rattle.index_model.specs.declared.indexes.Index.{Index}
use Rattle.ltfs_label.specs.declared.Label.{Label}
use Rattle.tape_layout.specs.declared.ops.Op.{Op}
use Rattle.promises.specs.ImageLaws.Left.{StandsClosed}
use Rattle.promises.specs.ImageLaws.Fine.{IsSame}
use Rattle.promises.specs.ImageLaws.Made.{Job, Made, after, least, part_items}
use Rattle.promises.proofs.ImageLaws.Stated.{kept_gives}
use Rattle.promises.specs.ImageLaws.Plans.{IsCloseDue, close_jobs, index_jobs}
use Rattle.space_laws.specs.Closing.{close_limit, close_need, close_text, is_dp_due, is_ip_due}
use Rattle.space_laws.specs.Space as space
use Rattle.space_laws.specs.Space.{Space, first_space, index, is_over, ops_of}
use Rattle.space_laws.specs.Standing.{Given, Standing, rules, sync_text}
use Rattle.plain_tree.specs.Tree.{Tree}
use Rattle.cartridge_meaning.specs.Carried.{carried}
use Rattle.cartridge_meaning.specs.Meaning.{Stands}
use Rattle.promises.specs.ServingPromise.Ends.{LeavesTree}
use Rattle.promises.specs.ServingPromise.Meanings.{cartridges}
use Rattle.promises.specs.ServingPromise.Served.{Fixed, View, tree_after}
use Rattle.promises.specs.OrderLaws.Kept.{seen}
use Rattle.held_volume.specs.Stocks.{Stocked}
use Rattle.promises.specs.CrashLaws.Laws.{CanServe}
use Rattle.promises.specs.CrashLaws.Safe.{Planned, trees_of, volume_of, with_jobs}
use Rattle.promises.proofs.CrashLaws.Admits.{index_ops}
use Rattle.promises.specs.PromiseLaws.Kept.{CanRead}
use Rattle.volume_state.specs.PlanLaws.Planned.{Items, with_ops}
use Rattle.volume_state.proofs.PlanLaws.Agrees.{plans_agree}
use Rattle.volume_state.specs.StateLaws.Parts.{Parts, view_of}
use Rattle.volume_state.specs.ClosingLaws.Closing.{HasSpace, IsAtRest, IsClosing, state_at}
use Rattle.volume_state.specs.ClosingLaws.Laws.{close_ops}
use Rattle.volume_state.proofs.ClosingLaws.Aheads.{none_is_ahead}
use Rattle.volume_state.proofs.ClosingLaws.Keeps.{closes_are_safe}
use Rattle.volume_state.proofs.ClosingLaws.Leaves.{closed_stand, no_jobs}
use Rattle.volume_core.specs.Commands.{AreOpsDone, EndsWith}
use Rattle.volume_core.specs.Finish.{AdmitsOnDp, IsAdmittedOnIp, lasts_of}
use Rattle.volume_core.specs.May.{AreReady, MayTell}
use Rattle.volume_core.specs.Promised.{CanClose}
use Rattle.volume_core.proofs.Admitted as admitted
use Rattle.volume_core.proofs.Exact.{does_there}
use Rattle.volume_core.proofs.CloseGiven.{near, no_waits, reads_too}
use Rattle.volume_core.proofs.Keeping.{Survives, does_keep, ends_survive, ops_survive}
use Rattle.volume_core.proofs.Mid.{fits, mid_end, mid_generation, mid_last, mid_ops}
use Rattle.volume_core.proofs.Settled.{none_done}
use Rattle.volume_core.proofs.Still.{IsStill, mounts_tell, or_left, still}
use Rattle.volume_core.proofs.There.{close_ops_are, closed_rests, closing_ops, planned2, there_last}

module _ {D : Type 0} (drive : Ghosts D) (fixed : Fixed D) (next : Option Moment) (at : Moment) (p : Parts D)
    (can : CanClose drive fixed next at p)
    (counts_now : (d : D) (t : ℕ) (image : Cartridge) → t ≤ drive.commands d → drive.leaves d image
    → drive.left_since d t image) (serve : CanServe drive fixed) where
  abbrev v : View D
  v = view_of fixed next p

  abbrev g : Given
  g = admitted.g drive fixed next at p

  abbrev on : Bool
  on = admitted.on drive fixed next at p

  abbrev st : Standing
  st = admitted.st drive fixed next at p

  abbrev st1 : Standing
  st1 = admitted.st1 drive fixed next at p

  abbrev planned : Items
  planned = can.runs.planned

  abbrev text : List ℕ
  text = sync_text g st at

  abbrev first_ops : List Op
  first_ops = p.stock.layout.ops

  abbrev read : CanRead drive fixed
  read = reads_too drive fixed next at p can serve

  some : 1 ≤ fixed.mounted.label.block
  some = omega (arith, can.runs.tied.mount.blocks.0)

  -- ---- with the index of the data partition

  -- So many ops stand, up to a plan of these items, from which the index of the index partition may be admitted.
  record IsSafeWith (q : Planned) (ops : List Op) (space : Space) (items : Items) : Type 0 where
    label : fixed.mounted.label ≡ q.labels.ip
    items_are : (part : Part) → part_items part q.made ≡ items part
    closing : IsClosing drive v q ops p.drive
    has : HasSpace v q space
    none : q.made.base.ahead ≡ None
    unchanged : space.changed ≡ false

  begun : IsClosing drive v (can.runs.plan serve) first_ops p.drive × HasSpace v (can.runs.plan serve) st.space
  begun = (closes_are_safe drive).begins (can.runs.plan serve) st.space v (can.runs.kept.safe serve)
      (no_waits drive fixed next at p can)

  -- as long as no command was made
  pub now_survives : Survives drive v p.drive
  now_survives = (closes_are_safe drive).survives (can.runs.plan serve) v first_ops p.drive begun.0

  abbrev ops_by : Bool → List Op
  ops_by due = ops_of (rules g) on st.space (admitted.ask_by due text)

  dp_safe : (due : Bool) → is_dp_due g st.space ≡ due
      → is_over (rules g) on st.space (admitted.ask_by due text) ≡ false
      → (q : Planned) × IsSafeWith q (first_ops ++ ops_by due)
      (space.after (rules g) on st.space (admitted.ask_by due text))
      (with_ops (ops_by due) planned)
  dp_safe true is within =
      let q = can.runs.plan serve in
      let known = can.runs.planned_as serve in
      let due = admitted.dp_due drive fixed next at p planned can.runs.tied can.good
      (near drive fixed next at p can read) q known.label_is known.items within in
      let jobs = index_jobs (rules g) st.space text due.0 in
      let it = (closes_are_safe drive).indexed q st.space v first_ops p.drive (rules g) on text due.0 begun.0 begun.1
      due.1
      some in (
        with_jobs jobs q,
        record {
          label = known.label_is;
          items_are = plans_agree.follows planned q (with_jobs jobs q) (ops_by true) known.items
              (record { labels = refl; jobs = jobs; ops = index_ops (rules g) st.space text due.0; made = refl });
          closing = it.0;
          has = it.1;
          none = it.2;
          unchanged = refl;
        },
      )
  dp_safe false is within =
      let known = can.runs.planned_as serve in (
        can.runs.plan serve,
        record {
          label = known.label_is;
          items_are = λ part. known.items part ∙ sym (append-nil (planned part));
          closing = subst (λ (l : List Op). IsClosing drive v (can.runs.plan serve) l p.drive)
              (sym (append-nil first_ops)) begun.0;
          has = begun.1;
          none = (none_is_ahead drive).closes (can.runs.plan serve) (drive.limits fixed.first) v
              (can.runs.closes.none_ahead serve) is;
          unchanged = or_left st.space.changed (not fixed.mounted.dp_done && not st.space.admitted) is;
        },
      )

  module _ (mid : Stocked) (dp : AdmitsOnDp at p.stock mid) where
    abbrev ops1 : List Op
    ops1 = first_ops ++ admitted.asked drive fixed next at p

    safe_dp : (q : Planned) × IsSafeWith q ops1 st1.space (admitted.planned1 drive fixed next at p planned
        can.runs.tied)
    safe_dp = dp_safe (is_dp_due g st.space) refl (fits drive fixed next at p can mid dp)

    abbrev q1 : Planned
    q1 = safe_dp.0

    closes_mid : IsClosing drive v q1 mid.layout.ops p.drive
    closes_mid = subst (λ (l : List Op). IsClosing drive v q1 l p.drive)
        (sym (mid_ops drive fixed next at p can mid dp)) safe_dp.1.closing

    -- the index partition is short: only these ops are done
    pub mid_closing : (q : Planned) × IsClosing drive v q mid.layout.ops p.drive
    mid_closing = (q1, closes_mid)

    -- a crash of a close without room on the index partition leaves what is promised
    pub short_survives : (new : D) (result : Result Unit Twin) → AreOpsDone drive mid.layout.ops p.drive new result
        → Survives drive v new
    short_survives new result does = ops_survive drive v q1 mid.layout.ops p.drive new result does closes_mid

    -- once all of these ops are done, the cartridge and whatever a crash leaves of it stands for the whole tree
    abbrev pub ShortHolds : D → Result Unit Twin → Type 0
    ShortHolds new (Ok done) = LeavesTree cartridges (carried fixed.mounted.index) (tree_after v (length p.listed.history))
        (seen drive new)
    ShortHolds new (Err counts) = Unit {0}

    -- where those ops were all done, the cartridge and what a crash leaves have the whole tree
    pub short_holds : (new : D) (result : Result Unit Twin) → AreOpsDone drive mid.layout.ops p.drive new result
        → ShortHolds new result
    short_holds new (Ok done) does =
        let c = does_keep drive v q1 mid.layout.ops [] p.drive new does closes_mid in
        let none_left : c.jobs ≡ [] = no_jobs c.jobs c.ops_are in
        let made_is : c.made ≡ q1.made =
        ap (λ (jobs : List Job). after c.made jobs) (sym none_left) ∙ c.plan in
        let same : IsSame (trees_of v) (least c.made.base) (trees_of v).count =
        subst (λ (s : Made). IsSame (trees_of v) (least s.base) (trees_of v).count) (sym made_is)
        (safe_dp.1.has.covered safe_dp.1.unchanged) in
        let x = state_at v q1 c.made c.done c.jobs in
        let now = (kept_gives drive).synced x new c.held c.kept same in
        record {
          held = c.held;
          told = c.told;
          generation = now.0;
          stands = now.1;
          left = λ image left.
              let fine = (kept_gives drive).now x new c.held image c.kept left in (
                fine.generation,
                subst (λ (t : Tree). Stands image (carried fixed.mounted.index) t fine.generation)
                    (same fine.place fine.low fine.high) fine.stands,
              );
        }
    short_holds new (Err counts) does = tt

    -- what stands once the index of the index partition was admitted is left of a close, and the notes may come behind
    pub record ClosesBy (last : Stocked) : Type 0 where
      pub plan : Planned
      pub closing : IsClosing drive v plan last.layout.ops p.drive
      pub ready : AreReady drive v plan last.layout.ops (lasts_of mid) p.drive

    closes_by : (last : Stocked) (ops : List Op) (q : Planned) → last.layout.ops ≡ ops → IsClosing drive v q ops p.drive
        → AreReady drive v q ops (lasts_of mid) p.drive → ClosesBy last
    closes_by last ops q are closing ready = record {
      plan = q;
      closing = subst (λ (l : List Op). IsClosing drive v q l p.drive) (sym are) closing;
      ready = subst (λ (l : List Op). AreReady drive v q l (lasts_of mid) p.drive) (sym are) ready;
    }

    -- ---- with the index of the index partition

    module _ (room : close_need g st1 at ≤ close_limit g) where
      abbrev last_text : List ℕ
      last_text = close_text g st1 at

      due_ip : (on_ip : Index)
          × IsCloseDue (volume_of q1.labels v) (trees_of v) q1.made st1.space (close_text g st1 at) on_ip
      due_ip = admitted.ip_due drive fixed next at p planned can.runs.tied can.good
          (near drive fixed next at p can read) (fits drive fixed next at p can mid dp) q1 safe_dp.1.label
          safe_dp.1.items_are room

      abbrev q2 : Planned
      q2 = with_jobs (close_jobs (rules g) st1.space last_text) q1

      abbrev ops2 : List Op
      ops2 = ops1 ++ closing_ops drive fixed next at p can

      closing_last : IsClosing drive v q2 ops2 p.drive
      closing_last = subst (λ (l : List Op). IsClosing drive v q2 (ops1 ++ l) p.drive)
          (close_ops_are (rules g) st1.space last_text)
          ((closes_are_safe drive).closed q1 st1.space v ops1 p.drive (rules g) last_text due_ip.0 safe_dp.1.closing
          safe_dp.1.has due_ip.1 safe_dp.1.none some)

      items_last : (part : Part) → part_items part q2.made ≡ planned2 drive fixed next at p can part
      items_last part =
          plans_agree.follows (admitted.planned1 drive fixed next at p planned can.runs.tied) q1 q2
          (close_ops (rules g) st1.space last_text) safe_dp.1.items_are
          (record { labels = refl; jobs = close_jobs (rules g) st1.space last_text; ops = refl; made = refl }) part
          ∙ ap (λ (l : List Op). with_ops l (admitted.planned1 drive fixed next at p planned can.runs.tied) part)
          (close_ops_are (rules g) st1.space last_text)

      tells_of : (c : Cartridge) → StandsClosed (volume_of q1.labels v) (trees_of v) st1.space c
          → MayTell c q1.labels.ip (lasts_of mid)
      tells_of c stands = record {
        ip = λ vcr. stands.ip_note _ (mid_generation drive fixed next at p can mid dp)
            (mid_end drive fixed next at p can mid dp);
        dp = λ vcr block is. stands.dp_note _ (mid_generation drive fixed next at p can mid dp)
            (sym (mid_last drive fixed next at p can mid dp) ∙ is);
      }

      went_ready : AreReady drive v q2 ops2 (lasts_of mid) p.drive
      went_ready middle does is =
          let start = safe_dp.1.closing in
          let done = does_there drive (planned2 drive fixed next at p can) ops2 [] p.drive middle does start.held
          (there_last drive fixed next at p can read room start.held start.told) in
          let stands = closed_stand drive q1 st1.space (rules g) last_text due_ip.0 v middle done.0 is safe_dp.1.has
          due_ip.1
          safe_dp.1.none safe_dp.1.unchanged some done.1.told (done.1.ip refl ∙ sym (items_last Ip))
          (done.1.dp refl ∙ sym (items_last Dp)) in
          (done.0, done.1.told, closed_rests drive fixed next at p can ops1 p.drive middle does, tells_of done.0 stands)

      went_closes : (last : Stocked) → last.layout.ops ≡ ops2 → ClosesBy last
      went_closes last are = closes_by last ops2 q2 are closing_last went_ready

    -- ---- without one

    module _ (not_ip : is_ip_due g st1.space ≡ false) where
      abbrev quiet : IsStill drive fixed next at p
      quiet = still drive fixed next at p can counts_now read not_ip

      still_tells : (q : Planned) → fixed.mounted.label ≡ q.labels.ip → MayTell read.held q.labels.ip (lasts_of mid)
      still_tells q label =
          let mounts = can.runs.closes.mounts read.held read.told in
          subst (λ (l : Label). MayTell read.held l (lasts_of mid)) (sym mounts.label ∙ label)
          (mounts_tell read.held fixed.mounted mounts quiet.ip_done quiet.dp_done (lasts_of mid)
          (mid_generation drive fixed next at p can mid dp ∙ ap (λ (s : Space). s.newest) quiet.space_is)
          (mid_end drive fixed next at p can mid dp ∙ ap (λ (s : Space). s.ends.ip + 1) quiet.space_is)
          (mid_last drive fixed next at p can mid dp ∙ ap (λ (s : Space). s.last_dp) quiet.space_is))

      still_ready : AreReady drive v q1 ops1 (lasts_of mid) p.drive
      still_ready middle does is =
          let here : middle ≡ p.drive = none_done drive ops1 [] p.drive middle does quiet.no_ops in (
            read.held,
            ap (λ (d : D). drive.held d) here ∙ quiet.held ∙ read.told,
            subst (λ (d : D). IsAtRest drive d) (sym here) quiet.rest,
            still_tells q1 safe_dp.1.label,
          )

      still_closes : (last : Stocked) → last ≡ mid → ClosesBy last
      still_closes last same = closes_by last ops1 q1
          (ap (λ (s : Stocked). s.layout.ops) same ∙ mid_ops drive fixed next at p can mid dp)
          safe_dp.1.closing still_ready

    -- ---- either

    -- what stands once both indexes were admitted can be closed, and notes may come behind
    pub last_closes : (last : Stocked) (due : Bool) → IsAdmittedOnIp g st1 at mid last due → ClosesBy last
    last_closes last true ip = went_closes ip.1.fits last
        (ip.1.ops
        ∙ ap (λ (l : List Op). l ++ closing_ops drive fixed next at p can) (mid_ops drive fixed next at p can mid dp))
    last_closes last false ip = still_closes ip.0 last ip.1

    -- a crash of a close whose indexes were admitted leaves what is promised
    pub admitted_survives : (last : Stocked) (due notes : Bool) (new : D) (result : Result Unit Twin)
        → IsAdmittedOnIp g st1 at mid last due
        → EndsWith drive last.layout.ops (lasts_of mid) notes p.drive new result → Survives drive v new
    admitted_survives last due notes new result ip ends =
        let by = last_closes last due ip in
        ends_survive drive v by.plan last.layout.ops (lasts_of mid) notes p.drive new result ends by.closing by.ready
