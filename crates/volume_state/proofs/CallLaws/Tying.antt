-- The parts of a volume of which nothing was asked yet are tied.
use Rattle.std.specs.Prelude.{ℕ, ◌≡◌, ◌<◌, ◌≤◌, ◌||◌, ◌==◌, Bool, true, false, List, [], All, AllPairs, length, map, Option, None, IfSome}
use Rattle.std.proofs.Common.{refl, sym, ap, subst, ◌∙◌, arith}
use Rattle.std.proofs.lemmas.List.Elements.{All-nil}
use Rattle.tape_types.specs.Cartridges.{IsLimits, capacity}
use Rattle.tape_types.specs.declared.cartridges.Part.{Part}
use Rattle.tape_types.specs.declared.cartridges.Part.TheVariants.{Dp, Ip}
use Rattle.tape_types.specs.declared.moments.Moment.{Moment}
use Rattle.tape_drive.specs.declared.drive.Drive.{Ghosts}
use Rattle.plain_tree.specs.declared.calls.Placed.{Placed}
use Rattle.file_tree.specs.Blocks.{TreeStandsIn}
use Rattle.head_queue.specs.Waiting.{request}
use Rattle.head_queue.specs.EventLaws.Trail.{after_all}
use Rattle.head_queue.specs.EventLaws.Waiting.{State, start}
use Rattle.tape_layout.specs.Ops.{end_of}
use Rattle.tape_layout.specs.declared.ops.Op.{Op}
use Rattle.tape_layout.specs.declared.standing.Ends.{Ends}
use Rattle.cartridge_meaning.specs.Mounts.{IsMount}
use Rattle.space_laws.specs.Files.{mounted_files}
use Rattle.space_laws.specs.Standing.{Given, Standing, first_standing}
use Rattle.promises.specs.ServingPromise.Ends.{begun}
use Rattle.promises.specs.ServingPromise.Mount.{facts_of}
use Rattle.promises.specs.ServingPromise.Served.{Fixed, View, given}
use Rattle.promises.specs.OrderLaws.Kept.{seen}
use Rattle.promises.specs.ReplyLaws.Sides.{on_here, standing_here}
use Rattle.event_journal.specs.Trails.{due_of, state}
use Rattle.held_volume.specs.Mounted.{letters_of, mounted_ends}
use Rattle.held_volume.specs.Stocks.{IsStock}
use Rattle.volume_state.specs.PlanLaws.Planned.{IsOnWay, IsPlan, Items, ends_in, tape_on}
use Rattle.volume_state.proofs.PlanLaws.Plans.{plan_begins}
use Rattle.promises.specs.GroupLaws.Groups.{IsGrouped}
use Rattle.waiting_reads.specs.Gathering.{Gathering}
use Rattle.volume_state.proofs.DueLaws.Behind.{begin_behind}
use Rattle.volume_state.specs.StateLaws.Parts.{Parts, view_of}
use Rattle.volume_state.specs.StateLaws.Tied.{AreFilesRight, AreReading, FilesStandIn, IsAsked, IsKeptRightly, IsReading, IsTied}
use Rattle.volume_state.specs.CallLaws.StartLaws.{IsFresh}
use Rattle.volume_state.proofs.CallLaws.StartFiled.{in_tree}
use Rattle.volume_state.proofs.CallLaws.First.{IsFirst, first_items}

or_false : (b : Bool) → (b || false) ≡ b
or_false true = refl
or_false false = refl

no_pairs : {X : Type 0} (R : X → X → Type 0) → AllPairs R []
no_pairs R i j d before within = absurd (omega (arith, within))

-- the parts show the volume that has begun
pub view_begun : {D : Type 0} (drive : Ghosts D) (fixed : Fixed D) (next : Option Moment) (p : Parts D)
    → IsFresh drive fixed p → view_of fixed next p ≡ begun fixed next
view_begun drive fixed next p e = λ i. record {
  fixed = fixed;
  drive = e.drive_is i;
  next = next;
  history = e.history i;
  replies = e.replies i;
  acks = e.acks i;
  events = e.events i;
  marks = e.marks i;
  kept = e.kept i;
  on = e.on i;
  ops = e.ops i;
  cached = e.cached i;
}

module _ {D : Type 0} (drive : Ghosts D) (fixed : Fixed D) where
  -- what the parts start from, as the definitions of space see it
  abbrev pub first_given : Given
  first_given = given (begun fixed None) (seen drive fixed.first)

  -- what is planned first
  abbrev pub planned : Items
  planned = first_items (drive.held fixed.first) fixed.mounted

  -- what stands and where files may go, as a view of this volume has it
  abbrev standing : View D → Standing
  standing v = standing_here (seen drive fixed.first) v

  abbrev on : View D → Bool
  on v = on_here (seen drive fixed.first) v

  module _ (p : Parts D) (range : IsLimits (drive.limits fixed.first))
      (is : IsMount (drive.limits fixed.first) fixed.mounted) (e : IsFresh drive fixed p)
      (f : IsFirst (drive.held fixed.first) fixed.mounted fixed.tree first_given p.stock) where
    -- what is said of a volume that has begun is said of these parts
    there : (P : View D → Type 0) → P (begun fixed None) → P (view_of fixed None p)
    there P h = subst P (sym (view_begun drive fixed None p e)) h

    -- and what is said of no events of theirs
    of_state : (P : State → Type 0) → P start → P (state p.trail)
    of_state P h = subst (λ events. P (after_all events)) (sym e.events) h

    of_ops : (P : List Op → Type 0) → P [] → P p.stock.layout.ops
    of_ops P h = subst P (sym e.ops) h

    stock : IsStock (tape_on planned) first_given (on (begun fixed None)) (standing (begun fixed None)) p.stock
    stock = subst (λ here. IsStock (tape_on planned) first_given here (first_standing first_given) p.stock)
        (sym (or_false fixed.mounted.ip_on)) f.stock

    stands : (part : Part) (pos : ℕ) → FilesStandIn (mounted_files (facts_of fixed.mounted)) part pos
        → TreeStandsIn p.stock.tree part pos
    stands part pos h = in_tree (facts_of fixed.mounted) p.stock.tree e.tree part pos h.uid h.block

    files : AreFilesRight (mounted_files (facts_of fixed.mounted)) (ends_in planned) []
    files = record {
      low = λ part pos h. begin_behind.mounted fixed.mounted.label fixed.mounted.end_ip fixed.mounted.end_dp
          (letters_of fixed.mounted) fixed.mounted.label.block fixed.mounted.index p.stock.tree is.fits e.tree part pos
          (stands part pos h);
      below = λ part pos h.
          subst (λ (ends : Ends). pos < end_of part ends) (sym f.ends) (f.stock.below part pos (stands part pos h));
      bytes = λ part pos h put. absurd (let wrong : false ≡ true = put in cc);
    }

    back : IfSome fixed.mounted.last_dp (λ pos. pos < length (planned Dp))
    back = subst (λ (ends : Ends). IfSome fixed.mounted.last_dp (λ pos. pos < ends.dp)) (sym f.ends) is.last_dp

    -- of the first space no ops stand
    grouped : IsGrouped (first_standing first_given).space start
    grouped = record { due = λ no_flush. refl; changed = λ no_change. refl }

    fits : (part : Part) → end_of part (mounted_ends fixed.mounted) ≤ capacity part (drive.limits fixed.first)
    fits Ip = is.ip_end.1
    fits Dp = is.dp_end.1

    room : (part : Part) → end_of part (ends_in planned) ≤ capacity part (drive.limits fixed.first)
    room part =
        subst (λ (ends : Ends). end_of part ends ≤ capacity part (drive.limits fixed.first)) (sym f.ends) (fits part)

    none_read : (g : Given) (from : Option ℕ) (history : List Placed) (ops : List Op)
        → AreReading g from history planned (drive.held fixed.first) ops (state p.trail) p.reads
    none_read g from history ops = record {
      each = subst (All (IsReading g from history planned (drive.held fixed.first) (state p.trail))) (sym e.reads)
          (All-nil (IsReading g from history planned (drive.held fixed.first) (state p.trail)));
      apart = subst (AllPairs (λ (a b : Gathering). (a.ticket == b.ticket) ≡ false)) (sym e.reads)
          (no_pairs (λ (a b : Gathering). (a.ticket == b.ticket) ≡ false));
      asked = of_state (λ st. All (IsAsked planned ops p.reads) st.requests) (All-nil (IsAsked planned ops p.reads));
    }

    -- the parts of a volume of which nothing was asked yet are tied
    pub tied : IsTied drive fixed planned p
    tied = record {
      limits = range;
      mount = is;
      told = λ none. ap drive.held (sym e.drive_is) ∙ none;
      queue = ap (map request) e.waiting ∙ sym (ap (λ events. (after_all events).requests) e.events);
      arrived = e.arrived ∙ sym (ap (λ events. (after_all events).arrived) e.events);
      none_due = ap (λ events. due_of (after_all events).done (after_all events).syncs) e.events;
      on_is = subst (λ from. IfSome from (λ first. first ≤ length p.listed.history)) (sym e.on) tt;
      calls = e.calls;
      sessions = e.sessions;
      stock = there
          (λ v. IsStock (tape_on planned) (given v (seen drive fixed.first)) (on v) (standing v) p.stock) stock;
      ends = there (λ v. (standing v).space.ends ≡ ends_in planned) (sym f.ends);
      back = there (λ v. IfSome (standing v).space.last_dp (λ pos. pos < length (planned Dp))) back;
      grouped = there (λ v. IsGrouped (standing v).space (state p.trail))
          (of_state (IsGrouped (first_standing first_given).space) grouped);
      files = there (λ v. AreFilesRight (standing v).files (ends_in planned) p.stock.layout.ops)
          (of_ops (AreFilesRight (mounted_files (facts_of fixed.mounted)) (ends_in planned)) files);
      room = room;
      plan = of_ops (IsPlan planned) (plan_begins planned);
      way = λ c held. of_ops (λ ops. IsOnWay planned ops c) (f.way c (ap drive.held (sym e.drive_is) ∙ held));
      reads = none_read (given (view_of fixed None p) (seen drive fixed.first)) p.on p.listed.history
          p.stock.layout.ops;
      cached = subst (All (IsKeptRightly planned p.stock.layout.ops (drive.held fixed.first))) (sym e.cached)
          (All-nil (IsKeptRightly planned p.stock.layout.ops (drive.held fixed.first)));
    }
