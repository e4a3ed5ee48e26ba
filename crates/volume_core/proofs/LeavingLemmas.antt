-- A volume that is closed or taken apart.
use Rattle.std.specs.Prelude.{◌≡◌, ◌≤◌, ℕ, Bool, true, [], All, IfSome, Option, Some, None, is_some, length}
use Rattle.std.proofs.Common.{⊎_elim, sym, ap, subst, ◌∙◌, arith}
use Rattle.std.proofs.lemmas.List.Elements.{All-from_get_or}
use Rattle.std.proofs.lemmas.Option.{get_or_from_slice_get, slice_get_cases}
use Rattle.tape_types.specs.declared.moments.Moment.{Moment}
use Rattle.tape_drive.specs.declared.drive.Drive.{Ghosts}
use Rattle.session_script.specs.Sessions.{greatest_session}
use Rattle.session_script.specs.declared.logs.Log.{Log}
use Rattle.session_script.specs.declared.logs.Reply.{Reply}
use Rattle.file_tree.specs.Valid.{IsGood}
use Rattle.promises.specs.ServingPromise.Ends.{Closes, TellsNodes, Parts as LeavesApart}
use Rattle.promises.specs.ServingPromise.Marks.{NothingWaits}
use Rattle.promises.specs.ServingPromise.Served.{Fixed, View, tree_after}
use Rattle.promises.specs.ServingPromise.Meanings.{cartridges}
use Rattle.promises.specs.declared.serving_promise.answers.CloseEnd.{CloseEnd}
use Rattle.promises.specs.OrderLaws.Kept.{seen}
use Rattle.promises.proofs.OrderLaws.PhaseLaw.{nothing_waits}
use Rattle.volume_state.specs.StateLaws.Parts.{Parts, view_of}
use Rattle.volume_core.specs.Promised.{CanClose, ClosesEnd, EndsAsPromised, IsToClose, LeavesOwnIndexes}
use Rattle.volume_core.specs.Leaving.{IsClosed}
use Rattle.volume_core.specs.Serving.{IsServing, next_moment}
use Rattle.volume_core.proofs.Counting.{placed_within}

module _ {D : Type 0} (drive : Ghosts D) (fixed : Fixed D) (one next : Option Moment) (p : Parts D) (v : View D)
    (serving : IsServing drive fixed one next p) (is : view_of fixed (next_moment one next) p ≡ v) where
  -- where nothing waits each reply is there
  pub all_there : NothingWaits (greatest_session v.fixed.script) v.marks
      → All (λ r. is_some r ≡ true) p.listed.replies
  all_there nothing =
      let order = serving.runs.kept.order in
      let none_here : NothingWaits (greatest_session fixed.script) p.listed.marks =
      subst (λ (w : View D). NothingWaits (greatest_session w.fixed.script) w.marks) (sym is) nothing in
      let done = (nothing_waits drive (view_of fixed (next_moment one next) p) order).0 none_here in
      All-from_get_or (λ (r : Option Reply). is_some r ≡ true) p.listed.replies None (λ k within.
      ⊎_elim
      (λ found.
      let h = done.handed k found.0 found.2 in
      ap is_some (get_or_from_slice_get p.listed.replies k (Some h.0) None h.1))
      (λ behind. absurd (omega (arith, behind.0, within, order.count)))
      (slice_get_cases p.listed.history k).1)

  -- there is room for all replies where there is room for all calls
  pub all_have_room : (room : ℕ) → p.listed.calls ≤ room
      → length p.listed.replies ≤ room
  all_have_room room most =
      let order = serving.runs.kept.order in
      omega (
        arith,
        most,
        order.count,
        serving.runs.tied.calls,
        placed_within fixed.script p.listed.history order.orderly.placed,
      )

  -- the drive of a volume in which nothing was placed is as it was given
  pub as_it_was : v.history ≡ [] → (device : D) → device ≡ p.drive
      → LeavesApart v device
  as_it_was none device given_back = subst (λ (w : View D). LeavesApart w device) is record {
    as_it_was = given_back ∙ (serving.untouched (ap (λ (w : View D). w.history) is ∙ none)).0;
  }

-- ---- a close

module _ {D : Type 0} (drive : Ghosts D) (fixed : Fixed D) (one next : Option Moment) (p : Parts D) (v : View D)
    (serving : IsServing drive fixed one next p) (is : view_of fixed (next_moment one next) p ≡ v)
    (nothing : NothingWaits (greatest_session v.fixed.script) v.marks) where
  -- a volume in which nothing waits can be closed
  pub to_close : (at : Moment) → IfSome (next_moment one next) (λ m. at ≡ m) → IsToClose drive at p
  to_close at moment = record {
    fixed = fixed;
    next = next_moment one next;
    runs = serving.runs;
    nothing = subst (λ (w : View D). NothingWaits (greatest_session w.fixed.script) w.marks) (sym is) nothing;
    moment = moment;
  }

module _ {D : Type 0} (drive : Ghosts D) (law : ClosesEnd drive) (fixed : Fixed D) (one next : Option Moment)
    (p : Parts D) (v : View D) (serving : IsServing drive fixed one next p)
    (is : view_of fixed (next_moment one next) p ≡ v)
    (nothing : NothingWaits (greatest_session v.fixed.script) v.marks) where
  -- what the law asks of the volume
  can_close : (at : Moment) → IfSome (next_moment one next) (λ m. at ≡ m) → IsGood p.stock.tree
      → CanClose drive fixed (next_moment one next) at p
  unfolding to_close
  can_close at moment good =
      let c = to_close drive fixed one next p v serving is nothing at moment in
      record { runs = c.runs; nothing = c.nothing; moment = c.moment; good = good }

  -- what it shows
  ended : (noted : Bool) (at : Moment) (new : D) (log : Log) (outcome : CloseEnd) (step_count travel_sum nodes : ℕ)
      → noted ≡ fixed.mounted.noted → IfSome (next_moment one next) (λ m. at ≡ m)
      → IsClosed drive noted at p new log outcome step_count travel_sum nodes
      → EndsAsPromised drive fixed (next_moment one next) at p new outcome
  ended noted at new log outcome step_count travel_sum nodes same moment c =
      law fixed (next_moment one next) at p noted new outcome (can_close at moment c.good) same c.finishes

  -- a close that is done leaves the run's own indexes on top
  pub leaves_own : (noted : Bool) (at : Moment) (new : D) (log : Log) (outcome : CloseEnd)
      (step_count travel_sum nodes : ℕ) → noted ≡ fixed.mounted.noted → IfSome (next_moment one next) (λ m. at ≡ m)
      → IsClosed drive noted at p new log outcome step_count travel_sum nodes → LeavesOwnIndexes drive v new outcome
  leaves_own noted at new log outcome step_count travel_sum nodes same moment c =
      subst (λ (w : View D). LeavesOwnIndexes drive w new outcome) is
      (ended noted at new log outcome step_count travel_sum nodes same moment c).own

  -- a close gives all that is promised of it
  pub closes : (noted : Bool) (at : Moment) (new : D) (log : Log) (outcome : CloseEnd) (step_count travel_sum nodes : ℕ)
      → noted ≡ fixed.mounted.noted → IfSome (next_moment one next) (λ m. at ≡ m)
      → IsClosed drive noted at p new log outcome step_count travel_sum nodes
      → Closes cartridges (seen drive v.fixed.first) (seen drive v.drive) (seen drive new) v new log outcome step_count
      travel_sum nodes
  closes noted at new log outcome step_count travel_sum nodes same moment c =
      let e = ended noted at new log outcome step_count travel_sum nodes same moment c in
      subst (λ (w : View D). Closes cartridges (seen drive w.fixed.first) (seen drive w.drive) (seen drive new) w new log
      outcome step_count travel_sum nodes) is record {
        log_is = record {
          history = c.log_is.history;
          replies = c.log_is.replies;
          acks = c.log_is.acks;
          events = c.log_is.events;
        };
        steps_are = c.costs.steps_are;
        travel_is = c.costs.travel_is;
        nodes_are = λ can.
            subst (λ n. TellsNodes outcome (tree_after (view_of fixed (next_moment one next) p) (length p.listed.history)) n)
            (sym c.nodes_are) (e.nodes can);
        at = at;
        moment = moment;
        end = e.end;
        later = e.later;
        faults = e.faults;
        limits = e.limits;
        untold = e.untold;
        crash = e.crash;
      }
