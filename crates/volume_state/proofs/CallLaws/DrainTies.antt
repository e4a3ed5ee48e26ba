-- A volume stays tied where a session rests, and where its write is placed void.
use Rattle.std.proofs.Common.{◌≡◌, ◌≤◌, ℕ, List, [], ◌∷◌, ◌++◌, length, Option, length-append, refl, sym, ap, subst, ◌∙◌}
use Rattle.std.specs.Prelude.{IfSome}
use Rattle.tape_types.specs.declared.cartridges.Twin.{Twin}
use Rattle.tape_types.specs.declared.moments.Moment.{Moment}
use Rattle.tape_drive.specs.declared.drive.Drive.{Ghosts}
use Rattle.plain_tree.specs.declared.calls.Fate.TheVariants as fates
use Rattle.plain_tree.specs.declared.calls.Placed.{Placed}
use Rattle.session_script.specs.declared.logs.Event.TheVariants.{Rests}
use Rattle.head_queue.specs.Queued.{Queued, requests}
use Rattle.head_queue.specs.EventLaws.Trail.{after_all}
use Rattle.head_queue.specs.EventLaws.Trail.{after as next_state}
use Rattle.head_queue.specs.EventLaws.Waiting.{State}
use Rattle.space_laws.specs.Standing.{is_on, standing}
use Rattle.promises.specs.ServingPromise.Served.{Fixed}
use Rattle.promises.proofs.CrashLaws.Submitted.{state_after}
use Rattle.held_volume.specs.Stocks.{IsStock, Stocked}
use Rattle.event_journal.specs.Trails.{due_ticket, state}
use Rattle.volume_state.specs.PlanLaws.Planned.{Items, tape_on, with_ops}
use Rattle.volume_state.specs.StateLaws.Parts.{Parts}
use Rattle.volume_state.specs.StateLaws.Tied.{IsTied}
use Rattle.volume_state.proofs.CallLaws.Placed.{after_void, given_in, on_after, on_in, reached_later, reads_later, reads_to, same_items, tied_still}
use Rattle.volume_state.proofs.CallLaws.Uses.{cached_still}
use Rattle.volume_state.specs.CallLaws.Draining.{RestsNow, TakesFault}

module _ {D : Type 0} (drive : Ghosts D) (fixed : Fixed D) (planned : Items) where
  without_ops : (p : Parts D) → IsTied drive fixed (with_ops [] planned) p → IsTied drive fixed planned p
  without_ops p tied = subst (λ (ps : Items). IsTied drive fixed ps p) (same_items planned) tied

  module _ (who : ℕ) (old new : Parts D) (tied : IsTied drive fixed planned old) (r : RestsNow who old new) where
    resting : state new.trail ≡ next_state (state old.trail) (Rests who)
    resting = state_after old.trail.events new.trail.events (Rests who ∷ []) r.events

    -- a volume stays tied where a session rests
    pub tied_resting : IsTied drive fixed planned new
    tied_resting = without_ops new (tied_still drive fixed planned old new tied (record {
      drive_is = r.tape.drive;
      ops = ap (λ (k : Stocked). k.layout.ops) r.tape.stock;
      calls = r.calls;
      sessions = r.sessions;
      stands = ap (λ (o : Option ℕ). standing (given_in drive fixed old) o new.listed.history (length new.listed.history)) r.tape.on
          ∙ ap (λ (ps : List Placed). standing (given_in drive fixed old) old.on ps (length ps)) r.history;
      on_stays_on = ap (λ (o : Option ℕ). is_on (given_in drive fixed old).mounted o (length new.listed.history)) r.tape.on
          ∙ ap (λ (ps : List Placed). is_on (given_in drive fixed old).mounted old.on (length ps)) r.history;
      reached = subst (λ (o : Option ℕ). IfSome o (λ first. first ≤ length new.listed.history)) (sym r.tape.on)
          (subst (λ (ps : List Placed). IfSome old.on (λ first. first ≤ length ps)) (sym r.history) tied.on_is);
      stock = λ st is. subst (λ (k : Stocked). IsStock (tape_on planned) (given_in drive fixed old) (on_in drive fixed old) st k) (sym r.tape.stock) is;
      queue = ap (λ (q : Queued). requests q) r.tape.queue ∙ tied.queue ∙ sym (ap (λ (st : State). st.requests) resting);
      arrived = ap (λ (q : Queued). q.arrived) r.tape.queue ∙ tied.arrived ∙ sym (ap (λ (st : State). st.arrived) resting);
      none_due = ap due_ticket resting ∙ tied.none_due;
      group = ap (λ (st : State). st.group) resting;
      reads = reads_to (given_in drive fixed old) old.on new.on old.listed.history new.listed.history planned (drive.held fixed.first) old.stock.layout.ops new.stock.layout.ops
          (state old.trail) (state new.trail) old.reads new.reads r.tape.on r.history (ap (λ (k : Stocked). k.layout.ops) r.tape.stock) r.tape.reads
          (ap (λ (st : State). st.requests) resting) tied.reads;
      cached = cached_still planned old.stock.layout.ops (drive.held fixed.first) old.cached new.cached r.tape.cached tied.cached;
    }))

  module _ (who nth : ℕ) (at : Moment) (counts : Twin) (old new : Parts D) (tied : IsTied drive fixed planned old) (t : TakesFault who nth at counts old new) where
    abbrev placed : Placed
    placed = record { who = who; nth = nth; at = at; fate = fates.Void }

    same_state : state new.trail ≡ state old.trail
    same_state = ap after_all t.events

    -- a volume stays tied where a write is placed void with its drain's fault
    pub tied_faulted : IsTied drive fixed planned new
    tied_faulted = without_ops new (tied_still drive fixed planned old new tied (record {
      drive_is = t.tape.drive;
      ops = ap (λ (k : Stocked). k.layout.ops) t.tape.stock;
      calls = t.places.calls;
      sessions = t.places.sessions;
      stands = after_void drive fixed old new placed t.tape.on t.places.history refl;
      on_stays_on = on_after drive fixed old new placed t.tape.on t.places.history tied.on_is;
      reached = subst (λ (o : Option ℕ). IfSome o (λ first. first ≤ length new.listed.history)) (sym t.tape.on)
          (subst (λ (n : ℕ). IfSome old.on (λ first. first ≤ n))
          (sym (ap (λ (ps : List Placed). length ps) t.places.history ∙ length-append old.listed.history (placed ∷ [])))
          (reached_later old.on (length old.listed.history) tied.on_is));
      stock = λ st is. subst (λ (k : Stocked). IsStock (tape_on planned) (given_in drive fixed old) (on_in drive fixed old) st k) (sym t.tape.stock) is;
      queue = ap (λ (q : Queued). requests q) t.tape.queue ∙ tied.queue ∙ sym (ap (λ (st : State). st.requests) same_state);
      arrived = ap (λ (q : Queued). q.arrived) t.tape.queue ∙ tied.arrived ∙ sym (ap (λ (st : State). st.arrived) same_state);
      none_due = ap due_ticket same_state ∙ tied.none_due;
      group = ap (λ (st : State). st.group) same_state;
      reads = reads_to (given_in drive fixed old) old.on new.on (old.listed.history ++ placed ∷ []) new.listed.history planned (drive.held fixed.first) old.stock.layout.ops new.stock.layout.ops
          (state old.trail) (state new.trail) old.reads new.reads t.tape.on t.places.history (ap (λ (k : Stocked). k.layout.ops) t.tape.stock) t.tape.reads
          (ap (λ (st : State). st.requests) same_state)
          (reads_later (given_in drive fixed old) old.on old.listed.history placed planned (drive.held fixed.first) old.stock.layout.ops (state old.trail) old.reads tied.reads);
      cached = cached_still planned old.stock.layout.ops (drive.held fixed.first) old.cached new.cached t.tape.cached tied.cached;
    }))
