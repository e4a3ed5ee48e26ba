-- Submissions keep a volume safe.
use Rattle.tape_layout.specs.Ops.{end_of}
use Rattle.promises.specs.ImageLaws.Plans.{IsDue, data_jobs, index_jobs}
use Rattle.std.proofs.Common.{◌≡◌, ℕ, ◌+◌, ◌-◌, ◌^◌, ◌<◌, Bool, true, false, cond, not, ◌&&◌, if◌then◌else◌, List, [], ◌∷◌, ◌++◌, length, map, None, refl, sym, ap, subst, ◌∙◌, arith, append_assoc, append-nil, length-append}
use Rattle.std.specs.Prelude.{filter, filter_map, ◌==◌}
use Rattle.std.specs.List.{AllByRecursion, fold}
use Rattle.std.proofs.lemmas.Bool.{eq-eqb}
use Rattle.std.proofs.lemmas.List.{length-map}
use Rattle.std.proofs.lemmas.List.Elements.{filter-append, filter_map-append}
use Rattle.std.proofs.lemmas.List.Sums.{fold-append}
use Rattle.head_queue.proofs.EventLaws.LoadLaw.{flushes_long}
use Rattle.tape_types.specs.declared.cartridges.Cartridge.{Cartridge}
use Rattle.tape_types.specs.declared.cartridges.Part.TheVariants.{Ip, Dp}
use Rattle.tape_drive.specs.declared.drive.Drive.{Ghosts}
use Rattle.tape_layout.specs.declared.ops.Op.{Op}
use Rattle.plain_tree.specs.declared.calls.Placed.{Placed}
use Rattle.session_script.specs.declared.logs.Ack.{Ack}
use Rattle.session_script.specs.declared.logs.Event.{Event}
use Rattle.session_script.specs.declared.logs.Event.TheVariants.{Syncs}
use Rattle.head_queue.specs.EventLaws.Waiting as waiting
use Rattle.head_queue.specs.EventLaws.Waiting.{State, Waiter, put_at, start, with_flushes}
use Rattle.head_queue.specs.EventLaws.Waiting.{ops as standing}
use Rattle.head_queue.specs.EventLaws.Trail.{after, after_all}
use Rattle.space_laws.specs.Space.{Space, part_for, with_data, with_index}
use Rattle.space_laws.specs.Standing.{is_on}
use Rattle.space_laws.specs.Space as space
use Rattle.promises.specs.ImageLaws.Images.{MayWrite}
use Rattle.promises.specs.ImageLaws.Made.{Base}
use Rattle.promises.specs.ImageLaws.Made.{after as after_jobs}
use Rattle.promises.specs.ServingPromise.Acks.{synced_ticket}
use Rattle.promises.specs.ServingPromise.Mount.{facts_of}
use Rattle.promises.specs.ServingPromise.Served.{View}
use Rattle.promises.specs.ServingPromise.Served.{headed as headed_op}
use Rattle.promises.specs.ServingPromise.Submits.{acks_for, synced_at}
use Rattle.promises.specs.CrashLaws.Changes.{AreQuiet, HasHeaded, IsAsked, IsPlaced, events_of_sync}
use Rattle.promises.specs.CrashLaws.Laws.{IsStill, SubmissionsAreSafe}
use Rattle.promises.specs.CrashLaws.Safe.{AreInOrder, IsSafe, wait_of, Planned, with_jobs, volume_of, trees_of}
use Rattle.promises.proofs.CrashLaws.Admits.{at_acked, at_changed, at_indexed, at_others, at_still, at_stored, at_unchanged, tree_at}
use Rattle.promises.proofs.CrashLaws.Fields.{At, of_view, to_view}
use Rattle.promises.proofs.CrashLaws.Trails.{IsKept, order_filter, quiet_acks, quiet_all, quiet_tickets}
use Rattle.promises.proofs.CrashLaws.Waits.{all_filter}

-- ---- events

-- what waits once events were added
pub state_after : (old new added : List Event) → new ≡ old ++ added → after_all new ≡ fold after (after_all old) added
state_after old new added is = ap (λ (es : List Event). after_all es) is ∙ fold-append after start old added

quiet_state : (old new added : List Event) → new ≡ old ++ added → AreQuiet added → IsKept (after_all old) (after_all new)
quiet_state old new added is quiet =
    let all = quiet_all (after_all old) added quiet in
    record {
      done = ap (λ (st : State). st.done) (state_after old new added is) ∙ all.done;
      syncs = ap (λ (st : State). st.syncs) (state_after old new added is) ∙ all.syncs;
    }

-- the ops for which a sync waits
abbrev ended_by : State → List waiting.Op
ended_by st = st.ended ++ with_flushes st.group

ended_long : (st : State) → length (ended_by st) ≡ length (standing st)
ended_long st = omega (
  arith,
  length-append st.ended (with_flushes st.group),
  length-append st.ended (map put_at st.group),
  flushes_long st.group,
  length-map st.group put_at,
)

-- a sync that begins at a place
abbrev waiter_at : ℕ → State → Waiter
waiter_at here st = record { ticket = here; due = st.done + length (ended_by st) }

ops_of_sync : (here : ℕ) (st : State) (stand : List waiting.Op) → standing (fold after (after st (Syncs here)) (synced_at here stand)) ≡ ended_by st ++ []
ops_of_sync here st [] = refl
ops_of_sync here st (op ∷ later) = refl

not_its_own : (here : ℕ) (w : Waiter) → w.ticket ≡ here → filter (λ (s : Waiter). not (s.ticket == here)) (w ∷ []) ≡ []
not_its_own here w is = ap (λ b. cond (not b) (w ∷ []) []) (eq-eqb w.ticket here is)

drop_last : (n : ℕ) (syncs : List Waiter) (w : Waiter) → AreInOrder n (syncs ++ w ∷ []) → AreInOrder n (syncs ++ [])
drop_last n [] w order = tt
drop_last n (s ∷ syncs) w order = (order.0, drop_last s.due syncs w order.1)

module _ {D : Type 0} (drive : Ghosts D)
    (only_now : (d : D) (image : Cartridge) → drive.commands d < 2 ^ 64 - 1 → drive.left_since d (drive.commands d) image → drive.leaves d image) where
  -- ---- a placement without a sync

  quiet_view : (planned : Planned) (s : Space) (old new : View D) (history : List Placed) (asked : List Op) (added : List Event)
      → IsAsked drive old new asked added → new.history ≡ history → AreQuiet added
      → At drive planned s old.fixed old.drive history old.acks (after_all old.events).done (after_all old.events).syncs old.on (old.ops ++ asked)
      → IsSafe drive planned s new
  quiet_view planned s old new history asked added asks placed quiet a =
      let kept = quiet_state old.events new.events added asks.adds.events quiet in
      to_view drive planned s new old.fixed old.drive history old.acks (after_all old.events).done (after_all old.events).syncs old.on (old.ops ++ asked)
      asks.fixed asks.drive_is placed
      (asks.adds.acks ∙ ap (λ (l : List Ack). old.acks ++ l) (quiet_acks (drive.commands new.drive) added quiet) ∙ append-nil old.acks)
      kept.done kept.syncs asks.on asks.ops a

  with_none : (planned : Planned) (s : Space) (old : View D) (history : List Placed)
      → At drive planned s old.fixed old.drive history old.acks (after_all old.events).done (after_all old.events).syncs old.on old.ops
      → At drive planned s old.fixed old.drive history old.acks (after_all old.events).done (after_all old.events).syncs old.on (old.ops ++ [])
  with_none planned s old history a = subst
      (λ (l : List Op). At drive planned s old.fixed old.drive history old.acks (after_all old.events).done (after_all old.events).syncs old.on l)
      (sym (append-nil old.ops)) a

  unplaced : (planned : Planned) (s : Space) (old new : View D) (added : List Event)
      → IsSafe drive planned s old → IsAsked drive old new [] added → new.history ≡ old.history → AreQuiet added → IsSafe drive planned s new
  unplaced planned s old new added safe asks same quiet =
      quiet_view planned s old new old.history [] added asks same quiet (with_none planned s old old.history (of_view drive planned s old safe))

  still_at : (old new : View D) (placed : Placed) → new.fixed ≡ old.fixed → new.history ≡ old.history ++ placed ∷ [] → IsStill old new
      → tree_at old.fixed (old.history ++ placed ∷ []) ≡ tree_at old.fixed old.history
  still_at old new placed fixed history is =
      sym (ap (λ f. tree_at f new.history) fixed ∙ ap (λ (h : List Placed). tree_at old.fixed h) history) ∙ is

  still : (planned : Planned) (s : Space) (old new : View D) (placed : Placed) (added : List Event)
      → IsSafe drive planned s old → IsPlaced drive old new placed [] added → AreQuiet added → IsStill old new → IsSafe drive planned s new
  still planned s old new placed added safe p quiet is =
      quiet_view planned s old new (old.history ++ placed ∷ []) [] added p.asks p.history quiet (with_none planned s old (old.history ++ placed ∷ [])
      (at_still drive planned old.fixed old.drive old.on s old.history placed old.acks (after_all old.events).done (after_all old.events).syncs old.ops
      (still_at old new placed p.asks.fixed p.history is) (of_view drive planned s old safe)))

  changed : (planned : Planned) (s : Space) (old new : View D) (placed : Placed) (added : List Event)
      → IsSafe drive planned s old → IsPlaced drive old new placed [] added → AreQuiet added → IsSafe drive planned (record s { changed = true }) new
  changed planned s old new placed added safe p quiet =
      quiet_view planned (record s { changed = true }) old new (old.history ++ placed ∷ []) [] added p.asks p.history quiet
      (with_none planned (record s { changed = true }) old (old.history ++ placed ∷ [])
      (at_changed drive planned old.fixed old.drive old.on s old.history placed old.acks (after_all old.events).done (after_all old.events).syncs old.ops
      (of_view drive planned s old safe)))

  may_by : (wanted on fits : Bool) (b : Base) → (on ≡ true → b.ahead ≡ None) → MayWrite (if wanted && on && fits then Ip else Dp) b
  may_by true true true b h = h refl
  may_by true true false b h = tt
  may_by true false fits b h = tt
  may_by false on fits b h = tt

  -- ---- a sync

  module _ (planned : Planned) (old new : View D) (placed : Placed) (queues : List Event) (asked : List Op)
      (p : IsPlaced drive old new placed asked (events_of_sync (length old.history) old.events queues)) (quiet : AreQuiet queues) where
    abbrev here : ℕ
    here = length old.history

    abbrev before : State
    before = after_all old.events

    abbrev st : State
    st = after_all (old.events ++ queues)

    abbrev w : Waiter
    w = waiter_at here st

    abbrev its_ack : D → Ack
    its_ack d = record { place = here; command = drive.commands d }

    abbrev its : Waiter → Bool
    its x = not (x.ticket == here)

    kept : IsKept before st
    kept = quiet_state old.events (old.events ++ queues) queues refl quiet

    state : (stand : List waiting.Op) → standing st ≡ stand → after_all new.events ≡ fold after (after st (Syncs here)) (synced_at here stand)
    state stand is =
        state_after (old.events ++ queues) new.events (Syncs here ∷ synced_at here stand)
        (p.asks.adds.events ∙ ap (λ (l : List waiting.Op). old.events ++ (queues ++ Syncs here ∷ synced_at here l)) is
        ∙ sym (append_assoc old.events queues (Syncs here ∷ synced_at here stand)))

    acks : (stand : List waiting.Op) → standing st ≡ stand → new.acks ≡ old.acks ++ acks_for (drive.commands new.drive) (synced_at here stand)
    acks stand is =
        p.asks.adds.acks ∙ ap (λ (l : List waiting.Op). old.acks ++ acks_for (drive.commands new.drive) (queues ++ Syncs here ∷ synced_at here l)) is
        ∙ ap (λ (l : List ℕ). old.acks ++ map (λ ticket. record { place = ticket; command = drive.commands new.drive }) l)
        (filter_map-append synced_ticket queues (Syncs here ∷ synced_at here stand)
        ∙ ap (λ (l : List ℕ). l ++ filter_map synced_ticket (synced_at here stand)) (quiet_tickets queues quiet))

    -- so many ops stand behind it as the sync waits for
    due_is : HasHeaded new → w.due ≡ before.done + length (old.ops ++ asked)
    due_is headed =
        let long : length (ended_by st) ≡ length (old.ops ++ asked) =
        ap (λ (l : List waiting.Op). length l)
        (sym (append-nil (ended_by st)) ∙ sym (ops_of_sync here st (standing st)) ∙ ap (λ (x : State). standing x) (sym (state (standing st) refl)) ∙ sym headed)
        ∙ length-map new.ops headed_op ∙ ap (λ (l : List Op). length l) p.asks.ops in
        omega (arith, long, kept.done)

    -- the sync waits
    waits : (s : Space) (op : waiting.Op) (later : List waiting.Op) → standing st ≡ op ∷ later
        → At drive planned s old.fixed old.drive (old.history ++ placed ∷ []) old.acks before.done (before.syncs ++ w ∷ []) old.on (old.ops ++ asked)
        → IsSafe drive planned s new
    waits s op later is a =
        to_view drive planned s new old.fixed old.drive (old.history ++ placed ∷ []) old.acks before.done (before.syncs ++ w ∷ []) old.on (old.ops ++ asked)
        p.asks.fixed p.asks.drive_is p.history (acks (op ∷ later) is ∙ append-nil old.acks)
        (ap (λ (x : State). x.done) (state (op ∷ later) is) ∙ kept.done)
        (ap (λ (x : State). x.syncs) (state (op ∷ later) is) ∙ ap (λ (l : List Waiter). l ++ w ∷ []) kept.syncs)
        p.asks.on p.asks.ops a

    -- or it is answered at once
    answered : (s : Space) → standing st ≡ []
        → At drive planned s old.fixed old.drive (old.history ++ placed ∷ []) old.acks before.done (before.syncs ++ w ∷ []) old.on (old.ops ++ asked)
        → IsSafe drive planned s new
    answered s is a =
        let none : length (standing st) ≡ 0 = ap (λ (l : List waiting.Op). length l) is in
        let due : w.due ≡ before.done = omega (arith, ended_long st, none, kept.done) in
        let told : new.acks ≡ old.acks ++ its_ack old.drive ∷ [] = acks [] is ∙ ap (λ (d : D). old.acks ++ its_ack d ∷ []) p.asks.drive_is in
        let acked = at_acked drive planned old.fixed old.drive old.on (only_now old.drive) s (old.history ++ placed ∷ []) old.acks before.done before.syncs w []
        (old.ops ++ asked) due (λ order. drop_last before.done before.syncs w order) a in
        let fewer = at_others drive planned old.fixed old.drive old.on s (old.history ++ placed ∷ []) (old.acks ++ its_ack old.drive ∷ [])
        before.done (before.syncs ++ []) (filter its before.syncs) (old.ops ++ asked)
        (λ P all. all_filter P its before.syncs (subst (λ (l : List Waiter). AllByRecursion P (map wait_of l)) (append-nil before.syncs) all))
        (λ order. order_filter its before.done before.syncs (subst (λ (l : List Waiter). AreInOrder before.done l) (append-nil before.syncs) order))
        acked in
        to_view drive planned s new old.fixed old.drive (old.history ++ placed ∷ []) (old.acks ++ its_ack old.drive ∷ [])
        before.done (filter its before.syncs) old.on (old.ops ++ asked)
        p.asks.fixed p.asks.drive_is p.history told
        (ap (λ (x : State). x.done) (state [] is) ∙ kept.done)
        (ap (λ (x : State). x.syncs) (state [] is)
        ∙ ap (λ (l : List Waiter). filter its (l ++ w ∷ [])) kept.syncs
        ∙ filter-append its before.syncs (w ∷ [])
        ∙ ap (λ (l : List Waiter). filter its before.syncs ++ l) (not_its_own here w refl)
        ∙ append-nil (filter its before.syncs))
        p.asks.on p.asks.ops fewer

    by_ops : (s : Space) (stand : List waiting.Op) → standing st ≡ stand
        → At drive planned s old.fixed old.drive (old.history ++ placed ∷ []) old.acks before.done (before.syncs ++ w ∷ []) old.on (old.ops ++ asked)
        → IsSafe drive planned s new
    by_ops s [] is a = answered s is a
    by_ops s (op ∷ later) is a = waits s op later is a

    -- what a sync adds, once the head's list has it
    pub synced_view : (s : Space)
        → At drive planned s old.fixed old.drive (old.history ++ placed ∷ []) old.acks before.done (before.syncs ++ w ∷ []) old.on (old.ops ++ asked)
        → IsSafe drive planned s new
    synced_view s a = by_ops s (standing st) refl a

  -- each submission keeps a volume safe, by what it asks of the tape
  pub submissions_are_safe : SubmissionsAreSafe drive
  submissions_are_safe = record {
    unplaced = unplaced;
    still = still;
    changed = changed;
    stored = λ planned s old new placed added rules place wanted bytes safe p quiet.
        let on = is_on (facts_of old.fixed.mounted) old.on place in
        let part = part_for rules on s wanted bytes in
        let a = of_view drive planned s old safe in
        let stored = at_stored drive planned old.fixed old.drive old.on s old.history old.acks (after_all old.events).done (after_all old.events).syncs old.ops rules part bytes a
        (may_by wanted on _ (after_jobs a.made a.jobs).base (λ is. a.may_write place is)) in
        quiet_view (with_jobs (data_jobs rules part (end_of part s.ends) bytes) planned) (space.after rules on s (space.store wanted bytes)) old new (old.history ++ placed ∷ []) (space.ops_of rules on s (space.store wanted bytes)) added p.asks p.history quiet
        (at_changed drive (with_jobs (data_jobs rules part (end_of part s.ends) bytes) planned) old.fixed old.drive old.on (with_data rules part bytes s) old.history placed old.acks (after_all old.events).done (after_all old.events).syncs
        (old.ops ++ space.ops_of rules on s (space.store wanted bytes)) stored);
    synced = λ planned s old new placed queues rules on text e safe p quiet headed is size due.
        let w = waiter_at (length old.history) (after_all (old.events ++ queues)) in
        let ops = space.ops_of rules on s (space.index text) in
        let a = of_view drive planned s old safe in
        let indexed = at_indexed drive planned old.fixed old.drive old.on s old.history old.acks (after_all old.events).done (after_all old.events).syncs old.ops rules text e w a
        (subst (λ m. IsDue (volume_of planned.labels old) (trees_of old) m s text e) (sym a.plan) due) size refl (due_is planned old new placed queues ops p quiet headed) in
        synced_view (with_jobs (index_jobs rules s text e) planned) old new placed queues ops p quiet (with_index rules text s)
        (at_still drive (with_jobs (index_jobs rules s text e) planned) old.fixed old.drive old.on (with_index rules text s) old.history placed old.acks (after_all old.events).done
        ((after_all old.events).syncs ++ w ∷ []) (old.ops ++ ops) (still_at old new placed p.asks.fixed p.history is) indexed);
    unchanged = λ planned s old new placed queues safe p quiet headed is same.
        let w = waiter_at (length old.history) (after_all (old.events ++ queues)) in
        let waits = at_unchanged drive planned old.fixed old.drive old.on s old.history old.acks (after_all old.events).done (after_all old.events).syncs (old.ops ++ []) w
        (with_none planned s old old.history (of_view drive planned s old safe)) same refl (due_is planned old new placed queues [] p quiet headed) in
        synced_view planned old new placed queues [] p quiet s
        (at_still drive planned old.fixed old.drive old.on s old.history placed old.acks (after_all old.events).done
        ((after_all old.events).syncs ++ w ∷ []) (old.ops ++ []) (still_at old new placed p.asks.fixed p.history is) waits);
  }
