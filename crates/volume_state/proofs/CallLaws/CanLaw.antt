-- Of a volume that is tied the next step can be made.
use Rattle.std.specs.Prelude.{◌≡◌, ◌⊎◌, ◌==◌, ◌&&◌, ◌||◌, ◌^◌, ℕ, ◌+◌, ◌≤◌, ◌<◌, Bool, true, false, cond, List, [], ◌∷◌, ◌++◌, length, map, Option, Some, None, IfSome, slice_get}
use Rattle.std.specs.List.{list_any}
use Rattle.std.proofs.Common.{⊎_elim, inl, inr, refl, sym, ap, subst, ◌∙◌, arith, length-append}
use Rattle.std.proofs.lemmas.Bool.{cases_Bool, eq-eqb, ne_eqb, or_left, or_right}
use Rattle.std.proofs.lemmas.List.{map-append}
use Rattle.tape_types.specs.Bounds.{most_positions}
use Rattle.tape_types.specs.Cartridges.{IsLimits, capacity, items_of}
use Rattle.tape_types.specs.declared.cartridges.Cartridge.{Cartridge}
use Rattle.tape_types.specs.declared.cartridges.Limits.{Limits}
use Rattle.tape_types.specs.declared.cartridges.Part.{Part}
use Rattle.tape_types.specs.declared.cartridges.Part.TheVariants.{Ip, Dp}
use Rattle.tape_types.specs.declared.cartridges.Place.{Place}
use Rattle.tape_types.specs.declared.moments.Moment.{Moment}
use Rattle.tape_drive.specs.Crashes.{AllowsAll, LeavesAllowed}
use Rattle.tape_drive.specs.declared.drive.Drive.{Ghosts}
use Rattle.head_core.specs.Steps.{CanDo, IsInReach, MayDo, WithinOp}
use Rattle.head_queue.specs.Waiting.{request}
use Rattle.head_queue.specs.EventLaws.Waiting as waiting
use Rattle.head_queue.specs.EventLaws.Waiting.{Request, State, Waiter, first_of, is_calm, waiting_op}
use Rattle.cartridge_meaning.specs.Carried.{carried}
use Rattle.tape_layout.specs.Ops.{HasRoom, end_of, place_of}
use Rattle.tape_layout.specs.declared.ops.Op.{Op}
use Rattle.tape_layout.specs.declared.ops.Op.TheVariants.{Flush, Mark, Put}
use Rattle.promises.specs.ServingPromise.Served.{Fixed, headed, is_waiting}
use Rattle.promises.specs.CrashLaws.Laws.{CanServe}
use Rattle.promises.specs.CrashLaws.May.{AllowsServed, IsAllowed}
use Rattle.promises.specs.CrashLaws.Safe.{items_by, space_now}
use Rattle.promises.proofs.CrashLaws.May.{steps_may}
use Rattle.event_journal.specs.Trails.{due_ticket, first_waiter, longest, state}
use Rattle.event_journal.specs.declared.trails.Waiter.TheVariants as waiters
use Rattle.promises.specs.PromiseLaws.Kept.{IsKept, Plan}
use Rattle.volume_state.specs.PlanLaws.Planned.{IsDoneAt, IsOnWay, IsPlan, Items, ends_in}
use Rattle.volume_state.proofs.PlanLaws.Ends.{end_is}
use Rattle.volume_state.proofs.PlanLaws.Tells.{tapes_tell}
use Rattle.volume_state.proofs.PlanLaws.Ways.{first_at}
use Rattle.volume_state.specs.StateLaws.Parts.{Parts, view_of}
use Rattle.volume_state.specs.StateLaws.Stepping.{IsOneRead, IsOneRequest}
use Rattle.volume_state.specs.StateLaws.Tied.{IsAsked, IsTied}
use Rattle.volume_state.specs.CallLaws.StepLaws.{CanStep, StepsCanBeMade}
use Rattle.volume_state.proofs.CallLaws.StepDues.{AreDue, are_due, some_stand}
use Rattle.volume_state.proofs.CallLaws.Splits.{all_mid, any_in, any_mid, first_read}

-- ---- what waits

-- a sync that waits is the first, or there is one before it
one_waits : (k : ℕ) (syncs : List Waiter) → list_any (λ (s : Waiter). s.ticket == k) syncs ≡ true
    → (s : Waiter) × (more : List Waiter) × (syncs ≡ s ∷ more)
one_waits k [] h = absurd (cc)
one_waits k (s ∷ more) h = (s, more, refl)

not_calm : (st : State) (s : Waiter) (more : List Waiter) → st.syncs ≡ s ∷ more → is_calm st ≡ false
not_calm st s more is = ap (λ (l : List Waiter). length l == 0 && length st.drains == 0) is
    ∙ ap (λ b. b && length st.drains == 0) (ne_eqb (length (s ∷ more)) 0 (λ e. omega (arith, e)))

some_first : (st : State) (standing : List Op) (op : Op) (later : List Op) → is_calm st ≡ false
    → map headed standing ≡ waiting.ops st → standing ≡ op ∷ later
    → waiting_op st ≡ Some (headed op)
some_first st standing op later calm is first =
    ap (λ b. cond b None (first_of (waiting.ops st))) calm ∙ ap first_of (sym is ∙ ap (map headed) first)

first_stands : (st : State) (standing : List Op) (s : Waiter) (more : List Waiter) → 1 ≤ length (waiting.ops st)
    → st.syncs ≡ s ∷ more
    → map headed standing ≡ waiting.ops st
    → (op : Op) × (later : List Op) × (standing ≡ op ∷ later) × (waiting_op st ≡ Some (headed op))
first_stands st [] s more some syncs is = absurd (omega (arith, some, ap length is))
first_stands st (op ∷ later) s more some syncs is =
    (op, later, refl, some_first st (op ∷ later) op later (not_calm st s more syncs) is refl)

waits_no_block : (st : State) (k : ℕ) → st.requests ≡ [] → is_waiting st k ≡ true
    → list_any (λ (s : Waiter). s.ticket == k) st.syncs ≡ true
waits_no_block st k none h = sym (ap (λ (l : List Request). list_any (λ (r : Request). r.ticket == k) l || list_any (λ (s : Waiter). s.ticket == k) st.syncs) none) ∙ h

some_waits : (st : State) (standing : List Op) (k : ℕ) → AreDue st → due_ticket st ≡ None
    → map headed standing ≡ waiting.ops st → st.requests ≡ [] → is_waiting st k ≡ true
    → (op : Op) × (later : List Op) × (standing ≡ op ∷ later) × (waiting_op st ≡ Some (headed op))
some_waits st standing k due none is asked h =
    let one = one_waits k st.syncs (waits_no_block st k asked h) in
    first_stands st standing one.0 one.1 (some_stand st one.0 one.1 due none one.2) one.2 is

calm_or_first : (st : State) (standing : List Op) (op : Op) (later : List Op) → map headed standing ≡ waiting.ops st
    → standing ≡ op ∷ later
    → (is_calm st ≡ true) ⊎ (is_calm st ≡ false) → (is_calm st ≡ true) ⊎ (waiting_op st ≡ Some (headed op))
calm_or_first st standing op later is first (inl calm) = inl calm
calm_or_first st standing op later is first (inr calm) = inr (some_first st standing op later calm is first)

by_none : (b : Bool) (o : Option waiting.Op) → o ≡ None → cond b None o ≡ None
by_none true o e = refl
by_none false o e = e

none_waits : (st : State) (standing : List Op) → map headed standing ≡ waiting.ops st → standing ≡ []
    → waiting_op st ≡ None
none_waits st standing is none = by_none (is_calm st) (first_of (waiting.ops st)) (ap first_of (sym is ∙ ap (map headed) none))

sync_waits : (st : State) (syncs : List Waiter) (drains : List ℕ) (ticket : ℕ)
    → longest syncs drains ≡ Some (waiters.Sync ticket) → list_any (λ (s : Waiter). s.ticket == ticket) syncs ≡ true
sync_waits st (s ∷ more) drains ticket e =
    let same : s.ticket ≡ ticket = cc in or_left (s.ticket == ticket) (list_any (λ (s : Waiter). s.ticket == ticket) more) (eq-eqb s.ticket ticket same)
sync_waits st [] (who ∷ more) ticket e = absurd (cc)
sync_waits st [] [] ticket e = absurd (cc)

-- ---- where the head goes

can_do : (op : Op) (limits : Limits) (held : Option Cartridge) (size : ℕ) → HasRoom limits size op → size ≤ 1048576
    → IfSome held (λ c. (place_of op).pos ≤ length (items_of (place_of op).part c)) → CanDo op limits held
can_do (Put at bytes) limits held size room le within = (record { room = room.0; within = within }, room.1, omega (arith, room.2, le))
can_do (Mark at) limits held size room le within = record { room = room; within = within }
can_do (Flush at) limits held size room le within = tt

least : (part : Part) (limits : Limits) → IsLimits limits → capacity part limits ≤ most_positions
least Ip limits l = l.ip_most
least Dp limits l = l.dp_most

op_before : (planned : Items) (op : Op) (later : List Op) (p : IsPlan planned (op ∷ later))
    → (place_of op).pos ≤ end_of (place_of op).part (ends_in planned)
op_before planned op later p =
    let part = (place_of op).part in
    omega (arith, first_at op later p.made p.next, end_is part planned, ap length (p.leads part), length-append (p.made part) (items_by part (op ∷ later)))

if_told : (held : Option Cartridge) (P : Cartridge → Type 0) → ((c : Cartridge) → held ≡ Some c → P c) → IfSome held P
if_told None P h = tt
if_told (Some c) P h = h c refl

module _ {D : Type 0} (drive : Ghosts D) (fixed : Fixed D) (plan : Plan drive fixed) (planned : Items) (next : Option Moment)
    (p : Parts D) (kept : IsKept drive fixed plan (view_of fixed next p)) (tied : IsTied drive fixed planned p) where
  abbrev st : State
  st = state p.trail

  limits_are : drive.limits p.drive ≡ drive.limits fixed.first
  limits_are = kept.order.orderly.limits

  within_op : (op : Op) (later : List Op) → p.stock.layout.ops ≡ op ∷ later
      → IfSome (drive.held p.drive) (λ c. (place_of op).pos ≤ length (items_of (place_of op).part c))
  within_op op later first = if_told (drive.held p.drive) (λ c. (place_of op).pos ≤ length (items_of (place_of op).part c))
      (λ c held. tapes_tell.reaches planned op later c (subst (λ (l : List Op). IsOnWay planned l c) first (tied.way c held)))

  near_op : (op : Op) (later : List Op) → p.stock.layout.ops ≡ op ∷ later → (place_of op).pos < 2 ^ 63
  near_op op later first =
      let part = (place_of op).part in
      let below = op_before planned op later (subst (IsPlan planned) first tied.plan) in
      omega (arith, below, tied.room part, least part (drive.limits fixed.first) tied.limits)

  -- ---- a request

  module _ (ticket : ℕ) (place : Place) (r : IsOneRequest p.queue.waiting ticket place) where
    -- the requests that wait are those before one, that one and those behind it
    pub asked_are : st.requests ≡ map request r.front ++ request r.one ∷ map request r.behind
    asked_are = sym tied.queue ∙ ap (map request) r.waiting_is ∙ map-append request r.front (r.one ∷ r.behind)

    asked : IsAsked planned p.stock.layout.ops p.reads (request r.one)
    asked = all_mid (IsAsked planned p.stock.layout.ops p.reads) (map request r.front) (request r.one) (map request r.behind)
        (subst (Rattle.std.specs.Prelude.All (IsAsked planned p.stock.layout.ops p.reads)) asked_are tied.reads.asked)

    -- a block that is asked for stands on tape
    pub stands : IsDoneAt planned p.stock.layout.ops place
    stands = subst (IsDoneAt planned p.stock.layout.ops) r.place_is asked.stands

    reading : IsOneRead p.reads ticket
    reading = first_read ticket p.reads
        (any_in (λ g. g.ticket == ticket) p.reads asked.reading asked.waits (eq-eqb asked.reading.ticket ticket (asked.ticket ∙ r.owner_is)))

    in_reach : IsInReach place (drive.limits p.drive) (drive.held p.drive)
    in_reach = record {
      room = subst (λ (l : Limits). place.pos < capacity place.part l) (sym limits_are) (omega (arith, stands.below, tied.room place.part));
      within = if_told (drive.held p.drive) (λ c. place.pos ≤ length (items_of place.part c))
          (λ c held. tapes_tell.within planned p.stock.layout.ops place c (tied.way c held) stands);
    }

    near : place.pos < 2 ^ 63
    near = omega (arith, stands.below, tied.room place.part, least place.part (drive.limits fixed.first) tied.limits)

    -- a place with a request has no reply yet
    pub unanswered : slice_get p.listed.replies ticket ≡ Some None
    unanswered = kept.order.orderly.waiting.waits ticket
        (or_left (list_any (λ (q : Request). q.ticket == ticket) st.requests) (list_any (λ (s : Waiter). s.ticket == ticket) st.syncs)
        (ap (list_any (λ (q : Request). q.ticket == ticket)) asked_are
        ∙ any_mid (λ (q : Request). q.ticket == ticket) (map request r.front) (request r.one) (map request r.behind) (eq-eqb r.one.owner ticket r.owner_is)))

  sync_unanswered : (ticket : ℕ) → first_waiter st ≡ Some (waiters.Sync ticket)
      → slice_get p.listed.replies ticket ≡ Some None
  sync_unanswered ticket e = kept.order.orderly.waiting.waits ticket
      (or_right (list_any (λ (q : Request). q.ticket == ticket) st.requests) (list_any (λ (s : Waiter). s.ticket == ticket) st.syncs)
      (sync_waits st st.syncs st.drains ticket e))

  -- ---- what may be left

  module _ (allowed : IsAllowed drive fixed) where
    -- what a crash may leave of an op is allowed: all is, or what the script may leave
    may_op : (op : Op) (later : List Op) → p.stock.layout.ops ≡ op ∷ later → MayDo drive op p.drive
    may_op op later first c told = by (drive.held fixed.first) refl
      where
        by : (held : Option Cartridge) → drive.held fixed.first ≡ held
            → LeavesAllowed (WithinOp op c) (drive.leaves p.drive) drive.allows
        by None none =
            let wrong : None ≡ Some c = sym (kept.order.orderly.untold none) ∙ told in
            absurd (cc)
        by (Some b) is = ⊎_elim
            (λ (all : AllowsAll drive.allows). λ before image left within. all image)
            (λ (it : CanServe drive fixed
            × AllowsServed drive.allows fixed.script fixed.moment (carried fixed.mounted.index) fixed.tree).
            steps_may drive (plan it.0) (space_now (drive.limits fixed.first) (view_of fixed next p))
            (view_of fixed next p) op later (kept.safe it.0) first kept.order.orderly.placed kept.order.orderly.moments
            it.1 c told)
            (allowed b is)

    can_step : CanStep drive p
    can_step = record {
      some = λ k h none. some_waits st p.stock.layout.ops k (are_due p.trail.events) tied.none_due kept.order.orderly.standing
          (sym tied.queue ∙ ap (map request) none) h;
      waiting = λ op later first. calm_or_first st p.stock.layout.ops op later kept.order.orderly.standing first (cases_Bool (is_calm st));
      none = λ none. none_waits st p.stock.layout.ops kept.order.orderly.standing none;
      op = λ op later size first room le. can_do op (drive.limits p.drive) (drive.held p.drive) size room le (within_op op later first);
      near = near_op;
      may = may_op;
      request = λ ticket place r. (in_reach ticket place r, near ticket place r, reading ticket place r, unanswered ticket place r);
      sync = sync_unanswered;
    }

-- of a volume that is tied the next step can be made
pub steps_can_be_made : {D : Type 0} (drive : Ghosts D) → StepsCanBeMade drive
steps_can_be_made drive fixed plan planned next p kept tied allowed =
    can_step drive fixed plan planned next p kept tied allowed
