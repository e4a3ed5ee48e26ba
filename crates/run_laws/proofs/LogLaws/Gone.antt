-- How a run goes on, call by call, and what number of commands each acknowledgement has.
use Rattle.std.specs.Prelude.{◌≡◌, ◌≢◌, ◌⊎◌, ◌<◌, ◌≤◌, ◌+◌, ◌*◌, ◌-◌, ◌^◌, cond, min, ℕ, Bool, true, false, List, [], ◌∷◌, ◌++◌, All}
use Rattle.std.specs.Prelude.{filter_map, fold, length, map, Option, Some, None}
use Rattle.std.proofs.Common.{refl, sym, ap, ◌∙◌, subst, arith, append_assoc, length-append, inl, inr}
use Rattle.std.proofs.lemmas.List.{map-append}
use Rattle.std.proofs.lemmas.List.Elements.{All-head, All-tail, filter_map-append}
use Rattle.std.proofs.lemmas.List.Sums.{fold-append}
use Rattle.tape_types.specs.Cartridges.{next}
use Rattle.tape_types.specs.declared.cartridges.Place.{Place}
use Rattle.tape_types.specs.declared.cartridges.Twin.{Twin}
use Rattle.tape_types.specs.declared.moments.Moment.{Moment}
use Rattle.tape_drive.specs.declared.drive.Drive.{Ghosts}
use Rattle.tape_drive.specs.declared.drive.Got.TheVariants as gots
use Rattle.plain_tree.specs.declared.calls.Placed.{Placed}
use Rattle.session_script.specs.declared.logs.Ack.{Ack}
use Rattle.session_script.specs.declared.logs.Event.{Event}
use Rattle.session_script.specs.declared.logs.Event.TheVariants as events
use Rattle.head_core.specs.Steps.{IsCounted, IsEndOfFlush, IsEndOfOp, IsEndOfPut, IsEndOfRead, head_after, least_commands, most_commands}
use Rattle.head_core.specs.declared.work.StepDone.{StepDone}
use Rattle.head_core.specs.declared.work.StepDone.TheVariants as ends
use Rattle.head_queue.specs.EventLaws.Trail.{after, after_all, fault_of, step_to, steps}
use Rattle.head_queue.specs.EventLaws.Waiting as waiting
use Rattle.head_queue.specs.EventLaws.Waiting.{State, first_of, ops, start}
use Rattle.tape_layout.specs.Ops.{is_flush, place_of}
use Rattle.tape_layout.specs.declared.ops.Op.{Op}
use Rattle.tape_layout.specs.declared.ops.Op.TheVariants.{Put, Mark, Flush}
use Rattle.promises.specs.ServingPromise.Acks.{synced_ticket}
use Rattle.promises.specs.ServingPromise.Crash.{Meaning}
use Rattle.promises.specs.ServingPromise.Ends.{begun}
use Rattle.promises.specs.ServingPromise.Served.{Fixed, IsServed, View, headed}
use Rattle.promises.specs.ServingPromise.Steps.{is_step}
use Rattle.promises.specs.ServingPromise.Submits.{acks_for}
use Rattle.promises.specs.OrderLaws.Kept.{seen}
use Rattle.run_laws.specs.LogLaws.Acts as acts
use Rattle.run_laws.specs.LogLaws.Acts.{AreActs, EndedSo, HasGone, IsActOf, IsGone, IsServedThen, Moves, commands_in}
use Rattle.run_laws.specs.LogLaws.Acts.{StandsBehind, commands_of, numbered}
use Rattle.run_laws.specs.LogLaws.Laws.{AcksAreExact, HeadsFollowActs, StepsTakeCommands}

-- The acks of events one behind the other.
pub acks_append : (commands : ℕ) (xs ys : List Event)
    → acks_for commands (xs ++ ys) ≡ acks_for commands xs ++ acks_for commands ys
acks_append commands xs ys =
    ap (λ (tickets : List ℕ). map (λ ticket. record { place = ticket; command = commands }) tickets)
    (filter_map-append synced_ticket xs ys)
    ∙ map-append (λ ticket. record { place = ticket; command = commands }) (filter_map synced_ticket xs)
    (filter_map synced_ticket ys)

-- ---- calls

-- A volume of which nothing was asked.
pub gone_begins : {D : Type 0} (drive : Ghosts D) (m : Meaning) (fixed : Fixed D) (next : Option Moment)
    → IsServed m (seen drive fixed.first) (seen drive fixed.first) (begun fixed next)
    → IsGone drive m (begun fixed next)
gone_begins drive m fixed next served = acts.begun served.crash

-- A call that moves on keeps how the run has gone.
pub moved : {D : Type 0} (drive : Ghosts D) (m : Meaning) (old new : View D)
    → IsServed m (seen drive new.fixed.first) (seen drive new.drive) new
    → Moves drive old new → IsGone drive m old → IsGone drive m new
moved {D} drive m old new served moves gone =
    subst
    (λ (e : Fixed D × List Placed × List Event × List Ack).
    HasGone drive (IsServedThen drive m e.0) e.0.first e.1 e.2 e.3 new.drive)
    (λ i. (sym moves.fixed i, sym moves.history i, sym moves.adds.events i, sym moves.adds.acks i))
    (acts.called old.history moves.placed old.events moves.added old.acks old.drive new.drive gone moves.one moves.acts
    (subst (λ (e : Fixed D × List Placed × List Ack). IsServedThen drive m e.0 e.1 e.2 new.drive)
    (λ i. (moves.fixed i, moves.history i, moves.adds.acks i)) served.crash))

-- It holds at the end, too.
pub gone_holds : {D : Type 0} (drive : Ghosts D) (m : Meaning) (v : View D) → IsGone drive m v
    → IsServedThen drive m v.fixed v.history v.acks v.drive
gone_holds {D} drive m v gone =
    at_end (IsServedThen drive m v.fixed) v.fixed.first v.drive v.history v.events v.acks gone
  where
    at_end : (Holds : List Placed → List Ack → D → Type 0) (first last : D) (history : List Placed)
        (trail : List Event) (acks : List Ack) → HasGone drive Holds first history trail acks last
        → Holds history acks last
    at_end Holds first _ _ _ _ (acts.begun holds) = holds
    at_end Holds first _ _ _ _ (acts.called history placed trail added acks old new gone few act holds) = holds

-- What follows from what held at each moment held at each moment too.
pub gone_also : {D : Type 0} (drive : Ghosts D) (Holds Also : List Placed → List Ack → D → Type 0) (first last : D)
    (history : List Placed) (trail : List Event) (acks : List Ack)
    → ((history : List Placed) (acks : List Ack) (d : D) → Holds history acks d → Also history acks d)
    → HasGone drive Holds first history trail acks last → HasGone drive Also first history trail acks last
gone_also drive Holds Also first _ _ _ _ also (acts.begun holds) = acts.begun (also [] [] first holds)
gone_also drive Holds Also first _ _ _ _ also (acts.called history placed trail added acks old new gone few act holds) =
    acts.called history placed trail added acks old new
    (gone_also drive Holds Also first old history trail acks also gone) few act
    (also (history ++ placed) (acks ++ acks_for (drive.commands new) added) new holds)

-- ---- numbers of commands

-- events that are no steps take no command
others_take_none : (st : State) (count : ℕ) (added : List Event) → All (λ e. is_step e ≡ false) added
    → (numbered st count added ≡ acks_for count added) × (commands_in st added ≡ 0)
others_take_none st count [] none = (refl, refl)
others_take_none st count (e ∷ later) none =
    by e (All-head (λ (e : Event). is_step e ≡ false) e later none)
    (λ st. others_take_none st count later (All-tail (λ (e : Event). is_step e ≡ false) e later none))
  where
    at_once : (st : State) → numbered st (count + 0) later ≡ numbered st count later
    at_once st = ap (λ n. numbered st n later) (omega arith)

    quiet : (st : State) → (numbered st count later ≡ acks_for count later) × (commands_in st later ≡ 0)
        → (numbered st (count + 0) later ≡ acks_for count later) × (0 + commands_in st later ≡ 0)
    quiet st rest = (at_once st ∙ rest.0, omega (arith, rest.1))

    by : (e : Event) → is_step e ≡ false
        → ((st : State) → (numbered st count later ≡ acks_for count later) × (commands_in st later ≡ 0))
        → (numbered st count (e ∷ later) ≡ acks_for count (e ∷ later)) × (commands_in st (e ∷ later) ≡ 0)
    by (events.Wants ticket place) is rest = quiet (after st (events.Wants ticket place)) (rest (after st (events.Wants ticket place)))
    by (events.Queues place) is rest = quiet (after st (events.Queues place)) (rest (after st (events.Queues place)))
    by (events.Syncs ticket) is rest = quiet (after st (events.Syncs ticket)) (rest (after st (events.Syncs ticket)))
    by (events.Synced ticket) is rest =
        let more = rest (after st (events.Synced ticket)) in (
          ap (λ (acks : List Ack). record { place = ticket; command = count } ∷ acks)
              (at_once (after st (events.Synced ticket)) ∙ more.0),
          omega (arith, more.1),
        )
    by (events.Drains who) is rest = quiet (after st (events.Drains who)) (rest (after st (events.Drains who)))
    by (events.Rests who) is rest = quiet (after st (events.Rests who)) (rest (after st (events.Rests who)))
    by (events.Served ticket place fault) is rest = absurd (cc is)
    by (events.Worked place fault) is rest = absurd (cc is)

-- what a trail's acks and commands are, cut in two
numbered_append : (st : State) (count : ℕ) (xs ys : List Event)
    → numbered st count (xs ++ ys)
    ≡ numbered st count xs ++ numbered (fold after st xs) (count + commands_in st xs) ys
numbered_append st count [] ys = ap (λ n. numbered st n ys) (omega arith)
numbered_append st count (e ∷ xs) ys =
    ap (λ (more : List Ack). acks_for count (e ∷ []) ++ more)
    (numbered_append (after st e) (count + commands_of st e) xs ys
    ∙ ap (λ n. numbered (after st e) (count + commands_of st e) xs ++ numbered (fold after (after st e) xs) n ys)
    (omega arith))
    ∙ sym
    (append_assoc (acks_for count (e ∷ [])) (numbered (after st e) (count + commands_of st e) xs)
    (numbered (fold after (after st e) xs) (count + (commands_of st e + commands_in (after st e) xs)) ys))

commands_append : (st : State) (xs ys : List Event)
    → commands_in st (xs ++ ys) ≡ commands_in st xs + commands_in (fold after st xs) ys
commands_append st [] ys = omega arith
commands_append st (e ∷ xs) ys = omega (arith, commands_append (after st e) xs ys)

-- ---- one step

-- where a command counts one, a step that is done takes just so many
op_takes : (op : Op) (end : StepDone) (before now : ℕ) → IsEndOfOp op end
    → ((counts : Twin) → end ≢ ends.Failed counts)
    → IsCounted (least_commands end) (most_commands op * 1) before now → now < 2 ^ 64 - 1
    → now ≡ before + cond (is_flush op) 1 2
op_takes (Put at bytes) ends.Wrote before now is well counted low =
    omega (arith, low, counted.at_least, counted.at_most)
op_takes (Put at bytes) (ends.Failed counts) before now is well counted low = absurd (well counts refl)
op_takes (Put at bytes) (ends.Read answer) before now is well counted low = absurd is
op_takes (Put at bytes) ends.Flushed before now is well counted low = absurd is
op_takes (Mark at) ends.Wrote before now is well counted low =
    omega (arith, low, counted.at_least, counted.at_most)
op_takes (Mark at) (ends.Failed counts) before now is well counted low = absurd (well counts refl)
op_takes (Mark at) (ends.Read answer) before now is well counted low = absurd is
op_takes (Mark at) ends.Flushed before now is well counted low = absurd is
op_takes (Flush at) ends.Flushed before now is well counted low =
    omega (arith, low, counted.at_least, counted.at_most)
op_takes (Flush at) (ends.Failed counts) before now is well counted low = absurd (well counts refl)
op_takes (Flush at) (ends.Read answer) before now is well counted low = absurd is
op_takes (Flush at) ends.Wrote before now is well counted low = absurd is

read_takes : (end : StepDone) (before now : ℕ) → IsEndOfRead end → ((counts : Twin) → end ≢ ends.Failed counts)
    → IsCounted (least_commands end) (2 * 1) before now → now < 2 ^ 64 - 1 → now ≡ before + 2
read_takes (ends.Read answer) before now is well counted low = omega (arith, low, counted.at_least, counted.at_most)
read_takes (ends.Failed counts) before now is well counted low = absurd (well counts refl)
read_takes ends.Wrote before now is well counted low = absurd is
read_takes ends.Flushed before now is well counted low = absurd is

module _ {D : Type 0} (drive : Ghosts D) (one : drive.MOST ≡ 1) (st : State) (old new : D)
    (low : drive.commands new < 2 ^ 64 - 1) where
  as_one : (least most : ℕ) → IsCounted least (most * drive.MOST) (drive.commands old) (drive.commands new)
      → IsCounted least (most * 1) (drive.commands old) (drive.commands new)
  as_one least most counted =
      subst (λ n. IsCounted least (most * n) (drive.commands old) (drive.commands new)) one counted

  step_takes : (e : Event) → IsActOf drive st old new e → fault_of e ≡ None
      → (drive.commands new ≡ drive.commands old + commands_of st e) × (acks_for (drive.commands old) (e ∷ []) ≡ [])
      × ((later : List Event) → acks_for (drive.commands new) (e ∷ later) ≡ acks_for (drive.commands new) later)
  step_takes (events.Worked place None) (op, later, end, first, at, well, step) none = (
    op_takes op end (drive.commands old) (drive.commands new) step.ends well
        (as_one (least_commands end) (most_commands op) step.made.commands) low
        ∙ ap (λ (os : List waiting.Op). drive.commands old + by (first_of os)) (sym first),
    refl,
    λ later. refl,
  )
    where
      by : Option waiting.Op → ℕ
      by None = 0
      by (Some op) = cond op.flush 1 2
  step_takes (events.Served ticket place None) (end, well, step) none = (
    read_takes end (drive.commands old) (drive.commands new) step.ends well
        (as_one (least_commands end) 2 step.made.commands) low,
    refl,
    λ later. refl,
  )
  step_takes (events.Worked place (Some counts)) act none = absurd (cc none)
  step_takes (events.Served ticket place (Some counts)) act none = absurd (cc none)
  step_takes (events.Wants ticket place) act none = absurd act
  step_takes (events.Queues place) act none = absurd act
  step_takes (events.Syncs ticket) act none = absurd act
  step_takes (events.Synced ticket) act none = absurd act
  step_takes (events.Drains who) act none = absurd act
  step_takes (events.Rests who) act none = absurd act

  -- and so do the events of a call
  call_takes : (added : List Event) → AreActs drive st old new added → filter_map fault_of added ≡ []
      → (drive.commands new ≡ drive.commands old + commands_in st added)
      × (acks_for (drive.commands new) added ≡ numbered st (drive.commands old) added)
  call_takes _ (acts.none added all still) none =
      let takes = others_take_none st (drive.commands old) added all in
      let same : drive.commands new ≡ drive.commands old = ap drive.commands still in (
        omega (arith, same, takes.1),
        ap (λ n. acks_for n added) same ∙ sym takes.0,
      )
  call_takes _ (acts.one e others act all) none =
      let takes = step_takes e act (no_first e others none) in
      let behind = others_take_none (after st e) (drive.commands old + commands_of st e) others all in (
        omega (arith, takes.0, behind.1),
        takes.2 others ∙ ap (λ n. acks_for n others) takes.0 ∙ sym behind.0
            ∙ ap (λ (more : List Ack). more ++ numbered (after st e) (drive.commands old + commands_of st e) others)
            (sym takes.1),
      )
    where
      no_first : (e : Event) (others : List Event) → filter_map fault_of (e ∷ others) ≡ [] → fault_of e ≡ None
      no_first e others none = by (fault_of e) refl
        where
          by : (told : Option Twin) → fault_of e ≡ told → fault_of e ≡ None
          by None is = is
          by (Some counts) is = absurd (cc (is, none))

-- ---- the head

put_behind : (op : Op) (end : StepDone) (head : Option Place) → IsEndOfOp op end
    → ((counts : Twin) → end ≢ ends.Failed counts) → is_flush op ≡ false
    → head_after (place_of op) end head ≡ Some (next (place_of op))
put_behind (Put at bytes) ends.Wrote head is well item = refl
put_behind (Mark at) ends.Wrote head is well item = refl
put_behind (Flush at) end head is well item = absurd (cc item)
put_behind (Put at bytes) (ends.Failed counts) head is well item = absurd (well counts refl)
put_behind (Mark at) (ends.Failed counts) head is well item = absurd (well counts refl)
put_behind (Put at bytes) (ends.Read answer) head is well item = absurd is
put_behind (Put at bytes) ends.Flushed head is well item = absurd is
put_behind (Mark at) (ends.Read answer) head is well item = absurd is
put_behind (Mark at) ends.Flushed head is well item = absurd is

read_behind : (place : Place) (end : StepDone) (head : Option Place) → IsEndOfRead end
    → ((counts : Twin) → end ≢ ends.Failed counts)
    → (head_after place end head ≡ Some (next place)) ⊎ (head_after place end head ≡ Some place)
read_behind place (ends.Read gots.Block) head is well = inl refl
read_behind place (ends.Read gots.Mark) head is well = inl refl
read_behind place (ends.Read gots.End) head is well = inr refl
read_behind place (ends.Read gots.Torn) head is well = inr refl
read_behind place (ends.Failed counts) head is well = absurd (well counts refl)
read_behind place ends.Wrote head is well = absurd is
read_behind place ends.Flushed head is well = absurd is

-- where the head stands after an item was put, and after a place was read
pub heads_follow_acts : {D : Type 0} (drive : Ghosts D) → HeadsFollowActs drive
heads_follow_acts drive st old new (events.Worked place None) (op, later, end, first, at, well, step) =
    subst (λ (os : List waiting.Op). StandsBehind (events.Worked place None) (first_of os) (drive.head new)) (sym first)
    (λ item.
    step.made.head ∙ put_behind op end (drive.head old) step.ends well item
    ∙ ap (λ (p : Place). Some (next p)) (sym at))
heads_follow_acts drive st old new (events.Served ticket place None) (end, well, step) =
    subst (λ head. (head ≡ Some (next place)) ⊎ (head ≡ Some place)) (sym step.made.head)
    (read_behind place end (drive.head old) step.ends well)
heads_follow_acts drive st old new (events.Worked place (Some counts)) act = tt
heads_follow_acts drive st old new (events.Served ticket place (Some counts)) act = tt
heads_follow_acts drive st old new (events.Wants ticket place) act = absurd act
heads_follow_acts drive st old new (events.Queues place) act = absurd act
heads_follow_acts drive st old new (events.Syncs ticket) act = absurd act
heads_follow_acts drive st old new (events.Synced ticket) act = absurd act
heads_follow_acts drive st old new (events.Drains who) act = absurd act
heads_follow_acts drive st old new (events.Rests who) act = absurd act

-- ---- a whole run

commands_rise : {D : Type 0} (drive : Ghosts D) (st : State) (old new : D) (added : List Event)
    → AreActs drive st old new added → drive.commands old ≤ drive.commands new
commands_rise drive st old new _ (acts.none added all still) = omega (arith, ap drive.commands still)
commands_rise drive st old new _ (acts.one e others act all) = by e act
  where
    by : (e : Event) → IsActOf drive st old new e → drive.commands old ≤ drive.commands new
    by (events.Worked place fault) (op, later, end, first, at, well, step) = step.made.commands.later
    by (events.Served ticket place fault) (end, well, step) = step.made.commands.later
    by (events.Wants ticket place) act = absurd act
    by (events.Queues place) act = absurd act
    by (events.Syncs ticket) act = absurd act
    by (events.Synced ticket) act = absurd act
    by (events.Drains who) act = absurd act
    by (events.Rests who) act = absurd act

both_none : (xs ys : List Twin) → xs ++ ys ≡ [] → (xs ≡ []) × (ys ≡ [])
both_none [] ys none = (refl, none)
both_none (x ∷ xs) ys none = absurd (cc none)

exact_of : {D : Type 0} (drive : Ghosts D) (Holds : List Placed → List Ack → D → Type 0) (first last : D)
    (history : List Placed) (trail : List Event) (acks : List Ack)
    → HasGone drive Holds first history trail acks last → drive.MOST ≡ 1 → filter_map fault_of trail ≡ []
    → drive.commands last < 2 ^ 64 - 1
    → (acks ≡ numbered start (drive.commands first) trail)
    × (drive.commands last ≡ drive.commands first + commands_in start trail)
exact_of drive Holds first _ _ _ _ (acts.begun holds) one none low = (refl, omega arith)
exact_of drive Holds first last _ _ _
    (acts.called history placed trail added acks old _ gone few act holds) one none low =
    let split = both_none (filter_map fault_of trail) (filter_map fault_of added)
    (sym (filter_map-append fault_of trail added) ∙ none) in
    let later = commands_rise drive (after_all trail) old last added act in
    let before = exact_of drive Holds first old history trail acks gone one split.0 (omega (arith, later, low)) in
    let here = call_takes drive one (after_all trail) old last low added act split.1 in (
      ap (λ (xs : List Ack). xs ++ acks_for (drive.commands last) added) before.0
          ∙ ap (λ (xs : List Ack). numbered start (drive.commands first) trail ++ xs)
          (here.1 ∙ ap (λ n. numbered (after_all trail) n added) before.1)
          ∙ sym (numbered_append start (drive.commands first) trail added),
      omega (arith, before.1, here.0, commands_append start trail added),
    )

-- where each command counts one and no step failed, a trail has one list of acks
pub acks_are_exact : {D : Type 0} (drive : Ghosts D) → AcksAreExact drive
acks_are_exact drive first last history trail acks gone one none low =
    exact_of drive (λ history acks d. Unit {0}) first last history trail acks gone one none low

-- ---- steps and commands

no_steps : (added : List Event) → All (λ e. is_step e ≡ false) added → steps added ≡ 0
no_steps [] none = refl
no_steps (e ∷ later) none =
    by e (All-head (λ (e : Event). is_step e ≡ false) e later none)
    (no_steps later (All-tail (λ (e : Event). is_step e ≡ false) e later none))
  where
    by : (e : Event) → is_step e ≡ false → steps later ≡ 0 → steps (e ∷ later) ≡ 0
    by (events.Wants ticket place) is rest = rest
    by (events.Queues place) is rest = rest
    by (events.Syncs ticket) is rest = rest
    by (events.Synced ticket) is rest = rest
    by (events.Drains who) is rest = rest
    by (events.Rests who) is rest = rest
    by (events.Served ticket place fault) is rest = absurd (cc is)
    by (events.Worked place fault) is rest = absurd (cc is)

takes_one : (end : StepDone) → 1 ≤ least_commands end
takes_one (ends.Read answer) = omega arith
takes_one ends.Wrote = omega arith
takes_one ends.Flushed = omega arith
takes_one (ends.Failed counts) = omega arith

steps_of : {D : Type 0} (drive : Ghosts D) (st : State) (old new : D) (added : List Event)
    → AreActs drive st old new added → min (drive.commands old + steps added) (2 ^ 64 - 1) ≤ drive.commands new
steps_of drive st old new _ (acts.none added all still) =
    omega (arith, ap drive.commands still, no_steps added all)
steps_of drive st old new _ (acts.one e others act all) = by e act
  where
    by : (e : Event) → IsActOf drive st old new e
        → min (drive.commands old + steps (e ∷ others)) (2 ^ 64 - 1) ≤ drive.commands new
    by (events.Worked place fault) (op, later, end, first, at, well, step) =
        omega (arith, step.made.commands.at_least, takes_one end, no_steps others all)
    by (events.Served ticket place fault) (end, well, step) =
        omega (arith, step.made.commands.at_least, takes_one end, no_steps others all)
    by (events.Wants ticket place) act = absurd act
    by (events.Queues place) act = absurd act
    by (events.Syncs ticket) act = absurd act
    by (events.Synced ticket) act = absurd act
    by (events.Drains who) act = absurd act
    by (events.Rests who) act = absurd act

risen : {D : Type 0} (drive : Ghosts D) (Holds : List Placed → List Ack → D → Type 0) (first last : D)
    (history : List Placed) (trail : List Event) (acks : List Ack)
    → HasGone drive Holds first history trail acks last
    → min (drive.commands first + steps trail) (2 ^ 64 - 1) ≤ drive.commands last
risen drive Holds first _ _ _ _ (acts.begun holds) = omega arith
risen drive Holds first last _ _ _ (acts.called history placed trail added acks old _ gone few act holds) =
    omega (
      arith,
      risen drive Holds first old history trail acks gone,
      steps_of drive (after_all trail) old last added act,
      ap length (filter_map-append step_to trail added),
      length-append (filter_map step_to trail) (filter_map step_to added),
    )

-- each step has taken a command at least
pub steps_take_commands : {D : Type 0} (drive : Ghosts D) → StepsTakeCommands drive
steps_take_commands drive first last history trail acks gone =
    risen drive (λ history acks d. Unit {0}) first last history trail acks gone
