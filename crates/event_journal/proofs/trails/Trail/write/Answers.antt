use Rattle.std.proofs.Common.{rules, arith, ◌≡◌, ◌-◌, vec_len, vec_capacity, true, Some, None, sym, ap, subst, ◌∙◌}
use Rattle.session_script.specs.declared.logs.Event.TheVariants.{Worked}
use Rattle.head_queue.specs.EventLaws.Trail.{after, after_all, allows}
use Rattle.event_journal.specs.Trails.{Journaled, state}
use Rattle.event_journal.proofs.TrailLemmas.{IsMoved, free, some_left, written_tracked}
use Rattle.event_journal.proofs.trails.Trail.write.Goals as goal
use Rattle.event_journal.proofs.trails.Trail.write.Goals.{in-Wants, in-Queues, in-Syncs, in-Drains, in-Synced}
use Rattle.event_journal.proofs.trails.Trail.write.Goals.{in-Rests}
use Rattle.event_journal.proofs.trails.Trail.write.Goals.{in-Served, in-Worked-default-None, in-Worked-default-Some}

pub bound_behind-self-inside-requires-clause-some : goal.bound_behind-self-inside-requires-clause-some
bound_behind-self-inside-requires-clause-some c =
    let may : allows (after_all c.self.inside.events.items) c.args.event ≡ true =
    subst (λ (j : Journaled). allows (state j) c.args.event ≡ true) (sym c.self.view_is) c.requires.allowed in
    some_left c.self.inside.events.items c.self.inside.bound c.args.event c.self.invariant.bounded may

pub invariant_of-self : goal.invariant_of-self
invariant_of-self c =
    let moved : IsMoved c.args.event c.args.commands c.bound_behind-self-inside.result c.self.inside
    c.match-event.self-inside =
    elim c.match-event.branch [
      | in-Wants w ↦ rw (w.in-Wants.is, w.self-inside-is) (search rules)
      | in-Queues w ↦ rw (w.in-Queues.is, w.self-inside-is) (search rules)
      | in-Syncs w ↦ rw (w.in-Syncs.is, w.self-inside-is) (search rules)
      | in-Drains w ↦ rw (w.in-Drains.is, w.self-inside-is) (search rules)
      | in-Synced w ↦ rw (w.in-Synced.is, w.self-inside-is) (search rules)
      | in-Rests w ↦ rw (w.in-Rests.is, w.self-inside-is) (search rules)
      | in-Served w ↦ rw (w.in-Served.is, w.self-inside-is) (search rules)
      | in-Worked-default-None w ↦
          let arm = w.in-Worked-default-None in
          let none : arm.fault ≡ None = rw arm.is at arm.fault-is in
          rw (arm.is ∙ ap (Worked arm.place) none, w.self-inside-is) (search rules)
      | in-Worked-default-Some w ↦
          let arm = w.in-Worked-default-Some in
          let some : arm.fault ≡ Some arm.counts = rw arm.is at arm.fault-is in
          rw (arm.is ∙ ap (Worked arm.place) some, w.self-inside-is) (search rules)
    ] in
    let may : allows (after_all c.self.inside.events.items) c.args.event ≡ true =
    subst (λ (j : Journaled). allows (state j) c.args.event ≡ true) (sym c.self.view_is) c.requires.allowed in
    let head : c.args.head ≡ (after (after_all c.self.inside.events.items) c.args.event).head =
    subst (λ (j : Journaled). c.args.head ≡ (after (state j) c.args.event).head) (sym c.self.view_is)
    c.requires.head in
    let waiters : free c.self.inside ≡ c.args.self.now.waiters = ap (λ (j : Journaled). j.waiters) c.self.view_is in
    let room : vec_capacity c.self.inside.events - vec_len c.self.inside.events - c.self.inside.bound
    ≡ c.args.self.now.spare = ap (λ (j : Journaled). j.spare) c.self.view_is in
    let same_len : vec_len c.match-event.self-inside.events ≡ vec_len c.self.inside.events =
    ap vec_len moved.events in
    let same_room : vec_capacity c.match-event.self-inside.events ≡ vec_capacity c.self.inside.events =
    ap vec_capacity moved.events in
    written_tracked c.args.event c.args.commands _ c.self.inside c.match-event.self-inside _ _ _ c.self.invariant may
    moved c.bound_behind-self-inside.ensures c.push-2.ensures.items head
    (omega (arith, waiters, c.requires.waiter)) (omega (arith, room, c.requires.room))
    (omega (arith, c.push-2.ensures.len, c.push-2.ensures.capacity, same_len, same_room))
