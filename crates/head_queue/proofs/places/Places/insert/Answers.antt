use Rattle.std.proofs.Common.{◌≡◌, ◌≢◌, ℕ, ◌<◌, ◌≤◌, List, ◌∷◌, length, map, Option, Some, ap, sym, subst, ◌∙◌, arith, rules}
use Rattle.std.specs.List.{AllByRecursion}
use Rattle.std.specs.Vec.{vec_len}
use Rattle.head_queue.specs.declared.entries.QueueEntry.{QueueEntry}
use Rattle.head_queue.specs.Cuts.{Misses}
use Rattle.head_queue.specs.Waiting.{Waiting}
use Rattle.head_queue.specs.Orders.{Order}
use Rattle.head_queue.specs.Entries.{waiting_at}
use Rattle.head_queue.specs.Ranks.{rank_of}
use Rattle.head_queue.specs.Kept.{AreKept, IsWalked}
use Rattle.head_queue.proofs.KeptLemmas.{misses_node, kept_more, order_more, map_both}
use Rattle.head_queue.proofs.places.Places.insert.Goals as goal

pub insert-requires-clause-apart : goal.insert-requires-clause-apart
insert-requires-clause-apart c = (
  λ e. let some : 1 ≤ c.args.number = c.requires.some in absurd (omega arith),
  misses_node c.self.inside.entries.items c.args.number c.self.inside.chain.members (subst (AllByRecursion (λ (w : Waiting). w.node ≢ c.args.number)) (sym (ap (λ (o : Order). o.order) c.self.view_is)) c.requires.apart),
)

pub invariant_of-self : goal.invariant_of-self
invariant_of-self c =
    let misses : Misses c.args.number (0 ∷ c.self.inside.chain.members) = (
      λ e. let some : 1 ≤ c.args.number = c.requires.some in absurd (omega arith),
      misses_node c.self.inside.entries.items c.args.number c.self.inside.chain.members (subst (AllByRecursion (λ (w : Waiting). w.node ≢ c.args.number)) (sym (ap (λ (o : Order). o.order) c.self.view_is)) c.requires.apart),
    ) in
    let walked = subst (λ (es : List (Option QueueEntry)). IsWalked es (rank_of c.args.entry.place c.args.entry.arrival) c.self.inside.chain.members c.last_before-at.result) c.deref-2.ensures.value c.last_before-at.ensures in
    subst (λ (n : ℕ). AreKept c.set.new.entries.items c.insert.new.self.members n) (sym c.insert.ensures.size)
    (subst (λ (ks : List ℕ). AreKept c.set.new.entries.items ks c.self.inside.chain.size) (sym (c.insert.ensures.members walked.passed.cut))
    (kept_more c.self.inside.entries.items c.set.new.entries.items c.args.number c.args.entry c.self.inside.chain.members c.self.inside.chain.size c.last_before-at.result c.self.invariant c.set.ensures.entries walked misses (record { pos = omega arith; arrival = omega arith })
    (subst (AllByRecursion (λ (w : Waiting). w.arrival < c.args.entry.arrival)) (sym (ap (λ (o : Order). o.order) c.self.view_is)) c.requires.latest) (let a : vec_len c.set.new.entries ≡ length c.set.new.entries.items = search rules in let b : vec_len c.self.inside.entries ≡ length c.self.inside.entries.items = search rules in sym a ∙ c.set.ensures.len ∙ b ∙ c.self.invariant.wide)))

pub returns-clause-order : goal.returns-clause-order
returns-clause-order c =
    let misses : Misses c.args.number (0 ∷ c.self.inside.chain.members) = (
      λ e. let some : 1 ≤ c.args.number = c.requires.some in absurd (omega arith),
      misses_node c.self.inside.entries.items c.args.number c.self.inside.chain.members (subst (AllByRecursion (λ (w : Waiting). w.node ≢ c.args.number)) (sym (ap (λ (o : Order). o.order) c.self.view_is)) c.requires.apart),
    ) in
    let walked = subst (λ (es : List (Option QueueEntry)). IsWalked es (rank_of c.args.entry.place c.args.entry.arrival) c.self.inside.chain.members c.last_before-at.result) c.deref-2.ensures.value c.last_before-at.ensures in
    record {
      front = map (waiting_at c.self.inside.entries.items) walked.passed.cut.front;
      behind = map (waiting_at c.self.inside.entries.items) walked.passed.cut.behind;
      before = sym (ap (λ (o : Order). o.order) c.self.view_is) ∙ ap (map (waiting_at c.self.inside.entries.items)) walked.passed.cut.parts ∙ map_both (waiting_at c.self.inside.entries.items) walked.passed.cut.front walked.passed.cut.behind;
      now = ap (map (waiting_at c.set.new.entries.items)) (c.insert.ensures.members walked.passed.cut)
          ∙ order_more c.self.inside.entries.items c.set.new.entries.items c.args.number (Some c.args.entry) c.self.inside.chain.members c.last_before-at.result c.set.ensures.entries walked.passed.cut misses.1;
    }
