use denote.Enum.Bare.{sameb}
use Rattle.tape_types.specs.contracts.cartridges.Part.{the_type}
use Rattle.tape_types.specs.declared.cartridges.Part.{Part}
use Rattle.tape_types.specs.declared.cartridges.Part.TheVariants.{Ip, Dp}
use Rattle.std.proofs.Common.{false, ◌≡◌, ◌≢◌, ◌<◌, List, map, Option, Some, ap, sym, subst, ◌∙◌}
use Rattle.std.specs.List.{AllByRecursion}
use Rattle.head_queue.specs.declared.entries.QueueEntry.{QueueEntry}
use Rattle.head_queue.specs.Waiting.{Waiting}
use Rattle.head_queue.specs.Orders.{Order}
use Rattle.head_queue.specs.Entries.{entry_at, waiting, waiting_at}
use Rattle.head_queue.specs.Ranks.{rank, rank_of}
use Rattle.head_queue.specs.Kept.{IsFirst, IsWalked}
use Rattle.head_queue.proofs.FirstLemmas.{walked_some, walked_none, other_first}
use Rattle.head_queue.proofs.places.Places.first_from.Goals as goal

differ : (a b : Part) → sameb the_type a b ≡ false → a ≢ b
differ Ip Ip h e = cc
differ Ip Dp h e = cc
differ Dp Ip h e = cc
differ Dp Dp h e = cc

pub returns-in_default-clause-none : goal.returns-in_default-clause-none
returns-in_default-clause-none c =
    let walked = subst (λ (es : List (Option QueueEntry)). IsWalked es (rank_of c.args.place 0) c.self.inside.chain.members c.last_before-at.result) c.deref-2.ensures.value c.last_before-at.ensures in
    let next = c.after-next.ensures walked.passed.cut in
    let is : c.get.result ≡ entry_at c.self.inside.entries.items c.after-next.result = c.get.ensures ∙ ap (λ (es : List (Option QueueEntry)). entry_at es c.after-next.result) c.deref-3.ensures.value in
    subst (AllByRecursion (λ (w : Waiting). w.place.part ≡ c.args.place.part → rank w < rank_of c.args.place 0)) (ap (λ (o : Order). o.order) c.self.view_is)
    (walked_none c.self.inside.entries.items c.self.inside.chain.members c.self.inside.chain.size (rank_of c.args.place 0) c.last_before-at.result c.after-next.result c.args.place.part c.self.invariant walked next (sym is ∙ c.in_default.is))

pub returns-then-eq-clause-some : goal.returns-then-eq-clause-some
returns-then-eq-clause-some c =
    let walked = subst (λ (es : List (Option QueueEntry)). IsWalked es (rank_of c.args.place 0) c.self.inside.chain.members c.last_before-at.result) c.deref-2.ensures.value c.last_before-at.ensures in
    let next = c.after-next.ensures walked.passed.cut in
    let is : c.get.result ≡ entry_at c.self.inside.entries.items c.after-next.result = c.get.ensures ∙ ap (λ (es : List (Option QueueEntry)). entry_at es c.after-next.result) c.deref-3.ensures.value in
    subst (λ (ws : List Waiting). IsFirst ws (rank_of c.args.place 0) (waiting c.after-next.result (Some c.in-Some.entry))) (ap (λ (o : Order). o.order) c.self.view_is)
    (walked_some c.self.inside.entries.items c.self.inside.chain.members (rank_of c.args.place 0) c.last_before-at.result c.after-next.result c.in-Some.entry walked next (sym is ∙ c.in-Some.is))

pub returns-else-eq-clause-none : goal.returns-else-eq-clause-none
returns-else-eq-clause-none c =
    let walked = subst (λ (es : List (Option QueueEntry)). IsWalked es (rank_of c.args.place 0) c.self.inside.chain.members c.last_before-at.result) c.deref-2.ensures.value c.last_before-at.ensures in
    let next = c.after-next.ensures walked.passed.cut in
    let is : c.get.result ≡ entry_at c.self.inside.entries.items c.after-next.result = c.get.ensures ∙ ap (λ (es : List (Option QueueEntry)). entry_at es c.after-next.result) c.deref-3.ensures.value in
    let ne : c.in-Some.entry.place.part ≢ c.args.place.part = differ c.in-Some.entry.place.part c.args.place.part (sym c.eq.ensures ∙ c.if-eq.false) in
    subst (AllByRecursion (λ (w : Waiting). w.place.part ≡ c.args.place.part → rank w < rank_of c.args.place 0)) (ap (λ (o : Order). o.order) c.self.view_is)
    (other_first (map (waiting_at c.self.inside.entries.items) c.self.inside.chain.members) c.args.place (waiting c.after-next.result (Some c.in-Some.entry)) c.self.invariant.ordered
    (walked_some c.self.inside.entries.items c.self.inside.chain.members (rank_of c.args.place 0) c.last_before-at.result c.after-next.result c.in-Some.entry walked next (sym is ∙ c.in-Some.is)) ne)
