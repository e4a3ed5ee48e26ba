use Rattle.std.proofs.Common.{◌≡◌, ◌≤◌, [], ◌∷◌, ◌++◌, length, subst, ap, ◌∙◌, arith, rules}
use Rattle.file_tree.specs.Seen.{held}
use Rattle.file_tree.specs.Order.{AreEmpty}
use Rattle.file_tree.proofs.PlaceLemmas.{held_past}
use Rattle.file_tree.proofs.IndexedLemmas.{empty_last, empty_more}
use Rattle.file_tree.proofs.places.store_node.Goals as goal

pub fill-requires : goal.fill-requires
fill-requires c =
    let at = held c.args.store.now.spots in
    let bound = length c.args.store.now.spots in
    let split : c.args.free.now.items ≡ c.pop.new.self.items ++ c.in-Some.number ∷ [] = search rules in
    let last = empty_last at bound c.pop.new.self.items c.in-Some.number (subst (AreEmpty at bound) split c.requires.empty) in
    record { path = c.requires.can.path; stands = c.requires.can.stands; free = c.requires.can.free; within = last.0; empty = last.1 }

pub returns-in-Some-clause-unused : goal.returns-in-Some-clause-unused
returns-in-Some-clause-unused c =
    let at = held c.args.store.now.spots in
    let bound = length c.args.store.now.spots in
    let split : c.args.free.now.items ≡ c.pop.new.self.items ++ c.in-Some.number ∷ [] = search rules in
    (empty_last at bound c.pop.new.self.items c.in-Some.number (subst (AreEmpty at bound) split c.requires.empty)).1

pub returns-in-Some-clause-empty : goal.returns-in-Some-clause-empty
returns-in-Some-clause-empty c =
    let at = held c.args.store.now.spots in
    let bound = length c.args.store.now.spots in
    let split : c.args.free.now.items ≡ c.pop.new.self.items ++ c.in-Some.number ∷ [] = search rules in
    let last = empty_last at bound c.pop.new.self.items c.in-Some.number (subst (AreEmpty at bound) split c.requires.empty) in
    let same : bound ≤ length c.fill.new.self.spots = omega (arith, c.fill.ensures.slots) in
    empty_more at (held c.fill.new.self.spots) bound (length c.fill.new.self.spots) c.pop.new.self.items same
    (λ n here none. c.fill.ensures.spots.kept.others n (λ e. last.2 (subst (λ k. Rattle.file_tree.specs.Order.IsIn k c.pop.new.self.items) e here)) ∙ none) last.3

pub returns-else-is_err-clause-unused : goal.returns-else-is_err-clause-unused
returns-else-is_err-clause-unused c =
    held_past c.args.store.now.spots (length c.spots.result.now) (omega (arith, ap length c.spots.ensures.spots))
