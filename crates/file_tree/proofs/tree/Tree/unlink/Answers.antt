use Rattle.std.proofs.Common.{◌≡◌, sym, ap, ◌∙◌, subst, refl}
use Rattle.plain_tree.specs.declared.calls.Call.TheVariants as asks
use Rattle.file_tree.specs.Blocks.{AddsNoBlock}
use Rattle.file_tree.specs.Tree.{FileTree, number_at}
use Rattle.file_tree.specs.Edits.{CanUnlink, IsAfter, OthersLie}
use Rattle.file_tree.proofs.LeaveLemmas.{can_take, unlink_there, unlink_here, unlink_good, unlink_adds, unlink_numbers, unlink_gone, unlink_lies}
use Rattle.file_tree.proofs.InsideLemmas.{tree_of, with_nodes}
use Rattle.file_tree.proofs.tree.Tree.unlink.Goals as goal

pub take-requires : goal.take-requires
take-requires c =
    let t : FileTree = tree_of c.self.inside in
    let can : CanUnlink t c.args.number = subst (λ (t : FileTree). CanUnlink t c.args.number) (sym c.self.view_is) c.requires in
    can_take t c.self.invariant c.args.number c.args.at can

pub change-requires-clause-there : goal.change-requires-clause-there
change-requires-clause-there c =
    let t : FileTree = tree_of c.self.inside in
    let can : CanUnlink t c.args.number = subst (λ (t : FileTree). CanUnlink t c.args.number) (sym c.self.view_is) c.requires in
    unlink_there t c.self.invariant c.args.number c.args.at can c.parent-dir.result c.take.new.self.nodes c.parent-dir.ensures.parent c.take.ensures.taken

pub invariant_of-self : goal.invariant_of-self
invariant_of-self c =
    let t : FileTree = tree_of c.self.inside in
    let can : CanUnlink t c.args.number = subst (λ (t : FileTree). CanUnlink t c.args.number) (sym c.self.view_is) c.requires in
    let next : FileTree = with_nodes c.self.inside c.change.new.self.nodes c.change.new.self.spare in
    unlink_good t c.self.invariant c.args.number c.args.at can next c.parent-dir.result c.take.new.self.nodes c.parent-dir.ensures.parent c.take.ensures.taken c.change.ensures.changed refl refl refl refl

pub returns-clause-plain : goal.returns-clause-plain
returns-clause-plain c path stands =
    let t : FileTree = tree_of c.self.inside in
    let can : CanUnlink t c.args.number = subst (λ (t : FileTree). CanUnlink t c.args.number) (sym c.self.view_is) c.requires in
    let next : FileTree = with_nodes c.self.inside c.change.new.self.nodes c.change.new.self.spare in
    let same : can.path ≡ path = c.parent-dir.ensures.apart can.path path c.args.number can.stands (ap (λ (t : FileTree). number_at t.nodes path) c.self.view_is ∙ stands) in
    subst (λ p. IsAfter (asks.Remove p) c.args.at c.args.self.now next) same (subst (λ (t : FileTree). IsAfter (asks.Remove can.path) c.args.at t next) c.self.view_is (unlink_here t c.self.invariant c.args.number c.args.at can next c.parent-dir.result c.take.new.self.nodes c.parent-dir.ensures.parent c.take.ensures.taken c.change.ensures.changed refl refl refl))

pub returns-clause-gone : goal.returns-clause-gone
returns-clause-gone c =
    let t : FileTree = tree_of c.self.inside in
    let can : CanUnlink t c.args.number = subst (λ (t : FileTree). CanUnlink t c.args.number) (sym c.self.view_is) c.requires in
    let next : FileTree = with_nodes c.self.inside c.change.new.self.nodes c.change.new.self.spare in
    unlink_gone t c.self.invariant c.args.number c.args.at can next c.parent-dir.result c.take.new.self.nodes c.parent-dir.ensures.parent c.take.ensures.taken c.change.ensures.changed refl refl refl c.take.ensures.gone

pub returns-clause-numbers : goal.returns-clause-numbers
returns-clause-numbers c path k apart stands =
    let t : FileTree = tree_of c.self.inside in
    let can : CanUnlink t c.args.number = subst (λ (t : FileTree). CanUnlink t c.args.number) (sym c.self.view_is) c.requires in
    let next : FileTree = with_nodes c.self.inside c.change.new.self.nodes c.change.new.self.spare in
    unlink_numbers t c.self.invariant c.args.number c.args.at can next c.parent-dir.result c.take.new.self.nodes c.parent-dir.ensures.parent c.take.ensures.taken c.change.ensures.changed refl refl refl path k apart (ap (λ (t : FileTree). number_at t.nodes path) c.self.view_is ∙ stands)

pub returns-clause-extents : goal.returns-clause-extents
returns-clause-extents c =
    let t : FileTree = tree_of c.self.inside in
    let can : CanUnlink t c.args.number = subst (λ (t : FileTree). CanUnlink t c.args.number) (sym c.self.view_is) c.requires in
    let next : FileTree = with_nodes c.self.inside c.change.new.self.nodes c.change.new.self.spare in
    subst (λ (t : FileTree). OthersLie c.args.number t next) c.self.view_is (unlink_lies t c.self.invariant c.args.number c.args.at can next c.parent-dir.result c.take.new.self.nodes c.parent-dir.ensures.parent c.take.ensures.taken c.change.ensures.changed refl refl refl)

pub returns-clause-blocks : goal.returns-clause-blocks
returns-clause-blocks c =
    let t : FileTree = tree_of c.self.inside in
    let can : CanUnlink t c.args.number = subst (λ (t : FileTree). CanUnlink t c.args.number) (sym c.self.view_is) c.requires in
    let next : FileTree = with_nodes c.self.inside c.change.new.self.nodes c.change.new.self.spare in
    subst (λ (t : FileTree). AddsNoBlock t next) c.self.view_is (unlink_adds t c.self.invariant c.args.number c.args.at can next c.parent-dir.result c.take.new.self.nodes c.parent-dir.ensures.parent c.take.ensures.taken c.change.ensures.changed refl refl refl)
