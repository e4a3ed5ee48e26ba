use Rattle.std.proofs.Common.{◌≡◌, sym, ap, ◌∙◌, subst, [], ◌∷◌, ◌++◌, refl}
use Rattle.std.specs.Str.{IsUtf8}
use Rattle.plain_tree.specs.declared.calls.Call.TheVariants as asks
use Rattle.plain_tree.specs.Paths.{moved_path}
use Rattle.file_tree.specs.Tree.{FileTree, number_at}
use Rattle.file_tree.specs.Edits.{CanMoveTo, IsAfter, NumbersCome, AllLie}
use Rattle.file_tree.proofs.LeaveLemmas.{can_shift, shift_there, note_there, leave_there, move_here, move_good, move_numbers, move_lies}
use Rattle.file_tree.proofs.BlockLemmas.{all_lie_adds}
use Rattle.file_tree.proofs.InsideLemmas.{tree_of, with_nodes}
use Rattle.file_tree.proofs.tree.Tree.move_to.Goals as goal

pub shift-requires : goal.shift-requires
shift-requires c =
    let t : FileTree = tree_of c.self.inside in
    let can : CanMoveTo t c.args.number c.args.dir c.args.name = subst (λ (t : FileTree). CanMoveTo t c.args.number c.args.dir c.args.name) (sym c.self.view_is) c.requires in
    can_shift t c.self.invariant c.args.number c.args.dir c.args.name c.args.at can

pub change-requires-clause-there : goal.change-requires-clause-there
change-requires-clause-there c =
    let t : FileTree = tree_of c.self.inside in
    let can : CanMoveTo t c.args.number c.args.dir c.args.name = subst (λ (t : FileTree). CanMoveTo t c.args.number c.args.dir c.args.name) (sym c.self.view_is) c.requires in
    shift_there t c.self.invariant c.args.number c.args.dir c.args.name c.args.at can c.shift.new.self.nodes c.shift.ensures.shifted

pub change-requires-2-clause-there : goal.change-requires-2-clause-there
change-requires-2-clause-there c =
    let t : FileTree = tree_of c.self.inside in
    let can : CanMoveTo t c.args.number c.args.dir c.args.name = subst (λ (t : FileTree). CanMoveTo t c.args.number c.args.dir c.args.name) (sym c.self.view_is) c.requires in
    note_there t c.self.invariant c.args.number c.args.dir c.args.name c.args.at can c.shift.new.self.nodes c.shift.ensures.shifted c.parent-old.result c.parent-old.ensures.parent c.change.new.self.nodes c.change.ensures.changed

pub change-requires-3-clause-there : goal.change-requires-3-clause-there
change-requires-3-clause-there c =
    let t : FileTree = tree_of c.self.inside in
    let can : CanMoveTo t c.args.number c.args.dir c.args.name = subst (λ (t : FileTree). CanMoveTo t c.args.number c.args.dir c.args.name) (sym c.self.view_is) c.requires in
    leave_there t c.self.invariant c.args.number c.args.dir c.args.name c.args.at can c.shift.new.self.nodes c.shift.ensures.shifted c.parent-old.result c.parent-old.ensures.parent c.change.new.self.nodes c.change.ensures.changed c.change-2.new.self.nodes c.change-2.ensures.changed

pub invariant_of-self : goal.invariant_of-self
invariant_of-self c =
    let t : FileTree = tree_of c.self.inside in
    let can : CanMoveTo t c.args.number c.args.dir c.args.name = subst (λ (t : FileTree). CanMoveTo t c.args.number c.args.dir c.args.name) (sym c.self.view_is) c.requires in
    let next : FileTree = with_nodes c.self.inside c.change-3.new.self.nodes c.change-3.new.self.spare in
    move_good t c.self.invariant c.args.number c.args.dir c.args.name c.args.at can c.shift.new.self.nodes c.shift.ensures.shifted c.parent-old.result c.parent-old.ensures.parent c.change.new.self.nodes c.change.ensures.changed c.change-2.new.self.nodes c.change-2.ensures.changed next c.change-3.ensures.changed refl refl refl refl (subst IsUtf8 c.as_str-is_text.ensures c.as_str-is_text.utf8)

pub returns-clause-plain : goal.returns-clause-plain
returns-clause-plain c from up stands dir_stands =
    let t : FileTree = tree_of c.self.inside in
    let can : CanMoveTo t c.args.number c.args.dir c.args.name = subst (λ (t : FileTree). CanMoveTo t c.args.number c.args.dir c.args.name) (sym c.self.view_is) c.requires in
    let next : FileTree = with_nodes c.self.inside c.change-3.new.self.nodes c.change-3.new.self.spare in
    let from_is : can.path ≡ from = c.parent-old.ensures.apart can.path from c.args.number can.stands (ap (λ (t : FileTree). number_at t.nodes from) c.self.view_is ∙ stands) in
    let up_is : can.up ≡ up = c.parent-old.ensures.apart can.up up c.args.dir can.dir_stands (ap (λ (t : FileTree). number_at t.nodes up) c.self.view_is ∙ dir_stands) in
    subst (λ p. IsAfter (asks.Rename p (up ++ c.args.name ∷ [])) c.args.at c.args.self.now next) from_is
    (subst (λ u. IsAfter (asks.Rename can.path (u ++ c.args.name ∷ [])) c.args.at c.args.self.now next) up_is
    (subst (λ (t : FileTree). IsAfter (asks.Rename can.path (can.up ++ c.args.name ∷ [])) c.args.at t next) c.self.view_is (move_here t c.self.invariant c.args.number c.args.dir c.args.name c.args.at can c.shift.new.self.nodes c.shift.ensures.shifted c.parent-old.result c.parent-old.ensures.parent c.change.new.self.nodes c.change.ensures.changed c.change-2.new.self.nodes c.change-2.ensures.changed next c.change-3.ensures.changed refl refl refl)))

pub returns-clause-numbers : goal.returns-clause-numbers
returns-clause-numbers c from up stands dir_stands =
    let t : FileTree = tree_of c.self.inside in
    let can : CanMoveTo t c.args.number c.args.dir c.args.name = subst (λ (t : FileTree). CanMoveTo t c.args.number c.args.dir c.args.name) (sym c.self.view_is) c.requires in
    let next : FileTree = with_nodes c.self.inside c.change-3.new.self.nodes c.change-3.new.self.spare in
    let from_is : can.path ≡ from = c.parent-old.ensures.apart can.path from c.args.number can.stands (ap (λ (t : FileTree). number_at t.nodes from) c.self.view_is ∙ stands) in
    let up_is : can.up ≡ up = c.parent-old.ensures.apart can.up up c.args.dir can.dir_stands (ap (λ (t : FileTree). number_at t.nodes up) c.self.view_is ∙ dir_stands) in
    subst (λ p. NumbersCome (moved_path p (up ++ c.args.name ∷ [])) c.args.self.now next) from_is
    (subst (λ u. NumbersCome (moved_path can.path (u ++ c.args.name ∷ [])) c.args.self.now next) up_is
    (subst (λ (t : FileTree). NumbersCome (moved_path can.path (can.up ++ c.args.name ∷ [])) t next) c.self.view_is (move_numbers t c.self.invariant c.args.number c.args.dir c.args.name c.args.at can c.shift.new.self.nodes c.shift.ensures.shifted c.parent-old.result c.parent-old.ensures.parent c.change.new.self.nodes c.change.ensures.changed c.change-2.new.self.nodes c.change-2.ensures.changed next c.change-3.ensures.changed refl refl refl)))

pub returns-clause-extents : goal.returns-clause-extents
returns-clause-extents c =
    let t : FileTree = tree_of c.self.inside in
    let can : CanMoveTo t c.args.number c.args.dir c.args.name = subst (λ (t : FileTree). CanMoveTo t c.args.number c.args.dir c.args.name) (sym c.self.view_is) c.requires in
    let next : FileTree = with_nodes c.self.inside c.change-3.new.self.nodes c.change-3.new.self.spare in
    subst (λ (t : FileTree). AllLie t next) c.self.view_is (move_lies t c.self.invariant c.args.number c.args.dir c.args.name c.args.at can c.shift.new.self.nodes c.shift.ensures.shifted c.parent-old.result c.parent-old.ensures.parent c.change.new.self.nodes c.change.ensures.changed c.change-2.new.self.nodes c.change-2.ensures.changed next c.change-3.ensures.changed refl refl refl)

pub returns-clause-blocks : goal.returns-clause-blocks
returns-clause-blocks c = all_lie_adds c.args.self.now _ (returns-clause-extents c)
