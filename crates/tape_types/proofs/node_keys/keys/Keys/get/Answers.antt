use Rattle.std.proofs.Common.{rules, ap, sym, subst, ◌∙◌, Some}
use Rattle.tape_types.specs.declared.node_keys.xattrs.Xattr.{Xattr}
use Rattle.tape_types.specs.NodeKeys.Places.{IsKeyAt, IsGapFor}
use Rattle.tape_types.proofs.NodeKeys.Changed.{get_here, get_gap}
use Rattle.tape_types.proofs.node_keys.keys.Keys.get.Goals as goal

pub returns-in-Ok : goal.returns-in-Ok
returns-in-Ok c =
    let here = subst (λ xs. IsKeyAt xs c.args.key.now c.in-Ok.at) c.deref.ensures.value c.in-Ok.ensures.there in
    ap (λ (x : Xattr). Some x.value) c.index.ensures ∙ sym (get_here c.self.inside.items.items c.self.invariant c.args.key.now c.in-Ok.at here c.index.result.now) ∙ search rules

pub returns-in-Err : goal.returns-in-Err
returns-in-Err c =
    let gap = subst (λ xs. IsGapFor xs c.args.key.now c.in-Err.field-0) c.deref.ensures.value c.in-Err.ensures.absent in
    sym (get_gap c.self.inside.items.items c.self.invariant c.args.key.now c.in-Err.field-0 gap) ∙ search rules
