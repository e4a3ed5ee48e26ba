use Rattle.std.proofs.Common.{◌≡◌, ◌≤◌, ◌-◌, rules, ap, sym, subst, ◌∙◌, length, arith}
use Rattle.std.specs.FinMap as fin
use Rattle.std.specs.Vec.{vec_len, vec_capacity}
use Rattle.tape_types.specs.NodeKeys.Keys.{map_of, IsAscending}
use Rattle.tape_types.specs.NodeKeys.Places.{IsKeyAt, IsGapFor}
use Rattle.tape_types.proofs.NodeKeys.Ordered.{len_is}
use Rattle.tape_types.proofs.NodeKeys.Changed.{drop_here, drop_gap}
use Rattle.tape_types.proofs.node_keys.keys.Keys.drop_key.Goals as goal

pub invariant_of-self : goal.invariant_of-self
invariant_of-self c =
    let here = subst (λ xs. IsKeyAt xs c.args.key.now c.in-Ok.at) c.deref.ensures.value c.in-Ok.ensures.there in
    subst IsAscending (sym c.remove-gone.ensures.items) (drop_here c.self.inside.items.items c.self.invariant c.args.key.now c.in-Ok.at here).0

pub returns-in-Ok-clause-map : goal.returns-in-Ok-clause-map
returns-in-Ok-clause-map c =
    let here = subst (λ xs. IsKeyAt xs c.args.key.now c.in-Ok.at) c.deref.ensures.value c.in-Ok.ensures.there in
    let was : map_of c.self.inside.items.items ≡ c.args.self.now.map = search rules in
    ap map_of c.remove-gone.ensures.items ∙ (drop_here c.self.inside.items.items c.self.invariant c.args.key.now c.in-Ok.at here).1 ∙ ap (λ m. fin.remove m c.args.key.now) was

pub returns-in-Ok-clause-room : goal.returns-in-Ok-clause-room
returns-in-Ok-clause-room c =
    let here = subst (λ xs. IsKeyAt xs c.args.key.now c.in-Ok.at) c.deref.ensures.value c.in-Ok.ensures.there in
    let up = subst IsAscending (sym c.remove-gone.ensures.items) (drop_here c.self.inside.items.items c.self.invariant c.args.key.now c.in-Ok.at here).0 in
    let was : map_of c.self.inside.items.items ≡ c.args.self.now.map = search rules in
    let spare : vec_capacity c.self.inside.items - vec_len c.self.inside.items ≡ c.args.self.now.spare = search rules in
    let count : vec_len c.self.inside.items ≡ length c.self.inside.items.items = search rules in
    let left : vec_len c.remove-gone.new.self ≡ length c.remove-gone.new.self.items = search rules in
    let fits : vec_len c.self.inside.items ≤ vec_capacity c.self.inside.items = search rules in
    omega (arith, fits, count, left, spare, c.remove-gone.ensures.len, c.remove-gone.ensures.capacity, len_is c.remove-gone.new.self.items up, len_is c.self.inside.items.items c.self.invariant, ap fin.len was)

pub returns-in_default-clause-map : goal.returns-in_default-clause-map
returns-in_default-clause-map c =
    let gap = subst (λ xs. IsGapFor xs c.args.key.now c.in_default.field-0) c.deref.ensures.value (c.in_default.ensures {u = tt}).absent in
    let was : map_of c.self.inside.items.items ≡ c.args.self.now.map = search rules in
    sym was ∙ drop_gap c.self.inside.items.items c.self.invariant c.args.key.now c.in_default.field-0 gap ∙ ap (λ m. fin.remove m c.args.key.now) was
