use Rattle.std.proofs.Common.{◌≡◌, ◌<◌, ◌+◌, ◌-◌, rules, ap, sym, subst, ◌∙◌, set, length, arith}
use Rattle.std.specs.FinMap as fin
use Rattle.std.specs.List.{insert}
use Rattle.std.specs.Vec.{vec_len, vec_capacity}
use Rattle.std.proofs.lemmas.List.{length-set}
use Rattle.tape_types.specs.declared.node_keys.xattrs.Xattr.{Xattr}
use Rattle.tape_types.specs.NodeKeys.Keys.{map_of, IsAscending}
use Rattle.tape_types.specs.NodeKeys.Places.{IsKeyAt, IsGapFor}
use Rattle.tape_types.proofs.NodeKeys.Ordered.{len_is}
use Rattle.tape_types.proofs.NodeKeys.Changed.{Becomes, set_here, set_gap}
use Rattle.tape_types.proofs.node_keys.keys.Keys.set.Goals as goal

module _ (c : goal.After-drop-key-inside) where
  there : IsKeyAt c.self.inside.items.items c.args.key c.in-Ok.at
  there = search rules

  abbrev changed : Xattr
  changed = record { key = c.index_mut.result.now.key; value = c.args.value }

  replaced : Becomes (set c.self.inside.items.items c.in-Ok.at changed) (fin.insert (map_of c.self.inside.items.items) c.args.key c.args.value)
  replaced = set_here c.self.inside.items.items c.self.invariant c.args.key c.in-Ok.at there changed
      (ap (λ (x : Xattr). x.key) c.index_mut.ensures.value ∙ there.is c.index_mut.result.now)

pub invariant_of-self : goal.invariant_of-self
invariant_of-self c = (replaced c).0

pub returns-in-Ok-clause-map : goal.returns-in-Ok-clause-map
returns-in-Ok-clause-map c =
    let was : map_of c.self.inside.items.items ≡ c.args.self.now.map = search rules in
    (replaced c).1 ∙ ap (λ m. fin.insert m c.args.key c.args.value) was

pub returns-in-Ok-clause-room : goal.returns-in-Ok-clause-room
returns-in-Ok-clause-room c =
    let xs = c.self.inside.items.items in
    let was : map_of xs ≡ c.args.self.now.map = search rules in
    let spare : vec_capacity c.self.inside.items - vec_len c.self.inside.items ≡ c.args.self.now.spare = search rules in
    omega (arith, spare, length-set xs c.in-Ok.at (changed c), len_is (set xs c.in-Ok.at (changed c)) (replaced c).0, len_is xs c.self.invariant, ap fin.len was)

module _ (c : goal.Else-is_err) where
  gap : IsGapFor c.self.inside.items.items c.args.key c.in-Err.at
  gap = search rules

  now : c.insert.new.self.items ≡ insert c.self.inside.items.items c.in-Err.at (record { key = c.args.key; value = c.args.value })
  now = search rules

  added : Becomes (insert c.self.inside.items.items c.in-Err.at (record { key = c.args.key; value = c.args.value })) (fin.insert (map_of c.self.inside.items.items) c.args.key c.args.value)
  added = set_gap c.self.inside.items.items c.self.invariant c.args.key c.in-Err.at gap c.args.value

  ascending : IsAscending c.insert.new.self.items
  ascending = subst IsAscending (sym now) added.0

pub invariant_of-self-else-is_err : goal.invariant_of-self-else-is_err
invariant_of-self-else-is_err c = ascending c

pub returns-else-is_err-clause-map : goal.returns-else-is_err-clause-map
returns-else-is_err-clause-map c =
    let was : map_of c.self.inside.items.items ≡ c.args.self.now.map = search rules in
    ap map_of (now c) ∙ (added c).1 ∙ ap (λ m. fin.insert m c.args.key c.args.value) was

pub returns-else-is_err-clause-room : goal.returns-else-is_err-clause-room
returns-else-is_err-clause-room c =
    let was : map_of c.self.inside.items.items ≡ c.args.self.now.map = search rules in
    let spare : vec_capacity c.self.inside.items - vec_len c.self.inside.items ≡ c.args.self.now.spare = search rules in
    let count : vec_len c.self.inside.items ≡ length c.self.inside.items.items = search rules in
    let then : vec_len c.insert.new.self ≡ length c.insert.new.self.items = search rules in
    let room : vec_len c.self.inside.items < vec_capacity c.self.inside.items = omega (arith, spare, c.requires) in
    let grown : vec_len c.insert.new.self ≡ vec_len c.self.inside.items + 1 = search rules in
    omega (arith, spare, count, then, room, grown, (c.insert.ensures.in_place room).1.0, len_is c.insert.new.self.items (ascending c), len_is c.self.inside.items.items c.self.invariant, ap fin.len was)
