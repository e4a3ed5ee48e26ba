use Rattle.std.proofs.Common.{rules, arith, ℕ, ◌+◌, List, ◌≡◌, ◌∙◌, ap, subst, length}
use Rattle.image_slots.specs.Calls.{IsClosedBeside, IsPrepared}
use Rattle.image_slots.specs.Pieces.{Any, HasOne, IsPut}
use Rattle.image_slots.specs.Sides.{gate_of, other_of}
use Rattle.image_slots.proofs.Chains.{piece_of, put_size, within_size}
use Rattle.image_slots.proofs.Gates.{value_each, value_ends}
use Rattle.image_slots.proofs.pieces.write_value.Goals as goal

pub returns-clause-piece : goal.returns-clause-piece
returns-clause-piece g c = λ old ready.
    let side = c.args.side in
    let new : List ℕ = c.args.value.now in
    let at : ℕ = gate_of (other_of side) + 1 in
    let long : length new ≡ 255 = search rules in
    let place : c.gate.result + 1 ≡ at = ap (λ (n : ℕ). n + 1) (c.gate.ensures.place ∙ ap gate_of c.other.ensures) in
    piece_of g.B.ByteDisk (HasOne old new) Any (IsClosedBeside side old) (IsPrepared side old new) at new c.put.result c.args.disk.now c.put.new.disk
    (λ x y h r ip dp t. value_each side old new (length new) x y long h t) (λ x h. value_ends side old new x long h) ready
    (subst (λ (n : ℕ). IsPut g.B.ByteDisk n new c.put.result c.args.disk.now c.put.new.disk) place c.put.ensures)

pub put-requires-clause-within : goal.put-requires-clause-within
put-requires-clause-within g c = within_size (g.B.ByteDisk.held c.args.disk.now) (c.gate.result + 1) (omega (arith, c.gate.ensures.place, c.gate.ensures.most)) c.requires.size

pub returns-clause-size : goal.returns-clause-size
returns-clause-size g c =
    let long : length c.args.value.now ≡ 255 = search rules in
    put_size g.B.ByteDisk (c.gate.result + 1) c.args.value.now c.args.disk.now c.put.new.disk c.put.result c.requires.size
    (omega (arith, long, c.gate.ensures.place, c.gate.ensures.most)) c.put.ensures
