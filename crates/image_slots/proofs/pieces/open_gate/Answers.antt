use Rattle.std.proofs.Common.{arith, true, ℕ, [], ◌∷◌, ◌≡◌, ◌∙◌, ap, subst}
use Rattle.image_slots.specs.Calls.{IsPrepared}
use Rattle.image_slots.specs.Pieces.{Any, HasOne, IsPut}
use Rattle.image_slots.specs.Sides.{IsRead, gate_of, other_of}
use Rattle.image_slots.proofs.Chains.{piece_of, within_size}
use Rattle.image_slots.proofs.Gates.{gate_each, gate_ends}
use Rattle.image_slots.proofs.pieces.open_gate.Goals as goal

pub returns : goal.returns
returns g c = λ old new later ready.
    let side = c.args.side in
    let at : ℕ = gate_of (other_of side) in
    let place : c.gate.result ≡ at = c.gate.ensures.place ∙ ap gate_of c.other.ensures in
    piece_of g.B.ByteDisk (HasOne old new) Any (IsPrepared side old new) (IsRead (other_of side) true new) at (1 ∷ []) c.put.result c.args.disk.now c.put.new.disk
    (λ x y h r ip dp t. gate_each side old new x y later h t) (λ x h. gate_ends side old new x later h) ready
    (subst (λ (n : ℕ). IsPut g.B.ByteDisk n (1 ∷ []) c.put.result c.args.disk.now c.put.new.disk) place c.put.ensures)

pub put-requires-clause-within : goal.put-requires-clause-within
put-requires-clause-within g c = within_size (g.B.ByteDisk.held c.args.disk.now) c.gate.result (omega (arith, c.gate.ensures.place, c.gate.ensures.most)) c.requires.size
