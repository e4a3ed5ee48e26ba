use Rattle.std.proofs.Common.{arith, ℕ, Bool, true, [], ◌∷◌, ◌≡◌, ◌==◌, ◌∙◌, ap, subst, inl}
use Rattle.image_slots.specs.Calls.{IsClosedBeside}
use Rattle.image_slots.specs.Pieces.{Any, HasOne, IsPut, IsReady}
use Rattle.image_slots.specs.Sides.{IsRead, gate_in, gate_of, other_of}
use Rattle.image_slots.proofs.Chains.{no_piece, piece_of, put_size, within_size}
use Rattle.image_slots.proofs.Choosing.{has_value}
use Rattle.image_slots.proofs.Gates.{close_each, close_ends, closed}
use Rattle.image_slots.proofs.pieces.close_gate.Goals as goal

pub returns-then-beside-clause-piece : goal.returns-then-beside-clause-piece
returns-then-beside-clause-piece g c = λ old new ready.
    let side = c.args.side in
    let at : ℕ = gate_of (other_of side) in
    let place : c.gate.result ≡ at = c.gate.ensures.place ∙ ap gate_of c.other.ensures in
    piece_of g.B.ByteDisk (HasOne old new) Any (IsRead side true old) (IsClosedBeside side old) at (0 ∷ []) c.put.result c.args.disk.now c.put.new.disk
    (λ x y h r ip dp t. close_each side old new x y h t) (λ x h. close_ends side old x h)
    (subst (λ (b : Bool). IsReady g.B.ByteDisk Any (IsRead side b old) c.args.disk.now) c.if-beside.true ready)
    (subst (λ (n : ℕ). IsPut g.B.ByteDisk n (0 ∷ []) c.put.result c.args.disk.now c.put.new.disk) place c.put.ensures)

pub returns-clause-piece : goal.returns-clause-piece
returns-clause-piece g c = λ old new ready.
    let side = c.args.side in
    no_piece g.B.ByteDisk (HasOne old new) Any 2 tt c.args.disk.now
    (λ d is. let now = ready d is in ((now.0.0, closed (gate_in (other_of side) d.cm) (subst (λ (b : Bool). b ≡ (gate_in (other_of side) d.cm == 1)) c.if-beside.false now.0.1)), now.1, now.2))
    (λ d h r. inl (has_value side d.cm old h.0))

pub put-requires-clause-within : goal.put-requires-clause-within
put-requires-clause-within g c = within_size (g.B.ByteDisk.held c.args.disk.now) c.gate.result (omega (arith, c.gate.ensures.place, c.gate.ensures.most)) c.requires.size

pub returns-then-beside-clause-size : goal.returns-then-beside-clause-size
returns-then-beside-clause-size g c = put_size g.B.ByteDisk c.gate.result (0 ∷ []) c.args.disk.now c.put.new.disk c.put.result c.requires.size
    (omega (arith, c.gate.ensures.place, c.gate.ensures.most)) c.put.ensures
