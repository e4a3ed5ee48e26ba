use Rattle.std.proofs.Common.{◌≡◌, ⊎_elim, [], ◌++◌, length, take, sym, ap, ◌∙◌, arith, append-nil, length-append, length-take}
use Rattle.session_script.proofs.Fillings.{piece_more}
use Rattle.session_script.proofs.printing.push_line.Goals as goal

module _ (c : goal.Then-count-room) where
  done : c.fill-count.new.self ≡ []
  done = ⊎_elim (λ full. absurd (omega (arith, full, c.if-count-room.true, c.fill-count.auto.room))) (λ none. none) c.fill-count.ensures.full

pub returns-then-count-room : goal.returns-then-count-room
returns-then-count-room c =
    sym (append-nil c.extend_from_slice.new.self.items) ∙ ap (λ l. c.extend_from_slice.new.self.items ++ l) (sym (done c))
    ∙ piece_more c.loop.text.items c.extend_from_slice.new.self.items (take c.fill-count.result c.fill-count.new.room) c.loop.line c.fill-count.new.self (c.args.text.now.items ++ c.args.line) c.loop.invariant c.fill-count.ensures.piece c.in_ok-extend_from_slice.ensures.items

pub loop-smaller : goal.loop-smaller
loop-smaller c =
    omega (arith, c.requires, c.loop.auto.room, c.fill-count.auto.room, c.if-count-room.false, c.fill-count.ensures.within, ap length c.fill-count.ensures.piece, length-append (take c.fill-count.result c.fill-count.new.room) c.fill-count.new.self, length-take c.fill-count.result c.fill-count.new.room)

pub loop-preserved : goal.loop-preserved
loop-preserved c =
    piece_more c.loop.text.items c.extend_from_slice.new.self.items (take c.fill-count.result c.fill-count.new.room) c.loop.line c.fill-count.new.self (c.args.text.now.items ++ c.args.line) c.loop.invariant c.fill-count.ensures.piece c.in_ok-extend_from_slice.ensures.items
