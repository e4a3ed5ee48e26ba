use Rattle.std.proofs.Common.{◌≤◌, ◌++◌, ◌-◌, length, take, drop, ap, ◌∙◌, arith, length-drop, length-take, length-take-le}
use borrow.Rule.Slice.PartMut.{post_of}
use Rattle.line_printer.proofs.Rooms.{filled}
use Rattle.line_printer.proofs.waiting.Waiting.take_in.Goals as goal

pub returns-clause-moved : goal.returns-clause-moved
returns-clause-moved c =
    let used = c.self.inside.used in
    let all = c.as_mut_slice.result.now in
    let put = c.fill-count.new.room in
    let behind = post_of used (length all - used) all in
    let inside : used ≤ length all = omega (arith, c.self.invariant.0, ap length c.as_mut_slice.ensures.value) in
    record {
      part = take c.fill-count.result put;
      put = filled (take used all) put behind (drop (length (take used all ++ (put ++ behind))) c.self.inside.room.items) used c.fill-count.result c.self.inside.room.len
          (length-take-le used all inside)
          (omega (arith, c.fill-count.ensures.within, c.fill-count.auto.room))
          (omega (
            arith,
            inside,
            c.fill-count.ensures.within,
            length-take (length all - used) (drop used all),
            length-drop used all,
            c.as_mut_slice.ensures.len,
          ))
          ∙ ap (λ l. l ++ take c.fill-count.result put) (ap (take used) c.as_mut_slice.ensures.value ∙ c.self.view_is);
      rest = c.fill-count.ensures.piece;
    }
