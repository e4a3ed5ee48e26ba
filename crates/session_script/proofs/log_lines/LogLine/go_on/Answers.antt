use Rattle.std.proofs.Common.{arith}
use Rattle.session_script.specs.LogLines.{tail_text}
use Rattle.session_script.proofs.Fillings.{given_on, fresh_on}
use Rattle.session_script.proofs.log_lines.LogLine.go_on.Goals as goal

pub returns-then-self-len-clause-same : goal.returns-then-self-len-clause-same
returns-then-self-len-clause-same c =
    let line = c.self.inside in
    given_on c.args.room.now c.give-count.new.room line.short c.as_slice.result.now (tail_text line.tail) c.args.self.now c.args.at line.given c.give-count.result c.as_slice.ensures c.give-count.ensures.copied c.self.view_is

pub returns-clause-same : goal.returns-clause-same
returns-clause-same c =
    let line = c.self.inside in
    fresh_on c.args.room.now c.give-self-inside.new.room line.short c.next_bytes-self-inside.new.short c.as_slice-2.result.now (tail_text line.tail) (tail_text c.next_bytes-self-inside.result) c.args.self.now c.args.at line.given c.give-self-inside.result
    c.as_slice-2.ensures c.give-self-inside.ensures.copied c.next_bytes-self-inside.ensures.same (omega (arith, c.if-self-len.false, c.len.ensures.value)) c.self.view_is
