use Rattle.std.proofs.Common.{◌≡◌, ◌++◌, ◌∷◌, [], arith}
use Rattle.session_script.proofs.Bounds.{few_calls, IsBounded-more, written-more, asked-more}
use Rattle.session_script.proofs.progress.Progress.with.Goals as goal

pub push-requires-clause-small : goal.push-requires-clause-small
push-requires-clause-small c = omega (arith, few_calls c.self.inside.script c.self.invariant.bounded)

pub invariant_of-result : goal.invariant_of-result
invariant_of-result c =
    let before = c.self.inside.script in
    let line = c.args.line in
    let grown : c.in_ok-push.field-0 ≡ before ++ line ∷ [] = c.in_ok-push.ensures in
    rw grown (record {
      written_in_all = omega (arith, written-more before line, c.self.invariant.written_in_all, c.bytes_written.ensures);
      asked_in_all = omega (arith, asked-more before line, c.self.invariant.asked_in_all, c.bytes_asked.ensures);
      bounded = IsBounded-more before line c.self.invariant.bounded c.requires.low c.requires.high (rw c.self.view_is c.requires.limited);
    })
