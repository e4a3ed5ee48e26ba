use Rattle.std.proofs.Common.{◌≤◌, ◌^◌, rules, length}
use Rattle.index_tool.proofs.Judged.{outcome_is}
use Rattle.index_tool.proofs.tool.run_command.Goals as goal

pub returns-in-Ok : goal.returns-in-Ok
returns-in-Ok g c =
    let few : length c.in-Ok.text.items ≤ 2 ^ 63 = search rules in
    outcome_is c.args.command _ _ _ _ c.in-Ok.text.items c.judge.result c.in-Ok.ensures.read (c.in-Ok.ensures.whole few) c.judge.ensures
