use Rattle.commands.specs.BasicCommands.Outcomes.{plain_text}
use Rattle.commands.proofs.BasicCommands.PlainClauses.{plain_either}
use Rattle.commands.proofs.basic_commands.plain.run_plain.Goals as goal

pub returns : goal.returns
returns g c =
    let end = c.play-end.result in
    plain_either _ _ _ _ _ _ _ _ _ _ end c.tell_made.ensures.drive c.play-end.ensures c.tell_made.ensures.log c.into_parts-status.ensures.log c.into_parts-status.ensures.status
    (c.tell_made.ensures.told (plain_text end) c.text-made.ensures)
