use Rattle.std.proofs.Common.{◌∙◌}
use Rattle.commands.specs.BasicCommands.Formats.{format_text}
use Rattle.commands.proofs.BasicCommands.FormatClauses.{format_done, format_refused, format_unbegun, refused_end}
use Rattle.commands.proofs.basic_commands.formats.run_format.Goals as goal

pub returns-in-Err : goal.returns-in-Err
returns-in-Err g c = format_unbegun g.D.Drive _ _ c.args.asked _ _ _ _ c.tell.ensures.drive c.tell.ensures.log c.tell.ensures.told

pub returns-in-Ok-format : goal.returns-in-Ok-format
returns-in-Ok-format g c =
    format_done g.D.Drive c.args.drive c.format.new.drive _ c.args.asked _ _ _ _ c.moment-at.result _ c.tell-in-Ok-format.ensures.drive
    c.tell-in-Ok-format.ensures.log c.moment-at.ensures.given
    (record {
      stands = c.in-Ok-format.ensures.stands;
      holds = c.in-Ok-format.ensures.holds;
      sure = c.in-Ok-format.ensures.sure;
      since = c.in-Ok-format.ensures.since;
      fits = c.in-Ok-format.ensures.fits;
    })
    c.in-Ok-format.ensures.goes (c.as_slice.ensures ∙ c.in-Ok.ensures) c.tell-in-Ok-format.ensures.told

pub returns : goal.returns
returns g c =
    format_refused g.D.Drive c.args.drive c.format.new.drive _ c.args.asked _ _ _ _ c.in-Err-format.error c.tell_made.ensures.drive c.tell_made.ensures.log
    (refused_end g.D.Drive c.args.drive c.format.new.drive c.args.asked _ c.in-Err-format.error c.moment-at.result c.moment-at.ensures.given c.requires.fine
    c.in-Err-format.ensures.refused c.in-Err-format.ensures.untouched c.in-Err-format.ensures.counts.told)
    c.in-Err-format.ensures.goes _ c.format_status.ensures
    (c.tell_made.ensures.told (format_text c.in-Err-format.error) c.format_text.ensures)
