use Rattle.std.proofs.Common.{subst}
use Rattle.cartridge_meaning.specs.declared.errors.MountErr.TheVariants as mounts
use Rattle.generation_view.specs.declared.errors.ReadErr.{ReadErr}
use Rattle.commands.specs.BasicCommands.Labels.{mount_text}
use Rattle.generation_view.specs.ViewCommands.Texts.{answer_line}
use Rattle.generation_view.proofs.ViewCommands.ViewClauses.{Reads, read_answered, read_failed, read_starved}
use Rattle.generation_view.proofs.view_commands.trees.read_view.Goals as goal

pub returns-in-Ok : goal.returns-in-Ok
returns-in-Ok g c =
    read_answered g.D.Drive c.args.view c.args.path c.args.drive c.read.new.drive _ _ _ _ c.tell_made.ensures.drive c.tell_made.ensures.log c.in-Ok.answer c.in-Ok.ensures
    (c.tell_made.ensures.told (answer_line c.in-Ok.answer) c.answer_line.ensures)

pub returns-in-Err-Drive : goal.returns-in-Err-Drive
returns-in-Err-Drive g c =
    read_failed g.D.Drive c.args.view c.args.path c.args.drive c.read.new.drive _ _ _ _ c.tell_made-in-Err-Drive.ensures.drive c.tell_made-in-Err-Drive.ensures.log
    c.in-Err-Drive.counts
    (subst (λ (e : ReadErr). Reads g.D.Drive c.args.view c.args.path c.args.drive c.read.new.drive e) c.in-Err-Drive.field-0-is c.in-Err-Drive.ensures)
    (c.tell_made-in-Err-Drive.ensures.told (mount_text (mounts.Drive c.in-Err-Drive.counts)) c.drive_text.ensures)
