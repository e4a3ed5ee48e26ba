use Rattle.commands.specs.BasicCommands.Labels.{labels_text, mount_text}
use Rattle.commands.proofs.BasicCommands.LabelClauses.{label_found, label_unread}
use Rattle.commands.proofs.basic_commands.labels.run_label.Goals as goal

pub returns-in-Ok : goal.returns-in-Ok
returns-in-Ok g c =
    label_found g.D.Drive c.args.drive c.read_labels.new.drive _ _ _ _ c.in-Ok.labels c.tell_made.ensures.drive c.tell_made.ensures.log c.in-Ok.ensures.found c.in-Ok.ensures.looks
    (c.tell_made.ensures.told (labels_text c.in-Ok.labels) c.labels_text.ensures)

pub returns-in-Err : goal.returns-in-Err
returns-in-Err g c =
    label_unread g.D.Drive c.args.drive c.read_labels.new.drive _ _ _ _ c.in-Err.error c.tell_made-in-Err.ensures.drive c.tell_made-in-Err.ensures.log c.in-Err.ensures.refused
    c.in-Err.ensures.counts.told c.in-Err.ensures.looks _ c.mount_status.ensures
    (c.tell_made-in-Err.ensures.told (mount_text c.in-Err.error) c.mount_text.ensures)
