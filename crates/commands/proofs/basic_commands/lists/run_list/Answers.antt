use Rattle.commands.specs.BasicCommands.Labels.{mount_text}
use Rattle.commands.proofs.BasicCommands.ListClauses.{found_listed, list_unread}
use Rattle.commands.proofs.basic_commands.lists.run_list.Goals as goal

pub returns-in-Ok : goal.returns-in-Ok
returns-in-Ok g c =
    found_listed c.args.all g.D.Drive c.args.drive c.find_tree.new.drive _ _ _ c.in-Ok.found (λ held_one held. c.in-Ok.ensures.found held_one held c.args.all) c.number.ensures c.write_found-status.ensures c.in-Ok.ensures.looks

pub returns-in-Err : goal.returns-in-Err
returns-in-Err g c =
    list_unread c.args.all g.D.Drive c.args.drive c.find_tree.new.drive _ _ _ _ c.in-Err.error c.tell_made.ensures.drive c.tell_made.ensures.log c.in-Err.ensures.refused
    c.in-Err.ensures.counts.told c.in-Err.ensures.looks _ c.mount_status.ensures
    (c.tell_made.ensures.told (mount_text c.in-Err.error) c.mount_text.ensures)
