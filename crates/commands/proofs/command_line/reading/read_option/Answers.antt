use Rattle.commands.proofs.CommandLine.FormLemmas.{moment_form, moment_unread}
use Rattle.commands.proofs.command_line.reading.read_option.Goals as goal

pub returns-in-Ok-read_at : goal.returns-in-Ok-read_at
returns-in-Ok-read_at c =
    moment_form _ _ _ c.in-Ok-find_in.found _ c.in-Ok-read_at.at c.in-Ok.ensures c.in-Ok-find_in.ensures c.get_str.ensures c.in-Ok-read_at.ensures

pub returns : goal.returns
returns c = moment_unread _ _ _ c.in-Ok-find_in.found _ c.in-Err-read_at.error c.in-Ok.ensures c.in-Ok-find_in.ensures c.get_str.ensures c.in-Err-read_at.ensures
