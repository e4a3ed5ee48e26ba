use Rattle.commands.proofs.CommandLine.ListLemmas.{list_form}
use Rattle.commands.proofs.command_line.reading.read_list.Goals as goal

pub returns-in-Ok-find_in : goal.returns-in-Ok-find_in
returns-in-Ok-find_in c =
    list_form _ _ c.in-Ok-find_in.found _ _ c.in-Ok.ensures c.in-Ok-find_in.ensures c.get_str.ensures c.is_given.ensures
