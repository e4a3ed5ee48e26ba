use Rattle.clap.specs.Words.{app_of}
use Rattle.commands.proofs.CommandLine.FormLemmas.{is_simple_of}
use Rattle.commands.proofs.command_line.forms.find_in.Goals as goal

pub returns-in-Ok : goal.returns-in-Ok
returns-in-Ok c = (c.in-Ok.ensures.kinds c.requires, (c.in-Ok.ensures.matches (is_simple_of (app_of c.args.command) c.requires)).0)
