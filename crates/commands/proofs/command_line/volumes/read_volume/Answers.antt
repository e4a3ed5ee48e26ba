use Rattle.std.proofs.Common.{sym}
use Rattle.commands.proofs.CommandLine.VolumeLemmas.{volume_form, volume_refused, volume_untold}
use Rattle.commands.proofs.command_line.volumes.read_volume.Goals as goal

pub returns-in-Err-read_values : goal.returns-in-Err-read_values
returns-in-Err-read_values c =
    volume_untold _ _ c.in-Ok-find_in.found c.in-Ok.ensures c.in-Ok-find_in.ensures c.in-Err-read_values.error c.in-Err-read_values.ensures

pub returns-in-Some : goal.returns-in-Some
returns-in-Some c =
    volume_refused _ _ c.in-Ok-find_in.found c.in-Ok.ensures c.in-Ok-find_in.ensures c.in-Ok-read_values.asked c.in-Some.field-0
    c.in-Ok-read_values.ensures (sym c.in-Some.ensures)

pub returns : goal.returns
returns c =
    volume_form _ _ c.in-Ok-find_in.found c.in-Ok.ensures c.in-Ok-find_in.ensures c.in-Ok-read_values.asked c.in-Ok-read_values.ensures (sym c.in-None.ensures)
