use Rattle.std.proofs.Common.{sym}
use Rattle.commands.proofs.CommandLine.MakeLemmas.{make_form, make_uncounted, make_untimed}
use Rattle.commands.proofs.command_line.reading.read_make.Goals as goal

pub returns-in_default-read_count : goal.returns-in_default-read_count
returns-in_default-read_count c =
    make_uncounted _ _ c.in-Ok-find_in.found c.in-Ok.ensures c.in-Ok-find_in.ensures _ c.get_str.ensures (sym c.in_default-read_count.ensures)

pub returns-in-Ok-read_at : goal.returns-in-Ok-read_at
returns-in-Ok-read_at c =
    make_form _ _ c.in-Ok-find_in.found c.in-Ok.ensures c.in-Ok-find_in.ensures _ _ c.in-Some.count c.in-Ok-read_at.at
    c.get_str.ensures (sym c.in-Some.ensures) c.get_str-2.ensures c.in-Ok-read_at.ensures

pub returns : goal.returns
returns c = make_untimed _ _ c.in-Ok-find_in.found c.in-Ok.ensures c.in-Ok-find_in.ensures _ c.in-Err-read_at.error c.get_str-2.ensures c.in-Err-read_at.ensures
