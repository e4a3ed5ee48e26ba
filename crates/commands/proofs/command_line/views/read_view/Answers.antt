use Rattle.std.proofs.Common.{sym, subst}
use Rattle.commands.specs.CommandLine.Views.{IsViewRead}
use Rattle.commands.proofs.CommandLine.ViewLemmas.{view_form, view_unnumbered, view_unread}
use Rattle.commands.proofs.command_line.views.read_view.Goals as goal

pub returns-in_default-read_generation : goal.returns-in_default-read_generation
returns-in_default-read_generation c =
    view_unnumbered _ _ c.in-Ok-find_in.found c.in-Ok.ensures c.in-Ok-find_in.ensures _ c.get_str.ensures (sym c.in_default-read_generation.ensures)

pub returns-in-Ok-read_given : goal.returns-in-Ok-read_given
returns-in-Ok-read_given c =
    subst (IsViewRead _) (sym c.asked_of.ensures)
    (view_form _ _ c.in-Ok-find_in.found c.in-Ok.ensures c.in-Ok-find_in.ensures _ _ _ c.in-Some.generation c.in-Ok-read_given.path c.is_given-all.result
    c.get_str.ensures (sym c.in-Some.ensures) c.get_str-3.ensures c.in-Ok-read_given.ensures c.get_str-2.ensures c.is_given-all.ensures)

pub returns : goal.returns
returns c = view_unread _ _ c.in-Ok-find_in.found c.in-Ok.ensures c.in-Ok-find_in.ensures _ c.in-Err-read_given.error c.get_str-3.ensures c.in-Err-read_given.ensures
