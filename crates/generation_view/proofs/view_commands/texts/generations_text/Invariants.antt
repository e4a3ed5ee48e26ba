use Rattle.std.proofs.Common.{◌≡◌, take}
use Rattle.std.specs.List.{flat_map}
use Rattle.generation_view.specs.ViewCommands.Texts.{generation_line}
use Rattle.generation_view.proofs.view_commands.texts.generations_text.Given as goal

abbrev pub invariant-loop-generation : goal.invariant-loop-generation
invariant-loop-generation l = l.text.items ≡ flat_map generation_line (take l.generation-index l.told)
