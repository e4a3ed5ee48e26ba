use Rattle.std.proofs.Common.{ap}
use Rattle.std.proofs.lemmas.Str.{IsUtf8-string_bytes}
use Rattle.session_script.proofs.Texts.{text_of-IsUtf8, text_of-fault}
use Rattle.commands.proofs.command_line.paths.text_of.Goals as goal

pub returns-in-Ok : goal.returns-in-Ok
returns-in-Ok c =
    rw c.from_string.ensures (text_of-IsUtf8 _ c.args.bytes.items (ap (λ v. v.items) c.in-Ok.ensures.ok) (IsUtf8-string_bytes c.in-Ok.text))

pub returns : goal.returns
returns c = text_of-fault c.args.bytes.items (λ valid. let ok = c.in-Err.ensures.succeeds valid in cc)
