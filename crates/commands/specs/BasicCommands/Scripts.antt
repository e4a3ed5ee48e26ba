-- Why there is no script: when it is so, and how that is told.
use Rattle.std.specs.Prelude.{◌≡◌, ℕ, List, Err, IfSome, codes}
use Rattle.tape_types.specs.Counts.{IsRise}
use Rattle.session_script.specs.Grammar.{script_of}
use Rattle.commands.specs.BasicCommands.Headline.{refusal_line, source_line}
use Rattle.commands.specs.BasicCommands.Runs.{Taken}
use Rattle.commands.specs.declared.basic_commands.scripts.Unread.{Unread}
use Rattle.commands.specs.declared.basic_commands.scripts.Unread.TheVariants as unread

abbrev pub unread_status : Unread → ℕ
unread_status (unread.Script refusal) = 2
unread_status (unread.Source counts) = 5
unread_status unread.NoMemory = 7

abbrev pub unread_text : Unread → List ℕ
unread_text (unread.Script refusal) = refusal_line refusal
unread_text (unread.Source counts) = source_line counts
unread_text unread.NoMemory = codes "memory\n"

-- when it is so
abbrev pub IsUnread : Taken → Unread → Type 0
IsUnread source (unread.Script refusal) = IfSome source.left (λ text. script_of text ≡ Err refusal)
IsUnread source (unread.Source counts) = IsRise source.before source.now counts.before counts.after
IsUnread source unread.NoMemory = Unit {0}
