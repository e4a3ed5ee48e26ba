-- A script that is made from a number, for a server that is to be tried by many calls.
use Rattle.std.specs.Prelude.{ℕ, zero, suc, ◌+◌, ◌*◌, ◌/◌, ◌%◌, List, [], ◌∷◌, ◌==◌, if◌then◌else◌, decimal, flat_map}
use Rattle.std.specs.Prelude.{map, replicate}
use Rattle.std.specs.List.{range_with_len}
use Rattle.plain_tree.specs.Paths.{Name}
use Rattle.plain_tree.specs.declared.calls.Call.{Call}
use Rattle.plain_tree.specs.declared.calls.Call.TheVariants.{Mkdir, Create, Write, Read, Rename, Sync}
use Rattle.session_script.specs.declared.scripts.ScriptLine.{ScriptLine}

-- a letter and a number behind it
abbrev pub numbered : ℕ → ℕ → Name
numbered letter n = letter ∷ decimal n

-- `/sS`
abbrev pub folder_of : ℕ → List Name
folder_of who = numbered 115 who ∷ []

-- `/sS/fF`
abbrev pub file_of : ℕ → ℕ → List Name
file_of who f = numbered 115 who ∷ numbered 102 f ∷ []

-- `/sS/gF`
abbrev pub moved_file_of : ℕ → ℕ → List Name
moved_file_of who f = numbered 115 who ∷ numbered 103 f ∷ []

-- 1 to 5,000 bytes of one value, at one of seven places
abbrev pub write_of : ℕ → ℕ → Call
write_of who f =
    Write (file_of who f) ((f % 7) * 1000) (replicate (1 + (37 * f + 101 * who) % 5000) ((16 * who + f) % 256))

-- a rename, and a sync for each 32nd file
abbrev pub last_of : ℕ → ℕ → Call
last_of who f = if f % 32 == 31 then Sync else Rename (file_of who f) (moved_file_of who f)

-- the calls for a file, by their remainder
abbrev pub call_for : ℕ → ℕ → ℕ → Call
call_for who f zero = Create (file_of who f)
call_for who f (suc zero) = write_of who f
call_for who f (suc (suc zero)) = Read (file_of who f) 0 6000
call_for who f _ = last_of who f

-- A session's call of a number: it makes its folder, and then for each file four calls.
abbrev pub made_call : ℕ → ℕ → Call
made_call who zero = Mkdir (folder_of who)
made_call who (suc k) = call_for who (k / 4) (k % 4)

-- the calls of one number, of the sessions 1 to 8 in order
abbrev pub made_round : ℕ → List ScriptLine
made_round k = map (λ who. record { who = who; call = made_call who k }) (range_with_len 1 8)

-- so many calls of each of the sessions 1 to 8, one of each after the other
abbrev pub made_script : ℕ → List ScriptLine
made_script count = flat_map made_round (range_with_len 0 count)
