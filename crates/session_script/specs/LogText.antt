-- The log as it is printed.
use Rattle.std.specs.Prelude.{ℕ, ◌/◌, ◌%◌, List, [], ◌∷◌, ◌++◌, length, codes, decimal, false}
use Rattle.std.specs.List.{flat_map, enumerate_from, zip}
use Rattle.std.specs.Fmt.{digit_glyph}
use Rattle.tape_types.specs.Times.{time_text}
use Rattle.plain_tree.specs.RefusalNames.{refusal_name}
use Rattle.plain_tree.specs.declared.calls.Answer.{Answer}
use Rattle.plain_tree.specs.declared.calls.Answer.TheVariants as answers
use Rattle.plain_tree.specs.declared.calls.Entry.{Entry}
use Rattle.plain_tree.specs.declared.calls.Facts.{Facts}
use Rattle.plain_tree.specs.declared.calls.Placed.{Placed}
use Rattle.plain_tree.specs.declared.calls.Sort.{Sort}
use Rattle.plain_tree.specs.declared.calls.Sort.TheVariants as sorts
use Rattle.session_script.specs.Escapes.{escaped}
use Rattle.session_script.specs.declared.logs.Reply.{Reply}
use Rattle.session_script.specs.declared.logs.Reply.TheVariants as replies
use Rattle.session_script.specs.declared.logs.Log.{Log}

-- a byte as two hexadecimal digits in lower case
abbrev pub hex_byte : ℕ → List ℕ
hex_byte b = digit_glyph false (b / 16) ∷ digit_glyph false (b % 16) ∷ []

-- a space and the bytes in hexadecimal, where there are any
abbrev pub hex_text : List ℕ → List ℕ
hex_text [] = []
hex_text (b ∷ bytes) = codes " " ++ flat_map hex_byte (b ∷ bytes)

-- how many bytes there are, and the bytes
abbrev pub bytes_text : List ℕ → List ℕ
bytes_text bytes = decimal (length bytes) ++ hex_text bytes

abbrev pub sort_letter : Sort → List ℕ
sort_letter sorts.Dir = codes "d"
sort_letter sorts.File = codes "f"
sort_letter sorts.Link = codes "l"

abbrev pub entry_text : Entry → List ℕ
entry_text entry = codes " " ++ sort_letter entry.sort ++ codes ":" ++ escaped entry.name

-- the sort and the uid, and a file's length or a link's text
abbrev pub sort_text : Sort → Facts → List ℕ
sort_text sorts.Dir facts = codes "dir " ++ decimal facts.uid
sort_text sorts.File facts = codes "file " ++ decimal facts.uid ++ codes " " ++ decimal facts.length
sort_text sorts.Link facts = codes "link " ++ decimal facts.uid ++ codes " " ++ escaped facts.text

-- the modify time is the one that is told
abbrev pub facts_text : Facts → List ℕ
facts_text facts = sort_text facts.sort facts ++ codes " " ++ time_text facts.times.modify

abbrev pub answer_text : Answer → List ℕ
answer_text answers.Done = codes "ok"
answer_text answers.Synced = codes "synced"
answer_text (answers.Got bytes) = codes "bytes " ++ bytes_text bytes
answer_text (answers.Names entries) = codes "names " ++ decimal (length entries) ++ flat_map entry_text entries
answer_text (answers.Facts facts) = facts_text facts
answer_text (answers.Refused refusal) = codes "no " ++ refusal_name refusal

abbrev pub reply_text : Reply → List ℕ
reply_text (replies.Answer answer) = answer_text answer
reply_text (replies.Full need limit) = codes "full " ++ decimal need ++ codes " " ++ decimal limit
reply_text (replies.Fault counts) = codes "fault " ++ decimal counts.before ++ codes " " ++ decimal counts.after
reply_text replies.NoMemory = codes "nomemory"

-- `PLACE WHO.NTH` and a space
abbrev pub place_text : ℕ → Placed → List ℕ
place_text place placed =
    decimal place ++ codes " " ++ decimal placed.who ++ codes "." ++ decimal placed.nth ++ codes " "

-- `PLACE WHO.NTH REPLY`
abbrev pub line_text : ℕ → Placed → Reply → List ℕ
line_text place placed reply = place_text place placed ++ reply_text reply ++ codes "\n"

-- a line for each placement and its reply, in order
abbrev pub log_text : Log → List ℕ
log_text log = flat_map (λ e. line_text e.0 e.1.0 e.1.1) (enumerate_from 0 (zip log.history log.replies))
