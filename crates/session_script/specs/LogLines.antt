-- What is left of a line of the log that is written in pieces.
use Rattle.std.specs.Prelude.{ℕ, List, [], ◌++◌, codes}
use Rattle.std.specs.List.{flat_map}
use Rattle.tape_types.specs.Times.{time_text}
use Rattle.session_script.specs.Escapes.{escaped}
use Rattle.session_script.specs.LogText.{entry_text, hex_byte}
use Rattle.session_script.specs.declared.tails.End.{End}
use Rattle.session_script.specs.declared.tails.End.TheVariants as ends
use Rattle.session_script.specs.declared.tails.Tail.{Tail}

-- a line feed, or a moment and a line feed
abbrev pub end_text : End → List ℕ
end_text ends.Nothing = []
end_text ends.Feed = codes "\n"
end_text (ends.Time at) = codes " " ++ time_text at ++ codes "\n"

-- bytes in hexadecimal, a text with its escapes, entries, and the end
abbrev pub tail_text : Tail → List ℕ
tail_text t =
    flat_map hex_byte t.hex.now ++ (escaped t.text.now ++ (flat_map entry_text t.entries.now ++ end_text t.end))
