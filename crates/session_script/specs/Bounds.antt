-- The limits of a script, each said once. They are ours.
use Rattle.std.specs.Prelude.{ℕ}

-- a script has at most so many sessions, numbered from 1 on
abbrev pub most_sessions : ℕ
most_sessions = 16

-- a session has at most so many calls
abbrev pub most_calls : ℕ
most_calls = 1024

-- a write, and the value that a key is given, has at most so many bytes
abbrev pub most_written : ℕ
most_written = 65536

-- a read asks for at most so many bytes
abbrev pub most_asked : ℕ
most_asked = 1048576

-- all writes and values of keys have at most so many bytes, and all reads ask for at most so many
abbrev pub most_in_all : ℕ
most_in_all = 67108864

-- the text of a script has at most so many bytes
abbrev pub longest_script : ℕ
longest_script = 16777216
