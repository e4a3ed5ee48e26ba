-- What a crash may leave of a disk in memory, by places and by choice.
use Rattle.std.specs.Prelude.{ℕ, ◌+◌, ◌-◌, ◌≤◌, ◌<◌, ◌≡◌, ◌⊎◌, min, max, List, [], ◌∷◌, ◌++◌, take, drop, length}
use Rattle.std.specs.Prelude.{slice_index}
use Rattle.byte_disk.specs.declared.disk.File.TheVariants.{Ip, Dp, Cm}
use Rattle.byte_disk.specs.declared.record.Change.{Change}
use Rattle.byte_disk.specs.declared.record.DoneCommand.{DoneCommand}
use Rattle.byte_disk.specs.Files.{Files, AreBytes, AreFiles, bytes_at, written}
use Rattle.byte_disk.specs.Record.{unwritten, pending}

-- a file's bytes as of its last sync, from those that read and the writes since
abbrev pub original : List ℕ → List Change → List ℕ
original held [] = held
original held (w ∷ ws) = original (unwritten w held) ws

-- how far the ranges of these writes reach
abbrev pub reach : List Change → ℕ
reach [] = 0
reach (w ∷ ws) = max (w.at + w.count) (reach ws)

-- a place lies in the range of one of these writes
abbrev pub IsPending : List Change → ℕ → Type 0
IsPending [] i = ⊥
IsPending (w ∷ ws) i = ((w.at ≤ i) × (i < w.at + w.count)) ⊎ IsPending ws i

-- the least and the greatest length that a crash may leave a file with
abbrev pub shortest : List ℕ → List Change → ℕ
shortest held ws = length (original held ws)

abbrev pub longest : List ℕ → List Change → ℕ
longest held ws = max (shortest held ws) (reach ws)

-- What a crash may leave of a file that reads so, by places: in the ranges of the writes since the last sync any bytes,
-- elsewhere those that read; and any length from that of the last sync to the greatest since.
pub record IsLeft (held : List ℕ) (ws : List Change) (image : List ℕ) : Type 0 where
  pub settled : (i : ℕ) → i < length image → ¬ (IsPending ws i) → slice_index image i ≡ slice_index held i
  pub no_shorter : shortest held ws ≤ length image
  pub no_longer : length image ≤ longest held ws
  pub bytes : AreBytes image

-- each file by itself
pub record AreLeft (held : Files) (es : List DoneCommand) (image : Files) : Type 0 where
  pub ip : IsLeft held.ip (pending Ip es) image.ip
  pub dp : IsLeft held.dp (pending Dp es) image.dp
  pub cm : IsLeft held.cm (pending Cm es) image.cm

-- the bytes with those of another list in a write's range, as far as both lists reach
abbrev pub chosen_in : Change → List ℕ → List ℕ → List ℕ
chosen_in w choice bytes =
    let most : ℕ = min (length choice) (length bytes) in
    let from : ℕ = min w.at most in
    written from (bytes_at from (min (w.at + w.count) most - from) choice) bytes

-- the same of each of these writes
abbrev pub chosen : List Change → List ℕ → List ℕ → List ℕ
chosen [] choice bytes = bytes
chosen (w ∷ ws) choice bytes = chosen ws choice (chosen_in w choice bytes)

-- A file's image by choice, where the choice is a list of bytes: its length, as near as a crash may come to it, its
-- bytes in the ranges of the writes since the last sync, and elsewhere those that read.
abbrev pub image_of : List ℕ → List Change → List ℕ → List ℕ
image_of held ws choice =
    let size : ℕ = max (shortest held ws) (min (length choice) (longest held ws)) in
    chosen ws choice (take size (held ++ drop (length held) choice))

abbrev pub crash_image : Files → List DoneCommand → Files → Files
crash_image held es choice = record {
  ip = image_of held.ip (pending Ip es) choice.ip;
  dp = image_of held.dp (pending Dp es) choice.dp;
  cm = image_of held.cm (pending Cm es) choice.cm;
}

-- some three lists of bytes give this image
abbrev pub Gives : Files → List DoneCommand → Files → Type 0
Gives held es image = (choice : Files) × AreFiles choice × (image ≡ crash_image held es choice)
