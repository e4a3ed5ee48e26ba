-- The lists of bytes by which the disk in memory crashes: one byte everywhere, or bytes by a seed.
use Rattle.std.specs.Prelude.{ℕ, zero, suc, ◌+◌, ◌-◌, ◌*◌, ◌/◌, ◌%◌, ◌^◌, ◌==◌, Bool, if◌then◌else◌, List, [], ◌∷◌}
use Rattle.std.specs.Prelude.{length, get_or, replicate}
use Rattle.byte_disk.specs.declared.disk.File.{File}
use Rattle.byte_disk.specs.declared.disk.File.TheVariants.{Ip, Dp, Cm}
use Rattle.byte_disk.specs.declared.record.Change.{Change}
use Rattle.byte_disk.specs.declared.record.DoneCommand.{DoneCommand}
use Rattle.byte_disk.specs.Files.{Files}
use Rattle.byte_disk.specs.Record.{pending}
use Rattle.byte_disk.specs.Images.{original, shortest, longest}

-- one byte, for as long as the file reads or for as long as it was at its last sync
abbrev pub filled_file : ℕ → Bool → List ℕ → List Change → List ℕ
filled_file fill keep held ws = replicate (if keep then length held else shortest held ws) fill

abbrev pub filled : ℕ → Bool → Files → List DoneCommand → Files
filled fill keep held es = record {
  ip = filled_file fill keep held.ip (pending Ip es);
  dp = filled_file fill keep held.dp (pending Dp es);
  cm = filled_file fill keep held.cm (pending Cm es);
}

-- the number after this one in a row of numbers by chance
abbrev pub stir : ℕ → ℕ
stir s = (s * 6364136223846793005 % 2 ^ 64 + 1442695040888963407) % 2 ^ 64

-- a number below n from one of such a row
abbrev pub drawn : ℕ → ℕ → ℕ
drawn s n = s / 2 ^ 33 % n

-- a byte by a number: the one that reads at a place, the one of the last sync, or any
abbrev pub mixed_byte : ℕ → ℕ → List ℕ → List ℕ → ℕ
mixed_byte s i held old =
    if drawn s 3 == 0 then get_or held i (drawn s 256)
    else if drawn s 3 == 1 then get_or old i (drawn s 256) else drawn s 256

-- so many bytes from a place on
abbrev pub mixed_bytes : ℕ → ℕ → ℕ → List ℕ → List ℕ → List ℕ
mixed_bytes s i zero held old = []
mixed_bytes s i (suc n) held old = mixed_byte (stir s) i held old ∷ mixed_bytes (stir s) (i + 1) n held old

-- with a length that a crash may leave
abbrev pub mixed_file : ℕ → List ℕ → List Change → List ℕ
mixed_file s held ws =
    let size : ℕ = shortest held ws + drawn (stir s) (longest held ws - shortest held ws + 1) in
    mixed_bytes (stir s) 0 size held (original held ws)

abbrev pub seed_of : File → ℕ → ℕ
seed_of Ip seed = seed
seed_of Dp seed = stir (stir seed)
seed_of Cm seed = stir (stir (stir (stir seed)))

abbrev pub mixed : ℕ → Files → List DoneCommand → Files
mixed seed held es = record {
  ip = mixed_file (seed_of Ip seed) held.ip (pending Ip es);
  dp = mixed_file (seed_of Dp seed) held.dp (pending Dp es);
  cm = mixed_file (seed_of Cm seed) held.cm (pending Cm es);
}
