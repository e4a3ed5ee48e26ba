-- The bytes of a disk's files, and what a write makes of them.
use Rattle.std.specs.Prelude.{ℕ, ◌+◌, ◌^◌, ◌≤◌, ◌<◌, ◌≡◌, ◌⊎◌, max, List, ◌++◌, take, drop, length, slice_index, All}
use Rattle.std.specs.Prelude.{Bool, ◌&&◌, nat_lt, if◌then◌else◌, Option, Some, None, Result, Ok, Err}
use Rattle.std.specs.List.{list_all}
use Rattle.byte_disk.specs.declared.disk.File.{File}
use Rattle.byte_disk.specs.declared.disk.File.TheVariants.{Ip, Dp, Cm}

-- what the three files of a disk hold
pub record Files : Type 0 where
  pub ip : List ℕ
  pub dp : List ℕ
  pub cm : List ℕ

abbrev pub bytes_of : File → Files → List ℕ
bytes_of Ip d = d.ip
bytes_of Dp d = d.dp
bytes_of Cm d = d.cm

-- the files with other bytes in one
abbrev pub with_bytes : File → List ℕ → Files → Files
with_bytes Ip bytes d = record { ip = bytes; dp = d.dp; cm = d.cm }
with_bytes Dp bytes d = record { ip = d.ip; dp = bytes; cm = d.cm }
with_bytes Cm bytes d = record { ip = d.ip; dp = d.dp; cm = bytes }

abbrev pub AreBytes : List ℕ → Type 0
AreBytes bytes = All (λ b. b < 2 ^ 8) bytes

pub record AreFiles (d : Files) : Type 0 where
  pub ip : AreBytes d.ip
  pub dp : AreBytes d.dp
  pub cm : AreBytes d.cm

-- the same, as it can be computed
abbrev pub is_byte : ℕ → Bool
is_byte b = nat_lt b (2 ^ 8)

abbrev pub are_files : Files → Bool
are_files d = list_all is_byte d.ip && list_all is_byte d.dp && list_all is_byte d.cm

-- What is told of lists of numbers: they are told as files where they are of bytes.
abbrev pub told : Files → Option Files
told d = if are_files d then Some d else None

-- so many bytes from a place on
abbrev pub bytes_at : ℕ → ℕ → List ℕ → List ℕ
bytes_at at n bytes = take n (drop at bytes)

-- the bytes were put there, over what stood or behind the end
abbrev pub written : ℕ → List ℕ → List ℕ → List ℕ
written at bytes old = take at old ++ bytes ++ drop (at + length bytes) old

-- the files but one stay
abbrev pub KeepsOthers : File → Files → Files → Type 0
KeepsOthers Ip old new = (new.dp ≡ old.dp) × (new.cm ≡ old.cm)
KeepsOthers Dp old new = (new.ip ≡ old.ip) × (new.cm ≡ old.cm)
KeepsOthers Cm old new = (new.ip ≡ old.ip) × (new.dp ≡ old.dp)

-- a place lies outside of a range of so many bytes
abbrev pub IsOutside : ℕ → ℕ → ℕ → Type 0
IsOutside at n i = (i < at) ⊎ (at + n ≤ i)

-- At each place of the range any byte stands, or what stood there, so that any bytes in a range and then in the one
-- behind it are any in both together. Outside of it each byte that was there is there. The file is no shorter than it
-- was, and no longer than it was or than the range reaches.
pub record IsAnyIn (at n : ℕ) (old new : List ℕ) : Type 0 where
  pub outside : (i : ℕ) → i < length old → IsOutside at n i → slice_index new i ≡ slice_index old i
  pub no_shorter : length old ≤ length new
  pub no_longer : length new ≤ max (length old) (at + n)
  pub each : (i : ℕ) → i < length new
      → (slice_index new i < 2 ^ 8) ⊎ ((i < length old) × (slice_index new i ≡ slice_index old i))

-- any bytes stand in the range of one file, and all else is as it was
pub record IsBroken (file : File) (at n : ℕ) (old new : Files) : Type 0 where
  pub others : KeepsOthers file old new
  pub any : IsAnyIn at n (bytes_of file old) (bytes_of file new)

-- the bytes stand in one file from a place on, and all else is as it was
pub record IsWritten (file : File) (at : ℕ) (bytes : List ℕ) (old new : Files) : Type 0 where
  pub others : KeepsOthers file old new
  pub put : bytes_of file new ≡ written at bytes (bytes_of file old)

-- how the files read after a write: with the bytes, or with any bytes in their range
abbrev pub AfterWrite : {T E : Type 0} → Result T E → File → ℕ → List ℕ → Files → Files → Type 0
AfterWrite (Ok _) file at bytes old new = IsWritten file at bytes old new
AfterWrite (Err _) file at bytes old new = IsBroken file at (length bytes) old new
