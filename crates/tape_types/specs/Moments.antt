-- The range of moments, in seconds since the beginning of 1970.
use Rattle.std.specs.Prelude.{ℤ, pos, negsuc}

-- the first second of the year 0000, 62,167,219,200 seconds before 1970
abbrev pub first_second : ℤ
first_second = negsuc 62167219199

-- the last second of the year 9999
abbrev pub last_second : ℤ
last_second = pos 253402300799
