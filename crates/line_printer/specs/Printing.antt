-- What was printed, and what waits to be.
use Rattle.std.specs.Prelude.{◌≡◌, ◌≤◌, ℕ, Bool, true, false, List, [], ◌++◌}
use Rattle.std.specs.Io.KnownBytes.{Appends}
use Rattle.tape_types.specs.Counts.{Rose}
use Rattle.tape_edge.specs.Streams.{AppendsFront}
use Rattle.tape_edge.specs.declared.traits.Sink.{Ghosts}

-- so many bytes wait at most, and are written at once
abbrev pub piece : ℕ
piece = 32768

-- the first of some bytes were put behind others, and these are left
pub record IsMoved (old new bytes left : List ℕ) : Type 0 where
  pub part : List ℕ
  pub put : new ≡ old ++ part
  pub rest : bytes ≡ part ++ left

-- The sink as it was handed in, and whether it is left alone; the sink as it is, how many lines were taken, the bytes
-- of these that wait, and whether a write has failed.
pub record PrinterView (K : Type 0) : Type 0 where
  pub first : K
  pub quiet : Bool
  pub out : K
  pub lines : ℕ
  pub waits : List ℕ
  pub broken : Bool

module _ {K : Type 0} (sink : Ghosts K) where
  -- all of a text was written, but for the bytes that wait, and no write failed
  pub record IsWritten (p : PrinterView K) (text : List ℕ) : Type 0 where
    pub done : List ℕ
    pub all : done ++ p.waits ≡ text
    pub written : Appends (sink.written p.first) (sink.written p.out) done
    pub faults : sink.faults p.first ≤ sink.faults p.out

  -- a write failed, and a front of a text was written
  pub record IsCutOff (p : PrinterView K) (text : List ℕ) : Type 0 where
    pub written : AppendsFront (sink.written p.first) (sink.written p.out) text
    pub failed : Rose (sink.faults p.first) (sink.faults p.out)

  -- Such a text was handed in. Of a sink that is left alone nothing is written.
  pub record HasTaken (p : PrinterView K) (text : List ℕ) : Type 0 where
    pub whole : p.quiet ≡ false → p.broken ≡ false → IsWritten p text
    pub cut : p.quiet ≡ false → p.broken ≡ true → IsCutOff p text
    pub alone : p.quiet ≡ true → p.out ≡ p.first

-- nothing was handed in
abbrev pub blank : {K : Type 0} → K → Bool → PrinterView K
blank out quiet = record { first = out; quiet = quiet; out = out; lines = 0; waits = []; broken = false }

-- the sink is the one that was handed in, and is still left alone, or still isn't
pub record IsOver {K : Type 0} (old new : PrinterView K) : Type 0 where
  pub first : new.first ≡ old.first
  pub quiet : new.quiet ≡ old.quiet

-- the first of some bytes were handed in, behind all that was, and these are left
pub record TakesFirst {K : Type 0} (sink : Ghosts K) (old new : PrinterView K) (bytes left : List ℕ) : Type 0 where
  pub over : IsOver old new
  pub lines : new.lines ≡ old.lines
  pub part : List ℕ
  pub rest : bytes ≡ part ++ left
  pub text : (text : List ℕ) → HasTaken sink old text → HasTaken sink new (text ++ part)
