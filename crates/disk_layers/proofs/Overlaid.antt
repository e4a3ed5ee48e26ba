-- How files read with a run over them.
use Rattle.std.proofs.Common.{ℕ, ◌+◌, ◌-◌, ◌^◌, ◌≤◌, ◌<◌, ◌≡◌, ◌⊎◌, ⊎_elim, inl, inr, max, Bool, true, false, List, [], ◌++◌, length, take, drop, get_or, refl, sym, ◌∙◌, ap, subst, arith}
use Rattle.std.proofs.lemmas.Bool.{cases_lt}
use Rattle.std.proofs.lemmas.List.{append-nil, drop-take, ext_get_or, get_or-append_right, get_or_append_left, length-append, length-take-le, take-append-drop, take-append-le, take-take}
use Rattle.byte_disk.specs.Files.{AreBytes, AreFiles, Files, IsAnyIn, IsBroken, IsWritten, KeepsOthers, bytes_at, bytes_of, with_bytes, written}
use Rattle.byte_disk.specs.Record.{is_same}
use Rattle.byte_disk.specs.declared.disk.File.{File}
use Rattle.byte_disk.specs.declared.disk.File.TheVariants.{Ip, Dp, Cm}
use Rattle.byte_disk.proofs.Written.{length_written, written_above, written_below, written_bytes, written_inside}
use Rattle.disk_layers.specs.Held.{IsClear, Run, length_over, longer, overlaid}

module _ (from : ℕ) (run file : List ℕ) (within : from ≤ length file) where
  -- bytes that follow a run are one run with it
  pub written_on : (more : List ℕ) → written from (run ++ more) file ≡ written (from + length run) more (written from run file)
  written_on more =
      let mid : length (written from run file) ≡ max (length file) (from + length run) = length_written from run file within in
      let inside : from + length run ≤ length (written from run file) = omega (arith, mid) in
      let both : length (run ++ more) ≡ length run + length more = length-append run more in
      ext_get_or 0 (written from (run ++ more) file) (written (from + length run) more (written from run file))
      (omega (arith, length_written from (run ++ more) file within, length_written (from + length run) more (written from run file) inside, mid, both))
      (λ i lt. ⊎_elim
      (λ (below : i < from).
      written_below from (run ++ more) file within i 0 below
      ∙ sym (written_below (from + length run) more (written from run file) inside i 0 (omega (arith, below)) ∙ written_below from run file within i 0 below))
      (λ (le : from ≤ i). ⊎_elim
      (λ (in_run : i < from + length run).
      written_inside from (run ++ more) file within i 0 le (omega (arith, in_run, both))
      ∙ get_or_append_left run more 0 (i - from) (omega (arith, le, in_run))
      ∙ sym (written_below (from + length run) more (written from run file) inside i 0 in_run ∙ written_inside from run file within i 0 le in_run))
      (λ (past : from + length run ≤ i). ⊎_elim
      (λ (in_more : i < from + length run + length more).
      let place : i - from - length run ≡ i - (from + length run) = omega arith in
      written_inside from (run ++ more) file within i 0 le (omega (arith, in_more, both))
      ∙ get_or-append_right run more (length run) (i - from) 0 refl (omega (arith, past))
      ∙ ap (λ (k : ℕ). get_or more k 0) place
      ∙ sym (written_inside (from + length run) more (written from run file) inside i 0 past in_more))
      (λ (behind : from + length run + length more ≤ i).
      written_above from (run ++ more) file within i 0 (omega (arith, behind, both))
      ∙ sym (written_above (from + length run) more (written from run file) inside i 0 behind ∙ written_above from run file within i 0 past))
      (cases_lt i (from + length run + length more)))
      (cases_lt i (from + length run)))
      (cases_lt i from))

  -- what a failed writing-out may have left in its place is covered by the run
  pub covered : (left : List ℕ) → IsAnyIn from (length run) file left → written from run left ≡ written from run file
  covered left any =
      let there : from ≤ length left = omega (arith, within, any.no_shorter) in
      ext_get_or 0 (written from run left) (written from run file)
      (omega (arith, length_written from run left there, length_written from run file within, any.no_shorter, any.no_longer))
      (λ i lt. ⊎_elim
      (λ (below : i < from).
      written_below from run left there i 0 below ∙ any.outside i (omega (arith, below, within)) (inl below)
      ∙ sym (written_below from run file within i 0 below))
      (λ (le : from ≤ i). ⊎_elim
      (λ (in_run : i < from + length run). written_inside from run left there i 0 le in_run ∙ sym (written_inside from run file within i 0 le in_run))
      (λ (past : from + length run ≤ i).
      written_above from run left there i 0 past
      ∙ any.outside i (omega (arith, lt, past, length_written from run left there, any.no_shorter, any.no_longer)) (inr past)
      ∙ sym (written_above from run file within i 0 past))
      (cases_lt i (from + length run)))
      (cases_lt i from))

-- ---- one file and the others
pub others_with : (file : File) (bytes : List ℕ) (d : Files) → KeepsOthers file d (with_bytes file bytes d)
others_with Ip bytes d = (refl, refl)
others_with Dp bytes d = (refl, refl)
others_with Cm bytes d = (refl, refl)

pub bytes_with : (file : File) (bytes : List ℕ) (d : Files) → bytes_of file (with_bytes file bytes d) ≡ bytes
bytes_with Ip bytes d = refl
bytes_with Dp bytes d = refl
bytes_with Cm bytes d = refl

pub with_same : (file : File) (d : Files) → with_bytes file (bytes_of file d) d ≡ d
with_same Ip d = refl
with_same Dp d = refl
with_same Cm d = refl

-- what is said of one file with its others says all
pub with_others : (file : File) (bytes : List ℕ) (d e : Files) → KeepsOthers file d e → bytes_of file e ≡ bytes → e ≡ with_bytes file bytes d
with_others Ip bytes d e others is =
    ap (λ (l : List ℕ). with_bytes Ip l (record { ip = e.ip; dp = e.dp; cm = e.cm })) is
    ∙ ap (λ (l : List ℕ). record { ip = bytes; dp = l; cm = e.cm }) others.0
    ∙ ap (λ (l : List ℕ). record { ip = bytes; dp = d.dp; cm = l }) others.1
with_others Dp bytes d e others is =
    ap (λ (l : List ℕ). with_bytes Dp l (record { ip = e.ip; dp = e.dp; cm = e.cm })) is
    ∙ ap (λ (l : List ℕ). record { ip = l; dp = bytes; cm = e.cm }) others.0
    ∙ ap (λ (l : List ℕ). record { ip = d.ip; dp = bytes; cm = l }) others.1
with_others Cm bytes d e others is =
    ap (λ (l : List ℕ). with_bytes Cm l (record { ip = e.ip; dp = e.dp; cm = e.cm })) is
    ∙ ap (λ (l : List ℕ). record { ip = l; dp = e.dp; cm = bytes }) others.0
    ∙ ap (λ (l : List ℕ). record { ip = d.ip; dp = l; cm = bytes }) others.1

pub with_twice : (file : File) (one two : List ℕ) (d : Files) → with_bytes file two (with_bytes file one d) ≡ with_bytes file two d
with_twice Ip one two d = refl
with_twice Dp one two d = refl
with_twice Cm one two d = refl

-- another file than that one stays
pub other_stays : (file other : File) (d e : Files) → is_same other file ≡ false → KeepsOthers file d e → bytes_of other e ≡ bytes_of other d
other_stays Ip Ip d e apart others = absurd (cc apart)
other_stays Ip Dp d e apart others = others.0
other_stays Ip Cm d e apart others = others.1
other_stays Dp Ip d e apart others = others.0
other_stays Dp Dp d e apart others = absurd (cc apart)
other_stays Dp Cm d e apart others = others.1
other_stays Cm Ip d e apart others = others.0
other_stays Cm Dp d e apart others = others.1
other_stays Cm Cm d e apart others = absurd (cc apart)

pub same_file : (f g : File) → is_same f g ≡ true → f ≡ g
same_file Ip Ip is = refl
same_file Ip Dp is = absurd (cc is)
same_file Ip Cm is = absurd (cc is)
same_file Dp Ip is = absurd (cc is)
same_file Dp Dp is = refl
same_file Dp Cm is = absurd (cc is)
same_file Cm Ip is = absurd (cc is)
same_file Cm Dp is = absurd (cc is)
same_file Cm Cm is = refl

pub file_cases : (f g : File) → (is_same f g ≡ true) ⊎ (is_same f g ≡ false)
file_cases f g = by (is_same f g) refl where
  by : (t : Bool) → is_same f g ≡ t → (is_same f g ≡ true) ⊎ (is_same f g ≡ false)
  by true is = inl is
  by false is = inr is

files_with : (file : File) (bytes : List ℕ) (d : Files) → AreBytes bytes → AreFiles d → AreFiles (with_bytes file bytes d)
files_with Ip bytes d are files = record { ip = are; dp = files.dp; cm = files.cm }
files_with Dp bytes d are files = record { ip = files.ip; dp = are; cm = files.cm }
files_with Cm bytes d are files = record { ip = files.ip; dp = files.dp; cm = are }

bytes_in : (file : File) (d : Files) → AreFiles d → AreBytes (bytes_of file d)
bytes_in Ip d files = files.ip
bytes_in Dp d files = files.dp
bytes_in Cm d files = files.cm

-- ---- a run over files
pub over_files : (r : Run) (d : Files) → AreBytes r.bytes → AreFiles d → AreFiles (overlaid r d)
over_files r d are files =
    files_with r.file (written r.from r.bytes (bytes_of r.file d)) d
    (written_bytes r.from r.bytes (bytes_of r.file d) are (bytes_in r.file d files)) files

written_none : (from : ℕ) (l : List ℕ) → written from [] l ≡ l
written_none from l =
    let end : from + length {A = ℕ} [] ≡ from = omega arith in
    ap (λ (k : ℕ). take from l ++ [] ++ drop k l) end
    ∙ ap (λ (x : List ℕ). x ++ drop from l) (append-nil (take from l))
    ∙ take-append-drop from l

-- a run without bytes
pub over_none : (r : Run) (d : Files) → r.bytes ≡ [] → overlaid r d ≡ d
over_none r d none =
    ap (λ (l : List ℕ). with_bytes r.file (written r.from l (bytes_of r.file d)) d) none
    ∙ ap (λ (l : List ℕ). with_bytes r.file l d) (written_none r.from (bytes_of r.file d))
    ∙ with_same r.file d

-- how long the files are
pub over_length : (r : Run) (file : File) (d : Files) → r.from ≤ length (bytes_of r.file d)
    → length (bytes_of file (overlaid r d)) ≡ length_over r file (length (bytes_of file d))
over_length r file d within = cases file r.file within where
  cases : (f g : File) → r.from ≤ length (bytes_of g d)
      → length (bytes_of f (overlaid (record { file = g; from = r.from; bytes = r.bytes }) d))
      ≡ length_over (record { file = g; from = r.from; bytes = r.bytes }) f (length (bytes_of f d))
  cases Ip Ip low = length_written r.from r.bytes d.ip low
  cases Ip Dp low = refl
  cases Ip Cm low = refl
  cases Dp Ip low = refl
  cases Dp Dp low = length_written r.from r.bytes d.dp low
  cases Dp Cm low = refl
  cases Cm Ip low = refl
  cases Cm Dp low = refl
  cases Cm Cm low = length_written r.from r.bytes d.cm low

-- what lies in front of a run
in_front : (at n from : ℕ) (run l : List ℕ) → at + n ≤ from → from ≤ length l → bytes_at at n (written from run l) ≡ bytes_at at n l
in_front at n from run l before within =
    let size : length (take from l) ≡ from = length-take-le from l within in
    let both : length (take from l ++ run) ≡ from + length run = omega (arith, length-append (take from l) run, size) in
    sym (drop-take at n (written from run l))
    ∙ ap (λ (x : List ℕ). drop at x) (
    take-append-le (at + n) (take from l ++ run) (drop (from + length run) l) (omega (arith, both, before))
    ∙ take-append-le (at + n) (take from l) run (omega (arith, size, before))
    ∙ take-take (at + n) from l before
    )
    ∙ drop-take at n l

-- what lies clear of a run
pub clear_bytes : (r : Run) (file : File) (at n : ℕ) (d : Files) → IsClear r file (at + n) → r.from ≤ length (bytes_of r.file d)
    → bytes_at at n (bytes_of file (overlaid r d)) ≡ bytes_at at n (bytes_of file d)
clear_bytes r file at n d (inl none) within = ap (λ (x : Files). bytes_at at n (bytes_of file x)) (over_none r d none)
clear_bytes r file at n d (inr before) within = ⊎_elim
    (λ (same : is_same file r.file ≡ true).
    let is : r.file ≡ file = sym (same_file file r.file same) in
    subst (λ (f : File). bytes_at at n (bytes_of f (overlaid r d)) ≡ bytes_at at n (bytes_of f d)) is
    (ap (λ (l : List ℕ). bytes_at at n l) (bytes_with r.file (written r.from r.bytes (bytes_of r.file d)) d)
    ∙ in_front at n r.from r.bytes (bytes_of r.file d) (before same) within))
    (λ (apart : is_same file r.file ≡ false).
    ap (λ (l : List ℕ). bytes_at at n l)
    (other_stays r.file file d (overlaid r d) apart (others_with r.file (written r.from r.bytes (bytes_of r.file d)) d)))
    (file_cases file r.file)

pub clear_within : (r : Run) (file : File) (end : ℕ) (d : Files) → IsClear r file end → r.from ≤ length (bytes_of r.file d)
    → end ≤ length (bytes_of file (overlaid r d)) → end ≤ length (bytes_of file d)
clear_within r file end d (inl none) within le = subst (λ (x : Files). end ≤ length (bytes_of file x)) (over_none r d none) le
clear_within r file end d (inr before) within le = ⊎_elim
    (λ (same : is_same file r.file ≡ true).
    let is : r.file ≡ file = sym (same_file file r.file same) in
    let low : end ≤ r.from = before same in
    subst (λ (f : File). end ≤ length (bytes_of f d)) is (omega (arith, low, within)))
    (λ (apart : is_same file r.file ≡ false).
    subst (λ (l : List ℕ). end ≤ length l)
    (other_stays r.file file d (overlaid r d) apart (others_with r.file (written r.from r.bytes (bytes_of r.file d)) d)) le)
    (file_cases file r.file)

-- a run was written to its file
pub over_written : (r : Run) (d e : Files) → IsWritten r.file r.from r.bytes d e → e ≡ overlaid r d
over_written r d e is = with_others r.file (written r.from r.bytes (bytes_of r.file d)) d e is.others is.put

-- a run was to be written to its file, and is held as before
pub over_broken : (r : Run) (d e : Files) → r.from ≤ length (bytes_of r.file d) → IsBroken r.file r.from (length r.bytes) d e
    → overlaid r e ≡ overlaid r d
over_broken r d e within is =
    let same : e ≡ with_bytes r.file (bytes_of r.file e) d = with_others r.file (bytes_of r.file e) d e is.others refl in
    ap (λ (x : Files). with_bytes r.file (written r.from r.bytes (bytes_of r.file e)) x) same
    ∙ with_twice r.file (bytes_of r.file e) (written r.from r.bytes (bytes_of r.file e)) d
    ∙ ap (λ (l : List ℕ). with_bytes r.file l d) (covered r.from r.bytes (bytes_of r.file d) within (bytes_of r.file e) is.any)

-- more bytes are held behind a run
pub over_longer : (r : Run) (more : List ℕ) (d : Files) → r.from ≤ length (bytes_of r.file d)
    → IsWritten r.file (r.from + length r.bytes) more (overlaid r d) (overlaid (longer more r) d)
over_longer r more d within = record {
  others = subst (λ (x : Files). KeepsOthers r.file (overlaid r d) x)
      (with_twice r.file (written r.from r.bytes (bytes_of r.file d)) (written r.from (r.bytes ++ more) (bytes_of r.file d)) d)
      (others_with r.file (written r.from (r.bytes ++ more) (bytes_of r.file d)) (overlaid r d));
  put = bytes_with r.file (written r.from (r.bytes ++ more) (bytes_of r.file d)) d
      ∙ written_on r.from r.bytes (bytes_of r.file d) within more
      ∙ ap (λ (l : List ℕ). written (r.from + length r.bytes) more l)
      (sym (bytes_with r.file (written r.from r.bytes (bytes_of r.file d)) d));
}

-- bytes are held alone
pub over_first : (file : File) (at : ℕ) (more : List ℕ) (d : Files)
    → IsWritten file at more d (overlaid (record { file = file; from = at; bytes = more }) d)
over_first file at more d = record {
  others = others_with file (written at more (bytes_of file d)) d;
  put = bytes_with file (written at more (bytes_of file d)) d;
}
