-- The laws of a disk, of the disk in memory.
use Rattle.std.specs.Prelude.{ℕ, ◌-◌, ◌^◌, ◌≤◌, ◌<◌, ◌≡◌, ◌&&◌, Bool, true, false, if◌then◌else◌, List, [], ◌∷◌}
use Rattle.std.specs.Prelude.{Some, None}
use Rattle.std.specs.List.{list_all}
use Rattle.std.proofs.Common.{inl, inr, arith, refl, subst}
use Rattle.std.proofs.lemmas.Bool.{and_parts, ltb-true}
use Rattle.std.proofs.lemmas.List.Elements.{All-cons, All-nil}
use Rattle.byte_disk.specs.Files.{AreBytes, AreFiles, Files, are_files, is_byte, told}
use Rattle.byte_disk.specs.declared.record.DoneCommand.{DoneCommand}
use Rattle.byte_disk.specs.Record.{undo, Leaves, LeftWithin, LeftSince}

pub only_now : (count : ℕ) (held : Files) (es : List DoneCommand) (image : Files) → count < 2 ^ 64 - 1
    → LeftSince count held es count image → Leaves held es image
only_now count held es image lt (inl now) = now
only_now count held es image lt (inr (inl less, past)) = absurd (omega arith)
only_now count held es image lt (inr (inr most, past)) = absurd (omega arith)

lower_within : (held : Files) (es : List DoneCommand) (t u : ℕ) (image : Files) → t ≤ u
    → LeftWithin held es u image → LeftWithin held es t image
lower_within held [] t u image le h = absurd h
lower_within held (e ∷ es) t u image le (inl (began, left)) = inl (omega arith, left)
lower_within held (e ∷ es) t u image le (inr past) = inr (lower_within (undo e.act held) es t u image le past)

pub lower : (count : ℕ) (held : Files) (es : List DoneCommand) (t u : ℕ) (image : Files) → t ≤ u
    → LeftSince count held es u image → LeftSince count held es t image
lower count held es t u image le (inl now) = inl now
lower count held es t u image le (inr (inl less, past)) =
    inr (inl (omega arith), lower_within held es t u image le past)
lower count held es t u image le (inr (inr most, past)) = inr (inr most, lower_within held es t u image le past)

pub counts_now : (count : ℕ) (held : Files) (es : List DoneCommand) (t : ℕ) (image : Files)
    → Leaves held es image → LeftSince count held es t image
counts_now count held es t image now = inl now

bytes_by : (bytes : List ℕ) → list_all is_byte bytes ≡ true → AreBytes bytes
bytes_by [] is = All-nil (λ (b : ℕ). b < 2 ^ 8)
bytes_by (b ∷ bs) is =
    let both = and_parts (is_byte b) (list_all is_byte bs) is in
    All-cons (λ (b : ℕ). b < 2 ^ 8) b bs (ltb-true b (2 ^ 8) both.0) (bytes_by bs both.1)

pub files_by : (d : Files) → are_files d ≡ true → AreFiles d
files_by d is =
    let last = and_parts (list_all is_byte d.ip && list_all is_byte d.dp) (list_all is_byte d.cm) is in
    let two = and_parts (list_all is_byte d.ip) (list_all is_byte d.dp) last.0 in
    record { ip = bytes_by d.ip two.0; dp = bytes_by d.dp two.1; cm = bytes_by d.cm last.1 }

told_by : (t : Bool) (d e : Files) → are_files d ≡ t → (if t then Some d else None) ≡ Some e → AreFiles e
told_by true d e are is =
    let same : d ≡ e = cc in
    subst (λ (x : Files). AreFiles x) same (files_by d are)
told_by false d e are is = absurd (cc is)

-- files that are told are of bytes
pub told_bytes : (d e : Files) → told d ≡ Some e → AreFiles e
told_bytes d e is = told_by (are_files d) d e refl is
