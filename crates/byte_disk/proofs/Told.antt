-- A disk in memory tells its files, since they are of bytes.
use Rattle.std.proofs.Common.{ℕ, ◌^◌, ◌<◌, ◌≡◌, Bool, true, false, ◌&&◌, List, [], ◌∷◌, Some, None, Result, Ok, Err, refl, sym, ap, subst}
use Rattle.std.specs.Prelude.{IfOk, IfSome, OnOk, if◌then◌else◌}
use Rattle.std.specs.List.{list_all}
use Rattle.std.proofs.lemmas.Bool.{and_from, lt-ltb}
use Rattle.std.proofs.lemmas.List.Elements.{All-head, All-tail}
use Rattle.crash_steps.specs.Crashes.{IsSureOf}
use Rattle.byte_disk.proofs.Any.{any_bytes}
use Rattle.byte_disk.specs.declared.disk.File.{File}
use Rattle.byte_disk.specs.declared.disk.File.TheVariants.{Ip, Dp, Cm}
use Rattle.byte_disk.specs.declared.record.DoneCommand.{DoneCommand}
use Rattle.byte_disk.specs.Files.{AreBytes, AreFiles, Files, IsBroken, are_files, is_byte, told}
use Rattle.byte_disk.specs.Record.{IsRecordOf, pending}
use Rattle.byte_disk.proofs.Kept.{kept_bytes, record_kept}

by_bytes : (bytes : List ℕ) → AreBytes bytes → list_all is_byte bytes ≡ true
by_bytes [] are = refl
by_bytes (b ∷ bs) are =
    and_from (is_byte b) (list_all is_byte bs) (lt-ltb b (2 ^ 8) (All-head (λ (b : ℕ). b < 2 ^ 8) b bs are))
    (by_bytes bs (All-tail (λ (b : ℕ). b < 2 ^ 8) b bs are))

by_files : (d : Files) → AreFiles d → are_files d ≡ true
by_files d are =
    and_from (list_all is_byte d.ip && list_all is_byte d.dp) (list_all is_byte d.cm)
    (and_from (list_all is_byte d.ip) (list_all is_byte d.dp) (by_bytes d.ip are.ip) (by_bytes d.dp are.dp)) (by_bytes d.cm are.cm)

-- files of bytes are told
pub are_told : (d : Files) → AreFiles d → told d ≡ Some d
are_told d are = ap (λ (t : Bool). if t then Some d else None) (by_files d are)

-- those that a record leads to are of bytes
pub record_files : (d : Files) (es : List DoneCommand) → IsRecordOf d es → AreFiles d
record_files d es kept = record {
  ip = kept_bytes d.ip (pending Ip es) (record_kept Ip d es kept);
  dp = kept_bytes d.dp (pending Dp es) (record_kept Dp d es kept);
  cm = kept_bytes d.cm (pending Cm es) (record_kept Cm d es kept);
}

-- any bytes in a range leave files of bytes
pub broken_files : (file : File) (at n : ℕ) (d e : Files) → IsBroken file at n d e → AreFiles d → AreFiles e
broken_files Ip at n d e broken are = record {
  ip = any_bytes at n d.ip e.ip broken.any are.ip;
  dp = subst (λ (l : List ℕ). AreBytes l) (sym broken.others.0) are.dp;
  cm = subst (λ (l : List ℕ). AreBytes l) (sym broken.others.1) are.cm;
}
broken_files Dp at n d e broken are = record {
  ip = subst (λ (l : List ℕ). AreBytes l) (sym broken.others.0) are.ip;
  dp = any_bytes at n d.dp e.dp broken.any are.dp;
  cm = subst (λ (l : List ℕ). AreBytes l) (sym broken.others.1) are.cm;
}
broken_files Cm at n d e broken are = record {
  ip = subst (λ (l : List ℕ). AreBytes l) (sym broken.others.0) are.ip;
  dp = subst (λ (l : List ℕ). AreBytes l) (sym broken.others.1) are.dp;
  cm = any_bytes at n d.cm e.cm broken.any are.cm;
}

only_by : (t : Bool) (d e : Files) → (if t then Some d else None) ≡ Some e → d ≡ e
only_by true d e is = cc
only_by false d e is = absurd (cc is)

-- what is told is these files
pub told_only : (d e : Files) → told d ≡ Some e → d ≡ e
told_only d e is = only_by (are_files d) d e is

none_by : (t : Bool) (d : Files) → t ≡ true → (if t then Some d else None) ≡ None → ⊥
none_by true d are is = cc is
none_by false d are is = cc are

-- files of bytes are told
pub told_some : (d : Files) → AreFiles d → told d ≡ None → ⊥
told_some d are is = none_by (are_files d) d (by_files d are) is

-- what is said of the files is said of those that are told
pub value_told : {T E : Type 0} (P : T → Files → Type 0) (r : Result T E) (d : Files) → IfOk r (λ x. P x d)
    → IfOk r (λ x. (e : Files) → told d ≡ Some e → P x e)
value_told P (Ok x) d is = λ e told_is. subst (λ (f : Files). P x f) (told_only d e told_is) is
value_told P (Err why) d is = tt

-- what holds of the files holds of them as they are told
pub done_told : {T E : Type 0} (P : Files → Type 0) (r : Result T E) (d : Files) → OnOk r (P d)
    → (e : Files) → told d ≡ Some e → OnOk r (P e)
done_told P r d is e told_is = subst (λ (f : Files). OnOk r (P f)) (told_only d e told_is) is

sure_by : {Y : Type 0} (part : Files → Y) (t : Bool) (d : Files) (leaves : Files → Type 0)
    → ((image : Files) → leaves image → part image ≡ part d) → IsSureOf part (if t then Some d else None) leaves
sure_by part true d leaves sure = sure
sure_by part false d leaves sure = tt

-- a part that every crash leaves as it reads is sure
pub sure_told : {Y : Type 0} (part : Files → Y) (d : Files) (leaves : Files → Type 0)
    → ((image : Files) → leaves image → part image ≡ part d) → IsSureOf part (told d) leaves
sure_told part d leaves sure = sure_by part (are_files d) d leaves sure

some_by : (P : Files → Type 0) (t : Bool) (d : Files) → t ≡ true → IfSome (if t then Some d else None) P → P d
some_by P true d are is = is
some_by P false d are is = absurd (cc are)

-- what is asked of the files that are told is asked of these
pub some_told : (P : Files → Type 0) (d : Files) → AreFiles d → IfSome (told d) P → P d
some_told P d are is = some_by P (are_files d) d (by_files d are) is
