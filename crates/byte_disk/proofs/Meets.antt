-- What the trait asks of every command, from what a command does to the view.
use Rattle.std.proofs.Common.{ℕ, ◌+◌, ◌-◌, ◌^◌, ◌<◌, ◌≤◌, ◌≡◌, inl, inr, min, List, ◌∷◌, take, length, Some, Result, Ok, Err, refl, sym, ap, subst, arith}
use Rattle.std.specs.Prelude.{OnOk}
use Rattle.std.proofs.lemmas.List.{length-take}
use Rattle.std.proofs.lemmas.List.Elements.{All-take}
use Rattle.tape_types.specs.Counts.{HasCause}
use Rattle.crash_steps.specs.Crashes.{Crashes, NothingNew}
use Rattle.byte_disk.specs.declared.disk.File.{File}
use Rattle.byte_disk.specs.declared.disk.File.TheVariants.{Ip, Dp, Cm}
use Rattle.byte_disk.specs.declared.record.Act.{Act}
use Rattle.byte_disk.specs.declared.record.Act.TheVariants.{Wrote, Synced}
use Rattle.byte_disk.specs.Files.{Files, AreBytes, AreFiles, IsBroken, IsWritten, AfterWrite, bytes_of, told, with_bytes, written}
use Rattle.byte_disk.specs.Commands.{IsOneMore, IsFileSure, WithinWrite}
use Rattle.byte_disk.specs.Record.{change_of, undo, Leaves, LeftSince}
use Rattle.byte_disk.specs.Memory.{View, acted, begun, failed, starved_out, Looked, RanWrite, RanSync, IsSane}
use Rattle.byte_disk.proofs.Told.{are_told, broken_files, sure_told, told_only}
use Rattle.byte_disk.proofs.Written.{put_any}
use Rattle.byte_disk.proofs.Kept.{put_undone}
use Rattle.byte_disk.proofs.Acts.{acts, any_same, quiet, sync_back, synced_sure, write_back}

-- what every command ensures
pub record Meets {T E : Type 0} (r : Result T E) (step : Files → Files → Type 0) (old new : View) : Type 0 where
  pub count : IsOneMore old.commands new.commands
  pub cause : HasCause old.faults new.faults r
  pub crash : Crashes step old.commands (Leaves old.held old.acts) (Leaves new.held new.acts)
      (LeftSince old.commands old.held old.acts) (LeftSince new.commands new.held new.acts)

module _ (T E : Type 0) (step : Files → Files → Type 0) (old : View) (sane : IsSane old) where
  one_more : IsOneMore old.commands (min (old.commands + 1) (2 ^ 64 - 1))
  one_more = record { in_range = sane.commands; one_more = refl }

  module _ (same : (image : Files) → step image image) where
    meets_still : (t : T) → Meets {T = T} {E = E} (Ok t) step old (begun old)
    meets_still t = record {
      count = one_more;
      cause = record { later = omega arith; failed = tt };
      crash = quiet old.held old.acts old.commands _ sane.sound.numbers (omega arith) step same;
    }

    meets_failed : (e : E) → Meets {T = T} {E = E} (Err e) step old (failed (begun old))
    meets_failed e = record {
      count = one_more;
      cause = record { later = omega (arith, sane.faults); failed = omega arith };
      crash = quiet old.held old.acts old.commands _ sane.sound.numbers (omega arith) step same;
    }

    meets_starved : (e : E) → Meets {T = T} {E = E} (Err e) step old (starved_out (begun old))
    meets_starved e = record {
      count = one_more;
      cause = record { later = omega (arith, sane.faults); failed = omega arith };
      crash = quiet old.held old.acts old.commands _ sane.sound.numbers (omega arith) step same;
    }

  module _ (act : Act) (held : Files) (undone : undo act held ≡ old.held)
      (within : (image : Files) → Leaves held (record { number = old.commands; act = act } ∷ old.acts) image
      → (before : Files) × Leaves (undo act held) old.acts before × step before image) where
    meets_acted : (t : T) → Meets {T = T} {E = E} (Ok t) step old (acted old.commands act held (begun old))
    meets_acted t = record {
      count = one_more;
      cause = record { later = omega arith; failed = tt };
      crash = acts old.held old.acts old.commands _ sane.sound.numbers (omega arith) step held act undone within;
    }

    meets_broken : (e : E) → Meets {T = T} {E = E} (Err e) step old (failed (acted old.commands act held (begun old)))
    meets_broken e = record {
      count = one_more;
      cause = record { later = omega (arith, sane.faults); failed = omega arith };
      crash = acts old.held old.acts old.commands _ sane.sound.numbers (omega arith) step held act undone within;
    }

-- a command that only looks keeps what the trait asks of it
pub looked_meets : (T E : Type 0) (r : Result T E) (old new : View) → IsSane old → Looked r old new → Meets r NothingNew old new
looked_meets T E (Ok t) old new sane ran =
    subst (λ (v : View). Meets {T = T} {E = E} (Ok t) NothingNew old v) (sym ran.1) (meets_still T E NothingNew old sane (λ image. refl) t)
looked_meets T E (Err e) old new sane ran =
    subst (λ (v : View). Meets {T = T} {E = E} (Err e) NothingNew old v) (sym ran.1) (meets_failed T E NothingNew old sane (λ image. refl) e)

-- a command that only looks leaves the files as they were
pub looked_held : (T E : Type 0) (r : Result T E) (old new : View) → Looked r old new → new.held ≡ old.held
looked_held T E (Ok t) old new ran = ap (λ (v : View). v.held) ran.1
looked_held T E (Err e) old new ran = ap (λ (v : View). v.held) ran.1

module _ (T E : Type 0) (file : File) (at : ℕ) (bytes : List ℕ) (old new : View) (within : at ≤ length (bytes_of file old.held)) where
  abbrev count : ℕ
  count = length bytes

  abbrev step : Files → Files → Type 0
  step = WithinWrite file at (length bytes)

  abbrev act_of : List ℕ → Act
  act_of xs = Wrote file (change_of at (length bytes) xs (bytes_of file old.held))

  abbrev held_of : List ℕ → Files
  held_of xs = with_bytes file (written at xs (bytes_of file old.held)) old.held

  -- a write keeps what the trait asks of it
  pub write_meets : (r : Result T E) → IsSane old → RanWrite r file at bytes old new → Meets r (WithinWrite file at (length bytes)) old new
  write_meets (Ok t) sane ran =
      subst (λ (v : View). Meets {T = T} {E = E} (Ok t) step old v) (sym ran.1)
      (meets_acted T E step old sane (act_of bytes) (held_of bytes) (put_undone at (length bytes) bytes file old.held within)
      (λ image left. write_back file (change_of at (length bytes) bytes (bytes_of file old.held)) old.commands (held_of bytes) old.acts image left) t)
  write_meets (Err e) sane (inl ran) =
      subst (λ (v : View). Meets {T = T} {E = E} (Err e) step old v) (sym ran.1)
      (meets_broken T E step old sane (act_of (take old.arrives bytes)) (held_of (take old.arrives bytes)) (put_undone at (length bytes) (take old.arrives bytes) file old.held within)
      (λ image left. write_back file (change_of at (length bytes) (take old.arrives bytes) (bytes_of file old.held)) old.commands (held_of (take old.arrives bytes)) old.acts image left) e)
  write_meets (Err e) sane (inr ran) =
      subst (λ (v : View). Meets {T = T} {E = E} (Err e) step old v) (sym ran) (meets_starved T E step old sane (λ image. any_same file at (length bytes) image) e)

  written_is : (file : File) (xs : List ℕ) (d : Files) → IsWritten file at xs d (with_bytes file (written at xs (bytes_of file d)) d)
  written_is Ip xs d = record { others = (refl, refl); put = refl }
  written_is Dp xs d = record { others = (refl, refl); put = refl }
  written_is Cm xs d = record { others = (refl, refl); put = refl }

  broken_is : (file : File) (xs : List ℕ) (d : Files) → at ≤ length (bytes_of file d) → length xs ≤ length bytes → AreBytes xs
      → IsBroken file at (length bytes) d (with_bytes file (written at xs (bytes_of file d)) d)
  broken_is Ip xs d le few are = record { others = (refl, refl); any = put_any at xs d.ip le (length bytes) few are }
  broken_is Dp xs d le few are = record { others = (refl, refl); any = put_any at xs d.dp le (length bytes) few are }
  broken_is Cm xs d le few are = record { others = (refl, refl); any = put_any at xs d.cm le (length bytes) few are }

  -- whatever came of it, any bytes in its range stand in the file
  broken_of : (r : Result T E) → AreBytes bytes → RanWrite r file at bytes old new → IsBroken file at (length bytes) old.held new.held
  broken_of (Ok t) are ran =
      subst (λ (v : View). IsBroken file at (length bytes) old.held v.held) (sym ran.1) (broken_is file bytes old.held within (omega arith) are)
  broken_of (Err e) are (inl ran) =
      subst (λ (v : View). IsBroken file at (length bytes) old.held v.held) (sym ran.1)
      (broken_is file (take old.arrives bytes) old.held within (omega (arith, length-take old.arrives bytes))
      (All-take (λ (b : ℕ). b < 2 ^ 8) old.arrives bytes are))
  broken_of (Err e) are (inr ran) = subst (λ (v : View). IsBroken file at (length bytes) old.held v.held) (sym ran) (any_same file at (length bytes) old.held)

  told_of : (r : Result T E) → AreBytes bytes → RanWrite r file at bytes old new → AfterWrite r file at bytes old.held new.held
  told_of (Ok t) are ran =
      subst (λ (v : View). IsWritten file at bytes old.held v.held) (sym ran.1) (written_is file bytes old.held)
  told_of (Err e) are ran = broken_of (Err e) are ran

  -- a write leaves the files as the trait says
  pub write_told : (r : Result T E) → AreBytes bytes → AreFiles old.held → RanWrite r file at bytes old new → (d : Files) → told old.held ≡ Some d
      → (e : Files) × (told new.held ≡ Some e) × AfterWrite r file at bytes d e
  write_told r are files ran d is =
      let after = broken_files file at (length bytes) old.held new.held (broken_of r are ran) files in
      (new.held, are_told new.held after, subst (λ (x : Files). AfterWrite r file at bytes x new.held) (told_only old.held d is) (told_of r are ran))

module _ (T E : Type 0) (file : File) (old new : View) where
  -- a sync keeps what the trait asks of it
  pub sync_meets : (r : Result T E) → IsSane old → RanSync r file old new → Meets r NothingNew old new
  sync_meets (Ok t) sane ran =
      subst (λ (v : View). Meets {T = T} {E = E} (Ok t) NothingNew old v) (sym ran.1)
      (meets_acted T E NothingNew old sane (Synced file) old.held refl
      (λ image left. (image, sync_back file old.commands old.held old.acts image sane.sound.kept left, refl)) t)
  sync_meets (Err e) sane (inl ran) =
      subst (λ (v : View). Meets {T = T} {E = E} (Err e) NothingNew old v) (sym ran.1) (meets_failed T E NothingNew old sane (λ image. refl) e)
  sync_meets (Err e) sane (inr ran) =
      subst (λ (v : View). Meets {T = T} {E = E} (Err e) NothingNew old v) (sym ran.1) (meets_starved T E NothingNew old sane (λ image. refl) e)

  -- a sync leaves the files as they read
  pub sync_held : (r : Result T E) → RanSync r file old new → new.held ≡ old.held
  sync_held (Ok t) ran = ap (λ (v : View). v.held) ran.1
  sync_held (Err e) (inl ran) = ap (λ (v : View). v.held) ran.1
  sync_held (Err e) (inr ran) = ap (λ (v : View). v.held) ran.1

  -- after a sync that succeeded the file is sure
  pub sync_sure : (r : Result T E) → RanSync r file old new → OnOk r (IsFileSure file (told new.held) (Leaves new.held new.acts))
  sync_sure (Ok t) ran =
      subst (λ (v : View). IsFileSure file (told v.held) (Leaves v.held v.acts)) (sym ran.1)
      (sure_told (bytes_of file) old.held _ (λ image left. synced_sure file old.commands old.held old.acts image left))
  sync_sure (Err e) ran = tt
