-- What `format` promises, from what it comes to and what is told of that.
use Rattle.std.proofs.Common.{◌≡◌, ◌∙◌, ℕ, List, [], ◌∷◌, Option, Some, None, codes, refl, sym, subst, inl, inr, ◌⊎◌}
use Rattle.std.specs.Io.KnownBytes.{Appends}
use Rattle.tape_types.specs.Counts.{Rose}
use Rattle.tape_types.specs.declared.moments.Moment.{Moment}
use Rattle.session_script.specs.declared.logs.Log.{Log}
use Rattle.tape_drive.specs.declared.drive.Drive.{Ghosts}
use Rattle.cartridge_meaning.specs.declared.errors.MountErr.TheVariants as mounts
use Rattle.format_volume.specs.Outcomes.{AreCounts, CanStand, IsUntouched, Refuses}
use Rattle.format_volume.specs.Refusals.{spec_fault}
use Rattle.format_volume.specs.Volumes.{full}
use Rattle.format_volume.specs.Writes.{Goes}
use Rattle.format_volume.proofs.WriteLemmas.{goes_still}
use Rattle.format_volume.specs.declared.requests.FormatErr.{FormatErr}
use Rattle.format_volume.specs.declared.requests.FormatErr.TheVariants as errors
use Rattle.commands.specs.CommandLine.Volumes.{spec_at}
use Rattle.commands.specs.declared.command_line.volumes.FormatWords.{FormatWords}
use Rattle.commands.specs.BasicCommands.Formats.{AlwaysFits, FormatEnd, IsFormatEnd, IsFormatted, IsFormattedAs, IsFullPrinted, IsMadeAt, IsUnformatted, NeverFits, end_status, end_text, format_status, format_text, formatted, formatted_text, unformatted, untold}
use Rattle.commands.specs.BasicCommands.Headline.{IsDriveFaultPrinted}
use Rattle.commands.specs.BasicCommands.Labels.{mount_text}
use Rattle.commands.specs.BasicCommands.Outcomes.{EndsAs, IsTold, of_format}
use Rattle.commands.specs.BasicCommands.Promises.{DoesFormat}
use Rattle.commands.specs.BasicCommands.Runs.{Gives, IsOneOf, Written}
use Rattle.commands.proofs.BasicCommands.Told.{by_six, by_status, by_text}

module _ {D : Type 0} (drive : Ghosts D) (old new : D) (asked : FormatWords) (gives : Gives) (sink : Written) where
  status_is : (end : FormatEnd) → IsFormatEnd drive asked gives old new end → IsOneOf (end_status end) (0 ∷ 4 ∷ 6 ∷ 7 ∷ 8 ∷ [])
  status_is (formatted uuid) is = inl refl
  status_is (unformatted (errors.BadSpec field)) is = absurd is
  status_is (unformatted (errors.Full need limit)) is = inr (inr (inr (inr (inl refl))))
  status_is (unformatted (errors.Drive counts)) is = inr (inl refl)
  status_is (unformatted errors.NoMemory) is = inr (inr (inr (inl refl)))
  status_is (untold counts) is = inr (inr (inr (inl refl)))

  not_six : (end : FormatEnd) → end_status end ≡ 6 → ⊥
  not_six (formatted uuid) six = cc six
  not_six (unformatted (errors.BadSpec field)) six = cc six
  not_six (unformatted (errors.Full need limit)) six = cc six
  not_six (unformatted (errors.Drive counts)) six = cc six
  not_six (unformatted errors.NoMemory) six = cc six
  not_six (untold counts) six = cc six

  done_is : (end : FormatEnd) → IsFormatEnd drive asked gives old new end → (end_status end ≡ 0) × Appends sink.old sink.new (end_text end)
      → IsFormattedAs drive asked gives old new × Appends sink.old sink.new (formatted_text asked.volume.uuid)
  done_is (formatted uuid) is told = (is.1, subst (λ u. Appends sink.old sink.new (formatted_text u)) is.0 told.1)
  done_is (unformatted (errors.BadSpec field)) is told = absurd is
  done_is (unformatted (errors.Full need limit)) is told = absurd (cc told.0)
  done_is (unformatted (errors.Drive counts)) is told = absurd (cc told.0)
  done_is (unformatted errors.NoMemory) is told = absurd (cc told.0)
  done_is (untold counts) is told = absurd (cc told.0)

  -- one that never fits isn't made, and no drive fails at it
  no_room : (end : FormatEnd) → IsFormatEnd drive asked gives old new end → NeverFits asked gives (drive.limits old) → IsOneOf (end_status end) (6 ∷ 7 ∷ 8 ∷ [])
  no_room (formatted uuid) is never = absurd (never is.1.0 is.1.1 is.1.2.fits)
  no_room (unformatted (errors.BadSpec field)) is never = absurd is
  no_room (unformatted (errors.Full need limit)) is never = inr (inr (inl refl))
  no_room (unformatted (errors.Drive counts)) is never = absurd (never is.0.0 is.0.1 is.0.2)
  no_room (unformatted errors.NoMemory) is never = inr (inl refl)
  no_room (untold counts) is never = inr (inl refl)

  full_told : (end : FormatEnd) → IsFormatEnd drive asked gives old new end → (end_status end ≡ 8) × Appends sink.old sink.new (end_text end)
      → IsFullPrinted asked gives (drive.limits old) sink.old sink.new × (new ≡ old)
  full_told (formatted uuid) is told = absurd (cc told.0)
  full_told (unformatted (errors.BadSpec field)) is told = absurd is
  full_told (unformatted (errors.Full need limit)) is told = ((need, limit, is.0, told.1), is.1)
  full_told (unformatted (errors.Drive counts)) is told = absurd (cc told.0)
  full_told (unformatted errors.NoMemory) is told = absurd (cc told.0)
  full_told (untold counts) is told = absurd (cc told.0)

  fault_told : (end : FormatEnd) → IsFormatEnd drive asked gives old new end → (end_status end ≡ 4) × Appends sink.old sink.new (end_text end)
      → IsDriveFaultPrinted (drive.faults old) (drive.faults new) sink.old sink.new
  fault_told (formatted uuid) is told = absurd (cc told.0)
  fault_told (unformatted (errors.BadSpec field)) is told = absurd is
  fault_told (unformatted (errors.Full need limit)) is told = absurd (cc told.0)
  fault_told (unformatted (errors.Drive counts)) is told = (
    is.1.2,
    subst (λ n. Appends sink.old sink.new (mount_text (mounts.Drive (record { before = drive.faults old; after = n })))) is.1.1
        (subst (λ n. Appends sink.old sink.new (mount_text (mounts.Drive (record { before = n; after = counts.after })))) is.1.0 told.1),
  )
  fault_told (unformatted errors.NoMemory) is told = absurd (cc told.0)
  fault_told (untold counts) is told = absurd (cc told.0)

  memory_is : (end : FormatEnd) → IsFormatEnd drive asked gives old new end → (end_status end ≡ 7) × Appends sink.old sink.new (end_text end)
      → Appends sink.old sink.new (codes "memory\n")
  memory_is (formatted uuid) is told = absurd (cc told.0)
  memory_is (unformatted (errors.BadSpec field)) is told = absurd is
  memory_is (unformatted (errors.Full need limit)) is told = absurd (cc told.0)
  memory_is (unformatted (errors.Drive counts)) is told = absurd (cc told.0)
  memory_is (unformatted errors.NoMemory) is told = told.1
  memory_is (untold counts) is told = told.1

  not_both : (at : Moment) (need limit : ℕ) → CanStand (spec_at asked at) (drive.limits old) → full (spec_at asked at) (drive.limits old) ≡ Some (need, limit) → ⊥
  not_both at need limit can is = let bad : None ≡ Some (need, limit) = sym can.room ∙ is in cc bad

  all_done : (end : FormatEnd) → IsFormatEnd drive asked gives old new end → ¬ (Rose (drive.faults old) (drive.faults new)) → AlwaysFits asked gives (drive.limits old)
      → IsOneOf (end_status end) (0 ∷ 7 ∷ [])
  all_done (formatted uuid) is still fits = inl refl
  all_done (unformatted (errors.BadSpec field)) is still fits = absurd is
  all_done (unformatted (errors.Full need limit)) is still fits = absurd (not_both is.0.0 need limit (fits is.0.0 is.0.1) is.0.2)
  all_done (unformatted (errors.Drive counts)) is still fits = absurd (still is.1.2)
  all_done (unformatted errors.NoMemory) is still fits = inr (inl refl)
  all_done (untold counts) is still fits = inr (inl refl)

  -- what a status of 7 or 8 leaves, unless the drive failed
  left : (end : FormatEnd) → IsFormatEnd drive asked gives old new end → ¬ (Rose (drive.faults old) (drive.faults new)) → IsOneOf (end_status end) (7 ∷ 8 ∷ []) → new ≡ old
  left (formatted uuid) is still (inl seven) = absurd (cc seven)
  left (formatted uuid) is still (inr (inl eight)) = absurd (cc eight)
  left (formatted uuid) is still (inr (inr none)) = absurd none
  left (unformatted (errors.BadSpec field)) is still one = absurd is
  left (unformatted (errors.Full need limit)) is still one = is.1
  left (unformatted (errors.Drive counts)) is still one = absurd (still is.1.2)
  left (unformatted errors.NoMemory) is still one = is
  left (untold counts) is still one = absurd (still is.1.2)

  six_is_none : IsOneOf 6 (7 ∷ 8 ∷ []) → new ≡ old
  six_is_none (inl seven) = absurd (cc seven)
  six_is_none (inr (inl eight)) = absurd (cc eight)
  six_is_none (inr (inr none)) = absurd none

  -- how a format came to its end, and what was told of it, are what `format` promises
  pub format_does : (status : ℕ) (log : Option Log) (end : FormatEnd) → IsFormatEnd drive asked gives old new end → Goes drive old new
      → EndsAs (of_format end) sink status log → DoesFormat asked gives drive old new sink status log
  format_does status log end is goes told =
      let w = end_status end in
      let t = end_text end in record {
        statuses = by_status (λ n. IsOneOf n (0 ∷ 4 ∷ 6 ∷ 7 ∷ 8 ∷ [])) w t sink status told.1 (status_is end is) (λ rose. inr (inr (inl refl)));
        done = λ zero. done_is end is (by_text 0 w t sink status told.1 (λ e. cc e) zero);
        full = λ never. by_status (λ n. IsOneOf n (6 ∷ 7 ∷ 8 ∷ [])) w t sink status told.1 (no_room end is never) (λ rose. inl refl);
        only_full = λ eight. full_told end is (by_text 8 w t sink status told.1 (λ e. cc e) eight);
        only_drive = λ four. fault_told end is (by_text 4 w t sink status told.1 (λ e. cc e) four);
        only_write = by_six w t sink status told.1 (not_six end);
        memory = λ seven. memory_is end is (by_text 7 w t sink status told.1 (λ e. cc e) seven);
        complete = λ still quiet fits. by_status (λ n. IsOneOf n (0 ∷ 7 ∷ [])) w t sink status told.1 (all_done end is still fits) (λ rose. absurd (quiet rose));
        untouched = λ one still. by_status (λ n. IsOneOf n (7 ∷ 8 ∷ []) → new ≡ old) w t sink status told.1 (left end is still) (λ rose. six_is_none) one;
        goes = goes;
        no_log = told.0;
        told = (end, is, told);
      }

module _ {D : Type 0} (drive : Ghosts D) (old new : D) (asked : FormatWords) (gives : Gives) where
  -- what a refusal comes to
  pub refused_end : (error : FormatErr) (at : Moment) → IsMadeAt asked gives at → spec_fault asked.volume ≡ None
      → Refuses (spec_at asked at) (drive.limits old) error → IsUntouched error old new → AreCounts (drive.faults old) (drive.faults new) error
      → IsUnformatted drive asked gives old new error
  refused_end (errors.BadSpec field) at made fine is stays counts = let bad : None ≡ Some field = sym fine ∙ is in cc bad
  refused_end (errors.Full need limit) at made fine is stays counts = ((at, made, is.1), stays)
  refused_end (errors.Drive said) at made fine is stays counts = ((at, made, is), counts)
  refused_end errors.NoMemory at made fine is stays counts = stays

  -- the same where memory for telling it was refused
  pub untold_end : (error : FormatErr) → IsUnformatted drive asked gives old new error
      → (end : FormatEnd) × IsFormatEnd drive asked gives old new end × (end_status end ≡ 7) × (end_text end ≡ codes "memory\n")
  untold_end (errors.BadSpec field) is = absurd is
  untold_end (errors.Full need limit) is = (unformatted errors.NoMemory, is.1, refl, refl)
  untold_end (errors.Drive counts) is = (untold counts, is, refl, refl)
  untold_end errors.NoMemory is = (unformatted errors.NoMemory, is, refl, refl)

-- memory for the line that tells of it was refused before anything was done
pub format_unbegun : {D : Type 0} (drive : Ghosts D) (old new : D) (asked : FormatWords) (gives : Gives) (sink : Written) (status : ℕ) (log : Option Log)
    → new ≡ old → log ≡ None → IsTold 7 (codes "memory\n") sink status → DoesFormat asked gives drive old new sink status log
format_unbegun drive old new asked gives sink status log same none told =
    format_does drive old new asked gives sink status log (unformatted errors.NoMemory) same (subst (λ d. Goes drive old d) (sym same) (goes_still drive old)) (none, told)

-- the volume was made, and its line is told
pub format_done : {D : Type 0} (drive : Ghosts D) (old mid new : D) (asked : FormatWords) (gives : Gives) (sink : Written) (status : ℕ) (log : Option Log) (at : Moment) (line : List ℕ)
    → new ≡ mid → log ≡ None → IsMadeAt asked gives at → IsFormatted drive (spec_at asked at) old mid → Goes drive old mid
    → line ≡ formatted_text asked.volume.uuid → IsTold 0 line sink status → DoesFormat asked gives drive old new sink status log
format_done drive old mid new asked gives sink status log at line same none made is goes line_is told = subst (λ d. DoesFormat asked gives drive old d sink status log) (sym same)
    (format_does drive old mid asked gives sink status log (formatted asked.volume.uuid) (refl, (at, made, is)) goes (none, subst (λ t. IsTold 0 t sink status) line_is told))

-- it was refused, which is told, or that memory for telling it was refused
pub format_refused : {D : Type 0} (drive : Ghosts D) (old mid new : D) (asked : FormatWords) (gives : Gives) (sink : Written) (status : ℕ) (log : Option Log) (error : FormatErr)
    → new ≡ mid → log ≡ None → IsUnformatted drive asked gives old mid error → Goes drive old mid → (wanted : ℕ) → wanted ≡ format_status error
    → IsTold wanted (format_text error) sink status ⊎ IsTold 7 (codes "memory\n") sink status → DoesFormat asked gives drive old new sink status log
format_refused drive old mid new asked gives sink status log error same none is goes wanted status_is_that (inl told) =
    subst (λ d. DoesFormat asked gives drive old d sink status log) (sym same)
    (format_does drive old mid asked gives sink status log (unformatted error) is goes (none, subst (λ w. IsTold w (format_text error) sink status) status_is_that told))
format_refused drive old mid new asked gives sink status log error same none is goes wanted status_is_that (inr told) =
    let end = untold_end drive old mid asked gives error is in
    subst (λ d. DoesFormat asked gives drive old d sink status log) (sym same)
    (format_does drive old mid asked gives sink status log end.0 end.1 goes
    (none, subst (λ w. IsTold w (end_text end.0) sink status) (sym end.2) (subst (λ t. IsTold 7 t sink status) (sym end.3) told)))
