-- What `label` promises, from what it comes to and what is told of that.
use Rattle.std.proofs.Common.{◌≡◌, ℕ, ◌*◌, [], ◌∷◌, Option, Some, None, Err, codes, refl, sym, subst, inl, inr, ◌⊎◌}
use Rattle.std.specs.Io.KnownBytes.{Appends}
use Rattle.tape_types.specs.Counts.{Rose}
use Rattle.tape_types.specs.declared.cartridges.Cartridge.{Cartridge}
use Rattle.session_script.specs.declared.logs.Log.{Log}
use Rattle.tape_drive.specs.Looks.{Looks}
use Rattle.tape_drive.specs.declared.drive.Drive.{Ghosts}
use Rattle.mount_recover.specs.Labels.{AreCounts, Fails}
use Rattle.mount_recover.proofs.LabelLemmas.{is_read_as}
use Rattle.cartridge_meaning.specs.Labels.{HasLabels}
use Rattle.cartridge_meaning.specs.declared.labels.Labels.{Labels}
use Rattle.cartridge_meaning.specs.declared.errors.MountErr.{MountErr}
use Rattle.cartridge_meaning.specs.declared.errors.MountErr.TheVariants as errors
use Rattle.commands.specs.BasicCommands.Headline.{AreLabelsPrinted, IsCheckPrinted, IsDriveFaultPrinted}
use Rattle.commands.specs.BasicCommands.Labels.{mount_status, mount_text}
use Rattle.commands.specs.BasicCommands.Outcomes.{EndsAs, IsLabelEnd, IsTold, LabelEnd, label_status, label_text, labelled, of_label, unlabelled}
use Rattle.commands.specs.BasicCommands.Promises.{DoesLabel}
use Rattle.commands.specs.BasicCommands.Runs.{IsOneOf, Looked, Written, looked}
use Rattle.commands.proofs.BasicCommands.MountClauses.{among_all, among_refused, drive_told, memory_told, mount_isnt, mount_known}
use Rattle.commands.proofs.BasicCommands.Told.{by_six, by_status, by_text, if_some, of_some}

status_is : (end : LabelEnd) → IsOneOf (label_status end) (0 ∷ 3 ∷ 4 ∷ 6 ∷ 7 ∷ [])
status_is (labelled found) = inl refl
status_is (unlabelled e) = among_all (mount_status e) (mount_known e)

not_six : (end : LabelEnd) → label_status end ≡ 6 → ⊥
not_six (labelled found) six = absurd (cc six)
not_six (unlabelled e) six = mount_isnt e 6 (λ x. cc x) (λ x. cc x) (λ x. cc x) six

-- of a cartridge with labels no check fails
mount_done : (c : Cartridge) (l : Labels) (before now : ℕ) (e : MountErr)
    → Fails c e → AreCounts before now e → HasLabels c l → ¬ (Rose before now) → IsOneOf (mount_status e) (0 ∷ 7 ∷ [])
mount_done c l before now (errors.Vol1 part) fails counts has still = absurd (is_read_as c l (Err (errors.Vol1 part)) tt fails has)
mount_done c l before now (errors.Label part) fails counts has still = absurd (is_read_as c l (Err (errors.Label part)) tt fails has)
mount_done c l before now errors.LabelsDiffer fails counts has still = absurd (is_read_as c l (Err errors.LabelsDiffer) tt fails has)
mount_done c l before now (errors.Layout place) fails counts has still = absurd fails
mount_done c l before now errors.NoIndex fails counts has still = absurd fails
mount_done c l before now (errors.BadIndex place why) fails counts has still = absurd fails
mount_done c l before now (errors.WrongVolume place) fails counts has still = absurd fails
mount_done c l before now (errors.WrongPointer place) fails counts has still = absurd fails
mount_done c l before now (errors.BadExtent uid) fails counts has still = absurd fails
mount_done c l before now (errors.Drive said) fails counts has still = absurd (still counts.2)
mount_done c l before now errors.NoMemory fails counts has still = inr (inl refl)

module _ (drive : Looked) (sink : Written) where
  printed_is : (end : LabelEnd) → IsLabelEnd drive end → (label_status end ≡ 0) × Appends sink.old sink.new (label_text end)
      → AreLabelsPrinted drive.held sink.old sink.new
  printed_is (labelled found) is told = (found, is, told.1)
  printed_is (unlabelled e) is told = absurd (mount_isnt e 0 (λ x. cc x) (λ x. cc x) (λ x. cc x) told.0)

  check_told : (end : LabelEnd) → IsLabelEnd drive end → (label_status end ≡ 3) × Appends sink.old sink.new (label_text end)
      → IsCheckPrinted drive.held sink.old sink.new
  check_told (labelled found) is told = absurd (cc told.0)
  check_told (unlabelled e) is told = (e, told.0, is.0, told.1)

  fault_told : (end : LabelEnd) → IsLabelEnd drive end → (label_status end ≡ 4) × Appends sink.old sink.new (label_text end)
      → IsDriveFaultPrinted drive.before drive.now sink.old sink.new
  fault_told (labelled found) is told = absurd (cc told.0)
  fault_told (unlabelled e) is told = drive_told e drive.before drive.now sink.old sink.new is.1 told

  memory_is : (end : LabelEnd) → (label_status end ≡ 7) × Appends sink.old sink.new (label_text end) → Appends sink.old sink.new (codes "memory\n")
  memory_is (labelled found) told = absurd (cc told.0)
  memory_is (unlabelled e) told = memory_told e sink.old sink.new told

no_volume : (drive : Looked) (end : LabelEnd) (c : Cartridge) → IsLabelEnd drive end → drive.held ≡ Some c → ((l : Labels) → ¬ HasLabels c l)
    → IsOneOf (label_status end) (3 ∷ 4 ∷ 6 ∷ 7 ∷ [])
no_volume drive (labelled found) c is held none = absurd (none found (of_some drive.held (λ c. HasLabels c found) c held is))
no_volume drive (unlabelled e) c is held none = among_refused (mount_status e) (mount_known e)

all_done : (drive : Looked) (end : LabelEnd) (c : Cartridge) (l : Labels) → IsLabelEnd drive end → drive.held ≡ Some c → HasLabels c l → ¬ (Rose drive.before drive.now)
    → IsOneOf (label_status end) (0 ∷ 7 ∷ [])
all_done drive (labelled found) c l is held has still = inl refl
all_done drive (unlabelled e) c l is held has still =
    mount_done c l drive.before drive.now e (of_some drive.held (λ c. Fails c e) c held is.0) is.1 has still

-- how a look at the labels ended, and what was told of it, are what `label` promises
pub label_does : {D : Type 0} (drive : Ghosts D) (old new : D) (sink : Written) (status : ℕ) (log : Option Log) (end : LabelEnd)
    → IsLabelEnd (looked drive old new) end → Looks drive (12 * drive.MOST) old new → EndsAs (of_label end) sink status log → DoesLabel drive old new sink status log
label_does drive old new sink status log end is looks told =
    let seen = looked drive old new in
    let w = label_status end in
    let t = label_text end in record {
      statuses = by_status (λ n. IsOneOf n (0 ∷ 3 ∷ 4 ∷ 6 ∷ 7 ∷ [])) w t sink status told.1 (status_is end) (λ rose. inr (inr (inr (inl refl))));
      printed = λ zero. printed_is seen sink end is (by_text 0 w t sink status told.1 (λ e. cc e) zero);
      volume = if_some (drive.held old) (λ c. ((l : Labels) → ¬ HasLabels c l) → IsOneOf status (3 ∷ 4 ∷ 6 ∷ 7 ∷ []))
          (λ c held none. by_status (λ n. IsOneOf n (3 ∷ 4 ∷ 6 ∷ 7 ∷ [])) w t sink status told.1 (no_volume seen end c is held none) (λ rose. inr (inr (inl refl))));
      only_volume = λ three. check_told seen sink end is (by_text 3 w t sink status told.1 (λ e. cc e) three);
      only_drive = λ four. fault_told seen sink end is (by_text 4 w t sink status told.1 (λ e. cc e) four);
      only_write = by_six w t sink status told.1 (not_six end);
      memory = λ seven. memory_is seen sink end (by_text 7 w t sink status told.1 (λ e. cc e) seven);
      complete = λ still quiet. if_some (drive.held old) (λ c. (l : Labels) → HasLabels c l → IsOneOf status (0 ∷ 7 ∷ []))
          (λ c held l has. by_status (λ n. IsOneOf n (0 ∷ 7 ∷ [])) w t sink status told.1 (all_done seen end c l is held has still) (λ rose. absurd (quiet rose)));
      looks = looks;
      no_log = told.0;
      told = (end, is, told);
    }

no_memory : {D : Type 0} (drive : Ghosts D) (old new : D) → IsLabelEnd (looked drive old new) (unlabelled errors.NoMemory)
no_memory drive old new = (if_some (drive.held old) (λ c. Fails c errors.NoMemory) (λ c held. tt), tt)

-- labels that were read, or a check that failed, are told, or that memory was refused for that
pub label_found : {D : Type 0} (drive : Ghosts D) (old mid new : D) (sink : Written) (status : ℕ) (log : Option Log) (found : Labels)
    → new ≡ mid → log ≡ None → ((c : Cartridge) → drive.held old ≡ Some c → HasLabels c found) → Looks drive (12 * drive.MOST) old mid
    → IsTold 0 (label_text (labelled found)) sink status ⊎ IsTold 7 (codes "memory\n") sink status → DoesLabel drive old new sink status log
label_found drive old mid new sink status log found same none is looks (inl told) = subst (λ d. DoesLabel drive old d sink status log) (sym same)
    (label_does drive old mid sink status log (labelled found) (if_some (drive.held old) (λ c. HasLabels c found) is) looks (none, told))
label_found drive old mid new sink status log found same none is looks (inr told) = subst (λ d. DoesLabel drive old d sink status log) (sym same)
    (label_does drive old mid sink status log (unlabelled errors.NoMemory) (no_memory drive old mid) looks (none, told))

-- of a cartridge that isn't read, or where memory fails, `label` tells what it promises
pub label_unread : {D : Type 0} (drive : Ghosts D) (old mid new : D) (sink : Written) (status : ℕ) (log : Option Log) (e : MountErr)
    → new ≡ mid → log ≡ None → ((c : Cartridge) → drive.held old ≡ Some c → Fails c e) → AreCounts (drive.faults old) (drive.faults mid) e → Looks drive (12 * drive.MOST) old mid
    → (wanted : ℕ) → wanted ≡ mount_status e → IsTold wanted (mount_text e) sink status ⊎ IsTold 7 (codes "memory\n") sink status → DoesLabel drive old new sink status log
label_unread drive old mid new sink status log e same none is counts looks wanted status_is_that (inl told) = subst (λ d. DoesLabel drive old d sink status log) (sym same)
    (label_does drive old mid sink status log (unlabelled e) (if_some (drive.held old) (λ c. Fails c e) is, counts) looks (none, subst (λ w. IsTold w (mount_text e) sink status) status_is_that told))
label_unread drive old mid new sink status log e same none is counts looks wanted status_is_that (inr told) = subst (λ d. DoesLabel drive old d sink status log) (sym same)
    (label_does drive old mid sink status log (unlabelled errors.NoMemory) (no_memory drive old mid) looks (none, told))
