-- What a crash leaves over the commands of a close.
use Rattle.std.proofs.Common.{◌≡◌, ℕ, Bool, true, false, List, [], ◌∷◌, length, Option, Some, None, refl, sym, subst}
use Rattle.std.proofs.Common.{◌∙◌}
use Rattle.std.specs.Prelude.{Result, Ok, Err}
use Rattle.tape_types.specs.declared.cartridges.Cartridge.{Cartridge}
use Rattle.tape_types.specs.declared.cartridges.Part.{Part}
use Rattle.tape_types.specs.declared.cartridges.Part.TheVariants.{Ip, Dp}
use Rattle.tape_types.specs.declared.cartridges.Twin.{Twin}
use Rattle.coherency.specs.declared.Coherency.{Coherency}
use Rattle.tape_drive.specs.declared.drive.Drive.{Ghosts}
use Rattle.tape_layout.specs.declared.ops.Op.{Op}
use Rattle.cartridge_meaning.specs.Carried.{carried}
use Rattle.cartridge_meaning.specs.Notes.{TellsOfLast}
use Rattle.promises.specs.ServingPromise.Crash.{SurvivesCrashes}
use Rattle.promises.specs.ServingPromise.Meanings.{cartridges}
use Rattle.promises.specs.ServingPromise.Served.{View, tree_after}
use Rattle.promises.specs.CrashLaws.Safe.{Planned, seen_by}
use Rattle.volume_state.specs.ClosingLaws.Closing.{IsAtRest, IsClosing}
use Rattle.volume_state.specs.ClosingLaws.Laws.{ClosesAreSafe}
use Rattle.volume_state.proofs.ClosingLaws.Keeps.{closes_are_safe}
use Rattle.volume_core.specs.Commands as closing
use Rattle.volume_core.specs.Commands.{AreOpsDone, DoesOps, EndsWith, FailsOp, IsDpNoteWritten, IsNoteWritten}
use Rattle.volume_core.specs.Commands.{Lasts, WritesNotes, WritesNotesIf, values_of}
use Rattle.volume_core.specs.May.{AreReady, MayTell}
use Rattle.volume_core.proofs.Noting.{may_tell, note_either, note_rests, note_step, read_rests, read_step}

module _ {D : Type 0} (drive : Ghosts D) (v : View D) where
  abbrev safe : ClosesAreSafe drive
  safe = closes_are_safe drive

  -- what a crash leaves of the volume over its close, as is promised
  abbrev pub Survives : D → Type 0
  Survives d = SurvivesCrashes cartridges (carried v.fixed.mounted.index) (tree_after v) (length v.history) v.acks
      (seen_by drive d).leavings v.fixed.since

  module _ (planned : Planned) where
    -- ---- ops

    -- ops that are done leave the volume closing, with those that are left
    pub does_keep : (ops left : List Op) (old new : D) → DoesOps drive ops old left new
        → IsClosing drive v planned ops old → IsClosing drive v planned left new
    does_keep _ _ _ _ (closing.rest ops d) c = c
    does_keep _ _ _ _ (closing.one op later left end old mid new step well more) c =
        does_keep later left mid new more (safe.done planned v op later end old mid c step well)

    pub fails_survive : (ops : List Op) (old new : D) (counts : Twin) → FailsOp drive ops old new counts
        → IsClosing drive v planned ops old → Survives new
    fails_survive ops old new counts fails c =
        safe.survives planned v (fails.op ∷ fails.later) new
        (safe.failed planned v fails.op fails.later counts fails.mid new
        (does_keep ops (fails.op ∷ fails.later) old fails.mid fails.before c) fails.failed)

    -- a crash within the ops of a close leaves what is promised
    pub ops_survive : (ops : List Op) (old new : D) (result : Result Unit Twin) → AreOpsDone drive ops old new result
        → IsClosing drive v planned ops old → Survives new
    ops_survive ops old new (Ok done) does c = safe.survives planned v [] new (does_keep ops [] old new does c)
    ops_survive ops old new (Err counts) fails c = fails_survive ops old new counts fails c

    -- ---- notes

    -- a note that is written, or fails, leaves the volume closing
    pub note_keeps : (part : Part) (values : Coherency) (old new : D) (result : Result Unit Twin) (c : Cartridge)
        → IsNoteWritten drive part values old new result → IsClosing drive v planned [] old → IsAtRest drive old
        → drive.held old ≡ Some c → values.vcr ≡ c.vcr → TellsOfLast c planned.labels.ip part values
        → IsClosing drive v planned [] new
    note_keeps part values old new result c w is rest told vcr tells =
        let it = w.told c told in
        safe.noted planned v part w.note values old new c it.0 is rest told it.1 w.has vcr tells
        (note_step drive part values old new result c it.0 w told)
        (note_either drive result part w.note c it.0 it.2)

    dp_note_keeps : (uuid generation on_ip : ℕ) (on_dp : Option ℕ) (vcr : ℕ) (old new : D) (result : Result Unit Twin)
        (c : Cartridge)
        → IsDpNoteWritten drive (record { uuid = uuid; generation = generation; on_ip = on_ip; on_dp = on_dp }) vcr old
        new result → IsClosing drive v planned [] old → IsAtRest drive old → drive.held old ≡ Some c → vcr ≡ c.vcr
        → MayTell c planned.labels.ip
        (record { uuid = uuid; generation = generation; on_ip = on_ip; on_dp = on_dp })
        → IsClosing drive v planned [] new
    dp_note_keeps uuid generation on_ip (Some block) vcr old new result c w is rest told same may =
        note_keeps Dp _ old new result c w is rest told same (may.dp vcr block refl)
    dp_note_keeps uuid generation on_ip None vcr old new result c w is rest told same may =
        subst (λ (d : D). IsClosing drive v planned [] d) (sym w.0) is

    notes_keep : (lasts : Lasts) (old new : D) (result : Result Unit Twin) (c : Cartridge)
        → WritesNotes drive lasts old new result → IsClosing drive v planned [] old → IsAtRest drive old
        → drive.held old ≡ Some c → MayTell c planned.labels.ip lasts → IsClosing drive v planned [] new
    notes_keep lasts _ _ _ c (closing.unread counts old new read) is rest told may =
        safe.looked planned v [] old new is read.held (λ held here. read_step drive old new (Err counts) held read)
    notes_keep lasts _ _ _ c (closing.not_on_ip vcr counts old mid new read w) is rest told may =
        note_keeps Ip _ mid new (Err counts) c w
        (safe.looked planned v [] old mid is read.held (λ held here. read_step drive old mid (Ok vcr) held read))
        (read_rests drive old mid (Ok vcr) read rest) (read.held ∙ told) (read.value c told) (may.ip vcr)
    notes_keep lasts _ _ _ c (closing.on_dp vcr old first second new result read w last) is rest told may =
        let here = read.held ∙ told in
        let rest1 = read_rests drive old first (Ok vcr) read rest in
        let is1 = safe.looked planned v [] old first is read.held
        (λ held at. read_step drive old first (Ok vcr) held read) in
        let it = w.told c here in
        dp_note_keeps lasts.uuid lasts.generation lasts.on_ip lasts.on_dp vcr second new result it.0 last
        (note_keeps Ip _ first second (Ok tt) c w is1 rest1 here (read.value c told) (may.ip vcr))
        (note_rests drive Ip _ first second c w rest1 here) it.1 (read.value c told ∙ sym it.2.vcr)
        (may_tell c it.0 planned.labels.ip it.2.ip it.2.dp lasts may)

    -- ---- all of it

    notes_if : (notes : Bool) (lasts : Lasts) (old new : D) (result : Result Unit Twin) (c : Cartridge)
        → WritesNotesIf drive lasts notes old new result → IsClosing drive v planned [] old → IsAtRest drive old
        → drive.held old ≡ Some c → MayTell c planned.labels.ip lasts → IsClosing drive v planned [] new
    notes_if true lasts old new result c w is rest told may = notes_keep lasts old new result c w is rest told may
    notes_if false lasts old new result c w is rest told may =
        subst (λ (d : D). IsClosing drive v planned [] d) (sym w.0) is

    -- a crash within any command of a close leaves what is promised
    pub ends_survive : (ops : List Op) (lasts : Lasts) (due : Bool) (old new : D) (result : Result Unit Twin)
        → EndsWith drive ops lasts due old new result → IsClosing drive v planned ops old
        → AreReady drive v planned ops lasts old → Survives new
    ends_survive ops lasts due _ _ _ (closing.in_ops counts old new fails) c ready =
        fails_survive ops old new counts fails c
    ends_survive ops lasts due _ _ _ (closing.in_notes old mid new result does notes) c ready =
        let is = does_keep ops [] old mid does c in
        let now = ready mid does is in
        safe.survives planned v [] new (notes_if due lasts mid new result now.0 notes is now.2 now.1 now.3)
