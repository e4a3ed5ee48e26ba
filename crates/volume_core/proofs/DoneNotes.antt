-- What the notes of a close tell once they are written.
use Rattle.std.proofs.Common.{◌≡◌, ℕ, Bool, List, [], Option, Some, None, refl, sym, ap, subst, ◌∙◌, arith}
use Rattle.std.specs.Prelude.{Result, Ok}
use Rattle.tape_types.specs.Cartridges.{items_of, note_of}
use Rattle.tape_types.specs.declared.cartridges.Cartridge.{Cartridge}
use Rattle.tape_types.specs.declared.cartridges.Note.{Note}
use Rattle.tape_types.specs.declared.cartridges.Note.TheVariants.{Absent, Kept}
use Rattle.tape_types.specs.declared.cartridges.Part.{Part}
use Rattle.tape_types.specs.declared.cartridges.Part.TheVariants.{Ip, Dp}
use Rattle.tape_types.specs.declared.cartridges.Twin.{Twin}
use Rattle.coherency.specs.Notes.{HasValues}
use Rattle.coherency.specs.declared.Coherency.{Coherency}
use Rattle.tape_drive.specs.declared.drive.Drive.{Ghosts}
use Rattle.ltfs_label.specs.declared.Label.{Label}
use Rattle.content_laws.specs.Readings.{HasForm}
use Rattle.tape_layout.specs.declared.ops.Op.{Op}
use Rattle.cartridge_meaning.specs.Notes.{AreNoted, IsHonestNote, IsNoted}
use Rattle.volume_state.specs.ClosingLaws.Closing.{IsAtRest}
use Rattle.volume_core.specs.Commands as closing
use Rattle.volume_core.specs.Commands.{DoesOps, EndsWith, IsDpNoteWritten, IsNoteWritten}
use Rattle.volume_core.specs.Commands.{IsVcrRead, Lasts, WritesNotes, WritesNotesIf, values_of}
use Rattle.volume_core.specs.May.{MayTell}
use Rattle.volume_core.proofs.Noting.{may_tell, note_rests, read_rests}

-- ---- one note has one set of values

values_once : (note : Note) (a b : Coherency) → HasValues note a → HasValues note b
    → (a.vcr ≡ b.vcr) × (a.generation ≡ b.generation) × (a.block ≡ b.block)
values_once Absent a b one other = absurd one
values_once (Kept bytes) a b one other =
    (one.vcr ∙ sym other.vcr, one.generation ∙ sym other.generation, one.block ∙ sym other.block)

-- a note that tells of the cartridge as it is says nothing false
pub honest_note : (c : Cartridge) (label : Label) (part : Part) → HasForm (items_of part c) → IsNoted c label part
    → IsHonestNote c label part
honest_note c label part form n = record {
  not_ahead = λ note has uuid. omega (arith, n.vcr, (values_once (note_of part c) note n.note has n.has).0);
  truthful = λ note has uuid vcr.
      let once = values_once (note_of part c) note n.note has n.has in (
        form,
        record {
          index = n.tells.index;
          last = n.tells.last;
          generation = once.1 ∙ n.tells.generation;
          block = n.tells.block ∙ ap (λ (b : ℕ). Some b) (sym once.2);
        },
      );
}

-- ---- what was done

-- these are the commands of a close that was done
pub record AllDone {D : Type 0} (drive : Ghosts D) (ops : List Op) (lasts : Lasts) (due : Bool) (old new : D)
    : Type 0 where
  pub mid : D
  pub does : DoesOps drive ops old [] mid
  pub notes : WritesNotesIf drive lasts due mid new (Ok tt)

-- a close's commands that end well have done all ops and notes
pub all_done : {D : Type 0} (drive : Ghosts D) (ops : List Op) (lasts : Lasts) (due : Bool) (old new : D)
    (result : Result Unit Twin) → EndsWith drive ops lasts due old new result → result ≡ Ok tt
    → AllDone drive ops lasts due old new
all_done drive ops lasts due _ _ _ (closing.in_ops counts old new fails) is = absurd (cc is)
all_done drive ops lasts due _ _ _ (closing.in_notes old mid new result does notes) is = record {
  mid = mid;
  does = does;
  notes = subst (λ (r : Result Unit Twin). WritesNotesIf drive lasts due mid new r) is notes;
}

-- ---- both notes

-- Both notes tell of the last indexes, all else is as it was, and nothing is pending.
pub record AreBothNoted {D : Type 0} (drive : Ghosts D) (label : Label) (c : Cartridge) (new : D) : Type 0 where
  pub now : Cartridge
  pub told : drive.held new ≡ Some now
  pub ip : now.ip ≡ c.ip
  pub dp : now.dp ≡ c.dp
  pub noted : AreNoted now label
  pub rest : IsAtRest drive new

module _ {D : Type 0} (drive : Ghosts D) (label : Label) (lasts : Lasts) (uuid : lasts.uuid ≡ label.uuid) (block : ℕ)
    (on_dp : lasts.on_dp ≡ Some block) where
  dp_written : (uuid_is generation on_ip : ℕ) (o : Option ℕ) (vcr : ℕ) (old new : D) (result : Result Unit Twin)
      → IsDpNoteWritten drive (record { uuid = uuid_is; generation = generation; on_ip = on_ip; on_dp = o }) vcr old
      new
      result → o ≡ Some block
      → IsNoteWritten drive Dp
      (values_of (record { uuid = uuid_is; generation = generation; on_ip = on_ip; on_dp = o }) vcr block) old new
      result
  dp_written uuid_is generation on_ip (Some at) vcr old new result w is =
      let same : at ≡ block = cc in
      subst (λ (n : ℕ). IsNoteWritten drive Dp
      (record { vcr = vcr; generation = generation; block = n; uuid = uuid_is }) old new result) same w
  dp_written uuid_is generation on_ip None vcr old new result w is = absurd (let wrong : None ≡ Some block = is in cc)

  both_noted : (vcr : ℕ) (old first second new : D) (c : Cartridge) → IsVcrRead drive old first (Ok vcr)
      → IsNoteWritten drive Ip (values_of lasts vcr lasts.on_ip) first second (Ok tt)
      → IsNoteWritten drive Dp (values_of lasts vcr block) second new (Ok tt) → drive.held old ≡ Some c
      → IsAtRest drive old → MayTell c label lasts → AreBothNoted drive label c new
  both_noted vcr old first second new c read on_ip_note on_dp_note told rest may =
      let here = read.held ∙ told in
      let rest1 = read_rests drive old first (Ok vcr) read rest in
      let d = on_ip_note.told c here in
      let rest2 = note_rests drive Ip _ first second c on_ip_note rest1 here in
      let e = on_dp_note.told d.0 d.1 in
      let vcr_is : vcr ≡ c.vcr = read.value c told in
      let ip_same = e.2.ip ∙ d.2.ip in
      let dp_same = e.2.dp ∙ d.2.dp in
      let now_tells = may_tell c e.0 label ip_same dp_same lasts may in
      record {
        now = e.0;
        told = e.1;
        ip = ip_same;
        dp = dp_same;
        noted = record {
          ip = record {
            note = values_of lasts vcr lasts.on_ip;
            has = subst (λ (n : Note). HasValues n (values_of lasts vcr lasts.on_ip))
                (sym (e.2.other_note ∙ d.2.written)) on_ip_note.has;
            vcr = vcr_is ∙ sym d.2.vcr ∙ sym e.2.vcr;
            uuid = uuid;
            tells = now_tells.ip vcr;
          };
          dp = record {
            note = values_of lasts vcr block;
            has = subst (λ (n : Note). HasValues n (values_of lasts vcr block)) (sym e.2.written) on_dp_note.has;
            vcr = vcr_is ∙ sym d.2.vcr ∙ sym e.2.vcr;
            uuid = uuid;
            tells = now_tells.dp vcr block on_dp;
          };
        };
        rest = note_rests drive Dp _ second new d.0 on_dp_note rest2 d.1;
      }

  notes_by : (old new : D) (result : Result Unit Twin) (c : Cartridge) → WritesNotes drive lasts old new result
      → result ≡ Ok tt → drive.held old ≡ Some c → IsAtRest drive old → MayTell c label lasts
      → AreBothNoted drive label c new
  notes_by _ _ _ c (closing.unread counts old new read) is told rest may = absurd (cc is)
  notes_by _ _ _ c (closing.not_on_ip vcr counts old mid new read w) is told rest may = absurd (cc is)
  notes_by _ _ _ c (closing.on_dp vcr old first second new result read w last) is told rest may =
      let written = dp_written lasts.uuid lasts.generation lasts.on_ip lasts.on_dp vcr second new result last on_dp in
      both_noted vcr old first second new c read w
      (subst (λ (r : Result Unit Twin). IsNoteWritten drive Dp (values_of lasts vcr block) second new r) is written)
      told
      rest may

  -- with both notes written, both tell of the last indexes
  pub notes_done : (old new : D) (c : Cartridge) → WritesNotes drive lasts old new (Ok tt) → drive.held old ≡ Some c
      → IsAtRest drive old → MayTell c label lasts → AreBothNoted drive label c new
  notes_done old new c w told rest may = notes_by old new (Ok tt) c w refl told rest may
