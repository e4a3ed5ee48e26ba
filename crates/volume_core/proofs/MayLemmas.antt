-- That each command of a close may be made.
use Rattle.std.proofs.Common.{◌≡◌, ◌⊎◌, ◌≤◌, ⊎_elim, inl, inr, ℕ, Bool, List, [], ◌∷◌, Option, Some, None, refl, sym, subst, ◌∙◌}
use Rattle.std.specs.Prelude.{Ok}
use Rattle.std.proofs.lemmas.Option.{same_Some}
use Rattle.coherency.specs.Notes.{HasValues}
use Rattle.coherency.specs.declared.Coherency.{Coherency}
use Rattle.tape_types.specs.declared.cartridges.Cartridge.{Cartridge}
use Rattle.tape_types.specs.declared.cartridges.Note.{Note}
use Rattle.tape_types.specs.declared.cartridges.Part.TheVariants.{Ip, Dp}
use Rattle.tape_types.specs.declared.moments.Moment.{Moment}
use Rattle.tape_drive.specs.Crashes.{AllowsAll, LeavesAllowed, WithinNote}
use Rattle.tape_drive.specs.declared.drive.Drive.{Ghosts}
use Rattle.tape_layout.specs.declared.ops.Op.{Op}
use Rattle.cartridge_meaning.specs.Carried.{carried}
use Rattle.head_core.specs.Steps.{MayDo, WithinOp}
use Rattle.promises.specs.ServingPromise.Served.{Fixed, View}
use Rattle.held_volume.specs.Stocks.{Stocked}
use Rattle.promises.specs.CrashLaws.Laws.{CanServe}
use Rattle.promises.specs.CrashLaws.May.{AllowsServed, IsAllowed}
use Rattle.volume_state.specs.StateLaws.Parts.{Parts, view_of}
use Rattle.volume_state.specs.ClosingLaws.Closing.{IsAtRest, IsClosing}
use Rattle.volume_state.specs.ClosingLaws.May.{IsAllowedView}
use Rattle.volume_state.proofs.ClosingLaws.Keeps.{closes_are_safe}
use Rattle.volume_state.proofs.ClosingLaws.May.{closes_may}
use Rattle.volume_core.specs.Commands.{DoesOps, IsNoteWritten, IsVcrRead, Lasts, values_of}
use Rattle.volume_core.specs.Doing.{IsOneDone}
use Rattle.volume_core.specs.Finish.{AdmitsOnDp, AdmitsOnIp, lasts_of}
use Rattle.volume_core.specs.May.{AllOr, AreNotesAllowed, IsAllowedClose, IsAllowedEnd, MayDoAll, MayEnd, MayTell}
use Rattle.volume_core.specs.May.{MayWriteDpNote, MayWriteNote, MayWriteNotes}
use Rattle.volume_core.specs.Promised.{CanClose}
use Rattle.volume_core.proofs.Counts.{ops_to}
use Rattle.volume_core.proofs.Crashing.{last_closes, mid_closing}
use Rattle.volume_core.proofs.Keeping.{does_keep, note_keeps}
use Rattle.volume_core.proofs.Mid.{admitted_ip}
use Rattle.volume_core.proofs.Noting.{may_tell, note_rests, read_rests, read_step}

module _ {D : Type 0} (drive : Ghosts D) where
  -- what may be left of a drive that tells, from what might be left of it before
  goes_on : (P Q : Cartridge → Type 0) (old new : D) → (drive.held old ≡ None → drive.held new ≡ None)
      → ((b c : Cartridge) → drive.held old ≡ Some b → drive.held new ≡ Some c → P b → Q c)
      → AllOr drive old P → AllOr drive new Q
  goes_on P Q old new untold step may c told = by (drive.held old) refl
    where
      by : (held : Option Cartridge) → drive.held old ≡ held → AllowsAll drive.allows ⊎ Q c
      by None none =
          let wrong : None ≡ Some c = sym (untold none) ∙ told in
          absurd (cc)
      by (Some b) is = ⊎_elim (λ (all : AllowsAll drive.allows). inl all) (λ (p : P b). inr (step b c is told p)) (may b is)

  -- ---- ops

  -- the first op of a close may be done
  pub may_first : (ops : List Op) (op : Op) (later : List Op) (d : D) → MayDoAll drive ops d → ops ≡ op ∷ later
      → MayDo drive op d
  may_first ops op later d may first c told = ⊎_elim
      (λ (all : AllowsAll drive.allows). λ before image left within. all image)
      (λ (it : IsAllowedClose drive ops d).
      (closes_may drive).op it.planned it.view op later d it.allowed
      (subst (λ (l : List Op). IsClosing drive it.view it.planned l d) first it.closing) c told)
      (may c told)

  -- once the first op of a close is done, the others may be done
  pub may_go_on : (standing left later : List Op) (op : Op) (mid new : D) → MayDoAll drive standing mid
      → standing ≡ op ∷ later → IsOneDone drive op later left mid new (Ok tt) → MayDoAll drive left new
  may_go_on standing left later op mid new may first did =
      goes_on (λ c. IsAllowedClose drive standing mid) (λ c. IsAllowedClose drive left new) mid new did.1.made.untold
      (λ b c is told it. record {
        planned = it.planned;
        view = it.view;
        allowed = it.allowed;
        closing = subst (λ (l : List Op). IsClosing drive it.view it.planned l new) (sym did.3)
            ((closes_are_safe drive).done it.planned it.view op later did.0 mid new
            (subst (λ (l : List Op). IsClosing drive it.view it.planned l mid) first it.closing) did.1 did.2);
      })
      may

  -- where a close may end, its ops may be done
  pub may_do : (ops : List Op) (lasts : Lasts) (d : D) → MayEnd drive ops lasts d → MayDoAll drive ops d
  may_do ops lasts d may c told = ⊎_elim
      (λ (all : AllowsAll drive.allows). inl all)
      (λ (it : IsAllowedEnd drive ops lasts d). inr it.close)
      (may c told)

  -- ---- notes

  -- where all ops of a close are done, its notes may be written
  pub may_write : (ops : List Op) (lasts : Lasts) (old mid : D) → MayEnd drive ops lasts old
      → DoesOps drive ops old [] mid → MayWriteNotes drive lasts mid
  may_write ops lasts old mid may does =
      goes_on (λ c. IsAllowedEnd drive ops lasts old) (AreNotesAllowed drive lasts mid) old mid
      (ops_to drive ops old mid (Ok tt) does).goes.untold
      (λ b c is told it.
      let close = it.close in
      let closing = does_keep drive close.view close.planned ops [] old mid does close.closing in
      let now = it.ready mid does closing in
      record {
        close = record { planned = close.planned; view = close.view; allowed = close.allowed; closing = closing };
        rest = now.2;
        tells = subst (λ (d : Cartridge). MayTell d close.planned.labels.ip lasts)
            (same_Some now.0 c (sym now.1 ∙ told)) now.3;
      })
      may

  -- with the reference that was read, the note of the index partition may be written
  pub may_ip : (lasts : Lasts) (vcr : ℕ) (old mid : D) → MayWriteNotes drive lasts old
      → IsVcrRead drive old mid (Ok vcr) → MayWriteNote drive Ip (values_of lasts vcr lasts.on_ip) mid
  may_ip lasts vcr old mid may read note c has told =
      let here : drive.held old ≡ Some c = sym read.held ∙ told in ⊎_elim
      (λ (all : AllowsAll drive.allows). λ before image left within. all image)
      (λ (it : AreNotesAllowed drive lasts old c).
      (closes_may drive).note it.close.planned it.close.view Ip note (values_of lasts vcr lasts.on_ip) mid c
      it.close.allowed
      ((closes_are_safe drive).looked it.close.planned it.close.view [] old mid it.close.closing read.held
      (λ held at. read_step drive old mid (Ok vcr) held read))
      (read_rests drive old mid (Ok vcr) read it.rest) told has (read.value c here) (it.tells.ip vcr))
      (may c here)

  -- behind that note, the note of the data partition may be written
  pub may_dp : (lasts : Lasts) (vcr : ℕ) (old first second : D) → MayWriteNotes drive lasts old
      → IsVcrRead drive old first (Ok vcr)
      → IsNoteWritten drive Ip (values_of lasts vcr lasts.on_ip) first second (Ok tt)
      → MayWriteDpNote drive lasts vcr second
  may_dp lasts vcr old first second may read w =
      goes_on (AreNotesAllowed drive lasts old) (λ c. AreNotesAllowed drive lasts second c × (vcr ≡ c.vcr)) old second
      (λ none. w.command.untold (read.held ∙ none))
      (λ b c is told it.
      let here : drive.held first ≡ Some b = read.held ∙ is in
      let rest1 = read_rests drive old first (Ok vcr) read it.rest in
      let closing1 = (closes_are_safe drive).looked it.close.planned it.close.view [] old first it.close.closing
      read.held (λ held at. read_step drive old first (Ok vcr) held read) in
      let now = w.told b here in
      let same : now.0 ≡ c = same_Some now.0 c (sym now.1 ∙ told) in
      subst (λ (d : Cartridge). AreNotesAllowed drive lasts second d × (vcr ≡ d.vcr)) same (
        record {
          close = record {
            planned = it.close.planned;
            view = it.close.view;
            allowed = it.close.allowed;
            closing = note_keeps drive it.close.view it.close.planned Ip _ first second (Ok tt) b w closing1 rest1 here
                (read.value b is) (it.tells.ip vcr);
          };
          rest = note_rests drive Ip _ first second b w rest1 here;
          tells = may_tell b now.0 it.close.planned.labels.ip now.2.ip now.2.dp lasts it.tells;
        },
        read.value b is ∙ sym now.2.vcr,
      ))
      may

  -- that note is written where the data partition has an index
  pub may_dp_note : (lasts : Lasts) (vcr block : ℕ) (d : D) → MayWriteDpNote drive lasts vcr d
      → lasts.on_dp ≡ Some block → MayWriteNote drive Dp (values_of lasts vcr block) d
  may_dp_note lasts vcr block d may is note c has told = ⊎_elim
      (λ (all : AllowsAll drive.allows). λ before image left within. all image)
      (λ (it : AreNotesAllowed drive lasts d c × (vcr ≡ c.vcr)).
      (closes_may drive).note it.0.close.planned it.0.close.view Dp note (values_of lasts vcr block) d c
      it.0.close.allowed it.0.close.closing it.0.rest told has it.1 (it.0.tells.dp vcr block is))
      (may c told)

-- ---- a volume that is closed

module _ {D : Type 0} (drive : Ghosts D)
    (counts_now : (d : D) (t : ℕ) (image : Cartridge) → t ≤ drive.commands d → drive.leaves d image
    → drive.left_since d t image)
    (fixed : Fixed D) (next : Option Moment) (at : Moment) (p : Parts D) (can : CanClose drive fixed next at p) where
  abbrev v : View D
  v = view_of fixed next p

  view_allowed : AllowsServed drive.allows fixed.script fixed.moment (carried fixed.mounted.index) fixed.tree
      → IsAllowedView drive v
  view_allowed allows = record {
    placed = can.runs.kept.order.orderly.placed;
    moments = can.runs.kept.order.orderly.moments;
    allows = allows;
  }

  -- what holds where the cartridge can be served, may be left of the drive
  served_or : (Q : Type 0)
      → ((serve : CanServe drive fixed) → IsAllowedView drive v → Q) → AllOr drive p.drive (λ c. Q)
  served_or Q gives = goes_on drive
      (λ b. CanServe drive fixed
      × AllowsServed drive.allows fixed.script fixed.moment (carried fixed.mounted.index) fixed.tree)
      (λ c. Q) fixed.first p.drive can.runs.kept.order.orderly.untold
      (λ b c is told it. gives it.0 (view_allowed it.1)) can.runs.allowed

  module _ (mid : Stocked) (dp : AdmitsOnDp at p.stock mid) where
    -- without room on the index partition, the ops that stand may still be done
    pub may_short : MayDoAll drive mid.layout.ops p.drive
    may_short = served_or (IsAllowedClose drive mid.layout.ops p.drive) (λ serve allowed.
        let it = mid_closing drive fixed next at p can counts_now serve mid dp in
        record { planned = it.0; view = v; allowed = allowed; closing = it.1 })

    -- where both indexes were admitted, a close may end
    pub may_end : (last : Stocked) (due : Bool) → AdmitsOnIp at p.stock mid last due
        → MayEnd drive last.layout.ops (lasts_of mid) p.drive
    may_end last due ip = served_or (IsAllowedEnd drive last.layout.ops (lasts_of mid) p.drive) (λ serve allowed.
        let by = last_closes drive fixed next at p can counts_now serve mid dp last due
        (admitted_ip drive fixed next at p can mid dp last due ip) in
        record {
          close = record { planned = by.plan; view = v; allowed = allowed; closing = by.closing };
          ready = by.ready;
        })
