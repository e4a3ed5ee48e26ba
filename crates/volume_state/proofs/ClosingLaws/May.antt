-- The commands of a close may be made.
use Rattle.std.proofs.Common.{◌≡◌, ℕ, List, [], ◌∷◌, map, Option, Some, refl, sym, subst, ◌∙◌}
use Rattle.std.proofs.lemmas.Option.{same_Some}
use Rattle.coherency.specs.Notes.{HasValues}
use Rattle.coherency.specs.declared.Coherency.{Coherency}
use Rattle.tape_types.specs.declared.cartridges.Cartridge.{Cartridge}
use Rattle.tape_types.specs.declared.cartridges.Note.{Note}
use Rattle.tape_types.specs.declared.cartridges.Part.{Part}
use Rattle.tape_drive.specs.Crashes.{LeavesAllowed, WithinNote}
use Rattle.tape_drive.specs.declared.drive.Drive.{Ghosts}
use Rattle.tape_layout.specs.declared.ops.Op.{Op}
use Rattle.cartridge_meaning.specs.Notes.{TellsOfLast}
use Rattle.head_core.specs.Steps.{MayDo}
use Rattle.promises.specs.ImageLaws.Events.{Within}
use Rattle.promises.specs.ImageLaws.Fine.{IsFine}
use Rattle.promises.specs.ImageLaws.Laws.{IsKept}
use Rattle.promises.specs.ImageLaws.Made.{Job, least}
use Rattle.promises.proofs.ImageLaws.Stated.{kept_gives}
use Rattle.promises.specs.ServingPromise.Served.{View}
use Rattle.promises.specs.CrashLaws.Safe.{Planned, trees_of, volume_of}
use Rattle.promises.proofs.CrashLaws.May.{first_job, same_op}
use Rattle.volume_state.specs.ClosingLaws.Closing.{IsAtRest, IsClosing, state_at}
use Rattle.volume_state.specs.ClosingLaws.May.{ClosesMay, IsAllowedView}

module _ {D : Type 0} (drive : Ghosts D) where
  fine_allowed : (planned : Planned) (v : View D) (n : ℕ) (image : Cartridge) → IsAllowedView drive v
      → IsFine (volume_of planned.labels v) (trees_of v) n image → drive.allows image
  fine_allowed planned v n image a fine = a.allows image (record {
    history = v.history;
    placed = a.placed;
    moments = a.moments;
    count = fine.place;
    within = fine.high;
    generation = fine.generation;
    stands = fine.stands;
    sound = record { one_index = fine.one; honest = fine.honest };
  })

  may_do : (planned : Planned) (v : View D) (o : Op) (later : List Op) (d : D) → IsAllowedView drive v
      → IsClosing drive v planned (o ∷ later) d → MayDo drive o d
  may_do planned v o later d a c held told before image leaves within =
      let same = same_Some c.held held (sym c.told ∙ told) in
      let its = first_job c.jobs o later c.ops_are in
      let kept : IsKept drive (state_at v planned c.made c.done (its.0 ∷ its.1)) d c.held =
      subst (λ (l : List Job). IsKept drive (state_at v planned c.made c.done l) d c.held) its.2 c.kept in
      let w : Within its.0.op c.held before image = subst (λ (x : Op). Within x c.held before image) (sym its.3)
      (subst (λ (h : Cartridge). Within o h before image) (sym same) (same_op o held before image within)) in
      fine_allowed planned v (least c.made.base) image a
      ((kept_gives drive).op_may (state_at v planned c.made c.done (its.0 ∷ its.1)) its.0 its.1 d c.held before image kept leaves w)

  may_note : (planned : Planned) (v : View D) (part : Part) (note : Note) (values : Coherency) (d : D) (held : Cartridge)
      → IsAllowedView drive v → IsClosing drive v planned [] d → IsAtRest drive d → drive.held d ≡ Some held
      → HasValues note values → values.vcr ≡ held.vcr → TellsOfLast held planned.labels.ip part values
      → LeavesAllowed (WithinNote part note) (drive.leaves d) drive.allows
  may_note planned v part note values d held a c rest told has vcr tells before image leaves within =
      let x = state_at v planned c.made c.done c.jobs in
      let kept : IsKept drive x d held = subst (λ (h : Cartridge). IsKept drive x d h) (same_Some c.held held (sym c.told ∙ told)) c.kept in
      fine_allowed planned v (least c.made.base) image a
      ((kept_gives drive).note_may x d held before image part note values kept (rest held told) has vcr tells leaves within)

  -- the first op that a close has left may be done, and behind the last a note may be written
  pub closes_may : ClosesMay drive
  closes_may = record { op = may_do; note = may_note }
