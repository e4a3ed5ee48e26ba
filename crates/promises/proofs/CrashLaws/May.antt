-- A safe volume may do its first op.
use Rattle.std.proofs.Common.{◌≡◌, ℕ, List, [], ◌∷◌, map, Some, refl, sym, subst}
use Rattle.tape_types.specs.declared.cartridges.Cartridge.{Cartridge}
use Rattle.tape_drive.specs.declared.drive.Drive.{Ghosts}
use Rattle.tape_layout.specs.declared.ops.Op.{Op}
use Rattle.tape_layout.specs.declared.ops.Op.TheVariants as ops
use Rattle.head_core.specs.Steps.{WithinOp}
use Rattle.promises.specs.ImageLaws.Events.{Within}
use Rattle.promises.specs.ImageLaws.Fine.{IsFine}
use Rattle.promises.specs.ImageLaws.Laws.{IsKept}
use Rattle.promises.specs.ImageLaws.Made.{Job, least}
use Rattle.promises.proofs.ImageLaws.Stated.{kept_gives}
use Rattle.promises.specs.CrashLaws.May.{StepsMay}
use Rattle.promises.specs.CrashLaws.Safe.{state_of, trees_of, volume_of}

-- the first of the jobs
pub first_job : (jobs : List Job) (op : Op) (later : List Op) → map (λ (job : Job). job.op) jobs ≡ op ∷ later
    → (job : Job) × (rest : List Job) × (jobs ≡ job ∷ rest) × (job.op ≡ op)
first_job [] op later is = absurd (cc)
first_job (job ∷ rest) op later is = (job, rest, refl, cc)

-- the head and the theory say the same of an op
pub same_op : (op : Op) (held before image : Cartridge) → WithinOp op held before image → Within op held before image
same_op (ops.Put place bytes) held before image w = w
same_op (ops.Mark place) held before image w = w
same_op (ops.Flush place) held before image w = w

-- a safe volume may do its first op where the drive's owner allows what its script may leave
pub steps_may : {D : Type 0} (drive : Ghosts D) → StepsMay drive
steps_may drive p s v op later safe first placed moments allowed c told before image leaves within =
    let held : safe.held ≡ c = let a = safe.told in cc in
    let its = first_job safe.jobs op later (subst (λ (l : List Op). map (λ (job : Job). job.op) safe.jobs ≡ l) first safe.ops) in
    let kept : IsKept drive (state_of p.labels v safe.made (its.0 ∷ its.1)) v.drive safe.held =
    subst (λ (l : List Job). IsKept drive (state_of p.labels v safe.made l) v.drive safe.held) its.2 safe.serving.kept in
    let w : Within its.0.op safe.held before image = subst (λ (o : Op). Within o safe.held before image) (sym its.3)
    (subst (λ (h : Cartridge). Within op h before image) (sym held) (same_op op c before image within)) in
    let fine : IsFine (volume_of p.labels v) (trees_of v) (least safe.made.base) image =
    (kept_gives drive).op_may (state_of p.labels v safe.made (its.0 ∷ its.1)) its.0 its.1 v.drive safe.held before image kept leaves w in
    allowed image (record {
      history = v.history;
      placed = placed;
      moments = moments;
      count = fine.place;
      within = fine.high;
      generation = fine.generation;
      stands = fine.stands;
      sound = record { one_index = fine.one; honest = fine.honest };
    })
