-- What stands once a close is done.
use Rattle.std.proofs.Common.{◌≡◌, List, [], ◌∷◌, map, refl, sym, ap, subst, ◌∙◌}
use Rattle.std.proofs.lemmas.Option.{same_Some}
use Rattle.tape_types.specs.declared.cartridges.Cartridge.{Cartridge}
use Rattle.tape_drive.specs.declared.drive.Drive.{Ghosts}
use Rattle.promises.specs.ImageLaws.Laws.{IsKept}
use Rattle.promises.specs.ImageLaws.Made.{Job, Made, after}
use Rattle.promises.specs.ImageLaws.Plans.{close_jobs}
use Rattle.promises.proofs.ImageLaws.Stated.{closes_leave}
use Rattle.promises.proofs.CrashLaws.Admits.{op_of}
use Rattle.volume_state.specs.ClosingLaws.Closing.{state_at}
use Rattle.volume_state.specs.ClosingLaws.Laws.{ClosedVolumesStand}

-- no ops are those of no jobs
pub no_jobs : (jobs : List Job) → map op_of jobs ≡ [] → jobs ≡ []
no_jobs [] are = refl
no_jobs (job ∷ jobs) are = absurd (let wrong : job.op ∷ map op_of jobs ≡ [] = are in cc)

module _ {D : Type 0} (drive : Ghosts D) where
  -- where all ops of a close are done, the cartridge stands for the tree of the whole history
  pub closed_stand : ClosedVolumesStand drive
  closed_stand planned space rules text on_ip v d held c has due none unchanged size told ip dp =
      let none_left : c.jobs ≡ [] = no_jobs c.jobs c.ops_are in
      let made_is : c.made ≡ after planned.made (close_jobs rules space text) =
      ap (λ (jobs : List Job). after c.made jobs) (sym none_left) ∙ c.plan in
      let here = same_Some c.held held (sym c.told ∙ told) in
      let kept = subst (λ (jobs : List Job). IsKept drive (state_at v planned c.made c.done jobs) d c.held) none_left
      c.kept in
      let kept_here = subst (λ (h : Cartridge). IsKept drive (state_at v planned c.made c.done []) d h) here kept in
      (closes_leave drive).closed (state_at v planned c.made c.done []) planned.made space rules text on_ip d held
      kept_here
      (record {
        planned = has;
        due = due;
        none_ahead = none;
        unchanged = unchanged;
        size = size;
        made_is = made_is;
        ip = ip ∙ ap (λ (m : Made). m.ip) (sym made_is);
        dp = dp ∙ ap (λ (m : Made). m.dp) (sym made_is);
      })
