-- How a close ends, by what was admitted and what its commands did.
use Rattle.std.specs.Prelude.{ℕ, ◌≡◌, ◌||◌, not, Bool, Option, Some, None, is_some, Result}
use Rattle.std.specs.Option.{option_map}
use Rattle.std.proofs.Common.{refl, sym, ap, subst, ◌∙◌}
use Rattle.tape_types.specs.declared.cartridges.Twin.{Twin}
use Rattle.tape_types.specs.declared.moments.Moment.{Moment}
use Rattle.tape_drive.specs.declared.drive.Drive.{Ghosts}
use Rattle.tape_layout.specs.Plans.{Plan}
use Rattle.held_volume.specs.Stocks.{Stocked}
use Rattle.promises.specs.declared.serving_promise.answers.CloseEnd.{CloseEnd}
use Rattle.volume_core.specs.Commands.{AreOpsDone, EndsWith, Lasts}
use Rattle.volume_core.specs.Finish.{AdmitsOnDp, AdmitsOnIp, FinishesOpen, IsShortOnIp, close_end, lasts_of, short_end}

-- what is made of something is there just if that is there
pub some_mapped : {X Y : Type 0} (f : X → Y) (o : Option X) → is_some (option_map f o) ≡ is_some o
some_mapped f None = refl
some_mapped f (Some x) = refl

module _ {D : Type 0} (drive : Ghosts D) (noted : Bool) (at : Moment) (held mid : Stocked) (old new : D)
    (told : Result (Unit {0}) Twin) (outcome : CloseEnd) where
  -- a close whose indexes were admitted ends as its commands did
  pub went : (last : Stocked) (due notes : Bool) (lasts : Lasts) (generation : ℕ) → AdmitsOnDp at held mid
      → AdmitsOnIp at held mid last due → notes ≡ (due || not noted) → lasts ≡ lasts_of mid
      → generation ≡ lasts.generation
      → EndsWith drive last.layout.ops lasts notes old new told
      → outcome ≡ close_end generation told → FinishesOpen drive noted at held old new outcome
  went last due notes lasts generation dp ip notes_is lasts_is generation_is ends is =
      let same : generation ≡ mid.frame.generation = generation_is ∙ ap (λ (l : Lasts). l.generation) lasts_is in
      subst (λ (e : CloseEnd). FinishesOpen drive noted at held old new e)
      (sym (is ∙ ap (λ n. close_end n told) same))
      (FinishesOpen.went mid last due new told dp ip
      (subst (λ b. EndsWith drive last.layout.ops (lasts_of mid) b old new told) notes_is
      (subst (λ (l : Lasts). EndsWith drive last.layout.ops l notes old new told) lasts_is ends)))

  -- a close without room on the index partition ends with its need and limit
  pub short : (last : Stocked) (need limit : ℕ) → AdmitsOnDp at held mid → IsShortOnIp at held need limit
      → last.layout ≡ mid.layout → AreOpsDone drive last.layout.ops old new told → outcome ≡ short_end need limit told
      → FinishesOpen drive noted at held old new outcome
  short last need limit dp ip same done is =
      subst (λ (e : CloseEnd). FinishesOpen drive noted at held old new e) (sym is)
      (FinishesOpen.short_on_ip need limit mid new told dp ip
      (subst (λ (l : Plan). AreOpsDone drive l.ops old new told) same done))

-- the numbers by other names
pub same_end : (need limit need_told limit_told : ℕ) (told : Result (Unit {0}) Twin) (outcome : CloseEnd)
    → need ≡ need_told → limit ≡ limit_told → outcome ≡ short_end need limit told
    → outcome ≡ short_end need_told limit_told told
same_end need limit need_told limit_told told outcome need_is limit_is is =
    is ∙ (λ i. short_end (need_is i) (limit_is i) told)
