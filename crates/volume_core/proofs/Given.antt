-- What a clock gives, and how a turn of a session that drains ends.
use Rattle.std.specs.Prelude.{ℕ, ◌≡◌, ◌≤◌, List, [], ◌∷◌, length, Option, Some, None, IfSome}
use Rattle.std.proofs.Common.{refl, sym, ap, subst, ◌∙◌, arith}
use Rattle.tape_types.specs.declared.moments.Moment.{Moment}
use Rattle.tape_types.specs.declared.cartridges.Twin.{Twin}
use Rattle.tape_drive.specs.declared.drive.Drive.{Ghosts}
use Rattle.session_script.specs.declared.logs.Event.{Event}
use Rattle.head_queue.specs.EventLaws.Waiting.{first_of}
use Rattle.promises.specs.ServingPromise.Marks.{places_of}
use Rattle.promises.specs.declared.serving_promise.answers.Drained.{Drained}
use Rattle.promises.specs.declared.serving_promise.answers.Drained.TheVariants as the_drained
use Rattle.promises.specs.declared.serving_promise.marks.Mark.{Mark}
use Rattle.volume_state.specs.StateLaws.Parts.{Parts}
use Rattle.volume_state.specs.CallLaws.Draining.{IsFull, TakesFault, fault, room, then_fault, then_more, then_room}
use Rattle.volume_state.specs.CallLaws.Handing.{StepsOn}
use Rattle.volume_core.specs.Drains.{EndsAt}
use Rattle.volume_core.specs.Turns.{DrainsAt, Gives, Told, told}

-- ---- the clock

-- it tells what it gives, where it tells; and where it has one moment it gives that, and stays as it is
pub gives : {C : Type 0} (one next : C → Option Moment) (old new : C) (at : Moment) → IfSome (next old) (λ m. at ≡ m)
    → IfSome (one old) (λ m. (at ≡ m) × (new ≡ old)) → Gives (told (one old) (next old)) (told (one new) (next new)) at
gives one next old new at tells single = by (one old) refl single
  where
    by : (o : Option Moment) → one old ≡ o → IfSome o (λ m. (at ≡ m) × (new ≡ old))
        → Gives (told o (next old)) (told (one new) (next new)) at
    by None is s = record { given = tells; still = tt }
    by (Some m) is s = record { given = s.0; still = ap one s.1 ∙ is }

-- ---- one fault at most

-- where a session has one fault at most, the first that is found is all it has
pub the_one : (kept : List Twin) (counts : Twin) → length kept ≤ 1 → Some counts ≡ first_of kept → kept ≡ counts ∷ []
the_one [] counts few is = absurd (cc)
the_one (t ∷ []) counts few is = let same : counts ≡ t = cc in ap (λ (c : Twin). c ∷ []) (sym same)
the_one (t ∷ u ∷ kept) counts few is = absurd (omega (arith, few))

-- where no fault is found, the session has none
pub no_one : (kept : List Twin) → None ≡ first_of kept → kept ≡ []
no_one [] is = refl
no_one (t ∷ kept) is = absurd (cc)

-- ---- how a turn ends

-- without a step
pub ends_at_once : {D : Type 0} (drive : Ghosts D) (who : ℕ) (before after : Told) (old new : Parts D) (end : Drained)
    → EndsAt who before after old new end → DrainsAt drive who before after old new end
ends_at_once drive who before after old new (the_drained.Fault counts) e = (e.0, e.1, fault counts e.2)
ends_at_once drive who before after old new the_drained.Room e = (e.0, λ at. room e.1)
ends_at_once drive who before after old new the_drained.More e = absurd e

module _ {D : Type 0} (drive : Ghosts D) (who : ℕ) (before after : Told) (added : List Event) (old mid : Parts D)
    (full : IsFull who old) (on : StepsOn drive added old mid) (marks : mid.listed.marks ≡ old.listed.marks) where
  -- with one
  pub ends_then : (new : Parts D) (end : Drained) → EndsAt who before after mid new end
      → DrainsAt drive who before after old new end
  ends_then new (the_drained.Fault counts) e = (
    e.0,
    e.1,
    then_fault added mid counts full on
        (subst (λ (ms : List Mark). TakesFault who (length (places_of who ms)) e.0 counts mid new) marks e.2),
  )
  ends_then new the_drained.Room e = (e.0, λ at. then_room added mid full on e.1)
  ends_then new the_drained.More e = absurd e

  -- and there is no room yet
  pub drains_more : after ≡ before → IsFull who mid → DrainsAt drive who before after old mid the_drained.More
  drains_more same left = (same, λ at. then_more added full on left)
