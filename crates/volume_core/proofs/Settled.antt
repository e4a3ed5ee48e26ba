-- Behind ops that end with a flush nothing is pending.
use Rattle.std.proofs.Common.{◌≡◌, List, [], ◌∷◌, ◌++◌, refl, sym, ap, subst, ◌∙◌}
use Rattle.tape_types.specs.declared.cartridges.Place.{Place}
use Rattle.tape_drive.specs.declared.drive.Drive.{Ghosts}
use Rattle.tape_layout.specs.declared.ops.Op.{Op}
use Rattle.tape_layout.specs.declared.ops.Op.TheVariants as the_ops
use Rattle.head_core.specs.Steps.{IsEndOfFlush, IsOpStep}
use Rattle.head_core.specs.declared.work.StepDone.{StepDone}
use Rattle.head_core.specs.declared.work.StepDone.TheVariants as outcome
use Rattle.promises.specs.CrashLaws.Changes.{IsWell}
use Rattle.volume_state.specs.ClosingLaws.Closing.{IsAtRest}
use Rattle.volume_state.proofs.ClosingLaws.Keeps.{closes_are_safe}
use Rattle.volume_core.specs.Commands as closing
use Rattle.volume_core.specs.Commands.{DoesOps}

-- a flush that was done is flushed
flushed_end : (end : StepDone) → IsEndOfFlush end → IsWell end → end ≡ outcome.Flushed
flushed_end (outcome.Read answer) ends well = absurd ends
flushed_end outcome.Wrote ends well = absurd ends
flushed_end outcome.Flushed ends well = refl
flushed_end (outcome.Failed counts) ends well = absurd well

module _ {D : Type 0} (drive : Ghosts D) where
  -- nothing is done of no ops
  pub none_done : (ops left : List Op) (old new : D) → DoesOps drive ops old left new → ops ≡ [] → new ≡ old
  none_done _ _ _ _ (closing.rest ops d) none = refl
  none_done _ _ _ _ (closing.one op later left end old mid new step well more) none =
      absurd (let wrong : op ∷ later ≡ [] = none in cc)

  -- of two runs of ops the second is done from where the first has led
  does_second : (first second ops left : List Op) (old new : D) → DoesOps drive ops old left new
      → ops ≡ first ++ second → left ≡ [] → (mid : D) × DoesOps drive second mid [] new
  does_second [] second ops left old new does are none = (
    old,
    subst (λ (l : List Op). DoesOps drive second old l new) none
        (subst (λ (l : List Op). DoesOps drive l old left new) are does),
  )
  does_second (op ∷ first) second _ _ _ _ (closing.rest ops d) are none =
      absurd (let wrong : [] ≡ op ∷ (first ++ second) = sym none ∙ are in cc)
  does_second (op ∷ first) second _ _ _ _ (closing.one one later left end old mid new step well more) are none =
      let rest : later ≡ first ++ second = cc in
      does_second first second later left mid new more rest none

  flush_rests : (place : Place) (ops left : List Op) (old new : D) → DoesOps drive ops old left new
      → ops ≡ the_ops.Flush place ∷ [] → left ≡ [] → IsAtRest drive new
  flush_rests place _ _ _ _ (closing.rest ops d) are none =
      absurd (let wrong : [] ≡ the_ops.Flush place ∷ [] = sym none ∙ are in cc)
  flush_rests place _ _ _ _ (closing.one op later left end old mid new step well more) are none =
      let op_is : op ≡ the_ops.Flush place = cc in
      let later_is : later ≡ [] = cc in
      let flush : IsOpStep drive (the_ops.Flush place) end old mid
      = subst (λ (o : Op). IsOpStep drive o end old mid) op_is step in
      subst (λ (d : D). IsAtRest drive d) (sym (none_done later left mid new more later_is))
      ((closes_are_safe drive).settled place old mid
      (subst (λ (e : StepDone). IsOpStep drive (the_ops.Flush place) e old mid) (flushed_end end flush.ends well)
      flush))

  -- behind ops that end with a flush nothing is pending
  pub rests_behind : (before front : List Op) (place : Place) (old new : D)
      → DoesOps drive (before ++ (front ++ the_ops.Flush place ∷ [])) old [] new → IsAtRest drive new
  rests_behind before front place old new does =
      let second = does_second before (front ++ the_ops.Flush place ∷ [])
      (before ++ (front ++ the_ops.Flush place ∷ [])) [] old new does refl refl in
      let last = does_second front (the_ops.Flush place ∷ []) (front ++ the_ops.Flush place ∷ []) [] second.0 new
      second.1 refl refl in
      flush_rests place (the_ops.Flush place ∷ []) [] last.0 new last.1 refl refl
