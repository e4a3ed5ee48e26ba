-- The worked values are as told.
use Rattle.std.proofs.Common.{◌≡◌, List, [], ◌∷◌, ◌++◌, length, take, refl, sym, ap, subst, arith, length-append}
use Rattle.tape_types.specs.declared.cartridges.Item.{Item}
use Rattle.tape_types.specs.declared.cartridges.Item.TheVariants as item
use Rattle.tape_types.specs.declared.cartridges.Part.{Part}
use Rattle.tape_types.specs.declared.cartridges.Part.TheVariants.{Ip, Dp}
use Rattle.tape_types.specs.Cartridges.{items_of}
use Rattle.volume_state.specs.PlanLaws.Examples.{TellsPlans, made, planned, three_ops, with_dp}
use Rattle.volume_state.specs.PlanLaws.Planned.{IsOnWay, IsPlan}

-- what was made is one block, whatever plan leads from it
one_block : (items : List Item) → (item.Block (7 ∷ []) ∷ item.Block (8 ∷ 9 ∷ []) ∷ item.Mark ∷ []) ≡ items ++ item.Block (8 ∷ 9 ∷ []) ∷ item.Mark ∷ []
    → items ≡ item.Block (7 ∷ []) ∷ []
one_block [] is = absurd (let long = ap (λ (l : List Item). length l) is in omega (arith, long))
one_block (x ∷ []) is = let same : item.Block (7 ∷ []) ≡ x = cc is in ap (λ (y : Item). y ∷ []) (sym same)
one_block (x ∷ y ∷ more) is = absurd (let long = ap (λ (l : List Item). length l) is in
    omega (arith, long, length-append more (item.Block (8 ∷ 9 ∷ []) ∷ item.Mark ∷ [])))

made_is : (p : IsPlan planned three_ops) → p.made Dp ≡ item.Block (7 ∷ []) ∷ []
made_is p = one_block (p.made Dp) (p.leads Dp)

begins_with : (items : List Item) → IsOnWay planned three_ops (with_dp items) → take 1 items ≡ item.Block (7 ∷ []) ∷ []
begins_with items w =
    subst (λ (l : List Item). take (length l) items ≡ l) (made_is w.plan) (w.reads Dp)

none_made : (items : List Item) → (item.Block (7 ∷ []) ∷ item.Block (8 ∷ 9 ∷ []) ∷ item.Mark ∷ []) ≡ items ++ item.Mark ∷ item.Block (8 ∷ 9 ∷ []) ∷ [] → ⊥
none_made [] is = cc is
none_made (x ∷ []) is = cc is
none_made (x ∷ y ∷ []) is = let long = ap (λ (l : List Item). length l) is in omega (arith, long)
none_made (x ∷ y ∷ z ∷ more) is = let long = ap (λ (l : List Item). length l) is in
    omega (arith, long, length-append more (item.Mark ∷ item.Block (8 ∷ 9 ∷ []) ∷ []))

torn_reads : (part : Part) → take (length (made part)) (items_of part (with_dp (item.Block (7 ∷ []) ∷ item.Torn ∷ []))) ≡ made part
torn_reads Ip = refl
torn_reads Dp = refl

-- the worked plans are ways, or aren't, as told
pub tells_plans : TellsPlans
tells_plans = record {
  torn = record {
    plan = record { made = made; leads = λ part. refl; next = (refl, (refl, (refl, tt))) };
    reads = torn_reads;
  };
  lost = λ w. cc (begins_with [] w);
  other = λ w. cc (begins_with (item.Block (6 ∷ []) ∷ []) w);
  order = λ p. none_made (p.made Dp) (p.leads Dp);
  ends = refl;
  byte = refl;
  mark = refl;
  held = refl;
  put = refl;
  not_held = refl;
  flush = λ put. cc put;
  done = record { below = omega arith; free = refl };
  to_come = λ d. cc d.free;
  below = (tt, (omega arith, tt));
  behind = λ b. omega (arith, b.0);
}
