-- When two positions are one.
use Rattle.std.proofs.Common.{◌≡◌, ◌==◌, ◌&&◌, Bool, true, false, ap, ◌∙◌, refl, arith}
use Rattle.std.proofs.lemmas.Bool.Decides.{nat_tests}
use Rattle.tape_types.specs.declared.cartridges.Part.{Part}
use Rattle.tape_types.specs.declared.cartridges.Part.TheVariants.{Ip, Dp}
use Rattle.tape_types.specs.declared.cartridges.Place.{Place}
use Rattle.tape_types.specs.Cartridges.{same_part, same_place}
use Rattle.tape_types.specs.contracts.cartridges.PartPartialEq.TheImpl as of_part
use Rattle.tape_types.specs.contracts.cartridges.PlacePartialEq.TheImpl as of_place

same_parts : (a b : Part) → same_part a b ≡ true → a ≡ b
same_parts Ip Ip e = refl
same_parts Dp Dp e = refl
same_parts Ip Dp e = cc
same_parts Dp Ip e = cc

-- two positions that are one are equal
pub same_places : (a b : Place) → same_place a b ≡ true → a ≡ b
same_places a b e = by (same_part a.part b.part) refl e
  where
    by : (t : Bool) → same_part a.part b.part ≡ t → (t && a.pos == b.pos) ≡ true → a ≡ b
    by true is pos =
        let part : a.part ≡ b.part = same_parts a.part b.part is in
        let position : a.pos ≡ b.pos = grind (arith, nat_tests) in
        ap (λ p. record { part = p; pos = a.pos }) part ∙ ap (λ n. record { part = b.part; pos = n }) position
    by false is pos = cc

-- each is one with itself
pub same_itself : (a : Place) → same_place a a ≡ true
same_itself a = by a.part
  where
    pos : (a.pos == a.pos) ≡ true
    pos = grind (arith, nat_tests)

    by : (p : Part) → (same_part p p && a.pos == a.pos) ≡ true
    by Ip = pos
    by Dp = pos

same_part_back : (a b : Part) → same_part a b ≡ same_part b a
same_part_back Ip Ip = refl
same_part_back Dp Dp = refl
same_part_back Ip Dp = refl
same_part_back Dp Ip = refl

-- their order doesn't matter
pub same_back : (a b : Place) → same_place a b ≡ same_place b a
same_back a b =
    let pos : (a.pos == b.pos) ≡ (b.pos == a.pos) = grind (arith, nat_tests) in
    ap (λ t. t && a.pos == b.pos) (same_part_back a.part b.part) ∙ ap (λ t. same_part b.part a.part && t) pos

equal_parts : (a b : Part) → of_part.ghosts.eq a b ≡ same_part a b
equal_parts Ip Ip = refl
equal_parts Ip Dp = refl
equal_parts Dp Ip = refl
equal_parts Dp Dp = refl

-- the code's `==` of two positions
pub equal_places : of_place.ghosts.eq ≡ same_place
equal_places = λ i a b. equal_parts a.part b.part i && a.pos == b.pos
