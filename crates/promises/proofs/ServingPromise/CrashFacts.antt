-- An acknowledgement holds since its own command, and not since an earlier one.
use Rattle.std.specs.Prelude.{◌≡◌, ◌≤◌, ◌<◌, ◌⊎◌, ℕ, zero, suc, [], ◌∷◌, Contains, slice_index_or}
use Rattle.std.proofs.Common.{refl, inl, inr, arith, sym, ap, subst}
use Rattle.tape_types.specs.declared.cartridges.Cartridge.{Cartridge}
use Rattle.session_script.specs.declared.logs.Ack.{Ack}
use Rattle.promises.specs.ServingPromise.Crash.{SurvivesCrashes, StandsWithin}
use Rattle.promises.specs.ServingPromise.Trials.{ack, by_reference, cartridge, flushed_at_34, honest_below, left_until_33, never_flushed, numbered, plain_facts}

stands : (least n : ℕ) (image : Cartridge) → least ≤ n → n ≤ 4 → image ≡ cartridge n → StandsWithin by_reference plain_facts numbered least 4 image
stands least n image low high e = record { count = n; not_before = low; not_after = high; generation = 1; stands = sym (ap (λ c. c.vcr) e) }

always : (image : Cartridge) → (image ≡ cartridge 2) ⊎ ((30 ≤ 33) × (image ≡ cartridge 0)) → StandsWithin by_reference plain_facts numbered 0 4 image
always image (inl e) = stands 0 2 image (omega arith) (omega arith) e
always image (inr e) = stands 0 0 image (omega arith) (omega arith) e.1

since_34 : (image : Cartridge) → (image ≡ cartridge 2) ⊎ ((34 ≤ 33) × (image ≡ cartridge 0)) → StandsWithin by_reference plain_facts numbered 2 4 image
since_34 image (inl e) = stands 2 2 image (omega arith) (omega arith) e
since_34 image (inr e) = absurd (omega (arith, e.0))

-- what a list of one element contains
pub only : {X : Type 0} (x y : X) → Contains (x ∷ []) y → x ≡ y
only x y at = by at.0 at.1 at.2
  where
    by : (k : ℕ) → k < 1 → slice_index_or (x ∷ []) k y ≡ y → x ≡ y
    by zero less e = e
    by (suc k) less e = absurd (omega (arith, less))

-- a sync acknowledged at its flush's command survives crashes since then
pub acknowledged_is : SurvivesCrashes by_reference plain_facts numbered 4 (ack 2 34 ∷ []) flushed_at_34 30
acknowledged_is = record {
  always = always;
  sound = λ image left. record { one_index = tt; honest = tt };
  acknowledged = λ a has low. subst (λ (b : Ack). (image : Cartridge) → flushed_at_34.since b.command image → StandsWithin by_reference plain_facts numbered b.place 4 image) (only (ack 2 34) a has) since_34;
}

-- a sync acknowledged one command too early doesn't survive crashes since then
pub acknowledged_early_isnt : ¬ SurvivesCrashes by_reference plain_facts numbered 4 (ack 2 33 ∷ []) flushed_at_34 30
acknowledged_early_isnt s =
    let w = s.acknowledged (ack 2 33) (0, omega arith, refl) (omega arith) (cartridge 0) (inr (omega arith, refl)) in
    omega (arith, w.not_before, w.stands)

-- an image of an early moment that stands for no tree of the history
pub left_before_isnt : ¬ SurvivesCrashes by_reference plain_facts numbered 4 [] (left_until_33 9) 30
left_before_isnt s =
    let w = s.always (cartridge 9) (inr (omega arith, refl)) in
    omega (arith, w.not_after, w.stands)

-- and one that stands for a tree and has no honest notes
pub dishonest_before_isnt : ¬ SurvivesCrashes (honest_below 3) plain_facts numbered 4 [] (left_until_33 3) 30
dishonest_before_isnt s =
    let sound = s.sound (cartridge 3) (inr (omega arith, refl)) in
    omega (arith, sound.honest)

-- the last number but one is a number
pub acknowledged_late_isnt : ¬ SurvivesCrashes by_reference plain_facts numbered 4 (ack 2 18446744073709551614 ∷ []) never_flushed 30
acknowledged_late_isnt s =
    let w = s.acknowledged (ack 2 18446744073709551614) (0, omega arith, refl) (omega arith) (cartridge 0) (inr refl) in
    omega (arith, w.not_before, w.stands)
