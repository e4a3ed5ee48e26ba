-- What a read, a write and a mark tell of a place that the caller names.
use Rattle.std.proofs.Common.{ℕ, ◌-◌, ◌^◌, ◌≤◌, ◌≡◌, inl, inr, List, Option, Some, None, Result, Ok, Err, refl, ◌∙◌, ap, subst, arith}
use Rattle.std.specs.Prelude.{OnOk, IfOk, IsErr}
use Rattle.tape_types.specs.declared.cartridges.Place.{Place}
use Rattle.tape_types.specs.declared.cartridges.Item.{Item}
use Rattle.tape_types.specs.declared.cartridges.Cartridge.{Cartridge}
use Rattle.tape_types.specs.Cartridges.{capacity, next}
use Rattle.tape_drive.specs.declared.drive.Got.{Got}
use Rattle.tape_drive.specs.declared.drive.Got.TheVariants as got
use Rattle.tape_drive.specs.declared.schedule.Cmd.{Cmd}
use Rattle.tape_drive.specs.Commands.{item_at, IsRead, FillsBuffer, after_read, AfterWrite}
use Rattle.tape_drive.specs.Crashes.{Crashes, WithinWrite}
use Rattle.tape_drive.specs.Memory.{View, RanRead, RanPut, IsSane}
use Rattle.tape_drive.specs.Record.{Leaves, LeftSince}
use Rattle.tape_drive.proofs.Sound.{sound_fits}
use Rattle.tape_drive.proofs.Meets.{put_meets, put_told, fills, item_fits, nothing_at_capacity}

-- where nothing stands, a read answers the end
end_of : (found : Option Item) (answer : Got) (buf : List ℕ) → found ≡ None → IsRead found answer buf → answer ≡ got.End
end_of found answer buf none is = let e : IsRead None answer buf = subst (λ (o : Option Item). IsRead o answer buf) none is in e.0

module _ (E : Type 0) (at : Place) (buf : List ℕ) (old new : View) (is : old.head ≡ Some at) where
  -- a read at a place that is named answers what stands there
  pub read_item : (r : Result Got E) → RanRead r at buf old new
      → IfOk r (λ answer. (at2 : Place) (c : Cartridge) → old.head ≡ Some at2 → Some old.held ≡ Some c → IsRead (item_at at2 c) answer buf)
  read_item (Ok answer) ran = λ at2 c is2 held.
      let place : at ≡ at2 = cc in
      let same : old.held ≡ c = cc in
      subst (λ (p : Place). IsRead (item_at p c) answer buf) place (subst (λ (d : Cartridge). IsRead (item_at at d) answer buf) same ran.1)
  read_item (Err e) ran = tt

  -- a read fills its buffer as its answer says
  pub read_bytes : (r : Result Got E) → IsSane old → RanRead r at buf old new → IfOk r (λ answer. FillsBuffer answer buf)
  read_bytes (Ok answer) sane ran = fills (item_at at old.held) (item_fits old.limits at old.held (sound_fits old.limits old.commands old.held old.acts sane.sound)) answer buf ran.1
  read_bytes (Err e) sane ran = tt

  -- a read past the capacity answers the end
  pub read_end : (r : Result Got E) → IsSane old → RanRead r at buf old new
      → IfOk r (λ answer. (at2 : Place) → old.head ≡ Some at2 → capacity at2.part old.limits ≤ at2.pos → answer ≡ got.End)
  read_end (Ok answer) sane ran = λ at2 is2 out.
      let place : at2 ≡ at = cc in
      let out_at : capacity at.part old.limits ≤ at.pos = subst (λ (p : Place). capacity p.part old.limits ≤ p.pos) place out in
      end_of (item_at at old.held) answer buf (nothing_at_capacity old.limits at old.held (sound_fits old.limits old.commands old.held old.acts sane.sound) out_at) ran.1
  read_end (Err e) sane ran = tt

  -- a read leaves the head past a block or mark, and else where it stood
  pub read_head : (r : Result Got E) → RanRead r at buf old new → IfOk r (λ answer. (at2 : Place) → old.head ≡ Some at2 → new.head ≡ Some (after_read answer at2))
  read_head (Ok answer) ran = λ at2 is2.
      let place : at ≡ at2 = cc in
      ap (λ (v : View). v.head) ran.2 ∙ ap (λ (p : Place). Some (after_read answer p)) place
  read_head (Err e) ran = tt

module _ (T E : Type 0) (kind : Cmd) (at : Place) (x : Item) (old new : View) (is : old.head ≡ Some at) where
  -- a write that succeeded leaves the head at the next position
  pub put_head : (r : Result T E) → RanPut r kind at x old new → (at2 : Place) → old.head ≡ Some at2 → OnOk r (new.head ≡ Some (next at2))
  put_head (Ok t) ran at2 is2 =
      let place : at ≡ at2 = cc in
      ap (λ (v : View). v.head) ran.1 ∙ ap (λ (p : Place). Some (next p)) place
  put_head (Err e) ran at2 is2 = tt

  -- a write at a place that is named leaves the cartridge as the trait says
  pub put_held : (r : Result T E) → IsSane old → RanPut r kind at x old new → (at2 : Place) (c : Cartridge) → old.head ≡ Some at2 → Some old.held ≡ Some c
      → (d : Cartridge) × (Some new.held ≡ Some d) × AfterWrite r at2.part at2.pos x c d
  put_held r sane ran at2 c is2 held =
      let place : at ≡ at2 = cc in
      let same : old.held ≡ c = cc in (
        new.held,
        refl,
        subst (λ (p : Place). AfterWrite r p.part p.pos x c new.held) place
            (subst (λ (d : Cartridge). AfterWrite r at.part at.pos x d new.held) same (put_told T E kind at x old new sane r ran)),
      )

  -- what a crash may leave within a write at a place that is named
  pub put_crash : (r : Result T E) → IsSane old → RanPut r kind at x old new → (at2 : Place) (c : Cartridge) → old.head ≡ Some at2 → Some old.held ≡ Some c
      → Crashes (WithinWrite at2.part at2.pos x c) old.commands (Leaves old.held old.acts) (Leaves new.held new.acts)
      (LeftSince old.commands old.held old.acts) (LeftSince new.commands new.held new.acts)
  put_crash r sane ran at2 c is2 held =
      let place : at ≡ at2 = cc in
      let same : old.held ≡ c = cc in
      let Now : Place → Cartridge → Type 0 = λ p d. Crashes (WithinWrite p.part p.pos x d) old.commands (Leaves old.held old.acts) (Leaves new.held new.acts)
      (LeftSince old.commands old.held old.acts) (LeftSince new.commands new.held new.acts) in
      subst (λ (p : Place). Now p c) place (subst (λ (d : Cartridge). Now at d) same (put_meets T E kind at x old new sane r ran).crash)

  -- with the counter at its end a write fails and changes nothing
  pub put_at_end : (r : Result T E) → RanPut r kind at x old new → (c : Cartridge) → Some old.held ≡ Some c → 2 ^ 64 - 1 ≤ c.vcr → IsErr r × (Some new.held ≡ Some c)
  put_at_end (Ok t) ran c held top =
      let same : c ≡ old.held = cc in absurd (ran.0 (inr (subst (λ (d : Cartridge). 2 ^ 64 - 1 ≤ d.vcr) same top)))
  put_at_end (Err e) (inl ran) c held top = (refl, ap (λ (v : View). Some v.held) ran.1 ∙ held)
  put_at_end (Err e) (inr (inl ran)) c held top =
      let same : c ≡ old.held = cc in
      let at_top : 2 ^ 64 - 1 ≤ old.held.vcr = subst (λ (d : Cartridge). 2 ^ 64 - 1 ≤ d.vcr) same top in absurd (omega (arith, at_top, ran.1))
  put_at_end (Err e) (inr (inr ran)) c held top = (refl, ap (λ (v : View). Some v.held) ran.2 ∙ held)
