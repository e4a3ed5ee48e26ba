-- What is true of every value of the type stays true.
use Rattle.std.proofs.Common.{ℕ, ◌-◌, ◌^◌, ◌≤◌, ◌<◌, ◌≡◌, ◌⊎◌, ⊎_elim, inl, inr, Bool, true, false, List, length, Option, Some, None, Result, Ok, Err, IfSome, refl, sym, ◌∙◌, ap, subst, arith}
use Rattle.crash_steps.specs.Crashes.{NothingNew}
use Rattle.byte_disk.specs.Files.{AfterWrite, Files, KeepsOthers}
use Rattle.byte_disk.specs.Commands.{IsOneMore, WithinWrite}
use Rattle.byte_disk.specs.declared.disk.ByteDisk.{Ghosts}
use Rattle.tape_types.specs.Counts.{HasCause}
use Rattle.tape_types.specs.declared.cartridges.Part.{Part}
use Rattle.tape_types.specs.declared.cartridges.Part.TheVariants.{Ip, Dp}
use Rattle.image_slots.specs.declared.errors.OpenErr.{OpenErr}
use Rattle.image_slots.specs.declared.errors.OpenErr.TheVariants.{Header}
use Rattle.image_slots.specs.declared.errors.SetErr.TheVariants.{Disk, Serial}
use Rattle.image_slots.specs.declared.known.Known.{Known}
use Rattle.image_slots.specs.declared.known.Known.TheVariants.{Steady, Open}
use Rattle.image_slots.specs.declared.sides.Found.{Found}
use Rattle.image_slots.specs.declared.sides.Side.{Side}
use Rattle.image_slots.specs.Slots.{HasValue, serial_of}
use Rattle.image_slots.specs.Sides.{IsRead, other_of}
use Rattle.image_slots.specs.Calls.{IsLook}
use Rattle.image_slots.specs.Pieces.{Any, CrashesIn, HasOne, IsHeaderSure, IsPiece, IsReady, WithinSet}
use Rattle.image_slots.specs.State.{IsCommand, IsKept, IsRecovered, IsSet, Knows, View, file_of, is_steady, next_value}
use Rattle.image_slots.proofs.Chains.{no_step, same_files, told_before, where_told}
use Rattle.image_slots.proofs.Choosing.{has_value}

one_has : (cm old new : List ℕ) → HasValue cm old ⊎ HasValue cm new → (v : List ℕ) × HasValue cm v
one_has cm old new (inl h) = (old, h)
one_has cm old new (inr h) = (new, h)

held_has_value : (known : Known) (side : Side) (beside : Bool) (value : List ℕ) (leaves : Files → Type 0) (d : Files)
    → Knows known side beside value leaves d → (v : List ℕ) × HasValue d.cm v
held_has_value Steady side beside value leaves d h = (value, has_value side d.cm value h.0.0)
held_has_value (Open after) side beside value leaves d h = one_has d.cm value after h.0

image_has_value : (known : Known) (side : Side) (beside : Bool) (value : List ℕ) (leaves : Files → Type 0) (d : Files)
    → Knows known side beside value leaves d → (image : Files) → leaves image → (v : List ℕ) × HasValue image.cm v
image_has_value Steady side beside value leaves d h image left =
    (value, subst (λ (l : List ℕ). HasValue l value) (sym (h.1 image left)) (has_value side d.cm value h.0.0))
image_has_value (Open after) side beside value leaves d h image left = one_has image.cm value after (h.1 image left)

-- where neither what reads nor what may be left has another header
knows_over : (known : Known) (side : Side) (beside : Bool) (value : List ℕ) (la lb : Files → Type 0) (d e : Files) → e.cm ≡ d.cm
    → ((image : Files) → lb image → (before : Files) × la before × (image.cm ≡ before.cm))
    → Knows known side beside value la d → Knows known side beside value lb e
knows_over Steady side beside value la lb d e same back h = (
  subst (λ (l : List ℕ). IsRead side beside value l) (sym same) h.0,
  λ image left. let was = back image left in was.2 ∙ h.1 was.0 was.1 ∙ sym same,
)
knows_over (Open after) side beside value la lb d e same back h = (
  subst (λ (l : List ℕ). HasValue l value ⊎ HasValue l after) (sym same) h.0,
  λ image left. let was = back image left in
      subst (λ (l : List ℕ). HasValue l value ⊎ HasValue l after) (sym was.2) (h.1 was.0 was.1),
)

-- two views that agree, also in the number since which they are open, are one
pub opened_at : {D : Type 0} (a : D) (side : Side) (value : List ℕ) (beside : Bool) (known : Known) (m n : ℕ) → m ≡ n
    → ◌≡◌ {A = View D} (record { disk = a; side = side; value = value; beside = beside; known = known; opened = m })
    (record { disk = a; side = side; value = value; beside = beside; known = known; opened = n })
opened_at {D = D} a side value beside known m n e =
    let with_number : ℕ → View D = λ k. record { disk = a; side = side; value = value; beside = beside; known = known; opened = k } in
    ap with_number e

-- a view of which it is not known whether its value is steady stays so
pub unknown_at : {D : Type 0} (s v : View D) → s ≡ v → false ≡ is_steady v.known → is_steady s.known ≡ false
unknown_at {D = D} s v e shut = ap (λ (x : View D). is_steady x.known) e ∙ sym shut

-- a view whose value is steady stays so
pub steady_at : {D : Type 0} (s v : View D) → s ≡ v → v.known ≡ Steady → s.known ≡ Steady
steady_at {D = D} s v e steady = ap (λ (x : View D). x.known) e ∙ steady

not_steady : (k : Known) → k ≡ Steady → is_steady k ≡ false → ⊥
not_steady Steady e h = cc h
not_steady (Open after) e h = cc e

module _ {D : Type 0} (disk : Ghosts D) where
  -- a view over another disk
  abbrev pub over : View D → D → View D
  over s b = record { disk = b; side = s.side; value = s.value; beside = s.beside; known = s.known; opened = s.opened }

  -- after commands of which each image has a value
  kept_by : {step : Files → Files → Type 0} (s : View D) (b : D) (side : Side) (value : List ℕ) (beside : Bool) (known : Known) → IsKept disk s
      → disk.commands s.disk ≤ disk.commands b → (disk.held s.disk ≡ None → disk.held b ≡ None)
      → ((d : Files) → disk.held s.disk ≡ Some d → CrashesIn disk step s.disk b)
      → ((d before image : Files) → disk.held s.disk ≡ Some d → disk.leaves s.disk before → step before image → (v : List ℕ) × HasValue image.cm v)
      → ((d e : Files) → disk.held s.disk ≡ Some d → disk.held b ≡ Some e → Knows known side beside value (disk.leaves b) e)
      → IsKept disk (record { disk = b; side = side; value = value; beside = beside; known = known; opened = s.opened })
  kept_by {step = step} s b side value beside known kept later untold crash each knows = record {
    reached = omega (arith, kept.reached, later);
    always = λ e is short image left.
        let was = told_before (disk.held s.disk) (disk.held b) untold e is in ⊎_elim
        (λ (past : disk.left_since s.disk s.opened image). kept.always was.0 was.1 short image past)
        (λ (step_of : (before : Files) × disk.leaves s.disk before × step before image).
        each was.0 step_of.0 image was.1 step_of.1 step_of.2)
        ((crash was.0 was.1).since s.opened image kept.reached left);
    present = λ e is.
        let was = told_before (disk.held s.disk) (disk.held b) untold e is in knows was.0 e was.1 is;
  }

  -- commands that leave the header as it is
  pub kept_over : {step : Files → Files → Type 0} (s : View D) (b : D) → IsKept disk s → disk.commands s.disk ≤ disk.commands b
      → (disk.held s.disk ≡ None → disk.held b ≡ None)
      → ((d e : Files) → disk.held s.disk ≡ Some d → disk.held b ≡ Some e → e.cm ≡ d.cm) → CrashesIn disk step s.disk b
      → ((before image : Files) → step before image → image.cm ≡ before.cm) → IsKept disk (over s b)
  kept_over s b kept later untold same crash keeps =
      kept_by s b s.side s.value s.beside s.known kept later untold (λ d is. crash)
      (λ d before image is left st.
      let has = image_has_value s.known s.side s.beside s.value (disk.leaves s.disk) d (kept.present d is) before left in
      (has.0, subst (λ (l : List ℕ). HasValue l has.0) (sym (keeps before image st)) has.1))
      (λ d e is now. knows_over s.known s.side s.beside s.value (disk.leaves s.disk) (disk.leaves b) d e (same d e is now)
      (λ image left. let was = crash.now image left in (was.0, was.1, keeps was.0 image was.2)) (kept.present d is))

  -- commands that only read
  pub kept_look : (s : View D) (b : D) → IsKept disk s → disk.commands s.disk ≤ disk.commands b → disk.held b ≡ disk.held s.disk
      → CrashesIn disk NothingNew s.disk b → IsKept disk (over s b)
  kept_look s b kept later held crash = kept_over s b kept later (λ none. held ∙ none)
      (λ d e is now. ap (λ (f : Files). f.cm) (same_files (disk.held s.disk) d e is (sym held ∙ now))) crash
      (λ before image same. ap (λ (f : Files). f.cm) same)

  others_keep : (part : Part) (x y : Files) → KeepsOthers (file_of part) x y → y.cm ≡ x.cm
  others_keep Ip x y h = h.1
  others_keep Dp x y h = h.1

  after_others : {T E : Type 0} (r : Result T E) (part : Part) (at : ℕ) (bytes : List ℕ) (x y : Files) → AfterWrite r (file_of part) at bytes x y → y.cm ≡ x.cm
  after_others (Ok _) part at bytes x y h = others_keep part x y h.others
  after_others (Err _) part at bytes x y h = others_keep part x y h.others

  -- a write to a partition's file
  pub kept_write : {T E : Type 0} (r : Result T E) (part : Part) (at n : ℕ) (bytes : List ℕ) (s : View D) (b : D) → IsKept disk s
      → disk.commands s.disk ≤ disk.commands b
      → ((d : Files) → disk.held s.disk ≡ Some d → (e : Files) × (disk.held b ≡ Some e) × AfterWrite r (file_of part) at bytes d e)
      → (disk.held s.disk ≡ None → disk.held b ≡ None) → CrashesIn disk (WithinWrite (file_of part) at n) s.disk b → IsKept disk (over s b)
  kept_write r part at n bytes s b kept later told untold crash = kept_over s b kept later untold
      (λ d e is now. let t = told d is in
      ap (λ (f : Files). f.cm) (same_files (disk.held b) t.0 e t.1 now) ∙ after_others r part at bytes d t.0 t.2) crash
      (λ before image broken. others_keep part before image broken.others)

  -- ---- a set
  pub steady_ready : (s : View D) → IsKept disk s → s.known ≡ Steady → IsReady disk Any (IsRead s.side s.beside s.value) s.disk
  steady_ready s kept steady = λ d is.
      let p = subst (λ (k : Known). Knows k s.side s.beside s.value (disk.leaves s.disk) d) steady (kept.present d is) in
      (p.0, tt, λ image left. (p.1 image left, tt))

  -- the value that is known is there
  pub known_left : (s : View D) → IsKept disk s → s.known ≡ Steady → (d : Files) → disk.held s.disk ≡ Some d
      → HasValue d.cm s.value × ((image : Files) → disk.leaves s.disk image → HasValue image.cm s.value)
  known_left s kept steady d is =
      let now = steady_ready s kept steady d is in
      let has : HasValue d.cm s.value = has_value s.side d.cm s.value now.0.0 in
      (has, λ image left. subst (λ (l : List ℕ). HasValue l s.value) (sym (now.2 image left).0) has)

  -- what is kept has a header of 512 bytes
  pub kept_size : (s : View D) → IsKept disk s → IfSome (disk.held s.disk) (λ (d : Files). length d.cm ≡ 512)
  kept_size s kept = where_told (disk.held s.disk) (λ (d : Files). length d.cm ≡ 512)
      (λ d is. (held_has_value s.known s.side s.beside s.value (disk.leaves s.disk) d (kept.present d is)).1.size)

  kept_set_at : {T E : Type 0} (x : T) (s : View D) (b : D) (new : List ℕ) → IsKept disk s → s.known ≡ Steady
      → IsPiece {T = T} {E = E} disk (HasOne s.value new) Any (IsRead (other_of s.side) true new) 6 (Ok x) s.disk b
      → IsKept disk (record { disk = b; side = other_of s.side; value = new; beside = true; known = s.known; opened = s.opened })
  kept_set_at x s b new kept steady piece = kept_by s b (other_of s.side) new true s.known kept piece.count.later piece.untold piece.crash
      (λ d before image is left within. one_has image.cm s.value new within.2)
      (λ d e is now. let p = piece.ready e now in
      subst (λ (k : Known). Knows k (other_of s.side) true new (disk.leaves b) e) (sym steady) (p.0, λ image left. (p.2 image left).0))

  -- after a set that succeeded what is kept stays true
  pub kept_set : {T E : Type 0} (x : T) (s : View D) (b : D) (to : Side) (new : List ℕ) → to ≡ other_of s.side → IsKept disk s → s.known ≡ Steady
      → IsPiece {T = T} {E = E} disk (HasOne s.value new) Any (IsRead (other_of s.side) true new) 6 (Ok x) s.disk b
      → IsKept disk (record { disk = b; side = to; value = new; beside = true; known = s.known; opened = s.opened })
  kept_set x s b to new e kept steady piece =
      subst (λ (t : Side). IsKept disk (record { disk = b; side = t; value = new; beside = true; known = s.known; opened = s.opened })) (sym e)
      (kept_set_at x s b new kept steady piece)

  -- after a set that failed what is kept stays true, with the value open
  pub kept_failed : {T E : Type 0} {After : List ℕ → Type 0} (x : E) (s : View D) (b : D) (new : List ℕ) → IsKept disk s
      → IsPiece {T = T} {E = E} disk (HasOne s.value new) Any After 6 (Err x) s.disk b
      → IsKept disk (record { disk = b; side = s.side; value = s.value; beside = s.beside; known = Open new; opened = s.opened })
  kept_failed x s b new kept piece = kept_by s b s.side s.value s.beside (Open new) kept piece.count.later piece.untold piece.crash
      (λ d before image is left within. one_has image.cm s.value new within.2)
      (λ d e is now. let t = piece.told d is in (
        subst (λ (f : Files). HasOne s.value new f) (same_files (disk.held b) e t.0 now t.1) t.4,
        λ image left. let was = (piece.crash d is).now image left in was.2.2,
      ))

  -- what a set leaves, by how its commands ended
  set_done_at : {After : List ℕ → Type 0} {E : Type 0} (s : View D) (b : D) (rest new : List ℕ) (x : Unit {0}) → new ≡ next_value s.value rest → s.known ≡ Steady
      → IsPiece {T = Unit {0}} {E = E} disk (HasOne s.value new) Any After 6 (Ok x) s.disk b
      → IsSet disk rest (Ok tt) s (record { disk = b; side = other_of s.side; value = new; beside = true; known = s.known; opened = s.opened })
  set_done_at s b rest new x is steady piece = record {
    after =
        let with_value : List ℕ → View D = λ v. record { disk = b; side = other_of s.side; value = v; beside = true; known = s.known; opened = s.opened } in
        let with_known : Known → View D = λ k. record { disk = b; side = other_of s.side; value = next_value s.value rest; beside = true; known = k; opened = s.opened } in
        ap with_value is ∙ ap with_known steady;
    told = λ d h. let t = piece.told d h in (t.0, t.1, t.2, t.3, subst (λ (v : List ℕ). HasOne s.value v t.0) is t.4);
    untold = piece.untold;
    crash = λ d h. subst (λ (v : List ℕ). CrashesIn disk (WithinSet s.value v) s.disk b) is (piece.crash d h);
    count = piece.count;
    faults = piece.cause.later;
    failed = tt;
  }

  -- a set whose pieces all succeeded sets the next value
  pub set_done : {After : List ℕ → Type 0} {E : Type 0} (s v : View D) (b : D) (to : Side) (rest new : List ℕ) (x : Unit {0}) → s ≡ v → to ≡ other_of s.side → new ≡ next_value s.value rest → s.known ≡ Steady
      → IsPiece {T = Unit {0}} {E = E} disk (HasOne s.value new) Any After 6 (Ok x) s.disk b
      → IsSet disk rest (Ok tt) v (record { disk = b; side = to; value = new; beside = true; known = s.known; opened = s.opened })
  set_done s v b to rest new x e turn is steady piece =
      subst (λ (w : View D). IsSet disk rest (Ok tt) w (record { disk = b; side = to; value = new; beside = true; known = s.known; opened = s.opened })) e
      (subst (λ (t : Side). IsSet disk rest (Ok tt) s (record { disk = b; side = t; value = new; beside = true; known = s.known; opened = s.opened })) (sym turn)
      (set_done_at s b rest new x is steady piece))

  set_failed_at : {After : List ℕ → Type 0} {E : Type 0} (s : View D) (b : D) (rest new : List ℕ) (x : E) → new ≡ next_value s.value rest
      → IsPiece {T = Unit {0}} {E = E} disk (HasOne s.value new) Any After 6 (Err x) s.disk b
      → IsSet disk rest (Err Disk) s (record { disk = b; side = s.side; value = s.value; beside = s.beside; known = Open new; opened = s.opened })
  set_failed_at s b rest new x is piece = record {
    after =
        let with_known : List ℕ → View D = λ v. record { disk = b; side = s.side; value = s.value; beside = s.beside; known = Open v; opened = s.opened } in
        ap with_known is;
    told = λ d h. let t = piece.told d h in (t.0, t.1, t.2, t.3, subst (λ (v : List ℕ). HasOne s.value v t.0) is t.4);
    untold = piece.untold;
    crash = λ d h. subst (λ (v : List ℕ). CrashesIn disk (WithinSet s.value v) s.disk b) is (piece.crash d h);
    count = piece.count;
    faults = piece.cause.later;
    failed = piece.cause.failed;
  }

  -- a set of which a piece failed leaves the value open
  pub set_failed : {After : List ℕ → Type 0} {E : Type 0} (s v : View D) (b : D) (rest new : List ℕ) (x : E) → s ≡ v → new ≡ next_value s.value rest
      → IsPiece {T = Unit {0}} {E = E} disk (HasOne s.value new) Any After 6 (Err x) s.disk b
      → IsSet disk rest (Err Disk) v (record { disk = b; side = s.side; value = s.value; beside = s.beside; known = Open new; opened = s.opened })
  set_failed s v b rest new x e is piece =
      subst (λ (w : View D). IsSet disk rest (Err Disk) w (record { disk = b; side = s.side; value = s.value; beside = s.beside; known = Open new; opened = s.opened })) e
      (set_failed_at s b rest new x is piece)

  -- no command of a set
  pub set_spent : (s : View D) (rest : List ℕ) → IsKept disk s → s.known ≡ Steady → serial_of s.value ≡ 2 ^ 64 - 1 → IsSet disk rest (Err Serial) s s
  set_spent s rest kept steady last = record {
    after = refl;
    told = λ d is. (d, is, refl, refl, inl (has_value s.side d.cm s.value (steady_ready s kept steady d is).0.0));
    untold = λ none. none;
    crash = λ d is. no_step (disk.commands s.disk) (disk.leaves s.disk) (disk.left_since s.disk) (λ image left.
        let now = steady_ready s kept steady d is in
        (refl, refl, inl (subst (λ (l : List ℕ). HasValue l s.value) (sym (now.2 image left).0) (has_value s.side d.cm s.value now.0.0))));
    count = record { later = omega arith; bound = omega arith };
    faults = omega arith;
    failed = last;
  }

  -- ---- a value that was found
  pub kept_found : (s : View D) (b : D) (f : Found) → IsKept disk s → IsLook disk 2 (Ok f) s.disk b → IsHeaderSure disk b
      → IsKept disk (record { disk = b; side = f.side; value = f.value; beside = f.beside; known = Steady; opened = s.opened })
  kept_found s b f kept look sure = kept_by s b f.side f.value f.beside Steady kept look.count.later (λ none. look.held ∙ none) (λ d is. look.crash)
      (λ d before image is left same.
      let has = image_has_value s.known s.side s.beside s.value (disk.leaves s.disk) d (kept.present d is) before left in
      (has.0, subst (λ (x : Files). HasValue x.cm has.0) (sym same) has.1))
      (λ d e is now. (look.finds e (sym look.held ∙ now), λ image left. sure e image now left))

  -- no disk that tells what it holds is without a value
  pub never_header : (s : View D) (b : D) (why : OpenErr) → IsKept disk s → IsLook disk 2 (Err why) s.disk b → why ≡ Header → disk.held s.disk ≡ None
  never_header s b why kept look is = by (disk.held s.disk) refl
    where
      by : (o : Option Files) → disk.held s.disk ≡ o → o ≡ None
      by None e = refl
      by (Some d) e =
          let has = held_has_value s.known s.side s.beside s.value (disk.leaves s.disk) d (kept.present d e) in
          let look_header : IsLook disk 2 (Err Header) s.disk b = subst (λ (w : OpenErr). IsLook disk 2 (Err w) s.disk b) is look in
          absurd (look_header.finds d e has.0 has.1)

  -- what a recovery leaves
  recovered_at : (s : View D) (b : D) (f : Found) → IsLook disk 2 (Ok f) s.disk b → is_steady s.known ≡ false
      → IsRecovered disk (Ok tt) s (record { disk = b; side = f.side; value = f.value; beside = f.beside; known = Steady; opened = s.opened })
  recovered_at s b f look unknown = record {
    after = (refl, refl);
    nothing = λ steady. absurd (not_steady s.known steady unknown);
    held = look.held;
    crash = look.crash;
    count = look.count;
    faults = record { later = look.faults.later; failed = tt };
    header = tt;
  }

  -- a value that was found again is known as steady
  pub recovered : (s v : View D) (b : D) (f : Found) → s ≡ v → IsLook disk 2 (Ok f) s.disk b → is_steady s.known ≡ false
      → IsRecovered disk (Ok tt) v (record { disk = b; side = f.side; value = f.value; beside = f.beside; known = Steady; opened = s.opened })
  recovered s v b f e look unknown =
      subst (λ (w : View D). IsRecovered disk (Ok tt) w (record { disk = b; side = f.side; value = f.value; beside = f.beside; known = Steady; opened = s.opened })) e
      (recovered_at s b f look unknown)

  not_recovered_at : (s : View D) (b : D) (why : OpenErr) → IsKept disk s → IsLook disk 2 (Err why) s.disk b → is_steady s.known ≡ false
      → IsRecovered disk (Err why) s (over s b)
  not_recovered_at s b why kept look unknown = record {
    after = record { side = refl; value = refl; beside = refl; known = refl; opened = refl };
    nothing = λ steady. absurd (not_steady s.known steady unknown);
    held = look.held;
    crash = look.crash;
    count = look.count;
    faults = record { later = look.faults.later; failed = look.faults.failed };
    header = never_header s b why kept look;
  }

  -- where the value is not found again nothing is changed
  pub not_recovered : (s v : View D) (b : D) (why : OpenErr) → s ≡ v → IsKept disk s → IsLook disk 2 (Err why) s.disk b → is_steady s.known ≡ false
      → IsRecovered disk (Err why) v (over s b)
  not_recovered s v b why e kept look unknown = subst (λ (w : View D). IsRecovered disk (Err why) w (over s b)) e (not_recovered_at s b why kept look unknown)

  -- a value that is steady needs no recovery
  pub recovered_before : (s : View D) → is_steady s.known ≡ true → IsRecovered disk (Ok tt) s s
  recovered_before s steady = record {
    after = (by s.known steady, refl);
    nothing = λ same. refl;
    held = refl;
    crash = no_step (disk.commands s.disk) (disk.leaves s.disk) (disk.left_since s.disk) (λ image left. refl);
    count = record { later = omega arith; bound = omega arith };
    faults = record { later = omega arith; failed = tt };
    header = tt;
  }
    where
      by : (k : Known) → is_steady k ≡ true → k ≡ Steady
      by Steady e = refl
      by (Open after) e = absurd (cc e)

  commanded_at : {T E : Type 0} {step : Files → Files → Type 0} (end : Result T E) (s : View D) (b : D) → IsOneMore (disk.commands s.disk) (disk.commands b)
      → HasCause (disk.faults s.disk) (disk.faults b) end → CrashesIn disk step s.disk b → IsCommand disk step end s (over s b)
  commanded_at end s b count cause crash = record {
    over = record { side = refl; value = refl; beside = refl; known = refl; opened = refl };
    count = count;
    cause = cause;
    crash = crash;
  }

  -- a command of the disk leaves the view as it was, over the disk as it is now
  pub commanded : {T E : Type 0} {step : Files → Files → Type 0} (end : Result T E) (s v : View D) (b : D) → s ≡ v → IsOneMore (disk.commands s.disk) (disk.commands b)
      → HasCause (disk.faults s.disk) (disk.faults b) end → CrashesIn disk step s.disk b → IsCommand disk step end v (over s b)
  commanded {step = step} end s v b e count cause crash = subst (λ (w : View D). IsCommand disk step end w (over s b)) e (commanded_at end s b count cause crash)

  -- a disk on which a value was found
  pub kept_new : (a : D) (opened : ℕ) (f : Found)
      → ((image : Files) → disk.commands a < 2 ^ 64 - 1 → disk.left_since a (disk.commands a) image → disk.leaves a image)
      → opened ≡ disk.commands a
      → ((d : Files) → disk.held a ≡ Some d → IsRead f.side f.beside f.value d.cm × ((image : Files) → disk.leaves a image → image.cm ≡ d.cm))
      → IsKept disk (record { disk = a; side = f.side; value = f.value; beside = f.beside; known = Steady; opened = opened })
  kept_new a opened f only_now at ready = record {
    reached = omega (arith, at);
    always = λ d is short image left.
        let now = ready d is in
        let here : disk.leaves a image = only_now image (subst (λ (n : ℕ). n < 2 ^ 64 - 1) at short) (subst (λ (n : ℕ). disk.left_since a n image) at left) in
        (f.value, subst (λ (l : List ℕ). HasValue l f.value) (sym (now.1 image here)) (has_value f.side d.cm f.value now.0.0));
    present = λ d is. ready d is;
  }
