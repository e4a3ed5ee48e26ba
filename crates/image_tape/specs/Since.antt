-- The laws of what may have been left of a tape since a number of commands.
use Rattle.std.proofs.Common.{◌⊎◌, ℕ, ◌-◌, ◌^◌, ◌<◌, ◌≤◌, List, [], ◌∷◌, inl, inr, arith, refl}
use Rattle.tape_types.specs.declared.cartridges.Cartridge.{Cartridge}
use Rattle.tape_types.specs.declared.cartridges.Limits.{Limits}
use Rattle.byte_disk.specs.Files.{Files}
use Rattle.byte_disk.specs.declared.disk.ByteDisk.{Ghosts}
use Rattle.image_slots.specs.State as slot
use Rattle.tape_types.specs.Counts.{Rose}
use Rattle.image_tape.specs.Tape.{IsAhead, LeavesOf, LeftSince, View, WasLeft}

-- one of four things holds, and each gives the same
pub from_four : {A B C E R : Type 0} → A ⊎ (B ⊎ (C ⊎ E)) → (A → R) → (B → R) → (C → R) → (E → R) → R
from_four (inl h) a b c e = a h
from_four (inr (inl h)) a b c e = b h
from_four (inr (inr (inl h))) a b c e = c h
from_four (inr (inr (inr h))) a b c e = e h

pub first : {A B C E : Type 0} → A → A ⊎ (B ⊎ (C ⊎ E))
first h = inl h

pub second : {A B C E : Type 0} → B → A ⊎ (B ⊎ (C ⊎ E))
second h = inr (inl h)

pub third : {A B C E : Type 0} → C → A ⊎ (B ⊎ (C ⊎ E))
third h = inr (inr (inl h))

pub fourth : {A B C E : Type 0} → E → A ⊎ (B ⊎ (C ⊎ E))
fourth h = inr (inr (inr h))

-- the cartridge as it opens
pub as_it_opens : (vcr : ℕ) (c : Cartridge) → IsAhead vcr c c
as_it_opens vcr c = inl refl

-- a number below the last isn't past itself
pub not_past : {R : Type 0} (n : ℕ) → n < 2 ^ 64 - 1 → Rose n n → R
not_past n less rose = absurd (omega (arith, less, rose))

-- a number that was reached isn't yet to come
pub not_before : {R : Type 0} (n opened : ℕ) → n < opened → opened ≤ n → R
not_before n opened less reached = absurd (omega (arith, less, reached))

pub rose_lower : (t u n : ℕ) → t ≤ u → Rose u n → Rose t n
rose_lower t u n le rose = omega (arith, le, rose)

pub lower_yet : (t u n : ℕ) → t ≤ u → u < n → t < n
lower_yet t u n le less = omega (arith, le, less)

pub was_lower : {D : Type 0} (disk : Ghosts D) (limits : Limits) (ms : List (ℕ × slot.View D)) (t u : ℕ)
    (image : Cartridge) → t ≤ u → WasLeft disk limits ms u image → WasLeft disk limits ms t image
was_lower disk limits [] t u image le h = h
was_lower disk limits (m ∷ ms) t u image le (inl h) = inl (omega (arith, le, h.0), h.1)
was_lower disk limits (m ∷ ms) t u image le (inr h) = inr (was_lower disk limits ms t u image le h)

-- it is what may be left now, where that number is the present one
pub only_now : {D : Type 0} (disk : Ghosts D) (v : View D) (image : Cartridge)
    → ((left : Files) → disk.left_since v.slots.disk (disk.commands v.slots.disk) left
    → disk.leaves v.slots.disk left)
    → disk.commands v.slots.disk < 2 ^ 64 - 1 → LeftSince disk v (disk.commands v.slots.disk) image
    → LeavesOf disk v image
only_now disk v image only less h = from_four h
    (λ left. (image, (left.0, only left.0 left.1, left.2, left.3), inl refl))
    (λ now. now)
    (λ past. not_past (disk.commands v.slots.disk) less past.0)
    (λ before. not_before (disk.commands v.slots.disk) v.opened before.0 before.1)

-- what may be left now counts since each number
pub counts_now : {D : Type 0} (disk : Ghosts D) (v : View D) (t : ℕ) (image : Cartridge)
    → LeavesOf disk v image → LeftSince disk v t image
counts_now disk v t image h = second h

-- it is no more since a greater number
pub lower : {D : Type 0} (disk : Ghosts D) (v : View D) (t u : ℕ) (image : Cartridge) → t ≤ u
    → ((left : Files) → disk.left_since v.slots.disk u left → disk.left_since v.slots.disk t left)
    → LeftSince disk v u image → LeftSince disk v t image
lower disk v t u image le less h = from_four h
    (λ left. first (left.0, less left.0 left.1, left.2, left.3))
    (λ now. second now)
    (λ past. third (
      rose_lower t u (disk.commands v.slots.disk) le past.0,
      was_lower disk v.room.limits v.past t u image le past.1,
    ))
    (λ before. fourth (lower_yet t u v.opened le before.0, before.1))
