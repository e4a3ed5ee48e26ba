-- What a cartridge that isn't read says of a status and of what is told.
use Rattle.std.proofs.Common.{◌≡◌, ◌∙◌, ℕ, List, [], ◌∷◌, Option, codes, refl, sym, subst, inl, inr}
use Rattle.std.specs.Prelude.{IfSome}
use Rattle.std.specs.Io.KnownBytes.{Appends}
use Rattle.tape_types.specs.Counts.{Rose}
use Rattle.tape_types.specs.declared.cartridges.Cartridge.{Cartridge}
use Rattle.mount_recover.specs.Labels.{AreCounts}
use Rattle.mount_recover.specs.Steps.{Blames}
use Rattle.cartridge_meaning.specs.Faults.{MountFault}
use Rattle.cartridge_meaning.specs.Meaning.{Found}
use Rattle.cartridge_meaning.proofs.OneFault.{found_no_fault}
use Rattle.cartridge_meaning.specs.declared.errors.MountErr.{MountErr}
use Rattle.cartridge_meaning.specs.declared.errors.MountErr.TheVariants as errors
use Rattle.commands.specs.BasicCommands.Headline.{IsDriveFaultPrinted}
use Rattle.commands.specs.BasicCommands.Labels.{mount_status, mount_text}
use Rattle.commands.specs.BasicCommands.Runs.{IsOneOf}

-- 3 for a check, 4 for the drive, 7 for want of memory
pub mount_known : (e : MountErr) → IsOneOf (mount_status e) (3 ∷ 4 ∷ 7 ∷ [])
mount_known (errors.Vol1 part) = inl refl
mount_known (errors.Label part) = inl refl
mount_known errors.LabelsDiffer = inl refl
mount_known (errors.Layout place) = inl refl
mount_known errors.NoIndex = inl refl
mount_known (errors.BadIndex place why) = inl refl
mount_known (errors.WrongVolume place) = inl refl
mount_known (errors.WrongPointer place) = inl refl
mount_known (errors.BadExtent uid) = inl refl
mount_known (errors.Drive counts) = inr (inl refl)
mount_known errors.NoMemory = inr (inr (inl refl))

-- the statuses of a cartridge that isn't read are among all those of a command
pub among_all : (n : ℕ) → IsOneOf n (3 ∷ 4 ∷ 7 ∷ []) → IsOneOf n (0 ∷ 3 ∷ 4 ∷ 6 ∷ 7 ∷ [])
among_all n (inl three) = inr (inl three)
among_all n (inr (inl four)) = inr (inr (inl four))
among_all n (inr (inr (inl seven))) = inr (inr (inr (inr (inl seven))))
among_all n (inr (inr (inr none))) = absurd none

-- the statuses of a cartridge that isn't read are among those of a refusal
pub among_refused : (n : ℕ) → IsOneOf n (3 ∷ 4 ∷ 7 ∷ []) → IsOneOf n (3 ∷ 4 ∷ 6 ∷ 7 ∷ [])
among_refused n (inl three) = inl three
among_refused n (inr (inl four)) = inr (inl four)
among_refused n (inr (inr (inl seven))) = inr (inr (inr (inl seven)))
among_refused n (inr (inr (inr none))) = absurd none

isnt : (n m : ℕ) → IsOneOf n (3 ∷ 4 ∷ 7 ∷ []) → (3 ≡ m → ⊥) → (4 ≡ m → ⊥) → (7 ≡ m → ⊥) → n ≡ m → ⊥
isnt n m (inl is) three four seven same = three (sym is ∙ same)
isnt n m (inr (inl is)) three four seven same = four (sym is ∙ same)
isnt n m (inr (inr (inl is))) three four seven same = seven (sym is ∙ same)
isnt n m (inr (inr (inr none))) three four seven same = none

-- so it is none of the others
pub mount_isnt : (e : MountErr) (n : ℕ) → (3 ≡ n → ⊥) → (4 ≡ n → ⊥) → (7 ≡ n → ⊥) → mount_status e ≡ n → ⊥
mount_isnt e n = isnt (mount_status e) n (mount_known e)

abbrev told_counts : (before after : ℕ) → List ℕ
told_counts before after = mount_text (errors.Drive (record { before = before; after = after }))

-- where a mount ends with status 4, the fault of the drive is printed
pub drive_told : (e : MountErr) (before now : ℕ) (old new : Option (List ℕ)) → AreCounts before now e → (mount_status e ≡ 4) × Appends old new (mount_text e)
    → IsDriveFaultPrinted before now old new
drive_told (errors.Vol1 part) before now old new counts told = absurd (cc told.0)
drive_told (errors.Label part) before now old new counts told = absurd (cc told.0)
drive_told errors.LabelsDiffer before now old new counts told = absurd (cc told.0)
drive_told (errors.Layout place) before now old new counts told = absurd (cc told.0)
drive_told errors.NoIndex before now old new counts told = absurd (cc told.0)
drive_told (errors.BadIndex place why) before now old new counts told = absurd (cc told.0)
drive_told (errors.WrongVolume place) before now old new counts told = absurd (cc told.0)
drive_told (errors.WrongPointer place) before now old new counts told = absurd (cc told.0)
drive_told (errors.BadExtent uid) before now old new counts told = absurd (cc told.0)
drive_told (errors.Drive said) before now old new counts told = (
  counts.2,
  subst (λ n. Appends old new (told_counts n now)) counts.0 (subst (λ n. Appends old new (told_counts said.before n)) counts.1 told.1),
)
drive_told errors.NoMemory before now old new counts told = absurd (cc told.0)

-- where a mount ends with status 7, the want of memory is printed
pub memory_told : (e : MountErr) (old new : Option (List ℕ)) → (mount_status e ≡ 7) × Appends old new (mount_text e) → Appends old new (codes "memory\n")
memory_told (errors.Vol1 part) old new told = absurd (cc told.0)
memory_told (errors.Label part) old new told = absurd (cc told.0)
memory_told errors.LabelsDiffer old new told = absurd (cc told.0)
memory_told (errors.Layout place) old new told = absurd (cc told.0)
memory_told errors.NoIndex old new told = absurd (cc told.0)
memory_told (errors.BadIndex place why) old new told = absurd (cc told.0)
memory_told (errors.WrongVolume place) old new told = absurd (cc told.0)
memory_told (errors.WrongPointer place) old new told = absurd (cc told.0)
memory_told (errors.BadExtent uid) old new told = absurd (cc told.0)
memory_told (errors.Drive said) old new told = absurd (cc told.0)
memory_told errors.NoMemory old new told = told.1

-- what is blamed with status 3 is a fault of the cartridge
pub blamed : (e : MountErr) (held : Option Cartridge) → mount_status e ≡ 3 → IfSome held (λ c. Blames e c) → IfSome held (λ c. MountFault c e)
blamed (errors.Vol1 part) held three is = is
blamed (errors.Label part) held three is = is
blamed errors.LabelsDiffer held three is = is
blamed (errors.Layout place) held three is = is
blamed errors.NoIndex held three is = is
blamed (errors.BadIndex place why) held three is = is
blamed (errors.WrongVolume place) held three is = is
blamed (errors.WrongPointer place) held three is = is
blamed (errors.BadExtent uid) held three is = is
blamed (errors.Drive said) held three is = absurd (cc three)
blamed errors.NoMemory held three is = absurd (cc three)

-- of a cartridge that passes all checks none is blamed
pub found_done : (c : Cartridge) (before now : ℕ) (e : MountErr) → Blames e c → AreCounts before now e → Found c → ¬ (Rose before now) → IsOneOf (mount_status e) (0 ∷ 7 ∷ [])
found_done c before now (errors.Vol1 part) fault counts found still = absurd (found_no_fault c (errors.Vol1 part) found fault)
found_done c before now (errors.Label part) fault counts found still = absurd (found_no_fault c (errors.Label part) found fault)
found_done c before now errors.LabelsDiffer fault counts found still = absurd (found_no_fault c errors.LabelsDiffer found fault)
found_done c before now (errors.Layout place) fault counts found still = absurd (found_no_fault c (errors.Layout place) found fault)
found_done c before now errors.NoIndex fault counts found still = absurd (found_no_fault c errors.NoIndex found fault)
found_done c before now (errors.BadIndex place why) fault counts found still = absurd (found_no_fault c (errors.BadIndex place why) found fault)
found_done c before now (errors.WrongVolume place) fault counts found still = absurd (found_no_fault c (errors.WrongVolume place) found fault)
found_done c before now (errors.WrongPointer place) fault counts found still = absurd (found_no_fault c (errors.WrongPointer place) found fault)
found_done c before now (errors.BadExtent uid) fault counts found still = absurd (found_no_fault c (errors.BadExtent uid) found fault)
found_done c before now (errors.Drive said) fault counts found still = absurd (still counts.2)
found_done c before now errors.NoMemory fault counts found still = inr (inl refl)
