-- The values of notes.
use Rattle.std.proofs.Common.{◌≡◌, ℕ, List, Option, Some, None, subst}
use Rattle.tape_types.specs.declared.cartridges.Note.{Note}
use Rattle.tape_types.specs.declared.cartridges.Note.TheVariants.{Kept}
use Rattle.coherency.specs.Notes.{HasValues, IsNote}
use Rattle.coherency.specs.declared.Coherency.{Coherency}
use Rattle.mount_recover.specs.Noted.{IsCurrentAs}

-- bytes that are no note have no values
pub no_values : (note : Note) (bytes : List ℕ) (vcr uuid : ℕ) → note ≡ Kept bytes
    → ((c : Coherency) → IsNote bytes c → ◌≡◌ {A = Option Coherency} None (Some c))
    → (values : Coherency) → IsCurrentAs note vcr uuid values → ◌≡◌ {A = Option Coherency} None (Some values)
no_values note bytes vcr uuid is none values current =
    none values (subst (λ (n : Note). HasValues n values) is current.has)
