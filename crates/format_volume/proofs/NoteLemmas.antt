-- Notes, and what a crash may leave of them.
use Rattle.std.proofs.Common.{ℕ, ◌-◌, ◌^◌, ◌<◌, ◌≡◌, ◌∙◌, ◌⊎◌, inl, inr}
use Rattle.std.proofs.Common.{List, Option, Some, None, refl, sym, ap, subst}
use Rattle.tape_drive.proofs.Exact.{same_cartridge}
use Rattle.coherency.specs.Notes.{IsNote, note_of}
use Rattle.tape_types.specs.declared.cartridges.Cartridge.{Cartridge}
use Rattle.tape_types.specs.declared.cartridges.Note.{Note}
use Rattle.tape_types.specs.declared.cartridges.Note.TheVariants.{Kept}
use Rattle.tape_types.specs.declared.cartridges.Part.{Part}
use Rattle.tape_types.specs.declared.cartridges.Part.TheVariants.{Ip, Dp}
use Rattle.tape_drive.specs.Commands.{IsNoted}
use Rattle.tape_drive.specs.declared.drive.Drive.{Ghosts}
use Rattle.format_volume.specs.declared.requests.FormatSpec.{FormatSpec}
use Rattle.format_volume.specs.Outcomes.{IsSureSince}
use Rattle.format_volume.specs.Steps.{with_notes}
use Rattle.format_volume.specs.Volumes.{noted}
use Rattle.tape_drive.specs.Crashes.{Crashes, HasState, IsSettled, IsSure, NothingNew, WithinNote}

-- nothing is pending after a command that changes nothing
pub sure_looked : (a b : Option Cartridge) (leaves_a leaves_b : Cartridge → Type 0) (count : ℕ)
    (since_a since_b : ℕ → Cartridge → Type 0)
    → b ≡ a → IsSure a leaves_a → Crashes NothingNew count leaves_a leaves_b since_a since_b → IsSure b leaves_b
sure_looked None None leaves_a leaves_b count since_a since_b same sure crashes = record {}
sure_looked (Some c) (Some d) leaves_a leaves_b count since_a since_b same sure crashes = λ image left.
    let was = crashes.now image left in was.2 ∙ sure was.0 was.1 ∙ (let e : c ≡ d = cc same in e)
sure_looked None (Some d) leaves_a leaves_b count since_a since_b same sure crashes = absurd (cc same)
sure_looked (Some c) None leaves_a leaves_b count since_a since_b same sure crashes = absurd (cc same)

-- an image of what was noted
noted_image : (part : Part) (note : Note) (c d image : Cartridge) → IsNoted part note c d → HasState d image
    → (image ≡ c) ⊎ IsNoted part note c image → image ≡ d
noted_image part note c d image noted state (inl same) =
    same_cartridge image d (ap (λ (k : Cartridge). k.ip) same ∙ sym noted.ip) (ap (λ (k : Cartridge). k.dp) same ∙ sym noted.dp)
    state.vcr state.note_ip state.note_dp
noted_image part note c d image noted state (inr new) =
    same_cartridge image d (new.ip ∙ sym noted.ip) (new.dp ∙ sym noted.dp) state.vcr state.note_ip state.note_dp

-- nothing is pending after a note was written
pub sure_noted : (part : Part) (note : Note) (a b : Option Cartridge) (leaves_a leaves_b : Cartridge → Type 0) (count : ℕ)
    (since_a since_b : ℕ → Cartridge → Type 0) → IsSure a leaves_a
    → ((c : Cartridge) → a ≡ Some c → (d : Cartridge) × (b ≡ Some d) × IsNoted part note c d)
    → (a ≡ None → b ≡ None) → IsSettled b leaves_b
    → ((c : Cartridge) → a ≡ Some c → Crashes (WithinNote part note) count leaves_a leaves_b since_a since_b)
    → IsSure b leaves_b
sure_noted part note None b leaves_a leaves_b count since_a since_b sure told untold settled crashes =
    subst (λ (h : Option Cartridge). IsSure h leaves_b) (sym (untold refl)) (record {})
sure_noted part note (Some c) b leaves_a leaves_b count since_a since_b sure told untold settled crashes =
    let t = told c refl in
    let state : IsSettled (Some t.0) leaves_b = subst (λ (h : Option Cartridge). IsSettled h leaves_b) t.1 settled in
    subst (λ (h : Option Cartridge). IsSure h leaves_b) (sym t.1) (λ image left.
    let was = (crashes c refl).now image left in
    noted_image part note c t.0 image t.2 (state image left)
    (subst (λ (k : Cartridge). WithinNote part note k image) (sure was.0 was.1) was.2))

-- the notes of both partitions, one after the other
pub both_noted : (note : Note) (a b : Option Cartridge) (c : Cartridge)
    → ((d : Cartridge) × (a ≡ Some d) × IsNoted Ip note c d)
    → ((d : Cartridge) → a ≡ Some d → (e : Cartridge) × (b ≡ Some e) × IsNoted Dp note d e)
    → b ≡ Some (record c { note_ip = note; note_dp = note })
both_noted note a b c first second =
    let d : Cartridge = first.0 in
    let t = second d first.1 in
    t.1 ∙ ap Some (same_cartridge t.0 (record c { note_ip = note; note_dp = note })
    (t.2.ip ∙ first.2.ip) (t.2.dp ∙ first.2.dp) (t.2.vcr ∙ first.2.vcr)
    (t.2.other_note ∙ first.2.written) t.2.written)

-- the notes have the reference that the cartridge has
pub noted_with : (spec : FormatSpec) (k : Cartridge) (vcr : ℕ) (note : List ℕ) (b : Option Cartridge) → vcr ≡ k.vcr
    → note ≡ note_of (noted spec vcr) → IsNote note (noted spec vcr)
    → b ≡ Some (record k { note_ip = Kept note; note_dp = Kept note })
    → (b ≡ Some (with_notes spec k)) × IsNote (note_of (noted spec k.vcr)) (noted spec k.vcr)
noted_with spec k vcr note b same is reads held = (
  held ∙ ap (λ (n : List ℕ). Some (record k { note_ip = Kept n; note_dp = Kept n })) (is ∙ ap (λ (v : ℕ). note_of (noted spec v)) same),
  subst (λ (v : ℕ). IsNote (note_of (noted spec v)) (noted spec v)) same (subst (λ (n : List ℕ). IsNote n (noted spec vcr)) is reads),
)

-- since the present number of commands there is no other moment than this one
pub sure_since : {D : Type 0} (drive : Ghosts D) (now : D) → IsSure (drive.held now) (drive.leaves now)
    → ((image : Cartridge) → drive.commands now < 2 ^ 64 - 1 → drive.left_since now (drive.commands now) image → drive.leaves now image)
    → IsSureSince drive now
sure_since drive now sure only_now = λ c image held few left.
    let told : IsSure (Some c) (drive.leaves now) = subst (λ (h : Option Cartridge). IsSure h (drive.leaves now)) held sure in
    told image (only_now image few left)
