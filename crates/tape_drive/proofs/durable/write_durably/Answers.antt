use Rattle.std.proofs.Common.{ℕ, ◌+◌, ◌≡◌, ◌≤◌, ◌<◌, ◌-◌, ◌^◌, inl, inr, List, [], ◌∷◌, ◌++◌, take, length, get_or, Option, Some, None, ⊎_elim, refl, sym, ◌∙◌, ap, subst, arith}
use Rattle.std.specs.Prelude.{slice_get, IfSome}
use Rattle.std.proofs.lemmas.List.{length-append, length-take-le}
use Rattle.std.proofs.Math.Seq.{get_or-append_seam}
use Rattle.std.proofs.lemmas.Option.{slice_get_read}
use Rattle.tape_types.specs.declared.cartridges.Cartridge.{Cartridge}
use Rattle.tape_types.specs.declared.cartridges.Item.{Item}
use Rattle.tape_types.specs.declared.cartridges.Item.TheVariants as item
use Rattle.tape_types.specs.Cartridges.{items_of}
use Rattle.tape_types.specs.declared.cartridges.Place.{Place}
use Rattle.crash_steps.proofs.Joined.{alone, behind_looks, joined, widened}
use Rattle.tape_drive.specs.Commands.{IsWritten, item_at}
use Rattle.tape_drive.specs.Crashes.{Crashes, IsSure, LeavesAllowed, NothingNew, WithinDurably, WithinFlush, WithinWrite}
use Rattle.tape_drive.proofs.Acts.{write_same}
use Rattle.tape_drive.proofs.durable.write_durably.Goals as goal

-- an item that was appended stands at the position of the cut
stands : (pos : ℕ) (x : Item) (xs : List Item) → pos ≤ length xs → slice_get (take pos xs ++ x ∷ []) pos ≡ Some x
stands pos x xs le =
    let cut : length (take pos xs) ≡ pos = length-take-le pos xs le in
    let whole : pos + 1 ≡ length (take pos xs ++ x ∷ []) = omega (arith, cut, length-append (take pos xs) (x ∷ [])) in
    let here : get_or (take pos xs ++ x ∷ []) pos x ≡ x = subst (λ (n : ℕ). get_or (take pos xs ++ x ∷ []) n x ≡ x) cut (get_or-append_seam (take pos xs) x [] x) in
    slice_get_read (take pos xs ++ x ∷ []) (pos + 1) pos x whole (omega arith) (sym here)

pub returns-in-Ok-flush-clause-kept : goal.returns-in-Ok-flush-clause-kept
returns-in-Ok-flush-clause-kept g c held image is below left =
    let drive = c.flush.new.self in
    let x : Item = item.Block c.args.bytes.now in
    let place = c.args.place in
    let count : c.commands.result ≡ g.D.Drive.commands drive = c.commands.ensures in
    let now : g.D.Drive.leaves drive image = g.met.D.Drive.only_now drive image (subst (λ (n : ℕ). n < 2 ^ 64 - 1) count below) (subst (λ (n : ℕ). g.D.Drive.left_since drive n image) count left) in
    let told = c.in-Ok-write.ensures.told place held c.in-Ok.ensures.head (c.in-Ok.ensures.held ∙ is) in
    let new : Cartridge = told.0 in
    let sure : IsSure (Some new) (g.D.Drive.leaves drive) = subst (λ (h : Option Cartridge). IsSure h (g.D.Drive.leaves drive)) (c.in-Ok-flush.ensures.held ∙ told.1) c.in-Ok-flush.ensures.sure in
    let within : place.pos ≤ length (items_of place.part held) = subst (λ (h : Option Cartridge). IfSome h (λ d. place.pos ≤ length (items_of place.part d))) is c.requires.within in
    ap (λ (d : Cartridge). item_at place d) (sure image now)
    ∙ ap (λ (l : List Item). slice_get l place.pos) told.2.items
    ∙ stands place.pos x (items_of place.part held) within

-- ---- what a crash may leave at any moment

flushed_within : (at : Place) (x : Item) (held now before mid image : Cartridge) → IsWritten at.part at.pos x held now
    → WithinWrite at.part at.pos x held before mid → WithinFlush now mid image → WithinDurably at.part at.pos x held before image
flushed_within at x held now before mid image is within (inl e) = inl (subst (λ (c : Cartridge). WithinWrite at.part at.pos x held before c) (sym e) within)
flushed_within at x held now before mid image is within (inr e) = inr (subst (λ (c : Cartridge). IsWritten at.part at.pos x held c) (sym e) is)

lost_crashes : (at : Place) (x : Item) (held : Cartridge) {m : ℕ} {leaves_a leaves_b : Cartridge → Type 0}
    {since_a since_b : ℕ → Cartridge → Type 0} → Crashes NothingNew m leaves_a leaves_b since_a since_b
    → Crashes (WithinDurably at.part at.pos x held) m leaves_a leaves_b since_a since_b
lost_crashes at x held first = alone (λ image. inl (write_same at.part at.pos x held image)) first

put_crashes : (at : Place) (x : Item) (held : Cartridge) {m n : ℕ} {leaves_a leaves_b leaves_c : Cartridge → Type 0}
    {since_a since_b since_c : ℕ → Cartridge → Type 0} → m ≤ n
    → Crashes NothingNew m leaves_a leaves_b since_a since_b
    → Crashes (WithinWrite at.part at.pos x held) n leaves_b leaves_c since_b since_c
    → Crashes (WithinWrite at.part at.pos x held) m leaves_a leaves_c since_a since_c
put_crashes at x held le first second = behind_looks (write_same at.part at.pos x held) le first second

flushed_crashes : (at : Place) (x : Item) (held now : Cartridge) {m n k : ℕ}
    {leaves_a leaves_b leaves_c leaves_d : Cartridge → Type 0}
    {since_a since_b since_c since_d : ℕ → Cartridge → Type 0} → IsWritten at.part at.pos x held now → m ≤ n → n ≤ k
    → Crashes NothingNew m leaves_a leaves_b since_a since_b
    → Crashes (WithinWrite at.part at.pos x held) n leaves_b leaves_c since_b since_c
    → Crashes (WithinFlush now) k leaves_c leaves_d since_c since_d
    → Crashes (WithinDurably at.part at.pos x held) m leaves_a leaves_d since_a since_d
flushed_crashes at x held now is le later first second third =
    joined (λ before image within. inl within) (λ before mid image within step. flushed_within at x held now before mid image is within step)
    (omega (arith, le, later)) (put_crashes at x held le first second) third

pub returns-in-Err-clause-any_moment : goal.returns-in-Err-clause-any_moment
returns-in-Err-clause-any_moment g c held is = lost_crashes c.args.place (item.Block c.args.bytes.now) held c.in-Err.ensures.crash

pub returns-in-Err-write-clause-any_moment : goal.returns-in-Err-write-clause-any_moment
returns-in-Err-write-clause-any_moment g c held is =
    widened (λ before image within. inl within)
    (put_crashes c.args.place (item.Block c.args.bytes.now) held c.in-Ok.ensures.command.count.later c.in-Ok.ensures.crash
    (c.in-Err-write.ensures.crash c.args.place held c.in-Ok.ensures.head (c.in-Ok.ensures.held ∙ is)))

pub returns-in-Ok-flush-clause-any_moment : goal.returns-in-Ok-flush-clause-any_moment
returns-in-Ok-flush-clause-any_moment g c held is =
    let told = c.in-Ok-write.ensures.told c.args.place held c.in-Ok.ensures.head (c.in-Ok.ensures.held ∙ is) in
    flushed_crashes c.args.place (item.Block c.args.bytes.now) held told.0 told.2 c.in-Ok.ensures.command.count.later c.in-Ok-write.ensures.command.count.later
    c.in-Ok.ensures.crash (c.in-Ok-write.ensures.crash c.args.place held c.in-Ok.ensures.head (c.in-Ok.ensures.held ∙ is))
    (c.in-Ok-flush.ensures.crash told.0 told.1)

pub returns-in-Err-flush-clause-any_moment : goal.returns-in-Err-flush-clause-any_moment
returns-in-Err-flush-clause-any_moment g c held is =
    let told = c.in-Ok-write.ensures.told c.args.place held c.in-Ok.ensures.head (c.in-Ok.ensures.held ∙ is) in
    flushed_crashes c.args.place (item.Block c.args.bytes.now) held told.0 told.2 c.in-Ok.ensures.command.count.later c.in-Ok-write.ensures.command.count.later
    c.in-Ok.ensures.crash (c.in-Ok-write.ensures.crash c.args.place held c.in-Ok.ensures.head (c.in-Ok.ensures.held ∙ is))
    (c.in-Err-flush.ensures.crash told.0 told.1)

-- ---- what may be left is allowed

pub write-requires-clause-allowed : goal.write-requires-clause-allowed
write-requires-clause-allowed g c at h is held before image may within =
    let same : at ≡ c.args.place = let e = c.in-Ok.ensures.head in cc in
    let first = c.in-Ok.ensures.crash.now before may in
    let step : WithinWrite c.args.place.part c.args.place.pos (item.Block c.args.bytes.now) h before image = subst (λ (p : Place). WithinWrite p.part p.pos (item.Block c.args.bytes.now) h before image) same within in
    c.requires.allowed h (sym c.in-Ok.ensures.held ∙ held) before image (subst (λ (d : Cartridge). g.D.Drive.leaves c.args.drive.now d) (sym first.2) first.1) (inl step)

flush_allowed : (place : Place) (x : Item) (first mid last : Option Cartridge) (leaves0 leaves1 leaves2 allows : Cartridge → Type 0)
    → mid ≡ first → (mid ≡ None → last ≡ None)
    → ((c : Cartridge) → mid ≡ Some c → (d : Cartridge) × (last ≡ Some d) × IsWritten place.part place.pos x c d)
    → ((c image : Cartridge) → mid ≡ Some c → leaves2 image → (before : Cartridge) × leaves1 before × WithinWrite place.part place.pos x c before image)
    → ((image : Cartridge) → leaves1 image → leaves0 image)
    → ((c : Cartridge) → first ≡ Some c → LeavesAllowed (WithinDurably place.part place.pos x c) leaves0 allows)
    → (h : Cartridge) → last ≡ Some h → LeavesAllowed (WithinFlush h) leaves2 allows
flush_allowed place x first None last leaves0 leaves1 leaves2 allows same untold told within back may h is before image left w =
    let none : last ≡ None = untold refl in absurd (cc)
flush_allowed place x first (Some c) last leaves0 leaves1 leaves2 allows same untold told within back may h is before image left w =
    let from = within c before refl left in
    let d = told c refl in
    let it : d.0 ≡ h = let a = d.1 in cc in
    may c (sym same) from.0 image (back from.0 from.1)
    (flushed_within place x c h from.0 before image (subst (λ (y : Cartridge). IsWritten place.part place.pos x c y) it d.2) from.2 w)

pub flush-requires : goal.flush-requires
flush-requires g c =
    let place = c.args.place in
    record {
      allowed = flush_allowed place (item.Block c.args.bytes.now) (g.D.Drive.held c.args.drive.now) (g.D.Drive.held c.locate.new.self)
          (g.D.Drive.held c.write.new.self) (g.D.Drive.leaves c.args.drive.now) (g.D.Drive.leaves c.locate.new.self) (g.D.Drive.leaves c.write.new.self)
          g.D.Drive.allows c.in-Ok.ensures.held c.in-Ok-write.ensures.untold
          (λ h is. c.in-Ok-write.ensures.told place h c.in-Ok.ensures.head is)
          (λ h image is left. (c.in-Ok-write.ensures.crash place h c.in-Ok.ensures.head is).now image left)
          (λ image left. let from = c.in-Ok.ensures.crash.now image left in subst (λ (d : Cartridge). g.D.Drive.leaves c.args.drive.now d) (sym from.2) from.1)
          c.requires.allowed;
    }
