-- The reference goes up before the header has it.
use Rattle.std.proofs.Common.{◌≡◌, ℕ, ◌+◌, ◌^◌, ◌<◌, ◌≤◌, ⊎_elim, inl, inr, Option, Some, Ok, refl, sym, ap, ◌∙◌, subst, arith}
use Rattle.tape_types.specs.Cartridges.{items_of}
use Rattle.tape_types.specs.declared.cartridges.Cartridge.{Cartridge}
use Rattle.tape_types.specs.declared.cartridges.Part.{Part}
use Rattle.tape_types.specs.declared.cartridges.Part.TheVariants.{Ip, Dp}
use Rattle.tape_types.specs.declared.cartridges.Place.{Place}
use Rattle.tape_drive.specs.Commands.{KeepsRest, VcrRose}
use Rattle.tape_drive.specs.Crashes.{WithinWrite}
use Rattle.byte_disk.specs.Files.{Files}
use Rattle.byte_disk.specs.declared.disk.ByteDisk.{Ghosts}
use Rattle.image_format.specs.declared.values.SlotValue.{SlotValue}
use Rattle.image_tape.specs.declared.doubt.Doubt.TheVariants.{Settled}
use Rattle.image_tape.specs.Halves.{with_vcr}
use Rattle.image_tape.specs.Tape.{Holds, IsKept, View, with_reference}
use Rattle.image_tape.specs.Writes.{IsUncounted, Rises}
use Rattle.image_tape.proofs.Opened.{whole}
use Rattle.image_tape.proofs.Rising.{uncounted_at}
use Rattle.image_tape.proofs.Shaping.{MayRead, held_shaped, kept_shaped, shaped}
use Rattle.image_tape.proofs.Telling.{held_is_whole, tells_of}
use Rattle.image_tape.proofs.Wholes.{none_held, untold_held}

abbrev held_as : Cartridge → Option Cartridge
held_as x = Some x

-- another reference changes no items
items_stay : (part : Part) (n : ℕ) (c : Cartridge) → (items_of part (with_reference n c) ≡ items_of part c) × KeepsRest part c (with_reference n c)
items_stay Ip n c = (refl, record { other_part = refl; note_ip = refl; note_dp = refl })
items_stay Dp n c = (refl, record { other_part = refl; note_ip = refl; note_dp = refl })

module _ {D : Type 0} (disk : Ghosts D) (v : View D) (kept : IsKept disk v) (settled : v.doubt ≡ Settled) (vcr : ℕ) (next : vcr ≡ v.reads.vcr + 1) (range : vcr < 2 ^ 64) where
  lag_reads : MayRead disk (with_vcr vcr v.reads) v.room v
  lag_reads d is =
      let st = (tells_of disk v kept settled d is).0 in
      record {
        ip = st.ip;
        dp = st.dp;
        in_ip = st.in_ip;
        in_dp = st.in_dp;
        agree = st.agree;
        vcr = omega (arith, st.vcr, next);
        note_ip = st.note_ip;
        note_dp = st.note_dp;
        fits_ip = st.fits_ip;
        fits_dp = st.fits_dp;
      }

  lag_holds : Holds v.room (with_vcr vcr v.reads)
  lag_holds = let h = kept.holds in record { ip = h.ip; dp = h.dp; fits_ip = h.fits_ip; fits_dp = h.fits_dp }

  abbrev pub lagging : View D
  lagging = shaped disk (with_vcr vcr v.reads) v.room v

  pub kept_lagging : IsKept disk lagging
  kept_lagging = kept_shaped disk v (with_vcr vcr v.reads) v.room kept settled lag_holds refl lag_reads

  whole_lagging : (d : Files) (is : disk.held v.slots.disk ≡ Some d)
      → whole (lag_reads d is) ≡ with_reference vcr (whole (tells_of disk v kept settled d is).0)
  unfolding lag_reads
  whole_lagging d is = refl

  risen : (c : Cartridge) → c.vcr ≡ v.reads.vcr → VcrRose c (with_reference vcr c)
  risen c is = record { by_one = omega (arith, is, next); in_range = omega (arith, range) }

  pub rises_lagging : {T E : Type 0} (u : T) (at : Place) → IsUncounted at v → Rises {T = T} {E = E} disk at (Ok u) v lagging
  rises_lagging u at uncounted = record {
    stays = record { limits = refl; faults = refl; opened = refl };
    count = record { later = omega arith; bound = omega arith };
    settled = settled;
    cut = λ d is. uncounted_at disk at v kept settled uncounted d is;
    untold = λ none. untold_held disk lagging (none_held disk v kept settled none);
    told = λ c held.
        let t = held_is_whole disk v kept settled c held in
        let same : whole (lag_reads t.0 t.1) ≡ with_reference vcr c = whole_lagging t.0 t.1 ∙ ap (λ (x : Cartridge). with_reference vcr x) (sym t.2) in
        let stay = items_stay at.part vcr c in (
          with_reference vcr c,
          held_shaped disk v (with_vcr vcr v.reads) v.room settled t.0 t.1 lag_reads ∙ ap (λ (x : Cartridge). held_as x) same,
          record { items = inl stay.0; vcr = risen c (ap (λ (x : Cartridge). x.vcr) t.2); rest = stay.1 },
        );
    at_end = λ c held most.
        let t = held_is_whole disk v kept settled c held in
        absurd (omega (arith, next, range, most, ap (λ (y : Cartridge). y.vcr) t.2));
    crash = λ x c held.
        let t = held_is_whole disk v kept settled c held in
        let number : c.vcr ≡ v.reads.vcr = ap (λ (y : Cartridge). y.vcr) t.2 in
        record {
          now = λ image h. (
            h.0,
            (h.0, h.1, inl refl),
            ⊎_elim
                (λ (it : image ≡ h.0). subst (λ (y : Cartridge). WithinWrite at.part at.pos x c h.0 y) (sym it)
                (record { items = inl (refl, inl refl); rest = record { other_part = refl; note_ip = refl; note_dp = refl } }))
                (λ (ahead : (h.0.vcr ≤ vcr) × (image ≡ with_reference vcr h.0)).
                let stay = items_stay at.part vcr h.0 in
                subst (λ (y : Cartridge). WithinWrite at.part at.pos x c h.0 y) (sym ahead.1) (record {
                  items = inl (stay.0, inr (record { by_one = omega (arith, number, next); in_range = omega (arith, range) }));
                  rest = stay.1;
                }))
                h.2,
          );
          since = λ k image reached h. inl h;
          kept = λ k image reached h. h;
        };
  }

-- where the position isn't counted, the reference goes up before the header has it
pub lags : {D T E : Type 0} (disk : Ghosts D) (v w : View D) (kept : IsKept disk v) (reads : SlotValue) (at : Place) (u : T) → v ≡ w → w.doubt ≡ Settled
    → (vcr : ℕ) → vcr ≡ v.reads.vcr + 1 → vcr < 2 ^ 64 → reads ≡ with_vcr vcr v.reads → IsUncounted at w
    → IsKept disk (shaped disk reads v.room v) × Rises {T = T} {E = E} disk at (Ok u) w (shaped disk reads v.room v)
lags {D = D} {T = T} {E = E} disk v w kept reads at u is settled_w vcr next range er uncounted =
    let settled : v.doubt ≡ Settled = ap (λ (x : View D). x.doubt) is ∙ settled_w in
    let at_v : IsUncounted at v = subst (λ (x : View D). IsUncounted at x) (sym is) uncounted in (
      subst (λ (s : SlotValue). IsKept disk (shaped disk s v.room v)) (sym er) (kept_lagging disk v kept settled vcr next range),
      subst (λ (x : View D). Rises {T = T} {E = E} disk at (Ok u) x (shaped disk reads v.room v)) is
          (subst (λ (s : SlotValue). Rises {T = T} {E = E} disk at (Ok u) v (shaped disk s v.room v)) (sym er) (rises_lagging disk v kept settled vcr next range u at at_v)),
    )
