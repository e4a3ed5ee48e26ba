-- What stands behind the front of a partition.
use Rattle.std.proofs.Common.{ℕ, zero, suc, [], ◌∷◌, ◌+◌, ◌*◌, ◌≤◌, ◌≡◌, ◌≢◌, Bool, true, List, length, slice_get, Option, Some, None, Ok, refl, sym, ◌∙◌, ap, subst, arith}
use Rattle.std.specs.Prelude.{◌↔◌}
use Rattle.std.proofs.lemmas.Option.{slice_get_within}
use Rattle.tape_types.specs.declared.cartridges.Cartridge.{Cartridge}
use Rattle.tape_types.specs.declared.cartridges.Item.{Item}
use Rattle.tape_types.specs.declared.cartridges.Item.TheVariants.{Block, Mark, Torn}
use Rattle.tape_types.specs.declared.cartridges.Limits.{Limits}
use Rattle.tape_types.specs.declared.cartridges.Part.{Part}
use Rattle.tape_types.specs.declared.cartridges.Part.TheVariants.{Ip, Dp}
use Rattle.tape_types.specs.Cartridges.{FitsLimits, capacity, items_of}
use Rattle.tape_drive.specs.Commands.{IsRead}
use Rattle.tape_drive.specs.declared.drive.Got.{Got}
use Rattle.tape_drive.specs.declared.drive.Got.TheVariants as got
use Rattle.std.specs.Prelude.{IfSome, IsTrue}
use Rattle.tape_types.specs.declared.cartridges.Note.{Note}
use Rattle.tape_types.specs.declared.cartridges.Note.TheVariants.{Kept}
use Rattle.tape_types.specs.declared.cartridges.Place.{Place}
use Rattle.tape_drive.specs.Commands.{item_at}
use Rattle.tape_drive.specs.Looks.{Looks}
use Rattle.tape_drive.specs.declared.drive.Drive.{Ghosts}
use Rattle.tape_drive.proofs.Looking.{then_looks}
use Rattle.coherency.specs.Notes.{HasValues, IsNote}
use Rattle.coherency.specs.declared.Coherency.{Coherency}
use Rattle.content_laws.specs.Readings as readings
use Rattle.content_laws.specs.Ends.{end_dp}
use Rattle.content_laws.proofs.Placed.{end_dp_within}
use Rattle.cartridge_meaning.specs.Pointers.{indexes_of}
use Rattle.volume_scan.specs.declared.content.Construct.{Construct}
use Rattle.volume_scan.specs.declared.content.Content.{Content}
use Rattle.mount_recover.specs.Noted.{AreNotes}
use Rattle.mount_recover.specs.declared.choices.Choice.{Choice}
use Rattle.mount_recover.specs.declared.notes.Notes.{Notes}
use Rattle.mount_recover.specs.Lasts.{EndsAs, IsFront, IsSeen, TellsBoth, TellsStanding, newest, place_in, standing_of}
use Rattle.mount_recover.specs.Steps.{IsFree, IsSince, IsStep}
use Rattle.mount_recover.specs.declared.choices.Standing.{Standing}
use Rattle.mount_recover.specs.declared.lasts.LastIndex.{LastIndex}
use Rattle.mount_recover.specs.declared.starts.Start.{Start}
use Rattle.mount_recover.proofs.ChoiceLemmas.{place_is}
use Rattle.mount_recover.proofs.StepLemmas.{at_told, since_next}
use Rattle.content_laws.specs.Readings.{front}
use Rattle.content_laws.proofs.Whole.{front_within}

-- a partition has no more items than its capacity
pub fits_count : (c : Cartridge) (part : Part) (limits : Limits) → FitsLimits limits c → length (items_of part c) ≤ capacity part limits
fits_count c Ip limits fits = fits.ip.count
fits_count c Dp limits fits = fits.dp.count

-- a front that fills a partition is all of it
pub at_capacity : (c : Cartridge) (part : Part) (limits : Limits) (count : ℕ) → FitsLimits limits c → capacity part limits ≤ count
    → count ≡ length (front (items_of part c)) → length (items_of part c) ≡ count
at_capacity c part limits count fits le is = omega (arith, fits_count c part limits fits, le, is, front_within (items_of part c))

-- where no item stands there are none behind
pub past : (items : List Item) (count : ℕ) → slice_get items count ≡ None → length items ≤ count
past [] count is = omega arith
past (x ∷ items) zero is = absurd (cc is)
past (x ∷ items) (suc count) is = omega (arith, past items count is)

-- a read behind the front finds the end exactly where nothing stands there
at_front : (items : List Item) (count : ℕ) (x : Option Item) (answer : Got) (buf : List ℕ) → slice_get items count ≡ x → IsRead x answer buf
    → count ≡ length (front items) → (answer ≡ got.End) ↔ (length items ≡ count)
at_front items count None answer buf at read is = ((λ end. omega (arith, past items count at, is, front_within items)), λ all. read.0)
at_front items count (Some x) answer buf at read is =
    let below = slice_get_within items count x at in ((λ end. absurd (other x read end)), λ all. absurd (omega (arith, below, all)))
  where
    other : (x : Item) → IsRead (Some x) answer buf → answer ≡ got.End → ⊥
    other (Block b) read end = let bad : got.Block ≡ got.End = sym read.0 ∙ end in cc bad
    other Mark read end = let bad : got.Mark ≡ got.End = sym read.0 ∙ end in cc bad
    other Torn read end = let bad : got.Torn ≡ got.End = sym read.0 ∙ end in cc bad

-- a read behind the front
pub end_step : {D : Type 0} (drive : Ghosts D) (start : Start) (a b d : D) (part : Part) (count : ℕ) (told : Bool) (answer : Got) (buf : List ℕ)
    → IsSince drive start a → IfSome (drive.held a) (λ c. count ≡ length (front (items_of part c))) → Looks drive drive.MOST a b
    → drive.faults a ≤ drive.faults b → drive.head b ≡ Some (record { part = part; pos = count }) → Looks drive drive.MOST b d
    → drive.faults b ≤ drive.faults d
    → ((at : Place) (c : Cartridge) → drive.head b ≡ Some at → drive.held b ≡ Some c → IsRead (item_at at c) answer buf)
    → IsTrue told ↔ (answer ≡ got.End)
    → IsStep drive start 2 a d (λ yes c. (yes ≡ true) ↔ (length (items_of part c) ≡ count)) (λ yes. Unit {0}) IsFree (Ok told)
end_step drive start a b d part count told answer buf since fronts first later head second more item end =
    let looks = subst (λ (most : ℕ). Looks drive most a d) (twice drive.MOST) (then_looks drive drive.MOST drive.MOST a b d first second) in
    let now : start.faults ≤ drive.faults d = omega (arith, since.faults, later, more) in
    record {
      found = λ c h.
          let is = at_front (items_of part c) count (slice_get (items_of part c) count) answer buf refl
          (item (record { part = part; pos = count }) c head (first.held ∙ h)) (at_told (λ c. count ≡ length (front (items_of part c))) h fronts) in
          ((λ true_is. is.0 (end.0 true_is)), λ all. end.1 (is.1 all));
      any = tt;
      refused = tt;
      counts = record { later = now; told = tt };
      looks = looks;
      since = since_next drive start _ a d since looks now;
    }
  where
    twice : (k : ℕ) → k + k ≡ 2 * k
    twice k = omega arith

-- where the last index ends before the front does, the items don't end with it
pub ends_before : (items : List Item) (count : ℕ) (last : Option Standing) (s : Standing) → last ≡ Some s → IsFront items count last → s.place.after ≢ count
    → EndsAs items last → ⊥
ends_before items count last s is front_is differ ends =
    let all : length items ≡ s.place.after = subst (EndsAs items) is ends in
    let within : s.place.after ≤ count = subst (λ (o : Option Standing). IfSome o (λ s. s.place.after ≤ count)) is front_is.within in
    differ (omega (arith, all, within, front_is.count_is, front_within items))

-- a partition that was scanned has its front, within which the last index ends
pub front_of : (items : List Item) (found : Content) (last : Option LastIndex) (standing : Option Standing) → IsSeen items found
    → place_in last ≡ newest (indexes_of items) → standing ≡ standing_of last → IsFront items found.front standing
front_of items found last standing seen place kept = record {
  count_is = seen.front;
  within =
      subst (λ (o : Option Standing). IfSome o (λ s. s.place.after ≤ found.front)) (sym kept)
      (after_within last (indexes_of items) place (end_dp_within items seen.long));
}
  where
    after_within : (last : Option LastIndex) (ks : List readings.Construct) → place_in last ≡ newest ks → end_dp ks ≤ length (front items)
        → IfSome (standing_of last) (λ s. s.place.after ≤ found.front)
    after_within None ks is le = tt
    after_within (Some l) [] is le = absurd (cc is)
    after_within (Some l) (k ∷ older) is le = omega (arith, ap (λ (p : Construct). p.after) (place_is l k older is), le, seen.front)

-- a note that doesn't decode tells nothing
pub no_note : (note : Note) (bytes : List ℕ) (vcr uuid : ℕ) (last : Option Standing) → note ≡ Kept bytes
    → ((values : Coherency) → IsNote bytes values → ◌≡◌ {A = Option Coherency} None (Some values)) → TellsStanding note vcr uuid last → ⊥
no_note note bytes vcr uuid last is none t =
    let bad = none t.values (subst (λ (n : Note). HasValues n t.values) is t.has) in cc bad

-- the notes that were read are the cartridge's
pub tells_both : (c : Cartridge) (notes : Notes) (uuid : ℕ) (choice : Choice) (noted : Bool) → AreNotes notes c
    → IsTrue noted ↔ (TellsStanding notes.ip notes.vcr uuid choice.ip × TellsStanding notes.dp notes.vcr uuid choice.dp)
    → (noted ≡ true) ↔ TellsBoth c uuid choice.ip choice.dp
tells_both c notes uuid choice noted are is = (
  (λ yes.
      let both = is.0 yes in
      record { on_ip = told notes.ip c.note_ip choice.ip are.ip both.0; on_dp = told notes.dp c.note_dp choice.dp are.dp both.1 }),
  λ both. is.1 (back notes.ip c.note_ip choice.ip are.ip both.on_ip, back notes.dp c.note_dp choice.dp are.dp both.on_dp),
)
  where
    told : (read note : Note) (last : Option Standing) → read ≡ note → TellsStanding read notes.vcr uuid last → TellsStanding note c.vcr uuid last
    told read note last same tells =
        subst (λ (n : ℕ). TellsStanding note n uuid last) are.vcr (subst (λ (n : Note). TellsStanding n notes.vcr uuid last) same tells)

    back : (read note : Note) (last : Option Standing) → read ≡ note → TellsStanding note c.vcr uuid last → TellsStanding read notes.vcr uuid last
    back read note last same tells =
        subst (λ (n : ℕ). TellsStanding read n uuid last) (sym are.vcr) (subst (λ (n : Note). TellsStanding n c.vcr uuid last) (sym same) tells)
