-- What is kept, over the notes of a close.
use Rattle.std.proofs.Common.{◌≡◌, ◌⊎◌, ⊎_elim, inl, inr, ℕ, ◌≤◌, List, Some, Result, Ok, Err, refl, sym, ap, subst, ◌∙◌, arith, take, length}
use Rattle.tape_drive.proofs.Exact.{same_cartridge}
use Rattle.tape_types.specs.declared.cartridges.Cartridge.{Cartridge}
use Rattle.tape_types.specs.declared.cartridges.Item.{Item}
use Rattle.tape_types.specs.declared.cartridges.Note.{Note}
use Rattle.tape_types.specs.declared.cartridges.Note.TheVariants.{Absent, Kept}
use Rattle.tape_types.specs.declared.cartridges.Part.{Part}
use Rattle.tape_types.specs.declared.cartridges.Part.TheVariants.{Ip, Dp}
use Rattle.tape_types.specs.Cartridges.{items_of, note_of, other}
use Rattle.session_script.specs.declared.logs.Ack.{Ack}
use Rattle.coherency.specs.Notes.{HasValues}
use Rattle.coherency.specs.declared.Coherency.{Coherency}
use Rattle.index_model.specs.declared.indexes.Index.{Index}
use Rattle.ltfs_label.specs.declared.Label.{Label}
use Rattle.content_laws.specs.Readings.{HasForm}
use Rattle.content_laws.specs.Content.{content}
use Rattle.content_laws.specs.Ends.{end_ip}
use Rattle.tape_drive.specs.Commands.{AfterNote, IsNoted}
use Rattle.tape_drive.specs.Crashes.{IsSettled, WithinNote}
use Rattle.cartridge_meaning.specs.Notes.{IsHonestNote, LastReads, TellsOfLast}
use Rattle.cartridge_meaning.specs.Pointers.{IsLastOnDp, IsLastOnIp, indexes_of, last_block}
use Rattle.promises.specs.ImageLaws.Images.{AreUpTo, IsDpImage, IsImage, IsIpImage}
use Rattle.promises.specs.ImageLaws.Kept.{HasNothingPending, IsStep, Moment, ReadsAs, Wait, plan_of}
use Rattle.promises.specs.ImageLaws.Kept as kept
use Rattle.promises.specs.ImageLaws.Made.{Job, Made, Trees, Volume}
use Rattle.promises.proofs.ImageLaws.Images.{image_of}
use Rattle.promises.specs.ImageLaws.Fine.{IsFine}
use Rattle.promises.specs.ImageLaws.Made.{least}
use Rattle.promises.proofs.ImageLaws.Fines.{fine}
use Rattle.promises.proofs.ImageLaws.Events.{step_kept}

-- ---- the values of a note

same_values : (note : Note) (x y : Coherency) → HasValues note x → HasValues note y
    → (x.vcr ≡ y.vcr) × (x.generation ≡ y.generation) × (x.block ≡ y.block) × (x.uuid ≡ y.uuid)
same_values Absent x y h k = absurd h
same_values (Kept note) x y h k = (
  h.vcr ∙ sym k.vcr,
  h.generation ∙ sym k.generation,
  h.block ∙ sym k.block,
  (let both : Some x.uuid ≡ Some y.uuid = sym h.uuid ∙ k.uuid in cc),
)

-- ---- what a note tells goes by the items of both partitions

last_as : (label : Label) (part : Part) (c d : Cartridge) → c.ip ≡ d.ip → c.dp ≡ d.dp → (x : Index) → LastReads label part d x → LastReads label part c x
last_as label Ip c d ip dp x h = (
  h.0,
  subst (λ (l : List Item). IsLastOnDp label (indexes_of l) h.0) (sym dp) h.1,
  subst (λ (l : List Item). IsLastOnIp label (indexes_of l) (indexes_of c.dp) h.0 (Some x)) (sym ip)
      (subst (λ (l : List Item). IsLastOnIp label (indexes_of d.ip) (indexes_of l) h.0 (Some x)) (sym dp) h.2),
)
last_as label Dp c d ip dp x h = subst (λ (l : List Item). IsLastOnDp label (indexes_of l) (Some x)) (sym dp) h

items_as : (part : Part) (c d : Cartridge) → c.ip ≡ d.ip → c.dp ≡ d.dp → items_of part c ≡ items_of part d
items_as Ip c d ip dp = ip
items_as Dp c d ip dp = dp

tells_as : (label : Label) (part : Part) (c d : Cartridge) (x y : Coherency) → c.ip ≡ d.ip → c.dp ≡ d.dp → y.generation ≡ x.generation → y.block ≡ x.block
    → TellsOfLast d label part x → TellsOfLast c label part y
tells_as label part c d x y ip dp generation block h = record {
  index = h.index;
  last = last_as label part c d ip dp h.index h.last;
  generation = generation ∙ h.generation;
  block = ap (λ (l : List Item). last_block (indexes_of l)) (items_as part c d ip dp) ∙ h.block ∙ ap (λ (n : ℕ). Some n) (sym block);
}

-- ---- an image in which one note is new

record IsWithNote (part : Part) (note : Note) (old new : Cartridge) : Type 0 where
  ip : new.ip ≡ old.ip
  dp : new.dp ≡ old.dp
  vcr : new.vcr ≡ old.vcr
  notes : (side : Part) → (note_of side new ≡ note_of side old) ⊎ ((side ≡ part) × (note_of side new ≡ note))

with_note : (part : Part) (note : Note) (old new : Cartridge) → IsNoted part note old new → IsWithNote part note old new
with_note part note old new h = record { ip = h.ip; dp = h.dp; vcr = h.vcr; notes = by part h.other_note h.written }
  where
    by : (p : Part) → note_of (other p) new ≡ note_of (other p) old → note_of p new ≡ note → (side : Part)
        → (note_of side new ≡ note_of side old) ⊎ ((side ≡ p) × (note_of side new ≡ note))
    by Ip others written Ip = inr (refl, written)
    by Ip others written Dp = inl others
    by Dp others written Ip = inl others
    by Dp others written Dp = inr (refl, written)

same_as : (part : Part) (note : Note) (old new : Cartridge) → new ≡ old → IsWithNote part note old new
same_as part note old new e = record {
  ip = ap (λ (c : Cartridge). c.ip) e;
  dp = ap (λ (c : Cartridge). c.dp) e;
  vcr = ap (λ (c : Cartridge). c.vcr) e;
  notes = λ side. inl (ap (note_of side) e);
}

module _ (v : Volume) (t : Trees) (plan : Cartridge) (s : Made) (held : Cartridge) (reads : ReadsAs v t plan s held) (up : AreUpTo v held.vcr held)
    (part : Part) (note : Note) (values : Coherency) (has : HasValues note values) (vcr : values.vcr ≡ held.vcr)
    (tells : TellsOfLast held v.labels.ip part values) where
  form_on : (side : Part) (c : Cartridge) → c.ip ≡ held.ip → c.dp ≡ held.dp → HasForm (items_of side c)
  form_on Ip c ip dp = subst HasForm (sym ip) reads.image.ip.form
  form_on Dp c ip dp = subst HasForm (sym dp) reads.image.dp.form

  honest_as : (side : Part) → IsHonestNote held v.labels.ip side
  honest_as Ip = reads.image.honest.ip
  honest_as Dp = reads.image.honest.dp

  honest_on : (side : Part) (c : Cartridge) → IsWithNote part note held c → IsHonestNote c v.labels.ip side
  honest_on side c w =
      ⊎_elim
      (λ (old : note_of side c ≡ note_of side held). record {
        not_ahead = λ x is uuid.
            let before = (honest_as side).not_ahead x (subst (λ (n : Note). HasValues n x) old is) uuid in
            omega (arith, before, w.vcr);
        truthful = λ x is uuid same. (
          form_on side c w.ip w.dp,
          tells_as v.labels.ip side c held x x w.ip w.dp refl refl
              ((honest_as side).truthful x (subst (λ (n : Note). HasValues n x) old is) uuid (same ∙ w.vcr)).1,
        );
      })
      (λ (new : (side ≡ part) × (note_of side c ≡ note)).
      let once = λ (x : Coherency) (is : HasValues (note_of side c) x). same_values note x values (subst (λ (n : Note). HasValues n x) new.1 is) has in
      record {
        not_ahead = λ x is uuid. omega (arith, (once x is).0, vcr, w.vcr);
        truthful = λ x is uuid same. (
          form_on side c w.ip w.dp,
          tells_as v.labels.ip side c held values x w.ip w.dp (once x is).1 (once x is).2
              (subst (λ (p : Part). TellsOfLast held v.labels.ip p values) (sym new.0) tells),
        );
      })
      (w.notes side)

  up_to_note : (c : Cartridge) → IsWithNote part note held c → AreUpTo v held.vcr c
  up_to_note c w = λ side x is uuid.
      ⊎_elim
      (λ (old : note_of side c ≡ note_of side held). up side x (subst (λ (n : Note). HasValues n x) old is) uuid)
      (λ (new : (side ≡ part) × (note_of side c ≡ note)).
      omega (arith, (same_values note x values (subst (λ (n : Note). HasValues n x) new.1 is) has).0, vcr))
      (w.notes side)

  noted_reads : (c : Cartridge) → IsWithNote part note held c → ReadsAs v t plan s c
  noted_reads c w = record {
    ip = ap (λ (l : List Item). take (length s.ip) l) w.ip ∙ reads.ip;
    dp = ap (λ (l : List Item). take (length s.dp) l) w.dp ∙ reads.dp;
    image = image_of v t plan s.base c reads.image.last (subst (λ (l : List Item). IsIpImage v plan s.base l) (sym w.ip) reads.image.ip)
        (subst (λ (l : List Item). IsDpImage v t plan s.base l reads.image.last) (sym w.dp) reads.image.dp)
        (record { ip = honest_on Ip c w; dp = honest_on Dp c w });
    last_is = reads.last_is;
    no_more = ap indexes_of w.dp ∙ reads.no_more;
    further = subst (λ (l : List Item). end_ip (content s.ip) ≤ end_ip (content l)) (sym w.ip) reads.further;
  }

-- how the cartridge reads after a note was to be written
abbrev pub IsNotedOrNot : Part → Note → Cartridge → Cartridge → Type 0
IsNotedOrNot part note old new = (new ≡ old) ⊎ IsNoted part note old new

noted_or_not : {T E : Type 0} (r : Result T E) (part : Part) (note : Note) (old new : Cartridge) → AfterNote r part note old new → IsNotedOrNot part note old new
noted_or_not (Ok x) part note old new h = inr h
noted_or_not (Err x) part note old new h = h

after_note : (part : Part) (note : Note) (old new : Cartridge) → IsNotedOrNot part note old new → IsWithNote part note old new
after_note part note old new h =
    ⊎_elim (λ (same : new ≡ old). same_as part note old new same) (λ (noted : IsNoted part note old new). with_note part note old new noted) h

module _ (d e : Moment) (sure : HasNothingPending d) (part : Part) (note : Note) (step : IsStep (WithinNote part note) d e) where
  -- from a cartridge as it reads
  within_note : (before c : Cartridge) → d.leaves before → WithinNote part note before c → IsWithNote part note d.held c
  within_note before c may w =
      let is : before ≡ d.held = sure before may in
      ⊎_elim
      (λ (same : c ≡ before). same_as part note d.held c (same ∙ is))
      (λ (noted : IsNoted part note before c). with_note part note d.held c (subst (λ (x : Cartridge). IsNoted part note x c) is noted))
      w

  -- where no earlier note comes back, nothing is pending again
  pub noted_sure : IsNoted part note d.held e.held → IsSettled (Some e.held) e.leaves → HasNothingPending e
  noted_sure now settled c may =
      let from = step.1.now c may in
      let w = within_note from.0 c from.1 from.2 in
      let state = settled c may in
      same_cartridge c e.held (w.ip ∙ sym now.ip) (w.dp ∙ sym now.dp) state.vcr state.note_ip state.note_dp

module _ (v : Volume) (t : Trees) (s : Made) (since : ℕ) (d e : Moment) (done : ℕ) (jobs : List Job) (waits : List Wait) (acks : List Ack)
    (k : kept.Kept v t s since d done jobs waits acks) (sure : HasNothingPending d)
    (part : Part) (note : Note) (values : Coherency) (has : HasValues note values) (vcr : values.vcr ≡ d.held.vcr)
    (tells : TellsOfLast d.held v.labels.ip part values) (step : IsStep (WithinNote part note) d e) where
  each_note : (before c : Cartridge) → d.leaves before → WithinNote part note before c → IsImage v t (plan_of s jobs) s.base c × AreUpTo v d.held.vcr c
  each_note before c may w =
      let n = within_note d e sure part note step before c may w in (
        (noted_reads v t (plan_of s jobs) s d.held k.reads k.notes part note values has vcr tells c n).image,
        up_to_note v t (plan_of s jobs) s d.held k.reads k.notes part note values has vcr tells c n,
      )

  -- what is kept stays kept when a note is written, or when that fails
  pub kept_noted : IsNotedOrNot part note d.held e.held → kept.Kept v t s since e done jobs waits acks
  kept_noted after =
      let w = after_note part note d.held e.held after in
      let plan = plan_of s jobs in
      let notes = up_to_note v t plan s d.held k.reads k.notes part note values has vcr tells e.held w in
      step_kept v t s since d done jobs waits acks k (WithinNote part note) e step each_note
      (noted_reads v t plan s d.held k.reads k.notes part note values has vcr tells e.held w)
      (omega (arith, w.vcr))
      (subst (λ (n : ℕ). AreUpTo v n e.held) (sym w.vcr) notes)

-- nothing has happened
stays : (part : Part) (note : Note) (d : Moment) → IsStep (WithinNote part note) d d
stays part note d = (
  omega arith,
  record {
    now = λ c may. (c, may, inl refl);
    since = λ n c le left. inl left;
    kept = λ n c le left. left;
  },
)

-- what a crash may leave within a note is fine, before that is asked for
pub note_may_leave : (v : Volume) (t : Trees) (s : Made) (since : ℕ) (d : Moment) (done : ℕ) (jobs : List Job) (waits : List Wait) (acks : List Ack)
    → kept.Kept v t s since d done jobs waits acks → HasNothingPending d
    → (part : Part) (note : Note) (values : Coherency) → HasValues note values → values.vcr ≡ d.held.vcr
    → TellsOfLast d.held v.labels.ip part values
    → (before c : Cartridge) → d.leaves before → WithinNote part note before c → IsFine v t (least s.base) c
note_may_leave v t s since d done jobs waits acks k sure part note values has vcr tells before c may w =
    fine v t (plan_of s jobs) s.base k.sound.grounded c
    (each_note v t s since d d done jobs waits acks k sure part note values has vcr tells (stays part note d) before c may w).0
