-- What a write leaves of the images that a crash may leave.
use Rattle.std.proofs.Common.{◌≡◌, ◌⊎◌, ⊎_elim, inl, inr, ℕ, ◌<◌, ◌≤◌, ◌++◌, List, [], ◌∷◌, take, length, Option, Some, refl, sym, ap, subst, ◌∙◌, arith}
use Rattle.std.proofs.lemmas.List.{take-append-le}
use Rattle.tape_drive.proofs.Exact.{same_cartridge}
use Rattle.tape_types.specs.declared.cartridges.Cartridge.{Cartridge}
use Rattle.tape_types.specs.declared.cartridges.Item.{Item}
use Rattle.tape_types.specs.declared.cartridges.Item.TheVariants.{Torn}
use Rattle.tape_types.specs.declared.cartridges.Part.{Part}
use Rattle.tape_types.specs.declared.cartridges.Part.TheVariants.{Ip, Dp}
use Rattle.tape_types.specs.Cartridges.{items_of, note_of, other}
use Rattle.coherency.specs.Notes.{HasValues}
use Rattle.content_laws.specs.Readings.{Construct, front}
use Rattle.content_laws.specs.Content.{Content}
use Rattle.content_laws.specs.Ends.{end_dp, end_ip}
use Rattle.content_laws.proofs.Grown.{content_torn}
use Rattle.content_laws.proofs.Whole.{front_within}
use Rattle.tape_drive.specs.Commands.{VcrRose}
use Rattle.tape_drive.specs.Crashes.{IsCut, WithinWrite}
use Rattle.cartridge_meaning.specs.Notes.{IsHonestNote}
use Rattle.cartridge_meaning.specs.Pointers.{IsLastOnDp, IsLastOnIp, indexes_of}
use Rattle.cartridge_meaning.proofs.Frame.{labels_stay}
use Rattle.promises.specs.ImageLaws.Images.{AreHonest, AreUpTo, Counts, IsDpImage, IsGrounded, IsImage, IsIpImage, IsSound, MayWrite}
use Rattle.promises.specs.ImageLaws.Made.{Base, CoveredIndex, Made, Trees, Volume, or_last, part_items, put_on}
use Rattle.promises.proofs.ImageLaws.Fronts.{end_within, form_torn, indexes_torn, long_dp, long_enough, one_torn}

-- ---- cartridges and their notes

same_note : (part : Part) (c d : Cartridge) → c.note_ip ≡ d.note_ip → c.note_dp ≡ d.note_dp → note_of part c ≡ note_of part d
same_note Ip c d ip dp = ip
same_note Dp c d ip dp = dp

-- notes that are carried over know no greater volume change reference
pub up_to_carried : (v : Volume) (vcr : ℕ) (c d : Cartridge) → c.note_ip ≡ d.note_ip → c.note_dp ≡ d.note_dp → AreUpTo v vcr d → AreUpTo v vcr c
up_to_carried v vcr c d ip dp up = λ part note has uuid. up part note (subst (λ n. HasValues n note) (same_note part c d ip dp) has) uuid

-- notes that know no greater reference than one know none greater than a later one
pub up_to_more : (v : Volume) (vcr more : ℕ) (c : Cartridge) → vcr ≤ more → AreUpTo v vcr c → AreUpTo v more c
up_to_more v vcr more c le up = λ part note has uuid. omega (arith, le, up part note has uuid)

-- a greater volume change reference than all notes know: no note claims anything
honest_note_above : (v : Volume) (vcr : ℕ) (c : Cartridge) (part : Part) → AreUpTo v vcr c → vcr < c.vcr → IsHonestNote c v.labels.ip part
honest_note_above v vcr c part up lt = record {
  not_ahead = λ note has uuid. omega (arith, up part note has uuid, lt);
  truthful = λ note has uuid same. absurd (omega (arith, up part note has uuid, lt, same));
}

honest_above : (v : Volume) (vcr : ℕ) (c : Cartridge) → AreUpTo v vcr c → vcr < c.vcr → AreHonest v c
honest_above v vcr c up lt = record { ip = honest_note_above v vcr c Ip up lt; dp = honest_note_above v vcr c Dp up lt }

same_parts : (p : Part) (c d : Cartridge) → items_of p c ≡ items_of p d → items_of (other p) c ≡ items_of (other p) d → (c.ip ≡ d.ip) × (c.dp ≡ d.dp)
same_parts Ip c d one two = (one, two)
same_parts Dp c d one two = (two, one)

-- the notes say nothing false of what a write leaves
pub honest_written : (v : Volume) (p : Part) (pos : ℕ) (x : Item) (held before c : Cartridge) → AreUpTo v held.vcr before → AreHonest v before
    → WithinWrite p pos x held before c → AreHonest v c
honest_written v p pos x held before c up honest w =
    ⊎_elim
    (λ (same : (items_of p c ≡ items_of p before) × ((c.vcr ≡ before.vcr) ⊎ VcrRose held c)).
    ⊎_elim
    (λ (still : c.vcr ≡ before.vcr).
    let parts = same_parts p c before same.0 w.rest.other_part in
    subst (λ (d : Cartridge). AreHonest v d) (sym (same_cartridge c before parts.0 parts.1 still w.rest.note_ip w.rest.note_dp)) honest)
    (λ (rose : VcrRose held c). above rose)
    same.1)
    (λ (cut : IsCut pos x (items_of p held) (items_of p c) × VcrRose held c). above cut.1)
    w.items
  where
    above : VcrRose held c → AreHonest v c
    above rose = honest_above v held.vcr c (up_to_carried v held.vcr c before w.rest.note_ip w.rest.note_dp up) (omega (arith, rose.by_one))

-- ---- a partition that is cut at its end

-- it ends there, or with a torn item, or with the item
abbrev pub EndsAt : List Item → Item → List Item → Type 0
EndsAt good x new = ((new ≡ good) ⊎ (new ≡ good ++ Torn ∷ [])) ⊎ (new ≡ good ++ x ∷ [])

cut_at : (pos : ℕ) (x : Item) (good old new : List Item) → pos ≡ length good → take (length good) old ≡ good → IsCut pos x old new → EndsAt good x new
cut_at pos x good old new at is cut =
    let front_is : take pos old ≡ good = ap (λ (n : ℕ). take n old) at ∙ is in
    subst (λ (l : List Item). EndsAt l x new) front_is cut

-- what holds of all three holds of it
at_ends : (Q : List Item → Type 0) (x : Item) (good new : List Item) → Q good → Q (good ++ Torn ∷ []) → Q (good ++ x ∷ []) → EndsAt good x new → Q new
at_ends Q x good new one two three (inl (inl e)) = subst Q (sym e) one
at_ends Q x good new one two three (inl (inr e)) = subst Q (sym e) two
at_ends Q x good new one two three (inr e) = subst Q (sym e) three

-- an index partition that a crash may leave may have a Torn at its end
pub ip_torn : (v : Volume) (plan : Cartridge) (b : Base) (ip : List Item) → b.sure ≤ length ip → IsIpImage v plan b ip → IsIpImage v plan b (ip ++ Torn ∷ [])
ip_torn v plan b ip le i = record {
  form = form_torn ip i.form;
  one = one_torn ip i.one;
  on_ip = i.on_ip;
  reads = subst (λ (ks : List Construct). IsLastOnIp v.labels.ip ks b.indexes (Some b.floor.index) i.on_ip) (sym (indexes_torn ip)) i.reads;
  behind = i.behind;
  agrees = take-append-le b.sure ip (Torn ∷ []) le ∙ i.agrees;
  further = subst (λ (s : Content). b.sure ≤ end_ip s) (sym (content_torn ip)) i.further;
}

-- a data partition that a crash may leave may have a Torn at its end
pub dp_torn : (v : Volume) (t : Trees) (plan : Cartridge) (b : Base) (dp : List Item) (last : CoveredIndex) → 4 ≤ length (front dp) → IsDpImage v t plan b dp last
    → IsDpImage v t plan b (dp ++ Torn ∷ []) last
dp_torn v t plan b dp last long d =
    let within = end_within dp long in
    record {
      labels = take-append-le 4 dp (Torn ∷ []) (omega (arith, long, front_within dp)) ∙ d.labels;
      form = form_torn dp d.form;
      more = d.more;
      split = indexes_torn dp ∙ d.split;
      reads = subst (λ (ks : List Construct). IsLastOnDp v.labels.ip ks (Some last.index)) (sym (indexes_torn dp)) d.reads;
      agrees =
          subst (λ (ks : List Construct). take (end_dp ks) (dp ++ Torn ∷ []) ≡ take (end_dp ks) plan.dp) (sym (indexes_torn dp))
          (take-append-le (end_dp (indexes_of dp)) dp (Torn ∷ []) within ∙ d.agrees);
      counts = subst (λ (ks : List Construct). Counts v t plan b (end_dp ks) d.more last) (sym (indexes_torn dp)) d.counts;
    }

-- ---- a write at the end of a partition

module _ (v : Volume) (t : Trees) (plan : Cartridge) (b : Base) (g : IsGrounded v t plan b) where
  -- an image reaches as far as what was flushed
  pub sure_within : (ip : List Item) → IsIpImage v plan b ip → b.sure ≤ length ip
  sure_within ip i = long_enough b.sure ip plan.ip i.agrees g.on_ip

  -- a data partition that a crash may leave has at least four items in its front
  pub front_of_dp : (dp : List Item) (last : CoveredIndex) → IsDpImage v t plan b dp last → 4 ≤ length (front dp)
  front_of_dp dp last d =
      let c : Cartridge = record { ip = plan.ip; dp = dp; vcr = plan.vcr; note_ip = plan.note_ip; note_dp = plan.note_dp } in
      long_dp c v.labels (labels_stay plan c v.labels refl (sym d.labels) g.labels)

  pub ip_ends : (x : Item) (good new : List Item) → IsIpImage v plan b good → IsIpImage v plan b (good ++ x ∷ []) → EndsAt good x new → IsIpImage v plan b new
  ip_ends x good new one then ends = at_ends (λ (l : List Item). IsIpImage v plan b l) x good new one (ip_torn v plan b good (sure_within good one) one) then ends

  pub dp_ends : (x : Item) (good new : List Item) (last next : CoveredIndex) → IsDpImage v t plan b good last → IsDpImage v t plan b (good ++ x ∷ []) next
      → EndsAt good x new → (e : CoveredIndex) × IsDpImage v t plan b new e
  dp_ends x good new last next one then ends =
      at_ends (λ (l : List Item). (e : CoveredIndex) × IsDpImage v t plan b l e) x good new (last, one) (last, dp_torn v t plan b good last (front_of_dp good last one) one) (next, then) ends

-- an image whose partitions are images, where its notes are honest
abbrev pub image_of : (v : Volume) (t : Trees) (plan : Cartridge) (b : Base) (c : Cartridge) (last : CoveredIndex) → IsIpImage v plan b c.ip → IsDpImage v t plan b c.dp last
    → AreHonest v c → IsImage v t plan b c
image_of v t plan b c last ip dp honest = record { ip = ip; last = last; dp = dp; honest = honest }

-- what a crash may leave within a write
pub written : (v : Volume) (t : Trees) (plan : Cartridge) (p : Part) (pos : ℕ) (x : Item) (whole : Option CoveredIndex) (s : Made) (held before c : Cartridge)
    → take (length s.ip) held.ip ≡ s.ip → take (length s.dp) held.dp ≡ s.dp → pos ≡ length (part_items p s) → MayWrite p s.base
    → IsSound v t plan s → IsSound v t plan (put_on p x whole s) → AreUpTo v held.vcr before → IsImage v t plan s.base before
    → WithinWrite p pos x held before c → IsImage v t plan s.base c
written v t plan Ip pos x whole s held before c ip dp at may sound then up image w =
    let on_dp = subst (λ (l : List Item). IsDpImage v t plan s.base l image.last) (sym w.rest.other_part) image.dp in
    let on_ip : IsIpImage v plan s.base c.ip =
    ⊎_elim
    (λ (same : (c.ip ≡ before.ip) × ((c.vcr ≡ before.vcr) ⊎ VcrRose held c)). subst (λ (l : List Item). IsIpImage v plan s.base l) (sym same.0) image.ip)
    (λ (cut : IsCut pos x held.ip c.ip × VcrRose held c). ip_ends v t plan s.base sound.grounded x s.ip c.ip (sound.ip may) (then.ip may) (cut_at pos x s.ip held.ip c.ip at ip cut.0))
    w.items in
    image_of v t plan s.base c image.last on_ip on_dp (honest_written v Ip pos x held before c up image.honest w)
written v t plan Dp pos x whole s held before c ip dp at may sound then up image w =
    let on_ip = subst (λ (l : List Item). IsIpImage v plan s.base l) (sym w.rest.other_part) image.ip in
    let on_dp : (e : CoveredIndex) × IsDpImage v t plan s.base c.dp e =
    ⊎_elim
    (λ (same : (c.dp ≡ before.dp) × ((c.vcr ≡ before.vcr) ⊎ VcrRose held c)). (image.last, subst (λ (l : List Item). IsDpImage v t plan s.base l image.last) (sym same.0) image.dp))
    (λ (cut : IsCut pos x held.dp c.dp × VcrRose held c).
    dp_ends v t plan s.base sound.grounded x s.dp c.dp s.last (or_last whole s.last) sound.dp then.dp (cut_at pos x s.dp held.dp c.dp at dp cut.0))
    w.items in
    image_of v t plan s.base c on_dp.0 on_ip on_dp.1 (honest_written v Dp pos x held before c up image.honest w)
