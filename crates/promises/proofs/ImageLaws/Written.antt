-- How a cartridge reads after a write, done or failed.
use Rattle.std.proofs.Common.{◌≡◌, ◌⊎◌, ⊎_elim, inl, inr, ℕ, ◌≤◌, ◌++◌, List, [], ◌∷◌, take, length, Option, refl, sym, ap, subst, ◌∙◌, arith}
use Rattle.std.proofs.lemmas.List.{take-append-le, take_all}
use Rattle.tape_types.specs.declared.cartridges.Cartridge.{Cartridge}
use Rattle.tape_types.specs.declared.cartridges.Item.{Item}
use Rattle.tape_types.specs.declared.cartridges.Item.TheVariants.{Torn}
use Rattle.tape_types.specs.declared.cartridges.Part.{Part}
use Rattle.tape_types.specs.declared.cartridges.Part.TheVariants.{Ip, Dp}
use Rattle.tape_types.specs.Cartridges.{items_of}
use Rattle.content_laws.specs.Content.{content}
use Rattle.content_laws.specs.Ends.{end_ip}
use Rattle.content_laws.proofs.Grown.{content_torn}
use Rattle.tape_drive.specs.Commands.{IsBroken, IsCutShort, IsWritten, VcrRose}
use Rattle.tape_drive.specs.Crashes.{WithinWrite}
use Rattle.cartridge_meaning.specs.Pointers.{indexes_of}
use Rattle.promises.specs.ImageLaws.Images.{AreHonest, AreUpTo, IsDpImage, IsIpImage, IsSound, MayWrite}
use Rattle.promises.specs.ImageLaws.Kept.{ReadsAs}
use Rattle.promises.specs.ImageLaws.Made.{CoveredIndex, Made, Trees, Volume, or_last, part_items, put_on}
use Rattle.promises.proofs.ImageLaws.Fronts.{indexes_torn}
use Rattle.promises.proofs.ImageLaws.Images.{dp_torn, front_of_dp, honest_written, image_of, ip_torn, sure_within}

-- what a write leaves, done or failed, a crash within it could leave of what stood
written_within : (p : Part) (pos : ℕ) (x : Item) (old new : Cartridge) → IsWritten p pos x old new → WithinWrite p pos x old old new
written_within p pos x old new w = record { items = inr (inr w.items, w.vcr); rest = w.rest }

broken_within : (p : Part) (pos : ℕ) (x : Item) (old new : Cartridge) → IsBroken p pos old new → WithinWrite p pos x old old new
broken_within p pos x old new w = record {
  items = ⊎_elim
      (λ (same : (items_of p new ≡ items_of p old) × ((new.vcr ≡ old.vcr) ⊎ VcrRose old new)). inl same)
      (λ (cut : IsCutShort pos (items_of p old) (items_of p new) × VcrRose old new). inr (inl cut.0, cut.1))
      w.items;
  rest = w.rest;
}

-- the volume change reference doesn't fall
pub broken_vcr : (p : Part) (pos : ℕ) (old new : Cartridge) → IsBroken p pos old new → old.vcr ≤ new.vcr
broken_vcr p pos old new w =
    ⊎_elim
    (λ (same : (items_of p new ≡ items_of p old) × ((new.vcr ≡ old.vcr) ⊎ VcrRose old new)).
    ⊎_elim (λ (still : new.vcr ≡ old.vcr). omega (arith, still)) (λ (rose : VcrRose old new). omega (arith, rose.by_one)) same.1)
    (λ (cut : IsCutShort pos (items_of p old) (items_of p new) × VcrRose old new). omega (arith, cut.1.by_one))
    w.items

-- a list that begins with another, whole
front_of_more : (good more : List Item) → take (length good) (good ++ more) ≡ good
front_of_more good more = take-append-le (length good) good more (omega arith) ∙ take_all (length good) good (omega arith)

all_of : (good : List Item) → take (length good) good ≡ good
all_of good = take_all (length good) good (omega arith)

module _ (v : Volume) (t : Trees) (plan : Cartridge) (pos : ℕ) (x : Item) (s : Made) (held new : Cartridge)
    (reads : ReadsAs v t plan s held) (sound : IsSound v t plan s) (up : AreUpTo v held.vcr held) where
  -- what stands where the write begins
  front_is : (good old : List Item) → pos ≡ length good → take (length good) old ≡ good → take pos old ≡ good
  front_is good old at is = ap (λ (n : ℕ). take n old) at ∙ is

  item_put : (good old items : List Item) → pos ≡ length good → take (length good) old ≡ good → items ≡ take pos old ++ x ∷ [] → items ≡ good ++ x ∷ []
  item_put good old items at is e = e ∙ ap (λ (l : List Item). l ++ x ∷ []) (front_is good old at is)

  -- it was done
  pub written_reads : (p : Part) (whole : Option CoveredIndex) → pos ≡ length (part_items p s) → MayWrite p s.base → IsSound v t plan (put_on p x whole s)
      → IsWritten p pos x held new → ReadsAs v t plan (put_on p x whole s) new
  written_reads Ip whole at may then w =
      let is : new.ip ≡ s.ip ++ x ∷ [] = item_put s.ip held.ip new.ip at reads.ip w.items in
      let same : new.dp ≡ held.dp = w.rest.other_part in
      let honest = honest_written v Ip pos x held held new up reads.image.honest (written_within Ip pos x held new w) in
      record {
        ip = ap (λ (l : List Item). take (length (s.ip ++ x ∷ [])) l) is ∙ all_of (s.ip ++ x ∷ []);
        dp = ap (λ (l : List Item). take (length s.dp) l) same ∙ reads.dp;
        image = image_of v t plan s.base new reads.image.last (subst (λ (l : List Item). IsIpImage v plan s.base l) (sym is) (then.ip may))
            (subst (λ (l : List Item). IsDpImage v t plan s.base l reads.image.last) (sym same) reads.image.dp) honest;
        last_is = reads.last_is;
        no_more = ap indexes_of same ∙ reads.no_more;
        further = subst (λ (l : List Item). end_ip (content (s.ip ++ x ∷ [])) ≤ end_ip (content l)) (sym is) (omega arith);
      }
  written_reads Dp whole at may then w =
      let is : new.dp ≡ s.dp ++ x ∷ [] = item_put s.dp held.dp new.dp at reads.dp w.items in
      let same : new.ip ≡ held.ip = w.rest.other_part in
      let honest = honest_written v Dp pos x held held new up reads.image.honest (written_within Dp pos x held new w) in
      record {
        ip = ap (λ (l : List Item). take (length s.ip) l) same ∙ reads.ip;
        dp = ap (λ (l : List Item). take (length (s.dp ++ x ∷ [])) l) is ∙ all_of (s.dp ++ x ∷ []);
        image = image_of v t plan s.base new (or_last whole s.last) (subst (λ (l : List Item). IsIpImage v plan s.base l) (sym same) reads.image.ip)
            (subst (λ (l : List Item). IsDpImage v t plan s.base l (or_last whole s.last)) (sym is) then.dp) honest;
        last_is = refl;
        no_more = ap indexes_of is;
        further = subst (λ (l : List Item). end_ip (content s.ip) ≤ end_ip (content l)) (sym same) reads.further;
      }

  -- it failed, and left one partition like this
  on_ip : AreHonest v new → new.dp ≡ held.dp → IsIpImage v plan s.base new.ip → take (length s.ip) new.ip ≡ s.ip
      → end_ip (content s.ip) ≤ end_ip (content new.ip) → ReadsAs v t plan s new
  on_ip honest same image front further = record {
    ip = front;
    dp = ap (λ (l : List Item). take (length s.dp) l) same ∙ reads.dp;
    image = image_of v t plan s.base new reads.image.last image (subst (λ (l : List Item). IsDpImage v t plan s.base l reads.image.last) (sym same) reads.image.dp) honest;
    last_is = reads.last_is;
    no_more = ap indexes_of same ∙ reads.no_more;
    further = further;
  }

  on_dp : AreHonest v new → new.ip ≡ held.ip → (last : CoveredIndex) → IsDpImage v t plan s.base new.dp last → last ≡ s.last → take (length s.dp) new.dp ≡ s.dp
      → indexes_of new.dp ≡ indexes_of s.dp → ReadsAs v t plan s new
  on_dp honest same last image is front no_more = record {
    ip = ap (λ (l : List Item). take (length s.ip) l) same ∙ reads.ip;
    dp = front;
    image = image_of v t plan s.base new last (subst (λ (l : List Item). IsIpImage v plan s.base l) (sym same) reads.image.ip) image honest;
    last_is = is;
    no_more = no_more;
    further = subst (λ (l : List Item). end_ip (content s.ip) ≤ end_ip (content l)) (sym same) reads.further;
  }

  -- what is asked of a list at an end holds of the good part, and of it with a torn item
  ip_as : IsIpImage v plan s.base s.ip → (l : List Item) → (l ≡ s.ip) ⊎ (l ≡ s.ip ++ Torn ∷ [])
      → IsIpImage v plan s.base l × (take (length s.ip) l ≡ s.ip) × (end_ip (content s.ip) ≤ end_ip (content l))
  ip_as image l (inl e) = (
    subst (λ (k : List Item). IsIpImage v plan s.base k) (sym e) image,
    ap (λ (k : List Item). take (length s.ip) k) e ∙ all_of s.ip,
    subst (λ (k : List Item). end_ip (content s.ip) ≤ end_ip (content k)) (sym e) (omega arith),
  )
  ip_as image l (inr e) =
      let same : end_ip (content (s.ip ++ Torn ∷ [])) ≡ end_ip (content s.ip) = ap end_ip (content_torn s.ip) in (
        subst (λ (k : List Item). IsIpImage v plan s.base k) (sym e) (ip_torn v plan s.base s.ip (sure_within v t plan s.base sound.grounded s.ip image) image),
        ap (λ (k : List Item). take (length s.ip) k) e ∙ front_of_more s.ip (Torn ∷ []),
        subst (λ (k : List Item). end_ip (content s.ip) ≤ end_ip (content k)) (sym e) (omega (arith, same)),
      )

  dp_as : (l : List Item) → (l ≡ s.dp) ⊎ (l ≡ s.dp ++ Torn ∷ []) → IsDpImage v t plan s.base l s.last × (take (length s.dp) l ≡ s.dp) × (indexes_of l ≡ indexes_of s.dp)
  dp_as l (inl e) = (
    subst (λ (k : List Item). IsDpImage v t plan s.base k s.last) (sym e) sound.dp,
    ap (λ (k : List Item). take (length s.dp) k) e ∙ all_of s.dp,
    ap indexes_of e,
  )
  dp_as l (inr e) = (
    subst (λ (k : List Item). IsDpImage v t plan s.base k s.last) (sym e)
        (dp_torn v t plan s.base s.dp s.last (front_of_dp v t plan s.base sound.grounded s.dp s.last sound.dp) sound.dp),
    ap (λ (k : List Item). take (length s.dp) k) e ∙ front_of_more s.dp (Torn ∷ []),
    ap indexes_of e ∙ indexes_torn s.dp,
  )

  cut_short : (good old l : List Item) → pos ≡ length good → take (length good) old ≡ good → IsCutShort pos old l → (l ≡ good) ⊎ (l ≡ good ++ Torn ∷ [])
  cut_short good old l at is cut = subst (λ (g : List Item). (l ≡ g) ⊎ (l ≡ g ++ Torn ∷ [])) (front_is good old at is) cut

  -- a cartridge reads after a write that failed as what was made before
  pub broken_reads : (p : Part) → pos ≡ length (part_items p s) → MayWrite p s.base → IsBroken p pos held new → ReadsAs v t plan s new
  broken_reads Ip at may w =
      let same : new.dp ≡ held.dp = w.rest.other_part in
      let honest = honest_written v Ip pos x held held new up reads.image.honest (broken_within Ip pos x held new w) in
      ⊎_elim
      (λ (old : (new.ip ≡ held.ip) × ((new.vcr ≡ held.vcr) ⊎ VcrRose held new)).
      on_ip honest same (subst (λ (l : List Item). IsIpImage v plan s.base l) (sym old.0) reads.image.ip)
      (ap (λ (l : List Item). take (length s.ip) l) old.0 ∙ reads.ip)
      (subst (λ (l : List Item). end_ip (content s.ip) ≤ end_ip (content l)) (sym old.0) reads.further))
      (λ (cut : IsCutShort pos held.ip new.ip × VcrRose held new).
      let all = ip_as (sound.ip may) new.ip (cut_short s.ip held.ip new.ip at reads.ip cut.0) in
      on_ip honest same all.0 all.1 all.2)
      w.items
  broken_reads Dp at may w =
      let same : new.ip ≡ held.ip = w.rest.other_part in
      let honest = honest_written v Dp pos x held held new up reads.image.honest (broken_within Dp pos x held new w) in
      ⊎_elim
      (λ (old : (new.dp ≡ held.dp) × ((new.vcr ≡ held.vcr) ⊎ VcrRose held new)).
      on_dp honest same reads.image.last (subst (λ (l : List Item). IsDpImage v t plan s.base l reads.image.last) (sym old.0) reads.image.dp) reads.last_is
      (ap (λ (l : List Item). take (length s.dp) l) old.0 ∙ reads.dp)
      (ap indexes_of old.0 ∙ reads.no_more))
      (λ (cut : IsCutShort pos held.dp new.dp × VcrRose held new).
      let all = dp_as new.dp (cut_short s.dp held.dp new.dp at reads.dp cut.0) in
      on_dp honest same s.last all.0 refl all.1 all.2)
      w.items
