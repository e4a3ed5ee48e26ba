-- A flush: what stands up to both ends is what a crash leaves from now on.
use Rattle.std.proofs.Common.{◌≡◌, ◌⊎◌, ⊎_elim, inl, inr, ℕ, ◌<◌, ◌≤◌, ◌++◌, Bool, true, false, ltb, if◌then◌else◌, List, [], take, length, Option, Some, None, refl, sym, ap, subst, ◌∙◌, arith}
use Rattle.std.specs.Prelude.{IfSome}
use Rattle.std.proofs.lemmas.Bool.{cases_lt}
use Rattle.std.proofs.lemmas.Bool.Decides.{nat_tests}
use Rattle.std.proofs.lemmas.List.{take-take}
use Rattle.tape_types.specs.declared.cartridges.Cartridge.{Cartridge}
use Rattle.tape_types.specs.declared.cartridges.Item.{Item}
use Rattle.tape_types.specs.declared.cartridges.Place.{Place}
use Rattle.tape_layout.specs.declared.ops.Op.TheVariants as ops
use Rattle.index_model.specs.declared.indexes.Index.{Index}
use Rattle.content_laws.specs.Readings.{Construct, front}
use Rattle.content_laws.specs.Content.{content}
use Rattle.content_laws.specs.Ends.{end_dp, end_ip}
use Rattle.content_laws.proofs.Placed.{end_ip_within}
use Rattle.content_laws.proofs.Whole.{front_within}
use Rattle.cartridge_meaning.specs.Pointers.{IsLastOnDp, IsLastOnIp, indexes_of}
use Rattle.promises.specs.ImageLaws.Images.{Counts, IsBehind, IsDpImage, IsGrounded, IsImage, IsIpImage}
use Rattle.promises.specs.ImageLaws.Kept.{ReadsAs}
use Rattle.promises.specs.ImageLaws.Made.{Base, CoveredIndex, Made, Trees, Volume, does, flushed, least, newer_of, still_ahead}
use Rattle.promises.proofs.ImageLaws.Fronts.{front_same, short_content}
use Rattle.promises.proofs.ImageLaws.Images.{image_of}
use Rattle.promises.proofs.ImageLaws.Pointing.{at_most, counts_point}

-- the last index is the one that was flushed, or newer than all that was, and covers no less
abbrev IsOn : CoveredIndex → Option CoveredIndex → CoveredIndex → Type 0
IsOn floor ahead last = (last ≡ floor) ⊎ (((newer_of ahead floor).index.generation < last.index.generation) × ((newer_of ahead floor).place ≤ last.place))

counts_on : (v : Volume) (t : Trees) (plan : Cartridge) (b : Base) (end : ℕ) (more : List Construct) (last : CoveredIndex) → Counts v t plan b end more last → IsOn b.floor b.ahead last
counts_on v t plan b end more last (inl same) = inl same.1
counts_on v t plan b end more last (inr newer) = inr (newer.0, newer.1)

-- the index of the index partition stays ahead, or is no longer newer
flush_behind : (floor last : CoveredIndex) (ahead : Option CoveredIndex) (on_ip : Option Index) → IsBehind floor ahead on_ip → IsOn floor ahead last
    → IsBehind last (still_ahead last ahead) on_ip
flush_behind floor last None on_ip h (inl same) = subst (λ (e : CoveredIndex). IsBehind e None on_ip) (sym same) h
flush_behind floor last None on_ip h (inr newer) = at_most on_ip floor.index.generation last.index.generation (omega (arith, newer.0)) h
flush_behind floor last (Some a) on_ip h on = by (ltb a.index.generation last.index.generation) refl on
  where
    by : (lt : Bool) → ltb a.index.generation last.index.generation ≡ lt → IsOn floor (Some a) last → IsBehind last (if lt then None else Some a) on_ip
    by true is on =
        let less : a.index.generation < last.index.generation = grind (arith, nat_tests) in
        subst (λ (o : Option Index). IfSome o (λ index. index.generation ≤ last.index.generation)) (sym h.0) (omega (arith, less))
    by false is (inl same) = (h.0, omega (arith, h.1, ap (λ (e : CoveredIndex). e.index.generation) same))
    by false is (inr newer) = absurd (let no : last.index.generation ≤ a.index.generation = grind (arith, nat_tests) in omega (arith, no, newer.0))

-- what is flushed then covers no less than what was flushed before
flush_covers : (floor last : CoveredIndex) (ahead : Option CoveredIndex) (on_ip : Option Index) → IsBehind floor ahead on_ip → IsOn floor ahead last
    → (newer_of ahead floor).place ≤ (newer_of (still_ahead last ahead) last).place
flush_covers floor last None on_ip h (inl same) = omega (arith, ap (λ (e : CoveredIndex). e.place) same)
flush_covers floor last None on_ip h (inr newer) = newer.1
flush_covers floor last (Some a) on_ip h on = by (ltb a.index.generation last.index.generation) refl on
  where
    by : (lt : Bool) → ltb a.index.generation last.index.generation ≡ lt → IsOn floor (Some a) last → a.place ≤ (newer_of (if lt then None else Some a) last).place
    by true is (inl same) =
        absurd (let less : a.index.generation < last.index.generation = grind (arith, nat_tests) in omega (arith, less, h.1, ap (λ (e : CoveredIndex). e.index.generation) same))
    by true is (inr newer) = newer.1
    by false is on = omega arith

module _ (v : Volume) (t : Trees) (plan : Cartridge) (s : Made) (held : Cartridge)
    (g : IsGrounded v t plan s.base) (reads : ReadsAs v t plan s held) (begins : (n : ℕ) → n ≤ length s.ip → take n s.ip ≡ take n plan.ip) where
  counted : Counts v t plan s.base (end_dp (indexes_of held.dp)) reads.image.dp.more s.last
  counted = subst (λ (e : CoveredIndex). Counts v t plan s.base (end_dp (indexes_of held.dp)) reads.image.dp.more e) reads.last_is reads.image.dp.counts

  on : IsOn s.base.floor s.base.ahead s.last
  on = counts_on v t plan s.base (end_dp (indexes_of held.dp)) reads.image.dp.more s.last counted

  -- a flush covers no fewer placements than the one before it
  pub flush_least : least s.base ≤ least (flushed s)
  flush_least = flush_covers s.base.floor s.last s.base.ahead reads.image.ip.on_ip reads.image.ip.behind on

  -- the index partition up to its end is as planned
  sure_agrees : take (end_ip (content s.ip)) held.ip ≡ take (end_ip (content s.ip)) plan.ip
  sure_agrees = ⊎_elim
      (λ (short : length (front s.ip) < 4).
      let none : 4 ≡ end_ip (content s.ip) = sym (ap end_ip (short_content s.ip short)) in
      subst (λ (n : ℕ). take n held.ip ≡ take n plan.ip) none (front_same 4 s.base.sure held.ip plan.ip g.low reads.image.ip.agrees))
      (λ (long : 4 ≤ length (front s.ip)).
      let within : end_ip (content s.ip) ≤ length s.ip = omega (arith, end_ip_within s.ip long, front_within s.ip) in
      sym (take-take (end_ip (content s.ip)) (length s.ip) held.ip within)
      ∙ ap (λ (l : List Item). take (end_ip (content s.ip)) l) reads.ip
      ∙ begins (end_ip (content s.ip)) within)
      (cases_lt (length (front s.ip)) 4)

  on_ip : IsIpImage v plan (flushed s) held.ip
  on_ip =
      let i = reads.image.ip in
      let d = reads.image.dp in
      let all : d.more ++ s.base.indexes ≡ indexes_of s.dp = sym d.split ∙ reads.no_more in
      record {
        form = i.form;
        one = i.one;
        on_ip = i.on_ip;
        reads = subst (λ (ks : List Construct). IsLastOnIp v.labels.ip (indexes_of held.ip) ks (Some s.last.index) i.on_ip) all
            (counts_point v t plan s.base (end_dp (indexes_of held.dp)) (indexes_of held.ip) d.more s.last i.on_ip g.some i.behind counted i.reads);
        behind = flush_behind s.base.floor s.last s.base.ahead i.on_ip i.behind on;
        agrees = sure_agrees;
        further = reads.further;
      }

  on_dp : IsDpImage v t plan (flushed s) held.dp s.last
  on_dp =
      let d = reads.image.dp in
      record {
        labels = d.labels;
        form = d.form;
        more = [];
        split = reads.no_more;
        reads = subst (λ (e : CoveredIndex). IsLastOnDp v.labels.ip (indexes_of held.dp) (Some e.index)) reads.last_is d.reads;
        agrees = d.agrees;
        counts = inl (refl, refl);
      }

  pub flush_image : IsImage v t plan (flushed s) held
  flush_image = image_of v t plan (flushed s) held s.last on_ip on_dp reads.image.honest

  -- a cartridge reads after a flush as it did before
  pub flush_reads : (place : Place) (whole : Option CoveredIndex) → ReadsAs v t plan (does (ops.Flush place) whole s) held
  flush_reads place whole = record {
    ip = reads.ip;
    dp = reads.dp;
    image = image_of v t plan (flushed s) held s.last on_ip on_dp reads.image.honest;
    last_is = refl;
    no_more = reads.no_more;
    further = reads.further;
  }
