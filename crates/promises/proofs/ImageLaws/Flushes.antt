-- A flush: what was made up to it is what every crash leaves from then on.
use Rattle.std.proofs.Common.{ℕ, ◌≤◌, ◌<◌, ◌≡◌, ◌≢◌, ◌⊎◌, ⊎_elim, inl, inr, Bool, true, false, ltb, ltb-true, ltb-false, if◌then◌else◌, List, [], ◌∷◌, ◌++◌, length, take, Option, Some, None, refl, sym, ap, subst, ◌∙◌, arith, length-append}
use Rattle.std.proofs.lemmas.List.{take-append-le}
use Rattle.tape_types.specs.declared.cartridges.Cartridge.{Cartridge}
use Rattle.tape_types.specs.declared.cartridges.Item.{Item}
use Rattle.tape_types.specs.declared.cartridges.Item.TheVariants.{Block, Mark}
use Rattle.tape_types.specs.declared.cartridges.Part.{Part}
use Rattle.tape_types.specs.declared.cartridges.Part.TheVariants.{Ip, Dp}
use Rattle.tape_types.specs.declared.cartridges.Place.{Place}
use Rattle.index_model.specs.declared.indexes.Index.{Index}
use Rattle.content_laws.specs.Readings.{Construct}
use Rattle.content_laws.specs.Content.{Phase, content}
use Rattle.content_laws.specs.Ends.{end_dp, end_ip, end_ip_in}
use Rattle.content_laws.proofs.Placed.{end_ip_from, end_ip_within, pos_is}
use Rattle.content_laws.proofs.Whole.{front_within}
use Rattle.tape_layout.specs.declared.ops.Op.{Op}
use Rattle.tape_layout.specs.declared.ops.Op.TheVariants as ops
use Rattle.cartridge_meaning.specs.Pointers.{indexes_of}
use Rattle.cartridge_meaning.proofs.Frame.{nodes_further}
use Rattle.promises.specs.ImageLaws.Left.{IsLonger}
use Rattle.promises.specs.ImageLaws.Images.{AreSafe, Counts, IsBehind, IsGrounded, IsIpImage, IsSound, Tells}
use Rattle.promises.specs.ImageLaws.Made.{Base, CoveredIndex, Job, Made, Trees, Volume, after, cartridge_of, does, flushed, makes, newer_of, newest_entry, put_on, still_ahead}
use Rattle.promises.specs.ImageLaws.Plans.{IsReady}
use Rattle.promises.proofs.ImageLaws.Appends.{IsOpened, data_before, data_opened, form_of, ip_empty, opened_long}
use Rattle.promises.proofs.ImageLaws.Longer.{end_within, image_has_index}

-- ---- the index that is ahead

-- an index that is ahead is newer
abbrev pub IsAbove : CoveredIndex → Option CoveredIndex → Type 0
IsAbove floor None = Unit {0}
IsAbove floor (Some ahead) = floor.index.generation < ahead.index.generation

-- an index that is ahead is newer than what was flushed of the data partition
pub behind_above : (floor : CoveredIndex) (ahead : Option CoveredIndex) (on_ip : Option Index) → IsBehind floor ahead on_ip → IsAbove floor ahead
behind_above floor None on_ip h = tt
behind_above floor (Some a) on_ip h = h.1

abbrev IsPassed : CoveredIndex → CoveredIndex → Type 0
IsPassed last a = (a.index.generation < last.index.generation) × (still_ahead last (Some a) ≡ None)

abbrev IsStill : CoveredIndex → CoveredIndex → Type 0
IsStill last a = (last.index.generation ≤ a.index.generation) × (still_ahead last (Some a) ≡ Some a)

still_cases : (last a : CoveredIndex) → IsPassed last a ⊎ IsStill last a
still_cases last a = by_test (ltb a.index.generation last.index.generation) refl
  where
    by_test : (test : Bool) → ltb a.index.generation last.index.generation ≡ test → IsPassed last a ⊎ IsStill last a
    by_test true is =
        inl (ltb-true a.index.generation last.index.generation is, ap (λ (b : Bool). if b then None else Some a) is)
    by_test false is =
        inr (ltb-false a.index.generation last.index.generation is, ap (λ (b : Bool). if b then None else Some a) is)

-- the newest index of the data partition is the one that was flushed, or newer than all that was
abbrev pub IsSameOrNewer : CoveredIndex → Option CoveredIndex → CoveredIndex → Type 0
IsSameOrNewer floor ahead last = (last ≡ floor) ⊎ ((newer_of ahead floor).index.generation < last.index.generation)

above_flush : (floor last : CoveredIndex) (ahead : Option CoveredIndex) → IsAbove floor ahead → IsSameOrNewer floor ahead last → IsAbove last (still_ahead last ahead)
above_flush floor last None above h = tt
above_flush floor last (Some a) above h =
    ⊎_elim
    (λ (p : IsPassed last a). subst (λ (o : Option CoveredIndex). IsAbove last o) (sym p.1) tt)
    (λ (p : IsStill last a).
    let less : last.index.generation < a.index.generation =
    ⊎_elim
    (λ (same : last ≡ floor). omega (arith, above, ap (λ (e : CoveredIndex). e.index.generation) same))
    (λ (newer : a.index.generation < last.index.generation). absurd (omega (arith, newer, p.0)))
    h in
    subst (λ (o : Option CoveredIndex). IsAbove last o) (sym p.1) less)
    (still_cases last a)

-- a flush of the same index leaves the newest
pub newest_stays : (floor last : CoveredIndex) (ahead : Option CoveredIndex) → IsAbove floor ahead → last ≡ floor
    → newer_of (still_ahead last ahead) last ≡ newer_of ahead floor
newest_stays floor last None above same = same
newest_stays floor last (Some a) above same =
    ⊎_elim
    (λ (p : IsPassed last a). absurd (omega (arith, p.0, above, ap (λ (e : CoveredIndex). e.index.generation) same)))
    (λ (p : IsStill last a). ap (λ (o : Option CoveredIndex). newer_of o last) p.1)
    (still_cases last a)

-- after a flush an index that is still ahead is newer than the last one
pub flush_above : (s : Made) → IsAbove s.base.floor s.base.ahead → s.last ≡ s.base.floor → IsAbove s.last (still_ahead s.last s.base.ahead)
flush_above s above same = above_flush s.base.floor s.last s.base.ahead above (inl same)

-- behind a newer index none is ahead
pub none_ahead : (floor last : CoveredIndex) (ahead : Option CoveredIndex) → (newer_of ahead floor).index.generation < last.index.generation
    → still_ahead last ahead ≡ None
none_ahead floor last None less = refl
none_ahead floor last (Some a) less =
    ⊎_elim
    (λ (p : IsPassed last a). p.1)
    (λ (p : IsStill last a). absurd (omega (arith, p.0, less)))
    (still_cases last a)

counts_cases : (v : Volume) (t : Trees) (plan : Cartridge) (b : Base) (end : ℕ) (more : List Construct) (last : CoveredIndex) → Counts v t plan b end more last
    → IsSameOrNewer b.floor b.ahead last
counts_cases v t plan b end more last (inl h) = inl h.1
counts_cases v t plan b end more last (inr h) = inr h.0

above_put : (part : Part) (x : Item) (whole : Option CoveredIndex) (s : Made) → IsAbove s.base.floor s.base.ahead
    → IsAbove (put_on part x whole s).base.floor (put_on part x whole s).base.ahead
above_put Ip x whole s above = above
above_put Dp x whole s above = above

above_does : (v : Volume) (t : Trees) (plan : Cartridge) (op : Op) (whole : Option CoveredIndex) (s : Made) → IsSound v t plan s → IsAbove s.base.floor s.base.ahead
    → IsAbove (does op whole s).base.floor (does op whole s).base.ahead
above_does v t plan (ops.Put place bytes) whole s h above = above_put place.part (Block bytes) whole s above
above_does v t plan (ops.Mark place) whole s h above = above_put place.part Mark whole s above
above_does v t plan (ops.Flush place) whole s h above =
    above_flush s.base.floor s.last s.base.ahead above
    (counts_cases v t plan s.base (end_dp (indexes_of s.dp)) h.dp.more s.last h.dp.counts)

-- jobs leave an index that is ahead newer than what is flushed
pub above_after : (v : Volume) (t : Trees) (plan : Cartridge) (jobs : List Job) (s : Made) → IsSound v t plan s → AreSafe v t plan s jobs
    → IsAbove s.base.floor s.base.ahead → IsAbove (after s jobs).base.floor (after s jobs).base.ahead
above_after v t plan [] s sound safe above = above
above_after v t plan (job ∷ jobs) s sound safe above =
    above_after v t plan jobs (makes job s) safe.1 safe.2 (above_does v t plan job.op job.whole s sound above)

-- ---- what the flushed state tells

-- an index that names only blocks before some ends does so before later ends
pub tells_further : (v : Volume) (t : Trees) (plan : Cartridge) (ip dp ip2 dp2 : ℕ) (e : CoveredIndex) → ip ≤ ip2 → dp ≤ dp2
    → Tells v t plan ip dp e → Tells v t plan ip2 dp2 e
tells_further v t plan ip dp ip2 dp2 e le le2 h = record {
  facts = h.facts;
  within = nodes_further v.labels.ip ip dp ip2 dp2 le le2 e.index.nodes h.within;
  covered = h.covered;
  tree = h.tree;
}

-- the newest of what was flushed tells, or a newer index does
abbrev TellsNewest : Volume → Trees → Cartridge → (ip dp : ℕ) → CoveredIndex → Option CoveredIndex → CoveredIndex → Type 0
TellsNewest v t plan ip dp floor ahead last =
    ((last ≡ floor) × Tells v t plan ip dp (newer_of ahead floor))
    ⊎ (((newer_of ahead floor).index.generation < last.index.generation) × Tells v t plan ip dp last)

flush_tells : (v : Volume) (t : Trees) (plan : Cartridge) (ip dp : ℕ) (floor last : CoveredIndex) (ahead : Option CoveredIndex) → IsAbove floor ahead
    → TellsNewest v t plan ip dp floor ahead last → Tells v t plan ip dp (newer_of (still_ahead last ahead) last)
flush_tells v t plan ip dp floor last ahead above (inl h) =
    subst (λ (e : CoveredIndex). Tells v t plan ip dp e) (sym (newest_stays floor last ahead above h.0)) h.1
flush_tells v t plan ip dp floor last ahead above (inr h) =
    subst (λ (o : Option CoveredIndex). Tells v t plan ip dp (newer_of o last)) (sym (none_ahead floor last ahead h.0)) h.1

sound_tells : (v : Volume) (t : Trees) (plan : Cartridge) (b : Base) (ks more : List Construct) (last : CoveredIndex) → ks ≡ more ++ b.indexes → IsGrounded v t plan b
    → Counts v t plan b (end_dp ks) more last → TellsNewest v t plan b.sure (end_dp ks) b.floor b.ahead last
sound_tells v t plan b ks more last split g (inl h) =
    let same : ks ≡ b.indexes = split ∙ ap (λ (l : List Construct). l ++ b.indexes) h.0 in
    inl (h.1, subst (λ (l : List Construct). Tells v t plan b.sure (end_dp l) (newest_entry b)) (sym same) g.tells)
sound_tells v t plan b ks more last split g (inr h) = inr (h.0, h.2)

-- ---- a state that is flushed

-- what was made may be flushed: it is planned, and nothing of the index partition is lost
pub record CanFlush (plan : Cartridge) (s : Made) : Type 0 where
  pub above : IsAbove s.base.floor s.base.ahead
  pub longer : IsLonger (cartridge_of s) plan
  pub opened : IsOpened s.ip
  pub sure : s.base.sure ≤ end_ip (content s.ip)

end_long : (items : List Item) → IsOpened items → end_ip (content items) ≤ length items
end_long items o = omega (arith, end_ip_within items (opened_long items o), front_within items)

-- a flush of what may be flushed leaves it sound
pub flush_sound : (v : Volume) (t : Trees) (plan : Cartridge) (s : Made) (place : Place) → CanFlush plan s → IsSound v t plan s
    → ((flushed s).ahead ≡ None → IsIpImage v plan (flushed s) s.ip) → IsSound v t plan (does (ops.Flush place) None s)
flush_sound v t plan s place can h image =
    let has : indexes_of s.dp ≢ [] = image_has_index v t plan s.base s.dp s.last h.grounded.some h.dp in
    let tells = flush_tells v t plan s.base.sure (end_dp (indexes_of s.dp)) s.base.floor s.last s.base.ahead can.above
    (sound_tells v t plan s.base (indexes_of s.dp) h.dp.more s.last h.dp.split h.grounded h.dp.counts) in
    let long_ip : length s.ip ≤ length plan.ip =
    omega (arith, ap (λ (l : List Item). length l) can.longer.ip, length-append s.ip can.longer.more_ip) in
    let long_dp : length s.dp ≤ length plan.dp =
    omega (arith, ap (λ (l : List Item). length l) can.longer.dp, length-append s.dp can.longer.more_dp) in
    record {
      grounded = record {
        labels = h.grounded.labels;
        some = has;
        floor_reads = h.dp.reads;
        tells =
            tells_further v t plan s.base.sure (end_dp (indexes_of s.dp)) (end_ip (content s.ip)) (end_dp (indexes_of s.dp)) (newest_entry (flushed s)) can.sure (omega arith) tells;
        low = end_ip_from s.ip;
        on_ip = omega (arith, end_long s.ip can.opened, long_ip);
        on_dp = omega (arith, end_within s.dp has, long_dp);
      };
      dp = record {
        labels = h.dp.labels;
        form = h.dp.form;
        more = [];
        split = refl;
        reads = h.dp.reads;
        agrees = h.dp.agrees;
        counts = inl (refl, refl);
      };
      ip = image;
    }

-- with no index on the index partition
pub flush_free : (v : Volume) (t : Trees) (plan : Cartridge) (s : Made) (place : Place) → CanFlush plan s → indexes_of s.ip ≡ [] → IsSound v t plan s
    → IsSound v t plan (does (ops.Flush place) None s)
flush_free v t plan s place can free h =
    let end : ℕ = end_ip (content s.ip) in
    let agree : take end s.ip ≡ take end plan.ip =
    sym (take-append-le end s.ip can.longer.more_ip (end_long s.ip can.opened)) ∙ ap (λ (l : List Item). take end l) (sym can.longer.ip) in
    flush_sound v t plan s place can h
    (λ none. ip_empty v plan (flushed s) s.ip none (form_of s.ip can.opened.good) free agree (omega arith))

-- the end of an index partition without an index
pub end_ready : (items : List Item) → IsReady items → indexes_of items ≡ [] → end_ip (content items) ≡ length items
end_ready items r free =
    let o : IsOpened items = data_opened items r.since r.whole r.labels r.stage in
    ap (λ (phase : Phase). end_ip_in (content items).pos phase (indexes_of items)) r.stage
    ∙ data_before (content items).pos r.since (indexes_of items) free
    ∙ pos_is items (opened_long items o) o.good
    ∙ ap (λ (l : List Item). length l) r.whole

-- none is ahead from then on
none_put : (part : Part) (x : Item) (whole : Option CoveredIndex) (s : Made) → s.base.ahead ≡ None → (put_on part x whole s).base.ahead ≡ None
none_put Ip x whole s none = none
none_put Dp x whole s none = none

none_does : (op : Op) (whole : Option CoveredIndex) (s : Made) → s.base.ahead ≡ None → (does op whole s).base.ahead ≡ None
none_does (ops.Put place bytes) whole s none = none_put place.part (Block bytes) whole s none
none_does (ops.Mark place) whole s none = none_put place.part Mark whole s none
none_does (ops.Flush place) whole s none = ap (λ (o : Option CoveredIndex). still_ahead s.last o) none

-- where no index is ahead, none is after more jobs
pub none_stays : (jobs : List Job) (s : Made) → s.base.ahead ≡ None → (after s jobs).base.ahead ≡ None
none_stays [] s none = none
none_stays (job ∷ jobs) s none = none_stays jobs (makes job s) (none_does job.op job.whole s none)
