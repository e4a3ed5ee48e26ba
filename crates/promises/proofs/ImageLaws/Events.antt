-- What is kept, over each step of a drive.
use Rattle.std.proofs.Common.{◌≡◌, ◌⊎◌, ⊎_elim, inl, inr, ℕ, ◌+◌, ◌≤◌, List, [], ◌∷◌, take, length, Option, refl, sym, ap, subst, ◌∙◌, arith, length-append}
use Rattle.std.proofs.lemmas.List.{take-append-le}
use Rattle.std.specs.List.{AllByRecursion}
use Rattle.tape_types.specs.declared.cartridges.Cartridge.{Cartridge}
use Rattle.tape_types.specs.declared.cartridges.Item.{Item}
use Rattle.tape_types.specs.declared.cartridges.Item.TheVariants.{Block, Mark}
use Rattle.tape_types.specs.declared.cartridges.Part.{Part}
use Rattle.tape_types.specs.declared.cartridges.Part.TheVariants.{Ip, Dp}
use Rattle.session_script.specs.declared.logs.Ack.{Ack}
use Rattle.tape_drive.specs.Crashes.{NothingNew, WithinFlush}
use Rattle.tape_layout.specs.declared.ops.Op.{Op}
use Rattle.tape_layout.specs.declared.ops.Op.TheVariants as ops
use Rattle.promises.specs.ImageLaws.Events.{IsDone, IsFailed, Within}
use Rattle.promises.specs.ImageLaws.Fine.{IsFine}
use Rattle.promises.specs.ImageLaws.Images.{AreHonest, AreUpTo, IsGrounded, IsImage, IsNext, IsSound}
use Rattle.promises.specs.ImageLaws.Kept.{IsHeld, IsStep, IsSureAfter, Kept, Moment, ReadsAs, Wait, plan_of}
use Rattle.promises.specs.ImageLaws.Made.{Base, CoveredIndex, Job, Made, Trees, Volume, after, does, least, makes, put_on}
use Rattle.promises.proofs.ImageLaws.Acks.{held_on, waiting_on}
use Rattle.promises.proofs.ImageLaws.Fines.{fine, weaker}
use Rattle.promises.proofs.ImageLaws.Flushed.{flush_least, flush_reads}
use Rattle.promises.proofs.ImageLaws.Images.{up_to_carried, up_to_more, written}
use Rattle.promises.proofs.ImageLaws.Written.{broken_reads, broken_vcr, written_reads}

-- ---- what jobs leave in front

put_front : (p : Part) (x : Item) (whole : Option CoveredIndex) (s : Made) (n : ℕ) → n ≤ length s.ip
    → (n ≤ length (put_on p x whole s).ip) × (take n (put_on p x whole s).ip ≡ take n s.ip)
put_front Ip x whole s n le = (omega (arith, le, length-append s.ip (x ∷ [])), take-append-le n s.ip (x ∷ []) le)
put_front Dp x whole s n le = (le, refl)

does_front : (op : Op) (whole : Option CoveredIndex) (s : Made) (n : ℕ) → n ≤ length s.ip → (n ≤ length (does op whole s).ip) × (take n (does op whole s).ip ≡ take n s.ip)
does_front (ops.Put place bytes) whole s n le = put_front place.part (Block bytes) whole s n le
does_front (ops.Mark place) whole s n le = put_front place.part Mark whole s n le
does_front (ops.Flush place) whole s n le = (le, refl)

front_after : (jobs : List Job) (s : Made) (n : ℕ) → n ≤ length s.ip → take n (after s jobs).ip ≡ take n s.ip
front_after [] s n le = refl
front_after (job ∷ jobs) s n le =
    let one = does_front job.op job.whole s n le in
    front_after jobs (makes job s) n one.0 ∙ one.1

put_base : (p : Part) (x : Item) (whole : Option CoveredIndex) (s : Made) → (put_on p x whole s).base ≡ s.base
put_base Ip x whole s = refl
put_base Dp x whole s = refl

-- ---- one op

module _ (v : Volume) (t : Trees) (plan : Cartridge) (whole : Option CoveredIndex) (s : Made) (held : Cartridge) where
  -- honest notes know no greater reference than their cartridge has
  held_up : AreHonest v held → AreUpTo v held.vcr held
  held_up honest Ip note has same = honest.ip.not_ahead note has same
  held_up honest Dp note has same = honest.dp.not_ahead note has same

  -- what a crash may leave within it
  pub within_image : (op : Op) → IsNext op s → ReadsAs v t plan s held → IsSound v t plan s → IsSound v t plan (does op whole s)
      → (before c : Cartridge) → IsImage v t plan s.base before → AreUpTo v held.vcr before → Within op held before c
      → IsImage v t plan s.base c × AreUpTo v held.vcr c
  within_image (ops.Put place bytes) next reads sound then before c image up w = (
    written v t plan place.part place.pos (Block bytes) whole s held before c reads.ip reads.dp next.0 next.1 sound then up image w,
    up_to_carried v held.vcr c before w.rest.note_ip w.rest.note_dp up,
  )
  within_image (ops.Mark place) next reads sound then before c image up w = (
    written v t plan place.part place.pos Mark whole s held before c reads.ip reads.dp next.0 next.1 sound then up image w,
    up_to_carried v held.vcr c before w.rest.note_ip w.rest.note_dp up,
  )
  within_image (ops.Flush place) next reads sound then before c image up (inl w) = (
    subst (λ (d : Cartridge). IsImage v t plan s.base d) (sym w) image,
    subst (λ (d : Cartridge). AreUpTo v held.vcr d) (sym w) up,
  )
  within_image (ops.Flush place) next reads sound then before c image up (inr w) = (
    subst (λ (d : Cartridge). IsImage v t plan s.base d) (sym w) reads.image,
    subst (λ (d : Cartridge). AreUpTo v held.vcr d) (sym w) (held_up reads.image.honest),
  )

  -- how the cartridge reads once it is done
  pub done_reads : (op : Op) (new : Cartridge) → IsNext op s → ReadsAs v t plan s held → IsSound v t plan s → IsSound v t plan (does op whole s)
      → AreUpTo v held.vcr held → ((n : ℕ) → n ≤ length s.ip → take n s.ip ≡ take n plan.ip) → IsDone op held new → ReadsAs v t plan (does op whole s) new
  done_reads (ops.Put place bytes) new next reads sound then up begins is =
      written_reads v t plan place.pos (Block bytes) s held new reads sound up place.part whole next.0 next.1 then is
  done_reads (ops.Mark place) new next reads sound then up begins is =
      written_reads v t plan place.pos Mark s held new reads sound up place.part whole next.0 next.1 then is
  done_reads (ops.Flush place) new next reads sound then up begins is =
      subst (λ (d : Cartridge). ReadsAs v t plan (does (ops.Flush place) whole s) d) (sym is) (flush_reads v t plan s held sound.grounded reads begins place whole)

  pub failed_reads : (op : Op) (new : Cartridge) → IsNext op s → ReadsAs v t plan s held → IsSound v t plan s → AreUpTo v held.vcr held → IsFailed op held new
      → ReadsAs v t plan s new
  failed_reads (ops.Put place bytes) new next reads sound up is = broken_reads v t plan place.pos (Block bytes) s held new reads sound up place.part next.0 next.1 is
  failed_reads (ops.Mark place) new next reads sound up is = broken_reads v t plan place.pos Mark s held new reads sound up place.part next.0 next.1 is
  failed_reads (ops.Flush place) new next reads sound up is = subst (λ (d : Cartridge). ReadsAs v t plan s d) (sym is) reads

  -- the volume change reference doesn't fall
  pub done_vcr : (op : Op) (new : Cartridge) → IsDone op held new → held.vcr ≤ new.vcr
  done_vcr (ops.Put place bytes) new is = omega (arith, is.vcr.by_one)
  done_vcr (ops.Mark place) new is = omega (arith, is.vcr.by_one)
  done_vcr (ops.Flush place) new is = omega (arith, ap (λ (c : Cartridge). c.vcr) is)

  pub failed_vcr : (op : Op) (new : Cartridge) → IsFailed op held new → held.vcr ≤ new.vcr
  failed_vcr (ops.Put place bytes) new is = broken_vcr place.part place.pos held new is
  failed_vcr (ops.Mark place) new is = broken_vcr place.part place.pos held new is
  failed_vcr (ops.Flush place) new is = omega (arith, ap (λ (c : Cartridge). c.vcr) is)

  -- the notes stay
  pub done_notes : (op : Op) (new : Cartridge) → IsDone op held new → AreUpTo v held.vcr held → AreUpTo v held.vcr new
  done_notes (ops.Put place bytes) new is up = up_to_carried v held.vcr new held is.rest.note_ip is.rest.note_dp up
  done_notes (ops.Mark place) new is up = up_to_carried v held.vcr new held is.rest.note_ip is.rest.note_dp up
  done_notes (ops.Flush place) new is up = subst (λ (d : Cartridge). AreUpTo v held.vcr d) (sym is) up

  pub failed_notes : (op : Op) (new : Cartridge) → IsFailed op held new → AreUpTo v held.vcr held → AreUpTo v held.vcr new
  failed_notes (ops.Put place bytes) new is up = up_to_carried v held.vcr new held is.rest.note_ip is.rest.note_dp up
  failed_notes (ops.Mark place) new is up = up_to_carried v held.vcr new held is.rest.note_ip is.rest.note_dp up
  failed_notes (ops.Flush place) new is up = subst (λ (d : Cartridge). AreUpTo v held.vcr d) (sym is) up

  -- what is flushed covers no less
  pub done_least : (op : Op) → IsGrounded v t plan s.base → ReadsAs v t plan s held → ((n : ℕ) → n ≤ length s.ip → take n s.ip ≡ take n plan.ip)
      → least s.base ≤ least (does op whole s).base
  done_least (ops.Put place bytes) grounded reads begins = omega (arith, ap least (put_base place.part (Block bytes) whole s))
  done_least (ops.Mark place) grounded reads begins = omega (arith, ap least (put_base place.part Mark whole s))
  done_least (ops.Flush place) grounded reads begins = flush_least v t plan s held grounded reads begins

  -- the images behind it
  pub done_images : (op : Op) (e : Moment) → ReadsAs v t plan (does op whole s) e.held → AreUpTo v e.held.vcr e.held → IsSureAfter op e
      → ((c : Cartridge) → e.leaves c → IsImage v t plan s.base c × AreUpTo v e.held.vcr c)
      → (c : Cartridge) → e.leaves c → IsImage v t plan (does op whole s).base c × AreUpTo v e.held.vcr c
  done_images (ops.Put place bytes) e reads up sure images c may =
      let i = images c may in (subst (λ (b : Base). IsImage v t plan b c) (sym (put_base place.part (Block bytes) whole s)) i.0, i.1)
  done_images (ops.Mark place) e reads up sure images c may =
      let i = images c may in (subst (λ (b : Base). IsImage v t plan b c) (sym (put_base place.part Mark whole s)) i.0, i.1)
  done_images (ops.Flush place) e reads up sure images c may = (
    subst (λ (d : Cartridge). IsImage v t plan (does (ops.Flush place) whole s).base d) (sym (sure c may)) reads.image,
    subst (λ (d : Cartridge). AreUpTo v e.held.vcr d) (sym (sure c may)) up,
  )

-- ---- over a step of which each image is one

module _ (v : Volume) (t : Trees) (s : Made) (since : ℕ) (d : Moment) (done : ℕ) (jobs : List Job) (waits : List Wait) (acks : List Ack)
    (k : Kept v t s since d done jobs waits acks) (step : Cartridge → Cartridge → Type 0) (e : Moment) (is : IsStep step d e)
    (each : (before c : Cartridge) → d.leaves before → step before c → IsImage v t (plan_of s jobs) s.base c × AreUpTo v d.held.vcr c) where
  step_images : (c : Cartridge) → e.leaves c → IsImage v t (plan_of s jobs) s.base c × AreUpTo v d.held.vcr c
  step_images c may = let from = is.1.now c may in each from.0 c from.1 from.2

  pub step_later : (vcr : ℕ) → d.held.vcr ≤ vcr → (c : Cartridge) → e.leaves c → IsImage v t (plan_of s jobs) s.base c × AreUpTo v vcr c
  step_later vcr le c may = let i = step_images c may in (i.0, up_to_more v d.held.vcr vcr c le i.1)

  step_left : (n : ℕ) (c : Cartridge) → n ≤ d.commands → e.left n c → d.left n c ⊎ IsFine v t (least s.base) c
  step_left n c le left =
      ⊎_elim
      (λ (old : d.left n c). inl old)
      (λ (new : (before : Cartridge) × d.leaves before × step before c).
      inr (fine v t (plan_of s jobs) s.base k.sound.grounded c (each new.0 c new.1 new.2).0))
      (is.1.since n c le left)

  pub step_begun : since ≤ e.commands
  step_begun = omega (arith, k.begun, is.0)

  pub step_always : (c : Cartridge) → e.left since c → IsFine v t 0 c
  step_always c left =
      ⊎_elim
      (λ (old : d.left since c). k.always c old)
      (λ (new : IsFine v t (least s.base) c). weaker v t 0 (least s.base) c (omega arith) new)
      (step_left since c k.begun left)

  pub step_acked : (b : Base) → least s.base ≤ least b → AllByRecursion (IsHeld v t b e) acks
  step_acked b more = held_on v t s.base b d e is.0 more step_left acks k.acked

  -- where the cartridge reads as what was made, and nothing was done
  pub step_kept : ReadsAs v t (plan_of s jobs) s e.held → d.held.vcr ≤ e.held.vcr → AreUpTo v e.held.vcr e.held → Kept v t s since e done jobs waits acks
  step_kept reads vcr notes = record {
    reads = reads;
    sound = k.sound;
    safe = k.safe;
    notes = notes;
    images = step_later e.held.vcr vcr;
    begun = step_begun;
    always = step_always;
    waiting = k.waiting;
    acked = step_acked s.base (omega arith);
  }

-- ---- the events

module _ (v : Volume) (t : Trees) (s : Made) (since : ℕ) (d e : Moment) (done : ℕ) (job : Job) (jobs : List Job) (waits : List Wait) (acks : List Ack)
    (k : Kept v t s since d done (job ∷ jobs) waits acks) (step : IsStep (Within job.op d.held) d e) where
  each_within : (before c : Cartridge) → d.leaves before → Within job.op d.held before c → IsImage v t (plan_of s (job ∷ jobs)) s.base c × AreUpTo v d.held.vcr c
  each_within before c may w =
      let i = k.images before may in
      within_image v t (plan_of s (job ∷ jobs)) job.whole s d.held job.op k.safe.0 k.reads k.sound k.safe.1 before c i.0 i.1 w

  begins : (n : ℕ) → n ≤ length s.ip → take n s.ip ≡ take n (plan_of s (job ∷ jobs)).ip
  begins n le = sym (front_after (job ∷ jobs) s n le)

  -- an op is done
  pub kept_done : IsDone job.op d.held e.held → IsSureAfter job.op e → Kept v t (makes job s) since e (done + 1) jobs waits acks
  kept_done is sure =
      let plan = plan_of s (job ∷ jobs) in
      let reads = done_reads v t plan job.whole s d.held job.op e.held k.safe.0 k.reads k.sound k.safe.1 k.notes begins is in
      let vcr = done_vcr v t plan job.whole s d.held job.op e.held is in
      let notes = up_to_more v d.held.vcr e.held.vcr e.held vcr (done_notes v t plan job.whole s d.held job.op e.held is k.notes) in
      record {
        reads = reads;
        sound = k.safe.1;
        safe = k.safe.2;
        notes = notes;
        images = done_images v t plan job.whole s d.held job.op e reads notes sure
            (step_later v t s since d done (job ∷ jobs) waits acks k (Within job.op d.held) e step each_within e.held.vcr vcr);
        begun = step_begun v t s since d done (job ∷ jobs) waits acks k (Within job.op d.held) e step each_within;
        always = step_always v t s since d done (job ∷ jobs) waits acks k (Within job.op d.held) e step each_within;
        waiting = waiting_on t s done job jobs waits k.waiting;
        acked = step_acked v t s since d done (job ∷ jobs) waits acks k (Within job.op d.held) e step each_within (makes job s).base
            (done_least v t plan job.whole s d.held job.op k.sound.grounded k.reads begins);
      }

  -- an op failed
  pub kept_failed : IsFailed job.op d.held e.held → Kept v t s since e done (job ∷ jobs) waits acks
  kept_failed is =
      let plan = plan_of s (job ∷ jobs) in
      let vcr = failed_vcr v t plan job.whole s d.held job.op e.held is in
      step_kept v t s since d done (job ∷ jobs) waits acks k (Within job.op d.held) e step each_within
      (failed_reads v t plan job.whole s d.held job.op e.held k.safe.0 k.reads k.sound k.notes is) vcr
      (up_to_more v d.held.vcr e.held.vcr e.held vcr (failed_notes v t plan job.whole s d.held job.op e.held is k.notes))

-- nothing is done but reading
pub kept_read : (v : Volume) (t : Trees) (s : Made) (since : ℕ) (d e : Moment) (done : ℕ) (jobs : List Job) (waits : List Wait) (acks : List Ack)
    → Kept v t s since d done jobs waits acks → e.held ≡ d.held → IsStep NothingNew d e → Kept v t s since e done jobs waits acks
kept_read v t s since d e done jobs waits acks k same step =
    step_kept v t s since d done jobs waits acks k NothingNew e step each
    (subst (λ (c : Cartridge). ReadsAs v t (plan_of s jobs) s c) (sym same) k.reads)
    (omega (arith, ap (λ (c : Cartridge). c.vcr) same))
    (subst (λ (c : Cartridge). AreUpTo v c.vcr c) (sym same) k.notes)
  where
    each : (before c : Cartridge) → d.leaves before → NothingNew before c → IsImage v t (plan_of s jobs) s.base c × AreUpTo v d.held.vcr c
    each before c may is = subst (λ (x : Cartridge). IsImage v t (plan_of s jobs) s.base x × AreUpTo v d.held.vcr x) (sym is) (k.images before may)

-- what a crash may leave within the first op is fine, before that is asked for
pub op_may_leave : (v : Volume) (t : Trees) (s : Made) (since : ℕ) (d : Moment) (done : ℕ) (job : Job) (jobs : List Job) (waits : List Wait) (acks : List Ack)
    → Kept v t s since d done (job ∷ jobs) waits acks
    → (before c : Cartridge) → d.leaves before → Within job.op d.held before c → IsFine v t (least s.base) c
op_may_leave v t s since d done job jobs waits acks k before c may w =
    let i = k.images before may in
    fine v t (plan_of s (job ∷ jobs)) s.base k.sound.grounded c
    (within_image v t (plan_of s (job ∷ jobs)) job.whole s d.held job.op k.safe.0 k.reads k.sound k.safe.1 before c i.0 i.1 w).0

-- a flush beside the jobs
pub kept_beside : (v : Volume) (t : Trees) (s : Made) (since : ℕ) (d e : Moment) (done : ℕ) (jobs : List Job) (waits : List Wait) (acks : List Ack)
    → Kept v t s since d done jobs waits acks → e.held ≡ d.held → IsStep (WithinFlush d.held) d e → Kept v t s since e done jobs waits acks
kept_beside v t s since d e done jobs waits acks k same step =
    step_kept v t s since d done jobs waits acks k (WithinFlush d.held) e step each
    (subst (λ (c : Cartridge). ReadsAs v t (plan_of s jobs) s c) (sym same) k.reads)
    (omega (arith, ap (λ (c : Cartridge). c.vcr) same))
    (subst (λ (c : Cartridge). AreUpTo v c.vcr c) (sym same) k.notes)
  where
    each : (before c : Cartridge) → d.leaves before → WithinFlush d.held before c → IsImage v t (plan_of s jobs) s.base c × AreUpTo v d.held.vcr c
    each before c may (inl is) = subst (λ (x : Cartridge). IsImage v t (plan_of s jobs) s.base x × AreUpTo v d.held.vcr x) (sym is) (k.images before may)
    each before c may (inr is) = subst (λ (x : Cartridge). IsImage v t (plan_of s jobs) s.base x × AreUpTo v d.held.vcr x) (sym is) (k.reads.image, k.notes)
