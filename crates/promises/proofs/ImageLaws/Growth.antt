-- A history goes on: what is kept stays.
use Rattle.std.proofs.Common.{◌≡◌, ◌≢◌, ◌⊎◌, ⊎_elim, inl, inr, true, true≢false, ℕ, ◌+◌, ◌-◌, ◌^◌, ◌<◌, ◌≤◌, ◌++◌, false, List, [], ◌∷◌, length, Option, None, refl, sym, ap, subst, ◌∙◌, arith}
use Rattle.std.specs.List.{AllByRecursion}
use Rattle.std.proofs.lemmas.Bool.{cases_lt}
use Rattle.plain_tree.specs.Tree.{Tree}
use Rattle.tape_types.specs.declared.cartridges.Cartridge.{Cartridge}
use Rattle.tape_types.specs.declared.cartridges.Item.{Item}
use Rattle.session_script.specs.declared.logs.Ack.{Ack}
use Rattle.content_laws.specs.Readings.{Construct}
use Rattle.cartridge_meaning.specs.Meaning.{IsTreeOf, Stands}
use Rattle.space_laws.specs.Space.{Space}
use Rattle.promises.specs.ImageLaws.Fine.{GoesOn, IsFine, IsSame}
use Rattle.promises.specs.ImageLaws.Images.{AreSafe, AreUpTo, Counts, IsDpImage, IsGrounded, IsImage, IsSound, Tells}
use Rattle.promises.specs.ImageLaws.Kept.{IsHeld, IsServed, Kept, Moment, ReadsAs, Serves, Wait, plan_of}
use Rattle.promises.specs.ImageLaws.Made.{Base, CoveredIndex, Job, Made, Trees, Volume, after, least, makes}
use Rattle.promises.specs.ImageLaws.Plans.{IsPlanned}

module _ (v : Volume) (old new : Trees) (more : GoesOn old new) where
  pub same_on : (from to : ℕ) → to ≤ old.count → IsSame old from to → IsSame new from to
  same_on from to le same j low high = more.same j (omega (arith, high, le)) ∙ same j low high ∙ sym (more.same to le)

  pub tells_on : (c : Cartridge) (ip dp : ℕ) (e : CoveredIndex) → Tells v old c ip dp e → Tells v new c ip dp e
  tells_on c ip dp e h = record {
    facts = h.facts;
    within = h.within;
    covered = omega (arith, h.covered, more.longer);
    tree = subst (IsTreeOf v.labels.ip c e.index) (sym (more.same e.place h.covered)) h.tree;
  }

  counts_on : (plan : Cartridge) (b : Base) (end : ℕ) (newer : List Construct) (last : CoveredIndex) → Counts v old plan b end newer last → Counts v new plan b end newer last
  counts_on plan b end newer last (inl h) = inl h
  counts_on plan b end newer last (inr h) = inr (h.0, h.1, tells_on plan b.sure end last h.2)

  dp_on : (plan : Cartridge) (b : Base) (dp : List Item) (last : CoveredIndex) → IsDpImage v old plan b dp last → IsDpImage v new plan b dp last
  dp_on plan b dp last h = record {
    labels = h.labels;
    form = h.form;
    more = h.more;
    split = h.split;
    reads = h.reads;
    agrees = h.agrees;
    counts = counts_on plan b _ h.more last h.counts;
  }

  pub image_on : (plan : Cartridge) (b : Base) (c : Cartridge) → IsImage v old plan b c → IsImage v new plan b c
  image_on plan b c h = record { ip = h.ip; last = h.last; dp = dp_on plan b c.dp h.last h.dp; honest = h.honest }

  grounded_on : (plan : Cartridge) (b : Base) → IsGrounded v old plan b → IsGrounded v new plan b
  grounded_on plan b h = record {
    labels = h.labels;
    some = h.some;
    floor_reads = h.floor_reads;
    tells = tells_on plan b.sure _ _ h.tells;
    low = h.low;
    on_ip = h.on_ip;
    on_dp = h.on_dp;
  }

  pub sound_on : (plan : Cartridge) (s : Made) → IsSound v old plan s → IsSound v new plan s
  sound_on plan s h = record { grounded = grounded_on plan s.base h.grounded; dp = dp_on plan s.base s.dp s.last h.dp; ip = h.ip }

  pub safe_on : (plan : Cartridge) (jobs : List Job) (s : Made) → AreSafe v old plan s jobs → AreSafe v new plan s jobs
  safe_on plan [] s h = tt
  safe_on plan (job ∷ jobs) s h = (h.0, sound_on plan (makes job s) h.1, safe_on plan jobs (makes job s) h.2)

  -- what is fine for a history is fine for a longer one
  pub fine_on : (from : ℕ) (c : Cartridge) → IsFine v old from c → IsFine v new from c
  fine_on from c h = record {
    place = h.place;
    low = h.low;
    high = omega (arith, h.high, more.longer);
    generation = h.generation;
    stands = subst (λ (t : Tree). Stands c v.facts t h.generation) (sym (more.same h.place h.high)) h.stands;
    labels = h.labels;
    one = h.one;
    honest = h.honest;
  }

  served_on : (s : Made) (done : ℕ) (jobs : List Job) (waits : List Wait) → AllByRecursion (IsServed old s done jobs) waits → AllByRecursion (IsServed new s done jobs) waits
  served_on s done jobs [] h = tt
  served_on s done jobs (w ∷ waits) h = (
    record {
      placed = omega (arith, h.0.placed, more.longer);
      admitted = h.0.admitted;
      covered = λ front behind parts due. same_on _ w.place h.0.placed (h.0.covered front behind parts due);
    },
    served_on s done jobs waits h.1,
  )

  held_on : (b : Base) (d : Moment) (acks : List Ack) → AllByRecursion (IsHeld v old b d) acks → AllByRecursion (IsHeld v new b d) acks
  held_on b d [] h = tt
  held_on b d (a ∷ acks) h = (
    record {
      placed = omega (arith, h.0.placed, more.longer);
      reached = h.0.reached;
      covered = same_on _ a.place h.0.placed h.0.covered;
      held = λ less c left. fine_on a.place c (h.0.held less c left);
    },
    held_on b d acks h.1,
  )

  reads_on : (plan : Cartridge) (s : Made) (held : Cartridge) → ReadsAs v old plan s held → ReadsAs v new plan s held
  unfolding image_on
  reads_on plan s held h = record {
    ip = h.ip;
    dp = h.dp;
    image = image_on plan s.base held h.image;
    last_is = h.last_is;
    no_more = h.no_more;
    further = h.further;
  }

  -- what is kept for a history is kept for a longer one
  pub kept_on : (s : Made) (since : ℕ) (d : Moment) (done : ℕ) (jobs : List Job) (waits : List Wait) (acks : List Ack)
      → Kept v old s since d done jobs waits acks → Kept v new s since d done jobs waits acks
  kept_on s since d done jobs waits acks h = record {
    reads = reads_on (plan_of s jobs) s d.held h.reads;
    sound = sound_on (plan_of s jobs) s h.sound;
    safe = safe_on (plan_of s jobs) jobs s h.safe;
    notes = h.notes;
    images = λ c left. (image_on (plan_of s jobs) s.base c (h.images c left).0, (h.images c left).1);
    begun = h.begun;
    always = λ c left. fine_on 0 c (h.always c left);
    waiting = served_on s done jobs waits h.waiting;
    acked = held_on s.base d acks h.acked;
  }

  -- A placement that changes no tree, or one that is told as a change of the space.
  pub planned_on : (s : Made) (space : Space) → IsPlanned old s space → (space.changed ≡ false → IsSame new (least s.base) new.count) → IsPlanned new s space
  planned_on s space h covered = record {
    end_ip = h.end_ip;
    end_dp = h.end_dp;
    newest_is = h.newest_is;
    last_dp = h.last_dp;
    indexed = h.indexed;
    flushed = h.flushed;
    covered = covered;
    ended = h.ended;
    ready_ip = h.ready_ip;
    no_index = h.no_index;
    ready_dp = h.ready_dp;
  }

  -- the tree that the last placements leave is the one that was there
  pub still_covered : (s : Made) (space : Space) → IsPlanned old s space → ((j : ℕ) → old.count ≤ j → j ≤ new.count → new.nth j ≡ new.nth new.count)
      → space.changed ≡ false → IsSame new (least s.base) new.count
  still_covered s space h still unchanged j low high = ⊎_elim
      (λ (before : j < old.count). same_on (least s.base) old.count (omega arith) (h.covered unchanged) j low (omega (arith, before))
      ∙ still old.count (omega arith) more.longer)
      (λ (later : old.count ≤ j). still j later high)
      (cases_lt j old.count)

  -- a call that changes the tree
  pub planned_changed : (s : Made) (space : Space) → IsPlanned old s space → IsPlanned new s (record space { changed = true })
  planned_changed s space h = record {
    end_ip = h.end_ip;
    end_dp = h.end_dp;
    newest_is = h.newest_is;
    last_dp = h.last_dp;
    indexed = h.indexed;
    flushed = h.flushed;
    covered = λ unchanged. absurd (true≢false unchanged);
    ended = λ unchanged. absurd (true≢false unchanged);
    ready_ip = h.ready_ip;
    no_index = h.no_index;
    ready_dp = h.ready_dp;
  }
