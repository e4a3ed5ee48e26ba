-- More jobs at the end of those that stand.
use Rattle.std.proofs.Common.{ℕ, ◌+◌, ◌≤◌, ◌≡◌, false, List, [], ◌∷◌, ◌++◌, length, refl, sym, ap, subst, ◌∙◌, arith, append-nil, length-append}
use Rattle.std.specs.List.{AllByRecursion}
use Rattle.tape_types.specs.declared.cartridges.Cartridge.{Cartridge}
use Rattle.session_script.specs.declared.logs.Ack.{Ack}
use Rattle.space_laws.specs.Space.{Space}
use Rattle.promises.specs.ImageLaws.Fine.{IsSame}
use Rattle.promises.specs.ImageLaws.Images.{AreSafe, IsSound}
use Rattle.promises.specs.ImageLaws.Kept.{IsServed, Kept, Moment, Serves, Wait, plan_of}
use Rattle.promises.specs.ImageLaws.Made.{Job, Made, Trees, Volume, after, cartridge_of, least}
use Rattle.promises.specs.ImageLaws.Plans.{IsPlanned}
use Rattle.promises.proofs.ImageLaws.Appends.{LeadsTo}
use Rattle.promises.proofs.ImageLaws.Longer.{after_append, image_longer, plan_longer, safe_append, safe_longer, sound_after, sound_longer}

-- ---- waits

front_jobs : (jobs more front behind : List Job) → jobs ++ more ≡ front ++ behind → length front ≤ length jobs → (rest : List Job) × (jobs ≡ front ++ rest)
front_jobs jobs more [] behind is le = (jobs, refl)
front_jobs [] more (f ∷ front) behind is le = absurd (omega (arith, le))
front_jobs (job ∷ jobs) more (f ∷ front) behind is le =
    let first : job ≡ f = cc in
    let others : jobs ++ more ≡ front ++ behind = cc in
    let rest = front_jobs jobs more front behind others (omega (arith, le)) in
    (rest.0, ap (λ (l : List Job). job ∷ l) rest.1 ∙ ap (λ (j : Job). j ∷ (front ++ rest.0)) first)

served_more : (t : Trees) (s : Made) (done : ℕ) (jobs more : List Job) (w : Wait) → IsServed t s done jobs w → IsServed t s done (jobs ++ more) w
served_more t s done jobs more w h = record {
  placed = h.placed;
  admitted = omega (arith, h.admitted, length-append jobs more);
  covered = λ front behind is due.
      let rest = front_jobs jobs more front behind is (omega (arith, h.admitted, due)) in h.covered front rest.0 rest.1 due;
}

all_served_more : (t : Trees) (s : Made) (done : ℕ) (jobs more : List Job) (waits : List Wait) → AllByRecursion (IsServed t s done jobs) waits
    → AllByRecursion (IsServed t s done (jobs ++ more)) waits
all_served_more t s done jobs more [] all = tt
all_served_more t s done jobs more (w ∷ waits) all = (served_more t s done jobs more w all.0, all_served_more t s done jobs more waits all.1)

nothing_behind : (jobs front behind : List Job) → jobs ≡ front ++ behind → length front ≡ length jobs → front ≡ jobs
nothing_behind jobs front [] is same = sym (append-nil front) ∙ sym is
nothing_behind jobs front (b ∷ behind) is same =
    absurd (omega (arith, ap (λ (l : List Job). length l) is, length-append front (b ∷ behind), same))

-- a sync that the last of all jobs covers
served_last : (t : Trees) (s : Made) (done : ℕ) (jobs : List Job) → IsSame t (least (after s jobs).base) t.count
    → IsServed t s done jobs (record { place = t.count; due = done + length jobs })
served_last t s done jobs same = record {
  placed = omega arith;
  admitted = omega arith;
  covered = λ front behind is due.
      let whole : front ≡ jobs = nothing_behind jobs front behind is (omega (arith, due)) in
      subst (λ (l : List Job). IsSame t (least (after s l).base) t.count) (sym whole) same;
}

-- ---- what is kept

-- where all is kept, what the jobs lead to is sound
pub kept_sound : (v : Volume) (t : Trees) (s : Made) (since : ℕ) (d : Moment) (done : ℕ) (jobs : List Job) (waits : List Wait) (acks : List Ack)
    → Kept v t s since d done jobs waits acks → IsSound v t (plan_of s jobs) (after s jobs)
kept_sound v t s since d done jobs waits acks k = sound_after v t (plan_of s jobs) jobs s k.sound k.safe

-- jobs that lead from what all jobs make to a state, with that state planned
pub kept_more : (v : Volume) (t : Trees) (s : Made) (since : ℕ) (d : Moment) (done : ℕ) (jobs more : List Job) (waits : List Wait) (acks : List Ack) (made : Made)
    → Kept v t s since d done jobs waits acks → LeadsTo v t (cartridge_of made) (after s jobs) more made
    → Kept v t s since d done (jobs ++ more) waits acks
kept_more v t s since d done jobs more waits acks made k l =
    let all : made ≡ after s (jobs ++ more) = sym (after_append jobs more s ∙ l.to) in
    let behind : AreSafe v t (plan_of s (jobs ++ more)) (after s jobs) more =
    subst (λ (m : Made). AreSafe v t (cartridge_of m) (after s jobs) more) all l.safe in
    let longer = plan_longer jobs more s in
    let old : Cartridge = plan_of s jobs in
    let new : Cartridge = plan_of s (jobs ++ more) in
    record {
      reads = record {
        ip = k.reads.ip;
        dp = k.reads.dp;
        image = image_longer v t old new longer s.base d.held k.sound.grounded k.reads.image;
        last_is = k.reads.last_is;
        no_more = k.reads.no_more;
        further = k.reads.further;
      };
      sound = sound_longer v t old new longer s k.sound;
      safe = safe_append v t new jobs more s (safe_longer v t old new longer jobs s k.safe) behind;
      notes = k.notes;
      images = λ c left. (image_longer v t old new longer s.base c k.sound.grounded (k.images c left).0, (k.images c left).1);
      begun = k.begun;
      always = k.always;
      waiting = all_served_more t s done jobs more waits k.waiting;
      acked = k.acked;
    }

-- more jobs that may be done leave the volume served
pub serves_more : (v : Volume) (t : Trees) (s : Made) (since : ℕ) (d : Moment) (done : ℕ) (jobs more : List Job) (waits : List Wait) (acks : List Ack) (made : Made) (space : Space)
    → Kept v t s since d done jobs waits acks → LeadsTo v t (cartridge_of made) (after s jobs) more made → IsPlanned t made space
    → Serves v t s since d done (jobs ++ more) waits acks space
serves_more v t s since d done jobs more waits acks made space k l planned = record {
  kept = kept_more v t s since d done jobs more waits acks made k l;
  planned = subst (λ (m : Made). IsPlanned t m space) (sym (after_append jobs more s ∙ l.to)) planned;
}

-- a sync without changes since the last index
pub served_unchanged : (v : Volume) (t : Trees) (s : Made) (since : ℕ) (d : Moment) (done : ℕ) (jobs : List Job) (waits : List Wait) (acks : List Ack) (space : Space)
    → Serves v t s since d done jobs waits acks space → space.changed ≡ false
    → IsServed t s done jobs (record { place = t.count; due = done + length jobs })
served_unchanged v t s since d done jobs waits acks space h same = served_last t s done jobs (h.planned.covered same)
