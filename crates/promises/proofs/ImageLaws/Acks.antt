-- Syncs that wait, and those that are acknowledged.
use Rattle.std.proofs.Common.{◌≡◌, ◌⊎◌, ⊎_elim, ℕ, ◌+◌, ◌-◌, ◌^◌, ◌<◌, ◌≤◌, ◌++◌, List, [], ◌∷◌, refl, sym, ap, ◌∙◌, arith}
use Rattle.std.specs.List.{AllByRecursion}
use Rattle.tape_types.specs.declared.cartridges.Cartridge.{Cartridge}
use Rattle.session_script.specs.declared.logs.Ack.{Ack}
use Rattle.promises.specs.ImageLaws.Fine.{IsFine, IsSame}
use Rattle.promises.specs.ImageLaws.Kept.{IsHeld, IsServed, Kept, Moment, Wait, plan_of}
use Rattle.promises.specs.ImageLaws.Made.{Base, Job, Made, Trees, Volume, least, makes}
use Rattle.promises.proofs.ImageLaws.Fines.{fine, fine_same}

-- the tree stays the same from a later place on
same_from : (t : Trees) (from later to : ℕ) → from ≤ later → IsSame t from to → IsSame t later to
same_from t from later to le same = λ j low high. same j (omega (arith, le, low)) high

-- what is acknowledged stays so over a step of which each image stands for what was flushed
pub held_on : (v : Volume) (t : Trees) (b c : Base) (d e : Moment) → d.commands ≤ e.commands → least b ≤ least c
    → ((n : ℕ) (image : Cartridge) → n ≤ d.commands → e.left n image → d.left n image ⊎ IsFine v t (least b) image)
    → (acks : List Ack) → AllByRecursion (IsHeld v t b d) acks → AllByRecursion (IsHeld v t c e) acks
held_on v t b c d e later more on [] all = tt
held_on v t b c d e later more on (a ∷ acks) all = (one, held_on v t b c d e later more on acks all.1)
  where
    one : IsHeld v t c e a
    one = record {
      placed = all.0.placed;
      reached = omega (arith, all.0.reached, later);
      covered = same_from t (least b) (least c) a.place more all.0.covered;
      held = λ short image left. ⊎_elim
          (λ (old : d.left a.command image). all.0.held short image old)
          (λ (new : IsFine v t (least b) image). fine_same v t (least b) a.place image all.0.covered all.0.placed new)
          (on a.command image all.0.reached left);
    }

-- a job was done, for which some may have waited
served_on : (t : Trees) (s : Made) (done : ℕ) (job : Job) (jobs : List Job) (w : Wait) → IsServed t s done (job ∷ jobs) w → IsServed t (makes job s) (done + 1) jobs w
served_on t s done job jobs w served = record {
  placed = served.placed;
  admitted = omega (arith, served.admitted);
  covered = λ front behind is due. served.covered (job ∷ front) behind (ap (λ (l : List Job). job ∷ l) is) (omega (arith, due));
}

-- once the first job is done, the syncs that wait are still served by the others
pub waiting_on : (t : Trees) (s : Made) (done : ℕ) (job : Job) (jobs : List Job) (waits : List Wait) → AllByRecursion (IsServed t s done (job ∷ jobs)) waits
    → AllByRecursion (IsServed t (makes job s) (done + 1) jobs) waits
waiting_on t s done job jobs [] all = tt
waiting_on t s done job jobs (w ∷ waits) all = (served_on t s done job jobs w all.0, waiting_on t s done job jobs waits all.1)

-- ---- an acknowledgement

all_parts : {X : Type 0} (P : X → Type 0) (front : List X) (x : X) (behind : List X) → AllByRecursion P (front ++ x ∷ behind)
    → P x × AllByRecursion P (front ++ behind)
all_parts P [] x behind all = (all.0, all.1)
all_parts P (y ∷ front) x behind all = let rest = all_parts P front x behind all.1 in (rest.0, (all.0, rest.1))

all_more : {X : Type 0} (P : X → Type 0) (xs : List X) (x : X) → AllByRecursion P xs → P x → AllByRecursion P (xs ++ x ∷ [])
all_more P [] x all here = (here, tt)
all_more P (y ∷ xs) x all here = (all.0, all_more P xs x all.1 here)

module _ (v : Volume) (t : Trees) (s : Made) (since : ℕ) (d : Moment) (done : ℕ) (jobs : List Job) (front : List Wait) (w : Wait) (behind : List Wait)
    (acks : List Ack) (k : Kept v t s since d done jobs (front ++ w ∷ behind) acks) where
  -- the sync that waits is covered by what is flushed
  covered_now : w.due ≡ done → IsServed t s done jobs w → IsSame t (least s.base) w.place
  covered_now due served = served.covered [] jobs refl (let none : done + 0 ≡ done = omega arith in none ∙ sym due)

  held_now : w.due ≡ done → IsServed t s done jobs w → (d.commands < 2 ^ 64 - 1 → (c : Cartridge) → d.left d.commands c → d.leaves c)
      → IsHeld v t s.base d (record { place = w.place; command = d.commands })
  held_now due served only_now = record {
    placed = served.placed;
    reached = omega arith;
    covered = covered_now due served;
    held = λ short c left. fine_same v t (least s.base) w.place c (covered_now due served) served.placed
        (fine v t (plan_of s jobs) s.base k.sound.grounded c (k.images c (only_now short c left)).0);
  }

  -- a sync whose jobs are done and that is answered is held from then on
  pub kept_acked : w.due ≡ done → (d.commands < 2 ^ 64 - 1 → (c : Cartridge) → d.left d.commands c → d.leaves c)
      → Kept v t s since d done jobs (front ++ behind) (acks ++ record { place = w.place; command = d.commands } ∷ [])
  kept_acked due only_now =
      let parts = all_parts (IsServed t s done jobs) front w behind k.waiting in
      record {
        reads = k.reads;
        sound = k.sound;
        safe = k.safe;
        notes = k.notes;
        images = k.images;
        begun = k.begun;
        always = k.always;
        waiting = parts.1;
        acked = all_more (IsHeld v t s.base d) acks (record { place = w.place; command = d.commands }) k.acked (held_now due parts.0 only_now);
      }
