-- Syncs that wait, and others in their place.
use Rattle.std.proofs.Common.{◌≡◌, ℕ, zero, suc, ◌+◌, ◌<◌, Bool, true, false, cond, List, [], ◌∷◌, ◌++◌, length, map, subst, arith}
use Rattle.std.specs.Prelude.{filter, slice_index_or, Contains}
use Rattle.std.specs.List.{AllByRecursion}
use Rattle.session_script.specs.declared.logs.Ack.{Ack}
use Rattle.head_queue.specs.EventLaws.Waiting.{Waiter}
use Rattle.promises.specs.ImageLaws.Kept.{IsServed, Kept, Moment, Wait}
use Rattle.promises.specs.ImageLaws.Made.{Job, Made, Trees, Volume}
use Rattle.promises.specs.CrashLaws.Safe.{wait_of}

-- what holds of all of two lists holds of all of both together
pub all_more : {X : Type 0} (P : X → Type 0) (xs ys : List X) → AllByRecursion P xs → AllByRecursion P ys → AllByRecursion P (xs ++ ys)
all_more P [] ys all more = more
all_more P (x ∷ xs) ys all more = (all.0, all_more P xs ys all.1 more)

-- where one fact follows from another, it holds of all where that does
pub all_weaker : {X : Type 0} (P Q : X → Type 0) (xs : List X) → ((x : X) → P x → Q x) → AllByRecursion P xs → AllByRecursion Q xs
all_weaker P Q [] w all = tt
all_weaker P Q (x ∷ xs) w all = (w x all.0, all_weaker P Q xs w all.1)

-- what holds of all images holds of the image of each
pub all_mapped : {X Y : Type 0} (P : Y → Type 0) (f : X → Y) (xs : List X) → AllByRecursion P (map f xs) → AllByRecursion (λ (x : X). P (f x)) xs
all_mapped P f [] all = tt
all_mapped P f (x ∷ xs) all = (all.0, all_mapped P f xs all.1)

all_by : (P : Wait → Type 0) (b : Bool) (s : Waiter) (kept : List Waiter) → P (wait_of s) → AllByRecursion P (map wait_of kept)
    → AllByRecursion P (map wait_of (cond b (s ∷ kept) kept))
all_by P true s kept one all = (one, all)
all_by P false s kept one all = all

-- what holds of all syncs that wait holds of some of them
pub all_filter : (P : Wait → Type 0) (p : Waiter → Bool) (syncs : List Waiter) → AllByRecursion P (map wait_of syncs)
    → AllByRecursion P (map wait_of (filter p syncs))
all_filter P p [] all = tt
all_filter P p (s ∷ syncs) all = all_by P (p s) s (filter p syncs) all.0 (all_filter P p syncs all.1)

at_place : {X : Type 0} (P : X → Type 0) (x : X) (xs : List X) (k : ℕ) → AllByRecursion P xs → k < length xs → slice_index_or xs k x ≡ x → P x
at_place P x [] k all less is = absurd (omega (arith, less))
at_place P x (y ∷ xs) zero all less is = subst P is all.0
at_place P x (y ∷ xs) (suc k) all less is = at_place P x xs k all.1 (omega (arith, less)) is

-- what holds of each element holds of one
pub all_has : {X : Type 0} (P : X → Type 0) (xs : List X) (x : X) → AllByRecursion P xs → Contains xs x → P x
all_has P xs x all has = at_place P x xs has.0 all has.1 has.2

-- the same is kept with other syncs that wait, each of them covered once its jobs are done
pub kept_with : (v : Volume) (t : Trees) (s : Made) (since : ℕ) (d : Moment) (done : ℕ) (jobs : List Job) (waits others : List Wait) (acks : List Ack)
    → Kept v t s since d done jobs waits acks → AllByRecursion (IsServed t s done jobs) others → Kept v t s since d done jobs others acks
kept_with v t s since d done jobs waits others acks k all = record {
  reads = k.reads;
  sound = k.sound;
  safe = k.safe;
  notes = k.notes;
  images = k.images;
  begun = k.begun;
  always = k.always;
  waiting = all;
  acked = k.acked;
}
