-- A submission with the moment that the clock gave, and what it leaves of a volume that is served.
use Rattle.std.specs.Prelude.{ℕ, ◌≡◌, ◌≢◌, ◌⊎◌, ◌&&◌, nat_lt, ◌-◌, ◌<◌, ◌^◌, Bool, true, false, List, [], ◌∷◌, ◌++◌, Option, Some, None, IfSome, length, slice_get}
use Rattle.std.proofs.Common.{refl, sym, ap, subst, ◌∙◌, arith}
use Rattle.std.proofs.lemmas.Bool.{and_parts, ltb-true}
use Rattle.std.proofs.lemmas.List.{length-map}
use Rattle.tape_types.specs.declared.cartridges.Cartridge.{Cartridge}
use Rattle.tape_types.specs.declared.moments.Moment.{Moment}
use Rattle.tape_drive.specs.declared.drive.Drive.{Ghosts}
use Rattle.plain_tree.specs.declared.calls.Call.{Call}
use Rattle.plain_tree.specs.declared.calls.Fate.TheVariants as fates
use Rattle.plain_tree.specs.declared.calls.Placed.{Placed}
use Rattle.session_script.specs.Grammar.{calls_of}
use Rattle.session_script.specs.declared.logs.Reply.TheVariants as replies
use Rattle.head_queue.specs.EventLaws.Trail.{after_all}
use Rattle.head_queue.specs.EventLaws.Waiting.{ops}
use Rattle.tape_layout.specs.declared.ops.Op.{Op}
use Rattle.file_tree.specs.Valid.{IsGood}
use Rattle.promises.specs.ServingPromise.Meanings.{cartridges}
use Rattle.promises.specs.ServingPromise.Replies.{is_write}
use Rattle.promises.specs.ServingPromise.Served.{Fixed, IsServed, View, headed}
use Rattle.promises.specs.ServingPromise.Submits as model
use Rattle.promises.specs.ServingPromise.Submits.{CanSubmit, Submits, call_of}
use Rattle.promises.specs.declared.serving_promise.answers.Submitted.{Submitted}
use Rattle.promises.specs.declared.serving_promise.answers.Submitted.TheVariants as submitted
use Rattle.promises.specs.OrderLaws.Kept.{seen}
use Rattle.promises.specs.OrderLaws.Laws.{IsInOrder}
use Rattle.promises.specs.OrderLaws.Sides.{HasOneMoment}
use Rattle.volume_state.specs.StateLaws.Parts.{Parts, view_of}
use Rattle.volume_state.specs.StateLaws.Placing.{PutsOff}
use Rattle.volume_state.specs.CallLaws.SubmitLaws.{Made, puts_off}
use Rattle.volume_state.specs.CallLaws.Running.{IsRunning}
use Rattle.volume_state.proofs.CallLaws.Promised.{running_is_promised}
use Rattle.volume_state.proofs.CallLaws.Submitted.{submissions_run}
use Rattle.volume_core.specs.VolumeSteps.Asking.{CanAsk, Finishes, IsSubmitted, Reserves}
use Rattle.volume_core.proofs.VolumeSteps.SubmitLemmas.{no_memory}
use Rattle.volume_core.specs.Serving.{IsServing, next_moment}
use Rattle.volume_core.specs.Turns.{Gives, SubmitsAt, Told, told}

-- ---- the clock

-- a clock that was asked gave this moment, and still gives its one moment
pub asked_once : {C : Type 0} (one next : C → Option Moment) (old new : C) (at : Moment)
    → IfSome (next old) (λ m. at ≡ m)
    → IfSome (one old) (λ m. (at ≡ m) × (new ≡ old)) → Gives (told (one old) (next old)) (told (one new) (next new)) at
asked_once one next old new at tells single = by (one old) refl single
  where
    by : (o : Option Moment) → one old ≡ o → IfSome o (λ m. (at ≡ m) × (new ≡ old))
        → Gives (told o (next old)) (told (one new) (next new)) at
    by None is s = record { given = tells; still = tt }
    by (Some m) is s = record { given = s.0; still = ap one s.1 ∙ is }

-- ---- a write that is put off

-- its session drains
pub drains_at : {D : Type 0} (drive : Ghosts D) (who nth : ℕ) (call : Call) (clock : Told) (old new : Parts D)
    → PutsOff who old new → SubmitsAt drive who nth call clock clock old new submitted.Drain
drains_at drive who nth call clock old new off = (refl, λ at. ([], puts_off off))

-- there was no memory, so that it is placed void
pub void_at : {D : Type 0} (drive : Ghosts D) (who nth : ℕ) (call : Call) (at : Moment) (before after : Told)
    (result : Submitted) (old mid new : Parts D) → CanAsk who old → Gives before after at → Reserves old mid
    → Finishes who nth at fates.Void replies.NoMemory result mid new
    → SubmitsAt drive who nth call before after old new result
void_at drive who nth call at before after result old mid new can gives reserves f =
    subst (λ (end : Submitted). SubmitsAt drive who nth call before after old new end) (sym f.ready) (
      at,
      gives,
      subst (λ (end : Submitted). IsSubmitted drive who nth at old new call end) f.ready
          (no_memory drive who nth call at result old mid new can reserves f),
    )

many_of : (write : Bool) (n : ℕ) → (write && nat_lt 64 n) ≡ true → 64 < n
many_of write n is = ltb-true 64 n (and_parts write (nat_lt 64 n) is).1

-- a write is put off only where more than 64 ops stand
pub is_many : (off write : Bool) (n : ℕ) → off ≡ (write && nat_lt 64 n) → off ≡ true → 64 < n
is_many off write n is so = many_of write n (sym is ∙ so)

-- a write that is put off is answered with a drain or want of memory
pub put_off_now : (off now : Bool) (result : Submitted) → off ≡ now → off ≡ true
    → (result ≡ submitted.Drain) ⊎ (result ≡ submitted.Ready replies.NoMemory) → model.PutsOff now result
put_off_now off now result is so ends = record { only = λ drains. sym is ∙ so; each = λ again. ends }

-- ---- a call that is placed

-- a submission that places its call asks the clock once
pub placed_at : {D : Type 0} (drive : Ghosts D) (who nth : ℕ) (call : Call) (at : Moment) (before after : Told)
    (result : Submitted) (old new : Parts D) → result ≢ submitted.Drain → Gives before after at
    → IsSubmitted drive who nth at old new call result → SubmitsAt drive who nth call before after old new result
placed_at drive who nth call at before after (submitted.Ready reply) old new placed gives is = (at, gives, is)
placed_at drive who nth call at before after (submitted.Wait ticket) old new placed gives is = (at, gives, is)
placed_at drive who nth call at before after submitted.Drain old new placed gives is = absurd (placed refl)

-- a call that isn't put off doesn't drain
pub not_put_off : (off now : Bool) (result : Submitted) → off ≡ now → off ≡ false → result ≢ submitted.Drain
    → model.PutsOff now result
not_put_off off now result is not_so placed = record {
  only = λ drains. absurd (placed drains);
  each = λ so. let clash : false ≡ true = sym not_so ∙ is ∙ so in absurd cc;
}

-- ---- what it leaves

no_end : (xs : List Placed) (x : Placed) → xs ++ x ∷ [] ≡ [] → ⊥
no_end [] x e = cc
no_end (y ∷ xs) x e = cc

-- a moment that the clock may give next
abbrev some_moment : Option Moment → Moment → Moment
some_moment (Some m) other = m
some_moment None other = other

pub record IsServedOn {D : Type 0} (drive : Ghosts D) (fixed : Fixed D) (before after : Told) (who nth : ℕ)
    (answer : Submitted) (old new : Parts D) : Type 0 where
  pub submits : Submits (seen drive fixed.first) (seen drive new.drive)
      (view_of fixed (next_moment before.one before.next) old) (view_of fixed (next_moment after.one after.next) new) who
      nth answer
  pub serving : IsServing drive fixed after.one after.next new

module _ {D : Type 0} (drive : Ghosts D)
    (only_now : (d : D) (image : Cartridge) → drive.commands d < 2 ^ 64 - 1
    → drive.left_since d (drive.commands d) image
    → drive.leaves d image)
    (fixed : Fixed D) (before after : Told) (who nth : ℕ) (call : Call) (old new : Parts D)
    (serving : IsServing drive fixed before.one before.next old) (good : IsGood old.stock.tree)
    (can : CanSubmit (view_of fixed (next_moment before.one before.next) old) who nth)
    (is_call : call_of (view_of fixed (next_moment before.one before.next) old) who nth ≡ Some call)
    (answered : new.answered ≡ old.answered) where
  abbrev first_view : View D
  first_view = view_of fixed (next_moment before.one before.next) old

  has_one : HasOneMoment first_view
  has_one = by fixed.moment serving.one_moment
    where
      by : (o : Option Moment) → IfSome o (λ m. before.one ≡ Some m)
          → IfSome o (λ m. next_moment before.one before.next ≡ Some m)
      by None h = tt
      by (Some m) h = ap (λ (one : Option Moment). next_moment one before.next) h

  -- the ops that stand are as many as those of the events
  same_count : length old.stock.layout.ops ≡ length (ops (after_all old.trail.events))
  same_count =
      let order : IsInOrder drive first_view = serving.runs.kept.order in
      sym (length-map old.stock.layout.ops headed) ∙ ap length order.orderly.standing

  runs_on : (at : Moment) (answer : Submitted) (asked : List Op)
      → model.PutsOff (is_write call && nat_lt 64 (length old.stock.layout.ops)) answer
      → IfSome (next_moment before.one before.next) (λ m. at ≡ m)
      → (answer ≡ submitted.Drain → next_moment after.one after.next ≡ next_moment before.one before.next)
      → Made drive who nth call at old new answer asked
      → Submits (seen drive fixed.first) (seen drive new.drive) first_view
      (view_of fixed (next_moment after.one after.next) new) who nth answer
      × IsRunning drive fixed (next_moment after.one after.next) new
  runs_on at answer asked off moment unasked made =
      submissions_run drive only_now fixed (next_moment before.one before.next) (next_moment after.one after.next) who nth
      call at answer asked old new serving.runs (record {
        good = good;
        can = can;
        is_call = is_call;
        put_off = subst (λ n. model.PutsOff (is_write call && nat_lt 64 n) answer) same_count off;
        moment = moment;
        one_moment = has_one;
        unasked = unasked;
        answered = answered;
      }) made

  still_one : (o : Option Moment) → IfSome o (λ m. before.one ≡ Some m) → IfSome before.one (λ m. after.one ≡ Some m)
      → IfSome o (λ m. after.one ≡ Some m)
  still_one None h still = tt
  still_one (Some m) h still = subst (λ (one : Option Moment). IfSome one (λ k. after.one ≡ Some k)) h still

  -- a call that is placed
  placed_on : (answer : Submitted) → answer ≢ submitted.Drain
      → model.PutsOff (is_write call && nat_lt 64 (length old.stock.layout.ops)) answer
      → ((s : Submits (seen drive fixed.first) (seen drive new.drive) first_view
      (view_of fixed (next_moment after.one after.next) new) who nth answer)
      → (p : Placed) × (new.listed.history ≡ old.listed.history ++ p ∷ []))
      → (at : Moment) → Gives before after at → IsSubmitted drive who nth at old new call answer
      → IsServedOn drive fixed before after who nth answer old new
  placed_on answer placed off grows at gives is =
      let on = runs_on at answer is.0 off gives.given (λ drains. absurd (placed drains)) is.1 in
      record {
        submits = on.0;
        serving = record {
          runs = on.1;
          one_moment = still_one fixed.moment serving.one_moment gives.still;
          untouched = λ none. let more = grows on.0 in absurd (no_end old.listed.history more.0 (sym more.1 ∙ none));
        };
      }

  moment_fits : (o : Option Moment) → IfSome o (λ m. some_moment o fixed.mounted.index.updated ≡ m)
  moment_fits None = tt
  moment_fits (Some m) = refl

  -- a write that is put off: there were ops, so that something was placed before
  put_off_on : model.PutsOff (is_write call && nat_lt 64 (length old.stock.layout.ops)) submitted.Drain
      → after ≡ before → ((at : Moment) → IsSubmitted drive who nth at old new call submitted.Drain)
      → IsServedOn drive fixed before after who nth submitted.Drain old new
  put_off_on off unasked is =
      let next : Option Moment = next_moment before.one before.next in
      let at : Moment = some_moment next fixed.mounted.index.updated in
      let made = is at in
      let on = runs_on at submitted.Drain made.0 off (moment_fits next)
      (λ drains. ap (λ (t : Told). next_moment t.one t.next) unasked) made.1 in
      let many : 64 < length old.stock.layout.ops =
      many_of (is_write call) (length old.stock.layout.ops) (off.only refl) in
      record {
        submits = on.0;
        serving = record {
          runs = on.1;
          one_moment = subst (λ (t : Told). IfSome fixed.moment (λ m. t.one ≡ Some m)) (sym unasked) serving.one_moment;
          untouched = λ none.
              let empty = (serving.untouched (sym on.0.placing.history ∙ none)).1 in
              absurd (omega (arith, many, ap length empty));
        };
      }

  served_on : (answer : Submitted) → model.PutsOff (is_write call && nat_lt 64 (length old.stock.layout.ops)) answer
      → SubmitsAt drive who nth call before after old new answer
      → IsServedOn drive fixed before after who nth answer old new
  served_on (submitted.Ready reply) off s =
      placed_on (submitted.Ready reply) (λ drains. cc) off (λ on. (on.placing.placed, on.placing.history)) s.0 s.1 s.2
  served_on (submitted.Wait ticket) off s =
      placed_on (submitted.Wait ticket) (λ drains. cc) off (λ on. (on.placing.1.placed, on.placing.1.history)) s.0 s.1
      s.2
  served_on submitted.Drain off s = put_off_on off s.0 s.1

-- ---- the call of a volume

-- a volume that is the same may be asked for the same call
pub can_of : {D : Type 0} {v w : View D} (who nth : ℕ) → v ≡ w → CanSubmit w who nth → CanSubmit v who nth
can_of {D} who nth is can = subst (λ (v : View D). CanSubmit v who nth) (sym is) can

submits_of : {D : Type 0} (drive : Ghosts D) (now : D) (v w new : View D) (who nth : ℕ) (answer : Submitted) → v ≡ w
    → Submits (seen drive v.fixed.first) (seen drive now) v new who nth answer
    → Submits (seen drive w.fixed.first) (seen drive now) w new who nth answer
submits_of {D} drive now v w new who nth answer is s =
    subst (λ (u : View D). Submits (seen drive u.fixed.first) (seen drive now) u new who nth answer) is s

-- the call adds what is promised, and all that is promised of the volume is kept
pub record Serves {D : Type 0} (drive : Ghosts D) (fixed : Fixed D) (before after : Told) (who nth : ℕ)
    (answer : Submitted) (was : View D) (old new : Parts D) : Type 0 where
  pub submits : Submits (seen drive was.fixed.first) (seen drive new.drive) was
      (view_of fixed (next_moment after.one after.next) new) who nth answer
  pub served : IsServed cartridges (seen drive fixed.first) (seen drive new.drive)
      (view_of fixed (next_moment after.one after.next) new)
  pub serving : IsServing drive fixed after.one after.next new
  pub calls : new.listed.calls ≡ old.listed.calls

-- after a submission the volume is served on, with what that adds
pub serves : {D : Type 0} (drive : Ghosts D)
    (only_now : (d : D) (image : Cartridge) → drive.commands d < 2 ^ 64 - 1
    → drive.left_since d (drive.commands d) image
    → drive.leaves d image)
    (fixed : Fixed D) (before after : Told) (who nth : ℕ) (call : Call) (answer : Submitted) (was : View D)
    (old new : Parts D)
    → IsServing drive fixed before.one before.next old → IsGood old.stock.tree
    → view_of fixed (next_moment before.one before.next) old ≡ was → CanSubmit was who nth
    → slice_get (calls_of fixed.script who) nth ≡ Some call → new.answered ≡ old.answered
    → model.PutsOff (is_write call && nat_lt 64 (length old.stock.layout.ops)) answer
    → SubmitsAt drive who nth call before after old new answer
    → Serves drive fixed before after who nth answer was old new
serves drive only_now fixed before after who nth call answer was old new serving good is can is_call answered off s =
    let on = served_on drive only_now fixed before after who nth call old new serving good (can_of who nth is can) is_call
    answered answer off s in
    record {
      submits = submits_of drive new.drive (view_of fixed (next_moment before.one before.next) old) was
          (view_of fixed (next_moment after.one after.next) new) who nth answer is on.submits;
      served = running_is_promised drive fixed (next_moment after.one after.next) new on.serving.runs;
      serving = on.serving;
      calls = on.serving.runs.tied.calls ∙ sym serving.runs.tied.calls;
    }
