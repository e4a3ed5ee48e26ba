-- What stands goes on with the history, and each placement keeps a volume safe with it.
use Rattle.promises.proofs.CrashLaws.Admits.{index_ops, plain_ops}
use Rattle.tape_layout.specs.Ops.{end_of, puts}
use Rattle.promises.specs.ImageLaws.Plans.{index_jobs}
use Rattle.std.proofs.Common.{◌≡◌, ℕ, ◌+◌, ◌-◌, ◌^◌, ◌≤◌, ◌<◌, Bool, true, false, cond, nat_le, List, [], ◌∷◌, ◌++◌, length, Option, Some, None, refl, sym, ap, subst, ◌∙◌, arith}
use Rattle.std.specs.Prelude.{◌||◌, take}
use Rattle.std.specs.List.{enumerate_from, fold, list_any}
use Rattle.std.proofs.lemmas.Bool.Decides.{nat_tests}
use Rattle.std.proofs.lemmas.List.{take_all}
use Rattle.tape_types.specs.declared.cartridges.Cartridge.{Cartridge}
use Rattle.tape_types.specs.declared.cartridges.Limits.{Limits}
use Rattle.tape_drive.specs.declared.drive.Drive.{Ghosts}
use Rattle.tape_layout.specs.declared.ops.Op.{Op}
use Rattle.plain_tree.specs.History.{call_at}
use Rattle.plain_tree.specs.declared.calls.Call.{Call}
use Rattle.plain_tree.specs.declared.calls.Call.TheVariants.{Sync}
use Rattle.plain_tree.specs.declared.calls.Fate.TheVariants as fates
use Rattle.plain_tree.specs.declared.calls.Placed.{Placed}
use Rattle.session_script.specs.Grammar.{calls_of}
use Rattle.session_script.specs.declared.logs.Event.{Event}
use Rattle.head_queue.specs.EventLaws.Waiting.{waiting_op}
use Rattle.head_queue.specs.EventLaws.Trail.{after_all}
use Rattle.space_laws.specs.Mount.{MountFacts}
use Rattle.space_laws.specs.Space.{Ask, Space, index, nothing, Rules, part_for}
use Rattle.space_laws.specs.Space as space
use Rattle.space_laws.specs.Standing.{Given, Standing, after_done, after_placed, ask_of, asked, first_standing, is_on, rules, standing, sync_text}
use Rattle.space_laws.proofs.Steps.{are_still}
use Rattle.space_laws.proofs.TreeLaw.{are_replays}
use Rattle.promises.specs.ServingPromise.Mount.{facts_of}
use Rattle.promises.specs.ServingPromise.Served.{Fixed, View}
use Rattle.promises.specs.ServingPromise.Steps.{does_dp_flush, on_after}
use Rattle.promises.specs.CrashLaws.Changes.{AreQuiet, HasHeaded, IsPlaced, events_of_sync}
use Rattle.promises.specs.CrashLaws.Laws.{AsksNoIndex, CallsAreSafe, IsNextDue, IsSafeNow, IsStill, StandingsGoOn, next_ask, IsSafeWith, stored_jobs}
use Rattle.promises.specs.CrashLaws.Safe.{IsSafe, given_by, space_now, standing_now, Follows, Planned, with_jobs}
use Rattle.promises.proofs.CrashLaws.Stepped.{on_already, on_never, on_turned}
use Rattle.promises.proofs.CrashLaws.Submitted.{submissions_are_safe}

-- ---- what stands

-- a placement at the end is the last that counts
fold_last : (F : Standing → ℕ × Placed → Standing) (st : Standing) (k : ℕ) (ps : List Placed) (p : Placed)
    → fold F st (enumerate_from k (ps ++ p ∷ [])) ≡ F (fold F st (enumerate_from k ps)) (k + length ps, p)
fold_last F st k [] p = ap (λ (n : ℕ). F st (n, p)) (omega arith)
fold_last F st k (q ∷ ps) p =
    fold_last F (F st (k, q)) (k + 1) ps p
    ∙ ap (λ (n : ℕ). F (fold F (F st (k, q)) (enumerate_from (k + 1) ps)) (n, p)) (let e : k + 1 + length ps ≡ k + length (q ∷ ps) = omega arith in e)

whole : (ps : List Placed) → take (length ps) ps ≡ ps
whole ps = take_all (length ps) ps (omega arith)

abbrev step : Given → Option ℕ → Standing → ℕ × Placed → Standing
step g on st e = after_placed g (is_on g.mounted on e.0) st e.1

stands_on : (g : Given) (on : Option ℕ) (history : List Placed) (p : Placed)
    → standing g on (history ++ p ∷ []) (length (history ++ p ∷ []))
    ≡ after_placed g (is_on g.mounted on (length history)) (standing g on history (length history)) p
stands_on g on history p =
    ap (λ (ps : List Placed). fold (step g on) (first_standing g) (enumerate_from 0 ps)) (whole (history ++ p ∷ []))
    ∙ fold_last (step g on) (first_standing g) 0 history p
    ∙ ap (λ (n : ℕ). after_placed g (is_on g.mounted on n) (fold (step g on) (first_standing g) (enumerate_from 0 history)) p)
    (let e : 0 + length history ≡ length history = omega arith in e)
    ∙ ap (λ (ps : List Placed). after_placed g (is_on g.mounted on (length history)) (fold (step g on) (first_standing g) (enumerate_from 0 ps)) p) (sym (whole history))

not_yet : (m : MountFacts) (n k : ℕ) → k < n → is_on m (Some n) k ≡ is_on m None k
not_yet m n k less = ap (λ b. m.ip_on || b) (let late : nat_le n k ≡ false = grind (arith, nat_tests) in late)

-- from the end of the history on is nowhere yet
turned : (g : Given) (n : ℕ) (k : ℕ) (ps : List Placed) (st : Standing) → k + length ps ≤ n
    → fold (λ s e. after_placed g (is_on g.mounted (Some n) e.0) s e.1) st (enumerate_from k ps)
    ≡ fold (λ s e. after_placed g (is_on g.mounted None e.0) s e.1) st (enumerate_from k ps)
turned g n k [] st le = refl
turned g n k (p ∷ ps) st le =
    ap (λ b. fold (λ s e. after_placed g (is_on g.mounted (Some n) e.0) s e.1) (after_placed g b st p) (enumerate_from (k + 1) ps)) (not_yet g.mounted n k (omega (arith, le)))
    ∙ turned g n (k + 1) ps (after_placed g (is_on g.mounted None k) st p) (omega (arith, le))

turned_at_end : (g : Given) (history : List Placed) → standing g (Some (length history)) history (length history) ≡ standing g None history (length history)
turned_at_end g history =
    turned g (length history) 0 (take (length history) history) (first_standing g) (omega (arith, ap (λ (ps : List Placed). length ps) (whole history)))

abbrev given_at : {D : Type 0} → Limits → Fixed D → Given
given_at limits f = record { calls = calls_of f.script; tree = f.tree; mounted = facts_of f.mounted; limits = limits }

module _ {D : Type 0} where
  placed_now : (limits : Limits) (old new : View D) (p : Placed) → new.fixed ≡ old.fixed → new.on ≡ old.on → new.history ≡ old.history ++ p ∷ []
      → standing_now limits new
      ≡ after_placed (given_by limits old) (is_on (facts_of old.fixed.mounted) old.on (length old.history)) (standing_now limits old) p
  placed_now limits old new p fixed on history =
      ap (λ (f : Fixed D). standing (given_at limits f) new.on new.history (length new.history)) fixed
      ∙ ap (λ (o : Option ℕ). standing (given_at limits old.fixed) o new.history (length new.history)) on
      ∙ ap (λ (h : List Placed). standing (given_at limits old.fixed) old.on h (length h)) history
      ∙ stands_on (given_by limits old) old.on old.history p

  on_by : (limits : Limits) (old : View D) (added : List Event) (on : Option ℕ) → old.on ≡ on
      → standing (given_by limits old) (on_after old added) old.history (length old.history) ≡ standing (given_by limits old) on old.history (length old.history)
  on_by limits old added (Some first) is = ap (λ (o : Option ℕ). standing (given_by limits old) o old.history (length old.history)) (on_already old added first is)
  on_by limits old added None is = by (list_any (does_dp_flush (waiting_op (after_all old.events))) added) refl
    where
      by : (b : Bool) → list_any (does_dp_flush (waiting_op (after_all old.events))) added ≡ b
          → standing (given_by limits old) (on_after old added) old.history (length old.history) ≡ standing (given_by limits old) None old.history (length old.history)
      by true flush =
          ap (λ (o : Option ℕ). standing (given_by limits old) o old.history (length old.history)) (on_turned old added is flush)
          ∙ turned_at_end (given_by limits old) old.history
      by false none = ap (λ (o : Option ℕ). standing (given_by limits old) o old.history (length old.history)) (on_never old added is none)

  stepped_now : (limits : Limits) (old new : View D) (added : List Event) → new.fixed ≡ old.fixed → new.history ≡ old.history → new.on ≡ on_after old added
      → standing_now limits new ≡ standing_now limits old
  stepped_now limits old new added fixed history on =
      ap (λ (f : Fixed D). standing (given_at limits f) new.on new.history (length new.history)) fixed
      ∙ ap (λ (o : Option ℕ). standing (given_at limits old.fixed) o new.history (length new.history)) on
      ∙ ap (λ (h : List Placed). standing (given_at limits old.fixed) (on_after old added) h (length h)) history
      ∙ on_by limits old added old.on refl

  -- what stands goes by what is fixed, by placement and by the history alone
  pub same_standing : (limits : Limits) (old new : View D) → new.fixed ≡ old.fixed → new.on ≡ old.on → new.history ≡ old.history
      → standing_now limits new ≡ standing_now limits old
  same_standing limits old new fixed on history =
      ap (λ (f : Fixed D). standing (given_at limits f) new.on new.history (length new.history)) fixed
      ∙ ap (λ (o : Option ℕ). standing (given_at limits old.fixed) o new.history (length new.history)) on
      ∙ ap (λ (h : List Placed). standing (given_at limits old.fixed) old.on h (length h)) history

  -- what stands behind a placement is what its call does to what stood before
  pub standings_go_on : StandingsGoOn D
  standings_go_on = record { begins = λ limits fixed next. refl; placed = placed_now; stepped = stepped_now }

-- ---- placements

-- no ops more
pub follows_none : (p : Planned) → Follows p p []
follows_none p = record { labels = refl; jobs = []; ops = refl; made = refl }

follows_stored : (p : Planned) (v : Rules) (on : Bool) (s : Space) (wanted : Bool) (bytes : List ℕ)
    → Follows p (with_jobs (stored_jobs v on s wanted bytes) p) (space.ops_of v on s (space.store wanted bytes))
follows_stored p v on s wanted bytes = record {
  labels = refl;
  jobs = stored_jobs v on s wanted bytes;
  ops = plain_ops (puts v.block_size (part_for v on s wanted bytes) (end_of (part_for v on s wanted bytes) s.ends) bytes);
  made = refl;
}

done_is : (g : Given) (on : Bool) (st : Standing) (p : Placed) (call : Call) → p.fate ≡ fates.Done → call_at g.calls p ≡ Some call
    → after_placed g on st p ≡ after_done g on st call p.at
done_is g on st p call fate is = rw (fate, is) refl

void_is : (g : Given) (on : Bool) (st : Standing) (p : Placed) → p.fate ≡ fates.Void → after_placed g on st p ≡ st
void_is g on st p is = are_still.void g on st p is

none_is : (g : Given) (on : Bool) (st : Standing) (p : Placed) → p.fate ≡ fates.Done → call_at g.calls p ≡ None → after_placed g on st p ≡ st
none_is g on st p fate is = rw (fate, is) refl

module _ {D : Type 0} (drive : Ghosts D)
    (only_now : (d : D) (image : Cartridge) → drive.commands d < 2 ^ 64 - 1 → drive.left_since d (drive.commands d) image → drive.leaves d image)
    (planned : Planned) (limits : Limits) (old new : View D) (p : Placed) where
  -- whether files may go to the index partition
  abbrev on_now : Bool
  on_now = is_on (facts_of old.fixed.mounted) old.on (length old.history)

  abbrev g : Given
  g = given_by limits old

  abbrev st : Standing
  st = standing_now limits old

  stands : (asks : List Op) (added : List Event) → IsPlaced drive old new p asks added → standing_now limits new ≡ after_placed g on_now st p
  stands asks added placed = standings_go_on.placed limits old new p placed.asks.fixed placed.asks.on placed.history

  -- where what stands stays, so does the tree
  still : standing_now limits new ≡ st → IsStill old new
  still same =
      sym (are_replays (given_by limits new) new.on new.history (length new.history)) ∙ ap (λ (s : Standing). s.tree) same
      ∙ are_replays g old.on old.history (length old.history)

  to_now : (q : Planned) (s : Space) → space_now limits new ≡ s → IsSafe drive q s new → IsSafeNow drive q limits new
  to_now q s is safe = subst (λ (x : Space). IsSafe drive q x new) (sym is) safe

  -- where what stands stays and nothing is asked
  pub same_safe : (added : List Event) → IsSafeNow drive planned limits old → IsPlaced drive old new p [] added → AreQuiet added → standing_now limits new ≡ st
      → IsSafeNow drive planned limits new
  same_safe added safe placed quiet same =
      to_now planned st.space (ap (λ (s : Standing). s.space) same)
      ((submissions_are_safe drive only_now).still planned st.space old new p added safe placed quiet (still same))

  -- a call that there isn't is none
  pub none_safe : (added : List Event) → IsSafeNow drive planned limits old → IsPlaced drive old new p [] added → AreQuiet added → p.fate ≡ fates.Done
      → call_at g.calls p ≡ None → IsSafeNow drive planned limits new
  none_safe added safe placed quiet fate is = same_safe added safe placed quiet (stands [] added placed ∙ none_is g on_now st p fate is)

  -- a void placement keeps a volume safe
  pub void_safe : (added : List Event) → IsSafeNow drive planned limits old → IsPlaced drive old new p [] added → AreQuiet added → p.fate ≡ fates.Void
      → IsSafeNow drive planned limits new
  void_safe added safe placed quiet fate = same_safe added safe placed quiet (stands [] added placed ∙ void_is g on_now st p fate)

  -- with nothing asked all stays
  same_by : (call : Call) (asks : List Op) (added : List Event) → IsPlaced drive old new p asks added → p.fate ≡ fates.Done → call_at g.calls p ≡ Some call
      → ask_of g st call p.at ≡ nothing → standing_now limits new ≡ st
  same_by call asks added placed fate is none =
      stands asks added placed ∙ done_is g on_now st p call fate is ∙ are_still.nothing_asked g on_now st call p.at none

  space_by : (call : Call) (ask : Ask) (asks : List Op) (added : List Event) → IsPlaced drive old new p asks added → p.fate ≡ fates.Done
      → call_at g.calls p ≡ Some call → ask_of g st call p.at ≡ ask → space_now limits new ≡ space.after (rules g) on_now st.space ask
  space_by call ask asks added placed fate is asked_is =
      ap (λ (s : Standing). s.space) (stands asks added placed ∙ done_is g on_now st p call fate is)
      ∙ ap (λ (a : Ask). space.after (rules g) on_now st.space a) asked_is

  -- a placement that is done and asks for no index keeps a volume safe
  pub done_safe : (call : Call) (added : List Event) (ask : Ask) → ask_of g st call p.at ≡ ask → IsSafeNow drive planned limits old
      → IsPlaced drive old new p (space.ops_of (rules g) on_now st.space ask) added → AreQuiet added → p.fate ≡ fates.Done → call_at g.calls p ≡ Some call
      → AsksNoIndex ask → IsSafeWith drive planned limits (space.ops_of (rules g) on_now st.space ask) new
  done_safe call added space.nothing asked_is safe placed quiet fate is none =
      (planned, follows_none planned, same_safe added safe placed quiet (same_by call [] added placed fate is asked_is))
  done_safe call added space.change asked_is safe placed quiet fate is none = (
    planned,
    follows_none planned,
    to_now planned (record st.space { changed = true }) (space_by call space.change [] added placed fate is asked_is)
        ((submissions_are_safe drive only_now).changed planned st.space old new p added safe placed quiet),
  )
  done_safe call added (space.store wanted bytes) asked_is safe placed quiet fate is none = (
    with_jobs (stored_jobs (rules g) on_now st.space wanted bytes) planned,
    follows_stored planned (rules g) on_now st.space wanted bytes,
    to_now (with_jobs (stored_jobs (rules g) on_now st.space wanted bytes) planned) (space.after (rules g) on_now st.space (space.store wanted bytes))
        (space_by call (space.store wanted bytes) (space.ops_of (rules g) on_now st.space (space.store wanted bytes)) added placed fate is asked_is)
        ((submissions_are_safe drive only_now).stored planned st.space old new p added (rules g) (length old.history) wanted bytes safe placed quiet),
  )
  done_safe call added (space.index text) asked_is safe placed quiet fate is none = absurd none

  -- ---- a sync

  sync_asks : (b : Bool) → st.space.changed ≡ b → ask_of g st Sync p.at ≡ cond b (index (sync_text g st p.at)) nothing
  sync_asks b is = ap (λ (x : Bool). cond x (index (sync_text g st p.at)) nothing) is

  -- it leaves the tree
  sync_still : (asks : List Op) (added : List Event) → IsPlaced drive old new p asks added → p.fate ≡ fates.Done → call_at g.calls p ≡ Some Sync → IsStill old new
  sync_still asks added placed fate is =
      sym (are_replays (given_by limits new) new.on new.history (length new.history))
      ∙ ap (λ (s : Standing). s.tree) (stands asks added placed ∙ done_is g on_now st p Sync fate is)
      ∙ are_replays g old.on old.history (length old.history)

  pub synced_safe : (queues : List Event) (b : Bool) → st.space.changed ≡ b → IsSafeNow drive planned limits old
      → IsPlaced drive old new p (space.ops_of (rules g) on_now st.space (ask_of g st Sync p.at)) (events_of_sync (length old.history) old.events queues)
      → AreQuiet queues → HasHeaded new → p.fate ≡ fates.Done → call_at g.calls p ≡ Some Sync → 1 ≤ old.fixed.mounted.label.block
      → (st.space.changed ≡ true → IsNextDue planned limits old p.at)
      → IsSafeWith drive planned limits (space.ops_of (rules g) on_now st.space (ask_of g st Sync p.at)) new
  synced_safe queues true is safe placed quiet headed fate call size due =
      let added = events_of_sync (length old.history) old.events queues in
      let asks = sync_asks true is in
      let text = sync_text g st p.at in
      let more = index_jobs (rules g) st.space text (due is).0 in
      let ops = space.ops_of (rules g) on_now st.space (index text) in
      let by_ops : IsPlaced drive old new p ops added =
      subst (λ (ask : Ask). IsPlaced drive old new p (space.ops_of (rules g) on_now st.space ask) added) asks placed in
      subst (λ (ask : Ask). IsSafeWith drive planned limits (space.ops_of (rules g) on_now st.space ask) new) (sym asks) (
        with_jobs more planned,
        record { labels = refl; jobs = more; ops = index_ops (rules g) st.space text (due is).0; made = refl },
        to_now (with_jobs more planned) (space.after (rules g) on_now st.space (index text)) (space_by Sync (index text) ops added by_ops fate call asks)
            ((submissions_are_safe drive only_now).synced planned st.space old new p queues (rules g) on_now text (due is).0 safe by_ops quiet headed
            (sync_still ops added by_ops fate call) size (due is).1),
      )
  synced_safe queues false is safe placed quiet headed fate call size due =
      let added = events_of_sync (length old.history) old.events queues in
      let asks = sync_asks false is in
      let by_ops : IsPlaced drive old new p [] added =
      subst (λ (ask : Ask). IsPlaced drive old new p (space.ops_of (rules g) on_now st.space ask) added) asks placed in
      let same = same_by Sync [] added by_ops fate call asks in
      subst (λ (ask : Ask). IsSafeWith drive planned limits (space.ops_of (rules g) on_now st.space ask) new) (sym asks) (
        planned,
        follows_none planned,
        to_now planned st.space (ap (λ (s : Standing). s.space) same)
            ((submissions_are_safe drive only_now).unchanged planned st.space old new p queues safe by_ops quiet headed (still same) is),
      )

module _ {D : Type 0} (drive : Ghosts D)
    (only_now : (d : D) (image : Cartridge) → drive.commands d < 2 ^ 64 - 1 → drive.left_since d (drive.commands d) image → drive.leaves d image) where
  -- each call that is placed keeps a volume safe
  pub calls_are_safe : CallsAreSafe drive
  calls_are_safe = record {
    void = λ planned limits old new p added safe placed quiet fate. void_safe drive only_now planned limits old new p added safe placed quiet fate;
    done = λ planned limits old new p call added safe placed quiet fate is none.
        done_safe drive only_now planned limits old new p call added (next_ask limits old call p.at) refl safe placed quiet fate is none;
    synced = λ planned limits old new p queues safe placed quiet headed fate is size due.
        synced_safe drive only_now planned limits old new p queues (space_now limits old).changed refl safe placed quiet headed fate is size due;
  }
