-- A sealed volume stands after each history as it was mounted.
use Rattle.std.proofs.Common.{◌≡◌, ℕ, Bool, true, false, ◌+◌, List, [], ◌∷◌, ◌++◌, fold, take, Option, Some, None, refl, ap, ◌∙◌}
use Rattle.std.specs.List.{enumerate_from, flat_map}
use Rattle.tape_types.specs.declared.moments.Moment.{Moment}
use Rattle.plain_tree.specs.History.{call_at}
use Rattle.plain_tree.specs.Refusals.{is_sealed, lock_refusal, only_asks, or_else, refusal_of, refusal_within, sets_lock}
use Rattle.plain_tree.specs.declared.calls.Call.{Call}
use Rattle.plain_tree.specs.declared.calls.Call.TheVariants as calls
use Rattle.plain_tree.specs.declared.calls.Fate.{Fate}
use Rattle.plain_tree.specs.declared.calls.Fate.TheVariants as fates
use Rattle.plain_tree.specs.declared.calls.LockState.{LockState}
use Rattle.plain_tree.specs.declared.calls.LockState.TheVariants as locks
use Rattle.plain_tree.specs.declared.calls.Placed.{Placed}
use Rattle.plain_tree.specs.declared.calls.Refusal.{Refusal}
use Rattle.plain_tree.specs.declared.calls.Refusal.TheVariants as refusals
use Rattle.tape_layout.specs.declared.ops.Op.{Op}
use Rattle.space_laws.specs.Laws.{SealedVolumesStay}
use Rattle.space_laws.specs.Space.{Ask, nothing, ops_of}
use Rattle.space_laws.specs.Standing.{Given, Standing, admitted_at, after_placed, ask_of, ask_unless, ask_unrefused, asked, first_standing, is_on, rules, standing}
use Rattle.space_laws.proofs.Steps.{are_still}

-- ---- what a call asks of a sealed tree, of which nothing has changed

-- a call that only asks asks nothing of the tape
looks : (g : Given) (st : Standing) (call : Call) (at : Moment) → st.space.changed ≡ false → only_asks call ≡ true
    → ask_unrefused g st call at ≡ nothing
looks g st (calls.Read path offset count) at still is = refl
looks g st (calls.Listing path) at still is = refl
looks g st (calls.Stat path) at still is = refl
looks g st (calls.Getx path key) at still is = refl
looks g st calls.Sync at still is = rw still refl
looks g st _ at still is = absurd (cc is)

unless_nothing : (r : Option Refusal) (ask : Ask) → ask ≡ nothing → ask_unless r ask ≡ nothing
unless_nothing None ask e = e
unless_nothing (Some refusal) ask e = refl

-- and each other one is refused
refused : (state : LockState) (call : Call) → is_sealed state ≡ true → only_asks call ≡ false → lock_refusal state call ≡ Some refusals.Locked
refused locks.PermLocked call held asks =
    elim (sets_lock call) as (λ b. sets_lock call ≡ b → lock_refusal locks.PermLocked call ≡ Some refusals.Locked) [
      | true ↦ λ sets. rw (asks, sets) refl
      | false ↦ λ sets. rw (asks, sets) refl
    ] refl
refused _ call held asks = absurd (cc held)

asks_nothing : (g : Given) (st : Standing) (call : Call) (at : Moment) → is_sealed st.tree.lock ≡ true → st.space.changed ≡ false
    → ask_of g st call at ≡ nothing
asks_nothing g st call at held still =
    elim (only_asks call) as (λ b. only_asks call ≡ b → ask_of g st call at ≡ nothing) [
      | true ↦ λ is. unless_nothing (refusal_of st.tree call) (ask_unrefused g st call at) (looks g st call at still is)
      | false ↦ λ is. ap (λ r. ask_unless (or_else r (refusal_within st.tree call)) (ask_unrefused g st call at)) (refused st.tree.lock call held is)
    ] refl

-- ---- so no placement is a step

module _ (g : Given) (held : is_sealed g.tree.lock ≡ true) where
  placed_still : (on : Bool) (p : Placed) (fate : Fate) (call : Option Call) → p.fate ≡ fate → call_at g.calls p ≡ call
      → after_placed g on (first_standing g) p ≡ first_standing g
  placed_still on p fates.Void call f e = rw f refl
  placed_still on p fates.Done None f e = rw (f, e) refl
  placed_still on p fates.Done (Some call) f e =
      let same = are_still.nothing_asked g on (first_standing g) call p.at (asks_nothing g (first_standing g) call p.at held refl) in
      rw (f, e) same

  all_still : (on : Option ℕ) (ps : List Placed) (k : ℕ)
      → fold (λ st e. after_placed g (is_on g.mounted on e.0) st e.1) (first_standing g) (enumerate_from k ps) ≡ first_standing g
  all_still on [] k = refl
  all_still on (p ∷ ps) k =
      ap (λ st. fold (λ st e. after_placed g (is_on g.mounted on e.0) st e.1) st (enumerate_from (k + 1) ps))
      (placed_still (is_on g.mounted on k) p p.fate (call_at g.calls p) refl refl)
      ∙ all_still on ps (k + 1)

  stands : (on : Option ℕ) (history : List Placed) (k : ℕ) → standing g on history k ≡ first_standing g
  stands on history k = all_still on (take k history) 0

  asks : (on : Option ℕ) (history : List Placed) (k : ℕ) (call : Call) (at : Moment) → asked g on history k call at ≡ nothing
  asks on history k call at =
      ap (λ st. ask_of g st call at) (stands on history k) ∙ asks_nothing g (first_standing g) call at held refl

  -- ---- and none is admitted

  admits_none : (on : Option ℕ) (history : List Placed) (k : ℕ) (p : Placed) (fate : Fate) (call : Option Call) → p.fate ≡ fate
      → call_at g.calls p ≡ call → admitted_at g on history k p ≡ []
  admits_none on history k p fates.Void call f e = rw f refl
  admits_none on history k p fates.Done None f e = rw (f, e) refl
  admits_none on history k p fates.Done (Some call) f e =
      let none = ap (λ ask. ops_of (rules g) (is_on g.mounted on k) (standing g on history k).space ask) (asks on history k call p.at) in
      rw (f, e) none

  all_none : (on : Option ℕ) (history ps : List Placed) (k : ℕ) → flat_map (λ e. admitted_at g on history e.0 e.1) (enumerate_from k ps) ≡ []
  all_none on history [] k = refl
  all_none on history (p ∷ ps) k =
      ap (λ (ops : List Op). ops ++ flat_map (λ e. admitted_at g on history e.0 e.1) (enumerate_from (k + 1) ps))
      (admits_none on history k p p.fate (call_at g.calls p) refl refl)
      ∙ all_none on history ps (k + 1)

-- a sealed volume stands after each history as it was mounted: nothing is asked of the tape, and nothing is admitted
pub sealed_volumes_stay : SealedVolumesStay
sealed_volumes_stay = record {
  stands = λ g on history k held. stands g held on history k;
  asks = λ g on history k call at held. asks g held on history k call at;
  admits = λ g on history held. all_none g held on history history 0;
}
