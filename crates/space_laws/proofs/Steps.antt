-- Which placements are steps of the space, and which aren't.
use Rattle.std.proofs.Common.{◌≡◌, Bool, true, false, eqb, cond, [], ◌∷◌, length, Option, Some, None, refl, ap, ◌∙◌}
use Rattle.tape_types.specs.declared.moments.Moment.{Moment}
use Rattle.plain_tree.specs.Calls.{after, after_done as tree_after_done, after_unless, unlocked}
use Rattle.plain_tree.specs.Paths.{same_path}
use Rattle.plain_tree.specs.Refusals.{refusal_of}
use Rattle.plain_tree.specs.Tree.{Tree, cells_at, flag_at, has_value, same_flag}
use Rattle.plain_tree.specs.declared.calls.Call.{Call}
use Rattle.plain_tree.specs.declared.calls.Call.TheVariants.{LockVolume, Readonly, Rename, Setx, Truncate, UnlockVolume, Write}
use Rattle.plain_tree.specs.declared.calls.Fate.TheVariants as fates
use Rattle.plain_tree.specs.declared.calls.LockState.{LockState}
use Rattle.plain_tree.specs.declared.calls.LockState.TheVariants as locks
use Rattle.plain_tree.specs.declared.calls.Placed.{Placed}
use Rattle.plain_tree.specs.declared.calls.Refusal.{Refusal}
use Rattle.space_laws.specs.Laws.{AreSteps, AreStill}
use Rattle.space_laws.proofs.PlainAsks.{ask_plainly}
use Rattle.space_laws.specs.Space.{Ask, change, nothing}
use Rattle.space_laws.specs.Space as space
use Rattle.space_laws.specs.Standing.{Given, Standing, after_done, after_placed, ask_of, ask_unless, ask_unrefused, can_unlock, files_after, rules}

-- what a plan admits of data, of a sync's index and at a close is what the space admits
pub are_steps : AreSteps
are_steps = record { stored = λ v on s ops wanted bytes. refl; indexed = λ v on s ops text. refl; closed = λ v on s ops text. refl }

void : (g : Given) (on : Bool) (st : Standing) (p : Placed) → p.fate ≡ fates.Void → after_placed g on st p ≡ st
void g on st p is = rw is refl

-- ---- what a call leaves that asks nothing

by_test : (b : Bool) (x : Standing) (Same : Type 0) → cond b nothing change ≡ nothing → (b ≡ true → Same) → Same
by_test true x Same e h = h refl
by_test false x Same e h = absurd cc

-- a lock that stands, and an unlock without one, leave the lock state
lock_stands : (state : LockState) → cond (can_unlock state) nothing change ≡ nothing → locks.Locked ≡ state
lock_stands locks.Locked e = refl
lock_stands _ e = absurd cc

none_to_unlock : (state : LockState) → cond (can_unlock state) change nothing ≡ nothing → unlocked state ≡ state
none_to_unlock locks.Locked e = absurd cc
none_to_unlock _ e = refl

with_lock : (t : Tree) (state : LockState) → state ≡ t.lock → record t { lock = state } ≡ t
with_lock t state e = ap (λ (l : LockState). record t { lock = l }) e

-- a call that the tree doesn't refuse leaves it
tree_stays : (g : Given) (st : Standing) (call : Call) (at : Moment) → ask_unrefused g st call at ≡ nothing → tree_after_done st.tree call at ≡ st.tree
tree_stays g st (Write path offset []) at e = refl
tree_stays g st (Write path offset (b ∷ bytes)) at e = absurd cc
tree_stays g st (Truncate path size) at e = by_test (eqb size (length (cells_at st.tree.nodes path))) st _ e (λ same. rw same refl)
tree_stays g st (Rename from to) at e = by_test (same_path from to) st _ e (λ same. rw same refl)
tree_stays g st (Setx path key bytes) at e = by_test (has_value st.tree.nodes path key bytes) st _ e (λ same. rw same refl)
tree_stays g st (Readonly path on) at e = by_test (same_flag (flag_at st.tree.nodes path) on) st _ e (λ same. rw same refl)
tree_stays g st LockVolume at e = with_lock st.tree locks.Locked (lock_stands st.tree.lock e)
tree_stays g st UnlockVolume at e = with_lock st.tree (unlocked st.tree.lock) (none_to_unlock st.tree.lock e)
tree_stays g st _ at e = cc

tree_kept : (g : Given) (st : Standing) (call : Call) (at : Moment) (r : Option Refusal) → refusal_of st.tree call ≡ r → ask_unless r (ask_unrefused g st call at) ≡ nothing
    → after_unless r (tree_after_done st.tree call at) st.tree ≡ st.tree
tree_kept g st call at None is e = tree_stays g st call at e
tree_kept g st call at (Some refusal) is e = refl

still : (g : Given) (on : Bool) (st : Standing) (call : Call) (at : Moment) → ask_of g st call at ≡ nothing → after_done g on st call at ≡ st
still g on st call at e =
    let same : after st.tree call at ≡ st.tree = tree_kept g st call at (refusal_of st.tree call) refl e in
    ap (λ (ask : Ask). record { tree = after st.tree call at; files = files_after g on st call ask; space = space.after (rules g) on st.space ask }) e
    ∙ ap (λ t. record { tree = t; files = files_after g on st call nothing; space = st.space }) same
    ∙ ap (λ f. record { tree = st.tree; files = f; space = st.space }) (ask_plainly.files_still g on st call)

-- a void placement, and a call that asks nothing of the tape, leave what stands
pub are_still : AreStill
are_still = record { void = void; nothing_asked = still }
