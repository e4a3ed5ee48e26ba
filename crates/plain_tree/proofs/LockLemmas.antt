-- What a lock keeps.
use Rattle.std.proofs.Common.{◌≡◌, [], ◌∷◌, Bool, true, false, cond, List, Option, Some, None, refl, sym, ap, ◌∙◌, subst}
use Rattle.tape_types.specs.declared.moments.Moment.{Moment}
use Rattle.plain_tree.specs.declared.calls.Answer.TheVariants as answers
use Rattle.plain_tree.specs.declared.calls.Call.{Call}
use Rattle.plain_tree.specs.declared.calls.Call.TheVariants.{Mkdir, Create, Write, Truncate, Read, Listing, Stat, Rename, Remove, Setx, Getx, Dropx, Readonly, LockVolume, UnlockVolume, PermLock, Sync}
use Rattle.plain_tree.specs.declared.calls.LockState.{LockState}
use Rattle.plain_tree.specs.declared.calls.LockState.TheVariants as locks
use Rattle.plain_tree.specs.declared.calls.Placed.{Placed}
use Rattle.plain_tree.specs.declared.calls.Refusal.{Refusal}
use Rattle.plain_tree.specs.declared.calls.Refusal.TheVariants as refusals
use Rattle.std.specs.Prelude.{eqb, length}
use Rattle.plain_tree.specs.Cells.{resized}
use Rattle.plain_tree.specs.Paths.{parent_of, same_path}
use Rattle.plain_tree.specs.Tree.{Tree, cells_at, changed_at, change_noted, file_changed, flag_at, flagged, has_value, key_set, moved, same_flag, touch}
use Rattle.plain_tree.specs.Refusals.{is_locked, is_sealed, lock_refusal, only_asks, or_else, refusal_of, refusal_within, sets_lock}
use Rattle.plain_tree.specs.Calls.{after, after_done, after_unless, answer, answer_unless, value_of}
use Rattle.plain_tree.specs.History.{Calls, replay}
use Rattle.plain_tree.specs.Laws.{LocksHold}
use Rattle.plain_tree.proofs.LawLemmas.{history_keeps}

-- under a lock a call that changes something but the lock is refused for the lock
refused_by_lock : (state : LockState) (call : Call) → is_locked state ≡ true → only_asks call ≡ false → sets_lock call ≡ false → lock_refusal state call ≡ Some refusals.Locked
refused_by_lock state call held asks sets = rw (asks, sets, held) refl

refused : (t : Tree) (call : Call) → is_locked t.lock ≡ true → only_asks call ≡ false → sets_lock call ≡ false → answer t call ≡ answers.Refused refusals.Locked
refused t call held asks sets = ap (λ r. answer_unless (or_else r (refusal_within t call)) (value_of t call)) (refused_by_lock t.lock call held asks sets)

-- a call that only asks leaves the tree, refused or not
asks_done : (t : Tree) (call : Call) (at : Moment) → only_asks call ≡ true → after_done t call at ≡ t
asks_done t (Read path offset count) at is = refl
asks_done t (Listing path) at is = refl
asks_done t (Stat path) at is = refl
asks_done t (Getx path key) at is = refl
asks_done t Sync at is = refl
asks_done t (Mkdir path) at is = absurd (cc is)
asks_done t (Create path) at is = absurd (cc is)
asks_done t (Write path offset bytes) at is = absurd (cc is)
asks_done t (Truncate path size) at is = absurd (cc is)
asks_done t (Rename from to) at is = absurd (cc is)
asks_done t (Remove path) at is = absurd (cc is)
asks_done t (Setx path key bytes) at is = absurd (cc is)
asks_done t (Dropx path key) at is = absurd (cc is)
asks_done t (Readonly path on) at is = absurd (cc is)
asks_done t LockVolume at is = absurd (cc is)
asks_done t UnlockVolume at is = absurd (cc is)
asks_done t PermLock at is = absurd (cc is)

either : (r : Option Refusal) (t next : Tree) → next ≡ t → after_unless r next t ≡ t
either None t next e = e
either (Some refusal) t next e = refl

only_asked : (t : Tree) (call : Call) (at : Moment) → only_asks call ≡ true → after t call at ≡ t
only_asked t call at is = either (refusal_of t call) t (after_done t call at) (asks_done t call at is)

locked : (t : Tree) (call : Call) (at : Moment) → is_locked t.lock ≡ true → sets_lock call ≡ false → after t call at ≡ t
locked t call at held sets =
    elim (only_asks call) as (λ b. only_asks call ≡ b → after t call at ≡ t) [
      | true ↦ λ is. only_asked t call at is
      | false ↦ λ is. ap (λ r. after_unless (or_else r (refusal_within t call)) (after_done t call at) t) (refused_by_lock t.lock call held is sets)
    ] refl

-- what is locked for ever is locked
sealed_locked : (state : LockState) → is_sealed state ≡ true → is_locked state ≡ true
sealed_locked locks.Absent is = absurd (cc is)
sealed_locked locks.Unlocked is = absurd (cc is)
sealed_locked locks.Locked is = absurd (cc is)
sealed_locked locks.PermLocked is = refl

sealed_sets : (state : LockState) (call : Call) → is_sealed state ≡ true → only_asks call ≡ false → sets_lock call ≡ true → lock_refusal state call ≡ Some refusals.Locked
sealed_sets state call held asks sets = rw (asks, sets, held) refl

sealed : (t : Tree) (call : Call) (at : Moment) → is_sealed t.lock ≡ true → after t call at ≡ t
sealed t call at held =
    elim (sets_lock call) as (λ b. sets_lock call ≡ b → after t call at ≡ t) [
      | false ↦ λ sets. locked t call at (sealed_locked t.lock held) sets
      | true ↦ λ sets. elim (only_asks call) as (λ b. only_asks call ≡ b → after t call at ≡ t) [
        | true ↦ λ is. only_asked t call at is
        | false ↦ λ is. ap (λ r. after_unless (or_else r (refusal_within t call)) (after_done t call at) t) (sealed_sets t.lock call held is sets)
      ] refl
    ] refl

for_ever : (calls : Calls) (history : List Placed) (t : Tree) → is_sealed t.lock ≡ true → replay calls t history ≡ t
for_ever calls history t held =
    history_keeps (λ next. next ≡ t) (λ next call at same. sealed next call at (ap (λ (t : Tree). is_sealed t.lock) same ∙ held) ∙ same) calls history t refl

-- ---- what changes the lock

lock_done : (t : Tree) (call : Call) (at : Moment) → sets_lock call ≡ false → (after_done t call at).lock ≡ t.lock
lock_done t (Mkdir path) at is = refl
lock_done t (Create path) at is = refl
lock_done t (Write path offset []) at is = refl
lock_done t (Write path offset (b ∷ bytes)) at is = refl
lock_done t (Truncate path n) at is = elim (eqb n (length (cells_at t.nodes path))) as (λ b. (cond b t (record t { nodes = changed_at (file_changed (λ cells. resized cells n) at) path t.nodes })).lock ≡ t.lock) [ true ↦ refl | false ↦ refl ]
lock_done t (Read path offset count) at is = refl
lock_done t (Listing path) at is = refl
lock_done t (Stat path) at is = refl
lock_done t (Rename from to) at is = elim (same_path from to) as (λ b. (cond b t (record t { nodes = touch at (parent_of to) (touch at (parent_of from) (changed_at (change_noted at) to (moved from to t.nodes))) })).lock ≡ t.lock) [ true ↦ refl | false ↦ refl ]
lock_done t (Remove path) at is = refl
lock_done t (Setx path key bytes) at is = elim (has_value t.nodes path key bytes) as (λ b. (cond b t (record t { nodes = changed_at (key_set key bytes at) path t.nodes })).lock ≡ t.lock) [ true ↦ refl | false ↦ refl ]
lock_done t (Getx path key) at is = refl
lock_done t (Dropx path key) at is = refl
lock_done t (Readonly path on) at is = elim (same_flag (flag_at t.nodes path) on) as (λ b. (cond b t (record t { nodes = changed_at (flagged on at) path t.nodes })).lock ≡ t.lock) [ true ↦ refl | false ↦ refl ]
lock_done t LockVolume at is = absurd (cc is)
lock_done t UnlockVolume at is = absurd (cc is)
lock_done t PermLock at is = absurd (cc is)
lock_done t Sync at is = refl

lock_stays : (t : Tree) (call : Call) (at : Moment) → sets_lock call ≡ false → (after t call at).lock ≡ t.lock
lock_stays t call at is =
    elim (refusal_of t call) as (λ r. (after_unless r (after_done t call at) t).lock ≡ t.lock) [ None ↦ lock_done t call at is | Some refusal ↦ refl ]

-- what a lock keeps
pub locks_hold : LocksHold
locks_hold = record { refused = refused; locked = locked; sealed = sealed; for_ever = for_ever; only_asked = only_asked; lock_stays = lock_stays }
