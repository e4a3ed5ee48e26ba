-- Calls that need no room on the tape ask plainly.
use Rattle.std.proofs.Common.{◌≡◌, ℕ, Bool, true, false, eqb, cond, List, [], ◌∷◌, length, Option, Some, None, refl, sym, subst, inl, inr, ⊎_elim}
use Rattle.tape_types.specs.declared.moments.Moment.{Moment}
use Rattle.plain_tree.specs.Paths.{same_path}
use Rattle.plain_tree.specs.Refusals.{refusal_of}
use Rattle.plain_tree.specs.Tree.{cells_at, flag_at, has_value, same_flag}
use Rattle.plain_tree.specs.declared.calls.Call.{Call}
use Rattle.plain_tree.specs.declared.calls.Call.TheVariants.{Create, Dropx, LockVolume, Mkdir, PermLock, Readonly, Remove, Rename, Setx, Sync, Truncate, UnlockVolume, Write}
use Rattle.plain_tree.specs.declared.calls.Refusal.{Refusal}
use Rattle.space_laws.specs.Laws.{AskPlainly, AsksPlainly, StoresAtMost, may_lay_anew, may_need_room, may_write_index}
use Rattle.space_laws.specs.Space.{Ask, change, nothing, store}
use Rattle.space_laws.specs.Standing.{Given, Standing, ask_of, ask_unless, ask_unrefused, can_unlock, files_after}

-- ---- what is asked

by_test : (b : Bool) → AsksPlainly (cond b nothing change)
by_test true = inl refl
by_test false = inr refl

by_other : (b : Bool) → AsksPlainly (cond b change nothing)
by_other true = inr refl
by_other false = inl refl

unrefused : (g : Given) (st : Standing) (call : Call) (at : Moment) → may_need_room call ≡ false
    → AsksPlainly (ask_unrefused g st call at)
unrefused g st (Mkdir path) at other = inr refl
unrefused g st (Create path) at other = inr refl
unrefused g st (Remove path) at other = inr refl
unrefused g st (Truncate path size) at other = by_test (eqb size (length (cells_at st.tree.nodes path)))
unrefused g st (Rename from to) at other = by_test (same_path from to)
unrefused g st (Setx path key bytes) at other = by_test (has_value st.tree.nodes path key bytes)
unrefused g st (Dropx path key) at other = inr refl
unrefused g st (Readonly path on) at other = by_test (same_flag (flag_at st.tree.nodes path) on)
unrefused g st LockVolume at other = by_test (can_unlock st.tree.lock)
unrefused g st UnlockVolume at other = by_other (can_unlock st.tree.lock)
unrefused g st PermLock at other = inr refl
unrefused g st (Write path offset bytes) at other = absurd (cc other)
unrefused g st Sync at other = absurd (cc other)
unrefused g st _ at other = inl refl

unless : (r : Option Refusal) (ask : Ask) → AsksPlainly ask → AsksPlainly (ask_unless r ask)
unless None ask plain = plain
unless (Some refusal) ask plain = inl refl

asked : (g : Given) (st : Standing) (call : Call) (at : Moment) → may_need_room call ≡ false
    → AsksPlainly (ask_of g st call at)
asked g st call at other =
    unless (refusal_of st.tree call) (ask_unrefused g st call at) (unrefused g st call at other)

stores_unless : (r : Option Refusal) (ask : Ask) → StoresAtMost ask → StoresAtMost (ask_unless r ask)
stores_unless None ask most = most
stores_unless (Some refusal) ask most = inl (inl refl)

stored : (g : Given) (st : Standing) (call : Call) (at : Moment) → may_write_index call ≡ false
    → StoresAtMost (ask_of g st call at)
stored g st (Write path offset []) at other =
    stores_unless (refusal_of st.tree (Write path offset [])) nothing (inl (inl refl))
stored g st (Write path offset (b ∷ bytes)) at other =
    stores_unless (refusal_of st.tree (Write path offset (b ∷ bytes))) (ask_unrefused g st (Write path offset (b ∷ bytes)) at)
    (inr (_, b ∷ bytes, refl))
stored g st Sync at other = absurd (cc other)
stored g st call at other = inl (asked g st call at refl)

-- ---- how the files lie

files : (g : Given) (on : Bool) (st : Standing) (call : Call) (ask : Ask) → may_lay_anew call ≡ false
    → files_after g on st call ask ≡ st.files
files g on st (Write path offset bytes) ask other = absurd (cc other)
files g on st (Truncate path size) ask other = absurd (cc other)
files g on st _ ask other = refl

files_still : (g : Given) (on : Bool) (st : Standing) (call : Call) → files_after g on st call nothing ≡ st.files
files_still g on st (Write path offset bytes) = refl
files_still g on st _ = refl

-- calls that need no room on the tape ask plainly
pub ask_plainly : AskPlainly
ask_plainly = record { unrefused = unrefused; asked = asked; stored = stored; files = files; files_still = files_still }

-- ---- for use above

-- what holds of nothing and of a change holds of what is asked plainly
of_plain : (P : Ask → Type 0) → P nothing → P change → (ask : Ask) → AsksPlainly ask → P ask
of_plain P none some ask = ⊎_elim (λ (is : ask ≡ nothing). subst P (sym is) none) (λ (is : ask ≡ change). subst P (sym is) some)

-- so it holds of what a call asks that needs no room
pub of_call : (P : Ask → Type 0) → P nothing → P change → (g : Given) (st : Standing) (call : Call) (at : Moment)
    → may_need_room call ≡ false → P (ask_of g st call at)
of_call P none some g st call at other = of_plain P none some (ask_of g st call at) (asked g st call at other)

-- and what holds of every ask but that of an index holds of what a call asks that writes none
pub of_other : (P : Ask → Type 0) → P nothing → P change → ((wanted : Bool) (bytes : List ℕ) → P (store wanted bytes))
    → (g : Given) (st : Standing) (call : Call) (at : Moment) → may_write_index call ≡ false → P (ask_of g st call at)
of_other P none some stores g st call at other = ⊎_elim
    (λ (plain : AsksPlainly (ask_of g st call at)). of_plain P none some (ask_of g st call at) plain)
    (λ (run : (wanted : Bool) × (bytes : List ℕ) × (ask_of g st call at ≡ store wanted bytes)). subst P (sym run.2) (stores run.0 run.1))
    (stored g st call at other)
