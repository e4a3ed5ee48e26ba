-- What calls about attributes and flags leave, as steps.
use Rattle.std.proofs.Common.{◌≡◌, ℕ, Bool, true, false, cond, List, None, sym, ap, ◌∙◌, refl}
use mathlib.Core.Bool.{beq}
use Rattle.tape_types.specs.declared.moments.Moment.{Moment}
use Rattle.plain_tree.specs.Paths.{Path}
use Rattle.plain_tree.specs.Refusals.{refusal_of}
use Rattle.plain_tree.specs.Tree as plain
use Rattle.plain_tree.specs.declared.calls.Call.{Call}
use Rattle.plain_tree.specs.declared.calls.Call.TheVariants as asks
use Rattle.extent_map.specs.Cells.{Tape}
use Rattle.file_tree.specs.Edits.{IsAfter, KeepsOutline}
use Rattle.file_tree.specs.Tree.{FileTree, plain_of, whole}
use Rattle.space_laws.specs.Space.{change, nothing}
use Rattle.space_laws.specs.Standing.{Given, Standing, ask_unless, ask_unrefused}
use Rattle.held_volume.specs.Applied.{IsChanging, IsStill}
use Rattle.held_volume.specs.Steps.{IsSameTree}
use Rattle.held_volume.proofs.Asks.{asks_nothing, step_changes}
use Rattle.held_volume.proofs.TreeSteps.{outline_step, step_from}

-- a call that would ask nothing leaves all as it is
still : (t : FileTree) (call : Call) (at : Moment) → ((tape : Tape) (g : Given) (st : Standing) → plain_of tape t ≡ st.tree → ask_unrefused g st call at ≡ nothing) → IsStill call at t t
still t call at asked = record {
  same = refl;
  asks = λ tape g st is. ap (ask_unless (refusal_of st.tree call)) (asked tape g st is) ∙ asks_nothing (refusal_of st.tree call);
}

-- ---- attributes

module _ (t : FileTree) (path : Path) (key bytes : List ℕ) (at : Moment) where
  value_asked : (b : Bool) → ((tape : Tape) → plain.has_value (plain_of tape t).nodes path key bytes ≡ b)
      → (tape : Tape) (g : Given) (st : Standing) → plain_of tape t ≡ st.tree → ask_unrefused g st (asks.Setx path key bytes) at ≡ cond b nothing change
  value_asked b has tape g st is =
      ap (λ (p : plain.Tree). cond (plain.has_value p.nodes path key bytes) nothing change) (sym is) ∙ ap (λ b. cond b nothing change) (has tape)

  -- a key gets the bytes that it has
  pub key_still : ((tape : Tape) → plain.has_value (plain_of tape t).nodes path key bytes ≡ true) → IsStill (asks.Setx path key bytes) at t t
  key_still has = still t (asks.Setx path key bytes) at (value_asked true has)

  -- a key gets other bytes, once there is memory for them
  pub key_changes : (roomy next : FileTree) → IsSameTree t roomy → KeepsOutline roomy next → IsAfter (asks.Setx path key bytes) at roomy next
      → ((tape : Tape) → plain.has_value (plain_of tape t).nodes path key bytes ≡ false) → refusal_of (plain_of whole t) (asks.Setx path key bytes) ≡ None
      → IsChanging (asks.Setx path key bytes) at t next
  key_changes roomy next same keeps done has free =
      step_changes t next at (asks.Setx path key bytes) (λ p o c e. cc) refl (value_asked false has) free
      (step_from t roomy next (asks.Setx path key bytes) at same (outline_step roomy next keeps (asks.Setx path key bytes) at done))

  -- a key is taken out
  pub drop_changes : (next : FileTree) → KeepsOutline t next → IsAfter (asks.Dropx path key) at t next → refusal_of (plain_of whole t) (asks.Dropx path key) ≡ None → IsChanging (asks.Dropx path key) at t next
  drop_changes next keeps done free =
      step_changes t next at (asks.Dropx path key) (λ p o c e. cc) refl (λ tape g st is. refl) free (outline_step t next keeps (asks.Dropx path key) at done)

-- ---- flags

module _ (t : FileTree) (path : Path) (on : Bool) (at : Moment) where
  flag_asked : (b : Bool) → ((tape : Tape) → plain.same_flag (plain.flag_at (plain_of tape t).nodes path) on ≡ b)
      → (tape : Tape) (g : Given) (st : Standing) → plain_of tape t ≡ st.tree → ask_unrefused g st (asks.Readonly path on) at ≡ cond b nothing change
  flag_asked b same tape g st is =
      ap (λ (p : plain.Tree). cond (plain.same_flag (plain.flag_at p.nodes path) on) nothing change) (sym is) ∙ ap (λ b. cond b nothing change) (same tape)

  -- a node gets the other flag
  pub flag_changes : (next : FileTree) (flag : Bool) → KeepsOutline t next → IsAfter (asks.Readonly path on) at t next → ((tape : Tape) → flag ≡ plain.flag_at (plain_of tape t).nodes path)
      → beq flag on ≡ false → refusal_of (plain_of whole t) (asks.Readonly path on) ≡ None → IsChanging (asks.Readonly path on) at t next
  flag_changes next flag keeps done is other free =
      step_changes t next at (asks.Readonly path on) (λ p o c e. cc) refl (flag_asked false (λ tape. ap (λ f. plain.same_flag f on) (sym (is tape)) ∙ apart flag on other)) free
      (outline_step t next keeps (asks.Readonly path on) at done)
    where
      apart : (flag on : Bool) → beq flag on ≡ false → plain.same_flag flag on ≡ false
      apart true true e = e
      apart true false e = refl
      apart false true e = refl
      apart false false e = e
