-- What calls that store nothing ask of the tape.
use Rattle.std.proofs.Common.{◌≡◌, ◌≢◌, ℕ, suc, Bool, true, false, cond, eqb, [], ◌∷◌, length, Option, Some, None, Result, Ok, Err, IfOk, sym, ap, ◌∙◌, refl, subst, arith}
use Rattle.std.specs.Prelude.{◌==◌}
use Rattle.std.specs.FinMap as fin
use Rattle.std.proofs.lemmas.Bool.Decides.{nat_tests}
use Rattle.tape_types.specs.declared.moments.Moment.{Moment}
use Rattle.plain_tree.specs.Paths.{Path, same_path}
use Rattle.plain_tree.specs.Refusals.{lock_refusal, new_refusal, or_else, refusal_of, refusal_within}
use Rattle.plain_tree.specs.Tree as plain
use Rattle.plain_tree.specs.Tree.{cells_at}
use Rattle.plain_tree.specs.declared.calls.Call.{Call}
use Rattle.plain_tree.specs.declared.calls.Call.TheVariants as asks
use Rattle.plain_tree.specs.declared.calls.Refusal.{Refusal}
use Rattle.plain_tree.specs.declared.calls.Refusal.TheVariants as refusals
use Rattle.plain_tree.specs.declared.calls.Sort.{Sort}
use Rattle.plain_tree.specs.declared.calls.Sort.TheVariants as sorts
use Rattle.extent_map.specs.Cells.{Tape}
use Rattle.extent_map.specs.Laid.{Laid, Room, resized}
use Rattle.file_tree.specs.Blocks.{AddsNoBlock}
use Rattle.file_tree.specs.Edits.{making, IsTruncated, KeepsVolume, NumbersCome, OthersLie}
use Rattle.file_tree.specs.Tree.{FileTree, HasExtents, HasLaid, StandsAt, plain_kind_of, plain_of, whole}
use Rattle.file_tree.specs.Valid.{IsGood}
use Rattle.file_tree.proofs.PathLemmas.{some_same}
use Rattle.file_tree.proofs.TreeLemmas.{after_free, free_too}
use Rattle.file_tree.proofs.WriteLemmas.{long_as}
use Rattle.space_laws.proofs.PlainAsks.{ask_plainly}
use Rattle.space_laws.specs.Files.{Files, with_file}
use Rattle.space_laws.specs.Laws.{may_lay_anew}
use Rattle.space_laws.specs.Space.{change, nothing}
use Rattle.space_laws.specs.Standing.{Given, Standing, ask_of, ask_unless, ask_unrefused, uid_at}
use Rattle.held_volume.specs.Applied.{IsChanging, IsMade, IsStill, IsTried}
use Rattle.held_volume.specs.Steps.{IsStep}
use Rattle.held_volume.specs.Stocks.{LieAs}
use Rattle.held_volume.proofs.Lies.{path_of, plain_there}
use Rattle.held_volume.proofs.TreeSteps.{changed_as}
use Rattle.held_volume.proofs.Uids.{length_mark}

-- a call that the lock doesn't refuse is refused by the other checks alone
pub unlocked_refusal : (t : plain.Tree) (call : Call) → lock_refusal t.lock call ≡ None → refusal_of t call ≡ refusal_within t call
unlocked_refusal t call free = ap (λ r. or_else r (refusal_within t call)) free

abbrev pub IsNoRead : Call → Type 0
IsNoRead call = (path : Path) (offset count : ℕ) → call ≡ asks.Read path offset count → ⊥

-- a call that isn't refused where no byte is lost isn't refused on any tape, but for reads
pub unrefused : (tape : Tape) (t : FileTree) (tree : plain.Tree) (call : Call) → IsNoRead call → refusal_of (plain_of whole t) call ≡ None → plain_of tape t ≡ tree → refusal_of tree call ≡ None
unrefused tape t tree call other free is = ap (λ tree. refusal_of tree call) (sym is) ∙ free_too tape t call other free

module _ (before next : FileTree) (at : Moment) where
  -- a step of a call that asks for a change where it isn't refused, and lays no file anew
  pub step_changes : (call : Call) → IsNoRead call → may_lay_anew call ≡ false
      → ((tape : Tape) (g : Given) (st : Standing) → plain_of tape before ≡ st.tree → ask_unrefused g st call at ≡ change)
      → refusal_of (plain_of whole before) call ≡ None → IsStep call at before next → IsChanging call at before next
  step_changes call other lays asked free step = record {
    plain = step.plain;
    volume = step.volume;
    blocks = step.blocks;
    asks = λ tape g st is. ap (λ r. ask_unless r (ask_unrefused g st call at)) (unrefused tape before st.tree call other free is) ∙ asked tape g st is;
    lies = λ tape g on st is held. subst (λ (files : Files). LieAs files next) (sym (ask_plainly.files g on st call change lays)) (step.lies st.files held);
  }

  -- a rename of a path to another one changes the tree and stores nothing
  pub rename_changes : (from to : Path) → same_path from to ≡ false → refusal_of (plain_of whole before) (asks.Rename from to) ≡ None → IsStep (asks.Rename from to) at before next → IsChanging (asks.Rename from to) at before next
  rename_changes from to apart free step =
      step_changes (asks.Rename from to) (λ p o c e. cc) refl (λ tape g st is. ap (λ b. cond b nothing change) apart) free step

-- ---- calls that ask nothing

-- a call that would ask nothing asks nothing, refused or not
pub asks_nothing : (r : Option Refusal) → ask_unless r nothing ≡ nothing
asks_nothing None = refl
asks_nothing (Some refusal) = refl

-- ---- lengths

-- the file at a path has as many cells as it is long
pub cells_long : (tape : Tape) (t : FileTree) (path : Path) (file : ℕ) (room : Room) → IsGood t → StandsAt t path file → HasExtents t.nodes file room
    → length (cells_at (plain_of tape t).nodes path) ≡ room.laid.length
cells_long tape t path file room good stands has =
    let same : path ≡ has.path = path_of t path has.path has.node file good stands has.there has.is in
    let there = plain_there tape t path has.node (ap (fin.get t.nodes) same ∙ has.there) in
    (rw there (ap (λ k. length (plain.cells_of_kind (plain_kind_of tape k))) has.file)) ∙ long_as tape room.laid

-- a file with extents lies as they tell
pub has_laid : (t : FileTree) (file : ℕ) (room : Room) → HasExtents t.nodes file room → HasLaid t.nodes file room.laid
has_laid t file room has = record { path = has.path; node = has.node; there = has.there; is = has.is; room = room; file = has.file; lies = refl }

module _ (t : FileTree) (path : Path) (file : ℕ) (room : Room) (size : ℕ) (at : Moment) (good : IsGood t) (stands : StandsAt t path file) (has : HasExtents t.nodes file room)
    (free : refusal_of (plain_of whole t) (asks.Truncate path size) ≡ None) where
  test_is : (b : Bool) → eqb size room.laid.length ≡ b → (tape : Tape) (g : Given) (st : Standing) → plain_of tape t ≡ st.tree → ask_of g st (asks.Truncate path size) at ≡ cond b nothing change
  test_is b test tape g st is =
      ap (λ r. ask_unless r (cond (eqb size (length (cells_at st.tree.nodes path))) nothing change)) (unrefused tape t st.tree (asks.Truncate path size) (λ p o c e. cc) free is)
      ∙ ap (λ n. cond (eqb size n) nothing change) (ap (λ (tree : plain.Tree). length (cells_at tree.nodes path)) (sym is) ∙ cells_long tape t path file room good stands has)
      ∙ ap (λ b. cond b nothing change) test

  -- a truncation to the length that a file has leaves all as it is
  pub cut_still : room.laid.length ≡ size → IsStill (asks.Truncate path size) at t t
  cut_still e = record { same = refl; asks = test_is true (same_number e) }
    where
      same_number : room.laid.length ≡ size → eqb size room.laid.length ≡ true
      same_number e = grind (arith, nat_tests, e)

  module _ (next : FileTree) (good_next : IsGood next) (other : room.laid.length ≢ size) (plain_is : IsTruncated file size at t next) (numbers : NumbersCome (λ p. p) t next)
      (lies_now : (laid : Laid) → HasLaid t.nodes file laid → HasLaid next.nodes file (cond (eqb size laid.length) laid (resized laid size)))
      (others : OthersLie file t next) (adds : AddsNoBlock t next) (volume : KeepsVolume t next) where
    differs : eqb size room.laid.length ≡ false
    differs = grind (arith, nat_tests, other)

    now : HasLaid next.nodes file (resized room.laid size)
    now = subst (λ b. HasLaid next.nodes file (cond b room.laid (resized room.laid size))) differs (lies_now room.laid (has_laid t file room has))

    highest : next.highest ≡ t.highest
    highest = ap (λ (tree : plain.Tree). tree.highest) (plain_is whole path stands) ∙ by (eqb size (length (cells_at (plain_of whole t).nodes path)))
      where
        by : (b : Bool) → (cond b (plain_of whole t) (record (plain_of whole t) { nodes = plain.changed_at (plain.file_changed (λ cells. Rattle.plain_tree.specs.Cells.resized cells size) at) path (plain_of whole t).nodes })).highest ≡ t.highest
        by true = refl
        by false = refl

    -- a truncation to another length changes the tree and stores nothing
    pub cut_changes : IsChanging (asks.Truncate path size) at t next
    cut_changes = record {
      plain = λ tape. plain_is tape path stands ∙ sym (after_free (plain_of tape t) (asks.Truncate path size) at (free_too tape t (asks.Truncate path size) (λ p o c e. cc) free));
      volume = volume;
      blocks = adds;
      asks = test_is false differs;
      lies = λ tape g on st is held. subst (λ (files : Files). LieAs files next)
          (ap (λ (tree : plain.Tree). with_file (uid_at tree.nodes path) (λ f. resized f size) st.files) is)
          (changed_as t next path file room.laid (λ f. resized f size) good good_next stands (has_laid t file room has) now
          (λ tape q. ap (λ (tree : plain.Tree). Rattle.plain_tree.specs.Valid.mark_at tree.nodes q) (plain_is tape path stands) ∙ length_mark (plain_of tape t) path size at q)
          numbers others highest volume tape st.files held);
    }

-- ---- new nodes

-- a node is made by this call alone, which is refused as any new node is where the lock doesn't refuse it
pub made_refusal : (t : plain.Tree) (sort : Sort) (path : Path) (call : Call) → lock_refusal t.lock call ≡ None → making sort path ≡ Some call → refusal_of t call ≡ new_refusal t path
made_refusal t sort path call free is = unlocked_refusal t call free ∙ by sort is
  where
    by : (s : Sort) → making s path ≡ Some call → refusal_within t call ≡ new_refusal t path
    by sorts.Dir is = ap (refusal_within t) (sym (some_same (asks.Mkdir path) call is))
    by sorts.File is = ap (refusal_within t) (sym (some_same (asks.Create path) call is))
    by sorts.Link is = let wrong : None ≡ Some call = is in cc

-- a new directory and a new file are changes
dir_changes : (before next : FileTree) (at : Moment) (path : Path) → refusal_of (plain_of whole before) (asks.Mkdir path) ≡ None → IsStep (asks.Mkdir path) at before next
    → IsChanging (asks.Mkdir path) at before next
dir_changes before next at path free step = step_changes before next at (asks.Mkdir path) (λ p o c e. cc) refl (λ tape g st is. refl) free step

file_changes : (before next : FileTree) (at : Moment) (path : Path) → refusal_of (plain_of whole before) (asks.Create path) ≡ None → IsStep (asks.Create path) at before next
    → IsChanging (asks.Create path) at before next
file_changes before next at path free step = step_changes before next at (asks.Create path) (λ p o c e. cc) refl (λ tape g st is. refl) free step

-- so what was made is tried
pub dir_tried : {E : Type 0} (before next : FileTree) (at : Moment) (path : Path) (r : Result (Result Bool Refusal) E) → IfOk r (λ made. (call : Call) → making sorts.Dir path ≡ Some call → IsMade call at before next made)
    → IfOk r (IsTried (asks.Mkdir path) at before next)
dir_tried before next at path (Ok (Ok true)) made = let m = made (asks.Mkdir path) refl in (m.0, dir_changes before next at path m.0 m.1)
dir_tried before next at path (Ok (Ok false)) made = absurd (made (asks.Mkdir path) refl)
dir_tried before next at path (Ok (Err refusal)) made = made (asks.Mkdir path) refl
dir_tried before next at path (Err e) made = tt

-- so is a file
pub file_tried : {E : Type 0} (before next : FileTree) (at : Moment) (path : Path) (r : Result (Result Bool Refusal) E) → IfOk r (λ made. (call : Call) → making sorts.File path ≡ Some call → IsMade call at before next made)
    → IfOk r (IsTried (asks.Create path) at before next)
file_tried before next at path (Ok (Ok true)) made = let m = made (asks.Create path) refl in (m.0, file_changes before next at path m.0 m.1)
file_tried before next at path (Ok (Ok false)) made = absurd (made (asks.Create path) refl)
file_tried before next at path (Ok (Err refusal)) made = made (asks.Create path) refl
file_tried before next at path (Err e) made = tt

-- a node that is taken out is a change
pub removed_changes : (before next : FileTree) (at : Moment) (path : Path) → refusal_of (plain_of whole before) (asks.Remove path) ≡ None → IsStep (asks.Remove path) at before next
    → IsChanging (asks.Remove path) at before next
removed_changes before next at path free step = step_changes before next at (asks.Remove path) (λ p o c e. cc) refl (λ tape g st is. refl) free step

-- ---- what is refused at once

-- no node is made at the root
pub none_at_root : (t : plain.Tree) (path : Path) → length path ≡ 0 → new_refusal t path ≡ Some refusals.Root
none_at_root t [] is = refl
none_at_root t (name ∷ path) is = absurd (omega (arith, is))

-- a path with a name isn't the root's
below_root : (n : ℕ) → (suc n == 0) ≡ false
below_root n = grind (arith, nat_tests)

-- no node is moved there
to_root : (t : plain.Tree) (from : Path) → refusal_within t (asks.Rename from []) ≡ Some refusals.Root
to_root t [] = refl
to_root t (name ∷ from) = rw (below_root (length from)) refl

-- so a rename whose path has no name is refused
pub none_to_root : (t : plain.Tree) (from to : Path) → lock_refusal t.lock (asks.Rename from to) ≡ None → length to ≡ 0 → refusal_of t (asks.Rename from to) ≡ Some refusals.Root
none_to_root t from [] free is = unlocked_refusal t (asks.Rename from []) free ∙ to_root t from
none_to_root t from (name ∷ to) free is = absurd (omega (arith, is))
