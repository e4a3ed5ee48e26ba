-- When a read passes, and which ops hold its blocks.
use Rattle.std.proofs.Common.{◌≡◌, ◌⊎◌, ℕ, zero, suc, ◌==◌, ◌||◌, ◌&&◌, inl, inr, Bool, true, false, cond, List, [], ◌∷◌, length, map, take, Option, Some, None, ⊎_elim, refl, sym, ap, ◌∙◌}
use Rattle.std.specs.FinMap as fin
use Rattle.std.specs.List.{list_any}
use Rattle.std.proofs.lemmas.Bool.{or_right}
use Rattle.tape_types.specs.declared.cartridges.Part.{Part}
use Rattle.tape_types.specs.declared.cartridges.Part.TheVariants.{Dp, Ip}
use Rattle.tape_types.specs.declared.cartridges.Place.{Place}
use Rattle.plain_tree.specs.Refusals.{no_file, refusal_of, why_missing}
use Rattle.plain_tree.specs.Tree.{Nodes}
use Rattle.plain_tree.specs.declared.calls.Call.TheVariants.{Read}
use Rattle.plain_tree.specs.declared.calls.Refusal.{Refusal}
use Rattle.plain_tree.specs.declared.calls.Refusal.TheVariants as refusals
use Rattle.plain_tree.specs.declared.nodes.Kind.{Kind}
use Rattle.plain_tree.specs.declared.nodes.Kind.TheVariants as kinds
use Rattle.plain_tree.specs.declared.nodes.Node.{Node}
use Rattle.extent_map.specs.Cells.{Tape}
use Rattle.file_tree.specs.Tree.{FileTree, plain_nodes, plain_of, whole}
use Rattle.file_tree.proofs.RefusalLemmas.{refusals_alike, whole_read}
use Rattle.head_queue.specs.EventLaws.Trail.{puts_at}
use Rattle.head_queue.specs.EventLaws.Waiting.{same_part}
use Rattle.tape_layout.specs.declared.ops.Op.{Op}
use Rattle.tape_layout.specs.declared.ops.Op.TheVariants.{Flush, Mark, Put}
use Rattle.tape_layout.specs.Ops.{held_by, held_in, or_later}
use Rattle.promises.specs.ServingPromise.Served.{headed}
use Rattle.promises.specs.ServingPromise.Submits.{passes}

-- ---- a refusal that isn't for a lost byte

missing_isnt : (nodes : Nodes) (path : List (List ℕ)) (n : ℕ) → why_missing nodes path n ≡ refusals.Damaged → ⊥
missing_isnt nodes path zero e = cc
missing_isnt nodes path (suc n) e = by (missing_isnt nodes path n) (fin.get nodes (take n path)) refl
  where
    by : (why_missing nodes path n ≡ refusals.Damaged → ⊥) → (o : Option Node) → fin.get nodes (take n path) ≡ o → ⊥
    by shorter_isnt None is =
        let shorter : why_missing nodes path (suc n) ≡ why_missing nodes path n = rw is refl in
        shorter_isnt (sym shorter ∙ e)
    by shorter_isnt (Some node) is = kind node.kind refl
      where
        kind : (k : Kind) → node.kind ≡ k → ⊥
        kind kinds.Dir same = let found : why_missing nodes path (suc n) ≡ refusals.NotFound = rw (is, same) refl in let clash : refusals.NotFound ≡ refusals.Damaged = sym found ∙ e in cc
        kind (kinds.File cells) same = let found : why_missing nodes path (suc n) ≡ refusals.NotDir = rw (is, same) refl in let clash : refusals.NotDir ≡ refusals.Damaged = sym found ∙ e in cc
        kind (kinds.Link text) same = let found : why_missing nodes path (suc n) ≡ refusals.NotDir = rw (is, same) refl in let clash : refusals.NotDir ≡ refusals.Damaged = sym found ∙ e in cc

some_inside : (a b : Refusal) → Some a ≡ Some b → a ≡ b
some_inside a b e = cc

no_file_isnt : (nodes : Nodes) (path : List (List ℕ)) → no_file nodes path ≡ Some refusals.Damaged → ⊥
no_file_isnt nodes path e = by (fin.get nodes path) refl
  where
    by : (o : Option Node) → fin.get nodes path ≡ o → ⊥
    by None is =
        let found : no_file nodes path ≡ Some (why_missing nodes path (length path)) = rw is refl in
        missing_isnt nodes path (length path) (some_inside (why_missing nodes path (length path)) refusals.Damaged (sym found ∙ e))
    by (Some node) is = kind node.kind refl
      where
        kind : (k : Kind) → node.kind ≡ k → ⊥
        kind kinds.Dir same = let found : no_file nodes path ≡ Some refusals.IsDir = rw (is, same) refl in let clash : Some refusals.IsDir ≡ Some refusals.Damaged = sym found ∙ e in cc
        kind (kinds.File cells) same = let found : no_file nodes path ≡ None = rw (is, same) refl in let clash : None ≡ Some refusals.Damaged = sym found ∙ e in cc
        kind (kinds.Link text) same = let found : no_file nodes path ≡ Some refusals.IsLink = rw (is, same) refl in let clash : Some refusals.IsLink ≡ Some refusals.Damaged = sym found ∙ e in cc

-- ---- a read passes where there is a file

passed_by : (r : Option Refusal) → passes r ≡ true → (r ≡ None) ⊎ (r ≡ Some refusals.Damaged)
passed_by None e = inl refl
passed_by (Some refusals.Damaged) e = inr refl
passed_by (Some _) e = absurd cc

-- a read that passes on a tape isn't refused where no byte is lost
pub passes_free : (tape : Tape) (t : FileTree) (path : List (List ℕ)) (offset count : ℕ) → passes (refusal_of (plain_of tape t) (Read path offset count)) ≡ true
    → refusal_of (plain_of whole t) (Read path offset count) ≡ None
passes_free tape t path offset count passed = ⊎_elim
    (λ same. ⊎_elim (λ none. sym same ∙ none)
    (λ lost. absurd (no_file_isnt (plain_nodes whole t.nodes) path (sym (whole_read t path offset count) ∙ sym same ∙ lost)))
    (passed_by (refusal_of (plain_of tape t) (Read path offset count)) passed))
    (λ lost. lost.1)
    (refusals_alike tape t (Read path offset count))

-- a read that isn't refused where no byte is lost passes on each tape
pub free_passes : (tape : Tape) (t : FileTree) (path : List (List ℕ)) (offset count : ℕ) → refusal_of (plain_of whole t) (Read path offset count) ≡ None
    → passes (refusal_of (plain_of tape t) (Read path offset count)) ≡ true
free_passes tape t path offset count free =
    ⊎_elim (λ same. ap passes (same ∙ free)) (λ lost. ap passes lost.0) (refusals_alike tape t (Read path offset count))

-- ---- a block that an op holds is put by one

held_put_at : (a b : Part) (n m : ℕ) (block bytes : List ℕ) (later : Option (List ℕ)) (rest : Bool)
    → or_later (held_by (record { part = b; pos = m }) (Put (record { part = a; pos = n }) block)) later ≡ Some bytes → (later ≡ Some bytes → rest ≡ true)
    → ((same_part a b && n == m) || rest) ≡ true
held_put_at Ip Ip n m block bytes later rest e h = by (n == m) e
  where
    by : (c : Bool) → or_later (cond c (Some block) None) later ≡ Some bytes → (c || rest) ≡ true
    by true e = refl
    by false e = h e
held_put_at Dp Dp n m block bytes later rest e h = by (n == m) e
  where
    by : (c : Bool) → or_later (cond c (Some block) None) later ≡ Some bytes → (c || rest) ≡ true
    by true e = refl
    by false e = h e
held_put_at Ip Dp n m block bytes later rest e h = h e
held_put_at Dp Ip n m block bytes later rest e h = h e

-- where an op holds a block, an op that stands puts it
pub held_put : (place : Place) (ops : List Op) (bytes : List ℕ) → held_in place ops ≡ Some bytes → list_any (puts_at place) (map headed ops) ≡ true
held_put place [] bytes e = absurd cc
held_put place (Put at block ∷ ops) bytes e =
    held_put_at at.part place.part at.pos place.pos block bytes (held_in place ops) (list_any (puts_at place) (map headed ops)) e (λ later. held_put place ops bytes later)
held_put place (Mark at ∷ ops) bytes e = or_right (puts_at place (headed (Mark at))) (list_any (puts_at place) (map headed ops)) (held_put place ops bytes e)
held_put place (Flush at ∷ ops) bytes e = or_right (puts_at place (headed (Flush at))) (list_any (puts_at place) (map headed ops)) (held_put place ops bytes e)
