-- What a call needs of the tree, where it isn't refused.
use Rattle.std.proofs.Common.{◌≡◌, ℕ, ◌+◌, ◌/◌, ◌≤◌, ◌^◌, false, nat_lt, List, [], ◌∷◌, Some, None, sym, ap, ◌∙◌, refl, arith}
use Rattle.std.specs.FinMap as fin
use Rattle.std.proofs.lemmas.Bool.Decides.{nat_tests}
use Rattle.plain_tree.specs.declared.calls.Refusal.TheVariants as refusals
use Rattle.plain_tree.specs.declared.nodes.Kind.TheVariants as plain_kinds
use Rattle.plain_tree.specs.Refusals.{first_of, no_file, read_only, too_long}
use Rattle.plain_tree.specs.Tree as plain
use Rattle.plain_tree.proofs.Validity.{first_none, not_refused}
use Rattle.tape_types.specs.Bounds.{longest_file}
use Rattle.tape_types.specs.declared.cartridges.Extent.{Extent}
use Rattle.extent_map.specs.Laid.{Room}
use Rattle.file_tree.specs.declared.nodes.Node.{Node}
use Rattle.file_tree.specs.declared.nodes.HeldKind.{HeldKind}
use Rattle.file_tree.specs.declared.nodes.HeldKind.TheVariants as kinds
use Rattle.file_tree.specs.Tree.{FileTree, StandsAt, HasExtents, plain_kind_of, plain_nodes, whole}
use Rattle.std.proofs.Math.Nat.{div-le_self}
use Rattle.file_tree.specs.Valid.{IsFileOf}
use Rattle.file_tree.specs.Edits.{CanWrite, AllLie}
use Rattle.file_tree.proofs.PathLemmas.{node_at}
use Rattle.file_tree.proofs.ReadLemmas.{file_of_kind}

-- the node at a path where a file is wanted, and none is refused, is one
pub file_there : (t : FileTree) (path : List (List ℕ)) (file : ℕ) → StandsAt t path file → no_file (plain_nodes whole t.nodes) path ≡ None → (room : Room) × HasExtents t.nodes file room
file_there t path file stands free = by node.0.kind refl
  where
    node : (n : Node) × (fin.get t.nodes path ≡ Some n) × (n.number ≡ file)
    node = node_at t.nodes path file stands

    by : (k : HeldKind) → node.0.kind ≡ k → (room : Room) × HasExtents t.nodes file room
    by kinds.Dir e = let wrong : Some refusals.IsDir ≡ None = sym (file_of_kind whole t.nodes path node.0 plain_kinds.Dir node.1 (ap (plain_kind_of whole) e)) ∙ free in cc
    by (kinds.Link text) e = let wrong : Some refusals.IsLink ≡ None = sym (file_of_kind whole t.nodes path node.0 (plain_kinds.Link text) node.1 (ap (plain_kind_of whole) e)) ∙ free in cc
    by (kinds.File room) e = (room, record { path = path; node = node.0; there = node.1; is = node.2; file = e })

-- where each file lies as it did, a file is still one
pub still_file : (a b : FileTree) (file : ℕ) → ((room : Room) × HasExtents a.nodes file room) → AllLie a b → (room : Room) × HasExtents b.nodes file room
still_file a b file was lie =
    let h = was.1 in
    let now = (lie file was.0.laid).0 (record { path = h.path; node = h.node; there = h.there; is = h.is; room = was.0; file = h.file; lies = refl }) in
    (now.room, record { path = now.path; node = now.node; there = now.there; is = now.is; file = now.file })

-- what the checks of a write and of a truncation leave
pub long_free : (p : plain.Tree) (path : List (List ℕ)) (n : ℕ) → first_of (no_file p.nodes path ∷ read_only p.nodes path ∷ too_long n ∷ []) ≡ None → (no_file p.nodes path ≡ None) × (n ≤ longest_file)
long_free p path n free =
    let a = first_none (no_file p.nodes path) (read_only p.nodes path ∷ too_long n ∷ []) free in
    let b = first_none (too_long n) [] (first_none (read_only p.nodes path) (too_long n ∷ []) a.1).1 in
    let test : nat_lt longest_file n ≡ false = not_refused (nat_lt longest_file n) refusals.TooLong b.0 in
    (a.0, within n test)
  where
    within : (n : ℕ) → nat_lt longest_file n ≡ false → n ≤ longest_file
    within n e = grind (arith, nat_tests)

-- a file with memory for two extents more can take one that fits it
pub can_write : (t : FileTree) (file : ℕ) (room : Room) (new : Extent) → HasExtents t.nodes file room → IsFileOf t.block_size room.laid → ((room : Room) → HasExtents t.nodes file room → 2 ≤ room.spare)
    → 1 ≤ new.count → new.offset + new.count ≤ longest_file → new.byte ≡ 0 → new.block + new.count ≤ 2 ^ 62 → CanWrite t file new
can_write t file room new h good space some fits byte last = record {
  room = room;
  extents = h;
  can = record { space = space room h; some = some; fits = fits; byte = omega (arith, byte, good.lies.some_block); block = omega (arith, last) };
  near = λ part pos h. let least : (new.byte + h.byte) / t.block_size ≤ new.byte + h.byte = div-le_self (new.byte + h.byte) t.block_size in omega (arith, least, h.within, h.here, byte, last);
}
