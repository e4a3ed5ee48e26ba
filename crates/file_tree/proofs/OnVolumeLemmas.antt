-- An index that was read and passes the test can be mounted.
use Rattle.std.proofs.Common.{◌≡◌, ◌≢◌, ℕ, zero, suc, ◌+◌, ◌/◌, ◌<◌, ◌≤◌, ◌^◌, true, ◌&&◌, ◌||◌, eqb, ltb, List, [], ◌∷◌, sym, ap, ◌∙◌, arith, inl, inr, ⊎_elim}
use Rattle.std.specs.List.{AllByRecursion, list_all}
use Rattle.std.proofs.Math.Nat.{div-le_self}
use Rattle.std.proofs.lemmas.Bool.Decides.{nat_tests}
use Rattle.std.proofs.lemmas.Bool.{or_cases}
use Rattle.tape_types.specs.Bounds.{longest_file, most_positions}
use Rattle.index_model.specs.declared.indexes.Index.{Index}
use Rattle.index_model.specs.declared.nodes.RawExtent.{RawExtent}
use Rattle.index_model.specs.declared.nodes.Node.{Node}
use Rattle.index_model.specs.Extents.{IsFileAt}
use Rattle.index_model.specs.Places.{IsAt}
use Rattle.index_model.specs.Valid.{IsValid}
use Rattle.plain_tree.proofs.MoveLemmas.{both_true}
use Rattle.file_tree.specs.Mounts.{Letters, IsOnVolume, EndsNear, CanMount}
use Rattle.file_tree.specs.OnVolume.{on_volume, kind_on_volume}
use Rattle.name_tries.proofs.ItemLemmas.{some_same}

equal : (a b : ℕ) → eqb a b ≡ true → a ≡ b
equal a b e = grind (arith, nat_tests)

less : (a b : ℕ) → ltb a b ≡ true → a < b
less a b e = grind (arith, nat_tests)

module _ (letters : Letters) (size : ℕ) (small : size < 2 ^ 32) where
  good_raw : (raw : RawExtent) → on_volume letters size raw ≡ true → IsOnVolume letters size raw × EndsNear letters size raw
  good_raw raw e =
      let a = both_true (((eqb raw.letter letters.0 || eqb raw.letter letters.1) && ltb raw.byte size) && ltb raw.block most_positions) (ltb raw.count longest_file) e in
      let b = both_true ((eqb raw.letter letters.0 || eqb raw.letter letters.1) && ltb raw.byte size) (ltb raw.block most_positions) a.0 in
      let d = both_true (eqb raw.letter letters.0 || eqb raw.letter letters.1) (ltb raw.byte size) b.0 in
      let byte : raw.byte < size = less raw.byte size d.1 in
      let block : raw.block < most_positions = less raw.block most_positions b.1 in
      let count : raw.count < longest_file = less raw.count longest_file a.1 in (
        λ some. (⊎_elim (λ h. inl (equal raw.letter letters.0 h)) (λ h. inr (equal raw.letter letters.1 h)) (or_cases (eqb raw.letter letters.0) (eqb raw.letter letters.1) d.0), byte),
        λ part pos h. let least : (raw.byte + h.byte) / size ≤ raw.byte + h.byte = div-le_self (raw.byte + h.byte) size in omega (arith, least, h.within, h.here, byte, block, count, small),
      )

  good_raws : (raws : List RawExtent) → list_all (on_volume letters size) raws ≡ true → AllByRecursion (IsOnVolume letters size) raws × AllByRecursion (EndsNear letters size) raws
  good_raws [] e = (tt, tt)
  good_raws (raw ∷ raws) e =
      let parts = both_true (on_volume letters size raw) (list_all (on_volume letters size) raws) e in
      let this = good_raw raw parts.0 in
      let more = good_raws raws parts.1 in
      ((this.0, more.0), (this.1, more.1))

  passes_at : (nodes : List Node) (at : ℕ) (node : Node) → list_all (λ (n : Node). kind_on_volume letters size n.kind) nodes ≡ true → IsAt nodes at node → kind_on_volume letters size node.kind ≡ true
  passes_at [] at node e is = cc
  passes_at (n ∷ nodes) zero node e is = ap (λ (k : Node). kind_on_volume letters size k.kind) (sym (some_same n node is)) ∙ (both_true (kind_on_volume letters size n.kind) (list_all (λ (n : Node). kind_on_volume letters size n.kind) nodes) e).0
  passes_at (n ∷ nodes) (suc at) node e is = passes_at nodes at node (both_true (kind_on_volume letters size n.kind) (list_all (λ (n : Node). kind_on_volume letters size n.kind) nodes) e).1 is

  pub can_mount : (index : Index) → IsValid index → letters.0 ≢ letters.1 → 1 ≤ size → list_all (λ (n : Node). kind_on_volume letters size n.kind) index.nodes ≡ true → CanMount index letters size
  can_mount index valid differ some e = record {
    valid = valid;
    differ = differ;
    some_block = some;
    on_volume = λ at bytes raws f. (good_raws raws (file at bytes raws f)).0;
    near = λ at bytes raws f. (good_raws raws (file at bytes raws f)).1;
  }
    where
      file : (at bytes : ℕ) (raws : List RawExtent) → IsFileAt index.nodes at bytes raws → list_all (on_volume letters size) raws ≡ true
      file at bytes raws f = ap (kind_on_volume letters size) (sym f.file) ∙ passes_at index.nodes at f.node e f.is
