-- What stands in directories after changes of the maps of their names, and where paths lead.
use Rattle.std.proofs.Common.{◌≡◌, ℕ, ◌+◌, ◌<◌, true, false, List, [], ◌∷◌, ◌++◌, length, take, map, get_or, Option, Some, None, IsSome, is_some, Result, Ok, Err, OnErr, sym, ap, ◌∙◌, refl, subst}
use Rattle.std.specs.declared.cmp.Ordering.TheVariants.{Less, Equal, Greater}
use Rattle.std.specs.Ordering.{is_eq, nat_cmp}
use Rattle.std.specs.Option.{option_map}
use Rattle.std.specs.BTreeMap.{BTreeMap, get, Updates, IsEmpty}
use Rattle.std.specs.Map.{keys_of}
use Rattle.std.specs.List.Sorted.{IsStrictlySortedBy}
use Rattle.std.specs.FinMap as fin
use Rattle.std.proofs.lemmas.List.{take_more}
pub use Rattle.std.proofs.lemmas.Result.{on_ok_weaker as on_ok, on_err_weaker as on_err}
use Rattle.plain_tree.specs.declared.nodes.Node.{Node}
use Rattle.plain_tree.specs.declared.calls.Entry.{Entry}
use Rattle.plain_tree.specs.Links.{Child, Names, name_cmp, under, child, walk, lines, line_of, IsPut, IsPutIn, IsMovedTo}
use Rattle.plain_tree.specs.Paths.{Path}

-- names of which none is before the other are the same
pub name_exact : fin.IsAntisymmetric name_cmp
name_exact = fin.slice_cmp-IsAntisymmetric fin.nat_cmp-IsAntisymmetric

other_name : (name n : List ℕ) → (n ≡ name → ⊥) → is_eq (name_cmp name n) ≡ false
other_name name n apart =
    elim (name_cmp name n) as (λ r. name_cmp name n ≡ r → is_eq r ≡ false) [
      | Less ↦ λ _. refl
      | Equal ↦ λ is. absurd (apart (sym (name_exact name n is)))
      | Greater ↦ λ _. refl
    ] refl

-- an entry that is put into a directory's names stands there, and the others as they did
pub put_in : (names new : Names) (name : List ℕ) (o : Option Node) → Updates name_cmp names new name o → IsPutIn names new name o
put_in names new name o by = record { here = by.1; others = λ n apart. by.2 n (other_name name n apart) }

-- an entry that is replaced by a changed one is changed in its directory
pub changed_in : (f : Node → Node) (names new : Names) (name : List ℕ) (node w : Node) → Some node ≡ get name_cmp names name → w ≡ f node → Updates name_cmp names new name (Some w) → IsPutIn names new name (option_map f (get name_cmp names name))
changed_in f names new name node w was is by = record { here = by.1 ∙ ap (λ x. Some x) is ∙ ap (option_map f) was; others = λ n apart. by.2 n (other_name name n apart) }

-- an entry that is replaced by itself changes nothing
pub same_in : (names new : Names) (name : List ℕ) (node w : Node) → Some node ≡ get name_cmp names name → w ≡ node → Updates name_cmp names new name (Some w) → (n : List ℕ) → get name_cmp new n ≡ get name_cmp names n
same_in names new name node w was is by n =
    elim (name_cmp name n) as (λ r. name_cmp name n ≡ r → get name_cmp new n ≡ get name_cmp names n) [
      | Less ↦ λ is. by.2 n (ap is_eq is)
      | Equal ↦ λ tie.
          let same : name ≡ n = name_exact name n tie in
          ap (get name_cmp new) (sym same) ∙ by.1 ∙ ap (λ x. Some x) is ∙ was ∙ ap (get name_cmp names) same
      | Greater ↦ λ is. by.2 n (ap is_eq is)
    ] refl

-- a place where nothing stands stays so
put_nothing : (f : Node → Node) (child : Child) (uid : ℕ) (name : List ℕ) → None ≡ child uid name → IsPut child child uid name (option_map f (child uid name))
put_nothing f child uid name none = record { here = sym none ∙ ap (option_map f) none; others = λ u n apart. refl }

put_none_in : (f : Node → Node) (names new : Names) (name : List ℕ) → new.entries ≡ names.entries → None ≡ get name_cmp names name → IsPutIn names new name (option_map f (get name_cmp names name))
put_none_in f names new name same none = record { here = at name ∙ sym none ∙ ap (option_map f) none; others = λ n apart. at n }
  where
    at : (n : List ℕ) → get name_cmp new n ≡ get name_cmp names n
    at n = rw same refl

module _ (dirs next : BTreeMap ℕ Names) (uid : ℕ) (new : Names) (name : List ℕ) (o : Option Node) (outer : Updates nat_cmp dirs next uid (Some new)) where
  put_at : under (Some new) name ≡ o → ((n : List ℕ) → (n ≡ name → ⊥) → under (Some new) n ≡ under (get nat_cmp dirs uid) n) → IsPut (child (record { dirs = dirs })) (child (record { dirs = next })) uid name o
  put_at here others = record {
    here = ap (λ d. under d name) outer.1 ∙ here;
    others = λ u n apart. elim (nat_cmp uid u) as (λ r. nat_cmp uid u ≡ r → under (get nat_cmp next u) n ≡ under (get nat_cmp dirs u) n) [
      | Less ↦ λ is. ap (λ d. under d n) (outer.2 u (ap is_eq is))
      | Equal ↦ λ is.
          let same : uid ≡ u = fin.nat_cmp-IsAntisymmetric uid u is in
          ap (λ v. under (get nat_cmp next v) n) (sym same) ∙ ap (λ d. under d n) outer.1 ∙ others n (apart (sym same)) ∙ ap (λ v. under (get nat_cmp dirs v) n) same
      | Greater ↦ λ is. ap (λ d. under d n) (outer.2 u (ap is_eq is))
    ] refl;
  }

  -- a change of the names of a directory is a change of the links
  pub put_through : (names : Names) → Some names ≡ get nat_cmp dirs uid → IsPutIn names new name o → IsPut (child (record { dirs = dirs })) (child (record { dirs = next })) uid name o
  put_through names was inner = put_at inner.here (λ n apart. inner.others n apart ∙ ap (λ d. under d n) was)

  -- the first name of a directory is a change of the links
  pub put_first : (empty : Names) → None ≡ get nat_cmp dirs uid → IsEmpty empty → IsPutIn empty new name o → IsPut (child (record { dirs = dirs })) (child (record { dirs = next })) uid name o
  put_first empty was nothing inner = put_at inner.here (λ n apart. inner.others n apart ∙ in_empty n ∙ ap (λ d. under d n) was)
    where
      in_empty : (n : List ℕ) → get name_cmp empty n ≡ None
      in_empty n = rw nothing refl

-- a step of a walk
pub walk_none : (child : Child) (path : Path) → walk child None path ≡ None
walk_none child [] = refl
walk_none child (x ∷ path) = refl

-- a walk along two paths is a walk along the first, and then along the second
pub walk_append : (child : Child) (at : Option Node) (p q : Path) → walk child at (p ++ q) ≡ walk child (walk child at p) q
walk_append child at [] q = refl
walk_append child None (x ∷ p) q = sym (walk_none child q)
walk_append child (Some node) (x ∷ p) q = walk_append child (child node.uid x) p q

-- one name more of a path leads to that child
pub walk_more : (child : Child) (at : Option Node) (path : Path) (k : ℕ) (name : List ℕ) (node : Node) → k < length path → name ≡ get_or path k name → walk child at (take k path) ≡ Some node → walk child at (take (k + 1) path) ≡ child node.uid name
walk_more child at path k name node lt is there = ap (walk child at) (take_more path k name lt ∙ ap (λ x. take k path ++ x ∷ []) (sym is)) ∙ walk_append child at (take k path) (name ∷ []) ∙ ap (λ o. walk child o (name ∷ [])) there

-- a move in three steps
pub moved_to : (a b c d : Child) (old : ℕ) (old_name : List ℕ) (uid : ℕ) (name : List ℕ) (node place : Node) → IsSome (a old old_name) → a uid name ≡ None
    → IsPut a b uid name (Some place) → Some node ≡ b old old_name → IsPut b c old old_name None → IsPut c d uid name (option_map (λ _. node) (c uid name)) → IsMovedTo a d old old_name uid name
moved_to a b c d old old_name uid name node place some none first is second third =
    let apart : old ≡ uid → old_name ≡ name → ⊥ = λ e f.
    let wrong : is_some (a old old_name) ≡ false = ap (λ u. is_some (a u old_name)) e ∙ ap (λ n. is_some (a uid n)) f ∙ ap is_some none in
    let clash : true ≡ false = sym some ∙ wrong in cc in
    let here : c uid name ≡ Some place = second.others uid name (λ e f. apart (sym e) (sym f)) ∙ first.here in
    record {
      here = third.here ∙ ap (option_map (λ _. node)) here ∙ is ∙ first.others old old_name apart;
      gone = third.others old old_name apart ∙ second.here;
      others = λ u n from to. third.others u n to ∙ second.others u n from ∙ first.others u n to;
    }

-- the names of a directory's lines ascend as the map's keys do
pub some_ascend : (o : Option Names) (names : Names) → Some names ≡ o → IsStrictlySortedBy name_cmp (keys_of names.entries) → IsStrictlySortedBy name_cmp (map (λ (e : Entry). e.name) (lines o))
some_ascend o names is sorted = subst (λ o. IsStrictlySortedBy name_cmp (map (λ (e : Entry). e.name) (lines o))) is (subst (λ l. IsStrictlySortedBy name_cmp l) (sym (keys_shown names.entries)) sorted)
  where
    keys_shown : (es : List (List ℕ × Node)) → map (λ (e : Entry). e.name) (map line_of es) ≡ keys_of es
    keys_shown [] = refl
    keys_shown (e ∷ es) = ap (λ l. e.0 ∷ l) (keys_shown es)

-- where a directory has no names its lines are in order, for there are none
pub none_ascend : (o : Option Names) → None ≡ o → IsStrictlySortedBy name_cmp (map (λ (e : Entry). e.name) (lines o))
unfolding IsStrictlySortedBy
none_ascend o is = subst (λ o. IsStrictlySortedBy name_cmp (map (λ (e : Entry). e.name) (lines o))) is tt

-- a fact that holds in any case holds after a failure too
pub on_any_err : {T E A : Type 0} (r : Result T E) → A → OnErr r A
on_any_err (Ok x) a = tt
on_any_err (Err x) a = a
