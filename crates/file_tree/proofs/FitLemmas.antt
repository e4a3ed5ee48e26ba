-- Names, texts of links and attributes stay such as an index may tell.
use Rattle.std.proofs.Common.{Option, ◌≡◌, ◌⊎◌, ℕ, ◌≤◌, Bool, true, false, cond, eqb, ltb, List, [], ◌∷◌, ◌++◌, length, Some, None, is_some, sym, ap, ◌∙◌, refl, subst, arith, ⊎_elim}
use Rattle.std.specs.FinMap as fin
use Rattle.std.specs.Str.{IsUtf8, chars}
use Rattle.std.proofs.lemmas.Bool.Decides.{nat_tests}
use Rattle.tape_types.specs.Bounds.{longest_name}
use Rattle.tape_types.specs.Names.{name_fault, has_byte, is_dot}
use Rattle.tape_types.specs.declared.names.NameErr.{NameErr}
use Rattle.tape_types.specs.declared.names.NameErr.TheVariants as faults
use Rattle.tape_types.specs.NodeKeys.Keys.{KeyRoom}
use Rattle.index_model.specs.Names.{IsNodeName}
use Rattle.plain_tree.specs.declared.calls.Refusal.TheVariants as refusals
use Rattle.plain_tree.specs.Paths.{is_at_or_below}
use Rattle.plain_tree.specs.Refusals.{bad_name, refuse_if}
use Rattle.file_tree.specs.declared.nodes.Node.{Node}
use Rattle.file_tree.specs.declared.nodes.HeldKind.TheVariants as kinds
use Rattle.plain_tree.specs.Paths.{Name, Path}
use Rattle.file_tree.specs.Tree.{Nodes, moved}
use Rattle.file_tree.specs.Changes.{IsChangedAt}
use Rattle.file_tree.specs.Valid.{IsFit, AreFit}
use Rattle.name_tries.proofs.ItemLemmas.{some_same}
use Rattle.file_tree.proofs.PathLemmas.{by_last, same_last, get_here, get_other, is_or_not}
use Rattle.file_tree.proofs.EditLemmas.{was_there}
use Rattle.file_tree.proofs.UpdateLemmas.{from_where}
use Rattle.file_tree.proofs.ToldLemmas.{last_is}

-- ---- a name that is not refused

-- what a name without a fault is
no_fault : (name : Name) (empty long slash nul dot : Bool) (rest : Option NameErr)
    → cond empty (Some faults.Empty) (cond long (Some faults.Long) (cond slash (Some faults.Slash) (cond nul (Some faults.Nul) (cond dot (Some faults.Dot) rest)))) ≡ None
    → (empty ≡ false) × (long ≡ false) × (slash ≡ false) × (nul ≡ false) × (dot ≡ false)
no_fault name true long slash nul dot rest e = cc
no_fault name false true slash nul dot rest e = cc
no_fault name false false true nul dot rest e = cc
no_fault name false false false true dot rest e = cc
no_fault name false false false false true rest e = cc
no_fault name false false false false false rest e = (refl, refl, refl, refl, refl)

-- a UTF-8 name without a fault may be a node's in an index
pub fit_name : (name : Name) → IsUtf8 name → name_fault name ≡ None → IsNodeName name
fit_name name utf8 none =
    let is = no_fault name (eqb (length name) 0) (ltb longest_name (length (chars name))) (has_byte 47 name) (has_byte 0 name) (is_dot name) _ none in
    record {
      text = record { utf8 = utf8; short = short is.1; no_slash = is.2; no_nul = is.3 };
      some = some is.0;
      no_dot = is.4;
    }
  where
    short : ltb longest_name (length (chars name)) ≡ false → length (chars name) ≤ longest_name
    short e = grind (arith, nat_tests)

    some : eqb (length name) 0 ≡ false → 1 ≤ length name
    some e = grind (arith, nat_tests)

-- a path without a bad name ends with a name that has no fault
pub not_bad : (front : Path) (name : Name) → bad_name (front ++ name ∷ []) ≡ None → name_fault name ≡ None
not_bad front name free = by (name_fault name) refl (sym opened ∙ free)
  where
    opened : bad_name (front ++ name ∷ []) ≡ refuse_if (is_some (name_fault name)) refusals.BadName
    opened = rw (last_is front name) refl

    by : (o : Option NameErr) → name_fault name ≡ o → refuse_if (is_some (name_fault name)) refusals.BadName ≡ None → name_fault name ≡ None
    by None e r = e
    by (Some fault) e r = let wrong : refuse_if true refusals.BadName ≡ None = sym (ap (λ o. refuse_if (is_some o) refusals.BadName) e) ∙ r in cc

-- ---- changes

-- a fit node that is put in keeps all nodes fit
pub fit_insert : (m : Nodes) (p : Path) (node : Node) → AreFit m → IsFit p node → AreFit (fin.insert m p node)
fit_insert m p node all this q n is = ⊎_elim
    (λ (e : q ≡ p).
    let same : node ≡ n = some_same node n (sym (get_here m p node) ∙ ap (fin.get (fin.insert m p node)) (sym e) ∙ is) in
    subst (λ q. IsFit q n) (sym e) (subst (IsFit p) same this))
    (λ apart. all q n (sym (get_other m p q node apart) ∙ is))
    (is_or_not p q)

-- a change that leaves the link's text and the attributes keeps all nodes fit
pub fit_change : (m next : Nodes) (n : ℕ) (P : Node → Node → Type 0) (c : IsChangedAt m next n P) → AreFit m → ((text : List ℕ) → c.new.kind ≡ kinds.Link text → c.old.kind ≡ kinds.Link text) → c.new.keys ≡ c.old.keys → AreFit next
fit_change m next n P c all same keys = subst AreFit (sym c.now) (fit_insert m c.path c.new all (record {
  named = (all c.path c.old c.there).named;
  text = λ text is. (all c.path c.old c.there).text text (same text is);
  keys = λ key value is. (all c.path c.old c.there).keys key value (ap (λ (k : KeyRoom). fin.get k.map key) (sym keys) ∙ is);
}))

-- a change that leaves what the node is and its attributes keeps all nodes fit
pub fit_same : (m next : Nodes) (n : ℕ) (P : Node → Node → Type 0) (c : IsChangedAt m next n P) → c.new.kind ≡ c.old.kind → c.new.keys ≡ c.old.keys → AreFit m → AreFit next
fit_same m next n P c same keys all = fit_change m next n P c all (λ text is. sym same ∙ is) keys

-- a removal keeps all nodes fit
pub fit_remove : (m : Nodes) (p : Path) → AreFit m → AreFit (fin.remove m p)
fit_remove m p all q n is = all q n (was_there m p q n is)

-- a node that is moved has the new name, and those below it have their own
pub fit_move : (m : Nodes) (from up : Path) (name : Name) (free : (x : Path) → is_at_or_below (up ++ name ∷ []) x ≡ true → fin.get m x ≡ None) → IsNodeName name → AreFit m → AreFit (moved from (up ++ name ∷ []) m)
fit_move m from up name free good all q n is = ⊎_elim
    (λ (here : (r : Path) × (q ≡ (up ++ name ∷ []) ++ r) × (fin.get m (from ++ r) ≡ Some n)). subst (λ q. IsFit q n) (sym here.1) (by here.0 here.2 (by_last here.0)))
    (λ (was : (is_at_or_below (up ++ name ∷ []) q ≡ false) × (is_at_or_below from q ≡ false) × (fin.get m q ≡ Some n)). all q n was.2)
    (from_where m from (up ++ name ∷ []) free q n is)
  where
    joined : (p q r : Path) → p ++ (q ++ r) ≡ (p ++ q) ++ r
    joined [] q r = refl
    joined (x ∷ p) q r = ap (λ l. x ∷ l) (joined p q r)

    whole : (p : Path) → p ++ [] ≡ p
    whole [] = refl
    whole (x ∷ p) = ap (λ l. x ∷ l) (whole p)

    by : (r : Path) → fin.get m (from ++ r) ≡ Some n → (r ≡ []) ⊎ ((p : Path) × (x : Name) × (r ≡ p ++ x ∷ [])) → IsFit ((up ++ name ∷ []) ++ r) n
    by r there last = record {
      named = λ front other e. ⊎_elim
          (λ (top : r ≡ []). subst IsNodeName (same_last up front name other (sym (whole (up ++ name ∷ [])) ∙ ap (λ l. (up ++ name ∷ []) ++ l) (sym top) ∙ e)).1 good)
          (λ (more : (p : Path) × (x : Name) × (r ≡ p ++ x ∷ [])).
          let same : more.1 ≡ other = (same_last ((up ++ name ∷ []) ++ more.0) front more.1 other (sym (joined (up ++ name ∷ []) more.0 (more.1 ∷ [])) ∙ ap (λ l. (up ++ name ∷ []) ++ l) (sym more.2) ∙ e)).1 in
          subst IsNodeName same ((all (from ++ r) n there).named (from ++ more.0) more.1 (ap (λ l. from ++ l) more.2 ∙ joined from more.0 (more.1 ∷ []))))
          last;
      text = (all (from ++ r) n there).text;
      keys = (all (from ++ r) n there).keys;
    }
