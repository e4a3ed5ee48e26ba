-- Whether two plain trees are one is decided, and whether two indexes carry over the same.
use Rattle.std.proofs.Common.{◌≡◌, inl, inr, ℕ, zero, suc, ℤ, Bool, true, false, List, [], ◌∷◌, Option, Some, None, refl, sym, ap, ◌∙◌}
use Rattle.std.proofs.Math.IntN.{ℤ_discrete}
use Rattle.std.proofs.Math.Logic.{by_cases}
use Rattle.std.specs.FinMap as fin
use Rattle.tape_types.specs.declared.moments.Moment.{Moment}
use Rattle.tape_types.specs.declared.moments.Times.{Times}
use Rattle.tape_types.proofs.CivilLemmas.{same_moment}
use Rattle.plain_tree.specs.declared.calls.LockState.{LockState}
use Rattle.plain_tree.specs.declared.calls.LockState.TheVariants as locks
use Rattle.tape_types.specs.NodeKeys.Keys.{KeyMap}
use Rattle.index_model.specs.declared.indexes.Policy.{Policy}
use Rattle.plain_tree.specs.Cells.{Cell}
use Rattle.plain_tree.specs.Paths.{Path}
use Rattle.plain_tree.specs.Tree.{Nodes, Tree}
use Rattle.plain_tree.specs.declared.nodes.Kind.{Kind}
use Rattle.plain_tree.specs.declared.nodes.Kind.TheVariants as kinds
use Rattle.plain_tree.specs.declared.nodes.Node.{Node}
use Rattle.cartridge_meaning.specs.Carried.{Carried}
use Rattle.cartridge_meaning.proofs.Known.{Known, known_both, known_by, known_eq, known_text}

-- it is decided of any two
abbrev AreTold : Type 0 → Type 0
AreTold X = (x y : X) → Known (x ≡ y)

told_list : {X : Type 0} → AreTold X → AreTold (List X)
told_list told [] [] = inl refl
told_list told [] (y ∷ ys) = inr (λ e. let wrong : [] ≡ y ∷ ys = e in cc)
told_list told (x ∷ xs) [] = inr (λ e. let wrong : x ∷ xs ≡ [] = e in cc)
told_list {X = X} told (x ∷ xs) (y ∷ ys) =
    known_by (λ (h : (x ≡ y) × (xs ≡ ys)) i. h.0 i ∷ h.1 i)
    (λ (e : x ∷ xs ≡ y ∷ ys). ((let first : x ≡ y = cc in first), (let rest : xs ≡ ys = cc in rest)))
    (known_both (told x y) (told_list told xs ys))

told_option : {X : Type 0} → AreTold X → AreTold (Option X)
told_option told None None = inl refl
told_option told None (Some y) = inr (λ e. let wrong : None ≡ Some y = e in cc)
told_option told (Some x) None = inr (λ e. let wrong : Some x ≡ None = e in cc)
told_option told (Some x) (Some y) =
    known_by (λ (h : x ≡ y) i. Some (h i)) (λ (e : Some x ≡ Some y). let same : x ≡ y = cc in same) (told x y)

told_bool : AreTold Bool
told_bool true true = inl refl
told_bool true false = inr (λ e. cc)
told_bool false true = inr (λ e. cc)
told_bool false false = inl refl

told_int : AreTold ℤ
told_int a b = by_cases (ℤ_discrete a b) (λ e. inl e) (λ none. inr none)

told_moment : AreTold Moment
told_moment a b =
    known_by (λ (h : (a.secs ≡ b.secs) × (a.nanos ≡ b.nanos)). same_moment a b h.0 h.1)
    (λ (e : a ≡ b). (ap (λ (m : Moment). m.secs) e, ap (λ (m : Moment). m.nanos) e))
    (known_both (told_int a.secs b.secs) (known_eq a.nanos b.nanos))

abbrev SameTimes : Times → Times → Type 0
SameTimes a b = (a.create ≡ b.create)
    × ((a.change ≡ b.change) × ((a.modify ≡ b.modify) × ((a.access ≡ b.access) × (a.backup ≡ b.backup))))

told_times : AreTold Times
told_times a b =
    known_by
    (λ (h : SameTimes a b) i. record {
      create = h.0 i;
      change = h.1.0 i;
      modify = h.1.1.0 i;
      access = h.1.1.1.0 i;
      backup = h.1.1.1.1 i;
    })
    (λ (e : a ≡ b). (
      ap (λ (t : Times). t.create) e,
      (
        ap (λ (t : Times). t.change) e,
        (
          ap (λ (t : Times). t.modify) e,
          (ap (λ (t : Times). t.access) e, ap (λ (t : Times). t.backup) e),
        ),
      ),
    ))
    (known_both (told_moment a.create b.create)
    (known_both (told_moment a.change b.change)
    (known_both (told_moment a.modify b.modify)
    (known_both (told_moment a.access b.access) (told_moment a.backup b.backup)))))

told_cells : AreTold (List Cell)
told_cells = told_list (told_option known_eq)

told_kind : AreTold Kind
told_kind kinds.Dir kinds.Dir = inl refl
told_kind kinds.Dir (kinds.File cells) = inr (λ e. cc)
told_kind kinds.Dir (kinds.Link text) = inr (λ e. cc)
told_kind (kinds.File cells) kinds.Dir = inr (λ e. cc)
told_kind (kinds.File cells) (kinds.File others) =
    known_by (λ (h : cells ≡ others) i. kinds.File (h i))
    (λ (e : kinds.File cells ≡ kinds.File others). let same : cells ≡ others = cc in same) (told_cells cells others)
told_kind (kinds.File cells) (kinds.Link text) = inr (λ e. cc)
told_kind (kinds.Link text) kinds.Dir = inr (λ e. cc)
told_kind (kinds.Link text) (kinds.File cells) = inr (λ e. cc)
told_kind (kinds.Link text) (kinds.Link other) =
    known_by (λ (h : text ≡ other) i. kinds.Link (h i))
    (λ (e : kinds.Link text ≡ kinds.Link other). let same : text ≡ other = cc in same) (known_text text other)

told_value : AreTold (List ℕ × List ℕ)
told_value a b =
    known_by (λ (h : (a.0 ≡ b.0) × (a.1 ≡ b.1)) i. (h.0 i, h.1 i))
    (λ (e : a ≡ b). (ap (λ (x : List ℕ × List ℕ). x.0) e, ap (λ (x : List ℕ × List ℕ). x.1) e))
    (known_both (known_text a.0 b.0) (known_text a.1 b.1))

told_keys : AreTold KeyMap
told_keys a b =
    known_by (λ (h : fin.entries a ≡ fin.entries b). fin.same_entries_map a b h)
    (λ (e : a ≡ b). ap fin.entries e) (told_list told_value (fin.entries a) (fin.entries b))

abbrev SameNode : Node → Node → Type 0
SameNode a b = (a.uid ≡ b.uid) × ((a.times ≡ b.times) × ((a.readonly ≡ b.readonly) × ((a.keys ≡ b.keys) × (a.kind ≡ b.kind))))

told_node : AreTold Node
told_node a b =
    known_by
    (λ (h : SameNode a b) i. record { uid = h.0 i; times = h.1.0 i; readonly = h.1.1.0 i; keys = h.1.1.1.0 i; kind = h.1.1.1.1 i })
    (λ (e : a ≡ b). (
      ap (λ (n : Node). n.uid) e,
      (
        ap (λ (n : Node). n.times) e,
        (ap (λ (n : Node). n.readonly) e, (ap (λ (n : Node). n.keys) e, ap (λ (n : Node). n.kind) e)),
      ),
    ))
    (known_both (known_eq a.uid b.uid)
    (known_both (told_times a.times b.times)
    (known_both (told_bool a.readonly b.readonly)
    (known_both (told_keys a.keys b.keys) (told_kind a.kind b.kind)))))

told_entry : AreTold (Path × Node)
told_entry a b =
    known_by (λ (h : (a.0 ≡ b.0) × (a.1 ≡ b.1)) i. (h.0 i, h.1 i))
    (λ (e : a ≡ b). (ap (λ (x : Path × Node). x.0) e, ap (λ (x : Path × Node). x.1) e))
    (known_both (told_list known_text a.0 b.0) (told_node a.1 b.1))

told_nodes : AreTold Nodes
told_nodes m n =
    known_by (λ (h : fin.entries m ≡ fin.entries n). fin.same_entries_map m n h)
    (λ (e : m ≡ n). ap fin.entries e) (told_list told_entry (fin.entries m) (fin.entries n))

-- ---- the lock state

abbrev lock_number : LockState → ℕ
lock_number locks.Absent = 0
lock_number locks.Unlocked = 1
lock_number locks.Locked = 2
lock_number locks.PermLocked = 3

abbrev numbered_lock : ℕ → LockState
numbered_lock zero = locks.Absent
numbered_lock (suc zero) = locks.Unlocked
numbered_lock (suc (suc zero)) = locks.Locked
numbered_lock _ = locks.PermLocked

lock_again : (l : LockState) → numbered_lock (lock_number l) ≡ l
lock_again locks.Absent = refl
lock_again locks.Unlocked = refl
lock_again locks.Locked = refl
lock_again locks.PermLocked = refl

told_lock : AreTold LockState
told_lock a b =
    known_by (λ (h : lock_number a ≡ lock_number b). sym (lock_again a) ∙ ap numbered_lock h ∙ lock_again b)
    (λ (e : a ≡ b). ap lock_number e) (known_eq (lock_number a) (lock_number b))

-- whether two plain trees are one is decided
pub told_tree : (a b : Tree) → Known (a ≡ b)
told_tree a b =
    known_by
    (λ (h : (a.highest ≡ b.highest) × ((a.lock ≡ b.lock) × (a.nodes ≡ b.nodes))) i. record {
      highest = h.0 i;
      lock = h.1.0 i;
      nodes = h.1.1 i;
    })
    (λ (e : a ≡ b).
    (ap (λ (t : Tree). t.highest) e, (ap (λ (t : Tree). t.lock) e, ap (λ (t : Tree). t.nodes) e)))
    (known_both (known_eq a.highest b.highest) (known_both (told_lock a.lock b.lock) (told_nodes a.nodes b.nodes)))

-- ---- what is carried over

told_policy : AreTold Policy
told_policy a b =
    known_by (λ (h : (a.size ≡ b.size) × (a.names ≡ b.names)) i. record { size = h.0 i; names = h.1 i })
    (λ (e : a ≡ b). (ap (λ (x : Policy). x.size) e, ap (λ (x : Policy). x.names) e))
    (known_both (known_eq a.size b.size) (told_list known_text a.names b.names))

abbrev SameFacts : Carried → Carried → Type 0
SameFacts a b = (a.root ≡ b.root)
    × ((a.comment ≡ b.comment) × ((a.allow ≡ b.allow) × (a.policy ≡ b.policy)))

-- whether two indexes carry over the same is decided
pub told_facts : (a b : Carried) → Known (a ≡ b)
told_facts a b =
    known_by
    (λ (h : SameFacts a b) i. record {
      root = h.0 i;
      comment = h.1.0 i;
      allow = h.1.1.0 i;
      policy = h.1.1.1 i;
    })
    (λ (e : a ≡ b). (
      ap (λ (x : Carried). x.root) e,
      (
        ap (λ (x : Carried). x.comment) e,
        (ap (λ (x : Carried). x.allow) e, ap (λ (x : Carried). x.policy) e),
      ),
    ))
    (known_both (known_text a.root b.root)
    (known_both (told_option known_text a.comment b.comment)
    (known_both (told_bool a.allow b.allow)
    (told_option told_policy a.policy b.policy))))
