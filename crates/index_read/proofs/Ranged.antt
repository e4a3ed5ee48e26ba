-- What elements are spelled: leaves with values in the ranges of their forms.
use Rattle.std.proofs.Common.{◌≡◌, ℕ, List, [], ◌∷◌, Bool, true, false, ◌==◌, Option, Some, None, IsUtf8, if◌then◌else◌, refl, sym, ap, subst, ◌∙◌}
use Rattle.std.specs.Prelude.{⊤}
use Rattle.std.specs.List.{AllByRecursion}
use Rattle.ltfs_documents.specs.declared.doc_fields.tags.Tag.{Tag}
use Rattle.ltfs_documents.specs.declared.doc_fields.tags.Tag.TheVariants.{Name}
use Rattle.ltfs_documents.specs.DocFields.Space.{space_end}
use Rattle.ltfs_documents.specs.DocElements.Children.{code}
use Rattle.ltfs_documents.specs.declared.doc_elements.schema.Container.{Container}
use Rattle.ltfs_documents.specs.declared.doc_elements.schema.Container.TheVariants as place
use Rattle.ltfs_documents.specs.declared.doc_elements.schema.Form.{Form}
use Rattle.ltfs_documents.specs.declared.doc_elements.schema.Form.TheVariants as form
use Rattle.ltfs_documents.specs.declared.doc_elements.schema.Child.{Child}
use Rattle.ltfs_documents.specs.declared.doc_elements.schema.Child.TheVariants as child
use Rattle.ltfs_documents.specs.DocElements.Schema.{rule, place_code}
use Rattle.ltfs_documents.specs.DocElements.Pieces.{Val, words, time, uuid, letter, number, truth, lock, bytes}
use Rattle.ltfs_documents.specs.DocElements.Elements.{Item, plain, bare, nested, Items, no_items, item, item_tag, Spelled, AllSpelled}
use Rattle.index_model.specs.Grammar.{or_else, own, told, own_children, inside, names_in}
use Rattle.index_read.proofs.Facts.{same_place}
use Rattle.index_read.proofs.Fits.{same_tag}
use Rattle.index_read.proofs.Ranges.{InRange, leaf_range}

abbrev mutual
  -- each leaf in this child of p has a value in its range
  pub IsRanged : Container → Item → Type 0
  IsRanged p (plain tag v) = (f : Form) × (rule p tag ≡ child.Leaf f) × InRange f v
  IsRanged p (bare q) = ⊤
  IsRanged p (nested q is) = AreRanged q is

  -- each leaf in these children of p has one
  pub AreRanged : Container → Items → Type 0
  AreRanged p no_items = ⊤
  AreRanged p (item i is) = IsRanged p i × AreRanged p is

-- ---- what is spelled is in its range

mutual
  item_ranged : (text : List ℕ) (p : Container) (at : ℕ) (i : Item) (next : ℕ) → Spelled text p at i next → IsRanged p i
  item_ranged text p at (plain tag v) next s = (s.0, s.2.child, leaf_range s.0 tag at s.1 text v next s.3)
  item_ranged text p at (bare q) next s = tt
  item_ranged text p at (nested q is) next s = all_ranged text q [] s.0.next is s.3 s.4

  pub all_ranged : (text : List ℕ) (p : Container) (seen : List Tag) (at : ℕ) (is : Items) (end : ℕ) → AllSpelled text p seen at is end → AreRanged p is
  all_ranged text p seen at no_items end s = tt
  all_ranged text p seen at (item i is) end s = (item_ranged text p (space_end text at) i s.1 s.2, all_ranged text p (item_tag i ∷ seen) s.1 is end s.3)

-- ---- what is told is in its range

own_range : (p : Container) (i : Item) (t : Tag) (f : Form) (v : Val) → IsRanged p i → rule p t ≡ child.Leaf f → own t i ≡ Some v → InRange f v
own_range p (plain u w) t f v ranged is e = by (code t == code u) refl e
  where
    by : (b : Bool) → (code t == code u) ≡ b → (if b then Some w else None) ≡ Some v → InRange f v
    by true h o =
        let forms : ◌≡◌ {A = Child} (child.Leaf f) (child.Leaf ranged.0) = sym is ∙ ap (rule p) (same_tag t u h) ∙ ranged.1 in
        let one : ranged.0 ≡ f = cc in
        let value : w ≡ v = cc (o) in
        subst (λ x. InRange x v) one (subst (InRange ranged.0) value ranged.2)
    by false h o = absurd cc
own_range p (bare q) t f v ranged is e = absurd cc
own_range p (nested q is) t f v ranged r e = absurd cc

-- a leaf that elements tell has a value in the range of its form
pub told_range : (p : Container) (is : Items) (t : Tag) (f : Form) (v : Val) → AreRanged p is → rule p t ≡ child.Leaf f → told t is ≡ Some v → InRange f v
told_range p no_items t f v ranged r e = absurd cc
told_range p (item i is) t f v ranged r e = by (told t is) refl (λ w. told_range p is t f w ranged.1 r) e
  where
    by : (o : Option Val) → told t is ≡ o → ((w : Val) → told t is ≡ Some w → InRange f w) → or_else o (own t i) ≡ Some v → InRange f v
    by None h later o = own_range p i t f v ranged.0 r o
    by (Some w) h later o = let same : w ≡ v = cc (o) in subst (InRange f) same (later w h)

-- the children of a parent among children
pub inside_ranged : (p : Container) (is : Items) (q : Container) (x : Items) → AreRanged p is → inside q is ≡ Some x → AreRanged q x
inside_ranged p no_items q x ranged e = absurd cc
inside_ranged p (item i is) q x ranged e = by (inside q is) refl (λ y. inside_ranged p is q y ranged.1) e
  where
    one : (r : Container) (y : Items) → AreRanged r y → (b : Bool) → (place_code q == place_code r) ≡ b → (if b then Some y else None) ≡ Some x → AreRanged q x
    one r y h true is o = let same : y ≡ x = cc (o) in subst (AreRanged q) same (subst (λ (s : Container). AreRanged s y) (sym (same_place q r is)) h)
    one r y h false is o = absurd cc

    now : (i : Item) → IsRanged p i → own_children q i ≡ Some x → AreRanged q x
    now (plain t v) h o = absurd cc
    now (bare r) h o = one r no_items tt (place_code q == place_code r) refl o
    now (nested r y) h o = one r y h (place_code q == place_code r) refl o

    by : (o : Option Items) → inside q is ≡ o → ((y : Items) → inside q is ≡ Some y → AreRanged q y) → or_else o (own_children q i) ≡ Some x → AreRanged q x
    by None h later o = now i ranged.0 o
    by (Some y) h later o = let same : y ≡ x = cc (o) in subst (AreRanged q) same (later y h)

-- ---- a policy's patterns

pattern_range : (v : Val) (f : Form) → rule place.Criteria Name ≡ child.Leaf f → InRange f v → InRange form.AnyName v
pattern_range v f is h = let same : f ≡ form.AnyName = cc (is) in subst (λ (g : Form). InRange g v) same h

-- the names of a placement policy that are told are UTF-8
pub names_ranged : (is : Items) → AreRanged place.Criteria is → AllByRecursion IsUtf8 (names_in is)
names_ranged no_items h = tt
names_ranged (item (plain Name (words t)) is) h = (pattern_range (words t) h.0.0 h.0.1 h.0.2, names_ranged is h.1)
names_ranged (item (plain Name (time c)) is) h = names_ranged is h.1
names_ranged (item (plain Name (uuid n)) is) h = names_ranged is h.1
names_ranged (item (plain Name (letter b)) is) h = names_ranged is h.1
names_ranged (item (plain Name (number n)) is) h = names_ranged is h.1
names_ranged (item (plain Name (truth b)) is) h = names_ranged is h.1
names_ranged (item (plain Name (lock state)) is) h = names_ranged is h.1
names_ranged (item (plain Name (bytes bs)) is) h = names_ranged is h.1
names_ranged (item (plain _ v) is) h = names_ranged is h.1
names_ranged (item (bare q) is) h = names_ranged is h.1
names_ranged (item (nested q x) is) h = names_ranged is h.1
