-- Elements that are written are spelled.
use Rattle.std.proofs.Common.{◌≡◌, ℕ, ◌+◌, true, false, not, ◌&&◌, List, [], ◌∷◌, ◌++◌, length, drop, Option, Some, None, Ok, IsUtf8, refl, sym, ap, subst, ◌∙◌, append_assoc, add-zero, arith, length-append}
use Rattle.std.proofs.lemmas.Bool.{and_parts, not-true}
use Rattle.std.proofs.lemmas.Str.{IsUtf8-append, IsUtf8-nil}
use Rattle.ltfs_documents.specs.declared.doc_fields.tags.Tag.{Tag}
use Rattle.ltfs_documents.specs.declared.doc_fields.starts.Attribute.{Attribute}
use Rattle.ltfs_documents.specs.declared.doc_fields.starts.Attribute.TheVariants.{Absent, Version, Percent, Base64, Plain}
use Rattle.ltfs_documents.specs.declared.doc_fields.starts.Start.{Start}
use Rattle.ltfs_documents.specs.DocFields.Space.{space_end}
use Rattle.ltfs_documents.specs.DocFields.Tags.{spelled}
use Rattle.ltfs_documents.specs.DocFields.Written.{attribute_text, end_text, start_text}
use Rattle.ltfs_documents.proofs.DocFields.Again.{next_is, space_again}
use Rattle.ltfs_documents.proofs.DocFields.TagsAgain.{end_again, opened}
use Rattle.ltfs_documents.proofs.DocFields.WrittenBytes.{ascii_valid}
use Rattle.ltfs_documents.specs.DocElements.Children.{member}
use Rattle.ltfs_documents.specs.declared.doc_elements.schema.Container.{Container}
use Rattle.ltfs_documents.specs.declared.doc_elements.schema.Form.{Form}
use Rattle.ltfs_documents.specs.declared.doc_elements.schema.Child.{Child}
use Rattle.ltfs_documents.specs.declared.doc_elements.schema.Child.TheVariants as child
use Rattle.ltfs_documents.specs.DocElements.Written.{element}
use Rattle.ltfs_documents.specs.DocElements.Elements.{Item, plain, bare, nested, Items, no_items, item, item_tag, MayFollow, Starts, Spelled, AllSpelled}
use Rattle.ltfs_documents.specs.DocElements.Pieces.{Val, leaf_at, has_any}
use Rattle.ltfs_documents.specs.DocElements.Schema.{rule, tag_of, may_repeat, excludes}
use Rattle.ltfs_documents.proofs.DocElements.WrittenItems.{attribute_of, content_of, GoodItem, GoodItems, HasTags, is_none, may_follow, ReadsBack, stand, text_of, texts_of}

regroup : (a b c d : List ℕ) → (a ++ b ++ c) ++ d ≡ a ++ (b ++ (c ++ d))
regroup a b c d = simp append_assoc

-- a start tag that was written
record Begun (text : List ℕ) (p : Container) (at : ℕ) (c : Child) (tag : Tag) (a : Attribute) (rest : List ℕ) : Type 0 where
  here : space_end text at ≡ at
  start : Start
  starts : Starts text p at c tag start
  full : start.empty ≡ false
  attribute : start.attribute ≡ a
  next : start.next ≡ at + length (start_text tag a)
  left : drop (at + length (start_text tag a)) text ≡ rest

begun : (text : List ℕ) (p : Container) (at : ℕ) (c : Child) (tag : Tag) (a : Attribute) (rest : List ℕ) → rule p tag ≡ c → HasTags tag a → drop at text ≡ start_text tag a ++ rest → Begun text p at c tag a rest
begun text p at c tag a rest r tags e =
    let o = opened text tag a at rest tags.may e in
    record {
      here = space_again text at 60 _ e refl;
      start = record { tag = tag; attribute = a; empty = false; next = at + length (start_text tag a) };
      starts = record { child = r; name_end = at + 1 + length (spelled tag); named = o.named; rest = o.rest };
      full = refl;
      attribute = refl;
      next = refl;
      left = next_is text at (start_text tag a) rest e;
    }

leaf_again : (f : Form) (tag : Tag) (v : Val) (from : ℕ) (start : Start) (text : List ℕ) (m : ℕ) (rest : List ℕ) → ReadsBack f tag v → start.empty ≡ false → start.attribute ≡ attribute_of tag v → start.next ≡ m → drop m text ≡ content_of tag v ++ (end_text tag ++ rest)
    → leaf_at f tag from start text ≡ Ok (v, m + length (content_of tag v) + length (end_text tag))
unfolding leaf_at
leaf_again f tag v from start text m rest good full a next e =
    let e1 : drop start.next text ≡ content_of tag v ++ (end_text tag ++ rest) = ap (λ (n : ℕ). drop n text) next ∙ e in
    let value = good.again text from start (47 ∷ (spelled tag ++ 62 ∷ []) ++ rest) a e1 in
    let end = end_again text (start.next + length (content_of tag v)) tag rest (next_is text start.next (content_of tag v) (end_text tag ++ rest) e1) in
    rw (value, full, end, next) refl

-- ---- where children stand

none_is : (o : Option Tag) → is_none o ≡ true → o ≡ None
none_is None e = refl
none_is (Some tag) e = absurd cc

follows : (p : Container) (seen : List Tag) (tag : Tag) → may_follow p seen tag ≡ true → MayFollow p seen tag
follows p seen tag e =
    let x = and_parts (not (has_any (excludes tag) seen)) (not (member tag seen && not (may_repeat p tag))) e in
    record { alone = not-true _ x.0; once = not-true _ x.1 }

mutual
  item_again : (text : List ℕ) (p : Container) (at : ℕ) (i : Item) (rest : List ℕ) → GoodItem p i → drop at text ≡ text_of i ++ rest → Spelled text p (space_end text at) i (at + length (text_of i))
  item_again text p at (plain tag v) rest good e =
      let a = attribute_of tag v in
      let e1 : drop at text ≡ start_text tag a ++ (content_of tag v ++ (end_text tag ++ rest)) = e ∙ regroup (start_text tag a) (content_of tag v) (end_text tag) rest in
      let b = begun text p at (child.Leaf good.0) tag a (content_of tag v ++ (end_text tag ++ rest)) good.1 good.2 e1 in
      let l = leaf_again good.0 tag v (space_end text at) b.start text (at + length (start_text tag a)) rest good.3 b.full b.attribute b.next b.left in
      let there : at + length (start_text tag a) + length (content_of tag v) + length (end_text tag) ≡ at + length (text_of (plain tag v)) = omega (arith, length-append (start_text tag a ++ content_of tag v) (end_text tag), length-append (start_text tag a) (content_of tag v)) in
      (good.0, b.start, subst (λ (n : ℕ). Starts text p n (child.Leaf good.0) tag b.start) (sym b.here) b.starts, l ∙ ap (λ (n : ℕ). Ok (v, n)) there)
  item_again text p at (bare q) rest good e = absurd good
  item_again text p at (nested q is) rest good e =
      let s = start_text (tag_of q) Absent in
      let e1 : drop at text ≡ s ++ (texts_of is ++ (end_text (tag_of q) ++ rest)) = e ∙ regroup s (texts_of is) (end_text (tag_of q)) rest in
      let b = begun text p at (child.Parent q) (tag_of q) Absent (texts_of is ++ (end_text (tag_of q) ++ rest)) good.0 good.1 e1 in
      let inside = all_again text q [] (at + length s) is (47 ∷ (spelled (tag_of q) ++ 62 ∷ []) ++ rest) good.2 good.3 b.left in
      let end = at + length s + length (texts_of is) in
      let close = end_again text end (tag_of q) rest (next_is text (at + length s) (texts_of is) (end_text (tag_of q) ++ rest) b.left) in
      let there : end + length (end_text (tag_of q)) ≡ at + length (element (tag_of q) (texts_of is)) = omega (arith, length-append (s ++ texts_of is) (end_text (tag_of q)), length-append s (texts_of is)) in
      (b.start, subst (λ (n : ℕ). Starts text p n (child.Parent q) (tag_of q) b.start) (sym b.here) b.starts, b.full, end, subst (λ (n : ℕ). AllSpelled text q [] n is end) (sym b.next) inside, close ∙ ap (λ (n : ℕ). Ok n) there)

  pub all_again : (text : List ℕ) (p : Container) (seen : List Tag) (at : ℕ) (is : Items) (rest : List ℕ) → stand p seen is ≡ true → GoodItems p is → drop at text ≡ texts_of is ++ 60 ∷ rest → AllSpelled text p seen at is (at + length (texts_of is))
  all_again text p seen at no_items rest standing good e = (rw (add-zero at) (sym (space_again text at 60 rest e refl)), none_is _ standing)
  all_again text p seen at (item i is) rest standing good e =
      let x = and_parts (may_follow p seen (item_tag i)) (stand p (item_tag i ∷ seen) is) standing in
      let e1 : drop at text ≡ text_of i ++ (texts_of is ++ 60 ∷ rest) = e ∙ append_assoc (text_of i) (texts_of is) (60 ∷ rest) in
      let next = next_is text at (text_of i) (texts_of is ++ 60 ∷ rest) e1 in
      let there : at + length (text_of i) + length (texts_of is) ≡ at + length (text_of i ++ texts_of is) = omega (arith, length-append (text_of i) (texts_of is)) in
      let more = all_again text p (item_tag i ∷ seen) (at + length (text_of i)) is rest x.1 good.1 next in
      (follows p seen (item_tag i) x.0, at + length (text_of i), item_again text p at i (texts_of is ++ 60 ∷ rest) good.0 e1, subst (λ (n : ℕ). AllSpelled text p (item_tag i ∷ seen) (at + length (text_of i)) is n) there more)

-- ---- UTF-8

attribute_valid : (a : Attribute) → IsUtf8 (attribute_text a)
attribute_valid Absent = IsUtf8-nil
attribute_valid Version = ascii_valid (attribute_text Version) refl
attribute_valid (Percent true) = ascii_valid (attribute_text (Percent true)) refl
attribute_valid (Percent false) = ascii_valid (attribute_text (Percent false)) refl
attribute_valid Base64 = ascii_valid (attribute_text Base64) refl
attribute_valid Plain = ascii_valid (attribute_text Plain) refl

start_valid : (tag : Tag) (a : Attribute) → HasTags tag a → IsUtf8 (start_text tag a)
start_valid tag a h = IsUtf8-append (60 ∷ spelled tag ++ attribute_text a) (62 ∷ []) (IsUtf8-append (60 ∷ spelled tag) (attribute_text a) (ascii_valid (60 ∷ spelled tag) h.name) (attribute_valid a)) (ascii_valid (62 ∷ []) refl)

end_valid : (tag : Tag) (a : Attribute) → HasTags tag a → IsUtf8 (end_text tag)
end_valid tag a h = IsUtf8-append (60 ∷ 47 ∷ spelled tag) (62 ∷ []) (ascii_valid (60 ∷ 47 ∷ spelled tag) h.name) (ascii_valid (62 ∷ []) refl)

within_valid : (tag : Tag) (a : Attribute) (content : List ℕ) → HasTags tag a → IsUtf8 content → IsUtf8 (start_text tag a ++ content ++ end_text tag)
within_valid tag a content h valid = IsUtf8-append (start_text tag a ++ content) (end_text tag) (IsUtf8-append (start_text tag a) content (start_valid tag a h) valid) (end_valid tag a h)

mutual
  item_valid : (p : Container) (i : Item) → GoodItem p i → IsUtf8 (text_of i)
  item_valid p (plain tag v) good = within_valid tag (attribute_of tag v) (content_of tag v) good.2 good.3.valid
  item_valid p (bare q) good = absurd good
  item_valid p (nested q is) good = within_valid (tag_of q) Absent (texts_of is) good.1 (all_valid q is good.3)

  pub all_valid : (p : Container) (is : Items) → GoodItems p is → IsUtf8 (texts_of is)
  all_valid p no_items good = IsUtf8-nil
  all_valid p (item i is) good = IsUtf8-append (text_of i) (texts_of is) (item_valid p i good.0) (all_valid p is good.1)
