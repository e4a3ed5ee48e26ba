-- What a piece that is read is, and what is read where such a piece stands.
use Rattle.std.proofs.Common.{◌≡◌, ℕ, ◌+◌, List, [], Bool, true, false, cond, ◌==◌, ◌&&◌, Option, Some, None, Result, Ok, Err, nat_le, not, refl, ap, subst}
use Rattle.tape_types.specs.Bounds.{most_nodes}
use Rattle.ltfs_documents.specs.declared.doc_fields.tags.Tag.{Tag}
use Rattle.ltfs_documents.specs.declared.doc_fields.starts.Start.{Start}
use Rattle.ltfs_documents.specs.DocFields.Reading.{Read, byte}
use Rattle.ltfs_documents.specs.DocFields.Space.{space_end}
use Rattle.ltfs_documents.specs.DocFields.StartTag.{named_at, rest_at}
use Rattle.ltfs_documents.specs.DocFields.EndTag.{end_at}
use Rattle.ltfs_documents.specs.declared.doc_elements.schema.Container.{Container}
use Rattle.ltfs_documents.specs.declared.doc_elements.schema.Form.{Form}
use Rattle.ltfs_documents.specs.declared.doc_elements.schema.Child.{Child}
use Rattle.ltfs_documents.specs.declared.doc_elements.schema.Child.TheVariants as child
use Rattle.ltfs_documents.specs.declared.doc_elements.errors.PieceErr.{PieceErr}
use Rattle.ltfs_documents.specs.declared.doc_elements.errors.PieceErr.TheVariants as errors
use Rattle.ltfs_documents.specs.DocElements.Schema.{rule, required, tag_of, may_repeat, excludes}
use Rattle.ltfs_documents.specs.DocElements.Children.{member, first_missing}
use Rattle.ltfs_documents.specs.DocElements.Pieces.{Piece, opens, whole, closes, leaf, Frame, ◌>>=◌, lift, none_missing, beside, has_any, if_known, opens_node, verdict, unknown_first, leaf_at, made, child_at, close_at, piece_at}
use Rattle.ltfs_documents.specs.DocElements.Elements.{Starts, MayFollow}
use Rattle.ltfs_documents.proofs.DocElements.Tags.{named_opens, end_closes}
use Rattle.ltfs_documents.proofs.DocElements.Parents.{rule_tag}

-- ---- tools

-- where two steps succeed together, each of them does
pub bind_ok : {A B : Type 0} (r : Result A PieceErr) (f : A → Result B PieceErr) (y : B) → (r >>= f) ≡ Ok y → (x : A) × (r ≡ Ok x) × (f x ≡ Ok y)
bind_ok (Ok x) f y e = (x, refl, e)
bind_ok (Err d) f y e = absurd cc

-- a reading that succeeds as a piece's part succeeds by itself
pub lift_ok : {A : Type 0} (r : Read A) (x : A) → lift r ≡ Ok x → r ≡ Ok x
lift_ok (Ok y) x e = let same : y ≡ x = cc in ap (λ z. Ok z) same
lift_ok (Err d) x e = absurd cc

guard_ok : {A : Type 0} (b : Bool) (d : PieceErr) (x y : A) → cond b (Ok x) (Err d) ≡ Ok y → (b ≡ true) × (x ≡ y)
guard_ok true d x y e = (refl, cc)
guard_ok false d x y e = absurd cc

missing_ok : (o : Option Tag) (u : Unit {0}) → none_missing o ≡ Ok u → o ≡ None
missing_ok None u e = refl
missing_ok (Some t) u e = absurd cc

-- ---- what may stand where

-- an element may stand as this child: it is known, may follow the others, and there is room for a node more
pub record Allowed (f : Frame) (nodes : ℕ) (tag : Tag) (c : Child) : Type 0 where
  pub child : rule f.place tag ≡ c
  pub follows : MayFollow f.place f.seen tag
  pub room : (opens_node c && nat_le most_nodes nodes) ≡ false

-- where a refusal was possible and there is none, its cause is not there
pub unless_ok : {A : Type 0} (b : Bool) (d : PieceErr) (r : Result A PieceErr) (y : A) → cond b (Err d) r ≡ Ok y → (b ≡ false) × (r ≡ Ok y)
unless_ok true d r y e = absurd cc
unless_ok false d r y e = (refl, e)

known_ok : (r : Child) (at : ℕ) (v : Result Child PieceErr) (c : Child) → if_known r at v ≡ Ok c → v ≡ Ok c
known_ok child.Unknown at v c e = absurd cc
known_ok (child.Leaf form) at v c e = e
known_ok (child.Parent q) at v c e = e

-- a child that gets a favourable verdict is allowed
pub verdict_ok : (f : Frame) (nodes at : ℕ) (tag : Tag) (c : Child) → verdict f nodes at tag ≡ Ok c → Allowed f nodes tag c
unfolding verdict
verdict_ok f nodes at tag c e =
    let r = rule f.place tag in
    let k = known_ok r at (beside f nodes at tag r) c e in
    let alone = unless_ok (has_any (excludes tag) f.seen) (errors.Unknown at) _ c k in
    let once = unless_ok (member tag f.seen && not (may_repeat f.place tag)) (errors.Twice at) _ c alone.1 in
    let few = unless_ok (opens_node r && nat_le most_nodes nodes) errors.TooMany _ c once.1 in
    let same : r ≡ c = cc (few.1) in
    record { child = same; follows = record { alone = alone.0; once = once.0 }; room = subst (λ (x : Child). (opens_node x && nat_le most_nodes nodes) ≡ false) same few.0 }

leaf_verdict : (f : Frame) (nodes at : ℕ) (tag : Tag) (form : Form) → rule f.place tag ≡ child.Leaf form → MayFollow f.place f.seen tag → verdict f nodes at tag ≡ Ok (child.Leaf form)
unfolding verdict
leaf_verdict f nodes at tag form is m = rw (is, m.alone, m.once) refl

parent_verdict : (f : Frame) (nodes at : ℕ) (tag : Tag) (q : Container) → rule f.place tag ≡ child.Parent q → MayFollow f.place f.seen tag → (opens_node (child.Parent q) && nat_le most_nodes nodes) ≡ false → verdict f nodes at tag ≡ Ok (child.Parent q)
unfolding verdict
parent_verdict f nodes at tag q is m room = rw (is, m.alone, m.once, room) refl

-- ---- a piece

pub record ParentStarts (text : List ℕ) (f : Frame) (at : ℕ) (q : Container) (start : Start) : Type 0 where
  pub starts : Starts text f.place at (child.Parent q) (tag_of q) start
  pub follows : MayFollow f.place f.seen (tag_of q)

-- there is room for one node more, where the parent is one
abbrev pub HasPlace : Container → ℕ → Type 0
HasPlace q nodes = (opens_node (child.Parent q) && nat_le most_nodes nodes) ≡ false

-- what a piece is that begins at a place, and ends at another
abbrev pub What : List ℕ → Frame → ℕ → ℕ → Piece → ℕ → Type 0
What text f nodes at closes next = (end_at text at (tag_of f.place) ≡ Ok next) × (first_missing (required f.place) f.seen ≡ None)
What text f nodes at (leaf tag v) next = (form : Form) × (start : Start) × Starts text f.place at (child.Leaf form) tag start × MayFollow f.place f.seen tag × (leaf_at form tag at start text ≡ Ok (v, next))
What text f nodes at (opens q) next = (start : Start) × ParentStarts text f at q start × HasPlace q nodes × (start.empty ≡ false) × (start.next ≡ next)
What text f nodes at (whole q) next = (start : Start) × ParentStarts text f at q start × HasPlace q nodes × (start.empty ≡ true) × (start.next ≡ next) × (first_missing (required q) [] ≡ None)

-- ---- what is read is such a piece

made_is : (c : Child) (text : List ℕ) (f : Frame) (nodes at : ℕ) (tag : Tag) (end : ℕ) (start : Start) (p : Piece × ℕ) → named_at text at ≡ Ok (tag, end) → rest_at tag at text end ≡ Ok start → Allowed f nodes tag c → made c tag at start text ≡ Ok p → What text f nodes at p.0 p.1
unfolding made
made_is child.Unknown text f nodes at tag end start p n r a e = absurd cc
made_is (child.Leaf form) text f nodes at tag end start p n r a e =
    let v = bind_ok (leaf_at form tag at start text) _ p e in
    let pair : ◌≡◌ {A = Piece × ℕ} (leaf tag v.0.0, v.0.1) p = cc (v.2) in
    let s : Starts text f.place at (child.Leaf form) tag start = record { child = a.child; name_end = end; named = n; rest = r } in
    subst (λ (x : Piece × ℕ). What text f nodes at x.0 x.1) pair (form, start, s, a.follows, v.1)
made_is (child.Parent q) text f nodes at tag end start p n r a e =
    let t : tag_of q ≡ tag = rule_tag f.place tag q a.child in
    let s : ParentStarts text f at q start = subst (λ (x : Tag). rule f.place x ≡ child.Parent q → named_at text at ≡ Ok (x, end) → rest_at x at text end ≡ Ok start → MayFollow f.place f.seen x → ParentStarts text f at q start) t
    (λ c m o w. record { starts = record { child = c; name_end = end; named = m; rest = o }; follows = w }) a.child n r a.follows in
    let go : (b : Bool) → start.empty ≡ b → cond b (none_missing (first_missing (required q) []) >>= λ _. Ok (whole q, start.next)) (Ok (opens q, start.next)) ≡ Ok p → What text f nodes at p.0 p.1
    = λ b. elim b as (λ b. start.empty ≡ b → cond b (none_missing (first_missing (required q) []) >>= λ _. Ok (whole q, start.next)) (Ok (opens q, start.next)) ≡ Ok p → What text f nodes at p.0 p.1) [
      | true ↦ λ is h.
          let m = bind_ok (none_missing (first_missing (required q) [])) (λ _. Ok (whole q, start.next)) p h in
          let pair : ◌≡◌ {A = Piece × ℕ} (whole q, start.next) p = cc (m.2) in
          subst (λ (x : Piece × ℕ). What text f nodes at x.0 x.1) pair (start, s, a.room, is, refl, missing_ok _ m.0 m.1)
      | false ↦ λ is h.
          let pair : ◌≡◌ {A = Piece × ℕ} (opens q, start.next) p = cc (h) in
          subst (λ (x : Piece × ℕ). What text f nodes at x.0 x.1) pair (start, s, a.room, is, refl)
    ] in
    go start.empty refl e

first_ok : {A B : Type 0} (r : Read A) (x : A) (v : Result B PieceErr) (c : B) → r ≡ Ok x → unknown_first r v ≡ Ok c → v ≡ Ok c
first_ok (Ok y) x v c e h = h
first_ok (Err d) x v c e h = absurd cc

child_is : (text : List ℕ) (f : Frame) (nodes at : ℕ) (p : Piece) (next : ℕ) → child_at f nodes text at ≡ Ok (p, next) → What text f nodes at p next
unfolding child_at
child_is text f nodes at p next e =
    let a = bind_ok (lift (named_at text at)) _ (p, next) e in
    let b = bind_ok (unknown_first (rest_at a.0.0 at text a.0.1) (verdict f nodes at a.0.0)) _ (p, next) a.2 in
    let d = bind_ok (lift (rest_at a.0.0 at text a.0.1)) _ (p, next) b.2 in
    let r = lift_ok (rest_at a.0.0 at text a.0.1) d.0 d.1 in
    let v : verdict f nodes at a.0.0 ≡ Ok b.0 = first_ok (rest_at a.0.0 at text a.0.1) d.0 (verdict f nodes at a.0.0) b.0 r b.1 in
    made_is b.0 text f nodes at a.0.0 a.0.1 d.0 (p, next) (lift_ok (named_at text at) a.0 a.1) r (verdict_ok f nodes at a.0.0 b.0 v) d.2

close_is : (text : List ℕ) (f : Frame) (nodes at : ℕ) (p : Piece) (next : ℕ) → close_at f text at ≡ Ok (p, next) → What text f nodes at p next
unfolding close_at
close_is text f nodes at p next e =
    let a = bind_ok (lift (end_at text at (tag_of f.place))) (λ n. none_missing (first_missing (required f.place) f.seen) >>= λ _. Ok (closes, n)) (p, next) e in
    let b = bind_ok (none_missing (first_missing (required f.place) f.seen)) (λ _. Ok (closes, a.0)) (p, next) a.2 in
    let pair : ◌≡◌ {A = Piece × ℕ} (closes, a.0) (p, next) = cc (b.2) in
    subst (λ (x : Piece × ℕ). What text f nodes at x.0 x.1) pair (lift_ok _ a.0 a.1, missing_ok _ b.0 b.1)

-- a piece that is read is what the rules say of its kind
pub piece_is : (text : List ℕ) (f : Frame) (nodes at : ℕ) (p : Piece) (next : ℕ) → piece_at f nodes text at ≡ Ok (p, next) → What text f nodes (space_end text at) p next
unfolding piece_at
piece_is text f nodes at p next e =
    let s = space_end text at in
    let go : (b : Bool) → cond b (close_at f text s) (child_at f nodes text s) ≡ Ok (p, next) → What text f nodes s p next = λ b. elim b as (λ b. cond b (close_at f text s) (child_at f nodes text s) ≡ Ok (p, next) → What text f nodes s p next) [
      | true ↦ λ h. close_is text f nodes s p next h
      | false ↦ λ h. child_is text f nodes s p next h
    ] in
    go (byte text s == 60 && byte text (s + 1) == 47) e

-- ---- where such a piece stands, it is read

-- where the rules of a piece hold, that piece is read
pub is_piece : (text : List ℕ) (f : Frame) (nodes at : ℕ) (p : Piece) (next : ℕ) → What text f nodes (space_end text at) p next → piece_at f nodes text at ≡ Ok (p, next)
unfolding piece_at close_at child_at made
is_piece text f nodes at closes next w =
    rw (end_closes text (space_end text at) (tag_of f.place) next w.0, w.0, w.1) refl
is_piece text f nodes at (leaf tag v) next w =
    let s = w.2 in
    rw (named_opens text (space_end text at) (tag, s.name_end) s.named, s.named, s.rest, leaf_verdict f nodes (space_end text at) tag w.0 s.child w.3, w.4) refl
is_piece text f nodes at (opens q) next w =
    let s = w.1.starts in
    rw (named_opens text (space_end text at) (tag_of q, s.name_end) s.named, s.named, s.rest, parent_verdict f nodes (space_end text at) (tag_of q) q s.child w.1.follows w.2, w.3, w.4) refl
is_piece text f nodes at (whole q) next w =
    let s = w.1.starts in
    rw (named_opens text (space_end text at) (tag_of q, s.name_end) s.named, s.named, s.rest, parent_verdict f nodes (space_end text at) (tag_of q) q s.child w.1.follows w.2, w.3, w.5, w.4) refl
