-- A text with another front, in which other pointers stand, is read as the same index with these pointers.
use Rattle.std.proofs.Common.{◌≡◌, ℕ, Bool, true, false, not, ◌==◌, ◌&&◌, ◌||◌, List, [], ◌∷◌, ◌++◌, length, take, drop, ◌≤◌, Option, None, Some, Result, Ok, IsUtf8, ⊎_elim, refl, sym, ap, subst, ◌∙◌, arith}
use Rattle.std.specs.Option.{option_map}
use Rattle.std.proofs.lemmas.List.{length-take-le, take-append-drop}
use Rattle.std.proofs.lemmas.Str.{IsCharBoundary-from_take, IsUtf8-append, IsUtf8-drop}
use Rattle.ltfs_documents.specs.declared.doc_fields.tags.Tag.{Tag}
use Rattle.ltfs_documents.specs.declared.doc_fields.tags.Tag.TheVariants.{AllowPolicyUpdate, Creator, Directory, ExtentInfo, GenerationNumber, HighestFileUid, Location, LtfsIndex, PreviousGenerationLocation, Symlink, UpdateTime, VolumeUuid}
use Rattle.ltfs_documents.specs.DocFields.Space.{space_end}
use Rattle.ltfs_documents.specs.declared.doc_elements.children.Children.{Children}
use Rattle.ltfs_documents.specs.declared.doc_elements.errors.PieceErr.{PieceErr}
use Rattle.ltfs_documents.specs.declared.doc_elements.schema.Form.{Form}
use Rattle.ltfs_documents.specs.declared.doc_elements.schema.Container.{Container}
use Rattle.ltfs_documents.specs.declared.doc_elements.schema.Container.TheVariants as place
use Rattle.ltfs_documents.specs.declared.doc_elements.schema.Child.TheVariants as child
use Rattle.ltfs_documents.specs.DocElements.Children.{Holds, bits_of, code, first_missing, member}
use Rattle.ltfs_documents.specs.DocElements.Documents.{Point, Reaches, after, counted, fresh, with_child}
use Rattle.ltfs_documents.specs.DocElements.Elements.{Item, plain, MayFollow}
use Rattle.ltfs_documents.specs.DocElements.Pieces.{Frame, Piece, closes, has_any, leaf, opens, piece_at, whole}
use Rattle.ltfs_documents.specs.DocElements.Schema.{excludes, may_repeat, required, rule, tag_of}
use Rattle.ltfs_documents.proofs.DocElements.Bits.{has_is}
use Rattle.ltfs_documents.proofs.DocElements.Inversion.{What, is_piece, piece_is}
use Rattle.index_model.specs.declared.indexes.Index.{Index}
use Rattle.index_model.specs.declared.indexes.Spot.{Spot}
use Rattle.index_model.specs.Grammar.{IndexText}
use Rattle.index_model.specs.Valid.{Agrees}
use Rattle.index_model.specs.Values.{VolumeFacts, volume_of}
use Rattle.index_read.specs.Fronts.{HasBack, IsFront, repointed, with_pointers}
use Rattle.index_read.specs.Told.{State, Level, Tell, begun, blank, ended, leaf_told, levels_after, node_in, outermost, piece_told, spot_with}
use Rattle.index_read.specs.Walks.{IsWhole, Opened, frames_of, levels_of, with_tag}
use Rattle.index_read.proofs.Answered.{read_text}
use Rattle.index_read.proofs.Exact.{spelled_whole}
use Rattle.index_read.proofs.Facts.{member_later}
use Rattle.index_read.proofs.FurtherPieces.{moved, past, past_all, past_is, reaches_back, reaches_past, same_past, space_past}
use Rattle.index_read.proofs.Trees.{tell_append}

-- ---- neither the order of the children that have stood there counts, nor the back pointer among them

-- a parent that is no back pointer
abbrev IsOther : Container → Type 0
IsOther place.Back = ⊥
IsOther _ = Unit {0}

abbrev IsOtherPiece : Piece → Type 0
IsOtherPiece (opens q) = IsOther q
IsOtherPiece (whole q) = IsOther q
IsOtherPiece closes = Unit {0}
IsOtherPiece (leaf tag v) = Unit {0}

abbrev NoBack : List Piece → Type 0
NoBack [] = Unit {0}
NoBack (p ∷ ps) = IsOtherPiece p × NoBack ps

abbrev Same : List Tag → List Tag → Type 0
Same seen tags = (t : Tag) → (code t == code PreviousGenerationLocation) ≡ false → member t seen ≡ member t tags

any_alike : (tag : Tag) (seen tags : List Tag) → Same seen tags → has_any (excludes tag) seen ≡ has_any (excludes tag) tags
any_alike ExtentInfo seen tags same = rw (same ExtentInfo refl, same Symlink refl) refl
any_alike Symlink seen tags same = rw (same ExtentInfo refl, same Symlink refl) refl
any_alike _ seen tags same = refl

missing_alike : (seen tags : List Tag) → Same seen tags → first_missing (required place.Index) seen ≡ first_missing (required place.Index) tags
missing_alike seen tags same = rw (same Creator refl, same VolumeUuid refl, same GenerationNumber refl, same UpdateTime refl, same Location refl, same AllowPolicyUpdate refl, same HighestFileUid refl, same Directory refl) refl

follows_alike : (seen tags : List Tag) (tag : Tag) → Same seen tags → (code tag == code PreviousGenerationLocation) ≡ false → MayFollow place.Index seen tag → MayFollow place.Index tags tag
follows_alike seen tags tag same other m = record {
  alone = sym (any_alike tag seen tags same) ∙ m.alone;
  once = subst (λ (b : Bool). (b && not (may_repeat place.Index tag)) ≡ false) (same tag other) m.once;
}

abbrev frame : Container → List Tag → Frame
frame p seen = record { place = p; seen = seen }

-- no leaf and no other parent has the element of the back pointer
leaf_other : (tag : Tag) (f : Form) → rule place.Index tag ≡ child.Leaf f → (code tag == code PreviousGenerationLocation) ≡ false
leaf_other PreviousGenerationLocation f is = absurd (cc (is))
leaf_other _ f is = refl

parent_other : (q : Container) → IsOther q → (code (tag_of q) == code PreviousGenerationLocation) ≡ false
parent_other place.Back other = absurd other
parent_other _ other = refl

what_alike : (text : List ℕ) (seen tags : List Tag) (nodes at : ℕ) (x : Piece) (next : ℕ) → Same seen tags → IsOtherPiece x → What text (frame place.Index seen) nodes at x next → What text (frame place.Index tags) nodes at x next
what_alike text seen tags nodes at closes next same other w = (w.0, sym (missing_alike seen tags same) ∙ w.1)
what_alike text seen tags nodes at (leaf tag v) next same other w = (w.0, w.1, w.2, follows_alike seen tags tag same (leaf_other tag w.0 w.2.child) w.3, w.4)
what_alike text seen tags nodes at (opens q) next same other w = (w.0, record { starts = w.1.starts; follows = follows_alike seen tags (tag_of q) same (parent_other q other) w.1.follows }, w.2, w.3, w.4)
what_alike text seen tags nodes at (whole q) next same other w = (w.0, record { starts = w.1.starts; follows = follows_alike seen tags (tag_of q) same (parent_other q other) w.1.follows }, w.2, w.3, w.4, w.5)

piece_alike : (text : List ℕ) (seen tags : List Tag) (nodes at : ℕ) (x : Piece) (next : ℕ) → Same seen tags → IsOtherPiece x → piece_at (frame place.Index seen) nodes text at ≡ Ok (x, next)
    → piece_at (frame place.Index tags) nodes text at ≡ Ok (x, next)
piece_alike text seen tags nodes at x next same other e = is_piece text (frame place.Index tags) nodes at x next (what_alike text seen tags nodes (space_end text at) x next same other (piece_is text (frame place.Index seen) nodes at x next e))

more_alike : (t : Tag) (seen tags : List Tag) → Same seen tags → Same (t ∷ seen) (t ∷ tags)
more_alike t seen tags same u other = ap (λ b. code u == code t || b) (same u other)

-- the root with other children, behind other open parents
abbrev above : List Frame → List Tag → List Frame
above [] seen = frame place.Index seen ∷ []
above (f ∷ fs) seen = f ∷ above fs seen

reaches_alike : (text : List ℕ) (ps : List Piece) (at : ℕ) (fs : List Frame) (seen tags : List Tag) (nodes : ℕ) (end : Point) → Same seen tags → NoBack ps → end.parents ≡ []
    → Reaches text ps at (above fs seen) nodes end → Reaches text ps at (above fs tags) nodes end
reaches_alike text [] at [] seen tags nodes end same other none r = absurd (let bad : [] ≡ frame place.Index seen ∷ [] = sym none ∙ ap (λ (x : Point). x.parents) r in cc)
reaches_alike text [] at (f ∷ fs) seen tags nodes end same other none r = absurd (let bad : [] ≡ f ∷ above fs seen = sym none ∙ ap (λ (x : Point). x.parents) r in cc)
reaches_alike text (closes ∷ ps) at [] seen tags nodes end same other none r = (r.0, piece_alike text seen tags nodes at closes r.0 same tt r.1, r.2)
reaches_alike text (leaf tag v ∷ ps) at [] seen tags nodes end same other none r =
    (r.0, piece_alike text seen tags nodes at (leaf tag v) r.0 same tt r.1, reaches_alike text ps r.0 [] (tag ∷ seen) (tag ∷ tags) nodes end (more_alike tag seen tags same) other.1 none r.2)
reaches_alike text (whole q ∷ ps) at [] seen tags nodes end same other none r =
    (r.0, piece_alike text seen tags nodes at (whole q) r.0 same other.0 r.1, reaches_alike text ps r.0 [] (tag_of q ∷ seen) (tag_of q ∷ tags) (counted (whole q) nodes) end (more_alike (tag_of q) seen tags same) other.1 none r.2)
reaches_alike text (opens q ∷ ps) at [] seen tags nodes end same other none r =
    (r.0, piece_alike text seen tags nodes at (opens q) r.0 same other.0 r.1, reaches_alike text ps r.0 (fresh q ∷ []) (tag_of q ∷ seen) (tag_of q ∷ tags) (counted (opens q) nodes) end (more_alike (tag_of q) seen tags same) other.1 none r.2)
reaches_alike text (closes ∷ ps) at (f ∷ fs) seen tags nodes end same other none r = (r.0, r.1, reaches_alike text ps r.0 fs seen tags nodes end same other.1 none r.2)
reaches_alike text (leaf tag v ∷ ps) at (f ∷ fs) seen tags nodes end same other none r = (r.0, r.1, reaches_alike text ps r.0 (with_child tag f ∷ fs) seen tags nodes end same other.1 none r.2)
reaches_alike text (whole q ∷ ps) at (f ∷ fs) seen tags nodes end same other none r = (r.0, r.1, reaches_alike text ps r.0 (with_child (tag_of q) f ∷ fs) seen tags (counted (whole q) nodes) end same other.1 none r.2)
reaches_alike text (opens q ∷ ps) at (f ∷ fs) seen tags nodes end same other none r = (r.0, r.1, reaches_alike text ps r.0 (fresh q ∷ with_child (tag_of q) f ∷ fs) seen tags (counted (opens q) nodes) end same other.1 none r.2)

-- the same children but for the back pointer, by the bits that stand for them
same_children : (c : Children) (seen tags : List Tag) → Holds c (PreviousGenerationLocation ∷ seen) → Holds c tags → Same seen tags
same_children c seen tags h k t other =
    let bits : bits_of (PreviousGenerationLocation ∷ seen) ≡ bits_of tags = ap (λ (x : Children). x.bits) (sym h ∙ k) in
    let both : member t (PreviousGenerationLocation ∷ seen) ≡ member t tags = sym (has_is t (PreviousGenerationLocation ∷ seen)) ∙ rw bits (has_is t tags) in
    let less : member t (PreviousGenerationLocation ∷ seen) ≡ member t seen = rw other refl in
    sym less ∙ both

-- ---- behind the pointers nothing tells of them

-- an open parent in which no pointer can begin or be told
abbrev Free : Container → List Tag → Type 0
Free place.Here seen = ⊥
Free place.Back seen = ⊥
Free place.Index seen = member Location seen ≡ true
Free _ seen = Unit {0}

abbrev AllFree : List Opened → Type 0
AllFree [] = Unit {0}
AllFree (o ∷ os) = Free o.frame.place o.frame.seen × AllFree os

twice : (t : Tag) (seen : List Tag) → member t seen ≡ true → (member t seen && true) ≡ false → ⊥
twice t seen there once = let bad : true ≡ false = sym (rw there refl) ∙ once in cc

no_here : (p : Container) (seen : List Tag) → Free p seen → rule p Location ≡ child.Parent place.Here → MayFollow p seen Location → ⊥
no_here place.Index seen free is m = twice Location seen free m.once
no_here place.Here seen free is m = free
no_here place.Back seen free is m = free
no_here _ seen free is m = absurd (cc (is))

no_index : (p : Container) → rule p LtfsIndex ≡ child.Parent place.Index → ⊥
no_index place.Index is = absurd (cc (is))
no_index _ is = absurd (cc (is))

opens_free : (q p : Container) (seen : List Tag) → IsOther q → Free p seen → rule p (tag_of q) ≡ child.Parent q → MayFollow p seen (tag_of q) → Free q []
opens_free place.Here p seen other free is m = no_here p seen free is m
opens_free place.Back p seen other free is m = other
opens_free place.Index p seen other free is m = absurd (no_index p is)
opens_free _ p seen other free is m = tt

child_free : (tag : Tag) (p : Container) (seen : List Tag) → Free p seen → Free p (tag ∷ seen)
child_free tag place.Here seen free = free
child_free tag place.Back seen free = free
child_free tag place.Index seen free = member_later Location tag seen free
child_free tag _ seen free = tt

module _ (here back : Spot) where
  begun_kept : (q : Container) (seen : List Tag) (node : ℕ) (s : State) → Free q seen → begun q node (repointed here back s) ≡ repointed here back (begun q node s)
  begun_kept place.Here seen node s free = absurd free
  begun_kept place.Back seen node s free = absurd free
  begun_kept _ seen node s free = refl

  leaf_kept : (q : Container) (seen : List Tag) (node : ℕ) (i : Item) (s : State) → Free q seen → leaf_told q node i (repointed here back s) ≡ repointed here back (leaf_told q node i s)
  leaf_kept place.Here seen node i s free = absurd free
  leaf_kept place.Back seen node i s free = absurd free
  leaf_kept _ seen node i s free = refl

  ended_kept : (q : Container) (node : ℕ) (s : State) → ended q node (repointed here back s) ≡ repointed here back (ended q node s)
  ended_kept place.Extent node s = refl
  ended_kept _ node s = refl

  -- pieces behind the pointers tell the same, whatever these are
  tell_kept : (text : List ℕ) (ps : List Piece) (at : ℕ) (os : List Opened) (nodes : ℕ) (end : Point) (s : State) (ms : List Level) (t : State) → NoBack ps → AllFree os
      → Reaches text ps at (frames_of os) nodes end → Tell ps (levels_of os) s ms t → Tell ps (levels_of os) (repointed here back s) ms (repointed here back t)
  tell_kept text [] at os nodes end s ms t other free r h = (h.0, ap (repointed here back) h.1)
  tell_kept text (p ∷ ps) at [] nodes end s ms t other free r h = h
  tell_kept text (closes ∷ ps) at (o ∷ os) nodes end s ms t other free r h =
      subst (λ (x : State). Tell ps (levels_of os) x ms (repointed here back t)) (sym (ended_kept o.frame.place o.node s))
      (tell_kept text ps r.0 os nodes end (ended o.frame.place o.node s) ms t other.1 free.1 r.2 h)
  tell_kept text (leaf tag v ∷ ps) at (o ∷ os) nodes end s ms t other free r h =
      subst (λ (x : State). Tell ps (levels_of (o ∷ os)) x ms (repointed here back t)) (sym (leaf_kept o.frame.place o.frame.seen o.node (plain tag v) s free.0))
      (tell_kept text ps r.0 (with_tag tag o ∷ os) nodes end (leaf_told o.frame.place o.node (plain tag v) s) ms t other.1 (child_free tag o.frame.place o.frame.seen free.0, free.1) r.2 h)
  tell_kept text (opens q ∷ ps) at (o ∷ os) nodes end s ms t other free r h =
      let w = piece_is text o.frame nodes at (opens q) r.0 r.1 in
      let inner = opens_free q o.frame.place o.frame.seen other.0 free.0 w.1.starts.child w.1.follows in
      subst (λ (x : State). Tell ps (record { place = q; node = node_in q o.node s } ∷ levels_of (o ∷ os)) x ms (repointed here back t)) (sym (begun_kept q [] o.node s inner))
      (tell_kept text ps r.0 (record { frame = fresh q; node = node_in q o.node s } ∷ with_tag (tag_of q) o ∷ os) (counted (opens q) nodes) end (begun q o.node s) ms t other.1 (inner, (child_free (tag_of q) o.frame.place o.frame.seen free.0, free.1)) r.2 h)
  tell_kept text (whole q ∷ ps) at (o ∷ os) nodes end s ms t other free r h =
      let w = piece_is text o.frame nodes at (whole q) r.0 r.1 in
      let inner = opens_free q o.frame.place o.frame.seen other.0 free.0 w.1.starts.child w.1.follows in
      let both : ended q (node_in q o.node s) (begun q o.node (repointed here back s)) ≡ repointed here back (ended q (node_in q o.node s) (begun q o.node s)) =
      ap (ended q (node_in q o.node s)) (begun_kept q [] o.node s inner) ∙ ended_kept q (node_in q o.node s) (begun q o.node s) in
      subst (λ (x : State). Tell ps (levels_of (o ∷ os)) x ms (repointed here back t)) (sym both)
      (tell_kept text ps r.0 (with_tag (tag_of q) o ∷ os) (counted (whole q) nodes) end (ended q (node_in q o.node s) (begun q o.node s)) ms t other.1 (child_free (tag_of q) o.frame.place o.frame.seen free.0, free.1) r.2 h)

-- ---- no back pointer comes

-- an open parent in which none can begin
abbrev Shut : Container → List Tag → Type 0
Shut place.Index seen = member PreviousGenerationLocation seen ≡ true
Shut _ seen = Unit {0}

abbrev AllShut : List Frame → Type 0
AllShut [] = Unit {0}
AllShut (f ∷ fs) = Shut f.place f.seen × AllShut fs

child_shut : (tag : Tag) (p : Container) (seen : List Tag) → Shut p seen → Shut p (tag ∷ seen)
child_shut tag place.Index seen shut = member_later PreviousGenerationLocation tag seen shut
child_shut tag _ seen shut = tt

opens_shut : (q p : Container) → rule p (tag_of q) ≡ child.Parent q → Shut q []
opens_shut place.Index p is = absurd (no_index p is)
opens_shut _ p is = tt

no_back : (p : Container) (seen : List Tag) → Shut p seen → rule p PreviousGenerationLocation ≡ child.Parent place.Back → MayFollow p seen PreviousGenerationLocation → ⊥
no_back place.Index seen shut is m = twice PreviousGenerationLocation seen shut m.once
no_back _ seen shut is m = absurd (cc (is))

opens_other : (q p : Container) (seen : List Tag) → Shut p seen → rule p (tag_of q) ≡ child.Parent q → MayFollow p seen (tag_of q) → IsOther q
opens_other place.Back p seen shut is m = no_back p seen shut is m
opens_other _ p seen shut is m = tt

-- it has stood there, so it doesn't come again
once_seen : (text : List ℕ) (ps : List Piece) (at : ℕ) (fs : List Frame) (nodes : ℕ) (end : Point) → AllShut fs → Reaches text ps at fs nodes end → NoBack ps
once_seen text [] at fs nodes end shut r = tt
once_seen text (p ∷ ps) at [] nodes end shut r = absurd r
once_seen text (closes ∷ ps) at (f ∷ fs) nodes end shut r = (tt, once_seen text ps r.0 fs nodes end shut.1 r.2)
once_seen text (leaf tag v ∷ ps) at (f ∷ fs) nodes end shut r = (tt, once_seen text ps r.0 (with_child tag f ∷ fs) nodes end (child_shut tag f.place f.seen shut.0, shut.1) r.2)
once_seen text (opens q ∷ ps) at (f ∷ fs) nodes end shut r =
    let w = piece_is text f nodes at (opens q) r.0 r.1 in
    let is = w.1.starts.child in
    (opens_other q f.place f.seen shut.0 is w.1.follows, once_seen text ps r.0 (fresh q ∷ with_child (tag_of q) f ∷ fs) (counted (opens q) nodes) end (opens_shut q f.place is, (child_shut (tag_of q) f.place f.seen shut.0, shut.1)) r.2)
once_seen text (whole q ∷ ps) at (f ∷ fs) nodes end shut r =
    let w = piece_is text f nodes at (whole q) r.0 r.1 in
    (opens_other q f.place f.seen shut.0 w.1.starts.child w.1.follows, once_seen text ps r.0 (with_child (tag_of q) f ∷ fs) (counted (whole q) nodes) end (child_shut (tag_of q) f.place f.seen shut.0, shut.1) r.2)

abbrev is_there : Option Spot → Bool
is_there None = false
is_there (Some x) = true

abbrev has_back : State → Bool
has_back s = is_there s.volume.back

there_still : (f : Spot → Spot) (o : Option Spot) → is_there o ≡ true → is_there (option_map f o) ≡ true
there_still f None there = there
there_still f (Some x) there = refl

begun_back : (q : Container) (node : ℕ) (s : State) → has_back s ≡ true → has_back (begun q node s) ≡ true
begun_back place.Back node s there = refl
begun_back _ node s there = there

leaf_back : (q : Container) (node : ℕ) (i : Item) (s : State) → has_back s ≡ true → has_back (leaf_told q node i s) ≡ true
leaf_back place.Back node i s there = there_still (spot_with i) s.volume.back there
leaf_back _ node i s there = there

ended_back : (q : Container) (node : ℕ) (s : State) → has_back s ≡ true → has_back (ended q node s) ≡ true
ended_back place.Extent node s there = there
ended_back _ node s there = there

piece_back : (p : Piece) (l : Level) (s : State) → has_back s ≡ true → has_back (piece_told p l s) ≡ true
piece_back (opens q) l s there = begun_back q l.node s there
piece_back (whole q) l s there = ended_back q (node_in q l.node s) (begun q l.node s) (begun_back q l.node s there)
piece_back closes l s there = ended_back l.place l.node s there
piece_back (leaf tag v) l s there = leaf_back l.place l.node (plain tag v) s there

tell_back : (ps : List Piece) (ls : List Level) (s : State) (ms : List Level) (t : State) → Tell ps ls s ms t → has_back s ≡ true → has_back t ≡ true
tell_back [] ls s ms t h there = ap has_back (sym h.1) ∙ there
tell_back (p ∷ ps) [] s ms t h there = absurd h
tell_back (p ∷ ps) (l ∷ ls) s ms t h there = tell_back ps (levels_after p l ls s) (piece_told p l s) ms t h (piece_back p l s there)

begun_other : (q : Container) (node : ℕ) (s : State) → (has_back (begun q node s) ≡ true → ⊥) → IsOther q
begun_other place.Back node s never = never refl
begun_other _ node s never = tt

-- none is told in the end, so none comes
never_told : (ps : List Piece) (ls : List Level) (s : State) (ms : List Level) (t : State) → t.volume.back ≡ None → Tell ps ls s ms t → NoBack ps
never_told [] ls s ms t none h = tt
never_told (p ∷ ps) [] s ms t none h = absurd h
never_told (closes ∷ ps) (l ∷ ls) s ms t none h = (tt, never_told ps ls (ended l.place l.node s) ms t none h)
never_told (leaf tag v ∷ ps) (l ∷ ls) s ms t none h = (tt, never_told ps (l ∷ ls) (leaf_told l.place l.node (plain tag v) s) ms t none h)
never_told (opens q ∷ ps) (l ∷ ls) s ms t none h = (
  begun_other q l.node s (λ there. let bad : true ≡ false = sym (tell_back ps (record { place = q; node = node_in q l.node s } ∷ l ∷ ls) (begun q l.node s) ms t h there) ∙ ap is_there none in cc),
  never_told ps (record { place = q; node = node_in q l.node s } ∷ l ∷ ls) (begun q l.node s) ms t none h,
)
never_told (whole q ∷ ps) (l ∷ ls) s ms t none h = (
  begun_other q l.node s (λ there. let bad : true ≡ false = sym (tell_back ps (l ∷ ls) (ended q (node_in q l.node s) (begun q l.node s)) ms t h (ended_back q (node_in q l.node s) (begun q l.node s) there)) ∙ ap is_there none in cc),
  never_told ps (l ∷ ls) (ended q (node_in q l.node s) (begun q l.node s)) ms t none h,
)

-- ---- a front and what follows

-- two walks from one point: the longer goes on where the shorter ends
split_at : (text : List ℕ) (qs ps : List Piece) (at : ℕ) (fs : List Frame) (nodes to : ℕ) (g : Frame) (gs : List Frame) (n : ℕ) (end : Point)
    → Reaches text qs at fs nodes (record { at = to; parents = g ∷ gs; nodes = n }) → Reaches text ps at fs nodes end → end.parents ≡ []
    → (rs : List Piece) × (ps ≡ qs ++ rs) × Reaches text rs to (g ∷ gs) n end
split_at text [] ps at fs nodes to g gs n end r s none =
    let places : at ≡ to = sym (ap (λ (x : Point). x.at) r) in
    let parents : fs ≡ g ∷ gs = sym (ap (λ (x : Point). x.parents) r) in
    let counts : nodes ≡ n = sym (ap (λ (x : Point). x.nodes) r) in
    (ps, refl, subst (λ (k : ℕ). Reaches text ps to (g ∷ gs) k end) counts (subst (λ (hs : List Frame). Reaches text ps to hs nodes end) parents (subst (λ (k : ℕ). Reaches text ps k fs nodes end) places s)))
split_at text (q ∷ qs) ps at [] nodes to g gs n end r s none = absurd r
split_at text (q ∷ qs) [] at (f ∷ fs) nodes to g gs n end r s none = absurd (let bad : [] ≡ f ∷ fs = sym none ∙ ap (λ (x : Point). x.parents) s in cc)
split_at text (q ∷ qs) (p ∷ ps) at (f ∷ fs) nodes to g gs n end r s none =
    let both : ◌≡◌ {A = Result (Piece × ℕ) PieceErr} (Ok (p, s.0)) (Ok (q, r.0)) = sym s.1 ∙ r.1 in
    let pair : ◌≡◌ {A = Piece × ℕ} (p, s.0) (q, r.0) = cc in
    let tops : p ≡ q = ap (λ (x : Piece × ℕ). x.0) pair in
    let nexts : s.0 ≡ r.0 = ap (λ (x : Piece × ℕ). x.1) pair in
    let more : Reaches text ps r.0 (after q f fs) (counted q nodes) end = subst (λ (k : ℕ). Reaches text ps k (after q f fs) (counted q nodes) end) nexts (subst (λ (x : Piece). Reaches text ps s.0 (after x f fs) (counted x nodes) end) tops s.2) in
    let rest = split_at text qs ps r.0 (after q f fs) (counted q nodes) to g gs n end r.2 more none in
    let all : p ∷ ps ≡ q ∷ (qs ++ rest.0) = λ i. tops i ∷ rest.1 i in
    (rest.0, all, rest.2)

tell_split : (qs rs : List Piece) (ls : List Level) (s : State) (ms : List Level) (u : State) (ns : List Level) (t : State) → Tell qs ls s ms u → Tell (qs ++ rs) ls s ns t → Tell rs ms u ns t
tell_split [] rs ls s ms u ns t h k = subst (λ (x : State). Tell rs ms x ns t) h.1 (subst (λ (x : List Level). Tell rs x s ns t) h.0 k)
tell_split (q ∷ qs) rs [] s ms u ns t h k = absurd h
tell_split (q ∷ qs) rs (l ∷ ls) s ms u ns t h k = tell_split qs rs (levels_after q l ls s) (piece_told q l s) ms u ns t h k

reaches_join : (text : List ℕ) (qs rs : List Piece) (at : ℕ) (fs : List Frame) (nodes to : ℕ) (gs : List Frame) (n : ℕ) (end : Point)
    → Reaches text qs at fs nodes (record { at = to; parents = gs; nodes = n }) → Reaches text rs to gs n end → Reaches text (qs ++ rs) at fs nodes end
reaches_join text [] rs at fs nodes to gs n end r s =
    let places : to ≡ at = ap (λ (x : Point). x.at) r in
    let parents : gs ≡ fs = ap (λ (x : Point). x.parents) r in
    let counts : n ≡ nodes = ap (λ (x : Point). x.nodes) r in
    subst (λ (k : ℕ). Reaches text rs at fs k end) counts (subst (λ (hs : List Frame). Reaches text rs at hs n end) parents (subst (λ (k : ℕ). Reaches text rs k gs n end) places s))
reaches_join text (q ∷ qs) rs at [] nodes to gs n end r s = r
reaches_join text (q ∷ qs) rs at (f ∷ fs) nodes to gs n end r s = (r.0, r.1, reaches_join text qs rs r.0 (after q f fs) (counted q nodes) to gs n end r.2 s)

-- ---- the whole

module _ (front other rest : List ℕ) (seen more : Children) (s : State) (here back : Spot) (lone : Bool) (first : IsFront (front ++ rest) (length front) seen s) (second : IsFront (other ++ rest) (length other) more (repointed here back s))
    (with_back : (tags : List Tag) → Holds seen tags → Holds more (PreviousGenerationLocation ∷ tags)) (has : (tags : List Tag) → Holds seen tags → HasBack lone tags) where
  -- all of the one text is read as it was, so all of the other one is, with its pointers
  whole_repointed : (t : State) → (lone ≡ true → t.volume.back ≡ None) → IsWhole (front ++ rest) t → IsWhole (other ++ rest) (repointed here back t)
  whole_repointed t alone w =
      let o = w.accepts.opened in
      let end = w.accepts.point in
      let heads : ◌≡◌ {A = Result ℕ PieceErr} (Ok o.inside) (Ok first.inside) = sym o.head_is ∙ first.head_is in
      let insides : o.inside ≡ first.inside = cc in
      let walk : Reaches (front ++ rest) w.ps first.inside (fresh place.Index ∷ []) 0 end = subst (λ (n : ℕ). Reaches (front ++ rest) w.ps n (fresh place.Index ∷ []) 0 end) insides o.reaches in
      let cut = split_at (front ++ rest) first.ps w.ps first.inside (fresh place.Index ∷ []) 0 (length front) (frame place.Index first.tags) [] (length s.nodes) end first.reaches walk w.accepts.closed in
      let told : Tell cut.0 outermost s [] t = tell_split first.ps cut.0 outermost blank outermost s [] t first.tells (subst (λ (l : List Piece). Tell l outermost blank [] t) cut.1 w.tells) in
      let comes : NoBack cut.0 =
      ⊎_elim (λ (is : lone ≡ true). never_told cut.0 outermost s [] t (alone is) told)
      (λ (there : member PreviousGenerationLocation first.tags ≡ true). once_seen (front ++ rest) cut.0 (length front) (frame place.Index first.tags ∷ []) (length s.nodes) end (there, tt) cut.2)
      (has first.tags first.seen_is) in
      let from : length front ≡ past front 0 = omega (arith, past_is front 0) in
      let begins : past other 0 ≡ length other = omega (arith, past_is other 0) in
      let tail = reaches_back front rest cut.0 0 (frame place.Index first.tags ∷ []) (length s.nodes) end (subst (λ (n : ℕ). Reaches (front ++ rest) cut.0 n (frame place.Index first.tags ∷ []) (length s.nodes) end) from cut.2) in
      let closed : tail.0.parents ≡ [] = ap (λ (x : Point). x.parents) (sym tail.2) ∙ w.accepts.closed in
      let there = reaches_past other rest cut.0 0 (frame place.Index first.tags ∷ []) (length s.nodes) tail.0 tail.1 in
      let mine = reaches_alike (other ++ rest) cut.0 (past other 0) [] first.tags second.tags (length s.nodes) (moved other tail.0) (same_children more first.tags second.tags (with_back first.tags first.seen_is) second.seen_is) comes closed there in
      let joined = reaches_join (other ++ rest) second.ps cut.0 second.inside (fresh place.Index ∷ []) 0 (length other) (frame place.Index second.tags ∷ []) (length s.nodes) (moved other tail.0) second.reaches
      (subst (λ (n : ℕ). Reaches (other ++ rest) cut.0 n (frame place.Index second.tags ∷ []) (length s.nodes) (moved other tail.0)) begins mine) in
      let ended : past front (space_end rest tail.0.at) ≡ past front (length rest) =
      sym (space_past front rest tail.0.at) ∙ ap (λ (x : Point). space_end (front ++ rest) x.at) (sym tail.2) ∙ w.accepts.ended ∙ sym (past_all front rest) in
      let kept : Tell cut.0 outermost (repointed here back s) [] (repointed here back t) =
      tell_kept here back (front ++ rest) cut.0 (length front) (record { frame = frame place.Index first.tags; node = 0 } ∷ []) (length s.nodes) end s [] t comes (first.here, tt) cut.2 told in
      record {
        ps = second.ps ++ cut.0;
        accepts = record {
          point = moved other tail.0;
          opened = record { inside = second.inside; head_is = second.head_is; reaches = joined };
          closed = closed;
          ended = space_past other rest tail.0.at ∙ ap (past other) (same_past front (space_end rest tail.0.at) (length rest) ended) ∙ past_all other rest;
        };
        tells = tell_append second.ps cut.0 outermost blank outermost (repointed here back s) [] (repointed here back t) second.tells kept;
      }

  -- a text with another front of other pointers is that of the same index with these pointers
  pub text_repointed : IsUtf8 (other ++ rest) → (index : Index) → (lone ≡ true → index.back ≡ None) → IndexText (front ++ rest) index → IndexText (other ++ rest) (with_pointers index here back)
  text_repointed valid index alone i =
      let x = spelled_whole (front ++ rest) i.value i.spells in
      let facts : volume_of index ≡ x.state.volume = i.tells.volume ∙ x.volume in
      let agrees : Agrees (with_pointers index here back) = record { uids = i.agrees.uids; names = i.agrees.names; keys = i.agrees.keys; files = i.agrees.files } in
      read_text (other ++ rest) (with_pointers index here back)
      (record {
        valid = valid;
        state = repointed here back x.state;
        whole = whole_repointed x.state (λ is. ap (λ (v : VolumeFacts). v.back) (sym facts) ∙ alone is) x.whole;
        volume = ap (λ (v : VolumeFacts). record v { here = here; back = Some back }) facts;
        nodes = i.tells.nodes ∙ x.nodes;
      }) agrees

-- the same of a text that gets another front up to a place
pub text_swapped : (text other : List ℕ) (at : ℕ) (seen more : Children) (s : State) (here back : Spot) (lone : Bool) → at ≤ length text → IsFront text at seen s → IsUtf8 (take at text) → IsUtf8 other
    → IsFront (other ++ drop at text) (length other) more (repointed here back s) → ((tags : List Tag) → Holds seen tags → Holds more (PreviousGenerationLocation ∷ tags))
    → ((tags : List Tag) → Holds seen tags → HasBack lone tags) → (index : Index) → (lone ≡ true → index.back ≡ None) → IndexText text index → IndexText (other ++ drop at text) (with_pointers index here back)
text_swapped text other at seen more s here back lone le first front_valid other_valid second with_back has index alone i =
    let valid : IsUtf8 text = i.spells.spelled.valid in
    let rest_valid : IsUtf8 (drop at text) = IsUtf8-drop text at valid (IsCharBoundary-from_take text at valid le front_valid) in
    let whole : text ≡ take at text ++ drop at text = sym (take-append-drop at text) in
    let long : at ≡ length (take at text) = sym (length-take-le at text le) in
    let begins : IsFront (take at text ++ drop at text) (length (take at text)) seen s = subst (λ (n : ℕ). IsFront (take at text ++ drop at text) n seen s) long (subst (λ (t : List ℕ). IsFront t at seen s) whole first) in
    text_repointed (take at text) other (drop at text) seen more s here back lone begins second with_back has (IsUtf8-append other (drop at text) other_valid rest_valid) index alone (subst (λ (t : List ℕ). IndexText t index) whole i)
