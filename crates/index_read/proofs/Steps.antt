-- One piece more.
use Rattle.std.proofs.Common.{◌≡◌, ℕ, zero, suc, ◌≤◌, List, [], ◌∷◌, ◌++◌, length, Bool, true, false, Result, Ok, Err, refl, sym, ap, subst, ◌∙◌, arith}
use Rattle.std.proofs.lemmas.List.{length-append}
use Rattle.tape_types.specs.Bounds.{most_nodes}
use Rattle.ltfs_documents.specs.declared.doc_elements.errors.PieceErr.{PieceErr}
use Rattle.ltfs_documents.specs.declared.doc_elements.schema.Container.{Container}
use Rattle.ltfs_documents.specs.declared.doc_elements.schema.Container.TheVariants as place
use Rattle.ltfs_documents.specs.DocElements.Pieces.{Piece, opens, whole, closes, leaf, piece_at}
use Rattle.ltfs_documents.specs.DocElements.Documents.{Halted, Reaches, after, counted, fresh}
use Rattle.ltfs_documents.specs.DocElements.Elements.{Item, plain}
use Rattle.ltfs_documents.specs.declared.doc_elements.pieces.Piece as code_piece
use Rattle.ltfs_documents.specs.DocElements.Answers.{HasRoom, Fails, UnlessMemory, piece_of}
use Rattle.ltfs_documents.proofs.DocElements.Steps.{few_counted, point, reaches_more, unless_memory}
use Rattle.ltfs_documents.specs.DocElements.Documents.{head_of}
use Rattle.index_read.specs.declared.walking.Level as code_level
use Rattle.index_read.specs.Fronts.{IsFront, IsRootPointed}
use Rattle.index_read.specs.Told.{State, Level, Tell, blank, outermost, changed, begun, ended, leaf_told, levels_after, piece_told}
use Rattle.index_read.specs.Walks.{Opened, frames_of, level_of, levels_of, opened_after, coded, stacked, Kept, Keeps, Walked}

-- ---- how many nodes have begun

changed_length : {X : Type 0} (at : ℕ) (f : X → X) (xs : List X) → length (changed at f xs) ≡ length xs
changed_length at f [] = refl
changed_length zero f (x ∷ xs) = refl
changed_length (suc at) f (x ∷ xs) = ap suc (changed_length at f xs)

one_more : {X : Type 0} (xs : List X) (x : X) → suc (length xs) ≡ length (xs ++ x ∷ [])
one_more xs x = omega (arith, length-append xs (x ∷ []))

begun_count : (p : Container) (node : ℕ) (s : State) → counted (opens p) (length s.nodes) ≡ length (begun p node s).nodes
begun_count place.Root node s = one_more s.nodes _
begun_count place.Directory node s = one_more s.nodes _
begun_count place.File node s = one_more s.nodes _
begun_count _ node s = refl

ended_count : (p : Container) (node : ℕ) (s : State) → length s.nodes ≡ length (ended p node s).nodes
ended_count place.Extent node s = sym (changed_length node _ s.nodes)
ended_count place.Xattr node s = sym (changed_length node _ s.nodes)
ended_count _ node s = refl

leaf_count : (p : Container) (node : ℕ) (i : Item) (s : State) → length s.nodes ≡ length (leaf_told p node i s).nodes
leaf_count place.Root node i s = sym (changed_length node _ s.nodes)
leaf_count place.Directory node i s = sym (changed_length node _ s.nodes)
leaf_count place.File node i s = sym (changed_length node _ s.nodes)
leaf_count _ node i s = refl

told_count : (p : Piece) (l : Level) (s : State) → counted p (length s.nodes) ≡ length (piece_told p l s).nodes
told_count (opens q) l s = begun_count q l.node s
told_count (whole q) l s = begun_count q l.node s ∙ ended_count q _ (begun q l.node s)
told_count closes l s = ended_count l.place l.node s
told_count (leaf tag v) l s = leaf_count l.place l.node (plain tag v) s

-- ---- what is open

frames_after : (p : Piece) (o : Opened) (os : List Opened) (s : State) → after p o.frame (frames_of os) ≡ frames_of (opened_after p o os s)
frames_after (opens q) o os s = refl
frames_after (whole q) o os s = refl
frames_after closes o os s = refl
frames_after (leaf tag v) o os s = refl

levels_after_is : (p : Piece) (o : Opened) (os : List Opened) (s : State) → levels_after p (level_of o) (levels_of os) s ≡ levels_of (opened_after p o os s)
levels_after_is (opens q) o os s = refl
levels_after_is (whole q) o os s = refl
levels_after_is closes o os s = refl
levels_after_is (leaf tag v) o os s = refl

-- ---- one piece more

tell_more : (ps : List Piece) (from : List Level) (r : State) (l : Level) (ls : List Level) (s : State) (p : Piece)
    → Tell ps from r (l ∷ ls) s → Tell (ps ++ p ∷ []) from r (levels_after p l ls s) (piece_told p l s)
tell_more [] [] r l ls s p h = absurd (cc (h.0))
tell_more [] (k ∷ ks) r l ls s p h =
    let tops : k ≡ l = cc (h.0) in
    let rests : ks ≡ ls = cc (h.0) in
    let all : levels_after p k ks r ≡ levels_after p l ls s = rw (tops, rests, h.1) refl in
    let states : piece_told p k r ≡ piece_told p l s = rw (tops, h.1) refl in
    (all, states)
tell_more (q ∷ ps) [] r l ls s p h = h
tell_more (q ∷ ps) (k ∷ ks) r l ls s p h = tell_more ps (levels_after q k ks r) (piece_told q k r) l ls s p h

module _ (text : List ℕ) (inside at next : ℕ) (ps : List Piece) (o : Opened) (os : List Opened) (s t : State) (p : Piece)
    (reaches : Reaches text ps inside (fresh place.Index ∷ []) 0 (point at (frames_of (o ∷ os)) (length s.nodes)))
    (tells : Tell ps outermost blank (levels_of (o ∷ os)) s)
    (here : piece_at o.frame (length s.nodes) text at ≡ Ok (p, next))
    (told : t ≡ piece_told p (level_of o) s) where
  -- one piece more is passed
  pub reaches_next : Reaches text (ps ++ p ∷ []) inside (fresh place.Index ∷ []) 0 (point next (frames_of (opened_after p o os s)) (length t.nodes))
  reaches_next =
      let counts : counted p (length s.nodes) ≡ length t.nodes = told_count p (level_of o) s ∙ ap (λ (x : State). length x.nodes) (sym told) in
      let ends : point next (after p o.frame (frames_of os)) (counted p (length s.nodes)) ≡ point next (frames_of (opened_after p o os s)) (length t.nodes) = rw (frames_after p o os s, counts) refl in
      subst (Reaches text (ps ++ p ∷ []) inside (fresh place.Index ∷ []) 0) ends
      (reaches_more text ps inside (fresh place.Index ∷ []) 0 at o.frame (frames_of os) (length s.nodes) p next reaches here)

  -- one piece more adds what it tells
  pub tells_next : Tell (ps ++ p ∷ []) outermost blank (levels_of (opened_after p o os s)) t
  tells_next =
      let levels = levels_after_is p o os s in
      subst (λ (x : State). Tell (ps ++ p ∷ []) outermost blank (levels_of (opened_after p o os s)) x) (sym told)
      (subst (λ (ls : List Level). Tell (ps ++ p ∷ []) outermost blank ls (piece_told p (level_of o) s)) levels (tell_more ps outermost blank (level_of o) (levels_of os) s p tells))

-- one piece more leaves no more nodes than there may be
pub few_next : (p : code_piece.Piece) (l : Level) (s t : State) → HasRoom p (length s.nodes) → length s.nodes ≤ most_nodes → t ≡ piece_told (piece_of p) l s → length t.nodes ≤ most_nodes
few_next p l s t room few told =
    let e : counted (piece_of p) (length s.nodes) ≡ length t.nodes = told_count (piece_of p) l s ∙ ap (λ (x : State). length x.nodes) (sym told) in
    subst (λ (n : ℕ). n ≤ most_nodes) e (few_counted p (length s.nodes) room few)

-- ---- the end

-- what is kept goes on while a parent is open
pub is_kept : (text : List ℕ) (ps : List Piece) (inside next : ℕ) (os : List Opened) (top : code_level.Level) (outer : List code_level.Level) (done : Bool) (s : State)
    → Reaches text ps inside (fresh place.Index ∷ []) 0 (point next (frames_of os) (length s.nodes)) → Tell ps outermost blank (levels_of os) s → Keeps os top outer done → done ≡ false
    → next ≤ length text → length s.nodes ≤ most_nodes → Kept text inside next top outer s
is_kept text ps inside next [] top outer done s r t k d le few = let same : true ≡ false = sym k ∙ d in absurd (cc)
is_kept text ps inside next (o ∷ os) top outer done s r t k d le few = record { within = le; few = few; ps = ps; o = o; os = os; top_is = k.1; outer_is = k.2; reaches = r; tells = t }

-- a reader that has closed all parents has walked the whole root element
pub is_walked : (text : List ℕ) (ps : List Piece) (inside next : ℕ) (os : List Opened) (top : code_level.Level) (outer : List code_level.Level) (done : Bool) (s : State)
    → Reaches text ps inside (fresh place.Index ∷ []) 0 (point next (frames_of os) (length s.nodes)) → Tell ps outermost blank (levels_of os) s → Keeps os top outer done → done ≡ true → Walked text inside next s
is_walked text ps inside next [] top outer done s r t k d = record { ps = ps; reaches = r; tells = t }
is_walked text ps inside next (o ∷ os) top outer done s r t k d = let same : false ≡ true = sym k.0 ∙ d in absurd (cc)

-- what was read inside the parent that the code keeps
pub at_top : (text : List ℕ) (at n m : ℕ) (top : code_level.Level) (o : Opened) (r : Result (Piece × ℕ) PieceErr) → top ≡ coded o → m ≡ n
    → piece_at (record { place = top.frame.place; seen = o.frame.seen }) m text at ≡ r → piece_at o.frame n text at ≡ r
at_top text at n m top o r e c h =
    subst (λ (k : ℕ). piece_at o.frame k text at ≡ r) c (subst (λ (p : Container). piece_at (record { place = p; seen = o.frame.seen }) m text at ≡ r) (ap (λ (x : code_level.Level). x.frame.place) e) h)

-- ---- what doesn't fit

halted : (text : List ℕ) (inside at nodes : ℕ) (ps : List Piece) (o : Opened) (os : List Opened) (e : PieceErr)
    → Reaches text ps inside (fresh place.Index ∷ []) 0 (point at (frames_of (o ∷ os)) nodes) → piece_at o.frame nodes text at ≡ Err e → Halted place.Index text inside e
halted text inside at nodes ps o os e r h = record { ps = ps; point = point at (frames_of (o ∷ os)) nodes; reaches = r; f = o.frame; fs = frames_of os; parents = refl; fails = h }

-- a piece that is refused halts the document there, unless for want of memory
pub halted_at : (text : List ℕ) (inside at n m : ℕ) (ps : List Piece) (o : Opened) (os : List Opened) (top : code_level.Level) (e : PieceErr) → top ≡ coded o → m ≡ n
    → Reaches text ps inside (fresh place.Index ∷ []) 0 (point at (frames_of (o ∷ os)) n) → Fails e (piece_at (record { place = top.frame.place; seen = o.frame.seen }) m text at) → UnlessMemory e (Halted place.Index text inside e)
halted_at text inside at n m ps o os top e is count r h =
    unless_memory e (piece_at (record { place = top.frame.place; seen = o.frame.seen }) m text at) (Halted place.Index text inside e)
    (λ fails. halted text inside at n ps o os e r (at_top text at n m top o (Err e) is count fails)) h

-- ---- a front

-- what is kept is a front, where the root alone is open, and both pointers have stood in it
pub is_front : (text : List ℕ) (inside at : ℕ) (lone : Bool) (top : code_level.Level) (outer : List code_level.Level) (s : State) → Kept text inside at top outer s → length outer ≡ 0 → IsRootPointed lone top
    → head_of place.Index text ≡ Ok inside → IsFront text at top.frame.seen s
is_front text inside at lone top outer s k none root head = by k.os (ap length (sym k.outer_is) ∙ none) k.reaches k.tells
  where
    by : (os : List Opened) → length (stacked os) ≡ 0 → Reaches text k.ps inside (fresh place.Index ∷ []) 0 (point at (frames_of (k.o ∷ os)) (length s.nodes)) → Tell k.ps outermost blank (levels_of (k.o ∷ os)) s → IsFront text at top.frame.seen s
    by [] e r t =
        let seen_is = ap (λ (x : code_level.Level). x.frame.seen) k.top_is in
        let places : k.o.frame.place ≡ place.Index = ap (λ (x : code_level.Level). x.frame.place) (sym k.top_is) ∙ root.place in
        let nodes : k.o.node ≡ 0 = ap (λ (x : code_level.Level). x.node) (sym k.top_is) ∙ root.node in
        record {
          inside = inside;
          head_is = head;
          ps = k.ps;
          tags = k.o.frame.seen;
          seen_is = seen_is;
          reaches = subst (λ (p : Container). Reaches text k.ps inside (fresh place.Index ∷ []) 0 (point at (record { place = p; seen = k.o.frame.seen } ∷ []) (length s.nodes))) places r;
          tells = subst (λ (n : ℕ). Tell k.ps outermost blank (record { place = place.Index; node = n } ∷ []) s) nodes (subst (λ (p : Container). Tell k.ps outermost blank (record { place = p; node = k.o.node } ∷ []) s) places t);
          here = root.here k.o.frame.seen seen_is;
        }
    by (o ∷ os) e r t = absurd (omega (arith, e, length-append (stacked os) (coded o ∷ [])))
