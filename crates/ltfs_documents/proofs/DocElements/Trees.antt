-- The grammar of elements and the pieces that are read one after the other say the same.
use Rattle.std.proofs.Common.{◌≡◌, ℕ, zero, suc, ◌+◌, ◌≤◌, ◌<◌, List, [], ◌∷◌, ◌++◌, Bool, true, false, ◌&&◌, nat_le, if◌then◌else◌, length, Ok, IsUtf8, refl, sym, ap, subst, ◌∙◌, append_assoc, length-append, arith}
use Rattle.std.proofs.lemmas.Bool.{leb-false, lt-leb}
use Rattle.tape_types.specs.Bounds.{most_nodes}
use Rattle.ltfs_documents.specs.declared.doc_fields.tags.Tag.{Tag}
use Rattle.ltfs_documents.specs.DocFields.Space.{space_end}
use Rattle.ltfs_documents.specs.DocFields.EndTag.{end_at}
use Rattle.ltfs_documents.specs.declared.doc_elements.schema.Container.{Container}
use Rattle.ltfs_documents.specs.DocElements.Schema.{tag_of, is_node}
use Rattle.ltfs_documents.specs.DocElements.Pieces.{Piece, opens, whole, closes, leaf, Frame}
use Rattle.ltfs_documents.specs.DocElements.Documents.{Point, Reaches, Accepts, after, counted}
use Rattle.ltfs_documents.specs.DocElements.Elements.{Item, plain, bare, nested, Items, no_items, item, item_tag, Spelled, AllSpelled, MayFollow, nodes_of, node_count, pieces_of, all_pieces, DocumentText, IsMade}
use Rattle.ltfs_documents.proofs.DocElements.Inversion.{HasPlace, piece_is, is_piece}
use Rattle.ltfs_documents.proofs.DocElements.Steps.{point}

abbrev pub at_place : Container → List Tag → Frame
at_place p seen = record { place = p; seen = seen }

-- ---- room for nodes

abbrev pub one_if : Bool → ℕ
one_if b = if b then 1 else 0

le_false : (n : ℕ) → n < most_nodes → nat_le most_nodes n ≡ false
le_false n lt = lt-leb most_nodes n lt

room_by : (b : Bool) (n : ℕ) → n + one_if b ≤ most_nodes → (b && nat_le most_nodes n) ≡ false
room_by true n le = le_false n (omega (arith, le))
room_by false n le = refl

has_place : (q : Container) (n : ℕ) → n + one_if (is_node q) ≤ most_nodes → HasPlace q n
has_place q n le = room_by (is_node q) n le

counted_by : (b : Bool) (n : ℕ) → (if b then suc n else n) ≡ n + one_if b
counted_by true n = omega arith
counted_by false n = omega arith

counted_opens : (q : Container) (n : ℕ) → counted (opens q) n ≡ n + one_if (is_node q)
counted_opens q n = counted_by (is_node q) n

few_by : (b : Bool) (n : ℕ) → n ≤ most_nodes → (b && nat_le most_nodes n) ≡ false → n + one_if b ≤ most_nodes
few_by true n le e = omega (arith, leb-false most_nodes n e)
few_by false n le e = omega (arith, le)

few_place : (q : Container) (n : ℕ) → n ≤ most_nodes → HasPlace q n → n + one_if (is_node q) ≤ most_nodes
few_place q n le e = few_by (is_node q) n le e

-- ---- what is spelled is read

reaches_append : (text : List ℕ) (ps qs : List Piece) (a : ℕ) (fs : List Frame) (n b : ℕ) (gs : List Frame) (m : ℕ) (end : Point) → Reaches text ps a fs n (point b gs m) → Reaches text qs b gs m end → Reaches text (ps ++ qs) a fs n end
reaches_append text [] qs a fs n b gs m end r s =
    let at : b ≡ a = ap (λ (x : Point). x.at) r in
    let parents : gs ≡ fs = ap (λ (x : Point). x.parents) r in
    let nodes : m ≡ n = ap (λ (x : Point). x.nodes) r in
    subst (λ (x : ℕ). Reaches text qs x fs n end) at (subst (λ (x : List Frame). Reaches text qs b x n end) parents (subst (λ (x : ℕ). Reaches text qs b gs x end) nodes s))
reaches_append text (p ∷ ps) qs a [] n b gs m end r s = r
reaches_append text (p ∷ ps) qs a (f ∷ fs) n b gs m end r s = (r.0, r.1, reaches_append text ps qs r.0 (after p f fs) (counted p n) b gs m end r.2 s)

mutual
  pub item_reached : (text : List ℕ) (p : Container) (seen : List Tag) (fs : List Frame) (at nodes : ℕ) (i : Item) (next : ℕ) → MayFollow p seen (item_tag i) → Spelled text p (space_end text at) i next → nodes + nodes_of i ≤ most_nodes
      → Reaches text (pieces_of i) at (at_place p seen ∷ fs) nodes (point next (at_place p (item_tag i ∷ seen) ∷ fs) (nodes + nodes_of i))
  item_reached text p seen fs at nodes (plain tag v) next new s few =
      let n : nodes + 0 ≡ nodes = omega arith in
      (next, is_piece text (at_place p seen) nodes at (leaf tag v) next (s.0, s.1, s.2, new, s.3), ap (point next (at_place p (tag ∷ seen) ∷ fs)) n)
  item_reached text p seen fs at nodes (bare q) next new s few =
      let n : nodes + one_if (is_node q) ≡ counted (whole q) nodes = sym (counted_opens q nodes) in
      (next, is_piece text (at_place p seen) nodes at (whole q) next (s.0, record { starts = s.1; follows = new }, has_place q nodes few, s.2, s.3, s.4), ap (point next (at_place p (tag_of q ∷ seen) ∷ fs)) n)
  item_reached text p seen fs at nodes (nested q is) next new s few =
      let o = counted_opens q nodes in
      let room : nodes + one_if (is_node q) ≤ most_nodes = omega (arith, few) in
      let inner : counted (opens q) nodes + node_count is ≤ most_nodes = omega (arith, o, few) in
      let total : counted (opens q) nodes + node_count is ≡ nodes + (one_if (is_node q) + node_count is) = omega (arith, o) in
      let more = all_reached text q [] (at_place p (tag_of q ∷ seen) ∷ fs) s.0.next (counted (opens q) nodes) is s.3 next s.4 s.5 inner in (
        s.0.next,
        is_piece text (at_place p seen) nodes at (opens q) s.0.next (s.0, record { starts = s.1; follows = new }, has_place q nodes room, s.2, refl),
        subst (λ (n : ℕ). Reaches text (all_pieces is ++ closes ∷ []) s.0.next (at_place q [] ∷ at_place p (tag_of q ∷ seen) ∷ fs) (counted (opens q) nodes) (point next (at_place p (tag_of q ∷ seen) ∷ fs) n)) total more,
      )

  -- the children of a parent, and its end tag
  pub all_reached : (text : List ℕ) (p : Container) (seen : List Tag) (fs : List Frame) (at nodes : ℕ) (is : Items) (end next : ℕ) → AllSpelled text p seen at is end → end_at text end (tag_of p) ≡ Ok next → nodes + node_count is ≤ most_nodes
      → Reaches text (all_pieces is ++ closes ∷ []) at (at_place p seen ∷ fs) nodes (point next fs (nodes + node_count is))
  all_reached text p seen fs at nodes no_items end next s e few =
      let n : nodes + 0 ≡ nodes = omega arith in
      (next, is_piece text (at_place p seen) nodes at closes next (ap (λ (x : ℕ). end_at text x (tag_of p)) (sym s.0) ∙ e, s.1), ap (point next fs) n)
  all_reached text p seen fs at nodes (item i is) end next s e few =
      let front : nodes + nodes_of i ≤ most_nodes = omega (arith, few) in
      let first = item_reached text p seen fs at nodes i s.1 s.0 s.2 front in
      let total : nodes + nodes_of i + node_count is ≡ nodes + (nodes_of i + node_count is) = omega arith in
      let rest : nodes + nodes_of i + node_count is ≤ most_nodes = omega (arith, few) in
      let others = all_reached text p (item_tag i ∷ seen) fs s.1 (nodes + nodes_of i) is end next s.3 e rest in
      let both = reaches_append text (pieces_of i) (all_pieces is ++ closes ∷ []) at (at_place p seen ∷ fs) nodes s.1 (at_place p (item_tag i ∷ seen) ∷ fs) (nodes + nodes_of i) (point next fs (nodes + nodes_of i + node_count is)) first others in
      subst (λ (ps : List Piece). Reaches text ps at (at_place p seen ∷ fs) nodes (point next fs (nodes + (nodes_of i + node_count is)))) (sym (append_assoc (pieces_of i) (all_pieces is) (closes ∷ [])))
      (subst (λ (n : ℕ). Reaches text (pieces_of i ++ (all_pieces is ++ closes ∷ [])) at (at_place p seen ∷ fs) nodes (point next fs n)) total both)

-- ---- what is read is spelled

pub record Parsed (text : List ℕ) (p : Container) (seen : List Tag) (fs : List Frame) (at nodes : ℕ) (ps : List Piece) (to : Point) : Type 0 where
  pub items : Items
  pub end : ℕ
  pub next : ℕ
  pub qs : List Piece
  pub children : AllSpelled text p seen at items end
  pub ends : end_at text end (tag_of p) ≡ Ok next
  pub split : ps ≡ all_pieces items ++ closes ∷ qs
  pub few : nodes ≤ most_nodes → nodes + node_count items ≤ most_nodes
  pub rest : Reaches text qs next fs (nodes + node_count items) to

joined : (x y : Piece) (ps front mid bs rest : List Piece) → ps ≡ front ++ y ∷ mid → mid ≡ bs ++ y ∷ rest → x ∷ ps ≡ x ∷ (front ++ y ∷ []) ++ bs ++ y ∷ rest
joined x y ps front mid bs rest e f = rw (e, f) (simp append_assoc)

parse : (n : ℕ) (ps : List Piece) (text : List ℕ) (p : Container) (seen : List Tag) (fs : List Frame) (at nodes : ℕ) (to : Point) → length ps ≤ n → to.parents ≡ [] → Reaches text ps at (at_place p seen ∷ fs) nodes to → Parsed text p seen fs at nodes ps to
parse n [] text p seen fs at nodes to le none r = let bad : [] ≡ at_place p seen ∷ fs = sym none ∙ ap (λ (x : Point). x.parents) r in absurd (cc)
parse zero (x ∷ ps) text p seen fs at nodes to le none r = absurd (omega (arith, le))
parse (suc n) (closes ∷ ps) text p seen fs at nodes to le none r =
    let w = piece_is text (at_place p seen) nodes at closes r.0 r.1 in
    let same : nodes ≡ nodes + 0 = omega arith in
    record { items = no_items; end = space_end text at; next = r.0; qs = ps; children = (refl, w.1); ends = w.0; split = refl; few = λ few. omega (arith, few); rest = subst (λ (m : ℕ). Reaches text ps r.0 fs m to) same r.2 }
parse (suc n) (leaf tag v ∷ ps) text p seen fs at nodes to le none r =
    let w = piece_is text (at_place p seen) nodes at (leaf tag v) r.0 r.1 in
    let more = parse n ps text p (tag ∷ seen) fs r.0 nodes to (omega (arith, le)) none r.2 in
    let total : nodes + node_count more.items ≡ nodes + (0 + node_count more.items) = omega arith in
    record {
      items = item (plain tag v) more.items;
      end = more.end;
      next = more.next;
      qs = more.qs;
      children = (w.3, r.0, (w.0, w.1, w.2, w.4), more.children);
      ends = more.ends;
      split = ap (λ (x : List Piece). leaf tag v ∷ x) more.split;
      few = λ few. omega (arith, total, more.few few);
      rest = subst (λ (m : ℕ). Reaches text more.qs more.next fs m to) total more.rest;
    }
parse (suc n) (whole q ∷ ps) text p seen fs at nodes to le none r =
    let w = piece_is text (at_place p seen) nodes at (whole q) r.0 r.1 in
    let o = counted_opens q nodes in
    let more = parse n ps text p (tag_of q ∷ seen) fs r.0 (counted (whole q) nodes) to (omega (arith, le)) none r.2 in
    let total : counted (whole q) nodes + node_count more.items ≡ nodes + (one_if (is_node q) + node_count more.items) = omega (arith, o) in
    record {
      items = item (bare q) more.items;
      end = more.end;
      next = more.next;
      qs = more.qs;
      children = (w.1.follows, r.0, (w.0, w.1.starts, w.3, w.4, w.5), more.children);
      ends = more.ends;
      split = ap (λ (x : List Piece). whole q ∷ x) more.split;
      few = λ few. let here = few_place q nodes few w.2 in omega (arith, total, o, more.few (omega (arith, o, here)));
      rest = subst (λ (m : ℕ). Reaches text more.qs more.next fs m to) total more.rest;
    }
parse (suc n) (opens q ∷ ps) text p seen fs at nodes to le none r =
    let w = piece_is text (at_place p seen) nodes at (opens q) r.0 r.1 in
    let o = counted_opens q nodes in
    let inner = parse n ps text q [] (at_place p (tag_of q ∷ seen) ∷ fs) r.0 (counted (opens q) nodes) to (omega (arith, le)) none r.2 in
    let short : length inner.qs ≤ n = omega (arith, le, ap length inner.split, length-append (all_pieces inner.items) (closes ∷ inner.qs)) in
    let more = parse n inner.qs text p (tag_of q ∷ seen) fs inner.next (counted (opens q) nodes + node_count inner.items) to short none inner.rest in
    let inside : AllSpelled text q [] w.0.next inner.items inner.end = subst (λ (m : ℕ). AllSpelled text q [] m inner.items inner.end) (sym w.4) inner.children in
    let all : opens q ∷ ps ≡ opens q ∷ (all_pieces inner.items ++ closes ∷ []) ++ all_pieces more.items ++ closes ∷ more.qs = joined (opens q) closes ps (all_pieces inner.items) inner.qs (all_pieces more.items) more.qs inner.split more.split in
    let total : counted (opens q) nodes + node_count inner.items + node_count more.items ≡ nodes + (one_if (is_node q) + node_count inner.items + node_count more.items) = omega (arith, o) in
    record {
      items = item (nested q inner.items) more.items;
      end = more.end;
      next = more.next;
      qs = more.qs;
      children = (w.1.follows, inner.next, (w.0, w.1.starts, w.3, inner.end, inside, inner.ends), more.children);
      ends = more.ends;
      split = all;
      few = λ few. let here = few_place q nodes few w.2 in let deep = inner.few (omega (arith, o, here)) in omega (arith, total, more.few deep);
      rest = subst (λ (m : ℕ). Reaches text more.qs more.next fs m to) total more.rest;
    }

-- ---- the whole

nothing_left : (text : List ℕ) (qs : List Piece) (at n : ℕ) (to : Point) → Reaches text qs at [] n to → (qs ≡ []) × (at ≡ to.at)
nothing_left text [] at n to r = (refl, sym (ap (λ (x : Point). x.at) r))
nothing_left text (q ∷ qs) at n to r = absurd r

-- the pieces of a document that is read are those of elements it spells
pub elements_of : (doc : Container) (text : List ℕ) (ps : List Piece) → IsUtf8 text → Accepts doc text ps → IsMade doc text ps
elements_of doc text ps valid x =
    let o = x.opened in
    let p = parse (length ps) ps text doc [] [] o.inside 0 x.point (omega arith) x.closed o.reaches in
    let q = nothing_left text p.qs p.next _ x.point p.rest in
    record {
      items = p.items;
      spelled = record {
        valid = valid;
        inside = o.inside;
        head_is = o.head_is;
        end = p.end;
        children = p.children;
        after = p.next;
        ends = p.ends;
        ended = ap (space_end text) q.1 ∙ x.ended;
      };
      split = p.split ∙ ap (λ (l : List Piece). all_pieces p.items ++ closes ∷ l) q.0;
      few = omega (arith, p.few (omega arith));
    }

-- a document that spells elements with few enough nodes is read as their pieces
pub accepted : (doc : Container) (text : List ℕ) (items : Items) → DocumentText doc text items → node_count items ≤ most_nodes → Accepts doc text (all_pieces items ++ closes ∷ [])
accepted doc text items d few = record {
  point = point d.after [] (0 + node_count items);
  opened = record { inside = d.inside; head_is = d.head_is; reaches = all_reached text doc [] [] d.inside 0 items d.end d.after d.children d.ends (omega (arith, few)) };
  closed = refl;
  ended = d.ended;
}

-- pieces of elements that a document spells are accepted
pub made_accepted : (doc : Container) (text : List ℕ) (ps : List Piece) → IsMade doc text ps → Accepts doc text ps
made_accepted doc text ps m = subst (λ (l : List Piece). Accepts doc text l) (sym m.split) (accepted doc text m.items m.spelled m.few)
