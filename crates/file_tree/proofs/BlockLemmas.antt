-- Which blocks a tree stands in, and that these make its plain tree.
use Rattle.std.proofs.Common.{◌≡◌, ◌≢◌, ◌⊎◌, ℕ, ◌<◌, Option, Some, None, sym, ap, ◌∙◌, refl, subst, inl, inr, ⊎_elim, arith}
use Rattle.std.specs.Option.{option_map}
use Rattle.std.specs.FinMap as fin
use Rattle.tape_types.specs.declared.cartridges.Extent.{Extent}
use Rattle.tape_types.specs.declared.cartridges.Part.{Part}
use Rattle.plain_tree.specs.declared.nodes.Kind.TheVariants as plain_kinds
use Rattle.std.proofs.lemmas.Bool.{cases_order}
use Rattle.extent_map.specs.Laid.{Laid, Room, IsLaid, overlaid, resized}
use Rattle.extent_map.specs.Cells.{Tape}
use Rattle.extent_map.specs.Blocks.{FileStandsIn, StandsIn, AreAlikeIn}
use Rattle.extent_map.proofs.BlockLemmas.{blocks_make_the_file, no_other_blocks}
use Rattle.file_tree.specs.declared.nodes.Node.{Node}
use Rattle.file_tree.specs.declared.nodes.HeldKind.{HeldKind}
use Rattle.file_tree.specs.declared.nodes.HeldKind.TheVariants as kinds
use Rattle.plain_tree.specs.Paths.{Path}
use Rattle.file_tree.specs.Tree.{Nodes, FileTree, HasLaid, plain_kind_of, plain_node_of, plain_nodes, plain_of}
use Rattle.file_tree.specs.Edits.{OthersLie, AllLie}
use Rattle.file_tree.specs.Blocks.{TreeStandsIn, AddsNoBlock, AddsBlocksOf, BlocksMakeTheTree, EndsHold}
use Rattle.file_tree.specs.Valid.{NumbersDiffer}
use Rattle.name_tries.proofs.ItemLemmas.{some_same}
use Rattle.file_tree.proofs.PathLemmas.{same_nodes, number_is}
use Rattle.file_tree.proofs.PlainLemmas.{plain_get}

-- ---- the same blocks make the same tree

module _ (one other : Tape) (t : FileTree) (alike : AreAlikeIn (TreeStandsIn t) one other) where
  same_node : (path : Path) (node : Node) → fin.get t.nodes path ≡ Some node → plain_node_of one node ≡ plain_node_of other node
  same_node path node there = ap (λ k. record { uid = node.uid; times = node.times; readonly = node.readonly; keys = node.keys.map; kind = k }) (by node.kind refl)
    where
      by : (kind : HeldKind) → node.kind ≡ kind → plain_kind_of one kind ≡ plain_kind_of other kind
      by kinds.Dir e = refl
      by (kinds.Link text) e = refl
      by (kinds.File room) e = ap (λ cells. plain_kinds.File cells) (blocks_make_the_file one other room.laid (λ part pos byte h.
          alike part pos byte (record {
            number = node.number;
            laid = room.laid;
            file = record { path = path; node = node; there = there; is = refl; room = room; file = e; lies = refl };
            block = h;
          })))

  same_at : (path : Path) → fin.get (plain_nodes one t.nodes) path ≡ fin.get (plain_nodes other t.nodes) path
  same_at path = plain_get one t.nodes path ∙ by (fin.get t.nodes path) refl ∙ sym (plain_get other t.nodes path)
    where
      by : (o : Option Node) → fin.get t.nodes path ≡ o → option_map (plain_node_of one) (fin.get t.nodes path) ≡ option_map (plain_node_of other) (fin.get t.nodes path)
      by o e = rw e (found o e)
        where
          found : (o : Option Node) → fin.get t.nodes path ≡ o → option_map (plain_node_of one) o ≡ option_map (plain_node_of other) o
          found None e = refl
          found (Some node) e = ap (λ n. Some n) (same_node path node e)

  same_plain : plain_of one t ≡ plain_of other t
  same_plain = ap (λ nodes. record { highest = t.highest; lock = t.lock; nodes = nodes }) (same_nodes (plain_nodes one t.nodes) (plain_nodes other t.nodes) same_at)

-- tapes alike in the blocks of a tree give the same plain tree
pub blocks_make_the_tree : BlocksMakeTheTree
blocks_make_the_tree one other t alike = same_plain one other t alike

-- a tree below its ends doesn't see what changes behind them
pub ends_hold : EndsHold
ends_hold = record {
  unseen = λ ends one other t below agree. same_plain one other t (λ part pos byte h. agree part pos byte (below part pos h));
  kept = λ ends before next adds below part pos h. below part pos (adds part pos h);
  given = λ ends new before next adds below new_below part pos h. ⊎_elim (λ old. below part pos old) (λ this. new_below part pos this) (adds part pos h);
}

-- ---- which blocks calls add

-- one number has one file
pub one_laid : (m : Nodes) (number : ℕ) (f g : Laid) → NumbersDiffer m → HasLaid m number f → HasLaid m number g → f ≡ g
one_laid m number f g differ a b =
    let path_is : a.path ≡ b.path = differ a.path b.path number (number_is m a.path a.node a.there ∙ ap (λ n. Some n) a.is) (number_is m b.path b.node b.there ∙ ap (λ n. Some n) b.is) in
    let node_is : a.node ≡ b.node = some_same a.node b.node (sym a.there ∙ ap (fin.get m) path_is ∙ b.there) in
    let room_is : a.room ≡ b.room = one_room a.room b.room (sym a.file ∙ ap (λ (n : Node). n.kind) node_is ∙ b.file) in
    sym a.lies ∙ ap (λ (r : Room). r.laid) room_is ∙ b.lies
  where
    one_room : (r s : Room) → ◌≡◌ {A = HeldKind} (kinds.File r) (kinds.File s) → r ≡ s
    one_room r s e = cc

-- where each file lies as it did, no block is added
pub all_lie_adds : (t next : FileTree) → AllLie t next → AddsNoBlock t next
all_lie_adds t next lie part pos h = record { number = h.number; laid = h.laid; file = (lie h.number h.laid).1 h.file; block = h.block }

equal_or_not : (a b : ℕ) → (a ≡ b) ⊎ (a ≢ b)
equal_or_not a b = ⊎_elim (λ (e : a ≡ b). inl e)
    (λ (apart : (a < b) ⊎ (b < a)). inr (λ e. ⊎_elim (λ (lt : a < b). omega (arith, e, lt)) (λ (gt : b < a). omega (arith, e, gt)) apart))
    (cases_order a b)

-- a file that has the blocks that it had, and those of others that lie as they did
module _ (t next : FileTree) (file : ℕ) (others : OthersLie file t next) (P : Part → ℕ → Type 0)
    (this : (f : Laid) (part : Part) (pos : ℕ) → HasLaid next.nodes file f → FileStandsIn f part pos → TreeStandsIn t part pos ⊎ P part pos) where
  pub others_lie_adds : (part : Part) (pos : ℕ) → TreeStandsIn next part pos → TreeStandsIn t part pos ⊎ P part pos
  others_lie_adds part pos h = ⊎_elim
      (λ (e : h.number ≡ file). this h.laid part pos (subst (λ n. HasLaid next.nodes n h.laid) e h.file) h.block)
      (λ apart. inl (record { number = h.number; laid = h.laid; file = (others h.number apart h.laid).1 h.file; block = h.block }))
      (equal_or_not h.number file)

-- an overlay
pub overlay_adds : (t next : FileTree) (file : ℕ) (f : Laid) (new : Extent) → NumbersDiffer next.nodes → OthersLie file t next → HasLaid t.nodes file f → IsLaid f → f.block_size ≡ t.block_size
    → HasLaid next.nodes file (overlaid f new) → AddsBlocksOf new t next
overlay_adds t next file f new differ others was laid size now =
    others_lie_adds t next file others (λ part pos. StandsIn t.block_size new part pos) (λ g part pos has h.
    let is : g ≡ overlaid f new = one_laid next.nodes file g (overlaid f new) differ has now in
    ⊎_elim (λ old. inl (record { number = file; laid = f; file = was; block = old })) (λ (a : StandsIn f.block_size new part pos). inr (subst (λ n. StandsIn n new part pos) size a))
    (no_other_blocks.overlays f new part pos laid (subst (λ g. FileStandsIn g part pos) is h)))

-- what adds nothing
adds_nothing : (t next : FileTree) → ((part : Part) (pos : ℕ) → TreeStandsIn next part pos → TreeStandsIn t part pos ⊎ ⊥) → AddsNoBlock t next
adds_nothing t next adds part pos h = ⊎_elim (λ old. old) (λ wrong. absurd wrong) (adds part pos h)

-- a length
pub length_adds : (t next : FileTree) (file n : ℕ) (f : Laid) → NumbersDiffer next.nodes → OthersLie file t next → HasLaid t.nodes file f → HasLaid next.nodes file (resized f n) → AddsNoBlock t next
length_adds t next file n f differ others was now =
    adds_nothing t next (others_lie_adds t next file others (λ part pos. ⊥) (λ g part pos has h.
    let is : g ≡ resized f n = one_laid next.nodes file g (resized f n) differ has now in
    inl (record { number = file; laid = f; file = was; block = no_other_blocks.lengths f n part pos (subst (λ g. FileStandsIn g part pos) is h) })))
