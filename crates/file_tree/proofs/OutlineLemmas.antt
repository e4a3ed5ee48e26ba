-- What stays where each node keeps its number, its uid and what it is.
use Rattle.std.proofs.Common.{Option, ◌≡◌, ℕ, Some, None, sym, ap, ◌∙◌, refl, ⊎_elim}
use Rattle.std.specs.Option.{option_map}
use Rattle.std.specs.FinMap as fin
use Rattle.extent_map.specs.Laid.{Laid}
use Rattle.name_tries.proofs.ItemLemmas.{some_same}
use Rattle.plain_tree.specs.Paths.{Path}
use Rattle.file_tree.specs.declared.nodes.Node.{Node}
use Rattle.file_tree.specs.declared.nodes.HeldKind.{HeldKind}
use Rattle.file_tree.specs.Tree.{Nodes, FileTree, number_at, HasLaid}
use Rattle.file_tree.specs.Changes.{IsChangedAt}
use Rattle.file_tree.specs.Edits.{outline, AllLie, OutlinesKeepFiles}
use Rattle.file_tree.proofs.PathLemmas.{get_here, get_other, is_or_not}
use Rattle.file_tree.proofs.BlockLemmas.{all_lie_adds, ends_hold}

-- at each path both have the same outline, or neither has anything
abbrev pub SameOutlines : Nodes → Nodes → Type 0
SameOutlines m next = (path : Path) → option_map outline (fin.get next path) ≡ option_map outline (fin.get m path)

-- a change of one node that leaves its outline leaves all
pub change_outlines : (m next : Nodes) (n : ℕ) (P : Node → Node → Type 0) (c : IsChangedAt m next n P) → outline c.new ≡ outline c.old → SameOutlines m next
change_outlines m next n P c same path = ap (λ k. option_map outline (fin.get k path)) c.now ∙ ⊎_elim
    (λ (e : path ≡ c.path). ap (λ p. option_map outline (fin.get (fin.insert m c.path c.new) p)) e ∙ ap (option_map outline) (get_here m c.path c.new)
    ∙ ap (λ (o : ℕ × ℕ × HeldKind). Some o) same ∙ sym (ap (option_map outline) c.there) ∙ sym (ap (λ p. option_map outline (fin.get m p)) e))
    (λ apart. ap (option_map outline) (get_other m c.path path c.new apart))
    (is_or_not c.path path)

-- where a node stands, one with its outline stands in the other map
found : (a b : Option Node) (node : Node) → option_map outline b ≡ option_map outline a → a ≡ Some node → (k : Node) × (b ≡ Some k) × (outline k ≡ outline node)
found a None node same is = let wrong : None ≡ Some (outline node) = same ∙ ap (option_map outline) is in cc
found a (Some k) node same is = (k, refl, some_same (outline k) (outline node) (same ∙ ap (option_map outline) is))

number_of : (o : Option Node) → option_map (λ (n : Node). n.number) o ≡ option_map (λ (l : ℕ × ℕ × HeldKind). l.0) (option_map outline o)
number_of None = refl
number_of (Some node) = refl

module _ (m next : Nodes) (same : SameOutlines m next) where
  pub numbers_stay : (path : Path) → number_at next path ≡ number_at m path
  numbers_stay path = number_of (fin.get next path) ∙ ap (option_map (λ (l : ℕ × ℕ × HeldKind). l.0)) (same path) ∙ sym (number_of (fin.get m path))

  lies_on : (number : ℕ) (laid : Laid) → HasLaid m number laid → HasLaid next number laid
  lies_on number laid h =
      let now = found (fin.get m h.path) (fin.get next h.path) h.node (same h.path) h.there in
      record {
        path = h.path;
        node = now.0;
        there = now.1;
        is = ap (λ (l : ℕ × ℕ × HeldKind). l.0) now.2 ∙ h.is;
        room = h.room;
        file = ap (λ (l : ℕ × ℕ × HeldKind). l.2) now.2 ∙ h.file;
        lies = h.lies;
      }

-- each file lies as it did
pub outlines_lie : (t next : FileTree) → SameOutlines t.nodes next.nodes → AllLie t next
outlines_lie t next same number laid = (lies_on t.nodes next.nodes same number laid, lies_on next.nodes t.nodes (λ path. sym (same path)) number laid)

pub outlines_keep_files : OutlinesKeepFiles
outlines_keep_files = record {
  numbers = λ before next keeps path number stands. numbers_stay before.nodes next.nodes keeps.nodes path ∙ stands;
  files = λ before next keeps. outlines_lie before next keeps.nodes;
  blocks = λ before next keeps. all_lie_adds before next (outlines_lie before next keeps.nodes);
  below = λ ends before next keeps. ends_hold.kept ends before next (all_lie_adds before next (outlines_lie before next keeps.nodes));
}
