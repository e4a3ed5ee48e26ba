-- What listings and facts of a tree are answered.
use Rattle.std.proofs.Common.{◌≡◌, ℕ, List, Some, None, sym, ap, ◌∙◌, refl}
use Rattle.std.specs.Option.{option_map}
use Rattle.std.specs.FinMap as fin
use Rattle.plain_tree.specs.Calls.{answer, answer_unless, value_of}
use Rattle.plain_tree.specs.Paths.{Path}
use Rattle.plain_tree.specs.Refusals.{no_dir, no_node, refusal_of}
use Rattle.plain_tree.specs.Tree.{entries_in, facts_of}
use Rattle.plain_tree.specs.declared.calls.Answer.TheVariants as answers
use Rattle.plain_tree.specs.declared.calls.Call.TheVariants as asks
use Rattle.plain_tree.specs.declared.calls.Entry.{Entry}
use Rattle.plain_tree.specs.declared.calls.Facts.{Facts}
use Rattle.plain_tree.specs.declared.calls.Refusal.{Refusal}
use Rattle.plain_tree.specs.declared.calls.Sort.{Sort}
use Rattle.plain_tree.specs.declared.calls.Sort.TheVariants as sorts
use Rattle.plain_tree.specs.declared.nodes.Node as plain_node
use Rattle.extent_map.specs.Cells.{Tape}
use Rattle.file_tree.specs.Reads.{IsOfSort}
use Rattle.file_tree.specs.Tree.{FileTree, StandsAt, plain_node_of, plain_of, whole}
use Rattle.file_tree.proofs.PathLemmas.{node_at}
use Rattle.file_tree.proofs.PlainLemmas.{plain_get}
use Rattle.file_tree.proofs.ReadLemmas.{dir_by, none_checks}
use Rattle.file_tree.proofs.TreeLemmas.{free_too}
use Rattle.held_volume.proofs.Lies.{plain_there}
use Rattle.held_volume.proofs.Stands.{refused_too}

module _ (tape : Tape) (t : FileTree) (path : Path) where
  -- a listing of a directory is answered with its entries
  pub lists : (number : ℕ) (entries : List Entry) → StandsAt t path number → IsOfSort t number sorts.Dir → entries ≡ entries_in (plain_of tape t).nodes path
      → answers.Names entries ≡ answer (plain_of tape t) (asks.Listing path)
  lists number entries stands sort is =
      ap (λ e. answers.Names e) is
      ∙ sym (ap (λ r. answer_unless r (answers.Names (entries_in (plain_of tape t).nodes path)))
      (free_too tape t (asks.Listing path) (λ p o c e. cc) (sym (dir_by t path number sorts.Dir stands sort))))

  pub refused : (why : Refusal) → refusal_of (plain_of tape t) (asks.Listing path) ≡ Some why → answers.Refused why ≡ answer (plain_of tape t) (asks.Listing path)
  refused why is = sym (ap (λ r. answer_unless r (value_of (plain_of tape t) (asks.Listing path))) is)

  -- a listing of what is no directory is refused as the tree refuses it
  pub no_list : (number : ℕ) (sort : Sort) (why : Refusal) → StandsAt t path number → IsOfSort t number sort → Some why ≡ no_dir (plain_of whole t).nodes path
      → answers.Refused why ≡ answer (plain_of tape t) (asks.Listing path)
  no_list number sort why stands is told = refused why (refused_too tape t (plain_of tape t) (asks.Listing path) why refl (sym told))

  pub missing : (why : Refusal) → fin.get t.nodes path ≡ None → no_node (plain_of tape t).nodes path ≡ Some why → answers.Refused why ≡ answer (plain_of tape t) (asks.Listing path)
  missing why none is = refused why (none_checks (plain_of tape t).nodes path why (plain_get tape t.nodes path ∙ ap (option_map (plain_node_of tape)) none) is).0

  pub tells : (number : ℕ) (facts : Facts) → StandsAt t path number → ((tape : Tape) (path : Path) (node : plain_node.Node) → StandsAt t path number → fin.get (plain_of tape t).nodes path ≡ Some node → facts ≡ facts_of node)
      → no_node (plain_of tape t).nodes path ≡ None → answers.Facts facts ≡ answer (plain_of tape t) (asks.Stat path)
  tells number facts stands is free =
      let node = node_at t.nodes path number stands in
      let there = plain_there tape t path node.0 node.1 in
      ap (λ f. answers.Facts f) (is tape path (plain_node_of tape node.0) stands there)
      ∙ sym (ap (λ r. answer_unless r (value_of (plain_of tape t) (asks.Stat path))) free ∙ rw there refl)

  pub untold : (why : Refusal) → no_node (plain_of tape t).nodes path ≡ Some why → answers.Refused why ≡ answer (plain_of tape t) (asks.Stat path)
  untold why is = sym (ap (λ r. answer_unless r (value_of (plain_of tape t) (asks.Stat path))) is)
