use Rattle.std.proofs.Common.{ℕ, sym, subst, List, refl}
use Rattle.extent_map.specs.Laid.{resized}
use Rattle.file_tree.specs.Blocks.{AddsNoBlock}
use Rattle.file_tree.specs.Tree.{FileTree, StandsAt, HasExtents, HasLaid}
use Rattle.file_tree.specs.Edits.{IsTruncated, IsLongAt, NumbersCome, OthersLie}
use Rattle.file_tree.proofs.WriteLemmas.{length_truncates, length_good, length_adds, same_length, long_is, resized_lies, relaid_numbers, relaid_others, relaid_lies}
use Rattle.file_tree.proofs.InsideLemmas.{tree_of, with_nodes}
use Rattle.file_tree.proofs.tree.Tree.set_length.Goals as goal

pub invariant_of-self : goal.invariant_of-self
invariant_of-self c =
    let t : FileTree = tree_of c.self.inside in
    let long : (path : List (List ℕ)) → StandsAt t path c.args.file → IsLongAt t.nodes path c.length_of.result = c.length_of.ensures in
    let h : HasExtents t.nodes c.args.file c.requires.file.0 = subst (λ (t : FileTree). HasExtents t.nodes c.args.file c.requires.file.0) (sym c.self.view_is) c.requires.file.1 in
    let next : FileTree = with_nodes c.self.inside c.change.new.self.nodes c.change.new.self.spare in
    length_good t next c.self.invariant c.args.file c.args.at c.requires.file.0 h c.args.length c.change.ensures.changed refl refl refl refl

pub returns-then-length_of-length-clause-plain : goal.returns-then-length_of-length-clause-plain
returns-then-length_of-length-clause-plain c =
    let t : FileTree = tree_of c.self.inside in
    let long : (path : List (List ℕ)) → StandsAt t path c.args.file → IsLongAt t.nodes path c.length_of.result = c.length_of.ensures in
    let h : HasExtents t.nodes c.args.file c.requires.file.0 = subst (λ (t : FileTree). HasExtents t.nodes c.args.file c.requires.file.0) (sym c.self.view_is) c.requires.file.1 in
    let next : FileTree = with_nodes c.self.inside c.change.new.self.nodes c.change.new.self.spare in
    subst (λ (t : FileTree). IsTruncated c.args.file c.args.length c.args.at t next) c.self.view_is (length_truncates t next c.self.invariant c.args.file c.args.at c.requires.file.0 h c.args.length c.change.ensures.changed refl refl refl c.length_of.result long (λ e. c.if-length_of-length.true (sym e)))

pub returns-then-length_of-length-clause-numbers : goal.returns-then-length_of-length-clause-numbers
returns-then-length_of-length-clause-numbers c =
    let t : FileTree = tree_of c.self.inside in
    let long : (path : List (List ℕ)) → StandsAt t path c.args.file → IsLongAt t.nodes path c.length_of.result = c.length_of.ensures in
    let h : HasExtents t.nodes c.args.file c.requires.file.0 = subst (λ (t : FileTree). HasExtents t.nodes c.args.file c.requires.file.0) (sym c.self.view_is) c.requires.file.1 in
    let next : FileTree = with_nodes c.self.inside c.change.new.self.nodes c.change.new.self.spare in
    subst (λ (t : FileTree). NumbersCome (λ p. p) t next) c.self.view_is (relaid_numbers t next c.self.invariant c.args.file c.args.at c.requires.file.0 h (λ laid. resized laid c.args.length) c.change.ensures.changed refl refl refl)

pub returns-then-length_of-length-clause-extents : goal.returns-then-length_of-length-clause-extents
returns-then-length_of-length-clause-extents c laid has =
    let t : FileTree = tree_of c.self.inside in
    let long : (path : List (List ℕ)) → StandsAt t path c.args.file → IsLongAt t.nodes path c.length_of.result = c.length_of.ensures in
    let h : HasExtents t.nodes c.args.file c.requires.file.0 = subst (λ (t : FileTree). HasExtents t.nodes c.args.file c.requires.file.0) (sym c.self.view_is) c.requires.file.1 in
    let next : FileTree = with_nodes c.self.inside c.change.new.self.nodes c.change.new.self.spare in
    let was : HasLaid t.nodes c.args.file laid = subst (λ (t : FileTree). HasLaid t.nodes c.args.file laid) (sym c.self.view_is) has in
    resized_lies next.nodes c.args.file c.args.length c.length_of.result laid (resized laid c.args.length) (relaid_lies t next c.self.invariant c.args.file c.args.at c.requires.file.0 h (λ laid. resized laid c.args.length) c.change.ensures.changed refl refl refl laid was) (λ e. c.if-length_of-length.true (sym e)) (long_is t.nodes c.args.file c.length_of.result laid was long) refl

pub returns-then-length_of-length-clause-others : goal.returns-then-length_of-length-clause-others
returns-then-length_of-length-clause-others c =
    let t : FileTree = tree_of c.self.inside in
    let long : (path : List (List ℕ)) → StandsAt t path c.args.file → IsLongAt t.nodes path c.length_of.result = c.length_of.ensures in
    let h : HasExtents t.nodes c.args.file c.requires.file.0 = subst (λ (t : FileTree). HasExtents t.nodes c.args.file c.requires.file.0) (sym c.self.view_is) c.requires.file.1 in
    let next : FileTree = with_nodes c.self.inside c.change.new.self.nodes c.change.new.self.spare in
    subst (λ (t : FileTree). OthersLie c.args.file t next) c.self.view_is (relaid_others t next c.self.invariant c.args.file c.args.at c.requires.file.0 h (λ laid. resized laid c.args.length) c.change.ensures.changed refl refl refl)

pub returns-else-length_of-length-clause-plain : goal.returns-else-length_of-length-clause-plain
returns-else-length_of-length-clause-plain c =
    let t : FileTree = tree_of c.self.inside in
    let long : (path : List (List ℕ)) → StandsAt t path c.args.file → IsLongAt t.nodes path c.length_of.result = c.length_of.ensures in
    let h : HasExtents t.nodes c.args.file c.requires.file.0 = subst (λ (t : FileTree). HasExtents t.nodes c.args.file c.requires.file.0) (sym c.self.view_is) c.requires.file.1 in
    subst (λ (t : FileTree). IsTruncated c.args.file c.args.length c.args.at t t) c.self.view_is (same_length t c.args.file c.args.length c.args.at (subst (λ n. (path : List (List ℕ)) → StandsAt t path c.args.file → IsLongAt t.nodes path n) c.if-length_of-length.false long))

pub returns-then-length_of-length-clause-blocks : goal.returns-then-length_of-length-clause-blocks
returns-then-length_of-length-clause-blocks c =
    let t : FileTree = tree_of c.self.inside in
    let h : HasExtents t.nodes c.args.file c.requires.file.0 = subst (λ (t : FileTree). HasExtents t.nodes c.args.file c.requires.file.0) (sym c.self.view_is) c.requires.file.1 in
    let next : FileTree = with_nodes c.self.inside c.change.new.self.nodes c.change.new.self.spare in
    subst (λ (t : FileTree). AddsNoBlock t next) c.self.view_is (length_adds t next c.self.invariant c.args.file c.args.at c.requires.file.0 h c.args.length c.change.ensures.changed refl refl refl)
