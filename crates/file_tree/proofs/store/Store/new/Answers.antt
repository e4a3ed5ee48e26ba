use Rattle.std.proofs.Common.{[], rules}
use Rattle.std.specs.FinMap as fin
use Rattle.file_tree.proofs.WalkLemmas.{seen}
use Rattle.file_tree.proofs.StoredLemmas.{sole, still, first_stored}
use Rattle.file_tree.proofs.store.Store.new.Goals as goal

pub invariant_of-result : goal.invariant_of-result
invariant_of-result c = (seen c.push.new.self.items (fin.insert fin.empty [] c.args.root) (first_stored c.args.root c.push.new.self.items c.from_string.result c.requires (search rules) (search rules)).shown, tt)

pub invariant_of-result-2 : goal.invariant_of-result-2
invariant_of-result-2 c = still c.push.new.self.items 1 (fin.insert fin.empty [] c.args.root) _ (search rules) (first_stored c.args.root c.push.new.self.items c.from_string.result c.requires (search rules) (search rules))

pub returns-clause-nodes : goal.returns-clause-nodes
returns-clause-nodes c = sole c.push.new.self.items 1 (fin.insert fin.empty [] c.args.root) _ (search rules) (first_stored c.args.root c.push.new.self.items c.from_string.result c.requires (search rules) (search rules))
