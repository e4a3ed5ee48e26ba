use Rattle.std.proofs.Common.{sym, subst}
use Rattle.file_tree.specs.Valid.{AreFilesOf}
use Rattle.file_tree.proofs.ReadLemmas.{if_ok}
use Rattle.file_tree.proofs.mount.place_nodes.Goals as goal

pub returns-clause-files : goal.returns-clause-files
returns-clause-files c = if_ok c.from_store.result (λ t is. subst (AreFilesOf c.args.block_size) (sym is) c.in_ok-store.ensures.files) c.from_store.ensures
