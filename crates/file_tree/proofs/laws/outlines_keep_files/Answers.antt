use Rattle.file_tree.proofs.OutlineLemmas.{outlines_keep_files}
use Rattle.file_tree.proofs.laws.outlines_keep_files.Goals as goal

pub returns : goal.returns
returns c = outlines_keep_files
