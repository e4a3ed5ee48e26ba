use Rattle.std.proofs.Common.{refl}
use Rattle.tape_types.specs.Times.{civil_of}
use Rattle.index_read.proofs.drafts.blank_node.Goals as goal

pub returns : goal.returns
unfolding civil_of
returns c = rw (c.no_text.ensures, c.all_at.ensures, c.new.ensures) refl
