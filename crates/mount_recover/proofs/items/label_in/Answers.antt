use Rattle.std.proofs.Common.{◌∙◌, sym}
use Rattle.mount_recover.proofs.ReadLemmas.{not_given}
use Rattle.mount_recover.proofs.items.label_in.Goals as goal

pub returns-else-is_no_memory : goal.returns-else-is_no_memory
returns-else-is_no_memory c = λ v t. not_given c.in-Err.fault v (sym c.is_no_memory.ensures ∙ c.if-is_no_memory.false) (c.in-Err.ensures.only v t)
