use Rattle.std.proofs.Common.{sym, ◌∙◌}
use Rattle.std.specs.Cmp.Lexicographic.{slice_cmp}
use Rattle.std.specs.Ordering.{nat_cmp}
use Rattle.index_model.proofs.IndexFaults.RisingNames.{less_from_test}
use Rattle.index_model.proofs.index_faults.double_keys.is_below.Goals as goal

pub returns : goal.returns
returns c is = less_from_test (slice_cmp nat_cmp c.args.one.now.key c.args.other.now.key) (sym c.lt.ensures ∙ is)
