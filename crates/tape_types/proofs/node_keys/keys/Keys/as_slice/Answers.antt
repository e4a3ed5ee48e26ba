use Rattle.std.proofs.Common.{rules, ◌∙◌, sym, ap}
use Rattle.tape_types.specs.NodeKeys.Keys.{entries_of}
use Rattle.tape_types.proofs.NodeKeys.Ordered.{entries_are}
use Rattle.tape_types.proofs.node_keys.keys.Keys.as_slice.Goals as goal

pub returns : goal.returns
returns c = ap entries_of c.as_slice.ensures.value ∙ sym (entries_are c.self.inside.items.items c.self.invariant) ∙ search rules
