use Rattle.std.proofs.Common.{rules, ◌≡◌, ◌∙◌, sym, length}
use Rattle.tape_types.proofs.NodeKeys.Ordered.{len_is}
use Rattle.tape_types.proofs.node_keys.keys.Keys.len.Goals as goal

pub returns : goal.returns
returns c =
    let count : c.len.result ≡ length c.self.inside.items.items = search rules in
    count ∙ sym (len_is c.self.inside.items.items c.self.invariant) ∙ search rules
