use Rattle.std.proofs.Common.{rules}
use Rattle.std.proofs.lemmas.Fn.{always_returns_same}
use Rattle.tape_types.specs.NodeKeys.Keys.{key_cmp}
use Rattle.tape_types.specs.declared.node_keys.xattrs.Xattr.{Xattr}
use Rattle.tape_types.proofs.NodeKeys.PlaceLemmas.{searched}
use Rattle.tape_types.proofs.node_keys.keys.place_of.Goals as goal

pub returns-clause-there : goal.returns-clause-there
returns-clause-there c =
    let by_key = c.binary_search_by.ensures.position (λ (x : Xattr). key_cmp x.key c.args.key.now) (always_returns_same _ _ _ (λ a r f called. search rules)) in
    (searched c.args.xattrs.now c.args.key.now c.binary_search_by.result c.requires c.binary_search_by.ensures.bound by_key).there

pub returns-clause-absent : goal.returns-clause-absent
returns-clause-absent c =
    let by_key = c.binary_search_by.ensures.position (λ (x : Xattr). key_cmp x.key c.args.key.now) (always_returns_same _ _ _ (λ a r f called. search rules)) in
    (searched c.args.xattrs.now c.args.key.now c.binary_search_by.result c.requires c.binary_search_by.ensures.bound by_key).absent
