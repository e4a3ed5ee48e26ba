use Rattle.std.proofs.Common.{ℕ, Some, ap, is_some, sym, subst}
use Rattle.std.specs.Ordering.{nat_cmp}
use Rattle.std.specs.BTreeMap.{BTreeMap, Updates}
use Rattle.plain_tree.specs.Links.{Names}
use Rattle.plain_tree.proofs.LinkLemmas.{put_through, put_first, on_ok}
use Rattle.plain_tree.proofs.links.Links.insert.Goals as goal

pub returns-in-Some-clause-ok : goal.returns-in-Some-clause-ok
returns-in-Some-clause-ok c =
    let new = c.put_name.new.names in
    let through = c.get_mut.follows.holds new in
    on_ok c.put_name.result (put_through c.args.self.now.dirs (c.get_mut.follows.lender new) c.args.uid new c.args.name (Some c.args.node) (through.3 (ap is_some (sym c.in-Some.ensures.value))) c.in-Some.names.now c.in-Some.ensures.value)
    c.put_name.ensures.ok

pub returns-clause-ok : goal.returns-clause-ok
returns-clause-ok c =
    let new = c.put_name-2.new.names in
    put_first c.args.self.now.dirs c.insert.new.self c.args.uid new c.args.name (Some c.args.node)
    (subst (λ (d : BTreeMap ℕ Names). Updates nat_cmp d c.insert.new.self c.args.uid (Some new)) c.get_mut.follows.holds-at-none c.in_ok-insert.ensures.updates)
    c.new-names.result c.in_default.ensures.value c.new-names.ensures.empty c.in_ok-put_name.ensures.ok
