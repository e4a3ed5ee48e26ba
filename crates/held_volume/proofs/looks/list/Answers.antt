use Rattle.std.proofs.Common.{◌∙◌}
use Rattle.held_volume.proofs.looks.list.Goals as goal
use Rattle.plain_tree.specs.declared.calls.Refusal.TheVariants.{NotDir}
use Rattle.plain_tree.specs.declared.calls.Sort.TheVariants as sorts
use Rattle.file_tree.proofs.ReadLemmas.{dir_by}
use Rattle.held_volume.proofs.LookLemmas.{lists, no_list}

pub returns-in_ok-new-in-Ok : goal.returns-in_ok-new-in-Ok
returns-in_ok-new-in-Ok c tape =
    let stands = (c.in-Node.ensures {u = tt}).number in
    lists tape c.args.tree.now c.args.path.now c.in-Node.number c.in_ok-new-in-Ok.field-0 stands (c.in-Dir.ensures {u = tt})
    (c.in_ok-new-in-Ok.ensures {u = tt} ∙ c.in-Ok.ensures {u = tt} tape c.args.path.now stands)

pub returns-in-File : goal.returns-in-File
returns-in-File c tape =
    let stands = (c.in-Node.ensures {u = tt}).number in
    let sort = c.in-File.ensures {u = tt} in
    no_list tape c.args.tree.now c.args.path.now c.in-Node.number sorts.File NotDir stands sort (dir_by c.args.tree.now c.args.path.now c.in-Node.number sorts.File stands sort)

pub returns-in-Link : goal.returns-in-Link
returns-in-Link c tape =
    let stands = (c.in-Node.ensures {u = tt}).number in
    let sort = c.in-Link.ensures {u = tt} in
    no_list tape c.args.tree.now c.args.path.now c.in-Node.number sorts.Link NotDir stands sort (dir_by c.args.tree.now c.args.path.now c.in-Node.number sorts.Link stands sort)
