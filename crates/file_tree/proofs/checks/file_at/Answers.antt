use Rattle.std.proofs.Common.{sym, subst}
use Rattle.plain_tree.specs.declared.calls.Sort.{Sort}
use Rattle.plain_tree.specs.declared.calls.Sort.TheVariants as sorts
use Rattle.file_tree.specs.Reads.{IsOfSort}
use Rattle.file_tree.proofs.ReadLemmas.{file_by}
use Rattle.file_tree.proofs.checks.file_at.Goals as goal

pub returns-in-Dir : goal.returns-in-Dir
returns-in-Dir c = sym (file_by c.args.tree.now c.args.path.now c.in-Node.number sorts.Dir c.in-Node.ensures.number (subst (λ (s : Sort). IsOfSort c.args.tree.now c.in-Node.number s) c.in-Dir.is c.sort.ensures))

pub returns-in-File : goal.returns-in-File
returns-in-File c = (
  sym (file_by c.args.tree.now c.args.path.now c.in-Node.number sorts.File c.in-Node.ensures.number (subst (λ (s : Sort). IsOfSort c.args.tree.now c.in-Node.number s) c.in-File.is c.sort.ensures)),
  c.in-Node.ensures.number,
)

pub returns-in-Link : goal.returns-in-Link
returns-in-Link c = sym (file_by c.args.tree.now c.args.path.now c.in-Node.number sorts.Link c.in-Node.ensures.number (subst (λ (s : Sort). IsOfSort c.args.tree.now c.in-Node.number s) c.in-Link.is c.sort.ensures))
