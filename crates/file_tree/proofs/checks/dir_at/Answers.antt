use Rattle.std.proofs.Common.{sym, subst, ⊎_elim}
use Rattle.plain_tree.specs.declared.calls.Sort.{Sort}
use Rattle.plain_tree.specs.declared.calls.Sort.TheVariants as sorts
use Rattle.file_tree.specs.Reads.{IsOfSort}
use Rattle.file_tree.proofs.ReadLemmas.{dir_by}
use Rattle.file_tree.proofs.checks.dir_at.Goals as goal

pub returns-in-Dir : goal.returns-in-Dir
returns-in-Dir c = (
  sym (dir_by c.args.tree.now c.args.path.now c.in-Node.number sorts.Dir c.in-Node.ensures.number (subst (λ (s : Sort). IsOfSort c.args.tree.now c.in-Node.number s) c.in-Dir.is c.sort.ensures)),
  c.in-Node.ensures.number,
)

pub returns-in-File : goal.returns-in-File
returns-in-File c = ⊎_elim
    (λ file. sym (dir_by c.args.tree.now c.args.path.now c.in-Node.number sorts.File c.in-Node.ensures.number (subst (λ (s : Sort). IsOfSort c.args.tree.now c.in-Node.number s) file c.sort.ensures)))
    (λ link. sym (dir_by c.args.tree.now c.args.path.now c.in-Node.number sorts.Link c.in-Node.ensures.number (subst (λ (s : Sort). IsOfSort c.args.tree.now c.in-Node.number s) link c.sort.ensures)))
    c.in-File.is
