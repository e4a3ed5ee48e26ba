use Rattle.std.proofs.Common.{◌≡◌, ◌∙◌, true, List, ℕ, drop, sym, ap}
use Rattle.std.specs.Prelude.{nat_eq}
use Rattle.std.specs.List.{starts_with}
use Rattle.mount_recover.proofs.DocumentLemmas.{rest_of, stands_there}
use Rattle.mount_recover.proofs.documents.put_block.Goals as goal

pub returns-then-starts_with : goal.returns-then-starts_with
returns-then-starts_with c =
    let begins : starts_with nat_eq (drop c.args.read.at c.args.document.now.items) c.args.block.now ≡ true =
    sym (c.starts_with.ensures.value
    ∙ ap (λ (l : List ℕ). starts_with nat_eq l c.args.block.now) (rest_of c.args.read.at c.deref.result.now)
    ∙ ap (λ (l : List ℕ). starts_with nat_eq (drop c.args.read.at l) c.args.block.now) c.deref.ensures.value)
    ∙ c.if-starts_with.true in
    stands_there c.args.read c.args.block.now c.args.document.now.items c.requires begins
