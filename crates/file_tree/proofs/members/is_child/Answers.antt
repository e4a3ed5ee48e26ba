use Rattle.std.proofs.Common.{ℕ, Some, sym, ap₂, ◌∙◌}
use Rattle.plain_tree.specs.Paths.{Name}
use Rattle.file_tree.specs.Seen.{held}
use Rattle.file_tree.proofs.WalkLemmas.{name_Decides}
use Rattle.file_tree.proofs.KeyLemmas.{key_at}
use Rattle.file_tree.proofs.members.is_child.Goals as goal

pub returns-then-spot-dir : goal.returns-then-spot-dir
returns-then-spot-dir c = λ yes.
    let z = c.in-Some.spot.now in
    let named = sym c.as_str.ensures ∙ (name_Decides c.as_str.result.now c.args.name.now).0 (sym c.eq.ensures ∙ yes) in
    key_at (held c.args.spots.now) c.args.number (Some z) c.if-number-eq0.false (sym c.in-Some.ensures)
    ∙ ap₂ (λ (d : ℕ) (x : Name). Some (d, x)) c.if-spot-dir.true named
