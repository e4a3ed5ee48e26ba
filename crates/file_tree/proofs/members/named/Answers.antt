use Rattle.std.proofs.Common.{◌≡◌, ◌≢◌, ◌+◌, is_some, sym, ap, ◌∙◌, subst, arith}
use Rattle.file_tree.specs.Seen.{held}
use Rattle.file_tree.proofs.PlaceLemmas.{held_or}
use Rattle.file_tree.proofs.IndexedLemmas.{is_there}
use Rattle.file_tree.proofs.GatherLemmas.{AreSpelled, until, not_there, spell_first, spell_none, spell_can, spell_some, spelled}
use Rattle.file_tree.proofs.members.named.Goals as goal
use Rattle.file_tree.proofs.members.named.Goals.{then-is_some, else-is_some}

pub loop-number-init : goal.loop-number-init
loop-number-init c =
    spell_first c.args.spots.now c.in_ok-names.names c.in_ok-names.ensures.none c.in_ok-names.ensures.dirs c.in_ok-names.ensures.numbers

pub name_in-requires : goal.name_in-requires
name_in-requires c =
    let k = c.loop-number.number in
    let spots = c.args.spots.now in
    let at = held spots in
    let found : at k ≡ c.index-spots-number.result = held_or spots k c.index-spots-number.result c.loop-number-test.true c.index-spots-number.is in
    let other : k ≢ 0 = λ e. omega (arith, e, c.loop-number.auto.number) in
    let z = is_there at k (ap is_some found ∙ sym c.is_some.ensures ∙ c.if-is_some.true) in
    (until k at, until (k + 1) at, spell_can spots c.loop-number.names k c.loop-number.invariant z.0 other z.1 c.requires.apart c.loop-number-test.true (c.requires.below k z.0 z.1))

pub loop-number-preserved : goal.loop-number-preserved
loop-number-preserved c =
    let g = c.loop-number.invariant in
    let k = c.loop-number.number in
    let spots = c.args.spots.now in
    let at = held spots in
    let found : at k ≡ c.index-spots-number.result = held_or spots k c.index-spots-number.result c.loop-number-test.true c.index-spots-number.is in
    let other : k ≢ 0 = λ e. omega (arith, e, c.loop-number.auto.number) in
    elim c.if-is_some.branch [
      | then-is_some w ↦
          let z = is_there at k (ap is_some found ∙ sym c.is_some.ensures ∙ w.if-is_some.true) in
          let can = spell_can spots c.loop-number.names k g z.0 other z.1 c.requires.apart c.loop-number-test.true (c.requires.below k z.0 z.1) in
          subst (λ t. AreSpelled spots t (k + 1)) (sym w.names-is)
          (spell_some spots c.loop-number.names k g z.0 other z.1 w.name_in.new.names (w.name_in.ensures.named (until k at) (until (k + 1) at) can) w.name_in.ensures.dirs w.name_in.ensures.numbers)
      | else-is_some w ↦
          subst (λ t. AreSpelled spots t (k + 1)) (sym w.names-is)
          (spell_none spots c.loop-number.names k g (not_there at k (ap is_some found ∙ sym c.is_some.ensures ∙ w.if-is_some.false)))
    ]

pub returns-clause-named : goal.returns-clause-named
returns-clause-named c =
    spelled c.args.spots.now c.loop-number.names c.loop-number.number c.loop-number.invariant (omega (arith, c.loop-number-test.false))
