use Rattle.std.proofs.Common.{ap, sym, ◌∙◌, refl}
use Rattle.plain_tree.proofs.LinkLemmas.{on_any_err}
use Rattle.plain_tree.specs.Calls.{after}
use Rattle.plain_tree.specs.Refusals.{refusal_of}
use Rattle.plain_tree.specs.Tree as plain
use Rattle.plain_tree.specs.declared.calls.Call.TheVariants as asks
use Rattle.file_tree.proofs.OutlineLemmas.{outlines_keep_files}
use Rattle.file_tree.specs.Tree.{plain_of, whole}
use Rattle.held_volume.proofs.Asks.{unlocked_refusal}
use Rattle.held_volume.proofs.KeySteps.{key_changes, key_still}
use Rattle.held_volume.proofs.TreeSteps.{outline_same}
use Rattle.held_volume.proofs.attributes.set_key.Goals as goal

pub returns-in-Err-clause-ok : goal.returns-in-Err-clause-ok
returns-in-Err-clause-ok c = (
  unlocked_refusal (plain_of whole c.args.tree.now) (asks.Setx c.args.path.now c.args.key.now c.args.bytes.now) c.requires ∙ c.in-Err.ensures {u = tt} c.args.bytes.now,
  refl,
)

pub has_value-requires : goal.has_value-requires
has_value-requires c = (c.args.path.now, (c.in-Ok.ensures {u = tt} c.args.bytes.now).1)

pub returns-then-has_value-clause-ok : goal.returns-then-has_value-clause-ok
returns-then-has_value-clause-ok c =
    let found = c.in-Ok.ensures {u = tt} c.args.bytes.now in (
      unlocked_refusal (plain_of whole c.args.tree.now) (asks.Setx c.args.path.now c.args.key.now c.args.bytes.now) c.requires ∙ found.0,
      key_still c.args.tree.now c.args.path.now c.args.key.now c.args.bytes.now c.args.at (λ tape. sym (c.has_value.ensures tape c.args.path.now found.1) ∙ c.if-has_value.true),
    )

pub reserve_key-requires : goal.reserve_key-requires
reserve_key-requires c = (c.args.path.now, (c.in-Ok.ensures {u = tt} c.args.bytes.now).1)

pub returns-in_err-reserve_key-clause-err : goal.returns-in_err-reserve_key-clause-err
returns-in_err-reserve_key-clause-err c =
    on_any_err c.from_residual-in_err-reserve_key.result (outline_same c.args.tree.now c.reserve_key.new.self c.reserve_key.ensures.outline c.reserve_key.ensures.plain)

pub set_key-requires : goal.set_key-requires
set_key-requires c =
    let r = c.reserve_key.ensures in
    let found = c.in-Ok.ensures {u = tt} c.args.bytes.now in
    let name = c.in_ok-name.ensures {u = tt} in
    let value = c.in_ok-value.ensures {u = tt} in
    let free = unlocked_refusal (plain_of whole c.args.tree.now) (asks.Setx c.args.path.now c.args.key.now c.args.bytes.now) c.requires ∙ found.0 in
    record {
      path = c.args.path.now;
      stands = outlines_keep_files.numbers c.args.tree.now c.reserve_key.new.self r.outline c.args.path.now c.in-Ok.number found.1;
      free = ap (λ t. refusal_of t (asks.Setx c.args.path.now c.in_ok-name.name c.in_ok-value.value)) (r.plain whole)
          ∙ ap (λ k. refusal_of (plain_of whole c.args.tree.now) (asks.Setx c.args.path.now k c.in_ok-value.value)) name
          ∙ ap (λ v. refusal_of (plain_of whole c.args.tree.now) (asks.Setx c.args.path.now c.args.key.now v)) value
          ∙ free;
      apart = ap (λ (t : plain.Tree). plain.has_value t.nodes c.args.path.now c.in_ok-name.name c.in_ok-value.value) (r.plain whole)
          ∙ ap (λ k. plain.has_value (plain_of whole c.args.tree.now).nodes c.args.path.now k c.in_ok-value.value) name
          ∙ ap (λ v. plain.has_value (plain_of whole c.args.tree.now).nodes c.args.path.now c.args.key.now v) value
          ∙ sym (c.has_value.ensures whole c.args.path.now found.1) ∙ c.if-has_value.false;
      room = c.in_ok-reserve_key.ensures.room;
    }

pub returns-clause-ok : goal.returns-clause-ok
returns-clause-ok c =
    let r = c.reserve_key.ensures in
    let found = c.in-Ok.ensures {u = tt} c.args.bytes.now in
    let free = unlocked_refusal (plain_of whole c.args.tree.now) (asks.Setx c.args.path.now c.args.key.now c.args.bytes.now) c.requires ∙ found.0 in
    let stands = outlines_keep_files.numbers c.args.tree.now c.reserve_key.new.self r.outline c.args.path.now c.in-Ok.number found.1 in (
      free,
      key_changes c.args.tree.now c.args.path.now c.args.key.now c.args.bytes.now c.args.at c.reserve_key.new.self c.set_key.new.self
          (outline_same c.args.tree.now c.reserve_key.new.self r.outline r.plain) c.set_key.ensures.outline
          (λ tape. c.set_key.ensures.plain c.args.path.now stands tape
          ∙ ap (λ k. after (plain_of tape c.reserve_key.new.self) (asks.Setx c.args.path.now k c.in_ok-value.value) c.args.at) (c.in_ok-name.ensures {u = tt})
          ∙ ap (λ v. after (plain_of tape c.reserve_key.new.self) (asks.Setx c.args.path.now c.args.key.now v) c.args.at) (c.in_ok-value.ensures {u = tt}))
          (λ tape. sym (c.has_value.ensures tape c.args.path.now found.1) ∙ c.if-has_value.false) free,
    )
