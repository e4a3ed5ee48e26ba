use Rattle.std.proofs.Common.{◌≡◌, ◌∙◌, true, false, List, sym, ap, subst}
use Rattle.std.specs.List.{AllByRecursion}
use Rattle.index_model.specs.declared.nodes.Node.{Node}
use Rattle.cartridge_meaning.specs.Meaning.{FitsNode}
use Rattle.volume_scan.specs.declared.content.Construct.{Construct}
use Rattle.mount_recover.specs.Lasts.{IsFirstOutside}
use Rattle.generation_view.proofs.LinkLemmas.{all_before, one_behind}
use Rattle.generation_view.proofs.links.first_failing.Goals as goal

pub returns-then-not-points_on_dp-clause-told : goal.returns-then-not-points_on_dp-clause-told
returns-then-not-points_on_dp-clause-told c = λ held k ks end there older of. (
  c.args.index.now,
  of,
  (λ points. let bad : true ≡ false =
      sym ((c.points_on_dp.ensures k ks (ap (λ (p : Construct). p.first) (sym there)) older).1 points) ∙ c.if-not-points_on_dp.true in cc bad),
)

pub returns-then-not-is_older-clause-told : goal.returns-then-not-is_older-clause-told
returns-then-not-is_older-clause-told c = λ held k ks end there older of. (
  c.args.index.now,
  of,
  (c.points_on_dp.ensures k ks (ap (λ (p : Construct). p.first) (sym there)) older).0 c.if-not-points_on_dp.false,
  (λ less. let bad : true ≡ false = sym (c.is_older.ensures.1 less) ∙ c.if-not-is_older.true in cc bad),
)

pub returns-in-None-clause-told : goal.returns-in-None-clause-told
returns-in-None-clause-told c = λ held k ks end there older of.
    all_before c.args.label.now held k ks c.args.after c.args.end_ip c.args.place end there c.args.index.now of
    ((c.points_on_dp.ensures k ks (ap (λ (p : Construct). p.first) (sym there)) older).0 c.if-not-points_on_dp.false)
    (c.is_older.ensures.0 c.if-not-is_older.false)
    (subst (λ (nodes : List Node). AllByRecursion (FitsNode c.args.label.now c.args.end_ip c.args.place.mark) nodes) c.as_slice.ensures c.in-None.ensures)

pub returns-in-Some-clause-told : goal.returns-in-Some-clause-told
returns-in-Some-clause-told c = λ held k ks end there older of.
    one_behind c.args.label.now held k ks c.args.after c.args.end_ip c.args.place end there c.args.index.now c.in-Some.uid of
    ((c.points_on_dp.ensures k ks (ap (λ (p : Construct). p.first) (sym there)) older).0 c.if-not-points_on_dp.false)
    (c.is_older.ensures.0 c.if-not-is_older.false)
    (subst (λ (nodes : List Node). IsFirstOutside c.args.label.now c.args.end_ip c.args.place.mark nodes c.in-Some.uid) c.as_slice.ensures c.in-Some.ensures)

pub returns-in-None-clause-fits : goal.returns-in-None-clause-fits
returns-in-None-clause-fits c =
    subst (λ (nodes : List Node). AllByRecursion (FitsNode c.args.label.now c.args.end_ip c.args.place.mark) nodes) c.as_slice.ensures c.in-None.ensures
