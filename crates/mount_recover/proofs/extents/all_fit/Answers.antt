use Rattle.std.proofs.Common.{◌∙◌, ◌<◌, get_or, refl, sym}
use Rattle.std.proofs.lemmas.Option.{slice_get-get_or}
use Rattle.index_model.specs.declared.nodes.RawExtent.{RawExtent}
use Rattle.cartridge_meaning.specs.Meaning.{Fits}
use Rattle.mount_recover.proofs.ExtentLemmas.{all_at, all_more, all_whole}
use Rattle.mount_recover.proofs.extents.all_fit.Goals as goal

pub returns-then-not-is_within : goal.returns-then-not-is_within
returns-then-not-is_within c =
    let nothing : RawExtent = record { offset = 0; letter = 0; block = 0; byte = 0; count = 0 } in
    let is = slice_get-get_or c.args.extents.now c.loop-extent.extent-index nothing c.loop-extent-test.true in (
      (λ bad. absurd (cc bad)),
      λ all. sym c.if-not-is_within.true ∙ c.is_within.ensures.1 (all_at (λ (e : RawExtent). 0 < e.count → Fits c.args.label.now c.args.ends.ip c.args.ends.dp e) c.args.extents.now c.loop-extent.extent-index (get_or c.args.extents.now c.loop-extent.extent-index nothing) is all),
    )

pub loop-extent-preserved : goal.loop-extent-preserved
loop-extent-preserved c =
    let nothing : RawExtent = record { offset = 0; letter = 0; block = 0; byte = 0; count = 0 } in
    let is = slice_get-get_or c.args.extents.now c.loop-extent.extent-index nothing c.loop-extent-test.true in
    all_more (λ (e : RawExtent). 0 < e.count → Fits c.args.label.now c.args.ends.ip c.args.ends.dp e) c.args.extents.now c.loop-extent.extent-index (get_or c.args.extents.now c.loop-extent.extent-index nothing) is
    c.loop-extent.invariant (c.is_within.ensures.0 c.if-not-is_within.false)

pub returns : goal.returns
returns c = (
  (λ yes. all_whole (λ (e : RawExtent). 0 < e.count → Fits c.args.label.now c.args.ends.ip c.args.ends.dp e) c.loop-extent.extent-index c.args.extents.now c.loop-extent-test.false c.loop-extent.invariant),
  λ all. refl,
)
