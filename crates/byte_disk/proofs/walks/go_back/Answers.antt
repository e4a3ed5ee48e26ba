use Rattle.std.proofs.Common.{ℕ, ◌-◌, ◌≡◌, false, List, ◌∷◌, take, get_or, sym, ◌∙◌, ap, subst, arith}
use Rattle.std.specs.Prelude.{reverse}
use Rattle.byte_disk.specs.declared.record.Change.{Change}
use Rattle.byte_disk.specs.declared.record.DoneCommand.{DoneCommand}
use Rattle.byte_disk.specs.Record.{pending, AreKept}
use Rattle.byte_disk.specs.Images.{original}
use Rattle.byte_disk.specs.Walks.{is_sync_of}
use Rattle.byte_disk.proofs.Walking.{newest_at, back_step, kept_step}
use Rattle.byte_disk.proofs.walks.go_back.Goals as goal

pub undo_by-requires : goal.undo_by-requires
undo_by-requires c =
    let acts : List DoneCommand = c.args.acts.now in
    let e : DoneCommand = get_or acts (c.loop-left.left - 1) c.index-acts-left.result in
    let older : List Change = pending c.args.file (reverse (take (c.loop-left.left - 1) acts)) in
    let newest : reverse (take c.loop-left.left acts) ≡ e ∷ reverse (take (c.loop-left.left - 1) acts) = newest_at acts c.loop-left.left c.index-acts-left.result c.loop-left-test.true c.loop-left.invariant.in_range in
    let goes_on : is_sync_of c.args.file e.act ≡ false = sym c.is_sync_of.ensures ∙ c.if-is_sync_of.false in
    (kept_step c.args.file older e.act c.loop-left.bytes.items goes_on
    (subst (λ (es : List DoneCommand). AreKept c.loop-left.bytes.items (pending c.args.file es)) newest c.loop-left.invariant.kept)).0

pub loop-left-preserved : goal.loop-left-preserved
loop-left-preserved c =
    let acts : List DoneCommand = c.args.acts.now in
    let e : DoneCommand = get_or acts (c.loop-left.left - 1) c.index-acts-left.result in
    let older : List Change = pending c.args.file (reverse (take (c.loop-left.left - 1) acts)) in
    let newest : reverse (take c.loop-left.left acts) ≡ e ∷ reverse (take (c.loop-left.left - 1) acts) = newest_at acts c.loop-left.left c.index-acts-left.result c.loop-left-test.true c.loop-left.invariant.in_range in
    let goes_on : is_sync_of c.args.file e.act ≡ false = sym c.is_sync_of.ensures ∙ c.if-is_sync_of.false in
    let kept = kept_step c.args.file older e.act c.loop-left.bytes.items goes_on
    (subst (λ (es : List DoneCommand). AreKept c.loop-left.bytes.items (pending c.args.file es)) newest c.loop-left.invariant.kept) in
    record {
      in_range = omega (arith, c.loop-left.invariant.in_range);
      kept = subst (λ (l : List ℕ). AreKept l older) (sym c.undo_by.ensures) kept.1;
      same = ap (λ (l : List ℕ). original l older) c.undo_by.ensures
          ∙ sym (back_step c.args.file older e.act c.loop-left.bytes.items goes_on)
          ∙ ap (λ (es : List DoneCommand). original c.loop-left.bytes.items (pending c.args.file es)) (sym newest)
          ∙ c.loop-left.invariant.same;
    }
