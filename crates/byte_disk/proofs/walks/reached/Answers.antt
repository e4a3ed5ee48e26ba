use Rattle.std.proofs.Common.{ℕ, ◌-◌, ◌≡◌, false, true, max, List, ◌∷◌, take, get_or, sym, ◌∙◌, ap, arith}
use Rattle.std.specs.Prelude.{reverse}
use Rattle.byte_disk.specs.declared.record.Change.{Change}
use Rattle.byte_disk.specs.declared.record.DoneCommand.{DoneCommand}
use Rattle.byte_disk.specs.Record.{pending}
use Rattle.byte_disk.specs.Images.{reach}
use Rattle.byte_disk.specs.Walks.{is_sync_of, reach_by}
use Rattle.byte_disk.proofs.Walking.{newest_at, reach_step, reach_stop}
use Rattle.byte_disk.proofs.walks.reached.Goals as goal

pub returns-then-is_sync_of : goal.returns-then-is_sync_of
returns-then-is_sync_of c =
    let acts : List DoneCommand = c.args.acts.now in
    let e : DoneCommand = get_or acts (c.loop-left.left - 1) c.index-acts-left.result in
    let older : List Change = pending c.args.file (reverse (take (c.loop-left.left - 1) acts)) in
    let newest : reverse (take c.loop-left.left acts) ≡ e ∷ reverse (take (c.loop-left.left - 1) acts) = newest_at acts c.loop-left.left c.index-acts-left.result c.loop-left-test.true c.loop-left.invariant.in_range in
    let stops : is_sync_of c.args.file e.act ≡ true = sym c.is_sync_of.ensures ∙ c.if-is_sync_of.true in
    let none : reach (pending c.args.file (reverse (take c.loop-left.left acts))) ≡ 0 =
    ap (λ (es : List DoneCommand). reach (pending c.args.file es)) newest ∙ reach_stop c.args.file older e.act stops in
    omega (arith, c.loop-left.invariant.same, c.loop-left.invariant.small, none)

pub loop-left-preserved : goal.loop-left-preserved
loop-left-preserved c =
    let acts : List DoneCommand = c.args.acts.now in
    let n = c.loop-left.most in
    let e : DoneCommand = get_or acts (c.loop-left.left - 1) c.index-acts-left.result in
    let older : List Change = pending c.args.file (reverse (take (c.loop-left.left - 1) acts)) in
    let newest : reverse (take c.loop-left.left acts) ≡ e ∷ reverse (take (c.loop-left.left - 1) acts) = newest_at acts c.loop-left.left c.index-acts-left.result c.loop-left-test.true c.loop-left.invariant.in_range in
    let goes_on : is_sync_of c.args.file e.act ≡ false = sym c.is_sync_of.ensures ∙ c.if-is_sync_of.false in
    let whole : max n (reach (pending c.args.file (reverse (take c.loop-left.left acts)))) ≡ max (reach_by c.args.file e.act n) (reach older) =
    ap (λ (es : List DoneCommand). max n (reach (pending c.args.file es))) newest ∙ reach_step c.args.file older e.act n goes_on in
    record {
      in_range = omega (arith, c.loop-left.invariant.in_range);
      small = omega (arith, c.reach_with-most.ensures);
      same = omega (arith, c.loop-left.invariant.same, whole, c.reach_with-most.ensures);
    }

pub returns : goal.returns
returns c =
    let acts : List DoneCommand = c.args.acts.now in
    let none : c.loop-left.left ≡ 0 = omega (arith, c.loop-left-test.false) in
    let past : reach (pending c.args.file (reverse (take c.loop-left.left acts))) ≡ 0 = ap (λ (n : ℕ). reach (pending c.args.file (reverse (take n acts)))) none in
    omega (arith, c.loop-left.invariant.same, c.loop-left.invariant.small, past)
