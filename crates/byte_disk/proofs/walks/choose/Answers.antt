use Rattle.std.proofs.Common.{ℕ, ◌-◌, ◌≡◌, false, List, ◌∷◌, take, get_or, sym, ◌∙◌, ap, arith}
use Rattle.std.specs.Prelude.{reverse}
use Rattle.byte_disk.specs.declared.record.Change.{Change}
use Rattle.byte_disk.specs.declared.record.DoneCommand.{DoneCommand}
use Rattle.byte_disk.specs.Record.{pending}
use Rattle.byte_disk.specs.Images.{chosen}
use Rattle.byte_disk.specs.Walks.{is_sync_of}
use Rattle.byte_disk.proofs.Walking.{newest_at, choose_step}
use Rattle.byte_disk.proofs.walks.choose.Goals as goal

pub loop-left-preserved : goal.loop-left-preserved
loop-left-preserved c =
    let acts : List DoneCommand = c.args.acts.now in
    let e : DoneCommand = get_or acts (c.loop-left.left - 1) c.index-acts-left.result in
    let older : List Change = pending c.args.file (reverse (take (c.loop-left.left - 1) acts)) in
    let newest : reverse (take c.loop-left.left acts) ≡ e ∷ reverse (take (c.loop-left.left - 1) acts) = newest_at acts c.loop-left.left c.index-acts-left.result c.loop-left-test.true c.loop-left.invariant.in_range in
    let goes_on : is_sync_of c.args.file e.act ≡ false = sym c.is_sync_of.ensures ∙ c.if-is_sync_of.false in
    record {
      in_range = omega (arith, c.loop-left.invariant.in_range);
      same = ap (λ (l : List ℕ). chosen older c.args.choice.now l) c.choose_by.ensures
          ∙ sym (choose_step c.args.file older e.act c.args.choice.now c.loop-left.bytes.items goes_on)
          ∙ ap (λ (es : List DoneCommand). chosen (pending c.args.file es) c.args.choice.now c.loop-left.bytes.items) (sym newest)
          ∙ c.loop-left.invariant.same;
    }
