use Rattle.tape_types.specs.Times.{time_text}
use Rattle.ltfs_label.proofs.Assembled.{three}
use Rattle.ltfs_label.proofs.writing.put_moment.Goals as goal

pub returns : goal.returns
unfolding time_text
returns c = three c.args.out.now.items _ _ _ _ _ _ c.in_ok-put_start.ensures.ok c.in_ok-put_time.ensures.ok c.in_ok-put_end.ensures.ok
