use Rattle.tape_desk.proofs.HereLemmas.{reply_is}
use Rattle.tape_desk.proofs.printing.reply_here.Goals as goal

pub returns : goal.returns
returns g c =
    reply_is c.reply.result (λ r. r.now) c.args.place c.args.volume.now.replies c.args.volume.now.marks c.requires
    c.reply.ensures.some c.reply.ensures.none
