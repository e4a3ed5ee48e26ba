use Rattle.std.proofs.Common.{◌≡◌, true, false}
use Rattle.head_queue.specs.Ranks.{rank_of}
use Rattle.head_queue.proofs.WalkLemmas.{led, goes, nearer, ended}
use Rattle.head_queue.proofs.walks.last_before.Goals as goal

pub after-next-requires : goal.after-next-requires
after-next-requires c = (led c.args.entries.now (rank_of c.args.place c.args.arrival) c.args.chain.now.members c.args.chain.now.size c.args.from c.requires.kept c.requires.start).cut

pub walk-init : goal.walk-init
walk-init c =
    let begun = led c.args.entries.now (rank_of c.args.place c.args.arrival) c.args.chain.now.members c.args.chain.now.size c.args.from c.requires.kept c.requires.start in
    record { passed = begun; next_is = c.after-next.ensures begun.cut }

pub after-next-requires-in-walk : goal.after-next-requires-in-walk
after-next-requires-in-walk c =
    (goes c.args.entries.now (rank_of c.args.place c.args.arrival) c.args.chain.now.members c.walk.at c.walk.next c.walk.invariant (c.leads.ensures.0 c.walk-test.true)).cut

pub walk-smaller : goal.walk-smaller
walk-smaller c = nearer c.args.entries.now (rank_of c.args.place c.args.arrival) c.args.chain.now.members c.walk.at c.walk.next c.requires.kept.differ c.walk.invariant (c.leads.ensures.0 c.walk-test.true)

pub walk-preserved : goal.walk-preserved
walk-preserved c =
    let gone = goes c.args.entries.now (rank_of c.args.place c.args.arrival) c.args.chain.now.members c.walk.at c.walk.next c.walk.invariant (c.leads.ensures.0 c.walk-test.true) in
    record { passed = gone; next_is = c.after-next-in-walk.ensures gone.cut }

pub returns : goal.returns
returns c =
    ended c.args.entries.now (rank_of c.args.place c.args.arrival) c.args.chain.now.members c.args.chain.now.size c.walk.at c.walk.next c.requires.kept c.walk.invariant
    (λ leads. let t : c.leads.result ≡ true = c.leads.ensures.1 leads in let f : c.leads.result ≡ false = c.walk-test.false in cc)
