use Rattle.event_journal.proofs.LetGoLemmas.{other_let_go, values_let_go}
use Rattle.event_journal.proofs.replies.let_one_go.Goals as goal

pub returns-in-Some-clause-values : goal.returns-in-Some-clause-values
returns-in-Some-clause-values c =
    values_let_go c.args.replies.now.items c.args.at c.index_mut.result.now c.take.result c.take.new.self c.in-Some.held
    c.let_go.result c.requires c.index_mut.ensures.value c.take.ensures.value c.in-Some.is c.let_go.ensures

pub returns-in-Some-clause-others : goal.returns-in-Some-clause-others
returns-in-Some-clause-others c = λ k apart.
    other_let_go c.args.replies.now.items c.args.at k c.take.new.self _ apart
