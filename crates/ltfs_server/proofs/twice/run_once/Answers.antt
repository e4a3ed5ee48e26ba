use Rattle.std.proofs.Common.{inl}
use Rattle.ltfs_server.proofs.twice.run_once.Goals as goal

pub run-requires-clause-honest : goal.run-requires-clause-honest
run-requires-clause-honest g c κs within = λ asked. c.requires.honest

pub run-requires-clause-formats : goal.run-requires-clause-formats
run-requires-clause-formats g c κs within = λ asked are image. tt

pub run-requires-clause-serves : goal.run-requires-clause-serves
run-requires-clause-serves g c κs within = λ at is script spelled held told. inl (λ image. tt)

pub run-requires-clause-makes : goal.run-requires-clause-makes
run-requires-clause-makes g c κs within = λ count at is held told. inl (λ image. tt)

pub returns : goal.returns
returns g c = record {
  does = record {
    plain = c.run.ensures.plain;
    label = c.run.ensures.label;
    list = c.run.ensures.list;
    generations = c.run.ensures.generations;
    view = c.run.ensures.view;
    format = c.run.ensures.format;
    serve = c.run.ensures.serve;
    make = c.run.ensures.make;
    no_form = c.run.ensures.no_form;
    unread = c.run.ensures.unread;
    comes = c.run.ensures.comes;
    told = c.run.ensures.told;
  };
  headline = c.run.ensures.headline;
}
