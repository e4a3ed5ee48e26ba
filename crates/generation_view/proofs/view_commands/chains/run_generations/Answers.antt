use Rattle.std.proofs.Common.{◌⊎◌, List, codes, subst}
use Rattle.commands.specs.BasicCommands.Outcomes.{IsTold}
use Rattle.commands.specs.BasicCommands.Runs.{written}
use Rattle.generation_view.specs.declared.telling.Generation.{Generation}
use Rattle.generation_view.specs.ViewCommands.Texts.{generations_text, view_text}
use Rattle.generation_view.proofs.ViewCommands.ViewClauses.{chain_told, chain_untold}
use Rattle.generation_view.proofs.view_commands.chains.run_generations.Goals as goal

pub returns-in-Ok : goal.returns-in-Ok
returns-in-Ok g c =
    chain_told g.D.Drive c.args.drive c.generations.new.drive _ _ _ _ c.in-Ok.told c.tell_made.ensures.drive c.tell_made.ensures.log c.in-Ok.ensures.found c.in-Ok.ensures.looks
    (subst (λ (told : List Generation). IsTold 0 (generations_text told) (written g.K.Sink c.args.out.now c.tell_made.new.out) c.tell_made.result.status
    ⊎ IsTold 7 (codes "memory\n") (written g.K.Sink c.args.out.now c.tell_made.new.out) c.tell_made.result.status) c.as_slice.ensures
    (c.tell_made.ensures.told (generations_text c.as_slice.result.now) c.generations_text.ensures))

pub returns-in-Err : goal.returns-in-Err
returns-in-Err g c =
    chain_untold g.D.Drive c.args.drive c.generations.new.drive _ _ _ _ c.in-Err.error c.tell_made-in-Err.ensures.drive c.tell_made-in-Err.ensures.log
    c.in-Err.ensures.refused c.in-Err.ensures.counts.told c.in-Err.ensures.looks _ c.view_status.ensures
    (c.tell_made-in-Err.ensures.told (view_text c.in-Err.error) c.view_text.ensures)
