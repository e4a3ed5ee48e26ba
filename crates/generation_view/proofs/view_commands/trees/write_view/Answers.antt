use Rattle.std.proofs.Common.{◌≡◌, ℕ, subst, sym}
use Rattle.file_tree.specs.Tree.{plain_of}
use Rattle.commands.specs.BasicCommands.Listings.{Listing}
use Rattle.commands.specs.BasicCommands.Outcomes.{IsListingTold}
use Rattle.commands.specs.BasicCommands.Runs.{written}
use Rattle.commands.specs.BasicCommands.Statuses.{status_number}
use Rattle.generation_view.specs.ViewCommands.Outcomes.{seen_of}
use Rattle.generation_view.proofs.view_commands.trees.write_view.Goals as goal

pub returns-clause-told : goal.returns-clause-told
returns-clause-told g c = λ tape.
    let sink = written g.K.Sink c.args.out.now c.write_found-status.new.out in
    subst (λ (n : ℕ). IsListingTold (seen_of c.args.all tape c.args.view) sink n) (sym c.number.ensures)
    (subst (λ (l : Listing). IsListingTold l sink (status_number c.write_found-status.result))
    (λ i. record { tree = plain_of tape (c.into_tree.ensures i); generation = c.generation-generation.ensures i; spot = c.spot-spot.ensures i; all = c.args.all })
    (c.write_found-status.ensures tape))
