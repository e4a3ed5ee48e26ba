use Rattle.std.proofs.Common.{◌++◌, ap, ◌∙◌, codes, decimal}
use Rattle.tree_listing.specs.Listing.{spot_text}
use Rattle.tree_listing.proofs.Written.{joined}
use Rattle.tree_listing.proofs.texts.put_generation.Goals as goal

pub returns : goal.returns
returns c =
    c.in_ok-put-3.ensures
    ∙ ap (λ l. l ++ codes "\n") (c.in_ok-put_spot.ensures
    ∙ ap (λ l. l ++ spot_text c.args.spot) (c.in_ok-put-2.ensures
    ∙ ap (λ l. l ++ codes " ") (c.in_ok-put_number.ensures ∙ ap (λ l. l ++ decimal c.args.generation) c.in_ok-put.ensures)))
    ∙ joined c.args.out.now.items (codes "generation ") (decimal c.args.generation) (codes " ") (spot_text c.args.spot) (codes "\n")
