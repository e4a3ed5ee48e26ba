use Rattle.plain_tree.proofs.ListingLemmas.{listing_exact}
use Rattle.plain_tree.proofs.laws.listings_are_exact.Goals as goal

pub returns : goal.returns
returns c = listing_exact
