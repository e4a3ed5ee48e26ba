use Rattle.tree_listing.proofs.Short.{short_text}
use Rattle.tree_listing.proofs.laws.short_listings_have_a_line_for_each_node.Goals as goal

pub returns : goal.returns
returns c = short_text
