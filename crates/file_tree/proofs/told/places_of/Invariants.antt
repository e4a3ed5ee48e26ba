use Rattle.std.proofs.Common.{◌≡◌, ◌<◌, ℕ, length}
use Rattle.index_model.specs.Places.{IsAt}
use Rattle.file_tree.proofs.told.places_of.Given as goal

abbrev pub invariant-loop-place : goal.invariant-loop-place
invariant-loop-place l = (length l.places.items ≡ l.count) × ((place number : ℕ) → place < l.place → IsAt l.numbers place number → IsAt l.places.items number place)
