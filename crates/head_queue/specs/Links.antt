-- What a vector of links, and the link of the two ends, say of each number.
use Rattle.std.specs.Prelude.{ℕ, zero, suc, List}
use Rattle.std.specs.List.{slice_index_or}
use Rattle.head_queue.specs.declared.links.Link.{Link}

-- the link of a number that stands in no chain
abbrev pub blank : Link
blank = record { before = 0; after = 0 }

-- the link of a number, where 0 is what stands before the first and after the last
abbrev pub link_at : Link → List Link → ℕ → Link
link_at ends links zero = ends
link_at ends links (suc k) = slice_index_or links k blank

abbrev pub after_of : Link → List Link → ℕ → ℕ
after_of ends links k = (link_at ends links k).after

abbrev pub before_of : Link → List Link → ℕ → ℕ
before_of ends links k = (link_at ends links k).before
