-- What the definitions of space say of worked values.
use Rattle.std.proofs.Common.{refl}
use Rattle.space_laws.specs.Examples.{TellsSpace}

-- what the space is in worked cases
pub tells_space : TellsSpace
tells_space = record {
  is_full = refl;
  needs_53 = refl;
  has_52 = refl;
  flushed_first = refl;
  not_yet_on = refl;
  index_needs_marks = refl;
  no_generation_left = refl;
  generations = refl;
  after_index = refl;
  goes_to_ip = refl;
  too_long_for_ip = refl;
  cut_into_blocks = refl;
}
