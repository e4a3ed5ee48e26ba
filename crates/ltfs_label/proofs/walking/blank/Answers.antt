use Rattle.std.proofs.Common.{◌≡◌, ◌∙◌, [], refl}
use Rattle.tape_types.specs.Times.{civil_of}
use Rattle.ltfs_label.proofs.walking.blank.Goals as goal

pub returns : goal.returns
unfolding civil_of
returns c =
    let creator : c.from_string.result ≡ [] = c.from_string.ensures ∙ c.new.ensures.bytes in
    rw creator refl
