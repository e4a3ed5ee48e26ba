use Rattle.std.proofs.Common.{ℕ, min, ap, ◌∙◌}
use Rattle.byte_disk.specs.Files.{bytes_of}
use Rattle.image_slots.specs.State.{file_of}
use Rattle.image_format.proofs.Stepping.{told_ended, told_fault}
use Rattle.image_format.proofs.walks.walk.Goals as goal

pub returns-in-Ok-walk_within-clause-told : goal.returns-in-Ok-walk_within-clause-told
returns-in-Ok-walk_within-clause-told g c = λ d held.
    told_ended c.args.half.now (bytes_of (file_of c.args.part) d) c.min.result c.walk_within.new.offsets.items
    (c.min.ensures ∙ ap (λ (n : ℕ). min c.args.half.now.end n) (c.in-Ok.ensures.value d held)) c.ended.result c.in-Ok-walk_within.at
    c.ended.ensures.ok c.ended.ensures.err (c.in-Ok-walk_within.ensures.told d (c.length.ensures.held ∙ held))

pub returns-in-Err-walk_within-clause-told : goal.returns-in-Err-walk_within-clause-told
returns-in-Err-walk_within-clause-told g c = λ d held.
    told_fault c.args.half.now (bytes_of (file_of c.args.part) d) c.min.result c.walk_within.new.offsets.items
    (c.min.ensures ∙ ap (λ (n : ℕ). min c.args.half.now.end n) (c.in-Ok.ensures.value d held)) (Unit {0}) c.in-Err-walk_within.fault
    (c.in-Err-walk_within.ensures.told d (c.length.ensures.held ∙ held))
