use Rattle.session_script.proofs.reading.read_lines.Goals as goal

pub with-requires : goal.with-requires
with-requires c = rw c.in-Ok-Some.field-0-is at c.in-Ok-Some.ensures.follows
