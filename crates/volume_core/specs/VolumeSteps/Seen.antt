-- The parts of a volume as contracts see them.
use Rattle.volume_core.specs.declared.volume_steps.parts.Parts.{Parts as Held}
use Rattle.volume_state.specs.StateLaws.Parts.{Parts}

abbrev pub seen_parts : {D : Type 0} → Held D → Parts D
seen_parts p = record {
  drive = p.head.drive;
  block = p.head.block;
  stock = p.stock;
  trail = p.trail;
  queue = p.queue;
  listed = p.placements;
  reads = p.reads.reads;
  answered = p.reads.answered;
  on = p.on;
  cached = p.cache;
}
