use Rattle.std.proofs.Common.{ap, arith, sym, ◌∙◌}
use Rattle.cartridge_meaning.specs.declared.mounted.Mounted.{Mounted}
use Rattle.volume_core.specs.VolumeSteps.Seen.{seen_parts}
use Rattle.held_volume.specs.Stocks.{Stocked}
use Rattle.volume_core.specs.Serving.{fixed_of}
use Rattle.volume_core.proofs.BeginLemmas.{BeginsServed, begins_served}
use Rattle.volume_core.proofs.volume.Volume.start.Given.{Over}
use Rattle.volume_core.proofs.volume.Volume.start.Goals as goal

begins : (g : Over) (c : goal.After-of-stock g)
    → BeginsServed {D = g.row.D.Denot} g.D.Drive
    (fixed_of g.D.Drive.held c.args.script c.of-mount.result.value c.of-first.result.value
    c.of-stock.result.value.tree (g.C.Clock.one c.of-watch.result.value) c.args.since.value)
    c.args.mounted c.args.drive (g.C.Clock.one c.args.clock) (g.C.Clock.next c.args.clock)
    (seen_parts c.in-Ok-begin.parts)
begins g c =
    let begun = c.in-Ok-begin.ensures {u = tt} in
    begins_served g.D.Drive g.met.D.Drive.counts_now c.args.script c.args.mounted c.args.drive
    (g.C.Clock.one c.args.clock) (g.C.Clock.next c.args.clock) c.args.since.value (seen_parts c.in-Ok-begin.parts)
    c.of-mount.result.value c.of-first.result.value c.of-stock.result.value.tree
    (g.C.Clock.one c.of-watch.result.value) c.len-calls.result c.from-sessions.result
    record {
      mounted = c.of-mount.ensures;
      drive = c.of-first.ensures;
      stock = ap (λ (s : Stocked). s.tree) c.of-stock.ensures;
      clock = ap g.C.Clock.one c.of-watch.ensures;
    }
    record {
      sessions = c.sessions.ensures.each;
      range = begun.limits;
      mount = c.requires.mount;
      mounts = c.requires.mounts;
    }
    c.requires.allowed
    c.len-calls.ensures (c.from-sessions.ensures ∙ c.sessions.ensures.greatest) begun.fresh

pub invariant_of-result : goal.invariant_of-result
invariant_of-result g c =
    let b = begins g c in
    let told = c.in-Ok.ensures {u = tt} in (
      b.serving,
      told.items,
      omega (arith, b.serving.runs.tied.calls, c.len-calls.ensures, told.capacity),
      sym (ap (λ (m : Mounted). m.noted) c.of-mount.ensures),
    )

pub returns-in-Ok-begin-clause-ok : goal.returns-in-Ok-begin-clause-ok
returns-in-Ok-begin-clause-ok g c = (begins g c).starts

pub returns-in-Ok-begin-clause-served : goal.returns-in-Ok-begin-clause-served
returns-in-Ok-begin-clause-served g c = (begins g c).served
