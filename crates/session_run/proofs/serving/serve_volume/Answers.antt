use Rattle.std.proofs.Common.{◌∙◌, sym, subst, arith}
use Rattle.tape_types.specs.declared.cartridges.Limits.{Limits}
use Rattle.cartridge_meaning.specs.Mounts.{IsMount}
use Rattle.session_run.proofs.Allowed.{may_start}
use Rattle.session_run.proofs.ServingSteps.{is_mount, unmounted}
use Rattle.session_run.proofs.serving.serve_volume.Goals as goal

pub serve_mounted-requires-clause-mount : goal.serve_mounted-requires-clause-mount
serve_mounted-requires-clause-mount g c = λ lifetimes outlives.
    subst (λ (l : Limits). IsMount l c.in-Ok.mounted) (sym c.in-Ok.ensures.looks.limits) (is_mount _ c.in-Ok.mounted c.in-Ok.ensures.any)

pub serve_mounted-requires-clause-allowed : goal.serve_mounted-requires-clause-allowed
serve_mounted-requires-clause-allowed g c = λ lifetimes outlives.
    may_start g.D.Drive _ c.args.drive c.mount.new.drive c.in-Ok.ensures.looks c.of-since.result.value
    (c.of-since.ensures ∙ c.commands.ensures) c.in-Ok.mounted c.args.script (g.C.Clock.one c.args.clock)
    c.in-Ok.ensures.found c.requires.allowed

pub returns-in-Ok-clause-whole : goal.returns-in-Ok-clause-whole
returns-in-Ok-clause-whole g c = c.serve_mounted.ensures.whole c.args.drive (omega (arith, c.faults-faults_are_in_range.ensures))
    (record { looks = c.in-Ok.ensures.looks; faults = c.in-Ok.ensures.counts.later }) (c.of-since.ensures ∙ c.commands.ensures)

pub returns-in-Err-clause-whole : goal.returns-in-Err-clause-whole
returns-in-Err-clause-whole g c =
    unmounted g.D.Drive c.args.drive c.mount.new.drive c.in-Err.error c.mount_end.result c.mount_end.ensures c.in-Err.ensures.refused c.in-Err.ensures.counts.told
    (record { looks = c.in-Err.ensures.looks; faults = c.in-Err.ensures.counts.later })
