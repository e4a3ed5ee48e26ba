use Rattle.std.proofs.Common.{◌≢◌, sym, subst, arith}
use Rattle.tape_types.specs.declared.cartridges.Cartridge.{Cartridge}
use Rattle.ltfs_label.specs.declared.Label.{Label}
use Rattle.cartridge_meaning.specs.Mounts.{Mounts}
use Rattle.mount_recover.proofs.MountLemmas.{free_blames}
use Rattle.mount_recover.proofs.StepLemmas.{at_told, found_after, refused_after, stops, told_then}
use Rattle.generation_view.specs.Told.{AreKnown}
use Rattle.generation_view.specs.Views.{IsMadeOf}
use Rattle.generation_view.proofs.Seekings.{can_be_tree, made_sought, sound_sought}
use Rattle.generation_view.proofs.seeking.seek_behind.Goals as goal

pub walk_back-requires-clause-known : goal.walk_back-requires-clause-known
walk_back-requires-clause-known g c = told_then (g.D.Drive.held c.args.drive.now) c.requires.known (λ held is. is.1)

pub sought_of-requires : goal.sought_of-requires
sought_of-requires g c =
    can_be_tree c.args.start.limits c.args.mounted.now c.in-Ok.way c.requires.since.range c.requires.sound c.in-Ok.ensures.any

pub returns-in-Ok-sought_of : goal.returns-in-Ok-sought_of
returns-in-Ok-sought_of g c =
    found_after g.D.Drive c.args.start c.in-Ok.ensures
    (λ held h way.
    let m = (at_told (λ (x : Cartridge). Mounts x c.args.mounted.now × AreKnown c.args.mounted.now.end_ip c.args.places.items x) h c.requires.known).0 in (
      m.found,
      made_sought held m.found (subst (λ (l : Label). l.index ≢ l.dpart) m.label c.requires.sound.letters) c.args.generation c.in-Ok.way c.in-Ok-sought_of.sought
          (way m.found (sym m.label))
          (subst (λ (l : Label). IsMadeOf l c.args.generation c.in-Ok.way c.in-Ok-sought_of.sought) m.label c.in-Ok-sought_of.ensures),
    ))
    (λ any. sound_sought c.args.start.limits c.args.mounted.now c.args.generation c.in-Ok.way c.in-Ok-sought_of.sought c.requires.sound any c.in-Ok-sought_of.ensures)

pub returns-in-Err-sought_of : goal.returns-in-Err-sought_of
returns-in-Err-sought_of g c = refused_after g.D.Drive c.args.start c.in-Ok.ensures tt (λ held h way. tt)

pub returns-in-Err : goal.returns-in-Err
returns-in-Err g c = stops g.D.Drive c.args.start (omega arith) c.in-Err.ensures (λ held h free. free_blames held _ free)
