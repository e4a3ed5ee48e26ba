use Rattle.std.proofs.Common.{rules, ◌≡◌, ◌∙◌, arith, subst, sym}
use Rattle.tape_types.specs.declared.cartridges.Item.TheVariants as item
use Rattle.tape_types.specs.declared.cartridges.Place.{Place}
use Rattle.tape_drive.specs.Crashes.{LeavesAllowed, WithinWrite}
use Rattle.head_core.proofs.Runs.{allowed_then, put_crashes}
use Rattle.head_core.proofs.transfers.write_at.Goals as goal

pub returns-in-Ok-write : goal.returns-in-Ok-write
returns-in-Ok-write g c = record {
  ends = tt;
  made = search rules;
  told = λ h is. c.in-Ok-write.ensures.told c.args.place h c.in-Ok.ensures.head (c.in-Ok.ensures.held ∙ is);
  crash = put_crashes g.D.Drive c.args.place (item.Block c.args.bytes.now) _ _ _ c.in-Ok.ensures.held c.in-Ok.ensures.head
      c.in-Ok.ensures.command.count.later c.in-Ok.ensures.crash c.in-Ok-write.ensures.crash;
  one_command = λ write short. absurd (omega (arith, short, c.in-Ok.ensures.command.count.at_least, c.in-Ok-write.ensures.command.count.at_least));
}

pub returns-in-Err-write : goal.returns-in-Err-write
returns-in-Err-write g c = record {
  ends = tt;
  made = search rules;
  told = λ h is. c.in-Err-write.ensures.told c.args.place h c.in-Ok.ensures.head (c.in-Ok.ensures.held ∙ is);
  crash = put_crashes g.D.Drive c.args.place (item.Block c.args.bytes.now) _ _ _ c.in-Ok.ensures.held c.in-Ok.ensures.head
      c.in-Ok.ensures.command.count.later c.in-Ok.ensures.crash c.in-Err-write.ensures.crash;
  one_command = λ write short. absurd (omega (arith, short, c.in-Ok.ensures.command.count.at_least, c.in-Err-write.ensures.command.count.at_least));
}

pub write-requires-clause-allowed : goal.write-requires-clause-allowed
write-requires-clause-allowed g c at h is held =
    let same : c.args.place ≡ at = let e = c.in-Ok.ensures.head in cc in
    subst (λ (p : Place). LeavesAllowed (WithinWrite p.part p.pos (item.Block c.args.bytes.now) h) (g.D.Drive.leaves c.locate.new.self)
    g.D.Drive.allows) same (allowed_then _ _ _ _ _ _ _ c.in-Ok.ensures.crash (c.requires.may h (sym c.in-Ok.ensures.held ∙ held)))
