use Rattle.std.proofs.Common.{rules, ◌≡◌, ◌∙◌, arith, subst, sym}
use Rattle.tape_types.specs.declared.cartridges.Item.TheVariants as item
use Rattle.tape_types.specs.declared.cartridges.Place.{Place}
use Rattle.tape_drive.specs.Crashes.{LeavesAllowed, WithinWrite}
use Rattle.head_core.proofs.Runs.{allowed_then, put_crashes}
use Rattle.head_core.proofs.transfers.mark_at.Goals as goal

pub returns-in-Ok-mark : goal.returns-in-Ok-mark
returns-in-Ok-mark g c = record {
  ends = tt;
  made = search rules;
  told = λ h is. c.in-Ok-mark.ensures.told c.args.place h c.in-Ok.ensures.head (c.in-Ok.ensures.held ∙ is);
  crash = put_crashes g.D.Drive c.args.place item.Mark _ _ _ c.in-Ok.ensures.held c.in-Ok.ensures.head
      c.in-Ok.ensures.command.count.later c.in-Ok.ensures.crash c.in-Ok-mark.ensures.crash;
  one_command = λ write short. absurd (omega (arith, short, c.in-Ok.ensures.command.count.at_least, c.in-Ok-mark.ensures.command.count.at_least));
}

pub returns-in-Err-mark : goal.returns-in-Err-mark
returns-in-Err-mark g c = record {
  ends = tt;
  made = search rules;
  told = λ h is. c.in-Err-mark.ensures.told c.args.place h c.in-Ok.ensures.head (c.in-Ok.ensures.held ∙ is);
  crash = put_crashes g.D.Drive c.args.place item.Mark _ _ _ c.in-Ok.ensures.held c.in-Ok.ensures.head
      c.in-Ok.ensures.command.count.later c.in-Ok.ensures.crash c.in-Err-mark.ensures.crash;
  one_command = λ write short. absurd (omega (arith, short, c.in-Ok.ensures.command.count.at_least, c.in-Err-mark.ensures.command.count.at_least));
}

pub mark-requires-clause-allowed : goal.mark-requires-clause-allowed
mark-requires-clause-allowed g c at h is held =
    let same : c.args.place ≡ at = let e = c.in-Ok.ensures.head in cc in
    subst (λ (p : Place). LeavesAllowed (WithinWrite p.part p.pos (item.Mark) h) (g.D.Drive.leaves c.locate.new.self)
    g.D.Drive.allows) same (allowed_then _ _ _ _ _ _ _ c.in-Ok.ensures.crash (c.requires.may h (sym c.in-Ok.ensures.held ∙ held)))
