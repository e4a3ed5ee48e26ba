use Rattle.std.proofs.Common.{ap, sym, subst, ◌∙◌}
use Rattle.plain_tree.specs.declared.calls.Call.{Call}
use Rattle.plain_tree.specs.declared.calls.Call.TheVariants as asks
use Rattle.volume_core.specs.VolumeSteps.Asking.{IsSubmitted}
use Rattle.volume_core.specs.VolumeSteps.Seen.{seen_parts}
use Rattle.volume_core.proofs.submitting.make.Goals as goal

pub returns-in-Read-clause-submits : goal.returns-in-Read-clause-submits
returns-in-Read-clause-submits g c =
    subst (λ (call : Call). IsSubmitted g.D.Drive c.args.asked.who c.args.asked.nth c.args.asked.at (seen_parts c.args.parts.now) (seen_parts c.read_bytes.new.self) call c.read_bytes.result)
    (ap (λ p. asks.Read p c.in-Read.offset c.in-Read.count) c.as_slice.ensures ∙ sym c.in-Read.is) c.read_bytes.ensures.submits

pub returns-in-Listing-clause-submits : goal.returns-in-Listing-clause-submits
returns-in-Listing-clause-submits g c =
    subst (λ (call : Call). IsSubmitted g.D.Drive c.args.asked.who c.args.asked.nth c.args.asked.at (seen_parts c.args.parts.now) (seen_parts c.list.new.self) call c.list.result)
    (ap asks.Listing c.as_slice-in-Listing.ensures ∙ sym c.in-Listing.is) c.list.ensures.submits

pub returns-in-Stat-clause-submits : goal.returns-in-Stat-clause-submits
returns-in-Stat-clause-submits g c =
    subst (λ (call : Call). IsSubmitted g.D.Drive c.args.asked.who c.args.asked.nth c.args.asked.at (seen_parts c.args.parts.now) (seen_parts c.stat.new.self) call c.stat.result)
    (ap asks.Stat c.as_slice-in-Stat.ensures ∙ sym c.in-Stat.is) c.stat.ensures.submits

pub returns-in-Mkdir-clause-submits : goal.returns-in-Mkdir-clause-submits
returns-in-Mkdir-clause-submits g c =
    subst (λ (call : Call). IsSubmitted g.D.Drive c.args.asked.who c.args.asked.nth c.args.asked.at (seen_parts c.args.parts.now) (seen_parts c.change.new.self) call c.change.result)
    (ap asks.Mkdir c.as_slice-in-Mkdir.ensures ∙ sym c.in-Mkdir.is) c.change.ensures.submits

pub returns-in-Create-clause-submits : goal.returns-in-Create-clause-submits
returns-in-Create-clause-submits g c =
    subst (λ (call : Call). IsSubmitted g.D.Drive c.args.asked.who c.args.asked.nth c.args.asked.at (seen_parts c.args.parts.now) (seen_parts c.change-in-Create.new.self) call c.change-in-Create.result)
    (ap asks.Create c.as_slice-in-Create.ensures ∙ sym c.in-Create.is) c.change-in-Create.ensures.submits

pub returns-in-Truncate-clause-submits : goal.returns-in-Truncate-clause-submits
returns-in-Truncate-clause-submits g c =
    subst (λ (call : Call). IsSubmitted g.D.Drive c.args.asked.who c.args.asked.nth c.args.asked.at (seen_parts c.args.parts.now) (seen_parts c.change-in-Truncate.new.self) call c.change-in-Truncate.result)
    (ap (λ p. asks.Truncate p c.in-Truncate.length) c.as_slice-in-Truncate.ensures ∙ sym c.in-Truncate.is) c.change-in-Truncate.ensures.submits

pub returns-in-Remove-clause-submits : goal.returns-in-Remove-clause-submits
returns-in-Remove-clause-submits g c =
    subst (λ (call : Call). IsSubmitted g.D.Drive c.args.asked.who c.args.asked.nth c.args.asked.at (seen_parts c.args.parts.now) (seen_parts c.change-in-Remove.new.self) call c.change-in-Remove.result)
    (ap asks.Remove c.as_slice-in-Remove.ensures ∙ sym c.in-Remove.is) c.change-in-Remove.ensures.submits

pub returns-in-Sync-clause-submits : goal.returns-in-Sync-clause-submits
returns-in-Sync-clause-submits g c =
    subst (λ (call : Call). IsSubmitted g.D.Drive c.args.asked.who c.args.asked.nth c.args.asked.at (seen_parts c.args.parts.now) (seen_parts c.sync.new.self) call c.sync.result)
    (sym c.in-Sync.is) c.sync.ensures.submits

pub returns-in-Write-clause-submits : goal.returns-in-Write-clause-submits
returns-in-Write-clause-submits g c =
    subst (λ (call : Call). IsSubmitted g.D.Drive c.args.asked.who c.args.asked.nth c.args.asked.at (seen_parts c.args.parts.now) (seen_parts c.change-in-Write.new.self) call c.change-in-Write.result)
    (ap (λ p. asks.Write p c.in-Write.offset c.as_slice-bytes.result.now) c.as_slice-in-Write.ensures ∙ ap (λ b. asks.Write c.in-Write.path c.in-Write.offset b) c.as_slice-bytes.ensures ∙ sym c.in-Write.is)
    c.change-in-Write.ensures.submits

pub returns-in-Rename-clause-submits : goal.returns-in-Rename-clause-submits
returns-in-Rename-clause-submits g c =
    subst (λ (call : Call). IsSubmitted g.D.Drive c.args.asked.who c.args.asked.nth c.args.asked.at (seen_parts c.args.parts.now) (seen_parts c.change-in-Rename.new.self) call c.change-in-Rename.result)
    (ap (λ p. asks.Rename p c.as_slice-in-Rename-2.result.now) c.as_slice-in-Rename.ensures ∙ ap (asks.Rename c.in-Rename.from) c.as_slice-in-Rename-2.ensures ∙ sym c.in-Rename.is)
    c.change-in-Rename.ensures.submits

pub returns-in-Getx-clause-submits : goal.returns-in-Getx-clause-submits
returns-in-Getx-clause-submits g c =
    subst (λ (call : Call). IsSubmitted g.D.Drive c.args.asked.who c.args.asked.nth c.args.asked.at (seen_parts c.args.parts.now) (seen_parts c.get_key.new.self) call c.get_key.result)
    (ap (λ p. asks.Getx p c.in-Getx.key) c.as_slice-in-Getx.ensures ∙ sym c.in-Getx.is) c.get_key.ensures.submits

pub returns-in-Setx-clause-submits : goal.returns-in-Setx-clause-submits
returns-in-Setx-clause-submits g c =
    subst (λ (call : Call). IsSubmitted g.D.Drive c.args.asked.who c.args.asked.nth c.args.asked.at (seen_parts c.args.parts.now) (seen_parts c.change-in-Setx.new.self) call c.change-in-Setx.result)
    (ap (λ p. asks.Setx p c.in-Setx.key c.in-Setx.bytes) c.as_slice-in-Setx.ensures ∙ sym c.in-Setx.is) c.change-in-Setx.ensures.submits

pub returns-in-Dropx-clause-submits : goal.returns-in-Dropx-clause-submits
returns-in-Dropx-clause-submits g c =
    subst (λ (call : Call). IsSubmitted g.D.Drive c.args.asked.who c.args.asked.nth c.args.asked.at (seen_parts c.args.parts.now) (seen_parts c.change-in-Dropx.new.self) call c.change-in-Dropx.result)
    (ap (λ p. asks.Dropx p c.in-Dropx.key) c.as_slice-in-Dropx.ensures ∙ sym c.in-Dropx.is) c.change-in-Dropx.ensures.submits

pub returns-in-Readonly-clause-submits : goal.returns-in-Readonly-clause-submits
returns-in-Readonly-clause-submits g c =
    subst (λ (call : Call). IsSubmitted g.D.Drive c.args.asked.who c.args.asked.nth c.args.asked.at (seen_parts c.args.parts.now) (seen_parts c.change-in-Readonly.new.self) call c.change-in-Readonly.result)
    (ap (λ p. asks.Readonly p c.in-Readonly.on) c.as_slice-in-Readonly.ensures ∙ sym c.in-Readonly.is) c.change-in-Readonly.ensures.submits

pub returns-in-LockVolume-clause-submits : goal.returns-in-LockVolume-clause-submits
returns-in-LockVolume-clause-submits g c =
    subst (λ (call : Call). IsSubmitted g.D.Drive c.args.asked.who c.args.asked.nth c.args.asked.at (seen_parts c.args.parts.now) (seen_parts c.change-in-LockVolume.new.self) call c.change-in-LockVolume.result)
    (sym c.in-LockVolume.is) c.change-in-LockVolume.ensures.submits

pub returns-in-UnlockVolume-clause-submits : goal.returns-in-UnlockVolume-clause-submits
returns-in-UnlockVolume-clause-submits g c =
    subst (λ (call : Call). IsSubmitted g.D.Drive c.args.asked.who c.args.asked.nth c.args.asked.at (seen_parts c.args.parts.now) (seen_parts c.change-in-UnlockVolume.new.self) call c.change-in-UnlockVolume.result)
    (sym c.in-UnlockVolume.is) c.change-in-UnlockVolume.ensures.submits

pub returns-in-PermLock-clause-submits : goal.returns-in-PermLock-clause-submits
returns-in-PermLock-clause-submits g c =
    subst (λ (call : Call). IsSubmitted g.D.Drive c.args.asked.who c.args.asked.nth c.args.asked.at (seen_parts c.args.parts.now) (seen_parts c.change-in-PermLock.new.self) call c.change-in-PermLock.result)
    (sym c.in-PermLock.is) c.change-in-PermLock.ensures.submits
