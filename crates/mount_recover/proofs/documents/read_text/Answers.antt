use Rattle.std.proofs.Common.{subst, sym}
use Rattle.cartridge_meaning.specs.declared.errors.MountErr.{MountErr}
use Rattle.mount_recover.specs.Lasts.{IsBadText}
use Rattle.mount_recover.proofs.DocumentLemmas.{bad_text}
use Rattle.mount_recover.proofs.documents.read_text.Goals as goal

pub returns-in-Err-clause-refused : goal.returns-in-Err-clause-refused
returns-in-Err-clause-refused c =
    subst (λ (e : MountErr). IsBadText c.args.document.now c.args.label.now.uuid c.args.place e) (sym c.told.ensures)
    (bad_text c.args.document.now c.args.label.now.uuid c.args.place c.in-Err.fault c.in-Err.ensures.refused)
