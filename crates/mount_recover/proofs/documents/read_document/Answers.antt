use Rattle.std.proofs.Common.{refl, ◌∙◌}
use Rattle.tape_drive.proofs.Looking.{one_look}
use Rattle.mount_recover.proofs.DocumentLemmas.{document_step, indexes_within}
use Rattle.mount_recover.proofs.documents.read_document.Goals as goal

pub locate-requires-clause-within : goal.locate-requires-clause-within
locate-requires-clause-within g c = indexes_within c.args.part c.args.place (g.D.Drive.held c.args.drive.now) c.requires.known

pub returns-in-Ok-read_blocks : goal.returns-in-Ok-read_blocks
returns-in-Ok-read_blocks g c =
    document_step g.D.Drive c.args.start c.args.drive.now c.locate.new.self c.read_blocks.new.drive c.args.part c.args.place _ c.in-Ok-read_blocks.same
    c.args.document.now.items c.read_blocks.new.document.items c.requires.since c.requires.place c.requires.known refl
    (one_look g.D.Drive g.D.Drive.MOST c.args.drive.now c.locate.new.self (g.met.D.Drive.counts_now c.args.drive.now)
    c.in-Ok.ensures.held c.in-Ok.ensures.command c.in-Ok.ensures.crash)
    c.in-Ok.ensures.command.cause.later c.in-Ok.ensures.head c.in-Ok-read_blocks.ensures.looks c.in-Ok-read_blocks.ensures.cause.later c.in-Ok-read_blocks.ensures.told
    (λ same. c.in-Ok-read_blocks.ensures.same same ∙ c.in_ok-reserve_exact.ensures.items)
