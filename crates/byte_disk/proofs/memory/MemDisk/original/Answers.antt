use Rattle.std.proofs.Common.{◌∙◌, List, ℕ, sym, subst}
use Rattle.std.specs.Prelude.{reverse}
use Rattle.byte_disk.specs.declared.record.DoneCommand.{DoneCommand}
use Rattle.byte_disk.specs.Files.{bytes_of}
use Rattle.byte_disk.specs.Record.{pending, AreKept}
use Rattle.byte_disk.proofs.Kept.{record_kept}
use Rattle.byte_disk.proofs.memory.MemDisk.original.Goals as goal

pub go_back-requires : goal.go_back-requires
go_back-requires c =
    let v = c.args.self.now in
    let file = c.args.file in
    subst (λ (l : List ℕ). AreKept l (pending file (reverse c.acts.result.now))) (sym (c.in_ok-bytes.ensures.items ∙ c.bytes.ensures))
    (subst (λ (es : List DoneCommand). AreKept (bytes_of file v.held) (pending file es)) (sym c.acts.ensures.value) (record_kept file v.held v.acts c.acts.ensures.sound.kept))
