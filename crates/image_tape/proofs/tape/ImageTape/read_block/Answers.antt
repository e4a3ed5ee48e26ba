use Rattle.std.proofs.Common.{rules, ◌≡◌, ◌∙◌, ℕ, length, ap}
use Rattle.std.proofs.lemmas.List.{take_at}
use Rattle.byte_disk.specs.Files.{bytes_at, bytes_of}
use Rattle.image_slots.specs.State.{file_of}
use Rattle.image_tape.proofs.tape.ImageTape.read_block.Goals as goal

pub returns-in-Ok-clause-value : goal.returns-in-Ok-clause-value
returns-in-Ok-clause-value g c = λ d held.
    let filled : length c.fetch.new.buf ≡ c.resize.new.self.len = search rules in
    let size : length c.as_mut_slice.result.now ≡ c.args.size = search rules in
    take_at c.fetch.new.buf _ _ filled ∙ c.in-Ok.ensures.value d held ∙ ap (λ (n : ℕ). bytes_at c.args.from n (bytes_of (file_of c.args.part) d)) size
