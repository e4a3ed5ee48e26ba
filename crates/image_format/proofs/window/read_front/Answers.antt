use Rattle.std.proofs.Common.{◌≡◌, ◌∙◌, ℕ, drop, length, take, ap}
use Rattle.std.proofs.lemmas.List.{length-take-le, take_at}
use Rattle.std.proofs.lemmas.Result.{on_ok_weaker}
use Rattle.byte_disk.specs.Files.{bytes_at, bytes_of}
use Rattle.image_slots.specs.State.{file_of}
use Rattle.image_format.proofs.window.read_front.Goals as goal

pub returns-clause-value : goal.returns-clause-value
returns-clause-value g c = λ d held.
    let size : length (take c.args.count c.args.bytes.now) ≡ c.args.count = length-take-le c.args.count c.args.bytes.now c.requires.count in
    on_ok_weaker c.read.result
    (λ (e : c.read.new.buf ≡ bytes_at c.args.at (length (take c.args.count c.args.bytes.now)) (bytes_of (file_of c.args.part) d)).
    take_at c.read.new.buf (drop c.args.count c.args.bytes.now) c.args.count (c.read.ensures.size ∙ size)
    ∙ e ∙ ap (λ (n : ℕ). bytes_at c.args.at n (bytes_of (file_of c.args.part) d)) size)
    (c.read.ensures.value d held)
