use Rattle.std.proofs.Common.{◌-◌, ◌∙◌, ap, arith, drop, length, rules, subst, sym}
use Rattle.std.proofs.lemmas.List.{drop_all, length-drop, length-take-le}
use Rattle.byte_disk.specs.Files.{bytes_of}
use Rattle.disk_layers.specs.Ahead.{IsIn, Span}
use Rattle.disk_layers.proofs.Piecing.{read_on}
use Rattle.disk_layers.proofs.piece.Piece.read.Goals as goal

pub returns-in-Ok-clause-value : goal.returns-in-Ok-clause-value
returns-in-Ok-clause-value g c = λ d is.
    let had = c.take-had.result in
    let front = c.take-had.new.buf in
    read_on c.read_rest.result c.take-had.result _ (length c.args.buf.now) c.args.at c.saturating_add-rest.result c.take-had.new.buf c.read_rest.new.buf _ (bytes_of c.args.file d)
    c.take-had.ensures.most
    (drop_all (length front - had) (drop had front) (omega (arith, length-drop had front)))
    (c.take-had.ensures.value (bytes_of c.args.file d) (subst (λ (s : Span). IsIn s (bytes_of c.args.file d)) (sym c.self.view_is) (c.requires.right d is)))
    (length-take-le (length front - had) (drop had front) (omega (arith, length-drop had front)) ∙ ap (λ n. n - had) c.take-had.ensures.size)
    (search rules)
    (c.read_rest.ensures.value d (c.length.ensures.held ∙ is))
