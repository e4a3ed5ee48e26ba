use Rattle.std.proofs.Common.{◌++◌, take, ap, ◌∙◌}
use Rattle.std.specs.List.{flat_map}
use Rattle.session_script.specs.LogText.{hex_byte}
use Rattle.session_script.proofs.Fillings.{first_and_rest}
use Rattle.session_script.proofs.tails.put_hex.Goals as goal

pub returns-clause-same : goal.returns-clause-same
returns-clause-same c =
    let count = c.min-count.result in
    first_and_rest hex_byte c.args.bytes.now count c.put_hex.new.self
    (c.put_hex.ensures ∙ ap (λ l. l ++ flat_map hex_byte (take count c.args.bytes.now)) c.requires)
