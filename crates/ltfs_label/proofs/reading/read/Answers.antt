use Rattle.std.proofs.Common.{rules, ◌≡◌, length, IsUtf8, subst, ◌∙◌}
use Rattle.ltfs_documents.proofs.DocElements.Whole.{readable_all}
use Rattle.ltfs_label.specs.Reading.{Reads}
use Rattle.ltfs_label.specs.Values.{label_of}
use Rattle.ltfs_label.proofs.Places.{halts_told}
use Rattle.ltfs_label.proofs.Texts.{read_spelled, refused_is}
use Rattle.ltfs_label.proofs.reading.read.Goals as goal

pub told-requires : goal.told-requires
told-requires c = halts_told c.readable-front.result.now c.in-Err.fault c.in-Err.ensures.refused

pub returns-in-Err-clause-refused : goal.returns-in-Err-clause-refused
returns-in-Err-clause-refused c = refused_is c.args.text.now c.readable-front.result.now c.in-Err.fault c.told.result c.readable-front.ensures.front c.told.ensures c.in-Err.ensures.refused

pub returns-clause-found : goal.returns-clause-found
returns-clause-found c =
    let text = c.args.text.now in
    let v = label_of c.in-Ok.label in
    let len : length c.readable-front.result.now ≡ length text = search rules in
    let valid : IsUtf8 text = c.readable-front.ensures.valid len in
    read_spelled text v valid (subst (λ t. Reads t v) (c.readable-front.ensures.front ∙ readable_all text valid) c.in-Ok.ensures.found)
