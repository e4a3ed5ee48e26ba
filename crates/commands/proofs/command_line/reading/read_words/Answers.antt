use Rattle.std.proofs.Common.{rules, arith, codes, sym, ◌∙◌}
use Rattle.std.proofs.lemmas.Slice.Eq.{bytes_eq-Decides}
use Rattle.commands.proofs.CommandLine.FormLemmas.{behind, behind_folder, format_spelled, generations_spelled, label_spelled, list_spelled, make_spelled, plain_spelled, serve_spelled, view_spelled}
use Rattle.commands.proofs.command_line.reading.read_words.Goals as goal

pub returns-then-eq : goal.returns-then-eq
returns-then-eq c =
    let name = sym c.as_str-name.ensures.value ∙ (bytes_eq-Decides c.as_str-name.result.now (codes "plain")).0 (sym c.eq.ensures ∙ c.if-eq.true) in
    plain_spelled c.args.words.now _ _
    (behind c.args.words.now _ _ (search rules) c.index-words-0.is name) c.read_plain.ensures

pub returns-then-eq-2 : goal.returns-then-eq-2
returns-then-eq-2 c =
    let name = sym c.as_str-name.ensures.value ∙ (bytes_eq-Decides c.as_str-name.result.now (codes "label")).0 (sym c.eq-2.ensures ∙ c.if-eq-2.true) in
    let found = behind_folder c.args.words.now _ _ (omega (arith, c.if-words-lt2.false)) c.index-words-0.is name in
    label_spelled c.args.words.now found.0 _ _ found.1 c.read_bare.ensures

pub returns-then-eq-3 : goal.returns-then-eq-3
returns-then-eq-3 c =
    let name = sym c.as_str-name.ensures.value ∙ (bytes_eq-Decides c.as_str-name.result.now (codes "list")).0 (sym c.eq-3.ensures ∙ c.if-eq-3.true) in
    let found = behind_folder c.args.words.now _ _ (omega (arith, c.if-words-lt2.false)) c.index-words-0.is name in
    list_spelled c.args.words.now found.0 _ _ found.1 c.read_list.ensures

pub returns-then-eq-4 : goal.returns-then-eq-4
returns-then-eq-4 c =
    let name = sym c.as_str-name.ensures.value ∙ (bytes_eq-Decides c.as_str-name.result.now (codes "format")).0 (sym c.eq-4.ensures ∙ c.if-eq-4.true) in
    let found = behind_folder c.args.words.now _ _ (omega (arith, c.if-words-lt2.false)) c.index-words-0.is name in
    format_spelled c.args.words.now found.0 _ _ found.1 c.read_format.ensures

pub returns-then-eq-5 : goal.returns-then-eq-5
returns-then-eq-5 c =
    let name = sym c.as_str-name.ensures.value ∙ (bytes_eq-Decides c.as_str-name.result.now (codes "serve")).0 (sym c.eq-5.ensures ∙ c.if-eq-5.true) in
    let found = behind_folder c.args.words.now _ _ (omega (arith, c.if-words-lt2.false)) c.index-words-0.is name in
    serve_spelled c.args.words.now found.0 _ _ found.1 c.read_serve.ensures

pub returns-then-eq-6 : goal.returns-then-eq-6
returns-then-eq-6 c =
    let name = sym c.as_str-name.ensures.value ∙ (bytes_eq-Decides c.as_str-name.result.now (codes "make")).0 (sym c.eq-6.ensures ∙ c.if-eq-6.true) in
    let found = behind_folder c.args.words.now _ _ (omega (arith, c.if-words-lt2.false)) c.index-words-0.is name in
    make_spelled c.args.words.now found.0 _ _ found.1 c.read_make.ensures

pub returns-then-eq-7 : goal.returns-then-eq-7
returns-then-eq-7 c =
    let name = sym c.as_str-name.ensures.value ∙ (bytes_eq-Decides c.as_str-name.result.now (codes "generations")).0 (sym c.eq-7.ensures ∙ c.if-eq-7.true) in
    let found = behind_folder c.args.words.now _ _ (omega (arith, c.if-words-lt2.false)) c.index-words-0.is name in
    generations_spelled c.args.words.now found.0 _ _ found.1 c.read_bare-then-eq-7.ensures

pub returns-then-eq-8 : goal.returns-then-eq-8
returns-then-eq-8 c =
    let name = sym c.as_str-name.ensures.value ∙ (bytes_eq-Decides c.as_str-name.result.now (codes "view")).0 (sym c.eq-8.ensures ∙ c.if-eq-8.true) in
    let found = behind_folder c.args.words.now _ _ (omega (arith, c.if-words-lt2.false)) c.index-words-0.is name in
    view_spelled c.args.words.now found.0 _ _ found.1 c.read_viewed.ensures
