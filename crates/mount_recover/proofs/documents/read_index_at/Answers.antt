use Rattle.std.proofs.Common.{◌≡◌, List, ℕ, subst, sym, arith}
use Rattle.tape_types.specs.Cartridges.{items_of}
use Rattle.cartridge_meaning.specs.Pointers.{text_of}
use Rattle.index_model.specs.Grammar.{IndexText}
use Rattle.index_read.proofs.ValidIndexes.{index_valid}
use Rattle.mount_recover.specs.Lasts.{IsTrueAt}
use Rattle.mount_recover.proofs.LastLemmas.{bad_counts, free_at, no_text_at, of_volume_at}
use Rattle.mount_recover.proofs.StepLemmas.{found_after, given_step, refused_after, stops}
use Rattle.mount_recover.proofs.documents.read_index_at.Goals as goal

pub returns-in_err-read_document : goal.returns-in_err-read_document
returns-in_err-read_document g c =
    given_step g.D.Drive c.args.start c.from_residual.ensures.1
    (stops g.D.Drive c.args.start (omega arith) c.in_err-read_document.ensures
    (λ held h free. free_at (items_of c.args.part held) c.args.place _ _ c.in_err-read_document.field-0.0 held free))

pub returns-in-Ok : goal.returns-in-Ok
returns-in-Ok g c =
    found_after g.D.Drive c.args.start c.in_ok-read_document.ensures
    (λ held h is. of_volume_at c.args.label.now (items_of c.args.part held) c.args.place c.as_slice.result.now c.in-Ok.index
    (subst (λ (t : List ℕ). IsTrueAt (items_of c.args.part held) c.args.place (λ k. t ≡ text_of k)) (sym c.as_slice.ensures.value) is)
    c.in-Ok.ensures.found.0 c.in-Ok.ensures.found.1)
    (λ unit. (
      record { valid = index_valid c.as_slice.result.now c.in-Ok.index c.in-Ok.ensures.found.0; uuid = c.in-Ok.ensures.found.1 },
      subst (λ (t : List ℕ). IndexText t c.in-Ok.index) c.as_slice.ensures.value c.in-Ok.ensures.found.0,
    ))

pub returns-in-Err : goal.returns-in-Err
returns-in-Err g c =
    refused_after g.D.Drive c.args.start c.in_ok-read_document.ensures
    (bad_counts c.as_slice.result.now _ _ c.in-Err.fault _ _ c.in-Err.ensures.refused)
    (λ held h is. no_text_at (items_of c.args.part held) c.args.place c.as_slice.result.now _ _ c.in-Err.fault
    (subst (λ (t : List ℕ). IsTrueAt (items_of c.args.part held) c.args.place (λ k. t ≡ text_of k)) (sym c.as_slice.ensures.value) is)
    c.in-Err.ensures.refused)
