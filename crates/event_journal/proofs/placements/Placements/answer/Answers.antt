use Rattle.std.proofs.Common.{arith, ◌≡◌, ◌<◌, Some, None, length, slice_get, refl, sym, ap, subst}
use Rattle.std.proofs.lemmas.List.{length-map}
use Rattle.std.proofs.lemmas.Option.{slice_get_within}
use Rattle.event_journal.specs.LetGo.{value_in, values}
use Rattle.event_journal.specs.Placements.{Listed}
use Rattle.event_journal.proofs.LetGoLemmas.{kept_answer}
use Rattle.event_journal.proofs.PlacementLemmas.{answer_listed, answer_marks}
use Rattle.event_journal.proofs.placements.Placements.answer.Goals as goal

pub put-requires : goal.put-requires
put-requires c =
    let within : c.args.place < length (values c.self.inside.replies.items) = slice_get_within (values c.self.inside.replies.items) c.args.place None
    (subst (λ (l : Listed). slice_get l.replies c.args.place ≡ Some None) (sym c.self.view_is) c.requires) in
    omega (arith, within, length-map c.self.inside.replies.items value_in)

pub invariant_of-self : goal.invariant_of-self
invariant_of-self c =
    let none = subst (λ (l : Listed). slice_get l.replies c.args.place ≡ Some None) (sym c.self.view_is) c.requires in (
      answer_listed _ _ _ _ _ _ _ _ _ _ c.args.place c.args.reply c.self.invariant.0 none c.put.ensures.values c.put.ensures.capacity,
      kept_answer _ _ _ _ _ _ _ _ c.self.invariant.1 c.put.ensures.len c.put.ensures.here
          (answer_marks c.self.inside.sessions c.args.place _ _ _ _ c.args.reply c.self.invariant.0.right none c.put.ensures.values refl),
    )

pub returns-clause-marks : goal.returns-clause-marks
returns-clause-marks c =
    answer_marks c.self.inside.sessions c.args.place _ _ _ _ c.args.reply c.self.invariant.0.right
    (subst (λ (l : Listed). slice_get l.replies c.args.place ≡ Some None) (sym c.self.view_is) c.requires)
    c.put.ensures.values (ap (λ (l : Listed). l.marks) c.self.view_is)
