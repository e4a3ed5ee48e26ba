use Rattle.std.proofs.Common.{arith, rules, ◌≡◌, ◌≤◌, ◌<◌, ◌++◌, ◌∷◌, [], None, Bool, List, Option, length, sym, ap, subst, refl, ◌∙◌}
use Rattle.std.proofs.lemmas.List.{length-map}
use Rattle.session_script.specs.declared.logs.Reply.{Reply}
use Rattle.event_journal.specs.LetGo.{GoBetween, value_in, values}
use Rattle.event_journal.specs.Placements.{Listed}
use Rattle.event_journal.proofs.LetGoLemmas.{count_placed, kept_place}
use Rattle.event_journal.proofs.PlacementLemmas.{place_listed, place_marks}
use Rattle.event_journal.proofs.placements.Placements.place.Goals as goal
use Rattle.event_journal.proofs.placements.Placements.place.Goals.{After-push-3}

-- the replies with one more that isn't there yet
told_is : (c : After-push-3) → values c.push_none.new.replies.items ≡ values c.self.inside.replies.items ++ None ∷ []
told_is c = c.push_none.ensures.values ∙ ap (λ (l : List (Option Reply)). l ++ None ∷ []) c.let_go-self-inside.ensures.gone.values_are

-- what went, by what is kept of the places
go : (c : After-push-3)
    → GoBetween c.self.inside.handed.items c.self.inside.front c.let_go-self-inside.result c.self.inside.replies.items
    c.let_go-self-inside.new.replies.items
go c =
    subst
    (λ (l : List Bool). GoBetween l c.self.inside.front c.let_go-self-inside.result c.self.inside.replies.items
    c.let_go-self-inside.new.replies.items) c.as_slice-handed.ensures.value c.let_go-self-inside.ensures.gone

pub let_go-self-inside-requires : goal.let_go-self-inside-requires
let_go-self-inside-requires c = ap (λ (l : List Bool). length l) c.as_slice-handed.ensures.value ∙ c.self.invariant.1.each

pub push-requires-2 : goal.push-requires-2
push-requires-2 c =
    let few = subst (λ (l : Listed). length l.history < l.calls) (sym c.self.view_is) c.requires.room in
    omega (
      arith,
      few,
      c.self.invariant.0.each,
      c.self.invariant.1.each,
      c.self.invariant.1.room,
      length-map c.self.inside.replies.items value_in,
    )

pub invariant_of-self : goal.invariant_of-self
invariant_of-self c =
    let here : c.len-here.result ≡ length c.self.inside.history.items = search rules in
    let marks = place_marks c.self.inside.sessions _ c.self.inside.history.items _ _ _ _ _ _ _ c.self.invariant.0.right (told_is c) c.push-3.ensures.items
    refl refl in (
      place_listed _ _ _ _ _ _ _ _ _ _ _ _ _ _ _ c.args.placed c.self.invariant.0
          (subst (λ (l : Listed). length l.history < l.calls) (sym c.self.view_is) c.requires.room) c.requires.low
          (subst (λ (l : Listed). c.args.placed.who ≤ l.sessions) (sym c.self.view_is) c.requires.high)
          c.push.ensures.items (told_is c) c.push-3.ensures.items here
          c.push.ensures.capacity (omega (arith, c.push_none.ensures.capacity, c.let_go-self-inside.ensures.capacity)) (omega (arith, c.push-3.ensures.len, c.push-3.ensures.capacity)),
      kept_place _ _ _ _ _ _ _ _ _ _ _ _ _ _ c.self.invariant.1 (go c) c.push_none.ensures.here
          (count_placed _ _ _ c.let_go-self-inside.ensures.gone.values_are c.push_none.ensures.len) c.push-2.ensures.items c.push-2.ensures.capacity marks,
    )

pub returns-clause-marks : goal.returns-clause-marks
returns-clause-marks c =
    let here : c.len-here.result ≡ length c.self.inside.history.items = search rules in
    place_marks c.self.inside.sessions _ c.self.inside.history.items _ _ _ _ _ _ _ c.self.invariant.0.right (told_is c) c.push-3.ensures.items
    (ap (λ (l : Listed). l.marks) c.self.view_is) (here ∙ ap (λ (l : Listed). length l.history) c.self.view_is)
