-- A call that is placed with its reply.
use Rattle.std.specs.Prelude.{ℕ, ◌≡◌, ◌==◌, Bool, true, false, List, [], ◌∷◌, ◌++◌, filter, fold, map, length, Option, Some, None, slice_get, slice_set}
use Rattle.std.proofs.Common.{refl, sym, ap, ◌∙◌, append_assoc}
use Rattle.std.proofs.lemmas.Bool.{eq-eqb}
use Rattle.std.proofs.lemmas.List.{map-append}
use Rattle.std.proofs.lemmas.List.Elements.{filter-append}
use Rattle.std.proofs.lemmas.List.Sums.{fold-append}
use Rattle.plain_tree.specs.declared.calls.Fate.{Fate}
use Rattle.plain_tree.specs.declared.calls.Placed.{Placed}
use Rattle.session_script.specs.declared.logs.Reply.{Reply}
use Rattle.tape_types.specs.declared.moments.Moment.{Moment}
use Rattle.promises.specs.declared.serving_promise.marks.MarkKind.{MarkKind}
use Rattle.promises.specs.declared.serving_promise.marks.Mark.{Mark}
use Rattle.promises.specs.declared.serving_promise.marks.MarkKind.TheVariants as kinds
use Rattle.promises.specs.ServingPromise.Marks.{idle, waits, after, kinds_of, mark, phase, placed_and_handed}
use Rattle.event_journal.specs.Placements.{Listed, or_none, there}
use Rattle.volume_state.specs.StateLaws.Parts.{Parts}
use Rattle.volume_state.specs.StateLaws.Placing.{PlacesCall}
use Rattle.volume_core.specs.VolumeSteps.Asking.{Awaits}
use Rattle.promises.specs.declared.serving_promise.answers.Submitted.{Submitted}
use Rattle.promises.specs.declared.serving_promise.answers.Submitted.TheVariants as submitted
use Rattle.plain_tree.specs.declared.calls.Fate.TheVariants as fates

-- the place behind the last one
seam : {X : Type 0} (xs : List X) (x : X) (at : ℕ) → length xs ≡ at → slice_get (xs ++ x ∷ []) at ≡ Some x
seam [] x at is = ap (slice_get (x ∷ [])) (sym is)
seam (y ∷ xs) x at is = ap (slice_get (y ∷ xs ++ x ∷ [])) (sym is) ∙ seam xs x (length xs) refl

set_seam : {X : Type 0} (xs : List X) (x y : X) (at : ℕ) → length xs ≡ at → slice_set (xs ++ x ∷ []) at y ≡ xs ++ y ∷ []
set_seam [] x y at is = ap (λ k. slice_set (x ∷ []) k y) (sym is)
set_seam (z ∷ xs) x y at is =
    ap (λ k. slice_set (z ∷ xs ++ x ∷ []) k y) (sym is) ∙ ap (λ (zs : List _). z ∷ zs) (set_seam xs x y (length xs) refl)

-- a session's mark takes it to its next phase
kind_alone : (who : ℕ) (m : Mark) (b : Bool) → (m.who == who) ≡ b → b ≡ true → kinds_of who (m ∷ []) ≡ m.kind ∷ []
kind_alone who m true is so = rw is refl
kind_alone who m false is so = cc

phase_here : (who : ℕ) (marks : List Mark) (kind : MarkKind) → phase who (marks ++ mark who kind ∷ []) ≡ after (phase who marks) kind
phase_here who marks kind =
    ap (λ (ks : List MarkKind). fold after idle ks)
    (ap (λ (ms : List Mark). map (λ (x : Mark). x.kind) ms) (filter-append (λ (x : Mark). x.who == who) marks (mark who kind ∷ []))
    ∙ map-append (λ (x : Mark). x.kind) (filter (λ (x : Mark). x.who == who) marks) (filter (λ (x : Mark). x.who == who) (mark who kind ∷ [])))
    ∙ fold-append after idle (kinds_of who marks) (kinds_of who (mark who kind ∷ []))
    ∙ ap (λ (ks : List MarkKind). fold after (phase who marks) ks) (kind_alone who (mark who kind) (who == who) refl (eq-eqb who who refl))

-- ---- a call is placed, its reply is kept, and is handed out

-- a call that was just placed has no reply yet
pub none_yet : (old mid : Listed) (here : ℕ) → length old.replies ≡ length old.history → here ≡ length old.history
    → mid.replies ≡ old.replies ++ None ∷ [] → slice_get mid.replies here ≡ Some None
none_yet old mid here each here_is is =
    ap (λ (rs : List (Option Reply)). slice_get rs here) is ∙ seam old.replies None here (each ∙ sym here_is)

told_all : (old mid now : Listed) (here : ℕ) (reply : Reply) → length old.replies ≡ length old.history → here ≡ length old.history
    → mid.replies ≡ old.replies ++ None ∷ [] → now.replies ≡ slice_set mid.replies here (Some reply)
    → now.replies ≡ old.replies ++ Some reply ∷ []
told_all old mid now here reply each here_is is set =
    set ∙ ap (λ (rs : List (Option Reply)). slice_set rs here (Some reply)) is
    ∙ set_seam old.replies None (Some reply) here (each ∙ sym here_is)

-- the reply that was given to a call stands at its place
pub there_now : (old mid now : Listed) (here : ℕ) (reply : Reply) → length old.replies ≡ length old.history → here ≡ length old.history
    → mid.replies ≡ old.replies ++ None ∷ [] → now.replies ≡ slice_set mid.replies here (Some reply)
    → slice_get now.replies here ≡ Some (Some reply)
there_now old mid now here reply each here_is is set =
    ap (λ (rs : List (Option Reply)). slice_get rs here) (told_all old mid now here reply each here_is is set)
    ∙ seam old.replies (Some reply) here (each ∙ sym here_is)

-- a session whose call was just placed waits for it
pub waits_here : (who here : ℕ) (old mid now : Listed) → here ≡ length old.history → phase who old.marks ≡ idle
    → mid.marks ≡ old.marks ++ mark who (kinds.Places (length old.history)) ∷ [] → now.marks ≡ mid.marks
    → phase who now.marks ≡ waits here
waits_here who here old mid now here_is free is same =
    ap (phase who) (same ∙ is) ∙ phase_here who old.marks (kinds.Places (length old.history))
    ∙ ap (λ p. after p (kinds.Places (length old.history))) free ∙ ap waits (sym here_is)

both_marks : (who here : ℕ) (old mid now new : Listed) (reply : Reply) → here ≡ length old.history
    → mid.marks ≡ old.marks ++ mark who (kinds.Places (length old.history)) ∷ [] → now.marks ≡ mid.marks
    → slice_get now.replies here ≡ Some (Some reply)
    → new.marks ≡ now.marks ++ mark who (kinds.Hands here (or_none (there (slice_get now.replies here)))) ∷ []
    → new.marks ≡ old.marks ++ placed_and_handed who (length old.history) reply
both_marks who here old mid now new reply here_is placed same is handed =
    handed
    ∙ ap (λ (r : Option (Option Reply)). now.marks ++ mark who (kinds.Hands here (or_none (there r))) ∷ []) is
    ∙ ap (λ k. now.marks ++ mark who (kinds.Hands k reply) ∷ []) here_is
    ∙ ap (λ (ms : List Mark). ms ++ mark who (kinds.Hands (length old.history) reply) ∷ []) (same ∙ placed)
    ∙ append_assoc old.marks (mark who (kinds.Places (length old.history)) ∷ []) (mark who (kinds.Hands (length old.history) reply) ∷ [])

-- a call that was placed and got its reply is placed with its reply
pub places : {D : Type 0} (who nth here : ℕ) (at : Moment) (fate : Fate) (reply : Reply) (mid now : Listed) (old new : Parts D)
    → length old.listed.replies ≡ length old.listed.history → here ≡ length old.listed.history
    → mid.history ≡ old.listed.history ++ record { who = who; nth = nth; at = at; fate = fate } ∷ []
    → mid.replies ≡ old.listed.replies ++ None ∷ []
    → mid.marks ≡ old.listed.marks ++ mark who (kinds.Places (length old.listed.history)) ∷ []
    → mid.calls ≡ old.listed.calls → mid.sessions ≡ old.listed.sessions
    → now.history ≡ mid.history → now.replies ≡ slice_set mid.replies here (Some reply) → now.marks ≡ mid.marks
    → now.calls ≡ mid.calls → now.sessions ≡ mid.sessions
    → new.listed.history ≡ now.history → new.listed.replies ≡ now.replies
    → new.listed.marks ≡ now.marks ++ mark who (kinds.Hands here (or_none (there (slice_get now.replies here)))) ∷ []
    → new.listed.calls ≡ now.calls → new.listed.sessions ≡ now.sessions
    → PlacesCall who nth at fate (Some reply) old new
places who nth here at fate reply mid now old new each here_is h1 r1 m1 c1 s1 h2 r2 m2 c2 s2 h3 r3 m3 c3 s3 =
    let l = old.listed in
    record {
      history = h3 ∙ h2 ∙ h1;
      replies = r3 ∙ told_all l mid now here reply each here_is r1 r2;
      marks = both_marks who here l mid now new.listed reply here_is m1 m2 (there_now l mid now here reply each here_is r1 r2) m3;
      calls = c3 ∙ c2 ∙ c1;
      sessions = s3 ∙ s2 ∙ s1;
    }

-- a call that waits
pub awaits : {D : Type 0} (who nth here : ℕ) (at : Moment) (result : Submitted) (placed : Placed) (old new : Parts D)
    → result ≡ submitted.Wait here → here ≡ length old.listed.history
    → placed ≡ record { who = who; nth = nth; at = at; fate = fates.Done }
    → new.listed.history ≡ old.listed.history ++ placed ∷ [] → new.listed.replies ≡ old.listed.replies ++ None ∷ []
    → new.listed.marks ≡ old.listed.marks ++ mark placed.who (kinds.Places (length old.listed.history)) ∷ []
    → new.listed.calls ≡ old.listed.calls → new.listed.sessions ≡ old.listed.sessions
    → new ≡ record old { listed = new.listed } → Awaits who nth at result old new
awaits who nth here at result placed old new result_is here_is placed_is history replies marks calls sessions others = record {
  waits = result_is ∙ ap submitted.Wait here_is;
  places = record {
    history = history ∙ ap (λ (p : Placed). old.listed.history ++ p ∷ []) placed_is;
    replies = replies;
    marks = marks ∙ ap (λ (p : Placed). old.listed.marks ++ mark p.who (kinds.Places (length old.listed.history)) ∷ []) placed_is;
    calls = calls;
    sessions = sessions;
  };
  others = others;
}
