-- What a session knows of the marks as it enters: its own are those that its pass has seen.
use Rattle.std.specs.Prelude.{◌≡◌, ◌==◌, ℕ, cond, List, [], ◌∷◌, ◌++◌, All, filter_map, fold, map, nat_lt}
use Rattle.std.proofs.Common.{refl, sym, ap, subst, ◌∙◌, arith}
use Rattle.std.proofs.lemmas.Bool.{eq-eqb}
use Rattle.std.proofs.lemmas.Bool.Decides.{nat_tests}
use Rattle.std.proofs.lemmas.List.Elements.{All-cons, All-nil, filter_agree, filter_map-append}
use Rattle.std.proofs.lemmas.List.Sums.{fold-append}
use Rattle.turn_lock.specs.Histories.{AddsOwn, own_entries}
use Rattle.turn_lock.specs.Sums.{times}
use Rattle.turn_lock.proofs.Callers.{adds_more}
use Rattle.promises.specs.ServingPromise.Marks.{after, hand_in, hands_of, idle, kinds_of, mark, phase, place_in, places_of}
use Rattle.promises.specs.declared.serving_promise.marks.MarkKind.{MarkKind}
use Rattle.promises.specs.declared.serving_promise.marks.Mark.{Mark}
use Rattle.promises.proofs.OrderLaws.Marked.{kinds_more as marks_more}

-- ---- entries of one's only number

is_of : (k who : ℕ) → (k == who) ≡ nat_lt 0 (times k (who ∷ []))
is_of k who = grind (arith, nat_tests)

own_kinds : (who : ℕ) (marks : List Mark)
    → kinds_of who marks ≡ map (λ m. m.kind) (own_entries (λ m. m.who) (who ∷ []) marks)
own_kinds who marks = ap (map (λ (m : Mark). m.kind))
    (filter_agree (λ (m : Mark). m.who == who) (λ (m : Mark). nat_lt 0 (times m.who (who ∷ []))) (λ m. is_of m.who who) marks)

-- the session's marks are the same, where its pass knows of no other entries
pub same_kinds : (who : ℕ) (numbers : List ℕ) (before whole : List Mark) → numbers ≡ who ∷ []
    → own_entries (λ (m : Mark). m.who) numbers whole ≡ own_entries (λ (m : Mark). m.who) numbers before
    → kinds_of who whole ≡ kinds_of who before
same_kinds who numbers before whole own same = own_kinds who whole
    ∙ ap (map (λ (m : Mark). m.kind)) (subst (λ (ns : List ℕ). own_entries (λ (m : Mark). m.who) ns whole ≡ own_entries (λ (m : Mark). m.who) ns before) own same)
    ∙ sym (own_kinds who before)

-- ---- marks that a session adds

-- the marks of a session grow by those of its own call
pub kinds_more : (who : ℕ) (old new : List Mark) (kinds : List MarkKind) → new ≡ old ++ map (mark who) kinds
    → kinds_of who new ≡ kinds_of who old ++ kinds
kinds_more who old new kinds more =
    ap (kinds_of who) more
    ∙ marks_more who who old kinds
    ∙ ap (λ b. kinds_of who old ++ cond b kinds []) (eq-eqb who who refl)

all_own : (who : ℕ) (kinds : List MarkKind) → All (λ (m : Mark). m.who ≡ who) (map (mark who) kinds)
all_own who [] = All-nil (λ (m : Mark). m.who ≡ who)
all_own who (kind ∷ kinds) = All-cons (λ (m : Mark). m.who ≡ who) (mark who kind) (map (mark who) kinds) refl (all_own who kinds)

-- the marks that are added to the list are the session's own
pub own_more : (who : ℕ) (numbers : List ℕ) (old new : List Mark) (kinds : List MarkKind) → numbers ≡ who ∷ []
    → new ≡ old ++ map (mark who) kinds → AddsOwn (λ (m : Mark). m.who) numbers old new
own_more who numbers old new kinds own more = adds_more (λ (m : Mark). m.who) who numbers old new (map (mark who) kinds) own more (all_own who kinds)

-- ---- what kinds say

-- the phase of a session goes on by the marks of its call
pub phase_then : (who : ℕ) (old new : List Mark) (kinds : List MarkKind) → kinds_of who new ≡ kinds_of who old ++ kinds
    → phase who new ≡ fold after (phase who old) kinds
phase_then who old new kinds more = ap (fold after idle) more ∙ fold-append after idle (kinds_of who old) kinds

-- the places of a session go on by those in its marks
pub places_then : (who : ℕ) (old new : List Mark) (kinds : List MarkKind) → kinds_of who new ≡ kinds_of who old ++ kinds
    → places_of who new ≡ places_of who old ++ filter_map place_in kinds
places_then who old new kinds more = ap (filter_map place_in) more ∙ filter_map-append place_in (kinds_of who old) kinds

-- the replies that were handed to a session go on by those in its marks
pub hands_then : (who : ℕ) (old new : List Mark) (kinds : List MarkKind) → kinds_of who new ≡ kinds_of who old ++ kinds
    → hands_of who new ≡ hands_of who old ++ filter_map hand_in kinds
hands_then who old new kinds more = ap (filter_map hand_in) more ∙ filter_map-append hand_in (kinds_of who old) kinds
