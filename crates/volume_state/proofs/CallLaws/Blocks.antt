-- Which blocks of a read were met once one more was read.
use Rattle.std.specs.Prelude.{◌≡◌, ◌==◌, ◌||◌, not, ℕ, Bool, true, false, List, [], ◌∷◌, filter, map, if◌then◌else◌}
use Rattle.std.specs.List.{list_any}
use Rattle.std.proofs.Common.{refl, sym, ap, subst, ◌∙◌}
use Rattle.std.proofs.lemmas.Bool.{and_parts, both_ways, false_from_ne_true}
use Rattle.tape_types.specs.declared.cartridges.Place.{Place}
use Rattle.tape_types.proofs.Places.{same_itself, same_places}
use Rattle.extent_map.specs.Replies.{Places, with_place}
use Rattle.head_queue.specs.Waiting.{Waiting, request}
use Rattle.head_queue.specs.EventLaws.Trail.{asks}
use Rattle.head_queue.specs.EventLaws.Waiting.{Request, same_place}
use Rattle.promises.proofs.OrderLaws.Lists.{any_filter_same}
use Rattle.promises.proofs.OrderLaws.Turning.{any_weaker}
use Rattle.volume_state.specs.StateLaws.Tied.{is_of}
use Rattle.volume_state.proofs.CallLaws.Misses.{all_gone}

-- which requests are left of a read
abbrev pub left_for : ℕ → Place → List Request → List Request
left_for ticket place rs = filter (λ (r : Request). not (asks ticket place r)) rs

abbrev met_in : List Request → ℕ → Places
met_in rs ticket place = not (list_any (asks ticket place) rs)

met_there : (rs : List Request) (ticket : ℕ) (place q : Place) → place ≡ q
    → met_in (left_for ticket place rs) ticket q ≡ true
met_there rs ticket place q same = ap not (subst (λ p. list_any (asks ticket p) (left_for ticket place rs) ≡ false) same (all_gone (asks ticket place) rs))

met_else : (rs : List Request) (ticket : ℕ) (place q : Place) → same_place place q ≡ false
    → met_in (left_for ticket place rs) ticket q ≡ met_in rs ticket q
met_else rs ticket place q other = ap not (any_filter_same (asks ticket q) (λ (r : Request). not (asks ticket place r)) rs passes)
  where
    passes : (r : Request) → asks ticket q r ≡ true → not (asks ticket place r) ≡ true
    passes r at = ap not (false_from_ne_true (asks ticket place r) (λ both.
        let here = same_places r.place place (and_parts (r.ticket == ticket) (same_place r.place place) both).1 in
        let there = same_places r.place q (and_parts (r.ticket == ticket) (same_place r.place q) at).1 in
        both_ways (same_place place q) other (subst (λ p. same_place place p ≡ true) (sym here ∙ there) (same_itself place))))

-- that block, and those that were met before
met_at : (rs : List Request) (ticket : ℕ) (place q : Place) (b : Bool) → same_place place q ≡ b
    → with_place (met_in rs ticket) place q ≡ met_in (left_for ticket place rs) ticket q
met_at rs ticket place q true is =
    ap (λ b. if b then true else met_in rs ticket q) is ∙ sym (met_there rs ticket place q (same_places place q is))
met_at rs ticket place q false is =
    ap (λ b. if b then true else met_in rs ticket q) is ∙ sym (met_else rs ticket place q is)

-- the blocks that a read has met are those before and the one that was just read
pub met_now : (rs : List Request) (ticket : ℕ) (place : Place)
    → with_place (met_in rs ticket) place ≡ met_in (left_for ticket place rs) ticket
met_now rs ticket place = λ i q. (met_at rs ticket place q (same_place place q) refl) i

-- where nothing is asked for a read any more, all its blocks were met
pub all_met : (rs : List Request) (ticket : ℕ) (q : Place) → list_any (is_of ticket) rs ≡ false
    → met_in rs ticket q ≡ true
all_met rs ticket q gone = ap not (false_from_ne_true (list_any (asks ticket q) rs) (λ some.
    both_ways (list_any (is_of ticket) rs) gone (any_weaker (asks ticket q) (is_of ticket) rs (λ r h. (and_parts (r.ticket == ticket) (same_place r.place q) h).0) some)))

-- who owns a request of the queue
pub owned_alike : (ticket : ℕ) (ws : List Waiting)
    → list_any (is_of ticket) (map request ws) ≡ list_any (λ (w : Waiting). w.owner == ticket) ws
owned_alike ticket [] = refl
owned_alike ticket (w ∷ ws) = ap (λ b. (w.owner == ticket) || b) (owned_alike ticket ws)
