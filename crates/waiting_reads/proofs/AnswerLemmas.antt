-- Where an answer is kept, and what is left when it is handed out.
use Rattle.std.proofs.Common.{◌≡◌, ℕ, zero, suc, ◌+◌, ◌<◌, ◌==◌, false, cond, not, List, [], ◌∷◌, ◌++◌, length, take, drop, get_or, Option, Some, None, sym, ap, ◌∙◌, arith}
use Rattle.std.specs.Prelude.{IfSome, slice_get}
use Rattle.std.proofs.lemmas.Bool.{eq-eqb}
use Rattle.std.proofs.Math.Seq.{drop-length}
use Rattle.plain_tree.specs.declared.calls.Answer.{Answer}
use Rattle.waiting_reads.specs.Waiting.{IsAnswerAt, answer_for, for_others}

-- one for another ticket is passed
pub passes : (ticket k : ℕ) (answered : List (ℕ × Answer)) (d : ℕ × Answer) → k < length answered
    → ((get_or answered k d).0 == ticket) ≡ false → answer_for ticket (drop k answered) ≡ answer_for ticket (drop (suc k) answered)
passes ticket k [] d lt other = absurd (omega (arith, lt))
passes ticket zero (x ∷ xs) d lt other = ap (λ b. cond b (Some x.1) (answer_for ticket xs)) other
passes ticket (suc k) (x ∷ xs) d lt other = passes ticket k xs d (omega (arith, lt)) other

first_here : (ticket : ℕ) (x : ℕ × Answer) (xs : List (ℕ × Answer)) → x.0 ≡ ticket → answer_for ticket (x ∷ xs) ≡ Some x.1
first_here ticket x xs is = ap (λ b. cond b (Some x.1) (answer_for ticket xs)) (eq-eqb x.0 ticket is)

met : (ticket k : ℕ) (xs : List (ℕ × Answer)) (d : ℕ × Answer) (first : Option Answer) → k < length xs → (get_or xs k d).0 ≡ ticket
    → first ≡ answer_for ticket (drop k xs) → IfSome (slice_get xs k) (λ kept. (kept.0 ≡ ticket) × (first ≡ Some kept.1))
met ticket k [] d first lt is same = absurd (omega (arith, lt))
met ticket zero (x ∷ xs) d first lt is same = (is, same ∙ first_here ticket x xs is)
met ticket (suc k) (x ∷ xs) d first lt is same = met ticket k xs d first (omega (arith, lt)) is same

-- where the first entry for a ticket stands, its answer is
pub found_at : (ticket k : ℕ) (answered : List (ℕ × Answer)) (d : ℕ × Answer) → k < length answered → (get_or answered k d).0 ≡ ticket
    → answer_for ticket answered ≡ answer_for ticket (drop k answered) → IsAnswerAt ticket k answered
found_at ticket k answered d lt is same = met ticket k answered d (answer_for ticket answered) lt is same

-- where the search passes all answers, none is kept for the ticket
pub none_left : (ticket : ℕ) (answered : List (ℕ × Answer)) → answer_for ticket answered ≡ answer_for ticket (drop (length answered) answered)
    → answer_for ticket answered ≡ None
none_left ticket answered same = same ∙ ap (answer_for ticket) (drop-length answered)

-- what stands at the place is taken out
at_place : (k : ℕ) (xs : List (ℕ × Answer)) (d : ℕ × Answer) (P : ℕ × Answer → Type 0) → k < length xs → IfSome (slice_get xs k) P → P (get_or xs k d)
at_place k [] d P lt is = absurd (omega (arith, lt))
at_place zero (x ∷ xs) d P lt is = is
at_place (suc k) (x ∷ xs) d P lt is = at_place k xs d P (omega (arith, lt)) is

-- the answer that is taken is the first for its ticket
pub taken_first : (ticket k : ℕ) (answered : List (ℕ × Answer)) (one : ℕ × Answer) → k < length answered → IsAnswerAt ticket k answered
    → one ≡ get_or answered k one → Some one.1 ≡ answer_for ticket answered
taken_first ticket k answered one lt is taken =
    let here = at_place k answered one (λ kept. (kept.0 ≡ ticket) × (answer_for ticket answered ≡ Some kept.1)) lt is in
    ap (λ (kept : ℕ × Answer). Some kept.1) taken ∙ sym here.1

passed_over : (ticket : ℕ) (x : ℕ × Answer) (xs : List (ℕ × Answer)) → x.0 ≡ ticket → for_others ticket xs ≡ for_others ticket (x ∷ xs)
passed_over ticket x xs is = sym (ap (λ b. cond (not b) (x ∷ for_others ticket xs) (for_others ticket xs)) (eq-eqb x.0 ticket is))

without : (ticket k : ℕ) (xs : List (ℕ × Answer)) (d : ℕ × Answer) → k < length xs → (get_or xs k d).0 ≡ ticket
    → for_others ticket (take k xs ++ drop (suc k) xs) ≡ for_others ticket xs
without ticket k [] d lt is = absurd (omega (arith, lt))
without ticket zero (x ∷ xs) d lt is = passed_over ticket x xs is
without ticket (suc k) (x ∷ xs) d lt is =
    ap (λ rest. cond (not (x.0 == ticket)) (x ∷ rest) rest) (without ticket k xs d (omega (arith, lt)) is)

-- without the first answer for a ticket, those for other tickets stay
pub others_stay : (ticket k : ℕ) (answered left : List (ℕ × Answer)) (one : ℕ × Answer) → k < length answered → IsAnswerAt ticket k answered
    → left ≡ take k answered ++ drop (k + 1) answered → for_others ticket left ≡ for_others ticket answered
others_stay ticket k answered left one lt is left_is =
    let here = at_place k answered one (λ kept. (kept.0 ≡ ticket) × (answer_for ticket answered ≡ Some kept.1)) lt is in
    let more : k + 1 ≡ suc k = omega arith in
    ap (for_others ticket) (left_is ∙ ap (λ n. take k answered ++ drop n answered) more) ∙ without ticket k answered one lt here.0
