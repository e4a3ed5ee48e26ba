-- A verb and the words behind it.
use Rattle.std.proofs.Common.{◌≡◌, ℕ, ◌<◌, ◌≤◌, Bool, true, false, cond, List, ◌∷◌, length, sym, ap, ◌∙◌, refl, subst, arith, eqb, ne_eqb, Some, Ok, Err, Bor}
use Rattle.std.specs.Prelude.{Result}
use Rattle.std.specs.List.{list_any, slice_split}
use Rattle.std.proofs.lemmas.List.Splits.{length-slice_split}
use Rattle.session_script.specs.declared.drafts.Draft.{Draft}
use Rattle.session_script.specs.declared.faults.LineFault.{LineFault}
use Rattle.session_script.specs.declared.scripts.ScriptWhy.TheVariants as reasons
use Rattle.session_script.specs.declared.words.Arguments.{Arguments}
use Rattle.session_script.specs.declared.words.Verb.{Verb}
use Rattle.session_script.specs.declared.words.Verb.TheVariants as verbs
use Rattle.session_script.specs.Forms.{forms_of, call_for}
use Rattle.session_script.specs.Words.{is_empty}
use Rattle.session_script.specs.Grammar.{read_forms, call_by, call_with}
use Rattle.session_script.specs.Readings.{call_given, pieces_left, IsDrafted}

either_way : {A : Type 0} (b : Bool) (x : A) → x ≡ cond b x x
either_way true x = refl
either_way false x = refl

-- no verb takes more than three words
few_forms : (verb : Verb) → length (forms_of verb) ≤ 3
few_forms verbs.Mkdir = omega arith
few_forms _ = omega arith

other_count : (verb : Verb) (words : List (List ℕ)) → 3 < length words → Err reasons.Words ≡ call_by verb words
other_count verb words many =
    sym (ap (λ b. cond b (read_forms (forms_of verb) words (λ values. Ok (call_for verb values))) (Err reasons.Words)) (ne_eqb (length words) (length (forms_of verb)) (λ same. omega (arith, many, same, few_forms verb))))

four_words : (verb : Verb) (a b c : List ℕ) (words : List (List ℕ)) → 0 < length words → Err reasons.Words ≡ call_with verb (a ∷ b ∷ c ∷ words)
four_words verb a b c words some =
    either_way (list_any is_empty (a ∷ b ∷ c ∷ words)) (Err reasons.Words)
    ∙ ap (cond (list_any is_empty (a ∷ b ∷ c ∷ words)) (Err reasons.Words)) (other_count verb (a ∷ b ∷ c ∷ words) (omega (arith, some)))

-- a verb with more than three words behind it is refused for its words
pub too_many : (verb : Verb) (words : List (List ℕ)) (a b c : List ℕ) (left : Bor (List ℕ)) → words ≡ a ∷ b ∷ c ∷ pieces_left 32 (Some left) → Err reasons.Words ≡ call_with verb words
too_many verb words a b c left are =
    four_words verb a b c (slice_split (λ x. eqb x 32) left.now) (omega (arith, length-slice_split (λ x. eqb x 32) left.now))
    ∙ ap (call_with verb) (sym are)

-- what is drafted of a verb and its words is drafted of what these are
pub drafted : (r : Result Draft LineFault) {verb v : Verb} {words w : Arguments} → verb ≡ v → words ≡ w → IsDrafted r (call_given v w) → IsDrafted r (call_given verb words)
drafted r {verb = verb} {w = w} named are h =
    subst (λ x. IsDrafted r (call_given verb x)) (sym are) (subst (λ x. IsDrafted r (call_given x w)) (sym named) h)
