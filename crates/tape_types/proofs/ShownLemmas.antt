-- The date and the time of day that a text shows.
use Rattle.std.proofs.Common.{◌≡◌, ℕ, zero, suc, ◌+◌, ◌-◌, ◌*◌, ◌/◌, ◌%◌, ◌^◌, ◌<◌, List, [], ◌∷◌, ◌++◌, Bool, true, false, cond, ◌&&◌, Option, Some, None, refl, sym, ap, ◌∙◌, arith}
use Rattle.std.specs.Str.{bytes_eq}
use Rattle.std.proofs.Math.Nat.{pow-suc}
use Rattle.std.proofs.lemmas.Slice.Eq.{bytes_eq-Decides}
use Rattle.std.specs.Option.{is_some, IfSome, option_map}
use Rattle.tape_types.specs.declared.moments.Moment.{Moment}
use Rattle.tape_types.specs.declared.times.Civil.{Civil}
use Rattle.tape_types.specs.TimeParts.{HasPlaces}
use Rattle.tape_types.specs.Times.{digits, civil_text, civil_in, number_from, numbers_in, is_civil, civil_of, IsCivil}
use Rattle.tape_types.proofs.CivilLemmas.{civil_of_only}
use Rattle.tape_types.proofs.TextLemmas.{parts_of, same_civil}

from-snoc : (n : ℕ) (bytes : List ℕ) (b : ℕ) → number_from n (bytes ++ b ∷ []) ≡ number_from n bytes * 10 + (b - 48)
from-snoc n [] b = refl
from-snoc n (a ∷ bytes) b = from-snoc (n * 10 + (a - 48)) bytes b

from-digits : (width n : ℕ) → n < 10 ^ width → number_from 0 (digits width n) ≡ n
from-digits zero n low = omega arith
from-digits (suc width) n low =
    let more = pow-suc 10 width in
    let front : number_from 0 (digits width (n / 10)) ≡ n / 10 = from-digits width (n / 10) (omega arith) in
    from-snoc 0 (digits width (n / 10)) (48 + n % 10) ∙ omega (arith, front)

numbers-shown : (text : List ℕ) (c : Civil) → text ≡ civil_text c → HasPlaces c → numbers_in text ≡ c
numbers-shown text c e places =
    let h = parts_of text c e in
    same_civil (numbers_in text) c
    (ap (number_from 0) h.year ∙ from-digits 4 c.year (omega (arith, places.year)))
    (ap (number_from 0) h.month ∙ from-digits 2 c.month (omega (arith, places.month)))
    (ap (number_from 0) h.day ∙ from-digits 2 c.day (omega (arith, places.day)))
    (ap (number_from 0) h.hour ∙ from-digits 2 c.hour (omega (arith, places.hour)))
    (ap (number_from 0) h.minute ∙ from-digits 2 c.minute (omega (arith, places.minute)))
    (ap (number_from 0) h.second ∙ from-digits 2 c.second (omega (arith, places.second)))
    (ap (number_from 0) h.nanos ∙ from-digits 9 c.nanos (omega (arith, places.nanos)))

same_text : (text : List ℕ) (c : Civil) → text ≡ civil_text c → bytes_eq text (civil_text c) ≡ true
same_text text c e = (bytes_eq-Decides text (civil_text c)).1 e

-- a text that shows a date and time gives them if they are real ones, and else nothing
pub civil_in-shown : (text : List ℕ) (c : Civil) (b : Bool) → text ≡ civil_text c → HasPlaces c → is_civil c ≡ b → civil_in text ≡ cond b (Some c) None
unfolding civil_in
civil_in-shown text c b e places is =
    ap (λ (d : Civil). cond (bytes_eq text (civil_text d) && is_civil d) (Some d) None) (numbers-shown text c e places)
    ∙ ap (λ (v : Bool). cond (v && is_civil c) (Some c) None) (same_text text c e)
    ∙ ap (λ (v : Bool). cond v (Some c) None) is

-- a text that shows no date and time of day gives none
pub civil_in-none : (text : List ℕ) → ((c : Civil) → text ≡ civil_text c → ⊥) → civil_in text ≡ None
unfolding civil_in
civil_in-none text none =
    let either : (b : Bool) → bytes_eq text (civil_text (numbers_in text)) ≡ b → cond (b && is_civil (numbers_in text)) (Some (numbers_in text)) None ≡ None
    = λ b. elim b as (λ b. bytes_eq text (civil_text (numbers_in text)) ≡ b → cond (b && is_civil (numbers_in text)) (Some (numbers_in text)) None ≡ None) [
      | true ↦ λ e. absurd (none (numbers_in text) ((bytes_eq-Decides text (civil_text (numbers_in text))).0 e))
      | false ↦ λ e. refl
    ] in
    either (bytes_eq text (civil_text (numbers_in text))) refl

-- what a call that looks for a moment answers, as an answer for the text
pub civil-found : (text : List ℕ) (c : Civil) (found : Option Moment) → text ≡ civil_text c → HasPlaces c → IfSome found (λ m. IsCivil m c) → is_some found ≡ is_civil c → civil_in text ≡ option_map civil_of found
civil-found text c None e places some is = civil_in-shown text c false e places (sym is)
civil-found text c (Some m) e places some is = civil_in-shown text c true e places (sym is) ∙ ap Some (sym (civil_of_only m c some))
