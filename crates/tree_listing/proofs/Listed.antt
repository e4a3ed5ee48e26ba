-- Lines that are put together, and what of them is written.
use Rattle.std.proofs.Common.{◌≡◌, ℕ, zero, suc, ◌+◌, ◌≤◌, min, List, [], ◌∷◌, ◌++◌, length, take, Option, Some, None, inl, inr, sym, ap, ◌∙◌, refl, subst, arith, append_assoc}
use Rattle.std.specs.List.{concat}
use Rattle.std.specs.Io.KnownBytes.{Appends}
use Rattle.std.proofs.Math.Seq.{take-append-add, take-append_seam}
use Rattle.std.proofs.lemmas.List.{take-append-le}
use Rattle.std.proofs.lemmas.List.Folds.{concat-append}
use Rattle.tape_edge.specs.Streams.{AppendsFront}
use Rattle.tree_listing.specs.Steps.{AreListed, GoesOn, IsPassedOn, IsStopped, StopsIn}
use Rattle.tree_listing.specs.declared.errors.ListErr.{ListErr}
use Rattle.tree_listing.specs.declared.errors.ListErr.TheVariants as errors

pub whole_list : {X : Type 0} (l : List X) → l ++ [] ≡ l
whole_list [] = refl
whole_list (b ∷ l) = ap (λ k. b ∷ k) (whole_list l)

-- ---- what a sink holds

-- what two writes one behind the other append is both texts
pub appends_more : (a b c : Option (List ℕ)) (x y : List ℕ) → Appends a b x → Appends b c y → Appends a c (x ++ y)
appends_more None b c x y p q = tt
appends_more (Some k) None c x y p q = absurd p
appends_more (Some k) (Some l) None x y p q = absurd q
appends_more (Some k) (Some l) (Some m) x y p q = q ∙ ap (λ l. l ++ y) p ∙ append_assoc k x y

pub appends_none : (a : Option (List ℕ)) → Appends a a []
appends_none None = tt
appends_none (Some k) = sym (whole_list k)

none_taken : {X : Type 0} (k : ℕ) → take {A = X} k [] ≡ []
none_taken zero = refl
none_taken (suc k) = refl

cut : {X : Type 0} (l : List X) (n : ℕ) → take (min n (length l)) l ≡ take n l
cut {X} [] n = none_taken (min n (length {A = X} [])) ∙ sym (none_taken n)
cut (b ∷ l) zero = ap (λ k. take k (b ∷ l)) none
  where
    none : min zero (length (b ∷ l)) ≡ zero
    none = omega arith
cut (b ∷ l) (suc n) = ap (λ k. take k (b ∷ l)) step ∙ ap (λ k. b ∷ k) (cut l n)
  where
    step : min (suc n) (length (b ∷ l)) ≡ suc (min n (length l))
    step = omega arith

-- a front of a list is one of a longer one
front_longer : {X : Type 0} (l rest : List X) (n : ℕ) → take (min n (length l)) (l ++ rest) ≡ take n l
front_longer l rest n = take-append-le (min n (length l)) l rest (omega arith) ∙ cut l n

-- a front of the part in the middle ends a front of the whole
pub front_of : (a held rest : List ℕ) (n : ℕ) → (count : ℕ) × (take count ((a ++ held) ++ rest) ≡ a ++ take n held)
front_of a held rest n = (
  length a + min n (length held),
  ap (take (length a + min n (length held))) (append_assoc a held rest) ∙ take-append-add a (held ++ rest) (min n (length held))
      ∙ ap (λ l. a ++ l) (front_longer held rest n),
)

pub front_written : (old mid new : Option (List ℕ)) (a held rest text : List ℕ) → text ≡ (a ++ held) ++ rest → Appends old mid a → AppendsFront mid new held → AppendsFront old new text
front_written old mid new a held rest text is begun more =
    let front = front_of a held rest more.0 in
    (front.0, subst (Appends old new) (sym (ap (take front.0) is ∙ front.1)) (appends_more old mid new a (take more.0 held) begun more.1))

-- ---- line by line

-- the text of all lines is what was written, and what is held
pub listed_text : (lines : List (List ℕ)) (start now : Option (List ℕ)) (held : List ℕ) (listed : AreListed lines start now held)
    → concat lines ≡ concat listed.passed ++ held
listed_text lines start now held listed =
    ap concat listed.all ∙ concat-append listed.passed listed.left ∙ ap (λ l. concat listed.passed ++ l) (sym listed.holds)

pub none_listed : (start : Option (List ℕ)) (held : List ℕ) → held ≡ [] → AreListed [] start start held
none_listed start held empty = record { passed = []; left = []; all = refl; written = appends_none start; holds = empty }

-- nothing more
pub goes_nowhere : (now : Option (List ℕ)) (held : List ℕ) → GoesOn [] now now held held
goes_nowhere now held = λ start lines listed. subst (λ l. AreListed l start now held) (sym (whole_list lines)) listed

-- one line more
pub line_put : (line held left : List ℕ) (now : Option (List ℕ)) → left ≡ held ++ line → GoesOn (line ∷ []) now now held left
line_put line held left now is = λ start lines listed. record {
  passed = listed.passed;
  left = listed.left ++ line ∷ [];
  all = ap (λ l. l ++ line ∷ []) listed.all ∙ append_assoc listed.passed listed.left (line ∷ []);
  written = listed.written;
  holds = is ∙ ap (λ l. l ++ line) listed.holds
      ∙ ap (λ l. concat listed.left ++ l) (sym (whole_list line)) ∙ sym (concat-append listed.left (line ∷ []));
}

-- lines, and then others
pub goes_further : (one other : List (List ℕ)) (old mid new : Option (List ℕ)) (held between left : List ℕ)
    → GoesOn one old mid held between → GoesOn other mid new between left → GoesOn (one ++ other) old new held left
goes_further one other old mid new held between left first then_on = λ start lines listed.
    subst (λ l. AreListed l start new left) (append_assoc lines one other) (then_on start (lines ++ one) (first start lines listed))

-- what is held is passed on, or kept
pub passed_on : (more : List (List ℕ)) (old now new : Option (List ℕ)) (held between left : List ℕ)
    → GoesOn more old now held between → IsPassedOn now new between left → GoesOn more old new held left
passed_on more old now new held between left goes on = λ start lines listed. by start (lines ++ more) on (goes start lines listed)
  where
    by : (start : Option (List ℕ)) (lines : List (List ℕ)) → IsPassedOn now new between left → AreListed lines start now between → AreListed lines start new left
    by start lines (inl (same, kept)) listed = record {
      passed = listed.passed;
      left = listed.left;
      all = listed.all;
      written = subst (λ k. Appends start k (concat listed.passed)) (sym same) listed.written;
      holds = kept ∙ listed.holds;
    }
    by start lines (inr (more, none)) listed = record {
      passed = lines;
      left = [];
      all = sym (whole_list lines);
      written = subst (Appends start new) (sym (listed_text lines start now between listed)) (appends_more start now new (concat listed.passed) between listed.written more);
      holds = none;
    }

-- ---- lines that stop

-- where lines stop, longer ones do
pub stops_longer : (e : ListErr) (lines rest : List (List ℕ)) (old new : Option (List ℕ)) → IsStopped e lines old new → IsStopped e (lines ++ rest) old new
stops_longer errors.Sink lines rest old new front = (
  min front.0 (length (concat lines)),
  subst (Appends old new) (sym (ap (take (min front.0 (length (concat lines)))) (concat-append lines rest) ∙ front_longer (concat lines) (concat rest) front.0)) front.1,
)
stops_longer errors.NoMemory lines rest old new front =
    (min front.0 (length lines), subst (λ l. Appends old new (concat l)) (sym (front_longer lines rest front.0)) front.1)

-- the first of the lines stop, and so do all
pub stops_before : (e : ListErr) (one other : List (List ℕ)) (old new : Option (List ℕ)) (held : List ℕ) → StopsIn e one old new held → StopsIn e (one ++ other) old new held
stops_before e one other old new held stops = λ start lines listed.
    subst (λ l. IsStopped e l start new) (append_assoc lines one other) (stops_longer e (lines ++ one) other start new (stops start lines listed))

-- the others stop behind the first
pub stops_further : (e : ListErr) (one other : List (List ℕ)) (old mid new : Option (List ℕ)) (held between : List ℕ)
    → GoesOn one old mid held between → StopsIn e other mid new between → StopsIn e (one ++ other) old new held
stops_further e one other old mid new held between goes stops = λ start lines listed.
    subst (λ l. IsStopped e l start new) (append_assoc lines one other) (stops start (lines ++ one) (goes start lines listed))

-- where memory is refused, what was written are whole lines
pub refused : (more : List (List ℕ)) (now : Option (List ℕ)) (held : List ℕ) → StopsIn errors.NoMemory more now now held
refused more now held = λ start lines listed.
    let taken : take (length listed.passed) (lines ++ more) ≡ listed.passed =
    ap (take (length listed.passed)) (ap (λ l. l ++ more) listed.all ∙ append_assoc listed.passed listed.left more) ∙ take-append_seam listed.passed (listed.left ++ more) in
    (length listed.passed, subst (λ l. Appends start now (concat l)) (sym taken) listed.written)

-- where a write of what is held fails, what was written is a front of it
pub failed : (more : List (List ℕ)) (old now new : Option (List ℕ)) (held between : List ℕ)
    → GoesOn more old now held between → AppendsFront now new between → StopsIn errors.Sink more old new held
failed more old now new held between goes front = λ start lines listed.
    let all = goes start lines listed in
    front_written start now new (concat all.passed) between [] (concat (lines ++ more))
    (listed_text (lines ++ more) start now between all ∙ sym (whole_list (concat all.passed ++ between))) all.written front
