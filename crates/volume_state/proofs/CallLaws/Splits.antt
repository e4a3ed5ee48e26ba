-- One of a list, and the others.
use Rattle.std.specs.Prelude.{◌≡◌, ◌==◌, ◌||◌, ℕ, Bool, true, false, List, [], ◌∷◌, ◌++◌, All, Contains}
use Rattle.std.specs.List.{list_any}
use Rattle.std.proofs.Common.{⊎_elim, refl, sym, ap, ◌∙◌}
use Rattle.std.proofs.lemmas.Bool.{both_ways, eq-eqb, eqb-true, ne_eqb, or_left, or_right}
use Rattle.std.proofs.lemmas.List.Elements.{All-head, All-tail}
use Rattle.waiting_reads.specs.Gathering.{Gathering}
use Rattle.waiting_reads.specs.Waiting.{has_ticket}
use Rattle.volume_state.specs.StateLaws.Stepping.{IsOneRead}
use Rattle.promises.proofs.ReplyLaws.Lists.{in_cases, in_none}

-- what holds of each holds of one
pub all_mid : {X : Type 0} (P : X → Type 0) (front : List X) (x : X) (behind : List X) → All P (front ++ x ∷ behind)
    → P x
all_mid P [] x behind all = All-head P x behind all
all_mid P (y ∷ front) x behind all = all_mid P front x behind (All-tail P y (front ++ x ∷ behind) all)

-- a test that one passes finds it
pub any_mid : {X : Type 0} (test : X → Bool) (front : List X) (x : X) (behind : List X) → test x ≡ true
    → list_any test (front ++ x ∷ behind) ≡ true
any_mid test [] x behind is = or_left (test x) (list_any test behind) is
any_mid test (y ∷ front) x behind is = or_right (test y) (list_any test (front ++ x ∷ behind)) (any_mid test front x behind is)

-- where one of a list passes a test, some of it does
pub any_in : {X : Type 0} (test : X → Bool) (xs : List X) (x : X) → Contains xs x → test x ≡ true
    → list_any test xs ≡ true
any_in test [] x has is = absurd (in_none x has)
any_in test (y ∷ xs) x has is = ⊎_elim (λ same. or_left (test y) (list_any test xs) (ap test same ∙ is))
    (λ later. or_right (test y) (list_any test xs) (any_in test xs x later is)) (in_cases y xs x has)

-- the first read with a ticket
pub first_read : (ticket : ℕ) (reads : List Gathering) → has_ticket ticket reads ≡ true → IsOneRead reads ticket
first_read ticket [] has = absurd (cc)
first_read ticket (r ∷ reads) has = by (r.ticket == ticket) refl has (λ h. first_read ticket reads h)
  where
    by : (b : Bool) → (r.ticket == ticket) ≡ b → (b || has_ticket ticket reads) ≡ true
        → (has_ticket ticket reads ≡ true → IsOneRead reads ticket) → IsOneRead (r ∷ reads) ticket
    by true is has more = record {
      front = [];
      one = r;
      behind = reads;
      stands = record { parts = refl; ticket_is = eqb-true r.ticket ticket is; others = refl };
    }
    by false is has more =
        let later = more has in
        record {
          front = r ∷ later.front;
          one = later.one;
          behind = later.behind;
          stands = record {
            parts = ap (λ l. r ∷ l) later.stands.parts;
            ticket_is = later.stands.ticket_is;
            others = ap (λ b. b || has_ticket ticket later.front) is ∙ later.stands.others;
          };
        }

-- ---- tests

-- two numbers differ either way
pub flip : (a b : ℕ) → (a == b) ≡ false → (b == a) ≡ false
flip a b other = ne_eqb b a (λ same. both_ways (a == b) other (eq-eqb a b (sym same)))
