-- Where a read stands among those that wait.
use Rattle.std.proofs.Common.{◌≡◌, ℕ, zero, suc, ◌+◌, ◌<◌, false, List, [], ◌∷◌, ◌++◌, length, take, drop, get_or, set, sym, ap, ◌∙◌, subst, arith}
use Rattle.std.specs.Prelude.{IfSome, slice_get}
use Rattle.std.proofs.lemmas.List.{drop_more, set_split, take-append-drop}
use Rattle.tape_types.specs.declared.cartridges.Place.{Place}
use Rattle.waiting_reads.specs.Gathering.{Gathering}
use Rattle.waiting_reads.specs.Waiting.{IsFilledBy, IsFilledOne, IsTakenOut, StandsAt, has_ticket}

-- the read at a place has the ticket
at_place : (ticket k : ℕ) (reads : List Gathering) (d : Gathering) → k < length reads → IfSome (slice_get reads k) (λ g. g.ticket ≡ ticket)
    → (get_or reads k d).ticket ≡ ticket
at_place ticket k [] d lt is = absurd (omega (arith, lt))
at_place ticket zero (g ∷ reads) d lt is = is
at_place ticket (suc k) (g ∷ reads) d lt is = at_place ticket k reads d (omega (arith, lt)) is

stands : (ticket k : ℕ) (reads : List Gathering) (one : Gathering) → k < length reads → has_ticket ticket (take k reads) ≡ false
    → IfSome (slice_get reads k) (λ g. g.ticket ≡ ticket) → one ≡ get_or reads k one → StandsAt ticket reads (take k reads) one (drop (k + 1) reads)
stands ticket k reads one lt before here is = record {
  parts = sym (take-append-drop k reads) ∙ ap (λ l. take k reads ++ l) (drop_more reads k one lt ∙ ap (λ g. g ∷ drop (k + 1) reads) (sym is));
  ticket_is = ap (λ (g : Gathering). g.ticket) is ∙ at_place ticket k reads one lt here;
  others = before;
}

-- a block goes to the first read with a ticket, and to no other
pub filled_one : (ticket k : ℕ) (place : Place) (block : List ℕ) (reads old : List Gathering) (one next : Gathering) → reads ≡ old → k < length reads
    → has_ticket ticket (take k reads) ≡ false → IfSome (slice_get reads k) (λ g. g.ticket ≡ ticket) → one ≡ get_or reads k one
    → IsFilledBy place block one next → IsFilledOne ticket place block old (set reads k next)
filled_one ticket k place block reads old one next same lt before here is filled = subst (λ l. IsFilledOne ticket place block l (set reads k next)) same
    (record {
      front = take k reads;
      one = one;
      next = next;
      behind = drop (k + 1) reads;
      stood = stands ticket k reads one lt before here is;
      new_is = set_split reads k next lt ∙ ap (λ n. take k reads ++ next ∷ drop n reads) one_more;
      filled = filled;
    })
  where
    one_more : suc k ≡ k + 1
    one_more = omega arith

-- without the first read with a ticket, the others wait as they did
pub taken_out : (ticket k : ℕ) (reads old new : List Gathering) (one : Gathering) → reads ≡ old → k < length reads
    → has_ticket ticket (take k reads) ≡ false → IfSome (slice_get reads k) (λ g. g.ticket ≡ ticket) → one ≡ get_or reads k one
    → new ≡ take k reads ++ drop (k + 1) reads → IsTakenOut ticket old new one
taken_out ticket k reads old new one same lt before here is left = subst (λ l. IsTakenOut ticket l new one) same
    (record { front = take k reads; behind = drop (k + 1) reads; stood = stands ticket k reads one lt before here is; new_is = left })
