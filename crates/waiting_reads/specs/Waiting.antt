-- The reads that wait.
use Rattle.std.specs.Prelude.{◌≡◌, ◌≢◌, ℕ, ◌==◌, Bool, true, false, cond, not, List, [], ◌∷◌, ◌++◌, filter, Option}
use Rattle.std.specs.Prelude.{Some, None, IfSome, slice_get}
use Rattle.std.specs.List.{list_any}
use Rattle.tape_types.specs.declared.cartridges.Place.{Place}
use Rattle.extent_map.specs.Cells.{Tape}
use Rattle.extent_map.specs.Replies.{IsBlock, Places, with_place}
use Rattle.plain_tree.specs.declared.calls.Answer.{Answer}
use Rattle.plain_tree.specs.declared.calls.Answer.TheVariants as answers
use Rattle.waiting_reads.specs.Gathering.{Gathering, IsAnswered, IsGathering}

-- the reads that wait, in the order in which they came; the answers that are kept until they are handed out, each with
-- its read's ticket, in the order in which they came; and for how many more reads, with their answers, there is room
pub record Waiting : Type 0 where
  pub reads : List Gathering
  pub answered : List (ℕ × Answer)
  pub spare : ℕ

-- one of the reads has this ticket
abbrev pub has_ticket : ℕ → List Gathering → Bool
has_ticket ticket reads = list_any (λ g. g.ticket == ticket) reads

abbrev pub HasTicket : List Gathering → ℕ → Type 0
HasTicket reads ticket = has_ticket ticket reads ≡ true

-- The first read with this ticket, and those before and behind it.
pub record StandsAt (ticket : ℕ) (reads front : List Gathering) (one : Gathering) (behind : List Gathering)
    : Type 0 where
  pub parts : reads ≡ front ++ one ∷ behind
  pub ticket_is : one.ticket ≡ ticket
  pub others : has_ticket ticket front ≡ false

-- a block is read for it: if it is the read of the blocks at these places, it is that of one place more
pub record IsFilledBy (place : Place) (block : List ℕ) (old new : Gathering) : Type 0 where
  pub ticket : new.ticket ≡ old.ticket
  pub pieces : new.pieces ≡ old.pieces
  pub filled : (tape : Tape) (read : Places) → IsBlock tape place block → IsGathering tape read old
      → IsGathering tape (with_place read place) new

-- a block is read for the read with this ticket, and for no other
pub record IsFilledOne (ticket : ℕ) (place : Place) (block : List ℕ) (old new : List Gathering) : Type 0 where
  pub front : List Gathering
  pub one : Gathering
  pub next : Gathering
  pub behind : List Gathering
  pub stood : StandsAt ticket old front one behind
  pub new_is : new ≡ front ++ next ∷ behind
  pub filled : IsFilledBy place block one next

-- the read with this ticket waits no more
pub record IsTakenOut (ticket : ℕ) (old new : List Gathering) (one : Gathering) : Type 0 where
  pub front : List Gathering
  pub behind : List Gathering
  pub stood : StandsAt ticket old front one behind
  pub new_is : new ≡ front ++ behind

-- a read with this ticket waits no more
pub record IsForgotten (ticket : ℕ) (old new : List Gathering) : Type 0 where
  pub one : Gathering
  pub taken : IsTakenOut ticket old new one

-- the read with this ticket waits no more, and is answered, though never as a sync is
pub record IsFinished (ticket : ℕ) (old new : List Gathering) (answer : Answer) : Type 0 where
  pub one : Gathering
  pub taken : IsTakenOut ticket old new one
  pub answered : IsAnswered one answer
  pub no_sync : answer ≢ answers.Synced

-- the first answer that is kept for this ticket
abbrev pub answer_for : ℕ → List (ℕ × Answer) → Option Answer
answer_for ticket [] = None
answer_for ticket (kept ∷ more) = cond (kept.0 == ticket) (Some kept.1) (answer_for ticket more)

-- the answers that are kept for other tickets
abbrev pub for_others : ℕ → List (ℕ × Answer) → List (ℕ × Answer)
for_others ticket answered = filter (λ kept. not (kept.0 == ticket)) answered

-- the answer at a place is the first for this ticket
abbrev pub IsAnswerAt : ℕ → ℕ → List (ℕ × Answer) → Type 0
IsAnswerAt ticket at answered = IfSome (slice_get answered at)
    (λ kept. (kept.0 ≡ ticket) × (answer_for ticket answered ≡ Some kept.1))
