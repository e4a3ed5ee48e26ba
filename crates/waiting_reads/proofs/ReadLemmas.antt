-- What a read holds as its blocks come, and what it is answered.
use Rattle.std.proofs.Common.{◌≡◌, ℕ, Bool, true, false, List, length, replicate, sym, ap, ◌∙◌, refl, subst}
use Rattle.std.proofs.lemmas.List.{length-replicate}
use Rattle.tape_types.specs.declared.cartridges.Place.{Place}
use Rattle.plain_tree.specs.declared.calls.Answer.TheVariants as answers
use Rattle.plain_tree.specs.declared.calls.Refusal.TheVariants as refusals
use Rattle.extent_map.specs.Cells.{Tape}
use Rattle.extent_map.specs.Replies.{IsBlock, IsFilled, IsGathered, Places, size_of, with_place}
use Rattle.extent_map.specs.declared.pieces.Piece.{Piece}
use Rattle.extent_map.proofs.DistinctLemmas.{replies_gather}
use Rattle.waiting_reads.specs.Gathering.{Gathering, HasSoFar, IsAnswered, IsGathering, got_or_damaged}
use Rattle.waiting_reads.specs.Waiting.{IsFilledBy}

-- a read of these pieces, with its bytes so far
abbrev pub gathering : ℕ → List Piece → List ℕ → Bool → Gathering
gathering ticket pieces bytes whole = record { ticket = ticket; pieces = pieces; bytes = bytes; whole = whole }

-- a read with zeros for all its bytes has met none of its blocks yet
pub begun : (ticket : ℕ) (pieces : List Piece) (bytes : List ℕ) → bytes ≡ replicate (size_of pieces) 0 → (tape : Tape) → IsGathering tape (λ place. false) (gathering ticket pieces bytes true)
begun ticket pieces bytes is tape = subst (λ bs. IsGathering tape (λ place. false) (gathering ticket pieces bs true)) (sym is)
    (record { has = replies_gather.begins tape pieces; long = length-replicate (size_of pieces) 0 })

-- by what is filled, of a read none of whose bytes was found lost
pub filled_by : (place : Place) (block : List ℕ) (ticket : ℕ) (pieces : List Piece) (before next : List ℕ) (whole : Bool) (old : Gathering)
    → gathering ticket pieces before true ≡ old
    → ((tape : Tape) (read : Places) → IsBlock tape place block → IsGathered tape read pieces before → IsFilled tape read place pieces next whole)
    → length next ≡ length before → IsFilledBy place block old (gathering ticket pieces next whole)
filled_by place block ticket pieces before next whole old is fills long =
    subst (λ g. IsFilledBy place block g (gathering ticket pieces next whole)) is
    (record {
      ticket = refl;
      pieces = refl;
      filled = λ tape read here g. record { has = so_far tape read whole (fills tape read here g.has); long = long ∙ g.long };
    })
  where
    so_far : (tape : Tape) (read : Places) (w : Bool) → IsFilled tape read place pieces next w → HasSoFar tape (with_place read place) pieces next w
    so_far tape read true f = f
    so_far tape read false f = f

-- a byte that is lost stays so
stays_lost : (place : Place) (block : List ℕ) (ticket : ℕ) (pieces : List Piece) (bytes : List ℕ) (whole : Bool) (old : Gathering)
    → gathering ticket pieces bytes whole ≡ old → whole ≡ false → IsFilledBy place block old (gathering ticket pieces bytes whole)
stays_lost place block ticket pieces bytes true old is lost = cc
stays_lost place block ticket pieces bytes false old is lost =
    subst (λ g. IsFilledBy place block g (gathering ticket pieces bytes false)) is
    (record { ticket = refl; pieces = refl; filled = λ tape read here g. record { has = g.has; long = g.long } })

-- what it is answered where no byte was found lost
pub got : (ticket : ℕ) (pieces : List Piece) (bytes : List ℕ) (whole : Bool) (g : Gathering) → gathering ticket pieces bytes whole ≡ g → whole ≡ true
    → IsAnswered g (answers.Got bytes)
got ticket pieces bytes false g is good = cc
got ticket pieces bytes true g is good = subst (λ g. IsAnswered g (answers.Got bytes)) is
    (λ tape read has each. sym (ap got_or_damaged (replies_gather.ends tape read pieces bytes each has.has)))

-- and where one was
damaged : (ticket : ℕ) (pieces : List Piece) (bytes : List ℕ) (whole : Bool) (g : Gathering) → gathering ticket pieces bytes whole ≡ g → whole ≡ false
    → IsAnswered g (answers.Refused refusals.Damaged)
damaged ticket pieces bytes true g is lost = cc
damaged ticket pieces bytes false g is lost = subst (λ g. IsAnswered g (answers.Refused refusals.Damaged)) is
    (λ tape read has each. sym (ap got_or_damaged has.has))

-- what is filled in equal bytes for equal pieces
pub fills_same : (place : Place) (block : List ℕ) (seen pieces : List Piece) (lent before next : List ℕ) (whole : Bool) → seen ≡ pieces → lent ≡ before
    → ((tape : Tape) (read : Places) → IsBlock tape place block → IsGathered tape read seen lent → IsFilled tape read place seen next whole)
    → (tape : Tape) (read : Places) → IsBlock tape place block → IsGathered tape read pieces before → IsFilled tape read place pieces next whole
fills_same place block seen pieces lent before next whole same bytes fills =
    subst (λ ps. (tape : Tape) (read : Places) → IsBlock tape place block → IsGathered tape read ps before → IsFilled tape read place ps next whole) same
    (subst (λ bs. (tape : Tape) (read : Places) → IsBlock tape place block → IsGathered tape read seen bs → IsFilled tape read place seen next whole) bytes fills)
