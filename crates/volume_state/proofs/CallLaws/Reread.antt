-- The reads that wait stay right as a call is placed and its ops are admitted.
use Rattle.std.proofs.Common.{◌≡◌, ℕ, ◌<◌, not, Bool, true, false, List, [], ◌∷◌, ◌++◌, length, Option, Some, None, IfSome, slice_index_or, All, sym, ap, ◌∙◌, subst, arith}
use Rattle.std.specs.List.{list_any}
use Rattle.tape_types.proofs.LongerLists.{slice_get-append}
use Rattle.tape_types.specs.declared.cartridges.Cartridge.{Cartridge}
use Rattle.extent_map.specs.Replies.{Places, gathered}
use Rattle.extent_map.specs.declared.pieces.Piece.{Piece}
use Rattle.plain_tree.specs.Calls.{answer}
use Rattle.plain_tree.specs.Cells.{Cell, bytes_of}
use Rattle.plain_tree.specs.declared.calls.Placed.{Placed}
use Rattle.head_queue.specs.EventLaws.Trail.{asks}
use Rattle.head_queue.specs.EventLaws.Waiting.{Request, State}
use Rattle.tape_layout.specs.declared.ops.Op.{Op}
use Rattle.tape_layout.specs.Ops.{AreNext}
use Rattle.space_laws.specs.Standing.{Given, Standing}
use Rattle.promises.proofs.ReplyLaws.Lists.{get_within}
use Rattle.promises.proofs.ReplyLaws.Places.{standing_goes_on}
use Rattle.waiting_reads.specs.Gathering.{Gathering, HasSoFar, IsGathering, got_or_damaged}
use Rattle.volume_state.specs.PlanLaws.Planned.{Items, LieBelow, ends_in, tape_on, with_ops}
use Rattle.volume_state.proofs.PlanLaws.Places.{places_stay}
use Rattle.volume_state.proofs.PlanLaws.Stays.{tapes_stay}
use Rattle.volume_state.specs.StateLaws.Tied.{AreReading, IsAsked, IsReading, is_of, was_met}

module _ (g : Given) (on : Option ℕ) (history : List Placed) (p : Placed) (planned : Items) (told : Option Cartridge) (ops asked : List Op)
    (old new : State)
    (follows : AreNext (ends_in planned) asked) (same : new.requests ≡ old.requests) where
  abbrev late : Items
  late = with_ops asked planned

  met_same : (ticket : ℕ) → was_met new ticket ≡ was_met old ticket
  met_same ticket = ap (λ (rs : List Request). λ place. not (list_any (asks ticket place) rs)) same

  has_on : (ticket : ℕ) (pieces : List Piece) (bytes : List ℕ) (whole : Bool) → LieBelow (ends_in planned) pieces
      → HasSoFar (tape_on planned) (was_met old ticket) pieces bytes whole
      → HasSoFar (tape_on late) (was_met new ticket) pieces bytes whole
  has_on ticket pieces bytes true below has =
      ap (λ (read : Places). bytes_of (gathered (tape_on late) read pieces)) (met_same ticket)
      ∙ ap bytes_of (tapes_stay.gathered planned asked (was_met old ticket) pieces below) ∙ has
  has_on ticket pieces bytes false below has = ap bytes_of (tapes_stay.pieces planned asked pieces below) ∙ has

  gathering_on : (o : Option Cartridge) (r : Gathering) → LieBelow (ends_in planned) r.pieces
      → IfSome o (λ c. IsGathering (tape_on planned) (was_met old r.ticket) r)
      → IfSome o (λ c. IsGathering (tape_on late) (was_met new r.ticket) r)
  gathering_on None r below is = tt
  gathering_on (Some c) r below is =
      record { has = has_on r.ticket r.pieces r.bytes r.whole below is.has; long = is.long }

  reading_on : (r : Gathering) → IsReading g on history planned told old r → IsReading g on (history ++ p ∷ []) late told new r
  reading_on r is =
      let within : r.ticket < length history = get_within history r.ticket is.placed is.placed_is in
      record {
        placed = is.placed;
        placed_is = slice_get-append history (p ∷ []) r.ticket within ∙ is.placed_is;
        call = is.call;
        call_is = is.call_is;
        answers = ap (λ (s : Standing). answer s.tree is.call) ((standing_goes_on g on history p).stands r.ticket (omega (arith, within)))
            ∙ is.answers
            ∙ sym (ap (λ (cells : List Cell). got_or_damaged (bytes_of cells)) (tapes_stay.pieces planned asked r.pieces is.below));
        below = tapes_stay.below planned asked r.pieces is.below;
        gathering = gathering_on told r is.below is.gathering;
        asked = ap (list_any (is_of r.ticket)) same ∙ is.asked;
      }

  asked_on : (reads : List Gathering) (r : Request) → IsAsked planned ops reads r → IsAsked late (ops ++ asked) reads r
  asked_on reads r is = record {
    stands = places_stay.added planned ops asked r.place follows is.stands;
    reading = is.reading;
    waits = is.waits;
    ticket = is.ticket;
  }

  -- the reads that wait stay right as a call's ops are admitted
  pub reads_on : (reads : List Gathering) → AreReading g on history planned told ops old reads
      → AreReading g on (history ++ p ∷ []) late told (ops ++ asked) new reads
  reads_on reads are = record {
    each = λ k d less. reading_on (slice_index_or reads k d) (are.each k d less);
    apart = are.apart;
    asked = subst (λ (rs : List Request). All (IsAsked late (ops ++ asked) reads) rs) (sym same)
        (λ k d less. asked_on reads (slice_index_or old.requests k d) (are.asked k d less));
  }
