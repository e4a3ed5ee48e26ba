-- Reads that wait, once an op was done or failed.
use Rattle.std.specs.Prelude.{◌≡◌, ◌||◌, not, ℕ, Bool, true, false, List, ◌∷◌, All, map, Option, IfSome}
use Rattle.std.specs.List.{list_any}
use Rattle.std.proofs.Common.{sym, ap, subst, ◌∙◌}
use Rattle.std.proofs.lemmas.List.Elements.{All-weaker}
use Rattle.std.proofs.lemmas.Bool.{or_right}
use Rattle.tape_types.specs.declared.cartridges.Cartridge.{Cartridge}
use Rattle.tape_types.specs.declared.cartridges.Place.{Place}
use Rattle.plain_tree.specs.Calls.{answer}
use Rattle.plain_tree.specs.declared.calls.Placed.{Placed}
use Rattle.head_queue.specs.EventLaws.Trail.{asks, puts_at}
use Rattle.head_queue.specs.EventLaws.Waiting.{Request, State}
use Rattle.tape_layout.specs.declared.ops.Op.{Op}
use Rattle.promises.specs.ServingPromise.Served.{headed}
use Rattle.waiting_reads.specs.Gathering.{Gathering, IsGathering}
use Rattle.space_laws.specs.Files.{Files}
use Rattle.space_laws.specs.Standing.{Given, standing}
use Rattle.volume_state.specs.PlanLaws.Planned.{IsDoneAt, IsPlan, Items, ends_in, tape_on}
use Rattle.volume_state.proofs.PlanLaws.Marks.{rest_holds}
use Rattle.volume_state.specs.StateLaws.Tied.{AreFilesRight, AreReading, IsAsked, IsReading, is_of}

or_second : (a b : Bool) → (a || b) ≡ false → b ≡ false
or_second true b h = absurd (cc)
or_second false b h = h

-- what was done at a place is done there with one op less
still_done : (planned : Items) (op : Op) (later : List Op) (place : Place) → IsDoneAt planned (op ∷ later) place
    → IsDoneAt planned later place
still_done planned op later place d = record {
  below = d.below;
  free = or_second (puts_at place (headed op)) (list_any (puts_at place) (map headed later)) d.free;
}

module _ (g : Given) (on off : Option ℕ) (history : List Placed) (planned : Items) (told : Option Cartridge) (old new : State)
    (same : (k : ℕ) → standing g on history k ≡ standing g off history k) (asked : new.requests ≡ old.requests) where
  one_reads : (r : Gathering) → IsReading g off history planned told old r → IsReading g on history planned told new r
  one_reads r is = record {
    placed = is.placed;
    placed_is = is.placed_is;
    call = is.call;
    call_is = is.call_is;
    answers = ap (λ s. answer s.tree is.call) (same r.ticket) ∙ is.answers;
    below = is.below;
    gathering = subst (λ (l : List Request). IfSome told (λ c. IsGathering (tape_on planned) (λ place. not (list_any (asks r.ticket place) l)) r))
        (sym asked) is.gathering;
    asked = ap (list_any (is_of r.ticket)) asked ∙ is.asked;
  }

  -- who waits for a block waits on with one op less
  pub reads_done : (op : Op) (later : List Op) (reads : List Gathering)
      → AreReading g off history planned told (op ∷ later) old reads
      → AreReading g on history planned told later new reads
  reads_done op later reads are = record {
    each = All-weaker (IsReading g off history planned told old) (IsReading g on history planned told new) one_reads reads are.each;
    apart = are.apart;
    asked = subst (λ (l : List Request). All (IsAsked planned later reads) l) (sym asked)
        (All-weaker (IsAsked planned (op ∷ later) reads) (IsAsked planned later reads)
        (λ r a. record { stands = still_done planned op later r.place a.stands; reading = a.reading; waits = a.waits; ticket = a.ticket })
        old.requests are.asked);
  }

  -- and with the same ops
  pub reads_stay : (ops : List Op) (reads : List Gathering) → AreReading g off history planned told ops old reads
      → AreReading g on history planned told ops new reads
  reads_stay ops reads are = record {
    each = All-weaker (IsReading g off history planned told old) (IsReading g on history planned told new) one_reads reads are.each;
    apart = are.apart;
    asked = subst (λ (l : List Request). All (IsAsked planned ops reads) l) (sym asked) are.asked;
  }

-- the files with one op less
pub files_done : (files : Files) (planned : Items) (op : Op) (later : List Op) → IsPlan planned (op ∷ later)
    → AreFilesRight files (ends_in planned) (op ∷ later)
    → AreFilesRight files (ends_in planned) later
files_done files planned op later plan right = record {
  low = right.low;
  below = right.below;
  bytes = λ part pos stands put. rest_holds (record { part = part; pos = pos }) (ends_in plan.made) op later plan.next put
      (right.bytes part pos stands
      (or_right (puts_at (record { part = part; pos = pos }) (headed op)) (list_any (puts_at (record { part = part; pos = pos })) (map headed later)) put));
}
