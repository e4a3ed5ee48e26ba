-- Which replies may come at once, and which may not.
use Rattle.std.specs.Prelude.{◌∷◌, ◌≡◌, ℕ, Bool, [], codes, length, Some}
use Rattle.std.proofs.Common.{refl, arith, sym, ap, ◌∙◌, true≢false}
use Rattle.promises.proofs.ServingPromise.ReplyFacts.{get_put}
use Rattle.tape_types.specs.declared.cartridges.Twin.{Twin}
use Rattle.tape_types.specs.declared.moments.Moment.{Moment}
use Rattle.plain_tree.specs.Calls.{answer}
use Rattle.plain_tree.specs.declared.calls.Answer.{Answer}
use Rattle.plain_tree.specs.declared.calls.Answer.TheVariants as answers
use Rattle.plain_tree.specs.declared.calls.Call.TheVariants.{Read, Sync}
use Rattle.session_script.specs.declared.logs.Reply.TheVariants as replies
use Rattle.space_laws.specs.Histories.{given, path, with_a}
use Rattle.space_laws.specs.Mount.{MountFacts}
use Rattle.space_laws.specs.Standing.{first_standing}
use Rattle.promises.specs.ReplyLaws.Sides.{IsReadyHere, SubmitsTruly}
use Rattle.plain_tree.specs.declared.calls.Fate.TheVariants as fates
use Rattle.session_script.specs.declared.logs.Event.TheVariants.{Syncs, Synced}
use Rattle.cartridge_meaning.specs.declared.mounted.Mounted.{Mounted}
use Rattle.promises.specs.ServingPromise.Served.{IsTrue}
use Rattle.promises.specs.declared.serving_promise.answers.Submitted.TheVariants as submitted
use Rattle.promises.specs.ReplyLaws.Worked.{one_sync, silent, synced}
use Rattle.promises.proofs.ReplyLaws.Truths.{places_truly}

reads_nothing : (at : Moment) → answer (with_a at) (Read path 0 5) ≡ answers.Got []
reads_nothing at = simp (get_put) refl

-- a read of an empty file may be answered with no bytes
pub read_is : (m : MountFacts) (on : Bool) (at : Moment) → IsReadyHere (given at m []) on (first_standing (given at m [])) (Read path 0 5) at (replies.Answer (answers.Got []))
read_is m on at = record { within = simp (get_put) refl; answered = sym (reads_nothing at) }

abbrev size_of : Answer → ℕ
size_of (answers.Got bytes) = length bytes
size_of _ = 0

-- a read of an empty file can't be answered with a byte
pub other_bytes_isnt : (m : MountFacts) (on : Bool) (at : Moment) → ¬ IsReadyHere (given at m []) on (first_standing (given at m [])) (Read path 0 5) at (replies.Answer (answers.Got (codes "d")))
other_bytes_isnt m on at r = omega (arith, ap size_of (r.answered ∙ reads_nothing at))

-- a read that was only now placed can't be answered with a fault
pub fault_isnt : (m : MountFacts) (on : Bool) (at : Moment) (counts : Twin) → ¬ IsReadyHere (given at m []) on (first_standing (given at m [])) (Read path 0 5) at (replies.Fault counts)
fault_isnt m on at counts r = r

-- a sync with nothing to write can't be answered as full
pub full_isnt : (m : MountFacts) (on : Bool) (at : Moment) → ¬ IsReadyHere (given at m []) on (first_standing (given at m [])) Sync at (replies.Full 0 0)
full_isnt m on at r = true≢false (sym r.over)

-- a sync with nothing to write may be answered at once
pub synced_is : (m : MountFacts) (on : Bool) (at : Moment) → IsReadyHere (given at m []) on (first_standing (given at m [])) Sync at (replies.Answer answers.Synced)
synced_is m on at = record { within = refl; answered = refl }

-- a sync of a volume in which nothing has changed shows what a submission has to, and leaves it true
pub sync_stays_true : (mounted : Mounted) (at : Moment) → SubmitsTruly silent (one_sync mounted at) (synced mounted at) 1 0 (submitted.Ready (replies.Answer answers.Synced))
sync_stays_true mounted at = record {
  call = Sync;
  is_call = refl;
  at = at;
  history = refl;
  ready = record { within = refl; answered = refl };
  added = Syncs 0 ∷ Synced 0 ∷ [];
  events = refl;
  queues = refl;
  ops = refl;
}

none_begun : (mounted : Mounted) (at : Moment) → IsTrue silent (one_sync mounted at)
none_begun mounted at = record { replies = record { count = refl; each = λ k p reply e. cc }; ops = refl; standing = refl }

-- a volume with one sync that was answered at once is true
pub it_is_true : (mounted : Mounted) (at : Moment) → IsTrue silent (synced mounted at)
it_is_true mounted at = places_truly silent (one_sync mounted at) (synced mounted at) 1 0 fates.Done (Some (replies.Answer answers.Synced)) (none_begun mounted at) refl refl refl refl refl (sync_stays_true mounted at)
