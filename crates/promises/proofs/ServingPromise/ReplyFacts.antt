-- Which replies may come at a place, and which may not.
use Rattle.std.specs.Prelude.{◌≡◌, ◌⊎◌, ℕ, cond, get_or, ◌≢◌, true, false, List, [], ◌∷◌, Contains, codes, Some}
use Rattle.std.proofs.Common.{refl, inl, inr, arith, sym, ap, ◌∙◌, true≢false}
use Rattle.std.specs.FinMap as fin
use Rattle.std.specs.Ordering.{eq_by_cmp}
use Rattle.tape_types.specs.declared.moments.Moment.{Moment}
use Rattle.plain_tree.proofs.NodeLemmas.{path_total}
use Rattle.plain_tree.specs.Paths.{path_cmp}
use Rattle.plain_tree.specs.Tree.{Tree, Nodes}
use Rattle.plain_tree.specs.Calls.{answer}
use Rattle.plain_tree.specs.declared.nodes.Node.{Node}
use Rattle.plain_tree.specs.declared.calls.Answer.TheVariants as answers
use Rattle.plain_tree.specs.declared.calls.Call.TheVariants.{Sync}
use Rattle.plain_tree.specs.declared.calls.Fate.TheVariants as fates
use Rattle.plain_tree.specs.declared.calls.Answer.{Answer}
use Rattle.session_script.specs.declared.logs.Reply.{Reply}
use Rattle.session_script.specs.declared.logs.Reply.TheVariants as replies
use Rattle.tape_types.specs.declared.cartridges.Twin.{Twin}
use Rattle.head_queue.specs.EventLaws.Rows.{twin}
use Rattle.promises.specs.ServingPromise.Replies.{IsReply, IsFaultOf}
use Rattle.promises.specs.ServingPromise.Trials.{with_a, write, read, calm, over, fault, got, done}

-- what stands at a path once a node was put somewhere
pub get_put : (m : Nodes) (p : List (List ℕ)) (node : Node) (q : List (List ℕ)) → fin.get (fin.insert m p node) q ≡ cond (eq_by_cmp path_cmp q p) (Some node) (fin.get m q)
get_put = fin.get-insert path_total

reads_hello : (at : Moment) → answer (with_a at (codes "hello")) read ≡ answers.Got (codes "hello")
reads_hello at = simp (get_put) refl

-- a read of a file with bytes answers these bytes
pub read_is : (at : Moment) → IsReply fates.Done (calm (with_a at (codes "hello"))) read (got (codes "hello"))
read_is at = record { within = refl; answered = inl (ap replies.Answer (sym (reads_hello at))) }

-- which reply it is, and its first number or byte
abbrev pub sort_of : Reply → ℕ
sort_of (replies.Answer a) = 0
sort_of (replies.Full need limit) = 1
sort_of (replies.Fault counts) = 2
sort_of replies.NoMemory = 3

abbrev pub first_of : Reply → ℕ
first_of (replies.Answer a) = first_byte a
  where
    first_byte : Answer → ℕ
    first_byte (answers.Got bytes) = get_or bytes 0 0
    first_byte _ = 0
first_of (replies.Full need limit) = need
first_of (replies.Fault counts) = counts.before
first_of replies.NoMemory = 0

-- two replies of different sorts, or with different first numbers
unlike : (a b : Reply) → (sort_of a ≢ sort_of b) → a ≢ b
unlike a b differ e = differ (ap sort_of e)

unlike_first : (a b : Reply) → (first_of a ≢ first_of b) → a ≢ b
unlike_first a b differ e = differ (ap first_of e)

-- a read isn't answered from a later tree
pub later_read_isnt : (at : Moment) → ¬ IsReply fates.Done (calm (with_a at (codes "hello"))) read (got (codes "world"))
later_read_isnt at r = by r.answered
  where
    by : (got (codes "world") ≡ replies.Answer (answer (with_a at (codes "hello")) read)) ⊎ ((true ≡ true) × IsFaultOf [] (got (codes "world"))) → ⊥
    by (inl e) = unlike_first (got (codes "world")) (got (codes "hello")) (λ n. omega (arith, n)) (e ∙ ap replies.Answer (reads_hello at))
    by (inr f) = unlike (got (codes "world")) (replies.Fault f.1.0) (λ n. omega (arith, n)) f.1.2

-- a write over the limit is told its need and its limit
pub full_is : (tree : Tree) → IsReply fates.Void (over tree 53 52) (write (codes "d")) (replies.Full 53 52)
full_is tree = inr (inl (refl, refl))

-- a write over the limit isn't told a need that is one too high
pub full_one_off_isnt : (tree : Tree) → ¬ IsReply fates.Void (over tree 53 52) (write (codes "d")) (replies.Full 54 52)
full_one_off_isnt tree (inl e) = unlike (replies.Full 54 52) replies.NoMemory (λ n. omega (arith, n)) e
full_one_off_isnt tree (inr (inl f)) = unlike_first (replies.Full 54 52) (replies.Full 53 52) (λ n. omega (arith, n)) f.1
full_one_off_isnt tree (inr (inr f)) = unlike (replies.Full 54 52) (replies.Fault f.1.0) (λ n. omega (arith, n)) f.1.2

-- a call that is within its limit isn't told that the volume is full
pub full_within_isnt : (tree : Tree) → ¬ IsReply fates.Void (calm tree) (write (codes "d")) (replies.Full 0 0)
full_within_isnt tree (inl e) = unlike (replies.Full 0 0) replies.NoMemory (λ n. omega (arith, n)) e
full_within_isnt tree (inr (inl f)) = absurd (true≢false (sym f.0))
full_within_isnt tree (inr (inr f)) = unlike (replies.Full 0 0) (replies.Fault f.1.0) (λ n. omega (arith, n)) f.1.2

-- a call that is over its limit isn't done
pub done_over_isnt : (tree : Tree) → ¬ IsReply fates.Done (over tree 53 52) (write (codes "d")) done
done_over_isnt tree r = true≢false r.within

-- a sync is told of the fault that it owns, and of no other
pub fault_is : (tree : Tree) → IsReply fates.Done (record (calm tree) { own = twin 0 1 ∷ [] }) Sync (fault 0 1)
fault_is tree = record { within = refl; answered = inr (refl, (twin 0 1, (0, omega arith, refl), refl)) }

-- a list of no faults contains none
none_in : (counts : Twin) → ¬ Contains [] counts
none_in counts at = omega (arith, at.1)

-- a sync that owns no fault isn't told one
pub fault_unowned_isnt : (tree : Tree) → ¬ IsReply fates.Done (calm tree) Sync (fault 0 1)
fault_unowned_isnt tree r = by r.answered
  where
    by : (fault 0 1 ≡ replies.Answer answers.Synced) ⊎ ((true ≡ true) × IsFaultOf [] (fault 0 1)) → ⊥
    by (inl e) = unlike (fault 0 1) (replies.Answer answers.Synced) (λ n. omega (arith, n)) e
    by (inr f) = none_in f.1.0 f.1.1

-- a write that is done is told of no fault, whoever owns it
pub write_fault_isnt : (tree : Tree) → ¬ IsReply fates.Done (record (calm tree) { own = twin 0 1 ∷ [] }) (write (codes "d")) (fault 0 1)
write_fault_isnt tree r = by r.answered
  where
    by : (fault 0 1 ≡ replies.Answer (answer tree (write (codes "d")))) ⊎ ((false ≡ true) × IsFaultOf (twin 0 1 ∷ []) (fault 0 1)) → ⊥
    by (inl e) = unlike (fault 0 1) (replies.Answer (answer tree (write (codes "d")))) (λ n. omega (arith, n)) e
    by (inr f) = true≢false (sym f.0)

-- a write whose drain failed is told that fault
pub drain_fault_is : (tree : Tree) → IsReply fates.Void (record (calm tree) { sessions = twin 0 1 ∷ [] }) (write (codes "d")) (fault 0 1)
drain_fault_is tree = inr (inr (refl, (twin 0 1, (0, omega arith, refl), refl)))

-- a void call that is no write is told of no fault
pub void_sync_isnt : (tree : Tree) → ¬ IsReply fates.Void (record (calm tree) { sessions = twin 0 1 ∷ [] }) Sync (fault 0 1)
void_sync_isnt tree (inl e) = unlike (fault 0 1) replies.NoMemory (λ n. omega (arith, n)) e
void_sync_isnt tree (inr (inl f)) = true≢false (sym f.0)
void_sync_isnt tree (inr (inr f)) = true≢false (sym f.0)
