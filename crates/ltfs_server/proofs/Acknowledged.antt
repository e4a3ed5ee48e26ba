-- That a sync which was acknowledged is done.
use Rattle.std.specs.Prelude.{All, Contains, map, slice_get, take, drop}
use Rattle.std.proofs.Common.{◌≡◌, ◌∙◌, ℕ, suc, ◌<◌, ◌≤◌, true, List, ◌∷◌, ◌++◌, length, Option, Some, None}
use Rattle.std.proofs.Common.{⊎_elim, refl, sym, ap, arith}
use Rattle.std.specs.FinMap as fin
use Rattle.std.proofs.lemmas.List.{get_or-map, length-map, length-take-le}
use Rattle.std.proofs.lemmas.List.Elements.{All-contains}
use Rattle.std.proofs.lemmas.Option.{slice_get_within}
use Rattle.plain_tree.specs.Calls.{answer, answer_unless, value_of}
use Rattle.plain_tree.specs.History.{call_at}
use Rattle.plain_tree.specs.Refusals.{refusal_of}
use Rattle.plain_tree.specs.Paths.{Path}
use Rattle.plain_tree.specs.Tree.{Tree, facts_of}
use Rattle.plain_tree.specs.declared.calls.Answer.{Answer}
use Rattle.plain_tree.specs.declared.calls.Answer.TheVariants as answers
use Rattle.plain_tree.specs.declared.calls.Call.{Call}
use Rattle.plain_tree.specs.declared.calls.Call.TheVariants.{Stat, Sync}
use Rattle.plain_tree.specs.declared.calls.Fate.{Fate}
use Rattle.plain_tree.specs.declared.calls.Fate.TheVariants as fates
use Rattle.plain_tree.specs.declared.calls.Placed.{Placed}
use Rattle.plain_tree.specs.declared.calls.Refusal.{Refusal}
use Rattle.plain_tree.specs.declared.nodes.Node.{Node}
use Rattle.session_script.specs.declared.logs.Ack.{Ack}
use Rattle.session_script.specs.declared.logs.Event.{Event}
use Rattle.session_script.specs.declared.logs.Reply.{Reply}
use Rattle.session_script.specs.declared.logs.Reply.TheVariants as replies
use Rattle.mount_recover.proofs.ExtentLemmas.{parted}
use Rattle.space_laws.specs.Standing.{Given}
use Rattle.promises.specs.ServingPromise.Acks.{AreAcks}
use Rattle.promises.specs.ServingPromise.Replies.{AreReplies, Facts, IsReply, facts_at}
use Rattle.promises.proofs.OrderLaws.Acked.{has_synced_place, synced_at}
use Rattle.promises.proofs.OrderLaws.Lists.{at_some}
use Rattle.promises.proofs.OrderLaws.Rising.{All_from, has}

-- a place at which a sync is done
pub record IsDoneSync (g : Given) (history : List Placed) (k : ℕ) : Type 0 where
  pub front : List Placed
  pub p : Placed
  pub rest : List Placed
  pub history_is : history ≡ front ++ p ∷ rest
  pub count : length front ≡ k
  pub done : p.fate ≡ fates.Done
  pub called : call_at g.calls p ≡ Some Sync

-- ---- what is answered as a sync is one

told_synced : (reply : Option Reply) → synced_at (Some reply) ≡ true → reply ≡ Some (replies.Answer answers.Synced)
told_synced (Some (replies.Answer answers.Synced)) is = refl
told_synced reply is = cc

-- what is told of a node isn't that a sync is done
stat_told : (t : Tree) (path : Path) → value_of t (Stat path) ≡ answers.Synced → ⊥
stat_told t path told = by (fin.get t.nodes path) refl
  where
    by : (o : Option Node) → fin.get t.nodes path ≡ o → ⊥
    by None is =
        let value : value_of t (Stat path) ≡ answers.Done = rw is refl in
        let no : answers.Done ≡ answers.Synced = sym value ∙ told in
        cc
    by (Some node) is =
        let value : value_of t (Stat path) ≡ answers.Facts (facts_of node) = rw is refl in
        let no : answers.Facts (facts_of node) ≡ answers.Synced = sym value ∙ told in
        cc

unrefused : (o : Option Refusal) (value : Answer) → answer_unless o value ≡ answers.Synced → value ≡ answers.Synced
unrefused None value e = e
unrefused (Some refusal) value e = cc

answered_by : (t : Tree) (call : Call) → answer t call ≡ answers.Synced → call ≡ Sync
answered_by t Sync is = refl
answered_by t (Stat path) is =
    absurd (stat_told t path (unrefused (refusal_of t (Stat path)) (value_of t (Stat path)) is))
answered_by t call is = let value = unrefused (refusal_of t call) (value_of t call) is in cc

same_answer : (a b : Answer) → replies.Answer a ≡ replies.Answer b → a ≡ b
same_answer a b e = cc e

of_fate : (fate : Fate) (f : Facts) (call : Call) → IsReply fate f call (replies.Answer answers.Synced)
    → (fate ≡ fates.Done) × (call ≡ Sync)
of_fate fates.Done f call r = (
  refl,
  ⊎_elim (λ e. answered_by f.tree call (sym (same_answer answers.Synced (answer f.tree call) e)))
      (λ w. absurd (let no = w.1.2 in cc)) r.answered,
)
of_fate fates.Void f call r =
    ⊎_elim (λ no. absurd cc) (λ r. ⊎_elim (λ w. absurd (let no = w.1 in cc)) (λ w. absurd (let no = w.1.2 in cc)) r) r

-- ---- the place of an acknowledgement

place_there : (acks : List Ack) (ack : Ack) → Contains acks ack → Contains (map (λ (a : Ack). a.place) acks) ack.place
place_there acks ack at = (
  at.0,
  omega (arith, at.1, length-map acks (λ (a : Ack). a.place)),
  get_or-map (λ (a : Ack). a.place) acks at.0 ack ack.place at.1 ∙ ap (λ (a : Ack). a.place) at.2,
)

module _ (g : Given) (on : Option ℕ) (history : List Placed) (events : List Event) (kept : List (Option Reply))
    (are : AreReplies g on history events kept) where
  of_reply : (k : ℕ) (p : Placed) → slice_get history k ≡ Some p → k ≤ length history
      → ((call : Call) × (call_at g.calls p ≡ Some call)
      × IsReply p.fate (facts_at g on history events k p call) call (replies.Answer answers.Synced))
      → IsDoneSync g history k
  of_reply k p at within r =
      let its = of_fate p.fate (facts_at g on history events k p r.0) r.0 r.2 in
      record {
        front = take k history;
        p = p;
        rest = drop (suc k) history;
        history_is = parted history k p at;
        count = length-take-le k history within;
        done = its.0;
        called = r.1 ∙ ap Some its.1;
      }

  done_at : (k : ℕ) → synced_at (slice_get kept k) ≡ true → IsDoneSync g history k
  done_at k is = by (slice_get kept k) refl is
    where
      by : (o : Option (Option Reply)) → slice_get kept k ≡ o → synced_at o ≡ true → IsDoneSync g history k
      by None at is = cc
      by (Some reply) at is =
          let told : slice_get kept k ≡ Some (Some (replies.Answer answers.Synced)) =
          at ∙ ap Some (told_synced reply is) in
          let within : k < length history = omega (arith, slice_get_within kept k reply at, are.count) in
          let some = at_some history k within in
          of_reply k some.0 some.1 (omega (arith, within)) (are.each k some.0 (replies.Answer answers.Synced) some.1 told)

  -- each acknowledgement is of a sync that is done
  pub acks_are_done : (acks : List Ack) → AreAcks events kept acks → (ack : Ack) → Contains acks ack
      → IsDoneSync g history ack.place
  acks_are_done acks its ack there =
      let places = map (λ (a : Ack). a.place) acks in
      let all : All (λ (k : ℕ). has k places ≡ true) places = All_from (λ k. has k places ≡ true) places (λ k h. h) in
      let one : has ack.place places ≡ true =
      All-contains (λ k. has k places ≡ true) places ack.place all (place_there acks ack there) in
      done_at ack.place (sym (has_synced_place kept ack.place) ∙ sym (ap (λ l. has ack.place l) its.places) ∙ one)
