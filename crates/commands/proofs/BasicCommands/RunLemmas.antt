-- How a run begins, goes on by a line, and ends.
use Rattle.std.proofs.Common.{◌≡◌, ℕ, ◌+◌, ◌<◌, ◌≤◌, List, [], ◌∷◌, ◌++◌, length, take, map, Some, None, sym, ap, ◌∙◌, refl, subst, arith, ⊎_elim}
use Rattle.std.specs.Prelude.{Option, slice_get}
use Rattle.std.proofs.lemmas.Bool.{cases_lt}
use Rattle.std.proofs.lemmas.List.{length_push, map-append, take_all, take_more}
use Rattle.std.proofs.lemmas.Option.{slice_get_within, get_or_from_slice_get, same_Some}
use Rattle.plain_tree.proofs.HistoryLemmas.{replay_push}
use Rattle.tape_types.proofs.LongerLists.{slice_get-append, slice_get-seam}
use Rattle.tape_types.specs.declared.moments.Moment.{Moment}
use Rattle.plain_tree.specs.History.{Calls, IsInterleaving, after_placement, replay}
use Rattle.plain_tree.specs.Tree.{Tree, empty_tree}
use Rattle.plain_tree.specs.declared.calls.Call.{Call}
use Rattle.plain_tree.specs.declared.calls.Fate.{Fate}
use Rattle.plain_tree.specs.declared.calls.Fate.TheVariants as fates
use Rattle.plain_tree.specs.declared.calls.Placed.{Placed}
use Rattle.session_script.specs.Grammar.{calls_of}
use Rattle.session_script.specs.Replies.{AreReplies, IsPlainReply, IsReply}
use Rattle.session_script.specs.declared.logs.Log.{Log}
use Rattle.session_script.specs.declared.logs.Reply.{Reply}
use Rattle.session_script.specs.declared.scripts.ScriptLine.{ScriptLine}
use Rattle.session_script.proofs.HistoryLemmas.{call_at_line, interleaving_more, replies_more}
use Rattle.commands.specs.BasicCommands.Headline.{AreMoments, IsMoment, IsPlainRun}
use Rattle.commands.specs.BasicCommands.Runs.{Gives}
use Rattle.commands.specs.BasicCommands.Sessions.{after_fate, IsRunSoFar}

placed_is : (calls : Calls) (tree : Tree) (who nth : ℕ) (at : Moment) (fate : Fate) (call : Call) → slice_get (calls who) nth ≡ Some call
    → after_placement calls tree (record { who = who; nth = nth; at = at; fate = fate }) ≡ after_fate fate call at tree
placed_is calls tree who nth at fates.Void call is = refl
placed_is calls tree who nth at fates.Done call is = rw is refl

-- what the clock gives now, it might give at its call behind those of the root and of k lines
moment_at : (at : Option Moment) (gives now : Gives) (k : ℕ) (m : Moment)
    → (at ≡ None → (n : ℕ) (m : Moment) → now n m → gives (n + (k + 1)) m) → IsMoment at now 0 m → IsMoment at gives (k + 1) m
moment_at None gives now k m later given =
    let same : 0 + (k + 1) ≡ k + 1 = omega arith in
    subst (λ j. gives j m) same (later refl 0 m given)
moment_at (Some t) gives now k m later given = given

moments_more : (at : Option Moment) (gives : Gives) (history : List Placed) (p : Placed) → AreMoments at gives history
    → IsMoment at gives (length history + 1) p.at → AreMoments at gives (history ++ p ∷ [])
moments_more at gives history p so_far here place q found = ⊎_elim
    (λ lt. so_far place q (sym (slice_get-append history (p ∷ []) place lt) ∙ found))
    (λ ge.
    let within : place < length (history ++ p ∷ []) = slice_get_within (history ++ p ∷ []) place q found in
    let last : place ≡ length history = omega (arith, length_push history p) in
    let same : p ≡ q = same_Some p q (sym (slice_get-seam history p) ∙ ap (slice_get (history ++ p ∷ [])) (sym last) ∙ found) in
    subst (λ x. IsMoment at gives (place + 1) x.at) same (subst (λ n. IsMoment at gives (n + 1) p.at) (sym last) here))
    (cases_lt place (length history))

-- before the first line a plain run has the empty tree, no history and no replies
pub run_begins : (script : List ScriptLine) (at : Option Moment) (gives now : Gives) (first : Moment) (tree : Tree) (history : List Placed) (answered : List Reply)
    → IsMoment at gives 0 first → (at ≡ None → (n : ℕ) (m : Moment) → now n m → gives (n + 1) m)
    → tree ≡ empty_tree first → history ≡ [] → answered ≡ [] → IsRunSoFar script 0 at gives now tree history answered
run_begins script at gives now first tree history answered begins later is none no_reply = rw (none, no_reply) record {
  first = first;
  begins = begins;
  later = later;
  count = refl;
  tree_is = is;
  lines = refl;
  placed = λ who. refl;
  moments = λ place p found. cc;
  replies = record { count = refl; each = λ place p reply at_p at_reply. cc };
}

-- one more line with its placement and reply carries a plain run on
pub run_goes_on : (script : List ScriptLine) (k : ℕ) (at : Option Moment) (gives now next : Gives) (tree left : Tree) (history longer : List Placed) (answered more : List Reply) (line : ScriptLine) (p : Placed) (reply : Reply)
    → IsRunSoFar script k at gives now tree history answered
    → slice_get script k ≡ Some line → p.who ≡ line.who → p.nth ≡ length (calls_of (take k script) line.who)
    → IsMoment at now 0 p.at → (at ≡ None → (n : ℕ) (m : Moment) → next n m → now (n + 1) m)
    → IsReply p.fate tree line.call reply → left ≡ after_fate p.fate line.call p.at tree
    → longer ≡ history ++ p ∷ [] → more ≡ answered ++ reply ∷ [] → IsRunSoFar script (k + 1) at gives next left longer more
run_goes_on script k at gives now next tree left history longer answered more line p reply so_far found who nth moment later answers leaves is_longer is_more =
    let grown : take (k + 1) script ≡ take k script ++ line ∷ [] =
    take_more script k line (slice_get_within script k line found) ∙ ap (λ l. take k script ++ l ∷ []) (get_or_from_slice_get script k line line found) in
    let called : slice_get (calls_of script p.who) p.nth ≡ Some line.call =
    ap (λ w. slice_get (calls_of script w) p.nth) who ∙ ap (slice_get (calls_of script line.who)) nth ∙ call_at_line script k line found in
    rw (is_longer, is_more) record {
      first = so_far.first;
      begins = so_far.begins;
      later = λ none n m gave.
          let same : (n + 1) + (k + 1) ≡ n + ((k + 1) + 1) = omega arith in
          subst (λ j. gives j m) same (so_far.later none (n + 1) m (later none n m gave));
      count = length_push history p ∙ ap (λ n. n + 1) so_far.count;
      tree_is = leaves ∙ ap (after_fate p.fate line.call p.at) so_far.tree_is
          ∙ sym (placed_is (calls_of script) (replay (calls_of script) (empty_tree so_far.first) history) p.who p.nth p.at p.fate line.call called)
          ∙ sym (replay_push (calls_of script) (empty_tree so_far.first) history p);
      lines = map-append (λ q. q.who) history (p ∷ []) ∙ ap (λ l. l ++ p.who ∷ []) so_far.lines ∙ ap (λ w. map (λ l. l.who) (take k script) ++ w ∷ []) who
          ∙ sym (ap (map (λ l. l.who)) grown ∙ map-append (λ l. l.who) (take k script) (line ∷ []));
      placed = subst (λ s. IsInterleaving (calls_of s) (history ++ p ∷ [])) (sym grown) (interleaving_more (take k script) line history p who nth so_far.placed);
      moments = moments_more at gives history p so_far.moments
          (subst (λ n. IsMoment at gives (n + 1) p.at) (sym so_far.count) (moment_at at gives now k p.at so_far.later moment));
      replies = replies_more (calls_of script) (empty_tree so_far.first) history answered p line.call reply so_far.replies called
          (subst (λ t. IsReply p.fate t line.call reply) so_far.tree_is answers);
    }

-- once every line is done, the log is that of a plain run
pub run_ends : (script : List ScriptLine) (k : ℕ) (at : Option Moment) (gives now : Gives) (tree : Tree) (history : List Placed) (answered : List Reply) (log : Log)
    → IsRunSoFar script k at gives now tree history answered → length script ≤ k → log.history ≡ history → log.replies ≡ answered → log.acks ≡ [] → log.events ≡ []
    → IsPlainRun at gives script log
run_ends script k at gives now tree history answered log so_far all is_history is_replies no_acks no_events =
    let whole : take k script ≡ script = take_all k script all in record {
      first = so_far.first;
      begins = so_far.begins;
      lines = ap (map (λ p. p.who)) is_history ∙ so_far.lines ∙ ap (map (λ l. l.who)) whole;
      history = subst (IsInterleaving (calls_of script)) (sym is_history) (subst (λ s. IsInterleaving (calls_of s) history) whole so_far.placed);
      moments = subst (AreMoments at gives) (sym is_history) so_far.moments;
      replies = subst (AreReplies (calls_of script) (IsPlainReply (calls_of script) (empty_tree so_far.first)) log.history) (sym is_replies)
          (subst (λ h. AreReplies (calls_of script) (IsPlainReply (calls_of script) (empty_tree so_far.first)) h answered) (sym is_history) so_far.replies);
      no_acks = no_acks;
      no_events = no_events;
    }
