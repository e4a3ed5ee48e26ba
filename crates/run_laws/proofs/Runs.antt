-- A volume that was played and closed gives the log of a run, and the run ends as the close did.
use Rattle.std.specs.Prelude.{◌≡◌, ℕ, Bool, true, false, List, filter_map, length, map, Option, Some, take}
use Rattle.std.proofs.Common.{ap, refl, sym, subst, ◌∙◌, arith}
use Rattle.tape_types.specs.declared.moments.Moment.{Moment}
use Rattle.plain_tree.specs.History.{replay}
use Rattle.plain_tree.specs.Tree.{Tree}
use Rattle.plain_tree.specs.declared.calls.Placed.{Placed}
use Rattle.session_script.specs.Grammar.{calls_of}
use Rattle.session_script.specs.declared.logs.Ack.{Ack}
use Rattle.session_script.specs.declared.logs.Event.{Event}
use Rattle.session_script.specs.declared.logs.Log.{Log}
use Rattle.session_script.specs.declared.logs.Reply.{Reply}
use Rattle.session_script.specs.declared.scripts.ScriptLine.{ScriptLine}
use Rattle.tape_drive.specs.declared.drive.Drive.{Ghosts}
use Rattle.tape_layout.specs.Ops.{place_of}
use Rattle.cartridge_meaning.specs.Carried.{Carried, carried}
use Rattle.cartridge_meaning.specs.declared.mounted.Mounted.{Mounted}
use Rattle.space_laws.specs.Closing.{closing}
use Rattle.space_laws.specs.Standing.{Given, admitted}
use Rattle.space_laws.specs.Mount.{was_sealed, where_sealed}
use Rattle.promises.specs.ServingPromise.Ends.{Closes, IsCloseShort, IsDoneClose, IsEnd, IsOpenEnd, IsSealedClose, IsSealedEnd, IsShortOnDp, LeavesTree, TellsNodes}
use Rattle.promises.specs.ServingPromise.Headline.{IsOn, IsTrueLog, tree_of_log}
use Rattle.promises.specs.ServingPromise.Meanings.{cartridges}
use Rattle.promises.specs.ServingPromise.Mount.{facts_of}
use Rattle.promises.specs.ServingPromise.Replies.{AreReplies}
use Rattle.promises.specs.ServingPromise.Served.{CanTell, IsTrue, View, given, given_of, queued, tree_after}
use Rattle.promises.specs.declared.serving_promise.answers.CloseEnd.{CloseEnd}
use Rattle.promises.specs.declared.serving_promise.answers.CloseEnd.TheVariants as ends
use Rattle.promises.specs.OrderLaws.Kept.{seen}
use Rattle.run_laws.specs.LogLaws.Acts.{HasGone, IsServedThen, SurvivesThen}
use Rattle.run_laws.specs.LogLaws.Logged.{IsAskedRightly}
use Rattle.run_laws.proofs.LogLaws.Gone.{gone_also}
use Rattle.run_laws.specs.Laws.{EndsSo, IsPlayed, PlaysAreRuns}
use Rattle.run_laws.specs.Went.{IsFoundThen, IsRunBy, WentBy}
use Rattle.run_laws.proofs.Began.{IsFound, ReadsAs, StandsSound, same_mounted, same_read, same_stood, same_stood_facts, told_read, told_stood}
use Rattle.run_laws.proofs.Ends.{done_since}
use Rattle.run_laws.proofs.Logs.{events_are, history_is, last_is, replies_are, served_log}

module _ {D : Type 0} (drive : Ghosts D) (script : List ScriptLine) (at : Option Moment) (start : D) (v : View D)
    (now : D) (log : Log) (outcome : CloseEnd) (step_count travel_sum nodes : ℕ)
    (played : IsPlayed drive script at start v)
    (closes : Closes cartridges (seen drive v.fixed.first) (seen drive v.drive) (seen drive now) v now log outcome
    step_count travel_sum nodes) where
  -- the history, the events and the replies of the volume are those of the log
  pub history : v.history ≡ log.history
  history = history_is drive script at start v log played closes.log_is

  events : v.events ≡ log.events
  events = events_are drive script at start v log played closes.log_is

  replies : v.replies ≡ map Some log.replies
  replies = replies_are drive script at start v log played closes.log_is

  module _ (mounted : Mounted) (tree : Tree)
      (can : CanTell (IsFound mounted tree) (drive.commands start) (seen drive start)) where
    -- the volume was served from this mount
    pub mounted_is : v.fixed.mounted ≡ mounted
    mounted_is = sym (same_mounted drive played.most start v.fixed.first played.looked v.fixed.since played.since
        v.fixed.mounted v.fixed.tree played.mounted mounted tree can)

    -- the volume was served with this tree
    pub tree_is : v.fixed.tree ≡ tree
    tree_is = sym (same_read drive played.most start v.fixed.first played.looked v.fixed.since played.since
        v.fixed.mounted v.fixed.tree played.mounted mounted tree can)

    -- as the volume began its drive told a cartridge that read as its tree
    pub told : CanTell (ReadsAs v.fixed.mounted v.fixed.tree) v.fixed.since (seen drive v.fixed.first)
    told = told_read drive played.most start v.fixed.first played.looked v.fixed.since played.since
        v.fixed.mounted v.fixed.tree played.mounted mounted tree can

    -- what the definitions of space start from is the same
    pub given_is : given v (seen drive v.fixed.first) ≡ given_of script tree mounted (seen drive start)
    given_is = λ i. record {
      calls = calls_of (played.script_is i);
      tree = tree_is i;
      mounted = facts_of (mounted_is i);
      limits = played.looked.limits i;
    }

    truth : IsTrue (seen drive v.fixed.first) v
    truth = played.served.truly told

    -- the history and its events asked rightly of what stood at the start
    pub rightly : IsAskedRightly (given_of script tree mounted (seen drive start)) v.on log.history log.events
    rightly = subst (λ (e : Given × List Placed × List Event). IsAskedRightly e.0 v.on e.1 e.2)
        (λ i. (given_is i, history i, events i)) (played.logged.truly told)

    true_log : IsTrueLog script tree mounted (seen drive start) log
    true_log = record {
      on = v.on;
      on_is = rightly.on_is;
      replies = subst
          (λ (e : Given × List Placed × List Event × List (Option Reply)). AreReplies e.0 v.on e.1 e.2 e.3)
          (λ i. (given_is i, history i, events i, replies i)) truth.replies;
      ops = subst
          (λ (e : Given × List Placed × List Event).
          filter_map queued e.2 ≡ map place_of (admitted e.0 v.on e.1))
          (λ i. (given_is i, history i, events i)) truth.ops;
      blocks = rightly.blocks;
      asked = rightly.asked;
      groups = rightly.groups;
      drains = rightly.drains;
    }

    -- the nodes that a close tells
    nodes_of : TellsNodes outcome (tree_of_log script tree log (length log.history)) nodes
    nodes_of =
        subst
        (λ (e : Tree × List Placed × List ScriptLine).
        TellsNodes outcome (replay (calls_of e.2) e.0 (take (length e.1) e.1)) nodes)
        (λ i. (tree_is i, history i, played.script_is i)) (closes.nodes_are told)

    -- a close that is done, and one that is short
    done : (m : Moment) (generation : ℕ)
        → IsDoneClose cartridges (seen drive v.fixed.first) (seen drive now) v.fixed.mounted v.fixed.tree
        (tree_after v (length v.history))
        (closing (given v (seen drive v.fixed.first)) v.on v.history m).space.newest generation
        → IsDoneClose cartridges (seen drive start) (seen drive now) mounted tree
        (tree_of_log script tree log (length log.history))
        (closing (given_of script tree mounted (seen drive start)) v.on log.history m).space.newest generation
    done m generation d =
        done_since cartridges (seen drive v.fixed.first) (seen drive start) (seen drive now) mounted tree
        (tree_of_log script tree log (length log.history))
        (closing (given_of script tree mounted (seen drive start)) v.on log.history m).space.newest generation
        played.looked.held
        (subst
        (λ (e : Given × List Placed × Mounted × Tree × List ScriptLine).
        IsDoneClose cartridges (seen drive v.fixed.first) (seen drive now) e.2 e.3
        (replay (calls_of e.4) e.3 (take (length e.1) e.1)) (closing e.0 v.on e.1 m).space.newest generation)
        (λ i. (given_is i, history i, mounted_is i, tree_is i, played.script_is i)) d)

    short : (m : Moment) (need limit : ℕ)
        → IsCloseShort (given v (seen drive v.fixed.first)) v.on v.history m need limit
        → IsCloseShort (given_of script tree mounted (seen drive start)) v.on log.history m need limit
    short m need limit is =
        subst (λ (e : Given × List Placed). IsCloseShort e.0 v.on e.1 m need limit) (λ i. (given_is i, history i)) is

    -- one that is short on the index partition alone leaves the tree of the whole history
    leaves_tree : (CanTell (StandsSound (carried v.fixed.mounted.index) v.fixed.tree v.fixed.mounted.newest)
        v.fixed.since (seen drive v.fixed.first)
        → ¬ IsShortOnDp (given v (seen drive v.fixed.first)) v.on v.history closes.at
        → LeavesTree cartridges (carried v.fixed.mounted.index) (tree_after v (length v.history)) (seen drive now))
        → CanTell (StandsSound (carried mounted.index) tree mounted.newest) (drive.commands start) (seen drive start)
        → ¬ IsShortOnDp (given_of script tree mounted (seen drive start)) v.on log.history closes.at
        → LeavesTree cartridges (carried mounted.index) (tree_of_log script tree log (length log.history))
        (seen drive now)
    leaves_tree leaves serve fits =
        let same : ◌≡◌ {A = Given × List Placed} (given v (seen drive v.fixed.first), v.history)
        (given_of script tree mounted (seen drive start), log.history) =
        λ i. (given_is i, history i) in
        subst
        (λ (e : List Placed × Mounted × Tree × List ScriptLine).
        LeavesTree cartridges (carried e.1.index) (replay (calls_of e.3) e.2 (take (length e.0) e.0)) (seen drive now))
        (λ i. (history i, mounted_is i, tree_is i, played.script_is i))
        (leaves
        (told_stood drive played.most start v.fixed.first played.looked v.fixed.since played.since v.fixed.mounted
        v.fixed.tree played.mounted (carried mounted.index) tree mounted.newest serve)
        (λ short. fits (subst (λ (e : Given × List Placed). IsShortOnDp e.0 v.on e.1 closes.at) same short)))

    -- one that is done had the space
    roomy : (m : Moment)
        → ((need limit : ℕ) → ¬ IsCloseShort (given v (seen drive v.fixed.first)) v.on v.history m need limit)
        → (need limit : ℕ)
        → ¬ IsCloseShort (given_of script tree mounted (seen drive start)) v.on log.history m need limit
    roomy m room need limit is =
        let same : ◌≡◌ {A = Given × List Placed} (given v (seen drive v.fixed.first), v.history)
        (given_of script tree mounted (seen drive start), log.history) =
        λ i. (given_is i, history i) in
        room need limit (subst (λ (e : Given × List Placed). IsCloseShort e.0 v.on e.1 m need limit) (sym same) is)

  -- what a crash leaves by a moment, as it is said since the run began
  found_then : (placed : List Placed) (acks : List Ack) (d : D)
      → IsServedThen drive cartridges v.fixed placed acks d → IsFoundThen drive script start placed acks d
  found_then placed acks d served facts tree generation can =
      let facts_are : carried v.fixed.mounted.index ≡ facts =
      sym (same_stood_facts drive played.most start v.fixed.first played.looked v.fixed.since played.since
      v.fixed.mounted v.fixed.tree played.mounted facts tree generation can) in
      let tree_is : v.fixed.tree ≡ tree =
      sym (same_stood drive played.most start v.fixed.first played.looked v.fixed.since played.since
      v.fixed.mounted v.fixed.tree played.mounted facts tree generation can) in
      subst
      (λ (e : Carried × Tree × List ScriptLine × ℕ). SurvivesThen drive cartridges e.2 e.0 e.1 e.3 placed acks d)
      (λ i. (facts_are i, tree_is i, played.script_is i, played.since i))
      (served (told_stood drive played.most start v.fixed.first played.looked v.fixed.since played.since v.fixed.mounted
      v.fixed.tree played.mounted facts tree generation can))

  acks : v.acks ≡ log.acks
  acks = sym closes.log_is.acks

  went : WentBy drive script start now log
  went = record {
    most = played.most;
    first = v.fixed.first;
    last = v.drive;
    looked = played.looked;
    mounted = λ c told.
        let found = played.mounted c told in (v.fixed.mounted, v.fixed.tree, found.0, found.1);
    gone = subst
        (λ (e : List Placed × List Event × List Ack).
        HasGone drive (IsFoundThen drive script start) v.fixed.first e.0 e.1 e.2 v.drive)
        (λ i. (history i, events i, acks i))
        (gone_also drive (IsServedThen drive cartridges v.fixed) (IsFoundThen drive script start) v.fixed.first v.drive
        v.history v.events v.acks found_then played.gone);
    commands = closes.later;
    faults = closes.faults;
  }

  run : IsRunBy drive script at start now log
  run = record {
    serves = record {
      log_is = served_log drive script at start v log played closes.log_is now closes.later closes.faults;
      truly = λ tree mounted can. true_log mounted tree can;
      crash = subst (λ (e : List Placed × List Ack). IsFoundThen drive script start e.0 e.1 now)
          (λ i. (history i, acks i)) (found_then v.history v.acks now closes.crash);
    };
    went = went;
  }

  -- ---- how the run ends, by how the close did

  -- it is done, and the volume wasn't mounted as sealed
  abbrev EndsOpen : Tree → Mounted → ℕ → Type 0
  EndsOpen tree mounted generation =
      (on : Option ℕ) × (m : Moment)
      × IsOn (given_of script tree mounted (seen drive start)) log.events log.history on
      × IsDoneClose cartridges (seen drive start) (seen drive now) mounted tree
      (tree_of_log script tree log (length log.history))
      (closing (given_of script tree mounted (seen drive start)) on log.history m).space.newest generation
      × ((need limit : ℕ)
      → ¬ IsCloseShort (given_of script tree mounted (seen drive start)) on log.history m need limit)

  module _ (tree : Tree) (mounted : Mounted)
      (can : CanTell (IsFound mounted tree) (drive.commands start) (seen drive start)) where
    -- whether the volume was sealed is as it was mounted
    seal_is : was_sealed v.fixed.mounted.index ≡ was_sealed mounted.index
    seal_is = ap (λ (m : Mounted). was_sealed m.index) (mounted_is mounted tree can)

    sealed_close : (generation : ℕ)
        → IsSealedClose (seen drive v.fixed.first) (seen drive now) v.fixed.mounted generation
        → IsSealedClose (seen drive start) (seen drive now) mounted generation
    sealed_close generation c = record {
      generation_is = c.generation_is ∙ ap (λ (m : Mounted). m.newest) (mounted_is mounted tree can);
      held = c.held ∙ played.looked.held;
      sure = c.sure;
    }

    done_so : (generation : ℕ) (was : Bool)
        → where_sealed was
        (IsSealedEnd cartridges (seen drive v.fixed.first) (seen drive now) v now (ends.Done generation))
        (IsOpenEnd cartridges (seen drive v.fixed.first) (seen drive v.drive) (seen drive now) v now closes.at
        (ends.Done generation))
        → where_sealed was (IsSealedClose (seen drive start) (seen drive now) mounted generation)
        (EndsOpen tree mounted generation)
    done_so generation true e = sealed_close generation (e.1 (told mounted tree can))
    done_so generation false e = (
      v.on,
      closes.at,
      (rightly mounted tree can).on_is,
      done mounted tree can closes.at generation (e.1 (told mounted tree can)),
      roomy mounted tree can closes.at e.0,
    )

  -- a close that ends in another way than being done is one of a volume that wasn't sealed
  unsealed : (end : CloseEnd) (was : Bool)
      → (IsSealedEnd cartridges (seen drive v.fixed.first) (seen drive now) v now end → ⊥)
      → where_sealed was (IsSealedEnd cartridges (seen drive v.fixed.first) (seen drive now) v now end)
      (IsOpenEnd cartridges (seen drive v.fixed.first) (seen drive v.drive) (seen drive now) v now closes.at end)
      → (was ≡ false)
      × IsOpenEnd cartridges (seen drive v.fixed.first) (seen drive v.drive) (seen drive now) v now closes.at end
  unsealed end true none e = absurd (none e)
  unsealed end false none e = (refl, e)

  ends_so : (end : CloseEnd)
      → IsEnd cartridges (seen drive v.fixed.first) (seen drive v.drive) (seen drive now) v now closes.at end
      → EndsSo drive script start now log end
  ends_so (ends.Done generation) e =
      λ tree mounted can.
      subst
      (λ was. where_sealed was (IsSealedClose (seen drive start) (seen drive now) mounted generation)
      (EndsOpen tree mounted generation))
      (seal_is tree mounted can)
      (done_so tree mounted can generation (was_sealed v.fixed.mounted.index) e)
  ends_so (ends.Full need limit) e =
      let open_end = unsealed (ends.Full need limit) (was_sealed v.fixed.mounted.index) (λ none. none) e in
      λ tree mounted can. (
        sym (seal_is tree mounted can) ∙ open_end.0,
        v.on,
        closes.at,
        (rightly mounted tree can).on_is,
        short mounted tree can closes.at need limit open_end.1.0,
        leaves_tree mounted tree can open_end.1.2,
      )
  ends_so (ends.Fault counts) e =
      let open_end = unsealed (ends.Fault counts) (was_sealed v.fixed.mounted.index) (λ none. none) e in (
        record {
          lowest = omega (
            arith,
            last_is drive script at start v log played closes.log_is
                (served_log drive script at start v log played closes.log_is v.drive (omega arith) (omega arith)).faults,
            open_end.1.lowest,
          );
          rose = open_end.1.rose;
          highest = open_end.1.highest;
        },
        λ tree mounted can. sym (seal_is tree mounted can) ∙ open_end.0,
      )
  ends_so ends.NoMemory e = tt

-- a volume that was played and closed gives the log of a run
pub plays_are_runs : {D : Type 0} (drive : Ghosts D) → PlaysAreRuns drive
plays_are_runs drive script at start v now log outcome step_count travel_sum nodes played closes = record {
  run = run drive script at start v now log outcome step_count travel_sum nodes played closes;
  end = ends_so drive script at start v now log outcome step_count travel_sum nodes played closes outcome closes.end;
  nodes_are = λ tree mounted can.
      nodes_of drive script at start v now log outcome step_count travel_sum nodes played closes mounted tree can;
}
