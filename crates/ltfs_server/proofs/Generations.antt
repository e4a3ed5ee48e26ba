-- That a run which was closed leaves its own indexes as the top of the chain.
use Rattle.std.specs.Prelude.{Contains, map, take}
use Rattle.std.proofs.Common.{◌≡◌, ◌≢◌, ◌∙◌, ℕ, ◌+◌, ◌<◌, ◌≤◌, ◌&&◌, not, if◌then◌else◌, List, [], ◌∷◌, ◌++◌, length, reverse, Option, Some, None}
use Rattle.std.proofs.Common.{inl, inr, refl, sym, ap, subst, arith, length-append}
use Rattle.std.specs.List.{AllByRecursion}
use Rattle.std.proofs.Math.Seq.{take-append-add}
use Rattle.std.proofs.lemmas.List.{append_assoc, length-reverse, reverse-append}
use Rattle.std.proofs.lemmas.Option.{same_Some}
use Rattle.tape_types.specs.declared.cartridges.Cartridge.{Cartridge}
use Rattle.tape_types.specs.declared.moments.Moment.{Moment}
use Rattle.plain_tree.specs.History.{call_at}
use Rattle.plain_tree.specs.Tree.{Tree}
use Rattle.plain_tree.specs.declared.calls.Call.TheVariants.{Sync}
use Rattle.plain_tree.specs.declared.calls.Fate.TheVariants as fates
use Rattle.plain_tree.specs.declared.calls.Placed.{Placed}
use Rattle.index_model.specs.declared.indexes.Index.{Index}
use Rattle.ltfs_label.specs.declared.Label.{Label}
use Rattle.session_script.specs.declared.logs.Ack.{Ack}
use Rattle.session_script.specs.declared.logs.Log.{Log}
use Rattle.session_script.specs.declared.scripts.ScriptLine.{ScriptLine}
use Rattle.content_laws.specs.Readings.{Construct}
use Rattle.tape_drive.specs.declared.drive.Drive.{Ghosts}
use Rattle.cartridge_meaning.specs.Carried.{carried}
use Rattle.cartridge_meaning.specs.Meaning.{Found, IsTreeOf, Reads, ip_end}
use Rattle.cartridge_meaning.specs.Mounts.{Mounts}
use Rattle.cartridge_meaning.specs.Pointers.{indexes_of}
use Rattle.cartridge_meaning.specs.declared.labels.Labels.{Labels}
use Rattle.cartridge_meaning.specs.declared.mounted.Mounted.{Mounted}
use Rattle.cartridge_meaning.proofs.OneWay.{labels_once}
use Rattle.space_laws.specs.Closing.{is_dp_due}
use Rattle.space_laws.specs.Mount.{was_sealed}
use Rattle.space_laws.specs.Standing.{Given, standing}
use Rattle.space_laws.proofs.TreeLaw.{are_replays}
use Rattle.promises.specs.ServingPromise.Acks.{AreAcks}
use Rattle.promises.specs.ServingPromise.Headline.{tree_of_log}
use Rattle.promises.specs.ServingPromise.Replies.{AreReplies}
use Rattle.promises.specs.ServingPromise.Served.{CanTell, given_of}
use Rattle.promises.specs.OrderLaws.Kept.{seen}
use Rattle.volume_state.specs.ClosingLaws.Owned.{IsCovered, LinkDownTo, TellTrees, all_places, own_places}
use Rattle.volume_state.proofs.ClosingLaws.OwnSyncs.{sync_covered}
use Rattle.session_run.specs.Serving.{HasOwnOnTop}
use Rattle.generation_view.specs.Chain.{AreLinks, GenTree, IsLink, behind}
use Rattle.ltfs_server.specs.Generations.{LeavesGenerations, RunsLeaveGenerations}
use Rattle.ltfs_server.specs.Serving.{EndsRun}
use Rattle.ltfs_server.proofs.Acknowledged.{acks_are_done}
use Rattle.ltfs_server.proofs.ClosedRuns.{IsClosedBy, closed_by}

-- ---- links

module _ (label : Label) (c : Cartridge) (older : List Construct) where
  links_of : (after : Option ℕ) (ks : List Construct) (own : List Index) → LinkDownTo label (ip_end c) after older ks own
      → AreLinks label c after ks own
  links_of after ks [] l = tt
  links_of after [] (i ∷ own) l = absurd l
  links_of after (k ∷ ks) (i ∷ own) l = (
    record { of_volume = l.0.of_volume; points = l.0.points; rises = l.0.rises; within = l.0.within },
    links_of (Some i.generation) ks own l.1,
  )

  behind_is : (after : Option ℕ) (ks : List Construct) (own : List Index) → LinkDownTo label (ip_end c) after older ks own
      → behind ks own ≡ older
  behind_is after ks [] l = l
  behind_is after [] (i ∷ own) l = absurd l
  behind_is after (k ∷ ks) (i ∷ own) l = behind_is (Some i.generation) ks own l.1

-- the first of some links
links_front : (label : Label) (c : Cartridge) (after : Option ℕ) (ks : List Construct) (newer : List Index) (i : Index)
    (more : List Index) → AreLinks label c after ks (newer ++ i ∷ more) → AreLinks label c after ks (newer ++ i ∷ [])
links_front label c after [] [] i more l = absurd l
links_front label c after (k ∷ ks) [] i more l = (l.0, tt)
links_front label c after [] (j ∷ newer) i more l = absurd l
links_front label c after (k ∷ ks) (j ∷ newer) i more l =
    (l.0, links_front label c (Some j.generation) ks newer i more l.1)

-- ---- the index of a place

-- the index of a place, with those that are newer
record IsOfPlace (label : Label) (c : Cartridge) (generation : ℕ) (tree : Tree) (own : List Index) : Type 0 where
  newer : List Index
  index : Index
  more : List Index
  own_is : own ≡ newer ++ index ∷ more
  generation_is : index.generation ≡ generation
  tree_is : IsTreeOf label c index tree
  are_newer : AllByRecursion (λ i. generation < i.generation) newer

module _ (label : Label) (end : ℕ) (c : Cartridge) (newest : ℕ) (tree : ℕ → Tree) where
  of_place : (later : List ℕ) (place : ℕ) (earlier : List ℕ) (own : List Index)
      → TellTrees label end c newest tree (later ++ place ∷ earlier) own
      → IsOfPlace label c (newest + length (place ∷ earlier)) (tree place) own
  of_place [] place earlier [] t = absurd t
  of_place [] place earlier (i ∷ own) t = record {
    newer = [];
    index = i;
    more = own;
    own_is = refl;
    generation_is = t.0.generation_is;
    tree_is = t.0.tree_is;
    are_newer = tt;
  }
  of_place (q ∷ later) place earlier [] t = absurd t
  of_place (q ∷ later) place earlier (i ∷ own) t =
      let its = of_place later place earlier own t.1 in
      let long = length-append later (place ∷ earlier) in
      let above : newest + length (place ∷ earlier) < i.generation = omega (arith, t.0.generation_is, long) in
      record {
        newer = i ∷ its.newer;
        index = its.index;
        more = its.more;
        own_is = ap (λ (l : List Index). i ∷ l) its.own_is;
        generation_is = its.generation_is;
        tree_is = its.tree_is;
        are_newer = (above, its.are_newer);
      }

  as_many : (places : List ℕ) (own : List Index) → TellTrees label end c newest tree places own
      → length own ≡ length places
  as_many [] [] t = refl
  as_many [] (i ∷ own) t = absurd t
  as_many (p ∷ places) [] t = absurd t
  as_many (p ∷ places) (i ∷ own) t = omega (arith, as_many places own t.1)

-- so a generation has its tree
gen_tree : (c : Cartridge) (found : Found c) (generation : ℕ) (tree : Tree) (own : List Index)
    → AreLinks found.labels.ip c None (indexes_of c.dp) own → IsOfPlace found.labels.ip c generation tree own
    → GenTree c found generation tree
gen_tree c found generation tree own links its = record {
  newer = its.newer;
  index = its.index;
  way = record {
    links_are = links_front found.labels.ip c None (indexes_of c.dp) its.newer its.index its.more
        (subst (λ (l : List Index). AreLinks found.labels.ip c None (indexes_of c.dp) l) its.own_is links);
    are_newer = its.are_newer;
    is_not = λ less. absurd (omega (arith, less, its.generation_is));
  };
  generation_is = its.generation_is;
  tree_is = its.tree_is;
}

-- a place of a list, the newest first
reversed : (front : List ℕ) (place : ℕ) (rest : List ℕ)
    → reverse (front ++ place ∷ rest) ≡ reverse rest ++ place ∷ reverse front
reversed front place rest =
    ap reverse (sym (append_assoc front (place ∷ []) rest)) ∙ reverse-append (front ++ place ∷ []) rest
    ∙ ap (λ (l : List ℕ). reverse rest ++ l) (reverse-append front (place ∷ []))

-- ---- a run

module _ {D : Type 0} (drive : Ghosts D) (old new : D) (moment : Option Moment) (script : List ScriptLine) (log : Log)
    (tree : Tree) (mounted : Mounted) (first : Cartridge)
    (top : HasOwnOnTop drive old new moment script log tree mounted first) (found : Found top.held) where
  label_is : mounted.label ≡ found.labels.ip
  label_is = top.label_is
      ∙ ap (λ (l : Labels). l.ip) (labels_once top.held top.labels found.labels top.has_labels found.forms.has)

  links : LinkDownTo found.labels.ip (ip_end top.held) None (indexes_of first.dp) (indexes_of top.held.dp) top.has.own
  links = subst (λ (l : Label).
      LinkDownTo l (ip_end top.held) None (indexes_of first.dp) (indexes_of top.held.dp) top.has.own) label_is top.has.links

  abbrev places : List ℕ
  places = all_places (given_of script tree mounted (seen drive old)) top.on log.history

  trees : TellTrees found.labels.ip (ip_end top.held) top.held mounted.newest (tree_of_log script tree log)
      (reverse places) top.has.own
  trees = subst (λ (l : Label). TellTrees l (ip_end top.held) top.held mounted.newest (tree_of_log script tree log)
      (reverse places) top.has.own) label_is top.has.trees

  are_links : AreLinks found.labels.ip top.held None (indexes_of top.held.dp) top.has.own
  are_links = links_of found.labels.ip top.held (indexes_of first.dp) None (indexes_of top.held.dp) top.has.own links

  tree_at : (front : List ℕ) (place : ℕ) (rest : List ℕ) → places ≡ front ++ place ∷ rest
      → GenTree top.held found (mounted.newest + length front + 1) (tree_of_log script tree log place)
  tree_at front place rest is =
      let its = of_place found.labels.ip (ip_end top.held) top.held mounted.newest (tree_of_log script tree log)
      (reverse rest) place (reverse front) top.has.own
      (subst (λ (l : List ℕ). TellTrees found.labels.ip (ip_end top.held) top.held mounted.newest
      (tree_of_log script tree log) l top.has.own) (ap reverse is ∙ reversed front place rest) trees) in
      let long : mounted.newest + length (place ∷ reverse front) ≡ mounted.newest + length front + 1 =
      omega (arith, length-reverse front) in
      subst (λ (n : ℕ). GenTree top.held found n (tree_of_log script tree log place)) long
      (gen_tree top.held found (mounted.newest + length (place ∷ reverse front)) (tree_of_log script tree log place)
      top.has.own are_links its)

  abbrev g : Given
  g = given_of script tree mounted (seen drive old)

  abbrev closing : List ℕ
  closing = if not (was_sealed mounted.index) && is_dp_due g (standing g top.on log.history (length log.history)).space
      then length log.history ∷ [] else []

  -- the same tree stands at two places
  same_tree : (j k : ℕ) → (standing g top.on log.history j).tree ≡ (standing g top.on log.history k).tree
      → tree_of_log script tree log j ≡ tree_of_log script tree log k
  same_tree j k is = sym (are_replays g top.on log.history j) ∙ is ∙ are_replays g top.on log.history k

  synced_at : (front : List Placed) (p : Placed) (rest : List Placed) → log.history ≡ front ++ p ∷ rest
      → p.fate ≡ fates.Done → call_at g.calls p ≡ Some Sync → own_places g top.on (front ++ p ∷ []) ≢ []
      → GenTree top.held found (standing g top.on log.history (length front + 1)).space.newest
      (tree_of_log script tree log (length front))
  synced_at front p rest is done called some =
      let its : IsCovered g top.on log.history (length front) =
      subst (λ (h : List Placed). IsCovered g top.on h (length front)) (sym is)
      (sync_covered g top.on front p rest done called some) in
      let there : places ≡ its.earlier ++ its.place ∷ (its.later ++ closing) =
      ap (λ (l : List ℕ). l ++ closing) its.are ∙ append_assoc its.earlier (its.place ∷ its.later) closing in
      subst (λ (n : ℕ). GenTree top.held found n (tree_of_log script tree log (length front))) (sym its.newest)
      (subst (λ (t : Tree). GenTree top.held found (mounted.newest + length its.earlier + 1) t)
      (sym (same_tree (length front) its.place its.tree))
      (tree_at its.earlier its.place (its.later ++ closing) there))

  module _ (log_on : Option ℕ) (replies : AreReplies g log_on log.history log.events (map Some log.replies))
      (acks : AreAcks log.events (map Some log.replies) log.acks) where
    acknowledged_at : (ack : Ack) → Contains log.acks ack → own_places g top.on (take (ack.place + 1) log.history) ≢ []
        → GenTree top.held found (standing g top.on log.history (ack.place + 1)).space.newest
        (tree_of_log script tree log ack.place)
    acknowledged_at ack there some =
        let its = acks_are_done g log_on log.history log.events (map Some log.replies) replies log.acks acks ack there in
        let first_ones : take (ack.place + 1) log.history ≡ its.front ++ its.p ∷ [] =
        ap (λ (n : ℕ). take (n + 1) log.history) (sym its.count)
        ∙ ap (λ (h : List Placed). take (length its.front + 1) h) its.history_is
        ∙ take-append-add its.front (its.p ∷ its.rest) 1 in
        subst (λ (n : ℕ). GenTree top.held found (standing g top.on log.history (n + 1)).space.newest
        (tree_of_log script tree log n)) its.count
        (synced_at its.front its.p its.rest its.history_is its.done its.called
        (λ none. some (ap (own_places g top.on) first_ones ∙ none)))

    pub generations : LeavesGenerations script tree mounted g top.on first top.held log
    generations = record {
      found = found;
      own = top.has.own;
      links = are_links;
      older = behind_is found.labels.ip top.held (indexes_of first.dp) None (indexes_of top.held.dp) top.has.own links;
      count = as_many found.labels.ip (ip_end top.held) top.held mounted.newest (tree_of_log script tree log)
          (reverse places) top.has.own trees
          ∙ length-reverse places;
      trees = tree_at;
      synced = synced_at;
      acknowledged = acknowledged_at;
    }

-- what is found of the cartridge of a run that was closed
found_by : {D : Type 0} (drive : Ghosts D) (old new : D) (script : List ScriptLine) (log : Log) (generation : ℕ)
    (tree : Tree) (mounted : Mounted) (first held : Cartridge) → drive.held old ≡ Some first
    → drive.held new ≡ Some held → Found first
    → IsClosedBy script (seen drive old) (seen drive new) log generation tree mounted → Found held
found_by drive old new script log generation tree mounted first held was told found (inl (is, closed)) =
    subst (λ (c : Cartridge). Found c) (same_Some first held (sym was ∙ sym closed.held ∙ told)) found
found_by drive old new script log generation tree mounted first held was told found (inr (newest, done)) =
    subst (λ (c : Cartridge). Found c) (same_Some done.held held (sym done.told ∙ told)) done.closed.stands.reads.found

-- a run that was closed leaves its own indexes as the top of the chain
pub runs_leave_generations : {D : Type 0} (drive : Ghosts D) → RunsLeaveGenerations drive
runs_leave_generations drive old new moment script log generation tree mounted first ends can told =
    let top = ends.own tree mounted first can told in
    let found = found_by drive old new script log generation tree mounted can.held top.held can.told top.told
    can.reads_as.0.found
    (closed_by script (seen drive old) (seen drive new) log generation tree mounted ends.ends can) in
    let true_log = ends.run.serves.truly tree mounted can in (
      top.held,
      top.told,
      (
        top.on,
        top.on_is,
        generations drive old new moment script log tree mounted first top found true_log.on true_log.replies
            ends.run.serves.log_is.acks,
      ),
    )
