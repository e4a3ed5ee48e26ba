-- What the pieces of an index tell of times is of moments, and so an index tells it.
use Rattle.std.proofs.Common.{◌≡◌, ℕ, zero, suc, ◌==◌, cond, List, [], ◌∷◌, ◌++◌, map, true, false, Option, Some, None, refl, subst}
use Rattle.std.specs.Prelude.{IfSome}
use Rattle.std.specs.List.{AllByRecursion}
use Rattle.tape_types.specs.declared.moments.Times.{Times}
use Rattle.tape_types.specs.declared.times.Civil.{Civil}
use Rattle.tape_types.specs.Times.{civil_of}
use Rattle.ltfs_documents.specs.declared.doc_fields.tags.Tag.{Tag}
use Rattle.ltfs_documents.specs.declared.doc_fields.tags.Tag.TheVariants.{UpdateTime, CreationTime, ChangeTime, ModifyTime, AccessTime, BackupTime}
use Rattle.ltfs_documents.proofs.DocFields.Moments.{HasMoment}
use Rattle.ltfs_documents.specs.DocElements.Children.{code}
use Rattle.ltfs_documents.specs.declared.doc_elements.schema.Container.{Container}
use Rattle.ltfs_documents.specs.declared.doc_elements.schema.Container.TheVariants as place
use Rattle.ltfs_documents.specs.DocElements.Elements.{IsTimed, IsTimedPiece, plain}
use Rattle.ltfs_documents.specs.DocElements.Pieces.{Piece, Val, bytes, closes, leaf, letter, lock, number, opens, time, truth, uuid, whole, words}
use Rattle.ltfs_documents.proofs.DocElements.Timed.{reached_timed}
use Rattle.index_model.specs.declared.indexes.Index.{Index}
use Rattle.index_model.specs.declared.nodes.NodeKind.{NodeKind}
use Rattle.index_model.specs.declared.nodes.NodeKind.TheVariants as kinds
use Rattle.index_model.specs.declared.nodes.Node.{Node}
use Rattle.index_model.specs.Grammar.{own}
use Rattle.index_model.specs.Values.{NodeValue, TimesValue, times_of, value_of, volume_of}
use Rattle.index_read.specs.Told.{Level, State, Tell, begun, blank, blank_node, changed, ended, epoch, leaf_told, levels_after, node_in, node_with, outermost, piece_told, time_or, with_extent, with_xattr}
use Rattle.index_read.specs.Walks.{IsWhole}

-- ---- what they tell

abbrev IsTimedOption : Option Val → Type 0
IsTimedOption o = IfSome o IsTimed

own_timed : (t u : Tag) (v : Val) → IsTimed v → IsTimedOption (own t (plain u v))
own_timed t u v h = elim (code t == code u) as (λ b. IsTimedOption (cond b (Some v) None)) [ true ↦ h | false ↦ tt ]

time_timed : (old : Civil) (o : Option Val) → HasMoment old → IsTimedOption o → HasMoment (time_or old o)
time_timed old None h k = h
time_timed old (Some (time c)) h k = k
time_timed old (Some (words t)) h k = h
time_timed old (Some (uuid n)) h k = h
time_timed old (Some (letter b)) h k = h
time_timed old (Some (number n)) h k = h
time_timed old (Some (truth b)) h k = h
time_timed old (Some (lock s)) h k = h
time_timed old (Some (bytes bs)) h k = h

pub record HaveMoments (t : TimesValue) : Type 0 where
  pub create : HasMoment t.create
  pub change : HasMoment t.change
  pub modify : HasMoment t.modify
  pub access : HasMoment t.access
  pub backup : HasMoment t.backup

abbrev IsTimedNode : NodeValue → Type 0
IsTimedNode n = HaveMoments n.facts.times

pub record IsTimedState (s : State) : Type 0 where
  pub updated : HasMoment s.volume.updated
  pub nodes : AllByRecursion IsTimedNode s.nodes

at_epoch : HasMoment (civil_of epoch)
at_epoch = (epoch, refl)

blank_times : (parent : ℕ) (kind : NodeKind) → IsTimedNode (blank_node parent kind)
blank_times parent kind = record { create = at_epoch; change = at_epoch; modify = at_epoch; access = at_epoch; backup = at_epoch }

node_timed : (t : Tag) (v : Val) (n : NodeValue) → IsTimed v → IsTimedNode n → IsTimedNode (node_with (plain t v) n)
node_timed t v n h k = record {
  create = time_timed n.facts.times.create (own CreationTime (plain t v)) k.create (own_timed CreationTime t v h);
  change = time_timed n.facts.times.change (own ChangeTime (plain t v)) k.change (own_timed ChangeTime t v h);
  modify = time_timed n.facts.times.modify (own ModifyTime (plain t v)) k.modify (own_timed ModifyTime t v h);
  access = time_timed n.facts.times.access (own AccessTime (plain t v)) k.access (own_timed AccessTime t v h);
  backup = time_timed n.facts.times.backup (own BackupTime (plain t v)) k.backup (own_timed BackupTime t v h);
}

all_changed : {X : Type 0} (P : X → Type 0) (f : X → X) (at : ℕ) (xs : List X) → ((x : X) → P x → P (f x)) → AllByRecursion P xs → AllByRecursion P (changed at f xs)
all_changed P f at [] each all = tt
all_changed P f zero (x ∷ xs) each all = (each x all.0, all.1)
all_changed P f (suc at) (x ∷ xs) each all = (all.0, all_changed P f at xs each all.1)

all_more : {X : Type 0} (P : X → Type 0) (xs : List X) (x : X) → AllByRecursion P xs → P x → AllByRecursion P (xs ++ x ∷ [])
all_more P [] x all h = (h, tt)
all_more P (y ∷ xs) x all h = (all.0, all_more P xs x all.1 h)

begun_timed : (p : Container) (node : ℕ) (s : State) → IsTimedState s → IsTimedState (begun p node s)
begun_timed place.Here node s h = record { updated = h.updated; nodes = h.nodes }
begun_timed place.Back node s h = record { updated = h.updated; nodes = h.nodes }
begun_timed place.Criteria node s h = record { updated = h.updated; nodes = h.nodes }
begun_timed place.Root node s h = record { updated = h.updated; nodes = all_more IsTimedNode s.nodes _ h.nodes (blank_times 0 kinds.Dir) }
begun_timed place.Directory node s h = record { updated = h.updated; nodes = all_more IsTimedNode s.nodes _ h.nodes (blank_times node kinds.Dir) }
begun_timed place.File node s h = record { updated = h.updated; nodes = all_more IsTimedNode s.nodes _ h.nodes (blank_times node (kinds.File 0 [])) }
begun_timed place.Extent node s h = record { updated = h.updated; nodes = h.nodes }
begun_timed place.Xattr node s h = record { updated = h.updated; nodes = h.nodes }
begun_timed _ node s h = h

leaf_told_timed : (p : Container) (node : ℕ) (t : Tag) (v : Val) (s : State) → IsTimed v → IsTimedState s → IsTimedState (leaf_told p node (plain t v) s)
leaf_told_timed place.Index node t v s k h = record { updated = time_timed s.volume.updated (own UpdateTime (plain t v)) h.updated (own_timed UpdateTime t v k); nodes = h.nodes }
leaf_told_timed place.Here node t v s k h = record { updated = h.updated; nodes = h.nodes }
leaf_told_timed place.Back node t v s k h = record { updated = h.updated; nodes = h.nodes }
leaf_told_timed place.Criteria node t v s k h = record { updated = h.updated; nodes = h.nodes }
leaf_told_timed place.Root node t v s k h = record { updated = h.updated; nodes = all_changed IsTimedNode (node_with (plain t v)) node s.nodes (λ n. node_timed t v n k) h.nodes }
leaf_told_timed place.Directory node t v s k h = record { updated = h.updated; nodes = all_changed IsTimedNode (node_with (plain t v)) node s.nodes (λ n. node_timed t v n k) h.nodes }
leaf_told_timed place.File node t v s k h = record { updated = h.updated; nodes = all_changed IsTimedNode (node_with (plain t v)) node s.nodes (λ n. node_timed t v n k) h.nodes }
leaf_told_timed place.Extent node t v s k h = record { updated = h.updated; nodes = h.nodes }
leaf_told_timed place.Xattr node t v s k h = record { updated = h.updated; nodes = h.nodes }
leaf_told_timed _ node t v s k h = h

ended_timed : (p : Container) (node : ℕ) (s : State) → IsTimedState s → IsTimedState (ended p node s)
ended_timed place.Extent node s h = record { updated = h.updated; nodes = all_changed IsTimedNode (with_extent s.extent) node s.nodes (λ n k. k) h.nodes }
ended_timed place.Xattr node s h = record { updated = h.updated; nodes = all_changed IsTimedNode (with_xattr s.xattr) node s.nodes (λ n k. k) h.nodes }
ended_timed place.Index node s h = h
ended_timed _ node s h = h

piece_told_timed : (p : Piece) (l : Level) (s : State) → IsTimedPiece p → IsTimedState s → IsTimedState (piece_told p l s)
piece_told_timed (opens q) l s k h = begun_timed q l.node s h
piece_told_timed (whole q) l s k h = ended_timed q (node_in q l.node s) (begun q l.node s) (begun_timed q l.node s h)
piece_told_timed closes l s k h = ended_timed l.place l.node s h
piece_told_timed (leaf t v) l s k h = leaf_told_timed l.place l.node t v s k h

told_timed : (ps : List Piece) (ls : List Level) (s : State) (ms : List Level) (t : State) → AllByRecursion IsTimedPiece ps → IsTimedState s → Tell ps ls s ms t → IsTimedState t
told_timed [] ls s ms t all h tell = subst IsTimedState tell.1 h
told_timed (p ∷ ps) [] s ms t all h tell = absurd tell
told_timed (p ∷ ps) (l ∷ ls) s ms t all h tell = told_timed ps (levels_after p l ls s) (piece_told p l s) ms t all.1 (piece_told_timed p l s all.0 h) tell

-- ---- an index that tells it

times_for : (t : TimesValue) → HaveMoments t → (x : Times) × (times_of x ≡ t)
times_for t h = (
  record { create = h.create.0; change = h.change.0; modify = h.modify.0; access = h.access.0; backup = h.backup.0 },
  λ i. record { create = h.create.1 i; change = h.change.1 i; modify = h.modify.1 i; access = h.access.1 i; backup = h.backup.1 i },
)

nodes_for : (xs : List NodeValue) → AllByRecursion IsTimedNode xs → (nodes : List Node) × (map value_of nodes ≡ xs)
nodes_for [] all = ([], refl)
nodes_for (x ∷ xs) all =
    let times = times_for x.facts.times all.0 in
    let rest = nodes_for xs all.1 in
    let node : Node = record { parent = x.parent; uid = x.facts.uid; name = x.facts.name; times = times.0; readonly = x.facts.readonly; xattrs = x.facts.xattrs; kind = x.kind } in
    let same : value_of (record { parent = x.parent; uid = x.facts.uid; name = x.facts.name; times = times.0; readonly = x.facts.readonly; xattrs = x.facts.xattrs; kind = x.kind }) ≡ x =
    λ i. record { parent = x.parent; facts = record { uid = x.facts.uid; name = x.facts.name; times = times.1 i; readonly = x.facts.readonly; xattrs = x.facts.xattrs }; kind = x.kind } in
    (record { parent = x.parent; uid = x.facts.uid; name = x.facts.name; times = times.0; readonly = x.facts.readonly; xattrs = x.facts.xattrs; kind = x.kind } ∷ rest.0, λ i. same i ∷ rest.1 i)

index_for : (s : State) → IsTimedState s → (index : Index) × (volume_of index ≡ s.volume) × (map value_of index.nodes ≡ s.nodes)
index_for s h =
    let nodes = nodes_for s.nodes h.nodes in
    let v = s.volume in (
      record {
        creator = s.volume.creator;
        comment = s.volume.comment;
        uuid = s.volume.uuid;
        generation = s.volume.generation;
        updated = h.updated.0;
        here = s.volume.here;
        back = s.volume.back;
        allow = s.volume.allow;
        policy = s.volume.policy;
        lock = s.volume.lock;
        highest = s.volume.highest;
        nodes = nodes.0;
      },
      λ i. record {
        creator = s.volume.creator;
        comment = s.volume.comment;
        uuid = s.volume.uuid;
        generation = s.volume.generation;
        updated = h.updated.1 i;
        here = s.volume.here;
        back = s.volume.back;
        allow = s.volume.allow;
        policy = s.volume.policy;
        lock = s.volume.lock;
        highest = s.volume.highest;
      },
      nodes.1,
    )

-- what a whole document tells is an index's volume and nodes
pub whole_told : (text : List ℕ) (s : State) → IsWhole text s → (index : Index) × (volume_of index ≡ s.volume) × (map value_of index.nodes ≡ s.nodes)
whole_told text s w =
    let o = w.accepts.opened in
    let ps = reached_timed text w.ps o.inside _ 0 w.accepts.point o.reaches in
    index_for s (told_timed w.ps outermost blank [] s ps (record { updated = at_epoch; nodes = tt }) w.tells)
