-- Two indexes that tell the same are one.
use Rattle.std.proofs.Common.{◌≡◌, List, [], ◌∷◌, map, refl, sym, ap, ◌∙◌}
use Rattle.tape_types.specs.declared.moments.Moment.{Moment}
use Rattle.tape_types.specs.declared.moments.Times.{Times}
use Rattle.tape_types.specs.Times.{civil_of, civil_text, time_text}
use Rattle.tape_types.proofs.CivilLemmas.{time_text_injective}
use Rattle.index_model.specs.declared.indexes.Index.{Index}
use Rattle.index_model.specs.declared.nodes.Node.{Node}
use Rattle.index_model.specs.Values.{TimesValue, NodeValue, VolumeFacts, IndexValue, all_nodes, times_of, value_of, volume_of, Tells}

one_moment : (m n : Moment) → civil_of m ≡ civil_of n → m ≡ n
unfolding time_text
one_moment m n e = time_text_injective m n (ap civil_text e)

one_times : (a b : Times) → times_of a ≡ times_of b → a ≡ b
one_times a b e =
    let create = one_moment a.create b.create (ap (λ (t : TimesValue). t.create) e) in
    let change = one_moment a.change b.change (ap (λ (t : TimesValue). t.change) e) in
    let modify = one_moment a.modify b.modify (ap (λ (t : TimesValue). t.modify) e) in
    let access = one_moment a.access b.access (ap (λ (t : TimesValue). t.access) e) in
    let backup = one_moment a.backup b.backup (ap (λ (t : TimesValue). t.backup) e) in
    λ i. record { create = create i; change = change i; modify = modify i; access = access i; backup = backup i }

one_node : (a b : Node) → value_of a ≡ value_of b → a ≡ b
one_node a b e =
    let parent = ap (λ (n : NodeValue). n.parent) e in
    let uid = ap (λ (n : NodeValue). n.facts.uid) e in
    let name = ap (λ (n : NodeValue). n.facts.name) e in
    let times = one_times a.times b.times (ap (λ (n : NodeValue). n.facts.times) e) in
    let readonly = ap (λ (n : NodeValue). n.facts.readonly) e in
    let xattrs = ap (λ (n : NodeValue). n.facts.xattrs) e in
    let kind = ap (λ (n : NodeValue). n.kind) e in
    λ i. record { parent = parent i; uid = uid i; name = name i; times = times i; readonly = readonly i; xattrs = xattrs i; kind = kind i }

one_nodes : (xs ys : List Node) → map value_of xs ≡ map value_of ys → xs ≡ ys
one_nodes [] [] e = refl
one_nodes [] (y ∷ ys) e = absurd (let bad : [] ≡ value_of y ∷ map value_of ys = e in cc)
one_nodes (x ∷ xs) [] e = absurd (let bad : value_of x ∷ map value_of xs ≡ [] = e in cc)
one_nodes (x ∷ xs) (y ∷ ys) e =
    let first : value_of x ≡ value_of y = cc (e) in
    let rest : map value_of xs ≡ map value_of ys = cc (e) in
    let here = one_node x y first in
    let more = one_nodes xs ys rest in
    λ i. here i ∷ more i

one_index : (a b : Index) → volume_of a ≡ volume_of b → map value_of a.nodes ≡ map value_of b.nodes → a ≡ b
one_index a b e f =
    let creator = ap (λ (v : VolumeFacts). v.creator) e in
    let comment = ap (λ (v : VolumeFacts). v.comment) e in
    let uuid = ap (λ (v : VolumeFacts). v.uuid) e in
    let generation = ap (λ (v : VolumeFacts). v.generation) e in
    let updated = one_moment a.updated b.updated (ap (λ (v : VolumeFacts). v.updated) e) in
    let here = ap (λ (v : VolumeFacts). v.here) e in
    let back = ap (λ (v : VolumeFacts). v.back) e in
    let allow = ap (λ (v : VolumeFacts). v.allow) e in
    let policy = ap (λ (v : VolumeFacts). v.policy) e in
    let lock = ap (λ (v : VolumeFacts). v.lock) e in
    let highest = ap (λ (v : VolumeFacts). v.highest) e in
    let nodes = one_nodes a.nodes b.nodes f in
    λ i. record {
      creator = creator i;
      comment = comment i;
      uuid = uuid i;
      generation = generation i;
      updated = updated i;
      here = here i;
      back = back i;
      allow = allow i;
      policy = policy i;
      lock = lock i;
      highest = highest i;
      nodes = nodes i;
    }

-- indexes that tell the same volume and the same nodes are one
pub tells_one : (a b : Index) (v w : IndexValue) → Tells a v → Tells b w → v.volume ≡ w.volume → all_nodes v ≡ all_nodes w → a ≡ b
tells_one a b v w h k volume nodes = one_index a b (h.volume ∙ volume ∙ sym k.volume) (h.nodes ∙ nodes ∙ sym k.nodes)
