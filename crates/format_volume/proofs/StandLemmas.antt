-- What a cartridge stands for that has the items and the notes of an empty volume.
use Rattle.std.proofs.Common.{ℕ, false, ◌≡◌, ◌≢◌, ◌<◌, ◌^◌, ◌∙◌, List, [], ◌∷◌, ◌++◌, length, map, drop}
use Rattle.std.proofs.Common.{Option, Some, None, refl, sym, ap, subst, arith, get_or, append-nil, length-append, inl}
use Rattle.std.specs.FinMap as fin
use Rattle.std.specs.List.{concat}
use Rattle.std.proofs.lemmas.List.{length-map}
use Rattle.coherency.specs.Notes.{HasValues, IsNote, note_of}
use Rattle.extent_map.specs.Cells.{Tape, tape_of}
use Rattle.file_tree.specs.Edits.{made_node}
use Rattle.file_tree.specs.Mounts as mounts
use Rattle.file_tree.specs.Tree.{FileTree, plain_nodes}
use Rattle.file_tree.specs.declared.nodes.Node as kept
use Rattle.file_tree.specs.declared.nodes.HeldKind.TheVariants as kept_kinds
use Rattle.file_tree.proofs.MountLemmas.{first_built}
use Rattle.file_tree.proofs.PathLemmas.{same_nodes}
use Rattle.file_tree.proofs.PlainLemmas.{plain_insert, plain_none}
use Rattle.plain_tree.specs.Paths.{path_cmp}
use Rattle.tape_layout.specs.IndexConstruct.Blocks.{blocks_of}
use Rattle.tape_layout.proofs.IndexConstruct.Cuts.{cut_in_one_way}
use Rattle.index_model.specs.Canonical as index_text
use Rattle.index_model.specs.Grammar.{IndexText}
use Rattle.index_model.specs.declared.nodes.Node.{Node}
use Rattle.index_read.proofs.WrittenLinks.{document_read}
use Rattle.ltfs_label.specs.Values.{label_of}
use Rattle.content_laws.specs.Ends.{IsOneAtMost}
use Rattle.plain_tree.specs.Tree.{Tree, empty_tree}
use Rattle.plain_tree.specs.Tree as plain
use Rattle.plain_tree.specs.declared.nodes.Kind.TheVariants as plain_kinds
use Rattle.content_laws.specs.Content.{Content}
use Rattle.content_laws.specs.Readings.{Construct, HasForm, after_of, front, readable}
use Rattle.content_laws.proofs.Grown.{index_appended}
use Rattle.content_laws.proofs.Whole.{front_append, front_blocks}
use Rattle.cartridge_meaning.specs.Labels.{AreOfOneVolume, HasLabels}
use Rattle.cartridge_meaning.specs.Meaning.{AreAlike, Found, HasOneIndex, IsConsistent, IsTreeOf, Stands}
use Rattle.cartridge_meaning.specs.Notes.{IsCoherent, IsHonest, IsHonestNote, LastReads}
use Rattle.cartridge_meaning.specs.Pointers.{IsLastOnDp, IsLastOnIp, IsOfVolume, indexes_of, last_block}
use Rattle.tape_types.specs.declared.cartridges.Cartridge.{Cartridge}
use Rattle.tape_types.specs.declared.cartridges.Item.{Item}
use Rattle.tape_types.specs.declared.cartridges.Item.TheVariants.{Block, Mark}
use Rattle.tape_types.specs.declared.cartridges.Part.{Part}
use Rattle.tape_types.specs.declared.cartridges.Part.TheVariants.{Ip, Dp}
use Rattle.tape_types.specs.Cartridges as cartridges
use Rattle.tape_types.specs.Cartridges.{items_of}
use Rattle.format_volume.specs.declared.requests.FormatSpec.{FormatSpec}
use Rattle.format_volume.specs.Meanings.{IsEmptyVolume, carried_for, labels_for}
use Rattle.format_volume.specs.Refusals.{spec_fault}
use Rattle.format_volume.specs.Steps.{HasNotes, HoldsVolume}
use Rattle.format_volume.specs.Texts.{AreRead}
use Rattle.format_volume.specs.Volumes.{construct, document_on, index_on, items_on, label_items, label_on, note_for, noted}
use Rattle.format_volume.specs.Volumes.{root_of, times_at, told_on, vcr_after, volume_for}
use Rattle.format_volume.specs.Writes.{Goes}
use Rattle.tape_drive.specs.declared.drive.Drive.{Ghosts}
use Rattle.format_volume.proofs.TextLemmas.{some_block, tells}
use Rattle.format_volume.proofs.ValidLemmas.{valid}
use Rattle.plain_tree.specs.declared.calls.LockState.TheVariants as locks

-- a document has a byte
some_byte : (part : Part) (spec : FormatSpec) → document_on part spec ≢ []
unfolding index_text.canonical
some_byte part spec = λ none.
    let wrong : 60 ≡ 0 = ap (λ (l : List ℕ). get_or l 0 0) none in
    absurd (omega (arith, wrong))

plain_empty : (tape : Tape) → plain_nodes tape fin.empty ≡ fin.empty
plain_empty tape =
    same_nodes (plain_nodes tape fin.empty) fin.empty
    (λ q. plain_none tape fin.empty q (fin.get-empty path_cmp q) ∙ sym (fin.get-empty path_cmp q))

module _ (spec : FormatSpec) (fine : spec_fault spec ≡ None) (read : AreRead spec) where
  -- ---- the index of a partition

  abbrev blocks : Part → List (List ℕ)
  blocks part = blocks_of spec.block (document_on part spec)

  abbrev only : Part → Construct
  only part = record { mark = 4; blocks = blocks part }

  joined : (part : Part) → concat (blocks part) ≡ document_on part spec
  joined part = (cut_in_one_way.cut spec.block (document_on part spec) (omega (arith, (some_block spec fine).0))).joined

  some : (part : Part) → blocks part ≢ []
  some part = λ none. some_byte part spec (sym (joined part) ∙ ap (λ (l : List (List ℕ)). concat l) none)

  indexes : (part : Part) → indexes_of (items_on part spec) ≡ only part ∷ []
  indexes part =
      ap (λ (s : Content). s.constructs) (index_appended (label_items part spec) (blocks part) 0 refl (omega arith) refl (some part))

  -- ---- the form of a partition

  whole : (part : Part) → front (items_on part spec) ≡ items_on part spec
  whole part =
      front_append (label_items part spec) (construct spec.block (document_on part spec)) refl
      ∙ ap (λ (l : List Item). label_items part spec ++ Mark ∷ l) (front_append (map Block (blocks part)) (Mark ∷ []) (front_blocks (blocks part)))

  behind : (part : Part) → readable (items_on part spec) ≡ construct spec.block (document_on part spec)
  behind part = ap (λ (l : List Item). drop 4 l) (whole part)

  form : (part : Part) → HasForm (items_on part spec)
  form part =
      let all : List Item = construct spec.block (document_on part spec) in
      record {
        groups = record { data_blocks = []; index_blocks = blocks part } ∷ [];
        indexes = (some part, tt);
        lead = [];
        begun = None;
        spelled = behind part ∙ sym (append-nil (all ++ []) ∙ append-nil all);
      }

  long : (part : Part) → length (items_on part spec) ≡ after_of (only part)
  long part =
      omega (
        arith,
        length-append (label_items part spec) (construct spec.block (document_on part spec)),
        length-append (map Block (blocks part)) (Mark ∷ []),
        length-map (blocks part) Block,
      )

  -- ---- what the indexes read as

  of_volume : (part : Part) → IsOfVolume (label_on Ip spec) (only part) (index_on part spec)
  of_volume part = record {
    text = subst (λ (text : List ℕ). IndexText text (index_on part spec)) (sym (joined part))
        (document_read (index_on part spec) (told_on part spec) (valid part spec fine read.values) (tells part spec) (in_memory part));
    uuid = refl;
  }
    where
      in_memory : (part : Part) → length (document_on part spec) < 2 ^ 64
      in_memory Ip = read.ip_index
      in_memory Dp = read.dp_index

  on_dp : IsLastOnDp (label_on Ip spec) (indexes_of (items_on Dp spec)) (Some (index_on Dp spec))
  on_dp =
      subst (λ (ks : List Construct). IsLastOnDp (label_on Ip spec) ks (Some (index_on Dp spec))) (sym (indexes Dp))
      (index_on Dp spec, refl, of_volume Dp, record { here = refl; back = refl })

  on_ip : IsLastOnIp (label_on Ip spec) (indexes_of (items_on Ip spec)) (indexes_of (items_on Dp spec))
      (Some (index_on Dp spec)) (Some (index_on Ip spec))
  on_ip =
      subst (λ (ks : List Construct). IsLastOnIp (label_on Ip spec) (indexes_of (items_on Ip spec)) ks (Some (index_on Dp spec)) (Some (index_on Ip spec)))
      (sym (indexes Dp))
      (subst (λ (ks : List Construct). IsLastOnIp (label_on Ip spec) ks (only Dp ∷ []) (Some (index_on Dp spec)) (Some (index_on Ip spec)))
      (sym (indexes Ip))
      (index_on Ip spec, refl, of_volume Ip, record { here = refl; back = inl (omega arith, refl) }))

  one_volume : AreOfOneVolume (label_of (label_on Ip spec)) (label_of (label_on Dp spec))
  one_volume = record {
    origin = record { creator = refl; formatted = refl; uuid = refl };
    layout = record { index = refl; dpart = refl; block = refl; compression = refl };
    places = record { letters = λ same. absurd (omega (arith, same)); in_index = refl; in_data = refl };
  }

  -- ---- the tree

  abbrev root : kept.Node
  root = made_node 1 kept_kinds.Dir spec.at

  abbrev tree : FileTree
  tree = record { highest = 1; lock = locks.Absent; name = spec.name; block_size = spec.block; nodes = fin.insert fin.empty [] root; spare = 0 }

  is_tree : (part : Part) → mounts.IsTreeOf (97, 98) spec.block (index_on part spec) tree
  is_tree part = record {
    highest = refl;
    lock = refl;
    name = λ node is. let same : root_of spec ≡ node = cc is in ap (λ (n : Node). n.name) same;
    block_size = refl;
    nodes = first_built (97, 98) spec.block (root_of spec ∷ []) (root_of spec) root (fin.insert fin.empty [] root) refl refl
        (record { uid = refl; times = refl; readonly = refl; keys = refl; kind = refl }) refl;
  }

  module _ (vcr : ℕ) where
    abbrev c : Cartridge
    c = volume_for spec vcr

    is_empty : (part : Part) → IsTreeOf (label_on Ip spec) c (index_on part spec) (empty_tree spec.at)
    is_empty part = (
      tree,
      is_tree part,
      ap (λ (nodes : plain.Nodes). record { highest = 1; lock = locks.Absent; nodes = nodes })
          (sym (plain_insert (tape_of c) fin.empty [] root
          ∙ ap (λ (m : plain.Nodes). fin.insert m [] (plain.new_node plain_kinds.Dir 1 spec.at)) (plain_empty (tape_of c)))),
    )

    has_labels : HasLabels c (labels_for spec)
    has_labels = record {
      ip_record = record { bytes = _; stands = record { block = refl; mark = refl }; spelled = read.record_is };
      dp_record = record { bytes = _; stands = record { block = refl; mark = refl }; spelled = read.record_is };
      ip = record { bytes = _; stands = record { block = refl; mark = refl }; spelled = read.ip_label };
      dp = record { bytes = _; stands = record { block = refl; mark = refl }; spelled = read.dp_label };
      one_volume = one_volume;
    }

    abbrev found : Found c
    found = record {
      labels = labels_for spec;
      forms = record { has = has_labels; ip = form Ip; dp = form Dp };
      on_dp = Some (index_on Dp spec);
      dp_last = on_dp;
      on_ip = Some (index_on Ip spec);
      ip_last = on_ip;
      index = index_on Dp spec;
      choice = refl;
      within = (tt, tt);
    }

    stands : Stands c (carried_for spec) (empty_tree spec.at) 1
    stands = record {
      reads = record { found = found; facts_are = refl; tree_is = is_empty Dp; generation_is = refl };
      has_index = λ none. let wrong : only Dp ∷ [] ≡ [] = sym (indexes Dp) ∙ none in absurd (cc wrong);
    }

    alike : AreAlike c (carried_for spec) (empty_tree spec.at) 1
    alike = record {
      found = found;
      ip_index = index_on Ip spec;
      ip_last = refl;
      ip_generation = refl;
      ip_facts = refl;
      ip_tree = is_empty Ip;
      dp_index = index_on Dp spec;
      dp_last = refl;
      dp_generation = refl;
      dp_facts = refl;
      dp_tree = is_empty Dp;
    }

    consistent : IsConsistent c
    consistent = record {
      found = found;
      ip = only Ip;
      ip_older = [];
      ip_is = indexes Ip;
      ip_ends = long Ip;
      dp = only Dp;
      dp_older = [];
      dp_is = indexes Dp;
      dp_ends = long Dp;
      index = index_on Ip spec;
      on_ip = refl;
      back = refl;
    }

    one_index : HasOneIndex c
    one_index =
        subst (λ (ks : List Construct). IsOneAtMost (items_on Ip spec) ks) (sym (indexes Ip))
        (refl, ap (λ (l : List Item). length l) (whole Ip) ∙ long Ip)

    -- ---- the notes

    module _ (is : IsNote (note_of (noted spec vcr)) (noted spec vcr)) where
      coherent : IsCoherent c
      coherent = record {
        labels = labels_for spec;
        has = has_labels;
        ip = (noted spec vcr, is, refl, refl);
        dp = (noted spec vcr, is, refl, refl);
      }

      honest_note : (part : Part) → HasForm (items_of part c) → LastReads (label_on Ip spec) part c (index_on part spec)
          → last_block (indexes_of (items_of part c)) ≡ Some 5 → (index_on part spec).generation ≡ 1
          → cartridges.note_of part c ≡ note_for spec vcr → IsHonestNote c (label_on Ip spec) part
      honest_note part form last block generation note = record {
        not_ahead = λ other has uuid.
            let values : IsNote (note_of (noted spec vcr)) other = subst (λ n. HasValues n other) note has in
            omega (arith, values.vcr ∙ sym is.vcr);
        truthful = λ other has uuid current.
            let values : IsNote (note_of (noted spec vcr)) other = subst (λ n. HasValues n other) note has in (
              form,
              record {
                index = index_on part spec;
                last = last;
                generation = values.generation ∙ sym is.generation ∙ sym generation;
                block = block ∙ ap (λ (n : ℕ). Some n) (is.block ∙ sym values.block);
              },
            );
      }

      honest : IsHonest c
      honest = record {
        labels = labels_for spec;
        has = has_labels;
        ip = honest_note Ip (form Ip) (Some (index_on Dp spec), on_dp, on_ip)
            (ap (λ (ks : List Construct). last_block ks) (indexes Ip)) refl refl;
        dp = honest_note Dp (form Dp) on_dp (ap (λ (ks : List Construct). last_block ks) (indexes Dp)) refl refl;
      }

      pub empty_volume : IsEmptyVolume spec c
      empty_volume = record {
        labels = has_labels;
        stands = stands;
        alike = alike;
        consistent = consistent;
        one_index = one_index;
        coherent = coherent;
        honest = honest;
      }

-- so does each cartridge that a drive which tells holds then
pub volume_stands : {D : Type 0} (drive : Ghosts D) (spec : FormatSpec) (old new : D) → spec_fault spec ≡ None → AreRead spec
    → HoldsVolume drive spec old new → HasNotes drive spec old → Goes drive old new
    → (d : Cartridge) → drive.held new ≡ Some d → IsEmptyVolume spec d
volume_stands drive spec old new fine read holds notes goes d held = by (drive.held old) refl
  where
    by : (h : Option Cartridge) → drive.held old ≡ h → IsEmptyVolume spec d
    by None is = let wrong : None ≡ Some d = sym (goes.untold is) ∙ held in absurd (cc wrong)
    by (Some c) is =
        let same : Some (volume_for spec (vcr_after spec c.vcr)) ≡ Some d = sym (holds c is) ∙ held in
        let one : volume_for spec (vcr_after spec c.vcr) ≡ d = cc same in
        subst (λ (k : Cartridge). IsEmptyVolume spec k) one (empty_volume spec fine read (vcr_after spec c.vcr) (notes c is))
