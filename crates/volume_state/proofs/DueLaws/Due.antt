-- That the index of a sync is due.
use Rattle.std.proofs.Common.{ℕ, ◌≡◌, ◌+◌, ◌<◌, ◌≤◌, ◌^◌, Bool, List, ◌++◌, length, sym, ap, ◌∙◌, refl, subst, arith, length-append}
use Rattle.std.specs.List.{AllByRecursion}
use Rattle.std.specs.Option.{option_map}
use Rattle.tape_types.specs.declared.cartridges.Cartridge.{Cartridge}
use Rattle.tape_types.specs.declared.cartridges.Part.{Part}
use Rattle.tape_types.specs.declared.cartridges.Part.TheVariants.{Ip, Dp}
use Rattle.tape_types.specs.declared.moments.Moment.{Moment}
use Rattle.ltfs_documents.specs.declared.doc_fields.starts.Attribute.TheVariants.{Version}
use Rattle.ltfs_documents.specs.declared.doc_fields.tags.Tag.TheVariants.{LtfsIndex}
use Rattle.ltfs_documents.specs.DocFields.Written.{end_text, start_text}
use Rattle.index_model.specs.Canonical.{canonical, directory_text, head, nodes_text, volume_text}
use Rattle.index_model.specs.Grammar.{IndexText}
use Rattle.index_model.specs.Valid.{IsValid}
use Rattle.index_model.specs.Values.{IndexValue}
use Rattle.index_model.specs.declared.indexes.Index.{Index}
use Rattle.index_model.proofs.SomeValue.{some_value}
use Rattle.index_read.proofs.WrittenLinks.{document_read}
use Rattle.extent_map.specs.Cells.{tape_of}
use Rattle.file_tree.specs.Blocks.{TreeStandsIn}
use Rattle.file_tree.specs.Mounts as mounts
use Rattle.file_tree.specs.Valid.{IsGood}
use Rattle.ltfs_label.specs.declared.Label.{Label}
use Rattle.cartridge_meaning.specs.Carried.{carried, root_name}
use Rattle.cartridge_meaning.specs.Meaning.{FitsNode, IsTreeOf, end_on}
use Rattle.space_laws.specs.Files.{canon, letters}
use Rattle.space_laws.specs.Standing.{Given, Standing}
use Rattle.space_laws.proofs.ToldValue.{told_text}
use Rattle.space_laws.proofs.TreeLaw.{are_replays}
use Rattle.held_volume.specs.Stocks.{IsStock, Stocked}
use Rattle.held_volume.specs.Synced.{CanTell, TellsSynced, index_of_sync}
use Rattle.held_volume.proofs.SyncLaw.{synced_tells}
use Rattle.promises.specs.ImageLaws.Images.{Tells}
use Rattle.promises.specs.ImageLaws.Made.{Trees, Volume, cartridge_of}
use Rattle.promises.specs.CrashLaws.Safe.{given_by, standing_now, trees_of, volume_of}
use Rattle.volume_state.specs.DueLaws.Behind.{BeginsBehindLabels}
use Rattle.volume_state.specs.DueLaws.Laws.{IndexesAreDue}
use Rattle.volume_state.proofs.DueLaws.Names.{one_name, told_name}
use Rattle.volume_state.proofs.DueLaws.Trees.{mounts_have_trees}
use Rattle.volume_state.proofs.DueLaws.Within.{told_fits}

-- ---- the text

longer : (xs ys : List ℕ) → 1 ≤ length xs → 1 ≤ length (xs ++ ys)
longer xs ys some = omega (arith, some, length-append xs ys)

some_text : (v : IndexValue) → 1 ≤ length (canonical v)
unfolding canonical
some_text v =
    let inner : List ℕ = volume_text v.volume ++ directory_text v.root (nodes_text v.inside) in
    longer ((head ++ start_text LtfsIndex Version) ++ inner) (end_text LtfsIndex)
    (longer (head ++ start_text LtfsIndex Version) inner (longer head (start_text LtfsIndex Version) (omega arith)))

-- a valid index whose text isn't too long has a text that reads as it
pub is_text : (index : Index) → IsValid index → length (canon index) < 2 ^ 64
    → (1 ≤ length (canon index)) × IndexText (canon index) index
is_text index valid fits =
    let v = some_value index valid.formed.order in
    let is : canon index ≡ canonical v.0 = told_text index v.0 v.1 in (
      subst (λ (text : List ℕ). 1 ≤ length text) (sym is) (some_text v.0),
      subst (λ (text : List ℕ). IndexText text index) (sym is)
          (document_read index v.0 valid v.1 (subst (λ (text : List ℕ). length text < 2 ^ 64) is fits)),
    )

-- ---- what it tells

module _ (c : Cartridge) (g : Given) (on : Bool) (st : Standing) (s : Stocked) (at : Moment)
    (valid : IsValid g.mounted.index) (held : IsStock (tape_of c) g on st s) (good : IsGood s.tree)
    (behind : BeginsBehindLabels s.tree) (can : CanTell g st) where
  abbrev index : Index
  index = index_of_sync g st at

  tells : TellsSynced (tape_of c) g st s.tree at
  tells = synced_tells (tape_of c) g on st s at held good can

  names : root_name g.mounted.index.nodes ≡ root_name index.nodes
  names = sym (one_name g.mounted valid) ∙ sym held.name ∙ sym (told_name (letters g.mounted) s.tree good)
      ∙ ap root_name (sym tells.tells.nodes)

  facts : carried g.mounted.index ≡ carried index
  facts = ap (λ root. record {
    root = root;
    comment = g.mounted.index.comment;
    allow = g.mounted.index.allow;
    policy = g.mounted.index.policy;
  }) names

  below : (part : Part) (pos : ℕ) → TreeStandsIn s.tree part pos → pos < end_on part st.space.ends.ip st.space.ends.dp
  below Ip pos h = held.below Ip pos h
  below Dp pos h = held.below Dp pos h

  within : AllByRecursion (FitsNode g.mounted.label st.space.ends.ip st.space.ends.dp) index.nodes
  within = subst (AllByRecursion (FitsNode g.mounted.label st.space.ends.ip st.space.ends.dp)) (sym tells.tells.nodes)
      (told_fits g.mounted.label st.space.ends.ip st.space.ends.dp s.tree held.block_size good behind below)

  tree : IsTreeOf g.mounted.label c index st.tree
  tree =
      let made = mounts_have_trees (letters g.mounted) s.tree.block_size index tells.mounts in (
        made.0,
        subst (λ size. mounts.IsTreeOf (letters g.mounted) size index made.0) held.block_size made.1,
        sym (tells.same made.0 made.1),
      )

  -- the index that is due is valid
  pub is_valid : IsValid index
  is_valid = tells.valid

  -- the index that is due tells the tree of the whole history
  pub tells_all : (v : Volume) (t : Trees) → v.facts ≡ carried g.mounted.index → g.mounted.label ≡ v.labels.ip
      → st.tree ≡ t.nth t.count
      → Tells v t c st.space.ends.ip st.space.ends.dp (record { index = index; place = t.count })
  tells_all v t facts_are label_is tree_is = record {
    facts = facts_are ∙ facts;
    within = subst (λ (l : Label). AllByRecursion (FitsNode l st.space.ends.ip st.space.ends.dp) index.nodes)
        label_is within;
    covered = omega arith;
    tree = subst (λ l. IsTreeOf l c index (t.nth t.count)) label_is
        (subst (IsTreeOf g.mounted.label c index) tree_is tree);
  }

-- ---- that it is due

-- the index of a sync that may be told is due
pub index_due : {D : Type 0} → IndexesAreDue D
index_due p limits v on s at valid label_is held good behind can fits =
    let g = given_by limits v in
    let st = standing_now limits v in
    let c = cartridge_of p.made in
    let index = index_of_sync g st at in
    let text = is_text index (is_valid c g on st s at valid held good behind can) fits in (
      record { index = index; place = length v.history },
      record {
        some = text.0;
        reads = text.1;
        uuid = ap (λ (l : Label). l.uuid) label_is;
        generation = refl;
        here = ap (λ (l : Label). record { letter = l.dpart; block = st.space.ends.dp + 1 }) label_is;
        back = ap (λ (l : Label). option_map (λ block. record { letter = l.dpart; block = block })
            st.space.last_dp) label_is;
        all = refl;
        tells = tells_all c g on st s at valid held good behind can (volume_of p.labels v) (trees_of v) refl label_is
            (are_replays g v.on v.history (length v.history));
      },
    )
