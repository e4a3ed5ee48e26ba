-- What a cartridge stands for whose index partition ends with a close's index.
use Rattle.std.proofs.Common.{ℕ, ◌+◌, ◌≡◌, inl, Bool, true, false, cond, ltb, ltb-true, List, [], ◌∷◌, length, Some, refl, sym, ap, subst, ◌∙◌, arith}
use Rattle.std.specs.List.{AllByRecursion}
use Rattle.tape_types.specs.declared.cartridges.Cartridge.{Cartridge}
use Rattle.tape_types.specs.declared.cartridges.Item.{Item}
use Rattle.tape_types.specs.declared.cartridges.Part.TheVariants.{Ip, Dp}
use Rattle.plain_tree.specs.Tree.{Tree}
use Rattle.coherency.specs.declared.Coherency.{Coherency}
use Rattle.index_model.specs.declared.indexes.Index.{Index}
use Rattle.index_model.specs.declared.indexes.Spot.{Spot}
use Rattle.content_laws.specs.Readings.{Construct, HasForm}
use Rattle.content_laws.specs.Content.{Content, Data, content}
use Rattle.content_laws.specs.Ends.{EndsWithLast, end_ip}
use Rattle.cartridge_meaning.specs.Carried.{Carried, carried}
use Rattle.cartridge_meaning.specs.Meaning.{AreAlike, FitsNode, Found, IsConsistent, IsTreeOf, Stands, dp_end, ip_end}
use Rattle.cartridge_meaning.specs.Notes.{AreNoted, IsCoherent, TellsOfLast}
use Rattle.cartridge_meaning.specs.Pointers.{IsLastOnIp, chosen, indexes_of, last_block, letter_of, newest_spot}
use Rattle.cartridge_meaning.specs.declared.labels.Labels.{Labels}
use Rattle.cartridge_meaning.proofs.Noted.{noted_coherent}
use Rattle.promises.specs.ImageLaws.Left.{CloseStands}
use Rattle.promises.specs.ImageLaws.Closed.{EndsWithClose}
use Rattle.promises.proofs.ImageLaws.Appends.{IsOpened, form_of}
use Rattle.promises.proofs.ImageLaws.Data.{ready_opened}
use Rattle.promises.proofs.ImageLaws.Indexes.{construct_content, construct_long, construct_ready, new_construct, with_construct}

-- on a tie the data partition's is chosen
chosen_on_tie : (i d : Index) → i.generation ≡ d.generation → chosen (Some i) (Some d) ≡ Some d
chosen_on_tie i d same = by_test (ltb d.generation i.generation) refl
  where
    by_test : (test : Bool) → ltb d.generation i.generation ≡ test → chosen (Some i) (Some d) ≡ Some d
    by_test true is = absurd (omega (arith, same, ltb-true d.generation i.generation is))
    by_test false is = ap (λ (b : Bool). Some (cond b i d)) is

module _ (c : Cartridge) (l : Labels) (last index : Index) (h : EndsWithClose c l last index) where
  abbrev k : Construct
  k = new_construct h.before h.blocks

  abbrev items : List Item
  items = with_construct h.before h.blocks

  same_content : content c.ip ≡ record {
    pos = length h.before + length h.blocks + 2;
    phase = Data 0;
    constructs = k ∷ indexes_of h.before;
  }
  same_content = ap content h.ip ∙ construct_content h.before h.blocks h.ready h.some

  ip_indexes : indexes_of c.ip ≡ k ∷ indexes_of h.before
  ip_indexes = ap (λ (s : Content). s.constructs) same_content

  ip_ends : ip_end c ≡ length h.before
  ip_ends = ap end_ip same_content

  ip_last : IsLastOnIp l.ip (indexes_of c.ip) (indexes_of c.dp) (Some last) (Some index)
  ip_last =
      subst (λ (ks : List Construct). IsLastOnIp l.ip ks (indexes_of c.dp) (Some last) (Some index)) (sym ip_indexes) (
        index,
        refl,
        record { text = h.reads; uuid = h.uuid },
        record { here = h.here; back = inl (omega (arith, h.generation), h.back) },
      )

  opened : IsOpened items
  opened = ready_opened items (construct_ready h.before h.blocks h.ready h.some)

  abbrev close_found : Found c
  close_found = record {
    labels = l;
    forms = record { has = h.has; ip = subst (λ (xs : List Item). HasForm xs) (sym h.ip) (form_of items opened.good); dp = h.dp_form };
    on_dp = Some last;
    dp_last = h.dp_reads;
    on_ip = Some index;
    ip_last = ip_last;
    index = last;
    choice = chosen_on_tie index last h.generation;
    within = subst (λ (n : ℕ). AllByRecursion (FitsNode l.ip n (dp_end c)) last.nodes) (sym ip_ends) h.within;
  }

  -- it stands for the tree of its data partition's last index
  pub close_stands : (facts : Carried) (tree : Tree) → facts ≡ carried last → IsTreeOf l.ip c last tree → Stands c facts tree last.generation
  close_stands facts tree facts_are tree_is = record {
    reads = record { found = close_found; facts_are = facts_are; tree_is = tree_is; generation_is = refl };
    has_index = h.dp_some;
  }

  consistent_from : (ks : List Construct) → indexes_of c.dp ≡ ks → EndsWithLast c.dp ks → IsConsistent c
  consistent_from [] is ends = absurd ends
  consistent_from (newest ∷ older) is ends = record {
    found = close_found;
    ip = k;
    ip_older = indexes_of h.before;
    ip_is = ip_indexes;
    ip_ends = ap (λ (xs : List Item). length xs) h.ip ∙ construct_long h.before h.blocks;
    dp = newest;
    dp_older = older;
    dp_is = is;
    dp_ends = ends;
    index = index;
    on_ip = refl;
    back = h.back ∙ ap (λ (ks : List Construct). newest_spot l.ip ks) is;
  }

  -- it is consistent where the data partition ends with that index too
  pub close_consistent : EndsWithLast c.dp (indexes_of c.dp) → IsConsistent c
  close_consistent ends = consistent_from (indexes_of c.dp) refl ends

  -- both indexes tell the same where both tell this tree
  pub close_alike : (facts : Carried) (tree : Tree) → facts ≡ carried index → facts ≡ carried last → IsTreeOf l.ip c index tree
      → IsTreeOf l.ip c last tree → AreAlike c facts tree last.generation
  close_alike facts tree ip_facts dp_facts ip_tree dp_tree = record {
    found = close_found;
    ip_index = index;
    ip_last = refl;
    ip_generation = h.generation;
    ip_facts = ip_facts;
    ip_tree = ip_tree;
    dp_index = last;
    dp_last = refl;
    dp_generation = refl;
    dp_facts = dp_facts;
    dp_tree = dp_tree;
  }

  -- a note with the values of the index partition's last index tells of that index
  pub close_ip_note : (note : Coherency) → note.generation ≡ index.generation
      → index.here ≡ record { letter = letter_of l.ip Ip; block = note.block } → TellsOfLast c l.ip Ip note
  close_ip_note note generation here = record {
    index = index;
    last = (Some last, h.dp_reads, ip_last);
    generation = generation;
    block =
        ap last_block ip_indexes
        ∙ ap (λ (spot : Spot). Some spot.block) (sym h.here ∙ here);
  }

  -- a note with the values of the data partition's last index tells of that index
  pub close_dp_note : (note : Coherency) → note.generation ≡ last.generation → last_block (indexes_of c.dp) ≡ Some note.block
      → TellsOfLast c l.ip Dp note
  close_dp_note note generation block = record { index = last; last = h.dp_reads; generation = generation; block = block }

  -- where both notes tell of the last indexes, the cartridge is coherent
  pub close_coherent : AreNoted c l.ip → IsCoherent c
  close_coherent noted = noted_coherent c l h.has noted

-- a cartridge that ends with a close's index stands for its tree, consistent and coherent
pub close_told : (c : Cartridge) (l : Labels) (last index : Index) → EndsWithClose c l last index → CloseStands c l last index
close_told c l last index h = record {
  stands = close_stands c l last index h;
  consistent = close_consistent c l last index h;
  alike = close_alike c l last index h;
  ip_note = close_ip_note c l last index h;
  dp_note = close_dp_note c l last index h;
  coherent = close_coherent c l last index h;
}
