-- That the index of a sync tells the tree that stands.
use Rattle.std.proofs.Common.{◌≡◌, ℕ, ◌<◌, ◌≤◌, ◌^◌, true, nat_lt, List, [], ◌∷◌, codes, All, IfSome, Option, Some, None, IsAscii, sym, ap, ◌∙◌, refl, arith}
use Rattle.std.specs.List.{list_all}
use Rattle.std.specs.Option.{option_map}
use Rattle.std.proofs.lemmas.Bool.Decides.{nat_tests}
use Rattle.std.proofs.lemmas.List.Elements.{All-cons, All-nil}
use Rattle.std.proofs.lemmas.Str.{IsUtf8-from_ascii, chars-IsAscii}
use Rattle.std.proofs.lemmas.Str.Ascii.{IsAscii-from_all}
use Rattle.ltfs_documents.specs.DocFields.Texts.{is_allowed}
use Rattle.index_model.specs.Texts.{IsPlainText}
use Rattle.index_model.specs.Valid.{IsFitVolume, IsSpot}
use Rattle.plain_tree.specs.Tree as plain
use Rattle.plain_tree.proofs.MoveLemmas.{both_true}
use Rattle.file_tree.specs.Indexes.{TellsTree}
use Rattle.file_tree.specs.Locks.{told_lock}
use Rattle.file_tree.proofs.IndexLemmas.{indexes_come_back}
use Rattle.space_laws.specs.Files.{letters}
use Rattle.held_volume.specs.Synced.{SyncsTellTheTree, index_of_sync}
use Rattle.held_volume.proofs.Texts.{nodes_are}

abbrev creator : List ℕ
creator = codes "ltfs_server 1.0.0"

small : (text : List ℕ) → list_all (λ c. nat_lt c 128) text ≡ true → All (λ k. k < 128) text
small [] e = All-nil (λ k. k < 128)
small (c ∷ text) e =
    let p = both_true (nat_lt c 128) (list_all (λ c. nat_lt c 128) text) e in
    let test = p.0 in
    All-cons (λ k. k < 128) c text (grind (arith, nat_tests, test)) (small text p.1)

ascii : IsAscii creator
ascii = IsAscii-from_all creator (small creator refl)

creator_plain : IsPlainText creator
creator_plain = record { utf8 = IsUtf8-from_ascii creator ascii; allowed = ap (list_all is_allowed) (chars-IsAscii creator ascii) }

back_spot : (letter : ℕ) (back : Option ℕ) → Rattle.index_model.specs.Texts.IsLetter letter → IfSome back (λ block. block ≤ 2 ^ 62)
    → IfSome (option_map (λ block. record { letter = letter; block = block }) back) IsSpot
back_spot letter None is near = tt
back_spot letter (Some block) is near = record { letter = is; block = near }

-- the index of a sync tells the tree that stands
pub synced_tells : SyncsTellTheTree
synced_tells tape g on st s at i good can =
    let tells : TellsTree (letters g.mounted) s.tree (index_of_sync g st at) = record {
      nodes = sym (nodes_are tape g on st s i at);
      highest = sym (ap (λ (t : plain.Tree). t.highest) i.plain);
      lock = sym (ap (λ (t : plain.Tree). told_lock t.lock) i.plain);
    } in
    let fit : IsFitVolume (index_of_sync g st at) = record {
      creator = creator_plain;
      comment = can.facts.comment;
      uuid = can.uuid;
      generation_least = omega arith;
      generation_most = can.generation;
      here = record { letter = can.letters_are.dp; block = can.here };
      back = back_spot g.mounted.label.dpart st.space.last_dp can.letters_are.dp can.back;
      policy = can.facts.policy;
    } in
    let valid = indexes_come_back.valid (letters g.mounted) s.tree (index_of_sync g st at) good can.letters_are tells fit in
    record {
      valid = valid;
      text = refl;
      tells = tells;
      mounts = indexes_come_back.mounts (letters g.mounted) s.tree (index_of_sync g st at) good can.differ tells valid;
      same = λ other is. indexes_come_back.plain tape s.tree other (indexes_come_back.same (letters g.mounted) s.tree other (index_of_sync g st at) good can.differ tells is) ∙ i.plain;
    }
