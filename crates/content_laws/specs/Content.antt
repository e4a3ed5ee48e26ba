-- What is read of a partition, item by item, from position 4 on.
use Rattle.std.specs.Prelude.{ℕ, ◌+◌, List, [], ◌∷◌, ◌++◌, Option, Some, None, length, fold}
use Rattle.tape_types.specs.declared.cartridges.Item.{Item}
use Rattle.tape_types.specs.declared.cartridges.Item.TheVariants.{Block, Mark, Torn}
use Rattle.std.specs.List.{flat_map}
use Rattle.content_laws.specs.Readings.{Construct, Group, constructs_of, items_of_group, items_of_tail, readable}

-- where a reading stands: behind data, of which so many blocks stand since the last index; in an index, behind the mark
-- that opens it and these blocks; or at a mark that directly follows an opening one
pub data Phase : Type 0 where
  Data : (since : ℕ) → Phase
  Index : (mark : ℕ) (blocks : List (List ℕ)) → Phase
  Bad : (at : ℕ) → Phase

-- the position, where the reading stands, and the indexes that it has met, the newest first
pub record Content : Type 0 where
  pub pos : ℕ
  pub phase : Phase
  pub constructs : List Construct

abbrev pub closed_at : ℕ → ℕ → List (List ℕ) → List Construct → Content
closed_at pos mark [] ks = record { pos = pos; phase = Bad pos; constructs = ks }
closed_at pos mark (b ∷ blocks) ks =
    record { pos = pos + 1; phase = Data 0; constructs = record { mark = mark; blocks = b ∷ blocks } ∷ ks }

abbrev pub seen_in : ℕ → Phase → List Construct → Item → Content
seen_in pos (Data n) ks (Block b) = record { pos = pos + 1; phase = Data (n + 1); constructs = ks }
seen_in pos (Data n) ks Mark = record { pos = pos + 1; phase = Index pos []; constructs = ks }
seen_in pos (Data n) ks Torn = record { pos = pos; phase = Data n; constructs = ks }
seen_in pos (Index mark blocks) ks (Block b) =
    record { pos = pos + 1; phase = Index mark (blocks ++ b ∷ []); constructs = ks }
seen_in pos (Index mark blocks) ks Mark = closed_at pos mark blocks ks
seen_in pos (Index mark blocks) ks Torn = record { pos = pos; phase = Index mark blocks; constructs = ks }
seen_in pos (Bad at) ks item = record { pos = pos; phase = Bad at; constructs = ks }

-- one item further
abbrev pub seen : Content → Item → Content
seen s item = seen_in s.pos s.phase s.constructs item

-- behind the labels
abbrev pub start : Content
start = record { pos = 4; phase = Data 0; constructs = [] }

abbrev pub content : List Item → Content
content items = fold seen start (readable items)

-- where a reading stands behind all items of a tail that begins at a position
abbrev pub phase_of : ℕ → List (List ℕ) → Option (List (List ℕ)) → Phase
phase_of at lead None = Data (length lead)
phase_of at lead (Some begun) = Index (at + length lead) begun

-- what is read of these groups and this tail, from position 4 on
abbrev pub content_of : List Group → List (List ℕ) → Option (List (List ℕ)) → Content
content_of groups lead begun = record {
  pos = 4 + length (flat_map items_of_group groups) + length (items_of_tail lead begun);
  phase = phase_of (4 + length (flat_map items_of_group groups)) lead begun;
  constructs = constructs_of groups;
}
