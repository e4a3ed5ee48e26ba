-- What is read over blocks, over groups and over a tail.
use Rattle.std.proofs.Common.{ℕ, ◌+◌, ◌≡◌, ◌≢◌, List, [], ◌∷◌, ◌++◌, length, map, reverse, Option, Some, None, refl, sym, ◌∙◌, ap, arith, append_assoc, length-append}
use Rattle.std.proofs.lemmas.List.{append-nil, length-map, reverse-append}
use Rattle.std.specs.List.{flat_map, fold}
use Rattle.tape_types.specs.declared.cartridges.Item.{Item}
use Rattle.tape_types.specs.declared.cartridges.Item.TheVariants.{Block, Mark}
use Rattle.content_laws.specs.Readings.{Construct, Group, HaveBlocks, constructs_from, items_of_group, items_of_tail}
use Rattle.content_laws.specs.Content.{Content, Data, Index, Bad, phase_of, seen}

-- a reading behind data, with so many blocks since the last index
abbrev pub in_data : ℕ → ℕ → List Construct → Content
in_data pos since ks = record { pos = pos; phase = Data since; constructs = ks }

-- a reading in an index that is open, with these blocks of it
abbrev pub in_index : ℕ → ℕ → List (List ℕ) → List Construct → Content
in_index pos mark blocks ks = record { pos = pos; phase = Index mark blocks; constructs = ks }

-- blocks behind data are so many blocks more since the last index
pub over_data : (blocks : List (List ℕ)) (pos since : ℕ) (ks : List Construct) (rest : List Item)
    → fold seen (in_data pos since ks) (map Block blocks ++ rest) ≡ fold seen (in_data (pos + length blocks) (since + length blocks) ks) rest
over_data [] pos since ks rest =
    let one : pos ≡ pos + 0 = omega arith in
    let two : since ≡ since + 0 = omega arith in
    λ t. fold seen (in_data (one t) (two t) ks) rest
over_data (b ∷ blocks) pos since ks rest =
    let one : pos + 1 + length blocks ≡ pos + length (b ∷ blocks) = omega arith in
    let two : since + 1 + length blocks ≡ since + length (b ∷ blocks) = omega arith in
    over_data blocks (pos + 1) (since + 1) ks rest ∙ (λ t. fold seen (in_data (one t) (two t) ks) rest)

over_index : (blocks begun : List (List ℕ)) (pos mark : ℕ) (ks : List Construct) (rest : List Item)
    → fold seen (in_index pos mark begun ks) (map Block blocks ++ rest) ≡ fold seen (in_index (pos + length blocks) mark (begun ++ blocks) ks) rest
over_index [] begun pos mark ks rest =
    let one : pos ≡ pos + 0 = omega arith in
    λ t. fold seen (in_index (one t) mark (sym (append-nil begun) t) ks) rest
over_index (b ∷ blocks) begun pos mark ks rest =
    let one : pos + 1 + length blocks ≡ pos + length (b ∷ blocks) = omega arith in
    over_index blocks (begun ++ b ∷ []) (pos + 1) mark ks rest
    ∙ (λ t. fold seen (in_index (one t) mark (append_assoc begun (b ∷ []) blocks t) ks) rest)

-- a mark behind the blocks of an index closes it
pub over_closing : (blocks : List (List ℕ)) (pos mark : ℕ) (ks : List Construct) (rest : List Item) → blocks ≢ []
    → fold seen (in_index pos mark blocks ks) (Mark ∷ rest) ≡ fold seen (in_data (pos + 1) 0 (record { mark = mark; blocks = blocks } ∷ ks)) rest
over_closing [] pos mark ks rest some = absurd (some refl)
over_closing (b ∷ blocks) pos mark ks rest some = refl

-- a mark, blocks and a mark
pub over_construct : (blocks : List (List ℕ)) (pos since : ℕ) (ks : List Construct) (rest : List Item) → blocks ≢ []
    → fold seen (in_data pos since ks) (Mark ∷ (map Block blocks ++ Mark ∷ rest))
    ≡ fold seen (in_data (pos + length blocks + 2) 0 (record { mark = pos; blocks = blocks } ∷ ks)) rest
over_construct blocks pos since ks rest some =
    let last : pos + 1 + length blocks + 1 ≡ pos + length blocks + 2 = omega arith in
    over_index blocks [] (pos + 1) pos ks (Mark ∷ rest)
    ∙ over_closing blocks (pos + 1 + length blocks) pos ks rest some
    ∙ (λ t. fold seen (in_data (last t) 0 (record { mark = pos; blocks = blocks } ∷ ks)) rest)

-- a group in front of others stands before their items
pub unrolled : (g : Group) (gs : List Group) (rest : List Item)
    → flat_map items_of_group (g ∷ gs) ++ rest ≡ map Block g.data_blocks ++ Mark ∷ (map Block g.index_blocks ++ Mark ∷ (flat_map items_of_group gs ++ rest))
unrolled g gs rest =
    let behind : List Item = flat_map items_of_group gs in
    append_assoc (items_of_group g) behind rest
    ∙ append_assoc (map Block g.data_blocks) (Mark ∷ (map Block g.index_blocks ++ Mark ∷ [])) (behind ++ rest)
    ∙ ap (λ (l : List Item). map Block g.data_blocks ++ Mark ∷ l) (append_assoc (map Block g.index_blocks) (Mark ∷ []) (behind ++ rest))

length_group : (g : Group) → length (items_of_group g) ≡ length g.data_blocks + length g.index_blocks + 2
length_group g = omega (
  arith,
  length-append (map Block g.data_blocks) (Mark ∷ (map Block g.index_blocks ++ Mark ∷ [])),
  length-append (map Block g.index_blocks) (Mark ∷ []),
  length-map g.data_blocks Block,
  length-map g.index_blocks Block,
)

-- groups one behind the other are read as their indexes
pub over_groups : (gs : List Group) (pos : ℕ) (ks : List Construct) (rest : List Item) → HaveBlocks gs
    → fold seen (in_data pos 0 ks) (flat_map items_of_group gs ++ rest)
    ≡ fold seen (in_data (pos + length (flat_map items_of_group gs)) 0 (reverse (constructs_from pos gs) ++ ks)) rest
over_groups [] pos ks rest some = let one : pos ≡ pos + 0 = omega arith in λ t. fold seen (in_data (one t) 0 ks) rest
over_groups (g ∷ gs) pos ks rest some =
    let k : Construct = record { mark = pos + length g.data_blocks; blocks = g.index_blocks } in
    let behind : ℕ = pos + length (items_of_group g) in
    let one : pos + length g.data_blocks + length g.index_blocks + 2 ≡ behind = omega (arith, length_group g) in
    let all : behind + length (flat_map items_of_group gs) ≡ pos + length (flat_map items_of_group (g ∷ gs)) =
    omega (arith, length-append (items_of_group g) (flat_map items_of_group gs)) in
    let found : reverse (constructs_from behind gs) ++ k ∷ ks ≡ reverse (constructs_from pos (g ∷ gs)) ++ ks =
    sym (append_assoc (reverse (constructs_from behind gs)) (k ∷ []) ks)
    ∙ ap (λ (l : List Construct). l ++ ks) (sym (reverse-append (k ∷ []) (constructs_from behind gs))) in
    ap (λ (l : List Item). fold seen (in_data pos 0 ks) l) (unrolled g gs rest)
    ∙ over_data g.data_blocks pos 0 ks (Mark ∷ (map Block g.index_blocks ++ Mark ∷ (flat_map items_of_group gs ++ rest)))
    ∙ over_construct g.index_blocks (pos + length g.data_blocks) (0 + length g.data_blocks) ks (flat_map items_of_group gs ++ rest) some.0
    ∙ (λ t. fold seen (in_data (one t) 0 (k ∷ ks)) (flat_map items_of_group gs ++ rest))
    ∙ over_groups gs behind (k ∷ ks) rest some.1
    ∙ (λ t. fold seen (in_data (all t) 0 (found t)) rest)

-- over blocks with nothing behind them
pub over_last_data : (blocks : List (List ℕ)) (pos since : ℕ) (ks : List Construct)
    → fold seen (in_data pos since ks) (map Block blocks) ≡ in_data (pos + length blocks) (since + length blocks) ks
over_last_data blocks pos since ks =
    ap (λ (l : List Item). fold seen (in_data pos since ks) l) (sym (append-nil (map Block blocks))) ∙ over_data blocks pos since ks []

-- blocks behind an opening mark belong to the index that is open
pub over_last_index : (blocks begun : List (List ℕ)) (pos mark : ℕ) (ks : List Construct)
    → fold seen (in_index pos mark begun ks) (map Block blocks) ≡ in_index (pos + length blocks) mark (begun ++ blocks) ks
over_last_index blocks begun pos mark ks =
    ap (λ (l : List Item). fold seen (in_index pos mark begun ks) l) (sym (append-nil (map Block blocks))) ∙ over_index blocks begun pos mark ks []

-- a tail is read as its leading blocks and the index begun behind them
pub over_tail : (lead : List (List ℕ)) (begun : Option (List (List ℕ))) (pos : ℕ) (ks : List Construct)
    → fold seen (in_data pos 0 ks) (items_of_tail lead begun)
    ≡ record { pos = pos + length (items_of_tail lead begun); phase = phase_of pos lead begun; constructs = ks }
over_tail lead None pos ks =
    let one : pos + length lead ≡ pos + length (map Block lead) = omega (arith, length-map lead Block) in
    let two : 0 + length lead ≡ length lead = omega arith in
    over_last_data lead pos 0 ks ∙ (λ t. in_data (one t) (two t) ks)
over_tail lead (Some begun) pos ks =
    let one : pos + length lead + 1 + length begun ≡ pos + length (map Block lead ++ Mark ∷ map Block begun) =
    omega (arith, length-append (map Block lead) (Mark ∷ map Block begun), length-map lead Block, length-map begun Block) in
    over_data lead pos 0 ks (Mark ∷ map Block begun)
    ∙ over_last_index begun [] (pos + length lead + 1) (pos + length lead) ks
    ∙ (λ t. in_index (one t) (pos + length lead) begun ks)

-- behind two marks in a row nothing more is read
pub bad_stays : (items : List Item) (pos at : ℕ) (ks : List Construct)
    → fold seen (record { pos = pos; phase = Bad at; constructs = ks }) items ≡ record { pos = pos; phase = Bad at; constructs = ks }
bad_stays [] pos at ks = refl
bad_stays (x ∷ items) pos at ks = bad_stays items pos at ks
