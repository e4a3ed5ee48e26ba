-- The content of a list to which items are appended.
use Rattle.std.proofs.Common.{ℕ, ◌+◌, ◌≤◌, ◌≡◌, ◌≢◌, List, [], ◌∷◌, ◌++◌, length, map, drop, sym, ◌∙◌, ap, subst}
use Rattle.std.proofs.lemmas.List.{drop-append-le}
use Rattle.std.proofs.lemmas.List.Sums.{fold-append}
use Rattle.std.specs.List.{fold}
use Rattle.tape_types.specs.declared.cartridges.Item.{Item}
use Rattle.tape_types.specs.declared.cartridges.Item.TheVariants.{Block, Mark, Torn}
use Rattle.content_laws.specs.Readings.{front}
use Rattle.content_laws.specs.Content.{Content, Data, Index, Bad, content, seen, start}
use Rattle.content_laws.proofs.Folded.{in_data, in_index, over_construct, over_last_data, over_last_index}
use Rattle.content_laws.proofs.Placed.{pos_is}
use Rattle.content_laws.proofs.Whole.{front_append, front_blocks, front_item, front_torn}

-- a Torn at the end leaves the content as it is
pub content_torn : (items : List Item) → content (items ++ Torn ∷ []) ≡ content items
content_torn items = ap (λ (l : List Item). fold seen start (drop 4 l)) (front_torn items)

content_append : (items more : List Item) → front items ≡ items → 4 ≤ length items
    → content (items ++ more) ≡ fold seen (content items) (front more)
content_append items more whole long =
    ap (λ (l : List Item). fold seen start (drop 4 l)) (front_append items more whole)
    ∙ ap (λ (l : List Item). fold seen start l) (drop-append-le 4 items (front more) long)
    ∙ fold-append seen start (drop 4 items) (front more)
    ∙ ap (λ (l : List Item). fold seen (fold seen start (drop 4 l)) (front more)) (sym whole)

-- one item more
pub content_more : (items : List Item) (x : Item) → front items ≡ items → 4 ≤ length items → x ≢ Torn
    → content (items ++ x ∷ []) ≡ seen (content items) x
content_more items x whole long is =
    content_append items (x ∷ []) whole long ∙ ap (λ (l : List Item). fold seen (content items) l) (front_item x is)

in_data_is : (s : Content) (since : ℕ) → s.phase ≡ Data since → s ≡ in_data s.pos since s.constructs
in_data_is s since is = λ t. record { pos = s.pos; phase = is t; constructs = s.constructs }

in_index_is : (s : Content) (mark : ℕ) (begun : List (List ℕ)) → s.phase ≡ Index mark begun → s ≡ in_index s.pos mark begun s.constructs
in_index_is s mark begun is = λ t. record { pos = s.pos; phase = is t; constructs = s.constructs }

-- blocks behind data: no other index
content_blocks : (items : List Item) (blocks : List (List ℕ)) (since : ℕ) → front items ≡ items → 4 ≤ length items
    → (content items).phase ≡ Data since
    → content (items ++ map Block blocks) ≡ in_data ((content items).pos + length blocks) (since + length blocks) (content items).constructs
content_blocks items blocks since whole long is =
    content_append items (map Block blocks) whole long
    ∙ ap (λ (l : List Item). fold seen (content items) l) (front_blocks blocks)
    ∙ ap (λ (s : Content). fold seen s (map Block blocks)) (in_data_is (content items) since is)
    ∙ over_last_data blocks (content items).pos since (content items).constructs

-- blocks in an index that was begun
content_index_blocks : (items : List Item) (blocks : List (List ℕ)) (mark : ℕ) (begun : List (List ℕ)) → front items ≡ items → 4 ≤ length items
    → (content items).phase ≡ Index mark begun
    → content (items ++ map Block blocks) ≡ in_index ((content items).pos + length blocks) mark (begun ++ blocks) (content items).constructs
content_index_blocks items blocks mark begun whole long is =
    content_append items (map Block blocks) whole long
    ∙ ap (λ (l : List Item). fold seen (content items) l) (front_blocks blocks)
    ∙ ap (λ (s : Content). fold seen s (map Block blocks)) (in_index_is (content items) mark begun is)
    ∙ over_last_index blocks begun (content items).pos mark (content items).constructs

front_index : (blocks : List (List ℕ)) → front (Mark ∷ (map Block blocks ++ Mark ∷ [])) ≡ Mark ∷ (map Block blocks ++ Mark ∷ [])
front_index blocks = ap (λ (l : List Item). Mark ∷ l) (front_append (map Block blocks) (Mark ∷ []) (front_blocks blocks))

-- a mark, blocks and a mark behind data: one index more
content_construct : (items : List Item) (blocks : List (List ℕ)) (since : ℕ) → front items ≡ items → 4 ≤ length items
    → (content items).phase ≡ Data since → blocks ≢ []
    → content (items ++ (Mark ∷ (map Block blocks ++ Mark ∷ [])))
    ≡ in_data ((content items).pos + length blocks + 2) 0 (record { mark = (content items).pos; blocks = blocks } ∷ (content items).constructs)
content_construct items blocks since whole long is some =
    let index : List Item = Mark ∷ (map Block blocks ++ Mark ∷ []) in
    content_append items index whole long
    ∙ ap (λ (l : List Item). fold seen (content items) l) (front_index blocks)
    ∙ ap (λ (s : Content). fold seen s index) (in_data_is (content items) since is)
    ∙ over_construct blocks (content items).pos since (content items).constructs [] some

-- behind data the reading of a whole list stands at its end
pub data_at_end : (items : List Item) (since : ℕ) → front items ≡ items → 4 ≤ length items → (content items).phase ≡ Data since
    → (content items).pos ≡ length items
data_at_end items since whole long is =
    pos_is items (subst (λ (l : List Item). 4 ≤ length l) (sym whole) long) (λ at bad. let no : Data since ≡ Bad at = sym is ∙ bad in cc no)
    ∙ ap (λ (l : List Item). length l) whole

-- blocks appended behind an index are data behind it
pub blocks_appended : (items : List Item) (blocks : List (List ℕ)) (since : ℕ) → front items ≡ items → 4 ≤ length items
    → (content items).phase ≡ Data since
    → content (items ++ map Block blocks) ≡ in_data (length items + length blocks) (since + length blocks) (content items).constructs
blocks_appended items blocks since whole long is =
    content_blocks items blocks since whole long is
    ∙ ap (λ (n : ℕ). in_data (n + length blocks) (since + length blocks) (content items).constructs) (data_at_end items since whole long is)

-- an index appended behind data is the newest one
pub index_appended : (items : List Item) (blocks : List (List ℕ)) (since : ℕ) → front items ≡ items → 4 ≤ length items
    → (content items).phase ≡ Data since → blocks ≢ []
    → content (items ++ (Mark ∷ (map Block blocks ++ Mark ∷ [])))
    ≡ in_data (length items + length blocks + 2) 0 (record { mark = length items; blocks = blocks } ∷ (content items).constructs)
index_appended items blocks since whole long is some =
    content_construct items blocks since whole long is some
    ∙ ap (λ (n : ℕ). in_data (n + length blocks + 2) 0 (record { mark = n; blocks = blocks } ∷ (content items).constructs)) (data_at_end items since whole long is)
