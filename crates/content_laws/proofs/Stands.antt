-- Where the indexes of a partition stand.
use Rattle.std.proofs.Common.{ℕ, zero, suc, ◌+◌, ◌-◌, ◌≤◌, ◌≡◌, List, [], ◌∷◌, ◌++◌, length, map, reverse, drop, slice_get, Option, Some, refl, sym, ◌∙◌, ap, subst, arith, ◌<◌, get_or}
use Rattle.std.specs.List.{AllByRecursion, flat_map}
use Rattle.std.proofs.lemmas.List.{append_assoc, length-map, reverse-append, reverse-reverse}
use Rattle.std.proofs.lemmas.Option.{slice_get-get_or, slice_get-map}
use Rattle.std.specs.Option.{option_map}
use Rattle.tape_types.specs.declared.cartridges.Item.{Item}
use Rattle.tape_types.specs.declared.cartridges.Item.TheVariants.{Block, Mark, Torn}
use Rattle.content_laws.specs.Ends.{end_dp}
use Rattle.content_laws.proofs.Placed.{end_dp_within}
use Rattle.content_laws.specs.Readings.{Construct, Group, HasForm, IsIndexAt, StandAt, after_of, constructs_from, front, items_of_group, items_of_tail}
use Rattle.content_laws.specs.Content.{Content, content}
use Rattle.content_laws.proofs.ReadForms.{form}

-- an item of a list stands in it also where it is a part of a longer list
get_front : (items : List Item) (i : ℕ) (x : Item) → slice_get (front items) i ≡ Some x → slice_get items i ≡ Some x
get_front [] i x is = is
get_front (Torn ∷ items) i x is = absurd (cc is)
get_front (Block b ∷ items) zero x is = is
get_front (Block b ∷ items) (suc i) x is = get_front items i x is
get_front (Mark ∷ items) zero x is = is
get_front (Mark ∷ items) (suc i) x is = get_front items i x is

get_drop : (n : ℕ) (items : List Item) (i : ℕ) (x : Item) → slice_get (drop n items) i ≡ Some x → slice_get items (n + i) ≡ Some x
get_drop zero items i x is = subst (λ (k : ℕ). slice_get items k ≡ Some x) (zero_plus i) is
  where
    zero_plus : (i : ℕ) → i ≡ 0 + i
    zero_plus i = omega arith
get_drop (suc n) [] i x is = absurd (cc is)
get_drop (suc n) (y ∷ items) i x is = subst (λ (k : ℕ). slice_get (y ∷ items) k ≡ Some x) (one_more n i) (get_drop n items i x is)
  where
    one_more : (n i : ℕ) → suc (n + i) ≡ suc n + i
    one_more n i = omega arith

get_behind : (xs ys : List Item) (i : ℕ) (x : Item) → slice_get ys i ≡ Some x → slice_get (xs ++ ys) (length xs + i) ≡ Some x
get_behind [] ys i x is = subst (λ (k : ℕ). slice_get ys k ≡ Some x) (zero_plus i) is
  where
    zero_plus : (i : ℕ) → i ≡ 0 + i
    zero_plus i = omega arith
get_behind (y ∷ xs) ys i x is = subst (λ (k : ℕ). slice_get (y ∷ (xs ++ ys)) k ≡ Some x) (one_more (length xs) i) (get_behind xs ys i x is)
  where
    one_more : (n i : ℕ) → suc (n + i) ≡ suc n + i
    one_more n i = omega arith

get_before : (xs ys : List Item) (i : ℕ) (x : Item) → slice_get xs i ≡ Some x → slice_get (xs ++ ys) i ≡ Some x
get_before [] ys i x is = absurd (cc is)
get_before (y ∷ xs) ys zero x is = is
get_before (y ∷ xs) ys (suc i) x is = get_before xs ys i x is

-- an index stands there, its opening mark counted from the first of these items
abbrev IsStood : ℕ → List Item → Construct → Type 0
IsStood at items k = (at ≤ k.mark) × IsIndexAt items (k.mark - at) k.blocks

in_group : (g : Group) (rest : List Item) (at : ℕ) → IsStood at (items_of_group g ++ rest) (record { mark = at + length g.data_blocks; blocks = g.index_blocks })
in_group g rest at = (
  omega arith,
  record {
    opens = there 0 Mark refl (at + length g.data_blocks - at) (omega arith);
    stand = λ i b is.
        let block : slice_get (map Block g.index_blocks) i ≡ Some (Block b) = slice_get-map Block g.index_blocks i ∙ ap (λ (o : Option (List ℕ)). option_map Block o) is in
        there (suc i) (Block b) (get_before (map Block g.index_blocks) (Mark ∷ []) i (Block b) block) (at + length g.data_blocks - at + 1 + i) (omega arith);
    closes =
        there (suc (length (map Block g.index_blocks) + 0)) Mark (get_behind (map Block g.index_blocks) (Mark ∷ []) 0 Mark refl)
        (at + length g.data_blocks - at + 1 + length g.index_blocks) (omega (arith, length-map g.index_blocks Block));
  },
)
  where
    behind : List Item
    behind = map Block g.index_blocks ++ Mark ∷ []

    there : (i : ℕ) (x : Item) → slice_get (Mark ∷ behind) i ≡ Some x → (k : ℕ) → length g.data_blocks + i ≡ k
        → slice_get (items_of_group g ++ rest) k ≡ Some x
    there i x is k same =
        let all = get_before (items_of_group g) rest _ x (get_behind (map Block g.data_blocks) (Mark ∷ behind) i x is) in
        subst (λ (n : ℕ). slice_get (items_of_group g ++ rest) n ≡ Some x) (omega (arith, same, length-map g.data_blocks Block)) all

-- an index of a part of a list stands in the whole list
further : (items others : List Item) (mark other : ℕ) (blocks : List (List ℕ))
    → ((i k : ℕ) (x : Item) → mark + i ≡ k → slice_get items k ≡ Some x → slice_get others (other + i) ≡ Some x) → IsIndexAt items mark blocks → IsIndexAt others other blocks
further items others mark other blocks moves s = record {
  opens = at 0 other Mark (omega arith) (moves 0 mark Mark (omega arith) s.opens);
  stand = λ i b is. at (1 + i) (other + 1 + i) (Block b) (omega arith) (moves (1 + i) (mark + 1 + i) (Block b) (omega arith) (s.stand i b is));
  closes = at (1 + length blocks) (other + 1 + length blocks) Mark (omega arith) (moves (1 + length blocks) (mark + 1 + length blocks) Mark (omega arith) s.closes);
}
  where
    at : (i k : ℕ) (x : Item) → other + i ≡ k → slice_get others (other + i) ≡ Some x → slice_get others k ≡ Some x
    at i k x same is = subst (λ (n : ℕ). slice_get others n ≡ Some x) same is

moved : (xs rest : List Item) (at : ℕ) (k : Construct) → IsStood (at + length xs) rest k → IsStood at (xs ++ rest) k
moved xs rest at k s = (
  omega (arith, s.0),
  further rest (xs ++ rest) (k.mark - (at + length xs)) (k.mark - at) k.blocks
      (λ i n x same is.
      subst (λ (m : ℕ). slice_get (xs ++ rest) m ≡ Some x) (omega (arith, s.0, same)) (get_behind xs rest n x is))
      s.1,
)

all_moved : (xs rest : List Item) (at : ℕ) (ks : List Construct) → AllByRecursion (IsStood (at + length xs) rest) ks → AllByRecursion (IsStood at (xs ++ rest)) ks
all_moved xs rest at [] all = tt
all_moved xs rest at (k ∷ ks) all = (moved xs rest at k all.0, all_moved xs rest at ks all.1)

all_stand : (gs : List Group) (tail : List Item) (at : ℕ) → AllByRecursion (IsStood at (flat_map items_of_group gs ++ tail)) (constructs_from at gs)
all_stand [] tail at = tt
all_stand (g ∷ gs) tail at =
    subst (λ (l : List Item). AllByRecursion (IsStood at l) (constructs_from at (g ∷ gs)))
    (sym (append_assoc (items_of_group g) (flat_map items_of_group gs) tail)) (
      in_group g (flat_map items_of_group gs ++ tail) at,
      all_moved (items_of_group g) (flat_map items_of_group gs ++ tail) at (constructs_from (at + length (items_of_group g)) gs) (all_stand gs tail (at + length (items_of_group g))),
    )

-- one of a reversed list is one of the list
one_of_all : (P : Construct → Type 0) (ks newer : List Construct) (k : Construct) (older : List Construct) → ks ≡ reverse (newer ++ k ∷ older)
    → AllByRecursion P ks → P k
one_of_all P ks newer k older is all =
    within (reverse older) (reverse newer) (subst (AllByRecursion P) (is ∙ parts) all)
  where
    parts : reverse (newer ++ k ∷ older) ≡ reverse older ++ k ∷ reverse newer
    parts =
        reverse-append newer (k ∷ older)
        ∙ ap (λ (ks : List Construct). ks ++ reverse newer) (reverse-append (k ∷ []) older)
        ∙ append_assoc (reverse older) (reverse (k ∷ [])) (reverse newer)

    within : (xs ys : List Construct) → AllByRecursion P (xs ++ k ∷ ys) → P k
    within [] ys both = both.0
    within (x ∷ xs) ys both = within xs ys both.1

-- each index of a partition stands there
pub index_stands : (items : List Item) (newer : List Construct) (k : Construct) (older : List Construct) → HasForm items
    → (content items).constructs ≡ newer ++ k ∷ older → IsIndexAt items k.mark k.blocks
index_stands items newer k older f is =
    further (flat_map items_of_group f.groups ++ items_of_tail f.lead f.begun) items (k.mark - 4) k.mark k.blocks
    (λ i n x same at.
    subst (λ (m : ℕ). slice_get items m ≡ Some x) (omega (arith, stood.0, same))
    (get_front items _ x (get_drop 4 (front items) n x
    (subst (λ (l : List Item). slice_get l n ≡ Some x) (sym f.spelled) at))))
    stood.1
  where
    ordered : constructs_from 4 f.groups ≡ reverse (newer ++ k ∷ older)
    ordered =
        sym (reverse-reverse (constructs_from 4 f.groups))
        ∙ ap (λ (ks : List Construct). reverse ks) (sym (ap (λ (s : Content). s.constructs) (form items f)) ∙ is)

    stood : IsStood 4 (flat_map items_of_group f.groups ++ items_of_tail f.lead f.begun) k
    stood = one_of_all (IsStood 4 (flat_map items_of_group f.groups ++ items_of_tail f.lead f.begun)) (constructs_from 4 f.groups) newer k older ordered
        (all_stand f.groups (items_of_tail f.lead f.begun) 4)

-- ---- one index stands there

same_block : (items : List Item) (pos : ℕ) (bs cs : List (List ℕ)) (i : ℕ) (b c : List ℕ) → StandAt items pos bs → StandAt items pos cs
    → slice_get bs i ≡ Some b → slice_get cs i ≡ Some c → b ≡ c
same_block items pos bs cs i b c s t at there = let both : Some (Block b) ≡ Some (Block c) = sym (s i b at) ∙ t i c there in cc

not_longer : (items : List Item) (mark : ℕ) (bs cs : List (List ℕ)) → IsIndexAt items mark bs → IsIndexAt items mark cs → length bs < length cs → ⊥
not_longer items mark bs cs s t lt =
    let both : Some Mark ≡ Some (Block (get_or cs (length bs) [])) = sym s.closes ∙ t.stand (length bs) (get_or cs (length bs) []) (slice_get-get_or cs (length bs) [] lt) in cc both

by_items : (bs cs : List (List ℕ)) → length bs ≡ length cs → ((i : ℕ) (b c : List ℕ) → slice_get bs i ≡ Some b → slice_get cs i ≡ Some c → b ≡ c) → bs ≡ cs
by_items [] [] long same = refl
by_items [] (c ∷ cs) long same = absurd (omega (arith, long))
by_items (b ∷ bs) [] long same = absurd (omega (arith, long))
by_items (b ∷ bs) (c ∷ cs) long same =
    let head : b ≡ c = same 0 b c refl refl in
    let tail : bs ≡ cs = by_items bs cs (omega (arith, long)) (λ i x y at there. same (suc i) x y at there) in λ i. head i ∷ tail i

-- an index that stands there has these blocks
pub one_index : (items : List Item) (mark : ℕ) (bs cs : List (List ℕ)) → IsIndexAt items mark bs → IsIndexAt items mark cs → bs ≡ cs
one_index items mark bs cs s t =
    by_items bs cs (one_length (length bs) (length cs) (not_longer items mark bs cs s t) (not_longer items mark cs bs t s))
    (λ i b c at there. same_block items (mark + 1) bs cs i b c s.stand t.stand at there)
  where
    one_length : (m n : ℕ) → (m < n → ⊥) → (n < m → ⊥) → m ≡ n
    one_length zero zero less more = refl
    one_length zero (suc n) less more = absurd (less (omega arith))
    one_length (suc m) zero less more = absurd (more (omega arith))
    one_length (suc m) (suc n) less more = ap suc (one_length m n (λ lt. less (omega (arith, lt))) (λ lt. more (omega (arith, lt))))

-- ---- a partition that ends with its last index

whole_front : (items : List Item) → length items ≤ length (front items) → front items ≡ items
whole_front [] le = refl
whole_front (Torn ∷ items) le = absurd (omega (arith, le))
whole_front (Mark ∷ items) le = ap (λ (l : List Item). Mark ∷ l) (whole_front items (omega (arith, le)))
whole_front (Block b ∷ items) le = ap (λ (l : List Item). Block b ∷ l) (whole_front items (omega (arith, le)))

-- none of its items is torn
pub ends_whole : (items : List Item) (k : Construct) (older : List Construct) → 4 ≤ length (front items) → (content items).constructs ≡ k ∷ older
    → length items ≡ after_of k → front items ≡ items
ends_whole items k older long are ends =
    let within = subst (λ (ks : List Construct). end_dp ks ≤ length (front items)) are (end_dp_within items long) in
    whole_front items (omega (arith, within, ends))
