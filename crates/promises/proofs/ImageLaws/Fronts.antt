-- Lists that begin alike, and what a torn item at the end changes.
use Rattle.std.proofs.Common.{ℕ, zero, suc, ◌≡◌, ◌≢◌, ◌+◌, ◌≤◌, ◌<◌, List, [], ◌∷◌, ◌++◌, length, take, drop, slice_get, Some, refl, sym, ◌∙◌, ap, subst, arith}
use Rattle.std.proofs.lemmas.List.{drop_all, take-take}
use Rattle.tape_types.specs.declared.cartridges.Cartridge.{Cartridge}
use Rattle.tape_types.specs.declared.cartridges.Item.{Item}
use Rattle.tape_types.specs.declared.cartridges.Item.TheVariants.{Block, Mark, Torn}
use Rattle.content_laws.specs.Readings.{Construct, HasForm, Reading, front}
use Rattle.content_laws.specs.Content.{Content, content, seen, start}
use Rattle.content_laws.specs.Ends.{IsOneAtMost, end_dp}
use Rattle.std.specs.List.{fold}
use Rattle.content_laws.proofs.Grown.{content_torn}
use Rattle.content_laws.proofs.Placed.{end_dp_within}
use Rattle.content_laws.proofs.Whole.{front_torn, front_within}
use Rattle.cartridge_meaning.specs.Labels.{HasLabels, IsMarkedBlock}
use Rattle.cartridge_meaning.specs.Pointers.{indexes_of}
use Rattle.cartridge_meaning.specs.declared.labels.Labels.{Labels}

-- a list that begins as a longer one is as long
pub long_enough : {X : Type 0} (n : ℕ) (xs ys : List X) → take n xs ≡ take n ys → n ≤ length ys → n ≤ length xs
long_enough zero xs ys e le = omega arith
long_enough (suc n) xs [] e le = absurd (omega (arith, le))
long_enough (suc n) [] (y ∷ ys) e le = absurd (let wrong : [] ≡ y ∷ take n ys = e in cc)
long_enough (suc n) (x ∷ xs) (y ∷ ys) e le =
    let rest : take n xs ≡ take n ys = cc in
    omega (arith, long_enough n xs ys rest (omega (arith, le)))

-- lists that begin alike up to a length begin alike up to a lesser one
pub front_same : {X : Type 0} (m n : ℕ) (xs ys : List X) → m ≤ n → take n xs ≡ take n ys → take m xs ≡ take m ys
front_same m n xs ys le e = sym (take-take m n xs le) ∙ ap (λ (l : List _). take m l) e ∙ take-take m n ys le

-- ---- labels

tail_get : (items : List Item) (i : ℕ) → slice_get (drop 1 items) i ≡ slice_get items (suc i)
tail_get [] i = refl
tail_get (x ∷ items) i = refl

front_more : (items : List Item) (x : Item) (n : ℕ) → slice_get items 0 ≡ Some x → x ≢ Torn → n ≤ length (front (drop 1 items)) → n + 1 ≤ length (front items)
front_more [] x n is whole le = absurd (cc is)
front_more (Block b ∷ items) x n is whole le = omega (arith, le)
front_more (Mark ∷ items) x n is whole le = omega (arith, le)
front_more (Torn ∷ items) x n is whole le = absurd (whole (let same : Some x ≡ Some Torn = sym is in cc))

labels_in_front : (items : List Item) (first second : List ℕ) → IsMarkedBlock items 0 first → IsMarkedBlock items 2 second → 4 ≤ length (front items)
labels_in_front items first second h k =
    let one = drop 1 items in
    let two = drop 1 one in
    let three = drop 1 two in
    front_more items (Block first) 3 h.block (λ e. cc e)
    (front_more one Mark 2 (tail_get items 0 ∙ h.mark) (λ e. cc e)
    (front_more two (Block second) 1 (tail_get one 0 ∙ tail_get items 1 ∙ k.block) (λ e. cc e)
    (front_more three Mark 0 (tail_get two 0 ∙ tail_get one 1 ∙ tail_get items 2 ∙ k.mark) (λ e. cc e) (omega arith))))

-- a cartridge with labels has at least four items in the front of its data partition
pub long_dp : (c : Cartridge) (l : Labels) → HasLabels c l → 4 ≤ length (front c.dp)
long_dp c l h = labels_in_front c.dp h.dp_record.bytes h.dp.bytes h.dp_record.stands h.dp.stands

long_ip : (c : Cartridge) (l : Labels) → HasLabels c l → 4 ≤ length (front c.ip)
long_ip c l h = labels_in_front c.ip h.ip_record.bytes h.ip.bytes h.ip_record.stands h.ip.stands

-- a front with no more than the labels has no content
pub short_content : (items : List Item) → length (front items) < 4 → content items ≡ start
short_content items lt = ap (λ (l : List Item). fold seen start l) (drop_all 4 (front items) (omega (arith, lt)))

-- ---- a torn item at the end

-- a Torn at the end leaves the form of a partition
pub form_torn : (items : List Item) → HasForm items → HasForm (items ++ Torn ∷ [])
form_torn items h = subst (λ (l : List Item). Reading (drop 4 l)) (sym (front_torn items)) h

-- a Torn at the end leaves the indexes as they are
pub indexes_torn : (items : List Item) → indexes_of (items ++ Torn ∷ []) ≡ indexes_of items
indexes_torn items = ap (λ (s : Content). s.constructs) (content_torn items)

one_front : (items others : List Item) (ks : List Construct) → front others ≡ front items → IsOneAtMost items ks → IsOneAtMost others ks
one_front items others [] e h = tt
one_front items others (k ∷ older) e h = (h.0, ap (λ (l : List Item). length l) e ∙ h.1)

-- a Torn at the end leaves a partition with one index at most
pub one_torn : (items : List Item) → IsOneAtMost items (indexes_of items) → IsOneAtMost (items ++ Torn ∷ []) (indexes_of (items ++ Torn ∷ []))
one_torn items h =
    subst (λ (ks : List Construct). IsOneAtMost (items ++ Torn ∷ []) ks) (sym (indexes_torn items))
    (one_front items (items ++ Torn ∷ []) (indexes_of items) (front_torn items) h)

-- the end of the newest index of a partition that has labels lies within its items
pub end_within : (items : List Item) → 4 ≤ length (front items) → end_dp (indexes_of items) ≤ length items
end_within items long = omega (arith, end_dp_within items long, front_within items)
