-- Where an index partition ends that ends with its last index.
use Rattle.std.proofs.Common.{ℕ, zero, suc, ◌+◌, ◌≤◌, ◌≡◌, ◌≢◌, List, [], ◌∷◌, length, Some, refl, sym, ap, subst}
use Rattle.std.proofs.Common.{◌∙◌, arith}
use Rattle.tape_types.specs.declared.cartridges.Item.{Item}
use Rattle.content_laws.specs.Content.{Bad, Data, Index, Phase, content}
use Rattle.content_laws.specs.Ends.{EndsWithLast, end_ip, end_ip_in}
use Rattle.content_laws.specs.Readings.{Construct, HasForm, after_of, front}
use Rattle.content_laws.proofs.Placed.{EndsAt, content_placed, pos_within}
use Rattle.content_laws.proofs.Whole.{front_within}
use Rattle.cartridge_meaning.specs.Pointers.{indexes_of, last_block}
use Rattle.promises.proofs.ImageLaws.Cut.{is_good}

last_ends : (pos long : ℕ) (phase : Phase) (k : Construct) (older : List Construct) → EndsAt pos phase (k ∷ older)
    → long ≡ after_of k → pos ≤ long → ((at : ℕ) → phase ≢ Bad at) → end_ip_in pos phase (k ∷ older) ≡ k.mark
last_ends pos long (Data zero) k older ends is within good = refl
last_ends pos long (Data (suc since)) k older ends is within good = absurd (omega (arith, ends, is, within))
last_ends pos long (Index mark blocks) k older ends is within good =
    absurd (omega (arith, ends.0, ends.1, is, within))
last_ends pos long (Bad at) k older ends is within good = absurd (good at refl)

-- it ends at the mark that opens that index
pub ends_at_last : (items : List Item) → HasForm items → 4 ≤ length (front items)
    → EndsWithLast items (indexes_of items) → last_block (indexes_of items) ≡ Some (end_ip (content items) + 1)
ends_at_last items form long ends = by (content items).constructs refl ends
  where
    by : (ks : List Construct) → (content items).constructs ≡ ks → EndsWithLast items ks
        → last_block ks ≡ Some (end_ip (content items) + 1)
    by [] is last = absurd last
    by (k ∷ older) is last =
        let s = content items in
        let placed = subst (λ (ks : List Construct). EndsAt s.pos s.phase ks) is (content_placed items).ends in
        let at : end_ip_in s.pos s.phase (k ∷ older) ≡ k.mark =
        last_ends s.pos (length items) s.phase k older placed last
        (omega (arith, pos_within items long, front_within items)) (is_good items form) in
        ap (λ (n : ℕ). Some (n + 1)) (sym (ap (end_ip_in s.pos s.phase) is ∙ at))
