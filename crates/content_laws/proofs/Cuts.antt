-- What is left of the content where a list is cut.
use Rattle.std.proofs.Common.{ℕ, ◌+◌, ◌-◌, ◌≤◌, ◌≡◌, ◌≢◌, ◌⊎◌, ⊎_elim, inl, inr, List, [], ◌∷◌, ◌++◌, length, take, drop, refl, sym, ◌∙◌, ap, subst, arith, append_assoc, length-append}
use Rattle.std.proofs.lemmas.List.{drop-take, take-append-drop}
use Rattle.std.proofs.lemmas.List.Sums.{fold-append}
use Rattle.std.proofs.Math.Seq.{take-append-add}
use Rattle.std.specs.List.{fold}
use Rattle.tape_types.specs.declared.cartridges.Item.{Item}
use Rattle.tape_types.specs.declared.cartridges.Item.TheVariants.{Block, Mark, Torn}
use Rattle.content_laws.specs.Readings.{Construct, after_of, front, readable}
use Rattle.content_laws.specs.Content.{Content, Phase, Data, Index, Bad, content, seen, seen_in, start}
use Rattle.content_laws.specs.Ends.{end_dp}
use Rattle.content_laws.proofs.Folded.{in_data, in_index, over_closing}
use Rattle.content_laws.proofs.Placed.{EndsAt, IsPlaced, end_dp_from, reaches_end, start_placed, stays_placed}
use Rattle.content_laws.proofs.Whole.{AreWhole, front_cut, front_whole, whole_before, whole_behind}

-- the indexes that were met stay
grown_in : (pos : ℕ) (phase : Phase) (ks : List Construct) (x : Item) → (more : List Construct) × ((seen_in pos phase ks x).constructs ≡ more ++ ks)
grown_in pos (Data since) ks (Block b) = ([], refl)
grown_in pos (Data since) ks Mark = ([], refl)
grown_in pos (Data since) ks Torn = ([], refl)
grown_in pos (Index mark blocks) ks (Block b) = ([], refl)
grown_in pos (Index mark []) ks Mark = ([], refl)
grown_in pos (Index mark (b ∷ blocks)) ks Mark = (record { mark = mark; blocks = b ∷ blocks } ∷ [], refl)
grown_in pos (Index mark blocks) ks Torn = ([], refl)
grown_in pos (Bad at) ks x = ([], refl)

grown : (items : List Item) (s : Content) → (more : List Construct) × ((fold seen s items).constructs ≡ more ++ s.constructs)
grown [] s = ([], refl)
grown (x ∷ items) s =
    let one = grown_in s.pos s.phase s.constructs x in
    let more = grown items (seen s x) in (
      more.0 ++ one.0,
      more.1 ∙ ap (λ (ks : List Construct). more.0 ++ ks) one.1 ∙ sym (append_assoc more.0 one.0 s.constructs),
    )

-- at the mark that closes an index stood the reading behind all its blocks
pub record IsMet (items : List Item) (s : Content) (k : Construct) (older : List Construct) : Type 0 where
  pub before : List Item
  pub behind : List Item
  pub parts : items ≡ before ++ Mark ∷ behind
  pub pos : ℕ
  pub stands : fold seen s before ≡ in_index pos k.mark k.blocks older
  pub some : k.blocks ≢ []
  pub after : pos + 1 ≡ after_of k

abbrev HadMet : List Construct → Construct → List Construct → Type 0
HadMet ks k older = (newer : List Construct) × (ks ≡ newer ++ k ∷ older)

-- this item closes the index
record Closes (pos : ℕ) (phase : Phase) (ks : List Construct) (x : Item) (k : Construct) (older : List Construct) : Type 0 where
  mark : x ≡ Mark
  phase_is : phase ≡ Index k.mark k.blocks
  some : k.blocks ≢ []
  before : ks ≡ older
  after : pos + 1 ≡ after_of k

closed_met : (pos mark : ℕ) (b : List ℕ) (blocks : List (List ℕ)) (ks : List Construct) (k : Construct) (newer older : List Construct)
    → EndsAt pos (Index mark (b ∷ blocks)) ks → record { mark = mark; blocks = b ∷ blocks } ∷ ks ≡ newer ++ k ∷ older
    → HadMet ks k older ⊎ Closes pos (Index mark (b ∷ blocks)) ks Mark k older
closed_met pos mark b blocks ks k [] older ends is =
    let closed : Construct = record { mark = mark; blocks = b ∷ blocks } in
    let one : closed ≡ k = cc in
    let at : pos + 1 ≡ after_of closed = omega (arith, ends.1) in
    inr (
    record {
      mark = refl;
      phase_is = ap (λ (c : Construct). Index c.mark c.blocks) one;
      some = λ none. let no : b ∷ blocks ≡ [] = ap (λ (c : Construct). c.blocks) one ∙ none in cc no;
      before = cc;
      after = at ∙ ap after_of one;
    }
    )
closed_met pos mark b blocks ks k (c ∷ newer) older ends is = inl (newer, (cc))

met_in : (pos : ℕ) (phase : Phase) (ks : List Construct) (x : Item) (k : Construct) (newer older : List Construct) → EndsAt pos phase ks
    → (seen_in pos phase ks x).constructs ≡ newer ++ k ∷ older → HadMet ks k older ⊎ Closes pos phase ks x k older
met_in pos (Data since) ks (Block b) k newer older ends is = inl (newer, is)
met_in pos (Data since) ks Mark k newer older ends is = inl (newer, is)
met_in pos (Data since) ks Torn k newer older ends is = inl (newer, is)
met_in pos (Index mark blocks) ks (Block b) k newer older ends is = inl (newer, is)
met_in pos (Index mark []) ks Mark k newer older ends is = inl (newer, is)
met_in pos (Index mark (b ∷ blocks)) ks Mark k newer older ends is = closed_met pos mark b blocks ks k newer older ends is
met_in pos (Index mark blocks) ks Torn k newer older ends is = inl (newer, is)
met_in pos (Bad at) ks x k newer older ends is = inl (newer, is)

met : (items : List Item) (s : Content) (k : Construct) (newer older : List Construct) → IsPlaced s → (fold seen s items).constructs ≡ newer ++ k ∷ older
    → HadMet s.constructs k older ⊎ IsMet items s k older
met [] s k newer older placed is = inl (newer, is)
met (x ∷ items) s k newer older placed is =
    ⊎_elim
    (λ (had : HadMet (seen s x).constructs k older).
    ⊎_elim
    (λ (before : HadMet s.constructs k older). inl before)
    (λ (now : Closes s.pos s.phase s.constructs x k older).
    inr (
    record {
      before = [];
      behind = items;
      parts = ap (λ (y : Item). y ∷ items) now.mark;
      pos = s.pos;
      stands = λ t. record { pos = s.pos; phase = now.phase_is t; constructs = now.before t };
      some = now.some;
      after = now.after;
    }
    ))
    (met_in s.pos s.phase s.constructs x k had.0 older placed.ends had.1))
    (λ (m : IsMet items (seen s x) k older).
    inr (
    record {
      before = x ∷ m.before;
      behind = m.behind;
      parts = ap (λ (l : List Item). x ∷ l) m.parts;
      pos = m.pos;
      stands = m.stands;
      some = m.some;
      after = m.after;
    }
    ))
    (met items (seen s x) k newer older (stays_placed (x ∷ []) s placed) is)

had_none : (newer : List Construct) (k : Construct) (older : List Construct) → [] ≡ newer ++ k ∷ older → ⊥
had_none [] k older is = cc is
had_none (c ∷ newer) k older is = cc is

-- each index of a partition was met at some stage of reading it
pub content_met : (items : List Item) (k : Construct) (newer older : List Construct) → (content items).constructs ≡ newer ++ k ∷ older
    → IsMet (readable items) start k older
content_met items k newer older is =
    ⊎_elim
    (λ (had : HadMet [] k older). absurd (had_none had.0 k older had.1))
    (λ (m : IsMet (readable items) start k older). m)
    (met (readable items) start k newer older start_placed is)

-- and directly behind that mark, with the index as the newest
behind_index : (items : List Item) (k : Construct) (older : List Construct) (m : IsMet (readable items) start k older)
    → (readable items ≡ (m.before ++ Mark ∷ []) ++ m.behind) × (fold seen start (m.before ++ Mark ∷ []) ≡ in_data (after_of k) 0 (k ∷ older))
behind_index items k older m = (
  m.parts ∙ sym (append_assoc m.before (Mark ∷ []) m.behind),
  fold-append seen start m.before (Mark ∷ [])
      ∙ ap (λ (s : Content). fold seen s (Mark ∷ [])) m.stands
      ∙ over_closing k.blocks m.pos k.mark older [] m.some
      ∙ ap (λ (n : ℕ). in_data n 0 (k ∷ older)) m.after,
)

-- a reading of so many items stands at that position
stage_at : (items before behind : List Item) (s : Content) → readable items ≡ before ++ behind → fold seen start before ≡ s
    → ((at : ℕ) → s.phase ≢ Bad at) → 4 + length before ≡ s.pos
stage_at items before behind s parts stands sound =
    let whole = whole_before before behind (subst (λ (l : List Item). AreWhole l) parts (whole_behind 4 (front items) (front_whole items))) in
    sym (reaches_end before start whole (λ at bad. sound at (sym (ap (λ (c : Content). c.phase) stands) ∙ bad)))
    ∙ ap (λ (c : Content). c.pos) stands

readable_cut : (items : List Item) (n : ℕ) → readable (take (4 + n) items) ≡ take n (readable items)
readable_cut items n = ap (λ (l : List Item). drop 4 l) (front_cut (4 + n) items) ∙ drop-take 4 n (front items)

-- a list that is cut there, or further up, is read on from there
cut_stage : (items before behind : List Item) (s : Content) (n : ℕ) → readable items ≡ before ++ behind → fold seen start before ≡ s
    → ((at : ℕ) → s.phase ≢ Bad at) → content (take (s.pos + n) items) ≡ fold seen s (take n behind)
cut_stage items before behind s n parts stands sound =
    let at : s.pos + n ≡ 4 + (length before + n) = omega (arith, stage_at items before behind s parts stands sound) in
    ap (λ (p : ℕ). content (take p items)) at
    ∙ ap (λ (l : List Item). fold seen start l) (readable_cut items (length before + n) ∙ ap (λ (l : List Item). take (length before + n) l) parts ∙ take-append-add before behind n)
    ∙ fold-append seen start before (take n behind)
    ∙ ap (λ (c : Content). fold seen c (take n behind)) stands

-- a partition cut where a reading stood has the content of that stage
pub cut_at_stage : (items before behind : List Item) (s : Content) → readable items ≡ before ++ behind → fold seen start before ≡ s
    → ((at : ℕ) → s.phase ≢ Bad at) → content (take s.pos items) ≡ s
cut_at_stage items before behind s parts stands sound =
    let none : s.pos ≡ s.pos + 0 = omega arith in
    ap (λ (p : ℕ). content (take p items)) none ∙ cut_stage items before behind s 0 parts stands sound

data_sound : (pos since : ℕ) (ks : List Construct) (at : ℕ) → (in_data pos since ks).phase ≡ Bad at → ⊥
data_sound pos since ks at bad = cc bad

after_from : (items : List Item) (k : Construct) (older : List Construct) → IsMet (readable items) start k older → 4 ≤ after_of k
after_from items k older m =
    let b = behind_index items k older m in
    omega (arith, stage_at items (m.before ++ Mark ∷ []) m.behind (in_data (after_of k) 0 (k ∷ older)) b.0 b.1 (data_sound (after_of k) 0 (k ∷ older)))

-- a list that is cut has no other indexes than it had
cut_has_no_more : (items : List Item) (n : ℕ) → 4 ≤ n → (more : List Construct) × ((content items).constructs ≡ more ++ (content (take n items)).constructs)
cut_has_no_more items n from =
    let rest : ℕ = n - 4 in
    let at : 4 + rest ≡ n = omega arith in
    let cut : readable (take n items) ≡ take rest (readable items) = ap (λ (m : ℕ). readable (take m items)) (sym at) ∙ readable_cut items rest in
    let more = grown (drop rest (readable items)) (fold seen start (take rest (readable items))) in (
      more.0,
      ap (λ (l : List Item). (fold seen start l).constructs) (sym (take-append-drop rest (readable items)))
          ∙ ap (λ (s : Content). s.constructs) (fold-append seen start (take rest (readable items)) (drop rest (readable items)))
          ∙ more.1
          ∙ ap (λ (l : List Item). more.0 ++ (fold seen start l).constructs) (sym cut),
    )

-- directly behind an index no block of data stands
pub cut_behind_index : (items : List Item) (k : Construct) (newer older : List Construct) → (content items).constructs ≡ newer ++ k ∷ older
    → content (take (after_of k) items) ≡ in_data (after_of k) 0 (k ∷ older)
cut_behind_index items k newer older is =
    let m = content_met items k newer older is in
    let b = behind_index items k older m in
    cut_at_stage items (m.before ++ Mark ∷ []) m.behind (in_data (after_of k) 0 (k ∷ older)) b.0 b.1 (data_sound (after_of k) 0 (k ∷ older))

cut_has_index : (items : List Item) (k : Construct) (newer older : List Construct) (n : ℕ) → (content items).constructs ≡ newer ++ k ∷ older
    → after_of k ≤ n → (more : List Construct) × ((content (take n items)).constructs ≡ more ++ k ∷ older)
cut_has_index items k newer older n is le =
    let m = content_met items k newer older is in
    let b = behind_index items k older m in
    let stage : Content = in_data (after_of k) 0 (k ∷ older) in
    let rest : ℕ = n - after_of k in
    let at : n ≡ after_of k + rest = omega arith in
    let cut = cut_stage items (m.before ++ Mark ∷ []) m.behind stage rest b.0 b.1 (data_sound (after_of k) 0 (k ∷ older)) in
    let more = grown (take rest m.behind) stage in (
      more.0,
      ap (λ (p : ℕ). (content (take p items)).constructs) at ∙ ap (λ (s : Content). s.constructs) cut ∙ more.1,
    )

-- two lists that agree up to an index, or further, have it both, and the same before it
pub agree_up_to_index : (items others : List Item) (k : Construct) (newer older : List Construct) (n : ℕ) → (content items).constructs ≡ newer ++ k ∷ older
    → after_of k ≤ n → take n items ≡ take n others → (more : List Construct) × ((content others).constructs ≡ more ++ k ∷ older)
agree_up_to_index items others k newer older n is le same =
    let cut = cut_has_index items k newer older n is le in
    let more = cut_has_no_more others n (omega (arith, after_from items k older (content_met items k newer older is), le)) in (
      more.0 ++ cut.0,
      more.1
          ∙ ap (λ (l : List Item). more.0 ++ (content l).constructs) (sym same)
          ∙ ap (λ (ks : List Construct). more.0 ++ ks) cut.1
          ∙ sym (append_assoc more.0 cut.0 (k ∷ older)),
    )

none_before : (more ks : List Construct) → [] ≡ more ++ ks → ks ≡ []
none_before [] ks is = sym is
none_before (c ∷ more) ks is = absurd (cc)

no_more : (ks first second : List Construct) → ks ≡ first ++ (second ++ ks) → second ++ ks ≡ ks
no_more ks first [] is = refl
no_more ks first (c ∷ second) is = absurd (omega (arith, ap (λ (l : List Construct). length l) is, length-append first ((c ∷ second) ++ ks), length-append second ks))

-- a list that is cut behind its last index, or further up, keeps its indexes
pub cut_keeps : (items : List Item) (n : ℕ) → end_dp (content items).constructs ≤ n → (content (take n items)).constructs ≡ (content items).constructs
cut_keeps items n le = by_last (content items).constructs refl le
  where
    by_last : (ks : List Construct) → (content items).constructs ≡ ks → end_dp ks ≤ n → (content (take n items)).constructs ≡ (content items).constructs
    by_last [] is le = let more = cut_has_no_more items n le in none_before more.0 (content (take n items)).constructs (sym is ∙ more.1) ∙ sym is
    by_last (k ∷ older) is le =
        let cut = cut_has_index items k [] older n is le in
        let more = cut_has_no_more items n (omega (arith, end_dp_from items, ap end_dp is, le)) in
        cut.1 ∙ no_more (k ∷ older) more.0 cut.0 (sym is ∙ more.1 ∙ ap (λ (ks : List Construct). more.0 ++ ks) cut.1) ∙ sym is
