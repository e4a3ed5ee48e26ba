-- What is left of the index partition where it is cut at its end.
use Rattle.std.proofs.Common.{ℕ, zero, suc, ◌≡◌, ◌≢◌, ◌⊎◌, ⊎_elim, inl, inr, List, [], ◌∷◌, ◌++◌, take, refl, sym, ◌∙◌, ap, append_assoc}
use Rattle.std.proofs.lemmas.List.{append-nil}
use Rattle.std.specs.List.{fold}
use Rattle.tape_types.specs.declared.cartridges.Item.{Item}
use Rattle.tape_types.specs.declared.cartridges.Item.TheVariants.{Block, Mark, Torn}
use Rattle.content_laws.specs.Readings.{Construct, readable}
use Rattle.content_laws.specs.Content.{Content, Phase, Data, Index, Bad, content, seen, seen_in, start}
use Rattle.content_laws.specs.Ends.{end_ip, end_ip_in, kept_on_ip, kept_in}
use Rattle.content_laws.proofs.Folded.{in_data}
use Rattle.content_laws.proofs.Cuts.{content_met, cut_at_stage}

-- at the mark that opens an index stood the reading behind data
record IsOpened (items : List Item) (s : Content) (mark : ℕ) (ks : List Construct) : Type 0 where
  before : List Item
  behind : List Item
  parts : items ≡ before ++ behind
  since : ℕ
  stands : fold seen s before ≡ in_data mark since ks

-- it was open before, or this item opens it
abbrev WasOpen : Phase → ℕ → Type 0
WasOpen phase mark = (blocks : List (List ℕ)) × (phase ≡ Index mark blocks)

abbrev Opens : ℕ → Phase → ℕ → Type 0
Opens pos phase mark = (since : ℕ) × (phase ≡ Data since) × (pos ≡ mark)

opened_in : (pos : ℕ) (phase : Phase) (ks : List Construct) (x : Item) (mark : ℕ) (blocks : List (List ℕ)) → (seen_in pos phase ks x).phase ≡ Index mark blocks
    → ((seen_in pos phase ks x).constructs ≡ ks) × (WasOpen phase mark ⊎ Opens pos phase mark)
opened_in pos (Data since) ks (Block b) mark blocks is = absurd (cc)
opened_in pos (Data since) ks Mark mark blocks is = (refl, inr (since, refl, (cc)))
opened_in pos (Data since) ks Torn mark blocks is = absurd (cc)
opened_in pos (Index opened begun) ks (Block b) mark blocks is =
    let same : opened ≡ mark = cc in (refl, inl (begun, ap (λ (n : ℕ). Index n begun) same))
opened_in pos (Index opened []) ks Mark mark blocks is = absurd (cc)
opened_in pos (Index opened (b ∷ begun)) ks Mark mark blocks is = absurd (cc)
opened_in pos (Index opened begun) ks Torn mark blocks is =
    let same : opened ≡ mark = cc in (refl, inl (begun, ap (λ (n : ℕ). Index n begun) same))
opened_in pos (Bad at) ks x mark blocks is = absurd (cc)

opened : (items : List Item) (s : Content) (mark : ℕ) (blocks : List (List ℕ)) → (fold seen s items).phase ≡ Index mark blocks
    → (WasOpen s.phase mark × ((fold seen s items).constructs ≡ s.constructs)) ⊎ IsOpened items s mark (fold seen s items).constructs
opened [] s mark blocks is = inl ((blocks, is), refl)
opened (x ∷ items) s mark blocks is =
    ⊎_elim
    (λ (was : WasOpen (seen s x).phase mark × ((fold seen s (x ∷ items)).constructs ≡ (seen s x).constructs)).
    let o = opened_in s.pos s.phase s.constructs x mark was.0.0 was.0.1 in
    ⊎_elim
    (λ (before : WasOpen s.phase mark). inl (before, was.1 ∙ o.0))
    (λ (now : Opens s.pos s.phase mark).
    inr (
    record {
      before = [];
      behind = x ∷ items;
      parts = refl;
      since = now.0;
      stands = λ t. record { pos = now.2 t; phase = now.1 t; constructs = sym (was.1 ∙ o.0) t };
    }
    ))
    o.1)
    (λ (o : IsOpened items (seen s x) mark (fold seen s (x ∷ items)).constructs).
    inr (record { before = x ∷ o.before; behind = o.behind; parts = ap (λ (l : List Item). x ∷ l) o.parts; since = o.since; stands = o.stands }))
    (opened items (seen s x) mark blocks is)

opened_before : (items : List Item) (mark : ℕ) (blocks : List (List ℕ)) → (fold seen start items).phase ≡ Index mark blocks
    → IsOpened items start mark (fold seen start items).constructs
opened_before items mark blocks is =
    ⊎_elim
    (λ (was : WasOpen (Data 0) mark × ((fold seen start items).constructs ≡ [])). absurd (let no = was.0.1 in cc no))
    (λ (o : IsOpened items start mark (fold seen start items).constructs). o)
    (opened items start mark blocks is)

data_sound : (pos since : ℕ) (ks : List Construct) (at : ℕ) → (in_data pos since ks).phase ≡ Bad at → ⊥
data_sound pos since ks at bad = cc bad

-- a list that is cut at the mark of an index that was begun
cut_opened : (items before behind : List Item) (mark : ℕ) (blocks : List (List ℕ)) (ks : List Construct) → readable items ≡ before ++ behind
    → (fold seen start before).phase ≡ Index mark blocks → (fold seen start before).constructs ≡ ks
    → (since : ℕ) × (content (take mark items) ≡ in_data mark since ks)
cut_opened items before behind mark blocks ks parts phase constructs =
    let o = opened_before before mark blocks phase in (
      o.since,
      cut_at_stage items o.before (o.behind ++ behind) (in_data mark o.since ks) (parts ∙ ap (λ (l : List Item). l ++ behind) o.parts ∙ append_assoc o.before o.behind behind)
          (o.stands ∙ ap (λ (l : List Construct). in_data mark o.since l) constructs) (data_sound mark o.since ks),
    )

-- a list that is cut at the mark of an index has the indexes before it
cut_before_index : (items : List Item) (k : Construct) (newer older : List Construct) → (content items).constructs ≡ newer ++ k ∷ older
    → (since : ℕ) × (content (take k.mark items) ≡ in_data k.mark since older)
cut_before_index items k newer older is =
    let m = content_met items k newer older is in
    cut_opened items m.before (Mark ∷ m.behind) k.mark k.blocks older m.parts (ap (λ (s : Content). s.phase) m.stands) (ap (λ (s : Content). s.constructs) m.stands)

-- an index partition that is cut at its end ends with data
pub cut_at_end_ip : (items : List Item) → ((at : ℕ) → (content items).phase ≢ Bad at)
    → (since : ℕ) × (content (take (end_ip (content items)) items) ≡ in_data (end_ip (content items)) since (kept_on_ip (content items)))
cut_at_end_ip items sound = by_phase (content items).pos (content items).phase (content items).constructs refl sound
  where
    all : (s : Content) → content items ≡ s → ((at : ℕ) → s.phase ≢ Bad at) → content (take s.pos items) ≡ s
    all s is sound = cut_at_stage items (readable items) [] s (sym (append-nil (readable items))) is sound

    by_phase : (pos : ℕ) (phase : Phase) (ks : List Construct) → content items ≡ record { pos = pos; phase = phase; constructs = ks }
        → ((at : ℕ) → phase ≢ Bad at) → (since : ℕ) × (content (take (end_ip_in pos phase ks) items) ≡ in_data (end_ip_in pos phase ks) since (kept_in phase ks))
    by_phase pos (Data zero) [] is sound = (0, all (in_data pos 0 []) is sound)
    by_phase pos (Data zero) (k ∷ older) is sound = cut_before_index items k [] older (ap (λ (s : Content). s.constructs) is)
    by_phase pos (Data (suc since)) ks is sound = (suc since, all (in_data pos (suc since) ks) is sound)
    by_phase pos (Index mark blocks) ks is sound =
        cut_opened items (readable items) [] mark blocks ks (sym (append-nil (readable items))) (ap (λ (s : Content). s.phase) is) (ap (λ (s : Content). s.constructs) is)
    by_phase pos (Bad at) ks is sound = absurd (sound at refl)
