-- What an image by choice has at each place.
use Rattle.std.proofs.Common.{ℕ, ◌+◌, ◌-◌, ◌^◌, ◌≤◌, ◌<◌, ◌≡◌, ◌⊎◌, ⊎_elim, inl, inr, min, max, List, [], ◌∷◌, ◌++◌, take, drop, length, get_or, refl, ◌∙◌, ap, arith}
use Rattle.std.proofs.lemmas.Bool.{cases_lt}
use Rattle.std.proofs.lemmas.List.{length-append, length-take, length-drop, get_or_append_left, get_or-take, get_or-drop}
use Rattle.std.proofs.lemmas.List.Elements.{All-append, All-take, All-drop}
use Rattle.byte_disk.specs.declared.record.Change.{Change}
use Rattle.byte_disk.specs.Files.{AreBytes, IsOutside, bytes_at}
use Rattle.byte_disk.specs.Record.{AreKept, unwritten}
use Rattle.byte_disk.specs.Images.{reach, IsPending, shortest, longest, IsLeft, chosen_in, chosen, image_of}
use Rattle.byte_disk.proofs.Kept.{kept_bytes}
use Rattle.byte_disk.proofs.Written.{length_written, written_below, written_inside, written_above, written_bytes}

-- of one write's range
module _ (w : Change) (choice bytes : List ℕ) where
  abbrev most : ℕ
  most = min (length choice) (length bytes)

  abbrev from : ℕ
  from = min w.at most

  abbrev upto : ℕ
  upto = min (w.at + w.count) most

  abbrev piece : List ℕ
  piece = bytes_at from (upto - from) choice

  piece_length : length piece ≡ upto - from
  piece_length = omega (arith, length-take (upto - from) (drop from choice), length-drop from choice)

  pub in_length : length (chosen_in w choice bytes) ≡ length bytes
  in_length = omega (arith, length_written from piece bytes (omega arith), piece_length)

  pub in_inside : (i : ℕ) → w.at ≤ i → i < w.at + w.count → i < length choice → i < length bytes
      → get_or (chosen_in w choice bytes) i 0 ≡ get_or choice i 0
  in_inside i at_least below in_choice in_bytes =
      let le : from ≤ i = omega (arith, at_least) in
      let lt : i < from + length piece = omega (arith, below, in_choice, in_bytes, piece_length) in
      let here : from + (i - from) ≡ i = omega (arith, le) in
      written_inside from piece bytes (omega arith) i 0 le lt
      ∙ get_or-take (upto - from) (drop from choice) (i - from) 0 (omega (arith, lt, le, piece_length))
      ∙ get_or-drop from choice (i - from) 0
      ∙ ap (λ (n : ℕ). get_or choice n 0) here

  in_kept : (i : ℕ) → (i < from) ⊎ (upto ≤ i) → get_or (chosen_in w choice bytes) i 0 ≡ get_or bytes i 0
  in_kept i (inl less) = written_below from piece bytes (omega arith) i 0 less
  in_kept i (inr more) = ⊎_elim
      (λ (less : i < from). written_below from piece bytes (omega arith) i 0 less)
      (λ (le : from ≤ i). written_above from piece bytes (omega arith) i 0 (omega (arith, more, le, piece_length)))
      (cases_lt i from)

  pub in_outside : (i : ℕ) → i < length bytes → IsOutside w.at w.count i → get_or (chosen_in w choice bytes) i 0 ≡ get_or bytes i 0
  in_outside i lt (inl less) = ⊎_elim
      (λ (here : i < from). in_kept i (inl here))
      (λ (le : from ≤ i). in_kept i (inr (omega (arith, less, le, lt))))
      (cases_lt i from)
  in_outside i lt (inr more) = in_kept i (inr (omega (arith, more)))

  pub in_past : (i : ℕ) → length choice ≤ i → get_or (chosen_in w choice bytes) i 0 ≡ get_or bytes i 0
  in_past i past = in_kept i (inr (omega (arith, past)))

  -- each byte is one of the choice, or the one that was there
  pub in_either : (i : ℕ) → i < length bytes → (get_or (chosen_in w choice bytes) i 0 ≡ get_or choice i 0) ⊎ (get_or (chosen_in w choice bytes) i 0 ≡ get_or bytes i 0)
  in_either i lt = ⊎_elim
      (λ (in_choice : i < length choice). ⊎_elim
      (λ (less : i < w.at). inr (in_outside i lt (inl less)))
      (λ (at_least : w.at ≤ i). ⊎_elim
      (λ (below : i < w.at + w.count). inl (in_inside i at_least below in_choice lt))
      (λ (more : w.at + w.count ≤ i). inr (in_outside i lt (inr more)))
      (cases_lt i (w.at + w.count)))
      (cases_lt i w.at))
      (λ (past : length choice ≤ i). inr (in_past i past))
      (cases_lt i (length choice))

  pub in_bytes : AreBytes choice → AreBytes bytes → AreBytes (chosen_in w choice bytes)
  in_bytes are_choice are = written_bytes from piece bytes
      (All-take (λ (b : ℕ). b < 2 ^ 8) (upto - from) (drop from choice) (All-drop (λ (b : ℕ). b < 2 ^ 8) from choice are_choice)) are

-- of all ranges
chosen_length : (ws : List Change) (choice bytes : List ℕ) → length (chosen ws choice bytes) ≡ length bytes
chosen_length [] choice bytes = refl
chosen_length (w ∷ ws) choice bytes = chosen_length ws choice (chosen_in w choice bytes) ∙ in_length w choice bytes

chosen_bytes : (ws : List Change) (choice bytes : List ℕ) → AreBytes choice → AreBytes bytes → AreBytes (chosen ws choice bytes)
chosen_bytes [] choice bytes are_choice are = are
chosen_bytes (w ∷ ws) choice bytes are_choice are = chosen_bytes ws choice (chosen_in w choice bytes) are_choice (in_bytes w choice bytes are_choice are)

-- a byte that is the choice's stays so
chosen_same : (ws : List Change) (choice bytes : List ℕ) (i : ℕ) → i < length bytes → get_or bytes i 0 ≡ get_or choice i 0
    → get_or (chosen ws choice bytes) i 0 ≡ get_or choice i 0
chosen_same [] choice bytes i lt is = is
chosen_same (w ∷ ws) choice bytes i lt is =
    chosen_same ws choice (chosen_in w choice bytes) i (omega (arith, lt, in_length w choice bytes)) (⊎_elim
    (λ (new : get_or (chosen_in w choice bytes) i 0 ≡ get_or choice i 0). new)
    (λ (old : get_or (chosen_in w choice bytes) i 0 ≡ get_or bytes i 0). old ∙ is)
    (in_either w choice bytes i lt))

chosen_pending : (ws : List Change) (choice bytes : List ℕ) (i : ℕ) → IsPending ws i → i < length choice → i < length bytes
    → get_or (chosen ws choice bytes) i 0 ≡ get_or choice i 0
chosen_pending [] choice bytes i none in_choice lt = absurd none
chosen_pending (w ∷ ws) choice bytes i (inl here) in_choice lt =
    chosen_same ws choice (chosen_in w choice bytes) i (omega (arith, lt, in_length w choice bytes)) (in_inside w choice bytes i here.0 here.1 in_choice lt)
chosen_pending (w ∷ ws) choice bytes i (inr older) in_choice lt =
    chosen_pending ws choice (chosen_in w choice bytes) i older in_choice (omega (arith, lt, in_length w choice bytes))

-- a place that is not pending lies outside of the range of the newest write
pub outside_of : (w : Change) (ws : List Change) (i : ℕ) → ¬ (IsPending (w ∷ ws) i) → IsOutside w.at w.count i
outside_of w ws i settled = ⊎_elim
    (λ (less : i < w.at). inl less)
    (λ (at_least : w.at ≤ i). ⊎_elim
    (λ (below : i < w.at + w.count). absurd (settled (inl (at_least, below))))
    (λ (more : w.at + w.count ≤ i). inr more)
    (cases_lt i (w.at + w.count)))
    (cases_lt i w.at)

chosen_settled : (ws : List Change) (choice bytes : List ℕ) (i : ℕ) → ¬ (IsPending ws i) → i < length bytes
    → get_or (chosen ws choice bytes) i 0 ≡ get_or bytes i 0
chosen_settled [] choice bytes i settled lt = refl
chosen_settled (w ∷ ws) choice bytes i settled lt =
    chosen_settled ws choice (chosen_in w choice bytes) i (λ older. settled (inr older)) (omega (arith, lt, in_length w choice bytes))
    ∙ in_outside w choice bytes i lt (outside_of w ws i settled)

-- the lengths go together
pub shortest_le : (held : List ℕ) (ws : List Change) → AreKept held ws → shortest held ws ≤ length held
shortest_le held [] kept = omega arith
shortest_le held (w ∷ ws) kept = omega (arith, shortest_le (unwritten w held) ws kept.1, kept.0.any.no_shorter)

-- files are no longer than the longest that a crash may leave
pub length_le : (held : List ℕ) (ws : List Change) → AreKept held ws → length held ≤ longest held ws
length_le held [] kept = omega arith
length_le held (w ∷ ws) kept = omega (arith, length_le (unwritten w held) ws kept.1, kept.0.any.no_longer)

-- a place that a crash may leave and that is not pending was there at the last sync
pub covered : (held : List ℕ) (ws : List Change) → AreKept held ws → (i : ℕ) → ¬ (IsPending ws i) → i < longest held ws → i < shortest held ws
covered held [] kept i settled lt = omega (arith, lt)
covered held (w ∷ ws) kept i settled lt = ⊎_elim
    (λ (less : i < longest (unwritten w held) ws). covered (unwritten w held) ws kept.1 i (λ older. settled (inr older)) less)
    (λ (more : longest (unwritten w held) ws ≤ i). ⊎_elim
    (λ (less : i < w.at). absurd (omega (arith, less, more, kept.0.within, length_le (unwritten w held) ws kept.1)))
    (λ (past : w.at + w.count ≤ i). absurd (omega (arith, past, more, lt)))
    (outside_of w ws i settled))
    (cases_lt i (longest (unwritten w held) ws))

-- a place is in a range of a write since the last sync, or it is not
pub pending_or : (ws : List Change) (i : ℕ) → IsPending ws i ⊎ (¬ (IsPending ws i))
pending_or [] i = inr (λ none. none)
pending_or (w ∷ ws) i = ⊎_elim
    (λ (older : IsPending ws i). inl (inr older))
    (λ (settled : ¬ (IsPending ws i)). ⊎_elim
    (λ (less : i < w.at). inr (λ p. ⊎_elim (λ (here : (w.at ≤ i) × (i < w.at + w.count)). absurd (omega (arith, here.0, less))) (λ (older : IsPending ws i). settled older) p))
    (λ (at_least : w.at ≤ i). ⊎_elim
    (λ (below : i < w.at + w.count). inl (inl (at_least, below)))
    (λ (more : w.at + w.count ≤ i). inr (λ p. ⊎_elim (λ (here : (w.at ≤ i) × (i < w.at + w.count)). absurd (omega (arith, here.1, more))) (λ (older : IsPending ws i). settled older) p))
    (cases_lt i (w.at + w.count)))
    (cases_lt i w.at))
    (pending_or ws i)

-- an image by choice
module _ (held : List ℕ) (ws : List Change) (kept : AreKept held ws) (choice : List ℕ) where
  abbrev size : ℕ
  size = max (shortest held ws) (min (length choice) (longest held ws))

  abbrev base : List ℕ
  base = take size (held ++ drop (length held) choice)

  base_length : length base ≡ size
  base_length = omega (arith, length-take size (held ++ drop (length held) choice), length-append held (drop (length held) choice), length-drop (length held) choice, shortest_le held ws kept)

  -- an image by choice has the length that the choice gives it
  pub image_length : length (image_of held ws choice) ≡ size
  image_length = chosen_length ws choice base ∙ base_length

  -- in a range of an unsynced write the image has the chosen bytes
  pub image_pending : (i : ℕ) → IsPending ws i → i < length choice → i < size → get_or (image_of held ws choice) i 0 ≡ get_or choice i 0
  image_pending i pending in_choice lt = chosen_pending ws choice base i pending in_choice (omega (arith, lt, base_length))

  -- outside of unsynced writes the image has the bytes that read
  pub image_settled : (i : ℕ) → ¬ (IsPending ws i) → i < size → get_or (image_of held ws choice) i 0 ≡ get_or held i 0
  image_settled i settled lt =
      let there : i < shortest held ws = covered held ws kept i settled (omega (arith, lt)) in
      chosen_settled ws choice base i settled (omega (arith, lt, base_length))
      ∙ get_or-take size (held ++ drop (length held) choice) i 0 lt
      ∙ get_or_append_left held (drop (length held) choice) 0 i (omega (arith, there, shortest_le held ws kept))

  pub image_bytes : AreBytes choice → AreBytes (image_of held ws choice)
  image_bytes are = chosen_bytes ws choice base are
      (All-take (λ (b : ℕ). b < 2 ^ 8) size (held ++ drop (length held) choice)
      (All-append (λ (b : ℕ). b < 2 ^ 8) held (drop (length held) choice) (kept_bytes held ws kept) (All-drop (λ (b : ℕ). b < 2 ^ 8) (length held) choice are)))

  -- is one that a crash may leave
  pub image_left : AreBytes choice → IsLeft held ws (image_of held ws choice)
  image_left are = record {
    settled = λ i lt settled. image_settled i settled (omega (arith, lt, image_length));
    no_shorter = omega (arith, image_length);
    no_longer = omega (arith, image_length);
    bytes = image_bytes are;
  }

-- the ranges of pending writes end below 2^62
pub reach_low : (held : List ℕ) (ws : List Change) → AreKept held ws → reach ws < 2 ^ 62
reach_low held [] kept = omega arith
reach_low held (w ∷ ws) kept = omega (arith, reach_low (unwritten w held) ws kept.1, kept.0.end)
