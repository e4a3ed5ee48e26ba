-- What a crash may leave is told by places, and is what choices give.
use Rattle.std.proofs.Common.{ℕ, ◌+◌, ◌^◌, ◌≤◌, ◌<◌, ◌≡◌, ⊎_elim, inl, inr, min, max, List, [], ◌∷◌, length, refl, sym, ◌∙◌, ap, subst, arith}
use Rattle.std.proofs.lemmas.Bool.{cases_lt}
use Rattle.std.proofs.lemmas.List.{ext_get_or}
use Rattle.std.proofs.lemmas.List.Elements.{All-get_or}
use Rattle.byte_disk.proofs.Any.{any_bytes}
use Rattle.byte_disk.specs.declared.disk.File.TheVariants.{Ip, Dp, Cm}
use Rattle.byte_disk.specs.declared.record.Change.{Change}
use Rattle.byte_disk.specs.declared.record.DoneCommand.{DoneCommand}
use Rattle.byte_disk.specs.Files.{AreFiles, Files, IsOutside}
use Rattle.byte_disk.specs.Record.{AreKept, IsRecordOf, Leaves, LeavesFile, pending, unwritten}
use Rattle.byte_disk.specs.Images.{AreLeft, Gives, IsLeft, IsPending, crash_image, image_of, longest, shortest}
use Rattle.byte_disk.proofs.Kept.{record_kept}
use Rattle.byte_disk.proofs.Chosen.{covered, image_left, image_length, image_pending, image_settled, length_le, outside_of, pending_or, shortest_le}

-- what the writes of a file may leave, one after the other, by places
left_is : (held : List ℕ) (ws : List Change) → AreKept held ws → (image : List ℕ) → LeavesFile held ws image → IsLeft held ws image
left_is held [] kept image left = subst (λ (l : List ℕ). IsLeft held [] l) (sym left) (record {
  settled = λ i lt settled. refl;
  no_shorter = omega arith;
  no_longer = omega arith;
  bytes = kept;
})
left_is held (w ∷ ws) kept image (before, left, any) =
    let prev : List ℕ = unwritten w held in
    let was : IsLeft prev ws before = left_is prev ws kept.1 before left in
    record {
      settled = λ i lt settled.
          let out : IsOutside w.at w.count i = outside_of w ws i settled in
          ⊎_elim
          (λ (there : i < length before).
          let old : i < shortest prev ws = covered prev ws kept.1 i (λ older. settled (inr older)) (omega (arith, there, was.no_longer)) in
          any.outside i there out
          ∙ was.settled i there (λ older. settled (inr older))
          ∙ sym (kept.0.any.outside i (omega (arith, old, shortest_le prev ws kept.1)) out))
          (λ (past : length before ≤ i). ⊎_elim
          (λ (less : i < w.at).
          let old : i < shortest prev ws = covered prev ws kept.1 i (λ older. settled (inr older)) (omega (arith, less, kept.0.within, length_le prev ws kept.1)) in
          absurd (omega (arith, old, past, was.no_shorter)))
          (λ (more : w.at + w.count ≤ i). absurd (omega (arith, more, past, lt, any.no_longer)))
          out)
          (cases_lt i (length before));
      no_shorter = omega (arith, was.no_shorter, any.no_shorter);
      no_longer = omega (arith, was.no_longer, any.no_longer);
      bytes = any_bytes w.at w.count before image any was.bytes;
    }

-- an image that is told by places is its own choice
left_chosen : (held : List ℕ) (ws : List Change) → AreKept held ws → (image : List ℕ) → IsLeft held ws image → image ≡ image_of held ws image
left_chosen held ws kept image left =
    let same : length (image_of held ws image) ≡ length image = omega (arith, image_length held ws kept image, left.no_shorter, left.no_longer) in
    ext_get_or 0 image (image_of held ws image) (sym same) (λ i lt. ⊎_elim
    (λ (p : IsPending ws i). sym (image_pending held ws kept image i p lt (omega (arith, lt, same, image_length held ws kept image))))
    (λ (settled : ¬ (IsPending ws i)).
    left.settled i lt settled ∙ sym (image_settled held ws kept image i settled (omega (arith, lt, same, image_length held ws kept image))))
    (pending_or ws i))

-- and the writes may leave it, one after the other
is_left : (held : List ℕ) (ws : List Change) → AreKept held ws → (image : List ℕ) → IsLeft held ws image → LeavesFile held ws image
is_left held [] kept image left =
    ext_get_or 0 image held (omega (arith, left.no_shorter, left.no_longer)) (λ i lt. left.settled i lt (λ none. none))
is_left held (w ∷ ws) kept image left =
    let prev : List ℕ = unwritten w held in
    let before : List ℕ = image_of prev ws image in
    let size : length before ≡ max (shortest prev ws) (min (length image) (longest prev ws)) = image_length prev ws kept.1 image in (
      before,
      is_left prev ws kept.1 before (image_left prev ws kept.1 image left.bytes),
      record {
        outside = λ i lt out.
            let within : i < length image = omega (arith, lt, size, left.no_shorter) in
            ⊎_elim
            (λ (p : IsPending ws i). sym (image_pending prev ws kept.1 image i p within (omega (arith, lt, size))))
            (λ (settled : ¬ (IsPending ws i)).
            let old : i < shortest prev ws = covered prev ws kept.1 i settled (omega (arith, lt, size)) in
            left.settled i within (not_here i out settled)
            ∙ kept.0.any.outside i (omega (arith, old, shortest_le prev ws kept.1)) out
            ∙ sym (image_settled prev ws kept.1 image i settled (omega (arith, lt, size))))
            (pending_or ws i);
        no_shorter = omega (arith, size, left.no_shorter);
        no_longer = omega (arith, size, left.no_shorter, left.no_longer);
        each = λ i lt. inl (All-get_or (λ (b : ℕ). b < 2 ^ 8) image i 0 lt left.bytes);
      },
    )
  where
    not_here : (i : ℕ) → IsOutside w.at w.count i → ¬ (IsPending ws i) → ¬ (IsPending (w ∷ ws) i)
    not_here i (inl less) settled (inl here) = absurd (omega (arith, less, here.0))
    not_here i (inr more) settled (inl here) = absurd (omega (arith, more, here.1))
    not_here i out settled (inr older) = settled older

module _ (held : Files) (es : List DoneCommand) (kept : IsRecordOf held es) (image : Files) where
  kept_ip : AreKept held.ip (pending Ip es)
  kept_ip = record_kept Ip held es kept

  kept_dp : AreKept held.dp (pending Dp es)
  kept_dp = record_kept Dp held es kept

  kept_cm : AreKept held.cm (pending Cm es)
  kept_cm = record_kept Cm held es kept

  -- what a crash may leave, told step by step, holds place by place
  pub leaves_are : Leaves held es image → AreLeft held es image
  leaves_are left = record {
    ip = left_is held.ip (pending Ip es) kept_ip image.ip left.ip;
    dp = left_is held.dp (pending Dp es) kept_dp image.dp left.dp;
    cm = left_is held.cm (pending Cm es) kept_cm image.cm left.cm;
  }

  -- what holds place by place, a crash may leave
  pub are_leaves : AreLeft held es image → Leaves held es image
  are_leaves left = record {
    ip = is_left held.ip (pending Ip es) kept_ip image.ip left.ip;
    dp = is_left held.dp (pending Dp es) kept_dp image.dp left.dp;
    cm = is_left held.cm (pending Cm es) kept_cm image.cm left.cm;
  }

  left_gives : AreLeft held es image → Gives held es image
  left_gives left = (
    image,
    record { ip = left.ip.bytes; dp = left.dp.bytes; cm = left.cm.bytes },
    ap (λ (l : List ℕ). record { ip = l; dp = image.dp; cm = image.cm }) (left_chosen held.ip (pending Ip es) kept_ip image.ip left.ip)
        ∙ ap (λ (l : List ℕ). record { ip = image_of held.ip (pending Ip es) image.ip; dp = l; cm = image.cm }) (left_chosen held.dp (pending Dp es) kept_dp image.dp left.dp)
        ∙ ap (λ (l : List ℕ). record { ip = image_of held.ip (pending Ip es) image.ip; dp = image_of held.dp (pending Dp es) image.dp; cm = l }) (left_chosen held.cm (pending Cm es) kept_cm image.cm left.cm),
  )

  -- what a crash may leave, some choice gives
  pub leaves_give : Leaves held es image → Gives held es image
  leaves_give left = left_gives (leaves_are left)

-- what choices give, a crash may leave
pub choice_left : (held : Files) (es : List DoneCommand) → IsRecordOf held es → (choice : Files) → AreFiles choice → Leaves held es (crash_image held es choice)
choice_left held es kept choice are = are_leaves held es kept (crash_image held es choice) (record {
  ip = image_left held.ip (pending Ip es) (record_kept Ip held es kept) choice.ip are.ip;
  dp = image_left held.dp (pending Dp es) (record_kept Dp held es kept) choice.dp are.dp;
  cm = image_left held.cm (pending Cm es) (record_kept Cm held es kept) choice.cm are.cm;
})

-- what a choice gives, a crash may leave
pub give_leaves : (held : Files) (es : List DoneCommand) → IsRecordOf held es → (image : Files) → Gives held es image → Leaves held es image
give_leaves held es kept image (choice, are, is) =
    subst (λ (d : Files). Leaves held es d) (sym is) (choice_left held es kept choice are)
