-- What a crash may have left since an earlier command is what choices give.
use Rattle.std.proofs.Common.{ℕ, ◌-◌, ◌^◌, ◌≤◌, ◌<◌, ◌⊎◌, ⊎_elim, inl, inr, List, [], ◌∷◌, ◌++◌, refl, sym, ap, subst, arith}
use Rattle.std.proofs.lemmas.Bool.{cases_lt}
use Rattle.byte_disk.specs.declared.record.DoneCommand.{DoneCommand}
use Rattle.byte_disk.specs.Files.{Files}
use Rattle.byte_disk.specs.Record.{IsRecordOf, undo, Leaves, LeftWithin, LeftSince, Numbered}
use Rattle.byte_disk.specs.Images.{Gives}
use Rattle.byte_disk.specs.Since.{undo_all, GaveWithin, GaveSince}
use Rattle.byte_disk.proofs.Exact.{give_leaves, leaves_give}

-- the act before or after which a crash came
within_gave : (held : Files) (es : List DoneCommand) (t : ℕ) (image : Files) → IsRecordOf held es → LeftWithin held es t image → GaveWithin held es t image
within_gave held [] t image kept none = absurd none
within_gave held (e ∷ es) t image kept (inl (began, left)) = record {
  newer = [];
  entry = e;
  older = es;
  place = refl;
  began = began;
  left = ⊎_elim
      (λ (after : Leaves held (e ∷ es) image). inl (leaves_give held (e ∷ es) kept image after))
      (λ (before : Leaves (undo e.act held) es image). inr (leaves_give (undo e.act held) es kept.1 image before))
      left;
}
within_gave held (e ∷ es) t image kept (inr past) =
    let found = within_gave (undo e.act held) es t image kept.1 past in
    record {
      newer = e ∷ found.newer;
      entry = found.entry;
      older = found.older;
      place = ap (λ (l : List DoneCommand). e ∷ l) found.place;
      began = found.began;
      left = found.left;
    }

within_at : (newer : List DoneCommand) (e : DoneCommand) (older : List DoneCommand) (held : Files) (t : ℕ) (image : Files) → IsRecordOf held (newer ++ e ∷ older) → t ≤ e.number
    → Gives (undo_all newer held) (e ∷ older) image ⊎ Gives (undo e.act (undo_all newer held)) older image
    → LeftWithin held (newer ++ e ∷ older) t image
within_at [] e older held t image kept began (inl after) = inl (began, inl (give_leaves held (e ∷ older) kept image after))
within_at [] e older held t image kept began (inr before) = inl (began, inr (give_leaves (undo e.act held) older kept.1 image before))
within_at (n ∷ ns) e older held t image kept began left = inr (within_at ns e older (undo n.act held) t image kept.1 began left)

-- the number of an act is below the present one
numbered_at : (newer : List DoneCommand) (e : DoneCommand) (older : List DoneCommand) (count : ℕ) → Numbered count (newer ++ e ∷ older)
    → count < 2 ^ 64 - 1 → e.number < count
numbered_at [] e older count numbered = numbered.0
numbered_at (n ∷ ns) e older count numbered = numbered_at ns e older count numbered.1

gave_within : (count : ℕ) (held : Files) (es : List DoneCommand) (t : ℕ) (image : Files) → Numbered count es → IsRecordOf held es → GaveWithin held es t image
    → ((t < count) ⊎ (2 ^ 64 - 1 ≤ count)) × LeftWithin held es t image
gave_within count held es t image numbered kept gave = (
  ⊎_elim
      (λ (lt : count < 2 ^ 64 - 1).
      inl (omega (arith, gave.began, numbered_at gave.newer gave.entry gave.older count (subst (Numbered count) gave.place numbered) lt)))
      (λ (most : 2 ^ 64 - 1 ≤ count). inr most)
      (cases_lt count (2 ^ 64 - 1)),
  subst (λ (l : List DoneCommand). LeftWithin held l t image) (sym gave.place)
      (within_at gave.newer gave.entry gave.older held t image (subst (IsRecordOf held) gave.place kept) gave.began gave.left),
)

-- what a crash may have left since a command is what choices give or gave
pub since_gave : (count : ℕ) (held : Files) (es : List DoneCommand) (t : ℕ) (image : Files) → IsRecordOf held es
    → LeftSince count held es t image → GaveSince held es t image
since_gave count held es t image kept (inl now) = inl (leaves_give held es kept image now)
since_gave count held es t image kept (inr past) = inr (within_gave held es t image kept past.1)

-- what choices give or gave is what a crash may have left since a command
pub gave_since : (count : ℕ) (held : Files) (es : List DoneCommand) (t : ℕ) (image : Files) → Numbered count es → IsRecordOf held es
    → GaveSince held es t image → LeftSince count held es t image
gave_since count held es t image numbered kept (inl now) = inl (give_leaves held es kept image now)
gave_since count held es t image numbered kept (inr past) = inr (gave_within count held es t image numbered kept past)
