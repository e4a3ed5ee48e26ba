-- What a crash may leave after a command of the disk in memory.
use Rattle.std.proofs.Common.{ℕ, ◌-◌, ◌^◌, ◌≤◌, ◌<◌, ◌≡◌, ◌⊎◌, ⊎_elim, inl, inr, List, [], ◌∷◌, refl, sym, subst, arith}
use Rattle.std.proofs.lemmas.Bool.{cases_lt}
use Rattle.tape_types.specs.Counts.{Rose}
use Rattle.crash_steps.specs.Crashes.{Crashes}
use Rattle.byte_disk.specs.declared.disk.File.{File}
use Rattle.byte_disk.specs.declared.disk.File.TheVariants.{Ip, Dp, Cm}
use Rattle.byte_disk.specs.declared.record.Change.{Change}
use Rattle.byte_disk.specs.declared.record.Act.{Act}
use Rattle.byte_disk.specs.declared.record.Act.TheVariants.{Wrote, Synced}
use Rattle.byte_disk.specs.declared.record.DoneCommand.{DoneCommand}
use Rattle.byte_disk.specs.Files.{Files, IsBroken, KeepsOthers, bytes_of, with_bytes}
use Rattle.byte_disk.specs.Record.{undo, pending, LeavesFile, Leaves, LeftWithin, LeftSince, Numbered, IsRecordOf}
use Rattle.byte_disk.proofs.Kept.{record_kept, held_left}

-- since a number that no act has reached there is no other moment than now
none_within : (count : ℕ) (held : Files) (es : List DoneCommand) (image : Files) → count < 2 ^ 64 - 1 → Numbered count es
    → LeftWithin held es count image → ⊥
none_within count held [] image lt numbered h = h
none_within count held (e ∷ es) image lt numbered (inl h) = absurd (omega (arith, numbered.0 lt, h.0))
none_within count held (e ∷ es) image lt numbered (inr h) = none_within count (undo e.act held) es image lt numbered.1 h

since_at : (count t : ℕ) (held : Files) (es : List DoneCommand) (image : Files) → Numbered count es → t ≤ count
    → LeftWithin held es t image → LeftSince count held es t image
since_at count t held es image numbered le h = ⊎_elim
    (λ (lt : count < 2 ^ 64 - 1). ⊎_elim
    (λ (less : t < count). inr (inl less, h))
    (λ (more : count ≤ t). let same : t ≡ count = omega arith in
    absurd (none_within count held es image lt numbered (subst (λ (n : ℕ). LeftWithin held es n image) same h)))
    (cases_lt t count))
    (λ (most : 2 ^ 64 - 1 ≤ count). inr (inr most, h))
    (cases_lt count (2 ^ 64 - 1))

-- a number that was reached counts after one command more
still_reached : (t count count2 : ℕ) → t ≤ count → Rose count count2 → (t < count2) ⊎ (2 ^ 64 - 1 ≤ count2)
still_reached t count count2 le rose =
    ⊎_elim (λ (less : t < count2). inl less) (λ (more : count2 ≤ t). inr (omega (arith, rose))) (cases_lt t count2)

-- a range may stay as it was
pub any_same : (file : File) (at n : ℕ) (d : Files) → IsBroken file at n d d
any_same file at n d = record {
  others = others_same file d;
  any = record { outside = λ i below out. refl; no_shorter = omega arith; no_longer = omega arith; each = λ i low. inr (low, refl) };
}
  where
    others_same : (file : File) (d : Files) → KeepsOthers file d d
    others_same Ip d = (refl, refl)
    others_same Dp d = (refl, refl)
    others_same Cm d = (refl, refl)

module _ (held : Files) (es : List DoneCommand) (count count2 : ℕ) (numbered : Numbered count es) (rose : Rose count count2)
    (step : Files → Files → Type 0) where
  -- a command that leaves no entry
  pub quiet : ((image : Files) → step image image)
      → Crashes step count (Leaves held es) (Leaves held es) (LeftSince count held es) (LeftSince count2 held es)
  quiet same = record {
    now = λ image h. (image, h, same image);
    since = λ t image le h. ⊎_elim
        (λ (now : Leaves held es image). inl (inl now))
        (λ (past : ((t < count2) ⊎ (2 ^ 64 - 1 ≤ count2)) × LeftWithin held es t image).
        inl (since_at count t held es image numbered le past.1))
        h;
    kept = λ t image le h. ⊎_elim
        (λ (now : Leaves held es image). inl now)
        (λ (past : ((t < count) ⊎ (2 ^ 64 - 1 ≤ count)) × LeftWithin held es t image).
        inr (still_reached t count count2 le rose, past.1))
        h;
  }

  -- one that leaves an entry with its number
  module _ (new : Files) (act : Act) (undone : undo act new ≡ held) where
    abbrev now_es : List DoneCommand
    now_es = record { number = count; act = act } ∷ es

    -- what a crash may leave after an act is what it left before, or the act's own step
    pub acts : ((image : Files) → Leaves new now_es image → (before : Files) × Leaves (undo act new) es before × step before image)
        → Crashes step count (Leaves held es) (Leaves new now_es) (LeftSince count held es) (LeftSince count2 new now_es)
    acts within =
        let back : (image : Files) → Leaves new now_es image → (before : Files) × Leaves held es before × step before image =
        λ image h. let from = within image h in (from.0, subst (λ (d : Files). Leaves d es from.0) undone from.1, from.2) in
        record {
          now = back;
          since = λ t image le h. ⊎_elim
              (λ (now : Leaves new now_es image). inr (back image now))
              (λ (past : ((t < count2) ⊎ (2 ^ 64 - 1 ≤ count2)) × LeftWithin new now_es t image). ⊎_elim
              (λ (here : (t ≤ count) × (Leaves new now_es image ⊎ Leaves (undo act new) es image)). ⊎_elim
              (λ (after : Leaves new now_es image). inr (back image after))
              (λ (before : Leaves (undo act new) es image). inl (inl (subst (λ (d : Files). Leaves d es image) undone before)))
              here.1)
              (λ (old : LeftWithin (undo act new) es t image).
              inl (since_at count t held es image numbered le (subst (λ (d : Files). LeftWithin d es t image) undone old)))
              past.1)
              h;
          kept = λ t image le h. inr (
            still_reached t count count2 le rose,
            ⊎_elim
                (λ (now : Leaves held es image). inl (le, inr (subst (λ (d : Files). Leaves d es image) (sym undone) now)))
                (λ (past : ((t < count) ⊎ (2 ^ 64 - 1 ≤ count)) × LeftWithin held es t image).
                inr (subst (λ (d : Files). LeftWithin d es t image) (sym undone) past.1))
                h,
          );
        }

-- what may be left after a write is what could be left before, with any bytes in its range
pub write_back : (file : File) (w : Change) (number : ℕ) (new : Files) (es : List DoneCommand) (image : Files)
    → Leaves new (record { number = number; act = Wrote file w } ∷ es) image
    → (before : Files) × Leaves (undo (Wrote file w) new) es before × IsBroken file w.at w.count before image
write_back Ip w number new es image left = (
  with_bytes Ip left.ip.0 image,
  record { ip = left.ip.1; dp = left.dp; cm = left.cm },
  record { others = (refl, refl); any = left.ip.2 },
)
write_back Dp w number new es image left = (
  with_bytes Dp left.dp.0 image,
  record { ip = left.ip; dp = left.dp.1; cm = left.cm },
  record { others = (refl, refl); any = left.dp.2 },
)
write_back Cm w number new es image left = (
  with_bytes Cm left.cm.0 image,
  record { ip = left.ip; dp = left.dp; cm = left.cm.1 },
  record { others = (refl, refl); any = left.cm.2 },
)

-- what may be left after a sync could be left before
pub sync_back : (file : File) (number : ℕ) (held : Files) (es : List DoneCommand) (image : Files) → IsRecordOf held es
    → Leaves held (record { number = number; act = Synced file } ∷ es) image → Leaves held es image
sync_back Ip number held es image kept left = record {
  ip = subst (λ (l : List ℕ). LeavesFile held.ip (pending Ip es) l) (sym left.ip) (held_left held.ip (pending Ip es) (record_kept Ip held es kept));
  dp = left.dp;
  cm = left.cm;
}
sync_back Dp number held es image kept left = record {
  ip = left.ip;
  dp = subst (λ (l : List ℕ). LeavesFile held.dp (pending Dp es) l) (sym left.dp) (held_left held.dp (pending Dp es) (record_kept Dp held es kept));
  cm = left.cm;
}
sync_back Cm number held es image kept left = record {
  ip = left.ip;
  dp = left.dp;
  cm = subst (λ (l : List ℕ). LeavesFile held.cm (pending Cm es) l) (sym left.cm) (held_left held.cm (pending Cm es) (record_kept Cm held es kept));
}

-- after a sync every crash leaves the file as it reads
pub synced_sure : (file : File) (number : ℕ) (held : Files) (es : List DoneCommand) (image : Files)
    → Leaves held (record { number = number; act = Synced file } ∷ es) image → bytes_of file image ≡ bytes_of file held
synced_sure Ip number held es image left = left.ip
synced_sure Dp number held es image left = left.dp
synced_sure Cm number held es image left = left.cm
