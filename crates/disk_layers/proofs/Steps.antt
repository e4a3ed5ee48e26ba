-- What the steps of a disk that holds writes back leave to a crash.
use Rattle.std.proofs.Common.{ℕ, ◌+◌, ◌-◌, ◌^◌, ◌≤◌, ◌<◌, ◌≡◌, ◌⊎◌, ⊎_elim, inl, inr, List, [], ◌++◌, length, Result, Ok, Err, refl, sym, ◌∙◌, ap, subst, arith}
use Rattle.std.proofs.lemmas.List.{length-append}
use Rattle.crash_steps.specs.Crashes.{Crashes, NothingNew}
use Rattle.byte_disk.specs.Commands.{IsOneMore, WithinWrite}
use Rattle.byte_disk.specs.Files.{Files, IsAnyIn, IsBroken, KeepsOthers, bytes_of, with_bytes}
use Rattle.byte_disk.specs.declared.disk.ByteDisk.{Ghosts}
use Rattle.byte_disk.specs.declared.disk.File.{File}
use Rattle.byte_disk.specs.declared.disk.File.TheVariants.{Ip, Dp, Cm}
use Rattle.byte_disk.proofs.Acts.{any_same}
use Rattle.disk_layers.specs.Held.{IsWide, Run, RunsOver, WrittenOut, emptied, leaves_of, longer}
use Rattle.disk_layers.proofs.Overlaid.{bytes_with, others_with}
use Rattle.disk_layers.proofs.Ranges.{any_twice, taken_apart}

others_from : (file : File) (bytes : List ℕ) (d image : Files) → KeepsOthers file d image → KeepsOthers file (with_bytes file bytes d) image
others_from Ip bytes d image h = h
others_from Dp bytes d image h = h
others_from Cm bytes d image h = h

others_on : (file : File) (x y z : Files) → KeepsOthers file x y → KeepsOthers file y z → KeepsOthers file x z
others_on Ip x y z one two = (two.0 ∙ one.0, two.1 ∙ one.1)
others_on Dp x y z one two = (two.0 ∙ one.0, two.1 ∙ one.1)
others_on Cm x y z one two = (two.0 ∙ one.0, two.1 ∙ one.1)

-- any bytes in a range are any in its front, and then any in the rest
broken_apart : (file : File) (from n m : ℕ) (d image : Files) → IsBroken file from (n + m) d image
    → (mid : Files) × IsBroken file from n d mid × IsBroken file (from + n) m mid image
broken_apart file from n m d image h =
    let parts = taken_apart from n m (bytes_of file d) (bytes_of file image) h.any in
    let mid = with_bytes file parts.0 d in
    let same = bytes_with file parts.0 d in (
      mid,
      record { others = others_with file parts.0 d; any = subst (λ (l : List ℕ). IsAnyIn from n (bytes_of file d) l) (sym same) parts.1 },
      record {
        others = others_from file parts.0 d image h.others;
        any = subst (λ (l : List ℕ). IsAnyIn (from + n) m l (bytes_of file image)) (sym same) parts.2;
      },
    )

-- twice any bytes in a range
broken_twice : (file : File) (at n : ℕ) (x y z : Files) → IsBroken file at n x y → IsBroken file at n y z → IsBroken file at n x z
broken_twice file at n x y z one two = record {
  others = others_on file x y z one.others two.others;
  any = any_twice at n (bytes_of file x) (bytes_of file y) (bytes_of file z) one.any two.any;
}

-- a run without bytes leaves what is inside
pub narrow : (r : Run) (x y : Files) → r.bytes ≡ [] → IsWide r x y → y ≡ x
narrow r x y none (inl same) = same
narrow r x y none (inr wide) = absurd (omega (arith, wide.0, ap length none))

module _ {D : Type 0} (disk : Ghosts D) where
  -- a command inside that leaves nothing new
  pub runs_looking : (r : Run) (a b : D) → IsOneMore (disk.commands a) (disk.commands b)
      → Crashes NothingNew (disk.commands a) (disk.leaves a) (disk.leaves b) (disk.left_since a) (disk.left_since b)
      → RunsOver disk NothingNew (r, a) (r, b)
  runs_looking r a b more crash = record {
    later = omega (arith, more.in_range, more.one_more);
    now = λ image left.
        let came = crash.now left.0 left.1 in
        (image, (came.0, came.1, subst (λ (x : Files). IsWide r x image) came.2 left.2), refl);
    since = λ t image short le left. ⊎_elim
        (λ (past : disk.left_since a t image). inl past)
        (λ (came : (before : Files) × disk.leaves a before × NothingNew before image).
        inr (came.0, (came.0, came.1, inl refl), came.2))
        (crash.since t image le left);
  }

  -- one that writes, while nothing is held
  pub runs_through : (r : Run) (file : File) (at n : ℕ) (a b : D) → r.bytes ≡ [] → IsOneMore (disk.commands a) (disk.commands b)
      → Crashes (WithinWrite file at n) (disk.commands a) (disk.leaves a) (disk.leaves b) (disk.left_since a) (disk.left_since b)
      → RunsOver disk (WithinWrite file at n) (r, a) (r, b)
  runs_through r file at n a b none more crash = record {
    later = omega (arith, more.in_range, more.one_more);
    now = λ image left.
        let came = crash.now left.0 left.1 in (
          came.0,
          (came.0, came.1, inl refl),
          subst (λ (x : Files). WithinWrite file at n came.0 x) (sym (narrow r left.0 image none left.2)) came.2,
        );
    since = λ t image short le left. ⊎_elim
        (λ (past : disk.left_since a t image). inl past)
        (λ (came : (before : Files) × disk.leaves a before × WithinWrite file at n before image).
        inr (came.0, (came.0, came.1, inl refl), came.2))
        (crash.since t image le left);
  }

  -- bytes are held behind those of a run, without a command
  pub runs_on : (r : Run) (more : List ℕ) (b : D) → 1 ≤ length r.bytes
      → RunsOver disk (WithinWrite r.file (r.from + length r.bytes) (length more)) (r, b) (longer more r, b)
  runs_on r more b some = record {
    later = omega arith;
    now = λ image left. ⊎_elim
        (λ (same : image ≡ left.0). (
          left.0,
          (left.0, left.1, inl refl),
          subst (λ (x : Files). WithinWrite r.file (r.from + length r.bytes) (length more) left.0 x) (sym same)
              (any_same r.file (r.from + length r.bytes) (length more) left.0),
        ))
        (λ (h : (1 ≤ length (r.bytes ++ more)) × IsBroken r.file r.from (length (r.bytes ++ more)) left.0 image).
        let parts = broken_apart r.file r.from (length r.bytes) (length more) left.0 image
        (subst (λ (n : ℕ). IsBroken r.file r.from n left.0 image) (length-append r.bytes more) h.1) in (
          parts.0,
          (left.0, left.1, inr (some, parts.1)),
          parts.2,
        ))
        left.2;
    since = λ t image short le left. inl left;
  }

  -- the first bytes of a run are held
  pub runs_first : (r : Run) (file : File) (at : ℕ) (more : List ℕ) (b : D)
      → RunsOver disk (WithinWrite file at (length more)) (r, b) (record { file = file; from = at; bytes = more }, b)
  runs_first r file at more b = record {
    later = omega arith;
    now = λ image left. (
      left.0,
      (left.0, left.1, inl refl),
      ⊎_elim
          (λ (same : image ≡ left.0). subst (λ (x : Files). WithinWrite file at (length more) left.0 x) (sym same) (any_same file at (length more) left.0))
          (λ (h : (1 ≤ length more) × IsBroken file at (length more) left.0 image). h.1)
          left.2,
    );
    since = λ t image short le left. inl left;
  }

  module _ (r : Run) (a b : D) (some : 1 ≤ length r.bytes) (one : IsOneMore (disk.commands a) (disk.commands b))
      (crash : Crashes (WithinWrite r.file r.from (length r.bytes)) (disk.commands a) (disk.leaves a) (disk.leaves b) (disk.left_since a) (disk.left_since b)) where
    past_out : (t : ℕ) (image : Files) → t ≤ disk.commands a → disk.left_since b t image
        → disk.left_since a t image ⊎ ((before : Files) × leaves_of disk (r, a) before × NothingNew before image)
    past_out t image le left = ⊎_elim
        (λ (past : disk.left_since a t image). inl past)
        (λ (came : (before : Files) × disk.leaves a before × WithinWrite r.file r.from (length r.bytes) before image).
        inr (image, (came.0, came.1, inr (some, came.2)), refl))
        (crash.since t image le left)

    -- A run is written out, or was to be: that adds nothing to what a crash may leave.
    pub runs_out : {T E : Type 0} (result : Result T E) (s : Run) → WrittenOut result r s → RunsOver disk NothingNew (r, a) (s, b)
    runs_out (Ok x) s is = subst (λ (q : Run). RunsOver disk NothingNew (r, a) (q, b)) (sym is) (record {
      later = omega (arith, one.in_range, one.one_more);
      now = λ image left.
          let same = narrow (emptied r) left.0 image refl left.2 in
          let came = crash.now left.0 left.1 in
          (left.0, (came.0, came.1, inr (some, came.2)), same);
      since = λ t image short le left. past_out t image le left;
    })
    runs_out (Err e) s is = subst (λ (q : Run). RunsOver disk NothingNew (r, a) (q, b)) (sym is) (record {
      later = omega (arith, one.in_range, one.one_more);
      now = λ image left.
          let came = crash.now left.0 left.1 in ⊎_elim
          (λ (same : image ≡ left.0). (left.0, (came.0, came.1, inr (some, came.2)), same))
          (λ (h : (1 ≤ length r.bytes) × IsBroken r.file r.from (length r.bytes) left.0 image).
          (image, (came.0, came.1, inr (some, broken_twice r.file r.from (length r.bytes) came.0 left.0 image came.2 h.1)), refl))
          left.2;
      since = λ t image short le left. past_out t image le left;
    })
