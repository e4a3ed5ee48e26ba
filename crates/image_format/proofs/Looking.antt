-- Runs of a disk's commands that only read.
use Rattle.std.proofs.Common.{ℕ, ◌+◌, ◌-◌, ◌^◌, ◌≤◌, ◌≡◌, ◌∙◌, Result, ⊎_elim, refl, sym, subst, arith}
use Rattle.crash_steps.specs.Crashes.{Crashes, NothingNew, OnlyReads}
use Rattle.byte_disk.specs.Commands.{IsOneMore}
use Rattle.byte_disk.specs.Files.{Files}
use Rattle.byte_disk.specs.declared.disk.ByteDisk.{Ghosts}
use Rattle.image_slots.specs.State.{IsCommand, IsOver, View}
use Rattle.image_format.specs.Looks.{Looks}

-- no command
no_reads : (count : ℕ) (leaves : Files → Type 0) (since : ℕ → Files → Type 0) → count ≤ 2 ^ 64 - 1
    → OnlyReads 0 count count leaves leaves since since
no_reads count leaves since most = record {
  later = omega arith;
  bound = omega arith;
  leaves = λ image left. left;
  since = λ t image le left. left;
  kept = λ t image le left. left;
}

-- one command, where now is one of the moments since each number that was reached
one_read : {a b : ℕ} {leaves_a leaves_b : Files → Type 0} {since_a since_b : ℕ → Files → Type 0}
    → ((t : ℕ) (image : Files) → t ≤ a → leaves_a image → since_a t image) → IsOneMore a b
    → Crashes NothingNew a leaves_a leaves_b since_a since_b → OnlyReads 1 a b leaves_a leaves_b since_a since_b
one_read {leaves_a = leaves_a} {since_a = since_a} counts_now counted crashes = record {
  later = omega (arith, counted.in_range, counted.one_more);
  bound = omega (arith, counted.in_range, counted.one_more);
  leaves = λ image left. let was = crashes.now image left in subst leaves_a (sym was.2) was.1;
  since = λ t image le left. ⊎_elim
      (λ (was : since_a t image). was)
      (λ (was : (before : Files) × leaves_a before × NothingNew before image).
      counts_now t image le (subst leaves_a (sym was.2) was.1))
      (crashes.since t image le left);
  kept = crashes.kept;
}

-- one run after another
then_reads : {m n a b c : ℕ} {leaves_a leaves_b leaves_c : Files → Type 0} {since_a since_b since_c : ℕ → Files → Type 0}
    → OnlyReads m a b leaves_a leaves_b since_a since_b → OnlyReads n b c leaves_b leaves_c since_b since_c
    → OnlyReads (m + n) a c leaves_a leaves_c since_a since_c
then_reads first second = record {
  later = omega (arith, first.later, second.later);
  bound = omega (arith, first.bound, second.bound);
  leaves = λ image left. first.leaves image (second.leaves image left);
  since = λ t image le left. first.since t image le (second.since t image (omega (arith, first.later)) left);
  kept = λ t image le left. second.kept t image (omega (arith, first.later)) (first.kept t image le left);
}

-- a greater bound
more_reads : {m n a b : ℕ} {leaves_a leaves_b : Files → Type 0} {since_a since_b : ℕ → Files → Type 0}
    → m ≤ n → OnlyReads m a b leaves_a leaves_b since_a since_b → OnlyReads n a b leaves_a leaves_b since_a since_b
more_reads le reads = record {
  later = reads.later;
  bound = omega (arith, le, reads.bound);
  leaves = reads.leaves;
  since = reads.since;
  kept = reads.kept;
}

no_change : {B : Type 0} (s : View B) → IsOver s s
no_change s = record { side = refl; value = refl; beside = refl; known = refl; opened = refl }

then_over : {B : Type 0} {a b c : View B} → IsOver a b → IsOver b c → IsOver a c
then_over first second = record {
  side = second.side ∙ first.side;
  value = second.value ∙ first.value;
  beside = second.beside ∙ first.beside;
  known = second.known ∙ first.known;
  opened = second.opened ∙ first.opened;
}

module _ {B : Type 0} (disk : Ghosts B) where
  -- where no command is done, the disk was only looked at
  pub no_looks : (s : View B) → disk.commands s.disk ≤ 2 ^ 64 - 1 → Looks disk 0 s s
  no_looks s most = record {
    over = no_change s;
    held = refl;
    faults = omega arith;
    reads = no_reads (disk.commands s.disk) (disk.leaves s.disk) (disk.left_since s.disk) most;
  }

  pub one_look : {T E : Type 0} (end : Result T E) (a b : View B)
      → ((t : ℕ) (image : Files) → t ≤ disk.commands a.disk → disk.leaves a.disk image → disk.left_since a.disk t image)
      → disk.held b.disk ≡ disk.held a.disk → IsCommand disk NothingNew end a b → Looks disk 1 a b
  one_look end a b counts_now held done = record {
    over = done.over;
    held = held;
    faults = done.cause.later;
    reads = one_read counts_now done.count done.crash;
  }

  -- commands that only look, one behind the other, only look
  pub then_looks : (m n : ℕ) (a b c : View B) → Looks disk m a b → Looks disk n b c → Looks disk (m + n) a c
  then_looks m n a b c first second = record {
    over = then_over first.over second.over;
    held = second.held ∙ first.held;
    faults = omega (arith, first.faults, second.faults);
    reads = then_reads first.reads second.reads;
  }

  -- what looks with so many commands looks with more at most
  pub more_looks : (m n : ℕ) (a b : View B) → m ≤ n → Looks disk m a b → Looks disk n a b
  more_looks m n a b le looks =
      record { over = looks.over; held = looks.held; faults = looks.faults; reads = more_reads le looks.reads }
