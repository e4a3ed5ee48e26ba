-- Runs of commands that only read.
use Rattle.std.proofs.Common.{ℕ, ◌+◌, ◌-◌, ◌^◌, ◌≤◌, ◌≡◌, ◌∙◌, ⊎_elim, Result, refl, sym, subst, arith}
use Rattle.tape_types.specs.declared.cartridges.Cartridge.{Cartridge}
use Rattle.tape_drive.specs.Commands.{Commanded, Counted}
use Rattle.tape_drive.specs.Crashes.{Crashes, NothingNew, OnlyReads}
use Rattle.tape_drive.specs.Looks.{Looks}
use Rattle.tape_drive.specs.declared.drive.Drive.{Ghosts}

-- no command
no_reads : (count : ℕ) (leaves : Cartridge → Type 0) (since : ℕ → Cartridge → Type 0) → count ≤ 2 ^ 64 - 1
    → OnlyReads 0 count count leaves leaves since since
no_reads count leaves since most = record {
  later = omega arith;
  bound = omega arith;
  leaves = λ image left. left;
  since = λ t image le left. left;
  kept = λ t image le left. left;
}

-- one command, where now is one of the moments since each number that was reached
one_read : {most a b : ℕ} {leaves_a leaves_b : Cartridge → Type 0} {since_a since_b : ℕ → Cartridge → Type 0}
    → ((t : ℕ) (image : Cartridge) → t ≤ a → leaves_a image → since_a t image) → Counted most a b
    → Crashes NothingNew a leaves_a leaves_b since_a since_b → OnlyReads most a b leaves_a leaves_b since_a since_b
one_read {leaves_a = leaves_a} {since_a = since_a} counts_now counted crashes = record {
  later = counted.later;
  bound = counted.at_most;
  leaves = λ image left. let was = crashes.now image left in subst leaves_a (sym was.2) was.1;
  since = λ t image le left. ⊎_elim
      (λ (was : since_a t image). was)
      (λ (was : (before : Cartridge) × leaves_a before × NothingNew before image).
      counts_now t image le (subst leaves_a (sym was.2) was.1))
      (crashes.since t image le left);
  kept = crashes.kept;
}

-- one run after another
then_reads : {m n a b c : ℕ} {leaves_a leaves_b leaves_c : Cartridge → Type 0} {since_a since_b since_c : ℕ → Cartridge → Type 0}
    → OnlyReads m a b leaves_a leaves_b since_a since_b → OnlyReads n b c leaves_b leaves_c since_b since_c
    → OnlyReads (m + n) a c leaves_a leaves_c since_a since_c
then_reads first second = record {
  later = omega (arith, first.later, second.later);
  bound = omega (arith, first.bound, second.bound);
  leaves = λ image left. first.leaves image (second.leaves image left);
  since = λ t image le left. first.since t image le (second.since t image (omega (arith, first.later)) left);
  kept = λ t image le left. second.kept t image (omega (arith, first.later)) (first.kept t image le left);
}

-- a greater bound
more_reads : {m n a b : ℕ} {leaves_a leaves_b : Cartridge → Type 0} {since_a since_b : ℕ → Cartridge → Type 0}
    → m ≤ n → OnlyReads m a b leaves_a leaves_b since_a since_b → OnlyReads n a b leaves_a leaves_b since_a since_b
more_reads le reads = record {
  later = reads.later;
  bound = omega (arith, le, reads.bound);
  leaves = reads.leaves;
  since = reads.since;
  kept = reads.kept;
}

module _ {D : Type 0} (drive : Ghosts D) where
  -- where no command is done, the drive was only looked at
  pub no_looks : (d : D) → drive.commands d ≤ 2 ^ 64 - 1 → Looks drive 0 d d
  no_looks d most = record { held = refl; limits = refl; reads = no_reads (drive.commands d) (drive.leaves d) (drive.left_since d) most }

  -- one command that leaves all as it was only looks
  pub one_look : {T E : Type 0} {r : Result T E} (most : ℕ) (a b : D)
      → ((t : ℕ) (image : Cartridge) → t ≤ drive.commands a → drive.leaves a image → drive.left_since a t image)
      → drive.held b ≡ drive.held a
      → Commanded most (drive.limits a) (drive.limits b) (drive.commands a) (drive.commands b) (drive.faults a) (drive.faults b) r
      → Crashes NothingNew (drive.commands a) (drive.leaves a) (drive.leaves b) (drive.left_since a) (drive.left_since b)
      → Looks drive most a b
  one_look most a b counts_now held command crashes =
      record { held = held; limits = command.limits; reads = one_read counts_now command.count crashes }

  -- commands that only look, one behind the other, only look
  pub then_looks : (m n : ℕ) (a b c : D) → Looks drive m a b → Looks drive n b c → Looks drive (m + n) a c
  then_looks m n a b c first second = record {
    held = second.held ∙ first.held;
    limits = second.limits ∙ first.limits;
    reads = then_reads first.reads second.reads;
  }

  -- what looks with so many commands looks with more at most
  pub more_looks : (m n : ℕ) (a b : D) → m ≤ n → Looks drive m a b → Looks drive n a b
  more_looks m n a b le looks = record { held = looks.held; limits = looks.limits; reads = more_reads le looks.reads }
