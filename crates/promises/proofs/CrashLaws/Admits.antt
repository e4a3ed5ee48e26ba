-- Jobs that are admitted, syncs that wait for them, and a history that goes on.
use Rattle.std.proofs.Common.{◌≡◌, ⊎_elim, ℕ, ◌+◌, ◌-◌, ◌^◌, ◌≤◌, ◌<◌, Bool, true, false, List, [], ◌∷◌, ◌++◌, length, map, Option, Some, None, refl, sym, ap, subst, ◌∙◌, arith, append_assoc, length-append}
use Rattle.std.specs.List.{AllByRecursion, range_with_len}
use Rattle.std.specs.Int.{div_ceil}
use Rattle.std.proofs.lemmas.Bool.{cases_lt}
use Rattle.std.proofs.lemmas.List.{length-map, map-append, take-append-le}
use Rattle.tape_types.specs.declared.cartridges.Cartridge.{Cartridge}
use Rattle.tape_types.specs.declared.cartridges.Part.{Part}
use Rattle.tape_types.specs.declared.cartridges.Part.TheVariants.{Ip, Dp}
use Rattle.tape_types.specs.declared.cartridges.Place.{Place}
use Rattle.tape_drive.specs.declared.drive.Drive.{Ghosts}
use Rattle.tape_layout.specs.declared.ops.Op.{Op}
use Rattle.tape_layout.specs.declared.ops.Op.TheVariants as ops
use Rattle.tape_layout.specs.Admissions.{flush_first}
use Rattle.tape_layout.specs.Ops.{construct, end_of, puts}
use Rattle.tape_layout.specs.IndexConstruct.Blocks.{block_at}
use Rattle.plain_tree.specs.History.{replay}
use Rattle.plain_tree.specs.Tree.{Tree}
use Rattle.plain_tree.specs.declared.calls.Placed.{Placed}
use Rattle.session_script.specs.Grammar.{calls_of}
use Rattle.session_script.specs.declared.logs.Ack.{Ack}
use Rattle.head_queue.specs.EventLaws.Waiting.{Waiter}
use Rattle.space_laws.specs.Space.{Rules, Space, blocks, with_data, with_index}
use Rattle.promises.specs.ImageLaws.Fine.{GoesOn}
use Rattle.promises.specs.ImageLaws.Images.{MayWrite}
use Rattle.promises.specs.ImageLaws.Kept.{IsServed, Kept, Wait}
use Rattle.promises.specs.ImageLaws.Laws.{State}
use Rattle.promises.specs.ImageLaws.Made.{CoveredIndex, Job, Made, after, makes, plain}
use Rattle.promises.specs.ImageLaws.Moments.{moment_of}
use Rattle.promises.specs.ImageLaws.Plans.{IsDue, data_jobs, index_jobs}
use Rattle.promises.proofs.ImageLaws.Acks.{kept_acked}
use Rattle.promises.proofs.ImageLaws.Flushes.{none_stays}
use Rattle.promises.proofs.ImageLaws.Longer.{after_append}
use Rattle.promises.proofs.ImageLaws.Stated.{admissions_keep, histories_go_on, syncs_are_held}
use Rattle.promises.specs.ServingPromise.Served.{Fixed}
use Rattle.promises.specs.CrashLaws.Safe.{AreInOrder, IsDpFlush, Planned, Settle, wait_of, with_jobs}
use Rattle.promises.proofs.CrashLaws.Fields.{At, state_at, trees_at}
use Rattle.promises.proofs.CrashLaws.Trails.{order_more}
use Rattle.promises.proofs.CrashLaws.Waits.{all_mapped, all_more, all_weaker, kept_with}

-- ---- flushes of the data partition

abbrev pub IsFree : Job → Type 0
IsFree job = IsDpFlush job.op → ⊥

settle_free : (jobs : List Job) (s : Made) → AllByRecursion IsFree jobs → Settle s jobs
settle_free [] s all = tt
settle_free (job ∷ jobs) s all = ((λ flush. absurd (all.0 flush)), settle_free jobs (makes job s) all.1)

settle_more : (jobs more : List Job) (s : Made) → Settle s jobs → Settle (after s jobs) more → Settle s (jobs ++ more)
settle_more [] more s all others = others
settle_more (job ∷ jobs) more s all others = (all.0, settle_more jobs more (makes job s) all.1 others)

puts_free : (place : ℕ → Place) (bytes : ℕ → List ℕ) (ks : List ℕ) → AllByRecursion IsFree (map plain (map (λ (k : ℕ). ops.Put (place k) (bytes k)) ks))
puts_free place bytes [] = tt
puts_free place bytes (k ∷ ks) = ((λ flush. flush), puts_free place bytes ks)

run_free : (size : ℕ) (part : Part) (pos : ℕ) (doc : List ℕ) → AllByRecursion IsFree (map plain (puts size part pos doc))
run_free size part pos doc =
    puts_free (λ k. record { part = part; pos = pos + k }) (λ k. block_at size doc k) (range_with_len 0 (div_ceil (length doc) size))

first_free : (due : Bool) (end : ℕ) → AllByRecursion IsFree (map plain (flush_first due end))
first_free true end = ((λ (flush : Ip ≡ Dp). cc), tt)
first_free false end = tt

-- what comes before the flush of an index
abbrev before_flush : Rules → Space → List ℕ → CoveredIndex → List Job
before_flush rules space text e =
    map plain (flush_first space.flush_due space.ends.ip)
    ++ plain (ops.Mark (record { part = Dp; pos = space.ends.dp })) ∷ []
    ++ map plain (puts rules.block_size Dp (space.ends.dp + 1) text)
    ++ record { op = ops.Mark (record { part = Dp; pos = space.ends.dp + 1 + blocks rules text }); whole = Some e } ∷ []

before_free : (rules : Rules) (space : Space) (text : List ℕ) (e : CoveredIndex) → AllByRecursion IsFree (before_flush rules space text e)
before_free rules space text e = all_more IsFree _ _
    (all_more IsFree _ _
    (all_more IsFree _ _ (first_free space.flush_due space.ends.ip) ((λ flush. flush), tt))
    (run_free rules.block_size Dp (space.ends.dp + 1) text))
    ((λ flush. flush), tt)

last_settles : (front : List Job) (last : Job) (s : Made) → (after s (front ++ last ∷ [])).base.ahead ≡ None → Settle (after s front) (last ∷ [])
last_settles front last s none = ((λ flush. sym (ap (λ (m : Made). m.base.ahead) (after_append front (last ∷ []) s)) ∙ none), tt)

index_settle : (rules : Rules) (space : Space) (text : List ℕ) (e : CoveredIndex) (s : Made)
    → (after s (index_jobs rules space text e)).base.ahead ≡ None → Settle s (index_jobs rules space text e)
index_settle rules space text e s none =
    settle_more (before_flush rules space text e) (plain (ops.Flush (record { part = Dp; pos = space.ends.dp + 2 + blocks rules text })) ∷ []) s
    (settle_free (before_flush rules space text e) s (before_free rules space text e))
    (last_settles (before_flush rules space text e) (plain (ops.Flush (record { part = Dp; pos = space.ends.dp + 2 + blocks rules text }))) s none)

none_more : (jobs more : List Job) (s : Made) → (after s jobs).base.ahead ≡ None → (after s (jobs ++ more)).base.ahead ≡ None
none_more jobs more s none = ap (λ (m : Made). m.base.ahead) (after_append jobs more s) ∙ none_stays more (after s jobs) none

-- ---- ops of jobs

-- the ops of jobs that make no index whole are the ops that they were made of
pub plain_ops : (xs : List Op) → map (λ (job : Job). job.op) (map plain xs) ≡ xs
plain_ops [] = refl
plain_ops (x ∷ xs) = ap (λ (l : List Op). x ∷ l) (plain_ops xs)

-- the op of a job
abbrev pub op_of : Job → Op
op_of job = job.op

-- the ops of an index's jobs are the flush that is due first and its construct
pub index_ops : (rules : Rules) (space : Space) (text : List ℕ) (e : CoveredIndex)
    → map op_of (index_jobs rules space text e)
    ≡ flush_first space.flush_due space.ends.ip ++ construct rules.block_size Dp space.ends.dp text
index_ops rules space text e = by (flush_first space.flush_due space.ends.ip) (puts rules.block_size Dp (space.ends.dp + 1) text)
    (ops.Mark (record { part = Dp; pos = space.ends.dp })) (record { op = ops.Mark (record { part = Dp; pos = space.ends.dp + 1 + blocks rules text }); whole = Some e })
    (ops.Flush (record { part = Dp; pos = space.ends.dp + 2 + blocks rules text }))
  where
    by : (firsts run : List Op) (mark : Op) (whole : Job) (flush : Op)
        → map op_of (map plain firsts ++ plain mark ∷ [] ++ map plain run ++ whole ∷ [] ++ plain flush ∷ [])
        ≡ firsts ++ (mark ∷ [] ++ run ++ whole.op ∷ [] ++ flush ∷ [])
    by firsts run mark whole flush =
        map-append op_of (map plain firsts ++ plain mark ∷ [] ++ map plain run ++ whole ∷ []) (plain flush ∷ [])
        ∙ ap (λ (l : List Op). l ++ flush ∷ [])
        (map-append op_of (map plain firsts ++ plain mark ∷ [] ++ map plain run) (whole ∷ [])
        ∙ ap (λ (l : List Op). l ++ whole.op ∷ [])
        (map-append op_of (map plain firsts ++ plain mark ∷ []) (map plain run)
        ∙ ap (λ (l : List Op). l ++ map op_of (map plain run)) (map-append op_of (map plain firsts) (plain mark ∷ []))
        ∙ ap (λ (l : List Op). l ++ mark ∷ [] ++ map op_of (map plain run)) (plain_ops firsts)
        ∙ ap (λ (l : List Op). firsts ++ mark ∷ [] ++ l) (plain_ops run)))
        ∙ ap (λ (l : List Op). l ++ flush ∷ []) (append_assoc (firsts ++ mark ∷ []) run (whole.op ∷ []))
        ∙ append_assoc (firsts ++ mark ∷ []) (run ++ whole.op ∷ []) (flush ∷ [])
        ∙ append_assoc firsts (mark ∷ []) (run ++ whole.op ∷ [] ++ flush ∷ [])

-- ---- histories

-- one placement more
goes_on : {D : Type 0} (fixed : Fixed D) (history : List Placed) (p : Placed) → GoesOn (trees_at fixed history) (trees_at fixed (history ++ p ∷ []))
goes_on fixed history p = record {
  longer = omega (arith, length-append history (p ∷ []));
  same = λ k le. ap (λ (h : List Placed). replay (calls_of fixed.script) fixed.tree h) (take-append-le k history (p ∷ []) le);
}

-- the tree after the whole history
abbrev pub tree_at : {D : Type 0} → Fixed D → List Placed → Tree
tree_at fixed history = (trees_at fixed history).nth (length history)

same_between : {D : Type 0} (fixed : Fixed D) (history : List Placed) (p : Placed) → tree_at fixed (history ++ p ∷ []) ≡ tree_at fixed history
    → (j : ℕ) → length history ≤ j → j ≤ length (history ++ p ∷ [])
    → (trees_at fixed (history ++ p ∷ [])).nth j ≡ tree_at fixed (history ++ p ∷ [])
same_between fixed history p still j low high = ⊎_elim
    (λ (more : length history < j).
    let last : j ≡ length (history ++ p ∷ []) = omega (arith, more, high, length-append history (p ∷ [])) in
    ap (λ k. (trees_at fixed (history ++ p ∷ [])).nth k) last)
    (λ (less : j ≤ length history).
    let here : j ≡ length history = omega (arith, low, less) in
    ap (λ k. (trees_at fixed (history ++ p ∷ [])).nth k) here ∙ (goes_on fixed history p).same (length history) (omega arith) ∙ sym still)
    (cases_lt (length history) j)

plan_more : (jobs more : List Job) (s plan : Made) → after s jobs ≡ plan → after s (jobs ++ more) ≡ after plan more
plan_more jobs more s plan is = after_append jobs more s ∙ ap (λ (m : Made). after m more) is

same_wait : (w : Waiter) (place due : ℕ) → w.ticket ≡ place → w.due ≡ due → wait_of w ≡ record { place = place; due = due }
same_wait w place due ticket last = λ i. record { place = ticket i; due = last i }

module _ {D : Type 0} (drive : Ghosts D) (planned : Planned) (fixed : Fixed D) (d : D) (on : Option ℕ) where
  -- where the last placement leaves the tree as it was
  pub at_still : (space : Space) (history : List Placed) (p : Placed) (acks : List Ack) (done : ℕ) (syncs : List Waiter) (asked : List Op)
      → tree_at fixed (history ++ p ∷ []) ≡ tree_at fixed history
      → At drive planned space fixed d history acks done syncs on asked → At drive planned space fixed d (history ++ p ∷ []) acks done syncs on asked
  at_still space history p acks done syncs asked still a = record {
    made = a.made;
    jobs = a.jobs;
    held = a.held;
    told = a.told;
    ops = a.ops;
    plan = a.plan;
    serving = (histories_go_on drive).still (state_at planned.labels fixed history acks done syncs a.made a.jobs) space (trees_at fixed (history ++ p ∷ [])) d a.held
        (goes_on fixed history p) (same_between fixed history p still) a.serving;
    in_order = a.in_order;
    may_write = a.may_write;
    settles = a.settles;
  }

  -- a placement that changes the tree and asks nothing keeps a volume safe
  pub at_changed : (space : Space) (history : List Placed) (p : Placed) (acks : List Ack) (done : ℕ) (syncs : List Waiter) (asked : List Op)
      → At drive planned space fixed d history acks done syncs on asked
      → At drive planned (record space { changed = true }) fixed d (history ++ p ∷ []) acks done syncs on asked
  at_changed space history p acks done syncs asked a = record {
    made = a.made;
    jobs = a.jobs;
    held = a.held;
    told = a.told;
    ops = a.ops;
    plan = a.plan;
    serving = (histories_go_on drive).changed (state_at planned.labels fixed history acks done syncs a.made a.jobs) space (trees_at fixed (history ++ p ∷ [])) d a.held
        (goes_on fixed history p) a.serving;
    in_order = a.in_order;
    may_write = a.may_write;
    settles = a.settles;
  }

  -- ---- ops that are admitted

  more_ops : (jobs more : List Job) (asked others : List Op) → map op_of jobs ≡ asked → map op_of more ≡ others → map op_of (jobs ++ more) ≡ asked ++ others
  more_ops jobs more asked others old new = map-append op_of jobs more ∙ ap (λ (l : List Op). l ++ map op_of more) old ∙ ap (λ (l : List Op). asked ++ l) new

  -- bytes that are admitted to a partition keep a volume safe, with their jobs behind the others
  pub at_stored : (space : Space) (history : List Placed) (acks : List Ack) (done : ℕ) (syncs : List Waiter) (asked : List Op) (rules : Rules) (part : Part)
      (bytes : List ℕ) (a : At drive planned space fixed d history acks done syncs on asked) → MayWrite part (after a.made a.jobs).base
      → At drive (with_jobs (data_jobs rules part (end_of part space.ends) bytes) planned) (with_data rules part bytes space) fixed d history acks done syncs on
      (asked ++ puts rules.block_size part (end_of part space.ends) bytes)
  at_stored space history acks done syncs asked rules part bytes a may = record {
    made = a.made;
    jobs = a.jobs ++ data_jobs rules part (end_of part space.ends) bytes;
    held = a.held;
    told = a.told;
    ops = more_ops a.jobs (data_jobs rules part (end_of part space.ends) bytes) asked (puts rules.block_size part (end_of part space.ends) bytes) a.ops
        (plain_ops (puts rules.block_size part (end_of part space.ends) bytes));
    plan = plan_more a.jobs (data_jobs rules part (end_of part space.ends) bytes) a.made planned.made a.plan;
    serving = (admissions_keep drive).stored (state_at planned.labels fixed history acks done syncs a.made a.jobs) space d a.held rules part bytes a.serving may;
    in_order = a.in_order;
    may_write = λ place is. none_more a.jobs (data_jobs rules part (end_of part space.ends) bytes) a.made (a.may_write place is);
    settles = settle_more a.jobs (data_jobs rules part (end_of part space.ends) bytes) a.made a.settles
        (settle_free (data_jobs rules part (end_of part space.ends) bytes) (after a.made a.jobs) (run_free rules.block_size part (end_of part space.ends) bytes));
  }

  -- a sync that is covered once all jobs are done waits for them
  pub at_waiting : (space : Space) (history : List Placed) (acks : List Ack) (done : ℕ) (syncs : List Waiter) (asked : List Op) (w : Waiter)
      (a : At drive planned space fixed d history acks done syncs on asked) → w.due ≡ done + length a.jobs
      → IsServed (trees_at fixed history) a.made done a.jobs (wait_of w)
      → At drive planned space fixed d history acks done (syncs ++ w ∷ []) on asked
  at_waiting space history acks done syncs asked w a due served = record {
    made = a.made;
    jobs = a.jobs;
    held = a.held;
    told = a.told;
    ops = a.ops;
    plan = a.plan;
    serving = record {
      kept = kept_with _ (trees_at fixed history) a.made fixed.since (moment_of drive d a.held) done a.jobs (map wait_of syncs) (map wait_of (syncs ++ w ∷ [])) acks
          a.serving.kept
          (subst (λ (l : List Wait). AllByRecursion (IsServed (trees_at fixed history) a.made done a.jobs) l) (sym (map-append wait_of syncs (w ∷ [])))
          (all_more (IsServed (trees_at fixed history) a.made done a.jobs) (map wait_of syncs) (wait_of w ∷ []) a.serving.kept.waiting (served, tt)));
      planned = a.serving.planned;
    };
    in_order = order_more done syncs w (omega (arith, due))
        (all_mapped (λ (x : Wait). x.due ≤ w.due) wait_of syncs
        (all_weaker (IsServed (trees_at fixed history) a.made done a.jobs) (λ (x : Wait). x.due ≤ w.due) (map wait_of syncs)
        (λ x h. omega (arith, h.admitted, due)) a.serving.kept.waiting))
        a.in_order;
    may_write = a.may_write;
    settles = a.settles;
  }

  -- the same with fewer syncs that wait
  pub at_others : (space : Space) (history : List Placed) (acks : List Ack) (done : ℕ) (syncs others : List Waiter) (asked : List Op)
      → ((P : Wait → Type 0) → AllByRecursion P (map wait_of syncs) → AllByRecursion P (map wait_of others)) → (AreInOrder done syncs → AreInOrder done others)
      → At drive planned space fixed d history acks done syncs on asked → At drive planned space fixed d history acks done others on asked
  at_others space history acks done syncs others asked fewer order a = record {
    made = a.made;
    jobs = a.jobs;
    held = a.held;
    told = a.told;
    ops = a.ops;
    plan = a.plan;
    serving = record {
      kept = kept_with _ (trees_at fixed history) a.made fixed.since (moment_of drive d a.held) done a.jobs (map wait_of syncs) (map wait_of others) acks
          a.serving.kept (fewer (IsServed (trees_at fixed history) a.made done a.jobs) a.serving.kept.waiting);
      planned = a.serving.planned;
    };
    in_order = order a.in_order;
    may_write = a.may_write;
    settles = a.settles;
  }

  -- a sync that is due is acknowledged
  pub at_acked : ((image : Cartridge) → drive.commands d < 2 ^ 64 - 1 → drive.left_since d (drive.commands d) image → drive.leaves d image)
      → (space : Space) (history : List Placed) (acks : List Ack) (done : ℕ) (front : List Waiter) (w : Waiter) (behind : List Waiter) (asked : List Op)
      → w.due ≡ done → (AreInOrder done (front ++ w ∷ behind) → AreInOrder done (front ++ behind))
      → At drive planned space fixed d history acks done (front ++ w ∷ behind) on asked
      → At drive planned space fixed d history (acks ++ record { place = w.ticket; command = drive.commands d } ∷ []) done (front ++ behind) on asked
  at_acked only_now space history acks done front w behind asked due order a = record {
    made = a.made;
    jobs = a.jobs;
    held = a.held;
    told = a.told;
    ops = a.ops;
    plan = a.plan;
    serving = record {
      kept = subst
          (λ (l : List Wait). Kept (state_at planned.labels fixed history acks done front a.made a.jobs).volume (trees_at fixed history) a.made fixed.since (moment_of drive d a.held)
          done a.jobs l (acks ++ record { place = w.ticket; command = drive.commands d } ∷ []))
          (sym (map-append wait_of front behind))
          (kept_acked _ (trees_at fixed history) a.made fixed.since (moment_of drive d a.held) done a.jobs (map wait_of front) (wait_of w) (map wait_of behind) acks
          (subst
          (λ (l : List Wait). Kept (state_at planned.labels fixed history acks done front a.made a.jobs).volume (trees_at fixed history) a.made fixed.since (moment_of drive d a.held)
          done a.jobs l acks)
          (map-append wait_of front (w ∷ behind)) a.serving.kept)
          due (λ short image left. only_now image short left));
      planned = a.serving.planned;
    };
    in_order = order a.in_order;
    may_write = a.may_write;
    settles = a.settles;
  }

  -- where nothing changed
  pub at_unchanged : (space : Space) (history : List Placed) (acks : List Ack) (done : ℕ) (syncs : List Waiter) (asked : List Op) (w : Waiter)
      (a : At drive planned space fixed d history acks done syncs on asked) → space.changed ≡ false → w.ticket ≡ length history → w.due ≡ done + length asked
      → At drive planned space fixed d history acks done (syncs ++ w ∷ []) on asked
  at_unchanged space history acks done syncs asked w a same ticket count =
      let last : w.due ≡ done + length a.jobs =
      count ∙ ap (λ (l : List Op). done + length l) (sym a.ops) ∙ ap (λ (n : ℕ). done + n) (length-map a.jobs op_of) in
      at_waiting space history acks done syncs asked w a last
      (subst (λ (z : Wait). IsServed (trees_at fixed history) a.made done a.jobs z) (sym (same_wait w (length history) (done + length a.jobs) ticket last))
      ((syncs_are_held drive).unchanged (state_at planned.labels fixed history acks done syncs a.made a.jobs) space d a.held a.serving same))

module _ {D : Type 0} (drive : Ghosts D) (planned : Planned) (fixed : Fixed D) (d : D) (on : Option ℕ) where
  -- the index of a sync, which waits for it
  pub at_indexed : (space : Space) (history : List Placed) (acks : List Ack) (done : ℕ) (syncs : List Waiter) (asked : List Op) (rules : Rules)
      (text : List ℕ) (e : CoveredIndex) (w : Waiter) (a : At drive planned space fixed d history acks done syncs on asked)
      → IsDue (state_at planned.labels fixed history acks done syncs a.made a.jobs).volume (trees_at fixed history) (after a.made a.jobs) space text e
      → 1 ≤ rules.block_size → w.ticket ≡ length history
      → w.due ≡ done + length (asked ++ (flush_first space.flush_due space.ends.ip ++ construct rules.block_size Dp space.ends.dp text))
      → At drive (with_jobs (index_jobs rules space text e) planned) (with_index rules text space) fixed d history acks done (syncs ++ w ∷ []) on
      (asked ++ (flush_first space.flush_due space.ends.ip ++ construct rules.block_size Dp space.ends.dp text))
  at_indexed space history acks done syncs asked rules text e w a due size ticket count =
      let more = index_jobs rules space text e in
      let all_ops = asked ++ (flush_first space.flush_due space.ends.ip ++ construct rules.block_size Dp space.ends.dp text) in
      let x : State = state_at planned.labels fixed history acks done syncs a.made a.jobs in
      let ops_are : map op_of (a.jobs ++ more) ≡ all_ops =
      more_ops drive planned fixed d on a.jobs more asked (flush_first space.flush_due space.ends.ip ++ construct rules.block_size Dp space.ends.dp text) a.ops (index_ops rules space text e) in
      let last : w.due ≡ done + length (a.jobs ++ more) =
      count ∙ ap (λ (l : List Op). done + length l) (sym ops_are) ∙ ap (λ (n : ℕ). done + n) (length-map (a.jobs ++ more) op_of) in
      let none : (after a.made (a.jobs ++ more)).base.ahead ≡ None = (admissions_keep drive).settled x space d a.held rules text e a.serving due size in
      let admitted : At drive (with_jobs more planned) (with_index rules text space) fixed d history acks done syncs on all_ops = record {
        made = a.made;
        jobs = a.jobs ++ more;
        held = a.held;
        told = a.told;
        ops = ops_are;
        plan = plan_more a.jobs more a.made planned.made a.plan;
        serving = (admissions_keep drive).indexed x space d a.held rules text e a.serving due size;
        in_order = a.in_order;
        may_write = λ place is. none;
        settles = settle_more a.jobs more a.made a.settles
            (index_settle rules space text e (after a.made a.jobs) (sym (ap (λ (m : Made). m.base.ahead) (after_append a.jobs more a.made)) ∙ none));
      } in
      at_waiting drive (with_jobs more planned) fixed d on (with_index rules text space) history acks done syncs all_ops w admitted last
      (subst (λ (z : Wait). IsServed (trees_at fixed history) a.made done (a.jobs ++ more) z)
      (sym (same_wait w (length history) (done + length (a.jobs ++ more)) ticket last))
      ((syncs_are_held drive).changed x space d a.held rules text e a.serving due size))
