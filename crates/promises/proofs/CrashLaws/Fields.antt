-- A safe volume by the fields of its view that count.
use Rattle.std.proofs.Common.{◌≡◌, ℕ, true, List, map, Option, Some, None, sym, subst}
use Rattle.tape_types.specs.declared.cartridges.Cartridge.{Cartridge}
use Rattle.tape_drive.specs.declared.drive.Drive.{Ghosts}
use Rattle.tape_layout.specs.declared.ops.Op.{Op}
use Rattle.cartridge_meaning.specs.Carried.{carried}
use Rattle.cartridge_meaning.specs.declared.labels.Labels.{Labels}
use Rattle.plain_tree.specs.History.{replay}
use Rattle.plain_tree.specs.declared.calls.Placed.{Placed}
use Rattle.session_script.specs.Grammar.{calls_of}
use Rattle.session_script.specs.declared.logs.Ack.{Ack}
use Rattle.head_queue.specs.EventLaws.Waiting.{Waiter}
use Rattle.head_queue.specs.EventLaws.Trail.{after_all}
use Rattle.space_laws.specs.Space.{Space}
use Rattle.space_laws.specs.Standing.{is_on}
use Rattle.promises.specs.ImageLaws.Laws.{IsServing, State}
use Rattle.promises.specs.ImageLaws.Made.{Job, Made, Trees, after}
use Rattle.promises.specs.ServingPromise.Mount.{facts_of}
use Rattle.promises.specs.ServingPromise.Served.{Fixed, View}
use Rattle.promises.specs.CrashLaws.Safe.{AreInOrder, IsSafe, Planned, Settle, wait_of}
use Rattle.std.specs.Prelude.{length, take}

-- the trees after each number of placements of a history
abbrev pub trees_at : {D : Type 0} → Fixed D → List Placed → Trees
trees_at fixed history = record { nth = λ k. replay (calls_of fixed.script) fixed.tree (take k history); count = length history }

-- a volume at a moment, as the theory of crashes knows it
abbrev pub state_at : {D : Type 0} → Labels → Fixed D → List Placed → List Ack → ℕ → List Waiter → Made → List Job → State
state_at labels fixed history acks done syncs made jobs = record {
  volume = record { labels = labels; facts = carried fixed.mounted.index };
  trees = trees_at fixed history;
  made = made;
  since = fixed.since;
  done = done;
  jobs = jobs;
  waits = map wait_of syncs;
  acks = acks;
}

-- a safe volume, by its space, drive, history, acks, syncs and ops
pub record At {D : Type 0} (drive : Ghosts D) (planned : Planned) (space : Space) (fixed : Fixed D) (d : D) (history : List Placed) (acks : List Ack)
    (done : ℕ) (syncs : List Waiter) (on : Option ℕ) (asked : List Op) : Type 0 where
  pub made : Made
  pub jobs : List Job
  pub held : Cartridge
  pub told : drive.held d ≡ Some held
  pub ops : map (λ (job : Job). job.op) jobs ≡ asked
  pub plan : after made jobs ≡ planned.made
  pub serving : IsServing drive (state_at planned.labels fixed history acks done syncs made jobs) space d held
  pub in_order : AreInOrder done syncs
  pub may_write : (place : ℕ) → is_on (facts_of fixed.mounted) on place ≡ true → (after made jobs).base.ahead ≡ None
  pub settles : Settle made jobs

module _ {D : Type 0} (drive : Ghosts D) (planned : Planned) (space : Space) where
  -- the same from a safe volume's view
  abbrev pub of_view : (v : View D) → IsSafe drive planned space v
      → At drive planned space v.fixed v.drive v.history v.acks (after_all v.events).done (after_all v.events).syncs v.on v.ops
  of_view v safe = record {
    made = safe.made;
    jobs = safe.jobs;
    held = safe.held;
    told = safe.told;
    ops = safe.ops;
    plan = safe.plan;
    serving = safe.serving;
    in_order = safe.in_order;
    may_write = safe.may_write;
    settles = safe.settles;
  }

  whole : (v : View D)
      → At drive planned space v.fixed v.drive v.history v.acks (after_all v.events).done (after_all v.events).syncs v.on v.ops
      → IsSafe drive planned space v
  whole v a = record {
    made = a.made;
    jobs = a.jobs;
    held = a.held;
    told = a.told;
    ops = a.ops;
    plan = a.plan;
    serving = a.serving;
    in_order = a.in_order;
    may_write = a.may_write;
    settles = a.settles;
  }

  -- a view with these fields is safe
  pub to_view : (v : View D) (fixed : Fixed D) (d : D) (history : List Placed) (acks : List Ack) (done : ℕ) (syncs : List Waiter) (on : Option ℕ) (asked : List Op)
      → v.fixed ≡ fixed → v.drive ≡ d → v.history ≡ history → v.acks ≡ acks → (after_all v.events).done ≡ done → (after_all v.events).syncs ≡ syncs
      → v.on ≡ on → v.ops ≡ asked → At drive planned space fixed d history acks done syncs on asked → IsSafe drive planned space v
  to_view v fixed d history acks done syncs on asked fixed_is d_is history_is acks_is done_is syncs_is on_is asked_is a =
      let one = subst (λ (x : Fixed D). At drive planned space x d history acks done syncs on asked) (sym fixed_is) a in
      let two = subst (λ (x : D). At drive planned space v.fixed x history acks done syncs on asked) (sym d_is) one in
      let three = subst (λ (x : List Placed). At drive planned space v.fixed v.drive x acks done syncs on asked) (sym history_is) two in
      let four = subst (λ (x : List Ack). At drive planned space v.fixed v.drive v.history x done syncs on asked) (sym acks_is) three in
      let five = subst (λ (x : ℕ). At drive planned space v.fixed v.drive v.history v.acks x syncs on asked) (sym done_is) four in
      let six = subst (λ (x : List Waiter). At drive planned space v.fixed v.drive v.history v.acks (after_all v.events).done x on asked) (sym syncs_is) five in
      let seven = subst (λ (x : Option ℕ). At drive planned space v.fixed v.drive v.history v.acks (after_all v.events).done (after_all v.events).syncs x asked) (sym on_is) six in
      whole v (subst (λ (x : List Op). At drive planned space v.fixed v.drive v.history v.acks (after_all v.events).done (after_all v.events).syncs v.on x) (sym asked_is) seven)
