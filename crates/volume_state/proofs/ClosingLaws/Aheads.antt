-- That no index is ahead on the index partition where a close writes one.
use Rattle.std.proofs.Common.{◌≡◌, ◌≢◌, inl, inr, ℕ, ◌+◌, Bool, true, false, List, [], ◌∷◌, ◌++◌, map, Option, None}
use Rattle.std.proofs.Common.{refl, sym, ap, subst, ◌∙◌, append_assoc}
use Rattle.tape_types.specs.declared.cartridges.Cartridge.{Cartridge}
use Rattle.tape_types.specs.declared.cartridges.Item.{Item}
use Rattle.tape_types.specs.declared.cartridges.Limits.{Limits}
use Rattle.tape_types.specs.declared.cartridges.Part.TheVariants.{Dp}
use Rattle.tape_types.specs.declared.moments.Moment.{Moment}
use Rattle.content_laws.specs.Ends.{EndsWithLast}
use Rattle.content_laws.specs.Readings.{Construct}
use Rattle.tape_drive.specs.declared.drive.Drive.{Ghosts}
use Rattle.tape_layout.specs.declared.ops.Op.{Op}
use Rattle.tape_layout.specs.declared.ops.Op.TheVariants as ops
use Rattle.tape_layout.specs.Admissions.{flush_first}
use Rattle.tape_layout.specs.Ops.{puts}
use Rattle.cartridge_meaning.specs.Mounts.{Mounts}
use Rattle.cartridge_meaning.specs.Pointers.{indexes_of}
use Rattle.plain_tree.specs.declared.calls.Fate.TheVariants as fates
use Rattle.plain_tree.specs.declared.calls.Placed.{Placed}
use Rattle.session_script.specs.declared.logs.Event.{Event}
use Rattle.space_laws.specs.Closing.{is_dp_due}
use Rattle.space_laws.specs.Mount.{MountFacts}
use Rattle.space_laws.specs.Space as space
use Rattle.space_laws.specs.Space.{Rules, Space, blocks, index}
use Rattle.space_laws.specs.Standing.{Standing, is_on}
use Rattle.promises.specs.ImageLaws.Made.{Job, Made, after, makes}
use Rattle.promises.proofs.ImageLaws.Flushes.{none_stays}
use Rattle.promises.specs.ServingPromise.Ends.{begun}
use Rattle.promises.specs.ServingPromise.Mount.{facts_of}
use Rattle.promises.specs.ServingPromise.Served.{Fixed, View}
use Rattle.promises.specs.ServingPromise.Steps.{on_after}
use Rattle.promises.specs.CrashLaws.Laws.{AddsOps, IsSafeNow}
use Rattle.promises.specs.CrashLaws.Safe.{Follows, IsDpFlush, Planned, Settle, given_by, space_now}
use Rattle.promises.proofs.CrashLaws.Admits.{op_of}
use Rattle.promises.proofs.CrashLaws.Placing.{standings_go_on}
use Rattle.volume_state.specs.ClosingLaws.Ready.{GoesOnBy, HasNoneAhead, NoneIsAhead}
use Rattle.volume_state.proofs.ClosingLaws.Asked.{IsGiven, given_one, had_one, has_by, on_here, rules_here, void_space}

-- ---- a flush of the data partition that stands

settled_by : (jobs : List Job) (s : Made) (front : List Op) (op : Op) → map op_of jobs ≡ front ++ op ∷ [] → IsDpFlush op
    → Settle s jobs → (after s jobs).base.ahead ≡ None
settled_by [] s [] op are flush settles = absurd (let wrong : [] ≡ op ∷ [] = are in cc)
settled_by [] s (x ∷ front) op are flush settles = absurd (let wrong : [] ≡ x ∷ (front ++ op ∷ []) = are in cc)
settled_by (job ∷ jobs) s [] op are flush settles =
    let its : op ≡ job.op = cc in
    none_stays jobs (makes job s) (settles.0 (subst IsDpFlush its flush))
settled_by (job ∷ jobs) s (x ∷ front) op are flush settles =
    let rest : map op_of jobs ≡ front ++ op ∷ [] = cc in
    settled_by jobs (makes job s) front op rest flush settles.1

-- the flush behind an index
abbrev index_flush : Rules → Space → List ℕ → Op
index_flush v s text = ops.Flush (record { part = Dp; pos = s.ends.dp + 2 + blocks v text })

flush_last : (v : Rules) (on : Bool) (s : Space) (text : List ℕ) (old : List Op)
    → (front : List Op) × (old ++ space.ops_of v on s (index text) ≡ front ++ index_flush v s text ∷ [])
flush_last v on s text old =
    let firsts = flush_first s.flush_due s.ends.ip in
    let body : List Op = ops.Mark (record { part = Dp; pos = s.ends.dp }) ∷ []
    ++ puts v.block_size Dp (s.ends.dp + 1) text
    ++ ops.Mark (record { part = Dp; pos = s.ends.dp + 1 + blocks v text }) ∷ [] in (
      old ++ (firsts ++ body),
      ap (λ (l : List Op). old ++ l) (sym (append_assoc firsts body (index_flush v s text ∷ [])))
          ∙ sym (append_assoc old (firsts ++ body) (index_flush v s text ∷ [])),
    )

-- ---- at the start

some_index : (items : List Item) (ks : List Construct) → EndsWithLast items ks → ks ≢ []
some_index items [] ends none = absurd ends
some_index items (k ∷ ks) ends none = cc

on_by : (m : MountFacts) (on : Option ℕ) → m.ip_on ≡ true → is_on m on 0 ≡ true
on_by m on e = rw e refl

module _ {D : Type 0} (drive : Ghosts D) where
  begins : (planned : Planned) (limits : Limits) (fixed : Fixed D) (next : Option Moment) (c : Cartridge)
      → Mounts c fixed.mounted → IsSafeNow drive planned limits (begun fixed next)
      → HasNoneAhead planned limits (begun fixed next)
  begins planned limits fixed next c mounts safe (inl done) =
      let found = mounts.dp_done.0 done in
      let on = mounts.ip_on.1 (some_index c.dp (indexes_of c.dp) found.ends, found.choice) in
      sym (ap (λ (m : Made). m.base.ahead) safe.plan) ∙ safe.may_write 0 (on_by (facts_of fixed.mounted) None on)
  begins planned limits fixed next c mounts safe (inr is) = absurd (let wrong : false ≡ true = is in cc)

  -- ---- submissions

  -- where the last op is the flush of an index
  flushed : (q : Planned) (limits : Limits) (v : View D) (front : List Op) (op : Op) → IsSafeNow drive q limits v
      → v.ops ≡ front ++ op ∷ [] → IsDpFlush op → q.made.base.ahead ≡ None
  flushed q limits v front op safe is flush = sym (ap (λ (m : Made). m.base.ahead) safe.plan)
      ∙ settled_by safe.jobs safe.made front op (safe.ops ∙ is) flush safe.settles

  by_given : (p q : Planned) (limits : Limits) (old new : View D) (asked : List Op) → HasNoneAhead p limits old
      → Follows p q asked → IsSafeNow drive q limits new → IsGiven limits old new → q.made.base.ahead ≡ None
  by_given p q limits old new asked none follows safe (inl had) =
      ap (λ (m : Made). m.base.ahead) follows.made ∙ none_stays follows.jobs p.made (none had)
  by_given p q limits old new asked none follows safe (inr (text, are)) =
      let v = rules_here limits old new in
      let on = on_here limits old new in
      let last = flush_last v on (space_now limits old) text old.ops in
      flushed q limits new last.0 (index_flush v (space_now limits old) text) safe (are ∙ last.1) refl

  submitted : (p q : Planned) (limits : Limits) (old new : View D) (asked : List Op) → HasNoneAhead p limits old
      → Follows p q asked → IsSafeNow drive q limits new → AddsOps limits old new → new.fixed ≡ old.fixed
      → new.on ≡ old.on → GoesOnBy old new → HasNoneAhead q limits new
  submitted p q limits old new asked none follows safe adds fixed on goes has =
      by_given p q limits old new asked none follows safe (given_one limits old new adds fixed on goes has)

  -- ---- turns

  turned : (p : Planned) (limits : Limits) (old new : View D) (added : List Event) → HasNoneAhead p limits old
      → new.fixed ≡ old.fixed → new.history ≡ old.history → new.on ≡ on_after old added → HasNoneAhead p limits new
  turned p limits old new added none fixed history on has =
      none (had_one limits old new fixed
      (ap (λ (s : Standing). s.space) (standings_go_on.stepped limits old new added fixed history on)) has)

  voided : (p : Planned) (limits : Limits) (old new : View D) (added : List Event) (placed : Placed)
      → HasNoneAhead p limits old → new.fixed ≡ old.fixed → new.history ≡ old.history ++ placed ∷ []
      → placed.fate ≡ fates.Void → new.on ≡ on_after old added → HasNoneAhead p limits new
  voided p limits old new added placed none fixed history fate on has =
      none (had_one limits old new fixed (void_space limits old new added placed fixed history fate on) has)

  -- ---- a close

  closes : (p : Planned) (limits : Limits) (v : View D) → HasNoneAhead p limits v
      → is_dp_due (given_by limits v) (space_now limits v) ≡ false → p.made.base.ahead ≡ None
  closes p limits v none is =
      none (has_by (space_now limits v).changed v.fixed.mounted.dp_done (space_now limits v).admitted is)

  -- no index is ahead on the index partition where none is due on the data partition
  pub none_is_ahead : NoneIsAhead drive
  none_is_ahead = record { begins = begins; submitted = submitted; turned = turned; voided = voided; closes = closes }
