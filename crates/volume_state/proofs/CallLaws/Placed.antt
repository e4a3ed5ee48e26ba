-- What a call leaves that asks nothing of the tape: what stands, what waits and what is read stay.
use Rattle.std.proofs.Common.{◌≡◌, ℕ, ◌+◌, ◌<◌, ◌≤◌, ◌||◌, nat_le, not, Bool, true, List, [], ◌∷◌, ◌++◌, length, Option, Some, None, append-nil, length-append, refl, sym, ap, subst, ◌∙◌, arith}
use Rattle.std.specs.Prelude.{All, IfSome, slice_index_or}
use Rattle.std.specs.List.{list_any}
use Rattle.std.proofs.lemmas.Bool.Decides.{nat_tests}
use Rattle.std.proofs.lemmas.Option.{slice_get_within}
use Rattle.tape_types.specs.declared.cartridges.Cartridge.{Cartridge}
use Rattle.tape_types.specs.declared.cartridges.Part.TheVariants.{Dp, Ip}
use Rattle.tape_types.specs.declared.cartridges.Place.{Place}
use Rattle.tape_drive.specs.declared.drive.Drive.{Ghosts}
use Rattle.plain_tree.specs.Calls.{answer}
use Rattle.plain_tree.specs.History.{call_at}
use Rattle.plain_tree.specs.declared.calls.Call.{Call}
use Rattle.plain_tree.specs.declared.calls.Fate.TheVariants as fates
use Rattle.plain_tree.specs.declared.calls.Placed.{Placed}
use Rattle.head_queue.specs.Queued.{requests}
use Rattle.head_queue.specs.EventLaws.Trail.{asks}
use Rattle.head_queue.specs.EventLaws.Waiting.{Request, State}
use Rattle.tape_layout.specs.declared.ops.Op.{Op}
use Rattle.space_laws.specs.Mount.{MountFacts}
use Rattle.space_laws.specs.Space.{nothing}
use Rattle.space_laws.specs.Standing.{Given, Standing, after_done, after_placed, ask_of, is_on}
use Rattle.space_laws.proofs.Steps.{are_still}
use Rattle.promises.specs.ServingPromise.Mount.{facts_of}
use Rattle.promises.specs.ServingPromise.Served.{Fixed, given}
use Rattle.promises.specs.OrderLaws.Kept.{seen}
use Rattle.promises.proofs.OrderLaws.Lists.{at_more}
use Rattle.promises.specs.ReplyLaws.Sides.{on_here, standing_here}
use Rattle.promises.proofs.ReplyLaws.Places.{standing_goes_on}
use Rattle.promises.proofs.CrashLaws.Placing.{standings_go_on}
use Rattle.held_volume.specs.Stocks.{IsStock}
use Rattle.event_journal.specs.Trails.{due_ticket, state}
use Rattle.volume_state.specs.PlanLaws.Planned.{IsOnWay, IsPlan, Items, ends_in, tape_on, with_ops}
use Rattle.promises.specs.GroupLaws.Groups.{IsGrouped, has_part}
use Rattle.waiting_reads.specs.Gathering.{Gathering, IsGathering}
use Rattle.volume_state.specs.StateLaws.Parts.{Parts, view_of}
use Rattle.volume_state.specs.StateLaws.Tied.{AreFilesRight, AreReading, IsAsked, IsKeptRightly, IsReading, IsTied, is_of}

-- ---- reads that wait

-- they wait on as the history goes on
pub reading_later : (g : Given) (on : Option ℕ) (history : List Placed) (p : Placed) (planned : Items) (told : Option Cartridge) (st : State) (r : Gathering)
    → IsReading g on history planned told st r → IsReading g on (history ++ p ∷ []) planned told st r
reading_later g on history p planned told st r h = record {
  placed = h.placed;
  placed_is = at_more history (p ∷ []) r.ticket h.placed h.placed_is;
  call = h.call;
  call_is = h.call_is;
  answers =
      ap (λ (s : Standing). answer s.tree h.call)
      ((standing_goes_on g on history p).stands r.ticket (let less : r.ticket < length history = slice_get_within history r.ticket h.placed h.placed_is in omega (arith, less)))
      ∙ h.answers;
  below = h.below;
  gathering = h.gathering;
  asked = h.asked;
}

-- the reads that wait stay right as a call is placed that asks nothing
pub reads_later : (g : Given) (on : Option ℕ) (history : List Placed) (p : Placed) (planned : Items) (told : Option Cartridge) (ops : List Op) (st : State) (reads : List Gathering)
    → AreReading g on history planned told ops st reads → AreReading g on (history ++ p ∷ []) planned told ops st reads
reads_later g on history p planned told ops st reads h = record {
  each = λ k d less. reading_later g on history p planned told st (slice_index_or reads k d) (h.each k d less);
  apart = h.apart;
  asked = h.asked;
}

-- and with other events that neither ask for a block nor read one
reading_still : (g : Given) (on : Option ℕ) (history : List Placed) (planned : Items) (told : Option Cartridge) (st now : State) (r : Gathering) → now.requests ≡ st.requests
    → IsReading g on history planned told st r → IsReading g on history planned told now r
reading_still g on history planned told st now r same h = record {
  placed = h.placed;
  placed_is = h.placed_is;
  call = h.call;
  call_is = h.call_is;
  answers = h.answers;
  below = h.below;
  gathering = subst (λ (rs : List Request). IfSome told (λ c. IsGathering (tape_on planned) (λ place. not (list_any (asks r.ticket place) rs)) r)) (sym same) h.gathering;
  asked = subst (λ (rs : List Request). list_any (is_of r.ticket) rs ≡ true) (sym same) h.asked;
}

reads_still : (g : Given) (on : Option ℕ) (history : List Placed) (planned : Items) (told : Option Cartridge) (ops : List Op) (st now : State) (reads : List Gathering) → now.requests ≡ st.requests
    → AreReading g on history planned told ops st reads → AreReading g on history planned told ops now reads
reads_still g on history planned told ops st now reads same h = record {
  each = λ k d less. reading_still g on history planned told st now (slice_index_or reads k d) same (h.each k d less);
  apart = h.apart;
  asked = subst (λ (rs : List Request). All (IsAsked planned ops reads) rs) (sym same) h.asked;
}

-- both at once, as parts say it
pub reads_to : (g : Given) (on off : Option ℕ) (history later : List Placed) (planned : Items) (told : Option Cartridge) (ops left : List Op) (st now : State) (reads waiting : List Gathering)
    → off ≡ on → later ≡ history → left ≡ ops → waiting ≡ reads → now.requests ≡ st.requests
    → AreReading g on history planned told ops st reads → AreReading g off later planned told left now waiting
reads_to g on off history later planned told ops left st now reads waiting on_is history_is ops_are reads_are same h =
    let a : AreReading g off history planned told ops st reads = subst (λ (o : Option ℕ). AreReading g o history planned told ops st reads) (sym on_is) h in
    let b : AreReading g off later planned told ops st reads = subst (λ (ps : List Placed). AreReading g off ps planned told ops st reads) (sym history_is) a in
    let c : AreReading g off later planned told left st reads = subst (λ (l : List Op). AreReading g off later planned told l st reads) (sym ops_are) b in
    let d : AreReading g off later planned told left st waiting = subst (λ (rs : List Gathering). AreReading g off later planned told left st rs) (sym reads_are) c in
    reads_still g off later planned told left st now waiting same d

-- ---- where placement goes on

-- a place that was reached stays the one from where placement is on
pub on_stays : (m : MountFacts) (on : Option ℕ) (n : ℕ) → IfSome on (λ first. first ≤ n) → is_on m on (n + 1) ≡ is_on m on n
on_stays m None n reached = refl
on_stays m (Some first) n reached =
    let now : nat_le first n ≡ true = grind (arith, nat_tests, reached) in
    let later : nat_le first (n + 1) ≡ true = grind (arith, nat_tests, reached) in
    ap (λ b. m.ip_on || b) (later ∙ sym now)

-- a place that was reached stays reached
pub reached_later : (on : Option ℕ) (n : ℕ) → IfSome on (λ first. first ≤ n) → IfSome on (λ first. first ≤ n + 1)
reached_later None n reached = tt
reached_later (Some first) n reached = omega (arith, reached)

-- ---- no ops more

-- no op changes nothing of what is planned
pub same_items : (planned : Items) → with_ops [] planned ≡ planned
same_items planned = λ i part. append-nil (planned part) i

-- ---- all parts

module _ {D : Type 0} (drive : Ghosts D) (fixed : Fixed D) where
  -- what stands at the end of the history
  abbrev pub stands_in : Parts D → Standing
  stands_in p = standing_here (seen drive fixed.first) (view_of fixed None p)

  -- files may go to the index partition at the end of the parts' history
  abbrev pub on_in : Parts D → Bool
  on_in p = on_here (seen drive fixed.first) (view_of fixed None p)

  -- what the parts were mounted with, as the definitions of space start from it
  abbrev pub given_in : Parts D → Given
  given_in p = given (view_of fixed None p) (seen drive fixed.first)

  -- a placement leaves what stands where it is void, or done and asks nothing
  pub after_it : (old new : Parts D) (p : Placed) → new.on ≡ old.on → new.listed.history ≡ old.listed.history ++ p ∷ []
      → stands_in new ≡ after_placed (given_in old) (on_in old) (stands_in old) p
  after_it old new p on history = standings_go_on.placed (drive.limits fixed.first) (view_of fixed None old) (view_of fixed None new) p refl on history

  -- a void placement leaves what stands
  pub after_void : (old new : Parts D) (p : Placed) → new.on ≡ old.on → new.listed.history ≡ old.listed.history ++ p ∷ [] → p.fate ≡ fates.Void
      → stands_in new ≡ stands_in old
  after_void old new p on history fate = after_it old new p on history ∙ are_still.void (given_in old) (on_in old) (stands_in old) p fate

  -- a placement that is done and asks nothing leaves what stands
  pub after_nothing : (old new : Parts D) (p : Placed) (call : Call) → new.on ≡ old.on → new.listed.history ≡ old.listed.history ++ p ∷ [] → p.fate ≡ fates.Done
      → call_at (given_in old).calls p ≡ Some call → ask_of (given_in old) (stands_in old) call p.at ≡ nothing → stands_in new ≡ stands_in old
  after_nothing old new p call on history fate is asks_none =
      after_it old new p on history ∙ by fate is ∙ are_still.nothing_asked (given_in old) (on_in old) (stands_in old) call p.at asks_none
    where
      by : p.fate ≡ fates.Done → call_at (given_in old).calls p ≡ Some call
          → after_placed (given_in old) (on_in old) (stands_in old) p ≡ after_done (given_in old) (on_in old) (stands_in old) call p.at
      by fate is = rw (fate, is) refl

  -- files may go to the index partition as before
  pub on_after : (old new : Parts D) (p : Placed) → new.on ≡ old.on → new.listed.history ≡ old.listed.history ++ p ∷ []
      → IfSome old.on (λ first. first ≤ length old.listed.history) → on_in new ≡ on_in old
  on_after old new p on history reached =
      ap (λ (o : Option ℕ). is_on (facts_of fixed.mounted) o (length new.listed.history)) on
      ∙ ap (λ (n : ℕ). is_on (facts_of fixed.mounted) old.on n) (longer old new p history)
      ∙ on_stays (facts_of fixed.mounted) old.on (length old.listed.history) reached
    where
      longer : (old new : Parts D) (p : Placed) → new.listed.history ≡ old.listed.history ++ p ∷ [] → length new.listed.history ≡ length old.listed.history + 1
      longer old new p history = ap (λ (h : List Placed). length h) history ∙ length-append old.listed.history (p ∷ [])

  -- what a call changes that admits no op: it may be placed, and asks for blocks or for none
  pub record LeavesTape (planned : Items) (old new : Parts D) : Type 0 where
    pub drive_is : new.drive ≡ old.drive
    pub ops : new.stock.layout.ops ≡ old.stock.layout.ops
    pub calls : new.listed.calls ≡ old.listed.calls
    pub sessions : new.listed.sessions ≡ old.listed.sessions
    pub stands : stands_in new ≡ stands_in old
    pub on_stays_on : on_in new ≡ on_in old
    pub reached : IfSome new.on (λ first. first ≤ length new.listed.history)
    pub stock : (st : Standing) → IsStock (tape_on planned) (given_in old) (on_in old) st old.stock
        → IsStock (tape_on planned) (given_in old) (on_in old) st new.stock
    pub queue : requests new.queue ≡ (state new.trail).requests
    pub arrived : new.queue.arrived ≡ (state new.trail).arrived
    pub none_due : due_ticket (state new.trail) ≡ None
    pub group : (state new.trail).group ≡ (state old.trail).group
    pub reads : AreReading (given_in old) new.on new.listed.history planned (drive.held fixed.first) new.stock.layout.ops (state new.trail) new.reads
    pub cached : All (IsKeptRightly planned old.stock.layout.ops (drive.held fixed.first)) new.cached

  -- a volume stays tied where nothing of the tape changes
  pub tied_still : (planned : Items) (old new : Parts D) → IsTied drive fixed planned old → LeavesTape planned old new → IsTied drive fixed (with_ops [] planned) new
  tied_still planned old new tied h = subst (λ (ps : Items). IsTied drive fixed ps new) (sym (same_items planned)) (record {
    limits = tied.limits;
    mount = tied.mount;
    queue = h.queue;
    arrived = h.arrived;
    none_due = h.none_due;
    on_is = h.reached;
    told = λ e. tied.told (ap drive.held (sym h.drive_is) ∙ e);
    room = tied.room;
    calls = h.calls ∙ tied.calls;
    sessions = h.sessions ∙ tied.sessions;
    stock = stock;
    ends = ap (λ (s : Standing). s.space.ends) h.stands ∙ tied.ends;
    back = subst (λ (s : Standing). IfSome s.space.last_dp (λ pos. pos < length (planned Dp))) (sym h.stands) tied.back;
    grouped = subst (λ (s : Standing). IsGrouped s.space (state new.trail)) (sym h.stands)
        (record { due = λ e. ap (λ (l : List Place). has_part Ip l) h.group ∙ tied.grouped.due e; changed = λ e. h.group ∙ tied.grouped.changed e });
    files = subst (λ (s : Standing). AreFilesRight s.files (ends_in planned) new.stock.layout.ops) (sym h.stands) (subst (λ (l : List Op). AreFilesRight (stands_in old).files (ends_in planned) l) (sym h.ops) tied.files);
    plan = subst (λ (l : List Op). IsPlan planned l) (sym h.ops) tied.plan;
    way = λ c held. subst (λ (l : List Op). IsOnWay planned l c) (sym h.ops) (tied.way c (ap drive.held (sym h.drive_is) ∙ held));
    reads = h.reads;
    cached = subst (λ (l : List Op). All (IsKeptRightly planned l (drive.held fixed.first)) new.cached) (sym h.ops) h.cached;
  })
    where
      stock : IsStock (tape_on planned) (given_in old) (on_in new) (stands_in new) new.stock
      stock = subst (λ (b : Bool). IsStock (tape_on planned) (given_in old) b (stands_in new) new.stock) (sym h.on_stays_on)
          (subst (λ (s : Standing). IsStock (tape_on planned) (given_in old) (on_in old) s new.stock) (sym h.stands) (h.stock (stands_in old) tied.stock))
