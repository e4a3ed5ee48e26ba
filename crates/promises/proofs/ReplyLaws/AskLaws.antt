-- What the events of a volume tell of its calls, over each call.
use Rattle.std.specs.Prelude.{◌≡◌, All, ℕ, zero, suc, true, List, [], ◌∷◌, ◌++◌, map, filter_map, length, Contains, Option, None}
use Rattle.std.proofs.Common.{refl, sym, ap, ◌∙◌, subst, arith}
use Rattle.std.proofs.lemmas.List.{append-nil}
use Rattle.std.proofs.lemmas.List.Elements.{filter_map-append}
use Rattle.plain_tree.specs.History.{call_at}
use Rattle.plain_tree.specs.declared.calls.Fate.{Fate}
use Rattle.plain_tree.specs.declared.calls.Fate.TheVariants as fates
use Rattle.plain_tree.specs.declared.calls.Placed.{Placed}
use Rattle.session_script.specs.declared.logs.Event.{Event}
use Rattle.session_script.specs.declared.logs.Event.TheVariants as events
use Rattle.head_queue.specs.EventLaws.Trail.{is_answer}
use Rattle.tape_layout.specs.Ops.{place_of}
use Rattle.space_laws.specs.Standing.{Given, admitted, admitted_at, is_on, standing}
use Rattle.promises.specs.ServingPromise.Acks.{syncs_ticket}
use Rattle.promises.specs.ServingPromise.Asking.{AreAsked, AreGrouped, AreNeeded, AreOfReads, ArePutOff, want_of}
use Rattle.promises.specs.ServingPromise.Served.{Drive, IsTrue, View, given, given_of, queued}
use Rattle.promises.specs.ServingPromise.Steps.{AreOfStep, DrainsOnce, is_step, no_step, on_after, one_step}
use Rattle.promises.specs.declared.serving_promise.answers.Drained.{Drained}
use Rattle.promises.specs.declared.serving_promise.answers.Drained.TheVariants as drained
use Rattle.promises.specs.ReplyLaws.Asks.{AreBegun, AsksTruly, DrainTurnsAskTruly, TurnsAskTruly}
use Rattle.promises.specs.ReplyLaws.Sides.{ops_here}
use Rattle.promises.proofs.ReplyLaws.Asked.{GoesTo, asked_on, begun_on, goes_next, grouped_on, needed_on, of_reads_on, picked_later, put_off_on, stays_there}
use Rattle.promises.proofs.ReplyLaws.Places.{Agree, admits}
use Rattle.promises.proofs.ReplyLaws.Truths.{agree_after}
use Rattle.promises.proofs.ReplyLaws.Lists.{picks_none}

-- ---- views, said of their parts

-- all that the events tell of blocks, writes and syncs of a history
pub record AsksOf (g : Given) (on : Option ℕ) (history : List Placed) (trail : List Event) : Type 0 where
  pub of_reads : AreOfReads g.calls history trail
  pub needed : AreNeeded g on history trail
  pub asked : AreAsked g on history trail
  pub put_off : ArePutOff g on history trail
  pub grouped : AreGrouped g on history trail
  pub begun : AreBegun history trail

-- what a volume asks truly, said of its history and events
pub ask_parts : {D : Type 0} (first : Drive) (v : View D) → AsksTruly first v → AsksOf (given v first) v.on v.history v.events
ask_parts first v is = record { of_reads = is.of_reads; needed = is.needed; asked = is.asked; put_off = is.put_off; grouped = is.grouped; begun = is.begun }

-- what is said of history and events makes a volume that asks truly
pub ask_whole : {D : Type 0} (first : Drive) (old new : View D) (on : Option ℕ) (history : List Placed) (trail : List Event) → new.fixed ≡ old.fixed → new.on ≡ on → new.history ≡ history → new.events ≡ trail
    → AsksOf (given old first) on history trail → AsksTruly first new
ask_whole first old new on history trail is_fixed is_on is_history is_events is =
    let a = subst (λ g. AsksOf g on history trail) (sym (ap (λ f. given_of f.script f.tree f.mounted first) is_fixed)) is in
    let b = subst (λ o. AsksOf (given new first) o history trail) (sym is_on) a in
    let c = subst (λ h. AsksOf (given new first) new.on h trail) (sym is_history) b in
    let d = subst (λ es. AsksOf (given new first) new.on new.history es) (sym is_events) c in
    record { of_reads = d.of_reads; needed = d.needed; asked = d.asked; put_off = d.put_off; grouped = d.grouped; begun = d.begun }

-- nothing is in a list that is empty
pub none_of : {X : Type 0} (xs : List X) (x : X) → xs ≡ [] → Contains xs x → ⊥
none_of xs x none has = omega (arith, has.1, ap length none)

-- ---- events that ask for nothing

-- events with no request, no op and no sync
pub record AskNothing (added : List Event) : Type 0 where
  pub wants : filter_map want_of added ≡ []
  pub syncs : filter_map syncs_ticket added ≡ []

-- the history stays, or goes on by placements that ask for nothing
pub asks_on : (g : Given) (on off : Option ℕ) (history later : List Placed) (Next : ℕ → Placed → Type 0) (before added : List Event) → GoesTo history later Next → Agree g.mounted on off (length history)
    → filter_map queued before ≡ map place_of (admitted g off history) → AskNothing added → ((k : ℕ) (p : Placed) → Next k p → p.fate ≡ fates.Void) → AsksOf g off history before → AsksOf g on later (before ++ added)
asks_on g on off history later Next before added goes agree queues nothing void is = record {
  of_reads = of_reads_on g on off history later Next before added goes agree is.of_reads (λ ticket place has. absurd (none_of (filter_map want_of added) (ticket, place) nothing.wants has));
  needed = needed_on g on off history later Next before added goes agree is.needed (λ ticket place has. absurd (none_of (filter_map want_of added) (ticket, place) nothing.wants has));
  asked = asked_on g on off history later Next before added goes agree is.asked (λ k p place next done has. absurd (not_both p.fate done (void k p next)));
  put_off = put_off_on g on off history later Next before added goes agree queues is.put_off (λ k p next write some. absurd (omega (arith, some, ap length (admits_none k p (void k p next)))));
  grouped = grouped_on g on off history later Next before added goes agree is.begun is.grouped (λ front rest ticket e. absurd (no_sync front rest ticket e));
  begun = begun_on history later Next before added goes is.begun (λ ticket has. absurd (none_of (filter_map syncs_ticket added) ticket nothing.syncs has));
}
  where
    not_both : (f : Fate) → f ≡ fates.Done → f ≡ fates.Void → ⊥
    not_both f a b = differ (sym a ∙ b)
      where
        differ : fates.Done ≡ fates.Void → ⊥
        differ e = cc

    admits_none : (k : ℕ) (p : Placed) → p.fate ≡ fates.Void → admitted_at g on later k p ≡ []
    admits_none k p is = admits g on later k p ∙ none p.fate is
      where
        none : (f : Fate) → f ≡ fates.Void → ops_here g (is_on g.mounted on k) (standing g on later k) f (call_at g.calls p) p.at ≡ []
        none f is = ap (λ x. ops_here g (is_on g.mounted on k) (standing g on later k) x (call_at g.calls p) p.at) is

    no_sync : (front rest : List Event) (ticket : ℕ) → added ≡ front ++ events.Syncs ticket ∷ rest → ⊥
    no_sync front rest ticket e = none_of (filter_map syncs_ticket added) ticket nothing.syncs
        (subst (λ es. Contains (filter_map syncs_ticket es) ticket) (sym e) (picked_later syncs_ticket front (events.Syncs ticket ∷ rest) ticket (zero, omega arith, refl)))

-- ---- steps

step_picks : {X : Type 0} (f : Event → Option X) → ((e : Event) → is_step e ≡ true → f e ≡ None) → ((e : Event) → is_answer e ≡ true → f e ≡ None) → (made : List Event) → AreOfStep made → filter_map f made ≡ []
step_picks f step answer _ no_step = refl
step_picks f step answer _ (one_step e answers is all) = picks_none f e answers (step e is) ∙ each answers all
  where
    each : (xs : List Event) → All (λ a. is_answer a ≡ true) xs → filter_map f xs ≡ []
    each [] all = refl
    each (x ∷ xs) all = picks_none f x xs (answer x (all 0 x (omega arith))) ∙ each xs (λ k d less. all (suc k) d (omega (arith, less)))

step_wants : (e : Event) → is_step e ≡ true → want_of e ≡ None
step_wants (events.Served ticket place fault) h = refl
step_wants (events.Worked place fault) h = refl
step_wants _ h = cc

answer_wants : (e : Event) → is_answer e ≡ true → want_of e ≡ None
answer_wants (events.Synced ticket) h = refl
answer_wants _ h = cc

step_syncs : (e : Event) → is_step e ≡ true → syncs_ticket e ≡ None
step_syncs (events.Served ticket place fault) h = refl
step_syncs (events.Worked place fault) h = refl
step_syncs _ h = cc

answer_syncs : (e : Event) → is_answer e ≡ true → syncs_ticket e ≡ None
answer_syncs (events.Synced ticket) h = refl
answer_syncs _ h = cc

-- a step of the head with its answers asks nothing
pub steps_ask_nothing : (made rest : List Event) → AreOfStep made → filter_map want_of rest ≡ [] → filter_map syncs_ticket rest ≡ [] → AskNothing (made ++ rest)
steps_ask_nothing made rest shape wants syncs = record {
  wants = filter_map-append want_of made rest ∙ ap (λ xs. xs ++ filter_map want_of rest) (step_picks want_of step_wants answer_wants made shape) ∙ wants;
  syncs = filter_map-append syncs_ticket made rest ∙ ap (λ xs. xs ++ filter_map syncs_ticket rest) (step_picks syncs_ticket step_syncs answer_syncs made shape) ∙ syncs;
}

-- a step that places nothing
step_asks : {D : Type 0} (first : Drive) (old new : View D) (made rest : List Event) → IsTrue first old → new.fixed ≡ old.fixed → new.on ≡ on_after old made → new.history ≡ old.history → new.events ≡ old.events ++ (made ++ rest)
    → AreOfStep made → filter_map want_of rest ≡ [] → filter_map syncs_ticket rest ≡ [] → AsksTruly first old → AsksTruly first new
step_asks first old new made rest is fixed on history trail shape wants syncs asks =
    ask_whole first old new (on_after old made) old.history (old.events ++ (made ++ rest)) fixed on history trail
    (asks_on (given old first) (on_after old made) old.on old.history old.history (λ k p. ⊥) old.events (made ++ rest) (stays_there old.history) (agree_after (given old first).mounted old made) is.ops (steps_ask_nothing made rest shape wants syncs) (λ k p never. absurd never) (ask_parts first old asks))

-- a turn of a session that waits leaves what is asked true
pub turns_ask_truly : {D : Type 0} (seen : D → Drive) → TurnsAskTruly seen
turns_ask_truly seen most first before now old new who ticket answer is t asks =
    step_asks (seen first) old new t.added [] is t.fixed t.step.on t.history (t.adds.events ∙ ap (λ es. old.events ++ es) (sym (append-nil t.added))) t.step.shape refl refl asks

drained_asks : {D : Type 0} (most : ℕ) (first before now : Drive) (old new : View D) (who : ℕ) (ended : Drained) → IsTrue first old → DrainsOnce most before now old new who ended → AsksTruly first old → AsksTruly first new
drained_asks most first before now old new who (drained.Fault counts) is d asks =
    ask_whole first old new (on_after old d.made) (old.history ++ d.answered.1.placed ∷ []) (old.events ++ (d.made ++ [])) d.fixed d.step.on d.answered.1.history d.adds.events
    (asks_on (given old first) (on_after old d.made) old.on old.history (old.history ++ d.answered.1.placed ∷ []) (λ k q. (k ≡ length old.history) × (d.answered.1.placed ≡ q)) old.events (d.made ++ []) (goes_next old.history d.answered.1.placed) (agree_after (given old first).mounted old d.made) is.ops (steps_ask_nothing d.made [] d.step.shape refl refl)
    (λ k p next. ap (λ (q : Placed). q.fate) (sym next.1) ∙ d.answered.1.fate_is) (ask_parts first old asks))
drained_asks most first before now old new who drained.Room is d asks =
    step_asks first old new d.made (events.Rests who ∷ []) is d.fixed d.step.on d.answered.2.history d.adds.events d.step.shape refl refl asks
drained_asks most first before now old new who drained.More is d asks =
    step_asks first old new d.made [] is d.fixed d.step.on d.answered.3.history d.adds.events d.step.shape refl refl asks

-- a turn of a session that drains leaves what is asked true
pub drain_turns_ask_truly : {D : Type 0} (seen : D → Drive) → DrainTurnsAskTruly seen
drain_turns_ask_truly seen most first before now old new who answer is d asks = drained_asks most (seen first) (seen before) (seen now) old new who answer is d asks
