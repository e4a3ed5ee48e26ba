-- A volume that is true, said of its parts; and what stays true of the replies that were there.
use Rattle.std.specs.Prelude.{◌≡◌, ◌⊎◌, ◌<◌, ◌≤◌, ℕ, true, List, [], ◌∷◌, ◌++◌, map, filter_map, length, drop, take, Contains, Option, Some, None, IfSome, slice_get}
use Rattle.std.proofs.Common.{refl, sym, ap, ◌∙◌, subst, inl, inr, arith, length-append}
use Rattle.std.proofs.lemmas.List.{append-nil, length-map, map-append, take-append-le}
use Rattle.std.proofs.lemmas.List.Elements.{filter_map-append}
use Rattle.tape_types.specs.declared.cartridges.Twin.{Twin}
use Rattle.plain_tree.specs.Calls.{answer}
use Rattle.plain_tree.specs.History.{call_at, replay}
use Rattle.plain_tree.specs.declared.calls.Call.{Call}
use Rattle.plain_tree.specs.declared.calls.Fate.{Fate}
use Rattle.plain_tree.specs.declared.calls.Fate.TheVariants as fates
use Rattle.plain_tree.specs.declared.calls.Placed.{Placed}
use Rattle.session_script.specs.declared.logs.Event.{Event}
use Rattle.session_script.specs.declared.logs.Reply.{Reply}
use Rattle.session_script.specs.declared.logs.Reply.TheVariants as replies
use Rattle.head_queue.specs.EventLaws.Trail.{after_all, of_call, of_session}
use Rattle.tape_layout.specs.declared.ops.Op as layout
use Rattle.tape_layout.specs.Ops.{place_of}
use Rattle.space_laws.specs.Space.{is_over, limit_of, need_of}
use Rattle.space_laws.specs.Standing.{Given, admitted, admitted_at, ask_of, rules}
use Rattle.promises.specs.ServingPromise.Replies.{AreReplies, Facts, IsFaultOf, IsReply, facts_at, may_wait}
use Rattle.promises.specs.ServingPromise.Served.{AreStanding, Drive, IsTrue, View, given, given_of, queued}
use Rattle.promises.proofs.ReplyLaws.Happened.{owners_keep_faults, queued_or_done}
use Rattle.promises.proofs.ReplyLaws.Places.{Agree, admitted_alike, admitted_next, at_place}
use Rattle.promises.proofs.ReplyLaws.Lists.{get_next, get_past, get_within}

-- what is true of a volume, said of its parts
pub record TrueOf (g : Given) (on : Option ℕ) (history : List Placed) (events : List Event) (kept : List (Option Reply)) (stand : List layout.Op) : Type 0 where
  pub replies : AreReplies g on history events kept
  pub queues : filter_map queued events ≡ map place_of (admitted g on history)
  pub standing : AreStanding g on history events stand

-- a true volume is true of its history, events, replies and ops
pub parts : {D : Type 0} (first : Drive) (v : View D) → IsTrue first v → TrueOf (given v first) v.on v.history v.events v.replies v.ops
parts first v is = record { replies = is.replies; queues = is.ops; standing = is.standing }

-- a volume with these parts
pub whole : {D : Type 0} (first : Drive) (old new : View D) (on : Option ℕ) (history : List Placed) (events : List Event) (kept : List (Option Reply)) (stand : List layout.Op)
    → new.fixed ≡ old.fixed → new.on ≡ on → new.history ≡ history → new.events ≡ events → new.replies ≡ kept → new.ops ≡ stand
    → TrueOf (given old first) on history events kept stand → IsTrue first new
whole first old new on history events kept stand is_fixed is_on is_history is_events is_kept is_stand is =
    let a = subst (λ g. TrueOf g on history events kept stand) (sym (ap (λ f. given_of f.script f.tree f.mounted first) is_fixed)) is in
    let b = subst (λ o. TrueOf (given new first) o history events kept stand) (sym is_on) a in
    let c = subst (λ h. TrueOf (given new first) new.on h events kept stand) (sym is_history) b in
    let d = subst (λ es. TrueOf (given new first) new.on new.history es kept stand) (sym is_events) c in
    let e = subst (λ ks. TrueOf (given new first) new.on new.history new.events ks stand) (sym is_kept) d in
    let f = subst (λ ps. TrueOf (given new first) new.on new.history new.events new.replies ps) (sym is_stand) e in
    record { replies = f.replies; ops = f.queues; standing = f.standing }

-- ---- replies that were there

-- the same is known of a place, but for faults that came since
record Known (old new : Facts) : Type 0 where
  tree : new.tree ≡ old.tree
  over : new.over ≡ old.over
  need : new.need ≡ old.need
  limit : new.limit ≡ old.limit
  own : (counts : Twin) → Contains old.own counts → Contains new.own counts
  sessions : (counts : Twin) → Contains old.sessions counts → Contains new.sessions counts

fault_known : (old new : List Twin) (reply : Reply) → ((counts : Twin) → Contains old counts → Contains new counts) → IsFaultOf old reply → IsFaultOf new reply
fault_known old new reply more f = (f.0, more f.0 f.1, f.2)

answered_known : (old new : Facts) (call : Call) (reply : Reply) → Known old new → (reply ≡ replies.Answer (answer old.tree call)) ⊎ ((may_wait call ≡ true) × IsFaultOf old.own reply)
    → (reply ≡ replies.Answer (answer new.tree call)) ⊎ ((may_wait call ≡ true) × IsFaultOf new.own reply)
answered_known old new call reply known (inl e) = inl (e ∙ ap (λ t. replies.Answer (answer t call)) (sym known.tree))
answered_known old new call reply known (inr f) = inr (f.0, fault_known old.own new.own reply known.own f.1)

reply_known : (fate : Fate) (old new : Facts) (call : Call) (reply : Reply) → Known old new → IsReply fate old call reply → IsReply fate new call reply
reply_known fates.Done old new call reply known is = record { within = known.over ∙ is.within; answered = answered_known old new call reply known is.answered }
reply_known fates.Void old new call reply known (inl e) = inl e
reply_known fates.Void old new call reply known (inr (inl full)) =
    inr (inl (known.over ∙ full.0, full.1 ∙ ap (λ n. replies.Full n old.limit) (sym known.need) ∙ ap (λ n. replies.Full new.need n) (sym known.limit)))
reply_known fates.Void old new call reply known (inr (inr f)) = inr (inr (f.0, fault_known old.sessions new.sessions reply known.sessions f.1))

-- what is known of a place as the history goes on, events come and placement goes on
facts_known : (g : Given) (on off : Option ℕ) (history later : List Placed) (events added : List Event) (k : ℕ) (p : Placed) (call : Call) → k < length history → take k later ≡ take k history
    → Agree g.mounted on off (length history) → Known (facts_at g off history events k p call) (facts_at g on later (events ++ added) k p call)
facts_known g on off history later events added k p call less same agree = record {
  tree = ap (λ ps. replay g.calls g.tree ps) same;
  over = at_place (λ b st. is_over (rules g) b st.space (ask_of g st call p.at)) g on off history later k less same agree;
  need = at_place (λ b st. need_of (rules g) b st.space (ask_of g st call p.at)) g on off history later k less same agree;
  limit = at_place (λ b st. limit_of (rules g) b st.space (ask_of g st call p.at)) g on off history later k less same agree;
  own = λ counts has. owners_keep_faults (of_call k) events added counts has;
  sessions = λ counts has. owners_keep_faults (of_session p.who) events added counts has;
}

-- a reply that may come at a place, with its call
abbrev pub Fits : Given → Option ℕ → List Placed → List Event → ℕ → Placed → Reply → Type 0
Fits g on history events k p reply = (call : Call) × (call_at g.calls p ≡ Some call) × IsReply p.fate (facts_at g on history events k p call) call reply

fits_known : (g : Given) (on off : Option ℕ) (history later : List Placed) (events added : List Event) (k : ℕ) (p : Placed) (reply : Reply) → k < length history → take k later ≡ take k history
    → Agree g.mounted on off (length history) → Fits g off history events k p reply → Fits g on later (events ++ added) k p reply
fits_known g on off history later events added k p reply less same agree fits =
    let known = facts_known g on off history later events added k p fits.0 less same agree in
    (fits.0, fits.1, reply_known p.fate (facts_at g off history events k p fits.0) (facts_at g on later (events ++ added) k p fits.0) fits.0 reply known fits.2)

-- ---- a history that stays

-- what a step brings: the replies that were there stay, and each that came fits its place
pub record Brings (g : Given) (off : Option ℕ) (history : List Placed) (events : List Event) (kept later : List (Option Reply)) : Type 0 where
  pub count : length later ≡ length kept
  pub stays : (k : ℕ) (reply : Reply) → slice_get kept k ≡ Some (Some reply) → slice_get later k ≡ Some (Some reply)
  pub came : (k : ℕ) (p : Placed) (reply : Reply) → slice_get history k ≡ Some p → slice_get kept k ≡ Some None → slice_get later k ≡ Some (Some reply) → Fits g off history events k p reply

same_reply : (a b : Reply) → Some (Some a) ≡ Some (Some b) → a ≡ b
same_reply a b e = cc

-- a step leaves a volume true whose ops are those that are left
pub stays_true : (g : Given) (on off : Option ℕ) (history : List Placed) (events added : List Event) (kept later : List (Option Reply)) (stand left : List layout.Op)
    → Agree g.mounted on off (length history) → TrueOf g off history events kept stand → Brings g off history (events ++ added) kept later → filter_map queued added ≡ []
    → AreStanding g off history (events ++ added) left → TrueOf g on history (events ++ added) later left
stays_true g on off history events added kept later stand left agree is brings none stands =
    let same : admitted g on history ≡ admitted g off history = admitted_alike g on off history agree in
    record {
      replies = record { count = brings.count ∙ is.replies.count; each = λ k p reply at there. each k p reply at there (slice_get kept k) refl };
      queues = filter_map-append queued events added ∙ ap (λ ps. filter_map queued events ++ ps) none ∙ append-nil (filter_map queued events) ∙ is.queues ∙ ap (map place_of) (sym same);
      standing = stands ∙ ap (drop (after_all (events ++ added)).done) (sym same);
    }
  where
    -- the same events once more, so that what fits by all of them fits
    again : (k : ℕ) (p : Placed) (reply : Reply) → k < length history → Fits g off history (events ++ added) k p reply → Fits g on history (events ++ added) k p reply
    again k p reply less fits = subst (λ es. Fits g on history es k p reply) (append-nil (events ++ added)) (fits_known g on off history history (events ++ added) [] k p reply less refl agree fits)

    each : (k : ℕ) (p : Placed) (reply : Reply) → slice_get history k ≡ Some p → slice_get later k ≡ Some (Some reply) → (o : Option (Option Reply)) → slice_get kept k ≡ o
        → Fits g on history (events ++ added) k p reply
    each k p reply at there None was =
        absurd (omega (arith, get_within later k (Some reply) there, brings.count, is.replies.count, get_within history k p at, get_past kept k was))
    each k p reply at there (Some None) was = again k p reply (get_within history k p at) (brings.came k p reply at was there)
    each k p reply at there (Some (Some earlier)) was =
        let e : earlier ≡ reply = same_reply earlier reply (sym (brings.stays k earlier was) ∙ there) in
        let fits : Fits g off history events k p reply = is.replies.each k p reply at (was ∙ ap (λ r. Some (Some r)) e) in
        fits_known g on off history history events added k p reply (get_within history k p at) refl agree fits

-- ---- a history that goes on by a placement

-- its reply, where it is there, fits its place
abbrev pub NextFits : Given → Option ℕ → List Placed → Placed → List Event → Option Reply → Type 0
NextFits g on history p events reply = IfSome reply (λ r. Fits g on (history ++ p ∷ []) events (length history) p r)

some_reply : (o : Option Reply) (reply : Reply) → o ≡ Some reply → (P : Reply → Type 0) → IfSome o P → P reply
some_reply o reply e P is = let q : IfSome (Some reply) P = subst (λ x. IfSome x P) e is in q

next_kept : (last : Option Reply) (reply : Reply) → Some last ≡ Some (Some reply) → last ≡ Some reply
next_kept last reply e = cc

-- a placement leaves a volume true whose ops are those that stand
pub goes_on_true : (g : Given) (on off : Option ℕ) (history : List Placed) (p : Placed) (events added : List Event) (kept : List (Option Reply)) (last : Option Reply) (stand left : List layout.Op)
    → Agree g.mounted on off (length history) → TrueOf g off history events kept stand → NextFits g on history p (events ++ added) last
    → filter_map queued added ≡ map place_of (admitted_at g on history (length history) p)
    → left ≡ drop (after_all (events ++ added)).done (admitted g off history ++ admitted_at g on history (length history) p)
    → TrueOf g on (history ++ p ∷ []) (events ++ added) (kept ++ last ∷ []) left
goes_on_true g on off history p events added kept last stand left agree is fits queues stands =
    let more = admitted_at g on history (length history) p in
    let all : admitted g on (history ++ p ∷ []) ≡ admitted g off history ++ more = admitted_next g on history p ∙ ap (λ ps. ps ++ more) (admitted_alike g on off history agree) in
    record {
      replies = record {
        count = omega (arith, length-append kept (last ∷ []), length-append history (p ∷ []), is.replies.count);
        each = λ k q reply at there. each k q reply (get_next history p k q at) (get_next kept last k (Some reply) there);
      };
      queues = filter_map-append queued events added ∙ ap (λ ps. ps ++ filter_map queued added) is.queues ∙ ap (λ ps. map place_of (admitted g off history) ++ ps) queues ∙ sym (map-append place_of (admitted g off history) more) ∙ ap (map place_of) (sym all);
      standing = stands ∙ ap (drop (after_all (events ++ added)).done) (sym all);
    }
  where
    each : (k : ℕ) (q : Placed) (reply : Reply) → ((k < length history) × (slice_get history k ≡ Some q)) ⊎ ((k ≡ length history) × (p ≡ q)) → ((k < length kept) × (slice_get kept k ≡ Some (Some reply))) ⊎ ((k ≡ length kept) × (last ≡ Some reply))
        → Fits g on (history ++ p ∷ []) (events ++ added) k q reply
    each k q reply (inl a) (inl b) = fits_known g on off history (history ++ p ∷ []) events added k q reply a.0 (take-append-le k history (p ∷ []) (omega (arith, a.0))) agree (is.replies.each k q reply a.1 b.1)
    each k q reply (inl a) (inr b) = absurd (omega (arith, a.0, b.0, is.replies.count))
    each k q reply (inr a) (inl b) = absurd (omega (arith, a.0, b.0, is.replies.count))
    each k q reply (inr a) (inr b) =
        subst (λ n. Fits g on (history ++ p ∷ []) (events ++ added) n q reply) (sym a.0)
        (subst (λ x. Fits g on (history ++ p ∷ []) (events ++ added) (length history) x reply) a.1
        (some_reply last reply b.1 (λ r. Fits g on (history ++ p ∷ []) (events ++ added) (length history) p r) fits))

-- ---- the ops that stand

-- no more ops were done than were admitted
pub done_within : (g : Given) (on : Option ℕ) (history : List Placed) (events : List Event) → filter_map queued events ≡ map place_of (admitted g on history) → (after_all events).done ≤ length (admitted g on history)
done_within g on history events queues = omega (arith, queued_or_done events, ap length queues, length-map (admitted g on history) place_of)
