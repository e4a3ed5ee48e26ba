-- A write that is placed void with the fault of its drain keeps the order.
use Rattle.std.specs.Prelude.{◌≡◌, ◌==◌, ℕ, ◌+◌, ◌≤◌, ◌<◌, Bool, true, false, cond, List, [], ◌∷◌, ◌++◌, IfSome, filter, filter_map, fold, length, map, Option, Some, None, slice_get}
use Rattle.std.proofs.Common.{⊎_elim, refl, sym, ap, subst, ◌∙◌, arith, append-nil}
use Rattle.std.proofs.lemmas.Bool.{and_from, eq-eqb, eqb-true, false_from_ne_true}
use Rattle.std.proofs.lemmas.List.{length_push}
use Rattle.std.proofs.lemmas.Option.{slice_get_within}
use Rattle.tape_types.proofs.LongerLists.{slice_get-seam}
use Rattle.tape_types.specs.declared.cartridges.Twin.{Twin}
use Rattle.tape_types.specs.declared.moments.Moment.{Moment}
use Rattle.plain_tree.specs.History.{call_at}
use Rattle.plain_tree.specs.declared.calls.Fate.TheVariants as fates
use Rattle.plain_tree.specs.declared.calls.Placed.{Placed}
use Rattle.session_script.specs.Grammar.{calls_of}
use Rattle.session_script.specs.Sessions.{greatest_session}
use Rattle.session_script.specs.declared.logs.Reply.{Reply}
use Rattle.session_script.specs.declared.logs.Reply.TheVariants as replies
use Rattle.head_queue.specs.EventLaws.Trail.{after_all}
use Rattle.promises.specs.ServingPromise.Acks.{synced_places}
use Rattle.promises.specs.ServingPromise.Faults.{kept_for}
use Rattle.promises.specs.ServingPromise.Marks.{after, draining, idle, mark, phase, place_in, places_of, waits}
use Rattle.promises.specs.ServingPromise.Served.{Drive, View, is_waiting, placed_by}
use Rattle.promises.specs.ServingPromise.Steps.{without_session}
use Rattle.promises.specs.declared.serving_promise.marks.MarkKind.{MarkKind}
use Rattle.promises.specs.declared.serving_promise.marks.MarkKind.TheVariants.{Places as places, Hands as hands}
use Rattle.promises.specs.OrderLaws.Kept.{IsKeptOrder, is_rising, owed}
use Rattle.promises.specs.OrderLaws.Phases.{is_course_from}
use Rattle.promises.proofs.OrderLaws.Acked.{synced_push}
use Rattle.promises.proofs.OrderLaws.Lists.{at_more, at_push}
use Rattle.promises.proofs.OrderLaws.Marked.{AreMore, IsOwed, course_more, marked, marks_more, phase_more, places_more, to_owed}
use Rattle.promises.proofs.OrderLaws.PlaceLaw.{handed_too, kinds_hand, kinds_place}
use Rattle.promises.proofs.OrderLaws.Placing.{as_many_places, done_push_other, placed_push, places_push}
use Rattle.promises.proofs.OrderLaws.Told.{faults_drained, kept_gone, kept_others}
use Rattle.promises.proofs.OrderLaws.Turning.{tickets}
use Rattle.promises.proofs.OrderLaws.Views.{moments_push}
use Rattle.promises.proofs.OrderLaws.Waits.{waiting_push}

module _ {D : Type 0} (first now : Drive) (v : View D) (p : Placed) (counts : Twin) where
  -- a session drains and owns one fault, with which its write is placed void
  pub record CanFail : Type 0 where
    pub kept : IsKeptOrder first now v
    pub drains : phase p.who v.marks ≡ draining
    pub next : p.nth ≡ length (places_of p.who v.marks)
    pub fate : p.fate ≡ fates.Void
    pub owns : kept_for p.who v.kept ≡ counts ∷ []
    pub moment : IfSome v.fixed.moment (λ m. p.at ≡ m)

  abbrev reply : Reply
  reply = replies.Fault counts

  abbrev kinds : List MarkKind
  kinds = places (length v.history) ∷ hands (length v.history) (replies.Fault counts) ∷ []

  -- the volume with the write placed void and its fault told
  abbrev pub failed_view : Option Moment → View D
  failed_view next = record v {
    next = next;
    history = v.history ++ p ∷ [];
    replies = v.replies ++ Some (replies.Fault counts) ∷ [];
    kept = without_session p.who v.kept;
    marks = v.marks ++ map (mark p.who) (places (length v.history) ∷ hands (length v.history) (replies.Fault counts) ∷ []);
  }

  idle_then : CanFail → (w : ℕ) → (p.who == w) ≡ true → fold after (phase w v.marks) kinds ≡ idle
  idle_then c w is =
      ap (λ ph. fold after ph kinds) (subst (λ n. phase n v.marks ≡ draining) (eqb-true p.who w is) c.drains)
      ∙ ap (λ b. cond b idle (waits (length v.history))) (eq-eqb (length v.history) (length v.history) refl)

  owes : CanFail → (w : ℕ) → IsOwed (fold after (phase w v.marks) (cond (p.who == w) kinds [])) (owed (after_all v.events) (without_session p.who v.kept) w)
  owes c w = by (p.who == w) refl
    where
      by : (b : Bool) → (p.who == w) ≡ b → IsOwed (fold after (phase w v.marks) (cond b kinds [])) (owed (after_all v.events) (without_session p.who v.kept) w)
      by true is = record {
        drains = λ e. absurd (let h : idle ≡ draining = sym (idle_then c w is) ∙ e in cc);
        drained = λ some. absurd (omega (
          arith,
          some,
          c.kept.once w,
          ap length (subst (λ n. kept_for n v.kept ≡ counts ∷ []) (eqb-true p.who w is) c.owns),
          ap length (subst (λ n. kept_for n (without_session p.who v.kept) ≡ []) (eqb-true p.who w is) (kept_gone p.who v.kept)),
        ));
      }
      by false is = subst (λ l. IsOwed (phase w v.marks) (length (filter (λ x. x == w) (after_all v.events).drains) + length l)) (sym (kept_others p.who w v.kept is))
          (to_owed (greatest_session v.fixed.script) v.history v.replies (after_all v.events) v.kept v.marks c.kept.orderly.marks w)

  once : CanFail → (w : ℕ) → owed (after_all v.events) (without_session p.who v.kept) w ≤ 1
  once c w = by (p.who == w) refl
    where
      by : (b : Bool) → (p.who == w) ≡ b → owed (after_all v.events) (without_session p.who v.kept) w ≤ 1
      by true is = omega (arith, c.kept.once w, ap length (subst (λ n. kept_for n (without_session p.who v.kept) ≡ []) (eqb-true p.who w is) (kept_gone p.who v.kept)))
      by false is = omega (arith, c.kept.once w, ap length (kept_others p.who w v.kept is))

  marks_are : CanFail → AreMore (greatest_session v.fixed.script) p.who v.history (v.history ++ p ∷ []) v.replies (v.replies ++ Some (replies.Fault counts) ∷ []) (after_all v.events) (without_session p.who v.kept) v.marks kinds
  marks_are c = record {
    who_is = marked (λ w. (1 ≤ w) × (w ≤ greatest_session v.fixed.script)) p.who v.marks c.kept.orderly.marks.sessions_are (λ rests. let h : draining ≡ idle = sym c.drains ∙ rests in cc);
    places = λ w. places_push w v.history p ∙ ap (λ l. placed_by w v.history ++ l) (kinds_place (length v.history) kinds (Some reply) (handed_too reply) (p.who == w));
    stay = λ k r e. at_more v.replies (Some reply ∷ []) k (Some r) e;
    handed = λ k r has.
        let is = kinds_hand (length v.history) kinds (Some reply) (handed_too reply) k r has in
        subst (λ n. slice_get (v.replies ++ Some reply ∷ []) n ≡ Some (Some r)) (c.kept.count ∙ is.0) (slice_get-seam v.replies (Some reply) ∙ ap Some is.1);
    owes = owes c;
    once = once c;
  }

  same_synced : synced_places (v.replies ++ Some (replies.Fault counts) ∷ []) ≡ synced_places v.replies
  same_synced = synced_push v.replies (Some reply) ∙ append-nil (synced_places v.replies)

  rests_here : CanFail → is_waiting (after_all v.events) (length v.history) ≡ false
  rests_here c = false_from_ne_true (is_waiting (after_all v.events) (length v.history))
      (λ waits. omega (arith, c.kept.count, slice_get_within v.replies (length v.history) None (c.kept.orderly.waiting.waits (length v.history) waits)))

  more : CanFail → (w : ℕ) → phase w (v.marks ++ map (mark p.who) kinds) ≡ draining → length (places_of w (v.marks ++ map (mark p.who) kinds)) < length (calls_of v.fixed.script w)
  more c w e = by (p.who == w) refl (sym (phase_more p.who w v.marks kinds) ∙ e) (places_more p.who w v.marks kinds)
    where
      by : (b : Bool) → (p.who == w) ≡ b → fold after (phase w v.marks) (cond b kinds []) ≡ draining → places_of w (v.marks ++ map (mark p.who) kinds) ≡ places_of w v.marks ++ filter_map place_in (cond b kinds [])
          → length (places_of w (v.marks ++ map (mark p.who) kinds)) < length (calls_of v.fixed.script w)
      by true is e same = absurd (let h : idle ≡ draining = sym (idle_then c w is) ∙ e in cc)
      by false is e same = omega (arith, c.kept.more w e, ap length (same ∙ append-nil (places_of w v.marks)))

  -- a write that is placed void with the fault of its drain keeps the order
  pub failing_keeps : CanFail → (next : Option Moment) → IsKeptOrder first now (failed_view next)
  failing_keeps c next = record {
    orderly = record {
      placed = placed_push (calls_of v.fixed.script) v.history p c.kept.orderly.placed (c.next ∙ ap length (c.kept.orderly.marks.places p.who) ∙ as_many_places p.who v.history) (omega (arith, c.next, c.kept.more p.who c.drains));
      moments = moments_push v.fixed.moment v.history p c.kept.orderly.moments c.moment;
      trail = c.kept.orderly.trail;
      standing = c.kept.orderly.standing;
      waiting = waiting_push (after_all v.events) (after_all v.events) v.replies (Some reply) (length v.history) (sym c.kept.count) c.kept.orderly.waiting (λ k other. refl) (rests_here c);
      syncs = c.kept.orderly.syncs ∙ sym (done_push_other (calls_of v.fixed.script) v.history p fates.Void (call_at (calls_of v.fixed.script) p) c.fate refl (λ e. absurd (cc)));
      acks = record { places = c.kept.orderly.acks.places ∙ sym same_synced; events = c.kept.orderly.acks.events; rising = c.kept.orderly.acks.rising };
      reached = c.kept.orderly.reached;
      faults = faults_drained v.events v.history v.replies v.kept p counts first.faults now.faults c.kept.count c.fate c.owns c.kept.orderly.faults;
      marks = marks_more (greatest_session v.fixed.script) p.who v.history (v.history ++ p ∷ []) v.replies (v.replies ++ Some reply ∷ []) (after_all v.events) (after_all v.events) v.kept (without_session p.who v.kept) v.marks kinds
          c.kept.orderly.marks (marks_are c);
      limits = c.kept.orderly.limits;
      untold = c.kept.orderly.untold;
      cached = c.kept.orderly.cached;
    };
    sessions = c.kept.sessions;
    count = omega (arith, length_push v.replies (Some reply), length_push v.history p, c.kept.count);
    done = λ k q h r. ⊎_elim
        (λ was. ⊎_elim (λ now. c.kept.done k q now was) (λ last. absurd (omega (arith, last.0, c.kept.count, slice_get_within v.replies k None was))) (at_push v.history p q k h))
        (λ last. absurd (let no : Some reply ≡ None = last.1 in cc))
        (at_push v.replies (Some reply) None k r);
    rising = subst (λ l. is_rising (l ++ tickets (after_all v.events).syncs) ≡ true) (sym same_synced) c.kept.rising;
    apart = c.kept.apart;
    commands = c.kept.commands;
    once = once c;
    more = more c;
    course = course_more p.who v.marks kinds
        (ap (λ ph. is_course_from ph kinds) c.drains ∙ and_from (length v.history == length v.history) true (eq-eqb (length v.history) (length v.history) refl) refl) c.kept.course;
  }
