-- How the turns of a call follow on each other.
use Rattle.std.specs.Prelude.{◌≡◌, ◌<◌, ◌≤◌, ◌+◌, ℕ, cond, List, [], ◌∷◌, ◌++◌, filter_map, fold, length, Option, Some, None, IfSome}
use Rattle.std.proofs.Common.{refl, sym, ap, subst, ◌∙◌, arith, append-nil, append_assoc}
use Rattle.std.proofs.lemmas.Bool.{eq-eqb}
use Rattle.std.proofs.lemmas.List.{length_push}
use Rattle.turn_lock.specs.Passes.{PassView}
use Rattle.session_script.specs.Grammar.{calls_of}
use Rattle.session_script.specs.Sessions.{greatest_session}
use Rattle.session_script.specs.declared.logs.Reply.{Reply}
use Rattle.promises.specs.ServingPromise.Marks.{Phase, after, hand_in, hands_of, idle, kinds_of, phase, place_in, places_of, waits}
use Rattle.promises.specs.declared.serving_promise.marks.MarkKind.{MarkKind}
use Rattle.promises.specs.declared.serving_promise.marks.MarkKind.TheVariants.{Places as places, Hands as hands, Begins as begins, Rests as rests}
use Rattle.promises.specs.declared.serving_promise.marks.Mark.{Mark}
use Rattle.tape_desk.specs.Held.{Constants}
use Rattle.tape_desk.specs.Passes.{DeskView, HasMore, IsHeld, view_of}
use Rattle.tape_desk.specs.Turns.{GoesOn, IsMade, IsPutOff, Keeps, answered_at}
use Rattle.tape_desk.proofs.Entered.{hands_then, phase_then, places_then}

placed_phase : (here : ℕ) (reply : Reply) → fold after idle (answered_at here reply) ≡ idle
placed_phase here reply = ap (λ b. cond b idle (waits here)) (eq-eqb here here refl)

abbrev PassOf : Type 0 → Type 0 → Type 0
PassOf D K = PassView Mark (Constants D K)

module _ {D K : Type 0} where
  pub keeps_then : (a b c : PassOf D K) → Keeps a b → Keeps b c → Keeps a c
  keeps_then a b c first later = record {
    lock = later.lock ∙ first.lock;
    seats = later.seats ∙ first.seats;
    numbers = later.numbers ∙ first.numbers;
    fixed = later.fixed ∙ first.fixed;
    out = later.out;
    begins = (first.begins.0 ++ later.begins.0, sym (append_assoc a.seen first.begins.0 later.begins.0) ∙ ap (λ l. l ++ later.begins.0) first.begins.1 ∙ later.begins.1);
  }

  -- turns of a session one behind the other add the marks of both
  pub goes_then : (who : ℕ) (xs ys : List MarkKind) (a b c : PassOf D K) → GoesOn who xs a b → GoesOn who ys b c → GoesOn who (xs ++ ys) a c
  goes_then who xs ys a b c first later = record {
    keeps = keeps_then a b c first.keeps later.keeps;
    adds = later.adds ∙ ap (λ l. l ++ ys) first.adds ∙ append_assoc (kinds_of who a.seen) xs ys;
  }

  -- a turn of a number is one of the session with that number
  pub of_session : (n who : ℕ) (kinds : List MarkKind) (a b : PassOf D K) → n ≡ who → GoesOn n kinds a b → GoesOn who kinds a b
  of_session n who kinds a b same goes = subst (λ (k : ℕ). GoesOn k kinds a b) same goes

  pub phase_is : (who : ℕ) (kinds : List MarkKind) (a b : PassOf D K) (before : Phase) → phase who a.seen ≡ before → GoesOn who kinds a b
      → phase who b.seen ≡ fold after before kinds
  phase_is who kinds a b before was goes = phase_then who a.seen b.seen kinds goes.adds ∙ ap (λ ph. fold after ph kinds) was

  -- ---- a call that is put off

  -- a write that was put off, drained and rested is put off again
  pub off_again : (who : ℕ) (a b c d : PassOf D K) → IsPutOff who a b → GoesOn who (begins ∷ []) b c → GoesOn who (rests ∷ []) c d
      → IsPutOff who a d
  off_again who a b c d off begun rested =
      let both = goes_then who (begins ∷ []) (rests ∷ []) b c d begun rested in record {
        keeps = keeps_then a b d off.keeps both.keeps;
        rests = phase_is who (begins ∷ rests ∷ []) b d idle off.rests both;
        places = places_then who b.seen d.seen (begins ∷ rests ∷ []) both.adds ∙ append-nil (places_of who b.seen) ∙ off.places;
        hands = hands_then who b.seen d.seen (begins ∷ rests ∷ []) both.adds ∙ append-nil (hands_of who b.seen) ∙ off.hands;
      }

  -- ---- a call that is made

  made_by : (who here : ℕ) (reply : Reply) (kinds : List MarkKind) (a b c : PassOf D K) → IsPutOff who a b → GoesOn who kinds b c
      → filter_map place_in kinds ≡ here ∷ [] → filter_map hand_in kinds ≡ (here, reply) ∷ [] → fold after idle kinds ≡ idle
      → IsMade who reply a c
  made_by who here reply kinds a b c off goes place hand rest = record {
    keeps = keeps_then a b c off.keeps goes.keeps;
    rests = phase_is who kinds b c idle off.rests goes ∙ rest;
    place = here;
    places = places_then who b.seen c.seen kinds goes.adds ∙ ap (λ l. places_of who b.seen ++ l) place ∙ ap (λ l. l ++ here ∷ []) off.places;
    hands = hands_then who b.seen c.seen kinds goes.adds ∙ ap (λ l. hands_of who b.seen ++ l) hand ∙ ap (λ l. l ++ (here, reply) ∷ []) off.hands;
  }

  -- a call that is answered at once is made
  pub made_at_once : (who here : ℕ) (reply : Reply) (a b c : PassOf D K) → IsPutOff who a b → GoesOn who (answered_at here reply) b c
      → IsMade who reply a c
  made_at_once who here reply a b c off goes = made_by who here reply (answered_at here reply) a b c off goes refl refl (placed_phase here reply)

  -- a call that waited, and was handed its reply, is made
  pub made_in_time : (who ticket : ℕ) (reply : Reply) (a b c d : PassOf D K) → IsPutOff who a b → GoesOn who (places ticket ∷ []) b c
      → GoesOn who (hands ticket reply ∷ []) c d → IsMade who reply a d
  made_in_time who ticket reply a b c d off placed handed =
      made_by who ticket reply (answered_at ticket reply) a b d off (goes_then who (places ticket ∷ []) (hands ticket reply ∷ []) b c d placed handed) refl refl (placed_phase ticket reply)

  -- a write whose drain failed is made, with its fault
  pub made_void : (who here : ℕ) (reply : Reply) (a b c d : PassOf D K) → IsPutOff who a b → GoesOn who (begins ∷ []) b c
      → GoesOn who (answered_at here reply) c d → IsMade who reply a d
  made_void who here reply a b c d off begun answered =
      made_by who here reply (begins ∷ answered_at here reply) a b d off (goes_then who (begins ∷ []) (answered_at here reply) b c d begun answered) refl refl (placed_phase here reply)

  -- ---- between calls

  one_up : (who n : ℕ) (fixed : Option (Constants D K)) → IfSome fixed (λ f. n < length (calls_of f.volume.script who))
      → IfSome fixed (λ f. n + 1 ≤ length (calls_of f.volume.script who))
  one_up who n None more = more
  one_up who n (Some f) more = omega (arith, more)

  -- a pass whose call was made is held for the next one
  pub held_again : (who n count : ℕ) (reply : Reply) (a b : PassOf D K) (view : DeskView D K) → view_of a who n ≡ view → IsHeld a who n count
      → HasMore view → IsMade who reply a b → IsHeld b who (n + 1) count
  held_again who n count reply a b view is held more made =
      let same : a.fixed ≡ b.fixed = sym made.keeps.fixed in
      let has : HasMore (view_of a who n) = subst (λ (v : DeskView D K). HasMore v) (sym is) more in record {
        out = made.keeps.out;
        own = made.keeps.numbers ∙ held.own;
        rested = record {
          rests = made.rests;
          placed = let was : n ≡ length (places_of who a.seen) = held.rested.placed in
              omega (arith, was, ap length made.places, length_push (places_of who a.seen) made.place);
          within = subst (λ (o : Option (Constants D K)). IfSome o (λ f. n + 1 ≤ length (calls_of f.volume.script who))) same (one_up who n a.fixed has.more);
          sessions = subst (λ (z : ℕ × Option (Constants D K)). IfSome z.1 (λ f. z.0 ≡ greatest_session f.volume.script)) (λ i. (sym made.keeps.seats i, same i)) held.rested.sessions;
          knows = (held.rested.knows.0, made.keeps.fixed ∙ held.rested.knows.1);
        };
        counted = record { counted = subst (λ (o : Option (Constants D K)). IfSome o (λ f. count ≡ length (calls_of f.volume.script who))) same held.counted.counted };
      }
