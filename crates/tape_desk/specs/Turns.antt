-- What the turns of a session's call make of its pass of the lock.
use Rattle.std.specs.Prelude.{ℕ, ◌≡◌, ◌<◌, false, List, [], ◌∷◌, ◌++◌, length, Option, Some, None, IfSome}
use Rattle.session_script.specs.Grammar.{calls_of}
use Rattle.session_script.specs.declared.logs.Reply.{Reply}
use Rattle.session_script.specs.declared.logs.Reply.TheVariants as replies
use Rattle.turn_lock.specs.Passes.{PassView}
use Rattle.promises.specs.ServingPromise.Marks.{hands_of, idle, kinds_of, phase, places_of}
use Rattle.promises.specs.declared.serving_promise.answers.Drained.{Drained}
use Rattle.promises.specs.declared.serving_promise.answers.Drained.TheVariants as drained
use Rattle.promises.specs.declared.serving_promise.answers.Submitted.{Submitted}
use Rattle.promises.specs.declared.serving_promise.answers.Submitted.TheVariants as submitted
use Rattle.promises.specs.declared.serving_promise.answers.Turn.{Turn}
use Rattle.promises.specs.declared.serving_promise.answers.Turn.TheVariants as turns
use Rattle.promises.specs.declared.serving_promise.marks.MarkKind.{MarkKind}
use Rattle.promises.specs.declared.serving_promise.marks.MarkKind.TheVariants.{Places as places, Hands as hands, Begins as begins}
use Rattle.promises.specs.declared.serving_promise.marks.MarkKind.TheVariants.{Rests as rests}
use Rattle.promises.specs.declared.serving_promise.marks.Mark.{Mark}
use Rattle.tape_desk.specs.Held.{Constants}

-- ---- which marks a turn adds

-- a placement here, and at once its reply
abbrev pub answered_at : ℕ → Reply → List MarkKind
answered_at here reply = places here ∷ hands here reply ∷ []

abbrev pub kinds_of_submit : ℕ → Submitted → List MarkKind
kinds_of_submit here (submitted.Ready reply) = answered_at here reply
kinds_of_submit here (submitted.Wait ticket) = places ticket ∷ []
kinds_of_submit here submitted.Drain = begins ∷ []

abbrev pub kinds_of_turn : ℕ → Turn → List MarkKind
kinds_of_turn ticket (turns.Ready reply) = hands ticket reply ∷ []
kinds_of_turn ticket turns.More = []

abbrev pub kinds_of_drain : ℕ → Drained → List MarkKind
kinds_of_drain here drained.Room = rests ∷ []
kinds_of_drain here drained.More = []
kinds_of_drain here (drained.Fault counts) = answered_at here (replies.Fault counts)

-- what a drain adds until there is room, or until the reply is there
abbrev pub kinds_of_wait : ℕ → Option Reply → List MarkKind
kinds_of_wait here None = rests ∷ []
kinds_of_wait here (Some reply) = answered_at here reply

-- ---- what becomes of the pass

module _ {D K : Type 0} where
  -- it is out of its turn and has this number alone
  pub record IsOwn (who : ℕ) (p : PassView Mark (Constants D K)) : Type 0 where
    pub out : p.in_turn ≡ false
    pub own : p.numbers ≡ who ∷ []

  -- the session's next call has this number, and the script has it
  pub record CanPlace (who nth : ℕ) (p : PassView Mark (Constants D K)) : Type 0 where
    pub free : phase who p.seen ≡ idle
    pub next : nth ≡ length (places_of who p.seen)
    pub more : IfSome p.fixed (λ f. nth < length (calls_of f.volume.script who))

  -- only more was seen
  pub record Keeps (old new : PassView Mark (Constants D K)) : Type 0 where
    pub lock : new.lock ≡ old.lock
    pub seats : new.seats ≡ old.seats
    pub numbers : new.numbers ≡ old.numbers
    pub fixed : new.fixed ≡ old.fixed
    pub out : new.in_turn ≡ false
    pub begins : (more : List Mark) × (old.seen ++ more ≡ new.seen)

  -- the session's marks are those before, and then these
  pub record GoesOn (who : ℕ) (kinds : List MarkKind) (old new : PassView Mark (Constants D K)) : Type 0 where
    pub keeps : Keeps old new
    pub adds : kinds_of who new.seen ≡ kinds_of who old.seen ++ kinds

  -- the session has drained, and nothing was placed
  pub record IsPutOff (who : ℕ) (old new : PassView Mark (Constants D K)) : Type 0 where
    pub keeps : Keeps old new
    pub rests : phase who new.seen ≡ idle
    pub places : places_of who new.seen ≡ places_of who old.seen
    pub hands : hands_of who new.seen ≡ hands_of who old.seen

  -- the session's call was placed, and its reply was handed out
  pub record IsMade (who : ℕ) (reply : Reply) (old new : PassView Mark (Constants D K)) : Type 0 where
    pub keeps : Keeps old new
    pub rests : phase who new.seen ≡ idle
    pub place : ℕ
    pub places : places_of who new.seen ≡ places_of who old.seen ++ place ∷ []
    pub hands : hands_of who new.seen ≡ hands_of who old.seen ++ (place, reply) ∷ []
