-- Replies that are handed out, be they here or gone.
use Rattle.std.specs.Prelude.{◌≡◌, ℕ, Bool, true, false, List, Option, Some, slice_get}
use Rattle.std.proofs.Common.{refl, sym, ap, ◌∙◌, true≢false}
use Rattle.std.proofs.lemmas.Option.{same_Some}
use Rattle.plain_tree.specs.declared.calls.Answer.{Answer}
use Rattle.plain_tree.specs.declared.calls.Answer.TheVariants as the_answers
use Rattle.session_script.specs.KeptReplies.{is_long}
use Rattle.session_script.specs.declared.logs.Reply.{Reply}
use Rattle.session_script.specs.declared.logs.Reply.TheVariants as the_replies
use Rattle.promises.specs.declared.serving_promise.marks.Mark.{Mark}
use Rattle.event_journal.specs.LetGo.{MayBeGoneAt}
use Rattle.volume_core.specs.VolumeSteps.Handed.{IsApart, IsApartAt}

abbrev is_bytes : Answer → Bool
is_bytes (the_answers.Got bytes) = true
is_bytes answer = false

abbrev is_names : Answer → Bool
is_names (the_answers.Names entries) = true
is_names answer = false

-- what is long is kept apart
long_apart : (reply : Reply) → is_long reply ≡ true → IsApart reply
long_apart (the_replies.Answer the_answers.Done) never = absurd (true≢false (sym never))
long_apart (the_replies.Answer the_answers.Synced) never = absurd (true≢false (sym never))
long_apart (the_replies.Answer (the_answers.Got bytes)) is =
    (the_answers.Got bytes, refl, λ e. true≢false (ap is_bytes e))
long_apart (the_replies.Answer (the_answers.Names entries)) is =
    (the_answers.Names entries, refl, λ e. true≢false (ap is_names e))
long_apart (the_replies.Answer (the_answers.Facts facts)) never = absurd (true≢false (sym never))
long_apart (the_replies.Answer (the_answers.Refused why)) never = absurd (true≢false (sym never))
long_apart (the_replies.Full need limit) never = absurd (true≢false (sym never))
long_apart (the_replies.Fault counts) never = absurd (true≢false (sym never))
long_apart the_replies.NoMemory never = absurd (true≢false (sym never))

-- so is what may be gone
pub gone_apart : (place : ℕ) (told : List (Option Reply)) (marks : List Mark) → MayBeGoneAt place told marks
    → IsApartAt place told
gone_apart place told marks gone reply is = long_apart reply (gone reply is).long

-- so is a reply of which there is no copy
pub copied_apart : (place : ℕ) (told : List (Option Reply)) (here : Reply) → slice_get told place ≡ Some (Some here)
    → IsApart here → IsApartAt place told
copied_apart place told here at apart reply is =
    let same : here ≡ reply = same_Some here reply (same_Some (Some here) (Some reply) (sym at ∙ is)) in
    (apart.0, sym same ∙ apart.1, apart.2)
