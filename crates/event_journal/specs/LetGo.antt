-- Which replies may be gone, by the marks: those that were handed out, with all before them, when a call was placed.
use Rattle.std.specs.Prelude.{◌≡◌, ◌⊎◌, ◌==◌, ◌||◌, ◌&&◌, ℕ, ◌≤◌, ◌<◌, Bool, true, false, List, [], ◌∷◌}
use Rattle.std.specs.Prelude.{Option, Some, None, length, map, option_map, slice_get}
use Rattle.std.specs.List.{list_any}
use Rattle.session_script.specs.HeldReplies.{value_of}
use Rattle.session_script.specs.KeptReplies.{is_long}
use Rattle.session_script.specs.declared.kept.HeldReply.{HeldReply}
use Rattle.session_script.specs.declared.kept.HeldReply.TheVariants as held
use Rattle.session_script.specs.declared.logs.Reply.{Reply}
use Rattle.promises.specs.declared.serving_promise.marks.Mark.{Mark}
use Rattle.promises.specs.declared.serving_promise.marks.MarkKind.{MarkKind}
use Rattle.promises.specs.declared.serving_promise.marks.MarkKind.TheVariants as kinds

-- ---- by the marks

abbrev pub is_placement : MarkKind → Bool
is_placement (kinds.Places place) = true
is_placement kind = false

abbrev pub is_hand_of : ℕ → MarkKind → Bool
is_hand_of k (kinds.Hands place reply) = place == k
is_hand_of k kind = false

-- the reply of a place was handed out
abbrev pub was_handed : ℕ → List Mark → Bool
was_handed k marks = list_any (λ m. is_hand_of k m.kind) marks

-- a call was placed behind that, where that had come before these marks or comes among them
abbrev pub is_past_by : Bool → ℕ → List Mark → Bool
is_past_by handed k [] = false
is_past_by handed k (m ∷ marks) = (is_placement m.kind && handed) || is_past_by (handed || is_hand_of k m.kind) k marks

-- the reply of a place was handed out, and a call was placed behind that
abbrev pub is_past : ℕ → List Mark → Bool
is_past k marks = is_past_by false k marks

-- a reply may be gone: it is long, and it and all before it were handed out when a call was placed
pub record MayBeGone (place : ℕ) (reply : Reply) (marks : List Mark) : Type 0 where
  pub long : is_long reply ≡ true
  pub past : (k : ℕ) → k ≤ place → is_past k marks ≡ true

-- so may the reply of a place, where it is there
abbrev pub MayBeGoneAt : ℕ → List (Option Reply) → List Mark → Type 0
MayBeGoneAt place told marks = (reply : Reply) → slice_get told place ≡ Some (Some reply) → MayBeGone place reply marks

-- ---- as they are kept

abbrev pub value_in : Option HeldReply → Option Reply
value_in o = option_map value_of o

-- which replies these are
abbrev pub values : List (Option HeldReply) → List (Option Reply)
values replies = map value_in replies

abbrev pub HasGone : List (Option HeldReply) → ℕ → Type 0
HasGone replies k = (reply : Reply) × (slice_get replies k ≡ Some (Some (held.Gone reply)))

-- no reply went that had not
abbrev pub StaysHere : (old new : List (Option HeldReply)) → Type 0
StaysHere old new = (k : ℕ) → HasGone new k → HasGone old k

-- of the places from here to there all were handed out, and their long replies went
pub record GoBetween (handed : List Bool) (from to : ℕ) (old new : List (Option HeldReply)) : Type 0 where
  pub values_are : values new ≡ values old
  pub on : from ≤ to
  pub all : (k : ℕ) → from ≤ k → k < to → slice_get handed k ≡ Some true
  pub gone : (k : ℕ) → HasGone new k → HasGone old k ⊎ (k < to)

-- It is kept of each place whether its reply was handed out; so were those of the first places, so many, when a call
-- was placed, and of these alone a reply may be gone.
pub record AreKept (replies : List (Option HeldReply)) (handed : List Bool) (front : ℕ) (marks : List Mark)
    (calls for_handed : ℕ) : Type 0 where
  pub each : length handed ≡ length replies
  pub room : calls ≤ for_handed
  pub right : (k : ℕ) → slice_get handed k ≡ Some true → was_handed k marks ≡ true
  pub past : (k : ℕ) → k < front → is_past k marks ≡ true
  pub gone : (k : ℕ) → HasGone replies k → k < front
