-- How a made script grows by a line and by a round.
use Rattle.std.proofs.Common.{◌≡◌, ℕ, zero, suc, ◌+◌, ◌*◌, List, [], ◌∷◌, ◌++◌, length, map, sym, ap, ◌∙◌, refl, arith, append-nil, append_assoc}
use Rattle.std.specs.List.{flat_map, range_with_len}
use Rattle.std.proofs.lemmas.List.{length-append}
use Rattle.std.proofs.lemmas.List.FromFn.{map-range_with_len_more, length-map-range_with_len}
use Rattle.session_script.specs.declared.scripts.ScriptLine.{ScriptLine}
use Rattle.session_script.specs.Made.{made_call, made_round, made_script}

-- a session's line in a round
abbrev pub line_in : ℕ → ℕ → ScriptLine
line_in nth who = record { who = who; call = made_call who nth }

-- the lines of the first sessions in a round
abbrev pub begun_round : ℕ → ℕ → List ScriptLine
begun_round nth count = map (line_in nth) (range_with_len 1 count)

-- a made round grows by one session's line
pub round_more : (before : List ScriptLine) (nth count : ℕ) → (before ++ begun_round nth count) ++ line_in nth (1 + count) ∷ [] ≡ before ++ begun_round nth (count + 1)
round_more before nth count =
    append_assoc before (begun_round nth count) (line_in nth (1 + count) ∷ []) ∙ ap (λ lines. before ++ lines) (sym (map-range_with_len_more (line_in nth) 1 count (1 + count) refl))

-- how long a script with a begun round is
pub length-begun : (before : List ScriptLine) (nth count : ℕ) → length (before ++ begun_round nth count) ≡ length before + count
length-begun before nth count = length-append before (begun_round nth count) ∙ ap (λ n. length before + n) (length-map-range_with_len (line_in nth) 1 count)

rounds_more : (a n next : ℕ) → a + n ≡ next → flat_map made_round (range_with_len a n) ++ made_round next ≡ flat_map made_round (range_with_len a (suc n))
rounds_more a zero next is = ap made_round (let e : next ≡ a = omega (arith, is) in e) ∙ sym (append-nil (made_round a))
rounds_more a (suc n) next is =
    append_assoc (made_round a) (flat_map made_round (range_with_len (a + 1) n)) (made_round next)
    ∙ ap (λ lines. made_round a ++ lines) (rounds_more (a + 1) n next (omega (arith, is)))

-- a made script grows by a round
pub script_more : (count : ℕ) → made_script count ++ made_round count ≡ made_script (count + 1)
script_more count = rounds_more 0 count count (omega arith) ∙ ap made_script (let e : suc count ≡ count + 1 = omega arith in e)

length-rounds : (a n : ℕ) → length (flat_map made_round (range_with_len a n)) ≡ 8 * n
length-rounds a zero = refl
length-rounds a (suc n) =
    length-append (made_round a) (flat_map made_round (range_with_len (a + 1) n)) ∙ ap (λ k. 8 + k) (length-rounds (a + 1) n) ∙ omega arith

-- a made script has eight lines for each round
pub length-made_script : (count : ℕ) → length (made_script count) ≡ 8 * count
length-made_script count = length-rounds 0 count
