-- The line of a reply.
use Rattle.std.proofs.Common.{◌≡◌, ◌∙◌, ℕ, List, [], ◌∷◌, ◌++◌, drop, codes, decimal, ap, append-nil, arith}
use Rattle.std.proofs.lemmas.Fmt.{decimal_digit}
use Rattle.std.specs.List.{enumerate_from, flat_map, zip}
use Rattle.plain_tree.specs.declared.calls.Answer.{Answer}
use Rattle.plain_tree.specs.declared.calls.Placed.{Placed}
use Rattle.session_script.specs.LogText.{answer_text, line_text, log_text}
use Rattle.session_script.specs.declared.logs.Log.{Log}
use Rattle.session_script.specs.declared.logs.Reply.{Reply}
use Rattle.session_script.specs.declared.logs.Reply.TheVariants as replies
use Rattle.generation_view.specs.ViewCommands.Lines.{IsLogOf}
use Rattle.generation_view.specs.ViewCommands.Texts.{answer_line}

abbrev text_of : List Placed → List Reply → List ℕ
text_of history told = flat_map (λ e. line_text e.0 e.1.0 e.1.1) (enumerate_from 0 (zip history told))

module _ (answer : Answer) where
  abbrev line : ℕ → ℕ → List ℕ
  line who nth = decimal 0 ++ codes " " ++ decimal who ++ codes "." ++ decimal nth ++ codes " " ++ answer_text answer ++ codes "\n"

  -- behind the first six bytes of the line of the first call of session 1 stands its reply
  pub line_is : (log : Log) → IsLogOf answer log → drop 6 (log_text log) ≡ answer_line answer
  line_is log is =
      ap (λ (h : List Placed). drop 6 (text_of h log.replies)) is.history
      ∙ ap (λ (r : List Reply). drop 6 (text_of (is.placed ∷ []) r)) is.replied
      ∙ ap (drop 6) (append-nil (line is.placed.who is.placed.nth))
      ∙ ap (λ (n : ℕ). drop 6 (line n is.placed.nth)) is.who
      ∙ ap (λ (n : ℕ). drop 6 (line 1 n)) is.nth
      ∙ ap (λ (zero : List ℕ). drop 6 (zero ++ codes " " ++ decimal 1 ++ codes "." ++ decimal 1 ++ codes " " ++ answer_text answer ++ codes "\n")) (decimal_digit 0 (omega arith))
      ∙ ap (λ (one : List ℕ). drop 6 (48 ∷ 32 ∷ (one ++ codes "." ++ one ++ codes " " ++ answer_text answer ++ codes "\n"))) (decimal_digit 1 (omega arith))
