use Rattle.std.proofs.Common.{◌≡◌, ℕ, ◌-◌, List, true, false, not, length, slice_get, sym, ap, ◌∙◌}
use Rattle.std.specs.Cmp.Lexicographic.{slice_cmp, texts_ties, lists_ties}
use Rattle.std.specs.Ordering.{nat_cmp}
use Rattle.std.proofs.lemmas.Slice.Eq.{bytes_eq-Decides}
use Rattle.std.proofs.lemmas.Option.{same_Some}
use Rattle.plain_tree.specs.Paths.{same_path}
use Rattle.plain_tree.proofs.MoveLemmas.{same_is, not_true}
use Rattle.file_tree.proofs.checks.same_path.Goals as goal

pub returns-then-ne : goal.returns-then-ne
returns-then-ne c = sym (not_true (same_path a b) (λ e. differ (same_is a b e)))
  where
    a : List (List ℕ)
    a = c.args.a.now

    b : List (List ℕ)
    b = c.args.b.now

    differ : a ≡ b → ⊥
    differ same =
        let last : c.in-Some-Some.last.now ≡ c.in-Some-Some.other.now =
        same_Some c.in-Some-Some.last.now c.in-Some-Some.other.now
        (c.in-Some-Some.ensures.value ∙ ap (λ (l : List (List ℕ)). slice_get l (length l - 1)) same ∙ sym c.in-Some-Some.ensures'.value) in
        let wrong : true ≡ false =
        sym c.if-ne.true ∙ c.ne.ensures ∙ ap not ((bytes_eq-Decides c.in-Some-Some.last.now c.in-Some-Some.other.now).1 last) in
        cc

pub returns : goal.returns
returns c = c.eq.ensures ∙ lists_ties (slice_cmp nat_cmp) texts_ties c.args.a.now c.args.b.now
