use Rattle.std.proofs.Common.{rules, ◌≡◌, ◌≤◌, ◌++◌, ℕ, List, drop, length, take, IsUtf8, sym, subst, ◌∙◌}
use Rattle.index_model.specs.Grammar.{IndexText}
use Rattle.index_read.specs.Drafts.{state_of}
use Rattle.index_read.specs.Fronts.{IsFront, repointed, with_pointers}
use Rattle.index_read.specs.Told.{State}
use Rattle.index_read.proofs.Repointed.{text_swapped}
use Rattle.index_read.proofs.fronts.repoint.Goals as goal

pub returns : goal.returns
returns c = λ yes i.
    let text = c.args.text.now.items in
    let first = c.in-Some.first in
    let second = c.in-Some-front_of.second in
    let other = c.in-Some-respelled.other.items in
    let put : c.put_front.new.text.items ≡ other ++ drop first.at text = c.put_front.ensures c.if-not-put_front.false in
    let begins : IsFront text first.at first.seen (state_of first.draft) = subst (λ (t : List ℕ). IsFront t first.at first.seen (state_of first.draft)) c.as_slice.ensures.value c.in-Some.ensures.front in
    let le : first.at ≤ length text = search rules in
    let valid : IsUtf8 (take first.at text) = search rules in
    let other_valid : IsUtf8 other = search rules in
    let long : c.len-length.result ≡ length other = search rules in
    let there : IsFront (other ++ drop first.at text) second.at second.seen (state_of second.draft) =
    subst (λ (t : List ℕ). IsFront t second.at second.seen (state_of second.draft)) (c.as_slice-3.ensures.value ∙ put) c.in-Some-front_of.ensures.front in
    let same : IsFront (other ++ drop first.at text) (length other) second.seen (repointed c.args.here c.args.back (state_of first.draft)) =
    subst (λ (s : State). IsFront (other ++ drop first.at text) (length other) second.seen s) (c.is_repointed.ensures.told yes)
    (subst (λ (n : ℕ). IsFront (other ++ drop first.at text) n second.seen (state_of second.draft)) (c.is_repointed.ensures.at yes ∙ long) there) in
    subst (λ (t : List ℕ). IndexText t (with_pointers c.args.index.now c.args.here c.args.back)) (sym put)
    (text_swapped text other first.at first.seen second.seen (state_of first.draft) c.args.here c.args.back c.is_lone-lone.result le begins valid other_valid same (c.is_repointed.ensures.seen yes)
    c.in-Some.ensures.back c.args.index.now c.is_lone-lone.ensures i)
