use Rattle.std.proofs.Common.{◌≡◌, ◌∙◌, ◌++◌, ◌<◌, ◌^◌, List, ℕ, IsUtf8, ap, append_assoc, refl, rules, subst, sym}
use Rattle.ltfs_label.specs.Canonical.{canonical, head}
use Rattle.ltfs_label.specs.Grammar.{LabelText}
use Rattle.ltfs_label.specs.Values.{label_of}
use Rattle.ltfs_label.proofs.Assembled.{three}
use Rattle.ltfs_label.proofs.Writes.{canonical_label}
use Rattle.ltfs_label.proofs.writing.write_label.Goals as goal

pub returns : goal.returns
unfolding canonical
returns c =
    let first : c.extend_from_slice.new.self.items ≡ head = c.in_ok-extend_from_slice.ensures.items ∙ ap (λ (x : List ℕ). x ++ head) c.new-out.ensures.items in
    let all = three c.extend_from_slice.new.self.items _ _ _ _ _ _ c.in_ok-put_start.ensures.ok c.in_ok-put_children.ensures c.in_ok-put_end.ensures.ok in
    let is = c.from_vec.ensures ∙ all ∙ rw first (simp (append_assoc)) in
    let valid : IsUtf8 c.as_str-creator.result.now = search rules in
    let small : c.args.label.now.uuid < 2 ^ 128 = search rules in
    record {
      text = is;
      label = λ g. subst (λ text. LabelText text (label_of c.args.label.now)) (sym is) (canonical_label (label_of c.args.label.now) c.args.label.now.formatted refl (subst IsUtf8 c.as_str-creator.ensures valid) small g);
    }
