-- One turn of a session: what it knows of the volume that it takes out, and what its pass has seen once it left.
use Rattle.std.specs.Prelude.{◌≡◌, ◌<◌, ℕ, List, ◌++◌, filter_map, fold, length, map, Option, Some, IfSome}
use Rattle.std.proofs.Common.{refl, sym, ap, subst, ◌∙◌, append_assoc}
use Rattle.turn_lock.specs.Histories.{AddsOwn, Sees, own_entries}
use Rattle.turn_lock.specs.Passes.{PassView, entered, left_at}
use Rattle.session_script.specs.Grammar.{calls_of}
use Rattle.promises.specs.ServingPromise.Marks.{Phase, after, idle, kinds_of, mark, phase, place_in}
use Rattle.promises.specs.ServingPromise.Submits.{CanSubmit}
use Rattle.promises.specs.declared.serving_promise.marks.MarkKind.{MarkKind}
use Rattle.promises.specs.declared.serving_promise.marks.Mark.{Mark}
use Rattle.tape_desk.specs.Held.{Constants, HasAdded, HeldView, constants}
use Rattle.tape_desk.specs.Turns.{CanPlace, GoesOn, IsOwn}
use Rattle.tape_desk.proofs.Entered.{kinds_more, own_more, same_kinds}

abbrev Own : List ℕ → List Mark → List Mark → Type 0
Own numbers before whole = own_entries (λ (m : Mark). m.who) numbers whole ≡ own_entries (λ (m : Mark). m.who) numbers before

module _ {D K : Type 0} (who : ℕ) (p : PassView Mark (Constants D K)) (own : IsOwn who p) (taken : HeldView D K)
    (same : Own p.numbers p.seen taken.volume.marks) where
  known : kinds_of who taken.volume.marks ≡ kinds_of who p.seen
  known = same_kinds who p.numbers p.seen taken.volume.marks own.own same

  -- the phase that a pass has seen of its session is the volume's
  pub known_phase : (ph : Phase) → phase who p.seen ≡ ph → phase who taken.volume.marks ≡ ph
  known_phase ph was = ap (fold after idle) known ∙ was

  -- a session whose pass has a call to place may submit it
  pub can_submit : (nth : ℕ) → CanPlace who nth p → p.fixed ≡ Some (constants taken) → CanSubmit taken.volume who nth
  can_submit nth can fixed = record {
    free = ap (fold after idle) known ∙ can.free;
    next = can.next ∙ sym (ap (λ ks. length (filter_map place_in ks)) known);
    more = subst (λ (o : Option (Constants D K)). IfSome o (λ f. nth < length (calls_of f.volume.script who))) fixed can.more;
  }

  module _ (kinds : List MarkKind) (later : HeldView D K) (adds : HasAdded who kinds taken later)
      (q : PassView Mark (Constants D K)) (entering : q ≡ entered taken.volume.marks p) where
    -- what a pass knows that no call changes is what the shelf has
    pub fixed_stays : p.fixed ≡ Some (constants taken) → q.fixed ≡ Some (constants later)
    fixed_stays told =
        ap (λ (r : PassView Mark (Constants D K)). r.fixed) entering
        ∙ told
        ∙ ap (λ (f : Constants D K). Some f) (sym adds.constants)

    -- what was added to the marks is the session's own
    pub adds_own : AddsOwn (λ (m : Mark). m.who) q.numbers q.seen later.volume.marks
    adds_own = subst (λ (r : PassView Mark (Constants D K)). AddsOwn (λ (m : Mark). m.who) r.numbers r.seen later.volume.marks) (sym entering)
        (own_more who p.numbers taken.volume.marks later.volume.marks kinds own.own adds.marks)

    -- the pass that leaves has gone on by the marks of its session
    pub has_gone_on : (r : PassView Mark (Constants D K)) → Sees (λ (m : Mark). m.who) p.seats p.numbers p.seen taken.volume.marks
        → r ≡ left_at later.volume.marks q → GoesOn who kinds p r
    has_gone_on r sees left = subst (GoesOn who kinds p) (sym (left ∙ ap (left_at later.volume.marks) entering)) record {
      keeps = record {
        lock = refl;
        seats = refl;
        numbers = refl;
        fixed = refl;
        out = refl;
        begins = (sees.later ++ map (mark who) kinds, sym (append_assoc p.seen sees.later (map (mark who) kinds)) ∙ ap (λ l. l ++ map (mark who) kinds) sees.begins ∙ sym adds.marks);
      };
      adds = kinds_more who taken.volume.marks later.volume.marks kinds adds.marks ∙ ap (λ l. l ++ kinds) known;
    }
