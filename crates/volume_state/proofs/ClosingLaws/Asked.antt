-- What a placement asks of the tape, and what that leaves.
use Rattle.std.proofs.Common.{◌≡◌, ◌⊎◌, inl, inr, ℕ, Bool, true, false, not, ◌&&◌, ◌||◌, List, [], ◌∷◌, ◌++◌, length}
use Rattle.std.proofs.Common.{Option, Some, None, refl, sym, ap, subst, ◌∙◌, append-nil}
use Rattle.tape_types.specs.declared.cartridges.Limits.{Limits}
use Rattle.tape_layout.specs.declared.ops.Op.{Op}
use Rattle.plain_tree.specs.History.{call_at}
use Rattle.plain_tree.specs.declared.calls.Call.{Call}
use Rattle.plain_tree.specs.declared.calls.Fate.{Fate}
use Rattle.plain_tree.specs.declared.calls.Fate.TheVariants as fates
use Rattle.plain_tree.specs.declared.calls.Placed.{Placed}
use Rattle.session_script.specs.declared.logs.Event.{Event}
use Rattle.space_laws.specs.Space as space
use Rattle.space_laws.specs.Space.{Ask, Rules, Space, change, index, nothing, store}
use Rattle.space_laws.specs.Standing.{Given, Standing, admitted_at, after_placed, ask_of, is_on, rules, standing}
use Rattle.space_laws.proofs.Steps.{are_still}
use Rattle.promises.specs.ServingPromise.Mount.{facts_of}
use Rattle.promises.specs.ServingPromise.Served.{Fixed, View}
use Rattle.promises.specs.ServingPromise.Steps.{on_after}
use Rattle.promises.specs.CrashLaws.Laws.{AddsOps}
use Rattle.promises.specs.CrashLaws.Safe.{given_by, space_now, standing_now}
use Rattle.promises.proofs.CrashLaws.Placing.{same_standing, standings_go_on}
use Rattle.volume_state.specs.ClosingLaws.Ready.{GoesOnBy, HasDpIndex}

-- the space that is left, and the ops that are admitted, are those of one ask
pub record IsAsk (v : Rules) (on : Bool) (old new : Space) (admitted : List Op) : Type 0 where
  pub ask : Ask
  pub left : new ≡ space.after v on old ask
  pub ops : admitted ≡ space.ops_of v on old ask

module _ (g : Given) (on : Option ℕ) (history : List Placed) where
  abbrev here : Bool
  here = is_on g.mounted on (length history)

  abbrev st : Standing
  st = standing g on history (length history)

  -- so it is of a placement
  ask_placed : (p : Placed) (fate : Fate) (call : Option Call) → p.fate ≡ fate → call_at g.calls p ≡ call
      → IsAsk (rules g) here st.space (after_placed g here st p).space (admitted_at g on history (length history) p)
  ask_placed p fates.Void call f e = record {
    ask = nothing;
    left = ap (λ (s : Standing). s.space) (are_still.void g here st p f);
    ops = rw f refl;
  }
  ask_placed p fates.Done None f e = record { ask = nothing; left = rw (f, e) refl; ops = rw (f, e) refl }
  ask_placed p fates.Done (Some call) f e =
      record { ask = ask_of g st call p.at; left = rw (f, e) refl; ops = rw (f, e) refl }

-- and of what a submission does
module _ {D : Type 0} (limits : Limits) (old new : View D) where
  -- files may go to the index partition at the end of the history
  abbrev pub on_here : Bool
  on_here = is_on (facts_of old.fixed.mounted) old.on (length old.history)

  -- the rules by which the volume's space admits
  abbrev pub rules_here : Rules
  rules_here = rules (given_by limits old)

  -- the ops that a placement adds are those of what it asks, and leave that space
  pub ask_made : AddsOps limits old new → new.fixed ≡ old.fixed → new.on ≡ old.on → GoesOnBy old new
      → (admitted : List Op) × (new.ops ≡ old.ops ++ admitted)
      × IsAsk rules_here on_here (space_now limits old) (space_now limits new) admitted
  ask_made adds fixed on (inl history) = (
    [],
    adds.unplaced history ∙ sym (append-nil old.ops),
    record {
      ask = nothing;
      left = ap (λ (s : Standing). s.space) (same_standing limits old new fixed on history);
      ops = refl;
    },
  )
  ask_made adds fixed on (inr (placed, history)) =
      let g = given_by limits old in
      let here : standing_now limits new ≡ after_placed g on_here (standing_now limits old) placed =
      standings_go_on.placed limits old new placed fixed on history in
      let its = ask_placed g old.on old.history placed placed.fate (call_at g.calls placed) refl refl in (
        admitted_at g old.on old.history (length old.history) placed,
        adds.placed placed history,
        record { ask = its.ask; left = ap (λ (s : Standing). s.space) here ∙ its.left; ops = its.ops },
      )

-- ---- what an ask leaves

-- an index was admitted before, or with these ops
pub data IsAdmittedBy (v : Rules) (on : Bool) (s : Space) (asked : List Op) : Type 0 where
  before : s.admitted ≡ true → IsAdmittedBy v on s asked
  now : (text : List ℕ) → asked ≡ space.ops_of v on s (index text) → IsAdmittedBy v on s asked

by_ask : (v : Rules) (on : Bool) (s : Space) (ask : Ask) → (space.after v on s ask).admitted ≡ true
    → IsAdmittedBy v on s (space.ops_of v on s ask)
by_ask v on s nothing is = before is
by_ask v on s change is = before is
by_ask v on s (store wanted bytes) is = before is
by_ask v on s (index text) is = now text refl

admitted_by : (v : Rules) (on : Bool) (old new : Space) (asked : List Op) → IsAsk v on old new asked
    → new.admitted ≡ true → IsAdmittedBy v on old asked
admitted_by v on old new asked its is =
    subst (λ (l : List Op). IsAdmittedBy v on old l) (sym its.ops)
    (by_ask v on old its.ask (sym (ap (λ (s : Space). s.admitted) its.left) ∙ is))

-- nothing changed, no index was admitted, and nothing is asked
pub record IsUnasked (s : Space) (asked : List Op) : Type 0 where
  pub changed : s.changed ≡ false
  pub admitted : s.admitted ≡ false
  pub none : asked ≡ []

still_ask : (v : Rules) (on : Bool) (s : Space) (ask : Ask) → (space.after v on s ask).changed ≡ false
    → (space.after v on s ask).admitted ≡ false → IsUnasked s (space.ops_of v on s ask)
still_ask v on s nothing same without = record { changed = same; admitted = without; none = refl }
still_ask v on s change same without = absurd (let wrong : true ≡ false = same in cc)
still_ask v on s (store wanted bytes) same without = absurd (let wrong : true ≡ false = same in cc)
still_ask v on s (index text) same without = absurd (let wrong : true ≡ false = without in cc)

-- where nothing changed and no index was admitted, nothing was asked
pub unasked_by : (v : Rules) (on : Bool) (old new : Space) (asked : List Op) → IsAsk v on old new asked
    → new.changed ≡ false → new.admitted ≡ false → IsUnasked old asked
unasked_by v on old new asked its same without =
    subst (λ (l : List Op). IsUnasked old l) (sym its.ops)
    (still_ask v on old its.ask (sym (ap (λ (s : Space). s.changed) its.left) ∙ same)
    (sym (ap (λ (s : Space). s.admitted) its.left) ∙ without))

-- ---- a step, and a write that is placed void behind it

-- a void placement leaves what stands
pub void_standing : {D : Type 0} (limits : Limits) (old new : View D) (added : List Event) (placed : Placed)
    → new.fixed ≡ old.fixed → new.history ≡ old.history ++ placed ∷ [] → placed.fate ≡ fates.Void
    → new.on ≡ on_after old added → standing_now limits new ≡ standing_now limits old
void_standing {D} limits old new added placed fixed history fate on =
    let mid : View D = record old { on = new.on } in
    standings_go_on.placed limits mid new placed fixed refl history
    ∙ are_still.void (given_by limits old) (is_on (facts_of old.fixed.mounted) new.on (length old.history))
    (standing_now limits mid) placed fate
    ∙ standings_go_on.stepped limits old mid added refl refl on

-- a void placement leaves the space
pub void_space : {D : Type 0} (limits : Limits) (old new : View D) (added : List Event) (placed : Placed)
    → new.fixed ≡ old.fixed → new.history ≡ old.history ++ placed ∷ [] → placed.fate ≡ fates.Void
    → new.on ≡ on_after old added → space_now limits new ≡ space_now limits old
void_space limits old new added placed fixed history fate on =
    ap (λ (s : Standing). s.space) (void_standing limits old new added placed fixed history fate on)

-- ---- an index of the data partition

-- a close has none to write on it
pub has_by : (changed done admitted : Bool) → (changed || (not done && not admitted)) ≡ false
    → (done ≡ true) ⊎ (admitted ≡ true)
has_by changed true admitted is = inl refl
has_by changed false true is = inr refl
has_by true false false is = absurd (let wrong : true ≡ false = is in cc)
has_by false false false is = absurd (let wrong : true ≡ false = is in cc)

module _ {D : Type 0} (limits : Limits) (old new : View D) where
  pub was_done : new.fixed ≡ old.fixed → new.fixed.mounted.dp_done ≡ true → old.fixed.mounted.dp_done ≡ true
  was_done fixed is = sym (ap (λ (f : Fixed D). f.mounted.dp_done) fixed) ∙ is

  -- there was one, or it is admitted now
  abbrev pub IsGiven : Type 0
  IsGiven = HasDpIndex old (space_now limits old)
      ⊎ ((text : List ℕ) × (new.ops
      ≡ old.ops
      ++ space.ops_of (rules_here limits old new) (on_here limits old new) (space_now limits old) (index text)))

  by_admitted : (asked : List Op) → new.ops ≡ old.ops ++ asked
      → IsAdmittedBy (rules_here limits old new) (on_here limits old new) (space_now limits old) asked → IsGiven
  by_admitted asked are (before was) = inl (inr was)
  by_admitted asked are (now text is) = inr (text, are ∙ ap (λ (l : List Op). old.ops ++ l) is)

  -- where an index is on the data partition it was there before, or this placement asks for it
  pub given_one : AddsOps limits old new → new.fixed ≡ old.fixed → new.on ≡ old.on → GoesOnBy old new
      → HasDpIndex new (space_now limits new) → IsGiven
  given_one adds fixed on goes (inl done) = inl (inl (was_done fixed done))
  given_one adds fixed on goes (inr is) =
      let made = ask_made limits old new adds fixed on goes in
      by_admitted made.0 made.1
      (admitted_by (rules_here limits old new) (on_here limits old new) (space_now limits old) (space_now limits new)
      made.0 made.2 is)

  -- with the same space there was one before
  pub had_one : new.fixed ≡ old.fixed → space_now limits new ≡ space_now limits old
      → HasDpIndex new (space_now limits new) → HasDpIndex old (space_now limits old)
  had_one fixed same (inl done) = inl (was_done fixed done)
  had_one fixed same (inr is) = inr (sym (ap (λ (s : Space). s.admitted) same) ∙ is)
