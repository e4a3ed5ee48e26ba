-- The places at which a history admits an index, as it goes on.
use Rattle.std.proofs.Common.{◌≡◌, ℕ, ◌+◌, ◌<◌, ◌≤◌, List, [], ◌∷◌, ◌++◌, length, reverse, take, Option, Some, None, refl}
use Rattle.std.proofs.Common.{sym, ap, ◌∙◌, append-nil, arith}
use Rattle.std.specs.List.{enumerate_from, flat_map}
use Rattle.std.proofs.lemmas.Grind.{flat_map-append}
use Rattle.std.proofs.lemmas.List.{reverse-append}
use Rattle.plain_tree.specs.History.{call_at}
use Rattle.plain_tree.specs.declared.calls.Call.{Call}
use Rattle.plain_tree.specs.declared.calls.Fate.{Fate}
use Rattle.plain_tree.specs.declared.calls.Fate.TheVariants as fates
use Rattle.plain_tree.specs.declared.calls.Placed.{Placed}
use Rattle.tape_layout.specs.declared.ops.Op.{Op}
use Rattle.space_laws.specs.Space as space
use Rattle.space_laws.specs.Space.{Ask, Space, change, index, nothing, store}
use Rattle.space_laws.specs.Standing.{Given, Standing, admitted_at, after_done, after_placed, ask_of, is_on, rules, standing}
use Rattle.space_laws.proofs.Steps.{are_still}
use Rattle.promises.proofs.ReplyLaws.Lists.{enumerate_next, flat_map_same}
use Rattle.promises.proofs.ReplyLaws.Places.{Agree, at_end, at_place}
use Rattle.volume_state.specs.ClosingLaws.Owned.{index_here, indexed_at, own_places, place_of_index}
use Rattle.volume_state.proofs.ClosingLaws.IndexLaw.{IsSynced}
use Rattle.volume_state.proofs.ClosingLaws.Synced.{only_syncs}

-- under another place from which placement on the index partition is on
pub places_alike : (g : Given) (on off : Option ℕ) (history : List Placed) → Agree g.mounted on off (length history)
    → own_places g on history ≡ own_places g off history
places_alike g on off history agree =
    flat_map_same (λ e. indexed_at g on history e.0 e.1) (λ e. indexed_at g off history e.0 e.1) 0 history
    (λ k p less. at_place (λ b st. index_here g st k p.fate (call_at g.calls p) p.at) g on off history history k
    (omega (arith, less)) refl agree)

-- with one placement more
pub places_next : (g : Given) (on : Option ℕ) (history : List Placed) (p : Placed)
    → own_places g on (history ++ p ∷ []) ≡ own_places g on history ++ indexed_at g on history (length history) p
places_next g on history p =
    ap (flat_map (λ e. indexed_at g on (history ++ p ∷ []) e.0 e.1)) (enumerate_next history p)
    ∙ flat_map-append (λ e. indexed_at g on (history ++ p ∷ []) e.0 e.1) (enumerate_from 0 history)
    ((length history, p) ∷ [])
    ∙ ap (λ ks. ks ++ (indexed_at g on (history ++ p ∷ []) (length history) p ++ []))
    (flat_map_same (λ e. indexed_at g on (history ++ p ∷ []) e.0 e.1) (λ e. indexed_at g on history e.0 e.1) 0 history
    (λ k q less. at_end (λ b st. index_here g st k q.fate (call_at g.calls q) q.at) g on history (p ∷ []) k
    (omega (arith, less))))
    ∙ ap (λ ks. own_places g on history ++ ks)
    (append-nil (indexed_at g on (history ++ p ∷ []) (length history) p)
    ∙ at_end (λ b st. index_here g st (length history) p.fate (call_at g.calls p) p.at) g on history (p ∷ [])
    (length history) (omega arith))

-- a void placement admits none
pub void_places : (g : Given) (on : Option ℕ) (history : List Placed) (p : Placed) → p.fate ≡ fates.Void
    → own_places g on (history ++ p ∷ []) ≡ own_places g on history
void_places g on history p f =
    places_next g on history p
    ∙ ap (λ ks. own_places g on history ++ ks) (none f)
    ∙ append-nil (own_places g on history)
  where
    none : p.fate ≡ fates.Void → indexed_at g on history (length history) p ≡ []
    none is = rw is refl

-- the newest of them first
one_first : (k : ℕ) (ask : Ask) → reverse (place_of_index k ask) ≡ place_of_index k ask
one_first k nothing = refl
one_first k change = refl
one_first k (store wanted bytes) = refl
one_first k (index text) = refl

-- What a placement asks of the tape: what it leaves of the space, its ops and its place are those of one ask, which is
-- of an index where a sync is placed before which the tree had changed.
pub record IsOwnAsk (g : Given) (on : Option ℕ) (history : List Placed) (p : Placed) : Type 0 where
  pub ask : Ask
  pub left : (after_placed g (is_on g.mounted on (length history)) (standing g on history (length history)) p).space
      ≡ space.after (rules g) (is_on g.mounted on (length history)) (standing g on history (length history)).space ask
  pub ops : admitted_at g on history (length history) p
      ≡ space.ops_of (rules g) (is_on g.mounted on (length history)) (standing g on history (length history)).space ask
  pub place : indexed_at g on history (length history) p ≡ place_of_index (length history) ask
  pub synced : (text : List ℕ) → ask ≡ index text → IsSynced g (standing g on history (length history)) p text
  -- of a call that is done it is that call's
  pub asked : (call : Call) → p.fate ≡ fates.Done → call_at g.calls p ≡ Some call
      → ask ≡ ask_of g (standing g on history (length history)) call p.at
  -- without a change, and with an index, the tree stays
  pub still : ask ≡ nothing
      → (after_placed g (is_on g.mounted on (length history)) (standing g on history (length history)) p).tree
      ≡ (standing g on history (length history)).tree
  pub kept : (text : List ℕ) → ask ≡ index text
      → (after_placed g (is_on g.mounted on (length history)) (standing g on history (length history)) p).tree
      ≡ (standing g on history (length history)).tree

module _ (g : Given) (on : Option ℕ) (history : List Placed) (p : Placed) where
  abbrev st : Standing
  st = standing g on history (length history)

  no_index : (text : List ℕ) → nothing ≡ index text → IsSynced g st p text
  no_index text is = absurd (let wrong : nothing ≡ index text = is in cc)

  done_tree : (call : Call) → p.fate ≡ fates.Done → call_at g.calls p ≡ Some call
      → (after_placed g (is_on g.mounted on (length history)) st p).tree
      ≡ (after_done g (is_on g.mounted on (length history)) st call p.at).tree
  done_tree call f e = rw (f, e) refl

  own_by : (fate : Fate) (call : Option Call) → p.fate ≡ fate → call_at g.calls p ≡ call → IsOwnAsk g on history p
  own_by fates.Void call f e = record {
    ask = nothing;
    left = ap (λ (s : Standing). s.space) (are_still.void g (is_on g.mounted on (length history)) st p f);
    ops = rw f refl;
    place = rw f refl;
    synced = no_index;
    asked = λ call done called. absurd (let wrong : fates.Void ≡ fates.Done = sym f ∙ done in cc);
    still = λ is. ap (λ (s : Standing). s.tree) (are_still.void g (is_on g.mounted on (length history)) st p f);
    kept = λ text is. absurd (let wrong : nothing ≡ index text = is in cc);
  }
  own_by fates.Done None f e = record {
    ask = nothing;
    left = rw (f, e) refl;
    ops = rw (f, e) refl;
    place = rw (f, e) refl;
    synced = no_index;
    asked = λ call done called. absurd (let wrong : ◌≡◌ {A = Option Call} None (Some call) = sym e ∙ called in cc);
    still = λ is. rw (f, e) refl;
    kept = λ text is. absurd (let wrong : nothing ≡ index text = is in cc);
  }
  own_by fates.Done (Some call) f e = record {
    ask = ask_of g st call p.at;
    left = rw (f, e) refl;
    ops = rw (f, e) refl;
    place = rw (f, e) refl;
    synced = λ text is.
        let its = only_syncs g st call p.at text is in
        record {
          done = f;
          call = e ∙ ap (λ (c : Call). Some c) its.0;
          changed = its.1;
          text_is = its.2;
        };
    asked = λ other done called.
        let same : ◌≡◌ {A = Option Call} (Some call) (Some other) = sym e ∙ called in
        let calls : call ≡ other = cc in
        ap (λ (c : Call). ask_of g st c p.at) calls;
    still = λ is. done_tree call f e
        ∙ ap (λ (s : Standing). s.tree)
        (are_still.nothing_asked g (is_on g.mounted on (length history)) st call p.at is);
    kept = λ text is.
        let its = only_syncs g st call p.at text is in
        done_tree call f e
        ∙ ap (λ (c : Call). (after_done g (is_on g.mounted on (length history)) st c p.at).tree) its.0;
  }

  -- what a placement asks of the tape: an index just of a sync before which the tree had changed
  pub own_ask : IsOwnAsk g on history p
  own_ask = own_by p.fate (call_at g.calls p) refl refl

  -- the newest first, with that of this placement
  pub newest_first : reverse (own_places g on (history ++ p ∷ []))
      ≡ place_of_index (length history) own_ask.ask ++ reverse (own_places g on history)
  newest_first =
      ap reverse (places_next g on history p)
      ∙ reverse-append (own_places g on history) (indexed_at g on history (length history) p)
      ∙ ap (λ ks. reverse ks ++ reverse (own_places g on history)) own_ask.place
      ∙ ap (λ ks. ks ++ reverse (own_places g on history)) (one_first (length history) own_ask.ask)
