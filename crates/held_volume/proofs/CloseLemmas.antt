-- What a close admits of what is held.
use Rattle.std.proofs.Common.{◌≡◌, Vec, Global, ℕ, ◌+◌, ◌<◌, ◌≤◌, ◌&&◌, ◌||◌, not, if◌then◌else◌, Bool, true, false, List, ◌++◌, Option, Some, None, Result, Ok, Err, sym, ap, ◌∙◌, refl, subst}
use Rattle.std.proofs.lemmas.List.{append-nil}
use Rattle.std.specs.Option.{option_map}
use Rattle.tape_types.specs.declared.cartridges.Part.TheVariants.{Ip}
use Rattle.tape_types.specs.declared.cartridges.Place.{Place}
use Rattle.tape_types.specs.declared.moments.Moment.{Moment}
use Rattle.extent_map.specs.Cells.{Tape}
use Rattle.file_tree.specs.Tree.{FileTree}
use Rattle.tape_layout.specs.Admissions.{Admission, IsAdmitted, close_admission}
use Rattle.tape_layout.specs.Ops.{construct}
use Rattle.tape_layout.specs.Plans.{Plan}
use Rattle.tape_layout.specs.declared.errors.AdmitErr.{AdmitErr}
use Rattle.tape_layout.specs.declared.errors.AdmitErr.TheVariants.{Full, NoMemory}
use Rattle.space_laws.specs.Closing.{close_ask, close_limit, close_need, close_text, is_dp_due, is_ip_due}
use Rattle.space_laws.specs.Files.{canon, index_at}
use Rattle.space_laws.specs.Space as space
use Rattle.space_laws.specs.Space.{Ask, index, is_over, nothing, ops_of, plan_of}
use Rattle.space_laws.specs.Standing.{Given, Standing, rules, sync_text}
use Rattle.held_volume.specs.VolumeSync.Frames.{IsCloseOf, IsSync, close_index, sync_index}
use Rattle.held_volume.specs.declared.volume_sync.frames.Frame.{Frame}
use Rattle.held_volume.specs.Applied.{IsUnchanged}
use Rattle.held_volume.specs.Closed.{IsDpChange, IsDpDocument, IsDpDone, IsIpChange, IsIpDocument, IsIpDone, IsIpEnd, closed_dp}
use Rattle.held_volume.specs.Stocks.{IsStock, Stocked, stocked, with_index}
use Rattle.held_volume.proofs.Stands.{still_stands}
use Rattle.held_volume.proofs.Syncing.{asked_stands, asks_more, asks_no_more, limit_asked, need_asked, ops_asked}
use Rattle.held_volume.proofs.Texts.{close_text_is, text_is}

-- ---- what is due

neither : (a b : Bool) → not (a || b) ≡ (not b && not a)
neither true true = refl
neither true false = refl
neither false true = refl
neither false false = refl

not_both : (a b : Bool) → not (not a && b) ≡ (a || not b)
not_both true b = refl
not_both false b = refl

abbrev with_asked : Given → Bool → Standing → Ask → Standing
with_asked g on st ask = record st { space = space.after (rules g) on st.space ask }

module _ (g : Given) (on : Bool) (st : Standing) (at : Moment) where
  asks_index : is_dp_due g st.space ≡ true → close_ask g st at ≡ index (sync_text g st at)
  asks_index due = ap (λ b. if b then index (sync_text g st at) else nothing) due

  asks_nothing : is_dp_due g st.space ≡ false → close_ask g st at ≡ nothing
  asks_nothing due = ap (λ b. if b then index (sync_text g st at) else nothing) due

  closed_index : is_dp_due g st.space ≡ true → closed_dp g on st at ≡ with_asked g on st (index (sync_text g st at))
  closed_index due = ap (with_asked g on st) (asks_index due)

  closed_still : is_dp_due g st.space ≡ false → closed_dp g on st at ≡ st
  closed_still due = ap (with_asked g on st) (asks_nothing due)

module _ (tape : Tape) (g : Given) (on : Bool) (st : Standing) (s : Stocked) (i : IsStock tape g on st s) where
  dp_due : (b : Bool) → (s.frame.changed || not s.frame.dp_done) ≡ b → is_dp_due g st.space ≡ b
  dp_due b is = sym (ap (λ (f : Frame). f.changed || not f.dp_done) i.frame ∙ ap (λ b. st.space.changed || b) (neither st.space.admitted g.mounted.dp_done)) ∙ is

  ip_due : (b : Bool) → s.frame.ip_done ≡ b → is_ip_due g st.space ≡ not b
  ip_due b is = sym (ap (λ (f : Frame). not f.ip_done) i.frame ∙ not_both st.space.admitted g.mounted.ip_done) ∙ ap not is

-- ---- the texts

module _ (t : FileTree) (l : Plan) (f : Frame) (at : Moment) (tape : Tape) (g : Given) (on : Bool) (st : Standing) (i : IsStock tape g on st (stocked t l f)) where
  -- both are due
  pub both_told : (end_ip end_dp : ℕ) (dp ip : List ℕ) → (f.changed || not f.dp_done) ≡ true → end_ip ≡ l.ends.ip → end_dp ≡ l.ends.dp
      → dp ≡ canon (sync_index f t end_dp at) → ip ≡ canon (close_index f t (f.generation + 1) (Some (end_dp + 1)) end_ip at)
      → IsDpDocument g st at (Some dp) × IsIpDocument g (closed_dp g on st at) at (Some ip)
  both_told end_ip end_dp dp ip due ip_end dp_end dp_is ip_is =
      let is_due : is_dp_due g st.space ≡ true = dp_due tape g on st (stocked t l f) i true due in
      let closed : closed_dp g on st at ≡ with_asked g on st (index (sync_text g st at)) = closed_index g on st at is_due in (
        (is_due, dp_is ∙ ap (λ n. canon (sync_index f t n at)) dp_end ∙ text_is tape g on st (stocked t l f) i at),
        (
          ap (λ (x : Standing). is_ip_due g x.space) closed,
          ip_is ∙ ap (λ n. canon (close_index f t (f.generation + 1) (Some (end_dp + 1)) n at)) ip_end
              ∙ close_text_is tape g on st (stocked t l f) i at (f.generation + 1) (Some (end_dp + 1))
              ∙ ap (λ n. canon (index_at g.mounted st.tree st.files (f.generation + 1) at Ip (st.space.ends.ip + 1) (Some (n + 1)))) dp_end
              ∙ ap (λ (p : Plan). canon (index_at g.mounted st.tree st.files (f.generation + 1) at Ip (st.space.ends.ip + 1) (Some (p.ends.dp + 1)))) i.layout
              ∙ ap (λ (f : Frame). canon (index_at g.mounted st.tree st.files (f.generation + 1) at Ip (st.space.ends.ip + 1) (Some (st.space.ends.dp + 1)))) i.frame
              ∙ ap (λ (x : Standing). close_text g x at) (sym closed),
        ),
      )

  module _ (due : (f.changed || not f.dp_done) ≡ false) where
    not_due : is_dp_due g st.space ≡ false
    not_due = dp_due tape g on st (stocked t l f) i false due

    -- that of the index partition alone
    pub ip_told : (end_ip : ℕ) (ip : List ℕ) → f.ip_done ≡ false → end_ip ≡ l.ends.ip → ip ≡ canon (close_index f t f.generation f.last_dp end_ip at)
        → IsDpDocument g st at None × IsIpDocument g (closed_dp g on st at) at (Some ip)
    ip_told end_ip ip open_end ip_end ip_is =
        let closed : closed_dp g on st at ≡ st = closed_still g on st at not_due in (
          not_due,
          (
            ap (λ (x : Standing). is_ip_due g x.space) closed ∙ ip_due tape g on st (stocked t l f) i false open_end,
            ip_is ∙ ap (λ n. canon (close_index f t f.generation f.last_dp n at)) ip_end
                ∙ close_text_is tape g on st (stocked t l f) i at f.generation f.last_dp
                ∙ ap (λ (f : Frame). canon (index_at g.mounted st.tree st.files f.generation at Ip (st.space.ends.ip + 1) f.last_dp)) i.frame
                ∙ ap (λ (x : Standing). close_text g x at) (sym closed),
          ),
        )

    -- none
    pub none_told : f.ip_done ≡ true → IsDpDocument g st at None × IsIpDocument g (closed_dp g on st at) at None
    none_told done =
        (not_due, ap (λ (x : Standing). is_ip_due g x.space) (closed_still g on st at not_due) ∙ ip_due tape g on st (stocked t l f) i true done)

-- ---- the index of the data partition

-- where a close's index on the data partition fits, what is held then is what stands
pub dp_admitted : (t : FileTree) (l now : Plan) (f after : Frame) (at : Moment) (text : List ℕ) (early : Tape) (g : Given) (on : Bool) (st : Standing) → IsStock early g on st (stocked t l f)
    → IsDpDocument g st at (Some text) → (place : Place) → IsSync text l now f after (Ok place) → IsDpDone early g on st at (stocked t l f) (stocked t now (with_index after))
dp_admitted t l now f after at text early g on st i told place s =
    subst (λ a. IsDpDone early g on st at (stocked t l f) (stocked t now (with_index a))) (sym s.frame) (record {
      fits = asks_no_more t l f at text early g on st i told.1 (close_ask g st at) asked s.admitted.0;
      ops = ops_asked t l f at text early g on st i told.1 (close_ask g st at) asked now s.admitted.2;
      stands = λ late alike. asked_stands t l f at text early g on st i told.1 (close_ask g st at) asked now s.admitted.2 place s.admitted.1 late alike;
    })
  where
    asked : close_ask g st at ≡ index (sync_text g st at)
    asked = asks_index g on st at told.0

-- where a close's index on the data partition isn't admitted, what was held still is
pub dp_refused : (t : FileTree) (l now : Plan) (f after : Frame) (at : Moment) (text : List ℕ) (early : Tape) (g : Given) (on : Bool) (st : Standing) → IsStock early g on st (stocked t l f)
    → IsDpDocument g st at (Some text) → (e : AdmitErr) → IsSync text l now f after (Err e) → IsDpChange early g on st at (stocked t l f) (stocked t now after) (Err e)
dp_refused t l now f after at text early g on st i told (Full need limit) s = record {
  over = asks_more t l f at text early g on st i told.1 (close_ask g st at) asked s.admitted.0;
  need_is = s.admitted.1 ∙ need_asked t l f at text early g on st i told.1 (close_ask g st at) asked;
  limit_is = s.admitted.2 ∙ limit_asked t l f at text early g on st i told.1 (close_ask g st at) asked;
}
  where
    asked : close_ask g st at ≡ index (sync_text g st at)
    asked = asks_index g on st at told.0
dp_refused t l now f after at text early g on st i told NoMemory s = tt

-- where no index is due on the data partition, a close leaves what is held
pub dp_still : (t : FileTree) (l : Plan) (f : Frame) (early : Tape) (g : Given) (on : Bool) (st : Standing) (at : Moment) → IsStock early g on st (stocked t l f)
    → IsDpDocument g st at None → IsDpDone early g on st at (stocked t l f) (stocked t l f)
dp_still t l f early g on st at i told = record {
  fits = ap (is_over (rules g) on st.space) (asks_nothing g on st at told);
  ops = sym (append-nil l.ops) ∙ ap (λ ask. l.ops ++ ops_of (rules g) on st.space ask) (sym (asks_nothing g on st at told));
  stands = λ late alike. subst (λ (x : Standing). IsStock late g on x (stocked t l f)) (sym (closed_still g on st at told)) (still_stands t l f early late g on st i alike);
}

-- ---- that of the index partition

abbrev pub ended : Result Place AdmitErr → Result Unit AdmitErr
ended (Ok place) = Ok tt
ended (Err e) = Err e

module _ (t : FileTree) (l : Plan) (f : Frame) (at : Moment) (text : List ℕ) (early : Tape) (g : Given) (on : Bool) (st : Standing)
    (i : IsStock early g on st (stocked t l f)) (told : IsIpDocument g st at (Some text)) where
  abbrev ip_after : Plan
  ip_after = plan_of (rules g) on (space.after_close (rules g) (close_text g st at) st.space) (l.ops ++ construct g.mounted.label.block Ip st.space.ends.ip (close_text g st at))

  close_admitted : close_admission l text ≡ record { need = close_need g st at; limit = close_limit g; place = record { part = Ip; pos = st.space.ends.ip + 1 }; after = ip_after }
  close_admitted = ap (close_admission l) told.1 ∙ ap (λ p. close_admission p (close_text g st at)) i.layout

  pub ip_admitted : (now : Plan) (after : Frame) (place : Place) → IsCloseOf text l now f after (Ok place) → IsIpDone g st at (stocked t l f) (stocked t now after)
  ip_admitted now after place s = record {
    fits = subst (λ (a : Admission). a.need ≤ a.limit) close_admitted s.admitted.0;
    ops = ap (λ (p : Plan). p.ops) (s.admitted.2 ∙ ap (λ (a : Admission). a.after) close_admitted);
    tree = refl;
    frame = s.frame;
  }

  pub ip_refused : (now : Plan) (after : Frame) (e : AdmitErr) → IsCloseOf text l now f after (Err e) → IsIpChange g st at (stocked t l f) (stocked t now after) (Err e)
  ip_refused now after (Full need limit) s = record {
    over = subst (λ (a : Admission). a.limit < a.need) close_admitted s.admitted.0;
    need_is = s.admitted.1 ∙ ap (λ (a : Admission). a.need) close_admitted;
    limit_is = s.admitted.2 ∙ ap (λ (a : Admission). a.limit) close_admitted;
  }
  ip_refused now after NoMemory s = tt

-- by the text that is due
pub ip_end : (t : FileTree) (l now : Plan) (f after : Frame) (at : Moment) (due : Option (Vec ℕ Global)) (doc : Vec ℕ Global) (text : List ℕ) (early : Tape) (g : Given) (on : Bool) (st : Standing)
    → IsStock early g on st (stocked t l f) → IsIpDocument g st at (option_map (λ (doc : Vec ℕ Global). doc.items) due) → due ≡ Some doc → text ≡ doc.items → (r : Result Place AdmitErr)
    → IsCloseOf text l now f after r → IsIpEnd (option_map (λ (doc : Vec ℕ Global). doc.items) due) g st at (stocked t l f) (stocked t now after) (ended r)
ip_end t l now f after at due doc text early g on st i told is same r s =
    subst (λ (due : Option (Vec ℕ Global)). IsIpEnd (option_map (λ (doc : Vec ℕ Global). doc.items) due) g st at (stocked t l f) (stocked t now after) (ended r)) (sym is) (by r s)
  where
    is_due : IsIpDocument g st at (Some text)
    is_due = let told = subst (λ (due : Option (Vec ℕ Global)). IsIpDocument g st at (option_map (λ (doc : Vec ℕ Global). doc.items) due)) is told in
        (told.0, same ∙ told.1)

    by : (r : Result Place AdmitErr) → IsCloseOf text l now f after r → IsIpChange g st at (stocked t l f) (stocked t now after) (ended r)
    by (Ok place) s = ip_admitted t l f at text early g on st i is_due now after place s
    by (Err e) s = ip_refused t l f at text early g on st i is_due now after e s

-- where no index is due on the index partition, a close leaves what is held
pub ip_still : (s : Stocked) (due : Option (Vec ℕ Global)) (g : Given) (st : Standing) (at : Moment) → due ≡ None
    → IsIpEnd (option_map (λ (doc : Vec ℕ Global). doc.items) due) g st at s s (Ok tt)
ip_still s due g st at is = subst (λ (due : Option (Vec ℕ Global)). IsIpEnd (option_map (λ (doc : Vec ℕ Global). doc.items) due) g st at s s (Ok tt)) (sym is) (refl, refl)

ip_unchanged : (t : FileTree) (l now : Plan) (f after : Frame) (text : List ℕ) (e : AdmitErr) → IsCloseOf text l now f after (Err e) → IsUnchanged (stocked t l f) (stocked t now after)
ip_unchanged t l now f after text e s =
    subst (λ p. IsUnchanged (stocked t l f) (stocked t p after)) (sym (same e s.admitted)) (subst (λ a. IsUnchanged (stocked t l f) (stocked t l a)) (sym s.frame) alike)
  where
    same : (e : AdmitErr) → IsAdmitted (close_admission l text) l now (Err e) → now ≡ l
    same (Full need limit) admitted = admitted.3
    same NoMemory admitted = admitted

    alike : IsUnchanged (stocked t l f) (stocked t l f)
    alike = record { layout = refl; frame = refl; stands = λ tape g on st i. i }
