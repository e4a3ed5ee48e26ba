-- That a sync which fits has an index that can be told.
use Rattle.std.proofs.Common.{◌≡◌, ℕ, ◌+◌, ◌<◌, ◌≤◌, ◌^◌, Bool, true, false, cond, nat_lt, List, IfSome, Option, Some, None, sym, ap, ◌∙◌, refl, subst, arith}
use Rattle.std.proofs.lemmas.Bool.Decides.{nat_tests}
use Rattle.tape_types.specs.Bounds.{most_positions}
use Rattle.tape_types.specs.declared.cartridges.Limits.{Limits}
use Rattle.tape_types.specs.declared.cartridges.Part.TheVariants.{Dp}
use Rattle.tape_types.specs.declared.moments.Moment.{Moment}
use Rattle.plain_tree.specs.declared.calls.Call.TheVariants as asks
use Rattle.cartridge_meaning.specs.declared.mounted.Mounted.{Mounted}
use Rattle.space_laws.specs.Mount.{MountFacts}
use Rattle.space_laws.specs.Space as space
use Rattle.space_laws.specs.Space.{Ask, Rules, Space, blocks, change, index, index_need, is_over, nothing, store}
use Rattle.space_laws.specs.Standing.{Given, Standing, ask_of, rules, sync_text}
use Rattle.held_volume.specs.Synced.{CanTell, IsBackNear, IsMounted, SyncsCanTell}

-- an index that fits has a generation left, and its first block is near
record HasPlace (v : Rules) (s : Space) : Type 0 where
  generation : s.newest + 1 ≤ 2 ^ 62
  here : s.ends.dp + 1 ≤ 2 ^ 62

index_has_place : (v : Rules) (on : Bool) (s : Space) (text : List ℕ) → v.limits.cap_dp ≤ most_positions → is_over v on s (index text) ≡ false → HasPlace v s
index_has_place v on s text most fits = by (nat_lt (2 ^ 62) (s.newest + 1)) refl
  where
    by : (b : Bool) → nat_lt (2 ^ 62) (s.newest + 1) ≡ b → HasPlace v s
    by true test =
        let wrong : nat_lt (2 ^ 62) (s.newest + 1) ≡ false = sym (ap (λ b. nat_lt (cond b (2 ^ 62) v.limits.cap_dp) (cond b (s.newest + 1) (index_need v Dp s text))) test) ∙ fits in
        absurd (let both : true ≡ false = sym test ∙ wrong in cc)
    by false test =
        let low : nat_lt v.limits.cap_dp (index_need v Dp s text) ≡ false = sym (ap (λ b. nat_lt (cond b (2 ^ 62) v.limits.cap_dp) (cond b (s.newest + 1) (index_need v Dp s text))) test) ∙ fits in
        record { generation = no_less (2 ^ 62) (s.newest + 1) test; here = near s.ends.dp (blocks v text) v.limits.cap_dp most (no_less v.limits.cap_dp (index_need v Dp s text) low) }
      where
        no_less : (a b : ℕ) → nat_lt a b ≡ false → b ≤ a
        no_less a b e = grind (arith, nat_tests, e)

        near : (end count cap : ℕ) → cap ≤ most_positions → end + 2 + count ≤ cap → end + 1 ≤ 2 ^ 62
        near end count cap most h = omega (arith, most, h)

dp_most : (limits : Limits) (m : Mounted) (g : Given) → IsMounted limits m g → g.limits.cap_dp ≤ most_positions
dp_most limits m g is = subst (λ (l : Limits). l.cap_dp ≤ most_positions) (sym is.limits_are) is.range.dp_most

can_tell : (limits : Limits) (m : Mounted) (g : Given) (on : Bool) (st : Standing) (at : Moment) → IsMounted limits m g → st.space.changed ≡ true → is_over (rules g) on st.space (ask_of g st asks.Sync at) ≡ false → IsBackNear st → CanTell g st
can_tell limits m g on st at is changed fits back =
    let asked : ask_of g st asks.Sync at ≡ index (sync_text g st at) = ap (λ b. cond b (index (sync_text g st at)) nothing) changed in
    let place = index_has_place (rules g) on st.space (sync_text g st at) (dp_most limits m g is) (ap (is_over (rules g) on st.space) (sym asked) ∙ fits) in
    let mount = is.mount in
    record {
      letters_are = subst (λ (f : MountFacts). Rattle.file_tree.specs.Indexes.AreLetters (f.label.index, f.label.dpart)) (sym is.facts) (record { ip = mount.letters.0; dp = mount.letters.1 });
      differ = subst (λ (f : MountFacts). f.label.index ≡ f.label.dpart → ⊥) (sym is.facts) mount.letters.2;
      uuid = subst (λ (f : MountFacts). f.label.uuid < 2 ^ 128) (sym is.facts) (omega (arith, mount.uuid, mount.valid.formed.volume.uuid));
      facts = subst (λ (f : MountFacts). Rattle.file_tree.specs.Carried.AreFitFacts (Rattle.file_tree.specs.Carried.carried_of f.index)) (sym is.facts)
          (record { comment = mount.valid.formed.volume.comment; policy = mount.valid.formed.volume.policy });
      generation = place.generation;
      here = place.here;
      back = back;
    }

first_near : (limits : Limits) (m : Mounted) (g : Given) → IsMounted limits m g → IfSome g.mounted.last_dp (λ block. block ≤ 2 ^ 62)
first_near limits m g is = subst (λ (f : MountFacts). IfSome f.last_dp (λ block. block ≤ 2 ^ 62)) (sym is.facts) (by m.last_dp is.mount.last_dp)
  where
    by : (o : Option ℕ) → IfSome o (λ pos. pos < m.end_dp) → IfSome o (λ block. block ≤ 2 ^ 62)
    by None h = tt
    by (Some pos) h = omega (arith, h, is.mount.dp_end.1, is.range.dp_most)

near_after : (v : Rules) (on : Bool) (s : Space) (ask : Ask) → v.limits.cap_dp ≤ most_positions → is_over v on s ask ≡ false → IfSome s.last_dp (λ block. block ≤ 2 ^ 62)
    → IfSome (space.after v on s ask).last_dp (λ block. block ≤ 2 ^ 62)
near_after v on s nothing most fits back = back
near_after v on s change most fits back = back
near_after v on s (store wanted bytes) most fits back = back
near_after v on s (index text) most fits back = (index_has_place v on s text most fits).here

-- the index of a sync that fits can be told
pub syncs_can_tell : SyncsCanTell
syncs_can_tell = record {
  tells = can_tell;
  first = first_near;
  kept = λ limits m g on st call at is fits back. near_after (rules g) on st.space (ask_of g st call at) (dp_most limits m g is) fits back;
}
