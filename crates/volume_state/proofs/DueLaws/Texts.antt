-- That what is admitted of a text is short.
use Rattle.std.proofs.Common.{ℕ, ◌≡◌, ◌+◌, ◌*◌, ◌^◌, ◌<◌, ◌≤◌, Bool, true, false, nat_lt, cond, List, length, sym, ◌∙◌, refl, subst, arith}
use Rattle.std.specs.Prelude.{if◌then◌else◌}
use Rattle.std.specs.Int.{div_ceil}
use Rattle.std.proofs.Math.Nat.{mul-le-mul}
use Rattle.std.proofs.lemmas.Bool.Decides.{nat_tests}
use Rattle.std.proofs.lemmas.Grind.{div_ceil_times}
use Rattle.tape_types.specs.Bounds.{most_positions}
use Rattle.tape_types.specs.declared.cartridges.Part.TheVariants.{Dp}
use Rattle.space_laws.specs.Space.{Rules, Space, index, index_need, is_over, nothing}
use Rattle.space_laws.specs.Standing.{rules, sync_text}
use Rattle.volume_state.specs.DueLaws.Laws.{AdmittedTextsAreShort}

short : (size long end cap : ℕ) → 1 ≤ size → size ≤ 1048576 → cap ≤ most_positions → end + 2 + div_ceil long size ≤ cap
    → long < 2 ^ 64
short size long end cap some most near fits =
    let all : long ≤ div_ceil long size * size = (div_ceil_times long size some).0 in
    let blocks : div_ceil long size ≤ most_positions = omega (arith, near, fits) in
    let most_bytes : div_ceil long size * size ≤ most_positions * 1048576 = mul-le-mul blocks most in
    omega (arith, all, most_bytes)

-- an index that isn't over the limit ends within the capacity
within : (v : Rules) (on : Bool) (s : Space) (text : List ℕ) → is_over v on s (index text) ≡ false
    → index_need v Dp s text ≤ v.limits.cap_dp
within v on s text is = by (nat_lt (2 ^ 62) (s.newest + 1)) refl is
  where
    by : (b : Bool) → nat_lt (2 ^ 62) (s.newest + 1) ≡ b
        → nat_lt (if b then 2 ^ 62 else v.limits.cap_dp) (if b then s.newest + 1 else index_need v Dp s text) ≡ false
        → index_need v Dp s text ≤ v.limits.cap_dp
    by true none over = let wrong : true ≡ false = sym none ∙ over in cc
    by false some over = not_over v.limits.cap_dp (index_need v Dp s text) over
      where
        not_over : (a b : ℕ) → nat_lt a b ≡ false → b ≤ a
        not_over a b e = grind (arith, nat_tests, e)

-- the text of an index that is admitted has fewer than 2^64 bytes
pub are_short : AdmittedTextsAreShort
are_short = record {
  fits = λ v on s text limits some most is.
      short v.block_size (length text) s.ends.dp v.limits.cap_dp some most limits.dp_most (within v on s text is);
  synced = λ g on st at limits some most changed is.
      let admitted = subst (λ b. is_over (rules g) on st.space (cond b (index (sync_text g st at)) nothing) ≡ false)
      changed is in
      short g.mounted.label.block (length (sync_text g st at)) st.space.ends.dp g.limits.cap_dp some most
      limits.dp_most (within (rules g) on st.space (sync_text g st at) admitted);
}
