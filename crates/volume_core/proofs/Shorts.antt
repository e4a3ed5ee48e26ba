-- Where a close has too little space.
use Rattle.std.proofs.Common.{◌≡◌, ◌<◌, ◌≤◌, ⊎_elim, inl, inr, ℕ, Bool, true, false, List, Option, length, sym, ◌∙◌}
use Rattle.std.proofs.Common.{arith}
use Rattle.tape_types.specs.declared.moments.Moment.{Moment}
use Rattle.extent_map.specs.Cells.{Tape}
use Rattle.plain_tree.specs.declared.calls.Placed.{Placed}
use Rattle.space_laws.specs.Closing.{close_limit, close_need, is_ip_due}
use Rattle.space_laws.specs.Standing.{Given, Standing, is_on, standing}
use Rattle.held_volume.specs.Closed.{closed_dp}
use Rattle.held_volume.specs.Stocks.{IsStock, Stocked}
use Rattle.promises.specs.ServingPromise.Ends.{IsCloseShort, IsDpShort, IsShortOnDp}
use Rattle.volume_core.specs.Finish.{AdmitsOnDp, AdmitsOnIp, IsAdmittedOnIp, IsShortOnIp}
use Rattle.volume_core.specs.Finish as told

not_both : (b : Bool) → b ≡ true → b ≡ false → ⊥
not_both b is other = let wrong : true ≡ false = sym is ∙ other in cc wrong

not_over : (a b : ℕ) → a < b → b ≤ a → ⊥
not_over a b less more = omega (arith, less, more)

-- What is held is what stands at the end of a history.
module _ (tape : Tape) (g : Given) (on : Option ℕ) (history : List Placed) (at : Moment) (held : Stocked)
    (stock : IsStock tape g (is_on g.mounted on (length history)) (standing g on history (length history)) held) where
  abbrev on_now : Bool
  on_now = is_on g.mounted on (length history)

  abbrev st : Standing
  st = standing g on history (length history)

  -- a close without room on the data partition is short by the space's numbers
  pub dp_short : (need limit : ℕ) → told.IsShortOnDp at held need limit → IsDpShort g on_now st at need limit
  dp_short need limit short =
      let full = short tape g on_now st stock in
      record { over = full.over; need_is = full.need_is; limit_is = full.limit_is }

  -- a close without room on the data partition is short by the history's numbers
  pub short_on_dp : (need limit : ℕ) → told.IsShortOnDp at held need limit → IsCloseShort g on history at need limit
  short_on_dp need limit short = inl (dp_short need limit short)

  -- an index of the data partition that was admitted isn't short there
  pub fits_dp : (mid : Stocked) → AdmitsOnDp at held mid → IsShortOnDp g on history at → ⊥
  fits_dp mid admits short = not_both _ short.2.over (admits tape g on_now st stock).fits

  -- a close without room on the index partition is short by the history's numbers
  pub short_on_ip : (need limit : ℕ) (mid : Stocked) → AdmitsOnDp at held mid → IsShortOnIp at held need limit
      → IsCloseShort g on history at need limit
  short_on_ip need limit mid admits short =
      let full = short tape g on_now st stock in
      inr (
        fits_dp mid admits,
        record {
          due = full.0;
          over = omega (arith, full.1.over, full.1.need_is, full.1.limit_is);
          need_is = full.1.need_is;
          limit_is = full.1.limit_is;
        },
      )

  fits_ip : (mid last : Stocked) (due : Bool) → IsAdmittedOnIp g (closed_dp g on_now st at) at mid last due
      → is_ip_due g (closed_dp g on_now st at).space ≡ true
      → close_limit g < close_need g (closed_dp g on_now st at) at → ⊥
  fits_ip mid last true admitted is over =
      not_over (close_limit g) (close_need g (closed_dp g on_now st at) at) over admitted.1.fits
  fits_ip mid last false admitted is over = not_both _ is admitted.0

  -- a close whose indexes were admitted isn't short
  pub not_short : (mid last : Stocked) (due : Bool) → AdmitsOnDp at held mid → AdmitsOnIp at held mid last due
      → (need limit : ℕ) → IsCloseShort g on history at need limit → ⊥
  not_short mid last due dp ip need limit short =
      ⊎_elim (λ on_dp. fits_dp mid dp (need, limit, on_dp))
      (λ other.
      fits_ip mid last due (ip tape g on_now st stock) other.1.due
      (omega (arith, other.1.over, other.1.need_is, other.1.limit_is))) short
