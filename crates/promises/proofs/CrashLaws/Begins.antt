-- A volume that begins is safe.
use Rattle.std.proofs.Common.{◌≡◌, ◌≢◌, ℕ, zero, suc, ◌≤◌, Bool, true, false, cond, nat_lt, List, [], ◌∷◌, Option, Some, None, refl, sym, ap, subst, ◌∙◌, arith}
use Rattle.std.specs.Prelude.{◌||◌, take}
use Rattle.std.specs.Option.{option_map}
use Rattle.tape_types.specs.declared.cartridges.Cartridge.{Cartridge}
use Rattle.tape_types.specs.declared.cartridges.Part.{Part}
use Rattle.tape_types.specs.declared.cartridges.Part.TheVariants.{Ip, Dp}
use Rattle.tape_types.specs.declared.cartridges.Place.{Place}
use Rattle.tape_drive.specs.declared.drive.Drive.{Ghosts}
use Rattle.content_laws.specs.Readings.{Construct}
use Rattle.index_model.specs.declared.indexes.Index.{Index}
use Rattle.cartridge_meaning.specs.Carried.{carried}
use Rattle.cartridge_meaning.specs.Mounts.{Mounts, chosen_place, last_place}
use Rattle.cartridge_meaning.specs.Pointers.{indexes_of, last_block}
use Rattle.cartridge_meaning.proofs.OneWay.{same_on_dp, same_on_ip}
use Rattle.plain_tree.specs.History.{replay}
use Rattle.session_script.specs.Grammar.{calls_of}
use Rattle.space_laws.specs.Space.{first_space}
use Rattle.promises.specs.ImageLaws.Fine.{GoesOn}
use Rattle.promises.specs.ImageLaws.Laws.{first_state}
use Rattle.promises.specs.ImageLaws.Made.{Volume}
use Rattle.promises.specs.ImageLaws.Moments.{moment_of}
use Rattle.promises.specs.ImageLaws.Starts.{CanStart, IsFirstSpace, ahead_of, begun_with, made_of}
use Rattle.promises.proofs.ImageLaws.Stated.{histories_go_on, starts_are_kept}
use Rattle.promises.specs.ServingPromise.Ends.{begun}
use Rattle.promises.specs.ServingPromise.Mount.{facts_of}
use Rattle.promises.specs.ServingPromise.Served.{Fixed}
use Rattle.promises.specs.CrashLaws.Laws.{CanServe, StartsAreSafe}
use Rattle.promises.specs.CrashLaws.Safe.{trees_of}

-- ---- where the chosen index is the data partition's, none is ahead on the other

by_ip_on : (ip_on : Bool) → (ip_on || false) ≡ true → ip_on ≡ true
by_ip_on true e = refl
by_ip_on false e = e

-- an index partition's place is none of the data partition
abbrev on_part : Part → ℕ → Place
on_part part pos = record { part = part; pos = pos }

not_both : (ip dp : Option ℕ) → dp ≢ None → option_map (on_part Ip) ip ≡ option_map (on_part Dp) dp → ⊥
not_both ip None some e = some refl
not_both None (Some pos) some e = let none : None ≡ Some (on_part Dp pos) = e in cc
not_both (Some at) (Some pos) some e =
    let both : Some (on_part Ip at) ≡ Some (on_part Dp pos) = e in
    let parts : on_part Ip at ≡ on_part Dp pos = cc in
    let differ : Ip ≡ Dp = ap (λ (p : Place). p.part) parts in
    cc

some_block : (ks : List Construct) → ks ≢ [] → last_block ks ≢ None
some_block [] some e = some refl
some_block (k ∷ ks) some e = cc

none_ahead : (c : Cartridge) (on_ip : Option Index) (on_dp : Index) → indexes_of c.dp ≢ []
    → chosen_place on_ip (Some on_dp) c ≡ last_place Dp c → ahead_of on_ip on_dp ≡ None
none_ahead c None on_dp some chosen = refl
none_ahead c (Some on_ip) on_dp some chosen = by (nat_lt on_dp.generation on_ip.generation) refl
  where
    by : (b : Bool) → nat_lt on_dp.generation on_ip.generation ≡ b → ahead_of (Some on_ip) on_dp ≡ None
    by false is = rw is refl
    by true is = absurd (not_both (last_block (indexes_of c.ip)) (last_block (indexes_of c.dp)) (some_block (indexes_of c.dp) some)
        (sym (ap (λ (b : Bool). cond b (last_place Ip c) (last_place Dp c)) is) ∙ chosen))

module _ {D : Type 0} (drive : Ghosts D)
    (counts_now : (d : D) (t : ℕ) (image : Cartridge) → t ≤ drive.commands d → drive.leaves d image → drive.left_since d t image) where
  abbrev can_start : (fixed : Fixed D) (can : CanServe drive fixed)
      → CanStart (record { labels = can.reads_as.0.reads.found.labels; facts = carried fixed.mounted.index }) (moment_of drive fixed.first can.held)
      fixed.since fixed.tree fixed.mounted.newest
  can_start fixed can = record {
    stands = can.reads_as.0;
    labels = can.reads_as.0.reads.found.forms.has;
    one = can.reads_as.1.one_index;
    honest = can.reads_as.1.honest;
    reached = can.reached;
    pending = can.sure;
    now = λ c left. can.sure c (counts_now fixed.first fixed.since c can.reached left);
  }

  first_is : (fixed : Fixed D) (can : CanServe drive fixed) → Mounts can.held fixed.mounted
      → IsFirstSpace can.held fixed.mounted.newest (first_space (facts_of fixed.mounted))
  first_is fixed can mounts = record { end_ip = mounts.ip_end; end_dp = mounts.dp_end; newest = refl; last_dp = mounts.last_dp }

  -- a volume mounted from a cartridge that is sound is safe when it begins
  pub starts_are_safe : StartsAreSafe drive
  starts_are_safe fixed next can mounts =
      let found = can.reads_as.0.reads.found in
      let start = can_start fixed can in
      let volume : Volume = record { labels = found.labels; facts = carried fixed.mounted.index } in
      let space = first_space (facts_of fixed.mounted) in
      let begins = (starts_are_kept drive).serving volume fixed.first can.held fixed.since fixed.tree fixed.mounted.newest start in
      let serving = begins.2 space (first_is fixed can mounts) in
      let more : GoesOn (begun_with fixed.tree) (trees_of (begun fixed next)) = record { longer = omega arith; same = λ k le. none_placed fixed k } in (
        begins.0,
        begins.1,
        record {
          made = made_of can.held found.on_ip begins.0;
          jobs = [];
          held = can.held;
          told = can.told;
          ops = refl;
          plan = refl;
          serving = (histories_go_on drive).still (first_state volume can.held fixed.since fixed.tree found.on_ip begins.0) space (trees_of (begun fixed next)) fixed.first
              can.held more (λ j low high. none_placed fixed j ∙ sym (none_placed fixed 0)) serving;
          in_order = tt;
          may_write = λ place on.
              let chosen = mounts.ip_on.0 (by_ip_on fixed.mounted.ip_on on) in
              none_ahead can.held found.on_ip begins.0 chosen.0
              (subst (λ (o : Option Index). chosen_place o (Some begins.0) can.held ≡ last_place Dp can.held) (same_on_ip can.held mounts.found found)
              (subst (λ (o : Option Index). chosen_place mounts.found.on_ip o can.held ≡ last_place Dp can.held)
              (same_on_dp can.held mounts.found found ∙ begins.1) chosen.1));
          settles = tt;
        },
      )
    where
      none_placed : (fixed : Fixed D) (k : ℕ) → replay (calls_of fixed.script) fixed.tree (take k []) ≡ fixed.tree
      none_placed fixed zero = refl
      none_placed fixed (suc k) = refl
