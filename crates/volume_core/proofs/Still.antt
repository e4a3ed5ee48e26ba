-- A close that has no index to write at all.
use Rattle.std.proofs.Common.{◌≡◌, ◌≢◌, ℕ, ◌+◌, ◌≤◌, ◌||◌, ◌&&◌, not, Bool, true, false, cond, nat_lt, List, [], ◌∷◌}
use Rattle.std.proofs.Common.{◌++◌, Option, Some, None, refl, sym, ap, subst, ◌∙◌}
use Rattle.std.specs.Option.{option_map}
use Rattle.std.proofs.lemmas.Bool.{not-false}
use Rattle.std.proofs.lemmas.Option.{same_Some}
use Rattle.tape_types.specs.declared.cartridges.Cartridge.{Cartridge}
use Rattle.tape_types.specs.declared.cartridges.Part.{Part}
use Rattle.tape_types.specs.declared.cartridges.Part.TheVariants.{Ip, Dp}
use Rattle.tape_types.specs.declared.cartridges.Place.{Place}
use Rattle.tape_types.specs.declared.moments.Moment.{Moment}
use Rattle.tape_drive.specs.declared.drive.Drive.{Ghosts}
use Rattle.index_model.specs.declared.indexes.Index.{Index}
use Rattle.content_laws.specs.Readings.{Construct}
use Rattle.tape_layout.specs.declared.ops.Op.{Op}
use Rattle.cartridge_meaning.specs.Meaning.{Found, ip_end}
use Rattle.cartridge_meaning.specs.Mounts.{IsDpDone, IsIpDone, Mounts, chosen_place, last_place}
use Rattle.cartridge_meaning.specs.Pointers.{IsLastOnDp, IsLastOnIp, chosen, indexes_of, last_block}
use Rattle.cartridge_meaning.specs.declared.mounted.Mounted.{Mounted}
use Rattle.ltfs_label.specs.Values.{label_of}
use Rattle.promises.proofs.ImageLaws.Cut.{long_front}
use Rattle.space_laws.specs.Closing.{is_dp_due, is_ip_due}
use Rattle.space_laws.specs.Space as space
use Rattle.space_laws.specs.Space.{Space, first_space, ops_of}
use Rattle.space_laws.specs.Standing.{Given, Standing, rules, sync_text}
use Rattle.promises.specs.ServingPromise.Served.{Fixed}
use Rattle.promises.specs.PromiseLaws.Kept.{CanRead}
use Rattle.volume_state.specs.StateLaws.Parts.{Parts}
use Rattle.volume_state.specs.ClosingLaws.Closing.{IsAtRest}
use Rattle.volume_core.specs.Commands.{Lasts}
use Rattle.volume_core.specs.Promised.{CanClose}
use Rattle.volume_core.proofs.Admitted as admitted
use Rattle.volume_core.proofs.Ended.{ends_at_last}
use Rattle.volume_core.specs.May.{MayTell}
use Rattle.volume_core.proofs.Unchanged.{unchanged}

-- ---- the last indexes of a cartridge whose partitions are both done

abbrev on_part : Part → ℕ → Place
on_part part pos = record { part = part; pos = pos }

not_both : (ip dp : Option ℕ) → dp ≢ None → option_map (on_part Ip) ip ≡ option_map (on_part Dp) dp → ⊥
not_both ip None some e = some refl
not_both None (Some pos) some e = let none : None ≡ Some (on_part Dp pos) = e in cc
not_both (Some at) (Some pos) some e =
    let both : Some (on_part Ip at) ≡ Some (on_part Dp pos) = e in
    let differ : Ip ≡ Dp = ap (λ (p : Place). p.part) (same_Some (on_part Ip at) (on_part Dp pos) both) in
    cc

some_block : (ks : List Construct) → ks ≢ [] → last_block ks ≢ None
some_block [] some e = some refl
some_block (k ∷ ks) some e = cc

-- the chosen index is the data partition's
dp_chosen : (c : Cartridge) (on_ip on_dp : Option Index) (x : Index) → indexes_of c.dp ≢ []
    → chosen on_ip on_dp ≡ Some x → chosen_place on_ip on_dp c ≡ last_place Dp c → on_dp ≡ Some x
dp_chosen c None on_dp x some is place = is
dp_chosen c (Some i) None x some is place =
    absurd (not_both (last_block (indexes_of c.ip)) (last_block (indexes_of c.dp)) (some_block (indexes_of c.dp) some)
    place)
dp_chosen c (Some i) (Some d) x some is place = by (nat_lt d.generation i.generation) refl
  where
    by : (b : Bool) → nat_lt d.generation i.generation ≡ b → Some d ≡ Some x
    by false e = ap (λ (b : Bool). Some (cond b i d)) (sym e) ∙ is
    by true e = absurd (not_both (last_block (indexes_of c.ip)) (last_block (indexes_of c.dp))
        (some_block (indexes_of c.dp) some)
        (sym (ap (λ (b : Bool). cond b (last_place Ip c) (last_place Dp c)) e) ∙ place))

module _ (c : Cartridge) (m : Mounted) (mounts : Mounts c m) (ip_done : m.ip_done ≡ true)
    (dp_done : m.dp_done ≡ true) where
  -- what was found of the cartridge at the mount
  abbrev pub f : Found c
  f = mounts.found

  -- the index partition was done at the mount
  pub ip_is : IsIpDone c mounts.found
  ip_is = mounts.ip_done.0 ip_done

  -- the data partition was done at the mount
  pub dp_is : IsDpDone c mounts.found
  dp_is = mounts.dp_done.0 dp_done

  -- the index that was mounted is the last of the data partition
  pub on_dp_is : mounts.found.on_dp ≡ Some mounts.found.index
  on_dp_is = dp_chosen c mounts.found.on_ip mounts.found.on_dp mounts.found.index ip_is.has_dp mounts.found.choice
      dp_is.choice

  -- the data partition ends with that index
  pub dp_last : IsLastOnDp mounts.found.labels.ip (indexes_of c.dp) (Some mounts.found.index)
  dp_last = subst (λ (o : Option Index). IsLastOnDp mounts.found.labels.ip (indexes_of c.dp) o) on_dp_is
      mounts.found.dp_last

  ip_block : last_block (indexes_of c.ip) ≡ Some (ip_end c + 1)
  ip_block = ends_at_last c.ip mounts.found.forms.ip
      (long_front c.ip mounts.found.labels.ip_record (label_of mounts.found.labels.ip)
      mounts.found.forms.has.ip_record
      mounts.found.forms.has.ip) ip_is.ends

  -- the notes may tell of both as they were mounted
  pub mounts_tell : (lasts : Lasts) → lasts.generation ≡ m.newest → lasts.on_ip ≡ m.end_ip + 1
      → lasts.on_dp ≡ m.last_dp → MayTell c mounts.found.labels.ip lasts
  mounts_tell lasts generation on_ip on_dp = record {
    ip = λ vcr. record {
      index = ip_is.on_ip;
      last = (
        mounts.found.on_dp,
        mounts.found.dp_last,
        subst (λ (o : Option Index). IsLastOnIp mounts.found.labels.ip (indexes_of c.ip) (indexes_of c.dp)
            mounts.found.on_dp o) ip_is.last mounts.found.ip_last,
      );
      generation = generation ∙ mounts.newest ∙ sym ip_is.generation;
      block = ip_block ∙ ap (λ (n : ℕ). Some (n + 1)) (sym mounts.ip_end) ∙ ap (λ (n : ℕ). Some n) (sym on_ip);
    };
    dp = λ vcr block is. record {
      index = mounts.found.index;
      last = dp_last;
      generation = generation ∙ mounts.newest;
      block = sym mounts.last_dp ∙ sym on_dp ∙ is;
    };
  }

-- ---- a close at which none is due

-- where neither of two holds, the first doesn't
pub or_left : (a b : Bool) → (a || b) ≡ false → a ≡ false
or_left false b is = refl
or_left true b is = is

or_right : (a b : Bool) → (a || b) ≡ false → b ≡ false
or_right false b is = is
or_right true b is = absurd (let wrong : true ≡ false = is in cc wrong)

done_first : (done admitted : Bool) → (not done && not admitted) ≡ false → admitted ≡ false → done ≡ true
done_first true admitted is none = refl
done_first false false is none = absurd (let wrong : true ≡ false = is in cc wrong)
done_first false true is none = absurd (let wrong : true ≡ false = none in cc wrong)

-- Nothing was asked of the tape, which is at rest as it was at the start.
pub record IsStill {D : Type 0} (drive : Ghosts D) (fixed : Fixed D) (next : Option Moment) (at : Moment) (p : Parts D)
    : Type 0 where
  pub changed : (admitted.st drive fixed next at p).space.changed ≡ false
  pub admitted_none : (admitted.st drive fixed next at p).space.admitted ≡ false
  pub not_due : is_dp_due (admitted.g drive fixed next at p) (admitted.st drive fixed next at p).space ≡ false
  pub space_is : (admitted.st1 drive fixed next at p).space
      ≡ first_space (admitted.g drive fixed next at p).mounted
  pub no_ops : p.stock.layout.ops ++ admitted.asked drive fixed next at p ≡ []
  pub held : drive.held p.drive ≡ drive.held fixed.first
  pub ip_done : fixed.mounted.ip_done ≡ true
  pub dp_done : fixed.mounted.dp_done ≡ true
  pub rest : IsAtRest drive p.drive

module _ {D : Type 0} (drive : Ghosts D) (fixed : Fixed D) (next : Option Moment) (at : Moment) (p : Parts D)
    (can : CanClose drive fixed next at p)
    (counts_now : (d : D) (t : ℕ) (image : Cartridge) → t ≤ drive.commands d → drive.leaves d image
    → drive.left_since d t image) (read : CanRead drive fixed) where
  abbrev g : Given
  g = admitted.g drive fixed next at p

  abbrev on : Bool
  on = admitted.on drive fixed next at p

  abbrev st : Standing
  st = admitted.st drive fixed next at p

  still_rest : st.space.changed ≡ false → st.space.admitted ≡ false → IsAtRest drive p.drive
  still_rest same none held told image left =
      let start = counts_now fixed.first fixed.since image read.reached (can.runs.closes.rests read same none image left) in
      let same_held = ((can.runs.closes.tape read).untouched same none).1 in
      read.sure image start ∙ same_Some read.held held (sym read.told ∙ sym same_held ∙ told)

  -- where no index is due on the index partition, nothing was asked of the tape since the mount
  pub still : is_ip_due g (admitted.st1 drive fixed next at p).space ≡ false → IsStill drive fixed next at p
  still not_ip = by (is_dp_due g st.space) refl
      (or_left (admitted.st1 drive fixed next at p).space.admitted (not fixed.mounted.ip_done) not_ip)
    where
      by : (due : Bool) → is_dp_due g st.space ≡ due
          → (space.after (rules g) on st.space (admitted.ask_by due (sync_text g st at))).admitted ≡ false
          → IsStill drive fixed next at p
      by true is none = absurd (let wrong : true ≡ false = none in cc wrong)
      by false is none =
          let same = or_left st.space.changed (not fixed.mounted.dp_done && not st.space.admitted) is in
          let untouched = (can.runs.closes.tape read).untouched same none in
          record {
            changed = same;
            admitted_none = none;
            not_due = is;
            space_is = ap (λ (due : Bool). space.after (rules g) on st.space
                (admitted.ask_by due (sync_text g st at))) is
                ∙ unchanged g p.on p.listed.history same none;
            no_ops = ap (λ (l : List Op). l ++ admitted.asked drive fixed next at p) untouched.0
                ∙ ap (λ (due : Bool). ops_of (rules g) on st.space (admitted.ask_by due (sync_text g st at))) is;
            held = untouched.1;
            ip_done = not-false fixed.mounted.ip_done
                (or_right (admitted.st1 drive fixed next at p).space.admitted (not fixed.mounted.ip_done) not_ip);
            dp_done = done_first fixed.mounted.dp_done st.space.admitted
                (or_right st.space.changed (not fixed.mounted.dp_done && not st.space.admitted) is) none;
            rest = still_rest same none;
          }
