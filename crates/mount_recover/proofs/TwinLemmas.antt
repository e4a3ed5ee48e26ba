-- An index of the index partition that is, but for its pointers, the last one of the data partition.
use Rattle.std.proofs.Common.{ℕ, ◌≤◌, ◌^◌, ◌≡◌, inl, List, Some, sym, ◌∙◌, ap, subst, arith}
use Rattle.tape_types.specs.Bounds.{most_positions}
use Rattle.tape_types.specs.declared.cartridges.Cartridge.{Cartridge}
use Rattle.tape_types.specs.declared.cartridges.Limits.{Limits}
use Rattle.tape_types.specs.Cartridges.{IsLimits}
use Rattle.index_model.specs.Grammar.{IndexText}
use Rattle.index_model.specs.Texts.{IsLetter}
use Rattle.index_model.specs.Valid.{IsSpot, IsValid}
use Rattle.index_model.specs.declared.indexes.Index.{Index}
use Rattle.index_model.specs.declared.indexes.Spot.{Spot}
use Rattle.content_laws.specs.Readings as readings
use Rattle.content_laws.specs.Readings.{first_of}
use Rattle.cartridge_meaning.specs.Pointers.{PointsOnIp, indexes_of}
use Rattle.cartridge_meaning.specs.declared.labels.Labels.{Labels}
use Rattle.volume_scan.specs.declared.content.Construct.{Construct}
use Rattle.mount_recover.specs.Labels.{AreLabels}
use Rattle.mount_recover.specs.Lasts.{IsDocument, IsInPlace, IsKnownIp, IsLastDp, IsLastIp, IsSoundLast, IsTwinAt, twin_of}
use Rattle.mount_recover.specs.declared.lasts.LastIndex.{LastIndex}
use Rattle.mount_recover.specs.declared.lasts.TwinIndex.{TwinIndex}
use Rattle.mount_recover.proofs.LastLemmas.{of_newest, right_ip}
use Rattle.mount_recover.proofs.LabelRanges.{letters_in_range}
use Rattle.mount_recover.proofs.MountLemmas.{spot_of}

-- an index is as valid with other pointers
valid_twin : (index : Index) (twin : TwinIndex) → IsValid index → IsSpot twin.here → IsSpot twin.back → IsValid (twin_of index twin)
valid_twin index twin valid here back = record {
  formed = record {
    volume = record {
      creator = valid.formed.volume.creator;
      comment = valid.formed.volume.comment;
      uuid = valid.formed.volume.uuid;
      generation_least = valid.formed.volume.generation_least;
      generation_most = valid.formed.volume.generation_most;
      here = here;
      back = back;
      policy = valid.formed.volume.policy;
    };
    count = valid.formed.count;
    order = valid.formed.order;
    names = valid.formed.names;
    xattrs = valid.formed.xattrs;
    kinds = valid.formed.kinds;
  };
  agrees = record { uids = valid.agrees.uids; names = valid.agrees.names; keys = valid.agrees.keys; files = valid.agrees.files };
}

spot : (letter block : ℕ) (s : Spot) → s ≡ record { letter = letter; block = block } → IsLetter letter → block ≤ most_positions → IsSpot s
spot letter block s is ranged within = subst IsSpot (sym is) (record { letter = ranged; block = omega (arith, within) })

module _ (labels : Labels) (limits : Limits) (place : Construct) (dp : LastIndex) (twin : TwinIndex) (at : IsTwinAt labels.ip place dp.place twin)
    (range : IsLimits limits) (spelled : AreLabels labels) (in_place : IsInPlace limits.cap_ip place) (sound : IsSoundLast labels.ip limits.cap_dp dp) where
  here : IsSpot twin.here
  here =
      spot labels.ip.index place.first twin.here at.here (letters_in_range spelled.ip.0 _ spelled.ip.1).0
      (omega (arith, range.ip_most, in_place.block, in_place.after))

  back : IsSpot twin.back
  back =
      spot labels.ip.dpart dp.place.first twin.back at.back (letters_in_range spelled.ip.0 _ spelled.ip.1).1
      (omega (arith, range.dp_most, sound.place.block, sound.place.after))

  valid : IsValid (twin_of dp.index twin)
  valid = valid_twin dp.index twin sound.index.valid here back

  -- an index like the data partition's last one, with its own pointers, is sound
  pub sound_twin : IsSoundLast labels.ip limits.cap_ip (record { index = twin_of dp.index twin; place = twin.place })
  sound_twin = record {
    index = record { valid = valid; uuid = sound.index.uuid };
    place = subst (IsInPlace limits.cap_ip) (sym at.place_is) in_place;
  }

  -- an index like the data partition's last one is the index partition's last
  pub right_twin : (c : Cartridge) (dps : List Construct) → IsKnownIp labels place dps (Some dp.index) c → IsLastDp labels.ip (Some dp) c
      → (document : List ℕ) → IsDocument document (indexes_of c.ip) → IndexText document (twin_of dp.index twin)
      → IsLastIp labels.ip (Some dp.index) (Some (record { index = twin_of dp.index twin; place = twin.place })) c
  right_twin c dps known last document is text =
      subst (λ (p : Construct). IsLastIp labels.ip (Some dp.index) (Some (record { index = twin_of dp.index twin; place = p })) c) (sym at.place_is)
      (right_ip c labels place dps (Some dp.index) known (twin_of dp.index twin)
      (of_newest labels.ip (indexes_of c.ip) document (twin_of dp.index twin) is text sound.index.uuid) points)
    where
      points : (k : readings.Construct) → place.first ≡ first_of k → PointsOnIp labels.ip k (indexes_of c.dp) (Some dp.index) (twin_of dp.index twin)
      points k first = record {
        here = at.here ∙ ap (λ (n : ℕ). record { letter = labels.ip.index; block = n }) first;
        back = inl (omega arith, ap Some at.back ∙ sym (spot_of labels.ip dp (indexes_of c.dp) last.place));
      }
