-- That the index which a close writes on the index partition is due.
use Rattle.std.proofs.Common.{◌≡◌, ◌+◌, ◌≤◌, ◌^◌, Bool, refl, ap, arith}
use Rattle.std.specs.Option.{option_map}
use Rattle.tape_types.specs.declared.cartridges.Cartridge.{Cartridge}
use Rattle.tape_types.specs.declared.moments.Moment.{Moment}
use Rattle.index_model.specs.Valid.{IsValid}
use Rattle.extent_map.specs.Cells.{tape_of}
use Rattle.file_tree.specs.Valid.{IsGood}
use Rattle.ltfs_label.specs.declared.Label.{Label}
use Rattle.cartridge_meaning.specs.Carried.{carried}
use Rattle.space_laws.specs.Space.{Space}
use Rattle.space_laws.specs.Standing.{Given, Standing}
use Rattle.held_volume.specs.Stocks.{IsStock, Stocked, frame_of, stocked}
use Rattle.held_volume.specs.Synced.{CanTell, index_of_sync}
use Rattle.promises.specs.ImageLaws.Images.{Tells}
use Rattle.promises.specs.ImageLaws.Made.{Trees, Volume, cartridge_of}
use Rattle.promises.specs.CrashLaws.Safe.{given_by, trees_of, volume_of}
use Rattle.volume_state.specs.DueLaws.Behind.{BeginsBehindLabels}
use Rattle.volume_state.proofs.DueLaws.Due.{is_text, is_valid, tells_all}
use Rattle.volume_state.specs.ClosingLaws.Closing.{CanTellClose, index_of_close}
use Rattle.volume_state.specs.ClosingLaws.Laws.{IndexesOfClosesAreDue}

-- before the first generation
abbrev ungenerated : Space → Space
ungenerated space = record space { newest = 0 }

one_near : 0 + 1 ≤ 2 ^ 62
one_near = omega arith

-- what an index tells of what stands goes neither by its generation nor by its place: so it is that of a sync before
-- all others
abbrev before_all : Standing → Standing
before_all st = record { tree = st.tree; files = st.files; space = ungenerated st.space }

module _ (c : Cartridge) (g : Given) (on : Bool) (st : Standing) (s : Stocked) (at : Moment)
    (valid : IsValid g.mounted.index) (held : IsStock (tape_of c) g on st s) (good : IsGood s.tree)
    (behind : BeginsBehindLabels s.tree) (can : CanTellClose g st) where
  abbrev held_before : Stocked
  held_before = stocked s.tree s.layout (frame_of g.mounted (ungenerated st.space) s.frame.noted)

  stock_before : IsStock (tape_of c) g on (before_all st) held_before
  stock_before = record {
    plain = held.plain;
    files = held.files;
    layout = held.layout;
    frame = refl;
    name = held.name;
    block_size = held.block_size;
    below = held.below;
  }

  can_before : CanTell g (before_all st)
  can_before = record {
    letters_are = can.letters_are;
    differ = can.differ;
    uuid = can.uuid;
    facts = can.facts;
    generation = one_near;
    here = can.on_dp;
    back = can.near.back;
  }

  valid_before : IsValid (index_of_sync g (before_all st) at)
  valid_before = is_valid c g on (before_all st) held_before at valid stock_before good behind can_before

  pub valid_close : IsValid (index_of_close g st at)
  valid_close = record {
    formed = record {
      volume = record {
        creator = valid_before.formed.volume.creator;
        comment = valid_before.formed.volume.comment;
        uuid = valid_before.formed.volume.uuid;
        generation_least = can.near.least;
        generation_most = can.near.most;
        here = record { letter = can.letters_are.ip; block = can.on_ip };
        back = valid_before.formed.volume.back;
        policy = valid_before.formed.volume.policy;
      };
      count = valid_before.formed.count;
      order = valid_before.formed.order;
      names = valid_before.formed.names;
      xattrs = valid_before.formed.xattrs;
      kinds = valid_before.formed.kinds;
    };
    agrees = record {
      uids = valid_before.agrees.uids;
      names = valid_before.agrees.names;
      keys = valid_before.agrees.keys;
      files = valid_before.agrees.files;
    };
  }

  pub tells_close : (v : Volume) (t : Trees) → v.facts ≡ carried g.mounted.index → g.mounted.label ≡ v.labels.ip
      → st.tree ≡ t.nth t.count
      → Tells v t c st.space.ends.ip st.space.ends.dp (record { index = index_of_close g st at; place = t.count })
  tells_close v t facts_are label_is tree_is =
      let before = tells_all c g on (before_all st) held_before at valid stock_before good behind can_before v t
      facts_are label_is tree_is in
      let tree = before.tree.1 in
      record {
        facts = before.facts;
        within = before.within;
        covered = before.covered;
        tree = (
          before.tree.0,
          record {
            highest = tree.highest;
            lock = tree.lock;
            name = tree.name;
            block_size = tree.block_size;
            nodes = tree.nodes;
          },
          before.tree.2,
        );
      }

-- the index that a close writes on the index partition is due
pub close_due : {D : Type 0} → IndexesOfClosesAreDue D
close_due planned limits v on st s at valid label_is held tree_is good behind can fits =
    let g = given_by limits v in
    let c = cartridge_of planned.made in
    let index = index_of_close g st at in
    let text = is_text index (valid_close c g on st s at valid held good behind can) fits in (
      index,
      record {
        some = text.0;
        reads = text.1;
        uuid = ap (λ (l : Label). l.uuid) label_is;
        generation = refl;
        here = ap (λ (l : Label). record { letter = l.index; block = st.space.ends.ip + 1 }) label_is;
        back = ap (λ (l : Label). option_map (λ block. record { letter = l.dpart; block = block })
            st.space.last_dp) label_is;
        tells = tells_close c g on st s at valid held good behind can (volume_of planned.labels v) (trees_of v) refl
            label_is tree_is;
      },
    )
