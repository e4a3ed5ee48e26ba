-- What a placement puts on both partitions, and that they may go on behind it.
use Rattle.std.proofs.Common.{◌≡◌, ◌≢◌, ℕ, ◌+◌, Bool, true, false, List, [], ◌∷◌, ◌++◌, length, map, refl, sym, ap}
use Rattle.std.proofs.Common.{subst, ◌∙◌, arith, append-nil}
use Rattle.std.proofs.lemmas.List.{take-append-le}
use Rattle.tape_types.specs.declared.cartridges.Item.{Item}
use Rattle.tape_types.specs.declared.cartridges.Item.TheVariants.{Block, Mark}
use Rattle.tape_types.specs.declared.cartridges.Part.{Part}
use Rattle.tape_types.specs.declared.cartridges.Part.TheVariants.{Ip, Dp}
use Rattle.ltfs_label.specs.declared.Label.{Label}
use Rattle.tape_layout.specs.IndexConstruct.Blocks.{blocks_of}
use Rattle.content_laws.specs.Content.{Content}
use Rattle.content_laws.proofs.Grown.{blocks_appended}
use Rattle.content_laws.proofs.Whole.{front_append, front_blocks}
use Rattle.tape_layout.specs.declared.ops.Op.{Op}
use Rattle.tape_layout.specs.declared.ops.Op.TheVariants as ops
use Rattle.tape_layout.specs.Admissions.{flush_first}
use Rattle.tape_layout.specs.Ops.{construct, puts}
use Rattle.cartridge_meaning.specs.Pointers.{indexes_of}
use Rattle.cartridge_meaning.proofs.Frame.{labels_stay}
use Rattle.promises.specs.ImageLaws.Plans.{IsReady}
use Rattle.promises.proofs.ImageLaws.Appends.{puts_are, puts_from}
use Rattle.promises.proofs.ImageLaws.Data.{length_more}
use Rattle.promises.proofs.ImageLaws.Indexes.{construct_is, construct_ready, with_construct}
use Rattle.space_laws.specs.Space.{Rules, Space, index, ops_of}
use Rattle.promises.specs.CrashLaws.Safe.{items_by}
use Rattle.volume_state.specs.PlanLaws.Planned.{Items, with_ops}
use Rattle.volume_state.proofs.PlanLaws.Ends.{ops_append}
use Rattle.volume_state.specs.ClosingLaws.Indexed.{IsOpen, cartridge_on}

-- ---- the items of ops

-- blocks that go to one partition, as another sees them
abbrev pub blocks_on : Part → Part → List (List ℕ) → List Item
blocks_on Ip Ip bs = map Block bs
blocks_on Ip Dp bs = []
blocks_on Dp Ip bs = []
blocks_on Dp Dp bs = map Block bs

run_items : (part on : Part) (bs : List (List ℕ)) (pos : ℕ) → items_by part (puts_from on pos bs) ≡ blocks_on part on bs
run_items Ip Ip [] pos = refl
run_items Ip Dp [] pos = refl
run_items Dp Ip [] pos = refl
run_items Dp Dp [] pos = refl
run_items Ip Ip (b ∷ bs) pos = ap (λ (l : List Item). Block b ∷ l) (run_items Ip Ip bs (pos + 1))
run_items Ip Dp (b ∷ bs) pos = run_items Ip Dp bs (pos + 1)
run_items Dp Ip (b ∷ bs) pos = run_items Dp Ip bs (pos + 1)
run_items Dp Dp (b ∷ bs) pos = ap (λ (l : List Item). Block b ∷ l) (run_items Dp Dp bs (pos + 1))

-- the puts of bytes put their blocks on their own partition alone
pub put_items : (part on : Part) (size pos : ℕ) (bytes : List ℕ)
    → items_by part (puts size on pos bytes) ≡ blocks_on part on (blocks_of size bytes)
put_items part on size pos bytes =
    ap (λ (l : List Op). items_by part l) (puts_are size on pos bytes) ∙ run_items part on (blocks_of size bytes) pos

firsts_none : (part : Part) (due : Bool) (end : ℕ) → items_by part (flush_first due end) ≡ []
firsts_none part true end = refl
firsts_none part false end = refl

-- ops between two marks of the data partition, with a flush behind them
abbrev marked : List Op → ℕ → ℕ → ℕ → List Op
marked filling a b c = ops.Mark (record { part = Dp; pos = a }) ∷ [] ++ filling ++ ops.Mark
    (record { part = Dp; pos = b }) ∷ []
    ++ ops.Flush (record { part = Dp; pos = c }) ∷ []

marked_dp : (filling : List Op) (a b c : ℕ)
    → items_by Dp (marked filling a b c) ≡ Mark ∷ (items_by Dp filling ++ Mark ∷ [])
marked_dp filling a b c =
    let last : List Op = ops.Mark (record { part = Dp; pos = b }) ∷ [] in
    ap (λ (l : List Item). Mark ∷ l) (ops_append Dp (filling ++ last) (ops.Flush (record { part = Dp; pos = c }) ∷ [])
    ∙ append-nil (items_by Dp (filling ++ last)) ∙ ops_append Dp filling last)

marked_ip : (filling : List Op) (a b c : ℕ) → items_by Ip (marked filling a b c) ≡ items_by Ip filling
marked_ip filling a b c =
    let last : List Op = ops.Mark (record { part = Dp; pos = b }) ∷ [] in
    ops_append Ip (filling ++ last) (ops.Flush (record { part = Dp; pos = c }) ∷ [])
    ∙ append-nil (items_by Ip (filling ++ last)) ∙ ops_append Ip filling last ∙ append-nil (items_by Ip filling)

-- an index puts its marks and its blocks on the data partition, and nothing on the other
module _ (v : Rules) (on : Bool) (s : Space) (text : List ℕ) where
  abbrev its : List Op
  its = construct v.block_size Dp s.ends.dp text

  abbrev filling : List Op
  filling = puts v.block_size Dp (s.ends.dp + 1) text

  firsts_gone : (part : Part) → items_by part (ops_of v on s (index text)) ≡ items_by part its
  firsts_gone part = ops_append part (flush_first s.flush_due s.ends.ip) its
      ∙ ap (λ (l : List Item). l ++ items_by part its) (firsts_none part s.flush_due s.ends.ip)

  pub index_dp : items_by Dp (ops_of v on s (index text)) ≡ Mark ∷ (map Block (blocks_of v.block_size
      text) ++ Mark ∷ [])
  index_dp = firsts_gone Dp ∙ marked_dp filling s.ends.dp _ _
      ∙ ap (λ (l : List Item). Mark ∷ (l ++ Mark ∷ [])) (put_items Dp Dp v.block_size (s.ends.dp + 1) text)

  pub index_ip : items_by Ip (ops_of v on s (index text)) ≡ []
  index_ip = firsts_gone Ip ∙ marked_ip filling s.ends.dp _ _ ∙ put_items Ip Dp v.block_size (s.ends.dp + 1) text

-- ---- a partition may go on

ready_more : (items : List Item) (bs : List (List ℕ)) → IsReady items → IsReady (items ++ map Block bs)
ready_more items bs r = record {
  whole = front_append items (map Block bs) r.whole ∙ ap (λ (l : List Item). items ++ l) (front_blocks bs);
  labels = omega (arith, r.labels, length_more items bs);
  since = r.since + length bs;
  stage = ap (λ (s : Content). s.phase) (blocks_appended items bs r.since r.whole r.labels r.stage);
}

same_more : (items : List Item) (bs : List (List ℕ)) → IsReady items
    → indexes_of (items ++ map Block bs) ≡ indexes_of items
same_more items bs r = ap (λ (s : Content). s.constructs) (blocks_appended items bs r.since r.whole r.labels r.stage)

-- with blocks behind its items, or none
record GoesOn (items more : List Item) : Type 0 where
  ready : IsReady (items ++ more)
  same : indexes_of (items ++ more) ≡ indexes_of items

none_on : (items : List Item) → IsReady items → GoesOn items []
none_on items r = record { ready = subst IsReady (sym (append-nil items)) r; same = ap indexes_of (append-nil items) }

some_on : (items : List Item) (bs : List (List ℕ)) → IsReady items → GoesOn items (map Block bs)
some_on items bs r = record { ready = ready_more items bs r; same = same_more items bs r }

goes_on : (part on : Part) (items : List Item) (bs : List (List ℕ)) → IsReady items
    → GoesOn items (blocks_on part on bs)
goes_on Ip Ip items bs r = some_on items bs r
goes_on Ip Dp items bs r = none_on items r
goes_on Dp Ip items bs r = none_on items r
goes_on Dp Dp items bs r = some_on items bs r

-- ---- both partitions

module _ (label : Label) (planned : Items) (open_ends : IsOpen label planned) (asked : List Op) where
  goes_open : IsReady (with_ops asked planned Ip) → IsReady (with_ops asked planned Dp)
      → IsOpen label (with_ops asked planned)
  goes_open ip dp = record {
    labels = open_ends.labels;
    label_is = open_ends.label_is;
    has = labels_stay (cartridge_on planned) (cartridge_on (with_ops asked planned)) open_ends.labels
        (sym (take-append-le 4 (planned Ip) (items_by Ip asked) open_ends.ip.labels))
        (sym (take-append-le 4 (planned Dp) (items_by Dp asked) open_ends.dp.labels)) open_ends.has;
    ip = ip;
    dp = dp;
  }

module _ (label : Label) (planned : Items) (open_ends : IsOpen label planned) where
  -- with data
  module _ (on : Part) (size pos : ℕ) (bytes : List ℕ) where
    data_on : (part : Part) → IsReady (planned part) → GoesOn (planned part) (items_by part (puts size on pos bytes))
    data_on part r = subst (λ (l : List Item). GoesOn (planned part) l) (sym (put_items part on size pos bytes))
        (goes_on part on (planned part) (blocks_of size bytes) r)

    -- with stored bytes both partitions may go on
    pub stored_open : IsOpen label (with_ops (puts size on pos bytes) planned)
    stored_open = goes_open label planned open_ends (puts size on pos bytes) (data_on Ip open_ends.ip).ready
        (data_on Dp open_ends.dp).ready

    -- stored bytes leave the indexes of the data partition
    pub stored_same : indexes_of (with_ops (puts size on pos bytes) planned Dp) ≡ indexes_of (planned Dp)
    stored_same = (data_on Dp open_ends.dp).same

    -- stored bytes leave the indexes of the index partition
    pub stored_ip : indexes_of (with_ops (puts size on pos bytes) planned Ip) ≡ indexes_of (planned Ip)
    stored_ip = (data_on Ip open_ends.ip).same

  -- with an index
  module _ (v : Rules) (on : Bool) (s : Space) (text : List ℕ) where
    -- the ops of an index put an index construct on the data partition
    pub indexed_dp : with_ops (ops_of v on s (index text)) planned Dp
        ≡ with_construct (planned Dp) (blocks_of v.block_size text)
    indexed_dp = ap (λ (l : List Item). planned Dp ++ l) (index_dp v on s text)
        ∙ sym (construct_is (planned Dp) (blocks_of v.block_size text))

    -- the ops of an index put nothing on the index partition
    pub indexed_ip : with_ops (ops_of v on s (index text)) planned Ip ≡ planned Ip
    indexed_ip = ap (λ (l : List Item). planned Ip ++ l) (index_ip v on s text) ∙ append-nil (planned Ip)

    -- with an index both partitions may go on
    pub indexed_open : blocks_of v.block_size text ≢ [] → IsOpen label (with_ops (ops_of v on s (index text)) planned)
    indexed_open some = goes_open label planned open_ends (ops_of v on s (index text))
        (subst IsReady (sym indexed_ip) open_ends.ip)
        (subst IsReady (sym indexed_dp) (construct_ready (planned Dp) (blocks_of v.block_size text) open_ends.dp some))
