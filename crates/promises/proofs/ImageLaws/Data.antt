-- Data that is admitted.
use Rattle.std.proofs.Common.{ℕ, ◌+◌, ◌≡◌, List, [], ◌++◌, length, map, refl, sym, ap, subst, ◌∙◌, arith, append-nil, length-append}
use Rattle.std.specs.Int.{div_ceil}
use Rattle.std.proofs.lemmas.List.{length-map}
use Rattle.std.proofs.lemmas.List.FromFn.{length-map-range_with_len}
use Rattle.tape_types.specs.declared.cartridges.Item.{Item}
use Rattle.tape_types.specs.declared.cartridges.Item.TheVariants.{Block}
use Rattle.tape_types.specs.declared.cartridges.Part.{Part}
use Rattle.tape_types.specs.declared.cartridges.Part.TheVariants.{Ip, Dp}
use Rattle.session_script.specs.declared.logs.Ack.{Ack}
use Rattle.tape_layout.specs.IndexConstruct.Blocks.{block_at, blocks_of}
use Rattle.content_laws.specs.Content.{Content}
use Rattle.content_laws.proofs.Grown.{blocks_appended}
use Rattle.content_laws.proofs.Whole.{front_append, front_blocks}
use Rattle.tape_layout.specs.declared.ops.Op.{Op}
use Rattle.tape_layout.specs.Ops.{end_of}
use Rattle.cartridge_meaning.specs.Pointers.{indexes_of, last_block}
use Rattle.space_laws.specs.Space.{Rules, Space, with_data}
use Rattle.promises.specs.ImageLaws.Images.{IsSound, MayWrite}
use Rattle.promises.specs.ImageLaws.Kept.{Moment, Serves, Wait}
use Rattle.promises.specs.ImageLaws.Made.{Job, Made, Trees, Volume, after, cartridge_of, part_items, plain}
use Rattle.promises.specs.ImageLaws.Plans.{IsPlanned, IsReady, data_jobs}
use Rattle.promises.proofs.ImageLaws.Admits.{kept_sound, serves_more}
use Rattle.promises.proofs.ImageLaws.Appends.{IsFree, IsOpened, LeadsTo, data_opened, puts_are, run, with_items}
use Rattle.promises.proofs.ImageLaws.Longer.{IsGrown, sound_longer}

-- how many blocks a document has
pub count_is : (size : ℕ) (doc : List ℕ) → length (blocks_of size doc) ≡ div_ceil (length doc) size
count_is size doc = length-map-range_with_len (block_at size doc) 0 (div_ceil (length doc) size)

-- a partition that is ready for an index may be written on
pub ready_opened : (items : List Item) → IsReady items → IsOpened items
ready_opened items r = data_opened items r.since r.whole r.labels r.stage

-- blocks at the end make a partition so much longer
pub length_more : (items : List Item) (bs : List (List ℕ)) → length (items ++ map Block bs) ≡ length items + length bs
length_more items bs = omega (arith, length-append items (map Block bs), length-map bs Block)

appended : (items : List Item) (bs : List (List ℕ)) → IsReady items → IsReady (items ++ map Block bs)
appended items bs r = record {
  whole = front_append items (map Block bs) r.whole ∙ ap (λ (l : List Item). items ++ l) (front_blocks bs);
  labels = omega (arith, r.labels, length_more items bs);
  since = r.since + length bs;
  stage = ap (λ (s : Content). s.phase) (blocks_appended items bs r.since r.whole r.labels r.stage);
}

same_indexes : (items : List Item) (bs : List (List ℕ)) → IsReady items → indexes_of (items ++ map Block bs) ≡ indexes_of items
same_indexes items bs r = ap (λ (s : Content). s.constructs) (blocks_appended items bs r.since r.whole r.labels r.stage)

planned_free : (t : Trees) (s : Made) (space : Space) (part : Part) → IsPlanned t s space → IsFree part s
planned_free t s space Ip p = p.no_index
planned_free t s space Dp p = tt

planned_ready : (t : Trees) (s : Made) (space : Space) (part : Part) → IsPlanned t s space → IsReady (part_items part s)
planned_ready t s space Ip p = p.ready_ip
planned_ready t s space Dp p = p.ready_dp

planned_end : (t : Trees) (s : Made) (space : Space) (part : Part) → IsPlanned t s space → end_of part space.ends ≡ length (part_items part s)
planned_end t s space Ip p = p.end_ip
planned_end t s space Dp p = p.end_dp

planned_data : (t : Trees) (s : Made) (space : Space) (rules : Rules) (part : Part) (bytes : List ℕ) → IsPlanned t s space
    → IsPlanned t (with_items part (part_items part s ++ map Block (blocks_of rules.block_size bytes)) s) (with_data rules part bytes space)
planned_data t s space rules Ip bytes p =
    let bs : List (List ℕ) = blocks_of rules.block_size bytes in
    record {
      end_ip = omega (arith, p.end_ip, length_more s.ip bs, count_is rules.block_size bytes);
      end_dp = p.end_dp;
      newest_is = p.newest_is;
      last_dp = p.last_dp;
      indexed = p.indexed;
      flushed = λ due. absurd (cc);
      covered = λ changed. absurd (cc);
      ended = λ changed. absurd (cc);
      ready_ip = appended s.ip bs p.ready_ip;
      no_index = same_indexes s.ip bs p.ready_ip ∙ p.no_index;
      ready_dp = p.ready_dp;
    }
planned_data t s space rules Dp bytes p =
    let bs : List (List ℕ) = blocks_of rules.block_size bytes in
    record {
      end_ip = p.end_ip;
      end_dp = omega (arith, p.end_dp, length_more s.dp bs, count_is rules.block_size bytes);
      newest_is = p.newest_is;
      last_dp = p.last_dp ∙ ap last_block (sym (same_indexes s.dp bs p.ready_dp));
      indexed = p.indexed;
      flushed = p.flushed;
      covered = λ changed. absurd (cc);
      ended = λ changed. absurd (cc);
      ready_ip = p.ready_ip;
      no_index = p.no_index;
      ready_dp = appended s.dp bs p.ready_dp;
    }

with_longer : (part : Part) (more : List Item) (s : Made) → IsGrown s (with_items part (part_items part s ++ more) s)
with_longer Ip more s = record { more_ip = more; ip = refl; more_dp = []; dp = sym (append-nil s.dp) }
with_longer Dp more s = record { more_ip = []; ip = sym (append-nil s.ip); more_dp = more; dp = refl }

pub data_leads : (v : Volume) (t : Trees) (s : Made) (space : Space) (rules : Rules) (part : Part) (bytes : List ℕ) → IsPlanned t s space → MayWrite part s.base
    → IsSound v t (cartridge_of s) s
    → LeadsTo v t (cartridge_of (with_items part (part_items part s ++ map Block (blocks_of rules.block_size bytes)) s)) s
    (data_jobs rules part (end_of part space.ends) bytes) (with_items part (part_items part s ++ map Block (blocks_of rules.block_size bytes)) s)
data_leads v t s space rules part bytes p may sound =
    let bs : List (List ℕ) = blocks_of rules.block_size bytes in
    let made : Made = with_items part (part_items part s ++ map Block bs) s in
    let longer : IsGrown s made = with_longer part (map Block bs) s in
    let sound2 = sound_longer v t (cartridge_of s) (cartridge_of made) longer s sound in
    let at = planned_end t s space part p in
    let o = ready_opened (part_items part s) (planned_ready t s space part p) in
    subst (λ (os : List Op). LeadsTo v t (cartridge_of made) s (map plain os) made)
    (sym (puts_are rules.block_size part (end_of part space.ends) bytes))
    (run v t (cartridge_of made) part bs (end_of part space.ends) s at may (planned_free t s space part p) o sound2)

-- a run of blocks of data, on either partition where that may be written
pub admitted_data : (v : Volume) (t : Trees) (s : Made) (since : ℕ) (d : Moment) (done : ℕ) (jobs : List Job) (waits : List Wait) (acks : List Ack) (space : Space)
    (rules : Rules) (part : Part) (bytes : List ℕ)
    → Serves v t s since d done jobs waits acks space → MayWrite part (after s jobs).base
    → Serves v t s since d done (jobs ++ data_jobs rules part (end_of part space.ends) bytes) waits acks (with_data rules part bytes space)
admitted_data v t s since d done jobs waits acks space rules part bytes h may =
    let all : Made = after s jobs in
    let made : Made = with_items part (part_items part all ++ map Block (blocks_of rules.block_size bytes)) all in
    serves_more v t s since d done jobs (data_jobs rules part (end_of part space.ends) bytes) waits acks made (with_data rules part bytes space) h.kept
    (data_leads v t all space rules part bytes h.planned may (kept_sound v t s since d done jobs waits acks h.kept))
    (planned_data t all space rules part bytes h.planned)
