-- The flushes among the ops of a group are those that were admitted.
use Rattle.std.proofs.Common.{◌≡◌, ℕ, ◌+◌, Bool, true, false, not, List, [], ◌∷◌, ◌++◌, length, map, sym, ap, ◌∙◌, refl}
use Rattle.std.specs.List.{list_any, range_with_len}
use Rattle.std.specs.Int.{div_ceil}
use Rattle.std.proofs.lemmas.List.{map-append}
use Rattle.std.proofs.lemmas.List.Folds.{list_any-append}
use Rattle.std.proofs.lemmas.Bool.{or_left, or_right, or_from}
use Rattle.tape_types.specs.declared.cartridges.Part.{Part}
use Rattle.tape_types.specs.declared.cartridges.Part.TheVariants.{Ip, Dp}
use Rattle.tape_types.specs.declared.cartridges.Place.{Place}
use Rattle.tape_layout.specs.IndexConstruct.Blocks.{block_at}
use Rattle.head_queue.specs.EventLaws.Waiting.{put_at, same_part, with_flushes}
use Rattle.tape_layout.specs.Admissions.{flush_first}
use Rattle.tape_layout.specs.Ops.{construct, place_of, puts}
use Rattle.tape_layout.specs.declared.ops.Op.{Op}
use Rattle.tape_layout.specs.declared.ops.Op.TheVariants.{Put, Mark, Flush}
use Rattle.promises.specs.ServingPromise.Served.{headed}
use Rattle.promises.specs.GroupLaws.Groups.{has_part, places_of}

-- ---- partitions

part_self : (p : Part) → same_part p p ≡ true
part_self Ip = refl
part_self Dp = refl

-- each partition of the first list is one of the second: so none of the first ones is the last of its partition
flushes_behind : (xs ys : List Place) → ((part : Part) → has_part part xs ≡ true → has_part part ys ≡ true)
    → with_flushes (xs ++ ys) ≡ map put_at xs ++ with_flushes ys
flushes_behind [] ys c = refl
flushes_behind (x ∷ xs) ys c =
    ap (λ b. record { place = x; flush = not b } ∷ with_flushes (xs ++ ys)) later
    ∙ ap (λ l. put_at x ∷ l) (flushes_behind xs ys (λ part there. c part (or_right (same_part part x.part) (has_part part xs) there)))
  where
    later : list_any (λ (q : Place). same_part x.part q.part) (xs ++ ys) ≡ true
    later = list_any-append (λ (q : Place). same_part x.part q.part) xs ys
        ∙ or_right (has_part x.part xs) (has_part x.part ys) (c x.part (or_left (same_part x.part x.part) (has_part x.part xs) (part_self x.part)))

-- ---- blocks

abbrev put : ℕ → Part → ℕ → List ℕ → ℕ → Op
put size part pos doc k = Put (record { part = part; pos = pos + k }) (block_at size doc k)

run_headed : (size : ℕ) (part : Part) (pos : ℕ) (doc : List ℕ) (ks : List ℕ)
    → map headed (map (put size part pos doc) ks) ≡ map put_at (places_of (map (put size part pos doc) ks))
run_headed size part pos doc [] = refl
run_headed size part pos doc (k ∷ ks) = ap (λ l. put_at (record { part = part; pos = pos + k }) ∷ l) (run_headed size part pos doc ks)

-- no block of data is a flush
pub puts_headed : (size : ℕ) (part : Part) (pos : ℕ) (doc : List ℕ) → map headed (puts size part pos doc) ≡ map put_at (places_of (puts size part pos doc))
puts_headed size part pos doc = run_headed size part pos doc (range_with_len 0 (div_ceil (length doc) size))

run_off : (size pos : ℕ) (doc : List ℕ) (ks : List ℕ) → has_part Ip (places_of (map (put size Dp pos doc) ks)) ≡ false
run_off size pos doc [] = refl
run_off size pos doc (k ∷ ks) = run_off size pos doc ks

-- the puts of a document on the data partition put nothing on the index partition
pub puts_off : (size pos : ℕ) (doc : List ℕ) → has_part Ip (places_of (puts size Dp pos doc)) ≡ false
puts_off size pos doc = run_off size pos doc (range_with_len 0 (div_ceil (length doc) size))

-- ---- an index

abbrev dp : ℕ → Place
dp pos = record { part = Dp; pos = pos }

-- ops on the data partition whose last one alone is a flush
pub record IsIndex (asked : List Op) : Type 0 where
  pub off : has_part Ip (places_of asked) ≡ false
  pub there : has_part Dp (places_of asked) ≡ true
  pub flushes : with_flushes (places_of asked) ≡ map headed asked

ends_so : (items : List Op) (pos : ℕ) → has_part Ip (places_of items) ≡ false → map headed items ≡ map put_at (places_of items)
    → IsIndex (items ++ Flush (dp pos) ∷ [])
ends_so items pos off plain = record {
  off = ap (has_part Ip) split ∙ list_any-append (λ (p : Place). same_part Ip p.part) (places_of items) (dp pos ∷ []) ∙ or_from (has_part Ip (places_of items)) false off refl;
  there = ap (has_part Dp) split ∙ list_any-append (λ (p : Place). same_part Dp p.part) (places_of items) (dp pos ∷ []) ∙ or_right (has_part Dp (places_of items)) true refl;
  flushes = ap with_flushes split ∙ flushes_behind (places_of items) (dp pos ∷ []) covered
      ∙ ap (λ l. l ++ record { place = dp pos; flush = true } ∷ []) (sym plain) ∙ sym (map-append headed items (Flush (dp pos) ∷ []));
}
  where
    split : places_of (items ++ Flush (dp pos) ∷ []) ≡ places_of items ++ dp pos ∷ []
    split = map-append place_of items (Flush (dp pos) ∷ [])

    covered : (part : Part) → has_part part (places_of items) ≡ true → has_part part (dp pos ∷ []) ≡ true
    covered Ip is = let wrong : false ≡ true = sym off ∙ is in cc
    covered Dp is = refl

-- a mark, blocks and a mark
framed_off : (pos last : ℕ) (blocks : List Op) → has_part Ip (places_of blocks) ≡ false → has_part Ip (places_of ((Mark (dp pos) ∷ blocks) ++ Mark (dp last) ∷ [])) ≡ false
framed_off pos last blocks off = ap (has_part Ip) (map-append place_of (Mark (dp pos) ∷ blocks) (Mark (dp last) ∷ []))
    ∙ list_any-append (λ (p : Place). same_part Ip p.part) (places_of blocks) (dp last ∷ []) ∙ or_from (has_part Ip (places_of blocks)) false off refl

framed_plain : (pos last : ℕ) (blocks : List Op) → map headed blocks ≡ map put_at (places_of blocks)
    → map headed ((Mark (dp pos) ∷ blocks) ++ Mark (dp last) ∷ []) ≡ map put_at (places_of ((Mark (dp pos) ∷ blocks) ++ Mark (dp last) ∷ []))
framed_plain pos last blocks plain = map-append headed (Mark (dp pos) ∷ blocks) (Mark (dp last) ∷ [])
    ∙ ap (λ l. (put_at (dp pos) ∷ l) ++ put_at (dp last) ∷ []) plain
    ∙ sym (ap (map put_at) (map-append place_of (Mark (dp pos) ∷ blocks) (Mark (dp last) ∷ [])) ∙ map-append put_at (dp pos ∷ places_of blocks) (dp last ∷ []))

-- the ops of an index on the data partition are those of an index
pub is_index : (size pos : ℕ) (doc : List ℕ) → IsIndex (construct size Dp pos doc)
is_index size pos doc =
    ends_so ((Mark (dp pos) ∷ puts size Dp (pos + 1) doc) ++ Mark (dp (pos + 1 + div_ceil (length doc) size)) ∷ []) (pos + 2 + div_ceil (length doc) size)
    (framed_off pos (pos + 1 + div_ceil (length doc) size) (puts size Dp (pos + 1) doc) (puts_off size (pos + 1) doc))
    (framed_plain pos (pos + 1 + div_ceil (length doc) size) (puts size Dp (pos + 1) doc) (puts_headed size Dp (pos + 1) doc))

-- ---- all ops that a sync ends

abbrev ip : ℕ → Place
ip pos = record { part = Ip; pos = pos }

-- the flushes among a group that an index ends are those that were admitted
pub ended_so : (due : Bool) (at : ℕ) (group : List Place) (asked : List Op) → (due ≡ false → has_part Ip group ≡ false) → IsIndex asked
    → with_flushes (group ++ places_of (flush_first due at ++ asked)) ≡ map put_at group ++ map headed (flush_first due at ++ asked)
ended_so false at group asked free i = flushes_behind group (places_of asked) covered ∙ ap (λ l. map put_at group ++ l) i.flushes
  where
    covered : (part : Part) → has_part part group ≡ true → has_part part (places_of asked) ≡ true
    covered Ip is = let wrong : false ≡ true = sym (free refl) ∙ is in cc
    covered Dp is = i.there
ended_so true at group asked free i =
    flushes_behind group (ip at ∷ places_of asked) covered
    ∙ ap (λ b. map put_at group ++ record { place = ip at; flush = not b } ∷ with_flushes (places_of asked)) i.off
    ∙ ap (λ l. map put_at group ++ record { place = ip at; flush = true } ∷ l) i.flushes
  where
    covered : (part : Part) → has_part part group ≡ true → has_part part (ip at ∷ places_of asked) ≡ true
    covered Ip is = refl
    covered Dp is = i.there
