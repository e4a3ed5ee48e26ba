-- A block that is put in stands first, and there is room for 64. One whose place is kept takes no memory.
use Rattle.std.proofs.Common.{◌≡◌, true, false, inl, sym, ap, subst, ◌∙◌, arith}
use Rattle.std.specs.List.{IsDistinct}
use Rattle.std.specs.Map.{keys_of, lookup}
use Rattle.std.specs.Option.{IsSome}
use Rattle.std.specs.Result.{IsOk}
use Rattle.lru.specs.LruCache.{put_entries}
use Rattle.tape_types.proofs.Places.{equal_places}
use Rattle.block_cache.specs.Kept.{is_cached, with_block}
use Rattle.block_cache.proofs.KeptLemmas.{cached_found, put_kept}
use Rattle.block_cache.proofs.cache.BlockCache.keep.Goals as goal

stands : (c : goal.Joined-put-2) → c.put.new.self.entries ≡ with_block c.args.place c.args.bytes c.args.self.now
stands c =
    let blocks = c.self.inside.blocks in
    let valid = c.len-count.ensures.valid in
    let cap = c.self.invariant in
    let once = subst (λ eq. IsDistinct eq (keys_of blocks.entries)) equal_places valid.0 in
    ap (λ e. e.entries) c.in-Ok.ensures.entries
    ∙ ap (λ eq. put_entries eq blocks c.args.place c.args.bytes) equal_places
    ∙ put_kept c.args.place blocks.entries c.args.bytes blocks.cap cap once (omega (arith, valid.1, cap))
    ∙ ap (with_block c.args.place c.args.bytes) c.self.view_is

pub returns-in-Ok-clause-kept : goal.returns-in-Ok-clause-kept
returns-in-Ok-clause-kept c = inl (stands c)

pub returns-in-Ok-clause-again : goal.returns-in-Ok-clause-again
returns-in-Ok-clause-again c = λ there. stands c

pub returns-clause-again : goal.returns-clause-again
returns-clause-again c there =
    let cached : is_cached c.self.inside.blocks.entries c.args.place ≡ true = ap (λ kept. is_cached kept c.args.place) c.self.view_is ∙ there in
    let found = subst (λ eq. IsSome (lookup (eq c.args.place) c.self.inside.blocks.entries)) (sym equal_places) (cached_found c.args.place c.self.inside.blocks.entries cached) in
    let done : IsOk c.put.result = c.put.ensures.succeeds found in
    let no : false ≡ true = subst (λ r. IsOk r) c.in-Err.is done in
    cc
