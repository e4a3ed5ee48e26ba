-- A use puts the block first.
use Rattle.std.proofs.Common.{subst, ap, ◌∙◌}
use Rattle.std.specs.List.{IsDistinct}
use Rattle.std.specs.Map.{keys_of}
use Rattle.lru.specs.LruCache.{promoted}
use Rattle.block_cache.specs.Kept.{used}
use Rattle.block_cache.proofs.KeptLemmas.{promoted_used}
use Rattle.tape_types.proofs.Places.{equal_places}
use Rattle.block_cache.proofs.cache.BlockCache.used.Goals as goal

pub returns : goal.returns
returns c =
    let cached = c.self.inside.blocks.entries in
    ap (λ e. e.entries) c.promote-there.ensures.entries
    ∙ ap (λ eq. promoted (eq c.args.place) cached) equal_places
    ∙ promoted_used c.args.place cached (subst (λ eq. IsDistinct eq (keys_of cached)) equal_places c.len-count.ensures.valid.0)
    ∙ ap (λ cached. used cached c.args.place) c.self.view_is
