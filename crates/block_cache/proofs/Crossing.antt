-- A cache may go to another thread.
use denote.Param.Send.{IsSend, IsSync, sendable}
use Rattle.std.proofs.Crossing.{crosses, frees}
use Rattle.std.proofs.MapsCrossing as maps
use Rattle.lru.proofs.Crosses.{Deed-send, KeyRef-send, List-send}
use Rattle.tape_types.specs.contracts.cartridges.Place as places
use Rattle.tape_types.specs.contracts.texts.Bytes as texts
use Rattle.block_cache.specs.contracts.cache.BlockCache as caches

place_send : IsSend places.the_row
place_send = search (crosses, sendable) depth 60 fits 100000

place_sync : IsSync places.the_row
place_sync = search (crosses, sendable) depth 60 fits 100000

bytes_send : IsSend texts.the_row
bytes_send = search (crosses, sendable) depth 60 fits 100000

-- its keys are shared by its table and its order, and its memory may be freed anywhere
pub cache_send : IsSend caches.the_row
cache_send = search (place_send, place_sync, bytes_send, maps.crosses, Deed-send, KeyRef-send, List-send, frees, crosses, sendable) depth 60 fits 100000
