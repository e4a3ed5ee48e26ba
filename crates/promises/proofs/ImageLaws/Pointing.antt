-- The last index of the index partition points right, also once the data partition has more indexes.
use Rattle.std.proofs.Common.{ℕ, ◌≡◌, ◌≢◌, inl, inr, ◌<◌, ◌≤◌, ◌++◌, List, [], ◌∷◌, Option, Some, None, sym, ap, subst, arith}
use Rattle.std.specs.Prelude.{IfSome}
use Rattle.tape_types.specs.declared.cartridges.Cartridge.{Cartridge}
use Rattle.index_model.specs.declared.indexes.Index.{Index}
use Rattle.ltfs_label.specs.declared.Label.{Label}
use Rattle.content_laws.specs.Readings.{Construct}
use Rattle.cartridge_meaning.specs.Pointers.{IsLastOnIp}
use Rattle.cartridge_meaning.proofs.Frame.{pointers_stay}
use Rattle.promises.specs.ImageLaws.Images.{Counts, IsBehind}
use Rattle.promises.specs.ImageLaws.Made.{Base, CoveredIndex, Trees, Volume, newer_of, newest}

-- the index of the index partition is no newer than the newest of both
pub behind_newest : (floor : CoveredIndex) (ahead : Option CoveredIndex) (on_ip : Option Index) → IsBehind floor ahead on_ip
    → IfSome on_ip (λ index. index.generation ≤ (newer_of ahead floor).index.generation)
behind_newest floor None on_ip h = h
behind_newest floor (Some e) None h = tt
behind_newest floor (Some e) (Some i) h =
    let same : i ≡ e.index = (let both : Some i ≡ Some e.index = h.0 in cc) in
    omega (arith, ap (λ (j : Index). j.generation) same)

below_of : (on_ip : Option Index) (n m : ℕ) → n < m → IfSome on_ip (λ index. index.generation ≤ n) → IfSome on_ip (λ index. index.generation < m)
below_of None n m lt h = tt
below_of (Some i) n m lt h = omega (arith, lt, h)

-- an index that isn't newer than one generation isn't newer than a later one
pub at_most : (on_ip : Option Index) (n m : ℕ) → n ≤ m → IfSome on_ip (λ index. index.generation ≤ n) → IfSome on_ip (λ index. index.generation ≤ m)
at_most None n m le h = tt
at_most (Some i) n m le h = omega (arith, le, h)

points_on : (label : Label) (ips more dps : List Construct) (old new : Index) (on_ip : Option Index) → dps ≢ []
    → IfSome on_ip (λ index. index.generation < new.generation)
    → IsLastOnIp label ips dps (Some old) on_ip → IsLastOnIp label ips (more ++ dps) (Some new) on_ip
points_on label [] more dps old new on_ip some less h = h
points_on label (k ∷ older) more dps old new on_ip some less h =
    let is_less : h.0.generation < new.generation = subst (λ (o : Option Index). IfSome o (λ index. index.generation < new.generation)) h.1 less in
    (h.0, h.1, h.2, record { here = h.3.here; back = pointers_stay label h.0 old new more dps some is_less h.3.back })

-- so it does beside each image of the data partition
pub counts_point : (v : Volume) (t : Trees) (plan : Cartridge) (b : Base) (end : ℕ) (ips more : List Construct) (last : CoveredIndex) (on_ip : Option Index)
    → b.indexes ≢ [] → IsBehind b.floor b.ahead on_ip → Counts v t plan b end more last
    → IsLastOnIp v.labels.ip ips b.indexes (Some b.floor.index) on_ip → IsLastOnIp v.labels.ip ips (more ++ b.indexes) (Some last.index) on_ip
counts_point v t plan b end ips more last on_ip some behind (inl same) h =
    subst (λ (e : CoveredIndex). IsLastOnIp v.labels.ip ips (more ++ b.indexes) (Some e.index) on_ip) (sym same.1)
    (subst (λ (m : List Construct). IsLastOnIp v.labels.ip ips (m ++ b.indexes) (Some b.floor.index) on_ip) (sym same.0) h)
counts_point v t plan b end ips more last on_ip some behind (inr newer) h =
    points_on v.labels.ip ips more b.indexes b.floor.index last.index on_ip some
    (below_of on_ip (newest b) last.index.generation newer.0 (behind_newest b.floor b.ahead on_ip behind)) h
