use Rattle.index_model.proofs.IndexFaults.SortedExtents.{found, none_found, still_end}
use Rattle.index_model.proofs.index_faults.extents.overlap.Goals as goal

pub ascend-apart-requires : goal.ascend-apart-requires
ascend-apart-requires c = record { ends = still_end c.args.extents.now c.in_ok-sorted.sorted.items c.deref.result.now c.in_ok-sorted.ensures.moved c.deref.ensures.value c.requires.ends }

pub returns-clause-yes : goal.returns-clause-yes
returns-clause-yes c =
    found c.args.extents.now c.in_ok-sorted.sorted.items c.deref.result.now c.in_ok-sorted.ensures.moved c.deref.ensures.value
    c.ascend-apart.result c.in_ok-sorted.ensures.rises c.ascend-apart.ensures.fails

pub returns-clause-fails : goal.returns-clause-fails
returns-clause-fails c =
    none_found c.args.extents.now c.in_ok-sorted.sorted.items c.deref.result.now c.in_ok-sorted.ensures.moved c.deref.ensures.value
    c.ascend-apart.result c.ascend-apart.ensures.yes
