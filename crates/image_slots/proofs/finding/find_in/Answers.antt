use Rattle.std.proofs.Common.{rules}
use Rattle.image_slots.proofs.Opened.{opens_long, opens_look, size_of, short_size}
use Rattle.image_slots.proofs.finding.find_in.Goals as goal

pub returns-then-count-gt512 : goal.returns-then-count-gt512
returns-then-count-gt512 g c = opens_long g.B.ByteDisk c.args.count c.args.disk.now c.requires.size (search rules)

pub make_if_blank-requires-clause-size : goal.make_if_blank-requires-clause-size
make_if_blank-requires-clause-size g c = short_size (g.B.ByteDisk.held c.args.disk.now) c.args.count (search rules) c.requires.size

pub look-requires : goal.look-requires
look-requires g c = size_of (g.B.ByteDisk.held c.args.disk.now) c.args.count (search rules) c.requires.size

pub returns : goal.returns
returns g c = opens_look g.B.ByteDisk c.look.result c.args.disk.now c.look.new.disk
    (size_of (g.B.ByteDisk.held c.args.disk.now) c.args.count (search rules) c.requires.size) c.requires.sure c.look.ensures
