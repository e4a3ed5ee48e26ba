use Rattle.generation_view.proofs.Fetches.{pieces_read}
use Rattle.generation_view.proofs.reads.read_pieces.Goals as goal

pub returns-in-Ok-fetch_all : goal.returns-in-Ok-fetch_all
returns-in-Ok-fetch_all g c =
    pieces_read g.D.Drive c.args.drive.now c.fetch_all.new.drive c.args.pieces c.in-Ok-places.places c.as_slice.result.now c.in-Ok.reading c.fetch_all.new.reading
    c.answer.result c.in-Ok.ensures.pieces c.in-Ok-places.ensures c.as_slice.ensures c.in-Ok.ensures.begins c.in-Ok-fetch_all.ensures.fetched c.answer.ensures.answered
