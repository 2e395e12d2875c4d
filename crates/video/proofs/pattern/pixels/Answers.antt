-- `video::pattern::pixels` meets its contract: a sum of two products holds the six pixels in its bytes.
use Rattle.video.proofs.Words.{complemented_pixels}
use Rattle.video.proofs.pattern.pixels.Goals as goal

pub returns : goal.returns
returns c =
    rw (c.bytes_of.ensures, c.complement.ensures, c.spread-set.ensures)
    (complemented_pixels c.args.byte c.args.ink c.args.paper c.args.pattern c.requires.0 c.requires.1)
