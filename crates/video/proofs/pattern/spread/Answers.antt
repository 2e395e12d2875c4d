-- `video::pattern::spread` meets its contract: masked copies of a pattern hold its bits, as one test over all bytes shows.
use Rattle.std.proofs.Common.{arith}
use Rattle.video.proofs.Words.{spread_by_copies}
use Rattle.video.proofs.pattern.spread.Goals as goal

pub returns : goal.returns
returns c = rw c.from.ensures (spread_by_copies c.args.pattern (omega arith))
