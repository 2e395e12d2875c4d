-- `card::line_starts` meets its contract: the test of each half is computed over its 224 numbers.
use Rattle.std.proofs.Common.{refl}
use Rattle.card.proofs.Entries.{is_card}
use Rattle.card.proofs.card.line_starts.Goals as goal

pub returns : goal.returns
returns c = is_card _ refl refl refl
