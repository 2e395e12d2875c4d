-- Of each of the 8192 bytes fewer than 2 ^ 32 bits are counted.
use Rattle.std.proofs.Common.{rules, arith, ◌^◌}
use Rattle.std.proofs.lemmas.Iterator.{YieldsList-from_slice}
use Rattle.std.proofs.lemmas.Iterator.Adapters.{fits_from_length, at_most_from_yields_List}
use Rattle.figures.proofs.mapping.marked.Goals as goal

pub sum-requires-clause-fits : goal.sum-requires-clause-fits
sum-requires-clause-fits c =
    fits_from_length _ _ 8192 (2 ^ 64) (at_most_from_yields_List (YieldsList-from_slice c.args.map.now (search rules)) (search rules)) c.map.ensures.closure (omega arith) (λ x r q k. search rules)
