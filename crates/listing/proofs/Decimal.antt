-- The decimal text of this crate is that of the library.
-- Assumes nothing.
use Rattle.std.proofs.Common.{ℕ, ◌^◌, ◌<◌, ◌≡◌, rules, arith}
use Rattle.std.proofs.lemmas.Fmt.{decimal_from_appends, AppendsLastDigit, length-decimal-le}
use Rattle.std.specs.Fmt.{decimal as digits}
use Rattle.listing.specs.Text.{decimal_in, decimal}

appends : AppendsLastDigit decimal_in
unfolding decimal_in
appends = search rules

pub decimal_is : (n : ℕ) → n < 2 ^ 32 → decimal n ≡ digits n
decimal_is n small =
    decimal_from_appends decimal_in appends 10 n (omega arith) (length-decimal-le 10 n (omega arith) (omega arith) (omega arith))
