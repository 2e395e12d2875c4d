-- `used_map::mark` meets its contract: the weight is added in the byte of the address, where the map has it and its bit is not set.
use Rattle.std.proofs.Common.{◌≡◌, false, true, sym, ◌∙◌, arith}
use Rattle.used_map.specs.Map.{is_marked}
use Rattle.used_map.proofs.Marks.{Bytes, marked_added, added_small, marked_already, marked_outside}
use Rattle.used_map.proofs.map.mark.Goals as goal
use Rattle.used_map.proofs.map.mark.Goals.{Then-not-bit}

-- the map is one of bytes
bytes : (c : Then-not-bit) → Bytes c.args.map.now
bytes c k = grind arith

-- the bit that is tested is that of the address
clear : (c : Then-not-bit) → is_marked c.args.map.now c.args.address ≡ false
clear c = rw (c.from-then-place-map.ensures, c.from.ensures, c.bit_weight-weight.ensures) at (sym c.bit.ensures ∙ c.if-not-bit.true)

pub overflow_add-map : goal.overflow_add-map
overflow_add-map c =
    record { fits = rw c.bit_weight-weight.ensures (added_small c.args.map.now (bytes c) c.args.address (clear c)) }

pub returns-then-not-bit : goal.returns-then-not-bit
returns-then-not-bit c =
    rw c.bit_weight-weight.ensures (marked_added c.args.map.now (bytes c) c.args.address c.if-place-map.true (clear c))

pub returns-else-not-bit : goal.returns-else-not-bit
returns-else-not-bit c =
    let set : is_marked c.args.map.now c.args.address ≡ true =
    rw (c.from-then-place-map.ensures, c.from.ensures, c.bit_weight-weight.ensures) at (sym c.bit.ensures ∙ c.if-not-bit.false) in
    marked_already c.args.map.now (λ k. (c.type_inv.map k).fits) c.args.address set

pub returns-else-place-map : goal.returns-else-place-map
returns-else-place-map c =
    marked_outside c.args.map.now (λ k. (c.type_inv.map k).fits) c.args.address c.if-place-map.false
