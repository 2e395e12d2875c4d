-- `video::registers::Registers::latch` meets its contract: each arm of the match is a row of `latched`.
use Rattle.std.proofs.Common.{◌%◌, arith}
use borrow.Author.Tests.{lt-ltb, le-ltb}
use Rattle.video.specs.Registers.{latched}
use Rattle.video.proofs.registers.Registers.latch.Goals as goal

pub returns-in-0-to-7 : goal.returns-in-0-to-7
unfolding latched
returns-in-0-to-7 c = let choice = c.args.byte % 32 in simp (← c.self.view_is, lt-ltb choice 8 (omega arith), c.from-value.ensures)

pub returns-in-8-to-15 : goal.returns-in-8-to-15
unfolding latched
returns-in-8-to-15 c =
    let choice = c.args.byte % 32 in
    simp (← c.self.view_is, le-ltb choice 8 (omega arith), lt-ltb choice 16 (omega arith), c.from-value.ensures)

pub returns-in-16-to-23 : goal.returns-in-16-to-23
unfolding latched
returns-in-16-to-23 c =
    let choice = c.args.byte % 32 in
    simp (← c.self.view_is, le-ltb choice 8 (omega arith), le-ltb choice 16 (omega arith), lt-ltb choice 24 (omega arith), c.from-value.ensures)

pub returns-in_default : goal.returns-in_default
unfolding latched
returns-in_default c =
    let choice = c.args.byte % 32 in
    simp (← c.self.view_is, le-ltb choice 8 (omega arith), le-ltb choice 16 (omega arith), le-ltb choice 24 (omega arith), c.from-value.ensures)
