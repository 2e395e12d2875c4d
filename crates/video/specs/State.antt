-- The state that one frame leaves and the next one begins with (document 01: video state).
-- Assumes nothing.
use Rattle.std.specs.Prelude.{ℕ, ◌+◌, ◌≤◌, cond, eqb}
use Rattle.machine.specs.Sizes.{last_mode, last_count, last_profile}
use Rattle.video.specs.declared.state.State.{State}

-- a fresh state is text at 50 Hz with the flash counter at 0, in profile 0
abbrev pub fresh_state : State
fresh_state = record { mode = 2; counter = 0; profile = 0 }

-- this state in another mode
abbrev pub with_mode : ℕ → State → State
with_mode mode state = record { mode = mode; counter = state.counter; profile = state.profile }

-- this state in another profile
abbrev pub with_profile : ℕ → State → State
with_profile profile state = record { mode = state.mode; counter = state.counter; profile = profile }

-- after a frame the flash counter is one more, and 0 after 31
abbrev pub next_counter : ℕ → ℕ
next_counter counter = cond (eqb counter last_count) 0 (counter + 1)

-- this state with the counter that a frame leaves
abbrev pub after_frame : State → State
after_frame state = record { mode = state.mode; counter = next_counter state.counter; profile = state.profile }

-- a state within its limits: no call that uses it refuses it
pub record Within (state : State) : Type 0 where
  pub mode : state.mode ≤ last_mode
  pub counter : state.counter ≤ last_count
  pub profile : state.profile ≤ last_profile
