-- What a bus access answers, and what it leaves in the memory and the latches, for every input.
-- Assumes nothing.
use Rattle.std.specs.Prelude.{ℕ, ◌<◌, Bool, true, cond, ◌||◌, List, [], ◌∷◌, ◌≡◌, eqb, length}
use Rattle.machine.specs.Image.{Image, byte_at, with_byte}
use Rattle.machine.specs.Refusal.{Check, refusal, if_done, memory_check, kind_check, profile_check, controller_check}
use Rattle.bus.specs.Latch.{latches_after}
use Rattle.bus.specs.Place.{target_number, place}
use Rattle.bus.specs.declared.cycle.Access.{Access}
use Rattle.bus.specs.declared.cycle.Written.{Written}
use Rattle.bus.specs.declared.latch.Latches.{Latches}
use Rattle.bus.specs.declared.place.Place.{Place}

-- targets 0 and 4 hold bytes of the memory
abbrev pub is_memory : Place → Bool
is_memory reached = eqb (target_number reached.target) 0 || eqb (target_number reached.target) 4

-- the memory has the byte of a place that is one of its bytes
abbrev pub Held : Image → Place → Type 0
Held memory reached = is_memory reached ≡ true → reached.number < length memory

-- the byte that a place gives: that of RAM and overlay RAM, 0 for the other targets
abbrev pub fetched : Image → Place → ℕ
fetched memory reached = cond (is_memory reached) (byte_at memory reached.number) 0

-- the memory after a byte was sent to a place: RAM and overlay RAM store it, no other target does
abbrev pub stored : Image → Place → ℕ → Image
stored memory reached byte = cond (is_memory reached) (with_byte memory reached.number byte) memory

-- the checks of an access, which a call of many accesses has before its own
abbrev pub access_checks : ℕ → ℕ → ℕ → List Check
access_checks profile size kind =
    profile_check profile ∷ memory_check profile size ∷ kind_check kind ∷ controller_check profile kind ∷ []

-- refusals 12, 1, 7, 13, by the profile, the length of the memory and the kind
abbrev pub access_refusal : ℕ → ℕ → ℕ → ℕ
access_refusal profile size kind = refusal (access_checks profile size kind)

-- what every access answers: target, number and byte, each 0 where it is refused
abbrev pub access_answer : ℕ → Place → ℕ → Access
access_answer status reached byte =
    if_done status (record { status = 0; target = target_number reached.target; number = reached.number; byte = byte })
    (record { status = status; target = 0; number = 0; byte = 0 })

-- a read gives the byte of its place, and changes nothing
unfoldable pub read_answer : List ℕ → ℕ → Latches → ℕ → Access
read_answer memory profile latches address =
    let reached = place profile latches address in
    access_answer (access_refusal profile (length memory) latches.kind) reached (fetched memory reached)

-- a write has 0 for its byte read
unfoldable pub write_answer : List ℕ → ℕ → Latches → ℕ → Access
write_answer memory profile latches address =
    access_answer (access_refusal profile (length memory) latches.kind) (place profile latches address) 0

-- the memory that a write leaves
unfoldable pub write_contents : List ℕ → ℕ → Latches → ℕ → ℕ → List ℕ
write_contents memory profile latches address byte =
    if_done (access_refusal profile (length memory) latches.kind) (stored memory (place profile latches address) byte) memory

-- the latches that a write leaves
unfoldable pub write_latches : List ℕ → ℕ → Latches → ℕ → ℕ → Latches
write_latches memory profile latches address byte =
    if_done (access_refusal profile (length memory) latches.kind) (latches_after latches address byte) latches

-- the answer of the write by value: that of the access, and the latches
abbrev pub written : Access → Latches → Written
written answer latches =
    record { status = answer.status; target = answer.target; number = answer.number; byte = answer.byte; latches = latches }
