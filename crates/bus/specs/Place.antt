-- The address decode: the table of targets and numbers.
-- Assumes nothing.
use Rattle.std.specs.Prelude.{ℕ, ◌-◌, ◌%◌, Bool, cond, ◌&&◌, ◌||◌, [], ◌∷◌, eqb, leb}
use Rattle.machine.specs.Bits.{bit}
use Rattle.machine.specs.Image.{folded}
use Rattle.machine.specs.Refusal.{refusal, if_done, kind_check, profile_check, controller_check}
use Rattle.bus.specs.declared.latch.Latches.{Latches}
use Rattle.bus.specs.declared.place.Decoded.{Decoded}
use Rattle.bus.specs.declared.place.Place.{Place}
use Rattle.bus.specs.declared.place.Target.{Target}
use Rattle.bus.specs.declared.place.Target.TheVariants.{Ram, Via, Controller, BasicRom, OverlayRam, BootEprom, Unassigned}

-- the number of a target (document 01: target)
abbrev pub target_number : Target → ℕ
target_number Ram = 0
target_number Via = 1
target_number Controller = 2
target_number BasicRom = 3
target_number OverlayRam = 4
target_number BootEprom = 5
target_number Unassigned = 6

-- target 0, RAM: the number is the folded address
abbrev pub ram : ℕ → ℕ → Place
ram profile address = record { target = Ram; number = folded profile address }

-- target 1, VIA: the number is the register
abbrev pub via : ℕ → Place
via address = record { target = Via; number = address % 16 }

-- target 2, controller: the number counts from 0300
abbrev pub controller : ℕ → Place
controller address = record { target = Controller; number = address - 0x300 }

-- target 3, BASIC ROM: the number counts from C000
abbrev pub basic_rom : ℕ → Place
basic_rom address = record { target = BasicRom; number = address - 0xC000 }

-- target 4, overlay RAM: the number is the address
abbrev pub overlay_ram : ℕ → Place
overlay_ram address = record { target = OverlayRam; number = address }

-- target 5, boot EPROM: the number counts from its start
abbrev pub boot_eprom : ℕ → ℕ → Place
boot_eprom start address = record { target = BootEprom; number = address - start }

-- target 6, unassigned: the number counts from 0300
abbrev pub unassigned : ℕ → Place
unassigned address = record { target = Unassigned; number = address - 0x300 }

-- where the boot EPROM begins: the Microdisc's has 8K, the Jasmin's 16K
abbrev pub eprom_start_8k : ℕ
eprom_start_8k = 0xE000

abbrev pub eprom_start_16k : ℕ
eprom_start_16k = 0xC000

-- from low to high, both included
abbrev pub between : ℕ → ℕ → ℕ → Bool
between low high address = leb low address && leb address high

-- the areas of every decode, by the address as it is: C000 to FFFF, page 3, and RAM
abbrev pub areas : ℕ → Place → Place → ℕ → Place
areas profile pageThree upper address =
    cond (leb 0xC000 address) upper (cond (between 0x300 0x3FF address) pageThree (ram profile address))

-- no controller: page 3 is the VIA, C000 to FFFF is BASIC
abbrev pub without_controller : ℕ → ℕ → Place
without_controller profile address = areas profile (via address) (basic_rom address) address

-- the Microdisc's page 3: 0310 to 031F, of which 0310 to 0314 and 0318 are its registers
abbrev pub microdisc_page : ℕ → Place
microdisc_page address =
    cond (between 0x310 0x31F address) (cond (leb address 0x314 || eqb address 0x318) (controller address) (unassigned address)) (via address)

-- the Microdisc with its EPROM selected: E000 to FFFF is the EPROM, and C000 to DFFF overlay RAM
abbrev pub microdisc_eprom : ℕ → Place
microdisc_eprom address = cond (leb eprom_start_8k address) (boot_eprom eprom_start_8k address) (overlay_ram address)

-- the Microdisc's latch: bit 1 set is BASIC, else bit 7 set is overlay RAM and clear selects the EPROM
abbrev pub microdisc_upper : ℕ → ℕ → Place → Place
microdisc_upper latch address eprom = cond (bit 2 latch) (basic_rom address) (cond (bit 128 latch) (overlay_ram address) eprom)

-- the Microdisc, by its one latch
abbrev pub with_microdisc : ℕ → ℕ → ℕ → Place
with_microdisc profile latch address =
    areas profile (microdisc_page address) (microdisc_upper latch address (microdisc_eprom address)) address

-- the Jasmin's page 3: its registers at the end
abbrev pub jasmin_page : ℕ → Place
jasmin_page address = cond (between 0x3F4 0x3FF address) (controller address) (via address)

-- the Jasmin's latches: bit 0 of the first set is overlay RAM, else bit 0 of the second set is the EPROM and clear BASIC
abbrev pub jasmin_upper : ℕ → ℕ → ℕ → Place
jasmin_upper first second address =
    cond (bit 1 first) (overlay_ram address) (cond (bit 1 second) (boot_eprom eprom_start_16k address) (basic_rom address))

-- the Jasmin, by its two latches
abbrev pub with_jasmin : ℕ → ℕ → ℕ → ℕ → Place
with_jasmin profile first second address = areas profile (jasmin_page address) (jasmin_upper first second address) address

-- the target that an address reaches, by the controller kind
unfoldable pub place : ℕ → Latches → ℕ → Place
place profile latches address =
    cond (eqb latches.kind 1) (with_microdisc profile latches.first address)
    (cond (eqb latches.kind 2) (with_jasmin profile latches.first latches.second address) (without_controller profile address))

-- refusals 12, 7, 13
abbrev pub decode_refusal : ℕ → ℕ → ℕ
decode_refusal profile kind = refusal (profile_check profile ∷ kind_check kind ∷ controller_check profile kind ∷ [])

-- target and number, each 0 where the decode is refused
unfoldable pub decode_answer : ℕ → Latches → ℕ → Decoded
decode_answer profile latches address =
    let status = decode_refusal profile latches.kind in
    let reached = place profile latches address in
    if_done status (record { status = 0; target = target_number reached.target; number = reached.number })
    (record { status = status; target = 0; number = 0 })
