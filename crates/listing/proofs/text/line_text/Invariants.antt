-- The digits of the pixels so far.
use Rattle.std.proofs.Common.{◌≡◌, map, take}
use Rattle.listing.specs.Text.{pixel_digit}
use Rattle.listing.proofs.text.line_text.Given as goal

abbrev pub invariant-loop-pixel : goal.invariant-loop-pixel
invariant-loop-pixel l = l.text.bytes ≡ map pixel_digit (take l.pixel-index l.pixels)
