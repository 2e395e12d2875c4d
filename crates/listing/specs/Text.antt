-- The text of the listing, as lists of bytes.
-- Assumes nothing.
use Rattle.std.specs.Prelude.{ℕ, zero, suc, ◌+◌, ◌/◌, ◌%◌, cond, List, [], ◌∷◌, ◌++◌, map, eqb, ltb}
use Rattle.std.specs.List.{flat_map}
use Rattle.std.specs.Simd.{first_chunks}
use Rattle.machine.specs.Sizes.{line_length, lines}
use Rattle.video.specs.declared.answer.Painted.{Painted}

-- the byte that ends a line
abbrev pub line_feed : List ℕ
line_feed = 10 ∷ []

-- the byte of a digit, 0 to 9
abbrev pub digit : ℕ → ℕ
digit d = 48 + d

-- the digit of a pixel, 0 to 7
abbrev pub pixel_digit : ℕ → ℕ
pixel_digit pixel = digit (pixel % 8)

-- a line of the frame: a digit for each pixel, and a line feed
abbrev pub line_text : List ℕ → List ℕ
line_text pixels = map pixel_digit pixels ++ line_feed

-- n in base ten, in at most so many places: the last digit, and from 10 on those of n / 10 before it
unfoldable pub decimal_in : ℕ → ℕ → List ℕ
decimal_in zero n = []
decimal_in (suc places) n = cond (ltb n 10) [] (decimal_in places (n / 10)) ++ (digit (n % 10) ∷ [])

-- a number in base ten, with no zero in front and "0" for 0: ten places hold every u32
abbrev pub decimal : ℕ → List ℕ
decimal n = decimal_in 10 n

-- a word and the number after it
abbrev pub field : List ℕ → ℕ → List ℕ
field word n = word ++ decimal n

-- "mode "
abbrev pub mode_word : List ℕ
mode_word = 109 ∷ 111 ∷ 100 ∷ 101 ∷ 32 ∷ []

-- " counter "
abbrev pub counter_word : List ℕ
counter_word = 32 ∷ 99 ∷ 111 ∷ 117 ∷ 110 ∷ 116 ∷ 101 ∷ 114 ∷ 32 ∷ []

-- " screen "
abbrev pub screen_word : List ℕ
screen_word = 32 ∷ 115 ∷ 99 ∷ 114 ∷ 101 ∷ 101 ∷ 110 ∷ 32 ∷ []

-- " character "
abbrev pub character_word : List ℕ
character_word = 32 ∷ 99 ∷ 104 ∷ 97 ∷ 114 ∷ 97 ∷ 99 ∷ 116 ∷ 101 ∷ 114 ∷ 32 ∷ []

-- "refused "
abbrev pub refused_word : List ℕ
refused_word = 114 ∷ 101 ∷ 102 ∷ 117 ∷ 115 ∷ 101 ∷ 100 ∷ 32 ∷ []

-- the last line: the state after the frame, and the screen and character bytes used
abbrev pub closing_text : Painted → List ℕ
closing_text answer =
    field mode_word answer.state.mode
    ++ field counter_word answer.state.counter
    ++ field screen_word answer.screen
    ++ field character_word answer.character
    ++ line_feed

-- the only line where the painting is refused
abbrev pub refused_text : ℕ → List ℕ
refused_text status = field refused_word status ++ line_feed

-- the lines of a frame, one after another
unfoldable pub frame_text : List ℕ → List ℕ
frame_text frame = flat_map line_text (first_chunks line_length lines frame)

-- all that is written: the frame and the last line, or the only line where the painting is refused
abbrev pub listing_text : Painted → List ℕ → List ℕ
listing_text answer frame =
    cond (eqb answer.status 0) (frame_text frame ++ closing_text answer) (refused_text answer.status)
