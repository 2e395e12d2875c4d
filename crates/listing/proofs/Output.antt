-- What a writer holds grows by one text after another, and by a text a line.
-- Assumes nothing.
use Rattle.std.proofs.Common.{ℕ, ◌+◌, ◌/◌, ◌<◌, ◌≡◌, List, [], ◌++◌, length, take, Option, Some, None, get_or}
use Rattle.std.proofs.lemmas.List.{take_more, flat_map_more}
use mathlib.Core.List.{append_assoc}
use Rattle.std.proofs.Math.Seq.{take-length}
use Rattle.std.specs.List.{flat_map}
use Rattle.std.specs.Simd.{first_chunks}
use Rattle.std.specs.Io.KnownBytes.{Appends}
use Rattle.machine.specs.Sizes.{line_length, frame_length}
use Rattle.listing.specs.Text.{line_text, frame_text}

-- one text, and another after it
pub appends_both : (held more all : Option (List ℕ)) (first second : List ℕ)
    → Appends held more first → Appends more all second → Appends held all (first ++ second)
appends_both None more all first second p q = tt
appends_both (Some bytes) None all first second p q = absurd p
appends_both (Some bytes) (Some then) None first second p q = absurd q
appends_both (Some bytes) (Some then) (Some last) first second p q = cc (append_assoc bytes first second)

-- the texts of the first i, and that of the next
pub appends_next : (held more all : Option (List ℕ)) (f : List ℕ → List ℕ) (xs : List (List ℕ)) (i : ℕ) (text : List ℕ)
    → i < length xs → text ≡ f (get_or xs i []) → Appends held more (flat_map f (take i xs)) → Appends more all text
    → Appends held all (flat_map f (take (i + 1) xs))
appends_next held more all f xs i text within next p q =
    rw (take_more xs i [] within, ← flat_map_more f [] (take i xs) (get_or xs i []), ← next) (appends_both held more all _ _ p q)

-- the texts of all lines
pub appends_frame : (held all : Option (List ℕ)) (lines : List (List ℕ)) (i : ℕ) (frame : List ℕ)
    → i ≡ length lines → lines ≡ first_chunks line_length (length frame / line_length) frame → length frame ≡ frame_length
    → Appends held all (flat_map line_text (take i lines)) → Appends held all (frame_text frame)
unfolding frame_text
appends_frame held all lines i frame end chunks size p = rw (end, take-length lines, chunks, size) at p
