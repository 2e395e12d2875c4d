-- What a reader whose bytes are known has given, read after read, into one room.
-- Assumes nothing.
use Rattle.std.proofs.Common.{ℕ, ◌≡◌, ◌≤◌, ◌+◌, ◌-◌, ◌∙◌, ap, sym, subst, List, ◌++◌, length, take, Option, length-take-le}
use Rattle.std.proofs.Math.Seq.{take-append-add}
use Rattle.std.proofs.lemmas.List.{take-append-le}
use Rattle.std.proofs.KnownBytes.{Consumes-trans}
use Rattle.std.specs.Io.KnownBytes.{Consumes}
use borrow.Rule.Slice.PartMut.{put_mid, post_of}

-- what the first bytes of the room are after a read into what is behind them
joined : (from count : ℕ) (room part : List ℕ) → from ≤ length room → count ≤ length part
    → take (from + count) (put_mid from (length room - from) room part) ≡ take from room ++ take count part
joined from count room part within fits =
    let rest = post_of from (length room - from) room in
    ap (λ n. take (n + count) (take from room ++ (part ++ rest))) (sym (length-take-le from room within))
    ∙ take-append-add (take from room) (part ++ rest) count
    ∙ ap (λ bytes. take from room ++ bytes) (take-append-le count part rest fits)

-- one read more
pub came_next : (start now next : Option (List ℕ)) (from count : ℕ) (room part : List ℕ) → from ≤ length room → count ≤ length part
    → Consumes start now (take from room) → Consumes now next (take count part)
    → Consumes start next (take (from + count) (put_mid from (length room - from) room part))
came_next start now next from count room part within fits before read =
    subst (Consumes start next) (sym (joined from count room part within fits))
    (Consumes-trans start now next (take from room) (take count part) before read)
