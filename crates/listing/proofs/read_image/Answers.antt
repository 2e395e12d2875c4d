-- The room has as many bytes as are kept at the most.
use Rattle.std.proofs.Common.{ℕ, ◌≡◌, List, length, take, Option, IfSome, subst, arith}
use Rattle.listing.specs.declared.TheConstants.{MOST_READ}
use Rattle.listing.proofs.read_image.Goals as goal

came_in : (known : Option (List ℕ)) (size most : ℕ) (room : List ℕ) → length room ≡ most
    → IfSome known (λ bytes. take size room ≡ take (length room) bytes) → IfSome known (λ bytes. take size room ≡ take most bytes)
came_in known size most room full = subst (λ n. IfSome known (λ bytes. take size room ≡ take n bytes)) full

pub returns-in_ok-drop_rest-clause-kept : goal.returns-in_ok-drop_rest-clause-kept
returns-in_ok-drop_rest-clause-kept g c =
    came_in _ c.in_ok-size.size MOST_READ c.read_full.new.bytes (omega arith) c.in_ok-size.ensures.came

pub returns-else-size-eq-MOST_READ-clause-kept : goal.returns-else-size-eq-MOST_READ-clause-kept
returns-else-size-eq-MOST_READ-clause-kept g c =
    came_in _ c.in_ok-size.size MOST_READ c.read_full.new.bytes (omega arith) c.in_ok-size.ensures.came
