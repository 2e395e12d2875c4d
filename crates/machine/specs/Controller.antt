-- The controllers: their kinds, and which kind is refused.
-- Assumes nothing.
use Rattle.std.specs.Prelude.{ℕ, [], ◌∷◌, ◌≡◌, Result, IfOk}
use Rattle.machine.specs.Refusal.{status_of, refusal, kind_check}
use Rattle.machine.specs.declared.controller.Controller.{Controller}
use Rattle.machine.specs.declared.controller.Controller.TheVariants.{None, Microdisc, Jasmin}
use Rattle.machine.specs.declared.refusal.Refusal.{Refusal}

-- the kind of a controller
abbrev pub kind_of : Controller → ℕ
kind_of None = 0
kind_of Microdisc = 1
kind_of Jasmin = 2

-- a kind gives the controller that has it, or its refusal
pub record IsKind (kind : ℕ) (outcome : Result Controller Refusal) : Type 0 where
  pub status : status_of outcome ≡ refusal (kind_check kind ∷ [])
  pub value : IfOk outcome (λ controller. kind_of controller ≡ kind)
