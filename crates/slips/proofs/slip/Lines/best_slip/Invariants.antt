-- The loop's invariant: of the slips before this one, the best and its disagreements.
-- Assumes nothing.
use Rattle.std.proofs.Common.{◌-◌, ◌≡◌, ◌≤◌}
use Rattle.slips.specs.Slip.{disagreements}
use Rattle.slips.proofs.Best.{BestTo}
use Rattle.slips.proofs.Slips.{place, last_place}
use Rattle.slips.proofs.slip.Lines.best_slip.Given as goal

abbrev pub invariant-loop-slip : goal.invariant-loop-slip
invariant-loop-slip l = record {
  after_first : 1 ≤ place l.slip;
  before_end : place l.slip - 1 ≤ last_place;
  best_so_far : BestTo l.self.reference.now l.self.grabbed.now (place l.slip - 1) l.best.slip;
  counted : l.best.disagreements ≡ disagreements l.self.reference.now l.self.grabbed.now l.best.slip;
}
