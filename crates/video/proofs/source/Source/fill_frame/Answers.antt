-- `video::source::Source::fill_frame` meets its contract: one line more is painted and counted, and marked where that is asked for, in
-- each turn. What the answers share is the law `next`: a lemma of their own over it would state the painted frame again.
use Rattle.std.proofs.Common.{◌≡◌, not, eqb, ap, ◌∙◌, arith}
use Rattle.machine.specs.Sizes.{lines}
use Rattle.video.specs.Internal.{block_ram}
use Rattle.video.proofs.FillFrame.{none, none_marked, next, next_marked, few, all}
use Rattle.video.proofs.Frames.{modes_small}
use Rattle.video.specs.declared.registers.Registers.{Registers}
use Rattle.video.proofs.source.Source.fill_frame.Goals as goal

pub loop-line-init : goal.loop-line-init
loop-line-init g c = record {
  done =
      none c.args.self.block.now c.args.self.state c.args.frame.now c.at_line_start-registers.result c.requires
      (ap (λ (r : Registers). r.mode) c.at_line_start-registers.ensures ∙ c.from.ensures);
  marks = none_marked c.args.self.block.now c.args.self.state (not (eqb g.row.MARKED 0)) c.args.marks.now (λ k. (c.type_inv.marks k).fits);
}

pub overflow_add-screen : goal.overflow_add-screen
overflow_add-screen g c =
    let is = c.fill_line-painted.ensures in
    let grown = next _ _ _ _ _ _ _ c.loop-line.invariant.done (omega arith) _ c.new.ensures _ _ is.output_after is.value in
    record { fits = omega (arith, grown.screens) }

pub overflow_add-character : goal.overflow_add-character
overflow_add-character g c =
    let is = c.fill_line-painted.ensures in
    let grown = next _ _ _ _ _ _ _ c.loop-line.invariant.done (omega arith) _ c.new.ensures _ _ is.output_after is.value in
    record { fits = omega (arith, few _ _ _ _ _ _ _ grown) }

pub loop-line-preserved : goal.loop-line-preserved
loop-line-preserved g c =
    let here = c.loop-line in
    let is = c.fill_line-painted.ensures in record {
      done = next _ _ _ _ _ _ _ here.invariant.done (omega arith) _ c.new.ensures _ _ is.output_after is.value;
      marks =
          next_marked _ _ _ _ _ _ _ here.invariant.done _ c.new.ensures (not (eqb g.row.MARKED 0)) _ here.marks _ here.invariant.marks
          is.marks_after;
    }

pub answer-requires-clause-mode_le_last_mode : goal.answer-requires-clause-mode_le_last_mode
answer-requires-clause-mode_le_last_mode g c =
    rw c.loop-line.invariant.done.path
    (modes_small (block_ram c.args.self.block.now) c.args.self.state.mode c.args.self.is_within.mode c.loop-line.line)

pub answer-requires-clause-screen_bound : goal.answer-requires-clause-screen_bound
answer-requires-clause-screen_bound g c = (omega (arith, c.loop-line.invariant.done.screens), omega (arith, few _ _ _ _ _ _ _ c.loop-line.invariant.done))

pub returns-clause-value : goal.returns-clause-value
returns-clause-value g c =
    c.answer.ensures ∙ rw c.after_frame.ensures (all _ _ _ _ _ _ _ c.loop-line.invariant.done (omega arith)).0

pub returns-clause-frame_after : goal.returns-clause-frame_after
returns-clause-frame_after g c = (all _ _ _ _ _ _ _ c.loop-line.invariant.done (omega arith)).1

pub returns-clause-marks_after : goal.returns-clause-marks_after
returns-clause-marks_after g c = let end : c.loop-line.line ≡ lines = omega arith in rw end at c.loop-line.invariant.marks
