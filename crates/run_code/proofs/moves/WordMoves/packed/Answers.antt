use Rattle.std.proofs.Common.{◌≡◌, ◌∙◌, arith}
use Rattle.run_code.specs.Extraction.{AreZeroCounts}
use Rattle.run_code.proofs.BitMoves.{ArePacked, packed_six, packed_bits, packed_below}
use Rattle.run_code.proofs.moves.WordMoves.packed.Goals as goal
use Rattle.run_code.proofs.moves.WordMoves.packed.Goals.{After-lowered}

all : (c : After-lowered) → ArePacked c.args.bits c.args.word 6 c.lowered.result
all c =
    let same : c.self.inside.word ≡ c.args.word = c.self.view_is ∙ c.renew.ensures in
    let are : AreZeroCounts c.args.word c.self.inside.counts = rw same at c.self.invariant in
    packed_six c.args.word c.self.inside.counts are.bits c.args.bits _ _ _ _ _ _ are.small c.lowered-made.ensures c.lowered-made-2.ensures c.lowered-made-3.ensures c.lowered-made-4.ensures c.lowered-made-5.ensures c.lowered.ensures

pub returns-clause-bits : goal.returns-clause-bits
returns-clause-bits c = packed_bits c.args.bits c.args.word c.lowered.result (all (goal.at.returns-clause-bits c).After-lowered)

pub returns-clause-fits : goal.returns-clause-fits
returns-clause-fits c = packed_below c.args.bits c.args.word c.lowered.result (omega (arith, c.ranges.word)) (all (goal.at.returns-clause-fits c).After-lowered)
