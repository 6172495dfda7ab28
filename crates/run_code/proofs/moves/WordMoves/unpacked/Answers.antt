use Rattle.std.proofs.Common.{◌≡◌, ◌∙◌}
use Rattle.run_code.specs.Extraction.{AreZeroCounts}
use Rattle.run_code.proofs.BitMoves.{laid_six, laid_all}
use Rattle.run_code.proofs.moves.WordMoves.unpacked.Goals as goal

pub returns-clause-bits : goal.returns-clause-bits
returns-clause-bits c =
    let same : c.self.inside.word ≡ c.args.word = c.self.view_is ∙ c.renew.ensures in
    let are : AreZeroCounts c.args.word c.self.inside.counts = rw same at c.self.invariant in
    laid_all c.args.number c.args.word c.lifted.result
    (laid_six c.args.word c.self.inside.counts are.bits c.args.number _ _ _ _ _ _ are.fits c.lifted-made.ensures c.lifted-made-2.ensures c.lifted-made-3.ensures c.lifted-made-4.ensures c.lifted-made-5.ensures c.lifted.ensures)
