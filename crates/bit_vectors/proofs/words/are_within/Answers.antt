use Rattle.std.proofs.Common.{◌≡◌, get_or, bit_and, w64, refl, arith, inl, inr}
use Rattle.std.specs.Int.{bit_not}
use Rattle.std.proofs.lemmas.Bool.{cases_lt}
use Rattle.std.proofs.lemmas.Nat.{le_or_l, le_or_r}
use Rattle.bit_vectors.proofs.words.are_within.Goals as goal

pub loop-index-preserved : goal.loop-index-preserved
loop-index-preserved c =
    let here = bit_and (get_or c.args.words.now c.loop-index.index 0) (bit_not w64 (get_or c.args.others.now c.loop-index.index 0)) in
    record {
      none = λ zero i lt. elim (cases_lt i c.loop-index.index) [
        | inl before ↦ c.loop-index.invariant.none (omega (arith, zero, le_or_l c.loop-index.any here)) i before
        | inr from ↦
            let at : i ≡ c.loop-index.index = omega arith in
            rw at (omega (arith, zero, le_or_r c.loop-index.any here))
      ];
      all = λ zeros.
          let before : c.loop-index.any ≡ 0 = c.loop-index.invariant.all (λ i lt. zeros i (omega arith)) in
          let last : here ≡ 0 = zeros c.loop-index.index (omega arith) in
          rw (before, last) refl;
    }
