use Rattle.std.proofs.Common.{◌≡◌, get_or, refl, arith, inl, inr}
use Rattle.std.proofs.lemmas.Bool.{cases_lt}
use Rattle.std.proofs.lemmas.Nat.{le_or_l, le_or_r}
use Rattle.bit_vectors.proofs.words.are_zero.Goals as goal

pub loop-word-preserved : goal.loop-word-preserved
loop-word-preserved c =
    let here = get_or c.args.words.now c.loop-word.word-index 0 in
    record {
      none = λ zero i lt. elim (cases_lt i c.loop-word.word-index) [
        | inl before ↦ c.loop-word.invariant.none (omega (arith, le_or_l c.loop-word.any here)) i before
        | inr from ↦
            let at : i ≡ c.loop-word.word-index = omega arith in
            rw at (omega (arith, le_or_r c.loop-word.any here))
      ];
      all = λ zeros.
          let before : c.loop-word.any ≡ 0 = c.loop-word.invariant.all (λ i lt. zeros i (omega arith)) in
          let last : here ≡ 0 = zeros c.loop-word.word-index (omega arith) in
          rw (before, last) refl;
    }
