use Rattle.std.proofs.Common.{◌≡◌, ℕ, ◌+◌, ◌-◌, ◌*◌, ◌≤◌, eqb, false, length, get_or, ap, ◌∙◌, arith}
use Rattle.run_code.proofs.EdgeWords.{edges_are, edges_spare, edges_more, top_bit}
use Rattle.run_code.proofs.edge.edges.Goals as goal
use Rattle.run_code.proofs.edge.edges.Goals.{After-word-word}

-- the bit after the word
after : (c : After-word-word) → eqb c.loop-index.next 1 ≡ get_or c.args.mask.now (64 * (c.loop-index.index - 1 + 1)) false
after c =
    let place : 64 * c.loop-index.index ≡ 64 * (c.loop-index.index - 1 + 1) = omega arith in
    c.loop-index.invariant.next ∙ ap (λ (n : ℕ). get_or c.args.mask.now n false) place

pub set_word-requires-clause-spare : goal.set_word-requires-clause-spare
set_word-requires-clause-spare c =
    rw c.loop-index.invariant.same_length (edges_spare c.args.mask.now (c.loop-index.index - 1) c.word-word.result c.loop-index.next c.word-word.ensures c.loop-index.invariant.bit (after (goal.at.set_word-requires-clause-spare c).After-word-word))

pub loop-index-preserved : goal.loop-index-preserved
loop-index-preserved c =
    let d = (goal.at.loop-index-preserved c).After-word-word in
    let i = c.loop-index.invariant in
    let word = c.word-word.result in
    record {
      same_length = c.set_word.ensures.len ∙ i.same_length;
      within = omega (arith, i.within);
      bit = omega (arith, c.word-word.type_inv);
      next = top_bit c.args.mask.now (c.loop-index.index - 1) c.word-word.result c.word-word.ensures c.word-word.type_inv;
      done = edges_more c.args.mask.now c.loop-index.into c.set_word.new.self (c.loop-index.index - 1) c.word-word.result c.loop-index.next c.word-word.ensures i.bit (after d) c.set_word.ensures.word c.set_word.ensures.others (λ k le. i.done k (omega arith));
    }

pub returns-clause-edges : goal.returns-clause-edges
returns-clause-edges c =
    let some : 1 ≤ length c.args.mask.now = omega (arith, c.word_count-index.ensures.count, c.word_count-index.ensures.some) in
    edges_are c.args.mask.now c.loop-index.into some c.loop-index.invariant.same_length (λ k lt. c.loop-index.invariant.done k (omega arith))
