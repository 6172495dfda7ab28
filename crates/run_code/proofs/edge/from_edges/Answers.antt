use Rattle.std.proofs.Common.{◌≡◌, ℕ, ◌+◌, ◌-◌, ◌*◌, ◌^◌, ◌<◌, ◌≤◌, bit_xor, eqb, false, length, get_or, ap, sym, ◌∙◌, arith}
use Rattle.run_code.proofs.EdgeWords.{edges_are, AreEdges, AreEdges-summed, summed_below, summed_spare, summed_more, top_bit}
use Rattle.run_code.proofs.edge.from_edges.Goals as goal
use Rattle.run_code.proofs.edge.from_edges.Goals.{After-summed}

-- the bit after the word
after : (c : After-summed) → eqb c.loop-index.next 1 ≡ get_or c.loop-index.into (64 * (c.loop-index.index - 1 + 1)) false
after c =
    let place : 64 * c.loop-index.index ≡ 64 * (c.loop-index.index - 1 + 1) = omega arith in
    c.loop-index.invariant.next ∙ ap (λ (n : ℕ). get_or c.loop-index.into n false) place

are : (c : After-summed) → AreEdges (bit_xor c.summed.result (18446744073709551615 * c.loop-index.next)) c.loop-index.next c.word.result
are c = AreEdges-summed c.summed.result c.loop-index.next c.word.result c.loop-index.invariant.bit c.summed.ensures

pub set_word-requires-clause-spare : goal.set_word-requires-clause-spare
set_word-requires-clause-spare c =
    let d = (goal.at.set_word-requires-clause-spare c).After-summed in
    summed_spare c.args.edges.now c.loop-index.into (c.loop-index.index - 1) c.word.result c.loop-index.next _ c.loop-index.invariant.same_length c.word.ensures c.loop-index.invariant.bit (after d) (are d)

pub loop-index-preserved : goal.loop-index-preserved
loop-index-preserved c =
    let d = (goal.at.loop-index-preserved c).After-summed in
    let i = c.loop-index.invariant in
    let below : bit_xor c.summed.result (18446744073709551615 * c.loop-index.next) < 2 ^ 64 = summed_below c.summed.result c.loop-index.next i.bit c.summed.type_inv in
    record {
      same_length = c.set_word.ensures.len ∙ i.same_length;
      within = omega (arith, i.within);
      bit = omega arith;
      next = top_bit c.set_word.new.self (c.loop-index.index - 1) _ c.set_word.ensures.word below;
      done = summed_more c.args.edges.now c.loop-index.into c.set_word.new.self (c.loop-index.index - 1) c.word.result c.loop-index.next _ c.word.ensures i.bit (after d) (are d) c.set_word.ensures.word c.set_word.ensures.others (λ k le. i.done k (omega arith));
    }

pub returns-clause-edges : goal.returns-clause-edges
returns-clause-edges c =
    let some : 1 ≤ length c.loop-index.into = omega (arith, c.loop-index.invariant.same_length, c.word_count-index.ensures.count, c.word_count-index.ensures.some) in
    sym (edges_are c.loop-index.into c.args.edges.now some (sym c.loop-index.invariant.same_length) (λ k lt. c.loop-index.invariant.done k (omega arith)))
