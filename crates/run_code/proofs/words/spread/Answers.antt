use Rattle.std.proofs.Common.{◌-◌, ◌*◌, ◌%◌, ◌/◌, ◌^◌, bit_and, bit_or, arith, refl}
use Rattle.run_code.proofs.Spreading.{less_one, lowest_bit, none_left, spread_more_or_none, without_ones, without_others}
use Rattle.run_code.proofs.Upward.{spread_is, merged_others}
use Rattle.run_code.proofs.words.spread.Goals as goal

pub loop-rest-init : goal.loop-rest-init
loop-rest-init c = record {
  small = omega (arith, c.ranges.at);
  inside = λ i none. none;
  clear = λ i one. without_ones c.args.word c.args.at i (omega (arith, c.ranges.at)) one;
  others = λ i none. without_others c.args.word c.args.at i (omega (arith, c.ranges.word)) (omega (arith, c.ranges.at)) none;
  right = λ new same bits. bits;
}

-- the weight of the lowest 1 is below 2 ^ 64
pub overflow_mul-made : goal.overflow_mul-made
overflow_mul-made c = rw (lowest_bit (c.loop-rest.next / 2 ^ 63) c.loop-rest.rest (omega (arith, c.loop-rest.auto.next-fits)) (omega arith) c.loop-rest.invariant.small) (omega arith)

pub loop-rest-preserved : goal.loop-rest-preserved
loop-rest-preserved c =
    let l = c.loop-rest in
    let later = bit_and l.rest (l.rest - 1) in
    let one = spread_more_or_none c.args.word c.args.at c.args.ahead l.made l.next l.rest (omega (arith, l.auto.next-fits)) l.invariant in
    rw (less_one later one.small)
    (spread_more_or_none c.args.word c.args.at c.args.ahead (bit_or l.made (l.next / 2 ^ 63 * (l.rest - later))) (l.next * 2 ^ 1 % 2 ^ 64) later (omega arith) one)

pub returns-clause-bits : goal.returns-clause-bits
returns-clause-bits c = c.loop-rest.invariant.right c.loop-rest.made (λ w none. refl) (none_left c.loop-rest.made c.loop-rest.next c.loop-rest.rest (omega arith))

pub returns-then-ones-gt-MANY-clause-bits : goal.returns-then-ones-gt-MANY-clause-bits
returns-then-ones-gt-MANY-clause-bits c = spread_is c.args.word c.args.at c.args.ahead c.turned.result c.unpacked.result (omega (arith, c.ranges.at)) c.turned.ensures c.unpacked.ensures.bits

pub returns-then-ones-gt-MANY-clause-others : goal.returns-then-ones-gt-MANY-clause-others
returns-then-ones-gt-MANY-clause-others c i none = merged_others c.args.word c.args.at c.unpacked.result i (omega (arith, c.ranges.word)) (omega (arith, c.ranges.at)) none
