use Rattle.std.proofs.Common.{◌≡◌, ◌*◌, ◌/◌, ◌%◌, drop, ◌∙◌, arith}
use Rattle.bit_vectors.specs.Reading.{bits_left, Shows}
use Rattle.bit_vectors.proofs.FrontReading.{front_is}
use Rattle.bit_vectors.proofs.WordBytes.{places_front, places_others}
use Rattle.bit_vectors.proofs.eye.BitEye.take_front.Goals as goal

pub returns-then-rest-eq0-clause-bits : goal.returns-then-rest-eq0-clause-bits
returns-then-rest-eq0-clause-bits c =
    let i = c.loop-index.invariant in
    front_is (bits_left c.args.self.now) c.args.into.now c.loop-index.into c.args.count i.places c.requires.left c.requires.places (λ k lt. i.done k (omega arith)) (λ k le. i.others k (omega arith))

pub returns-clause-bits : goal.returns-clause-bits
returns-clause-bits c =
    let i = c.loop-index.invariant in
    let end : c.loop-index.index ≡ c.args.count / 64 = omega arith in
    let shows : Shows (drop (64 * (c.args.count / 64)) (bits_left c.args.self.now)) c.ahead-2.result = rw (← end, ← i.left) c.ahead-2.ensures in
    front_is (bits_left c.args.self.now) c.args.into.now c.set_word-2.new.self c.args.count (c.set_word-2.ensures.len ∙ i.places) c.requires.left c.requires.places
    (λ k lt. places_front (bits_left c.args.self.now) c.args.into.now c.loop-index.into c.set_word-2.new.self (c.args.count / 64) (c.args.count % 64) c.word.result c.ahead-2.result c.with_front-word.result (omega arith)
    (λ k lt. i.done k (omega arith)) (λ k le. i.others k (omega arith)) c.word.ensures shows c.with_front-word.ensures.front c.with_front-word.ensures.others c.set_word-2.ensures.word c.set_word-2.ensures.others k (omega arith))
    (λ k le. places_others (bits_left c.args.self.now) c.args.into.now c.loop-index.into c.set_word-2.new.self (c.args.count / 64) (c.args.count % 64) c.word.result c.ahead-2.result c.with_front-word.result (omega arith)
    (λ k lt. i.done k (omega arith)) (λ k le. i.others k (omega arith)) c.word.ensures shows c.with_front-word.ensures.front c.with_front-word.ensures.others c.set_word-2.ensures.word c.set_word-2.ensures.others k (omega arith))
