use Rattle.std.proofs.Common.{◌≡◌, ◌+◌, ◌*◌, ◌/◌, ◌≤◌, ◌&&◌, false, length, replicate, subst, sym, ◌∙◌, ap, arith}
use Rattle.mask_update.specs.Masks.{Advances, Running, Walked}
use Rattle.mask_update.proofs.Moving.{Walked-all, Walked-none, Walked-same, Walked-then}
use Rattle.mask_update.proofs.masks.Masks.move_places.Goals as goal
use Rattle.mask_update.proofs.masks.Masks.move_places.Goals.{After-word_count-count, After-move_words}

-- the vectors have as many places as the input, also without the change before
places : (c : After-word_count-count) → length c.clear_change.new.self.mask ≡ length c.args.input.now
places c = ap (λ (r : Running). length r.mask) c.clear_change.ensures ∙ sym c.requires.places

previous_len : (c : After-word_count-count) → length c.clear_change.new.self.previous ≡ length c.args.input.now
previous_len c = ap (λ (r : Running). length r.previous) (sym c.self.view_is) ∙ c.self.invariant.previous_len ∙ ap (λ (r : Running). length r.mask) c.self.view_is ∙ places c

build_len : (c : After-word_count-count) → length c.clear_change.new.self.build ≡ length c.args.input.now
build_len c = ap (λ (r : Running). length r.build) (sym c.self.view_is) ∙ c.self.invariant.build_len ∙ ap (λ (r : Running). length r.mask) c.self.view_is ∙ places c

pub loop-block-init : goal.loop-block-init
loop-block-init c = Walked-none c.args.input.now 0 0 c.clear_change.new.self (λ k ge lt. absurd (omega (arith, lt)))

pub loop-block-preserved : goal.loop-block-preserved
loop-block-preserved c =
    let from = 8 * c.loop-block.block in
    let next : 8 * (c.loop-block.block + 1) ≡ from + 8 = omega arith in
    rw next (Walked-then c.args.input.now 0 from c.loop-block.same c.clear_change.new.self c.loop-block.self c.loop-block.invariant (previous_len (goal.at.loop-block-preserved c).After-word_count-count) c.move_block-same.new.self (from + 8) c.move_block-same.result (omega arith) (omega arith) c.move_block-same.ensures)

-- all words
all : (c : After-move_words) → length c.clear_change.new.self.previous ≡ length c.args.input.now → Walked c.args.input.now 0 c.word_count-count.result (c.move_words.result && c.loop-block.same) c.clear_change.new.self c.move_words.new.self
all c len =
    let end : 8 * c.loop-block.block ≡ c.word_count-count.result / 8 * 8 = omega arith in
    Walked-then c.args.input.now 0 (8 * c.loop-block.block) c.loop-block.same c.clear_change.new.self c.loop-block.self c.loop-block.invariant len c.move_words.new.self c.word_count-count.result c.move_words.result (omega arith) (omega arith) (rw end c.move_words.ensures)

most : (c : After-word_count-count) → length c.args.input.now ≤ 64 * c.word_count-count.result
most c = omega (arith, places c, ap (λ (r : Running). length r.mask) c.self.view_is, c.word_count-count.ensures.count)

pub returns-clause-next : goal.returns-clause-next
returns-clause-next c =
    let d = (goal.at.returns-clause-next c).After-word_count-count in
    let zeros : c.clear_change.new.self.change ≡ replicate (length c.clear_change.new.self.mask) false =
    ap (λ (r : Running). r.change) c.clear_change.ensures ∙ ap (λ (r : Running). replicate (length r.mask) false) (sym c.clear_change.ensures) in
    let a = subst (λ (r : Running). Advances c.args.input.now false r c.move_words.new.self) c.clear_change.ensures
    (Walked-all c.args.input.now c.word_count-count.result _ c.clear_change.new.self c.move_words.new.self (all c (previous_len d)) (previous_len d) (most d) (places d) (build_len d) zeros) in
    record { build = a.build; mask = a.mask; change = a.change; previous = a.previous; places = a.places; taken = a.taken }

pub returns-clause-same : goal.returns-clause-same
returns-clause-same c =
    let d = (goal.at.returns-clause-same c).After-word_count-count in
    let same = Walked-same c.args.input.now c.word_count-count.result _ c.clear_change.new.self c.move_words.new.self (all c (previous_len d)) (previous_len d) (most d) in
    let was = ap (λ (r : Running). r.previous) c.clear_change.ensures in
    (λ is. sym was ∙ same.0 is, λ is. same.1 (was ∙ is))
