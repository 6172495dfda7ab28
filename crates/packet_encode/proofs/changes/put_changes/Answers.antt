use Rattle.std.proofs.Common.{◌≡◌, ℕ, ◌+◌, ◌<◌, ◌++◌, List, Bool, true, false, length, replicate, subst, ap, sym, ◌∙◌, arith}
use Rattle.std.specs.Prelude.{Contains}
use Rattle.std.proofs.lemmas.Bool.{OnFalse_at, OnTrue_at}
use Rattle.std.proofs.lemmas.List.{length-append}
use Rattle.bit_vectors.specs.Vectors.{number_bits}
use Rattle.bit_vectors.proofs.NumberBits.{length-number_bits}
use Rattle.run_code.specs.Runs.{run_bits}
use Rattle.packet_encode.specs.Forms.{direction_bits, wide_by, directions_of}
use Rattle.packet_encode.proofs.Packets.{directions-level_zero, directions-none, front_is, front_most, has_one, has_one-some, has_one-without, has_one-zeros, long_bits, no_change, no_level, quiet_is, short_bits}
use Rattle.packet_encode.proofs.changes.put_changes.Goals as goal

-- the recent changes are zero
quiet_zeros : (c : goal.After-put_level) → c.recent-recent.result.now ≡ replicate (length c.recent-recent.result.now) false
quiet_zeros c = c.recent-recent.ensures.kept ∙ OnTrue_at c.if-is_quiet.true c.is_quiet.ensures.zero ∙ ap (λ (v : List Bool). replicate (length v) false) (sym c.recent-recent.ensures.kept)

pub returns-then-is_quiet-clause-bits : goal.returns-then-is_quiet-clause-bits
returns-then-is_quiet-clause-bits c = λ form recent level directions.
    let recent_is : c.recent-recent.result.now ≡ form.recent = c.recent-recent.ensures.kept ∙ sym recent in
    let level_is : c.effective-level.result ≡ form.level = c.effective-level.ensures.kept ∙ sym level in
    let zeros = quiet_zeros c in
    quiet_is c.args.pen.now.bits c.put_level.new.pen.bits c.recent-recent.result.now _ form.level c.put_level.ensures.bits
    (ap (λ n. 32 + n) level_is) (omega (arith, level_is, c.effective-level.ensures.most)) zeros
    ∙ ap (λ v. (c.args.pen.now.bits ++ run_bits v) ++ number_bits 4 form.level) recent_is
    ∙ short_bits c.args.pen.now.bits form (no_change form (ap has_one (sym recent_is) ∙ has_one-zeros c.recent-recent.result.now zeros))

pub returns-then-is_quiet-clause-wide : goal.returns-then-is_quiet-clause-wide
returns-then-is_quiet-clause-wide c =
    ap (λ d. wide_by d c.args.window.now.recent c.args.mask.now)
    (directions-none c.args.mask.now c.args.window.now.recent c.args.window.now.level c.args.window.now.twice
    (has_one-without c.args.window.now.recent c.args.mask.now
    (ap has_one (sym c.recent-recent.ensures.kept) ∙ has_one-zeros c.recent-recent.result.now (quiet_zeros c))))

pub returns-then-is_quiet-clause-most : goal.returns-then-is_quiet-clause-most
returns-then-is_quiet-clause-most c =
    let number : ℕ = 32 + c.effective-level.result in
    omega (arith, ap length c.put_level.ensures.bits, length-append c.args.pen.now.bits (number_bits 6 number), length-number_bits 6 number)

pub returns-then-level-eq0-clause-bits : goal.returns-then-level-eq0-clause-bits
returns-then-level-eq0-clause-bits c = λ form recent level directions.
    let recent_is : c.recent-recent.result.now ≡ form.recent = c.recent-recent.ensures.kept ∙ sym recent in
    let level_is : c.effective-level.result ≡ form.level = c.effective-level.ensures.kept ∙ sym level in
    front_is c.args.pen.now.bits c.put_runs.new.pen.bits c.put_number.new.self.bits c.recent-recent.result.now form.recent c.from.result form.level
    c.put_runs.ensures.bits c.put_number.ensures.bits recent_is (c.from.ensures ∙ level_is)
    ∙ short_bits c.args.pen.now.bits form (no_level form (sym level_is ∙ c.if-level-eq0.true))

pub returns-then-level-eq0-clause-wide : goal.returns-then-level-eq0-clause-wide
returns-then-level-eq0-clause-wide c =
    ap (λ d. wide_by d c.args.window.now.recent c.args.mask.now)
    (directions-level_zero c.args.mask.now c.args.window.now.recent c.args.window.now.level c.args.window.now.twice (sym c.effective-level.ensures.kept ∙ c.if-level-eq0.true))

pub returns-then-level-eq0-clause-most : goal.returns-then-level-eq0-clause-most
returns-then-level-eq0-clause-most c =
    omega (arith, front_most c.args.pen.now.bits c.put_runs.new.pen.bits c.put_number.new.self.bits c.recent-recent.result.now c.from.result c.put_runs.ensures.bits c.put_number.ensures.bits, ap length c.recent-recent.ensures.kept)

pub put_directions-requires-clause-room : goal.put_directions-requires-clause-room
put_directions-requires-clause-room c =
    omega (arith, front_most c.args.pen.now.bits c.put_runs.new.pen.bits c.put_number.new.self.bits c.recent-recent.result.now c.from.result c.put_runs.ensures.bits c.put_number.ensures.bits, ap length c.recent-recent.ensures.kept)

pub returns-clause-bits : goal.returns-clause-bits
returns-clause-bits c = λ form recent level directions.
    let recent_is : c.recent-recent.result.now ≡ form.recent = c.recent-recent.ensures.kept ∙ sym recent in
    let level_is : c.effective-level.result ≡ form.level = c.effective-level.ensures.kept ∙ sym level in
    let above : 0 < form.level = omega (arith, c.if-level-eq0.false) in
    c.put_directions.ensures.bits form.level above
    ∙ ap (λ bits. bits ++ direction_bits c.recent-recent.result.now (directions_of c.args.mask.now c.recent-recent.result.now form.level c.twice.result))
    (front_is c.args.pen.now.bits c.put_runs.new.pen.bits c.put_number.new.self.bits c.recent-recent.result.now form.recent c.from.result form.level
    c.put_runs.ensures.bits c.put_number.ensures.bits recent_is (c.from.ensures ∙ level_is))
    ∙ ap (λ v. ((c.args.pen.now.bits ++ run_bits form.recent) ++ number_bits 4 form.level) ++ direction_bits v (directions_of c.args.mask.now v form.level c.twice.result)) recent_is
    ∙ ap (λ b. ((c.args.pen.now.bits ++ run_bits form.recent) ++ number_bits 4 form.level) ++ direction_bits form.recent (directions_of c.args.mask.now form.recent form.level b)) c.twice.ensures.kept
    ∙ ap (λ d. ((c.args.pen.now.bits ++ run_bits form.recent) ++ number_bits 4 form.level) ++ direction_bits form.recent d) (sym directions)
    ∙ long_bits c.args.pen.now.bits form (ap has_one (sym recent_is) ∙ has_one-some c.recent-recent.result.now (subst (λ (v : List Bool). Contains v true) (sym c.recent-recent.ensures.kept) (OnFalse_at c.if-is_quiet.false c.is_quiet.ensures.some))) above

pub returns-clause-most : goal.returns-clause-most
returns-clause-most c =
    omega (arith, c.put_directions.ensures.most, front_most c.args.pen.now.bits c.put_runs.new.pen.bits c.put_number.new.self.bits c.recent-recent.result.now c.from.result c.put_runs.ensures.bits c.put_number.ensures.bits, ap length c.recent-recent.ensures.kept)
