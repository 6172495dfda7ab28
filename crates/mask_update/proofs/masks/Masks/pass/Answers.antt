use Rattle.std.proofs.Common.{◌≡◌, ℕ, ◌≤◌, Bool, List, Option, None, Some, arith, refl}
use Rattle.std.specs.Borrow.{Bor}
use Rattle.std.specs.Prelude.{IfSome, ◌==◌}
use Rattle.bit_vectors.specs.Vectors.{IsPlaces}
use Rattle.mask_update.specs.Masks.{Running}
use Rattle.mask_update.specs.Saved.{BeginsFour, BeginsRunning, bit_byte, counted_before}
use Rattle.mask_update.proofs.Standing.{bit_byte_most, counted, counted_size, fits, four_of, running_made}
use Rattle.mask_update.proofs.masks.Masks.pass.Goals as goal
use Rattle.mask_update.proofs.masks.Masks.pass.Goals.{then-taken-gt4294967296-via-then-taken-gt4294967296, then-taken-gt4294967296-via-else-taken-gt4294967296+then-again-gt1}

pub returns-in_default-clause-none : goal.returns-in_default-clause-none
returns-in_default-clause-none c m rest begins none =
    let size = counted_size m.taken (bit_byte m.again) c.args.bytes.now _ (counted m c.args.bytes.now rest begins.bytes_are) in
    let h = c.in_default.ensures in
    absurd (omega (arith, size, h.none refl))

pub returns-then-taken-gt4294967296-clause-none : goal.returns-then-taken-gt4294967296-clause-none
returns-then-taken-gt4294967296-clause-none c m rest begins none =
    let told = c.in-Some.ensures.counted _ _ _ (fits m c.args.f begins.valid) (counted m c.args.bytes.now rest begins.bytes_are) in
    let most = begins.valid.most in
    let bit = bit_byte_most m.again in
    elim c.then-taken-gt4294967296.branch [
      | then-taken-gt4294967296-via-then-taken-gt4294967296 w ↦ absurd (omega (arith, told.0, most, w.if-taken-gt4294967296.true))
      | then-taken-gt4294967296-via-else-taken-gt4294967296+then-again-gt1 w ↦ absurd (omega (arith, told.1, bit, w.if-again-gt1.true))
    ]

made : (f taken again : ℕ) (bytes r : List ℕ) (o : Option (Bor (List ℕ))) → IsPlaces f → taken ≤ 4294967296 → again ≤ 1 → bytes ≡ counted_before taken again r
    → IfSome o (λ (u : Bor (List ℕ)). (p q m d : List Bool) × BeginsFour f p q m d r u.now) → IfSome o (λ (u : Bor (List ℕ)). (m : Running) × BeginsRunning f m bytes u.now)
made f taken again bytes r None places most bit is four = tt
made f taken again bytes r (Some u) places most bit is four =
    (record { previous = four.0; build = four.1; mask = four.2; change = four.3; again = again == 1; taken = taken }, running_made f taken again four.0 four.1 four.2 four.3 bytes r u.now places most bit is four.4)

pub returns-clause-some : goal.returns-clause-some
returns-clause-some c = made c.args.f c.in-Some.taken c.in-Some.again c.args.bytes.now c.in-Some.rest.now c.pass_four.result c.requires.valid c.if-taken-gt4294967296.false c.if-again-gt1.false c.in-Some.ensures.some c.pass_four.ensures.some

pub returns-clause-all : goal.returns-clause-all
returns-clause-all c m rest begins =
    let told = c.in-Some.ensures.counted _ _ _ (fits m c.args.f begins.valid) (counted m c.args.bytes.now rest begins.bytes_are) in
    c.pass_four.ensures.all _ _ _ _ rest (four_of c.args.f m c.in-Some.rest.now rest begins.valid told.2)

pub returns-clause-none : goal.returns-clause-none
returns-clause-none c m rest begins none =
    let told = c.in-Some.ensures.counted _ _ _ (fits m c.args.f begins.valid) (counted m c.args.bytes.now rest begins.bytes_are) in
    c.pass_four.ensures.none _ _ _ _ rest (four_of c.args.f m c.in-Some.rest.now rest begins.valid told.2) none
