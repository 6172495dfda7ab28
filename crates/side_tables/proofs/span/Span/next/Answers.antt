use Rattle.std.proofs.Common.{◌≡◌, ℕ, ◌<◌, ◌≤◌, ◌+◌, ◌-◌, ◌*◌, ◌/◌, ◌%◌, ◌∙◌, inl, inr, false, ap, arith}
use Rattle.std.proofs.Math.Nat.{add-mod_right, div-add-mod, mod-eq_of_lt, mul-mod_right}
use Rattle.std.proofs.lemmas.Bool.{cases_lt, false_from_ne_true}
use Rattle.std.proofs.lemmas.Nat.{mod_below}
use Rattle.side_tables.specs.Rows.{names}
use Rattle.side_tables.specs.declared.span.Span.{Span}
use Rattle.side_tables.proofs.Claimed.{IsNamed, named-from, named-parts, steps_between}
use Rattle.side_tables.proofs.span.Span.next.Goals as goal

-- what is left to whole steps, added
whole_steps : (d step : ℕ) → 1 ≤ step → (d + (step - d % step)) % step ≡ 0
whole_steps d step some =
    let whole : step * (d / step) + d % step ≡ d = div-add-mod d step in
    let below : d % step < step = mod_below d step some in
    let sum : d + (step - d % step) ≡ step * (d / step) + step = omega (arith, whole, below) in
    ap (λ n. n % step) sum ∙ add-mod_right (step * (d / step)) step ∙ mul-mod_right step (d / step)

-- the next number in whole steps
next_steps : (span : Span) (t : ℕ) → 1 ≤ span.step → span.first ≤ t → (t + (span.step - (t - span.first) % span.step) - span.first) % span.step ≡ 0
next_steps span t some late =
    let sum : t + (span.step - (t - span.first) % span.step) - span.first ≡ (t - span.first) + (span.step - (t - span.first) % span.step) = omega (arith, late) in
    ap (λ n. n % span.step) sum ∙ whole_steps (t - span.first) span.step some

unnamed : (span : Span) (n : ℕ) → ¬ IsNamed span n → names span n ≡ false
unnamed span n isnt = false_from_ne_true (names span n) (λ is. isnt (named-parts span n is))

-- no number before that one is named
passed_over : (span : Span) (t n : ℕ) → 1 ≤ span.step → span.first ≤ t → 0 < (t - span.first) % span.step → t ≤ n → n < t + (span.step - (t - span.first) % span.step) → names span n ≡ false
passed_over span t n some late past from before = unnamed span n (λ is.
    let next : ℕ = t + (span.step - (t - span.first) % span.step) in
    let apart : (next - n) % span.step ≡ 0 = steps_between span.step span.first n next is.from (omega (arith, before)) is.steps (next_steps span t some late) in
    let same : (next - n) % span.step ≡ next - n = mod-eq_of_lt (omega (arith, some, past, from)) in
    omega (arith, apart, same, before))

pub returns-then-self-max-clause-none : goal.returns-then-self-max-clause-none
returns-then-self-max-clause-none c = λ n from. unnamed c.args.self.now n (λ is. omega (arith, from, is.from, is.to, c.if-self-max.true))

pub returns-then-t-self-clause-first : goal.returns-then-t-self-clause-first
returns-then-t-self-clause-first c = λ n from before. unnamed c.args.self.now n (λ is. omega (arith, before, is.from))

pub returns-then-past-eq0-clause-first : goal.returns-then-past-eq0-clause-first
returns-then-past-eq0-clause-first c = λ n from before. absurd (omega (arith, from, before))

pub returns-then-self-t-clause-none : goal.returns-then-self-t-clause-none
returns-then-self-t-clause-none c = λ n from. elim (cases_lt n (c.args.t + (c.args.self.now.step - (c.args.t - c.args.self.now.first) % c.args.self.now.step))) [
  | inl before ↦ passed_over c.args.self.now c.args.t n c.requires (omega (arith, c.if-t-self.false)) (omega (arith, c.if-past-eq0.false)) from before
  | inr on ↦ unnamed c.args.self.now n (λ is. omega (arith, on, is.to, c.if-self-t.true, c.if-self-max.false))
]

pub returns-clause-named : goal.returns-clause-named
returns-clause-named c = named-from c.args.self.now _ (record {
  from = omega (arith, c.if-t-self.false);
  to = omega (arith, c.if-self-t.false, c.if-self-max.false);
  steps = next_steps c.args.self.now c.args.t c.requires (omega (arith, c.if-t-self.false));
})

pub returns-clause-first : goal.returns-clause-first
returns-clause-first c = λ n from before. passed_over c.args.self.now c.args.t n c.requires (omega (arith, c.if-t-self.false)) (omega (arith, c.if-past-eq0.false)) from before
