use Rattle.std.proofs.Common.{refl, sym, ◌∙◌, arith}
use Rattle.std.proofs.lemmas.Bool.{false≢true}
use Rattle.ground_chain.proofs.Reckonings.{counted, counts_size, decoding_of, fitting, reckoning_made}
use Rattle.ground_chain.proofs.tallied.Tallied.is_saved.Goals as goal

pub returns-in_default : goal.returns-in_default
returns-in_default c = (λ never. absurd cc, λ saved. let size = counts_size _ _ c.args.bytes.now _ (counted saved.reckoning c.args.bytes.now saved.bytes_are) in let h = c.in_default.ensures in absurd (omega (arith, size, h.none refl)))

pub returns-then-are_within : goal.returns-then-are_within
returns-then-are_within c =
    let limits = c.are_within.ensures.0 c.if-are_within.true in (
      λ yes. reckoning_made c.args.f c.in-Some.next c.in-Some.restored c.in-Some.rest.now c.args.bytes.now limits.0 limits.1 limits.2 (c.is_saved.ensures.0 yes) c.in-Some.ensures.some,
      λ saved.
          let fits = fitting saved.reckoning.reception.latest saved.reckoning.restored saved.valid.limits in
          let told = c.in-Some.ensures.counts _ _ _ fits.1 fits.0 (counted saved.reckoning c.args.bytes.now saved.bytes_are) in
          c.is_saved.ensures.1 (decoding_of c.args.f c.in-Some.next saved.reckoning c.in-Some.rest.now saved.valid told.0 told.2),
    )

pub returns-else-are_within : goal.returns-else-are_within
returns-else-are_within c = (
  λ yes. absurd (false≢true (sym c.if-are_within.false ∙ yes)),
  λ saved.
      let fits = fitting saved.reckoning.reception.latest saved.reckoning.restored saved.valid.limits in
      let told = c.in-Some.ensures.counts _ _ _ fits.1 fits.0 (counted saved.reckoning c.args.bytes.now saved.bytes_are) in
      let limits = saved.valid.limits in
      c.are_within.ensures.1 (rw (told.0, told.1) (limits.near, limits.tally, limits.most)),
)
