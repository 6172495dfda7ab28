use Rattle.std.proofs.Common.{◌≡◌, ℕ, ◌≤◌, refl, arith, inl, inr}
use Rattle.std.specs.Prelude.{◌⊎◌}
use Rattle.packet_decode.proofs.SavedDecoders.{decoding_made, numbers_size, three_of}
use Rattle.packet_decode.proofs.decoder.Decoder.is_saved.Goals as goal

first_level : (n level : ℕ) → (n ≡ 0 × level ≤ 0) ⊎ (n ≡ 0 → ⊥) → n ≡ 0 → level ≡ 0
first_level n level (inl both) e = omega (arith, both.1)
first_level n level (inr some) e = absurd (some e)

pub returns-in_default : goal.returns-in_default
returns-in_default c = (λ never. absurd cc, λ saved. let size = numbers_size _ _ _ _ c.args.bytes.now saved.bytes_are in let h = c.in_default.ensures in absurd (omega (arith, size, h.none refl)))

pub returns : goal.returns
returns c = (
  λ yes. decoding_made c.args.f c.args.before c.in-Some.mask c.in-Some.content c.in-Some.level c.in-Some.rest.now c.args.bytes.now c.requires.valid
      (omega (arith, c.ranges.before.fits, c.if-mask-before.false)) (omega (arith, c.ranges.before.fits, c.if-content-before.false)) c.if-mask-before.false c.if-content-before.false (omega (arith, c.if-level-gt15.false))
      (first_level c.in-Some.content c.in-Some.level c.if-level-gt0.either) (c.are_three.ensures.0 yes) c.in-Some.ensures.some,
  λ saved.
      let told = c.in-Some.ensures.numbers _ _ _ _ saved.valid.mask_number saved.valid.content_number saved.bytes_are in
      c.are_three.ensures.1 (three_of c.args.f c.in-Some.mask c.in-Some.content saved.decoding c.in-Some.rest.now saved.valid told.0 told.1 told.3),
)
