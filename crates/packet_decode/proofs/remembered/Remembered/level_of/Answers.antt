use Rattle.std.proofs.Common.{◌≡◌, ◌+◌, ◌*◌, ◌/◌, ◌%◌, ◌∷◌, [], Some, true, refl, sym, ap, ◌∙◌, arith}
use Rattle.std.proofs.lemmas.Bool.Decides.{Decides-eqb}
use Rattle.std.proofs.lemmas.Option.{same_Some}
use Rattle.std.proofs.lemmas.Slice.Eq.{slice_eq-Decides}
use Rattle.packet_decode.proofs.RepeatedPacket.{at_level}
use Rattle.packet_decode.proofs.remembered.Remembered.level_of.Goals as goal

pub returns-then-eq : goal.returns-then-eq
returns-then-eq c = λ level.
    let kept = c.in_ok-kept.kept.now in
    let byte = c.in_ok-byte.byte.now in
    let was : c.args.self.now ≡ c.in_ok-kept.kept.now ∷ c.in_ok-kept.others.now = sym c.self.view_is ∙ c.in_ok-kept.ensures.cases.0 in
    let same : c.in_ok-byte.rest.now ≡ c.in_ok-kept.others.now = (slice_eq-Decides Decides-eqb c.in_ok-byte.rest.now c.in_ok-kept.others.now true c.if-eq.ensures).0 refl in
    rw (was, c.in_ok-byte.ensures.cases.0) (
      (λ is.
          let level_is : byte / 4 % 16 ≡ level = same_Some (byte / 4 % 16) level is in
          let value : byte ≡ kept / 64 * 64 + 4 * level + kept % 4 = omega (arith, level_is, c.if-byte-kept.true, c.if-byte-kept-2.true) in
          record {
            below = omega (arith, level_is);
            some = λ none. let never : kept ∷ c.in_ok-kept.others.now ≡ [] = none in cc;
            bytes_are = λ i. value i ∷ same i;
          }),
      (λ is. ap Some (at_level level kept byte c.in_ok-kept.others.now c.in_ok-byte.rest.now is).3),
    )
