use Rattle.std.proofs.Common.{◌==◌, ℕ, List, [], length, ap, sym, refl, ◌∙◌}
use Rattle.packet_decode.proofs.SavedDecoders.{are_none, first_of, second_of, third_of, three_made}
use Rattle.packet_decode.proofs.saved.are_three.Goals as goal

pub returns-in_default-pass_vector-2 : goal.returns-in_default-pass_vector-2
returns-in_default-pass_vector-2 c = (
  λ never. absurd cc,
  λ three.
      let first = c.in-Some.ensures.all three.mask _ (first_of c.args.f c.args.first c.args.others c.args.bytes.now three) in
      let second = c.in-Some-pass_vector.ensures.all three.content _ (second_of c.args.f c.args.first c.args.others c.args.bytes.now _ three first) in
      absurd (c.in_default-pass_vector-2.ensures.none three.recent [] (third_of c.args.f c.args.first c.args.others c.args.bytes.now _ three second) refl),
)

pub returns : goal.returns
returns c = (
  λ yes. three_made c.args.f c.args.first c.args.others c.args.bytes.now _ _ _ c.in-Some.ensures.some c.in-Some-pass_vector.ensures.some c.in-Some-pass_vector-2.ensures.some (are_none c.in-Some-pass_vector-2.rest.now (sym c.is_empty.ensures ∙ yes)),
  λ three.
      let first = c.in-Some.ensures.all three.mask _ (first_of c.args.f c.args.first c.args.others c.args.bytes.now three) in
      let second = c.in-Some-pass_vector.ensures.all three.content _ (second_of c.args.f c.args.first c.args.others c.args.bytes.now _ three first) in
      let third = c.in-Some-pass_vector-2.ensures.all three.recent [] (third_of c.args.f c.args.first c.args.others c.args.bytes.now _ three second) in
      c.is_empty.ensures ∙ ap (λ (xs : List ℕ). length xs == 0) third,
)
