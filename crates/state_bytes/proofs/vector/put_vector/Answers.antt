use Rattle.std.proofs.Common.{◌≡◌, ℕ, refl, ap, ◌+◌, ◌-◌, List, [], ◌∷◌, length, arith, sym, ◌∙◌}
use Rattle.bit_vectors.specs.Vectors.{byte_count}
use Rattle.bit_vectors.proofs.NumberBits.{length-vector_bytes}
use Rattle.state_bytes.specs.Parts.{Puts, has_one}
use Rattle.std.proofs.lemmas.Bool.{false≢true}
use Rattle.state_bytes.proofs.Parts.{Puts-part, Puts-then, has_one_or, vector_part-one, vector_part-zero}
use Rattle.state_bytes.proofs.vector.put_vector.Goals as goal

pub returns-then-is_zero : goal.returns-then-is_zero
returns-then-is_zero c = rw (vector_part-zero c.args.vector.now (c.is_zero.ensures.zero.0 c.if-is_zero.true)) c.put.ensures

pub returns : goal.returns
returns c =
    let v = c.args.vector.now in
    let len : length c.store.new.out ≡ byte_count (length c.args.vector.now) = ap (λ (xs : List ℕ). length xs) c.store.ensures ∙ length-vector_bytes c.args.vector.now in
    let size : c.byte_len.result ≡ byte_count (length c.args.vector.now) = c.byte_len.ensures ∙ ap byte_count c.len.ensures.len in
    let first = c.put-from.ensures in
    let part = Puts-part c.put-from.new.out c.store.new.out c.put-from.result (c.put-from.result + c.byte_len.result) (omega arith) (omega (arith, first.end_is, first.len, c.requires, size)) (omega (arith, len, size)) in
    let both = Puts-then c.args.out.now c.put-from.new.out _ (1 ∷ []) c.store.new.out c.args.at c.put-from.result (c.put-from.result + c.byte_len.result) first part (omega (arith, first.end_is, c.requires, size)) in
    let one = has_one_or (has_one c.args.vector.now) c.args.vector.now refl (λ none. false≢true (sym c.if-is_zero.false ∙ c.is_zero.ensures.zero.1 none)) in
    rw (vector_part-one c.args.vector.now one, sym c.store.ensures) both
