use Rattle.std.proofs.Common.{◌≡◌, ℕ, suc, get_or, ◌+◌, ◌<◌, List, length, replicate, true, false, take, ◌∷◌, ◌++◌, ap, subst, arith, sym, ◌∙◌}
use Rattle.std.proofs.lemmas.Bool.{false≢true}
use Rattle.bit_vectors.specs.Vectors.{AreBytes, bits_of, vector_bytes}
use Rattle.state_bytes.specs.Parts.{has_one}
use Rattle.state_bytes.proofs.Parts.{bytes_take, has_one-zeros, is_set, is_unset, no_spare, one_begins, set_back, set_front, set_size, starts, vector_of_zeros, zero_begins}
use Rattle.state_bytes.proofs.vector.pass_vector.Goals as goal
use Rattle.state_bytes.proofs.vector.pass_vector.Goals.{then-first-ne1-via-then-first-ne1, then-first-ne1-via-else-first-ne1+then-not-may, then-first-ne1-via-else-first-ne1+else-not-may+then-rest-size, then-has_spare_bit-via-then-has_spare_bit, then-has_spare_bit-via-else-has_spare_bit+then-are_zero}

rest_bytes : (bytes : List ℕ) (first : ℕ) (rest : List ℕ) → bytes ≡ first ∷ rest → ((i : ℕ) → get_or bytes i 0 < 256) → (i : ℕ) → get_or rest i 0 < 256
rest_bytes bytes first rest e are i = subst (λ (xs : List ℕ). get_or xs (suc i) 0 < 256) e (are (suc i))

pub returns-in_err-first-clause-none : goal.returns-in_err-first-clause-none
returns-in_err-first-clause-none c v rest begins none = let s = starts _ v _ rest begins.begins in let h = c.in_err-first.ensures in absurd (omega (arith, s, h.cases))

pub returns-then-first-eq0-clause-some : goal.returns-then-first-eq0-clause-some
returns-then-first-eq0-clause-some c =
    let h = c.in_ok-first.ensures in
    (replicate c.args.f false, zero_begins c.args.may c.args.f c.args.bytes.now c.in_ok-first.rest.now (h.cases.0 ∙ ap (λ n. n ∷ c.in_ok-first.rest.now) c.if-first-eq0.true))

pub returns-then-first-eq0-clause-all : goal.returns-then-first-eq0-clause-all
returns-then-first-eq0-clause-all c v rest begins = let h = c.in_ok-first.ensures in (is_unset _ v _ rest _ _ begins.begins h.cases.0 c.if-first-eq0.true).1

pub returns-then-first-ne1-clause-none : goal.returns-then-first-ne1-clause-none
returns-then-first-ne1-clause-none c v rest begins none =
    let h = c.in_ok-first.ensures in
    let set = is_set c.args.may c.args.f v c.args.bytes.now rest c.in_ok-first.rest.now c.in_ok-first.first.now begins h.cases.0 c.if-first-eq0.false in
    elim c.then-first-ne1.branch [
      | then-first-ne1-via-then-first-ne1 w ↦ absurd (w.if-first-ne1.true set.first_is)
      | then-first-ne1-via-else-first-ne1+then-not-may w ↦ absurd (false≢true (sym w.if-not-may.true ∙ set.allowed))
      | then-first-ne1-via-else-first-ne1+else-not-may+then-rest-size w ↦
          let size = set_size c.args.f v c.in_ok-first.rest.now rest set.places set.tail_is in
          absurd (omega (arith, size, w.if-rest-size.true, c.byte_len-size.ensures))
    ]

pub returns-then-has_spare_bit-clause-none : goal.returns-then-has_spare_bit-clause-none
returns-then-has_spare_bit-clause-none c v rest begins none =
    let h = c.in_ok-first.ensures in
    let set = is_set c.args.may c.args.f v c.args.bytes.now rest c.in_ok-first.rest.now c.in_ok-first.first.now begins h.cases.0 c.if-first-eq0.false in
    let front : c.split_at.result.0.now ≡ vector_bytes v = c.split_at.ensures.front ∙ rw c.byte_len-size.ensures (set_front c.args.f v c.in_ok-first.rest.now rest set.places set.tail_is) in
    elim c.then-has_spare_bit.branch [
      | then-has_spare_bit-via-then-has_spare_bit w ↦
          absurd (no_spare v (rw (set.places, sym front) (c.has_spare_bit.ensures.0 w.if-has_spare_bit.true)))
      | then-has_spare_bit-via-else-has_spare_bit+then-are_zero w ↦
          let zeros = w.are_zero.ensures.0 w.if-are_zero.true in
          let none = vector_of_zeros v (rw front at zeros) in
          absurd (false≢true (sym (has_one-zeros (length v)) ∙ ap has_one (sym none) ∙ set.one))
    ]

pub returns-clause-some : goal.returns-clause-some
returns-clause-some c =
    let h = c.in_ok-first.ensures in
    let front : List ℕ = c.split_at.result.0.now in
    let whole : c.args.bytes.now ≡ 1 ∷ (c.split_at.result.0.now ++ c.split_at.result.1.now) =
    h.cases.0 ∙ ap (λ n. n ∷ c.in_ok-first.rest.now) c.if-first-ne1.false ∙ ap (λ (xs : List ℕ). 1 ∷ xs) c.split_at.ensures.by_index.0 in
    let bytes : AreBytes c.split_at.result.0.now = λ i. rw c.split_at.ensures.front (bytes_take c.byte_len-size.result c.in_ok-first.rest.now (λ k. rest_bytes c.args.bytes.now c.in_ok-first.first.now c.in_ok-first.rest.now h.cases.0 (λ j. omega (arith, c.type_inv.bytes j)) k) i) in (
      take c.args.f (bits_of c.split_at.result.0.now),
      rw c.if-not-may.false (one_begins c.args.f c.args.bytes.now c.split_at.result.0.now c.split_at.result.1.now c.requires.valid.0 whole bytes (c.split_at.ensures.front_len ∙ c.byte_len-size.ensures)
          (λ one. false≢true (sym c.if-has_spare_bit.false ∙ c.has_spare_bit.ensures.1 one)) (λ none. false≢true (sym c.if-are_zero.false ∙ c.are_zero.ensures.1 none))),
    )

pub returns-clause-all : goal.returns-clause-all
returns-clause-all c v rest begins =
    let h = c.in_ok-first.ensures in
    let set = is_set c.args.may c.args.f v c.args.bytes.now rest c.in_ok-first.rest.now c.in_ok-first.first.now begins h.cases.0 c.if-first-eq0.false in
    c.split_at.ensures.back ∙ rw c.byte_len-size.ensures (set_back c.args.f v c.in_ok-first.rest.now rest set.places set.tail_is)
