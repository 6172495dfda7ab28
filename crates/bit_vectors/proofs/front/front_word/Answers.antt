use Rattle.std.proofs.Common.{◌≡◌, ℕ, List, take, arith, inl, inr}
use Rattle.std.proofs.lemmas.Bool.{cases_lt}
use Rattle.std.proofs.lemmas.List.{length-take, length-take-le, get_or-take, get_or_past}
use Rattle.bit_vectors.specs.Vectors.{AreBytes}
use Rattle.bit_vectors.proofs.WordBytes.{Shows-bytes}
use Rattle.bit_vectors.proofs.front.front_word.Goals as goal

front_bytes : (n : ℕ) (bytes front : List ℕ) → front ≡ take n bytes → AreBytes bytes → AreBytes front
front_bytes n bytes front same below i =
    elim (cases_lt i n) [
      | inl lt ↦ rw (same, get_or-take n bytes i 0 lt) (below i)
      | inr le ↦ rw (same, get_or_past (take n bytes) i 0 (omega (arith, length-take n bytes))) (omega arith)
    ]

pub returns-in-Some : goal.returns-in-Some
returns-in-Some c =
    let chunk = c.in-Some.ensures.cases in
    Shows-bytes c.args.bytes.now c.in-Some.front.now c.from_be_bytes.result (rw chunk.same (length-take-le 8 c.args.bytes.now chunk.enough)) (front_bytes 8 c.args.bytes.now c.in-Some.front.now chunk.same (λ k. omega (arith, c.type_inv.bytes k))) c.from_be_bytes.ensures (λ i lt. rw chunk.same (get_or-take 8 c.args.bytes.now i 0 lt))
