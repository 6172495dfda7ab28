use Rattle.std.proofs.Common.{◌≡◌, ◌++◌, ℕ, List, length, take, drop, sym, ap, ◌∙◌, arith, rules}
use Rattle.std.proofs.lemmas.Nat.{be_bytes_8}
use Rattle.std.proofs.lemmas.List.{length-take-le, take-append-drop}
use Rattle.state_bytes.specs.Parts.{number_bytes}
use Rattle.state_bytes.proofs.Parts.{bytes_take}
use Rattle.state_bytes.proofs.number.take_number.Goals as goal

pub returns-clause-some : goal.returns-clause-some
unfolding number_bytes
returns-clause-some c =
    let bytes : List ℕ = c.args.bytes.now in
    let h = c.in_ok-front.ensures in
    let front : c.in_ok-front.front.now ≡ take 8 c.args.bytes.now = h.cases.0 in
    let back : c.in_ok-front.rest.now ≡ drop 8 c.args.bytes.now = h.cases.1 in
    let n : ℕ = c.from_be_bytes.result in
    let most = h.cases.2 in
    let len : length c.in_ok-front.front.now ≡ 8 = ap (λ (xs : List ℕ). length xs) front ∙ length-take-le 8 c.args.bytes.now (omega (arith, most)) in
    let told : number_bytes c.from_be_bytes.result ≡ c.in_ok-front.front.now =
    be_bytes_8 c.in_ok-front.front.now c.from_be_bytes.result len (λ i. rw front (bytes_take 8 c.args.bytes.now (λ k. omega (arith, c.type_inv.bytes k)) i)) c.from_be_bytes.ensures in
    sym (take-append-drop 8 c.args.bytes.now) ∙ ap (λ (xs : List ℕ). xs ++ drop 8 c.args.bytes.now) (sym front ∙ sym told) ∙ ap (λ (xs : List ℕ). number_bytes c.from_be_bytes.result ++ xs) (sym back)

pub returns-clause-number : goal.returns-clause-number
unfolding number_bytes
returns-clause-number c = search rules
