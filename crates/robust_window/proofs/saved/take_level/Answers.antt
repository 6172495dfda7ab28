use Rattle.std.proofs.Common.{◌≡◌, ◌++◌, ◌∷◌, ℕ, List, length, get_or, suc, take, drop, sym, ap, subst, ◌∙◌, ◌<◌, arith, w16}
use Rattle.std.specs.Int.{to_be_bytes}
use Rattle.std.proofs.lemmas.Nat.{be_bytes_2}
use Rattle.std.proofs.lemmas.List.{length-take-le, take-append-drop}
use Rattle.state_bytes.proofs.Parts.{bytes_take}
use Rattle.robust_window.proofs.saved.take_level.Goals as goal

rest_bytes : (bytes : List ℕ) (first : ℕ) (rest : List ℕ) → bytes ≡ first ∷ rest → ((i : ℕ) → get_or bytes i 0 < 256) → (i : ℕ) → get_or rest i 0 < 256
rest_bytes bytes first rest e are i = subst (λ (xs : List ℕ). get_or xs (suc i) 0 < 256) e (are (suc i))

pub returns-clause-some : goal.returns-clause-some
returns-clause-some c =
    let h0 = c.in_ok-level.ensures in
    let h = c.in_ok-marks.ensures in
    let tail : List ℕ = c.in_ok-level.rest.now in
    let front : c.in_ok-marks.marks.now ≡ take 2 c.in_ok-level.rest.now = h.cases.0 in
    let back : c.in_ok-marks.rest.now ≡ drop 2 c.in_ok-level.rest.now = h.cases.1 in
    let most = h.cases.2 in
    let are = rest_bytes c.args.bytes.now c.in_ok-level.level.now c.in_ok-level.rest.now h0.cases.0 (λ k. omega (arith, c.type_inv.bytes k)) in
    let len : length c.in_ok-marks.marks.now ≡ 2 = ap (λ (xs : List ℕ). length xs) front ∙ length-take-le 2 c.in_ok-level.rest.now (omega (arith, most)) in
    let told : to_be_bytes w16 c.from_be_bytes.result ≡ c.in_ok-marks.marks.now =
    be_bytes_2 c.in_ok-marks.marks.now c.from_be_bytes.result len (λ i. rw front (bytes_take 2 c.in_ok-level.rest.now are i)) c.from_be_bytes.ensures in
    let split : c.in_ok-level.rest.now ≡ to_be_bytes w16 c.from_be_bytes.result ++ c.in_ok-marks.rest.now =
    sym (take-append-drop 2 c.in_ok-level.rest.now) ∙ ap (λ (xs : List ℕ). xs ++ drop 2 c.in_ok-level.rest.now) (sym front ∙ sym told) ∙ ap (λ (xs : List ℕ). to_be_bytes w16 c.from_be_bytes.result ++ xs) (sym back) in
    h0.cases.0 ∙ ap (λ (xs : List ℕ). c.in_ok-level.level.now ∷ xs) split
