use Rattle.std.proofs.Common.{◌≡◌, ℕ, [], ◌∷◌, append-nil, take, unwrap_or, Option, sym, ap, ◌∙◌}
use Rattle.desk_ports.proofs.Steps.{Writes-is}
use Rattle.late_window.specs.Late.{held_bytes}
use Rattle.late_window.proofs.late.LateArrivals.judge_least.Goals as goal

pub returns-clause-written : goal.returns-clause-written
returns-clause-written g c =
    let s = c.args.self.now in
    let number = ap (λ (o : Option ℕ). unwrap_or o 0) (sym c.out_number.ensures) in
    let body = sym c.out_bytes.ensures.bytes in
    let given : take 1 s.sorter.line.held ≡ record { number = c.out_number.result; body = c.out_bytes.result.now } ∷ [] = c.release.ensures.out ∙ λ i. record { number = number i; body = body i } ∷ [] in
    Writes-is (sym (append-nil _) ∙ ap (held_bytes s.judging) (sym given)) c.arrive.ensures.written
