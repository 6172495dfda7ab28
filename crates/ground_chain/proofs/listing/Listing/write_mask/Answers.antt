use Rattle.std.proofs.Common.{◌≡◌, eqb, Some, codes, sym, ap, ◌∙◌}
use Rattle.std.specs.Option.{option_eq}
use Rattle.desk_ports.specs.declared.desk.Outlet.TheVariants as outlet
use Rattle.desk_ports.specs.Courses.{to_output}
use Rattle.desk_ports.proofs.Steps.{Writes-cut-more, Writes-is, Writes-more}
use Rattle.ground_chain.specs.Listing.{mask_text, known_with}
use Rattle.ground_chain.proofs.RestCourses.{not_known}
use Rattle.ground_chain.proofs.listing.Listing.write_mask.Goals as goal

pub returns-in_err-write_all-clause-written : goal.returns-in_err-write_all-clause-written
returns-in_err-write_all-clause-written g c =
    let text : codes "-" ≡ mask_text (known_with c.args.t c.args.decoder.now.state.mask) = ap mask_text (sym (not_known c.args.t c.args.decoder.now.state.mask (ap (λ n. option_eq eqb n (Some c.args.t)) (sym c.last_mask.ensures.number) ∙ sym c.eq.ensures ∙ c.if-eq.false))) in
    Writes-cut-more _ outlet.Main _ c.args.after.now c.from_residual.ensures.1 (Writes-is (ap to_output (c.as_bytes.ensures.value ∙ text)) c.in_err-write_all.ensures)

pub returns-clause-written : goal.returns-clause-written
returns-clause-written g c =
    let text : codes "-" ≡ mask_text (known_with c.args.t c.args.decoder.now.state.mask) = ap mask_text (sym (not_known c.args.t c.args.decoder.now.state.mask (ap (λ n. option_eq eqb n (Some c.args.t)) (sym c.last_mask.ensures.number) ∙ sym c.eq.ensures ∙ c.if-eq.false))) in
    Writes-more outlet.Main _ _ (Writes-is (ap to_output (c.as_bytes.ensures.value ∙ text)) c.in_ok-write_all.ensures) (Writes-is (ap to_output c.as_bytes-2.ensures.value) c.write_all-2.ensures)
