use Rattle.std.proofs.Common.{refl, sym, ap, ◌∙◌}
use Rattle.desk_ports.specs.declared.desk.Outlet.TheVariants as outlet
use Rattle.desk_ports.specs.Courses.{to_output}
use Rattle.desk_ports.proofs.Steps.{Writes-cut-more, Writes-is, Writes-more, Writes-ready}
use Rattle.ground_chain.specs.declared.verdict.Verdict.{Verdict}
use Rattle.ground_chain.specs.Listing.{front_line, own_vectors, shown_vectors}
use Rattle.ground_chain.proofs.RestCourses.{lines-are, shown-are}
use Rattle.ground_chain.proofs.listing.ListingAccount.write.Goals as goal

pub write_all-requires : goal.write_all-requires
write_all-requires g c = c.requires.ready.outputs outlet.Main refl

pub write_own-requires-clause-output : goal.write_own-requires-clause-output
write_own-requires-clause-output g c = Writes-ready outlet.Main c.in_ok-write_all.ensures (c.requires.ready.outputs outlet.Main refl)

pub returns-in_err-write_all-clause-written : goal.returns-in_err-write_all-clause-written
returns-in_err-write_all-clause-written g c = λ judged verdict shows.
    let level = c.level.ensures.level in
    let v = sym verdict in
    let head = c.as_bytes.ensures ∙ (c.front_of.ensures ∙ λ i. front_line (v i) (level i)) in
    let cut = Writes-cut-more _ outlet.Main _ (own_vectors judged) c.from_residual.ensures.1 (Writes-is (ap to_output head) c.in_err-write_all.ensures) in
    Writes-is (ap to_output (lines-are judged c.args.decoder.now shows)) cut

pub returns-clause-written : goal.returns-clause-written
returns-clause-written g c = λ judged verdict shows.
    let level = c.level.ensures.level in
    let v = sym verdict in
    let head = c.as_bytes.ensures ∙ (c.front_of.ensures ∙ λ i. front_line (v i) (level i)) in
    let decoder = c.args.decoder.now in
    let vectors = ap (λ (x : Verdict). shown_vectors x decoder) v ∙ shown-are judged decoder shows in
    let both = Writes-more outlet.Main _ _ (Writes-is (ap to_output head) c.in_ok-write_all.ensures) (Writes-is (ap to_output vectors) c.write_own.ensures.written) in
    Writes-is (ap to_output (lines-are judged decoder shows)) both
