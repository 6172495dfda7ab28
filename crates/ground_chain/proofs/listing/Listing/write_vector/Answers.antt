use Rattle.std.proofs.Common.{ap, ◌∙◌}
use Rattle.desk_ports.specs.declared.desk.Outlet.TheVariants as outlet
use Rattle.desk_ports.specs.Courses.{to_output}
use Rattle.desk_ports.proofs.Steps.{Writes-cut-more, Writes-is, Writes-more}
use Rattle.ground_chain.proofs.listing.Listing.write_vector.Goals as goal

pub returns-in_err-write_all-clause-written : goal.returns-in_err-write_all-clause-written
returns-in_err-write_all-clause-written g c = Writes-cut-more _ outlet.Main _ c.args.after.now c.from_residual.ensures.1 (Writes-is (ap to_output (c.deref.ensures.value ∙ c.spell.ensures.digits)) c.in_err-write_all.ensures)

pub returns-clause-written : goal.returns-clause-written
returns-clause-written g c =
    Writes-more outlet.Main _ _ (Writes-is (ap to_output (c.deref.ensures.value ∙ c.spell.ensures.digits)) c.in_ok-write_all.ensures) (Writes-is (ap to_output c.as_bytes.ensures.value) c.write_all-2.ensures)
