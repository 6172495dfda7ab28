use Rattle.std.proofs.Common.{refl, ap, ◌∙◌}
use Rattle.desk_ports.specs.declared.desk.Outlet.TheVariants as outlet
use Rattle.desk_ports.specs.Courses.{to_output}
use Rattle.desk_ports.proofs.Steps.{Writes-is}
use Rattle.ground_chain.proofs.listing.ListingAccount.end.Goals as goal

pub write_all-requires : goal.write_all-requires
write_all-requires g c = c.requires.ready.outputs outlet.Main refl

pub returns : goal.returns
returns g c = Writes-is (ap to_output (c.as_bytes.ensures ∙ c.end_line.ensures)) c.write_all.ensures
