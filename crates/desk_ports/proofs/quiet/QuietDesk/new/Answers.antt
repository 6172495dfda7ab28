use Rattle.std.proofs.Common.{Some, ap}
use Rattle.std.proofs.lemmas.Cmp.{nat_list_eq_equiv}
use Rattle.desk_ports.proofs.Desks.{main_kept, side_kept, none_kept, differ}
use Rattle.desk_ports.proofs.quiet.QuietDesk.new.Goals as goal

pub returns-clause-main : goal.returns-clause-main
returns-clause-main c = ap Some (main_kept c.args.side_name.now c.args.side.now c.args.main_name.now c.args.main.now c.args.main_name.now (nat_list_eq_equiv.refl c.args.main_name.now))

pub returns-clause-side : goal.returns-clause-side
returns-clause-side c = λ apart.
    let name = c.args.side_name.now in
    ap Some (side_kept name c.args.side.now c.args.main_name.now c.args.main.now name (differ name c.args.main_name.now apart) (nat_list_eq_equiv.refl name))

pub returns-clause-others : goal.returns-clause-others
returns-clause-others c = λ name from_side from_main.
    ap Some (none_kept c.args.side_name.now c.args.side.now c.args.main_name.now c.args.main.now name (differ name c.args.main_name.now from_main) (differ name c.args.side_name.now from_side))
