use Rattle.std.proofs.Common.{map}
use Rattle.std.specs.String.{string_bytes}
use Rattle.pocket_c.proofs.CommandDesks.{IsCommandDesk-finish}
use Rattle.pocket_c.proofs.command_desk.CommandDeskDesk.finish.Goals as goal

pub invariant_of-self : goal.invariant_of-self
invariant_of-self c =
    IsCommandDesk-finish c.self.inside.desk c.finish.new.self (map string_bytes c.self.inside.words.now) c.self.inside.lacking c.args.outlet c.finish.result c.finish.ensures.kept c.finish.ensures.unchanged c.finish.ensures.called c.self.invariant
