use Rattle.std.proofs.Common.{subst}
use Rattle.desk_ports.specs.Courses.{AfterRun, by_stop}
use Rattle.flight_chain.specs.Compressing.{Compression, compression_of, compress_work, stop_by}
use Rattle.flight_chain.proofs.CompressCourses.{Owes-unread}
use Rattle.flight_chain.proofs.flight.Flight.compress.Goals as goal

pub drive_whole-requires-clause-owed : goal.drive_whole-requires-clause-owed
drive_whole-requires-clause-owed g c =
    let s = c.self.inside.compressing in
    record { work = compress_work (compression_of s); owed = Owes-unread s c.self.invariant }

pub returns-clause-ran : goal.returns-clause-ran
returns-clause-ran g c =
    let a = g.D.Desk.meaning c.args.desk.now in
    let b = g.D.Desk.meaning c.drive_whole.new.desk in
    let s = c.self.inside.compressing in
    subst (λ (k : Compression). AfterRun (compress_work k) a b (by_stop stop_by c.drive_whole.result)) c.self.view_is (c.drive_whole.ensures.ran (compress_work (compression_of s)) (Owes-unread s c.self.invariant))
