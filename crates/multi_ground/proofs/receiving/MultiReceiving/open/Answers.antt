use Rattle.std.proofs.Common.{[], refl, sym, subst, rules}
use Rattle.side_tables.specs.Streams.{AreStreams}
use Rattle.multi_ground.specs.Receiving.{AreReckoned}
use Rattle.multi_ground.proofs.Received.{reckoned-none}
use Rattle.multi_ground.proofs.receiving.MultiReceiving.open.Goals as goal

pub returns-clause-unread : goal.returns-clause-unread
returns-clause-unread c = record {
  received = record {
    streams = subst AreStreams c.streams.view_is c.streams.invariant.0;
    reckoned = subst (AreReckoned c.args.streams []) (sym c.in_ok-open.ensures) (reckoned-none c.args.streams);
    written = refl;
    shapes = refl;
    room = search rules;
    taken = search rules;
  };
  reader = c.in_ok-open_all.ensures;
}
