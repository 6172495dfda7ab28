use Rattle.std.proofs.lemmas.Result.{err_from_is_err_and}
use Rattle.bit_vectors.specs.Reading.{bits_left}
use Rattle.packet_decode.specs.State.{deduced_by}
use Rattle.packet_decode.specs.Parts.{found_in, kept_state}
use Rattle.packet_decode.proofs.DecoderAnswers.{fault_told, moves_on, used_is, whole_end, whole_padding, whole_parts, whole_read}
use Rattle.packet_decode.proofs.packet.take_whole_packet.Goals as goal

pub returns-in_err-kind-clause-taken : goal.returns-in_err-kind-clause-taken
returns-in_err-kind-clause-taken c =
    let p = err_from_is_err_and c.from_residual.result c.from_residual.ensures.1 in
    let state = kept_state c.args.latest.now in
    let told = c.in_err-kind.ensures.taken in
    rw (p.1, p.2) (record { moves = told.moves; reading = whole_parts (found_in c.take_parts.new.room state c.args.t) _ state c.args.t (bits_left c.args.eye.now) _ c.take_parts.new.eye told.reading })

pub returns-in_err-take_padding-clause-taken : goal.returns-in_err-take_padding-clause-taken
returns-in_err-take_padding-clause-taken c =
    let p = err_from_is_err_and c.from_residual-in_err-take_padding.result c.from_residual-in_err-take_padding.ensures.1 in
    let old = c.args.eye.now in
    let mid = c.take_parts.new.eye in
    let new = c.take_padding.new.eye in
    let state = kept_state c.args.latest.now in
    let room = c.take_parts.new.room in
    let parts = c.in_ok-kind.ensures.taken in
    let padding = c.in_err-take_padding.ensures in
    let used = used_is old mid c.requires.start parts.moves padding.within in
    rw (p.1, p.2) (record {
      moves = moves_on old mid new parts.moves padding.moves;
      reading = whole_padding (found_in room state c.args.t) _ state c.args.t (bits_left old) _ _ _ parts.reading used _ new
          (fault_told _ new _ (padding.reading (deduced_by state c.args.t room.next) room.sent room.draft.content));
    })

pub returns-in_err-take_end-clause-taken : goal.returns-in_err-take_end-clause-taken
returns-in_err-take_end-clause-taken c =
    let p = err_from_is_err_and c.from_residual-in_err-take_end.result c.from_residual-in_err-take_end.ensures.1 in
    let old = c.args.eye.now in
    let mid = c.take_parts.new.eye in
    let last = c.take_padding.new.eye in
    let new = c.take_end.new.eye in
    let state = kept_state c.args.latest.now in
    let room = c.take_parts.new.room in
    let deduced = deduced_by state c.args.t room.next in
    let parts = c.in_ok-kind.ensures.taken in
    let padding = c.in_ok-take_padding.ensures in
    let end = c.in_err-take_end.ensures in
    let used = used_is old mid c.requires.start parts.moves padding.within in
    rw (p.1, p.2) (record {
      moves = moves_on old last new (moves_on old mid last parts.moves padding.moves) end.moves;
      reading = whole_end (found_in room state c.args.t) _ state c.args.t (bits_left old) _ _ _ parts.reading used _ (padding.reading deduced room.sent room.draft.content) _ new
          (fault_told _ new _ (end.reading deduced room.sent room.draft.content));
    })

pub returns-clause-taken : goal.returns-clause-taken
returns-clause-taken c =
    let old = c.args.eye.now in
    let mid = c.take_parts.new.eye in
    let last = c.take_padding.new.eye in
    let new = c.take_end.new.eye in
    let state = kept_state c.args.latest.now in
    let room = c.take_parts.new.room in
    let deduced = deduced_by state c.args.t room.next in
    let parts = c.in_ok-kind.ensures.taken in
    let padding = c.in_ok-take_padding.ensures in
    let end = c.in_ok-take_end.ensures in
    let used = used_is old mid c.requires.start parts.moves padding.within in
    record {
      moves = moves_on old last new (moves_on old mid last parts.moves padding.moves) end.moves;
      reading = whole_read (found_in room state c.args.t) _ state c.args.t (bits_left old) _ _ _ parts.reading used _ (padding.reading deduced room.sent room.draft.content) _ (end.reading deduced room.sent room.draft.content);
    }
