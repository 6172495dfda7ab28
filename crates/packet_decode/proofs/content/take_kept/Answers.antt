use Rattle.std.proofs.Common.{refl, sym, ◌∙◌, arith}
use Rattle.std.proofs.lemmas.List.{length-drop}
use Rattle.packet_decode.proofs.KeptContent.{place_inside, tells_place, tells_same}
use Rattle.packet_decode.proofs.content.take_kept.Goals as goal

pub prove-unreachable-requires : goal.prove-unreachable-requires
prove-unreachable-requires c =
    let inside = place_inside c.args.draft.now.places c.args.known.now c.copy_from.new.self c.take_bits-taken.new.into c.copy_from-2.new.self c.xor_in.new.self c.drop_in.new.self c.args.eye.now c.take_bits-taken.new.self
    (c.args.draft.now.extracted_places ∙ sym c.requires) c.copy_from.ensures c.take_bits-taken.ensures.places c.take_bits-taken.ensures.bits c.copy_from-2.ensures c.xor_in.ensures.bits c.drop_in.ensures.bits
    c.in-Some.place c.in-Some.ensures.one c.in-Some.ensures.least in
    omega (arith, inside, c.if-prove.true, c.size.ensures.size, c.at-start.ensures.at, length-drop c.args.eye.now.place c.args.eye.now.bits)

pub returns-in-Some-clause-taken : goal.returns-in-Some-clause-taken
returns-in-Some-clause-taken c =
    record {
      moves = c.take_bits-taken.ensures.moves;
      reading = tells_place c.args.draft.now.places c.args.known.now c.copy_from.new.self c.take_bits-taken.new.into c.copy_from-2.new.self c.xor_in.new.self c.drop_in.new.self c.args.eye.now c.take_bits-taken.new.self
          (c.args.draft.now.extracted_places ∙ sym c.requires) c.copy_from.ensures c.take_bits-taken.ensures.places c.take_bits-taken.ensures.bits c.copy_from-2.ensures c.xor_in.ensures.bits c.drop_in.ensures.bits
          c.in-Some.place c.at-start.result c.in-Some.ensures.one c.in-Some.ensures.least c.at-start.ensures.at c.take_bits-taken.ensures.moves.bits;
    }

pub returns-in-None-clause-taken : goal.returns-in-None-clause-taken
returns-in-None-clause-taken c =
    record {
      moves = c.take_bits-taken.ensures.moves;
      reading = tells_same c.args.draft.now.places c.args.known.now c.copy_from.new.self c.take_bits-taken.new.into c.copy_from-2.new.self c.xor_in.new.self c.drop_in.new.self c.args.eye.now c.take_bits-taken.new.self
          (c.args.draft.now.extracted_places ∙ sym c.requires) c.copy_from.ensures c.take_bits-taken.ensures.places c.take_bits-taken.ensures.bits c.copy_from-2.ensures c.xor_in.ensures.bits c.drop_in.ensures.bits
          c.take_bits-taken.result (c.in-None.ensures.none.0 refl) c.take_bits-taken.ensures.taken c.take_bits-taken.ensures.early c.take_bits-taken.ensures.fault c.take_bits-taken.ensures.moves.bits;
    }
