use Rattle.std.proofs.Common.{Bool, List, codes, ◌++◌, ap}
use Rattle.desk_ports.specs.declared.desk.Outlet.TheVariants as outlet
use Rattle.desk_ports.specs.Courses.{to_output}
use Rattle.desk_ports.proofs.Steps.{Writes-cut-more, Writes-is, Writes-more}
use Rattle.packet_decode.specs.State.{latest_content}
use Rattle.ground_chain.specs.Listing.{known_with, mask_text, vector_digits}
use Rattle.ground_chain.proofs.RestCourses.{vectors_text-pieces}
use Rattle.ground_chain.proofs.listing.Listing.write_vectors.Goals as goal

pub returns-in_err-write_vector-clause-written : goal.returns-in_err-write_vector-clause-written
returns-in_err-write_vector-clause-written g c =
    let decoder = c.args.decoder.now in
    let mask = known_with c.args.t decoder.state.mask in
    let content = latest_content decoder.places decoder.state in
    let recent = ap (λ (x : List Bool). to_output (vector_digits x ++ codes " ")) c.recent.ensures.recent in
    let more = ((mask_text mask ++ codes " ") ++ (vector_digits content ++ codes "\n")) in
    Writes-is (ap to_output (vectors_text-pieces decoder.recent mask content)) (Writes-cut-more _ outlet.Main _ more c.from_residual.ensures.1 (Writes-is recent c.in_err-write_vector.ensures.written))

pub returns-in_err-write_mask-clause-written : goal.returns-in_err-write_mask-clause-written
returns-in_err-write_mask-clause-written g c =
    let decoder = c.args.decoder.now in
    let mask = known_with c.args.t decoder.state.mask in
    let content = latest_content decoder.places decoder.state in
    let recent = ap (λ (x : List Bool). to_output (vector_digits x ++ codes " ")) c.recent.ensures.recent in
    let cut = Writes-cut-more _ outlet.Main _ (vector_digits content ++ codes "\n") c.from_residual-in_err-write_mask.ensures.1 c.in_err-write_mask.ensures.written in
    Writes-is (ap to_output (vectors_text-pieces decoder.recent mask content)) (Writes-more outlet.Main _ _ (Writes-is recent c.in_ok-write_vector.ensures.written) cut)

pub returns-clause-written : goal.returns-clause-written
returns-clause-written g c =
    let decoder = c.args.decoder.now in
    let mask = known_with c.args.t decoder.state.mask in
    let content = latest_content decoder.places decoder.state in
    let recent = ap (λ (x : List Bool). to_output (vector_digits x ++ codes " ")) c.recent.ensures.recent in
    let last = ap (λ (x : List Bool). to_output (vector_digits x ++ codes "\n")) c.content.ensures.content in
    let rest = Writes-more outlet.Main _ _ c.in_ok-write_mask.ensures.written (Writes-is last c.write_vector-2.ensures.written) in
    Writes-is (ap to_output (vectors_text-pieces decoder.recent mask content)) (Writes-more outlet.Main _ _ (Writes-is recent c.in_ok-write_vector.ensures.written) rest)
