use Rattle.std.proofs.Common.{◌≡◌, ◌<◌, ℕ, All, List, ◌++◌, length, map, Option, Some, sym, ap, ◌∙◌, subst, arith}
use Rattle.std.specs.List.{filter}
use Rattle.std.proofs.lemmas.List.{map-append}
use Rattle.std.proofs.lemmas.List.Elements.{filter-append}
use Rattle.std.proofs.lemmas.Grind.{flat_map-append}
use Rattle.desk_ports.specs.Courses.{AreFronts, Course, to_report}
use Rattle.desk_ports.proofs.Courses.{AreFronts-put}
use Rattle.packet_store.specs.declared.fault.WalkFault.{WalkFault}
use Rattle.packet_store.specs.SpacePackets.{Packet, is_chosen}
use Rattle.packet_store.specs.Walks.{walk}
use Rattle.packet_store.proofs.Walks.{IsLonger-walk_from}
use Rattle.ground_chain.specs.Run.{nothing_known, run_from, run, known_after}
use Rattle.ground_chain.specs.Report.{header_row, Texts, all_parts}
use Rattle.ground_chain.specs.Restoring.{arrival_of, arrivals_of, restored_texts, store_run}
use Rattle.ground_chain.specs.Receiving.{store_course}
use Rattle.ground_chain.specs.Listing.{listed_texts, listing_course}
use Rattle.ground_chain.proofs.EveryRun.{run_from-append}
use Rattle.ground_chain.proofs.RestCourses.{listing_course-is}
use Rattle.ground_chain.proofs.laws.fronts_owe_fronts.Goals as goal

arrivals-append : (chosen : Option ℕ) (xs ys : List Packet) → arrivals_of chosen (xs ++ ys) ≡ arrivals_of chosen xs ++ arrivals_of chosen ys
arrivals-append chosen xs ys =
    let own = λ (p : Packet). is_chosen chosen p.header in
    ap (map arrival_of) (filter-append (λ (p : Packet). is_chosen chosen p.header) xs ys) ∙ map-append arrival_of (filter (λ (p : Packet). is_chosen chosen p.header) xs) (filter (λ (p : Packet). is_chosen chosen p.header) ys)

-- what a front of a store owes an account before its end is a front of what the store owes it before its end
fronts : (texts : Texts) (f apid : ℕ) (front rest : List ℕ) → All (λ b. b < 256) front → AreFronts (store_course texts f apid front).before (store_course texts f apid (front ++ rest)).before
fronts texts f apid front rest all =
    let longer = IsLonger-walk_from (length front) (Some apid) 0 0 front rest (omega arith) (omega arith) all in
    let packets = (walk (Some apid) front).packets in
    let first = arrivals_of (Some apid) (walk (Some apid) front).packets in
    let more = arrivals_of (Some apid) longer.later in
    let later = run_from f (known_after f first) more in
    let runs : store_run f apid (front ++ rest) ≡ store_run f apid front ++ later =
    ap (λ (l : List Packet). run f (arrivals_of (Some apid) l)) longer.joined ∙ (ap (run f) (arrivals-append (Some apid) packets longer.later) ∙ run_from-append f nothing_known first more) in
    record { rest = all_parts texts later; joined = sym (ap (all_parts texts) runs ∙ flat_map-append texts.parts (store_run f apid front) later) }

pub returns-clause-restored : goal.returns-clause-restored
returns-clause-restored c = λ f apid front rest all.
    AreFronts-put (to_report header_row) (store_course restored_texts f apid front).before (store_course restored_texts f apid (front ++ rest)).before (fronts restored_texts f apid front rest all)

pub returns-clause-listed : goal.returns-clause-listed
returns-clause-listed c = λ f apid front rest all.
    let listed = fronts listed_texts f apid front rest all in
    let here = subst (λ (k : Course WalkFault). AreFronts k.before (store_course listed_texts f apid (front ++ rest)).before) (sym (listing_course-is f apid front)) listed in
    subst (λ (k : Course WalkFault). AreFronts (listing_course f apid front).before k.before) (sym (listing_course-is f apid (front ++ rest))) here
