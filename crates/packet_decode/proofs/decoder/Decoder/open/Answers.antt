use Rattle.std.proofs.Common.{◌≡◌, ℕ, ◌≤◌, Bool, false, List, [], length, replicate, None, refl, sym, ap, ◌∙◌, arith, rules}
use Rattle.std.proofs.lemmas.List.{length-replicate}
use Rattle.packet_decode.specs.State.{Change}
use Rattle.packet_decode.specs.declared.draft.Room.{Room}
use Rattle.packet_decode.specs.declared.latest.Latest.{Latest}
use Rattle.packet_decode.specs.Parts.{IsDecoder}
use Rattle.packet_decode.proofs.decoder.Decoder.open.Goals as goal

-- a decoder of zeros that knows no packet
opened : (f : ℕ) (latest : Latest) (shown : Change) (room : Room) → 1 ≤ f → f ≤ 49152 → latest.mask_number ≡ None → latest.content_number ≡ None → latest.mask ≡ replicate f false → latest.content ≡ replicate f false → shown ≡ record { recent = replicate f false; level = 0; directions = None }
    → length room.draft.content ≡ f → IsDecoder latest shown room []
opened f latest shown room some most mask_number number mask content shown_is room_is =
    let len : length latest.content ≡ f = ap (λ (v : List Bool). length v) content ∙ length-replicate f false in
    let zeros : replicate f false ≡ replicate (length latest.content) false = ap (λ (n : ℕ). replicate n false) (sym len) in
    record {
      vector = (omega arith, omega arith);
      latest_vectors = search (rules, length-replicate);
      shown_places = search (rules, length-replicate);
      room_places = room_is ∙ sym len;
      first_mask = rw mask_number (mask ∙ zeros);
      first_content = rw number (content ∙ zeros);
      first_recent = rw (number, shown_is) zeros;
      first_level = rw (number, shown_is) refl;
      remembered = λ some. absurd (some refl);
    }

pub invariant_of-result : goal.invariant_of-result
invariant_of-result c =
    rw c.nothing.ensures (opened c.args.f _ _ _ c.requires.valid.0 c.requires.valid.1 c.in_ok-latest.ensures.mask_number c.in_ok-latest.ensures.content_number c.in_ok-latest.ensures.mask c.in_ok-latest.ensures.content c.in_ok-shown.ensures c.in_ok-room.ensures)
