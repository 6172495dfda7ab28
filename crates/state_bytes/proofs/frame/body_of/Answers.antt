use Rattle.std.proofs.Common.{◌≡◌, ◌≢◌, ◌-◌, ◌<◌, ◌^◌, refl, ◌∷◌, ◌++◌, ℕ, List, length, get_or, take, drop, ap, sym, ◌∙◌, arith, w32}
use Rattle.std.proofs.lemmas.Bool.{false≢true}
use Rattle.std.specs.Int.{to_be_bytes, from_be_bytes}
use Rattle.state_bytes.specs.Crc.{crc32}
use Rattle.state_bytes.specs.Frames.{IsFrame}
use Rattle.state_bytes.proofs.Parts.{bytes_drop, bytes_take, about_is, four_fit, frame_made, frame_magic, magic_bytes, frame_size, frame_sum, other_of}
use Rattle.state_bytes.proofs.frame.body_of.Goals as goal

pub returns-then-bytes-lt-FRAME_BYTES-clause-none :
    goal.returns-then-bytes-lt-FRAME_BYTES-clause-none
returns-then-bytes-lt-FRAME_BYTES-clause-none c e k g body is = let size = frame_size k g c.args.bytes.now body is in absurd (omega (arith, size))

pub returns-then-not-are_same-clause-none : goal.returns-then-not-are_same-clause-none
returns-then-not-are_same-clause-none c e k g body is =
    let magic = frame_magic k g (length c.args.bytes.now - 4) c.args.bytes.now body _ _ is refl c.split_at.ensures.front c.split_at-2.ensures.front in
    absurd (false≢true (sym c.if-not-are_same.true ∙ c.are_same.ensures.1 magic))

pub returns-then-not-are_same-2-clause-none : goal.returns-then-not-are_same-2-clause-none
returns-then-not-are_same-2-clause-none c e k g body is =
    let sum = frame_sum k g (length c.args.bytes.now - 4) c.args.bytes.now body _ _ is refl c.split_at.ensures.front c.split_at.ensures.back in
    let reckoned = rw c.crc32.ensures at c.to_be_bytes.ensures in
    absurd (false≢true (sym c.if-not-are_same-2.true ∙ c.are_same-2.ensures.1 (sum ∙ sym reckoned)))

bytes_in : (n m k : ℕ) (bytes framed rest about : List ℕ) → ((i : ℕ) → get_or bytes i 0 < 256) → framed ≡ take n bytes → rest ≡ drop m framed → about ≡ take k rest → (i : ℕ) → get_or about i 0 < 256
bytes_in n m k bytes framed rest about are e f g i = rw (g, f, e) (bytes_take k (drop m (take n bytes)) (bytes_drop m (take n bytes) (bytes_take n bytes are)) i)

made : (kind f : ℕ) (bytes framed sum magic rest about body : List ℕ) (n : ℕ) → kind < 256 → f < 2 ^ 32 → bytes ≡ framed ++ sum → framed ≡ magic ++ rest → rest ≡ about ++ body
    → magic ≡ magic_bytes → n ≡ crc32 framed → sum ≡ to_be_bytes w32 n → about ≡ kind ∷ to_be_bytes w32 f → IsFrame bytes kind f body
made kind f bytes framed sum magic rest about body n low few whole front back magic_is n_is sum_is about_is = frame_made kind f bytes framed sum magic rest about body low few whole front back magic_is (sum_is ∙ ap (λ m. to_be_bytes w32 m) n_is) about_is

pub returns-then-not-are_same-3-clause-other : goal.returns-then-not-are_same-3-clause-other
returns-then-not-are_same-3-clause-other c e =
    let bytes : List ℕ = c.args.bytes.now in
    let about : List ℕ = c.split_at-3.result.0.now in
    let are = bytes_in (length c.args.bytes.now - 4) 5 5 c.args.bytes.now c.split_at.result.0.now c.split_at-2.result.1.now c.split_at-3.result.0.now (λ i. omega (arith, c.type_inv.bytes i)) c.split_at.ensures.front c.split_at-2.ensures.back c.split_at-3.ensures.front in
    let is = about_is c.split_at-3.result.0.now c.split_at-3.ensures.front_len are in
    let places : ℕ = from_be_bytes w32 (drop 1 c.split_at-3.result.0.now) in
    record {
      its_kind = get_or c.split_at-3.result.0.now 0 0;
      its_places = from_be_bytes w32 (drop 1 c.split_at-3.result.0.now);
      its_body = c.split_at-3.result.1.now;
      framed = made (get_or c.split_at-3.result.0.now 0 0) (from_be_bytes w32 (drop 1 c.split_at-3.result.0.now)) c.args.bytes.now c.split_at.result.0.now c.split_at.result.1.now c.split_at-2.result.0.now c.split_at-2.result.1.now c.split_at-3.result.0.now c.split_at-3.result.1.now c.crc32.result
          (are 0) (four_fit (drop 1 c.split_at-3.result.0.now) (bytes_drop 1 c.split_at-3.result.0.now are)) c.split_at.ensures.by_index.0 c.split_at-2.ensures.by_index.0 c.split_at-3.ensures.by_index.0
          (c.are_same.ensures.0 c.if-not-are_same.false) c.crc32.ensures (c.are_same-2.ensures.0 c.if-not-are_same-2.false ∙ c.to_be_bytes.ensures) is;
      other = other_of _ _ c.args.kind c.args.f (λ same_kind same_places.
          let told : c.split_at-3.result.0.now ≡ c.args.kind ∷ to_be_bytes w32 c.args.f = is ∙ ap (λ n. n ∷ to_be_bytes w32 (from_be_bytes w32 (drop 1 c.split_at-3.result.0.now))) same_kind ∙ ap (λ n. c.args.kind ∷ to_be_bytes w32 n) same_places in
          false≢true (sym c.if-not-are_same-3.true ∙ c.are_same-3.ensures.1 (told ∙ sym c.kind_places.ensures)));
    }

pub returns-clause-body : goal.returns-clause-body
returns-clause-body c =
    made c.args.kind c.args.f c.args.bytes.now c.split_at.result.0.now c.split_at.result.1.now c.split_at-2.result.0.now c.split_at-2.result.1.now c.split_at-3.result.0.now c.split_at-3.result.1.now c.crc32.result
    (omega (arith, c.ranges.kind.fits)) (omega (arith, c.ranges.f.fits)) c.split_at.ensures.by_index.0 c.split_at-2.ensures.by_index.0 c.split_at-3.ensures.by_index.0
    (c.are_same.ensures.0 c.if-not-are_same.false) c.crc32.ensures (c.are_same-2.ensures.0 c.if-not-are_same-2.false ∙ c.to_be_bytes.ensures) (c.are_same-3.ensures.0 c.if-not-are_same-3.false ∙ c.kind_places.ensures)
