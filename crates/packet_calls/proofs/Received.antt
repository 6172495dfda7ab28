-- Packets of a history, to a receiver that has judged all arrivals before them; and states of senders and receivers.
use Rattle.std.specs.Prelude.{IfSome, nat_lt}
use Rattle.std.proofs.Common.{◌≡◌, ℕ, ◌%◌, ◌<◌, ◌&&◌, ◌||◌, if◌then◌else◌, Bool, true, false, List, [], length, Option, Some, None, refl, sym, ap, ◌∙◌, subst, arith, zero, suc, ◌+◌, ◌-◌, ◌++◌, map, replicate, append-nil, append_assoc, ◌*◌, ◌≤◌, ◌∷◌, take, inl, inr}
use Rattle.std.proofs.lemmas.List.{length-append}
use Rattle.bit_vectors.specs.Vectors.{bits_of, vector_bytes, IsPlaces, byte_count}
use Rattle.bit_vectors.proofs.NumberBits.{bits_of-vector_bytes}
use Rattle.state_bytes.specs.Frames.{IsFrame, IsOther, frame, head, sealed}
use Rattle.state_bytes.specs.Parts.{Puts, number_bytes, vector_part}
use Rattle.state_bytes.proofs.Parts.{Puts-frame, frames_agree, length-number_bytes, vector_part_size}
use Rattle.mask_update.specs.Histories.{History, IsValid, flags_at, input_at}
use Rattle.mask_update.specs.Masks.{mask_at}
use Rattle.robust_window.specs.Histories.{level_at}
use Rattle.packet_store.specs.SpacePackets.{period}
use Rattle.packet_encode.specs.Deliveries.{reaches, WrittenAt, arrivals, count_up_to, latest_mask_known, latest_written}
use Rattle.packet_encode.specs.Encoder.{EncoderState}
use Rattle.packet_encode.specs.Forms.{form_bits, form_at, packet_at}
use Rattle.packet_encode.specs.Saved.{AreOfEncoder, encoder_bytes}
use Rattle.packet_encode.proofs.Deliveries.{IsLatestOr, arrivals-suc, latest_mask-right, latest_written-right, written-to}
use Rattle.packet_encode.proofs.SavedEncoders.{encoders_agree}
use Rattle.packet_decode.specs.PacketReading.{answer_of}
use Rattle.packet_decode.specs.Saved.{IsDecoding, decoding_bytes, number_and_one, numbers_before, three_parts}
use Rattle.packet_decode.specs.State.{is_content_told, is_mask_told, true_state, known_if, next_state, Decoding, latest_content, latest_mask, latest_mask_number, latest_number}
use Rattle.packet_decode.proofs.OfHistories.{answer-written, told-spelled, true_state-is}
use Rattle.packet_decode.proofs.OneAnswer.{spells_read}
use Rattle.packet_decode.proofs.SavedDecoders.{three_of}
use Rattle.flight_chain.specs.Compressing.{data_at}
use Rattle.loss_player.specs.Played.{AreGapsShort}
use Rattle.ground_chain.specs.Deliveries.{arrival_at}
use Rattle.ground_chain.specs.Reception.{next_judged, Reckoning, known_of, HasJudged}
use Rattle.ground_chain.specs.Report.{content_bytes, is_written_kind, written_bytes}
use Rattle.ground_chain.specs.Run.{number_after, Judged, judge_as, judged_by, answer_kind, state_after, state_read, Known, known_after, expected}
use Rattle.ground_chain.specs.Saved.{AreOfReckoning, IsReckoning, reckoning_bytes}
use Rattle.ground_chain.specs.declared.verdict.Kind.{Kind}
use Rattle.ground_chain.specs.declared.verdict.Kind.TheVariants.{Written}
use Rattle.ground_chain.proofs.HistoryPackets.{latest_mask_known-dropped, latest_written-dropped}
use Rattle.ground_chain.proofs.HistoryRuns.{known_by, known-history}
use Rattle.ground_chain.proofs.ListedRows.{last_before, last-arrived, last-dropped, number-arrived}
use Rattle.ground_chain.proofs.Reckonings.{counted, counts_size, reckonings_agree}
use Rattle.packet_calls.specs.States.{AreOfReceiver, AreOfSender, IsReceiverState, IsSenderState, receiver_kind, receiver_state, sender_kind, sender_state}

-- ---- A packet of a history, to a receiver that knows the mask and the content of earlier ones

told_either : (whole masked near : Bool) → (whole || masked && near) ≡ true → (masked || whole) ≡ true
told_either true true near is = refl
told_either true false near is = refl
told_either false true near is = refl
told_either false false near is = absurd cc

-- the packet t is written as its input
pub record IsReceived (h : History) (t : ℕ) (next : Judged) : Type 0 where
  pub number : next.verdict.t ≡ t
  pub kind : next.verdict.kind ≡ Written
  pub latest : next.after.latest ≡ Some t
  pub bytes : written_bytes next ≡ vector_bytes (input_at h t)

written-by : (next : Judged) (bytes : List ℕ) → next.verdict.kind ≡ Written → content_bytes next.after.state ≡ bytes → written_bytes next ≡ bytes
written-by next bytes kind content = ap (λ (k : Kind). if is_written_kind k then content_bytes next.after.state else []) kind ∙ content

module _ (h : History) (t : ℕ) (valid : IsValid h) (lt : t < length h.steps) where
  within : (latest : Option ℕ) → IfSome latest (λ s. s < t) → IfSome latest (λ s. s < length h.steps)
  within None before = tt
  within (Some s) before = omega (arith, before, lt)

  module _ (mask content : Option ℕ) (masks : IfSome mask (λ s. s < t)) (contents : IfSome content (λ s. s < t)) (told : is_content_told h mask content t ≡ true) where
    kind-data : answer_kind (answer_of h.places (true_state h mask content) t (bits_of (data_at h t))) ≡ Written
    kind-data =
        ap (λ bits. answer_kind (answer_of h.places (true_state h mask content) t bits)) (bits_of-vector_bytes (form_bits (form_at h t)))
        ∙ ap answer_kind (answer-written h t valid lt mask content masks contents told)

    some : (is_mask_told h mask t || (flags_at h t).r) ≡ true
    some = told_either (flags_at h t).r (is_mask_told h mask t) (reaches content t (level_at h t)) told

    state-data : state_after h.places (true_state h mask content) t (bits_of (data_at h t)) ≡ next_state (true_state h mask content) t (known_if (is_mask_told h mask t) (mask_at h t)) (Some (input_at h t))
    state-data =
        ap (λ bits. state_after h.places (true_state h mask content) t bits) (bits_of-vector_bytes (form_bits (form_at h t)))
        ∙ (ap (state_read (true_state h mask content) t)
        (spells_read h.places (true_state h mask content) t (true_state-is h mask content valid (within mask masks) (within content contents)) (packet_at h t) (form_at h t)
        (known_if (is_mask_told h mask t) (mask_at h t)) (known_if (is_content_told h mask content t) (input_at h t)) (told-spelled h t valid lt mask content masks contents some))
        ∙ ap (λ (b : Bool). next_state (true_state h mask content) t (known_if (is_mask_told h mask t) (mask_at h t)) (known_if b (input_at h t))) told)

    -- what is made of it by a receiver with this state, whose next number with its count is t
    received-by : (latest : Option ℕ) → IsReceived h t (judge_as h.places (record { latest = latest; state = true_state h mask content }) (data_at h t) t)
    received-by latest =
        let next = judge_as h.places (record { latest = latest; state = true_state h mask content }) (data_at h t) t in
        record { number = refl; kind = kind-data; latest = refl; bytes = written-by next (vector_bytes (input_at h t)) kind-data (ap content_bytes state-data) }

    pub received-next : (latest : Option ℕ) (r : Reckoning) → r.reception.decoder.places ≡ h.places → r.reception.decoder.state ≡ true_state h mask content → r.reception.latest ≡ latest
        → number_after latest (t % period) ≡ Some t → IsReceived h t (next_judged r.reception (t % period) (data_at h t))
    received-next latest r places state last number =
        let is : next_judged r.reception (t % period) (data_at h t) ≡ judge_as h.places (record { latest = latest; state = true_state h mask content }) (data_at h t) t =
        (λ i. judged_by (places i) (record { latest = last i; state = state i }) (data_at h t) (number_after (last i) (t % period)))
        ∙ ap (judged_by h.places (record { latest = latest; state = true_state h mask content }) (data_at h t)) number in
        subst (IsReceived h t) (sym is) (received-by latest)

pub received : (h : History) (mask content : Option ℕ) (t : ℕ) (r : Reckoning) → IsValid h → t < length h.steps → IfSome mask (λ s. s < t) → IfSome content (λ s. s < t)
    → r.reception.decoder.places ≡ h.places → r.reception.decoder.state ≡ true_state h mask content → number_after r.reception.latest (t % period) ≡ Some t → is_content_told h mask content t ≡ true
    → let next = next_judged r.reception (t % period) (data_at h t) in
    (next.verdict.t ≡ t) × (next.verdict.kind ≡ Written) × (next.after.latest ≡ Some t) × (written_bytes next ≡ vector_bytes (input_at h t))
received h mask content t r valid lt masks contents places state number told =
    let is = received-next h t valid lt mask content masks contents told r.reception.latest r places state refl number in
    (is.number, is.kind, is.latest, is.bytes)

-- ---- the first copy of a packet of a history, to a receiver that has judged all arrivals before it

latest-below : (Holds : ℕ → Type 0) (t : ℕ) (latest : Option ℕ) → IsLatestOr Holds t latest → IfSome latest (λ s. s < t)
latest-below Holds t None is = tt
latest-below Holds t (Some s) is = is.before

told-by : (arrives mask near whole reached : Bool) → (arrives && (whole || (arrives && (mask || near)) && reached)) ≡ true → (whole || (mask || near) && reached) ≡ true
told-by true mask near whole reached is = is
told-by false mask near whole reached is = absurd cc

module _ (copies : ℕ → ℕ) where
  -- what arrives of the first packets is a front of what arrives of more
  more-arrive : (t k : ℕ) → (rest : List ℕ) × (arrivals copies t ++ rest ≡ arrivals copies (t + k))
  more-arrive t zero =
      let none : t ≡ t + 0 = omega arith in
      ([], append-nil (arrivals copies t) ∙ ap (arrivals copies) none)
  more-arrive t (suc k) =
      let earlier = more-arrive t k in
      let next : suc (t + k) ≡ t + suc k = omega arith in (
        earlier.0 ++ replicate (copies (t + k)) (t + k),
        sym (append_assoc (arrivals copies t) earlier.0 (replicate (copies (t + k)) (t + k)))
            ∙ (ap (λ l. l ++ replicate (copies (t + k)) (t + k)) earlier.1 ∙ (sym (arrivals-suc copies (t + k)) ∙ ap (arrivals copies) next)),
      )

  -- a value that no packet changes which doesn't arrive is that of the latest arrival
  kept-more : {A : Type 0} (value : ℕ → A) (same : (t : ℕ) → copies t ≡ 0 → value (t + 1) ≡ value t) (t c : ℕ) → copies t ≡ c
      → value t ≡ value (count_up_to (last_before copies t)) → value (t + 1) ≡ value (count_up_to (last_before copies (t + 1)))
  kept-more value same t zero none is = same t none ∙ (is ∙ ap (λ (latest : Option ℕ). value (count_up_to latest)) (sym (last-dropped copies t none)))
  kept-more value same t (suc c) some is = ap (λ (latest : Option ℕ). value (count_up_to latest)) (sym (last-arrived copies t c some))

  kept-is : {A : Type 0} (value : ℕ → A) (same : (t : ℕ) → copies t ≡ 0 → value (t + 1) ≡ value t) (t : ℕ) → value t ≡ value (count_up_to (last_before copies t))
  kept-is value same zero = refl
  kept-is value same (suc t) =
      let next : t + 1 ≡ suc t = omega arith in
      subst (λ s. value s ≡ value (count_up_to (last_before copies s))) next (kept-more value same t (copies t) refl (kept-is value same t))

pub delivered : (h : History) (copies : ℕ → ℕ) (t : ℕ) (r : Reckoning) → IsValid h → AreGapsShort copies (length h.steps) → t < length h.steps → WrittenAt h copies t
    → HasJudged h.places (map (arrival_at h) (arrivals copies t)) r
    → let next = next_judged r.reception (t % period) (data_at h t) in
    (next.verdict.t ≡ t) × (next.verdict.kind ≡ Written) × (written_bytes next ≡ vector_bytes (input_at h t))
delivered h copies t r valid short lt written has =
    let front = map (arrival_at h) (arrivals copies t) in
    let rest = more-arrive copies t (length h.steps - t) in
    let all : t + (length h.steps - t) ≡ length h.steps = omega (arith, lt) in
    let mask = latest_mask_known h copies t in
    let content = latest_written h copies t in
    let masked = kept-is copies (latest_mask_known h copies) (latest_mask_known-dropped h copies) t in
    let wrote = kept-is copies (latest_written h copies) (latest_written-dropped h copies) t in
    let known : known_of r.reception ≡ known_by h copies (last_before copies t) =
    has.stands ∙ (ap (λ n. known_after n front) has.places ∙ known-history h copies valid short (arrivals copies t) rest.0 (rest.1 ∙ ap (arrivals copies) all)) in
    let state = ap (λ (k : Known). k.state) known ∙ λ i. true_state h (sym masked i) (sym wrote i) in
    let told : is_content_told h mask content t ≡ true =
    told-by (nat_lt 0 (copies t)) (flags_at h t).f (reaches mask t (level_at h t)) (flags_at h t).r (reaches content t (level_at h t)) (written-to h copies t written) in
    let is = received-next h t valid lt mask content (latest-below _ t mask (latest_mask-right h copies t)) (latest-below _ t content (latest_written-right h copies t)) told (last_before copies t) r has.places state
    (ap (λ (k : Known). k.latest) known) (number-arrived copies (length h.steps) t short lt written.arrives) in
    (is.number, is.kind, is.bytes)

-- ---- states of senders and receivers

pub framed_of : (kind f places : ℕ) (state body : List ℕ) → kind < 256 → IsPlaces f → places ≡ f → state ≡ frame kind places body → IsFrame state kind f body
framed_of kind f places state body byte valid e is =
    let most = valid.1 in
    record { kind_byte = byte; places = omega (arith, most); is = is ∙ ap (λ n. frame kind n body) e }

-- ---- senders

pub frame_of_sender : (f : ℕ) (e : EncoderState) (state : List ℕ) → IsSenderState f e → state ≡ sender_state e → IsFrame state sender_kind f (encoder_bytes e)
unfolding sender_state
frame_of_sender f e state valid is = framed_of sender_kind f (length e.masks.mask) state (encoder_bytes e) (omega arith) valid.masks.vector valid.masks.mask is

pub sender_of_body : (f : ℕ) (state body : List ℕ) → IsFrame state sender_kind f body → AreOfEncoder f body → AreOfSender f state
unfolding sender_state
sender_of_body f state body framed saved =
    let places = sym saved.valid.masks.mask in
    let bytes = saved.bytes_are in
    record { sender = saved.encoder; valid = saved.valid; state_is = framed.is ∙ (λ i. frame sender_kind (places i) (bytes i)) }

pub body_of_sender : (f : ℕ) (e : EncoderState) (state body : List ℕ) → IsFrame state sender_kind f body → IsSenderState f e → state ≡ sender_state e → body ≡ encoder_bytes e
body_of_sender f e state body framed valid is = (frames_agree _ _ _ _ state body (encoder_bytes e) framed (frame_of_sender f e state valid is)).2

pub sender_to_body : (f : ℕ) (state body : List ℕ) → IsFrame state sender_kind f body → AreOfSender f state → AreOfEncoder f body
sender_to_body f state body framed saved = record { encoder = saved.sender; valid = saved.valid; bytes_are = body_of_sender f saved.sender state body framed saved.valid saved.state_is }

pub senders_agree : (f : ℕ) (a b : EncoderState) → IsSenderState f a → IsSenderState f b → sender_state a ≡ sender_state b → a ≡ b
senders_agree f a b first second e =
    encoders_agree f a b first second (body_of_sender f b (sender_state a) (encoder_bytes a) (frame_of_sender f a (sender_state a) first refl) second e)

-- ---- receivers

pub frame_of : (f : ℕ) (r : Reckoning) (state : List ℕ) → IsReceiverState f r → state ≡ receiver_state r → IsFrame state receiver_kind f (reckoning_bytes r)
unfolding receiver_state
frame_of f r state valid is = framed_of receiver_kind f r.reception.decoder.places state (reckoning_bytes r) (omega arith) valid.decoding.vector valid.decoding.places is

pub of_body : (f : ℕ) (state body : List ℕ) → IsFrame state receiver_kind f body → AreOfReckoning f body → AreOfReceiver f state
unfolding receiver_state
of_body f state body framed saved =
    let places = sym saved.valid.decoding.places in
    let bytes = saved.bytes_are in
    record { receiver = saved.reckoning; valid = saved.valid; state_is = framed.is ∙ (λ i. frame receiver_kind (places i) (bytes i)) }

pub body_is : (f : ℕ) (r : Reckoning) (state body : List ℕ) → IsFrame state receiver_kind f body → IsReceiverState f r → state ≡ receiver_state r → body ≡ reckoning_bytes r
body_is f r state body framed valid is = (frames_agree _ _ _ _ state body (reckoning_bytes r) framed (frame_of f r state valid is)).2

pub to_body : (f : ℕ) (state body : List ℕ) → IsFrame state receiver_kind f body → AreOfReceiver f state → AreOfReckoning f body
to_body f state body framed saved = record { reckoning = saved.receiver; valid = saved.valid; bytes_are = body_is f saved.receiver state body framed saved.valid saved.state_is }

pub receivers_agree : (f : ℕ) (a b : Reckoning) → IsReceiverState f a → IsReceiverState f b → receiver_state a ≡ receiver_state b → a ≡ b
receivers_agree f a b first second e =
    reckonings_agree f a b first second (body_is f b (receiver_state a) (reckoning_bytes a) (frame_of f a (receiver_state a) first refl) second e)

-- ---- both

pub not_other : (kind f : ℕ) (state body : List ℕ) → IsFrame state kind f body → IsOther kind f state → ⊥
not_other kind f state body framed other =
    let same = frames_agree _ _ _ _ state body other.its_body framed other.framed in
    elim other.other [
      | inl kind_differs ↦ kind_differs (sym same.0)
      | inr places_differ ↦ places_differ (sym same.1)
    ]

-- the whole state is written
pub whole : (kind f g from end last : ℕ) (body seen o p q s : List ℕ) → f ≡ g → body ≡ seen → Puts o p 0 (head kind f) from → Puts p q from body end → Puts q s 0 (sealed (take end q)) last → end + 4 ≤ length o
    → Puts o s 0 (frame kind g seen) last
whole kind f g from end last body seen o p q s places same first second third most =
    subst (λ (xs : List ℕ). Puts o s 0 xs last) (λ i. frame kind (places i) (same i)) (Puts-frame kind f o p q s body from end last first second third most)

-- ---- how long a state is

part_within : (v : List Bool) (f : ℕ) → length v ≡ f → length (vector_part v) ≤ byte_count f + 1
part_within v f e = subst (λ n. length (vector_part v) ≤ byte_count n + 1) e (vector_part_size v)

numbers_length : (m n level : ℕ) (rest : List ℕ) → length (numbers_before m n level rest) ≡ 17 + length rest
numbers_length m n level rest = omega (arith, length-append (number_bytes m) (number_bytes n ++ (level ∷ rest)), length-append (number_bytes n) (level ∷ rest), length-number_bytes m, length-number_bytes n)

three_length : (f : ℕ) (a b c : List Bool) → length a ≡ f → length b ≡ f → length c ≡ f → length (three_parts a b c) ≤ 3 * (byte_count f + 1)
three_length f a b c ea eb ec = omega (arith, length-append (vector_part a) (vector_part b ++ vector_part c), length-append (vector_part b) (vector_part c), part_within a f ea, part_within b f eb, part_within c f ec)

decoding_length : (f : ℕ) (d : Decoding) → IsDecoding f d → length (decoding_bytes d) ≤ 17 + 3 * (byte_count f + 1)
decoding_length f d valid =
    let rest : List ℕ = three_parts (latest_mask d.places d.state) (latest_content d.places d.state) d.recent in
    let three = three_of f (number_and_one (latest_mask_number d.state)) (number_and_one (latest_number d.state)) d (three_parts (latest_mask d.places d.state) (latest_content d.places d.state) d.recent) valid refl refl refl in
    let parts = ap (λ (xs : List ℕ). length xs) three.bytes_are in
    omega (
      arith,
      parts,
      numbers_length (number_and_one (latest_mask_number d.state)) (number_and_one (latest_number d.state)) d.level (three_parts (latest_mask d.places d.state) (latest_content d.places d.state) d.recent),
      three_length f three.mask three.content three.recent three.mask_places three.content_places three.recent_places,
    )

pub reckoning_length : (f : ℕ) (r : Reckoning) → IsReckoning f r → length (reckoning_bytes r) ≤ 57 + 3 * (byte_count f + 1)
reckoning_length f r valid =
    omega (arith, counts_size (expected r.reception.latest) r.restored (reckoning_bytes r) (decoding_bytes r.reception.decoder) (counted r (reckoning_bytes r) refl), decoding_length f r.reception.decoder valid.decoding)
