-- If the report or the listing names a first wrong bit or an early end, the answer does; and what the answer then says of
-- the data.
use Rattle.std.proofs.Common.{◌≡◌, ℕ, ◌+◌, ◌^◌, ◌<◌, ◌≤◌, Bool, true, false, codes, List, [], ◌∷◌, ◌++◌, length, take, Option, Some, None, Result, Ok, Err, refl, sym, ap, ◌∙◌, subst, append_assoc, append-nil, get_or, arith}
use Rattle.std.specs.Fmt.{decimal}
use Rattle.std.proofs.lemmas.Fmt.{decimal_injective}
use Rattle.std.proofs.lemmas.List.{append_cancel_left, append_cancel_right, length-take-le}
use Rattle.bit_vectors.specs.declared.fault.BitFault.{BitFault}
use Rattle.bit_vectors.specs.declared.fault.BitFault.TheVariants.{Wrong, EndsEarly}
use Rattle.bit_vectors.specs.Vectors.{bits_of}
use Rattle.bit_vectors.proofs.NumberBits.{length-bits_of}
use Rattle.packet_decode.specs.declared.decoder.Reading.{Reading}
use Rattle.packet_decode.specs.declared.decoder.Reading.TheVariants as answer
use Rattle.packet_decode.specs.State.{IsState}
use Rattle.packet_decode.specs.Answers.{Viable, Says, BeginReadable, IsExactAnswer}
use Rattle.packet_decode.specs.PacketReading.{answer_of}
use Rattle.packet_decode.proofs.ExactAnswers.{answer_of-exact}
use Rattle.packet_decode.proofs.OneAnswer.{says_answer}
use Rattle.packet_decode.proofs.ViableData.{viable_data, data_viable}
use Rattle.ground_chain.specs.declared.verdict.Kind.{Kind}
use Rattle.ground_chain.specs.declared.verdict.Kind.TheVariants.{Written, Repeat, Unsynced, Gap, Refused}
use Rattle.ground_chain.specs.Run.{number_after, Arrival, Known, Judged, nothing_known, answer_kind, judged_by, judge, known_from, known_after}
use Rattle.ground_chain.specs.Report.{number_row, own_row, kind_value}
use Rattle.ground_chain.specs.Listing.{kind_text, kind_vectors, change_level, mask_line, packet_vectors}
use Rattle.ground_chain.specs.Refusals.{is_taken_or_listed, BeginData, SaysLine, SaysRow}
use Rattle.ground_chain.proofs.EveryRun.{value_judged}
use Rattle.ground_chain.proofs.Sound.{IsState-judged}

-- ---- what a row says

-- the number of a row, as it stands twice
abbrev twice : ℕ → List ℕ
twice t = decimal t ++ codes "," ++ decimal t ++ codes ","

-- what stands after it
abbrev cause_and_value : List ℕ → ℕ → List ℕ
cause_and_value cause value = cause ++ (codes "," ++ (decimal value ++ codes "\n"))

row_is : (t : ℕ) (cause : List ℕ) (value : ℕ) → number_row t cause value ≡ twice t ++ cause_and_value cause value
row_is t cause value =
    append_assoc (twice t ++ cause ++ codes ",") (decimal value) (codes "\n")
    ∙ append_assoc (twice t ++ cause) (codes ",") (decimal value ++ codes "\n")
    ∙ append_assoc (twice t) cause (codes "," ++ (decimal value ++ codes "\n"))

row_tails : (t : ℕ) (cause other : List ℕ) (value bit : ℕ) → number_row t cause value ≡ number_row t other bit → cause_and_value cause value ≡ cause_and_value other bit
row_tails t cause other value bit same = append_cancel_left (twice t) (cause_and_value cause value) (cause_and_value other bit) (sym (row_is t cause value) ∙ same ∙ row_is t other bit)

not_empty : (front : List ℕ) (last : ℕ) → [] ≡ front ++ last ∷ [] → ⊥
not_empty [] last same = absurd cc
not_empty (x ∷ front) last same = absurd cc

empty_row : (t : ℕ) (cause : List ℕ) (bit : ℕ) → [] ≡ number_row t cause bit → ⊥
empty_row t cause bit same = not_empty (twice t ++ cause ++ codes "," ++ decimal bit) 10 same

-- the first code of a text
abbrev first_code : List ℕ → ℕ
first_code [] = 0
first_code (code ∷ text) = code

causes_apart : (t : ℕ) (cause other : List ℕ) (value bit a b : ℕ) → first_code (cause_and_value cause value) ≡ a → first_code (cause_and_value other bit) ≡ b → (a ≡ b → ⊥) → number_row t cause value ≡ number_row t other bit → ⊥
causes_apart t cause other value bit a b mine others apart same =
    apart (sym mine ∙ ap (λ (l : List ℕ). first_code l) (row_tails t cause other value bit same) ∙ others)

numbers_same : (a b : ℕ) → a < 2 ^ 64 → b < 2 ^ 64 → decimal a ++ codes "\n" ≡ decimal b ++ codes "\n" → a ≡ b
numbers_same a b few most same = decimal_injective a b few most (append_cancel_right (decimal a) (decimal b) (codes "\n") same)

wrong_kind : (t bit : ℕ) (kind : Kind) → bit < 2 ^ 64 → kind_value kind < 2 ^ 64 → own_row t kind ≡ number_row t (codes "wrong") bit → kind ≡ Refused (Wrong bit)
wrong_kind t bit Written few small same = absurd (empty_row t (codes "wrong") bit same)
wrong_kind t bit Repeat few small same = absurd (empty_row t (codes "wrong") bit same)
wrong_kind t bit (Unsynced mask) few small same = absurd (causes_apart t (codes "unsynced") (codes "wrong") 0 bit 117 119 refl refl (λ e. omega (arith, e)) same)
wrong_kind t bit (Gap level mask) few small same = absurd (causes_apart t (codes "gap") (codes "wrong") level bit 103 119 refl refl (λ e. omega (arith, e)) same)
wrong_kind t bit (Refused (Wrong at)) few small same =
    let tails = row_tails t (codes "wrong") (codes "wrong") at bit same in
    ap (λ (n : ℕ). Refused (Wrong n)) (numbers_same at bit small few (append_cancel_left (codes "wrong,") (decimal at ++ codes "\n") (decimal bit ++ codes "\n") tails))
wrong_kind t bit (Refused (EndsEarly at)) few small same = absurd (causes_apart t (codes "early") (codes "wrong") at bit 101 119 refl refl (λ e. omega (arith, e)) same)

early_kind : (t bit : ℕ) (kind : Kind) → bit < 2 ^ 64 → kind_value kind < 2 ^ 64 → own_row t kind ≡ number_row t (codes "early") bit → kind ≡ Refused (EndsEarly bit)
early_kind t bit Written few small same = absurd (empty_row t (codes "early") bit same)
early_kind t bit Repeat few small same = absurd (empty_row t (codes "early") bit same)
early_kind t bit (Unsynced mask) few small same = absurd (causes_apart t (codes "unsynced") (codes "early") 0 bit 117 101 refl refl (λ e. omega (arith, e)) same)
early_kind t bit (Gap level mask) few small same = absurd (causes_apart t (codes "gap") (codes "early") level bit 103 101 refl refl (λ e. omega (arith, e)) same)
early_kind t bit (Refused (EndsEarly at)) few small same =
    let tails = row_tails t (codes "early") (codes "early") at bit same in
    ap (λ (n : ℕ). Refused (EndsEarly n)) (numbers_same at bit small few (append_cancel_left (codes "early,") (decimal at ++ codes "\n") (decimal bit ++ codes "\n") tails))
early_kind t bit (Refused (Wrong at)) few small same = absurd (causes_apart t (codes "wrong") (codes "early") at bit 119 101 refl refl (λ e. omega (arith, e)) same)

-- ---- what a line says

-- texts are apart if two of their codes are
texts_apart : (i : ℕ) (text other : List ℕ) (a b : ℕ) → get_or text i 0 ≡ a → get_or other i 0 ≡ b → (a ≡ b → ⊥) → text ≡ other → ⊥
texts_apart i text other a b mine others apart same = apart (sym mine ∙ ap (λ (l : List ℕ). get_or l i 0) same ∙ others)

-- what a line says of a fault's bit
abbrev fault_text : List ℕ → ℕ → List ℕ
fault_text cause bit = cause ++ (decimal bit ++ codes "\n")

-- what a line says after its number
abbrev line_text : Kind → ℕ → List ℕ → List ℕ → List ℕ
line_text kind level packet mask = kind_text kind level ++ kind_vectors kind packet mask

wrong_line_kind : (bit : ℕ) (kind : Kind) (level : ℕ) (packet mask : List ℕ) → bit < 2 ^ 64 → kind_value kind < 2 ^ 64 → line_text kind level packet mask ≡ fault_text (codes " wrong ") bit → kind ≡ Refused (Wrong bit)
wrong_line_kind bit Written level packet mask few small same = absurd (texts_apart 3 (line_text Written level packet mask) (fault_text (codes " wrong ") bit) 105 111 refl refl (λ e. omega (arith, e)) same)
wrong_line_kind bit Repeat level packet mask few small same = absurd (texts_apart 1 (line_text Repeat level packet mask) (fault_text (codes " wrong ") bit) 114 119 refl refl (λ e. omega (arith, e)) same)
wrong_line_kind bit (Unsynced false) level packet mask few small same = absurd (texts_apart 1 (line_text (Unsynced false) level packet mask) (fault_text (codes " wrong ") bit) 117 119 refl refl (λ e. omega (arith, e)) same)
wrong_line_kind bit (Unsynced true) level packet mask few small same = absurd (texts_apart 1 (line_text (Unsynced true) level packet mask) (fault_text (codes " wrong ") bit) 117 119 refl refl (λ e. omega (arith, e)) same)
wrong_line_kind bit (Gap reached false) level packet mask few small same = absurd (texts_apart 1 (line_text (Gap reached false) level packet mask) (fault_text (codes " wrong ") bit) 103 119 refl refl (λ e. omega (arith, e)) same)
wrong_line_kind bit (Gap reached true) level packet mask few small same = absurd (texts_apart 1 (line_text (Gap reached true) level packet mask) (fault_text (codes " wrong ") bit) 103 119 refl refl (λ e. omega (arith, e)) same)
wrong_line_kind bit (Refused (Wrong at)) level packet mask few small same =
    let tails = append_cancel_left (codes " wrong ") (decimal at ++ codes "\n") (decimal bit ++ codes "\n") (sym (append-nil (fault_text (codes " wrong ") at)) ∙ same) in
    ap (λ (n : ℕ). Refused (Wrong n)) (numbers_same at bit small few tails)
wrong_line_kind bit (Refused (EndsEarly at)) level packet mask few small same = absurd (texts_apart 1 (line_text (Refused (EndsEarly at)) level packet mask) (fault_text (codes " wrong ") bit) 101 119 refl refl (λ e. omega (arith, e)) same)

early_line_kind : (bit : ℕ) (kind : Kind) (level : ℕ) (packet mask : List ℕ) → bit < 2 ^ 64 → kind_value kind < 2 ^ 64 → line_text kind level packet mask ≡ fault_text (codes " early ") bit → kind ≡ Refused (EndsEarly bit)
early_line_kind bit Written level packet mask few small same = absurd (texts_apart 1 (line_text Written level packet mask) (fault_text (codes " early ") bit) 119 101 refl refl (λ e. omega (arith, e)) same)
early_line_kind bit Repeat level packet mask few small same = absurd (texts_apart 1 (line_text Repeat level packet mask) (fault_text (codes " early ") bit) 114 101 refl refl (λ e. omega (arith, e)) same)
early_line_kind bit (Unsynced false) level packet mask few small same = absurd (texts_apart 1 (line_text (Unsynced false) level packet mask) (fault_text (codes " early ") bit) 117 101 refl refl (λ e. omega (arith, e)) same)
early_line_kind bit (Unsynced true) level packet mask few small same = absurd (texts_apart 1 (line_text (Unsynced true) level packet mask) (fault_text (codes " early ") bit) 117 101 refl refl (λ e. omega (arith, e)) same)
early_line_kind bit (Gap reached false) level packet mask few small same = absurd (texts_apart 1 (line_text (Gap reached false) level packet mask) (fault_text (codes " early ") bit) 103 101 refl refl (λ e. omega (arith, e)) same)
early_line_kind bit (Gap reached true) level packet mask few small same = absurd (texts_apart 1 (line_text (Gap reached true) level packet mask) (fault_text (codes " early ") bit) 103 101 refl refl (λ e. omega (arith, e)) same)
early_line_kind bit (Refused (EndsEarly at)) level packet mask few small same =
    let tails = append_cancel_left (codes " early ") (decimal at ++ codes "\n") (decimal bit ++ codes "\n") (sym (append-nil (fault_text (codes " early ") at)) ∙ same) in
    ap (λ (n : ℕ). Refused (EndsEarly n)) (numbers_same at bit small few tails)
early_line_kind bit (Refused (Wrong at)) level packet mask few small same = absurd (texts_apart 1 (line_text (Refused (Wrong at)) level packet mask) (fault_text (codes " early ") bit) 119 101 refl refl (λ e. omega (arith, e)) same)

-- ---- what is known has f places

pub IsState-known : (f : ℕ) (known : Known) (arrivals : List Arrival) → IsState f known.state → IsState f (known_from f known arrivals).state
IsState-known f known [] has = has
IsState-known f known (a ∷ arrivals) has = IsState-known f (judge f known a).after arrivals (IsState-judged f known has a.body (number_after known.latest a.count))

-- ---- one arrival

-- the kind is that of an answer to the bits as those of a number
record IsRead (f : ℕ) (known : Known) (body : List ℕ) (number : Option ℕ) (fault : BitFault) : Type 0 where
  t : ℕ
  number_is : number ≡ Some t
  exact : IsExactAnswer f known.state t (bits_of body) (Err fault)

fault_of : (answer : Result Reading BitFault) (fault : BitFault) → answer_kind answer ≡ Refused fault → answer ≡ Err fault
fault_of (Ok answer.Written) fault is = absurd cc
fault_of (Ok (answer.Unsynced mask)) fault is = absurd cc
fault_of (Ok (answer.Gap level mask)) fault is = absurd cc
fault_of (Err other) fault is = let same : other ≡ fault = cc in ap Err same

taken_by : (reading : Reading) → is_taken_or_listed (answer_kind (Ok reading)) ≡ true
taken_by answer.Written = refl
taken_by (answer.Unsynced mask) = refl
taken_by (answer.Gap level mask) = refl

module _ (f : ℕ) (known : Known) (has : IsState f known.state) where
  is_read : (body : List ℕ) (number : Option ℕ) (fault : BitFault) → (judged_by f known body number).verdict.kind ≡ Refused fault → IsRead f known body number fault
  is_read body None fault is = absurd cc
  is_read body (Some t) fault is = record {
    t = t;
    number_is = refl;
    exact = subst (IsExactAnswer f known.state t (bits_of body)) (fault_of (answer_of f known.state t (bits_of body)) fault is) (answer_of-exact f known.state t has (bits_of body));
  }

  -- data that are read are taken or listed
  taken_at : (body : List ℕ) (number : Option ℕ) (t : ℕ) (front : List Bool) (d : BeginReadable f known.state t front) → number ≡ Some t → is_taken_or_listed (judged_by f known d.body number).verdict.kind ≡ true
  taken_at body number t front d is =
      ap (λ (n : Option ℕ). is_taken_or_listed (judged_by f known d.body n).verdict.kind) is
      ∙ ap (λ (a : Result Reading BitFault). is_taken_or_listed (answer_kind a)) (says_answer f known.state t has (bits_of d.body) d.reading d.says)
      ∙ taken_by d.reading

  read_back : (t : ℕ) (bits : List Bool) (a : Result Reading BitFault) → IsExactAnswer f known.state t bits a → is_taken_or_listed (answer_kind a) ≡ true → (reading : Reading) × Says f known.state t bits reading
  read_back t bits (Ok reading) exact is = (reading, exact)
  read_back t bits (Err fault) exact is = absurd cc

  says_back : (body : List ℕ) (number : Option ℕ) (t : ℕ) → number ≡ Some t → is_taken_or_listed (judged_by f known body number).verdict.kind ≡ true → (reading : Reading) × Says f known.state t (bits_of body) reading
  says_back body number t is taken =
      read_back t (bits_of body) (answer_of f known.state t (bits_of body)) (answer_of-exact f known.state t has (bits_of body))
      (ap (λ (n : Option ℕ). is_taken_or_listed (judged_by f known body n).verdict.kind) (sym is) ∙ taken)

-- ---- the place of an arrival in a run

module _ (f : ℕ) (some : 1 ≤ f) (most : f ≤ 49152) (before : List Arrival) (count t : ℕ) (number : number_after (known_after f before).latest count ≡ Some t) where
  known : Known
  known = known_after f before

  has : IsState f (known_after f before).state
  has = IsState-known f nothing_known before (record { mask = tt; content = tt })

  begun : (front : List Bool) → length front ≤ 524288 → Viable f (known_after f before).state t front → BeginData f before count front
  begun front few viable =
      let d = viable_data f (known_after f before).state t has front some most few viable in
      record {
        body = d.body;
        bytes = d.bytes;
        size = d.size;
        rest = d.rest;
        begins = d.begins;
        taken = taken_at f (known_after f before) has d.body (number_after (known_after f before).latest count) t front d number;
      }

  viable_of : (front : List Bool) → BeginData f before count front → Viable f (known_after f before).state t front
  viable_of front d =
      let r = says_back f (known_after f before) has d.body (number_after (known_after f before).latest count) t number d.taken in
      data_viable f (known_after f before).state t has front (record { body = d.body; bytes = d.bytes; size = d.size; rest = d.rest; begins = d.begins; reading = r.0; says = r.1 })

module _ (f : ℕ) (some : 1 ≤ f) (most : f ≤ 49152) (before : List Arrival) (arrival : Arrival) (size : length arrival.body ≤ 65536) where
  abbrev judged : Judged
  judged = judge f (known_after f before) arrival

  known_has : IsState f (known_after f before).state
  known_has = IsState-known f nothing_known before (record { mask = tt; content = tt })

  number : Option ℕ
  number = number_after (known_after f before).latest arrival.count

  small : kind_value (judge f (known_after f before) arrival).verdict.kind < 2 ^ 64
  small = value_judged f (known_after f before) known_has arrival.body (number_after (known_after f before).latest arrival.count) size

  -- the packet's own texts of its line
  abbrev own_packet : List ℕ
  own_packet = packet_vectors judged.change judged.verdict.t judged.after.state judged.after.state.content

  abbrev own_mask : List ℕ
  own_mask = mask_line judged.verdict.t judged.after.state.mask

  wrong_at : (bit : ℕ) → (judge f (known_after f before) arrival).verdict.kind ≡ Refused (Wrong bit)
      → BeginData f before arrival.count (take bit (bits_of arrival.body)) × (BeginData f before arrival.count (take (bit + 1) (bits_of arrival.body)) → ⊥)
  wrong_at bit kind =
      let r = is_read f (known_after f before) known_has arrival.body (number_after (known_after f before).latest arrival.count) (Wrong bit) kind in
      let inside = r.exact.0.inside in
      let bits = bits_of arrival.body in
      let length_is : length (take bit (bits_of arrival.body)) ≡ bit = length-take-le bit (bits_of arrival.body) (omega (arith, inside)) in (
        begun f some most before arrival.count r.t r.number_is (take bit (bits_of arrival.body)) (omega (arith, length_is, inside, length-bits_of arrival.body)) r.exact.1,
        λ d. r.exact.0.hopeless (viable_of f some most before arrival.count r.t r.number_is (take (bit + 1) (bits_of arrival.body)) d),
      )

  early_at : (bit : ℕ) → (judge f (known_after f before) arrival).verdict.kind ≡ Refused (EndsEarly bit) → (bit ≡ length (bits_of arrival.body)) × BeginData f before arrival.count (bits_of arrival.body)
  early_at bit kind =
      let r = is_read f (known_after f before) known_has arrival.body (number_after (known_after f before).latest arrival.count) (EndsEarly bit) kind in
      (r.exact.0.all, begun f some most before arrival.count r.t r.number_is (bits_of arrival.body) (omega (arith, length-bits_of arrival.body)) r.exact.1)

  -- by a row of the report
  pub wrong_first : (bit : ℕ) → bit < 2 ^ 64 → SaysRow (judge f (known_after f before) arrival) (codes "wrong") bit
      → BeginData f before arrival.count (take bit (bits_of arrival.body)) × (BeginData f before arrival.count (take (bit + 1) (bits_of arrival.body)) → ⊥)
  wrong_first bit few row = wrong_at bit (wrong_kind judged.verdict.t bit judged.verdict.kind few small row)

  pub early_all : (bit : ℕ) → bit < 2 ^ 64 → SaysRow (judge f (known_after f before) arrival) (codes "early") bit → (bit ≡ length (bits_of arrival.body)) × BeginData f before arrival.count (bits_of arrival.body)
  early_all bit few row = early_at bit (early_kind judged.verdict.t bit judged.verdict.kind few small row)

  -- by a line of the listing
  pub wrong_listed : (bit : ℕ) → bit < 2 ^ 64 → SaysLine (judge f (known_after f before) arrival) (codes "wrong") bit
      → BeginData f before arrival.count (take bit (bits_of arrival.body)) × (BeginData f before arrival.count (take (bit + 1) (bits_of arrival.body)) → ⊥)
  wrong_listed bit few line =
      let text = append_cancel_left (decimal judged.verdict.t) (line_text judged.verdict.kind (change_level judged.change) own_packet own_mask) (fault_text (codes " wrong ") bit) line in
      wrong_at bit (wrong_line_kind bit judged.verdict.kind (change_level judged.change) own_packet own_mask few small text)

  pub early_listed : (bit : ℕ) → bit < 2 ^ 64 → SaysLine (judge f (known_after f before) arrival) (codes "early") bit → (bit ≡ length (bits_of arrival.body)) × BeginData f before arrival.count (bits_of arrival.body)
  early_listed bit few line =
      let text = append_cancel_left (decimal judged.verdict.t) (line_text judged.verdict.kind (change_level judged.change) own_packet own_mask) (fault_text (codes " early ") bit) line in
      early_at bit (early_line_kind bit judged.verdict.kind (change_level judged.change) own_packet own_mask few small text)
