use Rattle.std.proofs.Common.{◌≡◌, ◌+◌, ◌-◌, ◌*◌, ◌^◌, ◌<◌, ◌≤◌, ◌++◌, ℕ, zero, suc, Bool, false, List, [], length, get_or, refl, sym, ap, ◌∙◌, arith, append_assoc}
use Rattle.std.specs.Int.RustNames.{count_ones}
use Rattle.std.proofs.lemmas.Nat.{ones-le}
use Rattle.std.proofs.Math.Nat.{pow-le-pow_right}
use Rattle.std.proofs.lemmas.List.{length-append, append-nil}
use Rattle.std.proofs.lemmas.Nat.Bits.{bit_at-zero}
use Rattle.bit_vectors.specs.Vectors.{bits_number, number_bits}
use Rattle.bit_vectors.specs.Words.{IsWord}
use Rattle.bit_vectors.proofs.NumberBits.{length-number_bits}
use Rattle.run_code.specs.Extraction.{ones_from, places_before, places_down, bits_at, extract}
use Rattle.run_code.proofs.Ones.{ones_below, length-places_down}
use Rattle.run_code.proofs.Gathering.{word_extract, gathered_bits, word_number_below, places_before_is, places_before_all, before_step, before_ones, same_lengths, no_number, fits_word}
use Rattle.run_code.proofs.extraction.put_extract_with.Goals as goal
use Rattle.run_code.proofs.extraction.put_extract_with.Goals.{After-word-at, then-count-more-gt64, else-count-more-gt64}

pub loop-words-init : goal.loop-words-init
loop-words-init c =
    let all : places_before c.word_count-words.result c.args.b.now ≡ places_down c.args.b.now = places_before_all c.word_count-words.result c.args.b.now (omega (arith, c.word_count-words.ensures.count)) in
    record {
      room = refl;
      moves = refl;
      words = omega (arith, c.word_count-words.ensures.count);
      most = omega arith;
      small = omega arith;
      fits = rw all (omega (arith, length-places_down c.args.b.now, c.requires.room));
      bits = rw (all, no_number 0) refl;
    }

-- words of zeros have no ones
skip_zeros : (v : List Bool) (from m : ℕ) → ((k : ℕ) → k < m → get_or v (from + k) false ≡ false) → ones_below (from + m) v ≡ ones_below from v
unfolding ones_below
skip_zeros v from zero none = let here : from + 0 ≡ from = omega arith in rw here refl
skip_zeros v from (suc m) none =
    let next : from + suc m ≡ suc (from + m) = omega arith in
    rw (next, none m (omega arith)) (skip_zeros v from m (λ k lt. none k (omega arith)))

skip_word : (b : List Bool) (words at : ℕ) → 0 < words → at ≡ 0 → IsWord b (words - 1) at → places_before words b ≡ places_before (words - 1) b
skip_word b words at some zero_is is_b =
    let parts : 64 * words ≡ 64 * (words - 1) + 64 = omega arith in
    rw (places_before_is words b, places_before_is (words - 1) b, parts) (skip_zeros b (64 * (words - 1)) 64 (λ k lt. sym (is_b k lt) ∙ rw (zero_is, bit_at-zero (63 - k)) refl))

pub loop-words-preserved-then-at-eq0 : goal.loop-words-preserved-then-at-eq0
loop-words-preserved-then-at-eq0 c =
    let i = c.loop-words.invariant in
    let skip = skip_word c.args.b.now c.loop-words.words c.word-at.result c.loop-words-test.true c.if-at-eq0.true c.word-at.ensures in
    record { room = i.room; moves = i.moves; words = omega (arith, i.words); most = i.most; small = i.small; fits = rw (← skip) i.fits; bits = rw (← skip) i.bits }

-- ---- a word with many ones

-- the ones of a word, and those of the words before it
ones : (c : After-word-at) → length (places_before c.loop-words.words c.args.b.now) ≡ count_ones c.word-at.result + length (places_before (c.loop-words.words - 1) c.args.b.now)
ones c =
    let next : c.loop-words.words - 1 + 1 ≡ c.loop-words.words = omega (arith, c.loop-words-test.true) in
    rw next at (before_ones c.args.b.now c.args.b.now (c.loop-words.words - 1) c.word-at.result c.word-at.result c.word-at.type_inv c.word-at.ensures c.word-at.ensures)

pub put_many-words-requires-clause-some : goal.put_many-words-requires-clause-some
put_many-words-requires-clause-some c = omega (arith, ones (goal.at.put_many-words-requires-clause-some c).After-word-at, c.if-more-gt-MANY.true)

-- the held bits were put
put : (old held new : List Bool) (count room : ℕ) (rest : List ℕ) → length held ≡ count → new ≡ old ++ held → length old + count + length rest ≤ room → length new + length rest ≤ room
put old held new count room rest same is fits = omega (arith, same, ap (λ (xs : List Bool). length xs) is, length-append old held, fits)

pub put_many-words-requires-clause-room : goal.put_many-words-requires-clause-room
put_many-words-requires-clause-room c =
    let i = c.loop-words.invariant in
    rw c.put_held.ensures.room (put c.loop-words.pen.bits (number_bits c.loop-words.count c.loop-words.held) c.put_held.new.pen.bits c.loop-words.count c.loop-words.pen.room (places_before c.loop-words.words c.args.b.now) (length-number_bits c.loop-words.count c.loop-words.held) c.put_held.ensures.bits i.fits)

pub loop-words-preserved-then-more-gt-MANY : goal.loop-words-preserved-then-more-gt-MANY
loop-words-preserved-then-more-gt-MANY c =
    let i = c.loop-words.invariant in
    let e = c.put_many-words.ensures in
    let held = number_bits c.loop-words.count c.loop-words.held in
    let all = bits_at c.args.a.now (places_before c.loop-words.words c.args.b.now) in
    let rest = bits_at c.args.a.now (places_before c.put_many-words.result c.args.b.now) in
    let bits : c.put_many-words.new.pen.bits ++ rest ≡ c.args.pen.now.bits ++ extract c.args.a.now c.args.b.now =
    e.bits ∙ ap (λ (xs : List Bool). xs ++ all) c.put_held.ensures.bits ∙ append_assoc c.loop-words.pen.bits held all ∙ i.bits in
    record {
      room = e.room ∙ c.put_held.ensures.room ∙ i.room;
      moves = e.count ∙ i.moves;
      words = omega (arith, e.left, i.words);
      most = omega arith;
      small = omega arith;
      fits = omega (arith, same_lengths c.args.a.now c.put_many-words.new.pen.bits c.put_held.new.pen.bits (places_before c.put_many-words.result c.args.b.now) (places_before c.loop-words.words c.args.b.now) e.bits, ap (λ (xs : List Bool). length xs) c.put_held.ensures.bits, length-append c.loop-words.pen.bits held, length-number_bits c.loop-words.count c.loop-words.held, i.fits, e.room, c.put_held.ensures.room);
      bits = rw (no_number 0) bits;
    }

-- ---- the held bits, and those of a word

fits_64 : (held count more : ℕ) → held < 2 ^ count → count + more ≤ 64 → (held + 1) * 2 ^ more ≤ 2 ^ 64
fits_64 held count more small le =
    omega (arith, fits_word held count more small, pow-le-pow_right {n = 2} (omega arith) {i = count + more} {j = 64} le)

held_below : (held count bits at : ℕ) → at < 2 ^ 64 → held < 2 ^ count → held * 2 ^ count_ones at + bits_number (word_extract bits at) < 2 ^ (count + count_ones at)
held_below held count bits at below small = omega (arith, fits_word held count (count_ones at) small, word_number_below bits at below)

pub gathered-held-requires : goal.gathered-held-requires
gathered-held-requires c =
    let i = c.loop-words.invariant in
    elim c.if-count-more-gt64.branch [
      | then-count-more-gt64 w ↦ rw w.held-is (record { fits = fits_64 0 0 (count_ones c.word-at.result) (omega arith) (omega (arith, ones-le 64 c.word-at.result c.word-at.type_inv)) })
      | else-count-more-gt64 w ↦ rw w.held-is (record { fits = fits_64 c.loop-words.held c.loop-words.count (count_ones c.word-at.result) i.small w.if-count-more-gt64.false })
    ]

-- a pen, and the held bits, before a word
record AreHeld (old : List Bool) (room : ℕ) (a b : List Bool) (words : ℕ) (bits : List Bool) (pen_room held count more : ℕ) : Type 0 where
  same_room : pen_room ≡ room
  most : count + more ≤ 64
  small : held < 2 ^ count
  fits : length bits + count + length (places_before words b) ≤ pen_room
  all : bits ++ (number_bits count held ++ bits_at a (places_before words b)) ≡ old ++ extract a b

pub loop-words-preserved : goal.loop-words-preserved
loop-words-preserved c =
    let i = c.loop-words.invariant in
    let s = c.if-count-more-gt64 in
    let a = c.args.a.now in
    let b = c.args.b.now in
    let words = c.loop-words.words in
    let rest = bits_at c.args.a.now (places_before (c.loop-words.words - 1) c.args.b.now) in
    let h : AreHeld c.args.pen.now.bits c.args.pen.now.room a b words s.pen.bits s.pen.room s.held s.count (count_ones c.word-at.result) =
    elim c.if-count-more-gt64.branch [
      | then-count-more-gt64 w ↦ rw (w.pen-is, w.held-is, w.count-is) (record {
        same_room = w.put_word.ensures.room ∙ i.room;
        most = omega (arith, ones-le 64 c.word-at.result c.word-at.type_inv);
        small = omega arith;
        fits = rw (w.put_word.ensures.bits, w.put_word.ensures.room) (omega (arith, i.fits, length-append c.loop-words.pen.bits (number_bits c.loop-words.count c.loop-words.held), length-number_bits c.loop-words.count c.loop-words.held));
        all = rw (w.put_word.ensures.bits, no_number 0, append_assoc c.loop-words.pen.bits (number_bits c.loop-words.count c.loop-words.held) (bits_at c.args.a.now (places_before c.loop-words.words c.args.b.now))) i.bits;
      })
      | else-count-more-gt64 w ↦ rw (w.pen-is, w.held-is, w.count-is) (record { same_room = i.room; most = w.if-count-more-gt64.false; small = i.small; fits = i.fits; all = i.bits })
    ] in
    let next : words - 1 + 1 ≡ words = omega (arith, c.loop-words-test.true) in
    let step : bits_at a (places_before words b) ≡ word_extract c.word.result c.word-at.result ++ rest = rw next at (before_step a b (words - 1) c.word.result c.word-at.result c.word-at.type_inv c.word.ensures c.word-at.ensures) in
    record {
      room = h.same_room;
      moves = i.moves;
      words = omega (arith, i.words);
      most = h.most;
      small = rw c.gathered-held.ensures (held_below s.held s.count c.word.result c.word-at.result c.word-at.type_inv h.small);
      fits = omega (arith, h.fits, ones (goal.at.loop-words-preserved c).After-word-at);
      bits =
          ap (λ (more : List Bool). s.pen.bits ++ (more ++ rest)) (ap (number_bits (s.count + count_ones c.word-at.result)) c.gathered-held.ensures ∙ gathered_bits s.count s.held c.word.result c.word-at.result c.word-at.type_inv)
          ∙ ap (λ (more : List Bool). s.pen.bits ++ more) (append_assoc (number_bits s.count s.held) (word_extract c.word.result c.word-at.result) rest ∙ ap (λ (more : List Bool). number_bits s.count s.held ++ more) (sym step))
          ∙ h.all;
    }

-- ---- the end

none_left : (a b : List Bool) (words : ℕ) → words ≡ 0 → bits_at a (places_before words b) ≡ []
unfolding ones_from
none_left a b words end = rw end refl

pub returns-clause-bits : goal.returns-clause-bits
returns-clause-bits c =
    let i = c.loop-words.invariant in
    let held = number_bits c.loop-words.count c.loop-words.held in
    c.put_held-2.ensures.bits ∙ ap (λ (more : List Bool). c.loop-words.pen.bits ++ more) (sym (append-nil held) ∙ ap (λ (more : List Bool). held ++ more) (sym (none_left c.args.a.now c.args.b.now c.loop-words.words (omega arith)))) ∙ i.bits
