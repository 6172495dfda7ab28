use Rattle.std.proofs.Common.{◌≡◌, ◌+◌, ◌-◌, ◌*◌, ◌<◌, ◌≤◌, ◌++◌, ℕ, Bool, List, false, length, get_or, refl, sym, ap, ◌∙◌, arith, inl, inr}
use Rattle.std.specs.Prelude.{count_by}
use Rattle.std.proofs.lemmas.Bool.{true≢false}
use Rattle.std.specs.Int.RustNames.{count_ones}
use Rattle.std.proofs.lemmas.Nat.{ones-le}
use Rattle.std.proofs.lemmas.List.{length-append, length-drop}
use Rattle.bit_vectors.specs.Reading.{bits_left, ShowsFirst}
use Rattle.bit_vectors.proofs.WordBytes.{ShowsFirst-after}
use Rattle.bit_vectors.specs.Words.{word_count}
use Rattle.bit_vectors.proofs.ExactReading.{MovesOn-refl, MovesOn-then}
use Rattle.run_code.specs.Extraction.{places_down, bits_at, extract, SameOutside, parse_filled}
use Rattle.run_code.proofs.InverseBits.{length-bits_at}
use Rattle.run_code.proofs.Ones.{ones_below, places_down_apart, places_down_has, length-places_down, one_or_zero}
use Rattle.run_code.proofs.Filling.{OnlyAt, IsExact-filled_at, parse_filled-few}
use Rattle.run_code.proofs.Gathering.{ones_step, ones_below-past}
use Rattle.run_code.proofs.Spreading.{ones_span, span_none, span_all, span_skip, places_parts, spread_more, spread_others, shown_take}
use Rattle.run_code.proofs.extraction.take_into_with.Goals as goal
use Rattle.run_code.proofs.extraction.take_into_with.Goals.{After-word-at, Then-shown-count-2, then-shown-count+else-shown-count-2, else-shown-count}

pub loop-index-init : goal.loop-index-init
loop-index-init c =
    let none : 64 * word_count (length c.args.b.now) - 64 * c.word_count-index.result ≡ 0 = omega (arith, c.word_count-index.ensures.count) in
    record {
      moves = MovesOn-refl c.args.eye.now;
      places = refl;
      others = λ k zero. refl;
      taken = rw (none, span_none (64 * c.word_count-index.result) c.args.b.now) refl;
      few = omega arith;
      within = omega arith;
      shows = λ k none. absurd (omega arith);
    }

-- the bits that were left at first are those that were taken and those that are left
so_far : (a b old left : List Bool) (from all : ℕ) → from ≤ all → length b ≤ all → old ≡ bits_at a (ones_span from (all - from) b) ++ left → length old + length (ones_below from b) ≡ count_by (λ bit. bit) b + length left
so_far a b old left from all within past taken =
    omega (arith, ap length taken, length-append (bits_at a (ones_span from (all - from) b)) left, length-bits_at a (ones_span from (all - from) b), places_parts b from all within past, length-places_down b)

-- the words that are left are some of all words
within : (c : After-word-at) → 64 * c.loop-index.index ≤ 64 * word_count (length c.args.b.now)
within c = omega (arith, c.word_count-index.ensures.count)

pub loop-index-preserved-then-at-eq0 : goal.loop-index-preserved-then-at-eq0
loop-index-preserved-then-at-eq0 c =
    let i = c.loop-index.invariant in
    let skip = span_skip c.args.b.now c.loop-index.index (64 * word_count (length c.args.b.now)) (omega arith) (within (goal.at.loop-index-preserved-then-at-eq0 c).After-word-at) (rw c.if-at-eq0.true at c.word-at.ensures) in
    record {
      moves = i.moves;
      places = i.places;
      others = i.others;
      taken = rw skip i.taken;
      few = i.few;
      within = i.within;
      shows = i.shows;
    }

-- the bits are too few for the ones of a word
few : (c : Then-shown-count-2) → length (bits_left c.args.eye.now) < count_by (λ bit. bit) c.args.b.now
few c =
    let within : 64 * c.loop-index.index ≤ 64 * word_count (length c.args.b.now) = omega (arith, c.word_count-index.ensures.count) in
    let most : count_ones c.word-at.result ≤ 64 = ones-le 64 c.word-at.result c.word-at.type_inv in
    omega (
      arith,
      most,
      c.if-shown-count-2.true,
      c.min-shown.ensures,
      c.left.ensures.left,
      so_far c.loop-index.a c.args.b.now (bits_left c.args.eye.now) (bits_left c.loop-index.eye) (64 * c.loop-index.index) (64 * word_count (length c.args.b.now)) within (omega arith) c.loop-index.invariant.taken,
      ones_step c.args.b.now c.args.b.now c.loop-index.index c.word-at.result c.word-at.result (omega arith) c.word-at.type_inv c.word-at.ensures c.word-at.ensures,
    )

pub returns-then-shown-count-2-clause-early : goal.returns-then-shown-count-2-clause-early
returns-then-shown-count-2-clause-early c = (λ _. few (goal.at.returns-then-shown-count-2-clause-early c).Then-shown-count-2, λ _. refl)

pub returns-then-shown-count-2-clause-reading : goal.returns-then-shown-count-2-clause-reading
returns-then-shown-count-2-clause-reading c = (
  parse_filled-few (places_down c.args.b.now) c.args.a.now (bits_left c.args.eye.now) (omega (arith, length-places_down c.args.b.now, few (goal.at.returns-then-shown-count-2-clause-reading c).Then-shown-count-2)),
  c.size.ensures.size,
  omega (arith, ones-le 64 c.word-at.result c.word-at.type_inv, c.if-shown-count-2.true, c.min-shown.ensures, c.left.ensures.left, c.left.ensures.rest, c.pass.ensures.place, ap length c.pass.ensures.bits),
)

-- the bits that a word needs are shown
record AreShown (left : List Bool) (ahead shown count : ℕ) : Type 0 where
  most : shown ≤ 64
  enough : count ≤ shown
  within : shown ≤ length left
  shows : ShowsFirst shown left ahead

pub loop-index-preserved : goal.loop-index-preserved
loop-index-preserved c =
    let i = c.loop-index.invariant in
    let here : AreShown (bits_left c.loop-index.eye) c.if-shown-count.ahead c.if-shown-count.shown (count_ones c.word-at.result) =
    elim c.if-shown-count.branch [
      | then-shown-count+else-shown-count-2 w ↦ rw (w.shown-is, w.ahead-is) (record {
        most = omega (arith, w.min-shown.ensures);
        enough = w.if-shown-count-2.false;
        within = omega (arith, w.min-shown.ensures, w.left.ensures.left);
        shows = λ k lt. w.ahead-ahead.ensures k (omega (arith, w.min-shown.ensures));
      })
      | else-shown-count w ↦ rw (w.shown-is, w.ahead-is) (record { most = i.few; enough = w.if-shown-count.false; within = i.within; shows = i.shows })
    ] in
    record {
      moves = MovesOn-then c.args.eye.now c.loop-index.eye c.pass-in-loop-index.new.self i.moves (record { bits = c.pass-in-loop-index.ensures.bits; forward = omega (arith, c.pass-in-loop-index.ensures.place) });
      places = c.set_word.ensures.len ∙ i.places;
      others = λ k zero. spread_others c.loop-index.a c.set_word.new.self c.args.b.now (c.loop-index.index - 1) c.word.result c.word-at.result c.spread-word.result c.word.ensures c.word-at.ensures c.set_word.ensures.word c.set_word.ensures.others c.spread-word.ensures.others k zero ∙ i.others k zero;
      taken = rw c.pass-in-loop-index.ensures.left
          (spread_more (bits_left c.args.eye.now) (bits_left c.loop-index.eye) c.loop-index.a c.set_word.new.self c.args.b.now c.loop-index.index (64 * word_count (length c.args.b.now)) c.word-at.result c.spread-word.result (omega arith) (within (goal.at.loop-index-preserved c).After-word-at) c.word-at.ensures c.set_word.ensures.word c.set_word.ensures.others
          (c.spread-word.ensures.bits ∙ shown_take (bits_left c.loop-index.eye) c.if-shown-count.ahead (count_ones c.word-at.result) (λ k lt. here.shows k (omega (arith, lt, here.enough))) (ones-le 64 c.word-at.result c.word-at.type_inv) (omega (arith, here.enough, here.within))) i.taken);
      few = omega (arith, here.most);
      within = rw c.pass-in-loop-index.ensures.left (omega (arith, here.within, length-drop (count_ones c.word-at.result) (bits_left c.loop-index.eye)));
      shows = rw c.pass-in-loop-index.ensures.left (ShowsFirst-after (bits_left c.loop-index.eye) c.if-shown-count.ahead c.if-shown-count.shown (count_ones c.word-at.result) here.most here.enough here.shows);
    }

-- everything was taken
all_taken : (a b old left : List Bool) (index : ℕ) → index ≡ 0 → old ≡ bits_at a (ones_span (64 * index) (64 * word_count (length b) - 64 * index) b) ++ left → old ≡ extract a b ++ left
all_taken a b old left index none taken =
    let first : 64 * index ≡ 0 = omega arith in
    let whole : 64 * word_count (length b) - 0 ≡ 64 * word_count (length b) = omega arith in
    let places : ones_span 0 (64 * word_count (length b)) b ≡ places_down b = span_all (64 * word_count (length b)) b ∙ ones_below-past b (64 * word_count (length b)) (omega arith) in
    rw (first, whole, places) at taken

pub returns-clause-taken : goal.returns-clause-taken
returns-clause-taken c = all_taken c.loop-index.a c.args.b.now (bits_left c.args.eye.now) (bits_left c.loop-index.eye) c.loop-index.index (omega arith) c.loop-index.invariant.taken

pub returns-clause-early : goal.returns-clause-early
returns-clause-early c = (
  λ wrong. absurd (true≢false (sym wrong)),
  λ lt. absurd
      (omega (
        arith,
        lt,
        ap length (all_taken c.loop-index.a c.args.b.now (bits_left c.args.eye.now) (bits_left c.loop-index.eye) c.loop-index.index (omega arith) c.loop-index.invariant.taken),
        length-append (extract c.loop-index.a c.args.b.now) (bits_left c.loop-index.eye),
        length-bits_at c.loop-index.a (places_down c.args.b.now),
        length-places_down c.args.b.now,
      )),
)

-- only bits at the ones differ
only : (a new b : List Bool) → length new ≡ length a → SameOutside b a new → OnlyAt (places_down b) a new
only a new b len outside = record {
  same_length = len;
  others = λ k out. elim (one_or_zero (get_or b k false)) [
    | inl one ↦ absurd (out (places_down_has b k one))
    | inr none ↦ outside k none
  ];
}

pub returns-clause-reading : goal.returns-clause-reading
returns-clause-reading c =
    let i = c.loop-index.invariant in
    let exact = IsExact-filled_at (places_down c.args.b.now) c.args.a.now (rw c.requires (places_down_apart c.args.b.now)) in
    ap (parse_filled (places_down c.args.b.now) c.args.a.now) (all_taken c.loop-index.a c.args.b.now (bits_left c.args.eye.now) (bits_left c.loop-index.eye) c.loop-index.index (omega arith) i.taken)
    ∙ exact.reads c.loop-index.a (extract c.loop-index.a c.args.b.now) (bits_left c.loop-index.eye) (only c.args.a.now c.loop-index.a c.args.b.now i.places i.others, refl)
