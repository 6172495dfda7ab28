use Rattle.std.proofs.Common.{◌≡◌, ◌+◌, ◌*◌, ◌≤◌, ◌++◌, ℕ, List, length, take, ap, sym, ◌∙◌, arith}
use Rattle.std.proofs.lemmas.List.{take_at}
use Rattle.std.specs.Vec.{vec_capacity}
use Rattle.bit_vectors.specs.Pen.{PenState, written_bits, HasRoom}
use Rattle.bit_vectors.proofs.PenBits.{HasWord, HasWords, joined_word, full_word, rest_word, length-written, joined_small, full_small, HasRoom-joined, written-joined, HasRoom-full, written-full}
use Rattle.bit_vectors.proofs.pen.BitPen.put_word.Goals as goal
use Rattle.bit_vectors.proofs.pen.BitPen.put_word.Goals.{After-write_word, After-write_two_words}

-- there is room for the number
room_left : (bytes : List ℕ) (capacity words word held room width : ℕ) (pen : PenState) → record { bits = written_bits bytes words word held; room = room } ≡ pen → HasRoom bytes capacity words word held room → length pen.bits + width ≤ pen.room
    → 64 * words + held + width ≤ room
room_left bytes capacity words word held room width pen view h fits =
    omega (arith, length-written bytes capacity words word held room h, ap (λ (p : PenState). length p.bits) view, ap (λ (p : PenState). p.room) view)

pub overflow_add-self : goal.overflow_add-self
overflow_add-self c =
    omega (arith, joined_small c.self.inside.word c.args.value c.self.inside.held c.args.width (omega arith) c.self.invariant.small c.self.invariant.clean c.requires.fits)

pub overflow_add-full : goal.overflow_add-full
overflow_add-full c =
    omega (arith, full_small c.self.inside.word c.args.value c.self.inside.held c.args.width c.self.invariant.short (omega arith) c.requires.most c.self.invariant.small c.self.invariant.clean c.requires.fits)

-- what was written back is what the call left
back : (n : ℕ) (bytes rest : List ℕ) → n ≡ length bytes → take n (bytes ++ rest) ≡ bytes
back n bytes rest len = take_at bytes rest n (sym len)

wrote : (c : After-write_word) → HasWord c.self.inside.bytes.items c.write_word.new.bytes c.self.inside.words (joined_word c.self.inside.word c.args.value c.self.inside.held c.args.width)
wrote c = rw (← c.deref_mut.ensures.value) c.write_word.ensures

len : (c : After-write_word) → length c.write_word.new.bytes ≡ length c.self.inside.bytes.items
len c = c.write_word.auto.bytes ∙ ap (λ (bytes : List ℕ). length bytes) c.deref_mut.ensures.value

pub invariant_of-self : goal.invariant_of-self
invariant_of-self c =
    let d = (goal.at.invariant_of-self c).After-write_word in
    rw (back c.self.inside.bytes.len c.write_word.new.bytes _ (c.self.inside.bytes.ok.0 ∙ sym (len d)))
    (HasRoom-joined c.self.inside.bytes.items c.write_word.new.bytes (vec_capacity c.self.inside.bytes) c.self.inside.words c.self.inside.word c.self.inside.held c.self.inside.room c.args.value c.args.width c.self.invariant c.if-end-lt64.true c.requires.fits
    (room_left c.self.inside.bytes.items (vec_capacity c.self.inside.bytes) c.self.inside.words c.self.inside.word c.self.inside.held c.self.inside.room c.args.width c.args.self.now c.self.view_is c.self.invariant c.requires.room) (len d) (wrote d))

pub returns-then-end-lt64-clause-bits : goal.returns-then-end-lt64-clause-bits
returns-then-end-lt64-clause-bits c =
    let d = (goal.at.returns-then-end-lt64-clause-bits c).After-write_word in
    rw (back c.self.inside.bytes.len c.write_word.new.bytes _ (c.self.inside.bytes.ok.0 ∙ sym (len d)), ← c.self.view_is)
    (written-joined c.self.inside.bytes.items c.write_word.new.bytes (vec_capacity c.self.inside.bytes) c.self.inside.words c.self.inside.word c.self.inside.held c.self.inside.room c.args.value c.args.width c.self.invariant c.if-end-lt64.true c.requires.fits
    (room_left c.self.inside.bytes.items (vec_capacity c.self.inside.bytes) c.self.inside.words c.self.inside.word c.self.inside.held c.self.inside.room c.args.width c.args.self.now c.self.view_is c.self.invariant c.requires.room) (len d) (wrote d))

-- ---- a full word, and the one after it

pub write_two_words-requires-clause-room : goal.write_two_words-requires-clause-room
write_two_words-requires-clause-room c =
    omega (
      arith,
      ap (λ (bytes : List ℕ). length bytes) c.deref_mut-else-end-lt64.ensures.value,
      c.self.invariant.bytes_fit,
      room_left c.self.inside.bytes.items (vec_capacity c.self.inside.bytes) c.self.inside.words c.self.inside.word c.self.inside.held c.self.inside.room c.args.width c.args.self.now c.self.view_is c.self.invariant c.requires.room,
    )

wrote_both : (c : After-write_two_words) → HasWords c.self.inside.bytes.items c.write_two_words.new.bytes c.self.inside.words (full_word c.self.inside.word c.args.value c.self.inside.held c.args.width) (rest_word c.self.inside.word c.args.value c.self.inside.held c.args.width)
wrote_both c = rw (← c.deref_mut-else-end-lt64.ensures.value) c.write_two_words.ensures

len_both : (c : After-write_two_words) → length c.write_two_words.new.bytes ≡ length c.self.inside.bytes.items
len_both c = c.write_two_words.auto.bytes ∙ ap (λ (bytes : List ℕ). length bytes) c.deref_mut-else-end-lt64.ensures.value

pub invariant_of-self-else-end-lt64 : goal.invariant_of-self-else-end-lt64
invariant_of-self-else-end-lt64 c =
    let d = (goal.at.invariant_of-self-else-end-lt64 c).After-write_two_words in
    rw (back c.self.inside.bytes.len c.write_two_words.new.bytes _ (c.self.inside.bytes.ok.0 ∙ sym (len_both d)))
    (HasRoom-full c.self.inside.bytes.items c.write_two_words.new.bytes (vec_capacity c.self.inside.bytes) c.self.inside.words c.self.inside.word c.self.inside.held c.self.inside.room c.args.value c.args.width c.self.invariant c.if-end-lt64.false c.requires.most c.requires.fits
    (room_left c.self.inside.bytes.items (vec_capacity c.self.inside.bytes) c.self.inside.words c.self.inside.word c.self.inside.held c.self.inside.room c.args.width c.args.self.now c.self.view_is c.self.invariant c.requires.room) (len_both d) (wrote_both d))

pub returns-else-end-lt64-clause-bits : goal.returns-else-end-lt64-clause-bits
returns-else-end-lt64-clause-bits c =
    let d = (goal.at.returns-else-end-lt64-clause-bits c).After-write_two_words in
    rw (back c.self.inside.bytes.len c.write_two_words.new.bytes _ (c.self.inside.bytes.ok.0 ∙ sym (len_both d)), ← c.self.view_is)
    (written-full c.self.inside.bytes.items c.write_two_words.new.bytes (vec_capacity c.self.inside.bytes) c.self.inside.words c.self.inside.word c.self.inside.held c.self.inside.room c.args.value c.args.width c.self.invariant c.if-end-lt64.false c.requires.most c.requires.fits
    (room_left c.self.inside.bytes.items (vec_capacity c.self.inside.bytes) c.self.inside.words c.self.inside.word c.self.inside.held c.self.inside.room c.args.width c.args.self.now c.self.view_is c.self.invariant c.requires.room) (len_both d) (wrote_both d))
