use Rattle.std.proofs.Common.{◌≡◌, ℕ, ◌^◌, ◌<◌, Bool, List, false, length, replicate, subst, sym, ◌∙◌, ap, refl, arith, get_or, bit_and, bit_or, bit_xor}
use Rattle.std.specs.Int.{bit_not, w64}
use Rattle.std.specs.Prelude.{◌||◌}
use Rattle.std.proofs.Math.Bool.{or-false}
use Rattle.std.proofs.lemmas.Bool.{OnFalse_at, OnFalse_from, OnTrue_at, OnTrue_from, eqb-false, eqb-true, false≢true}
use Rattle.std.proofs.lemmas.Nat.{and_le_l}
use Rattle.bit_vectors.specs.Words.{HasNoSpareBit}
use Rattle.bit_vectors.proofs.WordBits.{Bitwise-xor, Bitwise-or, Bitwise-drop}
use Rattle.mask_update.specs.Masks.{HaveMoved, Running}
use Rattle.mask_update.proofs.Moving.{IsWord-spare, fresh_there, in_word, op_spare, some_written, word_written, xor_none, zeros_written, Contains-kept}
use Rattle.mask_update.proofs.masks.Masks.move_word.Goals as goal
use Rattle.mask_update.proofs.masks.Masks.move_word.Goals.{After-word, then-self, else-self}

-- the moved places are places of each vector
spare : (c : After-word) → (v : List Bool) → length v ≡ length c.self.inside.mask → HasNoSpareBit (length v) c.args.index c.args.moved
spare c v len = subst (λ (n : ℕ). HasNoSpareBit n c.args.index c.args.moved) (sym (len ∙ ap (λ (r : Running). length r.mask) c.self.view_is)) c.requires.spare

fresh_below : (moved mask : ℕ) → moved < 2 ^ 64 → bit_and moved (bit_not w64 mask) < 2 ^ 64
fresh_below moved mask below = omega (arith, below, and_le_l moved (bit_not w64 mask))

pub set_word-requires-clause-spare : goal.set_word-requires-clause-spare
set_word-requires-clause-spare c =
    op_spare bit_xor _ Bitwise-xor c.args.index c.word.result c.args.moved (omega arith) (length c.self.inside.previous) (IsWord-spare c.self.inside.previous c.args.index c.word.result c.word.ensures)
    (spare (goal.at.set_word-requires-clause-spare c).After-word c.self.inside.previous c.self.invariant.previous_len)

pub set_word-requires-2-clause-spare : goal.set_word-requires-2-clause-spare
set_word-requires-2-clause-spare c =
    op_spare bit_or _ Bitwise-or c.args.index c.word-2.result c.args.moved (omega arith) (length c.self.inside.build) (IsWord-spare c.self.inside.build c.args.index c.word-2.result c.word-2.ensures)
    (spare (goal.at.set_word-requires-2-clause-spare c).After-word c.self.inside.build c.self.invariant.build_len)

pub set_word-requires-3-clause-spare : goal.set_word-requires-3-clause-spare
set_word-requires-3-clause-spare c =
    op_spare bit_or _ Bitwise-or c.args.index c.word-mask.result c.args.moved (omega arith) (length c.self.inside.mask) (IsWord-spare c.self.inside.mask c.args.index c.word-mask.result c.word-mask.ensures)
    (spare (goal.at.set_word-requires-3-clause-spare c).After-word c.self.inside.mask refl)

pub set_word-requires-4-clause-spare : goal.set_word-requires-4-clause-spare
set_word-requires-4-clause-spare c =
    let i = c.self.invariant in
    let fresh : HasNoSpareBit (length c.self.inside.change) c.args.index (bit_and c.args.moved (bit_not w64 c.word-mask.result)) =
    op_spare _ _ Bitwise-drop c.args.index c.args.moved c.word-mask.result (omega arith) (length c.self.inside.change) (spare (goal.at.set_word-requires-4-clause-spare c).After-word c.self.inside.change i.change_len)
    (rw i.change_len (IsWord-spare c.self.inside.mask c.args.index c.word-mask.result c.word-mask.ensures)) in
    op_spare bit_or _ Bitwise-or c.args.index c.word-3.result (bit_and c.args.moved (bit_not w64 c.word-mask.result)) (fresh_below c.args.moved c.word-mask.result (omega arith)) (length c.self.inside.change)
    (IsWord-spare c.self.inside.change c.args.index c.word-3.result c.word-3.ensures) fresh

pub invariant_of-self : goal.invariant_of-self
invariant_of-self c =
    let i = c.self.invariant in
    let fresh = bit_and c.args.moved (bit_not w64 c.word-mask.result) in
    let below : fresh < 2 ^ 64 = fresh_below c.args.moved c.word-mask.result (omega arith) in
    let written : (place : ℕ) → get_or c.set_word-4.new.self place false ≡ (get_or c.self.inside.change place false || in_word c.args.index fresh place) =
    word_written bit_or _ Bitwise-or c.args.index c.word-3.result fresh below c.self.inside.change c.set_word-4.new.self or-false c.word-3.ensures c.set_word-4.ensures.word c.set_word-4.ensures.others in
    record {
      vector = (omega (arith, i.vector.0, c.set_word-3.ensures.len), omega (arith, i.vector.1, c.set_word-3.ensures.len));
      previous_len = c.set_word.ensures.len ∙ i.previous_len ∙ sym c.set_word-3.ensures.len;
      build_len = c.set_word-2.ensures.len ∙ i.build_len ∙ sym c.set_word-3.ensures.len;
      change_len = c.set_word-4.ensures.len ∙ i.change_len ∙ sym c.set_word-3.ensures.len;
      no_change = OnTrue_from _ _ (λ is. elim c.if-self.branch [
        | then-self w ↦
            zeros_written c.self.inside.change c.set_word-4.new.self c.args.index fresh (length c.self.inside.mask) (OnTrue_at w.if-self.true i.no_change) (eqb-true _ _ (sym w.self-is ∙ is)) written (c.set_word-4.ensures.len ∙ i.change_len)
            ∙ ap (λ (n : ℕ). replicate n false) (sym c.set_word-3.ensures.len)
        | else-self w ↦ absurd (false≢true (sym w.if-self.false ∙ sym w.self-is ∙ is))
      ]);
      some_change = OnFalse_from _ _ (λ is. elim c.if-self.branch [
        | then-self w ↦ some_written c.self.inside.change c.set_word-4.new.self c.args.index fresh below (eqb-false _ _ (sym w.self-is ∙ is)) written
        | else-self w ↦ Contains-kept c.self.inside.change c.set_word-4.new.self _ (OnFalse_at w.if-self.false i.some_change) written
      ]);
      most = i.most;
    }

pub returns : goal.returns
returns c =
    let new : Running = record { previous = c.set_word.new.self; build = c.set_word-2.new.self; mask = c.set_word-3.new.self; change = c.set_word-4.new.self; again = c.self.inside.again; taken = c.self.inside.taken } in
    let fresh = bit_and c.args.moved (bit_not w64 c.word-mask.result) in
    subst (λ (old : Running). HaveMoved (in_word c.args.index c.args.moved) old new) c.self.view_is (record {
      previous = word_written bit_xor _ Bitwise-xor c.args.index c.word.result c.args.moved (omega arith) c.self.inside.previous c.set_word.new.self xor_none c.word.ensures c.set_word.ensures.word c.set_word.ensures.others;
      build = word_written bit_or _ Bitwise-or c.args.index c.word-2.result c.args.moved (omega arith) c.self.inside.build c.set_word-2.new.self or-false c.word-2.ensures c.set_word-2.ensures.word c.set_word-2.ensures.others;
      mask = word_written bit_or _ Bitwise-or c.args.index c.word-mask.result c.args.moved (omega arith) c.self.inside.mask c.set_word-3.new.self or-false c.word-mask.ensures c.set_word-3.ensures.word c.set_word-3.ensures.others;
      change = λ k.
          word_written bit_or _ Bitwise-or c.args.index c.word-3.result fresh (fresh_below c.args.moved c.word-mask.result (omega arith)) c.self.inside.change c.set_word-4.new.self or-false c.word-3.ensures c.set_word-4.ensures.word c.set_word-4.ensures.others k
          ∙ ap (λ (b : Bool). get_or c.self.inside.change k false || b) (fresh_there c.self.inside.mask c.args.index c.word-mask.result c.args.moved (omega arith) c.word-mask.ensures k);
      previous_len = c.set_word.ensures.len;
      build_len = c.set_word-2.ensures.len;
      mask_len = c.set_word-3.ensures.len;
      change_len = c.set_word-4.ensures.len;
      taken = refl;
    })
