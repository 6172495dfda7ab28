use Rattle.std.proofs.Common.{true, length, take, drop, ap, sym, refl, ◌∙◌, arith}
use Rattle.std.specs.List.{Contains}
use Rattle.std.proofs.lemmas.Bool.{false≢true}
use Rattle.bit_vectors.specs.Vectors.{bits_of, vector_bytes}
use Rattle.bit_vectors.proofs.NumberBits.{stored_is}
use Rattle.bit_vectors.proofs.Keeping.{holds, Becomes, Becomes-load, words_become, vector_becomes}
use Rattle.bit_vectors.proofs.bits.Bits.load.Goals as goal
use Rattle.bit_vectors.proofs.bits.Bits.load.Goals.{After-load_words}

no_spare : (c : After-load_words) → Contains (drop c.self.inside.places (bits_of c.args.bytes.now)) true → ⊥
no_spare c one = false≢true (sym c.if-has_spare_bit.false ∙ c.has_spare_bit.ensures.1 one)

becomes : (c : After-load_words) → Becomes c.self.inside.words.items c.load_words.new.words c.self.inside.places (take (length c.args.self.now) (bits_of c.args.bytes.now))
becomes c =
    Becomes-load _ _ _ _ _ (holds _ _ _ c.self.invariant.0 c.self.view_is) c.requires (c.load_words.auto.words ∙ ap length c.deref_mut.ensures.value) c.load_words.ensures.bits c.load_words.ensures.numbers (no_spare c)

pub has_spare_bit-requires-clause-len : goal.has_spare_bit-requires-clause-len
has_spare_bit-requires-clause-len c = let h = holds _ _ _ c.self.invariant.0 c.self.view_is in omega (arith, h.len, c.requires)

pub load_words-requires-clause-most : goal.load_words-requires-clause-most
load_words-requires-clause-most c =
    let h = holds _ _ _ c.self.invariant.0 c.self.view_is in omega (arith, h.len, h.are.count, c.requires, ap length c.deref_mut.ensures.value)

pub load_words-requires-clause-least : goal.load_words-requires-clause-least
load_words-requires-clause-least c =
    let h = holds _ _ _ c.self.invariant.0 c.self.view_is in omega (arith, h.len, h.are.count, c.requires, ap length c.deref_mut.ensures.value)

pub invariant_of-self : goal.invariant_of-self
invariant_of-self c =
    let d = (goal.at.invariant_of-self c).After-load_words in
    (words_become _ _ _ _ _ c.self.invariant.0 c.self.inside.words.ok.0 (becomes d), c.self.invariant.1)

pub returns-then-has_spare_bit-clause-spare : goal.returns-then-has_spare_bit-clause-spare
returns-then-has_spare_bit-clause-spare c =
    let h = holds _ _ _ c.self.invariant.0 c.self.view_is in
    (λ e. rw h.len (c.has_spare_bit.ensures.0 c.if-has_spare_bit.true), λ one. refl)

pub returns-clause-len : goal.returns-clause-len
returns-clause-len c =
    let d = (goal.at.returns-clause-len c).After-load_words in
    let h = holds _ _ _ c.self.invariant.0 c.self.view_is in
    ap length (vector_becomes _ _ _ _ _ c.self.invariant.0 c.self.inside.words.ok.0 (becomes d)) ∙ (becomes d).len ∙ sym h.len

pub returns-clause-loaded : goal.returns-clause-loaded
returns-clause-loaded c =
    vector_becomes _ _ _ _ _ c.self.invariant.0 c.self.inside.words.ok.0 (becomes (goal.at.returns-clause-loaded c).After-load_words)

pub returns-clause-stored : goal.returns-clause-stored
returns-clause-stored c =
    let d = (goal.at.returns-clause-stored c).After-load_words in
    let h = holds _ _ _ c.self.invariant.0 c.self.view_is in
    stored_is c.args.bytes.now (length c.args.self.now) (λ i. omega (arith, c.type_inv.bytes i)) c.requires (λ one. no_spare d (rw h.len at one))
    ∙ ap vector_bytes (sym (vector_becomes _ _ _ _ _ c.self.invariant.0 c.self.inside.words.ok.0 (becomes d)))

pub returns-clause-spare : goal.returns-clause-spare
returns-clause-spare c =
    let h = holds _ _ _ c.self.invariant.0 c.self.view_is in
    (λ e. absurd cc, λ one. absurd (no_spare (goal.at.returns-clause-spare c).After-load_words (rw h.len at one)))
