use Rattle.std.proofs.Common.{◌≡◌, ℕ, Bool, true, false, replicate, List, ◌++◌, ◌==◌, length, arith, refl, sym, subst, ◌∙◌, ap}
use Rattle.std.specs.Prelude.{IsTrue}
use Rattle.std.specs.Bool.{OnTrue}
use Rattle.bit_vectors.specs.Vectors.{IsPlaces}
use Rattle.state_bytes.specs.Parts.{BeginsVector, vector_part}
use Rattle.mask_update.specs.Masks.{Running}
use Rattle.mask_update.specs.Saved.{bit_byte}
use Rattle.mask_update.proofs.Standing.{bit_is, counted, counted_size, fits}
use Rattle.mask_update.proofs.masks.Masks.load.Goals as goal

begins : (f g : ℕ) (v : List Bool) (bytes rest : List ℕ) → length v ≡ f → f ≡ g → bytes ≡ vector_part v ++ rest → BeginsVector g v bytes rest
begins f g v bytes rest places same is = record { places = places ∙ same; bytes_are = is }

on_true : (b : Bool) (v : List Bool) (n : ℕ) → length v ≡ n → (IsTrue b → v ≡ replicate (length v) false) → OnTrue b (v ≡ replicate n false)
on_true true v n len zero = zero refl ∙ ap (λ m. replicate m false) len
on_true false v n len zero = tt

pub unreachable-requires : goal.unreachable-requires
unreachable-requires c =
    let r = c.requires in
    let size = counted_size r.0.taken (bit_byte r.0.again) c.args.bytes.now _ (counted r.0 c.args.bytes.now r.1 r.2.bytes_are) in
    let h = c.in_default.ensures in
    omega (arith, size, h.none refl)

pub take_vector-rest-requires : goal.take_vector-rest-requires
take_vector-rest-requires c =
    let r = c.requires in
    let places = sym (ap (λ (m : Running). length m.mask) c.self.view_is) in
    let told = c.in-Some.ensures.counted _ _ _ (fits r.0 _ r.2.valid) (counted r.0 c.args.bytes.now r.1 r.2.bytes_are) in
    (r.0.previous, _, begins _ (length c.self.inside.previous) r.0.previous _ _ r.2.valid.previous (places ∙ sym c.self.invariant.previous_len) told.2)

pub take_vector-rest-requires-2 : goal.take_vector-rest-requires-2
take_vector-rest-requires-2 c =
    let r = c.requires in
    let places = sym (ap (λ (m : Running). length m.mask) c.self.view_is) in
    let told = c.in-Some.ensures.counted _ _ _ (fits r.0 _ r.2.valid) (counted r.0 c.args.bytes.now r.1 r.2.bytes_are) in
    let t0 = c.take_vector-rest.ensures.taken _ _ (begins _ (length c.self.inside.previous) r.0.previous _ _ r.2.valid.previous (places ∙ sym c.self.invariant.previous_len) told.2) in
    (r.0.build, _, begins _ (length c.self.inside.build) r.0.build _ _ r.2.valid.build (places ∙ sym c.self.invariant.build_len) t0.1)

pub take_vector-rest-requires-3 : goal.take_vector-rest-requires-3
take_vector-rest-requires-3 c =
    let r = c.requires in
    let places = sym (ap (λ (m : Running). length m.mask) c.self.view_is) in
    let told = c.in-Some.ensures.counted _ _ _ (fits r.0 _ r.2.valid) (counted r.0 c.args.bytes.now r.1 r.2.bytes_are) in
    let t0 = c.take_vector-rest.ensures.taken _ _ (begins _ (length c.self.inside.previous) r.0.previous _ _ r.2.valid.previous (places ∙ sym c.self.invariant.previous_len) told.2) in
    let t1 = c.take_vector-rest-2.ensures.taken _ _ (begins _ (length c.self.inside.build) r.0.build _ _ r.2.valid.build (places ∙ sym c.self.invariant.build_len) t0.1) in
    (r.0.mask, _, begins _ (length c.self.inside.mask) r.0.mask _ _ r.2.valid.mask places t1.1)

pub take_vector-rest-requires-4 : goal.take_vector-rest-requires-4
take_vector-rest-requires-4 c =
    let r = c.requires in
    let places = sym (ap (λ (m : Running). length m.mask) c.self.view_is) in
    let told = c.in-Some.ensures.counted _ _ _ (fits r.0 _ r.2.valid) (counted r.0 c.args.bytes.now r.1 r.2.bytes_are) in
    let t0 = c.take_vector-rest.ensures.taken _ _ (begins _ (length c.self.inside.previous) r.0.previous _ _ r.2.valid.previous (places ∙ sym c.self.invariant.previous_len) told.2) in
    let t1 = c.take_vector-rest-2.ensures.taken _ _ (begins _ (length c.self.inside.build) r.0.build _ _ r.2.valid.build (places ∙ sym c.self.invariant.build_len) t0.1) in
    let t2 = c.take_vector-rest-3.ensures.taken _ _ (begins _ (length c.self.inside.mask) r.0.mask _ _ r.2.valid.mask places t1.1) in
    (r.0.change, _, begins _ (length c.self.inside.change) r.0.change _ _ r.2.valid.change (places ∙ sym c.self.invariant.change_len) t2.1)

pub returns-clause-loaded : goal.returns-clause-loaded
returns-clause-loaded c m rest b =
    let places = sym (ap (λ (m : Running). length m.mask) c.self.view_is) in
    let told = c.in-Some.ensures.counted _ _ _ (fits m _ b.valid) (counted m c.args.bytes.now rest b.bytes_are) in
    let t0 = c.take_vector-rest.ensures.taken _ _ (begins _ (length c.self.inside.previous) m.previous _ _ b.valid.previous (places ∙ sym c.self.invariant.previous_len) told.2) in
    let t1 = c.take_vector-rest-2.ensures.taken _ _ (begins _ (length c.self.inside.build) m.build _ _ b.valid.build (places ∙ sym c.self.invariant.build_len) t0.1) in
    let t2 = c.take_vector-rest-3.ensures.taken _ _ (begins _ (length c.self.inside.mask) m.mask _ _ b.valid.mask places t1.1) in
    let t3 = c.take_vector-rest-4.ensures.taken _ _ (begins _ (length c.self.inside.change) m.change _ _ b.valid.change (places ∙ sym c.self.invariant.change_len) t2.1) in
    let again = ap (λ n. n == 1) told.1 ∙ bit_is m.again in
    ((λ i. record { previous = t0.0 i; build = t1.0 i; mask = t2.0 i; change = t3.0 i; again = again i; taken = told.0 i }), t3.1)

pub returns-clause-most : goal.returns-clause-most
returns-clause-most c =
    let r = c.requires in
    let told = c.in-Some.ensures.counted _ _ _ (fits r.0 _ r.2.valid) (counted r.0 c.args.bytes.now r.1 r.2.bytes_are) in
    rw told.0 r.2.valid.most

pub invariant_of-self : goal.invariant_of-self
invariant_of-self c =
    let r = c.requires in
    let told = c.in-Some.ensures.counted _ _ _ (fits r.0 _ r.2.valid) (counted r.0 c.args.bytes.now r.1 r.2.bytes_are) in
    let len = c.take_vector-rest-3.ensures.places in
    let inv = c.self.invariant in
    let change = c.take_vector-rest-4.ensures.places ∙ c.self.invariant.change_len ∙ sym len in
    record {
      vector = subst IsPlaces (sym len) inv.vector;
      previous_len = c.take_vector-rest.ensures.places ∙ inv.previous_len ∙ sym len;
      build_len = c.take_vector-rest-2.ensures.places ∙ inv.build_len ∙ sym len;
      change_len = change;
      no_change = on_true c.is_zero-self-inside.result c.take_vector-rest-4.new.vector _ change c.is_zero-self-inside.ensures.zero.0;
      some_change = c.is_zero-self-inside.ensures.some;
      most = rw told.0 r.2.valid.most;
    }
