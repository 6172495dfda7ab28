use Rattle.std.proofs.Common.{◌≡◌, ℕ, ◌+◌, Bool, true, false, List, [], length, replicate, arith, refl, sym, subst, ◌∙◌, ap}
use Rattle.std.proofs.lemmas.List.{append-nil}
use Rattle.std.specs.Prelude.{IsTrue}
use Rattle.std.specs.Bool.{OnTrue}
use Rattle.bit_vectors.specs.Vectors.{IsPlaces, bits_number}
use Rattle.state_bytes.specs.Parts.{BeginsVector, vector_part}
use Rattle.robust_window.specs.Window.{WindowState, are_two_set}
use Rattle.robust_window.proofs.SavedWindows.{given_of, level_size, levelled, marks_are, marks_fit}
use Rattle.robust_window.proofs.window.Window.load.Goals as goal

begins : (f g h : ℕ) (v : List Bool) (bytes : List ℕ) → length v ≡ f → g ≡ f → h ≡ g → bytes ≡ vector_part v → BeginsVector h v bytes []
begins f g h v bytes places loaded seen is = record { places = places ∙ sym loaded ∙ sym seen; bytes_are = is ∙ sym (append-nil (vector_part v)) }

on_true : (b : Bool) (P : Type 0) → (IsTrue b → P) → OnTrue b P
on_true true P zero = zero refl
on_true false P zero = tt

pub unreachable-requires : goal.unreachable-requires
unreachable-requires c =
    let saved = c.requires.saved in
    let size = level_size saved.window.level (bits_number saved.window.new_masks) _ c.args.bytes.now (levelled saved.window c.args.bytes.now saved.bytes_are) in
    let h = c.in_default.ensures in
    omega (arith, size, h.none refl)

pub load_changes-rest-requires : goal.load_changes-rest-requires
load_changes-rest-requires c =
    let saved = c.requires.saved in
    let told = c.in-Some.ensures.level _ _ _ (marks_fit _ saved.window saved.valid) (levelled saved.window c.args.bytes.now saved.bytes_are) in
    given_of _ saved.window c.in-Some.rest.now saved.valid told.2

pub take_vector-requires : goal.take_vector-requires
take_vector-requires c =
    let saved = c.requires.saved in
    let told = c.in-Some.ensures.level _ _ _ (marks_fit _ saved.window saved.valid) (levelled saved.window c.args.bytes.now saved.bytes_are) in
    let rest = c.load_changes-rest.ensures.taken (given_of _ saved.window c.in-Some.rest.now saved.valid told.2) in
    (saved.window.recent, [], begins _ _ _ saved.window.recent _ saved.valid.recent c.load_changes-rest.ensures.places (ap (λ (k : WindowState). length k.recent) c.self.view_is) rest.1)

pub invariant_of-self : goal.invariant_of-self
invariant_of-self c =
    let saved = c.requires.saved in
    let told = c.in-Some.ensures.level _ _ _ (marks_fit _ saved.window saved.valid) (levelled saved.window c.args.bytes.now saved.bytes_are) in
    let len = c.take_vector.ensures.places in
    let kept = c.self.invariant in
    record {
      vector = subst IsPlaces (sym len) kept.vector;
      places = kept.places ∙ sym len;
      full = kept.full;
      zero = on_true c.is_zero-self-inside.result (c.take_vector.new.vector ≡ replicate (length c.take_vector.new.vector) false) c.is_zero-self-inside.ensures.zero.0;
      some = c.is_zero-self-inside.ensures.some;
      level_most = rw told.0 saved.valid.level_most;
      taken_most = c.requires.most;
    }

pub returns-clause-loaded : goal.returns-clause-loaded
returns-clause-loaded c w valid taken is =
    let told = c.in-Some.ensures.level _ _ _ (marks_fit _ w valid) (levelled w c.args.bytes.now is) in
    let rest = c.load_changes-rest.ensures.taken (given_of _ w c.in-Some.rest.now valid told.2) in
    let recent = c.take_vector.ensures.taken _ _ (begins _ _ _ w.recent _ valid.recent c.load_changes-rest.ensures.places (ap (λ (k : WindowState). length k.recent) c.self.view_is) rest.1) in
    let changes : c.self.inside.changes.latest ≡ w.changes = ap (λ (k : WindowState). k.changes) c.self.view_is ∙ rest.0 in
    let marks = marks_are _ c.in-Some.marks w valid told.1 in
    let level = told.0 in
    let vector = recent.0 in
    let steps = sym taken in
    let twice = (λ i. are_two_set (marks i) (level i + 1)) ∙ sym valid.twice in
    λ i. record { changes = changes i; new_masks = marks i; recent = vector i; level = level i; twice = twice i; taken = steps i }

pub returns-clause-places : goal.returns-clause-places
returns-clause-places c = c.take_vector.ensures.places ∙ ap (λ (k : WindowState). length k.recent) c.self.view_is ∙ c.load_changes-rest.ensures.places
