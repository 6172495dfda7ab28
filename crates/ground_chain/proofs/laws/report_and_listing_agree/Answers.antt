use Rattle.std.proofs.Common.{◌≡◌, ℕ, List, [], ◌++◌, codes, Some, None, true, false, refl, sym, ap, ◌∙◌, append_assoc, append-nil}
use Rattle.std.specs.Fmt.{decimal}
use Rattle.bit_vectors.specs.declared.fault.BitFault.TheVariants.{Wrong, EndsEarly}
use Rattle.ground_chain.specs.declared.verdict.Kind.{Kind}
use Rattle.ground_chain.specs.declared.verdict.Kind.TheVariants.{Written, Repeat, Unsynced, Gap, Refused}
use Rattle.ground_chain.specs.Run.{Judged}
use Rattle.ground_chain.specs.Report.{is_unwritten, own_row}
use Rattle.ground_chain.specs.Listing.{IsToldAlike, mask_line}
use Rattle.ground_chain.proofs.RestCourses.{listing_course-is, restore_course-is}
use Rattle.ground_chain.proofs.laws.report_and_listing_agree.Goals as goal

after_value : (a value b c : List ℕ) → (a ++ (value ++ b)) ++ c ≡ a ++ value ++ b ++ c
after_value a value b c = ap (λ (l : List ℕ). l ++ c) (sym (append_assoc a value b))

plain_line : (t : ℕ) (a value b : List ℕ) → decimal t ++ ((a ++ (value ++ b)) ++ []) ≡ decimal t ++ (a ++ value ++ b)
plain_line t a value b = ap (λ (l : List ℕ). decimal t ++ l) (append-nil (a ++ (value ++ b)) ∙ sym (append_assoc a value b))

unwritten : (judged : Judged) (kind : Kind) → is_unwritten kind ≡ true → IsToldAlike (record judged { verdict = record judged.verdict { kind = kind } })
unwritten judged Written is = absurd cc
unwritten judged Repeat is = absurd cc
unwritten judged (Unsynced false) is = record { cause = codes "unsynced"; value = None; mask = None; row = refl; line = refl }
unwritten judged (Unsynced true) is = record { cause = codes "unsynced"; value = None; mask = Some (mask_line judged.verdict.t judged.after.state.mask); row = refl; line = refl }
unwritten judged (Gap level false) is = record { cause = codes "gap"; value = Some level; mask = None; row = refl; line = plain_line judged.verdict.t (codes " gap ") (decimal level) (codes "\n") }
unwritten judged (Gap level true) is = record {
  cause = codes "gap";
  value = Some level;
  mask = Some (mask_line judged.verdict.t judged.after.state.mask);
  row = refl;
  line = ap (λ (l : List ℕ). decimal judged.verdict.t ++ l) (after_value (codes " gap ") (decimal level) (codes " mask ") (mask_line judged.verdict.t judged.after.state.mask));
}
unwritten judged (Refused (Wrong bit)) is = record { cause = codes "wrong"; value = Some bit; mask = None; row = refl; line = plain_line judged.verdict.t (codes " wrong ") (decimal bit) (codes "\n") }
unwritten judged (Refused (EndsEarly bit)) is = record { cause = codes "early"; value = Some bit; mask = None; row = refl; line = plain_line judged.verdict.t (codes " early ") (decimal bit) (codes "\n") }

others : (t : ℕ) (kind : Kind) → is_unwritten kind ≡ false → own_row t kind ≡ []
others t Written is = refl
others t Repeat is = refl
others t (Unsynced mask) is = absurd cc
others t (Gap level mask) is = absurd cc
others t (Refused fault) is = absurd cc

pub returns-clause-report : goal.returns-clause-report
returns-clause-report c = restore_course-is

pub returns-clause-listing : goal.returns-clause-listing
returns-clause-listing c = listing_course-is

pub returns-clause-unwritten : goal.returns-clause-unwritten
returns-clause-unwritten c = λ judged is. unwritten judged judged.verdict.kind is

pub returns-clause-others : goal.returns-clause-others
returns-clause-others c = λ judged is. others judged.verdict.t judged.verdict.kind is
