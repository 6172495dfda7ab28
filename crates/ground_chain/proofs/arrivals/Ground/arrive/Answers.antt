use Rattle.std.specs.Prelude.{IfSome}
use Rattle.std.proofs.Common.{◌≡◌, ℕ, Option, Some, None, refl, sym, ap, ◌∙◌, subst, rules}
use Rattle.ground_chain.specs.declared.verdict.Verdict.{Verdict}
use Rattle.ground_chain.specs.Run.{number_after, latest_after, expected, Judged, Known, lost_from, answer_kind, verdict_of}
use Rattle.ground_chain.specs.Refusals.{IsExactVerdict}
use Rattle.ground_chain.specs.Reception.{Reception, AgreesWith, StandsFor, known_of, next_judged}
use Rattle.ground_chain.proofs.EveryRun.{judged_read, kept_read, judged_repeat, shows_read, shows_repeat, stands_next}
use Rattle.bit_vectors.specs.Vectors.{bits_of}
use Rattle.ground_chain.proofs.Told.{IsLater, number_later}
use Rattle.ground_chain.proofs.arrivals.Ground.arrive.Goals as goal

pub returns-in_default-clause-stands : goal.returns-in_default-clause-stands
returns-in_default-clause-stands c = λ arrivals stands.
    let old : Reception = record { latest = c.self.inside.numbers; decoder = c.self.inside.decoder } in
    let new : Reception = record { latest = c.next.new.self; decoder = c.self.inside.decoder } in
    let none : number_after c.self.inside.numbers c.args.count ≡ None = search rules in
    let same : c.next.new.self ≡ c.self.inside.numbers = search rules in
    let known : known_of new ≡ (next_judged old c.args.count c.args.bytes.now).after =
    ap (λ (latest : Option ℕ). record { latest = latest; state = c.self.inside.decoder.state }) same ∙ ap (λ (j : Judged). j.after) (judged_repeat old c.args.count c.args.bytes.now none) in
    stands_next arrivals old new c.args.count c.args.bytes.now refl known (subst (StandsFor arrivals) (sym c.self.view_is) stands)

pub returns-clause-verdict : goal.returns-clause-verdict
returns-clause-verdict c =
    let old : Reception = record { latest = c.self.inside.numbers; decoder = c.self.inside.decoder } in
    let number : number_after c.self.inside.numbers c.args.count ≡ Some c.in-Some.t = sym c.next.ensures.number ∙ c.in-Some.is in
    let lost = c.lost_from-lost.ensures.is ∙ ap (λ (n : ℕ). lost_from n c.in-Some.t) c.expected-expected.ensures in
    let verdict : Verdict = record { lost = c.lost_from-lost.result; t = c.in-Some.t; kind = c.answer_kind-kind.result } in
    let is : verdict ≡ record { lost = lost_from (expected c.self.inside.numbers) c.in-Some.t; t = c.in-Some.t; kind = answer_kind c.read.result } =
    λ i. record { lost = lost i; t = c.in-Some.t; kind = c.answer_kind-kind.ensures i } in
    let judged = judged_read old c.read.new.self c.args.count c.in-Some.t c.args.bytes.now verdict c.read.result c.self.invariant number is c.read.ensures.exact (record { decodes = c.read.ensures.written; masks = c.read.ensures.mask_alone; unchanged = c.read.ensures.unchanged }) in
    ap (λ (j : Judged). j.verdict) judged ∙ ap (λ (r : Reception). (next_judged r c.args.count c.args.bytes.now).verdict) c.self.view_is

pub returns-clause-known : goal.returns-clause-known
returns-clause-known c =
    let old : Reception = record { latest = c.self.inside.numbers; decoder = c.self.inside.decoder } in
    let number : number_after c.self.inside.numbers c.args.count ≡ Some c.in-Some.t = sym c.next.ensures.number ∙ c.in-Some.is in
    let lost = c.lost_from-lost.ensures.is ∙ ap (λ (n : ℕ). lost_from n c.in-Some.t) c.expected-expected.ensures in
    let verdict : Verdict = record { lost = c.lost_from-lost.result; t = c.in-Some.t; kind = c.answer_kind-kind.result } in
    let is : verdict ≡ record { lost = lost_from (expected c.self.inside.numbers) c.in-Some.t; t = c.in-Some.t; kind = answer_kind c.read.result } =
    λ i. record { lost = lost i; t = c.in-Some.t; kind = c.answer_kind-kind.ensures i } in
    let judged = judged_read old c.read.new.self c.args.count c.in-Some.t c.args.bytes.now verdict c.read.result c.self.invariant number is c.read.ensures.exact (record { decodes = c.read.ensures.written; masks = c.read.ensures.mask_alone; unchanged = c.read.ensures.unchanged }) in
    let latest : c.next.new.self ≡ Some c.in-Some.t = c.next.ensures.latest ∙ ap (latest_after c.self.inside.numbers) c.in-Some.is in
    ap (λ (n : Option ℕ). record { latest = n; state = c.read.new.self.state }) latest ∙ ap (λ (j : Judged). j.after) judged ∙ ap (λ (r : Reception). (next_judged r c.args.count c.args.bytes.now).after) c.self.view_is

pub returns-clause-stands : goal.returns-clause-stands
returns-clause-stands c = λ arrivals stands.
    let new : Reception = record { latest = c.next.new.self; decoder = c.read.new.self } in
    let places = c.read.ensures.places ∙ ap (λ (r : Reception). r.decoder.places) c.self.view_is in
    stands_next arrivals c.args.self.now new c.args.count c.args.bytes.now places (returns-clause-known c) stands

pub returns-in_default-clause-exact : goal.returns-in_default-clause-exact
returns-in_default-clause-exact c =
    let none : number_after c.self.inside.numbers c.args.count ≡ None = search rules in
    let now : number_after c.args.self.now.latest c.args.count ≡ None = ap (λ (r : Reception). number_after r.latest c.args.count) (sym c.self.view_is) ∙ none in
    rw now tt

pub returns-clause-exact : goal.returns-clause-exact
returns-clause-exact c =
    let old : Reception = record { latest = c.self.inside.numbers; decoder = c.self.inside.decoder } in
    let number : number_after c.self.inside.numbers c.args.count ≡ Some c.in-Some.t = sym c.next.ensures.number ∙ c.in-Some.is in
    let lost = c.lost_from-lost.ensures.is ∙ ap (λ (n : ℕ). lost_from n c.in-Some.t) c.expected-expected.ensures in
    let verdict : Verdict = record { lost = c.lost_from-lost.result; t = c.in-Some.t; kind = c.answer_kind-kind.result } in
    let is : verdict ≡ verdict_of c.self.inside.numbers c.in-Some.t c.read.result =
    λ i. record { lost = lost i; t = c.in-Some.t; kind = c.answer_kind-kind.ensures i } in
    let exact : IsExactVerdict old c.args.bytes.now verdict c.in-Some.t = record { answer = c.read.result; exact = c.read.ensures.exact; is = is } in
    subst (λ (r : Reception). IfSome (number_after r.latest c.args.count) (IsExactVerdict r c.args.bytes.now verdict)) c.self.view_is
    (subst (λ (n : Option ℕ). IfSome n (IsExactVerdict old c.args.bytes.now verdict)) (sym number) exact)

pub returns-in_default-clause-shows : goal.returns-in_default-clause-shows
returns-in_default-clause-shows c =
    let old : Reception = record { latest = c.self.inside.numbers; decoder = c.self.inside.decoder } in
    let none : number_after c.self.inside.numbers c.args.count ≡ None = search rules in
    subst (λ (r : Reception). AgreesWith c.self.inside.decoder (next_judged r c.args.count c.args.bytes.now)) c.self.view_is (shows_repeat old c.args.count c.args.bytes.now none)

pub returns-clause-shows : goal.returns-clause-shows
returns-clause-shows c =
    let old : Reception = record { latest = c.self.inside.numbers; decoder = c.self.inside.decoder } in
    let number : number_after c.self.inside.numbers c.args.count ≡ Some c.in-Some.t = sym c.next.ensures.number ∙ c.in-Some.is in
    let state = ap (λ (k : Known). k.state) (returns-clause-known c) ∙ ap (λ (r : Reception). (next_judged r c.args.count c.args.bytes.now).after.state) (sym c.self.view_is) in
    let shows = shows_read old c.read.new.self c.in-Some.t c.args.bytes.now c.self.invariant.places c.read.ensures.written c.args.count number state in
    subst (λ (r : Reception). AgreesWith c.read.new.self (next_judged r c.args.count c.args.bytes.now)) c.self.view_is shows

pub invariant_of-self-2 : goal.invariant_of-self-2
invariant_of-self-2 c =
    let number : number_after c.self.inside.numbers c.args.count ≡ Some c.in-Some.t = sym c.next.ensures.number ∙ c.in-Some.is in
    let latest : c.next.new.self ≡ Some c.in-Some.t = c.next.ensures.latest ∙ ap (latest_after c.self.inside.numbers) c.in-Some.is in
    let later = subst (IsLater c.self.inside.numbers) number (number_later c.self.inside.numbers c.args.count c.requires.arrival.0) in
    kept_read c.self.inside.numbers c.next.new.self c.self.inside.decoder c.read.new.self c.in-Some.t (bits_of c.args.bytes.now) c.read.result c.self.invariant later latest c.read.ensures.places c.read.ensures.exact
    (record { decodes = c.read.ensures.written; masks = c.read.ensures.mask_alone; unchanged = c.read.ensures.unchanged })
