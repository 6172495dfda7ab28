use Rattle.std.proofs.Common.{refl, sym, subst, arith}
use Rattle.packet_decode.specs.Saved.{AreOfDecoding, IsDecoding}
use Rattle.ground_chain.specs.Reception.{Reckoning}
use Rattle.ground_chain.proofs.Reckonings.{counted, counts_size, decoding_of, fitting}
use Rattle.ground_chain.proofs.tallied.Tallied.load.Goals as goal

pub unreachable-requires : goal.unreachable-requires
unreachable-requires c = let saved = c.requires in let size = counts_size _ _ c.args.bytes.now _ (counted saved.reckoning c.args.bytes.now saved.bytes_are) in let h = c.in_default.ensures in omega (arith, size, h.none refl)

pub load-requires : goal.load-requires
load-requires c =
    let saved = c.requires in
    let fits = fitting saved.reckoning.reception.latest saved.reckoning.restored saved.valid.limits in
    let told = c.in-Some.ensures.counts _ _ _ fits.1 fits.0 (counted saved.reckoning c.args.bytes.now saved.bytes_are) in
    record { saved = subst (λ (r : Reckoning). AreOfDecoding r.reception.decoder.places c.in-Some.next c.in-Some.rest.now) (sym c.self.view_is) (decoding_of _ c.in-Some.next saved.reckoning c.in-Some.rest.now saved.valid told.0 told.2) }

pub invariant_of-self : goal.invariant_of-self
invariant_of-self c =
    let saved = c.requires in
    let r = saved.reckoning in
    let fits = fitting saved.reckoning.reception.latest saved.reckoning.restored saved.valid.limits in
    let told = c.in-Some.ensures.counts _ _ _ fits.1 fits.0 (counted saved.reckoning c.args.bytes.now saved.bytes_are) in
    let new = c.load.ensures saved.reckoning.reception saved.valid.reception (sym told.0) (subst (λ (r : Reckoning). IsDecoding r.reception.decoder.places saved.reckoning.reception.decoder) (sym c.self.view_is) saved.valid.decoding) told.2 in
    rw (new, told.1) saved.valid.limits

pub returns : goal.returns
returns c r valid is =
    let fits = fitting r.reception.latest r.restored valid.limits in
    let told = c.in-Some.ensures.counts _ _ _ fits.1 fits.0 (counted r c.args.bytes.now is) in
    let new = c.load.ensures r.reception valid.reception (sym told.0) (subst (λ (s : Reckoning). IsDecoding s.reception.decoder.places r.reception.decoder) (sym c.self.view_is) valid.decoding) told.2 in
    λ i. record { reception = new i; restored = told.1 i }
