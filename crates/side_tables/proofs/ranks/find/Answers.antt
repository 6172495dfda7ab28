use Rattle.std.proofs.Common.{◌≡◌, ◌+◌, ◌<◌, [], ◌∷◌, ◌++◌, List, Contains, length, take, ◌∙◌, sym, subst, arith}
use Rattle.std.proofs.lemmas.List.{get_or_default, take_all, take_more}
use Rattle.side_tables.specs.Ranks.{claim_at, no_claim}
use Rattle.side_tables.specs.declared.claims.Claim.{Claim}
use Rattle.side_tables.proofs.Claimed.{AreClaimed-more, HaveRanks, HaveRanks-more}
use Rattle.side_tables.proofs.ranks.find.Goals as goal

pub loop-claim-preserved : goal.loop-claim-preserved
loop-claim-preserved c =
    let claims = c.args.claims.now in
    let k = c.loop-claim.claim-index in
    let old = c.loop-claim.cells in
    let new = c.take.new.cells in
    let kept = c.loop-claim.invariant in
    let took = c.take.ensures in
    let inside : k < length claims = c.loop-claim-test.true in
    let among : Contains claims (claim_at claims k) = (k, inside, get_or_default claims k (claim_at claims k) no_claim inside) in
    let more : take (k + 1) claims ≡ take k claims ++ claim_at claims k ∷ [] = take_more claims k no_claim inside in
    record {
      len = took.takes.len ∙ kept.len;
      runs = took.cells.runs;
      claimed = AreClaimed-more claims (claim_at claims k) c.args.base old new among kept.claimed took.takes;
      ranks = subst (λ (taken : List Claim). HaveRanks taken c.args.base new) (sym more)
          (HaveRanks-more (take k claims) (claim_at claims k) c.args.base old new kept.ranks took.takes took.all);
    }

pub returns : goal.returns
returns c =
    let claims = c.args.claims.now in
    let kept = c.loop-claim.invariant in
    let all : take c.loop-claim.claim-index claims ≡ claims = take_all c.loop-claim.claim-index claims c.loop-claim-test.false in
    let ranks = subst (λ (taken : List Claim). HaveRanks taken c.args.base c.loop-claim.cells) all kept.ranks in
    record { len = kept.len; ranks = λ n inside. record { own = kept.claimed n; most = ranks n (let len = kept.len in omega (arith, len, inside)) } }
