use Rattle.std.proofs.Common.{◌≡◌, ℕ, ◌++◌, List, All, length, take, drop, ◌∙◌, sym, ap, append-nil, subst, arith}
use Rattle.std.proofs.lemmas.List.{drop_all, take_all}
use Rattle.std.proofs.lemmas.List.Sorted.{All-permutation, IsPermutation-sym}
use Rattle.side_tables.specs.Rows.{IsSpan}
use Rattle.side_tables.specs.Ranks.{AreRanks, IsBlock}
use Rattle.side_tables.specs.declared.claims.Claim.{Claim}
use Rattle.side_tables.specs.declared.ranks.Cell.{Cell}
use Rattle.side_tables.proofs.Claimed.{IsRank-permuted}
use Rattle.side_tables.proofs.ranks.Ranks.open.Goals as goal

pub find-requires-clause-right : goal.find-requires-clause-right
find-requires-clause-right c =
    subst (All (λ (claim : Claim). IsSpan claim.span)) (sym c.deref.ensures.value)
    (All-permutation (λ (claim : Claim). IsSpan claim.span) c.args.claims.items _ c.sort_unstable_by_key.ensures.permutation c.requires.right)

-- what was written over all of a vector
written : (items new : List Cell) (n : ℕ) → length new ≡ length items → n ≡ length new → take n (new ++ drop (length new) items) ≡ new
written items new n same all = rw (drop_all (length new) items (omega arith), append-nil new) (take_all n new (omega arith))

pub invariant_of-result : goal.invariant_of-result
invariant_of-result c =
    let items = c.in_ok-cells.cells.items in
    let new = c.find.new.cells in
    let claims = c.sort_unstable_by_key.new.self.items in
    let are : AreRanks claims 0 (length items) new = rw (c.deref.ensures.value, c.deref_mut.ensures.value) at c.find.ensures in
    let numbers : length items ≡ c.args.numbers = omega (arith, c.in_ok-cells.ensures.len) in
    let old : length c.deref_mut.result.now ≡ length items = ap length c.deref_mut.ensures.value in
    let len : c.in_ok-cells.cells.len ≡ length new = let same : length new ≡ length items = are.len in omega (arith, same, old, c.deref_mut.ensures.len) in
    let same : length new ≡ length items = are.len in
    rw (written items new c.in_ok-cells.cells.len are.len len) (record {
      right = All-permutation (λ (claim : Claim). IsSpan claim.span) c.args.claims.items _ c.sort_unstable_by_key.ensures.permutation c.requires.right;
      block = subst IsBlock (sym (same ∙ numbers)) c.requires.block;
      ranks = subst (λ (n : ℕ). AreRanks claims 0 n new) (sym same) are;
    })

pub returns : goal.returns
returns c = λ n rank is. IsRank-permuted c.sort_unstable_by_key.new.self.items c.args.claims.items n rank (IsPermutation-sym _ _ c.sort_unstable_by_key.ensures.permutation) is
