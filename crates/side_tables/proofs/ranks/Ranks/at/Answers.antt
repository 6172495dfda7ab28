use Rattle.std.proofs.Common.{◌≡◌, ℕ, List, ◌+◌, ◌-◌, ◌<◌, ◌≤◌, length, ap, sym, subst, refl, arith}
use Rattle.std.proofs.lemmas.List.{get_or_read, with_items_is}
use Rattle.side_tables.specs.Ranks.{AreRanks, IsBlock, IsRank, IsRanked, RankState, cell_at, no_cell}
use Rattle.side_tables.specs.declared.claims.Claim.{Claim}
use Rattle.side_tables.specs.declared.ranks.Cell.{Cell}
use Rattle.side_tables.proofs.ranks.Ranks.at.Goals as goal
use Rattle.side_tables.proofs.ranks.Ranks.at.Goals.{then-t-self, else-t-self+else-len-t}

-- the ranks of another block of as many numbers
anew : (claims : List Claim) (old base : ℕ) (cells new : List Cell) → IsRanked claims old cells → AreRanks claims base (length cells) new → IsRanked claims base new
anew claims old base cells new was are =
    let len : length new ≡ length cells = are.len in
    record { right = was.right; block = subst IsBlock (sym len) was.block; ranks = subst (λ (n : ℕ). AreRanks claims base n new) (sym len) are }

-- the number that is asked for is in the block
at_rank : (claims : List Claim) (base t : ℕ) (cells : List Cell) → IsRanked claims base cells → base ≤ t → t - base < length cells → IsRank claims t (cell_at cells (t - base)).rank
at_rank claims base t cells ranked from inside =
    let sum : base + (t - base) ≡ t = omega (arith, from) in
    subst (λ (n : ℕ). IsRank claims n (cell_at cells (t - base)).rank) sum (ranked.ranks.ranks (t - base) inside)

pub returns-clause-rank : goal.returns-clause-rank
returns-clause-rank c =
    let inside = c.if-t-self.self-inside in
    let ranked : IsRanked inside.claims.items inside.base inside.cells.items = elim c.if-t-self.branch [
      | then-t-self w ↦
          let new : AreRanks c.self.inside.claims.items c.args.t (length c.self.inside.cells.items) w.find.new.cells = rw (w.deref.ensures.value, w.deref_mut.ensures.value) at w.find.ensures in
          let len = new.len in
          rw (w.self-inside-is, with_items_is c.self.inside.cells w.find.new.cells (omega (arith, len, w.deref_mut.ensures.len, ap length w.deref_mut.ensures.value)))
          (anew c.self.inside.claims.items c.self.inside.base c.args.t c.self.inside.cells.items w.find.new.cells c.self.invariant new)
      | else-t-self+else-len-t w ↦ rw w.self-inside-is c.self.invariant
    ] in
    let claims : inside.claims.items ≡ c.args.self.now.claims = elim c.if-t-self.branch [
      | then-t-self w ↦ rw w.self-inside-is (ap (λ (r : RankState). r.claims) c.self.view_is)
      | else-t-self+else-len-t w ↦ rw w.self-inside-is (ap (λ (r : RankState). r.claims) c.self.view_is)
    ] in
    let some : 1 ≤ length inside.cells.items = ranked.block.some in
    let from : inside.base ≤ c.args.t = elim c.if-t-self.branch [
      | then-t-self w ↦ rw w.self-inside-is (omega arith)
      | else-t-self+else-len-t w ↦ rw w.self-inside-is (omega arith)
    ] in
    let at : c.args.t - inside.base < length inside.cells.items = elim c.if-t-self.branch [
      | then-t-self w ↦ let base : inside.base ≡ c.args.t = rw w.self-inside-is refl in omega (arith, base, some)
      | else-t-self+else-len-t w ↦ rw w.self-inside-is (omega (arith, w.if-len-t.false, w.len.ensures))
    ] in
    let is = at_rank inside.claims.items inside.base c.args.t inside.cells.items ranked from at in
    let cell : c.index.result.now ≡ cell_at inside.cells.items (c.args.t - inside.base) = get_or_read inside.cells.items (c.args.t - inside.base) c.index.result.now at c.index.ensures no_cell in
    subst (λ (cell : Cell). IsRank c.args.self.now.claims c.args.t cell.rank) (sym cell) (subst (λ (all : List Claim). IsRank all c.args.t (cell_at inside.cells.items (c.args.t - inside.base)).rank) claims is)
