-- Masks and their edges.
use Rattle.std.proofs.Common.{◌≡◌, suc, Bool, true, false, cond, List, [], ◌∷◌, ◌++◌, length, get_or, refl, ap, arith}
use Rattle.std.specs.Prelude.{not}
use Rattle.std.proofs.lemmas.List.{length-append}
use Rattle.std.proofs.lemmas.Simd.{length-zip2}
use Rattle.run_code.specs.Runs.{edges}
use Rattle.run_code.proofs.EdgeWords.{xor, one_mask}
use Rattle.packet_decode.specs.PacketReading.{from_edges}

-- there are as many edges as places
pub length_edges : (mask : List Bool) → length (edges mask) ≡ length mask
length_edges [] = refl
length_edges (bit ∷ mask) = length-zip2 (λ (a b : Bool). cond a (not b) b) (bit ∷ mask) (mask ++ false ∷ []) (omega (arith, length-append mask (false ∷ [])))

xor_back : (a b : Bool) → xor (xor a b) b ≡ a
xor_back true true = refl
xor_back true false = refl
xor_back false true = refl
xor_back false false = refl

-- ---- the mask with these edges

pub edges-from_edges : (v : List Bool) → edges (from_edges v) ≡ v
unfolding from_edges
edges-from_edges [] = refl
edges-from_edges (edge ∷ []) = ap (λ (bit : Bool). bit ∷ []) (xor_back edge false)
edges-from_edges (edge ∷ next ∷ v) = λ i. xor_back edge (get_or (from_edges (next ∷ v)) 0 false) i ∷ edges-from_edges (next ∷ v) i

pub length-from_edges : (v : List Bool) → length (from_edges v) ≡ length v
unfolding from_edges
length-from_edges [] = refl
length-from_edges (edge ∷ v) = ap suc (length-from_edges v)

pub from_edges-edges : (mask : List Bool) → from_edges (edges mask) ≡ mask
from_edges-edges mask = one_mask (from_edges (edges mask)) mask (edges-from_edges (edges mask))
