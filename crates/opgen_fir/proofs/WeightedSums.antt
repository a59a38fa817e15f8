-- The weighted sum of the first so many inputs.
use Rattle.std.proofs.Common.{◌≡◌, ℕ, zero, suc, ◌+◌, ◌≤◌, List, ◌∷◌, length, drop, get_or, ap, ◌∙◌, arith}
use Rattle.std.specs.Prelude.{ℤ, pos, ◌+ℤ◌, ◌*ℤ◌}
use Rattle.std.proofs.lemmas.Int.{ints}
use Rattle.std.proofs.lemmas.List.{drop_more, drop_all}
use Rattle.opgen_ports.specs.Ports.{Recent, weighted_from, weighted}
use Rattle.opgen_fir.specs.Summed.{weighted_first}

parts : (coefs : List ℤ) (x : Recent) (k : ℕ) → k ≤ length coefs
    → weighted_first coefs x k +ℤ weighted_from k (drop k coefs) x ≡ weighted coefs x
parts coefs x zero h = omega (arith, ints)
parts coefs x (suc k) h =
    let next : k + 1 ≡ suc k = omega arith in
    let rest : drop k coefs ≡ get_or coefs k (pos 0) ∷ drop (suc k) coefs =
    drop_more coefs k (pos 0) (omega (arith, h)) ∙ ap (λ i. get_or coefs k (pos 0) ∷ drop i coefs) next in
    let split : weighted_from k (drop k coefs) x ≡ (x k *ℤ get_or coefs k (pos 0)) +ℤ weighted_from (suc k) (drop (suc k) coefs) x =
    ap (λ l. weighted_from k l x) rest ∙ ap (λ i. (x k *ℤ get_or coefs k (pos 0)) +ℤ weighted_from i (drop (suc k) coefs) x) next in
    omega (arith, ints, split, parts coefs x k (omega (arith, h)))

pub weighted-all : (coefs : List ℤ) (x : Recent) → weighted_first coefs x (length coefs) ≡ weighted coefs x
weighted-all coefs x =
    let none : weighted_from (length coefs) (drop (length coefs) coefs) x ≡ pos 0 =
    ap (λ l. weighted_from (length coefs) l x) (drop_all (length coefs) coefs (omega arith)) in
    omega (arith, ints, none, parts coefs x (length coefs) (omega arith))
