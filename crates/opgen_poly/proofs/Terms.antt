-- The terms of a polynomial from a place on: the first one, and the input times those after it.
use Rattle.std.proofs.Common.{◌≡◌, ℕ, suc, ◌+◌, ◌-◌, ◌*◌, ◌^◌, ◌<◌, List, [], ◌∷◌, length, drop, get_or, drop-cons, add-one, sym, ap, ◌∙◌, arith}
use Rattle.std.specs.Prelude.{ℤ, pos, ◌+ℤ◌, ◌*ℤ◌}
use Rattle.std.proofs.Math.Nat.{pow-zero}
use Rattle.std.proofs.lemmas.Int.{ints}
use Rattle.opgen_num.proofs.Integers.{commuted, product-sum, sum-product, product_assoc}
use Rattle.opgen_kinds.specs.Poly.{terms_from}
use Rattle.opgen_kinds.proofs.of_kind.Terms.{next_power}
use Rattle.opgen_poly.proofs.Cores.{times}

-- one power more
next-term : (c : ℤ) (a x : ℕ) → c *ℤ pos (a * x) ≡ pos x *ℤ (c *ℤ pos a)
next-term c a x = ap (λ z. c *ℤ z) (sym (times a x)) ∙ sym (product_assoc c (pos a) (pos x)) ∙ commuted (c *ℤ pos a) (pos x)

pub shifted-terms : (i : ℕ) (cs : List ℤ) (w k x : ℕ) → terms_from (i + 1) cs w (suc k) x ≡ pos x *ℤ terms_from i cs w k x
shifted-terms i [] w k x = omega (arith, ints)
shifted-terms i (c ∷ cs) w k x =
    let T = terms_from (i + 1) cs w k x in
    let a = x ^ i * 2 ^ (w * (k - i)) in
    let places : suc k - (i + 1) ≡ k - i = omega arith in
    let factor : x ^ (i + 1) * 2 ^ (w * (suc k - (i + 1))) ≡ a * x =
    ap (λ q. x ^ (i + 1) * 2 ^ (w * q)) places ∙ ap (λ q. q * 2 ^ (w * (k - i))) (sym (next_power x i)) ∙ omega arith in
    ap (λ q. (c *ℤ pos q) +ℤ terms_from (i + 1 + 1) cs w (suc k) x) factor
    ∙ ap (λ z. z +ℤ terms_from (i + 1 + 1) cs w (suc k) x) (next-term c a x)
    ∙ ap (λ z. (pos x *ℤ (c *ℤ pos a)) +ℤ z) (shifted-terms (i + 1) cs w k x)
    ∙ sym (product-sum (pos x) (c *ℤ pos a) T)

pub first-term : (cs : List ℤ) (place w k x : ℕ) → place < length cs
    → terms_from 0 (drop place cs) w (suc k) x
    ≡ (get_or cs place (pos 0) *ℤ pos (2 ^ (w * suc k))) +ℤ (pos x *ℤ terms_from 0 (drop (place + 1) cs) w k x)
first-term cs place w k x h =
    let c = get_or cs place (pos 0) in
    let factor : x ^ 0 * 2 ^ (w * (suc k - 0)) ≡ 2 ^ (w * suc k) =
    let whole : suc k - 0 ≡ suc k = omega arith in
    ap (λ q. x ^ 0 * 2 ^ (w * q)) whole ∙ ap (λ q. q * 2 ^ (w * suc k)) (pow-zero x) ∙ omega arith in
    ap (λ ts. terms_from 0 ts w (suc k) x) (drop-cons cs place (pos 0) h)
    ∙ ap (λ q. (c *ℤ pos q) +ℤ terms_from 1 (drop (suc place) cs) w (suc k) x) factor
    ∙ ap (λ z. (c *ℤ pos (2 ^ (w * suc k))) +ℤ z) (shifted-terms 0 (drop (suc place) cs) w k x)
    ∙ ap (λ q. (c *ℤ pos (2 ^ (w * suc k))) +ℤ (pos x *ℤ terms_from 0 (drop q cs) w k x)) (sym (add-one place))

-- in units of S
pub scaled-terms : (c t : ℤ) (Q x S : ℕ)
    → ((c *ℤ pos Q) +ℤ (pos x *ℤ t)) *ℤ pos S ≡ (pos Q *ℤ (c *ℤ pos S)) +ℤ (pos x *ℤ (t *ℤ pos S))
scaled-terms c t Q x S =
    let one : (c *ℤ pos Q) *ℤ pos S ≡ pos Q *ℤ (c *ℤ pos S) =
    ap (λ z. z *ℤ pos S) (commuted c (pos Q)) ∙ product_assoc (pos Q) c (pos S) in
    sum-product (c *ℤ pos Q) (pos x *ℤ t) (pos S)
    ∙ ap (λ z. z +ℤ ((pos x *ℤ t) *ℤ pos S)) one
    ∙ ap (λ z. (pos Q *ℤ (c *ℤ pos S)) +ℤ z) (product_assoc (pos x) t (pos S))
