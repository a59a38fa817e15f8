-- How many pieces have another one above them.
use Rattle.std.proofs.Common.{◌≡◌, ℕ, suc, ◌+◌, ◌-◌, ◌/◌, ◌≤◌, ◌<◌, ap, ◌∙◌, arith}
use Rattle.std.proofs.Math.Nat.{add-div_right, div-eq_of_lt}
use Rattle.opgen_pieces.specs.Recipe.{followed}

-- the places fit one piece
pub followed-none : (most count : ℕ) → 4 ≤ most → count ≤ most → followed most count ≡ 0
followed-none most count h l = div-eq_of_lt {n = count - 3} {m = most - 2} (omega (arith, h, l))

-- or the lowest piece leaves two places less than it has bits
pub followed-more : (most count : ℕ) → 4 ≤ most → most < count → followed most count ≡ suc (followed most (count - (most - 2)))
followed-more most count h l =
    let left = count - (most - 2) in
    let all : count - 3 ≡ (left - 3) + (most - 2) = omega (arith, h, l) in
    ap (λ n. n / (most - 2)) all
    ∙ add-div_right (left - 3) {k = most - 2} (omega (arith, h))
    ∙ omega arith
