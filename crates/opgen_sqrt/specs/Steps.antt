-- The invariant of a square root: after each step, the bits of the radicand so far, as a number, are the square of the root so far,
-- plus a remainder of at most twice the root.
use Rattle.std.specs.Prelude.{ℕ, ◌*◌, ◌≤◌, ℤ, Bool, true, false, take, All}
use Rattle.opgen_num.specs.Rounding.{IsRoot}
use Rattle.opgen_design.specs.Run.{AreWords}
use Rattle.opgen_net.specs.declared.net.Net.{Net}
use Rattle.opgen_net.specs.Flow.{Inputs}
use Rattle.opgen_net.specs.Valid.{input_widths}
use Rattle.opgen_kinds.specs.declared.single.Single.{Single}
use Rattle.opgen_kinds.specs.Single.{root_width}
use Rattle.opgen_net.specs.Placed.{number_at}
use Rattle.opgen_sqrt.specs.Recipe.{radicand, keeps, after}

-- n is the square of y and r, or, where r is not kept, some other rest
abbrev pub IsRooted : (keep : Bool) → (n y r : ℕ) → Type 0
IsRooted true n y r = IsRoot n y r
IsRooted false n y r = (rest : ℕ) × IsRoot n y rest

-- after k steps, at a time, by the words of a net's nodes
abbrev pub HoldsAfter : Single → Net → (k : ℕ) → Inputs → ℤ → Type 0
HoldsAfter r net k inputs t =
    let number = number_at net.nodes inputs t in
    IsRooted (keeps r k) (number (take (2 * k) (radicand r))) (number (after r k).digits) (number (after r k).rest)

-- after each step, at every time and for all inputs
abbrev pub HoldsAfterEachStep : Single → Net → Type 0
HoldsAfterEachStep r net =
    (k : ℕ) → k ≤ root_width r → (inputs : Inputs) (t : ℤ) → All (AreWords (input_widths net)) inputs → HoldsAfter r net k inputs t
