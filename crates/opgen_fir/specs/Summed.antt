-- What the tables of all coefficients add up to, in units of the lowest guard bit.
use Rattle.std.specs.Prelude.{ℕ, zero, suc, ◌≡◌, ◌*◌, ◌^◌, true, false, List, length, take, get_or, ℤ, pos, ◌+ℤ◌, ◌-ℤ◌, ◌*ℤ◌, ◌≤ℤ◌, unsigned_abs, All, None}
use Rattle.opgen_design.specs.Run.{AreWords}
use Rattle.opgen_heap.specs.Adding.{residue}
use Rattle.opgen_net.specs.Flow.{Inputs, before, flow, input_at}
use Rattle.opgen_net.specs.Valid.{input_widths}
use Rattle.opgen_kinds.specs.declared.sum.Sum.{Sum}
use Rattle.opgen_kinds.specs.Sum.{sum_shift, terms, guard_bits, first_inexact}
use Rattle.opgen_ports.specs.Ports.{Recent}
use Rattle.opgen_ports.specs.Reaches.{up, down}
use Rattle.opgen_kcm.specs.Chunks.{chunk_count, number}
use Rattle.opgen_kcm.specs.Multiple.{IsMultiple, sum_at}
use Rattle.opgen_kcm.specs.Recipe.{Terms}
use Rattle.opgen_fir.specs.Recipe.{is_zero, factor}

-- so many cycles before
abbrev pub back : ℕ → ℤ → ℤ
back zero t = t
back (suc k) t = back k (before t)

-- the numbers of the input in a cycle and before it
abbrev pub recent : Sum → Inputs → ℤ → Recent
recent s inputs t ago = number s.input.signed s.input.width (input_at inputs 0 s.input.width (back ago t))

-- a sum modulo 2 to a width that has grown by the multiple of a coefficient; one that is 0 adds nothing
pub record HasTerm (s : Sum) (coef x : ℤ) (width old new : ℕ) : Type 0 where
  pub by : ℤ
  pub nothing : is_zero coef ≡ true → by ≡ pos 0
  pub multiple : is_zero coef ≡ false → IsMultiple (factor s coef) (guard_bits s) (chunk_count s.input.width) x by
  pub sum : new ≡ residue (pos old +ℤ by) (2 ^ width)

-- at every time and for all inputs, the heap's sum has grown by the coefficient times the number at its tap
abbrev pub AddsTerm : Sum → (tap : ℕ) → (coef : ℤ) → (old new : Terms) → Type 0
AddsTerm s tap coef old new =
    (inputs : Inputs) (t : ℤ) → All (AreWords (input_widths old.net)) inputs
    → HasTerm s coef (number s.input.signed s.input.width (flow old.net.nodes inputs tap t)) old.heap.width
    (sum_at old inputs t) (sum_at new inputs t)

-- the inputs of the first so many taps, each times its coefficient
abbrev pub weighted_first : List ℤ → Recent → (count : ℕ) → ℤ
weighted_first coefs x zero = pos 0
weighted_first coefs x (suc k) = weighted_first coefs x k +ℤ (x k *ℤ get_or coefs k (pos 0))

-- the denominator of the coefficients in units of the output's last place
abbrev pub units : Sum → ℕ
units s = unsigned_abs s.den * down (sum_shift s)

-- twice the distance of m * e and n is at most k * m
abbrev pub IsNear : (k m : ℕ) (n e : ℤ) → Type 0
IsNear k m n e =
    ((pos 2 *ℤ (pos m *ℤ e)) ≤ℤ ((pos 2 *ℤ n) +ℤ (pos k *ℤ pos m)))
    × (((pos 2 *ℤ n) -ℤ (pos k *ℤ pos m)) ≤ℤ (pos 2 *ℤ (pos m *ℤ e)))

-- the chunks of the first so many coefficients, whether or not they have a table
abbrev pub tables_first : Sum → (count : ℕ) → ℕ
tables_first s count = terms (take count s.coefs) * chunk_count s.input.width

-- the exact sum of the first so many terms, in guard units
abbrev pub scaled_first : Sum → Recent → (count : ℕ) → ℤ
scaled_first s x count = (weighted_first s.coefs x count *ℤ pos (up (sum_shift s))) *ℤ pos (2 ^ guard_bits s)

-- The sum of the first terms: half a guard unit off for each chunk at most, and exact where all coefficients are whole.
pub record IsSummed (s : Sum) (x : Recent) (count : ℕ) (e : ℤ) : Type 0 where
  pub near : IsNear (tables_first s count) (units s) (scaled_first s x count) e
  pub whole : guard_bits s ≡ 0 → first_inexact s ≡ None → pos (units s) *ℤ e ≡ weighted_first s.coefs x count *ℤ pos (up (sum_shift s))

-- a number that is such a sum, modulo 2 to a width
pub record HasSum (s : Sum) (x : Recent) (count width n : ℕ) : Type 0 where
  pub total : ℤ
  pub summed : IsSummed s x count total
  pub is : n ≡ residue total (2 ^ width)

-- at every time and for all inputs, the new heap's sum is the sum of all terms
abbrev pub AddsAllTerms : Sum → (old new : Terms) → Type 0
AddsAllTerms s old new =
    (inputs : Inputs) (t : ℤ) → All (AreWords (input_widths old.net)) inputs
    → HasSum s (recent s inputs t) (length s.coefs) old.heap.width (sum_at new inputs t)
