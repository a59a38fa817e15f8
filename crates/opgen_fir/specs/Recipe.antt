-- The net of a scale or filter: a delay for each cycle that a coefficient reaches back, tables on the input and the delays, larger
-- counters if they are asked for, and a compressor.
use Rattle.std.specs.Prelude.{ℕ, zero, suc, ◌+◌, ◌-◌, ◌^◌, Bool, List, [], ◌∷◌, ◌++◌, length, codes, ℤ, pos, ◌*ℤ◌, get_or, unsigned_abs, ◌==◌, if◌then◌else◌}
use Rattle.opgen_num.specs.declared.format.Ratio.{Ratio}
use Rattle.opgen_design.specs.declared.expr.Slice.{Slice}
use Rattle.opgen_net.specs.declared.net.Net.{Net}
use Rattle.opgen_net.specs.declared.node.Node.{Node}
use Rattle.opgen_net.specs.declared.node.Node.TheVariants.{Input, Delay}
use Rattle.opgen_kinds.specs.declared.sum.Sum.{Sum}
use Rattle.opgen_kinds.specs.Sum.{sum_shift, guard_bits, sum_format}
use Rattle.opgen_ports.specs.Reaches.{up, down}
use Rattle.opgen_heap.specs.Contents.{Contents}
use Rattle.opgen_heap.specs.Adding.{with_constant}
use Rattle.opgen_net.specs.Placed.{Placed}
use Rattle.opgen_compress.specs.Recipe.{compressed}
use Rattle.opgen_gpc.specs.Recipe.{Counting, counted_if}
use Rattle.opgen_ports.specs.Recipes.{has_counters}
use Rattle.opgen_kcm.specs.Recipe.{Terms, with_rows}

abbrev pub is_zero : ℤ → Bool
is_zero c = unsigned_abs c == 0

-- of the first so many coefficients, how many there are up to the last that is not 0
abbrev pub taps_within : ℕ → List ℤ → ℕ
taps_within zero coefs = 0
taps_within (suc k) coefs = if is_zero (get_or coefs k (pos 0)) then taps_within k coefs else suc k

abbrev pub taps : List ℤ → ℕ
taps coefs = taps_within (length coefs) coefs

-- delays, each on the node before it, the first on the input; so node k has what the input had k cycles before
abbrev pub delays : (count : ℕ) → List Node
delays zero = []
delays (suc k) = delays k ++ Delay k ∷ []

abbrev pub tapped : Sum → Net
tapped s = record {
  inputs = (codes "x", s.input.width) ∷ [];
  nodes = Input 0 s.input.width ∷ delays (taps s.coefs - 1);
  outputs = [];
}

-- a coefficient in units of the output's last place
abbrev pub factor : Sum → ℤ → Ratio
factor s coef = record { num = coef *ℤ pos (up (sum_shift s)); den = s.den *ℤ pos (down (sum_shift s)) }

-- the width of the sum, in guard units
abbrev pub sum_width : Sum → ℕ
sum_width s = (sum_format s).width + guard_bits s

-- a net, and a heap of bits of its nodes
abbrev pub terms_in : Net → Contents → Terms
terms_in net heap = record { net = net; heap = heap }

abbrev pub no_terms : Sum → Terms
no_terms s = terms_in (tapped s) (record { width = sum_width s; constant = 0; columns = [] })

-- a coefficient's tables on its tap; a coefficient 0 has none
abbrev pub with_term : Sum → (tap : ℕ) → ℤ → Terms → Terms
with_term s tap coef before = if is_zero coef then before else with_rows (factor s coef) (guard_bits s) tap s.input.signed before

-- the terms of the first so many coefficients
abbrev pub with_terms : Sum → (count : ℕ) → Terms
with_terms s zero = no_terms s
with_terms s (suc k) = with_term s k (get_or s.coefs k (pos 0)) (with_terms s k)

-- half a unit of the output's last place, where there are guard bits below it
abbrev pub with_half : (guard : ℕ) → Contents → Contents
with_half zero heap = heap
with_half (suc k) heap = with_constant heap (pos (2 ^ k))

-- the bits of a node above the guard bits
abbrev pub above_guard : Sum → (node : ℕ) → Slice
above_guard s node = record { node = node; high = sum_width s - 1; low = guard_bits s }

abbrev pub with_output : Sum → Placed → Net
with_output s a = record a.net { outputs = a.net.outputs ++ record { name = codes "y"; from = above_guard s a.place } ∷ [] }

-- all terms and half a unit, after larger counters where they are asked for
abbrev pub counted_sum : Sum → Counting
counted_sum s = let t = with_terms s (length s.coefs) in counted_if (has_counters s.compressor) t.net (with_half (guard_bits s) t.heap)

abbrev pub net_of_sum : Sum → Net
net_of_sum s = let c = counted_sum s in with_output s (compressed c.net c.heap)
