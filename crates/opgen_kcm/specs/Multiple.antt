-- What the tables of a coefficient add: a multiple of the input, with an error of at most half a unit for each chunk.
use Rattle.std.specs.Prelude.{All, ℕ, ◌≡◌, ◌*◌, ◌^◌, ◌≤◌, ℤ, pos, ◌+ℤ◌, ◌*ℤ◌, unsigned_abs}
use Rattle.opgen_design.specs.Run.{AreWords}
use Rattle.opgen_num.specs.declared.format.Ratio.{Ratio}
use Rattle.opgen_num.specs.Rounding.{distance}
use Rattle.opgen_heap.specs.Adding.{residue}
use Rattle.opgen_heap.specs.Standing.{AllThere}
use Rattle.opgen_heap.specs.Sum.{heap_sum}
use Rattle.opgen_net.specs.Flow.{Inputs, flow}
use Rattle.opgen_net.specs.Valid.{input_widths}
use Rattle.opgen_kcm.specs.Recipe.{Terms}

-- A number that is x times a fraction, in guard units, but for half a unit for each chunk; and x times it where it is whole and
-- has no guard bits.
pub record IsMultiple (q : Ratio) (guard chunks : ℕ) (x e : ℤ) : Type 0 where
  pub near : 2 * distance (q.den *ℤ e) ((x *ℤ q.num) *ℤ pos (2 ^ guard)) ≤ chunks * unsigned_abs q.den
  pub whole : guard ≡ 0 → (factor : ℤ) → factor *ℤ q.den ≡ q.num → e ≡ x *ℤ factor

-- a sum that has grown by such a number, modulo 2 to a width
pub record HasRisen (q : Ratio) (guard chunks : ℕ) (x : ℤ) (width before after : ℕ) : Type 0 where
  pub by : ℤ
  pub multiple : IsMultiple q guard chunks x by
  pub sum : after ≡ residue (pos before +ℤ by) (2 ^ width)

-- the heap's sum over the words of the net's nodes at a time
abbrev pub sum_at : Terms → Inputs → ℤ → ℕ
sum_at s inputs t = heap_sum (λ n. flow s.net.nodes inputs n t) s.heap

-- where the heap's bits stand in the net, the sums before and after are so, whatever words of their widths the inputs are and at each time
abbrev pub SumsHave : (old new : Terms) → (so : Inputs → ℤ → (before after : ℕ) → Type 0) → Type 0
SumsHave old new so =
    AllThere old.net old.heap.columns → (inputs : Inputs) (t : ℤ) → All (AreWords (input_widths old.net)) inputs
    → so inputs t (sum_at old inputs t) (sum_at new inputs t)
