-- Before cycle 0 an input is zero, and so is each multiple of it.
use Rattle.std.proofs.Common.{◌≡◌, ℕ, ap, ◌∙◌, arith}
use Rattle.std.specs.Prelude.{pos, negsuc, ◌*ℤ◌}
use Rattle.std.proofs.lemmas.Int.{ints}
use Rattle.opgen_num.specs.Words.{val}
use Rattle.opgen_num.proofs.Values.{val-zeros}
use Rattle.opgen_net.proofs.Grown.{grown-flow}
use Rattle.opgen_graph.specs.Recipe.{with_input}
use Rattle.opgen_graph.specs.Resting.{MultiplesRest}

nothing : (f : ℕ) → pos 0 *ℤ pos f ≡ pos 0
nothing f = omega (arith, ints)

pub multiples_rest : MultiplesRest
multiples_rest input net m grown is inputs t words =
    is.product inputs (negsuc t) words
    ∙ ap (λ w. val w input *ℤ pos m.factor) (grown-flow (with_input input) net grown inputs 0 (negsuc t) (omega arith))
    ∙ ap (λ z. z *ℤ pos m.factor) (val-zeros input input.width)
    ∙ nothing m.factor
