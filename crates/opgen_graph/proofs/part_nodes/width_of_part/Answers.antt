use Rattle.std.proofs.Common.{◌≡◌, ◌+◌, ◌∷◌, [], FitsSigned, ap, rules, arith}
use Rattle.std.specs.Int.{w32}
use Rattle.std.specs.Prelude.{pos}
use Rattle.std.proofs.lemmas.Int.{to_z-of_z}
use Rattle.opgen_num.specs.declared.format.Format.{Format}
use Rattle.opgen_num.proofs.BitLength.{power_order}
use Rattle.opgen_kinds.specs.Several.{constant_format}
use Rattle.opgen_kinds.proofs.of_kind.Several.{multiple_width}
use Rattle.opgen_ports.specs.Reaches.{reach_over}
use Rattle.opgen_ports.proofs.Widths.{some_width}
use Rattle.opgen_graph.proofs.SmallNumbers.{word_of}
use Rattle.opgen_graph.proofs.part_nodes.width_of_part.Goals as goal

pub covering-requires-clause-below : goal.covering-requires-clause-below
covering-requires-clause-below c =
    omega (arith, c.reach_over.ensures.below, power_order (c.args.input.width + 39) 120 (omega (arith, c.requires.input.most)))

pub covering-requires-clause-above : goal.covering-requires-clause-above
covering-requires-clause-above c =
    omega (arith, c.reach_over.ensures.above, power_order (c.args.input.width + 39) 120 (omega (arith, c.requires.input.most)))

pub returns-clause-value : goal.returns-clause-value
returns-clause-value c =
    let input = c.args.input in
    let fits_lsb : FitsSigned w32 input.lsb = search rules in
    let part = word_of c.args.part c.from.result c.requires.small c.from.ensures in
    let reach : c.reach_over.result ≡ reach_over input (pos c.args.part ∷ []) = rw part at c.reach_over.ensures.value in
    let same : c.covering.result ≡ constant_format input (pos c.args.part) = rw reach at simp to_z-of_z at c.covering.ensures in
    ap (λ (f : Format). f.width) same

pub returns-clause-wide : goal.returns-clause-wide
returns-clause-wide c =
    let input = c.args.input in
    let fits_lsb : FitsSigned w32 input.lsb = search rules in
    let part = word_of c.args.part c.from.result c.requires.small c.from.ensures in
    let reach : c.reach_over.result ≡ reach_over input (pos c.args.part ∷ []) = rw part at c.reach_over.ensures.value in
    let same : c.covering.result ≡ constant_format input (pos c.args.part) = rw reach at simp to_z-of_z at c.covering.ensures in
    rw same (
      some_width (reach_over input (pos c.args.part ∷ [])),
      omega (arith, multiple_width input (pos c.args.part) c.requires.small, c.requires.input.most),
    )
