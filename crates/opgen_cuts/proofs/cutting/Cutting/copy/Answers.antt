use Rattle.std.proofs.Common.{◌≡◌, length, sym, ◌∙◌, subst, map}
use Rattle.std.proofs.lemmas.List.{length-map, length-reverse}
use Rattle.opgen_design.specs.Value.{IsWidth}
use Rattle.opgen_net.specs.Valid.{widths}
use Rattle.opgen_net.specs.WordRule.{IsThere}
use Rattle.opgen_cuts.specs.Stands.{AreBits, CopyFollows}
use Rattle.opgen_cuts.specs.Wires.{constant_bit, constant_bits}
use Rattle.opgen_cuts.proofs.WireBits.{constant_bits-all}
use Rattle.opgen_cuts.proofs.cutting.Cutting.copy.Goals as goal

pub give-requires-clause-bits : goal.give-requires-clause-bits
give-requires-clause-bits c =
    let s = c.args.self.now in
    let w = c.in-Constant.word in
    let wide : IsWidth (length w) = subst (CopyFollows s) c.in-Constant.is c.requires.follow in
    let count : length (constant_bits w) ≡ length w = length-reverse (map constant_bit w) ∙ length-map w constant_bit in
    subst (AreBits s.net) (sym c.in_ok-bits-in-Constant.ensures)
    record { width = subst IsWidth (sym count) wide; there = constant_bits-all (IsThere (widths s.net.nodes)) tt tt w }
