use Rattle.std.proofs.Common.{◌≡◌, ◌-◌, ◌∙◌, ap, FitsSigned, rules}
use Rattle.std.specs.Int.{w32}
use Rattle.std.proofs.lemmas.Int.{to_z-of_z}
use Rattle.opgen_num.specs.Formats.{digit_count}
use Rattle.opgen_ports.specs.Ports.{unsigned}
use Rattle.opgen_ports.proofs.Bounds.{guard_is}
use Rattle.opgen_kinds.proofs.of_kind.SmallDiv.{small_rest_width}
use Rattle.opgen_kinds.proofs.small_div.SmallDiv.remainder.Goals as goal

pub returns-clause-value : goal.returns-clause-value
returns-clause-value c =
    let small = c.args.self.now in
    let fits : FitsSigned w32 small.input.lsb = search rules in
    let width : c.bit_length.result ≡ digit_count (small.divisor - 1) =
    guard_is c.into.result c.bit_length.result c.bit_length.ensures.holds c.bit_length.ensures.least ∙ ap digit_count c.into.ensures in
    (simp to_z-of_z at c.unsigned.ensures) ∙ ap (λ w. unsigned w small.input.lsb) width

pub returns-clause-few : goal.returns-clause-few
returns-clause-few c = rw (returns-clause-value c) (small_rest_width c.args.self.now c.requires).1
