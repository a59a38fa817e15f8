use Rattle.std.proofs.Common.{◌≡◌, sym, ap, ◌∙◌, subst}
use Rattle.std.specs.Prelude.{All}
use Rattle.opgen_net.specs.declared.net.Net.{Net}
use Rattle.opgen_net.specs.Valid.{widths}
use Rattle.opgen_net.specs.WordRule.{IsThere}
use Rattle.opgen_net.specs.Placed.{with_output}
use Rattle.opgen_digits.specs.Digit.{Known}
use Rattle.opgen_digits.proofs.Results.{still_there}
use Rattle.opgen_digits.proofs.output_results.Goals as goal

pub output_bits-requires-then-exact-clause-there : goal.output_bits-requires-then-exact-clause-there
output_bits-requires-then-exact-clause-there c =
    let net = c.args.net.now in
    let digits = c.args.digits.now in
    let are = c.requires.results in
    let known : Known = record { net = net; digits = digits.known; rest = digits.rest } in
    let one : c.output_bits.new.net ≡ with_output c.args.name.now net digits.known =
    c.in_ok-output_bits.ensures.ok ∙ ap (with_output c.args.name.now net) c.as_slice.ensures in
    subst (All (IsThere (widths c.output_bits.new.net.nodes))) (sym c.as_slice-then-exact.ensures)
    (subst (λ (n : Net). All (IsThere (widths n.nodes)) digits.rest) (sym one)
    (still_there c.args.name.now known c.requires.net are.width are.digits (are.rest_width c.if-exact.true) are.rest))
