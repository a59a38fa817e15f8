use Rattle.std.proofs.Common.{◌≡◌, ap, ◌∙◌, arith, rules}
use Rattle.std.specs.Prelude.{slice_index}
use Rattle.opgen_net.specs.declared.net.Net.{Net}
use Rattle.opgen_net.specs.Valid.{widths}
use Rattle.opgen_net.specs.WordRule.{with_word}
use Rattle.opgen_net.proofs.Grown.{grown-width}
use Rattle.opgen_net.proofs.Later.{node_there, word-grown}
use Rattle.opgen_constdiv.proofs.digits.output_results.Goals as goal

pub output-requires-then-exact-clause-lies : goal.output-requires-then-exact-clause-lies
output-requires-then-exact-clause-lies c =
    let net = c.args.net.now in
    let bits = c.lowest-bits.result.now in
    let table = c.args.division.now.table in
    let made : Net = record net { nodes = (with_word net.nodes bits).nodes } in
    let nodes : c.output.new.self.nodes ≡ made.nodes = search rules in
    let wide : slice_index (widths c.output.new.self.nodes) table ≡ 6 =
    ap (λ ns. slice_index (widths ns) table) nodes
    ∙ grown-width net made (word-grown net bits) table (node_there net table 6 (omega arith) c.requires.table)
    ∙ c.requires.table in
    (omega arith, omega (arith, wide, c.rest_width.ensures.few))
