use Rattle.std.proofs.Common.{List, [], ◌∷◌, sym, subst}
use Rattle.std.specs.Prelude.{All}
use Rattle.std.proofs.lemmas.List.Elements.{All-cons, All-head, All-nil, All-tail}
use Rattle.opgen_net.specs.declared.word_bits.Piece.{Piece}
use Rattle.opgen_net.specs.Valid.{widths}
use Rattle.opgen_net.specs.WordRule.{RunIsThere}
use Rattle.opgen_net.proofs.WordLaws.{runs-all_there}
use Rattle.opgen_pieces.specs.declared.operand.Run.{Run}
use Rattle.opgen_pieces.specs.Run.{RunsAreThere, net_run, net_runs}
use Rattle.opgen_pieces.proofs.operand.expression.Goals as goal

all-runs : (P : Piece → Type 0) (rs : List Run) → All P (net_runs rs) → All (λ r. P (net_run r)) rs
all-runs P [] h = All-nil (λ r. P (net_run r))
all-runs P (r ∷ rs) h =
    All-cons (λ r. P (net_run r)) r rs (All-head P (net_run r) (net_runs rs) h) (all-runs P rs (All-tail P (net_run r) (net_runs rs) h))

pub runs_expression-requires-clause-there : goal.runs_expression-requires-clause-there
runs_expression-requires-clause-there c =
    let ws = widths c.args.net.now.nodes in
    let there = RunIsThere ws in
    subst (RunsAreThere ws) (sym c.deref.ensures.value)
    (all-runs there c.in_ok-runs.runs.items
    (subst (All there) (sym c.in_ok-runs.ensures) (runs-all_there ws c.args.bits.now c.requires.there)))
