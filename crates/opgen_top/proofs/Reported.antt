-- A report has the line of its latency.
use Rattle.std.proofs.Common.{◌≡◌, ℕ, List, ◌++◌, length, refl, sym, ap, ◌∙◌}
use Rattle.std.specs.Prelude.{codes}
use Rattle.std.specs.Fmt.{decimal}
use Rattle.std.specs.List.{flat_map}
use Rattle.std.proofs.lemmas.List.{append_assoc}
use Rattle.opgen_operator.specs.declared.spec.Spec.{Spec}
use Rattle.opgen_operator.specs.Operator.{kind}
use Rattle.opgen_operator.specs.Outputs.{inputs_of, outputs_of}
use Rattle.opgen_operator.specs.Operator.{kind_name}
use Rattle.opgen_pipe.specs.declared.planning.Planned.{Planned}
use Rattle.opgen_report.specs.Report.{mode_word, request_text, time_text, port_line, cells_line, graph_line, report}
use Rattle.opgen_top.specs.Lines.{HasLine, latency_line}

-- a text begins with another
record Begins (front text : List ℕ) : Type 0 where
  rest : List ℕ
  is : text ≡ front ++ rest

begins_on : (front text more : List ℕ) → Begins front text → Begins front (text ++ more)
begins_on front text more b = record { rest = b.rest ++ more; is = ap (λ x. x ++ more) b.is ∙ append_assoc front b.rest more }

-- the request without the end of its last line
abbrev request_front : Spec → List ℕ
request_front spec =
    codes "operator " ++ spec.name ++ codes "\n"
    ++ codes "kind " ++ kind_name (kind spec.op) ++ codes "\n"
    ++ codes "mode " ++ mode_word spec.exact ++ codes "\n"
    ++ codes "target " ++ spec.target ++ codes "\n"
    ++ codes "period " ++ decimal spec.period

request_ends : (spec : Spec) → request_text spec ≡ request_front spec ++ codes "\n"
unfolding request_text
request_ends spec = refl

-- a line behind a text, and the line of the slack behind it
two_lines : (before line slack : List ℕ) → before ++ (line ++ codes "\nslack " ++ slack ++ codes "\n")
    ≡ before ++ line ++ codes "\n" ++ (codes "slack " ++ slack ++ codes "\n")
two_lines before line slack =
    let end : List ℕ = codes "\n" in
    let last : List ℕ = codes "slack " ++ slack ++ end in
    ap (λ x. before ++ x) (append_assoc (line ++ codes "\nslack ") slack end ∙ append_assoc line (codes "\nslack ") (slack ++ end))
    ∙ sym (append_assoc (before ++ line) end last ∙ append_assoc before line (end ++ last))

times_begin : (before : List ℕ) (latency slack : ℕ)
    → Begins (before ++ latency_line latency ++ codes "\n") (before ++ time_text latency slack)
unfolding time_text
times_begin before latency slack = record {
  rest = codes "slack " ++ decimal slack ++ codes "\n";
  is = two_lines before (latency_line latency) (decimal slack);
}

report_begins : (spec : Spec) (planned : Planned) (set : List ℕ)
    → Begins (request_text spec ++ latency_line planned.latency ++ codes "\n") (report spec planned set)
unfolding report
report_begins spec planned set =
    let front : List ℕ = request_text spec ++ latency_line planned.latency ++ codes "\n" in
    begins_on front _ (graph_line spec.op set) (begins_on front _ (codes "\n")
    (begins_on front _ (decimal (length planned.design.signals)) (begins_on front _ (codes "signals ")
    (begins_on front _ (cells_line planned.cells) (begins_on front _ (flat_map (port_line (codes "output")) (outputs_of spec))
    (begins_on front _ (flat_map (port_line (codes "input")) (inputs_of spec))
    (times_begin (request_text spec) planned.latency planned.slack)))))))

pub report-has_latency : (spec : Spec) (planned : Planned) (set : List ℕ)
    → HasLine (report spec planned set) (latency_line planned.latency)
report-has_latency spec planned set =
    let b = report_begins spec planned set in record {
      before = request_front spec;
      after = b.rest;
      is = b.is ∙ ap (λ x. x ++ latency_line planned.latency ++ codes "\n" ++ b.rest) (request_ends spec);
    }
