-- In the run of a circuit over rows each row that `check` judges is good, and that is its answer.
use Rattle.std.proofs.Common.{◌≡◌, inr, ℕ, ◌+◌, ◌-◌, ◌≤◌, Bool, false, List, [], length, map, Option, Some, None, Ok, refl, sym, ap, ◌∙◌, subst, arith, length-append}
use Rattle.std.specs.Prelude.{slice_get}
use Rattle.std.specs.Str.Lines.{lines}
use Rattle.std.proofs.lemmas.List.{length-map}
use Rattle.opgen_num.specs.Words.{AreRowsOfCells}
use Rattle.opgen_check.specs.declared.checked.Checked.TheVariants.{Good}
use Rattle.opgen_check.specs.Ports.{PortsAgree}
use Rattle.opgen_check.specs.Verdict.{IsGoodAt, IsJudged, rows_up_to}
use Rattle.opgen_design.specs.declared.design.Design.{Design}
use Rattle.opgen_design.specs.declared.design.Dir.TheVariants.{In, Out}
use Rattle.opgen_design.specs.Run.{input_widths, words_at_outputs}
use Rattle.opgen_design.proofs.NameWalk.{some-item}
use Rattle.opgen_operator.specs.declared.spec.Spec.{Spec}
use Rattle.opgen_operator.specs.Outputs.{port_of, IsGood, IsInRange, chosen, chosen_ports, inputs_of, outputs_of, output_words}
use Rattle.opgen_operator.specs.Operator.{operator_outputs}
use Rattle.opgen_operator.specs.Valid.{IsValidSpec}
use Rattle.opgen_operator.proofs.Operators.{some_input}
use Rattle.opgen_pipe.specs.declared.planning.Planned.{Planned}
use Rattle.opgen_pipe.proofs.Parts.{length-signals}
use Rattle.opgen_ports.specs.declared.ports.PortFormat.{PortFormat}
use Rattle.opgen_ports.specs.Ports.{recent_numbers, port}
use Rattle.opgen_read.specs.Answer.{IsWithinLimits}
use Rattle.opgen_runs.specs.Rows.{IsRunOf, rows_words}
use Rattle.opgen_schedule.specs.Stage.{slot_at}
use Rattle.opgen_target.specs.Delays.{Delays}
use Rattle.opgen_top.specs.declared.line.Line.TheVariants as printed
use Rattle.opgen_top.specs.Answer.{Answer, success}
use Rattle.opgen_top.specs.Check.{IsAnswerToVhdl, IsVerdictOnVhdl}
use Rattle.opgen_top.specs.Circuit.{CircuitsServe, IsCircuit, signals_of, slots_for}
use Rattle.opgen_operator.specs.Serves.{Serves}
use Rattle.opgen_top.specs.Simulate.{GivesDesign}
use Rattle.opgen_top.proofs.Planning.{circuit_sound, circuit_spells}
use Rattle.opgen_vec.specs.Reading.{IsReading}
use Rattle.opgen_vec.proofs.Rows.{rows-of_cells}
use Rattle.opgen_vhdl.specs.DesignText.{text_of}
use Rattle.opgen_laws.specs.Circuits.{CircuitsCheckGood}
use Rattle.opgen_laws.proofs.ByKind.{few_ports}
use Rattle.opgen_laws.proofs.CheckedRows.{ports_agree, recent_row, run_rows, shown_row}
use Rattle.opgen_laws.proofs.OneChecked.{one_to_vhdl}
use Rattle.opgen_laws.proofs.SomeRun.{some_run}

module _ (spec : Spec) (some : 1 ≤ length (inputs_of spec)) (latency : ℕ) (d : Design) (serves : Serves spec latency false d) where
  agree : PortsAgree spec d
  agree = ports_agree spec d serves.ports

  module _ (rows : ℕ) (cells outputs : List ℕ) (are : AreRowsOfCells (input_widths d) rows cells) (run : IsRunOf d rows cells outputs) where
    pub good_row : (row : ℕ) → IsJudged latency rows row → IsGoodAt spec latency cells outputs row
    good_row row judged =
        let from = judged.from in
        let before = judged.there in
        let t = row - latency in
        let inputs = rows_words (input_widths d) rows cells in
        let count = run_rows spec some d agree rows cells outputs are run in
        let (v, at) = some-item run.words row (omega (arith, count, before)) in
        let place : t + latency ≡ row = omega (arith, from) in
        let good = serves.good inputs run.words run.runs t v (ap (slice_get run.words) place ∙ at) in
        let recent = recent_row spec some d agree rows cells outputs are run t (omega (arith, before)) in
        let shown = shown_row spec some d agree rows cells outputs are run row v at in
        λ ranged. subst (IsGood spec (recent_numbers (inputs_of spec) (rows_up_to (length (inputs_of spec)) t cells))) shown
        (subst (λ h. IsGood spec h (output_words (outputs_of spec) (words_at_outputs d v))) recent
        (good (subst (IsInRange spec) (sym recent) ranged)))

-- ---- the text of a circuit gives its design

-- a chosen width leaves the number of ports
chosen_length : (width : Option ℕ) (sign : Option Bool) (ports : List PortFormat) → length (chosen_ports width sign ports) ≡ length ports
chosen_length None sign ports = refl
chosen_length (Some width) sign ports = length-map ports (λ (p : PortFormat). port p.name (chosen width sign p.format))

module _ (spec : Spec) (valid : IsValidSpec spec) (table : Delays) (planned : Planned) (adders : List ℕ)
    (circuit : IsCircuit spec table false planned adders) (serves : Serves spec planned.latency false planned.design) where
  abbrev d : Design
  d = planned.design

  within : IsWithinLimits d
  within =
      let few = few_ports spec.op valid.op.ranges in
      let is = map (port_of In) (inputs_of spec) in
      let os = map (port_of Out) (outputs_of spec) in
      record {
        signals =
            let count : length d.signals ≡ signals_of spec table circuit.net =
            ap (λ x. length x.signals) circuit.plan.design ∙ length-signals circuit.net (slot_at (slots_for spec table circuit.net)) in
            omega (arith, count, circuit.few_signals);
        ports = omega (
          arith,
          few,
          chosen_length spec.out_width spec.out_signed (operator_outputs spec.op),
          ap length serves.ports,
          length-append is os,
          length-map (inputs_of spec) (port_of In),
          length-map (outputs_of spec) (port_of Out),
        );
      }

  gives : GivesDesign (text_of d) d
  gives = record {
    spelled = circuit_spells spec valid table false planned adders circuit;
    within = within;
    sound = circuit_sound spec valid table false planned adders circuit;
  }

  module _ (vectors cells : List ℕ) (reads : IsReading (input_widths d) (lines vectors) (Ok cells)) where
    abbrev rows : ℕ
    rows = length (lines vectors)

    are : AreRowsOfCells (input_widths d) rows cells
    are = rows-of_cells (input_widths d) cells (lines vectors) reads.rows

    verdict : IsVerdictOnVhdl spec planned.latency (text_of d) vectors (Good (rows - planned.latency))
    verdict =
        let run = some_run d gives.sound rows cells are in
        record {
          design = d;
          cells = cells;
          rows = record { gives = gives; reads = reads };
          agree = ports_agree spec d serves.ports;
          verdict = record {
            outputs = run.0;
            run = run.1;
            verdict = record {
              good = λ row judged. good_row spec (some_input spec.op valid.op.ranges) planned.latency d serves rows cells run.0 are run.1 row judged;
              counted = refl;
            };
          };
        }

    pub answer : (a : Answer) → IsAnswerToVhdl spec planned.latency (text_of d) vectors a
        → a ≡ success (printed.Good (rows - planned.latency)) []
    answer a is =
        one_to_vhdl spec planned.latency (text_of d) vectors a (success (printed.Good (rows - planned.latency)) []) is
        (inr (inr (inr (inr record { judged = rows - planned.latency; verdict = verdict; answer = refl }))))

-- where every circuit serves, every circuit is checked good
pub circuits_good : CircuitsServe → CircuitsCheckGood
circuits_good serve spec valid table planned adders circuit vectors cells reads a is =
    answer spec valid table planned adders circuit (serve spec valid table false planned adders circuit) vectors cells reads a is
