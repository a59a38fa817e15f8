-- The numbers of a design with one input and one output.
use Rattle.std.proofs.Common.{◌≡◌, ℕ, zero, suc, ◌*◌, ◌^◌, ◌<◌, ◌-◌, Bool, false, List, [], ◌∷◌, length, map, refl, sym, ap, ◌∙◌, subst, arith}
use Rattle.std.specs.Prelude.{All}
use Rattle.std.specs.List.{concat}
use Rattle.std.proofs.lemmas.List.Elements.{All-nil, All-cons, All-append}
use Rattle.opgen_num.proofs.RowsOfCells.{length-rows_of_cells}
use Rattle.opgen_num.specs.Words.{nat, AreRowsOfCells}
use Rattle.opgen_num.proofs.Words.{nat-below}
use Rattle.opgen_design.specs.declared.design.Design.{Design}
use Rattle.opgen_design.specs.Run.{Cycle, RunsOn, Words, at_ports, input_widths, output_widths, is_in, is_out}
use Rattle.opgen_design.specs.Run.{words_at_outputs}
use Rattle.opgen_operator.specs.declared.spec.Spec.{Spec}
use Rattle.opgen_operator.specs.Outputs.{inputs_of, outputs_of}
use Rattle.opgen_ports.specs.Ports.{format_at}
use Rattle.opgen_vec.specs.Stimulus.{stimulus_cells}
use Rattle.opgen_workload.specs.Filter.{workload_spec, workload_sum}
use Rattle.opgen_workload.specs.Judged.{Counts, IsFilter, IsGoodCycle}
use Rattle.opgen_operator.specs.Serves.{ports_for}
use Rattle.opgen_runs.specs.Rows.{IsRunOf, output_cells}
use Rattle.opgen_top.specs.Workload.{RunsGood, cycles, workload_cells}
use Rattle.opgen_sim.proofs.PortWidths.{widths_on}
use Rattle.opgen_top.proofs.RunRows.{length-run}
use Rattle.opgen_top.proofs.ServedPorts.{served_widths}
use Rattle.opgen_runs.proofs.Rows.{at_ports-map}

abbrev IsBelow : (width : ℕ) → ℕ → Type 0
IsBelow width n = n < 2 ^ width

-- rows of one cell
pub cells_below : (width rows : ℕ) (cells : List ℕ) → AreRowsOfCells (width ∷ []) rows cells → All (λ n. n < 2 ^ width) cells
cells_below width zero cells none = subst (All (IsBelow width)) (sym none) (All-nil (IsBelow width))
cells_below width (suc rows) [] are = absurd are.0
cells_below width (suc rows) (c ∷ cells) are = All-cons (IsBelow width) c cells are.0.0 (cells_below width rows cells are.1)

one_below : (width : ℕ) (ws : List (List Bool)) → map length ws ≡ width ∷ [] → All (IsBelow width) (map nat ws)
one_below width [] e = absurd (cc)
one_below width (w ∷ []) e =
    let long : length w ≡ width = cc in
    All-cons (IsBelow width) (nat w) [] (subst (λ k. nat w < 2 ^ k) long (nat-below w)) (All-nil (IsBelow width))
one_below width (w ∷ x ∷ ws) e = absurd (cc)

module _ (d : Design) (width : ℕ) (one : output_widths d ≡ width ∷ []) where
  cycle_below : (now given next : List (List Bool)) (v : Words) → Cycle d now given v next → All (IsBelow width) (output_cells d v)
  cycle_below now given next v c = one_below width (words_at_outputs d v) (at_ports-map length is_out d.ports v.ports
      ∙ ap (at_ports is_out d.ports) c.port_widths ∙ one)

  run_below : (now : List (List Bool)) (inputs : List (List (List Bool))) (vs : List Words) → RunsOn d now inputs vs
      → All (IsBelow width) (concat (map (output_cells d) vs))
  run_below now [] [] r = All-nil (IsBelow width)
  run_below now [] (v ∷ vs) r = absurd r
  run_below now (given ∷ inputs) [] r = absurd r
  run_below now (given ∷ inputs) (v ∷ vs) (next, c, r) =
      All-append (IsBelow width) (output_cells d v) (concat (map (output_cells d) vs)) (cycle_below now given next v c)
      (run_below next inputs vs r)

  pub outputs_below : (rows : ℕ) (inputs outputs : List ℕ) → IsRunOf d rows inputs outputs → All (λ n. n < 2 ^ width) outputs
  outputs_below rows inputs outputs run = subst (All (IsBelow width)) (sym run.outputs_are) (run_below _ _ run.words run.runs)

-- a design with the ports of the filter of a number
module _ (n : ℕ) (spec : Spec) (filter : spec ≡ workload_spec n) (d : Design) (ports : d.ports ≡ ports_for spec false) where
  filter_ports : d.ports ≡ ports_for (workload_spec n) false
  filter_ports = ports ∙ ap (λ s. ports_for s false) filter

  pub one_in : input_widths d ≡ 12 ∷ []
  one_in = ap (widths_on is_in) filter_ports

  pub one_out : output_widths d ≡ (format_at (outputs_of (workload_spec n)) 0).width ∷ []
  one_out = ap (widths_on is_out) filter_ports

  pub is_filter : IsFilter spec.op
  is_filter = subst (λ (s : Spec). IsFilter s.op) (sym filter) (workload_sum n, refl)

  module _ (rows : ℕ) (cells : List ℕ) (fit : AreRowsOfCells (map (λ port. port.format.width) (inputs_of spec)) rows cells) where
    pub rows_fit : AreRowsOfCells (input_widths d) rows cells
    rows_fit = subst (λ ws. AreRowsOfCells ws rows cells) (sym (served_widths spec d ports)) fit

    pub inputs_fit : All (λ x. x < 2 ^ (format_at (inputs_of spec) 0).width) cells
    inputs_fit =
        subst (λ (s : Spec). All (λ x. x < 2 ^ (format_at (inputs_of s) 0).width) cells) (sym filter)
        (cells_below 12 rows cells
        (subst (λ (s : Spec). AreRowsOfCells (map (λ port. port.format.width) (inputs_of s)) rows cells) filter fit))

    pub cells-length : length cells ≡ rows
    cells-length = length-rows_of_cells (input_widths d) cells rows rows_fit ∙ (ap (λ ws. rows * length ws) one_in ∙ omega arith)

    module _ (outputs : List ℕ) (run : IsRunOf d rows cells outputs) where
      pub outputs_fit : All (λ y. y < 2 ^ (format_at (outputs_of spec) 0).width) outputs
      outputs_fit =
          subst (λ (s : Spec). All (λ y. y < 2 ^ (format_at (outputs_of s) 0).width) outputs) (sym filter)
          (outputs_below d (format_at (outputs_of (workload_spec n)) 0).width one_out rows cells outputs run)

      pub outputs-length : length outputs ≡ rows
      outputs-length = length-run d rows cells outputs run ∙ (ap (λ ws. rows * length ws) one_out ∙ omega arith)

-- the good cycles of a run over the numbers of the filter
pub runs_good : (n : ℕ) (spec : Spec) → spec ≡ workload_spec n → (d : Design) (latency : ℕ) (cells outputs : List ℕ) (good : ℕ)
    → cells ≡ stimulus_cells spec n cycles
    → IsRunOf d cycles cells outputs → length outputs ≡ cycles
    → Counts (IsGoodCycle spec cells outputs latency) (length outputs - latency) good → RunsGood n d latency good
runs_good n spec filter d latency cells outputs good drawn run long counted =
    let given : cells ≡ workload_cells n = drawn ∙ ap (λ s. stimulus_cells s n cycles) filter in record {
      outputs = outputs;
      run = subst (λ cs. IsRunOf d cycles cs outputs) given run;
      counted =
          subst (λ (s : Spec). Counts (IsGoodCycle s (workload_cells n) outputs latency) (cycles - latency) good) filter
          (subst (λ cs. Counts (IsGoodCycle spec cs outputs latency) (cycles - latency) good) given
          (subst (λ k. Counts (IsGoodCycle spec cells outputs latency) (k - latency) good) long counted));
    }
