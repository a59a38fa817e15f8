use Rattle.std.proofs.Common.{◌≡◌, ℕ, ◌+◌, ◌*◌, ◌^◌, ◌<◌, ◌≤◌, length, take, sym, subst, ap, ◌∙◌, arith}
use Rattle.std.specs.List.{sum}
use Rattle.std.specs.Prelude.{All, nat_lt, if◌then◌else◌}
use Rattle.std.proofs.lemmas.Nat.{mul-lt}
use Rattle.opgen_num.proofs.RowsOfCells.{length-rows_of_cells}
use Rattle.opgen_num.specs.Words.{words_of}
use Rattle.opgen_design.specs.Run.{input_widths, output_widths, is_out}
use Rattle.opgen_lanes.specs.Steps.{IsStepIn}
use Rattle.opgen_runs.proofs.Rows.{written_back}
use Rattle.opgen_streams.proofs.Rows.{rows_kept, whole_row, whole_row_in}
use Rattle.opgen_streams.specs.Rows.{row_at, row_in, row_with_zeros}
use Rattle.opgen_streams.specs.Streams.{streams, words_in}
use Rattle.opgen_sim.proofs.PortWidths.{few_outputs, narrow_ports}
use Rattle.opgen_sim.proofs.Progress.{Progress, begun, further, finished, row_within}
use Rattle.opgen_sim.proofs.streams.run_lanes.Goals as goal

pub overflow_mul-rows : goal.overflow_mul-rows
overflow_mul-rows c =
    let wide : c.len.result < 2 ^ 32 = omega (
      arith,
      c.len.ensures,
      c.args.widths.now.outputs.ok.0,
      ap length c.requires.widths.outputs,
      few_outputs c.args.lanes.now.design c.requires.numbers,
    ) in
    omega (arith, mul-lt c.args.rows c.len.result (2 ^ 32) (2 ^ 32) (omega (arith, c.ranges.rows.fits)) wide)

pub steps-init : goal.steps-init
steps-init c =
    let d = c.args.lanes.now.design in
    let widths = c.args.widths.now in
    let wide : c.len.result ≡ length (output_widths d)
    = omega (arith, c.len.ensures, widths.outputs.ok.0, ap length c.requires.widths.outputs) in
    record {
      same = c.requires.new.design;
      ins = c.in_ok-inputs.ensures ∙ ap sum (c.deref.ensures.value ∙ c.requires.widths.inputs);
      outs = c.in_ok-outputs.ensures ∙ ap sum (c.deref-2.ensures.value ∙ c.requires.widths.outputs);
      room = omega (arith, c.in_ok-results.ensures.len, c.in_ok-results.results.ok.0, ap (λ n. c.args.rows * n) wide);
      run = begun d c.requires.sound c.args.rows c.args.depth c.rows_apart-apart.result c.args.cells.now c.args.lanes.now
          c.in_ok-results.results.items c.requires.depth.has (length-rows_of_cells (input_widths d) c.args.cells.now c.args.rows c.requires.rows) c.requires.new;
    }

pub unpack_apart-requires-clause-narrow : goal.unpack_apart-requires-clause-narrow
unpack_apart-requires-clause-narrow c =
    let narrow = narrow_ports is_out c.args.lanes.now.design c.requires.sound in
    subst (λ ws. All (λ width. width ≤ 128) ws) (sym (c.deref-in-steps-4.ensures.value ∙ c.requires.widths.outputs))
    (λ k w lt. omega (arith, narrow k w lt))

pub steps-preserved : goal.steps-preserved
steps-preserved c =
    let d = c.args.lanes.now.design in
    let rows = c.args.rows in
    let cells = c.args.cells.now in
    let row = c.steps.row in
    let apart = c.rows_apart-apart.result in
    let now = c.steps.invariant in
    let held = c.steps.lanes.held in
    let next = c.step.new.self.held in
    let results = c.steps.results.items in
    let packed = c.pack_apart.new.lanes in
    let stepped = c.step.new.outputs in
    let new = c.unpack_apart.new.cells in
    let ins : length packed ≡ length c.steps.inputs.items = c.pack_apart.ensures.length ∙ ap length c.deref_mut.ensures.value in
    let outs : length stepped ≡ length c.steps.outputs.items = c.step.ensures.length ∙ ap length c.deref_mut-in-steps.ensures.value in
    let olds : c.deref_mut-in-steps-2.result.now ≡ results = c.deref_mut-in-steps-2.ensures.value in
    let news : length new ≡ length results = c.unpack_apart.ensures.length ∙ ap length olds in
    let in_back = written_back c.steps.inputs.len packed c.steps.inputs.items (omega (arith, c.steps.inputs.ok.0)) ins in
    let out_back = written_back c.steps.outputs.len stepped c.steps.outputs.items (omega (arith, c.steps.outputs.ok.0)) outs in
    let new_back = written_back c.steps.results.len new results (omega (arith, c.steps.results.ok.0)) news in
    let inputs : c.deref-in-steps-2.result.now ≡ packed = c.deref-in-steps-2.ensures.value ∙ in_back in
    let outputs : c.deref-in-steps-3.result.now ≡ stepped = c.deref-in-steps-3.ensures.value ∙ out_back in
    let in_widths : c.deref-in-steps.result.now ≡ input_widths d = c.deref-in-steps.ensures.value ∙ c.requires.widths.inputs in
    let out_widths : c.deref-in-steps-4.result.now ≡ output_widths d = c.deref-in-steps-4.ensures.value ∙ c.requires.widths.outputs in
    let count = c.streams_at-count.ensures in
    let len = length-rows_of_cells (input_widths d) cells rows c.requires.rows in
    let n = length (input_widths d) in
    let m = length (output_widths d) in
    let given : (k : ℕ) → k < streams → row + k * apart < rows
    → words_in (input_widths d) packed k ≡ words_of (input_widths d) (row_at n (row + k * apart) cells)
    = λ k few l. ap (λ ws. words_in ws packed k) (sym in_widths) ∙ c.pack_apart.ensures.rows k few
    ∙ ap (λ ws. words_of ws (row_with_zeros (length ws) (row + k * apart) cells)) in_widths
    ∙ ap (words_of (input_widths d)) (whole_row n (row + k * apart) cells (row_within n rows (row + k * apart) cells len l)) in
    let steps : (k : ℕ) → k < streams → IsStepIn k d held packed next stepped
    = λ k few. subst (λ is. IsStepIn k d held is next stepped) inputs
    (subst (λ x. IsStepIn k x held c.deref-in-steps-2.result.now next stepped) now.same (c.step.ensures.steps k few)) in
    let written : (k : ℕ) → k < (if nat_lt row c.args.depth then 1 else streams) → row + k * apart < rows
    → row_at m (row + k * apart) new ≡ row_in (output_widths d) stepped k
    = λ k few l.
    let t = row + k * apart in
    ap (λ ws. row_at (length ws) t new) (sym out_widths)
    ∙ c.unpack_apart.ensures.put k (subst (λ n. k < n) (sym count) few)
    ∙ ap (λ ws. take (length (row_at (length ws) t c.deref_mut-in-steps-2.result.now)) (row_in ws c.deref-in-steps-3.result.now k)) out_widths
    ∙ ap (λ xs. take (length (row_at m t xs)) (row_in (output_widths d) c.deref-in-steps-3.result.now k)) olds
    ∙ ap (λ ls. take (length (row_at m t results)) (row_in (output_widths d) ls k)) outputs
    ∙ whole_row_in (output_widths d) stepped k t results (row_within m rows t results now.room l) in
    let kept : (t : ℕ) → ((k : ℕ) → k < (if nat_lt row c.args.depth then 1 else streams) → ¬ t ≡ row + k * apart)
    → row_at m t new ≡ row_at m t results
    = λ t none.
    ap (λ ws. row_at (length ws) t new) (sym out_widths)
    ∙ rows_kept _ _ row apart c.deref_mut-in-steps-2.result.now new c.unpack_apart.ensures.length c.unpack_apart.ensures.kept t
    (λ k few. none k (subst (λ n. k < n) count few))
    ∙ ap (λ ws. row_at (length ws) t c.deref_mut-in-steps-2.result.now) out_widths
    ∙ ap (row_at m t) olds in
    record {
      same = c.step.ensures.design ∙ now.same;
      ins = ap length in_back ∙ ins ∙ now.ins;
      outs = ap length out_back ∙ outs ∙ now.outs;
      room = ap length new_back ∙ news ∙ now.room;
      run = subst (Progress d rows c.args.depth apart (row + 1) cells next) (sym new_back)
          (further d c.requires.sound rows c.args.depth apart row cells held packed next stepped results new (omega (arith, c.steps-test.true)) now.run
          given steps written kept);
    }

pub returns : goal.returns
returns c =
    finished c.args.lanes.now.design c.args.rows c.args.depth c.rows_apart-apart.result c.steps.row c.args.cells.now c.steps.lanes.held c.steps.results.items
    c.steps.invariant.run c.rows_apart-apart.ensures.some c.rows_apart-apart.ensures.all (omega (arith, c.steps-test.false)) c.steps.invariant.room
