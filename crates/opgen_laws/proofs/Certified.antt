-- Judged rows that are good and hold each word of the inputs show that a design serves, if its outputs show one row each.
use Rattle.std.proofs.Common.{◌≡◌, ℕ, zero, suc, ◌+◌, ◌-◌, ◌<◌, ◌≤◌, Bool, false, List, [], ◌∷◌, length, Option, None, Some, sym, ap, ◌∙◌, subst, arith}
use Rattle.std.specs.Prelude.{ℤ, pos, ◌-ℤ◌, slice_get}
use Rattle.std.proofs.lemmas.Int.{ints}
use Rattle.std.proofs.lemmas.List.Elements.{All-contains}
use Rattle.std.proofs.lemmas.Option.{slice_get_within}
use Rattle.opgen_check.specs.declared.checked.Checked.TheVariants.{Good}
use Rattle.opgen_check.specs.Verdict.{IsChecked, row_of, rows_up_to}
use Rattle.opgen_design.specs.declared.design.Design.{Design}
use Rattle.opgen_design.specs.Run.{AreWords, Run, Words, initial_words, input_widths, words_at_outputs}
use Rattle.opgen_design.specs.Value.{word_at}
use Rattle.opgen_design.proofs.NameWalk.{some-item}
use Rattle.opgen_design.proofs.SoundLaws.{at-contains}
use Rattle.opgen_net.specs.Flow.{Inputs, input_at, input_from}
use Rattle.opgen_operator.specs.declared.spec.Spec.{Spec}
use Rattle.opgen_operator.specs.Operator.{divisor, memory}
use Rattle.opgen_operator.specs.Outputs.{IsGood, IsInRange, inputs_of, output_words, outputs_of, recent_words}
use Rattle.opgen_operator.specs.Serves.{IsGoodAt, Serves, ports_for}
use Rattle.opgen_operator.specs.Valid.{IsValidSpec}
use Rattle.opgen_operator.proofs.Operators.{some_input}
use Rattle.opgen_ports.specs.declared.ports.PortFormat.{PortFormat}
use Rattle.opgen_ports.specs.Meaning.{IsNonzeroAt}
use Rattle.opgen_ports.specs.Ports.{Recent, format_at, output_numbers, recent_numbers}
use Rattle.opgen_num.specs.Words.{val}
use Rattle.opgen_runs.specs.Rows.{rows_words}
use Rattle.opgen_runs.proofs.HasRun.{a-run}
use Rattle.opgen_top.proofs.Taken.{run_long, run_words}
use Rattle.opgen_part_laws.specs.Aligned.{OutputsShowOneRow}
use Rattle.opgen_laws.specs.Certificates.{HoldEachWord, ShowsOneRow, GoodRowsServe}
use Rattle.opgen_laws.proofs.Recalling.{good_outputs_recall}
use Rattle.opgen_laws.proofs.CheckedRows.{ports_agree, recent_row, run_rows, shown_row}

-- ---- the inputs of one cycle
input_row : (inputs : Inputs) (t port w : ℕ) (given : List (List Bool)) → slice_get inputs t ≡ Some given
    → input_from inputs t port w ≡ word_at given port
input_row [] t port w given at = absurd (cc)
input_row (words ∷ later) zero port w given at = let same : words ≡ given = cc in ap (λ ws. word_at ws port) same
input_row (words ∷ later) (suc t) port w given at = input_row later t port w given at

last_input : (ports : List PortFormat) (inputs : Inputs) (t : ℕ) (given : List (List Bool)) → slice_get inputs t ≡ Some given
    → (port : ℕ) → recent_words ports inputs t port 0 ≡ val (word_at given port) (format_at ports port)
last_input ports inputs t given at port =
    let f = format_at ports port in
    let now : pos t -ℤ pos 0 ≡ pos t = omega (arith, ints) in
    ap (λ (z : ℤ). val (input_at inputs port f.width z) f) now ∙ ap (λ w. val w f) (input_row inputs t port f.width given at)

-- a divisor is not 0 by the inputs of one cycle
range_same : (inputs others : (port : ℕ) → Recent) (port : Option ℕ) → ((port : ℕ) → inputs port 0 ≡ others port 0)
    → IsNonzeroAt port inputs → IsNonzeroAt port others
range_same inputs others None same some = tt
range_same inputs others (Some port) same some = λ zero. some (same port ∙ zero)

-- ---- a cycle of a run has the outputs of a judged row with its inputs
module _ (one_row : OutputsShowOneRow) (spec : Spec) (valid : IsValidSpec spec) (none : memory spec.op ≡ 0) (d : Design) (latency rows : ℕ)
    (cells : List ℕ) (ports : d.ports ≡ ports_for spec false) (shows : ShowsOneRow d latency)
    (hold : HoldEachWord (input_widths d) latency rows cells) (judged : ℕ) (checked : IsChecked spec d latency rows cells (Good judged)) where
  abbrev table : List (List (List Bool))
  table = rows_words (input_widths d) rows cells

  abbrev some : 1 ≤ length (inputs_of spec)
  some = some_input spec.op valid.op.ranges

  -- a judged row, by words
  row_good : (row : ℕ) → row + latency < rows → (u : Words) → slice_get checked.run.words (row + latency) ≡ Some u
      → IsInRange spec (recent_words (inputs_of spec) table row)
      → IsGood spec (recent_words (inputs_of spec) table row) (output_words (outputs_of spec) (words_at_outputs d u))
  row_good row before u at ranged =
      let agree = ports_agree spec d ports in
      let inputs = inputs_of spec in
      let outputs = outputs_of spec in
      let back : row + latency - latency ≡ row = omega arith in
      let numbers = λ (t : ℕ). recent_numbers inputs (rows_up_to (length inputs) t cells) in
      let recent : numbers (row + latency - latency) ≡ recent_words inputs table row =
      ap numbers back ∙ sym (recent_row spec some d agree rows cells checked.outputs hold.fit checked.run row (omega (arith, before))) in
      let shown = shown_row spec some d agree rows cells checked.outputs hold.fit checked.run (row + latency) u at in
      let good = checked.verdict.good (row + latency) (record { from = omega arith; there = before }) in
      subst (IsGood spec (recent_words inputs table row)) (sym shown)
      (subst (λ h. IsGood spec h (output_numbers outputs (row_of (length outputs) (row + latency) checked.outputs))) recent
      (good (subst (IsInRange spec) (sym recent) ranged)))

  good_at : (inputs : List (List (List Bool))) (vs : List Words) → Run d inputs vs → (t : ℕ) → IsGoodAt spec latency false d inputs vs t
  good_at inputs vs run t v at ranged =
      let start = initial_words d.signals in
      let long = run_long d start inputs vs run in
      let within = slice_get_within vs (t + latency) v at in
      let (given, here) = some-item inputs t (omega (arith, long, within)) in
      let words = All-contains (AreWords (input_widths d)) inputs given (run_words d start inputs vs run) (at-contains inputs t given here) in
      let (row, before, there) = hold.each given words in
      let agree = ports_agree spec d ports in
      let count = run_rows spec some d agree rows cells checked.outputs hold.fit checked.run in
      let (u, shown) = some-item checked.run.words (row + latency) (omega (arith, count, before)) in
      let one : words_at_outputs d u ≡ words_at_outputs d v =
      one_row d latency shows.sound shows.looks shows.aligned start start table inputs checked.run.words vs checked.run.runs run row t u v
      (there ∙ sym here) shown at in
      let same : (port : ℕ) → recent_words (inputs_of spec) table row port 0 ≡ recent_words (inputs_of spec) inputs t port 0
      = λ port. last_input (inputs_of spec) table row given there port ∙ sym (last_input (inputs_of spec) inputs t given here port) in
      let in_row = range_same (recent_words (inputs_of spec) inputs t) (recent_words (inputs_of spec) table row) (divisor spec.op)
      (λ port. sym (same port)) ranged in
      let all : (port ago : ℕ) → ago ≤ memory spec.op → recent_words (inputs_of spec) table row port ago
      ≡ recent_words (inputs_of spec) inputs t port ago
      = λ port ago le.
      let now : 0 ≡ ago = omega (arith, none, le) in
      subst (λ k. recent_words (inputs_of spec) table row port k ≡ recent_words (inputs_of spec) inputs t port k) now (same port) in
      subst (λ ws. IsGood spec (recent_words (inputs_of spec) inputs t) (output_words (outputs_of spec) ws)) one
      (good_outputs_recall spec (recent_words (inputs_of spec) table row) (recent_words (inputs_of spec) inputs t)
      (output_words (outputs_of spec) (words_at_outputs d u)) all (row_good row before u shown in_row))

  serves : Serves spec latency false d
  serves = record { ports = ports; runs = a-run d shows.sound; good = good_at }

pub good_rows_serve : OutputsShowOneRow → GoodRowsServe
good_rows_serve one_row spec d latency rows judged cells valid none ports shows hold checked =
    serves one_row spec valid none d latency rows cells ports shows hold judged checked
