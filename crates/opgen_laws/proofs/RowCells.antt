-- Runs over rows of cells: the words at the ports in a cycle stand for the numbers of its row.
use Rattle.std.proofs.Common.{◌≡◌, inl, inr, ℕ, zero, suc, ◌+◌, ◌-◌, ◌*◌, ◌<◌, ◌≤◌, Bool, true, false, List, [], ◌∷◌, length, map, take, drop, Some, refl, sym, ap, ◌∙◌, subst, arith}
use Rattle.std.specs.Prelude.{slice_get, slice_index, nat_le, pos, negsuc, ◌-ℤ◌}
use Rattle.std.specs.List.{concat}
use Rattle.std.proofs.Math.Nat.{mul-le-mul_right}
use Rattle.std.proofs.lemmas.Bool.{cases_lt, le-leb, lt-leb}
use Rattle.std.proofs.lemmas.Int.{ints}
use Rattle.std.proofs.lemmas.List.{drop-drop, drop_at, get_or-drop, get_or-take, length-drop, length-map, length-take-le, take_at}
use Rattle.opgen_num.specs.Words.{val, nat, word, words_of}
use Rattle.opgen_num.proofs.Words.{word-nat}
use Rattle.opgen_num.proofs.Values.{val-zeros}
use Rattle.opgen_design.specs.declared.design.Design.{Design}
use Rattle.opgen_design.specs.Run.{Words, Cycle, RunsOn, at_ports, is_out, output_widths, words_at_outputs}
use Rattle.opgen_design.specs.Value.{word_at}
use Rattle.opgen_net.specs.Flow.{input_from}
use Rattle.opgen_operator.specs.Outputs.{output_words, recent_words}
use Rattle.opgen_ports.specs.declared.ports.PortFormat.{PortFormat}
use Rattle.opgen_ports.specs.Ports.{format_at, number_of, output_numbers, recent_numbers}
use Rattle.opgen_runs.specs.Rows.{output_cells, rows_words}
use Rattle.opgen_runs.proofs.Rows.{at_ports-map}

abbrev pub widths_of : List PortFormat → List ℕ
widths_of ports = map (λ p. p.format.width) ports

-- past the last port a word has no bits
format_past : (ports : List PortFormat) (port : ℕ) → length ports ≤ port → (format_at ports port).width ≡ 0
format_past [] port past = refl
format_past (p ∷ ports) zero past = absurd (omega (arith, past))
format_past (p ∷ ports) (suc port) past = format_past ports port (omega (arith, past))

-- ---- inputs
word_of_row : (ports : List PortFormat) (cells : List ℕ) → length ports ≤ length cells → (port : ℕ)
    → word_at (words_of (widths_of ports) (take (length (widths_of ports)) cells)) port
    ≡ word (format_at ports port).width (slice_index cells port)
word_of_row [] cells room port = refl
word_of_row (p ∷ ports) [] room port = absurd (omega (arith, room))
word_of_row (p ∷ ports) (c ∷ cells) room zero = refl
word_of_row (p ∷ ports) (c ∷ cells) room (suc port) = word_of_row ports cells (omega (arith, room)) port

module _ (ports : List PortFormat) where
  abbrev n : ℕ
  n = length ports

  abbrev widths : List ℕ
  widths = widths_of ports

  columns : length widths ≡ n
  columns = length-map ports (λ p. p.format.width)

  word_of_rows : (rows : ℕ) (cells : List ℕ) → rows * n ≤ length cells → (t : ℕ) → t < rows → (port v : ℕ)
      → input_from (rows_words widths rows cells) t port v ≡ word (format_at ports port).width (slice_index cells (t * n + port))
  word_of_rows zero cells room t lt port v = absurd (omega (arith, lt))
  word_of_rows (suc rows) cells room zero lt port v =
      let one : suc rows * n ≡ n + rows * n = omega arith in
      word_of_row ports cells (omega (arith, room, one)) port
      ∙ ap (λ i. word (format_at ports port).width (slice_index cells i)) (omega arith)
  word_of_rows (suc rows) cells room (suc t) lt port v =
      let one : suc rows * n ≡ n + rows * n = omega arith in
      let rest = drop (length widths) cells in
      let later = word_of_rows rows rest (omega (arith, room, one, columns, length-drop (length widths) cells)) t (omega (arith, lt)) port v in
      let place : length widths + (t * n + port) ≡ suc t * n + port = omega (arith, columns) in
      later
      ∙ ap (word (format_at ports port).width) (get_or-drop (length widths) cells (t * n + port) 0
      ∙ ap (slice_index cells) place)

  -- the cells of a port that there is not say nothing
  same_number : (cells others : List ℕ) (port k : ℕ) → (port < n → slice_index cells k ≡ slice_index others k)
      → number_of (format_at ports port) (slice_index cells k) ≡ number_of (format_at ports port) (slice_index others k)
  same_number cells others port k same = elim (cases_lt port n) [
    | inl there ↦ ap (number_of (format_at ports port)) (same there)
    | inr past ↦
        let f = format_at ports port in
        let none : (x : ℕ) → val (word f.width x) f ≡ val [] f = λ x. ap (λ w. val (word w x) f) (format_past ports port past) in
        none (slice_index cells k) ∙ sym (none (slice_index others k))
  ]

  module _ (some : 0 < n) (rows : ℕ) (cells : List ℕ) (room : rows * n ≤ length cells) where
    abbrev history : (t : ℕ) → List ℕ
    history t = take ((t + 1) * n) cells

    length-history : (t : ℕ) → t < rows → length (history t) ≡ (t + 1) * n
    length-history t lt =
        let few : (t + 1) * n ≤ rows * n = mul-le-mul_right n (omega (arith, lt)) in
        length-take-le ((t + 1) * n) cells (omega (arith, few, room))

    recent_at : (k ago port : ℕ) → k + ago < rows
        → recent_words ports (rows_words widths rows cells) (k + ago) port ago ≡ recent_numbers ports (history (k + ago)) port ago
    recent_at k ago port lt =
        let f = format_at ports port in
        let long : length (history (k + ago)) ≡ (k + ago + 1) * n = length-history (k + ago) lt in
        let within : nat_le ((ago + 1) * n) (length (history (k + ago))) ≡ true = le-leb _ _ (omega (arith, long)) in
        let place : length (history (k + ago)) - (ago + 1) * n + port ≡ k * n + port = omega (arith, long) in
        let now : pos (k + ago) -ℤ pos ago ≡ pos k = omega (arith, ints) in
        let before : port < n → slice_index cells (k * n + port) ≡ slice_index (history (k + ago)) (k * n + port) =
        λ there. sym (get_or-take ((k + ago + 1) * n) cells (k * n + port) 0 (omega (arith, there))) in
        rw (now, within, place)
        (ap (λ w. val w f) (word_of_rows rows cells room k (omega (arith, lt)) port f.width)
        ∙ same_number cells (history (k + ago)) port (k * n + port) before)

    pub recent_same : (t port ago : ℕ) → t < rows
        → recent_words ports (rows_words widths rows cells) t port ago ≡ recent_numbers ports (history t) port ago
    recent_same t port ago lt = elim (cases_lt t ago) [
      | inl past ↦
          let f = format_at ports port in
          let more : (t + 2) * n ≤ (ago + 1) * n = mul-le-mul_right n (omega (arith, past)) in
          let out : nat_le ((ago + 1) * n) (length (history t)) ≡ false = lt-leb _ _ (omega (arith, length-history t lt, more, some)) in
          let start : pos t -ℤ pos ago ≡ negsuc (ago - t - 1) = omega (arith, ints, past) in
          rw (start, out) (val-zeros f f.width)
      | inr le ↦
          let whole : (t - ago) + ago ≡ t = omega (arith, le) in
          subst (λ u. recent_words ports (rows_words widths rows cells) u port ago ≡ recent_numbers ports (history u) port ago) whole
          (recent_at (t - ago) ago port (omega (arith, whole, lt)))
    ]

-- ---- outputs
word_of_cells : (ports : List PortFormat) (ws : List (List Bool)) → map length ws ≡ widths_of ports → (port : ℕ)
    → word_at ws port ≡ word (format_at ports port).width (slice_index (map nat ws) port)
word_of_cells [] [] e port = refl
word_of_cells [] (w ∷ ws) e port = absurd (cc)
word_of_cells (p ∷ ports) [] e port = absurd (cc)
word_of_cells (p ∷ ports) (w ∷ ws) e zero =
    let long : length w ≡ p.format.width = cc in
    sym (ap (λ k. word k (nat w)) (sym long) ∙ word-nat w)
word_of_cells (p ∷ ports) (w ∷ ws) e (suc port) =
    let rest : map length ws ≡ widths_of ports = cc in
    word_of_cells ports ws rest port

module _ (d : Design) (ports : List PortFormat) (outs : output_widths d ≡ widths_of ports) where
  row_words : (now given next : List (List Bool)) (v : Words) → Cycle d now given v next → map length (words_at_outputs d v) ≡ widths_of ports
  row_words now given next v cycle =
      at_ports-map length is_out d.ports v.ports ∙ ap (at_ports is_out d.ports) cycle.port_widths ∙ outs

  row_long : (now given next : List (List Bool)) (v : Words) → Cycle d now given v next → length (output_cells d v) ≡ length ports
  row_long now given next v cycle =
      length-map (words_at_outputs d v) nat
      ∙ sym (length-map (words_at_outputs d v) length)
      ∙ ap length (row_words now given next v cycle)
      ∙ length-map ports (λ p. p.format.width)

  -- the row of a cycle, and the widths of its words
  row_at : (now : List (List Bool)) (inputs : List (List (List Bool))) (vs : List Words) → RunsOn d now inputs vs
      → (u : ℕ) (v : Words) → slice_get vs u ≡ Some v
      → (take (length ports) (drop (u * length ports) (concat (map (output_cells d) vs))) ≡ output_cells d v)
      × (map length (words_at_outputs d v) ≡ widths_of ports)
  row_at now [] [] run u v at = absurd (cc)
  row_at now [] (x ∷ vs) run u v at = absurd run
  row_at now (given ∷ inputs) [] run u v at = absurd run
  row_at now (given ∷ inputs) (x ∷ vs) (next, cycle, run) zero v at =
      let same : x ≡ v = cc in
      let none : 0 * length ports ≡ 0 = omega arith in
      let first : take (length ports) (drop (0 * length ports) (concat (map (output_cells d) (x ∷ vs)))) ≡ output_cells d x =
      ap (λ k. take (length ports) (drop k (concat (map (output_cells d) (x ∷ vs))))) none
      ∙ take_at (output_cells d x) (concat (map (output_cells d) vs)) (length ports) (row_long now given next x cycle) in
      subst (λ y. (take (length ports) (drop (0 * length ports) (concat (map (output_cells d) (x ∷ vs)))) ≡ output_cells d y)
      × (map length (words_at_outputs d y) ≡ widths_of ports)) same (first, row_words now given next x cycle)
  row_at now (given ∷ inputs) (x ∷ vs) (next, cycle, run) (suc u) v at =
      let rest = concat (map (output_cells d) vs) in
      let later = row_at next inputs vs run u v at in
      let split : suc u * length ports ≡ length ports + u * length ports = omega arith in
      let dropped : drop (suc u * length ports) (concat (map (output_cells d) (x ∷ vs))) ≡ drop (u * length ports) rest =
      ap (λ k. drop k (concat (map (output_cells d) (x ∷ vs)))) split
      ∙ sym (drop-drop (u * length ports) (length ports) (concat (map (output_cells d) (x ∷ vs))))
      ∙ ap (drop (u * length ports)) (drop_at (output_cells d x) rest (length ports) (row_long now given next x cycle)) in
      (ap (take (length ports)) dropped ∙ later.0, later.1)

  pub output_same : (now : List (List Bool)) (inputs : List (List (List Bool))) (vs : List Words) → RunsOn d now inputs vs
      → (u : ℕ) (v : Words) → slice_get vs u ≡ Some v → (port : ℕ)
      → output_words ports (words_at_outputs d v) port
      ≡ output_numbers ports (take (length ports) (drop (u * length ports) (concat (map (output_cells d) vs)))) port
  output_same now inputs vs run u v at port =
      let (row, wide) = row_at now inputs vs run u v at in
      ap (λ w. val w (format_at ports port)) (word_of_cells ports (words_at_outputs d v) wide port)
      ∙ ap (λ cells. number_of (format_at ports port) (slice_index cells port)) (sym row)
