-- Cells of rows that fit ports are histories, and the numbers of a cycle.
use Rattle.std.proofs.Common.{◌≡◌, inl, inr, ℕ, zero, suc, ◌+◌, ◌-◌, ◌*◌, ◌%◌, ◌^◌, ◌<◌, ◌≤◌, List, [], ◌∷◌, length, map, take, drop, get_or, ap, ◌∙◌, subst, arith}
use Rattle.std.proofs.Math.Nat.{mod-eq_of_lt, mod-eq-sub-mod, mul-mod_left, mul-le-mul}
use Rattle.std.proofs.lemmas.Bool.{cases_lt}
use Rattle.std.proofs.lemmas.List.{length-map, length-take-le, get_or-take, get_or-drop, length-drop}
use Rattle.opgen_num.proofs.RowsOfCells.{length-cells, length-rows_of_cells}
use Rattle.opgen_num.specs.Words.{FitWidths, AreRowsOfCells}
use Rattle.opgen_ports.specs.declared.ports.PortFormat.{PortFormat}
use Rattle.opgen_ports.specs.Ports.{format_at, IsCycle, IsHistory}

abbrev widths_of : List PortFormat → List ℕ
widths_of ports = map (λ p. p.format.width) ports

fit_at : (ports : List PortFormat) (cells : List ℕ) → FitWidths (widths_of ports) cells → (k : ℕ) → k < length cells
    → get_or cells k 0 < 2 ^ (format_at ports k).width
fit_at [] [] fit k lt = absurd (omega (arith, lt))
fit_at [] (c ∷ cells) fit k lt = absurd fit
fit_at (p ∷ ports) [] fit k lt = absurd fit
fit_at (p ∷ ports) (c ∷ cells) fit zero lt = fit.0
fit_at (p ∷ ports) (c ∷ cells) fit (suc k) lt = fit_at ports cells fit.1 k (omega (arith, lt))

-- the numbers of a cycle
pub is_cycle : (ports : List PortFormat) (cells : List ℕ) → FitWidths (widths_of ports) cells → IsCycle ports cells
is_cycle ports cells fit = record {
  whole = length-cells (widths_of ports) cells fit ∙ length-map ports (λ p. p.format.width);
  fit = λ k lt. fit_at ports cells fit k lt;
}

module _ (ports : List PortFormat) (some : 0 < length ports) where
  abbrev n : ℕ
  n = length ports

  columns : length (widths_of ports) ≡ n
  columns = length-map ports (λ p. p.format.width)

  -- each cell of rows fits its port
  cell_fits : (rows : ℕ) (cells : List ℕ) → AreRowsOfCells (widths_of ports) rows cells → (k : ℕ) → k < length cells
      → get_or cells k 0 < 2 ^ (format_at ports (k % n)).width
  cell_fits zero cells none k lt = absurd (omega (arith, lt, ap length none))
  cell_fits (suc rows) cells (first, later) k lt = elim (cases_lt k n) [
    | inl within ↦
        let front = take (length (widths_of ports)) cells in
        let wide : length front ≡ n = length-cells (widths_of ports) front first ∙ columns in
        let here = fit_at ports front first k (omega (arith, wide, within)) in
        let same : get_or front k 0 ≡ get_or cells k 0 = get_or-take (length (widths_of ports)) cells k 0 (omega (arith, columns, within)) in
        let place : k % n ≡ k = mod-eq_of_lt within in
        rw place (subst (λ x. x < 2 ^ (format_at ports k).width) same here)
    | inr past ↦
        let back = drop (length (widths_of ports)) cells in
        let there = cell_fits rows back later (k - n) (omega (arith, lt, past, columns, length-drop (length (widths_of ports)) cells)) in
        let sum : length (widths_of ports) + (k - n) ≡ k = omega (arith, columns, past) in
        let same : get_or back (k - n) 0 ≡ get_or cells k 0 =
        get_or-drop (length (widths_of ports)) cells (k - n) 0 ∙ ap (λ i. get_or cells i 0) sum in
        let place : k % n ≡ (k - n) % n = mod-eq-sub-mod past in
        rw place (subst (λ x. x < 2 ^ (format_at ports ((k - n) % n)).width) same there)
  ]

  -- the first rows are a history
  pub is_history : (rows : ℕ) (cells : List ℕ) → AreRowsOfCells (widths_of ports) rows cells → (count : ℕ) → 0 < count → count ≤ rows
      → IsHistory ports (take (count * n) cells)
  is_history rows cells are count one few =
      let all : length cells ≡ rows * n = length-rows_of_cells (widths_of ports) cells rows are ∙ ap (λ c. rows * c) columns in
      let room : count * n ≤ rows * n = mul-le-mul few (omega arith) in
      let long : length (take (count * n) cells) ≡ count * n = length-take-le (count * n) cells (omega (arith, all, room)) in
      let positive : 1 * 1 ≤ count * n = mul-le-mul one some in
      record {
        some = omega (arith, long, positive);
        whole = ap (λ l. l % n) long ∙ mul-mod_left count n;
        fit = λ k lt.
            let within : k < count * n = omega (arith, lt, long) in
            let same : get_or (take (count * n) cells) k 0 ≡ get_or cells k 0 = get_or-take (count * n) cells k 0 within in
            rw same (cell_fits rows cells are k (omega (arith, within, room, all)));
      }
