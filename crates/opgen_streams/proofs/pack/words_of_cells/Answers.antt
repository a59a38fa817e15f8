use Rattle.std.proofs.Common.{ℕ, ◌+◌, ◌-◌, ◌*◌, ◌^◌, ◌≤◌, length, get_or, ap, ◌∙◌, arith}
use Rattle.std.specs.Int.{bit_at}
use Rattle.opgen_streams.proofs.Gathered.{four_cells}
use Rattle.opgen_streams.proofs.Places.{cell_near}
use Rattle.opgen_streams.proofs.pack.words_of_cells.Goals as goal

pub returns : goal.returns
returns c =
    let cells = c.args.cells.now in
    let place = c.args.place in
    let distance = c.args.distance in
    let few : length cells ≤ 2 ^ 64 - 1 = omega arith in
    let bit : ℕ → ℕ → ℕ = λ n j. bit_at n (64 * c.args.index + j) in
    four_cells _ _ _ _ (λ i j. bit (get_or cells (place + i * distance) 0) j)
    (λ j low. c.word_of_cell.ensures j low ∙ ap (λ i. bit (get_or cells i 0) j) (omega arith))
    (λ j low. c.word_of_cell-2.ensures j low ∙ ap (λ n. bit n j) (cell_near cells few _ (place + 1 * distance) (omega (arith, c.saturating_add-second.ensures))))
    (λ j low. c.word_of_cell-3.ensures j low ∙ ap (λ n. bit n j) (cell_near cells few _ (place + 2 * distance) (omega (arith, c.saturating_add-second.ensures, c.saturating_add-third.ensures))))
    (λ j low. c.word_of_cell-4.ensures j low ∙ ap (λ n. bit n j) (cell_near cells few _ (place + 3 * distance) (omega (arith, c.saturating_add-second.ensures, c.saturating_add-third.ensures, c.saturating_add-fourth.ensures))))
