use Rattle.std.proofs.Common.{◌+◌, ◌-◌, ◌*◌, ◌/◌, ◌^◌, ◌≤◌, length, get_or, refl, ap, ◌∙◌, arith}
use Rattle.std.specs.Int.{bit_at}
use Rattle.std.proofs.lemmas.List.{length-set}
use Rattle.opgen_streams.proofs.Gathered.{row_placed}
use Rattle.opgen_streams.proofs.Places.{cell_of_four, next_place}
use Rattle.opgen_streams.proofs.pack.words_of_column.Goals as goal

pub loop-row-init : goal.loop-row-init
loop-row-init c = record { all = refl; place = omega arith; bits = λ k j stream none. absurd (omega (arith, none)) }

pub loop-row-preserved : goal.loop-row-preserved
loop-row-preserved c =
    let cells = c.args.cells.now in
    let few : length cells ≤ 2 ^ 64 - 1 = omega arith in
    let now = c.loop-row.invariant in
    record {
      all = omega (arith, length-set c.loop-row.words c.loop-row.row c.words_of_cells.result, now.all);
      place = c.saturating_add-place.ensures ∙ next_place c.loop-row.place c.args.start c.loop-row.row c.args.distance now.place;
      bits = λ k j stream reached bit.
          row_placed (λ n. bit_at n j) (λ k. bit_at (get_or cells (c.args.start + k * c.args.distance) 0) (64 * c.args.index + j))
          c.loop-row.words c.words_of_cells.result c.loop-row.row now.all c.loop-row-test.true
          (λ k s h. now.bits k j s h bit)
          (λ k s h. c.words_of_cells.ensures (k / 64) j (omega (arith, s)) bit
          ∙ ap (λ n. bit_at n (64 * c.args.index + j)) (cell_of_four cells few c.loop-row.place c.saturating_mul-further.result c.args.start
          c.args.distance c.loop-row.row k now.place c.saturating_mul-further.ensures h))
          k stream reached;
    }

pub returns : goal.returns
returns c k j stream bit = c.loop-row.invariant.bits k j stream (omega arith) bit
