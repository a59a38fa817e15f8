use Rattle.std.proofs.Common.{◌≡◌, ℕ, ◌+◌, ◌*◌, ◌/◌, ◌%◌, ◌<◌, [], length, get_or, eqb, ap, ◌∙◌, arith}
use Rattle.std.specs.Int.{bit_at}
use Rattle.opgen_streams.specs.Streams.{streams, bit_in}
use Rattle.opgen_streams.proofs.Gathered.{column_start, column_more, column_end}
use Rattle.opgen_streams.proofs.pack.pack_column.Goals as goal
use Rattle.opgen_streams.proofs.pack.pack_column.Goals.{then-place-eq0, else-place-eq0}

pub loop-place-init : goal.loop-place-init
loop-place-init c = record { packed = λ k within. column_start _ _; words = λ some. absurd (omega (arith, some)) }

pub loop-place-preserved : goal.loop-place-preserved
loop-place-preserved c =
    let place = c.loop-place.place in
    let cell : ℕ → ℕ = λ k. get_or c.args.cells.now (c.args.start + k * c.args.distance) 0 in
    let words : (k j : ℕ) → k < streams → j < 64
    → bit_at (get_or (get_or c.if-place-eq0.words (k % 64) []) (k / 64) 0) j ≡ bit_at (cell k) (64 * (place / 64) + j)
    = elim c.if-place-eq0.branch [
      | then-place-eq0 w ↦ λ k j stream bit. ap (λ ws. bit_at (get_or (get_or ws (k % 64) []) (k / 64) 0) j) w.words-is
          ∙ w.words_of_column-words.ensures k j stream bit
      | else-place-eq0 w ↦ λ k j stream bit. ap (λ ws. bit_at (get_or (get_or ws (k % 64) []) (k / 64) 0) j) w.words-is
          ∙ c.loop-place.invariant.words (omega (arith, w.if-place-eq0)) k j stream bit
    ] in
    let whole : 64 * (place / 64) + place % 64 ≡ place = omega arith in
    record {
      packed = λ k within.
          let bit : bit_in c.vector_at.result k ≡ eqb (bit_at (cell k) place) 1
          = ap (λ n. eqb n 1) (c.vector_at.ensures.bits (k / 64) (k % 64) (omega (arith, within)) (omega arith) ∙ words k (place % 64) within (omega arith) ∙ ap (bit_at (cell k)) whole) in
          column_more _ c.loop-place.lanes place (length c.args.lanes.now) k _ c.vector_at.result (omega arith) (omega arith)
          (c.loop-place.invariant.packed k within) bit;
      words = λ some k j stream bit.
          let same : place / 64 ≡ (place + 1) / 64 = omega (arith, some) in
          words k j stream bit ∙ ap (λ n. bit_at (cell k) (64 * n + j)) same;
    }

pub returns : goal.returns
returns c k within =
    column_end _ c.loop-place.lanes c.loop-place.place (length c.args.lanes.now) k _ (omega arith) (omega arith)
    (c.loop-place.invariant.packed k within)
