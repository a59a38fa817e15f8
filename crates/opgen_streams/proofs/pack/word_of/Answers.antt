use Rattle.std.proofs.Common.{◌≡◌, ◌+◌, ◌*◌, ◌-◌, ◌/◌, ◌^◌, sym, ap, ◌∙◌, arith}
use Rattle.std.specs.Int.{bit_at}
use Rattle.std.proofs.lemmas.Nat.Bits.{bit_at-zero, bit_at_above}
use Rattle.opgen_streams.proofs.Gathered.{low_bit_at, high_bit_at}
use Rattle.opgen_streams.proofs.pack.word_of.Goals as goal

pub returns-then-index-eq0 : goal.returns-then-index-eq0
returns-then-index-eq0 c j within = low_bit_at c.args.number j within ∙ ap (bit_at c.args.number) (omega arith)

pub returns-then-index-eq1 : goal.returns-then-index-eq1
returns-then-index-eq1 c j within =
    let less : j ≡ 64 + j - 64 = omega arith in
    ap (bit_at (c.args.number / 2 ^ 64)) less ∙ high_bit_at c.args.number (64 + j) (omega arith)
    ∙ ap (bit_at c.args.number) (omega arith)

pub returns-else-index-eq1 : goal.returns-else-index-eq1
returns-else-index-eq1 c j within =
    bit_at-zero j ∙ sym (bit_at_above c.args.number 128 (64 * c.args.index + j) c.ranges.number.fits (omega arith))
