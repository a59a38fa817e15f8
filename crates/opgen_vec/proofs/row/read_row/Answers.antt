use Rattle.std.proofs.Common.{◌≤◌, length, take, ap, ◌∙◌, subst, arith}
use Rattle.std.proofs.Math.Seq.{take-append_seam}
use Rattle.std.specs.Prelude.{All}
use Rattle.std.proofs.lemmas.List.Elements.{All-tail}
use Rattle.opgen_num.specs.declared.format.TheConstants.{MAX_WIDTH}
use Rattle.opgen_vec.proofs.Words.{first_cells}
use Rattle.opgen_vec.proofs.row.read_row.Goals as goal

pub loop-width-init : goal.loop-width-init
loop-width-init c =
    let (widths, len) = c.in-Some.ensures.cases in
    let pushed = rw c.in_ok-reserve.ensures.items at c.push_reserved.ensures.items in
    record {
      cells = first_cells _ _ _ _ _ _ _ _ widths c.in-Some-word_at.ensures pushed c.digit_count.ensures;
      same = ap (take _) pushed ∙ take-append_seam _ _;
      kept = omega (arith, c.push_reserved.ensures.len);
      room = omega (arith, c.push_reserved.ensures.len, c.push_reserved.ensures.capacity, c.in_ok-reserve.ensures.ok, ap length widths);
      narrow = All-tail (λ width. width ≤ MAX_WIDTH) _ _ (subst (All (λ width. width ≤ MAX_WIDTH)) widths c.requires);
    }
