use Rattle.std.proofs.Common.{◌≡◌, ◌*◌, ◌^◌, sym, ◌∙◌, ap}
use Rattle.opgen_graph.proofs.Powers.{one_split, positive}
use Rattle.opgen_graph.proofs.shifts.shift_to.Goals as goal

pub returns-then-part-odd-clause-some : goal.returns-then-part-odd-clause-some
returns-then-part-odd-clause-some c =
    let o = c.split_odd-part.ensures in
    let same = c.if-part-odd.true in
    let is : 2 ^ c.split_odd-part.result.1 * c.args.odd ≡ c.args.even = ap (λ x. 2 ^ c.split_odd-part.result.1 * x) (sym same)
    ∙ o.product in
    (positive _ _ _ c.requires.odd c.requires.even is, is, λ j e. (one_split j _ _ _ c.requires.odd c.requires.odd (e ∙ sym is)).0)

pub returns-else-part-odd-clause-none : goal.returns-else-part-odd-clause-none
returns-else-part-odd-clause-none c =
    λ i e. c.if-part-odd.false
    (sym (one_split i _ _ _ c.requires.odd c.split_odd-part.ensures.odd (e ∙ sym c.split_odd-part.ensures.product)).1)
