use Rattle.std.proofs.Common.{◌≡◌, ◌≤◌, [], ◌∷◌, ◌++◌, length, take, drop, append_assoc, sym, ap, ◌∙◌, arith, rules}
use Rattle.opgen_gpc.specs.Counters.{six, sixes, after_sixes}
use Rattle.opgen_gpc.proofs.Taking.{sixes-more, after_sixes-more}
use Rattle.opgen_gpc.proofs.columns.take_sixes.Goals as goal

pub sixes-preserved : goal.sixes-preserved
sixes-preserved c =
    let i = c.sixes.invariant in
    let left = c.sixes.left.now in
    let column = c.args.column in
    let many : 6 ≤ length left = omega (arith, c.sixes-test.true) in
    let behind : c.split_at.result.1.now ≡ drop 6 left = search rules in
    let more : c.push.new.self ≡ c.sixes.counters ++ six column (take 6 left) ∷ [] = search rules in (
      ap (λ cs. cs ++ sixes column c.split_at.result.1.now) more
          ∙ ap (λ r. (c.sixes.counters ++ six column (take 6 left) ∷ []) ++ sixes column r) behind
          ∙ append_assoc c.sixes.counters (six column (take 6 left) ∷ []) (sixes column (drop 6 left))
          ∙ ap (λ r. c.sixes.counters ++ r) (sym (sixes-more column left many))
          ∙ i.0,
      ap after_sixes behind ∙ sym (after_sixes-more left many) ∙ i.1,
    )
