use Rattle.std.proofs.Common.{◌≡◌, false, sym, ap, ◌∙◌, subst, rules}
use Rattle.opgen_heap.specs.Contents.{Contents}
use Rattle.opgen_net.specs.Grown.{HasGrown}
use Rattle.opgen_net.proofs.Grown.{grown-flow}
use Rattle.opgen_gpc.specs.Counters.{apart}
use Rattle.opgen_gpc.specs.Kept.{CountersThere}
use Rattle.opgen_gpc.specs.Recipe.{Counting, counted}
use Rattle.opgen_gpc.proofs.Counting.{IsCounted, counted-is, counters-there}
use Rattle.opgen_gpc.proofs.heaps.count.Goals as goal

pub add_tables-requires-clause-takes : goal.add_tables-requires-clause-takes
add_tables-requires-clause-takes c =
    let net = c.args.net.now in
    let counters : c.as_slice.result.now ≡ (apart 0 false c.args.heap.columns).counters = search rules in
    subst (CountersThere net) (sym counters) (counters-there net c.args.heap c.requires.there)

pub returns-clause-sum : goal.returns-clause-sum
returns-clause-sum c =
    let net = c.args.net.now in
    let heap = c.args.heap in
    let now : Counting = record { net = c.add_tables.new.net; heap = c.add_tables.new.heap } in
    let all : now ≡ counted net heap = search rules in
    (subst (IsCounted net heap) (sym all) (counted-is net heap c.requires.net c.requires.there)).sum

pub returns-clause-width : goal.returns-clause-width
returns-clause-width c =
    let net = c.args.net.now in
    let heap = c.args.heap in
    let all : c.add_tables.new.heap ≡ (counted net heap).heap = search rules in
    ap (λ (h : Contents). h.width) all ∙ (counted-is net heap c.requires.net c.requires.there).width

pub returns-clause-constant : goal.returns-clause-constant
returns-clause-constant c =
    let net = c.args.net.now in
    let heap = c.args.heap in
    let all : c.add_tables.new.heap ≡ (counted net heap).heap = search rules in
    ap (λ (h : Contents). h.constant) all ∙ (counted-is net heap c.requires.net c.requires.there).constant

pub returns-clause-there : goal.returns-clause-there
returns-clause-there c =
    let net = c.args.net.now in
    let heap = c.args.heap in
    let now : Counting = record { net = c.add_tables.new.net; heap = c.add_tables.new.heap } in
    let all : now ≡ counted net heap = search rules in
    (subst (IsCounted net heap) (sym all) (counted-is net heap c.requires.net c.requires.there)).there

pub returns-clause-grown : goal.returns-clause-grown
returns-clause-grown c =
    let net = c.args.net.now in
    let heap = c.args.heap in
    let all : c.add_tables.new.net ≡ (counted net heap).net = search rules in
    subst (HasGrown net) (sym all) (counted-is net heap c.requires.net c.requires.there).later.grown

pub returns-clause-flow : goal.returns-clause-flow
returns-clause-flow c = grown-flow c.args.net.now c.add_tables.new.net (returns-clause-grown c)
