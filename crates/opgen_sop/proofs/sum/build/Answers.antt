use Rattle.std.proofs.Common.{◌≡◌, ◌+◌, ◌-◌, ◌++◌, [], ◌∷◌, ap, ◌∙◌, sym, subst}
use Rattle.std.specs.Prelude.{codes}
use Rattle.opgen_num.specs.declared.format.Format.{Format}
use Rattle.opgen_heap.specs.Standing.{AllThere}
use Rattle.opgen_compress.specs.Recipe.{compressed}
use Rattle.opgen_gpc.specs.Recipe.{Counting, counted_if}
use Rattle.opgen_ports.specs.Recipes.{has_counters}
use Rattle.opgen_net.specs.Placed.{Placed}
use Rattle.opgen_partial.specs.declared.pairs.Work.{Work}
use Rattle.opgen_sop.specs.Recipe.{with_all_scaled, with_all_times, with_offset, added, counted, summed, heap_width}
use Rattle.opgen_sop.proofs.AcceptedTerms.{small-terms}
use Rattle.opgen_sop.proofs.GuardBits.{small-guard}
use Rattle.opgen_sop.proofs.Whole.{fits_modes}
use Rattle.opgen_sop.proofs.sum.build.Goals as goal

pub guard_bits-guard-requires-clause-terms : goal.guard_bits-guard-requires-clause-terms
guard_bits-guard-requires-clause-terms c = small-terms c.args.sop.now c.requires

pub start-requires-clause-guard : goal.start-requires-clause-guard
start-requires-clause-guard c =
    small-guard c.args.sop.now c.requires c.guard_bits-guard.result c.guard_bits-guard.ensures.least c.guard_bits-guard.ensures.few

pub add_all_scaled-requires-clause-terms : goal.add_all_scaled-requires-clause-terms
add_all_scaled-requires-clause-terms c = small-terms c.args.sop.now c.requires

pub add_all_times-requires-clause-terms : goal.add_all_times-requires-clause-terms
add_all_times-requires-clause-terms c = small-terms c.args.sop.now c.requires

pub add_offset-requires-clause-terms : goal.add_offset-requires-clause-terms
add_offset-requires-clause-terms c = small-terms c.args.sop.now c.requires

pub count_if-requires-clause-there : goal.count_if-requires-clause-there
count_if-requires-clause-there c =
    let stands = c.in_ok-add_all_times.ensures.stands in
    subst (λ (w : Work). AllThere w.net w.heap.columns) (sym c.add_offset.ensures) stands.there

pub returns-clause-net : goal.returns-clause-net
returns-clause-net c =
    let s = c.args.sop.now in
    let g = c.guard_bits-guard.result in
    let w = c.add_offset.new.work in
    let all : w ≡ added s g =
    c.add_offset.ensures
    ∙ ap (with_offset s g) (c.in_ok-add_all_times.ensures.ok
    ∙ ap (with_all_times s g s.products) (c.in_ok-add_all_scaled.ensures.ok
    ∙ ap (with_all_scaled s g s.scaled) c.in_ok-work.ensures.ok)) in
    let u : Counting = record { net = c.count_if.new.net; heap = c.in_ok-counted.counted } in
    let counted_is : u ≡ counted s g =
    ap (λ n. record { net = n; heap = u.heap }) c.in_ok-counted.ensures.ok
    ∙ ap (λ h. record { net = (counted_if c.has_counters.result w.net w.heap).net; heap = h }) c.in_ok-counted.ensures.heap
    ∙ ap (λ b. counted_if b w.net w.heap) c.has_counters.ensures
    ∙ ap (λ (w : Work). counted_if (has_counters s.compressor) w.net w.heap) all in
    let p : Placed = record { net = c.compress.new.net; place = c.in_ok-node.node } in
    let sum_is : p ≡ summed s g =
    ap (λ n. record { net = n; place = p.place }) c.in_ok-node.ensures.ok
    ∙ ap (λ k. record { net = (compressed u.net u.heap).net; place = k }) c.in_ok-node.ensures.place
    ∙ ap (λ (v : Counting). compressed v.net v.heap) counted_is in
    record {
      guard = g;
      least = c.guard_bits-guard.ensures.least;
      made = c.in_ok-output.ensures.ok
          ∙ ap (λ (f : Format). record p.net {
            outputs = p.net.outputs ++ record { name = codes "y"; from = record { node = p.place; high = f.width + g - 1; low = g } } ∷ [];
          }) c.output.ensures.value
          ∙ ap (λ (r : Placed). record r.net {
            outputs = r.net.outputs ++ record { name = codes "y"; from = record { node = r.place; high = heap_width s g - 1; low = g } } ∷ [];
          }) sum_is;
    }

pub returns-clause-fits : goal.returns-clause-fits
returns-clause-fits c = fits_modes c.args.sop.now c.requires c.output-2.new.self (returns-clause-net c)
