use Rattle.std.proofs.Common.{◌≡◌, ◌^◌}
use Rattle.std.specs.Prelude.{ℤ, pos, ◌+ℤ◌, All}
use Rattle.opgen_heap.specs.Adding.{residue}
use Rattle.opgen_heap.specs.Standing.{AllThere}
use Rattle.opgen_net.specs.Flow.{Inputs, flow}
use Rattle.opgen_net.specs.Valid.{IsValid, input_widths}
use Rattle.opgen_design.specs.Run.{AreWords}
use Rattle.opgen_kcm.specs.Recipe.{Terms, with_chunks, HasTermsMore}
use Rattle.opgen_kcm.specs.Multiple.{sum_at}
use Rattle.opgen_kcm.proofs.Multiples.{total}
use Rattle.opgen_kcm.proofs.rows.rows_of.Given as goal

abbrev pub invariant-chunks : goal.invariant-chunks
invariant-chunks l =
    let old : Terms = record { net = l.initial.net; heap = l.initial.heap } in
    let now : Terms = record { net = l.net; heap = l.heap } in
    record {
      net : l.net ≡ (with_chunks l.units l.input l.width l.signed l.place old).net;
      heap : l.heap ≡ (with_chunks l.units l.input l.width l.signed l.place old).heap;
      valid : IsValid l.net;
      more : HasTermsMore old now;
      sum : AllThere l.initial.net l.initial.heap.columns → (inputs : Inputs) (t : ℤ) → All (AreWords (input_widths l.initial.net)) inputs
          → sum_at now inputs t
          ≡ residue (pos (sum_at old inputs t) +ℤ total l.units l.width l.signed l.place (flow l.initial.net.nodes inputs l.input t))
          (2 ^ l.initial.heap.width);
    }
