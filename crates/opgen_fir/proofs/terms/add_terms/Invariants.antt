use Rattle.std.proofs.Common.{◌≡◌}
use Rattle.std.specs.Prelude.{ℤ, All}
use Rattle.opgen_heap.specs.Standing.{AllThere}
use Rattle.opgen_net.specs.Flow.{Inputs}
use Rattle.opgen_net.specs.Valid.{IsValid, input_widths}
use Rattle.opgen_design.specs.Run.{AreWords}
use Rattle.opgen_kcm.specs.Recipe.{HasTermsMore}
use Rattle.opgen_kcm.specs.Multiple.{sum_at}
use Rattle.opgen_fir.specs.Recipe.{no_terms, with_terms}
use Rattle.opgen_fir.specs.Summed.{recent, HasSum}
use Rattle.opgen_fir.proofs.terms.add_terms.Given as goal

abbrev pub invariant-taps : goal.invariant-taps
invariant-taps l = record {
  net : l.net ≡ (with_terms l.sum l.tap).net;
  heap : l.heap ≡ (with_terms l.sum l.tap).heap;
  valid : IsValid l.net;
  more : HasTermsMore (no_terms l.sum) (record { net = l.net; heap = l.heap });
  bits : AllThere l.net l.heap.columns;
  sum : (inputs : Inputs) (t : ℤ) → All (AreWords (input_widths l.initial.net)) inputs
      → HasSum l.sum (recent l.sum inputs t) l.tap l.initial.heap.width (sum_at (record { net = l.net; heap = l.heap }) inputs t);
}
