use Rattle.std.proofs.Common.{ℕ, ◌≡◌, ◌<◌, Some}
use Rattle.std.specs.Prelude.{ℤ, slice_get}
use Rattle.opgen_ports.specs.Good.{IsGoodRatio}
use Rattle.opgen_kinds.specs.Several.{exact_multiple, multiple_ports}
use Rattle.opgen_ports.specs.Ports.{output_numbers}
use Rattle.opgen_kinds.proofs.several.multiples_are_good.Given as goal

abbrev pub invariant-constants : goal.invariant-constants
invariant-constants l = record {
  place : l.place ≡ l.constant-index;
  good : (k : ℕ) (t : ℤ) → k < l.constant-index → slice_get l.several.constants k ≡ Some t
      → IsGoodRatio l.mode (exact_multiple t l.x) (output_numbers (multiple_ports l.several) l.outputs k);
}
