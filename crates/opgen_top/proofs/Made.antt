-- The net for a table that is made of a specification's net fits the specification where that does.
use Rattle.std.proofs.Common.{ℕ, ◌<◌, Bool, true, false, map, sym, ◌∙◌, subst}
use Rattle.std.specs.Prelude.{All, nat_lt, pos, if◌then◌else◌}
use Rattle.opgen_cuts.specs.Same.{IsSameCircuit}
use Rattle.opgen_design.specs.Run.{AreWords}
use Rattle.opgen_net.specs.declared.net.Net.{Net}
use Rattle.opgen_net.specs.Valid.{IsValid, input_widths}
use Rattle.opgen_operator.specs.declared.spec.Spec.{Spec}
use Rattle.opgen_operator.specs.Fits.{FitsSpec}
use Rattle.opgen_operator.specs.Operator.{memory}
use Rattle.opgen_operator.specs.Outputs.{IsGood, inputs_of, outputs_of, output_words, recent_words}
use Rattle.opgen_target.specs.Delays.{Delays}
use Rattle.opgen_timing.specs.Nets.{net_for}
use Rattle.opgen_timing.proofs.Made.{cut_nets_are_same}
use Rattle.opgen_top.specs.Circuit.{made_net}

-- a valid net that is the same circuit as one that fits
same_fits : (spec : Spec) (old new : Net) → IsValid new → IsSameCircuit old new → FitsSpec spec old → FitsSpec spec new
same_fits spec old new valid same fits = record {
  valid = valid;
  inputs = same.inputs ∙ fits.inputs;
  outputs = same.outputs ∙ fits.outputs;
  delays = same.delays (memory spec.op) fits.delays;
  good = λ inputs t words within ranged.
      let words_in : All (AreWords (input_widths old)) inputs = subst (λ is. All (AreWords (map (λ i. i.1) is)) inputs) same.inputs words in
      subst (λ ws. IsGood spec (recent_words (inputs_of spec) inputs t) (output_words (outputs_of spec) ws))
      (sym (same.words inputs (pos t) words_in)) (fits.good inputs t words_in within ranged);
}

module _ (spec : Spec) (table : Delays) (net : Net) (fits : FitsSpec spec net) where
  by_version : (b : Bool) → FitsSpec spec (if b then net else net_for table spec.period net)
  by_version true = fits
  by_version false =
      let made = cut_nets_are_same table spec.period net fits.valid in
      same_fits spec net (net_for table spec.period net) made.0 made.1 fits

  pub made_fits : FitsSpec spec (made_net spec table net)
  made_fits = by_version (nat_lt spec.version 4)
