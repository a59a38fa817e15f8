-- When a design serves a specification at a latency, and when it recovers: its ports, and what its runs give. It mentions no net and
-- no schedule.
use Rattle.std.specs.Prelude.{ℕ, ◌+◌, ◌≡◌, ◌≤◌, Bool, List, ◌++◌, map, slice_get, All, Some}
use Rattle.opgen_design.specs.declared.design.Design.{Design}
use Rattle.opgen_design.specs.declared.design.Dir.TheVariants.{In}
use Rattle.opgen_design.specs.declared.design.Port.{Port}
use Rattle.opgen_design.specs.Run.{AreWords, Words, Run, RunsOn, input_widths, words_at_outputs, enable_inputs, counted, data_inputs}
use Rattle.opgen_operator.specs.declared.spec.Spec.{Spec}
use Rattle.opgen_operator.specs.Operator.{memory}
use Rattle.opgen_operator.specs.Outputs.{operator_ports, IsGood, IsInRange, inputs_of, outputs_of, recent_words, output_words}

-- the ports of a specification's circuit: that of the clock enable, where there is one, its inputs and its outputs
abbrev pub ports_for : Spec → (enable : Bool) → List Port
ports_for spec enable =
    map (λ i. record { name = i.0; dir = In; width = i.1 }) (enable_inputs enable) ++ operator_ports spec

-- What a run gives for a cycle is good: where the inputs up to that cycle are in range, the outputs the latency later are good for them.
-- Cycles are those that count: with a clock enable, the ones in which its word is 1, in their order.
abbrev pub IsGoodAt : Spec → (latency : ℕ) → (enable : Bool) → Design → (inputs : List (List (List Bool))) → List Words → (t : ℕ) → Type 0
IsGoodAt spec latency enable d inputs vs t =
    let enabled_cycles = counted enable vs vs in
    let enabled_inputs = data_inputs enable (counted enable vs inputs) in
    let history = recent_words (inputs_of spec) enabled_inputs t in
    (v : Words) → slice_get enabled_cycles (t + latency) ≡ Some v → IsInRange spec history
    → IsGood spec history (output_words (outputs_of spec) (words_at_outputs d v))

-- A design serves a specification at a latency where it has its ports, has a run over each list of words of its inputs, and
-- what each run gives is good for every cycle.
pub record Serves (spec : Spec) (latency : ℕ) (enable : Bool) (d : Design) : Type 0 where
  pub ports : d.ports ≡ ports_for spec enable
  pub runs : (inputs : List (List (List Bool))) → All (AreWords (input_widths d)) inputs → (vs : List Words) × Run d inputs vs
  pub good : (inputs : List (List (List Bool))) (vs : List Words) → Run d inputs vs → (t : ℕ) → IsGoodAt spec latency enable d inputs vs t

-- A design recovers where, whatever words its registers hold at the start, what it gives is good for each cycle that has so many
-- cycles before it as the operator remembers: outputs are good from the latency and that memory on.
abbrev pub Recovers : Spec → (latency : ℕ) → (enable : Bool) → Design → Type 0
Recovers spec latency enable d = (start : List (List Bool)) (inputs : List (List (List Bool))) (vs : List Words) → RunsOn d start inputs vs
    → (t : ℕ) → memory spec.op ≤ t → IsGoodAt spec latency enable d inputs vs t
