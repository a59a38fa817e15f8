-- The design of a net that fits a specification serves it, at each schedule that fits a period.
use Rattle.std.proofs.Common.{◌≡◌, ℕ, zero, suc, ◌+◌, ◌<◌, ◌≤◌, ◌^◌, Bool, true, false, List, [], ◌∷◌, ◌++◌, length, map, Some, refl, sym, ap, ◌∙◌, subst, arith}
use Rattle.std.specs.Prelude.{pos, All, slice_get}
use Rattle.std.proofs.lemmas.List.{append_assoc, map-append}
use Rattle.std.proofs.lemmas.Option.{slice_get_within}
use Rattle.std.proofs.lemmas.Simd.{map-map}
use Rattle.opgen_design.specs.declared.design.Design.{Design}
use Rattle.opgen_design.specs.declared.design.Dir.TheVariants.{In, Out}
use Rattle.opgen_design.specs.declared.design.Port.{Port}
use Rattle.opgen_design.specs.Run.{Words, Run, AreWords, at_ports, is_in, words_at_outputs, enable_inputs, counted, data_inputs}
use Rattle.opgen_net.specs.declared.net.Net.{Net}
use Rattle.opgen_net.specs.declared.net.Output.{Output}
use Rattle.opgen_net.specs.Flow.{Inputs, slice_flow}
use Rattle.opgen_net.specs.Made.{input_port, output_port}
use Rattle.opgen_net.specs.Named.{IsNamed}
use Rattle.opgen_net.specs.Valid.{slice_width, input_widths as net_widths}
use Rattle.opgen_operator.specs.declared.spec.Spec.{Spec}
use Rattle.opgen_operator.specs.Fits.{FitsSpec, name_and_width}
use Rattle.opgen_operator.specs.Outputs.{IsGood, IsInRange, inputs_of as spec_inputs, outputs_of, port_of, recent_words, output_words}
use Rattle.opgen_pipe.specs.Copies.{net_latency, signal_count}
use Rattle.opgen_pipe.specs.Laws.{FollowsFlow}
use Rattle.opgen_pipe.specs.Pipelined.{design_of, ports_of}
use Rattle.opgen_pipe.specs.Times.{ago}
use Rattle.opgen_pipe.proofs.Soundness.{design_sound}
use Rattle.opgen_pipe.proofs.Follows.{ago-next}
use Rattle.opgen_schedule.specs.Schedule.{Schedule, Fits}
use Rattle.opgen_runs.proofs.OneRun.{one-run}
use Rattle.opgen_operator.specs.Serves.{ports_for, Serves}
use Rattle.opgen_top.proofs.Taken.{run_words, run_long, taken_long, taken_words, widths_after}

ago_back : (t l : ℕ) → ago (t + l) l ≡ pos t
ago_back t zero = let e : t + 0 ≡ t = omega arith in ap pos e
ago_back t (suc l) =
    let e : t + suc l ≡ suc (t + l) = omega arith in
    ap (λ u. ago u (suc l)) e ∙ ago-next (t + l) l ∙ ago_back t l

widths_in : (is : List (List ℕ × ℕ)) (os : List Output)
    → at_ports is_in (map input_port is ++ map output_port os) (map (λ p. p.width) (map input_port is ++ map output_port os))
    ≡ map (λ i. i.1) is
widths_in [] [] = refl
widths_in [] (o ∷ os) = widths_in [] os
widths_in (i ∷ is) os = ap (λ ws. i.1 ∷ ws) (widths_in is os)

first_width : (enable : Bool) (is : List (List ℕ × ℕ)) → map (λ i. i.1) (enable_inputs enable ++ is)
    ≡ widths_after enable (map (λ i. i.1) is)
first_width true is = refl
first_width false is = refl

-- the output port of a name and a width
abbrev out_port : List ℕ × ℕ → Port
out_port o = record { name = o.0; dir = Out; width = o.1 }

module _ (spec : Spec) (net : Net) (fits : FitsSpec spec net) (enable : Bool) where
  inputs_are : map input_port net.inputs ≡ map (port_of In) (spec_inputs spec)
  inputs_are = ap (map input_port) fits.inputs ∙ map-map input_port name_and_width (spec_inputs spec)

  outputs_are : map output_port net.outputs ≡ map (port_of Out) (outputs_of spec)
  outputs_are =
      sym (map-map out_port (λ (o : Output). (o.name, slice_width o.from)) net.outputs)
      ∙ ap (map out_port) fits.outputs
      ∙ map-map out_port name_and_width (outputs_of spec)

  -- the ports are those that the specification asks for
  pub made_ports : ports_of enable net ≡ ports_for spec enable
  made_ports =
      ap (λ ps. ps ++ map output_port net.outputs) (map-append input_port (enable_inputs enable) net.inputs
      ∙ ap (λ ps. map input_port (enable_inputs enable) ++ ps) inputs_are)
      ∙ ap (λ ps. (map input_port (enable_inputs enable) ++ map (port_of In) (spec_inputs spec)) ++ ps) outputs_are
      ∙ append_assoc (map input_port (enable_inputs enable)) (map (port_of In) (spec_inputs spec)) (map (port_of Out) (outputs_of spec))

  module _ (name : List ℕ) (named : IsNamed name net) (delays : List ℕ) (setup period : ℕ) (s : Schedule)
      (fit : Fits net.nodes delays setup period s) (few : signal_count net s ≤ 2 ^ 64)
      (follows : (inputs : Inputs) (vs : List Words) → Run (design_of name enable net s) inputs vs
      → (u : ℕ) (v : Words) → slice_get (counted enable vs vs) u ≡ Some v
      → FollowsFlow name enable net s (data_inputs enable (counted enable vs inputs)) u v) where
    abbrev design : Design
    design = design_of name enable net s

    -- inputs of a run, in the cycles that count, are inputs of the net
    net_words : (inputs : Inputs) (vs : List Words) → Run (design_of name enable net s) inputs vs
        → All (AreWords (net_widths net)) (data_inputs enable (counted enable vs inputs))
    net_words inputs vs run =
        taken_words enable (net_widths net) inputs vs
        (subst (λ ws. All (AreWords ws) inputs) (widths_in (enable_inputs enable ++ net.inputs) net.outputs
        ∙ first_width enable net.inputs) (run_words (design_of name enable net s) _ inputs vs run))

    good : (inputs : Inputs) (vs : List Words) → Run (design_of name enable net s) inputs vs → (t : ℕ) (v : Words)
        → slice_get (counted enable vs vs) (t + net_latency net s) ≡ Some v
        → IsInRange spec (recent_words (spec_inputs spec) (data_inputs enable (counted enable vs inputs)) t)
        → IsGood spec (recent_words (spec_inputs spec) (data_inputs enable (counted enable vs inputs)) t)
        (output_words (outputs_of spec) (words_at_outputs (design_of name enable net s) v))
    good inputs vs run t v there range =
        let l = net_latency net s in
        let taken = data_inputs enable (counted enable vs inputs) in
        let within : t < length taken =
        omega (
          arith,
          slice_get_within (counted enable vs vs) (t + l) v there,
          taken_long enable inputs vs (run_long (design_of name enable net s) _ inputs vs run),
        ) in
        let words : words_at_outputs (design_of name enable net s) v ≡ map (λ o. slice_flow net.nodes taken o.from (pos t)) net.outputs =
        (follows inputs vs run (t + l) v there).outputs
        ∙ ap (λ time. map (λ o. slice_flow net.nodes taken o.from time) net.outputs) (ago_back t l) in
        subst (λ ws. IsGood spec (recent_words (spec_inputs spec) taken t) (output_words (outputs_of spec) ws)) (sym words)
        (fits.good taken t (net_words inputs vs run) within range)

    pub serves : Serves spec (net_latency net s) enable (design_of name enable net s)
    serves = record {
      ports = made_ports;
      runs = λ inputs words.
          let r = one-run (design_of name enable net s)
          (design_sound name enable net delays setup period s fits.valid named fit few) inputs words in
          (r.0, r.1.run);
      good = good;
    }
