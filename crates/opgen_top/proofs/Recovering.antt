-- The design of a net that fits a specification recovers: a run from any words of its registers has the outputs of the run from its
-- initial words, as soon as they look back to no cycle before the first.
use Rattle.std.proofs.Common.{◌≡◌, ℕ, suc, ◌+◌, ◌-◌, ◌<◌, ◌≤◌, ◌^◌, Bool, true, false, List, [], ◌∷◌, length, Some, refl, sym, ap, ◌∙◌, subst, arith}
use Rattle.std.specs.Prelude.{slice_get}
use Rattle.std.proofs.lemmas.List.{length-map}
use Rattle.std.proofs.lemmas.Option.{slice_get_within}
use Rattle.opgen_design.specs.declared.design.Design.{Design}
use Rattle.opgen_design.specs.declared.design.Dir.TheVariants.{In}
use Rattle.opgen_design.specs.Depth.{AgreeFrom, LooksBack}
use Rattle.opgen_design.specs.Run.{AnyCyclesAreRuns, Cycle, EnabledCyclesAreRuns, Words, Run, RunsOn, counted, data_inputs, initial_words, marked, ones_at, without_enable, words_at_outputs, is_one}
use Rattle.opgen_design.specs.Sound.{IsSound}
use Rattle.opgen_design.specs.Value.{word_at}
use Rattle.opgen_design.proofs.WithoutEnable.{sound-free}
use Rattle.opgen_net.specs.declared.net.Net.{Net}
use Rattle.opgen_net.specs.Named.{IsNamed}
use Rattle.opgen_operator.specs.declared.spec.Spec.{Spec}
use Rattle.opgen_operator.specs.Fits.{FitsSpec}
use Rattle.opgen_operator.specs.Operator.{memory}
use Rattle.opgen_operator.specs.Outputs.{IsGood, IsInRange, inputs_of, outputs_of, recent_words, output_words}
use Rattle.opgen_operator.specs.Serves.{IsGoodAt, Recovers, Serves}
use Rattle.opgen_pipe.specs.Copies.{net_latency, signal_count}
use Rattle.opgen_pipe.specs.Pipelined.{design_of}
use Rattle.opgen_pipe.proofs.Counted.{counted-runs}
use Rattle.opgen_pipe.proofs.Depths.{design-looks_back}
use Rattle.opgen_pipe.proofs.Soundness.{design_sound}
use Rattle.opgen_design.proofs.NameWalk.{some-item}
use Rattle.opgen_runs.proofs.TwoCycles.{same-inputs}
use Rattle.opgen_schedule.specs.Schedule.{Schedule, Fits}
use Rattle.opgen_sim.proofs.OutputDepth.{outputs-depend}
use Rattle.opgen_top.proofs.Taken.{run_words, run_long, taken_long}

-- two runs over the same inputs have the same words at the enable
module _ (called : List ℕ) (net : Net) (s : Schedule) where
  abbrev enabled_design : Design
  enabled_design = design_of called true net s

  ports-long : (now given : List (List Bool)) (v : Words) (next : List (List Bool)) → Cycle (design_of called true net s) now given v next
      → length v.ports ≡ length (design_of called true net s).ports
  ports-long now given v next c =
      sym (length-map v.ports length) ∙ ap length c.port_widths ∙ length-map (design_of called true net s).ports (λ p. p.width)

  ones-same : (now later : List (List Bool)) (inputs : List (List (List Bool))) (vs us : List Words)
      → RunsOn (design_of called true net s) now inputs vs → RunsOn (design_of called true net s) later inputs us → ones_at 0 vs ≡ ones_at 0 us
  ones-same now later [] [] [] r q = refl
  ones-same now later [] [] (u ∷ us) r q = absurd q
  ones-same now later [] (v ∷ vs) us r q = absurd r
  ones-same now later (given ∷ inputs) [] us r q = absurd r
  ones-same now later (given ∷ inputs) (v ∷ vs) [] r q = absurd q
  ones-same now later (given ∷ inputs) (v ∷ vs) (u ∷ us) (n, c, r) (m, k, q) =
      let first : word_at v.ports 0 ≡ word_at u.ports 0 =
      same-inputs enabled_design.ports v.ports u.ports (ports-long now given v n c) (ports-long later given u m k)
      (c.inputs ∙ sym k.inputs) 0 (record { name = _; dir = In; width = 1 }) refl refl in
      ap (λ w. is_one w ∷ ones_at 0 vs) first ∙ ap (λ ws. is_one (word_at u.ports 0) ∷ ws) (ones-same n m inputs vs us r q)

counted-same : {X : Type 0} (enable : Bool) (called : List ℕ) (net : Net) (s : Schedule) (now later : List (List Bool))
    (inputs : List (List (List Bool))) (vs us : List Words) → RunsOn (design_of called enable net s) now inputs vs
    → RunsOn (design_of called enable net s) later inputs us → (xs : List X) → counted enable vs xs ≡ counted enable us xs
counted-same true called net s now later inputs vs us r q xs = ap (λ marks. marked marks xs) (ones-same called net s now later inputs vs us r q)
counted-same false called net s now later inputs vs us r q xs = refl

module _ (enabled : EnabledCyclesAreRuns) (any : AnyCyclesAreRuns) (spec : Spec) (net : Net) (fits : FitsSpec spec net) (enable : Bool)
    (called : List ℕ) (named : IsNamed called net) (delays : List ℕ) (setup period : ℕ) (s : Schedule)
    (fit : Fits net.nodes delays setup period s) (few : signal_count net s ≤ 2 ^ 64)
    (serves : Serves spec (net_latency net s) enable (design_of called enable net s)) where
  abbrev design : Design
  design = design_of called enable net s

  sound : IsSound (without_enable (design_of called enable net s))
  sound = sound-free design (design_sound called enable net delays setup period s fits.valid named fit few)

  looks : LooksBack (without_enable (design_of called enable net s)) (net_latency net s + memory spec.op)
  looks = design-looks_back called enable net delays setup period s fits.valid fit (memory spec.op) fits.delays

  pub recovers : Recovers spec (net_latency net s) enable (design_of called enable net s)
  recovers start inputs vs run t remembers v there range =
      let l = net_latency net s in
      let m = memory spec.op in
      let begun = initial_words design.signals in
      let other = serves.runs inputs (run_words design start inputs vs run) in
      let us = other.0 in
      let same : counted enable vs inputs ≡ counted enable us inputs = counted-same enable called net s start begun inputs vs us run other.1 inputs in
      let long = taken_long enable inputs vs (run_long design start inputs vs run) in
      let other_long = taken_long enable inputs us (run_long design begun inputs us other.1) in
      let within : t + l < length (counted enable us us) =
      omega (arith, slice_get_within (counted enable vs vs) (t + l) v there, long, other_long, ap (λ xs. length (data_inputs enable xs)) same) in
      let w = some-item (counted enable us us) (t + l) within in
      let from : (t - m) + (l + m) ≡ t + l = omega (arith, remembers) in
      let agree : AgreeFrom (l + m) (t - m) (t - m) (counted enable vs inputs) (counted enable us inputs) =
      λ i most. ap (λ xs. slice_get xs ((t - m) + i)) same in
      let words : words_at_outputs design v ≡ words_at_outputs design w.0 =
      outputs-depend (without_enable design) (l + m) sound looks start begun (counted enable vs inputs) (counted enable us inputs)
      (counted enable vs vs) (counted enable us us) (counted-runs enabled any called enable net s start inputs vs run)
      (counted-runs enabled any called enable net s begun inputs us other.1) (t - m) (t - m) v w.0 agree
      (ap (slice_get (counted enable vs vs)) from ∙ there) (ap (slice_get (counted enable us us)) from ∙ w.1) in
      let past : List (List (List Bool)) → (port : ℕ) → ℕ → _ = λ xs. recent_words (inputs_of spec) (data_inputs enable xs) t in
      subst (λ ws. IsGood spec (past (counted enable vs inputs)) (output_words (outputs_of spec) ws)) (sym words)
      (subst (λ xs. IsGood spec (past xs) (output_words (outputs_of spec) (words_at_outputs design w.0))) (sym same)
      (serves.good inputs us other.1 t w.0 w.1 (subst (λ xs. IsInRange spec (past xs)) same range)))
