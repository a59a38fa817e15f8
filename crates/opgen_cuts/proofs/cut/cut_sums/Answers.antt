use Rattle.std.proofs.Common.{◌≡◌, ℕ, List, map, sym, ap, ◌∙◌, subst}
use Rattle.std.specs.Prelude.{All}
use Rattle.opgen_net.specs.declared.net.Net.{Net}
use Rattle.opgen_net.specs.declared.net.Output.{Output}
use Rattle.opgen_net.specs.Valid.{IsValid}
use Rattle.opgen_cuts.specs.declared.cutting.Cutting.{Cutting}
use Rattle.opgen_cuts.specs.Recipe.{cut_net, cutting_of, with_slices}
use Rattle.opgen_cuts.specs.Renamed.{renamed_output}
use Rattle.opgen_cuts.specs.Same.{HasNoWideSum, IsSameCircuit}
use Rattle.opgen_cuts.proofs.Law.{cut-narrow, cut-same, cut-valid}
use Rattle.opgen_cuts.proofs.cut.cut_sums.Goals as goal

made : (net : Net) (most : ℕ) (s : Cutting) (places : List ℕ) (old new : List Output) → s ≡ cutting_of most net → places ≡ s.places
    → old ≡ net.outputs → new ≡ map (renamed_output places) old
    → ◌≡◌ {A = Net} (record { inputs = s.net.inputs; nodes = s.net.nodes; outputs = new }) (cut_net most net)
made net most s places old new is at from e =
    ap (λ os. record { inputs = s.net.inputs; nodes = s.net.nodes; outputs = os })
    (e ∙ ap (λ ps. map (renamed_output ps) old) at ∙ ap (map (renamed_output s.places)) from)
    ∙ ap (with_slices net) is

pub returns-clause-valid : goal.returns-clause-valid
returns-clause-valid c =
    let net = c.args.net.now in
    let is = made net c.args.most c.in_ok-cutting.cutting c.as_slice.result.now c.as_slice-2.result.now c.in_ok-outputs.outputs
    c.in_ok-cutting.ensures c.as_slice.ensures c.as_slice-2.ensures c.in_ok-outputs.ensures in
    subst IsValid (sym is) (cut-valid net c.requires.valid c.args.most c.requires.most.0 c.requires.most.1)

pub returns-clause-same : goal.returns-clause-same
returns-clause-same c =
    let net = c.args.net.now in
    let is = made net c.args.most c.in_ok-cutting.cutting c.as_slice.result.now c.as_slice-2.result.now c.in_ok-outputs.outputs
    c.in_ok-cutting.ensures c.as_slice.ensures c.as_slice-2.ensures c.in_ok-outputs.ensures in
    subst (IsSameCircuit net) (sym is) (cut-same net c.requires.valid c.args.most c.requires.most.0 c.requires.most.1)

pub returns-clause-narrow : goal.returns-clause-narrow
returns-clause-narrow c =
    let most = c.args.most in
    subst (λ (s : Cutting). All (HasNoWideSum most) s.net.nodes) (sym c.in_ok-cutting.ensures)
    (cut-narrow c.args.net.now c.requires.valid most c.requires.most.0 c.requires.most.1)
