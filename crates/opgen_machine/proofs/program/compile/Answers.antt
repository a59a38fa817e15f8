use Rattle.std.proofs.Common.{◌≡◌, List, length, map, ap, ◌∙◌, arith}
use Rattle.std.proofs.lemmas.List.{length-map}
use Rattle.opgen_design.specs.declared.design.Signal.{Signal}
use Rattle.opgen_machine.specs.declared.step.Spot.{Spot}
use Rattle.opgen_machine.specs.Layout.{first_spots, port_spots, rest_of, spots_from}
use Rattle.opgen_machine.specs.Programs.{Spots}
use Rattle.opgen_machine.proofs.First.{length-from}
use Rattle.opgen_machine.proofs.program.compile.Goals as goal

spots-eq : (a b : List Spot) (s : Spots) → a ≡ s.signals → b ≡ s.ports → record { signals = a; ports = b } ≡ s
spots-eq a b s e f = ap (λ x. record { signals = x; ports = b }) e ∙ ap (λ x. record { signals = s.signals; ports = x }) f

pub compile_on-requires-clause-spots : goal.compile_on-requires-clause-spots
compile_on-requires-clause-spots c =
    let d = c.args.design.now in
    let ss = c.as_slice.result.now in
    let widths = map (λ (s : Signal). s.width) ss in
    let at : c.len.result ≡ length d.signals =
    omega (
      arith,
      c.len.ensures,
      c.in_ok-signals.signals.ok.0,
      ap length c.in_ok-signals.ensures,
      length-from 0 widths,
      length-map ss (λ (s : Signal). s.width),
      ap length c.as_slice.ensures,
    ) in
    spots-eq c.in_ok-signals.signals.items c.in_ok-ports.ports.items (first_spots d)
    (c.in_ok-signals.ensures ∙ ap (λ xs. spots_from 0 (map (λ (s : Signal). s.width) xs)) c.as_slice.ensures)
    (c.in_ok-ports.ensures
    ∙ ap (λ n. port_spots n c.args.rest c.as_slice-2.result.now) at
    ∙ ap (λ n. port_spots (length d.signals) n c.as_slice-2.result.now) c.requires.rest
    ∙ ap (port_spots (length d.signals) (rest_of d)) c.as_slice-2.ensures)
