use Rattle.std.proofs.Common.{◌≡◌, ◌-◌, ◌<◌, length, sym, ap, ◌∙◌, arith, inl, inr, None}
use Rattle.std.proofs.lemmas.Bool.{cases_lt}
use Rattle.std.proofs.lemmas.List.{nil_from_length}
use Rattle.std.proofs.lemmas.Option.{slice_get-get_or}
use Rattle.std.specs.Prelude.{slice_get}
use Rattle.opgen_components.specs.Graph.{graph_of}
use Rattle.opgen_components.proofs.Ends.{path-empty}
use Rattle.opgen_components.proofs.Steps.{length-graph, root-walk, root-met, root-kept}
use Rattle.opgen_components.proofs.walk.Walk.visit.Goals as goal

pub steps-init : goal.steps-init
steps-init c =
    let g = graph_of c.args.graph.now in
    let there : c.args.root < length g = omega (arith, c.requires.there, length-graph c.args.graph.now) in
    let empty : length c.args.self.now.path.items ≡ 0 = ap length c.requires.path in
    record {
      walk = root-walk g c.args.self.now c.enter.new.self c.requires.walk empty c.args.root there c.requires.new c.in_ok-enter.ensures;
      kept = root-kept g c.args.self.now c.enter.new.self c.requires.walk empty c.args.root there c.requires.new c.in_ok-enter.ensures;
      met = root-met g c.args.self.now c.enter.new.self c.requires.walk empty c.args.root there c.requires.new c.in_ok-enter.ensures;
    }

pub returns-clause-path : goal.returns-clause-path
returns-clause-path c =
    let w = c.steps.self in
    let places = w.open_places.items in
    let none : slice_get places (length places - 1) ≡ None = ap (λ x. slice_get x (length x - 1)) (sym c.deref.ensures.value)
    ∙ sym c.top.ensures ∙ c.in_default.is in
    let empty : length places ≡ 0 = elim (cases_lt 0 (length places)) [
      | inl l ↦
          let a = slice_get-get_or places (length places - 1) 0 (omega (arith, l)) in
          absurd (cc)
      | inr l ↦ omega (arith, l)
    ] in
    nil_from_length w.path.items
    (path-empty (graph_of c.args.graph.now) w.marks.items w.next.items w.path.items w.bounds.items places
    (length w.done.items) c.steps.invariant.walk empty)
