use Rattle.std.proofs.Common.{◌≡◌, ◌∙◌, ◌<◌, ◌≤◌, length, get_or, take, ap, sym, ⊎_elim, arith}
use Rattle.std.proofs.lemmas.Bool.{cases_lt}
use Rattle.std.proofs.lemmas.List.{get_or-take, length-take-le}
use Rattle.std.specs.Prelude.{◌≢◌, All}
use Rattle.opgen_ports.specs.declared.ports.PortFormat.{PortFormat}
use Rattle.opgen_operator.proofs.Listed.{get_same}
use Rattle.opgen_operator.proofs.given_names.differ.Goals as goal

pub returns-then-not-none_has : goal.returns-then-not-none_has
returns-then-not-none_has c =
    let ports = c.args.ports.now in
    let place = c.ports.place in
    let long : length (take place ports) ≡ place = length-take-le place ports (omega (arith, c.ports-test.true)) in
    let name : (d : PortFormat) → c.as_str.result.now ≡ (get_or ports place d).name =
    λ d. c.as_str.ensures ∙ ap (λ (p : PortFormat). p.name) (get_same ports place c.index-ports-place.result d c.ports-test.true) in (
      (λ is. cc),
      (λ pairs.
          let none : All (λ (p : PortFormat). p.name ≢ c.as_str.result.now) (take place ports) = λ k d below e.
          pairs k place d (omega (arith, below, long)) c.ports-test.true
          (ap (λ (p : PortFormat). p.name) (sym (get_or-take place ports k d (omega (arith, below, long)))) ∙ e ∙ name d) in
          sym c.if-not-none_has.true ∙ c.none_has.ensures.1 none),
    )

pub ports-preserved : goal.ports-preserved
ports-preserved c = λ i j d before below e. ⊎_elim
    (λ (lt : j < c.ports.place). c.ports.invariant i j d before lt e)
    (λ (ge : c.ports.place ≤ j).
    let ports = c.args.ports.now in
    let place = c.ports.place in
    let same : j ≡ place = omega (arith, ge, below) in
    let long : length (take place ports) ≡ place = length-take-le place ports (omega (arith, c.ports-test.true)) in
    let first : i < place = omega (arith, before, same) in
    c.none_has.ensures.0 c.if-not-none_has.false i d (omega (arith, first, long))
    (ap (λ (p : PortFormat). p.name) (get_or-take place ports i d first) ∙ e
    ∙ ap (λ k. (get_or ports k d).name) same
    ∙ ap (λ (p : PortFormat). p.name) (get_same ports place d c.index-ports-place.result c.ports-test.true) ∙ sym c.as_str.ensures))
    (cases_lt j c.ports.place)
