use Rattle.opgen_operator.proofs.Listed.{given_by, sound_by, apart_by, differ_by}
use Rattle.opgen_operator.proofs.given_names.are_given_names.Goals as goal

pub returns-then-are_port_names : goal.returns-then-are_port_names
returns-then-are_port_names c =
    let name = c.args.name.now in
    let ports = c.args.ports.now in (
      (λ is.
          let (apart, differ) = c.are_apart.ensures.0 is in
          given_by name ports (c.are_port_names.ensures.0 c.if-are_port_names.true) apart differ),
      (λ given. c.are_apart.ensures.1 (apart_by name ports given, differ_by name ports given)),
    )

pub returns-else-are_port_names : goal.returns-else-are_port_names
returns-else-are_port_names c = (
  (λ is. cc),
  (λ given. c.are_port_names.ensures.1 (sound_by c.args.name.now c.args.ports.now given)),
)
