-- When the ports of a design are those that a specification asks for.
use Rattle.std.specs.Prelude.{◌≡◌, map}
use Rattle.std.specs.Char.{to_ascii_lowercase}
use Rattle.std.specs.List.{AllZip}
use Rattle.opgen_design.specs.declared.design.Design.{Design}
use Rattle.opgen_design.specs.declared.design.Port.{Port}
use Rattle.opgen_operator.specs.declared.spec.Spec.{Spec}
use Rattle.opgen_operator.specs.Outputs.{operator_ports}

-- two ports with one name in lower case, one direction and one width
pub record IsSamePort (p q : Port) : Type 0 where
  pub name : map to_ascii_lowercase p.name ≡ map to_ascii_lowercase q.name
  pub dir : p.dir ≡ q.dir
  pub width : p.width ≡ q.width

-- as many ports, and each the same as that at its place
abbrev pub PortsAgree : Spec → Design → Type 0
PortsAgree spec d = AllZip IsSamePort d.ports (operator_ports spec)
