-- Designs whose text is in the VHDL subset.
use Rattle.std.specs.Prelude.{◌≡◌, ◌≤◌, ◌++◌, length, filter, All, IsTrue, IsSome}
use Rattle.std.specs.List.{list_any}
use Rattle.opgen_design.specs.declared.expr.TheConstants.{MAX_NESTING}
use Rattle.opgen_design.specs.declared.design.Design.{Design}
use Rattle.opgen_design.specs.declared.design.Driver.{Driver}
use Rattle.opgen_design.specs.declared.design.Driver.TheVariants.{Assign, Choice, Table, Register, Output}
use Rattle.opgen_design.specs.Tree.{Tree, Trees, name, part, inverse, chain, none, more}
use Rattle.opgen_design.specs.Value.{nesting}
use Rattle.opgen_design.specs.Sound.{IsSound}
use Rattle.opgen_design.specs.Order.{is_register}
use Rattle.opgen_names.specs.Names.{is_allowed_name}
use Rattle.opgen_vhdl.specs.DesignText.{is_neither, is_output}

-- a signal, or a part of one
abbrev pub IsPart : Tree → Type 0
IsPart (name n) = Unit {0}
IsPart (part n high low) = Unit {0}
IsPart _ = ⊥

abbrev pub AreTwoOrMore : Trees → Type 0
AreTwoOrMore (more t (more u ts)) = Unit {0}
AreTwoOrMore _ = ⊥

abbrev mutual
  -- each chain in an expression has two operands or more
  pub HasFullChains : Tree → Type 0
  HasFullChains (inverse t) = HasFullChains t
  HasFullChains (chain op ts) = AreTwoOrMore ts × HaveFullChains ts
  HasFullChains _ = Unit {0}

  pub HaveFullChains : Trees → Type 0
  HaveFullChains none = Unit {0}
  HaveFullChains (more t ts) = HasFullChains t × HaveFullChains ts

-- the text of an expression has the subset's form: each operand of `not` and of a chain is one, and parentheses nest at most so deep
pub record IsShapedExpression (e : Tree) : Type 0 where
  pub chains : HasFullChains e
  pub nests : nesting e ≤ MAX_NESTING

abbrev pub IsShapedDriver : Driver → Type 0
IsShapedDriver (Assign to e) = IsShapedExpression e
IsShapedDriver (Choice to on one other) = IsPart on × IsShapedExpression one × IsShapedExpression other
IsShapedDriver (Table to on rows other) = IsPart on
IsShapedDriver (Register to e) = IsShapedExpression e
IsShapedDriver (Output place e) = IsShapedExpression e

-- each driver has the subset's form, the drivers stand in the order of the text, and where there is an enable there is a register
pub record IsShaped (d : Design) : Type 0 where
  pub drivers : All IsShapedDriver d.drivers
  pub in_order : d.drivers ≡ filter is_neither d.drivers ++ filter is_register d.drivers ++ filter is_output d.drivers
  pub enabled : IsSome d.enable → IsTrue (list_any is_register d.drivers)

pub record HasAllowedNames (d : Design) : Type 0 where
  pub entity : IsTrue (is_allowed_name d.name)
  pub ports : All (λ p. IsTrue (is_allowed_name p.name)) d.ports
  pub signals : All (λ s. IsTrue (is_allowed_name s.name)) d.signals

-- the designs that are to be written: sound, under allowed names, with a port
pub record IsWritable (d : Design) : Type 0 where
  pub sound : IsSound d
  pub names : HasAllowedNames d
  pub has_port : 1 ≤ length d.ports
