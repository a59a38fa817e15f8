use Rattle.std.proofs.Common.{◌≡◌, ◌++◌, ◌<◌, ◌≤◌, ◌∙◌, length, get_or, FitsSigned, ap, arith}
use Rattle.std.specs.Prelude.{ℤ, pos, codes, unsigned_abs}
use Rattle.std.specs.Fmt.{decimal}
use Rattle.std.specs.Int.{w64}
use Rattle.std.proofs.lemmas.Int.{ints, to_z-of_z}
use Rattle.opgen_kinds.specs.Several.{constant_format}
use Rattle.opgen_ports.specs.Ports.{port}
use Rattle.opgen_kinds.proofs.of_kind.Several.{numbered_more}
use Rattle.opgen_kinds.proofs.several.constants.Goals as goal

pub overflow_add-number : goal.overflow_add-number
overflow_add-number c =
    omega (arith, rw c.as_slice-constant-items.ensures at c.constants-test.true, c.constants.invariant.place, c.requires.few)

pub constants-preserved : goal.constants-preserved
constants-preserved c =
    let m = c.args.several.now in
    let i = c.constants.constant-index in
    let n = c.constants.number in
    let same = c.as_slice-constant-items.ensures in
    let here : i < length m.constants = rw same at c.constants-test.true in
    let constant : ℤ = get_or m.constants i (pos 0) in
    let small : unsigned_abs constant ≤ 1048575 = c.requires.constants i (pos 0) here in
    let fits_constant : FitsSigned w64 constant = omega (arith, ints) in
    let format : c.constant_format.result ≡ constant_format m.input constant = simp to_z-of_z at rw same at c.constant_format.ensures in
    let made : c.in_ok-numbered.field-0 ≡ port (codes "y" ++ decimal n) (constant_format m.input constant) =
    c.in_ok-numbered.ensures ∙ ap (port (codes "y" ++ decimal n)) format in
    record {
      made = rw c.in_ok-push.ensures.items (numbered_more (constant_format m.input) m.constants i n c.in_ok-numbered.field-0
          c.constants.ports.items _ here made c.constants.invariant.made);
      place = omega (arith, c.constants.invariant.place);
    }
