use Rattle.std.proofs.Common.{◌≡◌, ℕ, ◌+◌, ◌≤◌, Bool, true, false, Some, refl, arith}
use Rattle.std.specs.Prelude.{pos}
use Rattle.std.proofs.lemmas.Int.{ints}
use Rattle.opgen_ports.specs.declared.ports.PortFormat.{PortFormat}
use Rattle.opgen_ports.specs.declared.recipes.Recurrence.{Recurrence}
use Rattle.opgen_ports.specs.Ranges.{IsInput}
use Rattle.opgen_ports.proofs.InputPorts.{all_two}
use Rattle.opgen_num.specs.declared.format.Format.{Format}
use Rattle.opgen_kinds.specs.declared.pair.Pair.{Pair}
use Rattle.opgen_kinds.specs.Pair.{IsAcceptedPair, quotient_format}
use Rattle.opgen_divide.proofs.tests.built.Goals as goal

abbrev whole : (signed : Bool) → ℕ → Format
whole signed w = record { signed = signed; width = w; lsb = pos 0 }

abbrev by_three : (signed exact : Bool) → ℕ → Recurrence → Pair
by_three signed exact w recurrence =
    record { a = whole signed w; b = whole signed 3; out_lsb = pos 0; exact = exact; recurrence = recurrence }

ranged : (signed : Bool) (w : ℕ) → 2 ≤ w → w ≤ 7 → IsInput (whole signed w)
ranged true w some few = record { fewest = some; most = omega (arith, few); lsb = (omega (arith, ints), omega (arith, ints)) }
ranged false w some few = record { fewest = omega (arith, some); most = omega (arith, few); lsb = (omega (arith, ints), omega (arith, ints)) }

narrow : (signed exact : Bool) (w : ℕ) (recurrence : Recurrence) → w ≤ 7 → (bits : ℕ)
    → Some (quotient_format (by_three signed exact w recurrence)).width ≡ Some bits → bits ≤ 96
narrow true exact w recurrence few bits e = let same : w + 0 + 1 ≡ bits = cc in omega (arith, same, few)
narrow false exact w recurrence few bits e = let same : w + 0 + 0 ≡ bits = cc in omega (arith, same, few)

accepted : (signed exact : Bool) (w : ℕ) (recurrence : Recurrence) → 2 ≤ w → w ≤ 7
    → IsAcceptedPair (by_three signed exact w recurrence)
accepted signed exact w recurrence some few = (
  4,
  record {
    ranges = record {
      a = ranged signed w some few;
      b = ranged signed 3 (omega arith) (omega arith);
      alike = refl;
      a_lsb = (omega (arith, ints), omega (arith, ints));
      b_lsb = (omega (arith, ints), omega (arith, ints));
      out_lsb = (omega (arith, ints), omega (arith, ints));
    };
    inputs = all_two (λ (p : PortFormat). p.format.width ≤ 48) _ _ (omega (arith, few)) (omega arith);
    fine = (omega (arith, ints), omega (arith, ints));
    narrow = narrow signed exact w recurrence few;
    whole = λ _. refl;
  },
)

pub build-requires : goal.build-requires
build-requires c = accepted c.args.signed c.args.exact c.args.width c.args.recurrence c.requires.0 c.requires.1
