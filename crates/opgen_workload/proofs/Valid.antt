-- The filter of a number is a valid specification.
use Rattle.std.proofs.Common.{◌≡◌, ℕ, ◌+◌, ◌*◌, ◌-◌, ◌^◌, ◌≤◌, true, false, List, length, Some, refl, inl, arith}
use Rattle.std.specs.Prelude.{IsTrue, ◌≢◌, codes, ℤ, negsuc, [], ◌∷◌}
use Rattle.std.proofs.lemmas.Int.{ints}
use Rattle.std.proofs.lemmas.List.Elements.{All-nil, All-cons}
use Rattle.opgen_names.specs.Names.{refused_words}
use Rattle.opgen_operator.specs.declared.operator.Operator.TheVariants.{Fir}
use Rattle.opgen_ports.specs.declared.ports.PortFormat.{PortFormat}
use Rattle.opgen_kinds.specs.Sum.{sum_need, sum_places, sum_reach, IsSum}
use Rattle.opgen_ports.specs.Ranges.{AreNear, IsNear}
use Rattle.opgen_operator.specs.GivenNames.{is_port_name}
use Rattle.opgen_operator.specs.Operator.{IsAcceptedBy}
use Rattle.opgen_ports.specs.Reaches.{rises, falls, width_of}
use Rattle.opgen_ports.specs.SpecName.{is_spec_name, taken_names}
use Rattle.opgen_operator.specs.Valid.{IsDelayLine, IsValidSpec}
use Rattle.opgen_ports.proofs.InputPorts.{all_one}
use Rattle.opgen_kinds.proofs.of_kind.Sum.{guard_small}
use Rattle.opgen_ports.proofs.Widths.{width_within}
use Rattle.opgen_ports.proofs.Bounds.{rounded}
use Rattle.opgen_workload.specs.Filter.{coefficients, workload_spec, workload_sum}
use Rattle.opgen_workload.proofs.Drawn.{coefficients-length, coefficients-within, wider, rises-within, falls-within}

name_allowed : IsTrue (is_spec_name (codes "workload"))
unfolding refused_words taken_names
name_allowed = refl

near : AreNear 1 (negsuc 10 ∷ negsuc 10 ∷ [])
near _ =
    let one : IsNear (negsuc 10) = (omega (arith, ints), omega (arith, ints)) in
    All-cons IsNear (negsuc 10) (negsuc 10 ∷ []) one (All-cons IsNear (negsuc 10) [] one (All-nil IsNear))

module _ (n : ℕ) (some : 1 ≤ n) (few : n ≤ 32) where
  abbrev taps : List ℤ
  taps = coefficients (8 * n) n

  taps-length : length taps ≡ 8 * n
  taps-length = coefficients-length (8 * n) n

  sum_valid : IsSum 256 (workload_sum n)
  sum_valid = record {
    input = record { fewest = omega arith; most = omega arith; lsb = (omega (arith, ints), omega (arith, ints)) };
    out_lsb = (omega (arith, ints), omega (arith, ints));
    some = omega (arith, taps-length, some);
    few = omega (arith, taps-length, few);
    coefs = wider taps (coefficients-within (8 * n) n);
    positive = omega (arith, ints);
    small = omega (arith, ints);
    built = (tt, refl, refl);
  }

  -- the widest signal is far within the limit
  small : (most : ℕ) → most ≤ length taps * 2 ^ 14 → most ≤ 2 ^ 22
  small most h = omega (arith, h, taps-length, few)

  reach_small : (r f : ℕ) → r ≤ 2 ^ 22 → f ≤ 2 ^ 22 → (r * 2 ^ 11 + f * (2 ^ 11 - 1) ≤ 2 ^ 34) × (r * (2 ^ 11 - 1) + f * 2 ^ 11 ≤ 2 ^ 34)
  reach_small r f a b = (omega (arith, a, b), omega (arith, a, b))

  width_small : width_of (sum_places (workload_sum n)) ≤ 40
  width_small =
      let reach = reach_small (rises taps) (falls taps) (small (rises taps) (rises-within taps (coefficients-within (8 * n) n)))
      (small (falls taps) (falls-within taps (coefficients-within (8 * n) n))) in
      let below = rounded ((sum_reach (workload_sum n)).below * 1) 65536 (omega arith) in
      let above = rounded ((sum_reach (workload_sum n)).above * 1) 65536 (omega arith) in
      width_within (sum_places (workload_sum n)).below (sum_places (workload_sum n)).above 38 (omega (arith, reach.0, below))
      (omega (arith, reach.1, above))

  accepted : IsAcceptedBy 1 (Fir (workload_sum n))
  accepted = record {
    ranges = sum_valid;
    inputs = all_one (λ (p : PortFormat). p.format.width ≤ 32) _ (omega arith);
    fine = (omega (arith, ints), omega (arith, ints));
    narrow = λ bits e. narrow_by bits e;
    whole = λ bad. let no_mark : false ≡ true = bad in cc;
  }
    where
      narrow_by : (bits : ℕ) → Some (sum_need (workload_sum n)) ≡ Some bits → bits ≤ 64
      narrow_by bits e = let same : sum_need (workload_sum n) ≡ bits = cc in
          omega (arith, same, width_small, guard_small (workload_sum n) sum_valid)

  pub workload_valid : IsValidSpec (workload_spec n)
  workload_valid = record {
    version = inl refl;
    name = name_allowed;
    word = refl;
    op = accepted;
    has = (λ _. refl, near);
    names = record {
      sound = All-nil (λ n. IsTrue (is_port_name n));
      apart = All-nil (λ n. n ≢ codes "workload");
      differ = λ i j d before below. absurd (omega (arith, below));
    };
    rounding = tt;
    mode = record { built = tt; agrees = refl; whole = λ bad. let no_mark : false ≡ true = bad in cc };
    output = refl;
    overflow = tt;
    target = (omega arith, omega arith);
    period = (omega arith, omega arith);
    few_lines = omega arith;
    lines = All-nil IsDelayLine;
  }
