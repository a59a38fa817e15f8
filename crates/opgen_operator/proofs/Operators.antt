-- What holds of every operator, one arm a kind: what each kind proved of its meaning, the names of its ports, and of the kinds with one
-- output whose width may be chosen its port and its exact value.
use Rattle.std.proofs.Common.{arith, ◌≤◌, length, ℕ, ◌≡◌, Bool, true, false, Some, [], ◌∷◌, refl, subst, List, ◌++◌, map}
use Rattle.std.specs.Prelude.{All, ◌≢◌, ◌≤ℤ◌, neg_ℤ, zero, suc, ℤ, pos, ◌<ℤ◌, codes, nat_lt}
use Rattle.opgen_operator.specs.declared.operator.Operator.{Operator}
use Rattle.opgen_operator.specs.declared.operator.Operator.TheVariants.{Scale, Fir, Multiply, Divide, Root, Mcm, Constdiv, Poly, Tfir, Sop}
use Rattle.opgen_ports.specs.declared.TheConstants.{MAX_SHIFT}
use Rattle.opgen_ports.specs.Ports.{HasWidth, format_at, Recent, covering, port, with_rest}
use Rattle.opgen_ports.specs.Limits.{most_input, most_signal}
use Rattle.opgen_operator.specs.Held.{OutputsHold, OutputsRecall}
use Rattle.opgen_operator.specs.Operator.{meaning, acceptance, operator_inputs, IsOperator, most_shift, shift, least_shift, HasInputsWithin, HasRoom, operator_outputs, IsAcceptedBy, IsGoodOf, IsInRangeOf, exact_value, may_be_cut, plain_output, given_names}
use Rattle.opgen_ports.proofs.InputPorts.{HasBit}
use Rattle.opgen_ports.proofs.Lawful.{IsLawful}
use Rattle.opgen_kinds.specs.declared.pair.Pair.{Pair}
use Rattle.opgen_kinds.specs.Pair.{dividend, quotient_value}
use Rattle.opgen_kinds.proofs.of_kind.Pair.{over_positive, pair_lawful}
use Rattle.opgen_kinds.proofs.of_kind.Poly.{poly_lawful}
use Rattle.opgen_kinds.proofs.of_kind.Product.{product_lawful}
use Rattle.opgen_kinds.proofs.of_kind.Several.{several_lawful}
use Rattle.opgen_kinds.proofs.of_kind.Single.{single_lawful}
use Rattle.opgen_kinds.proofs.of_kind.SmallDiv.{small_lawful}
use Rattle.opgen_terms.proofs.Lawful.{sop_lawful, sop_positive}
use Rattle.opgen_kinds.proofs.of_kind.Sum.{sum_lawful}
use Rattle.opgen_kinds.proofs.of_kind.Taps.{taps_lawful}
use Rattle.std.proofs.lemmas.Int.{ints}
use Rattle.std.proofs.lemmas.Nat.{pow_pos}
use Rattle.opgen_num.specs.declared.format.Format.{Format}
use Rattle.opgen_num.specs.declared.mode.Mode.{Mode}
use Rattle.opgen_num.specs.declared.mode.Mode.TheVariants.{Exact, Faithful, Down, Nearest}
use Rattle.opgen_operator.specs.Valid.{AgreesOnExact}
use Rattle.opgen_ports.specs.Modes.{mode_of_exact}
use Rattle.std.specs.Option.{option_map}
use Rattle.opgen_num.specs.Formats.{fewest_bits, is_negative, range_width}
use Rattle.opgen_num.proofs.RangeWidth.{range_width-least}
use Rattle.opgen_num.specs.declared.format.Ratio.{Ratio}
use Rattle.opgen_kinds.specs.Horner.{result_low, result_high}
use Rattle.opgen_kinds.specs.Product.{product_shift, product_places}
use Rattle.opgen_terms.specs.Sop.{sop_places}
use Rattle.opgen_kinds.specs.Sum.{sum_shift, sum_places}
use Rattle.opgen_kinds.specs.Taps.{direct}
use Rattle.opgen_ports.proofs.Roundings.{positive_units}
use Rattle.opgen_kinds.proofs.of_kind.Results.{results_order}
use Rattle.opgen_ports.specs.declared.reach.Reach.{Reach}
use Rattle.opgen_ports.specs.Good.{IsGoodRatio}
use Rattle.opgen_ports.specs.Reaches.{places_down}
use Rattle.std.specs.Fmt.{digits}
use Rattle.std.proofs.lemmas.Option.{same_Some}
use Rattle.opgen_names.specs.Names.{refused_words}
use Rattle.opgen_operator.specs.GivenNames.{AreGivenNames}
use Rattle.opgen_kinds.specs.Several.{numbered, constant_format}
use Rattle.opgen_operator.proofs.Named.{AreNamed, are_good, good_named, given_named, names}

pub lawful : (op : Operator) → IsLawful (meaning op) (acceptance op)
lawful (Scale s) = sum_lawful 1 s (omega arith)
lawful (Fir s) = sum_lawful 256 s (omega arith)
lawful (Multiply p) = product_lawful p
lawful (Divide p) = pair_lawful p
lawful (Root r) = single_lawful r
lawful (Mcm m) = several_lawful m
lawful (Constdiv c) = small_lawful c
lawful (Poly p) = poly_lawful p
lawful (Tfir f) = taps_lawful f
lawful (Sop s) = sop_lawful s

pub input_bits : (op : Operator) → IsOperator op → All HasBit (operator_inputs op)
input_bits op is = (lawful op).input_bits is

pub some_input : (op : Operator) → IsOperator op → 1 ≤ length (operator_inputs op)
some_input op is = (lawful op).some_input is

pub shift_limit : (version : ℕ) (op : Operator) → shift op ≤ℤ most_shift version op → shift op ≤ℤ MAX_SHIFT
shift_limit version op h = (lawful op).limit version h

pub shift_least : (op : Operator) → least_shift op ≤ℤ shift op → neg_ℤ MAX_SHIFT ≤ℤ shift op
shift_least op h = (lawful op).least h

pub room : (version : ℕ) (op : Operator) → HasInputsWithin (most_input version) op → shift op ≤ℤ most_shift version op → HasRoom op
room version op few high = (lawful op).room version few high

pub operator_wide : (version : ℕ) (op : Operator) → IsAcceptedBy version op → All (HasWidth (most_signal version)) (operator_outputs op)
operator_wide version op is = (lawful op).wide version is

-- good outputs depend on the last cycles alone
pub outputs_recall : OutputsRecall
outputs_recall op = (lawful op).recalls

pub outputs_held : OutputsHold
outputs_held op = (lawful op).held

-- ---- the names of its ports

small_good : (exact : Bool) (q r : Format)
    → are_good (codes "x" ∷ names (with_rest exact (record { name = codes "q"; format = q }) (record { name = codes "r"; format = r })))
    ≡ true
unfolding refused_words
small_good true q r = refl
small_good false q r = refl

quotient_good : (exact : Bool) (q r : Format)
    → are_good (codes "a" ∷ codes "b" ∷ names (with_rest exact (record { name = codes "q"; format = q })
    (record { name = codes "r"; format = r }))) ≡ true
unfolding refused_words
quotient_good true q r = refl
quotient_good false q r = refl

numbered_good : (g : ℤ → Format) (ts : List ℤ) → length ts ≤ 8 → are_good (codes "x" ∷ names (numbered 0 (map g ts))) ≡ true
unfolding refused_words digits
numbered_good g [] h = refl
numbered_good g (a ∷ []) h = refl
numbered_good g (a ∷ b ∷ []) h = refl
numbered_good g (a ∷ b ∷ c ∷ []) h = refl
numbered_good g (a ∷ b ∷ c ∷ d ∷ []) h = refl
numbered_good g (a ∷ b ∷ c ∷ d ∷ e ∷ []) h = refl
numbered_good g (a ∷ b ∷ c ∷ d ∷ e ∷ i ∷ []) h = refl
numbered_good g (a ∷ b ∷ c ∷ d ∷ e ∷ i ∷ j ∷ []) h = refl
numbered_good g (a ∷ b ∷ c ∷ d ∷ e ∷ i ∷ j ∷ k ∷ []) h = refl
numbered_good g (a ∷ b ∷ c ∷ d ∷ e ∷ i ∷ j ∷ k ∷ l ∷ ts) h = absurd (omega (arith, h))

root_good : (exact : Bool) (y r : Format)
    → are_good (codes "x" ∷ names (with_rest exact (record { name = codes "y"; format = y }) (record { name = codes "r"; format = r })))
    ≡ true
unfolding refused_words
root_good true y r = refl
root_good false y r = refl

-- a design may have the names of an operator's ports
pub names_fine : (op : Operator) (name : List ℕ) → IsOperator op → AreGivenNames name (given_names op)
    → AreNamed (names (operator_inputs op) ++ names (operator_outputs op))
unfolding refused_words
names_fine (Scale s) name is given = good_named _ refl
names_fine (Fir s) name is given = good_named _ refl
names_fine (Multiply p) name is given = good_named _ refl
names_fine (Divide p) name is given = good_named _ (quotient_good p.exact _ _)
names_fine (Root r) name is given = good_named _ (root_good r.exact _ _)
names_fine (Mcm m) name is given = good_named _ (numbered_good (constant_format m.input) m.constants is.few)
names_fine (Constdiv c) name is given = good_named _ (small_good c.exact _ _)
names_fine (Poly p) name is given = good_named _ refl
names_fine (Tfir f) name is given = good_named _ refl
names_fine (Sop s) name is given = given_named name (names s.inputs) given

-- ---- the kinds with one output whose width may be chosen: its port, its exact value, and when it is good

-- it is the only output, of the name y
pub only_output : (op : Operator) → may_be_cut op ≡ true → operator_outputs op ≡ port (codes "y") (format_at (operator_outputs op) 0) ∷ []
only_output (Scale s) h = refl
only_output (Fir s) h = refl
only_output (Multiply p) h = refl
only_output (Divide p) h = absurd cc
only_output (Root r) h = absurd cc
only_output (Mcm m) h = absurd cc
only_output (Constdiv c) h = absurd cc
only_output (Poly p) h = refl
only_output (Tfir f) h = refl
only_output (Sop s) h = refl

-- and its format is that of the port
pub plain_is : (op : Operator) (f : Format) → may_be_cut op ≡ true → plain_output op ≡ Some f → f ≡ format_at (operator_outputs op) 0
plain_is (Scale s) f h e = cc
plain_is (Fir s) f h e = cc
plain_is (Multiply p) f h e = cc
plain_is (Divide p) f h e = absurd cc
plain_is (Root r) f h e = absurd cc
plain_is (Mcm m) f h e = absurd cc
plain_is (Constdiv c) f h e = absurd cc
plain_is (Poly p) f h e = cc
plain_is (Tfir t) f h e = cc
plain_is (Sop s) f h e = cc

-- it has an exact value
pub some_value : (op : Operator) (inputs : (port : ℕ) → Recent) → may_be_cut op ≡ true → (v : Ratio) × (exact_value op inputs ≡ Some v)
some_value (Scale s) inputs h = (_, refl)
some_value (Fir s) inputs h = (_, refl)
some_value (Multiply p) inputs h = (_, refl)
some_value (Divide p) inputs h = absurd cc
some_value (Root r) inputs h = absurd cc
some_value (Mcm m) inputs h = absurd cc
some_value (Constdiv c) inputs h = absurd cc
some_value (Poly p) inputs h = (_, refl)
some_value (Tfir f) inputs h = (_, refl)
some_value (Sop s) inputs h = (_, refl)

quotient_rated : (exact : Bool) (mode : Mode) (p : Pair) (inputs : (port : ℕ) → Recent) (outputs : (port : ℕ) → ℤ) (v : Ratio)
    → mode_of_exact exact ≡ mode → option_map (λ value. value inputs) (quotient_value exact p) ≡ Some v
    → IsGoodOf mode (Divide p) inputs outputs → IsGoodRatio mode v (outputs 0)
quotient_rated true mode p inputs outputs v own e good = absurd cc
quotient_rated false Exact p inputs outputs v own e good = absurd cc
quotient_rated false Faithful p inputs outputs v own e good = subst (λ (w : Ratio). IsGoodRatio Faithful w (outputs 0)) (same_Some _ v e) good.1
quotient_rated false Down p inputs outputs v own e good = absurd cc
quotient_rated false Nearest p inputs outputs v own e good = absurd cc

-- what is good for the operator is good for the exact value
pub value_good : (mode : Mode) (op : Operator) (inputs : (port : ℕ) → Recent) (outputs : (port : ℕ) → ℤ) (v : Ratio)
    → AgreesOnExact mode op → exact_value op inputs ≡ Some v → IsGoodOf mode op inputs outputs → IsGoodRatio mode v (outputs 0)
value_good mode (Scale s) inputs outputs v own e good = subst (λ (w : Ratio). IsGoodRatio mode w (outputs 0)) (same_Some _ v e) good
value_good mode (Fir s) inputs outputs v own e good = subst (λ (w : Ratio). IsGoodRatio mode w (outputs 0)) (same_Some _ v e) good
value_good mode (Multiply p) inputs outputs v own e good = subst (λ (w : Ratio). IsGoodRatio mode w (outputs 0)) (same_Some _ v e) good
value_good mode (Divide p) inputs outputs v own e good = quotient_rated p.exact mode p inputs outputs v own e good
value_good mode (Root r) inputs outputs v own e good = absurd cc
value_good mode (Mcm m) inputs outputs v own e good = absurd cc
value_good mode (Constdiv c) inputs outputs v own e good = absurd cc
value_good mode (Poly p) inputs outputs v own e good = subst (λ (w : Ratio). IsGoodRatio mode w (outputs 0)) (same_Some _ v e) good.1
value_good mode (Tfir f) inputs outputs v own e good = subst (λ (w : Ratio). IsGoodRatio mode w (outputs 0)) (same_Some _ v e) good
value_good mode (Sop s) inputs outputs v own e good = subst (λ (w : Ratio). IsGoodRatio mode w (outputs 0)) (same_Some _ v e) good

quotient_positive : (exact : Bool) (p : Pair) (inputs : (port : ℕ) → Recent) (v : Ratio) → inputs 1 0 ≢ pos 0
    → option_map (λ value. value inputs) (quotient_value exact p) ≡ Some v → pos 0 <ℤ v.den
quotient_positive true p inputs v some e = absurd cc
quotient_positive false p inputs v some e =
    subst (λ (w : Ratio). pos 0 <ℤ w.den) (same_Some _ v e) (over_positive (dividend p (inputs 0 0)) (inputs 1 0) some)

-- and that has a denominator above 0
pub value_positive : (op : Operator) (inputs : (port : ℕ) → Recent) (v : Ratio) → IsOperator op → IsInRangeOf op inputs → exact_value op inputs ≡ Some v → pos 0 <ℤ v.den
value_positive (Scale s) inputs v is range e =
    subst (λ (w : Ratio). pos 0 <ℤ w.den) (same_Some _ v e) (positive_units s.den (places_down (sum_shift s)) is.positive)
value_positive (Fir s) inputs v is range e =
    subst (λ (w : Ratio). pos 0 <ℤ w.den) (same_Some _ v e) (positive_units s.den (places_down (sum_shift s)) is.positive)
value_positive (Multiply p) inputs v is range e =
    subst (λ (w : Ratio). pos 0 <ℤ w.den) (same_Some _ v e) (omega (arith, ints, pow_pos (places_down (product_shift p))))
value_positive (Divide p) inputs v is range e = quotient_positive p.exact p inputs v range e
value_positive (Root r) inputs v is range e = absurd cc
value_positive (Mcm m) inputs v is range e = absurd cc
value_positive (Constdiv c) inputs v is range e = absurd cc
value_positive (Poly p) inputs v is range e =
    subst (λ (w : Ratio). pos 0 <ℤ w.den) (same_Some _ v e) (positive_units p.den _ is.positive)
value_positive (Tfir f) inputs v is range e =
    subst (λ (w : Ratio). pos 0 <ℤ w.den) (same_Some _ v e) (positive_units (pos 1) (places_down (sum_shift (direct f))) (omega (arith, ints)))
value_positive (Sop s) inputs v is range e =
    subst (λ (w : Ratio). pos 0 <ℤ w.den) (same_Some _ v e) (sop_positive s (λ input. inputs input 0) is)

few_least : (signed : Bool) → fewest_bits signed ≤ 2
few_least true = omega arith
few_least false = omega arith

-- the widths of formats that cover a range
covering_width : (r : Reach) (lsb : ℤ) → fewest_bits (covering r lsb).signed ≤ (covering r lsb).width
covering_width r lsb = go r.below r.above
  where
    go : (below above : ℕ) → fewest_bits (nat_lt 0 below) ≤ range_width (neg_ℤ (pos below)) (pos above)
    go zero above =
        let one : fewest_bits (nat_lt 0 0) ≡ 1 = refl in
        omega (arith, one)
    go (suc below) above = omega (arith, few_least (nat_lt 0 (suc below)))

range_fewest : (lo hi : ℤ) → lo ≤ℤ hi → fewest_bits (is_negative lo) ≤ range_width lo hi
range_fewest lo hi h = (range_width-least lo hi h).0.0

pub fewest : (op : Operator) → IsOperator op → may_be_cut op ≡ true
    → fewest_bits (format_at (operator_outputs op) 0).signed ≤ (format_at (operator_outputs op) 0).width
fewest (Scale s) is h = covering_width (sum_places s) s.out_lsb
fewest (Fir s) is h = covering_width (sum_places s) s.out_lsb
fewest (Multiply p) is h = covering_width (product_places p) p.out_lsb
fewest (Divide p) is h = absurd cc
fewest (Root r) is h = absurd cc
fewest (Mcm m) is h = absurd cc
fewest (Constdiv c) is h = absurd cc
fewest (Poly p) is h = range_fewest (result_low p) (result_high p) (results_order p)
fewest (Tfir f) is h = covering_width (sum_places (direct f)) f.out_lsb
fewest (Sop s) is h = covering_width (sop_places s) s.out_lsb
