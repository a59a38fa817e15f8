-- The results of a division with their signs.
use Rattle.std.proofs.Common.{◌≡◌, ℕ, ◌+◌, ◌-◌, ◌*◌, ◌^◌, ◌<◌, ◌≤◌, Bool, true, false, ◌&&◌, List, [], ◌∷◌, length, if◌then◌else◌, Some, refl, sym, ap, ◌∙◌, subst, arith}
use Rattle.std.specs.Prelude.{ℤ, pos, All, slice_index, option_and_then}
use Rattle.std.proofs.Math.Nat.{two-pow-succ}
use Rattle.std.proofs.lemmas.List.Elements.{All-cons, All-nil}
use Rattle.opgen_num.specs.declared.format.TheConstants.{MAX_WIDTH}
use Rattle.opgen_num.specs.declared.format.Format.{Format}
use Rattle.opgen_num.specs.Words.{xor, pairwise, highest, int, val, nat}
use Rattle.opgen_num.proofs.Values.{val-unsigned}
use Rattle.opgen_design.specs.declared.expr.Op.TheVariants.{Xor}
use Rattle.opgen_design.specs.Run.{AreWords}
use Rattle.opgen_design.specs.Tree.{more, none}
use Rattle.opgen_design.specs.Value.{cut, IsWidth, width, width_on}
use Rattle.opgen_design.specs.Value as wide
use Rattle.opgen_net.specs.declared.cell.Class.TheVariants.{Logic, Wire}
use Rattle.opgen_net.specs.declared.net.Net.{Net}
use Rattle.opgen_net.specs.declared.node.Node.{Node}
use Rattle.opgen_net.specs.declared.node.Node.TheVariants.{Cells}
use Rattle.opgen_net.specs.declared.word_bits.WordBit.{WordBit}
use Rattle.opgen_net.specs.declared.word_bits.WordBit.TheVariants.{Zero}
use Rattle.opgen_net.specs.Cells.{IsLogic}
use Rattle.opgen_net.specs.Flow.{Inputs, flow}
use Rattle.opgen_net.specs.Placed.{Placed, with_last, number_at}
use Rattle.opgen_net.specs.Valid.{IsValid, FitsNodes, input_widths, widths}
use Rattle.opgen_net.specs.WordRule.{IsThere, bits_from, word_flow}
use Rattle.opgen_net.proofs.Appending.{flow-append_last, width-append_last}
use Rattle.opgen_net.proofs.BitLists.{length-bits_from, bits_from-there, whole-flow}
use Rattle.opgen_net.proofs.CellLaws.{one-logic, part-one, two-one}
use Rattle.opgen_net.proofs.FlowWidths.{flow-width}
use Rattle.opgen_net.proofs.Grown.{grown-flow, grown-width, grown-all_there}
use Rattle.opgen_net.proofs.Later.{Later, later-node, later-same, later-then, node_there, words-later}
use Rattle.opgen_net.proofs.Numbers.{at-below, at-zero, number-kept}
use Rattle.opgen_kinds.specs.declared.pair.Pair.{Pair}
use Rattle.opgen_kinds.specs.Pair.{quotient_format, remainder_format, sign_bit}
use Rattle.opgen_kinds.proofs.of_kind.Pair.{with_sign}
use Rattle.opgen_digits.specs.Digit.{Known}
use Rattle.opgen_digits.specs.Results.{AreResults}
use Rattle.opgen_divide.specs.Inputs.{HasInputs}
use Rattle.opgen_divide.specs.Recipe.{signs_differ, with_quotient, with_remainder, signed_results, results_of, with_signs}
use Rattle.opgen_divide.specs.Sign.{sign_of, signed_by}
use Rattle.opgen_divide.proofs.Opposites.{top-bit}
use Rattle.opgen_divide.proofs.Signed.{sign-width, sign-fits, signed-later, signed-width, signed-number}

-- the number of a word in a format, and with a sign

pub val-signed : (v : List Bool) (f : Format) → f.signed ≡ true → val v f ≡ int v
val-signed v f e = ap (λ (c : Bool). if c then int v else pos (nat v)) e

by_sign : (s : Bool) (n : ℕ) → signed_by s n ≡ with_sign s n
by_sign true n = refl
by_sign false n = refl

-- the quotient

module _ (p : Pair) (net : Net) (digits : List WordBit) (valid : IsValid net) (ins : HasInputs p net)
    (few : length digits + 1 ≤ MAX_WIDTH) (there : All (IsThere (widths net.nodes)) digits) where
  abbrev q_bits : List WordBit
  q_bits = Zero ∷ digits

  abbrev q_node : Node
  q_node = Cells Logic 1 (signs_differ p)

  abbrev q_signed : Net
  q_signed = with_last net q_node

  abbrev q : Placed
  q = with_quotient p net digits

  pub differ-fits : FitsNodes (widths net.nodes) 1 (signs_differ p)
  differ-fits = record {
    has_width = ap (option_and_then (λ u. width_on (widths net.nodes) [] Xor u (more (sign_of 1 p.b.width) none)))
        (sign-width (widths net.nodes) 0 p.a.width ins.some_a.0 ins.a)
        ∙ ap (option_and_then (λ u. option_and_then (λ v. Some v) (wide.joined Xor 1 u)))
        (sign-width (widths net.nodes) 1 p.b.width ins.some_b.0 ins.b);
    nests = omega arith;
  }

  pub differ-logic : IsLogic (widths net.nodes) (signs_differ p)
  differ-logic =
      let ws = widths net.nodes in
      one-logic ws 1 2 (signs_differ p) (omega arith) (omega arith)
      (two-one ws Xor refl 0 1 1 (sign_of 0 p.a.width) (sign_of 1 p.b.width) (part-one ws 0 (p.a.width - 1)) (part-one ws 1 (p.b.width - 1)))

  q_signed-later : Later net q_signed
  q_signed-later = later-node net q_node valid (differ-logic, differ-fits) refl

  pub q_sign : slice_index (widths q_signed.nodes) (length net.nodes) ≡ 1
  q_sign = width-append_last net.nodes q_node

  pub q_wide : IsWidth (length q_bits)
  q_wide = (omega arith, omega (arith, few))

  pub q_there : All (IsThere (widths q_signed.nodes)) q_bits
  q_there =
      All-cons (IsThere (widths q_signed.nodes)) Zero digits tt (grown-all_there net q_signed q_signed-later.grown digits there)

  pub quotient-later : Later net q.net
  quotient-later =
      later-then net q_signed q.net q_signed-later
      (signed-later q_signed (length net.nodes) q_bits q_signed-later.valid q_wide q_there q_sign)

  pub quotient-width : slice_index (widths q.net.nodes) q.place ≡ length digits + 1
  quotient-width = signed-width q_signed (length net.nodes) q_bits q_signed-later.valid q_wide q_there q_sign ∙ omega arith

  module _ (inputs : Inputs) (t : ℤ) (words : All (AreWords (input_widths net)) inputs) where
    abbrev first : List Bool
    first = flow net.nodes inputs 0 t

    abbrev second : List Bool
    second = flow net.nodes inputs 1 t

    sign-flow : flow q_signed.nodes inputs (length net.nodes) t ≡ xor (highest first) (highest second) ∷ []
    sign-flow =
        flow-append_last net.nodes q_node inputs t
        ∙ ap (λ v. pairwise xor v (cut (p.b.width - 1) (p.b.width - 1) second))
        (top-bit first p.a.width ins.some_a.0 (flow-width net valid inputs words 0 t ∙ ins.a))
        ∙ ap (λ v. pairwise xor (highest first ∷ []) v)
        (top-bit second p.b.width ins.some_b.0 (flow-width net valid inputs words 1 t ∙ ins.b))

    q_number : number_at q_signed.nodes inputs t q_bits ≡ number_at net.nodes inputs t digits
    q_number =
        at-zero q_signed.nodes inputs t digits
        ∙ number-kept net.nodes q_signed.nodes (grown-flow net q_signed q_signed-later.grown) inputs t digits there

    q_low : 2 * number_at q_signed.nodes inputs t q_bits < 2 ^ length q_bits
    q_low = omega (arith, q_number, at-below net.nodes inputs t digits, two-pow-succ (length digits))

    pub quotient-number : int (flow q.net.nodes inputs q.place t)
        ≡ with_sign (xor (highest first) (highest second)) (number_at net.nodes inputs t digits)
    quotient-number =
        signed-number q_signed (length net.nodes) q_bits q_signed-later.valid q_wide q_there q_sign inputs t
        (words-later net q_signed q_signed-later inputs words) q_low
        ∙ ap (λ v. signed_by (highest v) (number_at q_signed.nodes inputs t q_bits)) sign-flow
        ∙ ap (signed_by (xor (highest first) (highest second))) q_number
        ∙ by_sign (xor (highest first) (highest second)) (number_at net.nodes inputs t digits)

-- the remainder

module _ (p : Pair) (net : Net) (rest : List WordBit) (valid : IsValid net) (ins : HasInputs p net)
    (some : IsWidth (length rest)) (there : All (IsThere (widths net.nodes)) rest) where
  abbrev r_node : Node
  r_node = Cells Wire 1 (sign_of 0 p.a.width)

  abbrev r_signed : Net
  r_signed = with_last net r_node

  abbrev r : Placed
  r = with_remainder p net rest

  pub sign_a-fits : FitsNodes (widths net.nodes) 1 (sign_of 0 p.a.width)
  sign_a-fits = sign-fits (widths net.nodes) 0 p.a.width ins.some_a.0 ins.a

  r_signed-later : Later net r_signed
  r_signed-later = later-node net r_node valid (refl, sign_a-fits) refl

  pub r_sign : slice_index (widths r_signed.nodes) (length net.nodes) ≡ 1
  r_sign = width-append_last net.nodes r_node

  pub r_there : All (IsThere (widths r_signed.nodes)) rest
  r_there = grown-all_there net r_signed r_signed-later.grown rest there

  pub remainder-later : Later net r.net
  remainder-later =
      later-then net r_signed r.net r_signed-later
      (signed-later r_signed (length net.nodes) rest r_signed-later.valid some r_there r_sign)

  pub remainder-width : slice_index (widths r.net.nodes) r.place ≡ length rest
  remainder-width = signed-width r_signed (length net.nodes) rest r_signed-later.valid some r_there r_sign

  module _ (inputs : Inputs) (t : ℤ) (words : All (AreWords (input_widths net)) inputs)
      (low : 2 * number_at net.nodes inputs t rest < 2 ^ length rest) where
    abbrev dividend : List Bool
    dividend = flow net.nodes inputs 0 t

    r_flow : flow r_signed.nodes inputs (length net.nodes) t ≡ highest dividend ∷ []
    r_flow =
        flow-append_last net.nodes r_node inputs t
        ∙ top-bit dividend p.a.width ins.some_a.0 (flow-width net valid inputs words 0 t ∙ ins.a)

    r_number : number_at r_signed.nodes inputs t rest ≡ number_at net.nodes inputs t rest
    r_number = number-kept net.nodes r_signed.nodes (grown-flow net r_signed r_signed-later.grown) inputs t rest there

    pub remainder-number : int (flow r.net.nodes inputs r.place t)
        ≡ with_sign (highest dividend) (number_at net.nodes inputs t rest)
    remainder-number =
        signed-number r_signed (length net.nodes) rest r_signed-later.valid some r_there r_sign inputs t
        (words-later net r_signed r_signed-later inputs words)
        (subst (λ k. 2 * k < 2 ^ length rest) (sym r_number) low)
        ∙ ap (λ v. signed_by (highest v) (number_at r_signed.nodes inputs t rest)) r_flow
        ∙ ap (signed_by (highest dividend)) r_number
        ∙ by_sign (highest dividend) (number_at net.nodes inputs t rest)

-- the inputs are there in a net that has grown
pub still-inputs : (p : Pair) (old new : Net) → Later old new → HasInputs p old → HasInputs p new
still-inputs p old new later ins = record {
  some_a = ins.some_a;
  some_b = ins.some_b;
  a = grown-width old new later.grown 0 (node_there old 0 p.a.width ins.some_a.0 ins.a) ∙ ins.a;
  b = grown-width old new later.grown 1 (node_there old 1 p.b.width ins.some_b.0 ins.b) ∙ ins.b;
}

-- all results

module _ (p : Pair) (known : Known) (alike : p.a.signed ≡ p.b.signed) (valid : IsValid known.net) (ins : HasInputs p known.net)
    (few : length known.digits + sign_bit p.a.signed ≤ MAX_WIDTH) (are : AreResults p.exact known) where
  abbrev pub sign_a : Inputs → ℤ → Bool
  sign_a inputs t = p.a.signed && highest (flow known.net.nodes inputs 0 t)

  abbrev pub sign_b : Inputs → ℤ → Bool
  sign_b inputs t = p.b.signed && highest (flow known.net.nodes inputs 1 t)

  -- a remainder that leaves the highest bit 0
  abbrev pub IsLow : Inputs → ℤ → Type 0
  IsLow inputs t = p.a.signed ≡ true → 2 * number_at known.net.nodes inputs t known.rest < 2 ^ length known.rest

  pub record IsFinished (final : Known) : Type 0 where
    pub later : Later known.net final.net
    pub results : AreResults p.exact final
    pub count : length final.digits ≡ length known.digits + sign_bit p.a.signed
    pub rest_count : p.exact ≡ true → length final.rest ≡ length known.rest
    pub quotient :
        (inputs : Inputs) (t : ℤ) → All (AreWords (input_widths known.net)) inputs
        → val (word_flow final.net.nodes inputs final.digits t) (quotient_format p)
        ≡ with_sign (xor (sign_a inputs t) (sign_b inputs t)) (number_at known.net.nodes inputs t known.digits)
    pub remainder :
        p.exact ≡ true → (inputs : Inputs) (t : ℤ) → All (AreWords (input_widths known.net)) inputs → IsLow inputs t
        → val (word_flow final.net.nodes inputs final.rest t) (remainder_format p)
        ≡ with_sign (sign_a inputs t) (number_at known.net.nodes inputs t known.rest)

  -- unsigned results stay
  unsigned_finished : p.a.signed ≡ false → IsFinished known
  unsigned_finished e = record {
    later = later-same known.net valid;
    results = are;
    count = let none : sign_bit p.a.signed ≡ 0 = ap sign_bit e in omega (arith, none);
    rest_count = λ exact. refl;
    quotient = λ inputs t words.
        let n = number_at known.net.nodes inputs t known.digits in
        val-unsigned (word_flow known.net.nodes inputs known.digits t) (quotient_format p) e
        ∙ sym (ap (λ (c : Bool). with_sign (xor (c && highest (flow known.net.nodes inputs 0 t)) (sign_b inputs t)) n) e
        ∙ ap (λ (c : Bool). with_sign (c && highest (flow known.net.nodes inputs 1 t)) n) (sym alike ∙ e));
    remainder = λ exact inputs t words low.
        let n = number_at known.net.nodes inputs t known.rest in
        val-unsigned (word_flow known.net.nodes inputs known.rest t) (remainder_format p) (sym alike ∙ e)
        ∙ sym (ap (λ (c : Bool). with_sign (c && highest (flow known.net.nodes inputs 0 t)) n) e);
  }

  -- signed ones have nodes of their own
  module _ (e : p.a.signed ≡ true) where
    abbrev L : ℕ
    L = length known.digits

    narrow : L + 1 ≤ MAX_WIDTH
    narrow = let one : sign_bit p.a.signed ≡ 1 = ap sign_bit e in omega (arith, few, one)

    abbrev q_of : Placed
    q_of = with_quotient p known.net known.digits

    q_later : Later known.net q_of.net
    q_later = quotient-later p known.net known.digits valid ins narrow are.digits

    q_width : slice_index (widths q_of.net.nodes) q_of.place ≡ L + 1
    q_width = quotient-width p known.net known.digits valid ins narrow are.digits

    q_count : length (bits_from q_of.place 0 (L + 1)) ≡ L + sign_bit p.a.signed
    q_count = let one : sign_bit p.a.signed ≡ 1 = ap sign_bit e in omega (arith, length-bits_from q_of.place 0 (L + 1), one)

    q_is_wide : IsWidth (length (bits_from q_of.place 0 (L + 1)))
    q_is_wide = subst IsWidth (sym (length-bits_from q_of.place 0 (L + 1))) (omega arith, narrow)

    -- the quotient in a net that has grown
    module _ (new : Net) (later : Later q_of.net new) where
      q_within : q_of.place < length q_of.net.nodes
      q_within = node_there q_of.net q_of.place (L + 1) (omega arith) q_width

      all-later : Later known.net new
      all-later = later-then known.net q_of.net new q_later later

      new_width : slice_index (widths new.nodes) q_of.place ≡ L + 1
      new_width = grown-width q_of.net new later.grown q_of.place q_within ∙ q_width

      pub q_digits : All (IsThere (widths new.nodes)) (bits_from q_of.place 0 (L + 1))
      q_digits = bits_from-there (widths new.nodes) q_of.place 0 (L + 1) (omega (arith, new_width))

      pub q_value : (inputs : Inputs) (t : ℤ) → All (AreWords (input_widths known.net)) inputs
          → val (word_flow new.nodes inputs (bits_from q_of.place 0 (L + 1)) t) (quotient_format p)
          ≡ with_sign (xor (sign_a inputs t) (sign_b inputs t)) (number_at known.net.nodes inputs t known.digits)
      q_value inputs t words =
          let n = number_at known.net.nodes inputs t known.digits in
          let first = flow known.net.nodes inputs 0 t in
          let second = flow known.net.nodes inputs 1 t in
          let long : length (flow new.nodes inputs q_of.place t) ≡ L + 1 =
          flow-width new all-later.valid inputs (words-later known.net new all-later inputs words) q_of.place t ∙ new_width in
          val-signed (word_flow new.nodes inputs (bits_from q_of.place 0 (L + 1)) t) (quotient_format p) e
          ∙ ap int (whole-flow new.nodes inputs t q_of.place (L + 1) long)
          ∙ ap int (grown-flow q_of.net new later.grown inputs q_of.place t q_within)
          ∙ quotient-number p known.net known.digits valid ins narrow are.digits inputs t words
          ∙ sym (ap (λ (c : Bool). with_sign (xor (c && highest first) (sign_b inputs t)) n) e
          ∙ ap (λ (c : Bool). with_sign (xor (highest first) (c && highest second)) n) (sym alike ∙ e))

    -- faithful results have no remainder
    faithful_finished : p.exact ≡ false → IsFinished (signed_results false p known)
    faithful_finished f = record {
      later = q_later;
      results = record {
        width = q_is_wide;
        digits = q_digits q_of.net (later-same q_of.net q_later.valid);
        rest_width = λ exact. absurd (cc);
        rest = All-nil (IsThere (widths q_of.net.nodes));
      };
      count = q_count;
      rest_count = λ exact. absurd (cc);
      quotient = q_value q_of.net (later-same q_of.net q_later.valid);
      remainder = λ exact. absurd (cc);
    }

    exact_finished : p.exact ≡ true → IsFinished (signed_results true p known)
    exact_finished f = record {
      later = later-then known.net q_of.net r_of.net q_later r_later;
      results = record {
        width = q_is_wide;
        digits = q_digits r_of.net r_later;
        rest_width = λ exact. subst IsWidth (sym (length-bits_from r_of.place 0 R)) some;
        rest = bits_from-there (widths r_of.net.nodes) r_of.place 0 R (omega (arith, r_width));
      };
      count = q_count;
      rest_count = λ exact. length-bits_from r_of.place 0 R;
      quotient = q_value r_of.net r_later;
      remainder = λ exact inputs t words low.
          let n = number_at known.net.nodes inputs t known.rest in
          let same = number-kept known.net.nodes q_of.net.nodes (grown-flow known.net q_of.net q_later.grown) inputs t known.rest are.rest in
          let words_q = words-later known.net q_of.net q_later inputs words in
          let long : length (flow r_of.net.nodes inputs r_of.place t) ≡ R =
          flow-width r_of.net r_later.valid inputs (words-later q_of.net r_of.net r_later inputs words_q) r_of.place t ∙ r_width in
          let kept = grown-flow known.net q_of.net q_later.grown inputs 0 t (node_there known.net 0 p.a.width ins.some_a.0 ins.a) in
          val-signed (word_flow r_of.net.nodes inputs (bits_from r_of.place 0 R) t) (remainder_format p) (sym alike ∙ e)
          ∙ ap int (whole-flow r_of.net.nodes inputs t r_of.place R long)
          ∙ remainder-number p q_of.net known.rest q_later.valid q_ins some r_kept inputs t words_q
          (subst (λ k. 2 * k < 2 ^ R) (sym same) (low e))
          ∙ ap (λ v. with_sign (highest v) (number_at q_of.net.nodes inputs t known.rest)) kept
          ∙ ap (with_sign (highest (flow known.net.nodes inputs 0 t))) same
          ∙ sym (ap (λ (c : Bool). with_sign (c && highest (flow known.net.nodes inputs 0 t)) n) e);
    }
      where
        R : ℕ
        R = length known.rest

        some : IsWidth (length known.rest)
        some = are.rest_width f

        q_ins : HasInputs p q_of.net
        q_ins = still-inputs p known.net q_of.net q_later ins

        r_kept : All (IsThere (widths q_of.net.nodes)) known.rest
        r_kept = grown-all_there known.net q_of.net q_later.grown known.rest are.rest

        r_of : Placed
        r_of = with_remainder p q_of.net known.rest

        r_later : Later q_of.net r_of.net
        r_later = remainder-later p q_of.net known.rest q_later.valid q_ins some r_kept

        r_width : slice_index (widths r_of.net.nodes) r_of.place ≡ R
        r_width = remainder-width p q_of.net known.rest q_later.valid q_ins some r_kept

    signed_finished : IsFinished (signed_results p.exact p known)
    signed_finished = go p.exact refl
      where
        go : (exact : Bool) → p.exact ≡ exact → IsFinished (signed_results exact p known)
        go true f = exact_finished f
        go false f = faithful_finished f

  pub is_finished : IsFinished (with_signs p known)
  is_finished = go p.a.signed refl
    where
      go : (signed : Bool) → p.a.signed ≡ signed → IsFinished (results_of signed p known)
      go true e = signed_finished e
      go false e = unsigned_finished e
