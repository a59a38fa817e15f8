-- The numbers of operands.
use Rattle.std.proofs.Common.{◌≡◌, ℕ, zero, suc, ◌+◌, ◌-◌, ◌*◌, ◌^◌, ◌≤◌, Bool, true, false, List, [], ◌∷◌, ◌++◌, length, length-append, take, drop, replicate, refl, sym, ap, ◌∙◌, arith}
use Rattle.std.specs.Prelude.{ℤ, pos, ◌-ℤ◌, ◌*ℤ◌, All, slice_index, slice_index_or, if◌then◌else◌}
use Rattle.std.proofs.Math.Nat.{two-pow-succ}
use Rattle.std.proofs.lemmas.Int.{ints}
use Rattle.std.proofs.lemmas.Nat.{pow-add}
use Rattle.std.proofs.lemmas.List.{length-drop, length-replicate, take-append-drop}
use Rattle.std.proofs.lemmas.List.Elements.{All-append, All-drop, All-replicate}
use Rattle.opgen_num.specs.declared.format.Format.{Format}
use Rattle.opgen_num.specs.Words.{highest, val, digit, nat}
use Rattle.opgen_num.proofs.Integers.{product-difference}
use Rattle.opgen_net.specs.declared.node.Node.{Node}
use Rattle.opgen_net.specs.declared.word_bits.WordBit.{WordBit}
use Rattle.opgen_net.specs.declared.word_bits.WordBit.TheVariants.{Zero}
use Rattle.opgen_net.specs.Flow.{Inputs, flow}
use Rattle.opgen_net.specs.WordRule.{IsThere, bit_flow, bits_from}
use Rattle.opgen_net.specs.Placed.{number_at}
use Rattle.opgen_net.proofs.BitLists.{length-bits_from, bits_from-there, zeros-there}
use Rattle.opgen_net.proofs.Numbers.{at-append, at-zeros, at-node}
use Rattle.opgen_graph.specs.declared.multiples.Multiple.{Multiple}
use Rattle.opgen_graph.specs.Recipe.{top_bit, extended, operand}
use Rattle.opgen_graph.specs.Residues.{IsResidue}

highest-last : (w : List Bool) → 1 ≤ length w → slice_index_or w (length w - 1) false ≡ highest w
highest-last [] h = absurd (omega (arith, h))
highest-last (b ∷ []) h = refl
highest-last (b ∷ c ∷ w) h =
    let e : length (b ∷ c ∷ w) - 1 ≡ suc (length (c ∷ w) - 1) = omega arith in
    ap (λ k. slice_index_or (b ∷ c ∷ w) k false) e ∙ highest-last (c ∷ w) (omega arith)

pub length-extended : (signed : Bool) (zeros width : ℕ) (m : Multiple) → length (extended signed zeros width m) ≡ width + (m.width + zeros)
length-extended signed zeros width m =
    let top = replicate width (top_bit signed m) in
    let own = bits_from m.node 0 m.width in
    omega (
      arith,
      length-append top (own ++ replicate zeros Zero),
      length-append own (replicate zeros Zero),
      length-replicate width (top_bit signed m),
      length-bits_from m.node 0 m.width,
      length-replicate zeros Zero,
    )

pub length-operand : (signed : Bool) (zeros width : ℕ) (m : Multiple) → length (operand signed zeros width m) ≡ width
length-operand signed zeros width m =
    length-drop (m.width + zeros) (extended signed zeros width m) ∙ omega (arith, length-extended signed zeros width m)

pub operand-there : (ws : List ℕ) (signed : Bool) (zeros width : ℕ) (m : Multiple) → 1 ≤ m.width → slice_index ws m.node ≡ m.width
    → All (IsThere ws) (operand signed zeros width m)
operand-there ws signed zeros width m some wide =
    All-drop (IsThere ws) (m.width + zeros) (extended signed zeros width m)
    (All-append (IsThere ws) (replicate width (top_bit signed m)) (bits_from m.node 0 m.width ++ replicate zeros Zero)
    (All-replicate (IsThere ws) width (top_bit signed m) (top signed))
    (All-append (IsThere ws) (bits_from m.node 0 m.width) (replicate zeros Zero)
    (bits_from-there ws m.node 0 m.width (omega (arith, wide)))
    (zeros-there ws zeros)))
  where
    top : (signed : Bool) → IsThere ws (top_bit signed m)
    top true = omega (arith, some, wide)
    top false = tt

module _ (nodes : List Node) (inputs : Inputs) (t : ℤ) where
  abbrev at : List WordBit → ℕ
  at given = number_at nodes inputs t given

  -- copies of a bit are all ones or zero
  at-copies : (b : WordBit) (count : ℕ)
      → at (replicate count b) + digit (bit_flow nodes inputs t b) ≡ digit (bit_flow nodes inputs t b) * 2 ^ count
  at-copies b zero = omega arith
  at-copies b (suc k) =
      let d = digit (bit_flow nodes inputs t b) in
      let one : 2 ^ length (replicate k b) * at (b ∷ []) ≡ 2 ^ k * d =
      ap (λ n. 2 ^ n * at (b ∷ [])) (length-replicate k b) ∙ ap (λ n. 2 ^ k * n) (omega arith) in
      let twice : d * 2 ^ suc k ≡ d * 2 ^ k + d * 2 ^ k = ap (λ n. d * n) (two-pow-succ k) ∙ omega arith in
      omega (arith, at-append nodes inputs t (b ∷ []) (replicate k b), one, twice, at-copies b k)

  module _ (format : Format) (m : Multiple) (some : 1 ≤ m.width) (wide : length (flow nodes inputs m.node t) ≡ m.width) where
    abbrev word : List Bool
    word = flow nodes inputs m.node t

    -- 1 where the number is below 0
    abbrev sign : ℕ
    sign = digit (bit_flow nodes inputs t (top_bit format.signed m))

    value-sign : val word format ≡ pos (nat word) -ℤ pos (sign * 2 ^ m.width)
    value-sign = go format refl
      where
        top : slice_index_or word (m.width - 1) false ≡ highest word
        top = ap (λ n. slice_index_or word (n - 1) false) (sym wide) ∙ highest-last word (omega (arith, wide, some))

        power : 2 ^ length word ≡ 2 ^ m.width
        power = ap (λ n. 2 ^ n) wide

        by_top : (b : Bool) → pos (nat word) -ℤ pos (if b then 2 ^ length word else 0) ≡ pos (nat word) -ℤ pos (digit b * 2 ^ m.width)
        by_top true = omega (arith, ints, power)
        by_top false = omega (arith, ints)

        by_sign : (s : Bool) → (if s then pos (nat word) -ℤ pos (if highest word then 2 ^ length word else 0) else pos (nat word))
            ≡ pos (nat word) -ℤ pos (digit (bit_flow nodes inputs t (top_bit s m)) * 2 ^ m.width)
        by_sign true = by_top (highest word) ∙ ap (λ (b : Bool). pos (nat word) -ℤ pos (digit b * 2 ^ m.width)) (sym top)
        by_sign false = omega (arith, ints)

        go : (f : Format) → f ≡ format
            → val word f ≡ pos (nat word) -ℤ pos (digit (bit_flow nodes inputs t (top_bit f.signed m)) * 2 ^ m.width)
        go f e = by_sign f.signed

    -- the operand of a width is the number times the power of two of its zeros, up to a multiple of 2 to the width
    pub operand-residue : (zeros width : ℕ)
        → IsResidue width (pos (2 ^ zeros) *ℤ val word format) (at (operand format.signed zeros width m))
    operand-residue zeros width =
        let top = replicate width (top_bit format.signed m) in
        let own = bits_from m.node 0 m.width in
        let low = replicate zeros Zero in
        let all = extended format.signed zeros width m in
        let cut = m.width + zeros in
        let high = take cut all in
        let rest = drop cut all in
        let P = 2 ^ cut in
        let split : at all ≡ at rest + 2 ^ width * at high =
        ap at (sym (take-append-drop cut all))
        ∙ at-append nodes inputs t high rest
        ∙ ap (λ n. at rest + 2 ^ n * at high) (length-operand format.signed zeros width m) in
        let number : at (own ++ low) ≡ 2 ^ zeros * nat word =
        at-append nodes inputs t own low
        ∙ omega (
          arith,
          at-zeros nodes inputs t zeros,
          ap (λ n. 2 ^ n * at own) (length-replicate zeros Zero),
          ap (λ n. 2 ^ zeros * n) (at-node nodes inputs t m.node m.width wide),
        ) in
        let long : length (own ++ low) ≡ cut =
        omega (arith, length-append own low, length-bits_from m.node 0 m.width, length-replicate zeros Zero) in
        let sum : at all ≡ 2 ^ zeros * nat word + P * at top =
        at-append nodes inputs t top (own ++ low) ∙ omega (arith, number, ap (λ n. 2 ^ n * at top) long) in
        let ones : P * (at top + sign) ≡ P * (sign * 2 ^ width) = ap (λ n. P * n) (at-copies (top_bit format.signed m) width) in
        let product : 2 ^ zeros * (sign * 2 ^ m.width) ≡ P * sign = omega (arith, ap (λ n. n * sign) (pow-add 2 m.width zeros)) in
        let value : pos (2 ^ zeros) *ℤ val word format ≡ pos (2 ^ zeros * nat word) -ℤ pos (2 ^ zeros * (sign * 2 ^ m.width)) =
        ap (λ z. pos (2 ^ zeros) *ℤ z) value-sign ∙ product-difference (pos (2 ^ zeros)) (pos (nat word)) (pos (sign * 2 ^ m.width)) in
        record { more = P * sign; less = at high; same = omega (arith, ints, value, product, ones, split, sum) }
