-- The bits of a node, as many as are asked for: their number is that of the node, less a multiple of the power that is lost. So is the
-- number for which they stand in a format.
use Rattle.std.proofs.Common.{◌≡◌, ℕ, zero, suc, ◌+◌, ◌-◌, ◌*◌, ◌^◌, ◌≤◌, min, cond, inl, inr, Bool, true, false, ◌&&◌, if◌then◌else◌, List, [], ◌∷◌, ◌++◌, length, length-append, take, drop, replicate, refl, sym, ap, ◌∙◌, subst, arith}
use Rattle.std.specs.Prelude.{ℤ, pos, ◌+ℤ◌, ◌-ℤ◌, ◌*ℤ◌, All, slice_index, slice_index_or}
use Rattle.std.proofs.Math.Nat.{two-pow-succ}
use Rattle.std.proofs.lemmas.Bool.{cases_lt}
use Rattle.std.proofs.lemmas.Int.{ints}
use Rattle.std.proofs.lemmas.List.{length-replicate}
use Rattle.std.proofs.lemmas.List.Elements.{All-append, All-cons, All-nil}
use Rattle.std.proofs.lemmas.Nat.{pow-add}
use Rattle.opgen_ports.proofs.InputPorts.{some_bits}
use Rattle.opgen_num.specs.declared.format.Format.{Format}
use Rattle.opgen_num.specs.Formats.{IsWidthOf}
use Rattle.opgen_num.specs.Words.{highest, int, val, digit, nat}
use Rattle.opgen_num.proofs.Cuts.{nat-parts}
use Rattle.opgen_num.proofs.Integers.{product-difference}
use Rattle.opgen_net.specs.declared.node.Node.{Node}
use Rattle.opgen_net.specs.declared.word_bits.WordBit.{WordBit}
use Rattle.opgen_net.specs.declared.word_bits.WordBit.TheVariants.{Zero, Of}
use Rattle.opgen_net.specs.Flow.{Inputs, flow}
use Rattle.opgen_net.specs.Placed.{number_at}
use Rattle.opgen_net.specs.WordRule.{IsThere, bits_from, bit_flow}
use Rattle.opgen_net.proofs.BitLists.{length-bits_from, bits_from-there, bits_from-flow}
use Rattle.opgen_net.proofs.Numbers.{at-append, at-node}
use Rattle.opgen_ports.specs.Good.{IsTurned}
use Rattle.opgen_saturate.specs.Recipe.{fill, resized}
use Rattle.opgen_saturate.proofs.Outside.{highest-at, is_below_zero}

-- they stand in the net, and there are so many

pub resized-length : (node : ℕ) (format : Format) (m : ℕ) → length (resized node format m) ≡ m
resized-length node format m =
    omega (
      arith,
      length-append (replicate (m - format.width) (fill node format)) (bits_from node 0 (min m format.width)),
      length-replicate (m - format.width) (fill node format),
      length-bits_from node 0 (min m format.width),
    )

copies-there : (ws : List ℕ) (b : WordBit) → IsThere ws b → (count : ℕ) → All (IsThere ws) (replicate count b)
copies-there ws b h zero = All-nil (IsThere ws)
copies-there ws b h (suc k) = All-cons (IsThere ws) b (replicate k b) h (copies-there ws b h k)

fill-there : (ws : List ℕ) (node w : ℕ) (signed : Bool) → 1 ≤ w → slice_index ws node ≡ w
    → IsThere ws (if signed then Of node (w - 1) else Zero)
fill-there ws node w true some e = omega (arith, some, e)
fill-there ws node w false some e = tt

pub resized-there : (ws : List ℕ) (node : ℕ) (format : Format) (m : ℕ) → IsWidthOf format.signed format.width
    → slice_index ws node ≡ format.width → All (IsThere ws) (resized node format m)
resized-there ws node format m some e =
    All-append (IsThere ws) (replicate (m - format.width) (fill node format)) (bits_from node 0 (min m format.width))
    (copies-there ws (fill node format) (fill-there ws node format.width format.signed (some_bits format.signed format.width some.0) e)
    (m - format.width))
    (bits_from-there ws node 0 (min m format.width) (omega (arith, e)))

-- a number, less a power of two where the word is negative: the value of the word
abbrev less_power : (width n : ℕ) (negative : Bool) → ℤ
less_power width n negative = pos n -ℤ pos (cond negative (2 ^ width) 0)

value : (v : List Bool) (format : Format) → length v ≡ format.width
    → val v format ≡ less_power format.width (nat v) (is_below_zero v format)
value v format long = go format.signed
  where
    go : (signed : Bool) → (if signed then int v else pos (nat v)) ≡ less_power format.width (nat v) (signed && highest v)
    go true = ap (λ n. pos (nat v) -ℤ pos (cond (highest v) (2 ^ n) 0)) long
    go false = omega (arith, ints)

-- a word whose number is another one, modulo two to the power of its width, has a value that is so
pub turned : (v : List Bool) (format : Format) (whole k : ℤ) → length v ≡ format.width
    → whole +ℤ (pos (2 ^ format.width) *ℤ k) ≡ pos (nat v) → IsTurned format.width whole (val v format)
turned v format whole k long number = go (is_below_zero v format) (value v format long)
  where
    go : (negative : Bool) → val v format ≡ less_power format.width (nat v) negative → IsTurned format.width whole (val v format)
    go true e = record { turns = k -ℤ pos 1; same = omega (arith, ints, number, e, product-difference (pos (2 ^ format.width)) k (pos 1)) }
    go false e = record { turns = k; same = omega (arith, ints, number, e) }

module _ (nodes : List Node) (inputs : Inputs) (t : ℤ) (node : ℕ) (format : Format) (some : IsWidthOf format.signed format.width)
    (long : length (flow nodes inputs node t) ≡ format.width) where
  abbrev v : List Bool
  v = flow nodes inputs node t

  abbrev w : ℕ
  w = format.width

  abbrev at : List WordBit → ℕ
  at given = number_at nodes inputs t given

  few : 1 ≤ w
  few = some_bits format.signed w some.0

  pub sign-bit : slice_index_or v (w - 1) false ≡ highest v
  sign-bit = sym (highest-at v (omega (arith, few, long)) ∙ ap (λ n. slice_index_or v (n - 1) false) long)

  filled : bit_flow nodes inputs t (fill node format) ≡ is_below_zero v format
  filled = go format.signed
    where
      go : (signed : Bool) → bit_flow nodes inputs t (if signed then Of node (w - 1) else Zero) ≡ signed && highest v
      go true = sign-bit
      go false = refl

  abbrev number : Bool → ℤ
  number negative = less_power w (nat v) negative

  copies : (b : WordBit) (j : ℕ) → at (replicate j b) + digit (bit_flow nodes inputs t b) ≡ 2 ^ j * digit (bit_flow nodes inputs t b)
  copies b zero = omega arith
  copies b (suc j) =
      let one = digit (bit_flow nodes inputs t b) in
      let more : at (replicate (suc j) b) ≡ at (replicate j b) + 2 ^ j * one = at-append nodes inputs t (b ∷ []) (replicate j b)
      ∙ ap (λ n. at (replicate j b) + 2 ^ n * at (b ∷ [])) (length-replicate j b)
      ∙ ap (λ n. at (replicate j b) + 2 ^ j * n) (omega arith) in
      omega (arith, more, copies b j, ap (λ p. p * one) (two-pow-succ j))

  -- fewer bits
  cut-number : (m : ℕ) → m ≤ w → at (resized node format m) ≡ nat (take m v)
  cut-number m h =
      let none : m - w ≡ 0 = omega (arith, h) in
      let all : min m w ≡ m = omega (arith, h) in
      ap (λ n. at (replicate n (fill node format) ++ bits_from node 0 (min m w))) none
      ∙ ap (λ n. at (bits_from node 0 n)) all
      ∙ ap nat (bits_from-flow nodes inputs t node 0 m (omega (arith, h, long)))

  cut-residue : (m : ℕ) → m ≤ w → (negative : Bool)
      → (k : ℤ) × (number negative +ℤ (pos (2 ^ m) *ℤ k) ≡ pos (at (resized node format m)))
  cut-residue m h true =
      let d = nat (drop m v) in
      let e : (w - m) + m ≡ w = omega (arith, h) in
      let p : 2 ^ (w - m) * 2 ^ m ≡ 2 ^ w = sym (pow-add 2 (w - m) m) ∙ ap (λ n. 2 ^ n) e in (
        pos (2 ^ (w - m)) -ℤ pos d,
        omega (arith, ints, nat-parts m v, cut-number m h, p, product-difference (pos (2 ^ m)) (pos (2 ^ (w - m))) (pos d)),
      )
  cut-residue m h false =
      let d = nat (drop m v) in
      (pos 0 -ℤ pos d, omega (arith, ints, nat-parts m v, cut-number m h, product-difference (pos (2 ^ m)) (pos 0) (pos d)))

  -- more bits
  long-number : (m : ℕ) → w ≤ m → at (resized node format m) ≡ nat v + 2 ^ w * at (replicate (m - w) (fill node format))
  long-number m h =
      let all : min m w ≡ w = omega (arith, h) in
      ap (λ n. at (replicate (m - w) (fill node format) ++ bits_from node 0 n)) all
      ∙ at-append nodes inputs t (replicate (m - w) (fill node format)) (bits_from node 0 w)
      ∙ ap (λ n. at (bits_from node 0 w) + 2 ^ n * at (replicate (m - w) (fill node format))) (length-bits_from node 0 w)
      ∙ ap (λ n. n + 2 ^ w * at (replicate (m - w) (fill node format))) (at-node nodes inputs t node w long)

  long-residue : (m : ℕ) → w ≤ m → (negative : Bool) → bit_flow nodes inputs t (fill node format) ≡ negative
      → (k : ℤ) × (number negative +ℤ (pos (2 ^ m) *ℤ k) ≡ pos (at (resized node format m)))
  long-residue m h true f =
      let j = m - w in
      let above = at (replicate j (fill node format)) in
      let all : above + 1 ≡ 2 ^ j = subst (λ b. above + digit b ≡ 2 ^ j * digit b) f (copies (fill node format) j) ∙ omega arith in
      let e : w + j ≡ m = omega (arith, h) in
      let p : 2 ^ w * 2 ^ j ≡ 2 ^ m = sym (pow-add 2 w j) ∙ ap (λ n. 2 ^ n) e in
      (pos 1, omega (arith, ints, long-number m h, p, ap (λ n. 2 ^ w * n) all))
  long-residue m h false f =
      let j = m - w in
      let above = at (replicate j (fill node format)) in
      let none : above + 0 ≡ 2 ^ j * 0 = subst (λ b. above + digit b ≡ 2 ^ j * digit b) f (copies (fill node format) j) in
      let zero : above ≡ 0 = omega (arith, none) in
      (pos 0, omega (arith, ints, long-number m h, ap (λ n. 2 ^ w * n) zero))

  pub residue : (m : ℕ) → (k : ℤ) × (val v format +ℤ (pos (2 ^ m) *ℤ k) ≡ pos (at (resized node format m)))
  residue m =
      let found : (k : ℤ) × (number (is_below_zero v format) +ℤ (pos (2 ^ m) *ℤ k) ≡ pos (at (resized node format m))) =
      elim (cases_lt w m) [
        | inl h ↦ long-residue m (omega (arith, h)) (is_below_zero v format) filled
        | inr h ↦ cut-residue m h (is_below_zero v format)
      ] in
      (found.0, ap (λ z. z +ℤ (pos (2 ^ m) *ℤ found.0)) (value v format long) ∙ found.1)
