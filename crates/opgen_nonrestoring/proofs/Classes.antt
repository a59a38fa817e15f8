-- The cells of a step are logic: each bit reads at most three bits, through two chains of operators at most.
use Rattle.std.proofs.Common.{◌≡◌, ℕ, zero, suc, ◌+◌, ◌-◌, ◌≤◌, Bool, true, false, List, [], ◌∷◌, ◌++◌, length, length-append, replicate, refl, sym, ap, ◌∙◌, subst, arith}
use Rattle.std.specs.Prelude.{All, IsTrue, nat_eq, ◌&&◌, if◌then◌else◌, slice_index}
use Rattle.std.proofs.lemmas.List.Elements.{All-append, All-cons, All-nil, All-head, All-tail}
use Rattle.opgen_design.specs.declared.expr.Op.TheVariants.{And, Xor, Cat}
use Rattle.opgen_design.specs.Plain.{trees_of}
use Rattle.opgen_design.specs.Tree.{Tree, name, part, inverse, chain}
use Rattle.opgen_net.specs.Cells.{Bit, bits_up, both, reads, reads_on, is_bitwise, are_bitwise, levels, operand_levels, AreFew, IsLogic}
use Rattle.opgen_net.proofs.CellLaws.{few-of, inverse-one, name-one, one-logic, part-one, three-one, two-one}
use Rattle.opgen_nonrestoring.specs.Recipe.{two, every, top, low, negative, next_bit, next_digit, remainder_bits}

-- each of these lists of bits has at most so many
abbrev AtMost : ℕ → List (List Bit) → Type 0
AtMost count read = All (λ (r : List Bit). length r ≤ count) read

module _ (count : ℕ) where
  none-most : AtMost count []
  none-most = All-nil (λ (r : List Bit). length r ≤ count)

  more-most : (r : List Bit) (rs : List (List Bit)) → length r ≤ count → AtMost count rs → AtMost count (r ∷ rs)
  more-most r rs h a = All-cons (λ (r : List Bit). length r ≤ count) r rs h a

up-most : (node low count : ℕ) → AtMost 1 (bits_up node low count)
up-most node low zero = none-most 1
up-most node low (suc k) = more-most 1 ((node, low) ∷ []) (bits_up node (suc low) k) (omega arith) (up-most node (suc low) k)

both-most : (k l : ℕ) (a b : List (List Bit)) → AtMost k a → AtMost l b → AtMost (k + l) (both a b)
both-most k l [] b f g = none-most (k + l)
both-most k l (x ∷ a) [] f g = none-most (k + l)
both-most k l (x ∷ a) (y ∷ b) f g =
    let P = λ (r : List Bit). length r ≤ k in
    let Q = λ (r : List Bit). length r ≤ l in
    more-most (k + l) (x ++ y) (both a b)
    (omega (arith, length-append x y, All-head P x a f, All-head Q y b g))
    (both-most k l a b (All-tail P x a f) (All-tail Q y b g))

-- an expression in which so many chains stand one in the other, and each bit reads at most so many
record ReadsMost (ws : List ℕ) (depth count : ℕ) (e : Tree) : Type 0 where
  bitwise : is_bitwise e ≡ true
  shallow : levels e ≤ depth
  most : AtMost count (reads ws e)

module _ (ws : List ℕ) where
  few-all : (count : ℕ) → count ≤ 6 → (read : List (List Bit)) → AtMost count read → All AreFew read
  few-all count six [] h = All-nil AreFew
  few-all count six (r ∷ rs) h =
      let P = λ (r : List Bit). length r ≤ count in
      All-cons AreFew r rs (few-of r (omega (arith, six, All-head P r rs h))) (few-all count six rs (All-tail P r rs h))

  logic : (depth count : ℕ) (e : Tree) → depth ≤ 2 → count ≤ 6 → ReadsMost ws depth count e → IsLogic ws e
  logic depth count e d six h = record {
    bitwise = subst IsTrue (sym h.bitwise) refl;
    shallow = omega (arith, d, h.shallow);
    few = few-all count six (reads ws e) h.most;
  }

  name-most : (n : ℕ) → ReadsMost ws 0 1 (name n)
  name-most n = record { bitwise = refl; shallow = omega arith; most = up-most n 0 (slice_index ws n) }

  part-most : (n high low : ℕ) → ReadsMost ws 0 1 (part n high low)
  part-most n high low = record { bitwise = refl; shallow = omega arith; most = up-most n low (high + 1 - low) }

  inverse-most : (depth count : ℕ) (e : Tree) → ReadsMost ws depth count e → ReadsMost ws depth count (inverse e)
  inverse-most depth count e h = record { bitwise = h.bitwise; shallow = h.shallow; most = h.most }

  and-most : (depth k l : ℕ) (a b : Tree) → ReadsMost ws depth k a → ReadsMost ws depth l b → ReadsMost ws (suc depth) (k + l) (two And a b)
  and-most depth k l a b f g = record {
    bitwise = ap (λ c. c && (is_bitwise b && true)) f.bitwise ∙ ap (λ c. c && true) g.bitwise;
    shallow = omega (arith, f.shallow, g.shallow);
    most = both-most k l (reads ws a) (reads ws b) f.most g.most;
  }

  xor-most : (depth k l : ℕ) (a b : Tree) → ReadsMost ws depth k a → ReadsMost ws depth l b → ReadsMost ws (suc depth) (k + l) (two Xor a b)
  xor-most depth k l a b f g = record {
    bitwise = ap (λ c. c && (is_bitwise b && true)) f.bitwise ∙ ap (λ c. c && true) g.bitwise;
    shallow = omega (arith, f.shallow, g.shallow);
    most = both-most k l (reads ws a) (reads ws b) f.most g.most;
  }

  -- a bit in each place
  module _ (depth count : ℕ) (t : Tree) (h : ReadsMost ws depth count t) where
    copies-bitwise : (k : ℕ) → are_bitwise (trees_of (replicate k t)) ≡ true
    copies-bitwise zero = refl
    copies-bitwise (suc k) = ap (λ c. c && are_bitwise (trees_of (replicate k t))) h.bitwise ∙ copies-bitwise k

    copies-shallow : (k : ℕ) → operand_levels (trees_of (replicate k t)) ≤ depth
    copies-shallow zero = omega arith
    copies-shallow (suc k) = omega (arith, h.shallow, copies-shallow k)

    copies-most : (k : ℕ) (read : List (List Bit)) → AtMost count read → AtMost count (reads_on ws Cat read (trees_of (replicate k t)))
    copies-most zero read a = a
    copies-most (suc k) read a =
        copies-most k (reads ws t ++ read) (All-append (λ (r : List Bit). length r ≤ count) (reads ws t) read h.most a)

    many-most : (w : ℕ) → ReadsMost ws depth count (chain Cat (trees_of (replicate w t)))
    many-most zero = record { bitwise = refl; shallow = omega arith; most = none-most count }
    many-most (suc k) = record {
      bitwise = copies-bitwise (suc k);
      shallow = omega (arith, copies-shallow (suc k));
      most = copies-most k (reads ws t) h.most;
    }

    every-most : (w : ℕ) → ReadsMost ws depth count (every w t)
    every-most w = by (nat_eq w 1)
      where
        by : (c : Bool) → ReadsMost ws depth count (if c then t else chain Cat (trees_of (replicate w t)))
        by true = h
        by false = many-most w

  module _ (w s : ℕ) where
    pub negative-logic : IsLogic ws (negative w s)
    negative-logic =
        let signs = inverse-most 0 1 (every w (top w s)) (every-most 0 1 (top w s) (part-most s w w) w) in
        logic 1 2 (negative w s) (omega arith) (omega arith)
        (xor-most 0 1 1 (low w s) (inverse (every w (top w s))) (part-most s (w - 1) 0) signs)

    pub remainder_bits-logic : (d : ℕ) → IsLogic ws (remainder_bits w d s)
    remainder_bits-logic d =
        logic 1 2 (remainder_bits w d s) (omega arith) (omega arith)
        (xor-most 0 1 1 (low w s) (every w (name d)) (part-most s (w - 1) 0) (every-most 0 1 (name d) (name-most d) w))

    pub correction-logic : (b d : ℕ) → IsLogic ws (two And (name b) (two Xor (every w (name d)) (every w (top w s))))
    correction-logic b d =
        let differ =
        xor-most 0 1 1 (every w (name d)) (every w (top w s)) (every-most 0 1 (name d) (name-most d) w)
        (every-most 0 1 (top w s) (part-most s w w) w) in
        let number : ReadsMost ws 1 1 (name b) = record { bitwise = refl; shallow = omega arith; most = (name-most b).most } in
        logic 2 3 (two And (name b) (two Xor (every w (name d)) (every w (top w s)))) (omega arith) (omega arith)
        (and-most 1 1 2 (name b) (two Xor (every w (name d)) (every w (top w s))) number differ)

    pub next_digit-logic : (d : ℕ) → slice_index ws d ≡ 1 → IsLogic ws (next_digit w d s)
    next_digit-logic d h =
        one-logic ws 1 2 (next_digit w d s) (omega arith) (omega arith)
        (inverse-one ws 1 2 (two Xor (name d) (top w s)) (two-one ws Xor refl 0 1 1 (name d) (top w s) (name-one ws d h) (part-one ws s w)))

    pub next_bit-logic : (a d : ℕ) → slice_index ws a ≡ 1 → slice_index ws d ≡ 1 → IsLogic ws (next_bit w a d s)
    next_bit-logic a d g h =
        let differ = chain Xor (trees_of (name a ∷ name d ∷ top w s ∷ [])) in
        one-logic ws 1 3 (next_bit w a d s) (omega arith) (omega arith)
        (inverse-one ws 1 3 differ (three-one ws Xor refl 0 1 1 1 (name a) (name d) (top w s) (name-one ws a g) (name-one ws d h) (part-one ws s w)))
