-- The widths of the expressions, and how deep they nest.
use Rattle.std.proofs.Common.{◌≡◌, ℕ, zero, suc, ◌+◌, ◌-◌, ◌<◌, ◌≤◌, Bool, true, false, List, [], ◌∷◌, replicate, Some, None, refl, sym, ap, ◌∙◌, subst, arith}
use Rattle.std.specs.Prelude.{nat_eq, nat_le, nat_lt, ◌&&◌, if◌then◌else◌, option_and_then, slice_get, slice_index}
use Rattle.std.proofs.lemmas.Bool.{eq-eqb, eqb-true, le-leb, lt-ltb}
use Rattle.std.proofs.lemmas.Option.{slice_get-get_or}
use Rattle.opgen_num.specs.declared.format.TheConstants.{MAX_WIDTH}
use Rattle.opgen_design.specs.declared.expr.Op.{Op}
use Rattle.opgen_design.specs.declared.expr.Op.TheVariants.{And, Xor, Cat, Plus}
use Rattle.opgen_design.specs.Plain.{trees_of}
use Rattle.opgen_design.specs.Tree.{Tree, name, part, bits, port, inverse, chain, more, none}
use Rattle.opgen_design.specs.Value.{IsWidth, as_width, joined, width, width_on, in_chain, in_not, nesting, operands_nesting}
use Rattle.opgen_design.proofs.WidthLaws.{as_width-of}
use Rattle.opgen_net.specs.Valid.{FitsNodes}
use Rattle.opgen_net.proofs.FlowLaws.{index_within}
use Rattle.opgen_net.proofs.WordLaws.{name-width}
use Rattle.opgen_nonrestoring.specs.Recipe.{two, every, top, low, negative, next_bit, next_sum, next_digit, remainder_bits}

-- an operand opens one pair of parentheses at most
opens-one : (t : Tree) → (in_chain t ≤ 1) × (in_not t ≤ 1)
opens-one (name n) = (omega arith, omega arith)
opens-one (part n high low) = (omega arith, omega arith)
opens-one (bits w) = (omega arith, omega arith)
opens-one (port n) = (omega arith, omega arith)
opens-one (inverse t) = (omega arith, omega arith)
opens-one (chain op ts) = (omega arith, omega arith)

-- an expression of so many bits, whose parentheses nest at most so deep
pub record Fits (ws : List ℕ) (w depth : ℕ) (e : Tree) : Type 0 where
  pub wide : width ws [] e ≡ Some w
  pub nests : nesting e ≤ depth

module _ (ws : List ℕ) where
  pub fits : (w depth : ℕ) (e : Tree) → Fits ws w depth e → depth ≤ 64 → FitsNodes ws w e
  fits w depth e f h = record { has_width = f.wide; nests = omega (arith, f.nests, h) }

  pub name-fits : (w n : ℕ) → IsWidth w → slice_index ws n ≡ w → Fits ws w 0 (name n)
  name-fits w n wide h = record { wide = name-width ws n w wide h; nests = omega arith }

  pub part-fits : (w v n high low : ℕ) → IsWidth w → slice_index ws n ≡ v → low ≤ high → high < v → high + 1 - low ≡ w
      → Fits ws w 0 (part n high low)
  part-fits w v n high low wide h order within count =
      let there : slice_get ws n ≡ Some v = slice_get-get_or ws n 0 (index_within ws n 0 (omega (arith, h, within))) ∙ ap Some h in
      record {
        wide = ap (option_and_then (λ u. if nat_le low high && nat_lt high u then as_width (high + 1 - low) else None)) there
            ∙ ap (λ c. if c && nat_lt high v then as_width (high + 1 - low) else None) (le-leb low high order)
            ∙ ap (λ c. if c then as_width (high + 1 - low) else None) (lt-ltb high v within)
            ∙ ap as_width count
            ∙ as_width-of w wide;
        nests = omega arith;
      }

  pub inverse-fits : (w depth : ℕ) (e : Tree) → Fits ws w depth e → Fits ws w (suc depth) (inverse e)
  inverse-fits w depth e f = record { wide = f.wide; nests = omega (arith, f.nests, (opens-one e).1) }

  -- an operand more
  on-width : (op : Op) (v w x : ℕ) (e : Tree) → width ws [] e ≡ Some w → joined op v w ≡ Some x → width_on ws [] op v (more e none) ≡ Some x
  on-width op v w x e h j =
      ap (option_and_then (λ u. option_and_then (λ y. width_on ws [] op y none) (joined op v u))) h
      ∙ ap (option_and_then (λ y. width_on ws [] op y none)) j

  pub two-fits : (op : Op) (v w x depth : ℕ) (a b : Tree) → joined op v w ≡ Some x → Fits ws v depth a → Fits ws w depth b
      → Fits ws x (suc depth) (two op a b)
  two-fits op v w x depth a b j f g = record {
    wide = ap (option_and_then (λ u. width_on ws [] op u (more b none))) f.wide ∙ on-width op v w x b g.wide j;
    nests = omega (arith, f.nests, g.nests, (opens-one a).0, (opens-one b).0);
  }

  pub deeper : (w depth : ℕ) (e : Tree) → Fits ws w depth e → Fits ws w (suc depth) e
  deeper w depth e f = record { wide = f.wide; nests = omega (arith, f.nests) }

  same-width : (w : ℕ) → (if nat_eq w w then Some w else None) ≡ Some w
  same-width w = ap (λ (c : Bool). if c then Some w else None) (eq-eqb w w refl)

  -- a bit in each place
  module _ (depth : ℕ) (t : Tree) (f : Fits ws 1 depth t) where
    copies-width : (k v : ℕ) → 1 ≤ v → v + k ≤ MAX_WIDTH → width_on ws [] Cat v (trees_of (replicate k t)) ≡ Some (v + k)
    copies-width zero v some few = ap Some (omega arith)
    copies-width (suc k) v some few =
        let next : v + 1 + k ≡ v + suc k = omega arith in
        ap (option_and_then (λ u. option_and_then (λ y. width_on ws [] Cat y (trees_of (replicate k t))) (joined Cat v u))) f.wide
        ∙ ap (option_and_then (λ y. width_on ws [] Cat y (trees_of (replicate k t)))) (as_width-of (v + 1) (omega arith, omega (arith, few)))
        ∙ copies-width k (v + 1) (omega arith) (omega (arith, few))
        ∙ ap Some next

    copies-nest : (k : ℕ) → operands_nesting (trees_of (replicate k t)) ≤ suc depth
    copies-nest zero = omega arith
    copies-nest (suc k) = omega (arith, f.nests, (opens-one t).0, copies-nest k)

    many-fits : (w : ℕ) → nat_eq w 1 ≡ false → IsWidth w → Fits ws w (suc depth) (chain Cat (trees_of (replicate w t)))
    many-fits zero e wide = absurd (omega (arith, wide.0))
    many-fits (suc zero) e wide = absurd (cc)
    many-fits (suc (suc k)) e wide =
        let all : 1 + suc k ≡ suc (suc k) = omega arith in
        record {
          wide = ap (option_and_then (λ u. width_on ws [] Cat u (trees_of (replicate (suc k) t)))) f.wide
              ∙ copies-width (suc k) 1 (omega arith) (omega (arith, wide.1))
              ∙ ap Some all;
          nests = copies-nest (suc (suc k));
        }

    pub every-fits : (w : ℕ) → IsWidth w → Fits ws w (suc depth) (every w t)
    every-fits w wide = by (nat_eq w 1) refl
      where
        by : (c : Bool) → nat_eq w 1 ≡ c → Fits ws w (suc depth) (if c then t else chain Cat (trees_of (replicate w t)))
        by true e = subst (λ n. Fits ws n (suc depth) t) (sym (eqb-true w 1 e)) (deeper 1 depth t f)
        by false e = many-fits w e wide

  -- the expressions of a step, over a sum of one bit more than a divisor of w bits
  module _ (w s : ℕ) (some : 1 ≤ w) (few : w + 1 ≤ MAX_WIDTH) (wide : slice_index ws s ≡ w + 1) where
    word : IsWidth w
    word = (some, omega (arith, few))

    bit : IsWidth 1
    bit = (omega arith, omega arith)

    top-fits : Fits ws 1 0 (top w s)
    top-fits = part-fits 1 (w + 1) s w w bit wide (omega arith) (omega arith) (omega arith)

    low-fits : Fits ws w 0 (low w s)
    low-fits = part-fits w (w + 1) s (w - 1) 0 word wide (omega arith) (omega (arith, some)) (omega (arith, some))

    pub negative-fits : FitsNodes ws w (negative w s)
    negative-fits =
        let signs = inverse-fits w 1 (every w (top w s)) (every-fits 0 (top w s) top-fits w word) in
        let lower = deeper w 1 (low w s) (deeper w 0 (low w s) low-fits) in
        fits w 3 (negative w s) (two-fits Xor w w w 2 (low w s) (inverse (every w (top w s))) (same-width w) lower signs) (omega arith)

    pub next_digit-fits : (d : ℕ) → slice_index ws d ≡ 1 → FitsNodes ws 1 (next_digit w d s)
    next_digit-fits d h =
        let differ = two-fits Xor 1 1 1 0 (name d) (top w s) refl (name-fits 1 d bit h) top-fits in
        fits 1 2 (next_digit w d s) (inverse-fits 1 1 (two Xor (name d) (top w s)) differ) (omega arith)

    pub next_bit-fits : (a d : ℕ) → slice_index ws a ≡ 1 → slice_index ws d ≡ 1 → FitsNodes ws 1 (next_bit w a d s)
    next_bit-fits a d g h =
        let one = name-fits 1 a bit g in
        let other = name-fits 1 d bit h in
        record {
          has_width = ap (option_and_then (λ u. width_on ws [] Xor u (more (name d) (more (top w s) none)))) one.wide
              ∙ ap (option_and_then (λ u. option_and_then (λ y. width_on ws [] Xor y (more (top w s) none)) (joined Xor 1 u))) other.wide
              ∙ on-width Xor 1 1 1 (top w s) top-fits.wide refl;
          nests = omega arith;
        }

    pub remainder_bits-fits : (d : ℕ) → slice_index ws d ≡ 1 → FitsNodes ws w (remainder_bits w d s)
    remainder_bits-fits d h =
        let turned = every-fits 0 (name d) (name-fits 1 d bit h) w word in
        fits w 2 (remainder_bits w d s)
        (two-fits Xor w w w 1 (low w s) (every w (name d)) (same-width w) (deeper w 0 (low w s) low-fits) turned) (omega arith)

    -- the divisor where the remainder is negative
    pub correction-fits : (b d : ℕ) → slice_index ws b ≡ w → slice_index ws d ≡ 1
        → FitsNodes ws w (two And (name b) (two Xor (every w (name d)) (every w (top w s))))
    correction-fits b d g h =
        let turned = every-fits 0 (name d) (name-fits 1 d bit h) w word in
        let signs = every-fits 0 (top w s) top-fits w word in
        let differ = two-fits Xor w w w 1 (every w (name d)) (every w (top w s)) (same-width w) turned signs in
        let number = deeper w 1 (name b) (deeper w 0 (name b) (name-fits w b word g)) in
        fits w 3 (two And (name b) (two Xor (every w (name d)) (every w (top w s))))
        (two-fits And w w w 2 (name b) (two Xor (every w (name d)) (every w (top w s))) (same-width w) number differ) (omega arith)

  pub next_sum-fits : (w b n a : ℕ) → 1 ≤ w → w + 1 ≤ MAX_WIDTH → slice_index ws b ≡ w → slice_index ws n ≡ w → slice_index ws a ≡ 1
      → FitsNodes ws (w + 1) (next_sum b n a)
  next_sum-fits w b n a some few f g h =
      let word : IsWidth w = (some, omega (arith, few)) in
      let longer : IsWidth (w + 1) = (omega arith, few) in
      let nothing : Fits ws 1 0 (bits (false ∷ [])) = record { wide = refl; nests = omega arith } in
      let swap : 1 + w ≡ w + 1 = omega arith in
      let upper : joined Cat 1 w ≡ Some (w + 1) = ap as_width swap ∙ as_width-of (w + 1) longer in
      let lower : joined Cat w 1 ≡ Some (w + 1) = as_width-of (w + 1) longer in
      let number = two-fits Cat 1 w (w + 1) 0 (bits (false ∷ [])) (name b) upper nothing (name-fits w b word f) in
      let doubled = two-fits Cat w 1 (w + 1) 0 (name n) (name a) lower (name-fits w n word g) (name-fits 1 a (omega arith, omega arith) h) in
      fits (w + 1) 2 (next_sum b n a)
      (two-fits Plus (w + 1) (w + 1) (w + 1) 1 (two Cat (bits (false ∷ [])) (name b)) (two Cat (name n) (name a)) (same-width (w + 1)) number doubled)
      (omega arith)

  pub sum-fits : (w a b : ℕ) → IsWidth w → slice_index ws a ≡ w → slice_index ws b ≡ w → FitsNodes ws w (two Plus (name a) (name b))
  sum-fits w a b wide f g =
      fits w 1 (two Plus (name a) (name b))
      (two-fits Plus w w w 0 (name a) (name b) (same-width w) (name-fits w a wide f) (name-fits w b wide g)) (omega arith)
