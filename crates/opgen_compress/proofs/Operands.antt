-- The expressions of adders: their width, how deep they nest, and what they give.
use Rattle.std.proofs.Common.{◌≡◌, ℕ, ◌+◌, ◌*◌, ◌≤◌, Bool, true, false, nat_eq, ◌&&◌, ◌||◌, List, [], ◌∷◌, length, Some, refl, sym, ap, ◌∙◌, arith}
use Rattle.std.specs.Prelude.{ℤ, All, slice_index, slice_index_or, option_and_then, if◌then◌else◌}
use Rattle.std.proofs.lemmas.Bool.{eqb-true, and_parts}
use Rattle.std.proofs.lemmas.List.Elements.{All-cons, All-nil}
use Rattle.opgen_num.specs.Words.{digit, xor}
use Rattle.opgen_heap.specs.Sum.{bit_under}
use Rattle.opgen_design.specs.declared.expr.Op.{Op}
use Rattle.opgen_design.specs.declared.expr.Op.TheVariants.{And, Or, Xor}
use Rattle.opgen_net.specs.declared.net.Net.{Net}
use Rattle.opgen_net.specs.declared.word_bits.WordBit.{WordBit}
use Rattle.opgen_net.specs.declared.word_bits.WordBit.TheVariants.{Zero, One, Of}
use Rattle.opgen_design.specs.Tree.{Tree, Trees, none, more, name, part}
use Rattle.opgen_design.specs.Value.{Scope, value, combined, joined, width, width_on, nesting, in_chain}
use Rattle.opgen_net.specs.Cells.{IsLogic}
use Rattle.opgen_net.specs.Flow.{Inputs, flow}
use Rattle.opgen_design.specs.Run.{AreWords}
use Rattle.opgen_net.specs.Valid.{widths, input_widths, IsValid, FitsNodes}
use Rattle.opgen_net.specs.WordRule.{IsThere}
use Rattle.opgen_net.proofs.CellLaws.{ReadsOne, bit-one, one-logic, three-one, two-one}
use Rattle.opgen_net.proofs.FlowWidths.{flow-width}
use Rattle.opgen_net.proofs.WordLaws.{word-fits, cut-one}
use Rattle.opgen_compress.specs.Adder.{bit_tree, two, three, half_sum, half_carry, full_sum, full_carry}
use Rattle.opgen_compress.specs.Kept.{words_at}
use Rattle.opgen_net.proofs.Later.{Later}
use Rattle.opgen_heap.proofs.Kept.{bit-kept}
use Rattle.opgen_net.proofs.Grown.{grown-there}
use Rattle.opgen_compress.proofs.Firsts.{first_of, rest_of}

-- an operand of one bit that needs no parentheses, or is a chain of such
record Flat (ws : List ℕ) (depth : ℕ) (e : Tree) : Type 0 where
  wide : width ws [] e ≡ Some 1
  chain_depth : in_chain e ≡ depth
  nested : nesting e ≡ 0

bit-flat : (ws : List ℕ) (b : WordBit) → IsThere ws b → Flat ws 0 (bit_tree b ws)
bit-flat ws b h =
    let all : All (IsThere ws) (b ∷ []) = All-cons (IsThere ws) b [] h (All-nil (IsThere ws)) in
    let fits = word-fits ws (b ∷ []) (omega arith, omega arith) all in
    record { wide = fits.has_width; chain_depth = (flat b).0; nested = (flat b).1 }
  where
    flat : (b : WordBit) → (in_chain (bit_tree b ws) ≡ 0) × (nesting (bit_tree b ws) ≡ 0)
    flat Zero = (refl, refl)
    flat One = (refl, refl)
    flat (Of node index) =
        elim (nat_eq index 0 && nat_eq (index + 1) (slice_index ws node)) as (
        λ c. (in_chain (if c then name node else part node index index) ≡ 0)
        × (nesting (if c then name node else part node index index) ≡ 0)
        ) [ true ↦ (refl, refl) | false ↦ (refl, refl) ]

module _ (ws : List ℕ) (op : Op) (keeps : joined op 1 1 ≡ Some 1) where
  -- an operand more
  on-width : (y : Tree) (ts : Trees) → width ws [] y ≡ Some 1 → width_on ws [] op 1 (more y ts) ≡ width_on ws [] op 1 ts
  on-width y ts e =
      ap (option_and_then (λ v. option_and_then (λ u. width_on ws [] op u ts) (joined op 1 v))) e
      ∙ ap (option_and_then (λ u. width_on ws [] op u ts)) keeps

  two-width : (x y : Tree) → width ws [] x ≡ Some 1 → width ws [] y ≡ Some 1 → width ws [] (two op x y) ≡ Some 1
  two-width x y e f = ap (option_and_then (λ w. width_on ws [] op w (more y none))) e ∙ on-width y none f

  three-width : (x y z : Tree) → width ws [] x ≡ Some 1 → width ws [] y ≡ Some 1 → width ws [] z ≡ Some 1 → width ws [] (three op x y z)
      ≡ Some 1
  three-width x y z e f g = ap (option_and_then (λ w. width_on ws [] op w (more y (more z none)))) e ∙ on-width y (more z none) f
      ∙ on-width z none g

  two-flat : (x y : Tree) → Flat ws 0 x → Flat ws 0 y → Flat ws 1 (two op x y)
  two-flat x y f g = record {
    wide = two-width x y f.wide g.wide;
    chain_depth = refl;
    nested = omega (arith, f.chain_depth, f.nested, g.chain_depth, g.nested);
  }

  two-fits : (x y : Tree) → Flat ws 0 x → Flat ws 0 y → FitsNodes ws 1 (two op x y)
  two-fits x y f g = record {
    has_width = two-width x y f.wide g.wide;
    nests = omega (arith, f.chain_depth, f.nested, g.chain_depth, g.nested);
  }

  three-fits : (d : ℕ) → d ≤ 1 → (x y z : Tree) → Flat ws d x → Flat ws d y → Flat ws d z → FitsNodes ws 1 (three op x y z)
  three-fits d l x y z f g h = record {
    has_width = three-width x y z f.wide g.wide h.wide;
    nests = omega (arith, l, f.chain_depth, f.nested, g.chain_depth, g.nested, h.chain_depth, h.nested);
  }

module _ (ws : List ℕ) (a b : WordBit) (h : All (IsThere ws) (a ∷ b ∷ [])) where
  pub first-there : IsThere ws a
  first-there = first_of (IsThere ws) a (b ∷ []) h

  pub second-there : IsThere ws b
  second-there = first_of (IsThere ws) b [] (rest_of (IsThere ws) a (b ∷ []) h)

  pub half_sum-fits : FitsNodes ws 1 (half_sum a b ws)
  half_sum-fits = two-fits ws Xor refl (bit_tree a ws) (bit_tree b ws) (bit-flat ws a first-there) (bit-flat ws b second-there)

  pub half_carry-fits : FitsNodes ws 1 (half_carry a b ws)
  half_carry-fits = two-fits ws And refl (bit_tree a ws) (bit_tree b ws) (bit-flat ws a first-there) (bit-flat ws b second-there)

  half_sum-one : ReadsOne ws 1 2 (half_sum a b ws)
  half_sum-one = two-one ws Xor refl 0 1 1 (bit_tree a ws) (bit_tree b ws) (bit-one ws a first-there) (bit-one ws b second-there)

  pub half_carry-one : ReadsOne ws 1 2 (half_carry a b ws)
  half_carry-one = two-one ws And refl 0 1 1 (bit_tree a ws) (bit_tree b ws) (bit-one ws a first-there) (bit-one ws b second-there)

  pub half_sum-logic : IsLogic ws (half_sum a b ws)
  half_sum-logic = one-logic ws 1 2 (half_sum a b ws) (omega arith) (omega arith) half_sum-one

  pub half_sum-stands : IsLogic ws (half_sum a b ws) × FitsNodes ws 1 (half_sum a b ws)
  half_sum-stands = (half_sum-logic, half_sum-fits)

  pub half_carry-logic : IsLogic ws (half_carry a b ws)
  half_carry-logic = one-logic ws 1 2 (half_carry a b ws) (omega arith) (omega arith) half_carry-one

  pub half_carry-stands : IsLogic ws (half_carry a b ws) × FitsNodes ws 1 (half_carry a b ws)
  half_carry-stands = (half_carry-logic, half_carry-fits)

  half_carry-flat : Flat ws 1 (half_carry a b ws)
  half_carry-flat = two-flat ws And refl (bit_tree a ws) (bit_tree b ws) (bit-flat ws a first-there) (bit-flat ws b second-there)

pub pair : (P : WordBit → Type 0) (a b : WordBit) → P a → P b → All P (a ∷ b ∷ [])
pair P a b p q = All-cons P a (b ∷ []) p (All-cons P b [] q (All-nil P))

module _ (ws : List ℕ) (a b c : WordBit) (h : All (IsThere ws) (a ∷ b ∷ c ∷ [])) where
  p : IsThere ws a
  p = first_of (IsThere ws) a (b ∷ c ∷ []) h

  q : IsThere ws b
  q = first-there ws b c (rest_of (IsThere ws) a (b ∷ c ∷ []) h)

  r : IsThere ws c
  r = second-there ws b c (rest_of (IsThere ws) a (b ∷ c ∷ []) h)

  pub full_sum-fits : FitsNodes ws 1 (full_sum a b c ws)
  full_sum-fits = three-fits ws Xor refl 0 (omega arith) (bit_tree a ws) (bit_tree b ws) (bit_tree c ws) (bit-flat ws a p) (bit-flat ws b q)
      (bit-flat ws c r)

  pub full_carry-fits : FitsNodes ws 1 (full_carry a b c ws)
  full_carry-fits =
      three-fits ws Or refl 1 (omega arith) (half_carry a b ws) (half_carry a c ws) (half_carry b c ws)
      (half_carry-flat ws a b (pair (IsThere ws) a b p q)) (half_carry-flat ws a c (pair (IsThere ws) a c p r))
      (half_carry-flat ws b c (pair (IsThere ws) b c q r))

  pub full_sum-logic : IsLogic ws (full_sum a b c ws)
  full_sum-logic =
      one-logic ws 1 3 (full_sum a b c ws) (omega arith) (omega arith)
      (three-one ws Xor refl 0 1 1 1 (bit_tree a ws) (bit_tree b ws) (bit_tree c ws) (bit-one ws a p) (bit-one ws b q) (bit-one ws c r))

  pub full_carry-logic : IsLogic ws (full_carry a b c ws)
  full_carry-logic =
      one-logic ws 2 6 (full_carry a b c ws) (omega arith) (omega arith)
      (three-one ws Or refl 1 2 2 2 (half_carry a b ws) (half_carry a c ws) (half_carry b c ws)
      (half_carry-one ws a b (pair (IsThere ws) a b p q)) (half_carry-one ws a c (pair (IsThere ws) a c p r))
      (half_carry-one ws b c (pair (IsThere ws) b c q r)))

  pub full_sum-stands : IsLogic ws (full_sum a b c ws) × FitsNodes ws 1 (full_sum a b c ws)
  full_sum-stands = (full_sum-logic, full_sum-fits)

  pub full_carry-stands : IsLogic ws (full_carry a b c ws) × FitsNodes ws 1 (full_carry a b c ws)
  full_carry-stands = (full_carry-logic, full_carry-fits)

-- values

single : (w : List Bool) (index : ℕ) → index ≡ 0 → length w ≡ 1 → w ≡ slice_index_or w index false ∷ []
single [] index z h = absurd (omega (arith, h))
single (b ∷ []) index z h = ap (λ i. slice_index_or (b ∷ []) i false ∷ []) (sym z)
single (b ∷ c ∷ w) index z h = absurd (omega (arith, h))

abbrev pub scope_at : Net → Inputs → ℤ → Scope
scope_at net inputs t = record { names = λ n. flow net.nodes inputs n t; ports = λ n. [] }

module _ (net : Net) (valid : IsValid net) (inputs : Inputs) (t : ℤ) (words : All (AreWords (input_widths net)) inputs) where
  own-value : (b : WordBit) → IsThere (widths net.nodes) b → value (scope_at net inputs t) (bit_tree b (widths net.nodes))
      ≡ bit_under (words_at net.nodes inputs t) b ∷ []
  own-value Zero h = refl
  own-value One h = refl
  own-value (Of node index) h = by (nat_eq index 0 && nat_eq (index + 1) (slice_index (widths net.nodes) node)) whole
    where
      w : List Bool
      w = flow net.nodes inputs node t

      wide : length w ≡ slice_index (widths net.nodes) node
      wide = flow-width net valid inputs words node t

      whole : (nat_eq index 0 && nat_eq (index + 1) (slice_index (widths net.nodes) node)) ≡ true → (index ≡ 0)
          × (index + 1 ≡ slice_index (widths net.nodes) node)
      whole e =
          let a = and_parts (nat_eq index 0) (nat_eq (index + 1) (slice_index (widths net.nodes) node)) e in
          (eqb-true index 0 a.0, eqb-true (index + 1) (slice_index (widths net.nodes) node) a.1)

      by : (c : Bool) → (c ≡ true → (index ≡ 0) × (index + 1 ≡ slice_index (widths net.nodes) node))
          → value (scope_at net inputs t) (if c then name node else part node index index) ≡ slice_index_or w index false ∷ []
      by true g = single w index (g refl).0 (omega (arith, wide, (g refl).0, (g refl).1))
      by false g = cut-one w index (omega (arith, h, wide))

-- the values over a net that has grown, by the bits in the net before
module _ (old new : Net) (later : Later old new) (inputs : Inputs) (t : ℤ) (words : All (AreWords (input_widths new)) inputs) where
  abbrev bit : WordBit → Bool
  bit b = bit_under (words_at old.nodes inputs t) b

  abbrev result : Tree → List Bool
  result e = value (scope_at new inputs t) e

  bit-value : (b : WordBit) → IsThere (widths old.nodes) b → result (bit_tree b (widths new.nodes)) ≡ bit b ∷ []
  bit-value b h = own-value new later.valid inputs t words b (grown-there old new later.grown b h)
      ∙ ap (λ x. x ∷ []) (bit-kept old new later.grown inputs t b h)

  two-value : (op : Op) (x y : Tree) (v w : List Bool) → result x ≡ v → result y ≡ w → result (two op x y) ≡ combined op v w
  two-value op x y v w e f = ap (λ u. combined op u (result y)) e ∙ ap (combined op v) f

  three-value : (op : Op) (x y z : Tree) (u v w : List Bool) → result x ≡ u → result y ≡ v → result z ≡ w → result (three op x y z)
      ≡ combined op (combined op u v) w
  three-value op x y z u v w e f g = ap (λ k. combined op k (result z)) (two-value op x y u v e f) ∙ ap (combined op (combined op u v)) g

  module _ (a b : WordBit) (h : All (IsThere (widths old.nodes)) (a ∷ b ∷ [])) where
    pub half_sum-value : result (half_sum a b (widths new.nodes)) ≡ xor (bit a) (bit b) ∷ []
    half_sum-value =
        two-value Xor (bit_tree a (widths new.nodes)) (bit_tree b (widths new.nodes)) (bit a ∷ []) (bit b ∷ [])
        (bit-value a (first-there (widths old.nodes) a b h)) (bit-value b (second-there (widths old.nodes) a b h))

    pub half_carry-value : result (half_carry a b (widths new.nodes)) ≡ (bit a && bit b) ∷ []
    half_carry-value =
        two-value And (bit_tree a (widths new.nodes)) (bit_tree b (widths new.nodes)) (bit a ∷ []) (bit b ∷ [])
        (bit-value a (first-there (widths old.nodes) a b h)) (bit-value b (second-there (widths old.nodes) a b h))

  module _ (a b c : WordBit) (h : All (IsThere (widths old.nodes)) (a ∷ b ∷ c ∷ [])) where
    abbrev P : WordBit → Type 0
    P = IsThere (widths old.nodes)

    pub full_sum-value : result (full_sum a b c (widths new.nodes)) ≡ xor (xor (bit a) (bit b)) (bit c) ∷ []
    full_sum-value =
        three-value Xor (bit_tree a (widths new.nodes)) (bit_tree b (widths new.nodes)) (bit_tree c (widths new.nodes)) (bit a ∷ [])
        (bit b ∷ []) (bit c ∷ [])
        (bit-value a (p (widths old.nodes) a b c h)) (bit-value b (q (widths old.nodes) a b c h))
        (bit-value c (r (widths old.nodes) a b c h))

    pub full_carry-value : result (full_carry a b c (widths new.nodes)) ≡ (((bit a && bit b) || (bit a && bit c)) || (bit b && bit c)) ∷ []
    full_carry-value =
        three-value Or (half_carry a b (widths new.nodes)) (half_carry a c (widths new.nodes)) (half_carry b c (widths new.nodes))
        ((bit a && bit b) ∷ []) ((bit a && bit c) ∷ []) ((bit b && bit c) ∷ [])
        (half_carry-value a b (pair P a b (p (widths old.nodes) a b c h) (q (widths old.nodes) a b c h)))
        (half_carry-value a c (pair P a c (p (widths old.nodes) a b c h) (r (widths old.nodes) a b c h)))
        (half_carry-value b c (pair P b c (q (widths old.nodes) a b c h) (r (widths old.nodes) a b c h)))

-- digits

pub digits-two : (a b : Bool) → digit (xor a b) + 2 * digit (a && b) ≡ digit a + (digit b + 0)
digits-two true true = refl
digits-two true false = refl
digits-two false true = refl
digits-two false false = refl

pub digits-three : (a b c : Bool) → digit (xor (xor a b) c) + 2 * digit (((a && b) || (a && c)) || (b && c))
    ≡ digit a + (digit b + (digit c + 0))
digits-three true true true = refl
digits-three true true false = refl
digits-three true false true = refl
digits-three true false false = refl
digits-three false true true = refl
digits-three false true false = refl
digits-three false false true = refl
digits-three false false false = refl
