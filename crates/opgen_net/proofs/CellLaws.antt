-- What the bits that an expression reads are over more nodes, and expressions whose class is plain.
use Rattle.std.proofs.Common.{◌≡◌, ℕ, suc, ◌+◌, ◌-◌, ◌≤◌, max, Bool, true, false, List, [], ◌∷◌, ◌++◌, length, length-append, map, Some, refl, sym, ap, ◌∙◌, subst, arith}
use Rattle.std.specs.Prelude.{All, slice_get, slice_index, option_and_then, nat_eq, ◌&&◌, if◌then◌else◌, IsTrue}
use Rattle.std.proofs.lemmas.Bool.{eqb-true, and_parts}
use Rattle.std.proofs.lemmas.List.Elements.{All-contains_itself, All-cons, All-nil}
use Rattle.std.proofs.lemmas.Option.{get_or_from_slice_get}
use Rattle.opgen_design.specs.declared.expr.Op.{Op}
use Rattle.opgen_design.specs.declared.expr.Op.TheVariants.{And, Or, Xor, Cat, Plus, Minus}
use Rattle.opgen_design.specs.declared.expr.Slice.{Slice}
use Rattle.opgen_design.specs.Plain.{trees_of}
use Rattle.opgen_design.specs.Tree.{Tree, Trees, name, part, bits, port, inverse, chain, none, more}
use Rattle.opgen_design.specs.Value.{as_width, joined, width, chain_width, width_on}
use Rattle.opgen_design.proofs.WidthLaws.{some_before}
use Rattle.opgen_net.specs.declared.cell.Class.{Class}
use Rattle.opgen_net.specs.declared.cell.Class.TheVariants as class
use Rattle.opgen_net.specs.declared.word_bits.WordBit.{WordBit}
use Rattle.opgen_net.specs.declared.word_bits.WordBit.TheVariants.{Zero, One, Of}
use Rattle.opgen_net.specs.declared.word_bits.Piece.{Piece}
use Rattle.opgen_net.specs.declared.word_bits.Piece.TheVariants.{Bits, Part}
use Rattle.opgen_net.specs.Cells.{Bit, bits_up, both, both_by, reads, chain_reads, reads_on, AreFew, IsLogic, IsOfClass, is_wire, are_wires, is_bitwise, levels, table_inputs}
use Rattle.opgen_net.specs.Made.{slice_tree}
use Rattle.opgen_net.specs.WordRule.{alone, is_whole, IsThere, run_tree, word_tree}

-- six bits or fewer are among themselves
pub few-of : (read : List Bit) → length read ≤ table_inputs → AreFew read
few-of read h = record { among = read; six = h; all = All-contains_itself read }

module _ (ws later : List ℕ) (get-kept : (n : ℕ) (v : ℕ) → slice_get ws n ≡ Some v → slice_get (ws ++ later) n ≡ Some v) where
  index-kept : (n w : ℕ) → option_and_then as_width (slice_get ws n) ≡ Some w → slice_index (ws ++ later) n ≡ slice_index ws n
  index-kept n w h =
      let a = some_before (slice_get ws n) as_width w h in
      get_or_from_slice_get (ws ++ later) n a.0 0 (get-kept n a.0 a.1) ∙ sym (get_or_from_slice_get ws n a.0 0 a.1)

  mutual
    -- more nodes change nothing of what an expression reads
    pub reads-kept : (t : Tree) (w : ℕ) → width ws [] t ≡ Some w → reads (ws ++ later) t ≡ reads ws t
    reads-kept (name n) w h = ap (bits_up n 0) (index-kept n w h)
    reads-kept (part n high low) w h = refl
    reads-kept (bits v) w h = refl
    reads-kept (port n) w h = refl
    reads-kept (inverse t) w h = reads-kept t w h
    reads-kept (chain op ts) w h = chain-kept op ts w h

    chain-kept : (op : Op) (ts : Trees) (w : ℕ) → chain_width ws [] op ts ≡ Some w → chain_reads (ws ++ later) op ts ≡ chain_reads ws op ts
    chain-kept op none w h = refl
    chain-kept op (more t none) w h = absurd (cc)
    chain-kept op (more t (more u ts)) w h =
        let a = some_before (width ws [] t) (λ x. width_on ws [] op x (more u ts)) w h in
        ap (λ bs. reads_on (ws ++ later) op bs (more u ts)) (reads-kept t a.0 a.1)
        ∙ on-kept op a.0 (more u ts) (reads ws t) w a.2

    on-kept : (op : Op) (v : ℕ) (ts : Trees) (read : List (List Bit)) (w : ℕ) → width_on ws [] op v ts ≡ Some w
        → reads_on (ws ++ later) op read ts ≡ reads_on ws op read ts
    on-kept op v none read w h = refl
    on-kept op v (more t ts) read w h =
        let a = some_before (width ws [] t) (λ x. option_and_then (λ u. width_on ws [] op u ts) (joined op v x)) w h in
        let b = some_before (joined op v a.0) (λ u. width_on ws [] op u ts) w a.2 in
        ap (λ r. reads_on (ws ++ later) op (both_by op read r) ts) (reads-kept t a.0 a.1)
        ∙ on-kept op b.0 ts (both_by op read (reads ws t)) w b.2

  -- and the cells stay what they are
  pub class-kept : (c : Class) (e : Tree) (w : ℕ) → width ws [] e ≡ Some w → IsOfClass ws c e → IsOfClass (ws ++ later) c e
  class-kept class.Wire e w h k = k
  class-kept class.Logic e w h k = record {
    bitwise = k.bitwise;
    shallow = k.shallow;
    few = subst (All AreFew) (sym (reads-kept e w h)) k.few;
  }
  class-kept class.Add e w h k = k
  class-kept class.Choice e w h k = k
  class-kept class.Table e w h k = k
  class-kept class.Register e w h k = k

-- the expression of a word is of wires

slice-wire : (ws : List ℕ) (n high low : ℕ) (whole : Bool) → is_wire (if whole then name n else part n high low) ≡ true
slice-wire ws n high low true = refl
slice-wire ws n high low false = refl

run-wire : (ws : List ℕ) (r : Piece) → is_wire (run_tree ws r) ≡ true
run-wire ws (Bits w) = refl
run-wire ws (Part s) = slice-wire ws s.node s.high s.low (is_whole ws s)

runs-wire : (ws : List ℕ) (rs : List Piece) → are_wires (trees_of (map (run_tree ws) rs)) ≡ true
runs-wire ws [] = refl
runs-wire ws (r ∷ rs) = ap (λ c. c && are_wires (trees_of (map (run_tree ws) rs))) (run-wire ws r) ∙ runs-wire ws rs

pub word-wire : (ws : List ℕ) (rs : List Piece) → IsTrue (is_wire (word_tree ws rs))
word-wire ws [] = refl
word-wire ws (r ∷ []) = subst IsTrue (sym (run-wire ws r)) refl
word-wire ws (r ∷ q ∷ rs) = subst IsTrue (sym (runs-wire ws (r ∷ q ∷ rs))) refl

pub slice_tree-wire : (ws : List ℕ) (s : Slice) → IsTrue (is_wire (slice_tree ws s))
slice_tree-wire ws s = subst IsTrue (sym (slice-wire ws s.node s.high s.low (is_whole ws s))) refl

-- expressions of one bit, by how many chains stand one in the other and how many bits are read at most

pub record ReadsOne (ws : List ℕ) (depth count : ℕ) (e : Tree) : Type 0 where
  pub bitwise : is_bitwise e ≡ true
  pub shallow : levels e ≤ depth
  pub read : List Bit
  pub is : reads ws e ≡ read ∷ []
  pub few : length read ≤ count

abbrev pub is_gate : Op → Bool
is_gate And = true
is_gate Or = true
is_gate Xor = true
is_gate _ = false

module _ (ws : List ℕ) where
  pub one-logic : (depth count : ℕ) (e : Tree) → depth ≤ 2 → count ≤ table_inputs → ReadsOne ws depth count e → IsLogic ws e
  one-logic depth count e d k h = record {
    bitwise = subst IsTrue (sym h.bitwise) refl;
    shallow = omega (arith, d, h.shallow);
    few = subst (All AreFew) (sym h.is) (All-cons AreFew h.read [] (few-of h.read (omega (arith, k, h.few))) (All-nil AreFew));
  }

  pub constant-one : (b : Bool) → ReadsOne ws 0 1 (bits (b ∷ []))
  constant-one b = record { bitwise = refl; shallow = omega arith; read = []; is = refl; few = omega arith }

  pub part-one : (n i : ℕ) → ReadsOne ws 0 1 (part n i i)
  part-one n i = record {
    bitwise = refl;
    shallow = omega arith;
    read = (n, i) ∷ [];
    is = let one : i + 1 - i ≡ 1 = omega arith in ap (bits_up n i) one;
    few = omega arith;
  }

  pub name-one : (n : ℕ) → slice_index ws n ≡ 1 → ReadsOne ws 0 1 (name n)
  name-one n h = record {
    bitwise = refl;
    shallow = omega arith;
    read = (n, 0) ∷ [];
    is = ap (bits_up n 0) h;
    few = omega arith;
  }

  pub inverse-one : (depth count : ℕ) (e : Tree) → ReadsOne ws depth count e → ReadsOne ws depth count (inverse e)
  inverse-one depth count e h = record { bitwise = h.bitwise; shallow = h.shallow; read = h.read; is = h.is; few = h.few }

  pub two-one : (op : Op) → is_gate op ≡ true → (depth k l : ℕ) (x y : Tree) → ReadsOne ws depth k x → ReadsOne ws depth l y
      → ReadsOne ws (suc depth) (k + l) (chain op (trees_of (x ∷ y ∷ [])))
  two-one op gate depth k l x y f g = record {
    bitwise = gates-bitwise op gate (ap (λ c. c && (is_bitwise y && true)) f.bitwise ∙ ap (λ c. c && true) g.bitwise);
    shallow = gates-shallow op gate (omega (arith, f.shallow, g.shallow));
    read = f.read ++ g.read;
    is = gates-read op gate f.is g.is;
    few = omega (arith, length-append f.read g.read, f.few, g.few);
  }
    where
      gates-bitwise : (op : Op) → is_gate op ≡ true → (is_bitwise x && (is_bitwise y && true)) ≡ true
          → is_bitwise (chain op (trees_of (x ∷ y ∷ []))) ≡ true
      gates-bitwise And g h = h
      gates-bitwise Or g h = h
      gates-bitwise Xor g h = h
      gates-bitwise Cat g h = absurd (cc)
      gates-bitwise Plus g h = absurd (cc)
      gates-bitwise Minus g h = absurd (cc)

      gates-shallow : (op : Op) → is_gate op ≡ true → max (levels x) (max (levels y) 0) ≤ depth
          → levels (chain op (trees_of (x ∷ y ∷ []))) ≤ suc depth
      gates-shallow And g h = omega (arith, h)
      gates-shallow Or g h = omega (arith, h)
      gates-shallow Xor g h = omega (arith, h)
      gates-shallow Cat g h = absurd (cc)
      gates-shallow Plus g h = absurd (cc)
      gates-shallow Minus g h = absurd (cc)

      gates-read : (op : Op) → is_gate op ≡ true → reads ws x ≡ f.read ∷ [] → reads ws y ≡ g.read ∷ []
          → reads ws (chain op (trees_of (x ∷ y ∷ []))) ≡ (f.read ++ g.read) ∷ []
      gates-read And t a b = ap (λ r. both r (reads ws y)) a ∙ ap (both (f.read ∷ [])) b
      gates-read Or t a b = ap (λ r. both r (reads ws y)) a ∙ ap (both (f.read ∷ [])) b
      gates-read Xor t a b = ap (λ r. both r (reads ws y)) a ∙ ap (both (f.read ∷ [])) b
      gates-read Cat t a b = absurd (cc)
      gates-read Plus t a b = absurd (cc)
      gates-read Minus t a b = absurd (cc)

  pub three-one : (op : Op) → is_gate op ≡ true → (depth k l m : ℕ) (x y z : Tree) → ReadsOne ws depth k x → ReadsOne ws depth l y
      → ReadsOne ws depth m z → ReadsOne ws (suc depth) (k + l + m) (chain op (trees_of (x ∷ y ∷ z ∷ [])))
  three-one op gate depth k l m x y z f g h = record {
    bitwise = gates-bitwise op gate (ap (λ c. c && (is_bitwise y && (is_bitwise z && true))) f.bitwise
        ∙ ap (λ c. c && (is_bitwise z && true)) g.bitwise ∙ ap (λ c. c && true) h.bitwise);
    shallow = gates-shallow op gate (omega (arith, f.shallow, g.shallow, h.shallow));
    read = (f.read ++ g.read) ++ h.read;
    is = gates-read op gate f.is g.is h.is;
    few = omega (arith, length-append (f.read ++ g.read) h.read, length-append f.read g.read, f.few, g.few, h.few);
  }
    where
      gates-bitwise : (op : Op) → is_gate op ≡ true → (is_bitwise x && (is_bitwise y && (is_bitwise z && true))) ≡ true
          → is_bitwise (chain op (trees_of (x ∷ y ∷ z ∷ []))) ≡ true
      gates-bitwise And g h = h
      gates-bitwise Or g h = h
      gates-bitwise Xor g h = h
      gates-bitwise Cat g h = absurd (cc)
      gates-bitwise Plus g h = absurd (cc)
      gates-bitwise Minus g h = absurd (cc)

      gates-shallow : (op : Op) → is_gate op ≡ true → max (levels x) (max (levels y) (max (levels z) 0)) ≤ depth
          → levels (chain op (trees_of (x ∷ y ∷ z ∷ []))) ≤ suc depth
      gates-shallow And g h = omega (arith, h)
      gates-shallow Or g h = omega (arith, h)
      gates-shallow Xor g h = omega (arith, h)
      gates-shallow Cat g h = absurd (cc)
      gates-shallow Plus g h = absurd (cc)
      gates-shallow Minus g h = absurd (cc)

      gates-read : (op : Op) → is_gate op ≡ true → reads ws x ≡ f.read ∷ [] → reads ws y ≡ g.read ∷ [] → reads ws z ≡ h.read ∷ []
          → reads ws (chain op (trees_of (x ∷ y ∷ z ∷ []))) ≡ ((f.read ++ g.read) ++ h.read) ∷ []
      gates-read And t a b c = ap (λ r. both (both r (reads ws y)) (reads ws z)) a ∙ ap (λ r. both (both (f.read ∷ []) r) (reads ws z)) b
          ∙ ap (both ((f.read ++ g.read) ∷ [])) c
      gates-read Or t a b c = ap (λ r. both (both r (reads ws y)) (reads ws z)) a ∙ ap (λ r. both (both (f.read ∷ []) r) (reads ws z)) b
          ∙ ap (both ((f.read ++ g.read) ∷ [])) c
      gates-read Xor t a b c = ap (λ r. both (both r (reads ws y)) (reads ws z)) a ∙ ap (λ r. both (both (f.read ∷ []) r) (reads ws z)) b
          ∙ ap (both ((f.read ++ g.read) ∷ [])) c
      gates-read Cat t a b c = absurd (cc)
      gates-read Plus t a b c = absurd (cc)
      gates-read Minus t a b c = absurd (cc)

  -- a bit as an operand: one that is the whole of its node is read by the node's name
  pub bit-one : (b : WordBit) → IsThere ws b → ReadsOne ws 0 1 (run_tree ws (alone b))
  bit-one Zero h = constant-one false
  bit-one One h = constant-one true
  bit-one (Of n i) h = by (nat_eq i 0 && nat_eq (i + 1) (slice_index ws n)) whole
    where
      whole : (nat_eq i 0 && nat_eq (i + 1) (slice_index ws n)) ≡ true → slice_index ws n ≡ 1
      whole e =
          let a = and_parts (nat_eq i 0) (nat_eq (i + 1) (slice_index ws n)) e in
          omega (arith, eqb-true i 0 a.0, eqb-true (i + 1) (slice_index ws n) a.1)

      by : (c : Bool) → (c ≡ true → slice_index ws n ≡ 1) → ReadsOne ws 0 1 (if c then name n else part n i i)
      by true g = name-one n (g refl)
      by false g = part-one n i
