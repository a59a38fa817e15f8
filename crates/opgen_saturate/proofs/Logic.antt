-- The cells of the test are logic: each reads at most six bits, through two chains of operators at most.
use Rattle.std.proofs.Common.{◌≡◌, ℕ, zero, suc, ◌+◌, ◌-◌, ◌≤◌, ◌<◌, Bool, true, false, List, [], ◌∷◌, ◌++◌, length, ◌&&◌, append_assoc, refl, sym, ap, ◌∙◌, subst, arith}
use Rattle.std.specs.Prelude.{All, Contains, IsTrue, slice_index}
use Rattle.std.proofs.lemmas.List.{append-nil}
use Rattle.std.proofs.lemmas.List.Elements.{All-append, All-cons, All-nil, All-contains_itself}
use Rattle.opgen_design.specs.declared.expr.Op.{Op}
use Rattle.opgen_design.specs.declared.expr.Op.TheVariants.{And, Or}
use Rattle.opgen_design.specs.Plain.{trees_of}
use Rattle.opgen_design.specs.Tree.{Tree, Trees, name, chain}
use Rattle.opgen_net.specs.Cells.{Bit, bits_up, both, both_by, reads, reads_on, is_bitwise, are_bitwise, levels, operand_levels, AreFew, IsLogic}
use Rattle.opgen_net.proofs.CellLaws.{few-of}
use Rattle.opgen_saturate.specs.Recipe.{bit_of, operands, joined, differs, any_node}

-- an operator that is one level of gates, place by place
record IsGate (op : Op) : Type 0 where
  pub bitwise : (ts : Trees) → is_bitwise (chain op ts) ≡ are_bitwise ts
  pub deep : (ts : Trees) → levels (chain op ts) ≡ 1 + operand_levels ts
  pub reads : (a b : List (List Bit)) → both_by op a b ≡ both a b

or_gate : IsGate Or
or_gate = record { bitwise = λ ts. refl; deep = λ ts. refl; reads = λ a b. refl }

and_gate : IsGate And
and_gate = record { bitwise = λ ts. refl; deep = λ ts. refl; reads = λ a b. refl }

-- an expression of one bit that reads these bits
record ReadsAll (ws : List ℕ) (depth : ℕ) (e : Tree) (read : List Bit) : Type 0 where
  pub bitwise : is_bitwise e ≡ true
  pub shallow : levels e ≤ depth
  pub all : reads ws e ≡ read ∷ []

-- so many places from one up
abbrev places : (place : ℕ → Bit) → (low count : ℕ) → List Bit
places place low zero = []
places place low (suc k) = place (low + k) ∷ places place low k

places-length : (place : ℕ → Bit) (low count : ℕ) → length (places place low count) ≡ count
places-length place low zero = refl
places-length place low (suc k) = ap suc (places-length place low k)

-- operands that read one bit each
module _ (ws : List ℕ) (operand : ℕ → Tree) (place : ℕ → Bit) (low : ℕ) where
  abbrev AreRead : ℕ → Type 0
  AreRead count = (p : ℕ) → low ≤ p → p < low + count → ReadsAll ws 0 (operand p) (place p ∷ [])

  all-bitwise : (k : ℕ) → AreRead k → are_bitwise (trees_of (operands operand low k)) ≡ true
  all-bitwise zero h = refl
  all-bitwise (suc k) h =
      ap (λ c. c && are_bitwise (trees_of (operands operand low k))) (h (low + k) (omega arith) (omega arith)).bitwise
      ∙ all-bitwise k (λ p a b. h p a (omega (arith, b)))

  all-shallow : (k : ℕ) → AreRead k → operand_levels (trees_of (operands operand low k)) ≡ 0
  all-shallow zero h = refl
  all-shallow (suc k) h =
      omega (arith, (h (low + k) (omega arith) (omega arith)).shallow, all-shallow k (λ p a b. h p a (omega (arith, b))))

  module _ (op : Op) (gate : IsGate op) where
    on-reads : (k : ℕ) (read : List Bit) → AreRead k
        → reads_on ws op (read ∷ []) (trees_of (operands operand low k)) ≡ (read ++ places place low k) ∷ []
    on-reads zero read h = ap (λ r. r ∷ []) (sym (append-nil read))
    on-reads (suc k) read h =
        let rest = trees_of (operands operand low k) in
        ap (λ r. reads_on ws op r rest) (gate.reads (read ∷ []) (reads ws (operand (low + k))))
        ∙ ap (λ r. reads_on ws op (both (read ∷ []) r) rest) (h (low + k) (omega arith) (omega arith)).all
        ∙ on-reads k (read ++ place (low + k) ∷ []) (λ p a b. h p a (omega (arith, b)))
        ∙ ap (λ r. r ∷ []) (append_assoc read (place (low + k) ∷ []) (places place low k))

    chain-reads : (k : ℕ) → AreRead (suc k)
        → ReadsAll ws 1 (chain op (trees_of (operands operand low (suc k)))) (places place low (suc k))
    chain-reads k h = record {
      bitwise = gate.bitwise (trees_of (operands operand low (suc k))) ∙ all-bitwise (suc k) h;
      shallow = omega (arith, gate.deep (trees_of (operands operand low (suc k))), all-shallow (suc k) h);
      all = ap (λ r. reads_on ws op r (trees_of (operands operand low k))) (h (low + k) (omega arith) (omega arith)).all
          ∙ on-reads k (place (low + k) ∷ []) (λ p a b. h p a (omega (arith, b)));
    }

module _ (ws : List ℕ) where
  bit-reads : (n p : ℕ) → ReadsAll ws 0 (bit_of n p) ((n, p) ∷ [])
  bit-reads n p = record {
    bitwise = refl;
    shallow = omega arith;
    all = let one : p + 1 - p ≡ 1 = omega arith in ap (bits_up n p) one;
  }

  joined-reads : (op : Op) → IsGate op → (n low count : ℕ) → 1 ≤ count
      → ReadsAll ws 1 (joined op n low count) (places (λ p. (n, p)) low count)
  joined-reads op gate n low zero some = absurd (omega (arith, some))
  joined-reads op gate n low (suc zero) some =
      let e : low ≡ low + zero = omega arith in
      let one = bit-reads n low in
      record { bitwise = one.bitwise; shallow = omega (arith, one.shallow); all = one.all ∙ ap (λ (p : ℕ). ((n, p) ∷ []) ∷ []) e }
  joined-reads op gate n low (suc (suc k)) some =
      chain-reads ws (bit_of n) (λ p. (n, p)) low op gate (suc k) (λ p a b. bit-reads n p)

  -- the bits may be read twice
  twice-few : (read : List Bit) → length read ≤ 6 → AreFew (read ++ read)
  twice-few read h =
      let all : All (Contains read) read = All-contains_itself read in
      record { among = read; six = h; all = All-append (Contains read) read read all all }

  one_few : (e : Tree) (read : List Bit) → reads ws e ≡ read ∷ [] → AreFew read → All AreFew (reads ws e)
  one_few e read all few = subst (All AreFew) (sym all) (All-cons AreFew read [] few (All-nil AreFew))

  pub differs-logic : (both : Bool) (n low count : ℕ) → 1 ≤ count → count ≤ 6 → IsLogic ws (differs both n low count)
  differs-logic false n low count some six =
      let e = joined-reads Or or_gate n low count some in
      let read = places (λ p. (n, p)) low count in
      record {
        bitwise = subst IsTrue (sym e.bitwise) refl;
        shallow = omega (arith, e.shallow);
        few = one_few (joined Or n low count) read e.all (few-of read (omega (arith, six, places-length (λ p. (n, p)) low count)));
      }
  differs-logic true n low count some six =
      let e = joined-reads Or or_gate n low count some in
      let f = joined-reads And and_gate n low count some in
      let read = places (λ p. (n, p)) low count in
      let tree = differs true n low count in
      let all : reads ws tree ≡ (read ++ read) ∷ [] = ap (λ r. both r (reads ws (joined And n low count))) e.all ∙ ap (both (read ∷ [])) f.all in
      let bitwise : is_bitwise tree ≡ true = ap (λ c. c && (is_bitwise (joined And n low count) && true)) e.bitwise
      ∙ ap (λ c. c && true) f.bitwise in
      record {
        bitwise = subst IsTrue (sym bitwise) refl;
        shallow = omega (arith, e.shallow, f.shallow);
        few = one_few tree (read ++ read) all (twice-few read (omega (arith, six, places-length (λ p. (n, p)) low count)));
      }

  name-reads : (p : ℕ) → slice_index ws p ≡ 1 → ReadsAll ws 0 (name p) ((p, 0) ∷ [])
  name-reads p h = record { bitwise = refl; shallow = omega arith; all = ap (bits_up p 0) h }

  pub any_node-logic : (first k : ℕ) → suc k ≤ 6 → ((p : ℕ) → first ≤ p → p < first + suc k → slice_index ws p ≡ 1)
      → IsLogic ws (any_node first (suc k))
  any_node-logic first k six h =
      let e = chain-reads ws name (λ p. (p, 0)) first Or or_gate k (λ p a b. name-reads p (h p a b)) in
      let read = places (λ p. (p, 0)) first (suc k) in
      record {
        bitwise = subst IsTrue (sym e.bitwise) refl;
        shallow = omega (arith, e.shallow);
        few = one_few (any_node first (suc k)) read e.all (few-of read (omega (arith, six, places-length (λ p. (p, 0)) first (suc k))));
      }
