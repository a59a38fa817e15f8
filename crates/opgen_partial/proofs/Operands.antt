-- The expressions of products of two bits: their width, how deep they nest, and what they give.
use Rattle.std.proofs.Common.{◌≡◌, ℕ, suc, ◌+◌, ◌-◌, ◌<◌, ◌≤◌, Bool, true, false, not, ◌&&◌, eqb, List, [], ◌∷◌, length, map, take, drop, Some, None, if◌then◌else◌, refl, sym, ap, ◌∙◌, arith}
use Rattle.std.specs.Prelude.{nat_le, nat_lt, slice_get, slice_index, option_and_then}
use Rattle.std.proofs.Math.Seq.{take-suc}
use Rattle.std.proofs.lemmas.Bool.{le-leb, lt-ltb, eqb-true}
use Rattle.std.proofs.lemmas.List.{length-drop, get_or-drop}
use Rattle.std.proofs.lemmas.Option.{slice_get-get_or}
use Rattle.opgen_design.specs.declared.expr.Op.TheVariants.{And}
use Rattle.opgen_design.specs.Tree.{Tree, name, part, inverse, more, none}
use Rattle.opgen_design.specs.Value.{Scope, cut, combined, value, as_width, joined, width, width_on, in_chain, in_not, nesting}
use Rattle.opgen_net.specs.Cells.{IsLogic}
use Rattle.opgen_net.specs.Valid.{FitsNodes}
use Rattle.opgen_net.proofs.CellLaws.{ReadsOne, inverse-one, name-one, one-logic, part-one, two-one}
use Rattle.opgen_net.proofs.FlowLaws.{index_within}
use Rattle.opgen_partial.specs.declared.pairs.Factor.{Factor}
use Rattle.opgen_partial.specs.declared.pairs.Placing.{Placing}
use Rattle.opgen_partial.specs.declared.pairs.Products.{Products}
use Rattle.opgen_partial.specs.Law.{IsPlaced}
use Rattle.opgen_partial.specs.Recipe.{bit_of, both, is_single, is_turned, pair, partial_product}
use Rattle.opgen_partial.proofs.PartialSums.{at, piece}

cut-one : (w : List Bool) (i : ℕ) → i < length w → cut i i w ≡ at w i ∷ []
cut-one w i h =
    let e : i + 1 - i ≡ suc 0 = omega arith in
    let k : i + 0 ≡ i = omega arith in
    ap (λ n. take n (drop i w)) e
    ∙ take-suc (drop i w) 0 false (omega (arith, h, length-drop i w))
    ∙ ap (λ x. x ∷ []) (get_or-drop i w 0 false ∙ ap (λ n. at w n) k)

single : (w : List Bool) (i : ℕ) → i < length w → length w ≡ 1 → w ≡ at w i ∷ []
single [] i l h = absurd (omega (arith, h))
single (b ∷ []) i l h = let z : 0 ≡ i = omega (arith, l) in ap (λ n. at (b ∷ []) n ∷ []) z
single (b ∷ c ∷ w) i l h = absurd (omega (arith, h))

abbrev either : Bool → (node i : ℕ) → Tree
either c node i = if c then name node else part node i i

module _ (ws : List ℕ) (f : Factor) (i : ℕ) (wide : slice_index ws f.node ≡ f.width) (within : i < f.width) where
  bit-width : width ws [] (bit_of f i) ≡ Some 1
  bit-width = by (eqb f.width 1) (eqb-true f.width 1)
    where
      there : slice_get ws f.node ≡ Some f.width
      there = slice_get-get_or ws f.node 0 (index_within ws f.node i (omega (arith, wide, within))) ∙ ap Some wide

      by : (c : Bool) → (c ≡ true → f.width ≡ 1) → width ws [] (either c f.node i) ≡ Some 1
      by true one = ap (option_and_then as_width) there ∙ ap as_width (one refl)
      by false one =
          let count : i + 1 - i ≡ 1 = omega arith in
          ap (option_and_then (λ v. if nat_le i i && nat_lt i v then as_width (i + 1 - i) else None)) there
          ∙ ap (λ c. if c && nat_lt i f.width then as_width (i + 1 - i) else None) (le-leb i i (omega arith))
          ∙ ap (λ c. if c then as_width (i + 1 - i) else None) (lt-ltb i f.width within)
          ∙ ap as_width count

bit-reads : (ws : List ℕ) (f : Factor) (i : ℕ) → slice_index ws f.node ≡ f.width → ReadsOne ws 0 1 (bit_of f i)
bit-reads ws f i wide = by (eqb f.width 1) (eqb-true f.width 1)
  where
    by : (c : Bool) → (c ≡ true → f.width ≡ 1) → ReadsOne ws 0 1 (either c f.node i)
    by true one = name-one ws f.node (wide ∙ one refl)
    by false one = part-one ws f.node i

bit-nests : (f : Factor) (i : ℕ) → (in_chain (bit_of f i) ≡ 0) × (nesting (bit_of f i) ≡ 0) × (in_not (bit_of f i) ≡ 0)
bit-nests f i = by (eqb f.width 1)
  where
    by : (c : Bool) → (in_chain (either c f.node i) ≡ 0) × (nesting (either c f.node i) ≡ 0) × (in_not (either c f.node i) ≡ 0)
    by true = (refl, refl, refl)
    by false = (refl, refl, refl)

bit-value : (s : Scope) (f : Factor) (i : ℕ) → length (s.names f.node) ≡ f.width → i < f.width
    → value s (bit_of f i) ≡ at (s.names f.node) i ∷ []
bit-value s f i wide within = by (eqb f.width 1) (eqb-true f.width 1)
  where
    by : (c : Bool) → (c ≡ true → f.width ≡ 1) → value s (either c f.node i) ≡ at (s.names f.node) i ∷ []
    by true one = single (s.names f.node) i (omega (arith, wide, within)) (wide ∙ one refl)
    by false one = cut-one (s.names f.node) i (omega (arith, wide, within))

pub and-left : (x y : Bool) → x && y ≡ true → x ≡ true
and-left true y e = refl
and-left false y e = cc

pub and-right : (x y : Bool) → x && y ≡ true → y ≡ true
and-right true y e = e
and-right false y e = cc

pub twice : (x : Bool) → x && x ≡ x
twice true = refl
twice false = refl

-- the places of a bit of a square
pub single-is : (f : Placing) (i j : ℕ) → is_single f i j ≡ true → (f.square ≡ true) × (i ≡ j)
single-is f i j e = (and-left f.square (eqb i j) e, eqb-true i j (and-right f.square (eqb i j) e))

module _ (p : Products) (f : Placing) (placed : IsPlaced p f) (i j : ℕ) (low : i < p.a.width) (high : j < p.b.width) where
  module _ (ws : List ℕ) (a : slice_index ws p.a.node ≡ p.a.width) (b : slice_index ws p.b.node ≡ p.b.width) where
    both-width : width ws [] (both p i j) ≡ Some 1
    both-width =
        ap (option_and_then (λ w. width_on ws [] And w (more (bit_of p.b j) none))) (bit-width ws p.a i a low)
        ∙ ap (option_and_then (λ v. option_and_then (λ u. width_on ws [] And u none) (joined And 1 v))) (bit-width ws p.b j b high)

    abbrev chosen : Bool → Tree
    chosen c = if c then bit_of p.a i else both p i j

    pair-width : (c : Bool) → width ws [] (chosen c) ≡ Some 1
    pair-width true = bit-width ws p.a i a low
    pair-width false = both-width

    flat : (c : Bool) → nesting (chosen c) ≡ 0
    flat true = (bit-nests p.a i).1
    flat false =
        let x = bit-nests p.a i in
        let y = bit-nests p.b j in
        omega (arith, x.0, x.1, y.0, y.1)

    turned-flat : (c : Bool) → in_not (chosen c) ≤ 1
    turned-flat true = let x = bit-nests p.a i in omega (arith, x.2)
    turned-flat false = omega arith

    -- a product of two bits may stand in a net in which the factors do
    pub product-fits : FitsNodes ws 1 (partial_product p f i j)
    product-fits = by (is_turned p f i j) (is_single f i j)
      where
        by : (c s : Bool) → FitsNodes ws 1 (if c then inverse (chosen s) else chosen s)
        by true s = record { has_width = pair-width s; nests = omega (arith, flat s, turned-flat s) }
        by false s = record { has_width = pair-width s; nests = omega (arith, flat s) }

    -- and is logic of two bits
    pub product-logic : IsLogic ws (partial_product p f i j)
    product-logic = by (is_turned p f i j) (is_single f i j)
      where
        one : (s : Bool) → ReadsOne ws 1 2 (chosen s)
        one true = let h = bit-reads ws p.a i a in
            record { bitwise = h.bitwise; shallow = omega (arith, h.shallow); read = h.read; is = h.is; few = omega (arith, h.few) }
        one false = two-one ws And refl 0 1 1 (bit_of p.a i) (bit_of p.b j) (bit-reads ws p.a i a) (bit-reads ws p.b j b)

        by : (c s : Bool) → IsLogic ws (if c then inverse (chosen s) else chosen s)
        by true s = one-logic ws 1 2 (inverse (chosen s)) (omega arith) (omega arith) (inverse-one ws 1 2 (chosen s) (one s))
        by false s = one-logic ws 1 2 (chosen s) (omega arith) (omega arith) (one s)

  module _ (s : Scope) (a : length (s.names p.a.node) ≡ p.a.width) (b : length (s.names p.b.node) ≡ p.b.width) where
    both-value : value s (both p i j) ≡ (at (s.names p.a.node) i && at (s.names p.b.node) j) ∷ []
    both-value =
        values (value s (bit_of p.a i)) (value s (bit_of p.b j)) (bit-value s p.a i a low) (bit-value s p.b j b high)
      where
        values : (v w : List Bool) → v ≡ at (s.names p.a.node) i ∷ [] → w ≡ at (s.names p.b.node) j ∷ []
            → combined And v w ≡ (at (s.names p.a.node) i && at (s.names p.b.node) j) ∷ []
        values v w e g = ap (λ x. combined And x w) e ∙ ap (combined And (at (s.names p.a.node) i ∷ [])) g

    -- of a square a bit with itself
    pub single-value : is_single f i j ≡ true → at (s.names p.a.node) i && at (s.names p.b.node) j ≡ at (s.names p.a.node) i
    single-value e =
        let is = single-is f i j e in
        let x = at (s.names p.a.node) i in
        let other : at (s.names p.b.node) j ≡ x =
        ap (λ (g : Factor). at (s.names g.node) j) (placed.same is.0) ∙ ap (at (s.names p.a.node)) (sym is.1) in
        ap (λ y. x && y) other ∙ twice x

    pair-value : value s (pair p f i j) ≡ (at (s.names p.a.node) i && at (s.names p.b.node) j) ∷ []
    pair-value = by (is_single f i j) refl
      where
        by : (c : Bool) → is_single f i j ≡ c
            → value s (if c then bit_of p.a i else both p i j) ≡ (at (s.names p.a.node) i && at (s.names p.b.node) j) ∷ []
        by true e = bit-value s p.a i a low ∙ ap (λ x. x ∷ []) (sym (single-value e))
        by false e = both-value

    pub product-value : value s (partial_product p f i j) ≡ piece (is_turned p f) (s.names p.a.node) (s.names p.b.node) i j ∷ []
    product-value = by (is_turned p f i j)
      where
        x : Bool
        x = at (s.names p.a.node) i && at (s.names p.b.node) j

        by : (c : Bool) → value s (if c then inverse (pair p f i j) else pair p f i j) ≡ (if c then not x else x) ∷ []
        by true = ap (map not) pair-value
        by false = pair-value
