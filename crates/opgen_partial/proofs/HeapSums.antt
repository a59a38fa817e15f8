-- The products of bits in a heap: the sum that they give it, and the net that they stand in.
use Rattle.std.proofs.Common.{◌≡◌, ℕ, zero, suc, ◌+◌, ◌*◌, ◌%◌, ◌^◌, ◌<◌, ◌≤◌, Bool, true, false, not, ◌&&◌, ltb, cond, List, [], ◌∷◌, length, refl, sym, ap, ◌∙◌, subst, if◌then◌else◌, arith}
use Rattle.std.specs.Prelude.{ℤ, All, nat_lt, slice_index, slice_index_or}
use Rattle.std.proofs.Math.Nat.{mod-add-mod}
use Rattle.std.proofs.lemmas.Bool.{ltb-true, not-true}
use Rattle.opgen_num.specs.Words.{xor, digit}
use Rattle.opgen_heap.specs.Contents.{Contents}
use Rattle.opgen_heap.specs.Sum.{bit_under, columns_sum, heap_sum}
use Rattle.opgen_heap.specs.Adding.{with_bit_at, with_bit}
use Rattle.opgen_heap.specs.Standing.{AllThere}
use Rattle.opgen_heap.proofs.Bits.{with_bit-all}
use Rattle.opgen_heap.proofs.Columns.{length-with_bit_at}
use Rattle.opgen_heap.proofs.Kept.{sum-kept}
use Rattle.opgen_heap.proofs.Standing.{columns-still_there}
use Rattle.opgen_heap.proofs.Sums.{with_bit-sum, with_bit-width}
use Rattle.opgen_design.specs.Run.{AreWords}
use Rattle.opgen_net.specs.declared.cell.Class.TheVariants.{Logic}
use Rattle.opgen_net.specs.declared.net.Net.{Net}
use Rattle.opgen_net.specs.declared.node.Node.{Node}
use Rattle.opgen_net.specs.declared.node.Node.TheVariants.{Cells}
use Rattle.opgen_net.specs.declared.word_bits.WordBit.{WordBit}
use Rattle.opgen_net.specs.declared.word_bits.WordBit.TheVariants.{Of}
use Rattle.opgen_net.specs.Cells.{IsLogic}
use Rattle.opgen_net.specs.Flow.{Inputs, flow}
use Rattle.opgen_net.specs.Grown.{HasGrown}
use Rattle.opgen_net.specs.Placed.{with_last}
use Rattle.opgen_net.specs.Valid.{widths, input_widths, IsValid, FitsNodes}
use Rattle.opgen_net.specs.WordRule.{IsThere}
use Rattle.opgen_net.proofs.Appending.{valid-append, flow-append_last, width-append_last}
use Rattle.opgen_net.proofs.FlowWidths.{flow-width}
use Rattle.opgen_net.proofs.Grown.{grown-more, grown-then, grown-same, grown-flow, grown-width}
use Rattle.opgen_net.proofs.Later.{node_there}
use Rattle.opgen_budget.specs.Sums.{sum_to, sum_over_pairs}
use Rattle.opgen_partial.specs.declared.pairs.Factor.{Factor}
use Rattle.opgen_partial.specs.declared.pairs.Placing.{Placing}
use Rattle.opgen_partial.specs.declared.pairs.Products.{Products}
use Rattle.opgen_partial.specs.declared.pairs.Work.{Work}
use Rattle.opgen_partial.specs.Law.{IsFactor, AreFactors, IsPlaced, words_at}
use Rattle.opgen_partial.specs.Recipe.{partial_product, has_one_sign, is_sign, is_single, is_bit, is_made, is_turned, column, with_bits_of, with_product, with_row, with_rows}
use Rattle.opgen_partial.proofs.Kept.{kept}
use Rattle.opgen_partial.proofs.Operands.{and-left, and-right, single-is, twice, product-fits, product-logic, product-value}
use Rattle.opgen_partial.proofs.PartialSums.{at, piece}

-- a bit more leaves no more columns than the heap is wide
pub bit-few : (heap : Contents) (b : WordBit) (weight : ℕ) → length heap.columns ≤ heap.width
    → length (with_bit heap b weight).columns ≤ (with_bit heap b weight).width
bit-few heap b weight h = by (nat_lt weight heap.width) (ltb-true weight heap.width)
  where
    given : Bool → Contents
    given c = if c then record heap { columns = with_bit_at heap.columns weight b } else heap

    by : (c : Bool) → (c ≡ true → weight < heap.width) → length (given c).columns ≤ (given c).width
    by true within = length-with_bit_at heap.columns weight b heap.width h (within refl)
    by false within = h

pub bit-constant : (heap : Contents) (b : WordBit) (weight : ℕ) → (with_bit heap b weight).constant ≡ heap.constant
bit-constant heap b weight = by (nat_lt weight heap.width)
  where
    by : (c : Bool) → (if c then record heap { columns = with_bit_at heap.columns weight b } else heap).constant ≡ heap.constant
    by true = refl
    by false = refl

xor-self : (b : Bool) → xor b b ≡ false
xor-self true = refl
xor-self false = refl

-- a factor of a net is one of the net that has grown from it
pub factor-later : (f : Factor) (old new : Net) → HasGrown old new → IsFactor f old → IsFactor f new
factor-later f old new grown is = record {
  width = grown-width old new grown f.node (node_there old f.node f.width is.is_width.0 is.width) ∙ is.width;
  is_width = is.is_width;
}

module _ (p : Products) (f : Placing) (placed : IsPlaced p f) (start : Work) (valid_start : IsValid start.net)
    (factors : AreFactors p start.net) (there_start : AllThere start.net start.heap.columns) where
  abbrev pub AreInputs : Inputs → Type 0
  AreInputs ins = All (AreWords (input_widths start.net)) ins

  -- the words of the factors
  abbrev pub first : Inputs → ℤ → List Bool
  first ins t = flow start.net.nodes ins p.a.node t

  abbrev pub second : Inputs → ℤ → List Bool
  second ins t = flow start.net.nodes ins p.b.node t

  first-there : p.a.node < length start.net.nodes
  first-there = node_there start.net p.a.node p.a.width factors.first.is_width.0 factors.first.width

  second-there : p.b.node < length start.net.nodes
  second-there = node_there start.net p.b.node p.b.width factors.second.is_width.0 factors.second.width

  pub first-length : (ins : Inputs) (t : ℤ) → AreInputs ins → length (first ins t) ≡ p.a.width
  first-length ins t h = flow-width start.net valid_start ins h p.a.node t ∙ factors.first.width

  pub second-length : (ins : Inputs) (t : ℤ) → AreInputs ins → length (second ins t) ≡ p.b.width
  second-length ins t h = flow-width start.net valid_start ins h p.b.node t ∙ factors.second.width

  -- a net and a heap that have grown from the first ones: the heap's sum has grown by a total over the factors' words
  pub record HasSum (w : Work) (total : (a b : List Bool) → ℕ) : Type 0 where
    pub valid : IsValid w.net
    pub grown : HasGrown start.net w.net
    pub there : AllThere w.net w.heap.columns
    pub width : w.heap.width ≡ start.heap.width
    pub constant : w.heap.constant ≡ start.heap.constant
    pub few : length start.heap.columns ≤ start.heap.width → length w.heap.columns ≤ w.heap.width
    pub sum : (ins : Inputs) (t : ℤ) → AreInputs ins
        → heap_sum (words_at w.net.nodes ins t) w.heap
        ≡ (heap_sum (words_at start.net.nodes ins t) start.heap + total (first ins t) (second ins t)) % 2 ^ w.heap.width

  same_total : (w : Work) (f g : (a b : List Bool) → ℕ) → ((a b : List Bool) → f a b ≡ g a b) → HasSum w f → HasSum w g
  same_total w f g e h = record {
    valid = h.valid;
    grown = h.grown;
    there = h.there;
    width = h.width;
    constant = h.constant;
    few = h.few;
    sum = λ ins t words.
        h.sum ins t words
        ∙ ap (λ n. (heap_sum (words_at start.net.nodes ins t) start.heap + n) % 2 ^ w.heap.width) (e (first ins t) (second ins t));
  }

  -- the product of two bits, turned or not, in its column
  abbrev pub bit_product : (a b : List Bool) (i j : ℕ) → ℕ
  bit_product a b i j = digit (piece (is_turned p f) a b i j) * 2 ^ column f i j

  -- a bit of a square has no sign of its own
  single-turned : (i j : ℕ) → is_bit f i j ≡ true → is_turned p f i j ≡ false
  single-turned i j e =
      let is = single-is f i j (and-left (is_single f i j) (not f.negative) e) in
      let added : f.negative ≡ false = not-true f.negative (and-right (is_single f i j) (not f.negative) e) in
      let other : is_sign p.b j ≡ is_sign p.a i =
      ap (λ (g : Factor). is_sign g j) (placed.same is.0) ∙ ap (is_sign p.a) (sym is.1) in
      ap (λ n. xor n (has_one_sign p i j)) added ∙ ap (xor (is_sign p.a i)) other ∙ xor-self (is_sign p.a i)

  module _ (w : Work) (total : (a b : List Bool) → ℕ) (h : HasSum w total) (i j : ℕ) (low : i < p.a.width) (high : j < p.b.width) where
    factor-a : IsFactor p.a w.net
    factor-a = factor-later p.a start.net w.net h.grown factors.first

    -- a bit of any net that has grown from this one, with the value of the product
    module _ (larger : Net) (grown : HasGrown w.net larger) (valid : IsValid larger) (bit : WordBit)
        (stands : IsThere (widths larger.nodes) bit)
        (value : (ins : Inputs) (t : ℤ) → AreInputs ins
        → bit_under (words_at larger.nodes ins t) bit ≡ piece (is_turned p f) (first ins t) (second ins t) i j) where
      added : HasSum (record { net = larger; heap = with_bit w.heap bit (column f i j) }) (λ a b. total a b + bit_product a b i j)
      added =
          let c = column f i j in
          let same : (with_bit w.heap bit c).width ≡ w.heap.width = with_bit-width w.heap bit c in
          record {
            valid = valid;
            grown = grown-then start.net w.net larger h.grown grown;
            there = with_bit-all (IsThere (widths larger.nodes)) w.heap bit c stands
                (columns-still_there w.net larger grown w.heap.columns h.there);
            width = same ∙ h.width;
            constant = bit-constant w.heap bit c ∙ h.constant;
            few = λ le. bit-few w.heap bit c (h.few le);
            sum = λ ins t words.
                let W = 2 ^ w.heap.width in
                let x = digit (bit_under (words_at larger.nodes ins t) bit) * 2 ^ c in
                let base = heap_sum (words_at start.net.nodes ins t) start.heap in
                let before = total (first ins t) (second ins t) in
                with_bit-sum (words_at larger.nodes ins t) w.heap bit c
                ∙ ap (λ s. (s + x) % W) (sum-kept w.net larger grown ins t w.heap h.there ∙ h.sum ins t words)
                ∙ mod-add-mod (base + before) W x
                ∙ ap (λ v. (base + before + digit v * 2 ^ c) % W) (value ins t words)
                ∙ ap (λ n. n % W) (omega arith)
                ∙ ap (λ k. (base + (before + bit_product (first ins t) (second ins t) i j)) % 2 ^ k) (sym same);
          }

    abbrev cells : Node
    cells = Cells Logic 1 (partial_product p f i j)

    fits : FitsNodes (widths w.net.nodes) 1 (partial_product p f i j)
    fits =
        product-fits p f placed i j low high (widths w.net.nodes) factor-a.width
        (factor-later p.b start.net w.net h.grown factors.second).width

    logic : IsLogic (widths w.net.nodes) (partial_product p f i j)
    logic =
        product-logic p f placed i j low high (widths w.net.nodes) factor-a.width
        (factor-later p.b start.net w.net h.grown factors.second).width

    as-cells : HasSum (record { net = with_last w.net cells; heap = with_bit w.heap (Of (length w.net.nodes) 0) (column f i j) })
        (λ a b. total a b + bit_product a b i j)
    as-cells =
        let larger = with_last w.net cells in
        let wide : slice_index (widths larger.nodes) (length w.net.nodes) ≡ 1 = width-append_last w.net.nodes cells in
        added larger (grown-more w.net (cells ∷ []) refl) (valid-append w.net cells h.valid (logic, fits) refl) (Of (length w.net.nodes) 0)
        (omega (arith, wide))
        (λ ins t words.
        let a = grown-flow start.net w.net h.grown ins p.a.node t first-there in
        let b = grown-flow start.net w.net h.grown ins p.b.node t second-there in
        let value = product-value p f placed i j low high (record { names = λ n. flow w.net.nodes ins n t; ports = λ n. [] })
        (ap length a ∙ first-length ins t words) (ap length b ∙ second-length ins t words) in
        ap (λ v. slice_index_or v 0 false) (flow-append_last w.net.nodes cells ins t ∙ value)
        ∙ ap (λ v. piece (is_turned p f) v (flow w.net.nodes ins p.b.node t) i j) a
        ∙ ap (λ v. piece (is_turned p f) (first ins t) v i j) b)

    as-bit : is_bit f i j ≡ true
        → HasSum (record w { heap = with_bit w.heap (Of p.a.node i) (column f i j) }) (λ a b. total a b + bit_product a b i j)
    as-bit e =
        let is = single-is f i j (and-left (is_single f i j) (not f.negative) e) in
        added w.net (grown-same w.net) h.valid (Of p.a.node i) (omega (arith, factor-a.width, low))
        (λ ins t words.
        let a = grown-flow start.net w.net h.grown ins p.a.node t first-there in
        let x = at (first ins t) i in
        let other : at (second ins t) j ≡ x =
        ap (λ (g : Factor). at (flow start.net.nodes ins g.node t) j) (placed.same is.0) ∙ ap (at (first ins t)) (sym is.1) in
        ap (λ v. at v i) a
        ∙ sym (
        ap (λ (c : Bool). if c then not (x && at (second ins t) j) else (x && at (second ins t) j)) (single-turned i j e)
        ∙ ap (λ y. x && y) other ∙ twice x
        ))

    pub product-sum : HasSum (with_product p f i j w) (λ a b. total a b + kept p f start.heap.width i j (bit_product a b i j))
    product-sum =
        subst (λ k. HasSum (with_product p f i j w) (λ a b. total a b + kept p f k i j (bit_product a b i j))) h.width
        (by (is_made p f i j && ltb (column f i j) w.heap.width))
      where
        made : (c : Bool) → is_bit f i j ≡ c
            → HasSum (if c
            then record w { heap = with_bit w.heap (Of p.a.node i) (column f i j) }
            else record { net = with_last w.net cells; heap = with_bit w.heap (Of (length w.net.nodes) 0) (column f i j) })
            (λ a b. total a b + bit_product a b i j)
        made true e = as-bit e
        made false e = as-cells

        by : (c : Bool)
            → HasSum (if c then with_bits_of p f i j w else w)
            (λ a b. total a b + cond c (bit_product a b i j) 0)
        by true = made (is_bit f i j) refl
        by false = same_total w total (λ a b. total a b + 0) (λ a b. omega arith) h

  abbrev pub weight : (a b : List Bool) (i j : ℕ) → ℕ
  weight a b i j = kept p f start.heap.width i j (bit_product a b i j)

  -- the products of the first bits of a with those of b, in the columns that are kept
  abbrev pub kept_sum : (count : ℕ) (a b : List Bool) → ℕ
  kept_sum count a b = sum_over_pairs count p.b.width (weight a b)

  row-sum : (i j : ℕ) (w : Work) (total : (a b : List Bool) → ℕ) → i < p.a.width → j ≤ p.b.width → HasSum w total
      → HasSum (with_row p f i j w) (λ a b. total a b + sum_to j (weight a b i))
  row-sum i zero w total low high h = same_total w total (λ a b. total a b + 0) (λ a b. omega arith) h
  row-sum i (suc j) w total low high h =
      let before : (a b : List Bool) → ℕ = λ a b. total a b + sum_to j (weight a b i) in
      let row = row-sum i j w total low (omega (arith, high)) h in
      same_total (with_row p f i (suc j) w) (λ a b. before a b + weight a b i j) (λ a b. total a b + sum_to (suc j) (weight a b i))
      (λ a b. omega arith) (product-sum (with_row p f i j w) before row i j low (omega (arith, high)))

  rows-sum : (i : ℕ) → i ≤ p.a.width → HasSum start (λ a b. 0) → HasSum (with_rows p f i start) (kept_sum i)
  rows-sum zero low h = h
  rows-sum (suc i) low h =
      let before = rows-sum i (omega (arith, low)) h in
      row-sum i p.b.width (with_rows p f i start) (kept_sum i) (omega (arith, low)) (omega arith) before

  -- at first
  none-sum : HasSum start (λ a b. 0)
  none-sum = record {
    valid = valid_start;
    grown = grown-same start.net;
    there = there_start;
    width = refl;
    constant = refl;
    few = λ le. le;
    sum = λ ins t words.
        let all = columns_sum (words_at start.net.nodes ins t) start.heap.columns + start.heap.constant in
        let same : all + 0 ≡ all = omega arith in
        sym (mod-add-mod all (2 ^ start.heap.width) 0 ∙ ap (λ n. n % 2 ^ start.heap.width) same);
  }

  -- all products of bits
  pub products-sum : HasSum (with_rows p f p.a.width start) (kept_sum p.a.width)
  products-sum = rows-sum p.a.width (omega arith) none-sum
