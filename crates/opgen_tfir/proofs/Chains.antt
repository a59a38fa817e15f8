-- The nodes of the sums: the net grows by them, and each has the width of its sum.
use Rattle.std.proofs.Common.{◌≡◌, ◌≢◌, ℕ, zero, suc, ◌+◌, ◌-◌, ◌<◌, ◌≤◌, Bool, true, false, List, [], ◌∷◌, length, length-append, drop, refl, sym, ap, ◌∙◌, subst, arith}
use Rattle.std.specs.Prelude.{ℤ, pos, negsuc, All, IsTrue, slice_index, nat_eq, if◌then◌else◌}
use Rattle.std.proofs.lemmas.Bool.{eqb-true}
use Rattle.std.proofs.lemmas.List.Elements.{All-head, All-tail, All-weaker}
use Rattle.opgen_num.specs.WordLaws.{length-word}
use Rattle.opgen_num.specs.Words.{word}
use Rattle.opgen_design.specs.declared.expr.Op.TheVariants.{Plus, Minus}
use Rattle.opgen_design.specs.Value.{IsWidth}
use Rattle.opgen_net.specs.declared.cell.Class.TheVariants.{Add}
use Rattle.opgen_net.specs.declared.net.Net.{Net}
use Rattle.opgen_net.specs.declared.node.Node.TheVariants.{Cells, Constant, Delay}
use Rattle.opgen_net.specs.Placed.{Placed, with_bits}
use Rattle.opgen_net.specs.Cells.{is_sum}
use Rattle.opgen_net.specs.Delays.{delay_count}
use Rattle.opgen_net.specs.Valid.{IsValid, widths, FitsNodes}
use Rattle.opgen_net.proofs.Appending.{flow-append_before, valid-append, width-append_before, width-append_last}
use Rattle.opgen_net.proofs.Delays.{delay_count-append}
use Rattle.opgen_net.proofs.FlowLaws.{length-widths}
use Rattle.opgen_net.proofs.Grown.{grown-width}
use Rattle.opgen_net.proofs.Later.{Later, later-node, later-same, later-then, node_there}
use Rattle.opgen_ports.specs.Ranges.{IsWithin}
use Rattle.opgen_graph.specs.declared.multiples.Multiple.{Multiple}
use Rattle.opgen_graph.specs.Placing.{IsNode, HasOddPart}
use Rattle.opgen_graph.specs.Recipe.{Multiples, operand, with_magnitude, with_constant}
use Rattle.opgen_graph.proofs.Kept.{Keeps, keeps-later, keeps-then, node-kept}
use Rattle.opgen_graph.proofs.Products.{magnitude-placed, negated-placed}
use Rattle.opgen_graph.proofs.Sums.{IsPlacedNode, pair-fits, operand-placed}
use Rattle.opgen_tfir.specs.declared.products.Products.{Products}
use Rattle.opgen_tfir.specs.Recipe.{all_zero, own_format, sum_width, widened, result, joined, with_product, with_half, first_product, delayed, with_tap, with_taps}
use Rattle.opgen_tfir.specs.Steps.{HasWidths, AreTaps}
use Rattle.opgen_tfir.proofs.Widths.{sum-wide}
use Rattle.opgen_tfir.proofs.Zeros.{first-some, drop-some}

-- a sum or difference of two nodes of a width has it too
pub result-fits : (ws : List ℕ) (negative : Bool) (a b bits : ℕ) → IsWidth bits → slice_index ws a ≡ bits → slice_index ws b ≡ bits
    → FitsNodes ws bits (result negative a b)
result-fits ws false a b bits wide h g = pair-fits ws Plus a b bits refl wide h g
result-fits ws true a b bits wide h g = pair-fits ws Minus a b bits refl wide h g

pub result-sum : (negative : Bool) (a b : ℕ) → IsTrue (is_sum (result negative a b))
result-sum false a b = refl
result-sum true a b = refl

-- a net that keeps the nodes and the outputs of another, and may have delays and other nodes more, of which one has so many bits
pub record IsChainNode (old : Net) (bits : ℕ) (p : Placed) : Type 0 where
  pub keeps : Keeps old p.net
  pub outputs : p.net.outputs ≡ old.outputs
  pub width : slice_index (widths p.net.nodes) p.place ≡ bits

-- and so is one without delays more
placed-in_chain : (old : Net) (bits : ℕ) (p : Placed) → IsPlacedNode old bits p → IsChainNode old bits p
placed-in_chain old bits p placed = record {
  keeps = keeps-later old p.net placed.later;
  outputs = placed.later.grown.outputs;
  width = placed.width;
}

pub delayed-placed : (bits : ℕ) (sum : Placed) → IsValid sum.net → IsWidth bits → slice_index (widths sum.net.nodes) sum.place ≡ bits
    → IsChainNode sum.net bits (delayed sum)
delayed-placed bits sum valid wide width =
    let there : sum.place < length (widths sum.net.nodes) =
    omega (arith, node_there sum.net sum.place bits wide.0 width, length-widths sum.net.nodes) in
    record {
      keeps = record {
        valid = valid-append sum.net (Delay sum.place) valid there refl;
        inputs = refl;
        count = omega (arith, length-append sum.net.nodes (Delay sum.place ∷ []));
        nodes = record {
          widths = width-append_before sum.net.nodes (Delay sum.place);
          flow = flow-append_before sum.net.nodes (Delay sum.place);
        };
      };
      outputs = refl;
      width = width-append_last sum.net.nodes (Delay sum.place) ∙ width;
    }

-- ---- a node in another width

abbrev pub as_multiple : (from : ℕ) → Placed → Multiple
as_multiple from d = record { factor = 1; node = d.place; width = from }

module _ (signed : Bool) (from to : ℕ) (d : Placed) (valid : IsValid d.net) (wide_from : IsWidth from) (wide_to : IsWidth to)
    (width : slice_index (widths d.net.nodes) d.place ≡ from) where
  pub is-node : IsNode d.net (as_multiple from d)
  is-node = record { some = wide_from.0; most = wide_from.1; width = width }

  pub widened-placed : IsPlacedNode d.net to (widened signed from to d)
  widened-placed = go (nat_eq from to) (λ e. eqb-true from to e)
    where
      go : (b : Bool) → (b ≡ true → from ≡ to)
          → IsPlacedNode d.net to (if b then d else with_bits d.net (operand signed 0 to (as_multiple from d)))
      go true same = record { later = later-same d.net valid; width = width ∙ same refl }
      go false same = operand-placed signed 0 to d.net (as_multiple from d) valid wide_to is-node

module _ (p : Products) (bits : ℕ) (wide : IsWidth bits) where
  -- ---- a product added to a node
  module _ (d : Placed) (valid : IsValid d.net) (width : slice_index (widths d.net.nodes) d.place ≡ bits) where
    pub node-kept_width : (m : Placed) → IsPlacedNode d.net bits m → slice_index (widths m.net.nodes) d.place ≡ bits
    node-kept_width m made =
        grown-width d.net m.net made.later.grown d.place (node_there d.net d.place bits wide.0 width) ∙ width

    pub joined-placed : (negative : Bool) (m : Placed) → IsPlacedNode d.net bits m → IsPlacedNode d.net bits (joined negative bits d.place m)
    joined-placed negative m made =
        let node = Cells Add bits (result negative d.place m.place) in
        let fits = result-fits (widths m.net.nodes) negative d.place m.place bits wide (node-kept_width m made) made.width in
        record {
          later = later-then d.net m.net (joined negative bits d.place m).net made.later (later-node m.net node made.later.valid (result-sum negative d.place m.place, fits) refl);
          width = width-append_last m.net.nodes node;
        }

    module _ (nodes : All (IsNode d.net) p.parts) where
      abbrev pub b : Multiples
      b = record { net = d.net; known = p.parts }

      pub product-placed : (t : ℤ) → HasOddPart p.parts t → IsPlacedNode d.net bits (with_product p bits t d)
      product-placed (pos zero) odd = record { later = later-same d.net valid; width = width }
      product-placed (pos (suc n)) odd =
          joined-placed false (with_magnitude p.input.signed bits b (suc n))
          (magnitude-placed p.input.signed b valid nodes bits wide (suc n) (odd (λ z. cc)))
      product-placed (negsuc n) odd =
          joined-placed true (with_magnitude p.input.signed bits b (suc n))
          (magnitude-placed p.input.signed b valid nodes bits wide (suc n) (odd (λ z. cc)))

  -- ---- the product of the last tap
  module _ (net : Net) (valid : IsValid net) (nodes : All (IsNode net) p.parts) where
    abbrev pub start : Multiples
    start = record { net = net; known = p.parts }

    pub end-placed : (t : ℤ) → t ≢ pos 0 → HasOddPart p.parts t → IsPlacedNode net bits (with_constant p.input.signed bits start t)
    end-placed (pos zero) some odd = absurd (some refl)
    end-placed (pos (suc n)) some odd = magnitude-placed p.input.signed start valid nodes bits wide (suc n) (odd (λ z. cc))
    end-placed (negsuc n) some odd =
        let m = with_magnitude p.input.signed bits start (suc n) in
        let one = magnitude-placed p.input.signed start valid nodes bits wide (suc n) (odd (λ z. cc)) in
        let two = negated-placed bits m one.later.valid wide one.width in
        record {
          later = later-then net m.net (with_constant p.input.signed bits start (negsuc n)).net one.later two.later;
          width = two.width;
        }

    pub half-placed : IsPlacedNode net bits (with_half p bits net)
    half-placed = record {
      later = later-node net (Constant (word bits p.half)) valid (subst IsWidth (sym (length-word bits p.half)) wide) refl;
      width = width-append_last net.nodes (Constant (word bits p.half)) ∙ length-word bits p.half;
    }

    pub half-nodes : All (IsNode (with_half p bits net).net) p.parts
    half-nodes =
        let h = with_half p bits net in
        All-weaker (IsNode net) (IsNode h.net) (node-kept net h.net (keeps-later net h.net half-placed.later)) p.parts nodes

    pub first-placed : (t : ℤ) → t ≢ pos 0 → HasOddPart p.parts t → IsPlacedNode net bits (first_product p bits net t)
    first-placed t some odd = go (nat_eq p.half 0)
      where
        go : (c : Bool) → IsPlacedNode net bits
            (if c then with_constant p.input.signed bits start t else with_product p bits t (with_half p bits net))
        go true = end-placed t some odd
        go false =
            let h = with_half p bits net in
            let two = product-placed h half-placed.later.valid half-placed.width half-nodes t odd in
            record { later = later-then net h.net (with_product p bits t h).net half-placed.later two.later; width = two.width }

-- ---- all sums

some-tap : (ts : List ℤ) → all_zero ts ≡ false → 1 ≤ length ts
some-tap [] some = absurd (cc)
some-tap (t ∷ ts) some = omega arith

-- where a later tap is not 0 the sum from it on stands, and else the first product
pub taps-more : (p : Products) (net : Net) (t : ℤ) (ts : List ℤ) → all_zero ts ≡ false
    → with_taps p net (t ∷ ts) ≡ with_tap p t ts (with_taps p net ts)
taps-more p net t ts e =
    ap (λ (c : Bool). if c then first_product p (sum_width p (t ∷ ts)) net t else with_tap p t ts (with_taps p net ts)) e

pub taps-last : (p : Products) (net : Net) (t : ℤ) (ts : List ℤ) → all_zero ts ≡ true
    → with_taps p net (t ∷ ts) ≡ first_product p (sum_width p (t ∷ ts)) net t
taps-last p net t ts e =
    ap (λ (c : Bool). if c then first_product p (sum_width p (t ∷ ts)) net t else with_tap p t ts (with_taps p net ts)) e

pub taps-tail : (p : Products) (t : ℤ) (ts : List ℤ) → AreTaps p (t ∷ ts) → AreTaps p ts
taps-tail p t ts are = record {
  few = omega (arith, are.few);
  small = All-tail (IsWithin 1048575) t ts are.small;
  odd = All-tail (HasOddPart p.parts) t ts are.odd;
}

pub width-at : (p : Products) → HasWidths p → (ts : List ℤ) → AreTaps p ts → IsWidth (sum_width p ts)
width-at p has ts are = sum-wide p has ts are.few are.small

module _ (p : Products) (has : HasWidths p) (net : Net) (valid : IsValid net) (nodes : All (IsNode net) p.parts) where
  pub nodes-kept : (new : Net) → Keeps net new → All (IsNode new) p.parts
  nodes-kept new keeps = All-weaker (IsNode net) (IsNode new) (node-kept net new keeps) p.parts nodes

  -- the product of the last tap that is not 0
  last-placed : (t : ℤ) (ts : List ℤ) → AreTaps p (t ∷ ts) → all_zero (t ∷ ts) ≡ false → all_zero ts ≡ true
      → IsPlacedNode net (sum_width p (t ∷ ts)) (first_product p (sum_width p (t ∷ ts)) net t)
  last-placed t ts are some e =
      first-placed p (sum_width p (t ∷ ts)) (width-at p has (t ∷ ts) are) net valid nodes t (first-some t ts some e)
      (All-head (HasOddPart p.parts) t ts are.odd)

  -- a tap more
  module _ (t : ℤ) (ts : List ℤ) (are : AreTaps p (t ∷ ts)) (sum : Placed) (made : IsChainNode net (sum_width p ts) sum) where
    abbrev pub late : Placed
    late = delayed sum

    abbrev pub wider : Placed
    wider = widened (own_format p ts).signed (sum_width p ts) (sum_width p (t ∷ ts)) late

    pub late-placed : IsChainNode sum.net (sum_width p ts) late
    late-placed = delayed-placed (sum_width p ts) sum made.keeps.valid (width-at p has ts (taps-tail p t ts are)) made.width

    pub wider-placed : IsPlacedNode late.net (sum_width p (t ∷ ts)) wider
    wider-placed =
        widened-placed (own_format p ts).signed (sum_width p ts) (sum_width p (t ∷ ts)) late late-placed.keeps.valid
        (width-at p has ts (taps-tail p t ts are)) (width-at p has (t ∷ ts) are) late-placed.width

    pub late-keeps : Keeps net late.net
    late-keeps = keeps-then net sum.net late.net made.keeps late-placed.keeps

    pub wider-keeps : Keeps net wider.net
    wider-keeps = keeps-then net late.net wider.net late-keeps (keeps-later late.net wider.net wider-placed.later)

    pub wider-nodes : All (IsNode wider.net) p.parts
    wider-nodes = nodes-kept wider.net wider-keeps

    tap-of : IsPlacedNode wider.net (sum_width p (t ∷ ts)) (with_tap p t ts sum)
    tap-of =
        product-placed p (sum_width p (t ∷ ts)) (width-at p has (t ∷ ts) are) wider wider-placed.later.valid wider-placed.width
        wider-nodes t (All-head (HasOddPart p.parts) t ts are.odd)

    since-late : Later late.net (with_tap p t ts sum).net
    since-late = later-then late.net wider.net (with_tap p t ts sum).net wider-placed.later tap-of.later

    pub tap-keeps : Keeps sum.net (with_tap p t ts sum).net
    tap-keeps =
        keeps-then sum.net late.net (with_tap p t ts sum).net late-placed.keeps
        (keeps-later late.net (with_tap p t ts sum).net since-late)

    pub tap-placed : IsChainNode net (sum_width p (t ∷ ts)) (with_tap p t ts sum)
    tap-placed = record {
      keeps = keeps-then net sum.net (with_tap p t ts sum).net made.keeps tap-keeps;
      outputs = since-late.grown.outputs ∙ made.outputs;
      width = tap-of.width;
    }

    -- a delay more
    tap-delays : delay_count (with_tap p t ts sum).net.nodes ≡ delay_count sum.net.nodes + 1
    tap-delays = since-late.grown.delays ∙ delay_count-append sum.net.nodes (Delay sum.place ∷ [])

  pub taps-placed : (ts : List ℤ) → AreTaps p ts → all_zero ts ≡ false → IsChainNode net (sum_width p ts) (with_taps p net ts)
  taps-placed [] are some = absurd (cc)
  taps-placed (t ∷ ts) are some =
      go (all_zero ts) refl (λ e. taps-placed ts (taps-tail p t ts are) e)
    where
      go : (c : Bool) → all_zero ts ≡ c → (all_zero ts ≡ false → IsChainNode net (sum_width p ts) (with_taps p net ts))
          → IsChainNode net (sum_width p (t ∷ ts))
          (if c then first_product p (sum_width p (t ∷ ts)) net t else with_tap p t ts (with_taps p net ts))
      go true e rest =
          placed-in_chain net (sum_width p (t ∷ ts)) (first_product p (sum_width p (t ∷ ts)) net t) (last-placed t ts are some e)
      go false e rest = tap-placed t ts are (with_taps p net ts) (rest e)

  -- the net has a delay between neighbouring taps at most
  pub taps-delays : (ts : List ℤ) → AreTaps p ts → all_zero ts ≡ false
      → delay_count (with_taps p net ts).net.nodes ≤ delay_count net.nodes + (length ts - 1)
  taps-delays [] are some = absurd (cc)
  taps-delays (t ∷ ts) are some =
      go (all_zero ts) refl (λ e. taps-delays ts (taps-tail p t ts are) e)
    where
      go : (c : Bool) → all_zero ts ≡ c
          → (all_zero ts ≡ false → delay_count (with_taps p net ts).net.nodes ≤ delay_count net.nodes + (length ts - 1))
          → delay_count (if c then first_product p (sum_width p (t ∷ ts)) net t else with_tap p t ts (with_taps p net ts)).net.nodes
          ≤ delay_count net.nodes + (length (t ∷ ts) - 1)
      go true e rest = omega (arith, (last-placed t ts are some e).later.grown.delays)
      go false e rest =
          let before = taps-placed ts (taps-tail p t ts are) e in
          omega (arith, rest e, tap-delays t ts are (with_taps p net ts) before, some-tap ts e)

  -- the net goes on growing from tap to tap
  pub taps-keep : (ts : List ℤ) (k : ℕ) → AreTaps p ts → all_zero (drop k ts) ≡ false
      → Keeps (with_taps p net (drop k ts)).net (with_taps p net ts).net
  taps-keep ts zero are some =
      let z = (with_taps p net ts).net in keeps-later z z (later-same z (taps-placed ts are some).keeps.valid)
  taps-keep [] (suc k) are some = absurd (cc)
  taps-keep (t ∷ ts) (suc k) are some =
      let rest = drop-some ts k some in
      let before = taps-placed ts (taps-tail p t ts are) rest in
      let more = subst (λ (q : Placed). Keeps (with_taps p net ts).net q.net) (sym (taps-more p net t ts rest))
      (tap-keeps t ts are (with_taps p net ts) before) in
      keeps-then (with_taps p net (drop k ts)).net (with_taps p net ts).net (with_taps p net (t ∷ ts)).net
      (taps-keep ts k (taps-tail p t ts are) some) more
