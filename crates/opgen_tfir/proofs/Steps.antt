-- A step of the loop over the taps, from the last one down.
use Rattle.std.proofs.Common.{◌≡◌, ℕ, ◌+◌, ◌-◌, ◌<◌, ◌≤◌, Bool, List, ◌∷◌, length, take, drop, get_or, false, refl, sym, ap, ◌∙◌, subst, arith}
use Rattle.std.specs.Prelude.{ℤ, pos, slice_index}
use Rattle.std.proofs.lemmas.List.{drop_more, length-drop, take_all}
use Rattle.std.proofs.lemmas.List.Elements.{All-drop}
use Rattle.opgen_net.specs.declared.net.Net.{Net}
use Rattle.opgen_net.specs.Placed.{Placed}
use Rattle.opgen_net.specs.Valid.{IsValid, widths}
use Rattle.opgen_net.proofs.Later.{later-same, node_there}
use Rattle.opgen_ports.specs.Ranges.{IsWithin}
use Rattle.opgen_graph.specs.Placing.{HasOddPart}
use Rattle.opgen_graph.proofs.Kept.{keeps-later}
use Rattle.opgen_tfir.specs.declared.products.Products.{Products}
use Rattle.opgen_tfir.specs.Recipe.{all_zero, own_format, sum_width, widened, delayed, with_product, with_tap, with_taps}
use Rattle.opgen_tfir.specs.Steps.{HasProducts, IsLast, AreTaps}
use Rattle.opgen_tfir.proofs.Chains.{IsChainNode, width-at, nodes-kept, late, late-placed, wider, wider-placed, wider-nodes, taps-placed, taps-more}

pub taps-drop : (p : Products) (taps : List ℤ) (k : ℕ) → AreTaps p taps → AreTaps p (drop k taps)
taps-drop p taps k are = record {
  few = omega (arith, are.few, length-drop k taps);
  small = All-drop (IsWithin 1048575) k taps are.small;
  odd = All-drop (HasOddPart p.parts) k taps are.odd;
}

-- the rest of a list from a place on, as code takes it
pub tail-slice : (n : ℕ) (xs : List ℤ) → take (length xs - n) (drop n xs) ≡ drop n xs
tail-slice n xs = take_all (length xs - n) (drop n xs) (omega (arith, length-drop n xs))

-- equal parts give equal nodes
pub placed-is : (net other : Net) (place at : ℕ) → net ≡ other → place ≡ at
    → ◌≡◌ {A = Placed} (record { net = net; place = place }) (record { net = other; place = at })
placed-is net other place at e f = rw (e, f) refl

pub widened-is : (signed sign : Bool) (from out to in_width : ℕ) (d e : Placed) → signed ≡ sign → from ≡ out → to ≡ in_width → d ≡ e
    → widened signed from to d ≡ widened sign out in_width e
widened-is signed sign from out to in_width d e a b c f = rw (a, b, c, f) refl

pub product-is : (p : Products) (width bits : ℕ) (t : ℤ) (d e : Placed) → width ≡ bits → d ≡ e
    → with_product p width t d ≡ with_product p bits t e
product-is p width bits t d e a b = rw (a, b) refl

-- ---- the sum from a tap on, over a net that has that from the next tap on

module _ (p : Products) (net : Net) (valid : IsValid net) (has : HasProducts net p) (taps : List ℤ) (are : AreTaps p taps)
    (k place : ℕ) (inside : k + 1 < length taps) (width : slice_index (widths net.nodes) place ≡ sum_width p (drop (k + 1) taps)) where
  abbrev pub tap : ℤ
  tap = get_or taps k (pos 0)

  abbrev pub rest : List ℤ
  rest = drop (k + 1) taps

  abbrev pub old_sum : Placed
  old_sum = record { net = net; place = place }

  pub list-at : drop k taps ≡ tap ∷ rest
  list-at = drop_more taps k (pos 0) (omega (arith, inside))

  pub are-at : AreTaps p (tap ∷ rest)
  are-at = subst (AreTaps p) list-at (taps-drop p taps k are)

  pub made : IsChainNode net (sum_width p rest) old_sum
  made = record { keeps = keeps-later net net (later-same net valid); outputs = refl; width = width }

  pub there : place < length net.nodes
  there = node_there net place (sum_width p rest) (width-at p has.widths rest (taps-drop p taps (k + 1) are)).0 width

  pub late-at : IsChainNode net (sum_width p rest) (late p has.widths net valid has.nodes tap rest are-at old_sum made)
  late-at = late-placed p has.widths net valid has.nodes tap rest are-at old_sum made

  abbrev pub wider-sum : Placed
  wider-sum = wider p has.widths net valid has.nodes tap rest are-at old_sum made

  -- that sum's node in the width of the next one, as code makes it
  pub wider-is : (from_net now : Net) (from_place wider_place from all : ℕ) (signed : Bool) → from_net ≡ (delayed old_sum).net
      → from_place ≡ (delayed old_sum).place → signed ≡ (own_format p rest).signed → from ≡ sum_width p rest
      → all ≡ sum_width p (drop k taps)
      → now ≡ (widened signed from all (record { net = from_net; place = from_place })).net
      → wider_place ≡ (widened signed from all (record { net = from_net; place = from_place })).place
      → ◌≡◌ {A = Placed} (record { net = now; place = wider_place }) wider-sum
  wider-is from_net now from_place wider_place from all signed a b c d e to at =
      placed-is now _ wider_place _ to at
      ∙ widened-is signed (own_format p rest).signed from (sum_width p rest) all (sum_width p (tap ∷ rest))
      (record { net = from_net; place = from_place }) (delayed old_sum) c d (e ∙ ap (sum_width p) list-at)
      (placed-is from_net (delayed old_sum).net from_place (delayed old_sum).place a b)

  pub wider-width : slice_index (widths wider-sum.net.nodes) wider-sum.place ≡ sum_width p (tap ∷ rest)
  wider-width = (wider-placed p has.widths net valid has.nodes tap rest are-at old_sum made).width

  pub wider-products : HasProducts wider-sum.net p
  wider-products = record { widths = has.widths; nodes = wider-nodes p has.widths net valid has.nodes tap rest are-at old_sum made }

-- ---- the loop

module _ (p : Products) (net : Net) (valid : IsValid net) (has : HasProducts net p) (taps : List ℤ) (are : AreTaps p taps)
    (last : ℕ) (is : IsLast taps last) (k : ℕ) (low : 0 < k) (high : k ≤ last) where
  abbrev pub sum : Placed
  sum = with_taps p net (drop k taps)

  some_later : all_zero (drop k taps) ≡ false
  some_later =
      let next : k - 1 + 1 ≡ k = omega (arith, low) in
      subst (λ n. all_zero (drop n taps) ≡ false) next (is.some (k - 1) (omega (arith, low, high)))

  pub sum-placed : IsChainNode net (sum_width p (drop k taps)) sum
  sum-placed = taps-placed p has.widths net valid has.nodes (drop k taps) (taps-drop p taps k are) some_later

  pub products-now : HasProducts sum.net p
  products-now = record {
    widths = has.widths;
    nodes = nodes-kept p has.widths net valid has.nodes sum.net sum-placed.keeps;
  }

  pub next-sum : with_tap p (get_or taps (k - 1) (pos 0)) (drop (k - 1 + 1) taps) sum ≡ with_taps p net (drop (k - 1) taps)
  next-sum =
      let t = get_or taps (k - 1) (pos 0) in
      let next : k - 1 + 1 ≡ k = omega (arith, low) in
      let list : drop (k - 1) taps ≡ t ∷ drop k taps =
      drop_more taps (k - 1) (pos 0) (omega (arith, low, high, is.within)) ∙ ap (λ n. t ∷ drop n taps) next in
      ap (λ n. with_tap p t (drop n taps) sum) next
      ∙ sym (ap (with_taps p net) list ∙ taps-more p net t (drop k taps) some_later)
