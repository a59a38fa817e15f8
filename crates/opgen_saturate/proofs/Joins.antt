-- The cells that join nodes of one bit: the last is 1 where one of the nodes is.
use Rattle.std.proofs.Common.{◌≡◌, inl, inr, ℕ, zero, suc, ◌+◌, ◌-◌, ◌≤◌, ◌<◌, Bool, false, List, [], ◌∷◌, length, ◌||◌, refl, sym, ap, ◌∙◌, subst, arith}
use Rattle.std.specs.Prelude.{ℤ, All, slice_index, slice_index_or}
use Rattle.std.proofs.lemmas.Bool.{cases_lt}
use Rattle.opgen_design.specs.Run.{AreWords}
use Rattle.opgen_design.specs.Tree.{name}
use Rattle.opgen_net.specs.declared.cell.Class.TheVariants.{Logic}
use Rattle.opgen_net.specs.declared.net.Net.{Net}
use Rattle.opgen_net.specs.declared.node.Node.TheVariants.{Cells}
use Rattle.opgen_net.specs.Flow.{Inputs, flow}
use Rattle.opgen_net.specs.Placed.{with_last}
use Rattle.opgen_net.specs.Valid.{IsValid, MayStand, input_widths, widths}
use Rattle.opgen_net.proofs.FlowLaws.{length-widths}
use Rattle.opgen_net.proofs.FlowWidths.{flow-width}
use Rattle.opgen_net.proofs.Grown.{grown-flow, grown-width}
use Rattle.opgen_net.proofs.Later.{Later, later-same, later-then, words-later}
use Rattle.opgen_saturate.specs.Recipe.{any_node, joins, share, with_joins, last_place}
use Rattle.opgen_saturate.specs.Converts.{AreBits}
use Rattle.opgen_saturate.proofs.Bits.{any_at, chain_or}
use Rattle.opgen_saturate.proofs.Expressions.{any_node-fits}
use Rattle.opgen_saturate.proofs.Groups.{any-split, any-one, any-same, or_swapped, one-left, share-some, join-next}
use Rattle.opgen_saturate.proofs.Logic.{any_node-logic}
use Rattle.opgen_saturate.proofs.Rows.{bit_at, scope_at, next-later, next-count, next-width, next-flow}

-- a word of one bit
one_bit_word : (w : List Bool) → length w ≡ 1 → w ≡ slice_index_or w 0 false ∷ []
one_bit_word [] e = absurd (omega (arith, e))
one_bit_word (b ∷ []) e = refl
one_bit_word (b ∷ c ∷ w) e = absurd (omega (arith, e))

-- nodes of one bit from a place on
module _ (net : Net) (valid : IsValid net) (first : ℕ) (bits : AreBits (widths net.nodes) first) where
  pub one_wide : (n : ℕ) → first ≤ n → n < length net.nodes → slice_index (widths net.nodes) n ≡ 1
  one_wide n h l = bits n h (omega (arith, l, length-widths net.nodes))

  pub join-stands : (count : ℕ) → 2 ≤ count → count ≤ 6 → first + count ≤ length net.nodes
      → MayStand (widths net.nodes) (Cells Logic 1 (any_node first count))
  join-stands zero some six there = absurd (omega (arith, some))
  join-stands (suc zero) some six there = absurd (omega (arith, some))
  join-stands (suc (suc k)) some six there =
      let wide : (p : ℕ) → first ≤ p → p < first + suc (suc k) → slice_index (widths net.nodes) p ≡ 1 =
      λ p a b. one_wide p a (omega (arith, b, there)) in
      (any_node-logic (widths net.nodes) first (suc k) six wide, any_node-fits (widths net.nodes) first k wide)

  module _ (inputs : Inputs) (t : ℤ) (words : All (AreWords (input_widths net)) inputs) where
    pub node-bit : (n : ℕ) → first ≤ n → n < length net.nodes → flow net.nodes inputs n t ≡ bit_at net.nodes inputs t n ∷ []
    node-bit n h l = one_bit_word (flow net.nodes inputs n t) (flow-width net valid inputs words n t ∙ one_wide n h l)

    pub join-bit : (count : ℕ) (some : 2 ≤ count) (six : count ≤ 6) (there : first + count ≤ length net.nodes)
        → bit_at (with_last net (Cells Logic 1 (any_node first count))).nodes inputs t (length net.nodes)
        ≡ any_at (bit_at net.nodes inputs t) first count
    join-bit zero some six there = absurd (omega (arith, some))
    join-bit (suc k) some six there =
        ap (λ w. slice_index_or w 0 false)
        (next-flow net valid (any_node first (suc k)) (join-stands (suc k) some six there) inputs t
        ∙ chain_or (scope_at net inputs t) name (bit_at net.nodes inputs t) first k
        (λ p a b. node-bit p a (omega (arith, b, there))))

-- the last node has one bit, which is 1 where one of the nodes from a place on is
pub record IsJoined (net : Net) (first : ℕ) (made : Net) : Type 0 where
  pub later : Later net made
  pub wide : slice_index (widths made.nodes) (last_place made) ≡ 1
  pub some : 1 ≤ length made.nodes
  pub tells :
      (inputs : Inputs) (t : ℤ) → All (AreWords (input_widths net)) inputs
      → flow made.nodes inputs (last_place made) t ≡ any_at (bit_at net.nodes inputs t) first (length net.nodes - first) ∷ []

-- a cell more, behind the nodes that it joins
pub join-bits : (net : Net) (valid : IsValid net) (first : ℕ) (bits : AreBits (widths net.nodes) first) (count : ℕ)
    → 2 ≤ count → count ≤ 6 → first + count ≤ length net.nodes
    → AreBits (widths (with_last net (Cells Logic 1 (any_node first count))).nodes) (first + count)
join-bits net valid first bits count some six there n h l =
    let e = any_node first count in
    let s = join-stands net valid first bits count some six there in
    let next_net = with_last net (Cells Logic 1 e) in
    let more = next-count net valid e s in
    elim (cases_lt n (length net.nodes)) [
      | inl g ↦ grown-width net next_net (next-later net valid e s).grown n g ∙ one_wide net valid first bits n (omega (arith, h)) g
      | inr g ↦
          let same : length net.nodes ≡ n = omega (arith, g, l, more, length-widths next_net.nodes) in
          subst (λ m. slice_index (widths next_net.nodes) m ≡ 1) same (next-width net valid e s)
    ]

pub joins-made : (cells first : ℕ) (net : Net) → IsValid net → first < length net.nodes → AreBits (widths net.nodes) first
    → cells ≡ joins (length net.nodes - first) → IsJoined net first (with_joins cells first net)
joins-made zero first net valid there bits is =
    let left = one-left (length net.nodes - first) (omega (arith, there)) is in
    let at : first ≡ last_place net = omega (arith, left, there) in
    record {
      later = later-same net valid;
      wide = one_wide net valid first bits (last_place net) (omega (arith, at)) (omega (arith, there));
      some = omega (arith, there);
      tells = λ inputs t words.
          let f = bit_at net.nodes inputs t in
          node-bit net valid first bits inputs t words (last_place net) (omega (arith, at)) (omega (arith, there))
          ∙ ap (λ b. b ∷ []) (ap f (sym at) ∙ sym (any-one f first) ∙ ap (any_at f first) (sym left));
    }
joins-made (suc k) first net valid there bits is =
    let n = length net.nodes in
    let left = n - first in
    let count = share left in
    let few = share-some k left is in
    let within : first + count ≤ n = omega (arith, few.2, there) in
    let e = any_node first count in
    let s = join-stands net valid first bits count few.0 few.1 within in
    let next_net = with_last net (Cells Logic 1 e) in
    let later = next-later net valid e s in
    let more = next-count net valid e s in
    let now : length next_net.nodes - (first + count) ≡ left + 1 - count = omega (arith, more, within, there) in
    let rest = joins-made k (first + count) next_net later.valid (omega (arith, more, within))
    (join-bits net valid first bits count few.0 few.1 within) (join-next k left is ∙ ap joins (sym now)) in
    let made = with_joins k (first + count) next_net in
    record {
      later = later-then net next_net made later rest.later;
      wide = rest.wide;
      some = rest.some;
      tells = λ inputs t words.
          let f = bit_at net.nodes inputs t in
          let g = bit_at next_net.nodes inputs t in
          let d = left - count in
          let size : length next_net.nodes - (first + count) ≡ suc d = omega (arith, now, few.2) in
          let at : (first + count) + d ≡ n = omega (arith, few.2, there) in
          let top : g ((first + count) + d) ≡ any_at f first count =
          ap g at ∙ join-bit net valid first bits inputs t words count few.0 few.1 within in
          let others : any_at g (first + count) d ≡ any_at f (first + count) d =
          any-same g f (first + count) d
          (λ p a b. ap (λ w. slice_index_or w 0 false) (grown-flow net next_net later.grown inputs p t (omega (arith, b, at)))) in
          let whole : any_at g (first + count) (suc d) ≡ any_at f first left =
          ap (λ b. b || any_at g (first + count) d) top
          ∙ ap (λ b. any_at f first count || b) others
          ∙ or_swapped (any_at f first count) (any_at f (first + count) d)
          ∙ sym (any-split f first count d left (omega (arith, few.2))) in
          rest.tells inputs t (words-later net next_net later inputs words)
          ∙ ap (λ b. b ∷ []) (ap (any_at g (first + count)) size ∙ whole);
    }
