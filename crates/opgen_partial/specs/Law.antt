-- What partial products add to a bit heap: the product of the factors, except for the columns that are left out and a constant that
-- corrects the signs.
use Rattle.std.specs.Prelude.{◌≡◌, ℕ, ◌≤◌, ◌+◌, ◌*◌, ◌%◌, ◌^◌, ◌&&◌, List, Bool, true, All, if◌then◌else◌, nat_lt, length, slice_index, ℤ, pos, neg_ℤ, ◌+ℤ◌, ◌-ℤ◌, ◌*ℤ◌}
use Rattle.opgen_num.specs.Words.{int, nat}
use Rattle.opgen_budget.specs.Columns.{weight_below}
use Rattle.opgen_budget.specs.Sums.{sum_over_pairs}
use Rattle.opgen_design.specs.Run.{AreWords}
use Rattle.opgen_design.specs.Value.{IsWidth}
use Rattle.opgen_heap.specs.Adding.{residue}
use Rattle.opgen_heap.specs.Standing.{AllThere}
use Rattle.opgen_heap.specs.Sum.{Words, heap_sum}
use Rattle.opgen_net.specs.declared.net.Net.{Net}
use Rattle.opgen_net.specs.declared.node.Node.{Node}
use Rattle.opgen_net.specs.Flow.{Inputs, flow}
use Rattle.opgen_net.specs.Grown.{HasGrown}
use Rattle.opgen_net.specs.Valid.{IsValid, widths, input_widths}
use Rattle.opgen_partial.specs.declared.pairs.Factor.{Factor}
use Rattle.opgen_partial.specs.declared.pairs.Placing.{Placing}
use Rattle.opgen_partial.specs.declared.pairs.Products.{Products}
use Rattle.opgen_partial.specs.declared.pairs.Work.{Work}
use Rattle.opgen_partial.specs.Recipe.{own_column, is_counted, correction, sign_correction}

-- a factor's node has the factor's width
pub record IsFactor (f : Factor) (net : Net) : Type 0 where
  pub width : slice_index (widths net.nodes) f.node ≡ f.width
  pub is_width : IsWidth f.width

pub record AreFactors (p : Products) (net : Net) : Type 0 where
  pub first : IsFactor p.a net
  pub second : IsFactor p.b net

-- the number of a factor's word
abbrev pub number : Factor → List Bool → ℤ
number f w = if f.signed then int w else pos (nat w)

-- the words of a net's nodes at a time
abbrev pub words_at : List Node → Inputs → ℤ → Words
words_at nodes inputs t = λ n. flow nodes inputs n t

-- what the placing has a meaning for: nothing that is lowered falls below column 0, and a square has one factor
pub record IsPlaced (p : Products) (f : Placing) : Type 0 where
  pub lowered : f.lowered ≤ p.left_out
  pub raised : f.raised ≤ 128
  pub same : f.square ≡ true → p.b ≡ p.a

-- the weight of all bits that are left out
abbrev pub left_out_weight : Products → Placing → ℕ
left_out_weight p f =
    sum_over_pairs p.a.width p.b.width
    (λ i j. if is_counted f i j && nat_lt (own_column f i j) p.left_out then 2 ^ own_column f i j else 0)

-- the product of the factors' words, or its negative
abbrev pub placed_product : Products → Placing → (x y : List Bool) → ℤ
placed_product p f x y = if f.negative then neg_ℤ (number p.a x *ℤ number p.b y) else number p.a x *ℤ number p.b y

-- The sum of a heap before and after, at one time: what the words x and y of the factors add is their numbers' product, less the
-- correction and less some of what is left out, as many columns higher or lower as the placing says.
pub record IsSumWithPlaced (p : Products) (f : Placing) (x y : List Bool) (width before after : ℕ) : Type 0 where
  pub missing : ℕ
  pub light : missing ≤ left_out_weight p f
  pub by : ℕ
  pub placed : pos (2 ^ f.lowered * by) ≡ pos (2 ^ f.raised) *ℤ ((placed_product p f x y -ℤ correction p f) -ℤ pos missing)
  pub sum : after ≡ (before + by) % 2 ^ width

-- The sum of a heap before and after, at one time: the words x and y of the factors add their numbers' product, less the correction,
-- and less some of the bits of the columns that are left out.
pub record IsSumWithProduct (p : Products) (x y : List Bool) (width before after : ℕ) : Type 0 where
  pub missing : ℕ
  pub light : missing ≤ weight_below p.a.width p.b.width p.left_out
  pub sum : after
      ≡ residue (pos before +ℤ
      (((number p.a x *ℤ number p.b y) -ℤ sign_correction p.a.signed p.b.signed p.a.width p.b.width) -ℤ pos missing)) (2 ^ width)

-- the net has grown, and the heap's sum with it, at every time and for all inputs
pub record HasSums (p : Products) (before after : Work) (IsSum : (x y : List Bool) (width before after : ℕ) → Type 0) : Type 0 where
  pub valid : IsValid after.net
  pub grown : HasGrown before.net after.net
  pub there : AllThere after.net after.heap.columns
  pub width : after.heap.width ≡ before.heap.width
  pub constant : after.heap.constant ≡ before.heap.constant
  pub few : length before.heap.columns ≤ before.heap.width → length after.heap.columns ≤ after.heap.width
  pub sum : (inputs : Inputs) (t : ℤ) → All (AreWords (input_widths before.net)) inputs
      → IsSum (flow before.net.nodes inputs p.a.node t) (flow before.net.nodes inputs p.b.node t) before.heap.width
      (heap_sum (words_at before.net.nodes inputs t) before.heap) (heap_sum (words_at after.net.nodes inputs t) after.heap)

abbrev pub HasPlaced : Products → Placing → (before after : Work) → Type 0
HasPlaced p f before after = HasSums p before after (IsSumWithPlaced p f)

abbrev pub HasProducts : Products → (before after : Work) → Type 0
HasProducts p before after = HasSums p before after (IsSumWithProduct p)
