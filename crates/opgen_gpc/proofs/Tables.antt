-- The table of a counter has at each time the number that its bits count.
use Rattle.std.proofs.Common.{◌≡◌, ℕ, zero, suc, ◌+◌, ◌^◌, ◌<◌, ◌≤◌, Bool, true, false, List, [], ◌∷◌, ◌++◌, length, length-append, map, take, reverse, inl, inr, refl, sym, ap, ◌∙◌, subst, arith}
use Rattle.std.specs.Prelude.{ℤ, All, slice_index, slice_index_or}
use Rattle.std.proofs.Math.ListN.{get_or-append}
use Rattle.std.proofs.Math.Seq.{get_or-append_seam, take-length}
use Rattle.std.proofs.lemmas.Bool.{cases_lt}
use Rattle.std.proofs.lemmas.List.{length-map, length-reverse}
use Rattle.opgen_num.specs.Words.{digit, nat, word}
use Rattle.opgen_num.specs.WordLaws.{nat-word, length-word}
use Rattle.opgen_num.proofs.Words.{digit-below, nat-below, word-nat}
use Rattle.opgen_design.specs.Run.{AreWords}
use Rattle.opgen_design.specs.Value.{IsWidth}
use Rattle.opgen_heap.specs.Sum.{bit_under, ones}
use Rattle.opgen_net.specs.declared.net.Net.{Net}
use Rattle.opgen_net.specs.declared.node.Node.{Node}
use Rattle.opgen_net.specs.declared.node.Node.TheVariants.{Table}
use Rattle.opgen_net.specs.declared.word_bits.WordBit.{WordBit}
use Rattle.opgen_net.specs.declared.word_bits.WordBit.TheVariants.{Zero, One, Of}
use Rattle.opgen_net.specs.Flow.{Inputs, flow}
use Rattle.opgen_net.specs.Placed.{Placed, with_bits}
use Rattle.opgen_net.specs.Valid.{widths, input_widths, IsValid, FitsTable}
use Rattle.opgen_net.specs.WordRule.{IsThere, bit_flow}
use Rattle.opgen_net.proofs.Appending.{flow-append_last, width-append_last}
use Rattle.opgen_net.proofs.Later.{Later, later-then, later-node, bits-later}
use Rattle.opgen_net.proofs.WordLaws.{word-found_width, word-has_bits}
use Rattle.opgen_gpc.specs.declared.counter.Counter.{Counter}
use Rattle.opgen_gpc.specs.Counters.{Column}
use Rattle.opgen_gpc.specs.Recipe.{ones_of, once_more, counted_at, rows_below, rows, with_counter}
use Rattle.opgen_gpc.proofs.Taking.{first_more, counter_value}
use Rattle.opgen_gpc.specs.Kept.{TakesSix}

-- rows

pub length-rows : (twice : Bool) (count : ℕ) → length (rows_below twice count) ≡ count
length-rows twice zero = refl
length-rows twice (suc k) = omega (arith, length-append (rows_below twice k) (word 3 (counted_at twice k) ∷ []), length-rows twice k)

row-at : (twice : Bool) (count k : ℕ) (d : List Bool) → k < count → slice_index_or (rows_below twice count) k d ≡ word 3 (counted_at twice k)
row-at twice zero k d h = absurd (omega (arith, h))
row-at twice (suc n) k d h = elim (cases_lt k n) [
  | inl l ↦
      get_or-append (rows_below twice n) (word 3 (counted_at twice n) ∷ []) d k (omega (arith, l, length-rows twice n))
      ∙ row-at twice n k d l
  | inr l ↦
      let same : k ≡ n = omega (arith, l, h) in
      let last : k ≡ length (rows_below twice n) = omega (arith, same, length-rows twice n) in
      ap (λ i. slice_index_or (rows_below twice n ++ word 3 (counted_at twice n) ∷ []) i d) last
      ∙ get_or-append_seam (rows_below twice n) (word 3 (counted_at twice n)) [] d
      ∙ ap (λ i. word 3 (counted_at twice i)) (sym same)
]

rows-fit : (ws : List ℕ) (address : ℕ) (twice : Bool) (count : ℕ) → slice_index ws address ≡ 6 → count ≡ 2 ^ 6
    → FitsTable ws address (rows_below twice count)
rows-fit ws address twice count at all =
    let first = ap length (row-at twice count 0 [] (omega (arith, all))) ∙ length-word 3 (counted_at twice 0) in record {
      address_width = (omega (arith, at), omega (arith, at));
      row_for_each = length-rows twice count ∙ all ∙ ap (λ n. 2 ^ n) (sym at);
      row_width = (omega (arith, first), omega (arith, first));
      same_width = λ i d l.
          ap length (row-at twice count i d (omega (arith, l, length-rows twice count))) ∙ length-word 3 (counted_at twice i) ∙ sym first;
    }

pub table-fits : (ws : List ℕ) (address : ℕ) (twice : Bool) → slice_index ws address ≡ 6 → FitsTable ws address (rows twice)
table-fits ws address twice at = rows-fit ws address twice 64 at refl

-- what six bits count

pub ones-few : (w : List Bool) → ones_of w ≤ length w
ones-few [] = omega arith
ones-few (b ∷ w) = omega (arith, digit-below b, ones-few w)

once-few : (twice : Bool) (n : ℕ) → n < 64 → once_more twice n ≤ 1
once-few true n h = omega (arith, h)
once-few false n h = omega arith

pub counted-below : (twice : Bool) (n : ℕ) → n < 64 → counted_at twice n < 8
counted-below twice n h = omega (arith, ones-few (word 6 n), length-word 6 n, once-few twice n h)

module _ (f : WordBit → Bool) where
  abbrev spelled : Column → List Bool
  spelled bits = reverse (map f bits)

  abbrev all_ones : Column → ℕ
  all_ones [] = 0
  all_ones (b ∷ bits) = digit (f b) + all_ones bits

  abbrev more : (twice : Bool) → Column → ℕ
  more true (b ∷ bits) = digit (f b)
  more twice bits = 0

  six-counted : (twice : Bool) (bits : Column) → length bits ≡ 6
      → counted_at twice (nat (spelled bits)) ≡ all_ones bits + more twice bits
  six-counted twice [] h = absurd (omega (arith, h))
  six-counted twice (a ∷ []) h = absurd (omega (arith, h))
  six-counted twice (a ∷ b ∷ []) h = absurd (omega (arith, h))
  six-counted twice (a ∷ b ∷ c ∷ []) h = absurd (omega (arith, h))
  six-counted twice (a ∷ b ∷ c ∷ d ∷ []) h = absurd (omega (arith, h))
  six-counted twice (a ∷ b ∷ c ∷ d ∷ e ∷ []) h = absurd (omega (arith, h))
  six-counted twice (a ∷ b ∷ c ∷ d ∷ e ∷ f' ∷ g ∷ bits) h = absurd (omega (arith, h))
  six-counted twice (a ∷ b ∷ c ∷ d ∷ e ∷ g ∷ []) h = by twice
    where
      w : List Bool
      w = f g ∷ f e ∷ f d ∷ f c ∷ f b ∷ f a ∷ []

      same : ones_of (word 6 (nat w)) ≡ ones_of w
      same = ap ones_of (word-nat w)

      by : (t : Bool) → counted_at t (nat w) ≡ all_ones (a ∷ b ∷ c ∷ d ∷ e ∷ g ∷ []) + more t (a ∷ b ∷ c ∷ d ∷ e ∷ g ∷ [])
      by true = omega (
        arith,
        same,
        digit-below (f a),
        digit-below (f b),
        digit-below (f c),
        digit-below (f d),
        digit-below (f e),
        digit-below (f g),
      )
      by false = omega (arith, same)

  spelled-below : (bits : Column) → length bits ≡ 6 → nat (spelled bits) < 64
  spelled-below bits h =
      let count : length (spelled bits) ≡ 6 = length-reverse (map f bits) ∙ length-map bits f ∙ h in
      subst (λ n. nat (spelled bits) < 2 ^ n) count (nat-below (spelled bits))

-- the number of a row
take-all : (n : ℕ) (w : List Bool) → length w ≡ n → take n w ≡ w
take-all n w h = ap (λ k. take k w) (sym h) ∙ take-length w

bits-under : (nodes : List Node) (inputs : Inputs) (t : ℤ) (b : WordBit) → bit_flow nodes inputs t b ≡ bit_under (λ n. flow nodes inputs n t) b
bits-under nodes inputs t Zero = refl
bits-under nodes inputs t One = refl
bits-under nodes inputs t (Of node index) = refl

ones-flow : (nodes : List Node) (inputs : Inputs) (t : ℤ) (bits : Column)
    → all_ones (bit_flow nodes inputs t) bits ≡ ones (λ n. flow nodes inputs n t) bits
ones-flow nodes inputs t [] = refl
ones-flow nodes inputs t (b ∷ bits) = omega (arith, ap digit (bits-under nodes inputs t b), ones-flow nodes inputs t bits)

more-flow : (nodes : List Node) (inputs : Inputs) (t : ℤ) (twice : Bool) (bits : Column)
    → more (bit_flow nodes inputs t) twice bits ≡ first_more (λ n. flow nodes inputs n t) twice bits
more-flow nodes inputs t true [] = refl
more-flow nodes inputs t true (b ∷ bits) = ap digit (bits-under nodes inputs t b)
more-flow nodes inputs t false [] = refl
more-flow nodes inputs t false (b ∷ bits) = refl

-- a net with the table of a counter: three bits that have at every time what the counter's bits count
pub record HasCounter (net : Net) (c : Counter) (p : Placed) : Type 0 where
  pub later : Later net p.net
  pub wide : slice_index (widths p.net.nodes) p.place ≡ 3
  pub value : (inputs : Inputs) (t : ℤ) → All (AreWords (input_widths net)) inputs
      → nat (take 3 (flow p.net.nodes inputs p.place t)) ≡ counter_value (λ n. flow net.nodes inputs n t) c

module _ (net : Net) (c : Counter) (valid : IsValid net) (takes : TakesSix (IsThere (widths net.nodes)) c) where
  abbrev address : Placed
  address = with_bits net c.bits

  abbrev table : Node
  table = Table address.place (rows c.twice)

  six-wide : IsWidth (length c.bits)
  six-wide = (omega (arith, takes.six), omega (arith, takes.six))

  address-later : Later net address.net
  address-later = bits-later net valid c.bits six-wide takes.bits

  address-wide : slice_index (widths address.net.nodes) address.place ≡ 6
  address-wide = word-found_width net valid c.bits takes.bits ∙ takes.six

  fits : FitsTable (widths address.net.nodes) address.place (rows c.twice)
  fits = table-fits (widths address.net.nodes) address.place c.twice address-wide

  abbrev placed : Placed
  placed = with_counter net c

  value-at : (inputs : Inputs) (t : ℤ) → All (AreWords (input_widths net)) inputs
      → nat (take 3 (flow placed.net.nodes inputs placed.place t)) ≡ counter_value (λ n. flow net.nodes inputs n t) c
  value-at inputs t words =
      let f = bit_flow net.nodes inputs t in
      let a = nat (spelled f c.bits) in
      let below = spelled-below f c.bits takes.six in
      let n = counted_at c.twice a in
      let found : flow placed.net.nodes inputs placed.place t ≡ word 3 n =
      flow-append_last address.net.nodes table inputs t
      ∙ ap (λ w. slice_index_or (rows c.twice) (nat w) []) (word-has_bits net valid c.bits takes.bits inputs t words)
      ∙ row-at c.twice 64 a [] below in
      ap (λ w. nat (take 3 w)) found
      ∙ ap nat (take-all 3 (word 3 n) (length-word 3 n))
      ∙ nat-word 3 n (counted-below c.twice a below)
      ∙ six-counted f c.twice c.bits takes.six
      ∙ omega (arith, ones-flow net.nodes inputs t c.bits, more-flow net.nodes inputs t c.twice c.bits)

  pub counter-placed : HasCounter net c placed
  counter-placed = record {
    later = later-then net address.net placed.net address-later (later-node address.net table address-later.valid fits refl);
    wide = width-append_last address.net.nodes table ∙ ap length (row-at c.twice 64 0 [] (omega arith)) ∙ length-word 3 (counted_at c.twice 0);
    value = value-at;
  }
