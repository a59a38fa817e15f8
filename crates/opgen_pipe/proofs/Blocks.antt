-- Lists that have for each node one item more than a count, by place.
use Rattle.std.proofs.Common.{◌≡◌, ℕ, zero, suc, ◌+◌, ◌-◌, ◌<◌, ◌≤◌, List, [], ◌∷◌, length, length-append, Some, refl, sym, ap, ◌∙◌, subst, arith, inl, inr}
use Rattle.std.specs.Prelude.{slice_get}
use Rattle.std.proofs.lemmas.Bool.{cases_lt}
use Rattle.opgen_net.specs.declared.node.Node.{Node}
use Rattle.opgen_pipe.specs.Copies.{signals_before}
use Rattle.opgen_pipe.specs.Pipelined.{all_of}
use Rattle.opgen_pipe.proofs.Lists.{get-left, get-right}

-- as many before a node, where those before it have as many copies
pub before-same : (f g : ℕ → ℕ) (n : ℕ) → ((i : ℕ) → i < n → f i ≡ g i) → signals_before f n ≡ signals_before g n
before-same f g zero h = refl
before-same f g (suc n) h = omega (arith, before-same f g n (λ i l. h i (omega (arith, l))), h n (omega arith))

module _ (count : ℕ → ℕ) where
  pub before-next : (i : ℕ) → signals_before count (i + 1) ≡ signals_before count i + 1 + count i
  before-next i = let e : i + 1 ≡ suc i = omega arith in ap (signals_before count) e

  pub before-grows : (i j : ℕ) → signals_before count i ≤ signals_before count (i + j)
  before-grows i zero = let e : i + 0 ≡ i = omega arith in omega (arith, ap (signals_before count) e)
  before-grows i (suc j) =
      let e : i + suc j ≡ suc (i + j) = omega arith in
      omega (arith, ap (signals_before count) e, before-grows i j)

  -- the signals of a node stand before those of the nodes after it
  pub before-within : (i j : ℕ) → i < j → signals_before count i + 1 + count i ≤ signals_before count j
  before-within i j l =
      let e : (i + 1) + (j - (i + 1)) ≡ j = omega (arith, l) in
      omega (arith, before-next i, before-grows (i + 1) (j - (i + 1)), ap (signals_before count) e)

  -- each node has a signal
  pub before-most : (i : ℕ) → i ≤ signals_before count i
  before-most zero = omega arith
  before-most (suc i) = omega (arith, before-most i)

  module _ {X : Type 0} (f : ℕ → Node → List X) where
    -- the items of each node are as many
    abbrev pub AreLong : ℕ → List Node → Type 0
    AreLong a ns = (j : ℕ) (n : Node) → slice_get ns j ≡ Some n → length (f (a + j) n) ≡ 1 + count (a + j)

    long_first : (a : ℕ) (x : Node) (ns : List Node) → AreLong a (x ∷ ns) → length (f a x) ≡ 1 + count a
    long_first a x ns h = let e : a + 0 ≡ a = omega arith in subst (λ i. length (f i x) ≡ 1 + count i) e (h 0 x refl)

    long_rest : (a : ℕ) (x : Node) (ns : List Node) → AreLong a (x ∷ ns) → AreLong (a + 1) ns
    long_rest a x ns h = λ j n g. let e : a + suc j ≡ a + 1 + j = omega arith in subst (λ i. length (f i n) ≡ 1 + count i) e (h (suc j) n g)

    block_on : (a : ℕ) (ns : List Node) → AreLong a ns → (j k m : ℕ) (n : Node) → slice_get ns j ≡ Some n → k ≤ count (a + j)
        → m + signals_before count a ≡ signals_before count (a + j) + k → slice_get (all_of f a ns) m ≡ slice_get (f (a + j) n) k
    block_on a [] long j k m n h l e = absurd (cc)
    block_on a (x ∷ ns) long zero k m n h l e =
        let at : a + 0 ≡ a = omega arith in
        let is : x ≡ n = cc in
        let same : m ≡ k = omega (arith, e, ap (signals_before count) at) in
        let short : m < length (f a x) = omega (arith, same, l, ap count at, long_first a x ns long) in
        get-left (f a x) (all_of f (a + 1) ns) m short
        ∙ ap (slice_get (f a x)) same
        ∙ ap (λ y. slice_get (f a y) k) is
        ∙ ap (λ i. slice_get (f i n) k) (sym at)
    block_on a (x ∷ ns) long (suc j) k m n h l e =
        let at : a + suc j ≡ a + 1 + j = omega arith in
        let first = long_first a x ns long in
        let grown : signals_before count (a + 1) ≤ signals_before count (a + 1 + j) = before-grows (a + 1) j in
        let step = before-next a in
        let q : m ≡ length (f a x) + (m - length (f a x)) = omega (arith, e, ap (signals_before count) at, first, grown, step) in
        let r : (m - length (f a x)) + signals_before count (a + 1) ≡ signals_before count (a + 1 + j) + k =
        omega (arith, e, ap (signals_before count) at, first, grown, step) in
        get-right (f a x) (all_of f (a + 1) ns) m (m - length (f a x)) q
        ∙ block_on (a + 1) ns (long_rest a x ns long) j k (m - length (f a x)) n h (subst (λ i. k ≤ count i) at l) r
        ∙ ap (λ i. slice_get (f i n) k) (sym at)

    length-all_on : (a : ℕ) (ns : List Node) → AreLong a ns → length (all_of f a ns) + signals_before count a
        ≡ signals_before count (a + length ns)
    length-all_on a [] long = let e : a + 0 ≡ a = omega arith in omega (arith, ap (signals_before count) e)
    length-all_on a (x ∷ ns) long =
        let at : a + length (x ∷ ns) ≡ a + 1 + length ns = omega arith in
        omega (
          arith,
          length-append (f a x) (all_of f (a + 1) ns),
          long_first a x ns long,
          length-all_on (a + 1) ns (long_rest a x ns long),
          before-next a,
          ap (signals_before count) at,
        )

    -- a node's item at a place
    pub record Origin (a : ℕ) (ns : List Node) (m : ℕ) : Type 0 where
      pub node : ℕ
      pub copy : ℕ
      pub is : Node
      pub there : slice_get ns node ≡ Some is
      pub within : copy ≤ count (a + node)
      pub place : m + signals_before count a ≡ signals_before count (a + node) + copy

    origin_on : (a : ℕ) (ns : List Node) → AreLong a ns → (m : ℕ) → m < length (all_of f a ns) → Origin a ns m
    origin_on a [] long m l = absurd (omega (arith, l))
    origin_on a (x ∷ ns) long m l =
        let at : a + 0 ≡ a = omega arith in
        let first = long_first a x ns long in
        elim (cases_lt m (length (f a x))) [
          | inl b ↦ record {
            node = 0;
            copy = m;
            is = x;
            there = refl;
            within = omega (arith, b, first, ap count at);
            place = omega (arith, ap (signals_before count) at);
          }
          | inr b ↦
              let o = origin_on (a + 1) ns (long_rest a x ns long) (m - length (f a x))
              (omega (arith, b, l, length-append (f a x) (all_of f (a + 1) ns))) in
              let next : a + 1 + o.node ≡ a + suc o.node = omega arith in
              record {
                node = suc o.node;
                copy = o.copy;
                is = o.is;
                there = o.there;
                within = subst (λ i. o.copy ≤ count i) next o.within;
                place = omega (arith, o.place, b, first, before-next a, ap (signals_before count) next);
              }
        ]

module _ (count : ℕ → ℕ) {X : Type 0} (f : ℕ → Node → List X) (ns : List Node)
    (long : (i : ℕ) (n : Node) → slice_get ns i ≡ Some n → length (f i n) ≡ 1 + count i) where
  from_zero : (i : ℕ) → 0 + i ≡ i
  from_zero i = omega arith

  all_long : AreLong count f 0 ns
  all_long j n h = subst (λ i. length (f i n) ≡ 1 + count i) (sym (from_zero j)) (long j n h)

  pub block : (i k : ℕ) (n : Node) → slice_get ns i ≡ Some n → k ≤ count i → slice_get (all_of f 0 ns) (signals_before count i + k)
      ≡ slice_get (f i n) k
  block i k n h l =
      block_on count f 0 ns all_long i k (signals_before count i + k) n h (subst (λ j. k ≤ count j) (sym (from_zero i)) l)
      (omega (arith, ap (signals_before count) (from_zero i)))
      ∙ ap (λ j. slice_get (f j n) k) (from_zero i)

  pub length-all : length (all_of f 0 ns) ≡ signals_before count (length ns)
  length-all = omega (arith, length-all_on count f 0 ns all_long, ap (signals_before count) (from_zero (length ns)))

  pub origin : (m : ℕ) → m < length (all_of f 0 ns) → (i : ℕ) × (k : ℕ) × (n : Node) × (slice_get ns i ≡ Some n) × (k ≤ count i)
      × (m ≡ signals_before count i + k)
  origin m l =
      let o = origin_on count f 0 ns all_long m l in (
        o.node,
        o.copy,
        o.is,
        o.there,
        subst (λ j. o.copy ≤ count j) (from_zero o.node) o.within,
        omega (arith, o.place, ap (signals_before count) (from_zero o.node)),
      )
