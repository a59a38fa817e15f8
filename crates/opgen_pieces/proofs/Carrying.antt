-- The pieces of a sum make it: by induction on how many have another one above them.
use Rattle.std.proofs.Common.{◌≡◌, ℕ, zero, suc, ◌+◌, ◌-◌, ◌≤◌, ◌<◌, Bool, true, false, not, List, [], ◌∷◌, ◌++◌, length, length-append, length-drop, map, reverse, take, drop, refl, sym, ap, ◌∙◌, subst, arith, inl, inr}
use Rattle.std.specs.Prelude.{ℤ, All, Some, slice_get}
use Rattle.std.proofs.lemmas.Bool.{cases_lt}
use Rattle.std.proofs.lemmas.List.{drop_at, length-take-le, map-append, reverse-append, same_from_push, take-append-drop}
use Rattle.std.proofs.lemmas.List.Elements.{All-append, All-cons, All-drop, All-nil, All-take}
use Rattle.opgen_num.specs.declared.format.TheConstants.{MAX_WIDTH}
use Rattle.opgen_num.specs.Words.{sum_with}
use Rattle.opgen_design.specs.Run.{AreWords}
use Rattle.opgen_design.specs.Value.{combined}
use Rattle.opgen_net.specs.declared.net.Net.{Net}
use Rattle.opgen_net.specs.declared.node.Node.{Node}
use Rattle.opgen_net.specs.declared.word_bits.WordBit.{WordBit}
use Rattle.opgen_net.specs.declared.word_bits.WordBit.TheVariants.{Zero, Of}
use Rattle.opgen_net.specs.Delays.{delays}
use Rattle.opgen_net.specs.Flow.{Inputs}
use Rattle.opgen_net.specs.Valid.{IsValid, input_widths, widths}
use Rattle.opgen_net.specs.WordRule.{IsThere, bit_flow, word_flow}
use Rattle.opgen_net.proofs.BitLists.{length-word_flow, reverse-cons, word-kept}
use Rattle.opgen_net.proofs.Grown.{grown-all_there, grown-flow}
use Rattle.opgen_net.proofs.Later.{later-then, words-later}
use Rattle.opgen_pieces.specs.Law.{AreOperands, BitsPassAtMost, HasSum, bit_delays}
use Rattle.opgen_pieces.specs.Recipe.{Pieces, followed, operator, partner, with_carry, with_piece, with_pieces}
use Rattle.opgen_pieces.proofs.Followed.{followed-more, followed-none}
use Rattle.opgen_pieces.proofs.Making.{Made, bits-pass, delays-then, narrow-then, piece-made}
use Rattle.opgen_pieces.proofs.WordSums.{combined-append, combined-carry, combined-zero, handed_on, turned, turned_bit}

-- bits above others have their word behind the word of those
pub word-append : (nodes : List Node) (inputs : Inputs) (t : ℤ) (high low : List WordBit)
    → word_flow nodes inputs (high ++ low) t ≡ word_flow nodes inputs low t ++ word_flow nodes inputs high t
word-append nodes inputs t high low =
    let f = bit_flow nodes inputs t in
    ap reverse (map-append f high low) ∙ reverse-append (map f high) (map f low)

partner-there : (ws : List ℕ) (m : Bool) → IsThere ws (partner m)
partner-there ws false = tt
partner-there ws true = tt

partner-bit : (nodes : List Node) (inputs : Inputs) (t : ℤ) (m : Bool) → bit_flow nodes inputs t (partner m) ≡ not m
partner-bit nodes inputs t false = refl
partner-bit nodes inputs t true = refl

partner-delays : (ds : List ℕ) (m : Bool) → bit_delays ds (partner m) ≡ 0
partner-delays ds false = refl
partner-delays ds true = refl

-- the lowest of several pieces
module _ (most : ℕ) (m : Bool) (first second : List WordBit) (net : Net) (least : 4 ≤ most) (few : most ≤ MAX_WIDTH) (valid : IsValid net)
    (are : AreOperands net first second) (many : most < length first) where
  abbrev pub above : ℕ
  above = length first - (most - 1)

  abbrev pub first_low : List WordBit
  first_low = drop above first

  abbrev pub second_low : List WordBit
  second_low = drop above second

  abbrev pub first_high : List WordBit
  first_high = take above first

  abbrev pub second_high : List WordBit
  second_high = take above second

  abbrev pub low : Pieces
  low = with_carry m first_low second_low net

  abbrev there : WordBit → Type 0
  there = IsThere (widths net.nodes)

  low-width : suc (length first_low) ≡ most
  low-width = omega (arith, length-drop above first, least, many)

  pub low-are : AreOperands net (Zero ∷ first_low) (Zero ∷ second_low)
  low-are = record {
    width = (omega arith, omega (arith, low-width, few));
    alike = omega (arith, length-drop above first, length-drop above second, are.alike);
    first_there = All-cons there Zero first_low tt (All-drop there above first are.first_there);
    second_there = All-cons there Zero second_low tt (All-drop there above second are.second_there);
  }

  pub low-made : Made most m (Zero ∷ first_low) (Zero ∷ second_low) net low
  low-made = piece-made m (Zero ∷ first_low) (Zero ∷ second_low) net valid low-are most (omega (arith, low-width))

  -- the operands of the pieces above
  abbrev pub first_next : List WordBit
  first_next = first_high ++ partner m ∷ []

  abbrev pub second_next : List WordBit
  second_next = second_high ++ take 1 low.bits

  pub first-long : length first_high ≡ above
  first-long = length-take-le above first (omega arith)

  second-long : length second_high ≡ above
  second-long = length-take-le above second (omega (arith, are.alike))

  pub next-long : length first_next ≡ length first - (most - 2)
  next-long = omega (arith, length-append first_high (partner m ∷ []), first-long, least, many)

  pub next-are : AreOperands low.net first_next second_next
  next-are =
      let now = IsThere (widths low.net.nodes) in
      let kept = λ (bits : List WordBit) (h : All there bits). grown-all_there net low.net low-made.later.grown bits h in
      record {
        width = (omega (arith, next-long, are.width.1, least, many), omega (arith, next-long, are.width.1));
        alike =
            omega (arith, length-append first_high (partner m ∷ []), length-append second_high (take 1 low.bits), first-long, second-long);
        first_there =
            All-append now first_high (partner m ∷ []) (kept first_high (All-take there above first are.first_there))
            (All-cons now (partner m) [] (partner-there (widths low.net.nodes) m) (All-nil now));
        second_there =
            All-append now second_high (take 1 low.bits) (kept second_high (All-take there above second are.second_there))
            (All-take now 1 low.bits low-made.there);
      }

  -- the recipe, one piece at a time
  abbrev pub next : Pieces
  next = with_pieces (followed most (length first_next)) most m first_next second_next low.net

  pub one-more : with_pieces (followed most (length first)) most m first second net
      ≡ record { net = next.net; bits = take above next.bits ++ drop 1 low.bits }
  one-more =
      ap (λ k. with_pieces k most m first second net)
      (followed-more most (length first) least many ∙ ap (λ n. suc (followed most n)) (sym next-long))

  -- values that are those of the recipe
  module _ (first_low' second_low' : List WordBit) (of_first : first_low' ≡ Zero ∷ first_low) (of_second : second_low' ≡ Zero ∷ second_low)
    where
      pub low-is : with_piece m first_low' second_low' net ≡ low
      low-is =
          ap (λ bits. with_piece m bits second_low' net) of_first ∙ ap (λ bits. with_piece m (Zero ∷ first_low) bits net) of_second

      pub low-is_are : AreOperands net first_low' second_low'
      low-is_are =
          subst (λ bits. AreOperands net bits second_low') (sym of_first)
          (subst (AreOperands net (Zero ∷ first_low)) (sym of_second) low-are)

  module _ (carry : WordBit) (first_next' second_next' : List WordBit) (net' : Net) (of_carry : slice_get low.bits 0 ≡ Some carry)
      (of_first : first_next' ≡ first_high ++ partner m ∷ []) (of_second : second_next' ≡ second_high ++ carry ∷ [])
      (of_net : net' ≡ low.net) where
    carry-is : carry ∷ [] ≡ take 1 low.bits
    carry-is = let is : Of (length net.nodes) (0 + length first_low) ≡ carry = cc in ap (λ b. b ∷ []) (sym is)

    second-is : second_next' ≡ second_next
    second-is = of_second ∙ ap (λ bits. second_high ++ bits) carry-is

    pub next-is : with_pieces (followed most (length first_next')) most m first_next' second_next' net' ≡ next
    next-is =
        ap (λ bits. with_pieces (followed most (length bits)) most m bits second_next' net') of_first
        ∙ ap (λ bits. with_pieces (followed most (length first_next)) most m first_next bits net') second-is
        ∙ ap (with_pieces (followed most (length first_next)) most m first_next second_next) of_net

    pub next-is_are : AreOperands net' first_next' second_next'
    next-is_are =
        subst (λ n. AreOperands n first_next' second_next') (sym of_net)
        (subst (λ bits. AreOperands low.net bits second_next') (sym of_first)
        (subst (AreOperands low.net first_next) (sym second-is) next-are))

  -- the words at a time
  module _ (inputs : Inputs) (t : ℤ) (words : All (AreWords (input_widths net)) inputs) where
    abbrev before : List WordBit → List Bool
    before given = word_flow net.nodes inputs given t

    abbrev after : List WordBit → List Bool
    after given = word_flow low.net.nodes inputs given t

    abbrev carry : Bool
    carry = handed_on m (before first_low) (before second_low)

    low-alike : length (before first_low) ≡ length (before second_low)
    low-alike =
        omega (
          arith,
          length-word_flow net.nodes inputs t first_low,
          length-word_flow net.nodes inputs t second_low,
          length-drop above first,
          length-drop above second,
          are.alike,
        )

    abbrev carry_bit : Bool
    carry_bit = bit_flow low.net.nodes inputs t (Of (length net.nodes) (0 + length first_low))

    low-sum : after (drop 1 low.bits) ++ carry_bit ∷ []
        ≡ combined (operator m) (before first_low) (before second_low) ++ turned_bit m carry ∷ []
    low-sum =
        let f = bit_flow low.net.nodes inputs t in
        let g = bit_flow net.nodes inputs t in
        sym (reverse-cons carry_bit (map f (drop 1 low.bits)))
        ∙ low-made.sum inputs t words
        ∙ ap (λ v. combined (operator m) v (before (Zero ∷ second_low))) (reverse-cons false (map g first_low))
        ∙ ap (combined (operator m) (before first_low ++ false ∷ [])) (reverse-cons false (map g second_low))
        ∙ combined-zero m (before first_low) (before second_low) low-alike

    low-word : after (drop 1 low.bits) ≡ combined (operator m) (before first_low) (before second_low)
    low-word =
        (same_from_push (after (drop 1 low.bits)) (combined (operator m) (before first_low) (before second_low)) carry_bit
        (turned_bit m carry) low-sum).0

    low-carry : carry_bit ≡ turned_bit m carry
    low-carry =
        (same_from_push (after (drop 1 low.bits)) (combined (operator m) (before first_low) (before second_low)) carry_bit
        (turned_bit m carry) low-sum).1

    kept : (bits : List WordBit) → All there bits → after bits ≡ before bits
    kept bits h = word-kept net.nodes low.net.nodes (grown-flow net low.net low-made.later.grown) inputs t bits h

    first-next : after first_next ≡ not m ∷ before first_high
    first-next =
        word-append low.net.nodes inputs t first_high (partner m ∷ [])
        ∙ ap (λ b. b ∷ after first_high) (partner-bit low.net.nodes inputs t m)
        ∙ ap (λ w. not m ∷ w) (kept first_high (All-take there above first are.first_there))

    second-next : after second_next ≡ turned_bit m carry ∷ before second_high
    second-next =
        word-append low.net.nodes inputs t second_high (take 1 low.bits)
        ∙ ap (λ b. b ∷ after second_high) low-carry
        ∙ ap (λ w. turned_bit m carry ∷ w) (kept second_high (All-take there above second are.second_there))

    -- what the pieces above sum is the high part, above a place for the carry
    pub next-sum : combined (operator m) (after first_next) (after second_next)
        ≡ not carry ∷ sum_with carry (before first_high) (turned m (before second_high))
    next-sum =
        ap (λ v. combined (operator m) v (after second_next)) first-next
        ∙ ap (combined (operator m) (not m ∷ before first_high)) second-next
        ∙ combined-carry m carry (before first_high) (before second_high)

    -- the two parts together
    pub whole-sum : combined (operator m) (before first_low) (before second_low)
        ++ sum_with carry (before first_high) (turned m (before second_high))
        ≡ combined (operator m) (before first) (before second)
    whole-sum =
        let cut = λ (given : List WordBit). sym (word-append net.nodes inputs t (take above given) (drop above given))
        ∙ ap before (take-append-drop above given) in
        sym (combined-append m (before first_low) (before second_low) (before first_high) (before second_high) low-alike)
        ∙ ap (λ v. combined (operator m) v (before second_low ++ before second_high)) (cut first)
        ∙ ap (combined (operator m) (before first)) (cut second)

  -- with the pieces above
  module _ (high : Pieces) (above-made : Made most m first_next second_next low.net high) where
    abbrev result : List WordBit
    result = take above high.bits ++ drop 1 low.bits

    high-long : length high.bits ≡ above + 1
    high-long = omega (arith, above-made.width, length-append first_high (partner m ∷ []), first-long)

    high-taken : length (take above high.bits) ≡ above
    high-taken = length-take-le above high.bits (omega (arith, high-long))

    result-sum : HasSum m first second net result high.net
    result-sum inputs t words =
        let now = λ (given : List WordBit). word_flow high.net.nodes inputs given t in
        let rest = drop 1 low.bits in
        let of_low = IsThere (widths low.net.nodes) in
        let carry_word : length (now (drop above high.bits)) ≡ 1 =
        omega (arith, length-word_flow high.net.nodes inputs t (drop above high.bits), length-drop above high.bits, high-long) in
        let of_high : now (take above high.bits) ≡ drop 1 (now high.bits) =
        sym (drop_at (now (drop above high.bits)) (now (take above high.bits)) 1 carry_word)
        ∙ ap (drop 1) (sym (word-append high.net.nodes inputs t (take above high.bits) (drop above high.bits))
        ∙ ap now (take-append-drop above high.bits)) in
        let c = carry inputs t words in
        let summed : now high.bits ≡ not c ∷ sum_with c (before inputs t words first_high) (turned m (before inputs t words second_high)) =
        above-made.sum inputs t (words-later net low.net low-made.later inputs words) ∙ next-sum inputs t words in
        word-append high.net.nodes inputs t (take above high.bits) rest
        ∙ ap (λ v. v ++ now (take above high.bits))
        (word-kept low.net.nodes high.net.nodes (grown-flow low.net high.net above-made.later.grown) inputs t rest
        (All-drop of_low 1 low.bits low-made.there) ∙ low-word inputs t words)
        ∙ ap (λ v. combined (operator m) (before inputs t words first_low) (before inputs t words second_low) ++ v)
        (of_high ∙ ap (drop 1) summed)
        ∙ whole-sum inputs t words

    module _ (d : ℕ) (f : BitsPassAtMost d net first) (g : BitsPassAtMost d net second) where
      abbrev passes : List ℕ → WordBit → Type 0
      passes ds b = bit_delays ds b ≤ d

      abbrev ds : List ℕ
      ds = delays net.nodes

      abbrev es : List ℕ
      es = delays low.net.nodes

      low-first : BitsPassAtMost d net (Zero ∷ first_low)
      low-first = All-cons (passes ds) Zero first_low (omega arith) (All-drop (passes ds) above first f)

      low-second : BitsPassAtMost d net (Zero ∷ second_low)
      low-second = All-cons (passes ds) Zero second_low (omega arith) (All-drop (passes ds) above second g)

      low-bits : BitsPassAtMost d low.net low.bits
      low-bits = low-made.passes.bits d low-first low-second

      high-kept : (bits : List WordBit) → All there bits → BitsPassAtMost d net bits → BitsPassAtMost d low.net (take above bits)
      high-kept bits h k =
          bits-pass net low.net low-made.later.grown d (take above bits) (All-take there above bits h) (All-take (passes ds) above bits k)

      next-first : BitsPassAtMost d low.net first_next
      next-first =
          All-append (passes es) first_high (partner m ∷ []) (high-kept first are.first_there f)
          (All-cons (passes es) (partner m) [] (omega (arith, partner-delays es m)) (All-nil (passes es)))

      next-second : BitsPassAtMost d low.net second_next
      next-second =
          All-append (passes es) second_high (take 1 low.bits) (high-kept second are.second_there g) (All-take (passes es) 1 low.bits low-bits)

      result-nodes : All (λ e. e ≤ d) (drop (length net.nodes) (delays high.net.nodes))
      result-nodes =
          delays-then net low.net high.net low-made.later.grown above-made.later.grown d (low-made.passes.nodes d low-first low-second)
          (above-made.passes.nodes d next-first next-second)

      result-bits : BitsPassAtMost d high.net result
      result-bits =
          let of_low = IsThere (widths low.net.nodes) in
          All-append (passes (delays high.net.nodes)) (take above high.bits) (drop 1 low.bits)
          (All-take (passes (delays high.net.nodes)) above high.bits (above-made.passes.bits d next-first next-second))
          (bits-pass low.net high.net above-made.later.grown d (drop 1 low.bits) (All-drop of_low 1 low.bits low-made.there)
          (All-drop (passes es) 1 low.bits low-bits))

    pub more-made : Made most m first second net (record { net = high.net; bits = result })
    more-made =
        let of_low = IsThere (widths low.net.nodes) in
        let now = IsThere (widths high.net.nodes) in
        record {
          later = later-then net low.net high.net low-made.later above-made.later;
          width = omega (arith, length-append (take above high.bits) (drop 1 low.bits), high-taken, length-drop 1 low.bits, low-made.width, low-width, many, least);
          there =
              All-append now (take above high.bits) (drop 1 low.bits) (All-take now above high.bits above-made.there)
              (grown-all_there low.net high.net above-made.later.grown (drop 1 low.bits) (All-drop of_low 1 low.bits low-made.there));
          sum = result-sum;
          narrow = narrow-then net low.net high.net low-made.later.grown above-made.later.grown most low-made.narrow above-made.narrow;
          passes = record { nodes = result-nodes; bits = result-bits };
        }

-- as many pieces as the recipe says
pub pieces-made : (k most : ℕ) (m : Bool) (first second : List WordBit) (net : Net) → 4 ≤ most → most ≤ MAX_WIDTH → IsValid net
    → AreOperands net first second → followed most (length first) ≡ k → Made most m first second net (with_pieces k most m first second net)
pieces-made zero most m first second net least few valid are is =
    elim (cases_lt most (length first)) [
      | inl many ↦ absurd (omega (arith, is, followed-more most (length first) least many))
      | inr fits ↦ piece-made m first second net valid are most fits
    ]
pieces-made (suc k) most m first second net least few valid are is =
    elim (cases_lt most (length first)) [
      | inl many ↦
          let made = low-made most m first second net least few valid are many in
          let next = next-are most m first second net least few valid are many in
          let left : followed most (length (first_next most m first second net least few valid are many)) ≡ k =
          ap (followed most) (next-long most m first second net least few valid are many)
          ∙ omega (arith, is, followed-more most (length first) least many) in
          more-made most m first second net least few valid are many
          (with_pieces k most m (first_next most m first second net least few valid are many) (second_next most m first second net least few valid are many)
          (low most m first second net least few valid are many).net)
          (pieces-made k most m (first_next most m first second net least few valid are many)
          (second_next most m first second net least few valid are many) (low most m first second net least few valid are many).net least few
          made.later.valid next left)
      | inr fits ↦ absurd (omega (arith, is, followed-none most (length first) least fits))
    ]
