-- The whole sum: its pieces, and the places that are passed on below them.
use Rattle.std.proofs.Common.{◌≡◌, ℕ, ◌≤◌, Bool, List, [], ◌∷◌, ◌++◌, length, length-append, length-drop, take, drop, refl, sym, ap, ◌∙◌, subst, arith}
use Rattle.std.specs.Prelude.{All}
use Rattle.std.proofs.lemmas.List.{drop_all, length-take-le, take-append-drop}
use Rattle.std.proofs.lemmas.List.Elements.{All-append, All-drop, All-nil, All-take}
use Rattle.opgen_num.specs.declared.format.TheConstants.{MAX_WIDTH}
use Rattle.opgen_num.specs.Words.{sum_with}
use Rattle.opgen_net.specs.declared.net.Net.{Net}
use Rattle.opgen_net.specs.declared.word_bits.WordBit.{WordBit}
use Rattle.opgen_net.specs.Delays.{delays}
use Rattle.opgen_net.specs.Valid.{IsValid, widths}
use Rattle.opgen_net.specs.WordRule.{IsThere, word_flow}
use Rattle.opgen_net.proofs.BitLists.{word-kept}
use Rattle.opgen_net.proofs.Grown.{grown-all_there, grown-flow}
use Rattle.opgen_net.proofs.Later.{later-same}
use Rattle.opgen_pieces.specs.Law.{AreOperands, BitsPassAtMost, HasSum, IsNarrow, bit_delays}
use Rattle.opgen_pieces.specs.Recipe.{Pieces, followed, passed_bits, summed, with_pieces, with_places, with_sum}
use Rattle.opgen_pieces.proofs.Making.{Made, bits-pass, length-delays}
use Rattle.opgen_pieces.proofs.Carrying.{pieces-made, word-append}
use Rattle.opgen_pieces.proofs.Passing.{length-passed_bits, passed-all, passed-sum, summed-most, summed-passed}
use Rattle.opgen_pieces.proofs.WordSums.{combined-is, turned}

-- two words of the same width, which may have no bits
pub record ArePlaces (net : Net) (first second : List WordBit) : Type 0 where
  pub few : length first ≤ MAX_WIDTH
  pub alike : length second ≡ length first
  pub first_there : All (IsThere (widths net.nodes)) first
  pub second_there : All (IsThere (widths net.nodes)) second

-- no node behind a net
nothing-behind : {A : Type 0} (P : A → Type 0) (xs : List A) (n : ℕ) → length xs ≤ n → All P (drop n xs)
nothing-behind P xs n h = subst (All P) (sym (drop_all n xs h)) (All-nil P)

pub places-made : (most : ℕ) (m : Bool) (first second : List WordBit) (net : Net) → 4 ≤ most → most ≤ MAX_WIDTH → IsValid net
    → ArePlaces net first second → Made most m first second net (with_places most m first second net)
places-made most m (a ∷ first) second net least few valid are =
    pieces-made (followed most (length (a ∷ first))) most m (a ∷ first) second net least few valid
    (record { width = (omega arith, are.few); alike = are.alike; first_there = are.first_there; second_there = are.second_there }) refl
places-made most m [] second net least few valid are = record {
  later = later-same net valid;
  width = refl;
  there = All-nil (IsThere (widths net.nodes));
  sum = λ inputs t words. sym (combined-is m [] (word_flow net.nodes inputs second t));
  narrow = nothing-behind (IsNarrow most) net.nodes (length net.nodes) (omega arith);
  passes = record {
    nodes = λ d f g. nothing-behind (λ e. e ≤ d) (delays net.nodes) (length net.nodes) (omega (arith, length-delays net.nodes));
    bits = λ d f g. All-nil (λ b. bit_delays (delays net.nodes) b ≤ d);
  };
}

-- of some places
pub places-some : (most : ℕ) (m : Bool) (first second : List WordBit) (net : Net) → 1 ≤ length first
    → with_places most m first second net ≡ with_pieces (followed most (length first)) most m first second net
places-some most m [] second net h = absurd (omega (arith, h))
places-some most m (a ∷ first) second net h = refl

module _ (most : ℕ) (m : Bool) (first second : List WordBit) (net : Net) (least : 4 ≤ most) (few : most ≤ MAX_WIDTH) (valid : IsValid net)
    (are : AreOperands net first second) where
  abbrev left : ℕ
  left = summed m first second

  abbrev there : WordBit → Type 0
  there = IsThere (widths net.nodes)

  abbrev high : Pieces
  high = with_places most m (take left first) (take left second) net

  abbrev passed : List WordBit
  passed = passed_bits (drop left first) (drop left second)

  left-most : left ≤ length first
  left-most = summed-most m first second

  first-long : length (take left first) ≡ left
  first-long = length-take-le left first left-most

  second-long : length (take left second) ≡ left
  second-long = length-take-le left second (omega (arith, left-most, are.alike))

  pub high-are : ArePlaces net (take left first) (take left second)
  high-are = record {
    few = omega (arith, first-long, left-most, are.width.1);
    alike = omega (arith, first-long, second-long);
    first_there = All-take there left first are.first_there;
    second_there = All-take there left second are.second_there;
  }

  high-made : Made most m (take left first) (take left second) net high
  high-made = places-made most m (take left first) (take left second) net least few valid high-are

  passed-there : All there passed
  passed-there =
      passed-all there (drop left first) (drop left second) (All-drop there left first are.first_there)
      (All-drop there left second are.second_there)

  low-alike : length (drop left second) ≡ length (drop left first)
  low-alike = omega (arith, length-drop left first, length-drop left second, are.alike)

  whole-sum : HasSum m first second net (high.bits ++ passed) high.net
  whole-sum inputs t words =
      let before = λ (given : List WordBit). word_flow net.nodes inputs given t in
      let now = λ (given : List WordBit). word_flow high.net.nodes inputs given t in
      let cut = λ (given : List WordBit).
      sym (word-append net.nodes inputs t (take left given) (drop left given)) ∙ ap before (take-append-drop left given) in
      let x = before (take left first) in
      let y = before (take left second) in
      word-append high.net.nodes inputs t high.bits passed
      ∙ ap (λ v. v ++ now high.bits)
      (word-kept net.nodes high.net.nodes (grown-flow net high.net high-made.later.grown) inputs t passed passed-there)
      ∙ ap (λ v. before passed ++ v) (high-made.sum inputs t words ∙ combined-is m x y)
      ∙ sym (passed-sum net.nodes inputs t m (drop left first) (drop left second) (summed-passed m first second are.alike) x y)
      ∙ ap (λ v. sum_with m v (turned m (before (drop left second) ++ y))) (cut first)
      ∙ ap (λ v. sum_with m (before first) (turned m v)) (cut second)
      ∙ sym (combined-is m (before first) (before second))

  module _ (d : ℕ) (f : BitsPassAtMost d net first) (g : BitsPassAtMost d net second) where
    abbrev passes : List ℕ → WordBit → Type 0
    passes ds b = bit_delays ds b ≤ d

    abbrev ds : List ℕ
    ds = delays net.nodes

    high-first : BitsPassAtMost d net (take left first)
    high-first = All-take (passes ds) left first f

    high-second : BitsPassAtMost d net (take left second)
    high-second = All-take (passes ds) left second g

    whole-bits : BitsPassAtMost d high.net (high.bits ++ passed)
    whole-bits =
        All-append (passes (delays high.net.nodes)) high.bits passed (high-made.passes.bits d high-first high-second)
        (bits-pass net high.net high-made.later.grown d passed passed-there
        (passed-all (passes ds) (drop left first) (drop left second) (All-drop (passes ds) left first f) (All-drop (passes ds) left second g)))

  pub whole-made : Made most m first second net (with_sum most m first second net)
  whole-made =
      let now = IsThere (widths high.net.nodes) in
      record {
        later = high-made.later;
        width =
            omega (
              arith,
              length-append high.bits passed,
              high-made.width,
              first-long,
              length-passed_bits (drop left first) (drop left second) low-alike,
              length-drop left first,
              left-most,
            );
        there =
            All-append now high.bits passed high-made.there (grown-all_there net high.net high-made.later.grown passed passed-there);
        sum = whole-sum;
        narrow = high-made.narrow;
        passes = record {
          nodes = λ d f g. high-made.passes.nodes d (high-first d f g) (high-second d f g);
          bits = whole-bits;
        };
      }

  -- values that are those of the recipe
  pub sum-made : (n : ℕ) (made : Net) (bits all : List WordBit) → n ≡ left
      → made ≡ (with_places most m (take n first) (take n second) net).net
      → bits ≡ (with_places most m (take n first) (take n second) net).bits
      → all ≡ bits ++ passed_bits (drop n first) (drop n second) → Made most m first second net (record { net = made; bits = all })
  sum-made n made bits all e of_net of_bits of_all =
      let same : made ≡ high.net = of_net ∙ ap (λ k. (with_places most m (take k first) (take k second) net).net) e in
      let bits_same : bits ≡ high.bits = of_bits ∙ ap (λ k. (with_places most m (take k first) (take k second) net).bits) e in
      let all_same : all ≡ high.bits ++ passed =
      of_all ∙ ap (λ given. given ++ passed_bits (drop n first) (drop n second)) bits_same
      ∙ ap (λ k. high.bits ++ passed_bits (drop k first) (drop k second)) e in
      subst (λ (o : Net). Made most m first second net (record { net = o; bits = all })) (sym same)
      (subst (λ (given : List WordBit). Made most m first second net (record { net = high.net; bits = given })) (sym all_same) whole-made)
