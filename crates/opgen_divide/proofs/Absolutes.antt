-- The nodes of the dividend and the divisor without their signs.
use Rattle.std.proofs.Common.{◌≡◌, ℕ, ◌+◌, ◌<◌, ◌≤◌, Bool, true, false, List, length, refl, sym, ap, ◌∙◌, arith}
use Rattle.std.specs.Prelude.{ℤ, pos, All, slice_index, unsigned_abs, if◌then◌else◌}
use Rattle.opgen_num.specs.declared.format.TheConstants.{MAX_WIDTH}
use Rattle.opgen_num.specs.declared.format.Format.{Format}
use Rattle.opgen_num.specs.Words.{int, val, nat}
use Rattle.opgen_design.specs.Run.{AreWords}
use Rattle.opgen_design.specs.Value.{IsWidth}
use Rattle.opgen_net.specs.declared.net.Net.{Net}
use Rattle.opgen_net.specs.Flow.{Inputs, flow}
use Rattle.opgen_net.specs.Placed.{Placed}
use Rattle.opgen_net.specs.Valid.{widths, input_widths, IsValid}
use Rattle.opgen_net.proofs.Grown.{grown-flow, grown-width}
use Rattle.opgen_net.proofs.Later.{Later, later-same, later-then, node_there, words-later}
use Rattle.opgen_kinds.specs.declared.pair.Pair.{Pair}
use Rattle.opgen_kinds.specs.Pair.{quotient_format}
use Rattle.opgen_divide.specs.Inputs.{HasInputs}
use Rattle.opgen_divide.specs.Recipe.{with_inputs, Magnitudes, magnitudes_of, with_magnitudes}
use Rattle.opgen_divide.specs.Sign.{with_absolute, HasAbsolute}
use Rattle.opgen_divide.proofs.Signed.{absolute-later, has_absolute}

-- the widths and signs of an accepted pair
pub record HasWidths (p : Pair) : Type 0 where
  pub some_a : 1 ≤ p.a.width
  pub some_b : 1 ≤ p.b.width
  pub few_a : p.a.width ≤ MAX_WIDTH
  pub few_b : p.b.width + 2 ≤ MAX_WIDTH
  pub few : (quotient_format p).width ≤ MAX_WIDTH
  pub alike : p.a.signed ≡ p.b.signed

-- the size of a word in a format
abbrev pub size : List Bool → Format → ℕ
size v f = unsigned_abs (val v f)

size-signed : (v : List Bool) (f : Format) → f.signed ≡ true → size v f ≡ unsigned_abs (int v)
size-signed v f e = ap (λ (c : Bool). unsigned_abs (if c then int v else pos (nat v))) e

size-unsigned : (v : List Bool) (f : Format) → f.signed ≡ false → size v f ≡ nat v
size-unsigned v f e = ap (λ (c : Bool). unsigned_abs (if c then int v else pos (nat v))) e

module _ (p : Pair) (have : HasWidths p) where
  abbrev pub start : Net
  start = with_inputs p

  abbrev pub AreFor : Net → Inputs → Type 0
  AreFor net inputs = All (AreWords (input_widths net)) inputs

  pub start-valid : IsValid start
  start-valid = record {
    nodes = ((have.some_a, have.few_a), ((have.some_b, omega (arith, have.few_b)), tt));
    inputs = refl;
    outputs = λ k d l. absurd (omega (arith, l));
  }

  pub start-inputs : HasInputs p start
  start-inputs = record {
    some_a = (have.some_a, have.few_a);
    some_b = (have.some_b, omega (arith, have.few_b));
    a = refl;
    b = refl;
  }

  -- nodes that have at every time the sizes of the inputs
  pub record AreMagnitudes (m : Magnitudes) : Type 0 where
    pub later : Later start m.net
    pub dividend : slice_index (widths m.net.nodes) m.dividend ≡ p.a.width
    pub divisor : slice_index (widths m.net.nodes) m.divisor ≡ p.b.width
    pub dividend-number :
        (inputs : Inputs) (t : ℤ) → AreFor start inputs
        → nat (flow m.net.nodes inputs m.dividend t) ≡ size (flow start.nodes inputs 0 t) p.a
    pub divisor-number :
        (inputs : Inputs) (t : ℤ) → AreFor start inputs
        → nat (flow m.net.nodes inputs m.divisor t) ≡ size (flow start.nodes inputs 1 t) p.b

  -- the absolute values
  abbrev a : Placed
  a = with_absolute 0 p.a.width start

  abbrev b : Placed
  b = with_absolute 1 p.b.width a.net

  wide_a : IsWidth p.a.width
  wide_a = (have.some_a, have.few_a)

  wide_b : IsWidth p.b.width
  wide_b = (have.some_b, omega (arith, have.few_b))

  pub a-later : Later start a.net
  a-later = absolute-later start 0 p.a.width start-valid wide_a refl

  has_a : HasAbsolute start 0 p.a.width a.net a.place
  has_a = has_absolute start 0 p.a.width start-valid wide_a refl

  a-there : a.place < length a.net.nodes
  a-there = node_there a.net a.place p.a.width have.some_a has_a.width

  pub second-wide : slice_index (widths a.net.nodes) 1 ≡ p.b.width
  second-wide = grown-width start a.net a-later.grown 1 (omega arith)

  b-later : Later a.net b.net
  b-later = absolute-later a.net 1 p.b.width a-later.valid wide_b second-wide

  has_b : HasAbsolute a.net 1 p.b.width b.net b.place
  has_b = has_absolute a.net 1 p.b.width a-later.valid wide_b second-wide

  are_of : (signed : Bool) → p.a.signed ≡ signed → AreMagnitudes (magnitudes_of signed p)
  are_of true e = record {
    later = later-then start a.net b.net a-later b-later;
    dividend = grown-width a.net b.net b-later.grown a.place a-there ∙ has_a.width;
    divisor = has_b.width;
    dividend-number = λ inputs t words.
        ap nat (grown-flow a.net b.net b-later.grown inputs a.place t a-there)
        ∙ has_a.number inputs t words
        ∙ sym (size-signed (flow start.nodes inputs 0 t) p.a e);
    divisor-number = λ inputs t words.
        has_b.number inputs t (words-later start a.net a-later inputs words)
        ∙ ap (λ v. unsigned_abs (int v)) (grown-flow start a.net a-later.grown inputs 1 t (omega arith))
        ∙ sym (size-signed (flow start.nodes inputs 1 t) p.b (sym have.alike ∙ e));
  }
  are_of false e = record {
    later = later-same start start-valid;
    dividend = refl;
    divisor = refl;
    dividend-number = λ inputs t words. sym (size-unsigned (flow start.nodes inputs 0 t) p.a e);
    divisor-number = λ inputs t words. sym (size-unsigned (flow start.nodes inputs 1 t) p.b (sym have.alike ∙ e));
  }

  pub are_magnitudes : AreMagnitudes (with_magnitudes p)
  are_magnitudes = are_of p.a.signed refl
