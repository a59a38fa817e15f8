-- The words of drivers in a stream.
use Rattle.std.proofs.Common.{◌≡◌, ℕ, zero, suc, ◌<◌, ◌≤◌, Bool, true, false, if◌then◌else◌, List, [], ◌∷◌, length, take, get_or, Some, refl, sym, ap, ◌∙◌, subst, arith}
use Rattle.std.specs.Prelude.{IsSome, slice_get}
use Rattle.std.proofs.lemmas.List.{length-map, get_or-map}
use Rattle.std.proofs.Math.Seq.{take-nil}
use Rattle.opgen_streams.proofs.Rows.{length-words_in}
use Rattle.opgen_num.specs.declared.format.TheConstants.{MAX_WIDTH}
use Rattle.opgen_design.specs.declared.design.Design.{Design}
use Rattle.opgen_design.specs.declared.design.Driver.{Driver}
use Rattle.opgen_design.specs.declared.design.Driver.TheVariants.{Assign, Choice, Table, Register, Output}
use Rattle.opgen_design.specs.Run.{scope}
use Rattle.opgen_design.specs.declared.design.Target.{Target}
use Rattle.opgen_design.specs.declared.design.Target.TheVariants.{Signal as signal, Port as port_of}
use Rattle.opgen_design.specs.Sound.{IsSound, HasWidth, WidthsAgree, target, signal_widths, port_widths}
use Rattle.opgen_design.specs.Tree.{Tree}
use Rattle.opgen_design.specs.Value.{chosen, width}
use Rattle.opgen_design.proofs.WidthLaws.{some_width}
use Rattle.opgen_runs.proofs.Widths.{declared-there, narrow, width_of, word-length}
use Rattle.opgen_runs.specs.Evaluate.{HaveWidths, IsThere, driver_word}
use Rattle.opgen_streams.specs.Streams.{bit_in, word_in}
use Rattle.opgen_lanes.specs.declared.bank.Bank.{Bank}
use Rattle.opgen_lanes.specs.Banks.{stream_words, width_at, widths_of}
use Rattle.opgen_lanes.specs.Ready.{AreBanksOf}
use Rattle.opgen_lanes.proofs.Fits.{narrow-of}
use Rattle.opgen_lanes.proofs.Places.{words-widths}

-- a choice by a bit
chosen-bit : (b : Bool) (first second : List Bool) → (if b then first else second) ≡ chosen (b ∷ []) first second
chosen-bit true first second = refl
chosen-bit false first second = refl

pub chosen-in : (out : List (List ℕ)) (k : ℕ) (on first second : List Bool) → 1 ≤ length out → word_in (take 1 out) k ≡ on
    → (if bit_in (get_or out 0 []) k then first else second) ≡ chosen on first second
chosen-in [] k on first second l e = absurd (omega (arith, l))
chosen-in (v ∷ out) k on first second l e = chosen-bit (bit_in v k) first second ∙ ap (λ w. chosen w first second) e

pub signal-there : (signals ports : Bank) (t : Target) (s : ℕ) → t ≡ signal s → IsThere (stream_words signals ports 0) t
    → s < length signals.places.items
signal-there signals ports t s e h =
    let l : s < length (stream_words signals ports 0).signals = subst (IsThere (stream_words signals ports 0)) e h in
    omega (arith, l, length-words_in (widths_of signals) signals.vectors.items 0, length-map signals.places.items (λ p. p.width))

pub port-there : (signals ports : Bank) (t : Target) (p : ℕ) → t ≡ port_of p → IsThere (stream_words signals ports 0) t
    → p < length ports.places.items
port-there signals ports t p e h =
    let l : p < length (stream_words signals ports 0).ports = subst (IsThere (stream_words signals ports 0)) e h in
    omega (arith, l, length-words_in (widths_of ports) ports.vectors.items 0, length-map ports.places.items (λ p. p.width))

-- expressions of a design over its banks
module _ (d : Design) (signals ports : Bank) (h : AreBanksOf d signals ports) where
  pub has-width : (e f : Tree) (w : ℕ) → e ≡ f → HasWidth d f w → width (widths_of signals) (widths_of ports) e ≡ Some w
  has-width e f w is k =
      ap (λ ns. width ns (widths_of ports) e) h.signal_widths
      ∙ ap (λ ps. width (signal_widths d) ps e) h.port_widths
      ∙ ap (width (signal_widths d) (port_widths d)) is
      ∙ k

  pub has-some : (e f : Tree) → e ≡ f → IsSome (width (signal_widths d) (port_widths d) f)
      → IsSome (width (widths_of signals) (widths_of ports) e)
  has-some e f is k =
      let w = some_width (width (signal_widths d) (port_widths d) f) k in
      subst IsSome (sym (has-width e f w.0 is w.1)) refl

  pub fits-width : (e f : Tree) (w : ℕ) → e ≡ f → HasWidth d f w → IsSome (width (widths_of signals) (widths_of ports) e)
  fits-width e f w is k = subst IsSome (sym (has-width e f w is k)) refl

  -- a word for each signal and port in each stream
  pub have-widths : (k : ℕ) → HaveWidths d (stream_words signals ports k)
  have-widths k = record {
    signals = words-widths (widths_of signals) signals.vectors.items k (omega (arith, h.signals.room)) ∙ h.signal_widths;
    ports = words-widths (widths_of ports) ports.vectors.items k (omega (arith, h.ports.room)) ∙ h.port_widths;
  }

  module _ (sound : IsSound d) where
    pub there-at : (i : ℕ) (k : Driver) → slice_get d.drivers i ≡ Some k → IsThere (stream_words signals ports 0) (target k)
    there-at = declared-there d sound (stream_words signals ports 0) (have-widths 0)

    signal-narrow : (s : ℕ) → s < length (stream_words signals ports 0).signals → get_or (signal_widths d) s 0 ≤ MAX_WIDTH
    signal-narrow s l =
        let n = narrow d sound (stream_words signals ports 0) (have-widths 0) s [] l in
        let e : get_or (signal_widths d) s 0 ≡ length (get_or (stream_words signals ports 0).signals s []) =
        ap (λ ws. get_or ws s 0) (sym (have-widths 0).signals)
        ∙ get_or-map length (stream_words signals ports 0).signals s [] 0 l in
        omega (arith, n, e)

    -- what is driven is no wider than a signal may be
    pub target-narrow : (k : Driver) → IsThere (stream_words signals ports 0) (target k) → WidthsAgree d k
        → width_at signals ports (target k) ≤ MAX_WIDTH
    target-narrow (Assign to e) l a = omega (arith, signal-narrow to l, ap (λ ws. get_or ws to 0) h.signal_widths)
    target-narrow (Choice to on one other) l a = omega (arith, signal-narrow to l, ap (λ ws. get_or ws to 0) h.signal_widths)
    target-narrow (Table to on rows other) l a = omega (arith, signal-narrow to l, ap (λ ws. get_or ws to 0) h.signal_widths)
    target-narrow (Register to e) l a = omega (arith, signal-narrow to l, ap (λ ws. get_or ws to 0) h.signal_widths)
    target-narrow (Output place e) l a = omega (
      arith,
      narrow-of (signal_widths d) (port_widths d) e (get_or (port_widths d) place 0) a,
      ap (λ ws. get_or ws place 0) h.port_widths,
    )

    pub other-narrow : (to : ℕ) (other : List Bool) → length other ≡ get_or (signal_widths d) to 0
        → to < length (stream_words signals ports 0).signals → length other ≤ MAX_WIDTH
    other-narrow to other e l = omega (arith, signal-narrow to l, e)

-- the first so many vectors, by how many they are
pub same-take : (r w : ℕ) (xs : List (List ℕ)) → length (take r xs) ≡ w → take w xs ≡ take r xs
same-take zero w xs e = ap (λ n. take n xs) (sym e)
same-take (suc r) w [] e = take-nil w
same-take (suc r) zero (x ∷ xs) e = absurd (omega (arith, e))
same-take (suc r) (suc w) (x ∷ xs) e = ap (λ ys. x ∷ ys) (same-take r w xs (omega (arith, e)))

module _ (d : Design) (signals ports : Bank) (h : AreBanksOf d signals ports) (sound : IsSound d) where
  width-there : (k : ℕ) (t : Target) → width_of d sound (stream_words signals ports k) (have-widths d signals ports h k) t
      ≡ width_at signals ports t
  width-there k (signal s) = ap (λ ws. get_or ws s 0) (sym h.signal_widths)
  width-there k (port_of p) = ap (λ ws. get_or ws p 0) (sym h.port_widths)

  -- as many vectors as what is driven has bits
  pub driven-word : (m : Driver) → WidthsAgree d m → (r : ℕ) (out : List (List ℕ)) (k : ℕ)
      → word_in (take r out) k ≡ driver_word (scope (stream_words signals ports k)) m
      → word_in (take (width_at signals ports (target m)) out) k ≡ driver_word (scope (stream_words signals ports k)) m
  driven-word m a r out k e =
      let v = stream_words signals ports k in
      let w = have-widths d signals ports h k in
      let n : length (take r out) ≡ width_at signals ports (target m) = sym (length-map (take r out) (λ x. bit_in x k)) ∙ ap length e
      ∙ word-length d sound v w m a ∙ width-there k (target m) in
      ap (λ xs. word_in xs k) (same-take r (width_at signals ports (target m)) out n) ∙ e
