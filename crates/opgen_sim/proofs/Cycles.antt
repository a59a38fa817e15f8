-- Two cycles over the same inputs: where the registers up to a rank agree, so do the signals up to it, and the next words of the registers one rank further.
use Rattle.std.proofs.Common.{◌≡◌, ℕ, zero, suc, ◌<◌, ◌≤◌, Bool, List, Some, None, refl, sym, ap, ◌∙◌, arith, inl}
use Rattle.std.specs.Prelude.{Contains, slice_get}
use Rattle.opgen_design.specs.declared.design.Design.{Design}
use Rattle.opgen_design.specs.declared.design.Driver.{Driver}
use Rattle.opgen_design.specs.declared.design.Driver.TheVariants.{Register}
use Rattle.opgen_design.specs.Run.{Words, scope, moved, Cycle}
use Rattle.opgen_design.specs.Sound.{IsSound, Needs, target, Reads}
use Rattle.opgen_design.specs.declared.design.Target.TheVariants.{Port as port_of}
use Rattle.opgen_design.specs.Tree.{Tree}
use Rattle.opgen_design.specs.Value.{value, word_at}
use Rattle.opgen_design.proofs.SoundLaws.{at-contains}
use Rattle.opgen_runs.specs.Registers.{SameRegisters}
use Rattle.opgen_runs.proofs.TwoCycles.{ports-one, signal-one, tree-one, reads-inputs, meets}
use Rattle.opgen_design.specs.Depth.{CountRegisters}

-- two lists have the same words at the registers up to a rank
abbrev pub SameUpTo : Design → (rank : ℕ → ℕ) → (j : ℕ) → (now others : List (List Bool)) → Type 0
SameUpTo d rank j now others = (i to : ℕ) (e : Tree) → slice_get d.drivers i ≡ Some (Register to e) → rank to ≤ j
    → word_at now to ≡ word_at others to

-- what a driver needs in a cycle it reads
needs-reads : (k : Driver) (r : ℕ) → Needs r k → Reads r k
needs-reads (Register to e) r n = absurd n
needs-reads k r n = n

module _ (d : Design) (sound : IsSound d) (now others given : List (List Bool)) (v u : Words) (next after : List (List Bool))
    (h : Cycle d now given v next) (k : Cycle d others given u after) where
  module _ (rank : ℕ → ℕ) (ranks : CountRegisters d rank) (j : ℕ) (same : SameUpTo d rank j now others) where
    abbrev Before : ℕ → ℕ → Type 0
    Before n r = (sound.ordered.0 r < n) × (rank r ≤ j)

    signals-before : (n r : ℕ) → Before n r → word_at v.signals r ≡ word_at u.signals r
    signals-before zero r b = absurd (omega (arith, b.0))
    signals-before (suc n) r b =
        signal-one d sound now others given v u next after h k (Before n) (signals-before n) r
        (λ x c t q z. (
          omega (arith, b.0, sound.ordered.1 r q x c t z),
          omega (arith, b.1, ranks.reads r q x c t (needs-reads x q z)),
        ))
        (λ i e g. same i r e g b.1)

    pub signals-same : (r : ℕ) → rank r ≤ j → word_at v.signals r ≡ word_at u.signals r
    signals-same r l = signals-before (suc (sound.ordered.0 r)) r (omega arith, l)

    -- one rank further
    pub next-same : d.enable ≡ None → SameUpTo d rank (suc j) next after
    next-same free i to e g l =
        let c = at-contains d.drivers i (Register to e) g in
        let new : value (scope v) e ≡ value (scope u) e
        = tree-one d sound now others given v u next after h k (λ r. rank r ≤ j) signals-same e
        (reads-inputs d sound now others given v u next after h k i (Register to e) g).0
        (λ r z. omega (arith, l, ranks.reads to r (Register to e) c refl (inl z))) in
        (meets h i (Register to e) g).1
        ∙ ap (λ o. moved o v (value (scope v) e) (word_at now to)) free
        ∙ new
        ∙ ap (λ o. moved o u (value (scope u) e) (word_at others to)) (sym free)
        ∙ sym (meets k i (Register to e) g).1

    -- the ports, where the outputs read no signals of a higher rank
    pub ports-same : ((p r : ℕ) (x : Driver) → Contains d.drivers x → target x ≡ port_of p → Reads r x → rank r ≤ j) → v.ports ≡ u.ports
    ports-same shown =
        ports-one d sound now others given v u next after h k (λ r. rank r ≤ j) signals-same
        (λ p x c t r z. shown p r x c t (needs-reads x r z))

module _ (d : Design) (rank : ℕ → ℕ) (ranks : CountRegisters d rank) (now others : List (List Bool)) where
  -- no register has rank 0
  pub same-from-zero : SameUpTo d rank 0 now others
  same-from-zero i to e g l =
      absurd (omega (arith, l, ranks.registers to (Register to e) (at-contains d.drivers i (Register to e) g) refl))

-- from the highest rank on all registers agree
pub same-registers : (d : Design) (rank : ℕ → ℕ) (j : ℕ) (now others : List (List Bool)) → ((s : ℕ) → rank s ≤ j)
    → SameUpTo d rank j now others → SameRegisters d now others
same-registers d rank j now others most same i to e g = same i to e g (most to)
