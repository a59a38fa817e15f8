-- Signals of which none depends on itself are numbered: each by how many signals it depends on.
use Rattle.std.proofs.Common.{◌≡◌, ℕ, zero, suc, ◌<◌, ◌⊎◌, List, [], ◌∷◌, ◌++◌, length, get_or, refl, sym, ◌∙◌, subst, inl, inr, arith}
use Rattle.std.specs.Prelude.{Contains}
use Rattle.std.proofs.lemmas.Bool.{cases_eq, cases_lt}
use Rattle.std.proofs.lemmas.List.{length_push, get_or_append_left, get_or_push, get_or_past}
use Rattle.opgen_design.specs.declared.design.Design.{Design}
use Rattle.opgen_design.specs.declared.design.Driver.{Driver}
use Rattle.opgen_design.specs.declared.design.Target.TheVariants.{Signal as signal}
use Rattle.opgen_design.specs.declared.sound.Rule.TheVariants.{Undeclared, Cyclic}
use Rattle.opgen_design.specs.Sound.{target, Needs, Names, IsOffCycles, IsOrdered, DependsOn, at_once, through, Holds, DriverPasses, at_driver}
use Rattle.opgen_design.proofs.FirstFailing.{of-item}
use Rattle.opgen_design.proofs.SoundLaws.{contains-at, declared-in}
use Rattle.opgen_laws.proofs.Counting.{IsCount, some_count, no_count, fewer}

-- where each number has one that goes with it, the numbers below a bound have a list of such ones
module _ (R : ℕ → ℕ → Type 0) (some : (s : ℕ) → ((c : ℕ) → R s c → ⊥) → ⊥) where
  one_more : (n c : ℕ) (cs : List ℕ) → length cs ≡ n → ((s : ℕ) → s < n → R s (get_or cs s 0)) → R n c
      → (s : ℕ) → s < suc n → R s (get_or (cs ++ c ∷ []) s 0)
  one_more n c cs long each r s l = elim (cases_eq s n) [
    | inl e ↦ subst (R s) (sym (get_or_push cs c 0 s (long ∙ sym e))) (subst (λ x. R x c) (sym e) r)
    | inr e ↦
        let below : s < n = omega (arith, l, e) in
        let within : s < length cs = omega (arith, below, long) in
        subst (R s) (sym (get_or_append_left cs (c ∷ []) 0 s within)) (each s below)
  ]

  some_numbers : (n : ℕ) → ((cs : List ℕ) → length cs ≡ n → ((s : ℕ) → s < n → R s (get_or cs s 0)) → ⊥) → ⊥
  some_numbers zero none = none [] refl (λ s l. absurd (omega (arith, l)))
  some_numbers (suc n) none = some_numbers n (λ cs long each. some n (λ c r.
      none (cs ++ c ∷ []) (omega (arith, length_push cs c, long)) (one_more n c cs long each r)))

-- a signal itself, and what it depends on
abbrev Reaches : Design → ℕ → ℕ → Type 0
Reaches d s q = (q ≡ s) ⊎ DependsOn d s q

onward : (d : Design) (s r : ℕ) → DependsOn d s r → (q : ℕ) → Reaches d r q → Reaches d s q
onward d s r step q (inl e) = inr (subst (λ x. DependsOn d s x) (sym e) step)
onward d s r step q (inr p) = inr (through step p)

not_back : (d : Design) (s r : ℕ) → (DependsOn d s s → ⊥) → DependsOn d s r → Reaches d r s → ⊥
not_back d s r off step (inl e) = off (subst (λ x. DependsOn d s x) (sym e) step)
not_back d s r off step (inr p) = off (through step p)

module _ (d : Design) (declared : Holds d Undeclared) (cyclic : Holds d Cyclic) where
  off_cycles : (k : Driver) → Contains d.drivers k → IsOffCycles d k
  off_cycles k c =
      let a = contains-at d.drivers k c in of-item (DriverPasses d Cyclic) d.drivers a.0 k a.1 (cyclic (at_driver a.0))

  module _ (counts : List ℕ) (long : length counts ≡ length d.signals)
      (each : (s : ℕ) → s < length d.signals → IsCount (Reaches d s) (length d.signals) (get_or counts s 0)) where
    falls : (s r : ℕ) (k : Driver) → Contains d.drivers k → target k ≡ signal s → Needs r k → get_or counts r 0 < get_or counts s 0
    falls s r k c t need =
        let n = length d.signals in
        let here : s < length d.signals = subst (Names d) t (declared-in d declared k c).target in
        let step : DependsOn d s r = at_once k c t need in
        elim (cases_lt r n) [
          | inl there ↦
              fewer (Reaches d r) (Reaches d s) (onward d s r step) s (inl refl) (not_back d s r (off_cycles k c s t) step) n
              (get_or counts r 0) (get_or counts s 0) here (each r there) (each s here)
          | inr past ↦
              let none : get_or counts r 0 ≡ 0 = get_or_past counts r 0 (omega (arith, past, long)) in
              let some : 0 < get_or counts s 0 =
              fewer (λ q. ⊥) (Reaches d s) (λ q h. absurd h) s (inl refl) (λ h. h) n 0 (get_or counts s 0) here (no_count n)
              (each s here) in
              omega (arith, none, some)
        ]

  pub ordered : (IsOrdered d → ⊥) → ⊥
  ordered none =
      let n = length d.signals in
      some_numbers (λ s c. IsCount (Reaches d s) n c) (λ s. some_count (Reaches d s) n) n
      (λ counts long each. none ((λ s. get_or counts s 0), falls counts long each))
