-- Names that are walked through, with those met before.
use Rattle.std.proofs.Common.{◌≡◌, ◌≢◌, ℕ, zero, suc, ◌+◌, ◌-◌, ◌<◌, ◌≤◌, ◌⊎◌, List, [], ◌∷◌, length, map, get_or, Option, Some, None, IfSome, Result, OnOk, IfErr, refl, sym, ap, ◌∙◌, subst, inl, inr, arith}
use Rattle.std.specs.Prelude.{slice_get, codes}
use Rattle.std.proofs.lemmas.Bool.{cases_lt}
use Rattle.std.proofs.lemmas.List.{length-append, length-map}
use Rattle.std.proofs.lemmas.Option.{slice_get-get_or, slice_get_within}
use Rattle.opgen_design.specs.declared.design.Design.{Design}
use Rattle.opgen_design.specs.declared.design.Port.{Port}
use Rattle.opgen_design.specs.declared.design.Signal.{Signal}
use Rattle.opgen_design.specs.declared.sound.SoundFault.{SoundFault}
use Rattle.opgen_design.specs.Rules.{HoldsBefore, IsFirstFailing, IsFaultAt, fault_at}
use Rattle.opgen_design.specs.declared.sound.Rule.TheVariants.{DeclaredTwice}
use Rattle.opgen_design.specs.Sound.{IsNewName, names_of, Place, at_design, at_port, at_signal, at_driver, item, Holds, PassesAt}
use Rattle.opgen_design.proofs.FirstFailing.{before-more, of-item}

pub unit-if : {X : Type 0} (o : Option X) → IfSome o (λ x. Unit {0})
unit-if None = tt
unit-if (Some x) = tt

pub names-length : (d : Design) → length (names_of d) ≡ length d.ports + length d.signals
names-length d =
    length-append (map (λ p. p.name) d.ports) (map (λ s. s.name) d.signals)
    ∙ ap (λ n. n + length (map (λ s. s.name) d.signals)) (length-map d.ports (λ p. p.name))
    ∙ ap (λ n. length d.ports + n) (length-map d.signals (λ s. s.name))

abbrev pub IsNew : List (List ℕ) → ℕ → List ℕ → Type 0
IsNew names i name = IsNewName names i

module _ (names : List (List ℕ)) (i : ℕ) (within : i < length names) (name : List ℕ) (is : name ≡ get_or names i [])
    (holds : HoldsBefore (IsNew names) names i) where
  at : slice_get names i ≡ Some (get_or names i [])
  at = slice_get-get_or names i [] within

  pub fails-if : (IsNewName names i → ⊥) → IsFirstFailing (IsNew names) names (Some i)
  fails-if never = (holds, within, λ h. never (of-item (IsNew names) names i (get_or names i []) at h))

  pub clock-fails : name ≡ codes "clk" → IsFirstFailing (IsNew names) names (Some i)
  clock-fails e = fails-if (λ h. h.not_clock (sym is ∙ e))

  pub met-fails : (j : ℕ) → j < i → get_or names j [] ≡ name → IsFirstFailing (IsNew names) names (Some i)
  met-fails j l e = fails-if (λ h. h.not_before j l (e ∙ is))

  pub new-holds : name ≢ codes "clk" → ((j : ℕ) → j < i → get_or names j [] ≢ name) → HoldsBefore (IsNew names) names (i + 1)
  new-holds clock before =
      before-more (IsNew names) names i (get_or names i []) at
      (record { not_clock = λ e. clock (is ∙ e); not_before = λ j l e. before j l (e ∙ sym is) }) holds

pub some-item : {X : Type 0} (xs : List X) (n : ℕ) → n < length xs → (x : X) × (slice_get xs n ≡ Some x)
some-item [] n l = absurd (omega (arith, l))
some-item (x ∷ xs) zero l = (x, refl)
some-item (x ∷ xs) (suc n) l = some-item xs n (omega (arith, l))

-- a rule on names that holds everywhere, and its fault
module _ (d : Design) where
  at_front : (i : ℕ) (o : Option Port) → slice_get d.ports i ≡ o → (i < length d.ports → IsNewName (names_of d) i)
      → IfSome o (λ p. IsNewName (names_of d) i)
  at_front i None e h = tt
  at_front i (Some p) e h = h (slice_get_within d.ports i p e)

  at_back : (i : ℕ) (o : Option Signal) → slice_get d.signals i ≡ o → (i < length d.signals → IsNewName (names_of d) (length d.ports + i))
      → IfSome o (λ s. IsNewName (names_of d) (length d.ports + i))
  at_back i None e h = tt
  at_back i (Some s) e h = h (slice_get_within d.signals i s e)

  name-at : (i : ℕ) → i < length (names_of d) → IfSome (slice_get (names_of d) i) (IsNew (names_of d) i) → IsNewName (names_of d) i
  name-at i l h = of-item (IsNew (names_of d)) (names_of d) i (get_or (names_of d) i []) (slice_get-get_or (names_of d) i [] l) h

  place-passes : (n : ℕ) → HoldsBefore (IsNew (names_of d)) (names_of d) n → (p : Place) → (item d p < n + 1 ⊎ (length (names_of d) ≤ n))
      → PassesAt d DeclaredTwice p
  place-passes n h at_design l = tt
  place-passes n h (at_port i) l = at_front i (slice_get d.ports i) refl
      (λ m. let q : i < length (names_of d) = omega (arith, m, names-length d) in name-at i q
      (h i (elim l [ inl a ↦ omega (arith, a) | inr b ↦ omega (arith, b, q) ])))
  place-passes n h (at_signal i) l = at_back i (slice_get d.signals i) refl
      (λ m. let q : length d.ports + i < length (names_of d) = omega (arith, m, names-length d) in name-at (length d.ports + i) q
      (h (length d.ports + i) (elim l [ inl a ↦ omega (arith, a) | inr b ↦ omega (arith, b, q) ])))
  place-passes n h (at_driver i) l = unit-if (slice_get d.drivers i)

  pub names-hold : IsFirstFailing (IsNew (names_of d)) (names_of d) None → Holds d DeclaredTwice
  names-hold h = λ p. place-passes (length (names_of d)) (λ i l. h i) p (inr (omega arith))

  some-port : (n : ℕ) → n < length d.ports → (p : Port) × (slice_get d.ports n ≡ Some p)
  some-port n l = some-item d.ports n l

  some-signal : (n : ℕ) → n < length d.signals → (s : Signal) × (slice_get d.signals n ≡ Some s)
  some-signal n l = some-item d.signals n l

  in-port : (n : ℕ) → n < length d.ports → PassesAt d DeclaredTwice (at_port n) → IsNewName (names_of d) n
  in-port n l h = of-item (λ i p. IsNewName (names_of d) i) d.ports n (some-port n l).0 (some-port n l).1 h

  in-signal : (n : ℕ) → n < length d.signals → PassesAt d DeclaredTwice (at_signal n) → IsNewName (names_of d) (length d.ports + n)
  in-signal n l h = of-item (λ i s. IsNewName (names_of d) (length d.ports + i)) d.signals n (some-signal n l).0 (some-signal n l).1 h

  name-place : (n : ℕ) → n < length (names_of d) → (IfSome (slice_get (names_of d) n) (IsNew (names_of d) n) → ⊥) → (p : Place)
      × (item d p ≡ 0 + n + 1) × (PassesAt d DeclaredTwice p → ⊥)
  name-place n l never =
      let fails : IsNewName (names_of d) n → ⊥ = λ h. never (subst (λ o. IfSome o (IsNew (names_of d) n)) (sym (slice_get-get_or
      (names_of d) n [] l)) h) in
      elim (cases_lt n (length d.ports)) [
        | inl m ↦
            (at_port n, omega arith, λ h. fails (in-port n m h))
        | inr m ↦
            let k : n - length d.ports < length d.signals = omega (arith, l, m, names-length d) in
            let e : length d.ports + (n - length d.ports) ≡ n = omega (arith, m) in (
              at_signal (n - length d.ports),
              omega (arith, m),
              λ h. fails (subst (IsNewName (names_of d)) e (in-signal (n - length d.ports) k h)),
            )
      ]

  pub names-fault : (o : Option ℕ) → IsFirstFailing (IsNew (names_of d)) (names_of d) o → (res : Result (Unit {0}) SoundFault) → res
      ≡ fault_at 2 0 o → IfErr res (IsFaultAt d DeclaredTwice)
  names-fault None h res e = subst (λ x. IfErr x (IsFaultAt d DeclaredTwice)) (sym e) tt
  names-fault (Some n) h res e =
      subst (λ x. IfErr x (IsFaultAt d DeclaredTwice)) (sym e)
      (refl, record { earlier = λ p l. place-passes n h.0 p (inl (omega (arith, l))); fails = name-place n h.1 h.2 })

  pub names-ok : (o : Option ℕ) → IsFirstFailing (IsNew (names_of d)) (names_of d) o → (res : Result (Unit {0}) SoundFault) → res
      ≡ fault_at 2 0 o → OnOk res (Holds d DeclaredTwice)
  names-ok None h res e = subst (λ x. OnOk x (Holds d DeclaredTwice)) (sym e) (names-hold h)
  names-ok (Some n) h res e = subst (λ x. OnOk x (Holds d DeclaredTwice)) (sym e) tt
