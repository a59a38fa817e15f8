-- The first form, and then the least shift, that makes a number of two others.
use Rattle.std.proofs.Common.{◌≡◌, ◌⊎◌, inl, inr, ⊎_elim, ℕ, zero, suc, ◌+◌, ◌-◌, ◌*◌, ◌^◌, ◌≤◌, ◌<◌, ◌%◌, refl, sym, arith, ap, ◌∙◌}
use Rattle.std.specs.Int.{abs_diff}
use Rattle.std.proofs.lemmas.Bool.{cases_lt}
use Rattle.opgen_graph.specs.declared.forms.Form.{Form}
use Rattle.opgen_graph.specs.declared.forms.Form.TheVariants.{A, B, C, D, E}
use Rattle.opgen_graph.specs.Adders.{Makes, Comb, IsNotAfter, IsFirstStep, place}
use Rattle.opgen_graph.proofs.Powers.{twice}

-- no shift makes one number of another
abbrev pub IsNever : (odd even : ℕ) → Type 0
IsNever odd even = (i : ℕ) → 2 ^ i * odd ≡ even → ⊥

-- this shift alone makes it
abbrev pub IsOnly : (odd even i : ℕ) → Type 0
IsOnly odd even i = (1 ≤ i) × (2 ^ i * odd ≡ even) × ((j : ℕ) → 2 ^ j * odd ≡ even → j ≡ i)

-- an odd number times a power of two is not 0
some_product : (i u : ℕ) → u % 2 ≡ 1 → 2 ^ i * u ≡ 0 → ⊥
some_product zero u odd e = omega arith
some_product (suc i) u odd e = some_product i u odd (omega (arith, twice i u, e))

module _ (u v f : ℕ) where
  -- the difference that form E makes, either way
  apart : (p : ℕ) → p ≡ abs_diff u v → (u ≡ v + p) ⊎ (v ≡ u + p)
  apart p e = ⊎_elim (λ (lt : u < v). inr (omega (arith, lt, e))) (λ (ge : v ≤ u). inl (omega (arith, ge, e))) (cases_lt u v)

  difference : (p : ℕ) → (u ≡ v + p) ⊎ (v ≡ u + p) → p ≡ abs_diff u v
  difference p (inl e) = omega (arith, e)
  difference p (inr e) = omega (arith, e)

  not_a : IsNever u (f - v) → (i : ℕ) → Makes A i u v f → ⊥
  not_a never i m = never i (omega (arith, m))

  not_c : IsNever u (v - f) → (i : ℕ) → Makes C i u v f → ⊥
  not_c never i m = never i (omega (arith, m))

  -- the first step, where these forms do not make the number and this one does
  pub first_a : u % 2 ≡ 1 → (i : ℕ) → IsOnly u (f - v) i → IsFirstStep u v f (record { form = A; shift = i })
  first_a odd i h = record { shifted = h.0; makes = omega (arith, h.1, some_product i u odd); first = first }
    where
      first : (form : Form) (j : ℕ) → 1 ≤ j → Makes form j u v f → IsNotAfter (record { form = A; shift = i }) form j
      first A j l m = inr (refl, omega (arith, h.2 j (omega (arith, m))))
      first B j l m = inl (omega arith)
      first C j l m = inl (omega arith)
      first D j l m = inl (omega arith)
      first E j l m = inl (omega arith)

  pub first_b : IsNever u (f - v) → (i : ℕ) → IsOnly u (f + v) i → IsFirstStep u v f (record { form = B; shift = i })
  first_b a i h = record { shifted = h.0; makes = h.1; first = first }
    where
      first : (form : Form) (j : ℕ) → 1 ≤ j → Makes form j u v f → IsNotAfter (record { form = B; shift = i }) form j
      first A j l m = absurd (not_a a j m)
      first B j l m = inr (refl, omega (arith, h.2 j m))
      first C j l m = inl (omega arith)
      first D j l m = inl (omega arith)
      first E j l m = inl (omega arith)

  pub first_c : u % 2 ≡ 1 → IsNever u (f - v) → IsNever u (f + v) → (i : ℕ) → IsOnly u (v - f) i
      → IsFirstStep u v f (record { form = C; shift = i })
  first_c odd a b i h = record { shifted = h.0; makes = omega (arith, h.1, some_product i u odd); first = first }
    where
      first : (form : Form) (j : ℕ) → 1 ≤ j → Makes form j u v f → IsNotAfter (record { form = C; shift = i }) form j
      first A j l m = absurd (not_a a j m)
      first B j l m = absurd (b j m)
      first C j l m = inr (refl, omega (arith, h.2 j (omega (arith, m))))
      first D j l m = inl (omega arith)
      first E j l m = inl (omega arith)

  pub first_d : IsNever u (f - v) → IsNever u (f + v) → IsNever u (v - f) → (i : ℕ) → IsOnly f (u + v) i
      → IsFirstStep u v f (record { form = D; shift = i })
  first_d a b c i h = record { shifted = h.0; makes = sym h.1; first = first }
    where
      first : (form : Form) (j : ℕ) → 1 ≤ j → Makes form j u v f → IsNotAfter (record { form = D; shift = i }) form j
      first A j l m = absurd (not_a a j m)
      first B j l m = absurd (b j m)
      first C j l m = absurd (not_c c j m)
      first D j l m = inr (refl, omega (arith, h.2 j (sym m)))
      first E j l m = inl (omega arith)

  pub first_e : IsNever u (f - v) → IsNever u (f + v) → IsNever u (v - f) → IsNever f (u + v) → (i : ℕ) → IsOnly f (abs_diff u v) i
      → IsFirstStep u v f (record { form = E; shift = i })
  first_e a b c d i h = record { shifted = h.0; makes = apart (2 ^ i * f) h.1; first = first }
    where
      first : (form : Form) (j : ℕ) → 1 ≤ j → Makes form j u v f → IsNotAfter (record { form = E; shift = i }) form j
      first A j l m = absurd (not_a a j m)
      first B j l m = absurd (b j m)
      first C j l m = absurd (not_c c j m)
      first D j l m = absurd (d j (sym m))
      first E j l m = inr (refl, omega (arith, h.2 j (difference (2 ^ j * f) m)))

  -- where none of the five makes the number, no step does
  pub no_step : IsNever u (f - v) → IsNever u (f + v) → IsNever u (v - f) → IsNever f (u + v) → IsNever f (abs_diff u v) → Comb u v f → ⊥
  no_step a b c d e (A, j, l, m) = not_a a j m
  no_step a b c d e (B, j, l, m) = b j m
  no_step a b c d e (C, j, l, m) = not_c c j m
  no_step a b c d e (D, j, l, m) = d j (sym m)
  no_step a b c d e (E, j, l, m) = e j (difference (2 ^ j * f) m)

-- the form at a place
abbrev form_at : ℕ → Form
form_at zero = A
form_at (suc zero) = B
form_at (suc (suc zero)) = C
form_at (suc (suc (suc zero))) = D
form_at (suc (suc (suc (suc n)))) = E

form_back : (f : Form) → form_at (place f) ≡ f
form_back A = refl
form_back B = refl
form_back C = refl
form_back D = refl
form_back E = refl

pub same_form : (f g : Form) → place f ≡ place g → f ≡ g
same_form f g e = sym (form_back f) ∙ ap form_at e ∙ form_back g
