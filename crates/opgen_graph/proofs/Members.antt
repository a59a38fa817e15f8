-- Membership in lists of numbers.
use Rattle.std.proofs.Common.{◌≡◌, ◌≢◌, ◌⊎◌, inl, inr, ⊎_elim, ℕ, List, [], ◌∷◌, ◌++◌, get_or, All, Contains, sym, subst, ◌∙◌}
use Rattle.std.proofs.lemmas.Grind.{get_or_default_zero}
use Rattle.std.proofs.lemmas.Bool.{cases_eq}
use Rattle.std.proofs.lemmas.List.Elements.{All-weaker, All-contains_itself, Contains-append_left, Contains-append_right, Contains-append_cases}
pub use Rattle.opgen_csd.proofs.Members.{here, there, of_cons, of_nil}
pub use Rattle.opgen_design.proofs.UseLaws.{one_contains as of_one}

-- the number at an index
pub read : (xs : List ℕ) (x : ℕ) → (c : Contains xs x) → get_or xs c.0 0 ≡ x
read xs x c = sym (get_or_default_zero xs c.0 x c.1) ∙ c.2

-- each member of one list stands in the other
abbrev pub Within : List ℕ → List ℕ → Type 0
Within xs ys = (x : ℕ) → Contains xs x → Contains ys x

pub wider : (p q r : List ℕ) → Within p q → Within (p ++ r) (q ++ r)
wider p q r w x c = ⊎_elim (λ (k : Contains p x). Contains-append_left q r x (w x k))
    (λ (k : Contains r x). Contains-append_right q r x k) (Contains-append_cases p r x c)

pub within_more : (p q : List ℕ) (f : ℕ) → Within p q → Contains q f → Within (p ++ f ∷ []) q
within_more p q f w c y h = ⊎_elim (λ (k : Contains p y). w y k) (λ (k : Contains (f ∷ []) y). subst (Contains q) (of_one f y k) c)
    (Contains-append_cases p (f ∷ []) y h)

pub all_of : (P : ℕ → Type 0) (xs : List ℕ) → ((x : ℕ) → Contains xs x → P x) → All P xs
all_of P xs h = All-weaker (Contains xs) P h xs (All-contains_itself xs)

pub is_in : (xs : List ℕ) (x : ℕ) → Contains xs x ⊎ (Contains xs x → ⊥)
is_in [] x = inr (of_nil x)
is_in (y ∷ ys) x =
    ⊎_elim (λ (e : y ≡ x). inl (subst (Contains (y ∷ ys)) e (here y ys)))
    (λ (ne : y ≢ x). ⊎_elim (λ (k : Contains ys x). inl (there y x ys k))
    (λ (no : Contains ys x → ⊥). inr (λ c. ⊎_elim ne no (of_cons y x ys c))) (is_in ys x))
    (cases_eq y x)
