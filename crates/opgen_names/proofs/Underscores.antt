-- Where the underscores of a name stand, by the tests of specs/Names.antt and by the parts that the text is made of.
use Rattle.std.proofs.Common.{◌≡◌, ℕ, List, [], ◌∷◌, ◌++◌, true, ◌&&◌, inl, inr, refl, ap, ◌∙◌}
use Rattle.std.proofs.lemmas.Bool.{and_parts, eqb-true, or_cases}
use Rattle.std.proofs.Math.Bool.{or-true}
use Rattle.std.specs.Str.Iter.{HasSubslice}
use Rattle.opgen_names.specs.Names.{is_underscore, ends_with_underscore, has_double_underscore}

abbrev pub EndsInUnderscore : List ℕ → Type 0
EndsInUnderscore name = (front : List ℕ) × (name ≡ front ++ (95 ∷ []))

ends-append : (front : List ℕ) → ends_with_underscore (front ++ (95 ∷ [])) ≡ true
ends-append [] = refl
ends-append (c ∷ []) = refl
ends-append (c ∷ d ∷ cs) = ends-append (d ∷ cs)

pub ends_joined : (name : List ℕ) → EndsInUnderscore name → ends_with_underscore name ≡ true
ends_joined name (front, same) = ap ends_with_underscore same ∙ ends-append front

pub ends_split : (name : List ℕ) → ends_with_underscore name ≡ true → EndsInUnderscore name
ends_split [] h = cc
ends_split (c ∷ []) h = ([], ap (λ x. x ∷ []) (eqb-true c 95 h))
ends_split (c ∷ d ∷ cs) h =
    let (front, same) = ends_split (d ∷ cs) h in
    (c ∷ front, ap (λ xs. c ∷ xs) same)

double-append : (a b : List ℕ) → has_double_underscore (a ++ (95 ∷ 95 ∷ b)) ≡ true
double-append [] b = refl
double-append (c ∷ []) b = or-true (is_underscore c && true)
double-append (c ∷ d ∷ a) b = rw (double-append (d ∷ a) b) (or-true (is_underscore c && is_underscore d))

pub double_joined : (name : List ℕ) → HasSubslice name (95 ∷ 95 ∷ []) → has_double_underscore name ≡ true
double_joined name (a, b, same) = ap has_double_underscore same ∙ double-append a b

double_here : (c d : ℕ) (cs : List ℕ) → (is_underscore c && is_underscore d) ≡ true → HasSubslice (c ∷ d ∷ cs) (95 ∷ 95 ∷ [])
double_here c d cs h =
    let (first, second) = and_parts (is_underscore c) (is_underscore d) h in
    let left : c ≡ 95 = eqb-true c 95 first in
    let right : d ≡ 95 = eqb-true d 95 second in
    ([], cs, cc)

pub double_split : (name : List ℕ) → has_double_underscore name ≡ true → HasSubslice name (95 ∷ 95 ∷ [])
double_split [] h = cc
double_split (c ∷ []) h = cc
double_split (c ∷ d ∷ cs) h =
    elim (or_cases _ _ h) [
      | inl here ↦ double_here c d cs here
      | inr later ↦ let (a, b, same) = double_split (d ∷ cs) later in (c ∷ a, b, ap (λ xs. c ∷ xs) same)
    ]
