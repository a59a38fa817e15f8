-- The number that was found, by what parsing its text gives.
use Rattle.std.proofs.Common.{◌≡◌, ◌<◌, ◌^◌, ℕ, true, List, [], ◌∷◌, Option, Some, None, Result, Ok, Err, refl, inl, inr, arith, nat_lt}
use Rattle.std.specs.List.{list_all}
use Rattle.std.specs.Char.{digit_value}
use Rattle.std.specs.Option.{option_map_or}
use Rattle.std.specs.Str.Parse.{AllDigits, ParsesUnsigned, IsNumeral, digits_value, without_leading_plus}
use Rattle.std.proofs.lemmas.Bool.{cases_Bool, and_parts, lt-ltb, ltb-true}
use Rattle.std.proofs.lemmas.Bool.Decides.{nat_tests}
use Rattle.clap.specs.ValueTests.{is_numeral}
use Rattle.opgen_command.specs.Command.{number_in, within}

digits_back : (ds : List ℕ) → AllDigits 10 ds → list_all (λ d. nat_lt (digit_value d) 10) ds ≡ true
digits_back [] h = refl
digits_back (d ∷ ds) h = rw (lt-ltb (digit_value d) 10 h.0) (digits_back ds h.1)

digits_from : (ds : List ℕ) → list_all (λ d. nat_lt (digit_value d) 10) ds ≡ true → AllDigits 10 ds
digits_from [] e = tt
digits_from (d ∷ ds) e =
    let parts = and_parts (nat_lt (digit_value d) 10) (list_all (λ x. nat_lt (digit_value x) 10) ds) e in
    (ltb-true _ _ parts.0, digits_from ds parts.1)

numeral_back : (ds : List ℕ) → IsNumeral 10 ds → is_numeral ds ≡ true
numeral_back ds h = rw (lt-ltb _ _ h.0, digits_back ds h.1) refl

numeral_from : (ds : List ℕ) → is_numeral ds ≡ true → IsNumeral 10 ds
numeral_from ds e =
    let parts = and_parts _ (list_all (λ x. nat_lt (digit_value x) 10) ds) e in
    (ltb-true _ _ parts.0, digits_from ds parts.1)

-- nothing was found
pub none_found : (least most : ℕ) (default : Option ℕ) (found : Option (List ℕ)) → ((t : List ℕ) → found ≡ Some t → ⊥)
    → default ≡ option_map_or (number_in least most) found default
none_found least most default None none = refl
none_found least most default (Some text) none = absurd (none text refl)

module _ (least most : ℕ) (small : most < 2 ^ 32) where
  past_most : (n : ℕ) → most < n → None ≡ within least most n
  past_most n h = grind (arith, nat_tests)

  module _ (E : Type 0) where
    -- a text that parses gives its number, where that is in the range
    gives : (text : List ℕ) (n : ℕ) → ParsesUnsigned {E = E} 32 10 text (Ok n) → within least most n ≡ number_in least most text
    gives text n (numeral, is) = rw (numeral_back (without_leading_plus text) numeral.0, is) refl

    -- and one that does not parse gives none: its number is too large, if it has one
    gives_none : (text : List ℕ) (e : E) → ParsesUnsigned {E = E} 32 10 text (Err e) → None ≡ number_in least most text
    gives_none text e bad = elim (cases_Bool (is_numeral (without_leading_plus text))) [
      | inl digits ↦ rw digits (past_most (digits_value 10 (without_leading_plus text))
          (elim (cases_Bool (nat_lt (digits_value 10 (without_leading_plus text)) (2 ^ 32))) [
            | inl fits ↦ absurd (bad (numeral_from (without_leading_plus text) digits, ltb-true _ _ fits))
            | inr large ↦ grind (arith, nat_tests)
          ]))
      | inr other ↦ rw other refl
    ]

    -- by the text that was found, if there was one
    module _ (default : Option ℕ) where
      pub number_found : (found : Option (List ℕ)) (n : ℕ) → (found ≡ None → ◌≡◌ {A = Result (Option ℕ) E} (Ok (Some n)) (Ok None))
          → ((t : List ℕ) → found ≡ Some t → ParsesUnsigned {E = E} 32 10 t (Ok n))
          → within least most n ≡ option_map_or (number_in least most) found default
      number_found None n none some = let bad = none refl in cc
      number_found (Some text) n none some = gives text n (some text refl)

      pub no_number_found : (found : Option (List ℕ)) (e : E) → (found ≡ None → ◌≡◌ {A = Result (Option ℕ) E} (Err e) (Ok None))
          → ((t : List ℕ) → found ≡ Some t → ParsesUnsigned {E = E} 32 10 t (Err e))
          → None ≡ option_map_or (number_in least most) found default
      no_number_found None e none some = let bad = none refl in cc
      no_number_found (Some text) e none some = gives_none text e (some text refl)
