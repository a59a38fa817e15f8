-- What a table's equation says of its word.
use Rattle.std.proofs.Common.{◌≡◌, ℕ, zero, suc, ◌+◌, ◌-◌, ◌^◌, ◌<◌, Bool, List, [], ◌∷◌, length, get_or, refl, sym, ap, ◌∙◌, subst, arith, inl, inr}
use Rattle.std.specs.Prelude.{All}
use Rattle.std.proofs.lemmas.Bool.{cases_lt}
use Rattle.opgen_num.specs.Words.{nat, word}
use Rattle.opgen_num.specs.WordLaws.{nat-word}
use Rattle.opgen_num.proofs.Words.{word-nat, nat-below}
use Rattle.opgen_design.specs.Value.{word_at}
use Rattle.opgen_design.specs.Run.{IsTableWord}
use Rattle.opgen_net.specs.Made.{addressed, last_row}

pub length-addressed : (w a : ℕ) (rows : List (List Bool)) → length (addressed w a rows) ≡ length rows - 1
length-addressed w a [] = refl
length-addressed w a (r ∷ []) = refl
length-addressed w a (r ∷ s ∷ rows) = omega (arith, length-addressed w (a + 1) (s ∷ rows))

get-addressed_on : (w a : ℕ) (rows : List (List Bool)) (k : ℕ) (d : List Bool × List Bool) → k + 1 < length rows
    → get_or (addressed w a rows) k d ≡ (word w (a + k), get_or rows k [])
get-addressed_on w a [] k d l = absurd (omega (arith, l))
get-addressed_on w a (r ∷ []) k d l = absurd (omega (arith, l))
get-addressed_on w a (r ∷ s ∷ rows) zero d l = let e : a ≡ a + 0 = omega arith in ap (λ i. (word w i, r)) e
get-addressed_on w a (r ∷ s ∷ rows) (suc k) d l =
    let e : a + 1 + k ≡ a + suc k = omega arith in
    get-addressed_on w (a + 1) (s ∷ rows) k d (omega (arith, l)) ∙ ap (λ i. (word w i, get_or (s ∷ rows) k [])) e

pub get-addressed : (w : ℕ) (rows : List (List Bool)) (k : ℕ) (d : List Bool × List Bool) → k + 1 < length rows
    → get_or (addressed w 0 rows) k d ≡ (word w k, get_or rows k [])
get-addressed w rows k d l = let e : 0 + k ≡ k = omega arith in get-addressed_on w 0 rows k d l ∙ ap (λ i. (word w i, get_or rows k [])) e

-- the row that the address numbers
pub table_word : (w : ℕ) (rows : List (List Bool)) (on given : List Bool) → length rows ≡ 2 ^ w → length on ≡ w
    → IsTableWord (addressed w 0 rows) (last_row rows) on given → given ≡ word_at rows (nat on)
table_word w rows on given long wide t =
    let below : nat on < length rows = omega (arith, nat-below on, ap (λ n. 2 ^ n) wide, long) in
    elim (cases_lt (nat on + 1) (length rows)) [
      | inl l ↦
          let here : word w (nat on) ≡ on = ap (λ n. word n (nat on)) (sym wide) ∙ word-nat on in
          let row = t.of_row (nat on) ([], []) (omega (arith, l, length-addressed w 0 rows)) in
          let at = get-addressed w rows (nat on) ([], []) l in
          (subst (λ r. r.0 ≡ on → given ≡ r.1) at row) here
      | inr l ↦
          let none : All (λ r. r.0 ≡ on → ⊥) (addressed w 0 rows) =
          λ k d m e.
          let small : k + 1 < length rows = omega (arith, m, length-addressed w 0 rows) in
          let same : word w k ≡ on = ap (λ r. r.0) (sym (get-addressed w rows k d small)) ∙ e in
          let number : k ≡ nat on = sym (nat-word w k (omega (arith, small, long))) ∙ ap nat same in
          omega (arith, number, small, l) in
          let e : length rows - 1 ≡ nat on = omega (arith, below, l) in
          t.of_none none ∙ ap (λ i. get_or rows i []) e
    ]

-- and the row that the address numbers meets the equation
pub is_table_word : (w : ℕ) (rows : List (List Bool)) (on given : List Bool) → length rows ≡ 2 ^ w → length on ≡ w
    → given ≡ word_at rows (nat on) → IsTableWord (addressed w 0 rows) (last_row rows) on given
is_table_word w rows on given long wide e =
    let below : nat on < length rows = omega (arith, nat-below on, ap (λ n. 2 ^ n) wide, long) in
    record {
      of_row = λ k d l same.
          let small : k + 1 < length rows = omega (arith, l, length-addressed w 0 rows) in
          let at = get-addressed w rows k d small in
          let number : k ≡ nat on = sym (nat-word w k (omega (arith, small, long))) ∙ ap nat (ap (λ r. r.0) (sym at) ∙ same) in
          e ∙ ap (λ i. get_or rows i []) (sym number) ∙ ap (λ r. r.1) (sym at);
      of_none = λ none.
          elim (cases_lt (nat on + 1) (length rows)) [
            | inl l ↦
                let at = get-addressed w rows (nat on) ([], []) l in
                let here : word w (nat on) ≡ on = ap (λ n. word n (nat on)) (sym wide) ∙ word-nat on in
                absurd (none (nat on) ([], []) (omega (arith, l, length-addressed w 0 rows)) (ap (λ r. r.0) at ∙ here))
            | inr l ↦ let last : nat on ≡ length rows - 1 = omega (arith, below, l) in e ∙ ap (λ i. get_or rows i []) last
          ];
    }
