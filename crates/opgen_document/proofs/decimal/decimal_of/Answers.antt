use Rattle.std.proofs.Common.{◌≡◌, ◌≢◌, ℕ, ◌-◌, ◌≤◌, Bool, true, false, if◌then◌else◌, List, [], ◌∷◌, length, get_or, take, drop, refl, sym, ap, ◌∙◌, arith, rules}
use Rattle.std.specs.Bool.{◌==◌}
use Rattle.std.proofs.lemmas.Bool.Decides.{Decides-eqb}
use Rattle.std.proofs.lemmas.List.{take_all}
use Rattle.opgen_document.specs.Numbers.{decimal_of, unsigned_decimal}
use Rattle.opgen_document.proofs.decimal.decimal_of.Goals as goal

signed : (text : List ℕ) → 1 ≤ length text → get_or text 0 0 ≡ 45
    → decimal_of text ≡ unsigned_decimal true (take (length text - 1) (drop 1 text))
signed [] l e = absurd (omega (arith, l))
signed (first ∷ rest) l e =
    let whole : take (length (first ∷ rest) - 1) rest ≡ rest = take_all (length (first ∷ rest) - 1) rest (omega arith) in
    rw e (ap (λ body. unsigned_decimal true body) (sym whole))

otherwise : {A : Type 0} (b : Bool) → b ≢ true → (x y : A) → (if b then x else y) ≡ y
otherwise true h x y = absurd (h refl)
otherwise false h x y = refl

unsigned : (text : List ℕ) → 1 ≤ length text → get_or text 0 0 ≢ 45 → decimal_of text ≡ unsigned_decimal false text
unsigned [] l e = absurd (omega (arith, l))
unsigned (first ∷ rest) l e =
    otherwise (first == 45) (λ h. e ((Decides-eqb first 45).0 h)) (unsigned_decimal true rest) (unsigned_decimal false (first ∷ rest))

pub returns-in_default-clause-value : goal.returns-in_default-clause-value
returns-in_default-clause-value c =
    let other : get_or c.as_bytes.result.now 0 0 ≢ 45 = λ e. search rules in
    c.unsigned_decimal-in_default.ensures.value ∙ sym (unsigned c.as_bytes.result.now c.in_default.len_at_least other)
    ∙ ap decimal_of c.as_bytes.ensures.value

pub returns-in-45-clause-value : goal.returns-in-45-clause-value
returns-in-45-clause-value c =
    let minus : get_or c.as_bytes.result.now 0 0 ≡ 45 = omega arith in
    c.unsigned_decimal.ensures.value ∙ sym (signed c.as_bytes.result.now c.in-45.len_at_least minus)
    ∙ ap decimal_of c.as_bytes.ensures.value
