-- Each whole number has a canonical form.
use Rattle.std.proofs.Common.{◌≡◌, ◌≢◌, ◌⊎◌, inl, inr, ⊎_elim, ℕ, zero, suc, ◌%◌, ◌/◌, ◌<◌, unsigned_abs, ℤ, pos, negsuc, ◌+ℤ◌, List, [], ◌∷◌, refl, sym, ◌∙◌, arith}
use Rattle.std.proofs.lemmas.Int.{ints}
use Rattle.std.proofs.lemmas.Bool.{cases_eq}
use Rattle.opgen_csd.specs.Digits.{IsDigit, value_of, IsCanonical}
use Rattle.opgen_csd.proofs.Recoding.{put_below}

halve : (n : ℤ) → (x : ℤ) × ((n ≡ x +ℤ x) ⊎ (n ≡ pos 1 +ℤ (x +ℤ x)))
halve (pos a) = (
  pos (a / 2),
  ⊎_elim (λ (e : a % 2 ≡ 0). inl (omega (arith, ints, e))) (λ (ne : a % 2 ≢ 0). inr (omega (arith, ints, ne)))
      (cases_eq (a % 2) 0),
)
halve (negsuc a) = (
  negsuc (a / 2),
  ⊎_elim (λ (e : a % 2 ≡ 0). inr (omega (arith, ints, e))) (λ (ne : a % 2 ≢ 0). inl (omega (
    arith,
    ints,
    ne,
  ))) (cases_eq (a % 2) 0),
)

-- a lowest digit and half of what stands above it, which is even where the digit is not zero
record Lowest (n : ℤ) : Type 0 where
  digit : ℤ
  half : ℤ
  is_digit : IsDigit digit
  sum : n ≡ digit +ℤ (half +ℤ half)
  even : digit ≢ pos 0 → (x : ℤ) × (half ≡ x +ℤ x)

odd_lowest : (n x : ℤ) → n ≡ pos 1 +ℤ (x +ℤ x) → (y : ℤ) × ((x ≡ y +ℤ y) ⊎ (x ≡ pos 1 +ℤ (y +ℤ y))) → Lowest n
odd_lowest n x e (y, inl h) = record {
  digit = pos 1;
  half = x;
  is_digit = (omega (arith, ints), omega (arith, ints));
  sum = e;
  even = λ _.
      (y, h);
}
odd_lowest n x e (y, inr h) = record {
  digit = negsuc 0;
  half = x +ℤ pos 1;
  is_digit = (omega (arith, ints), omega (arith, ints));
  sum = omega (arith, ints, e);
  even = λ _. (y +ℤ pos 1, omega (arith, ints, h));
}

lowest_from : (n : ℤ) → (x : ℤ) × ((n ≡ x +ℤ x) ⊎ (n ≡ pos 1 +ℤ (x +ℤ x))) → Lowest n
lowest_from n (x, inl e) = record {
  digit = pos 0;
  half = x;
  is_digit = (omega (arith, ints), omega (arith, ints));
  sum = omega (
    arith,
    ints,
    e,
  );
  even = λ ne. absurd (ne refl);
}
lowest_from n (x, inr e) = odd_lowest n x e (halve x)

zero_or_not : (n : ℤ) → (n ≡ pos 0) ⊎ (n ≢ pos 0)
zero_or_not (pos zero) = inl refl
zero_or_not (pos (suc n)) = inr (λ e. omega (arith, ints, e))
zero_or_not (negsuc n) = inr (λ e. omega (arith, ints, e))

smaller : (n d h : ℤ) → IsDigit d → n ≡ d +ℤ (h +ℤ h) → n ≢ pos 0 → (d ≢ pos 0 → (x : ℤ) × (h ≡ x +ℤ x)) → unsigned_abs h < unsigned_abs n
smaller n (pos zero) h hd e ne even = omega (arith, ints, e, ne)
smaller n (pos (suc m)) h hd e ne even = let x = even (λ z. omega (arith, ints, z)) in omega (arith, ints, hd, e, ne, x.1)
smaller n (negsuc m) h hd e ne even = let x = even (λ z. omega (arith, ints, z)) in omega (arith, ints, hd, e, ne, x.1)

form_within : (size : ℕ) (n : ℤ) → unsigned_abs n < size → (ds : List ℤ) × IsCanonical ds × (value_of ds ≡ n)
form_within zero n h = absurd (omega arith)
form_within (suc size) n h =
    ⊎_elim (λ (z : n ≡ pos 0). ([], tt, sym z))
    (λ (ne : n ≢ pos 0).
    let l = lowest_from n (halve n) in
    let less = smaller n l.digit l.half l.is_digit l.sum ne l.even in
    let (ds, canonical, value) = form_within size l.half (omega (arith, less, h)) in
    let sum : n ≡ l.digit +ℤ (value_of ds +ℤ value_of ds) = omega (arith, ints, l.sum, value) in
    (l.digit ∷ ds, put_below l.digit ds n ne l.is_digit canonical sum (λ some. let x = l.even some in (x.0, value ∙ x.1)), sym sum))
    (zero_or_not n)

pub some_form : (n : ℤ) → (ds : List ℤ) × IsCanonical ds × (value_of ds ≡ n)
some_form n = form_within (suc (unsigned_abs n)) n (omega arith)
