-- Tables that stand among numbers.
use Rattle.std.proofs.Common.{◌≡◌, ℕ, ◌+◌, ◌^◌, ◌<◌, ◌≤◌, Bool, true, false, List, [], ◌∷◌, ◌++◌, length, take, drop, get_or, Some, refl, sym, ap, ◌∙◌, subst, inl, inr, arith}
use Rattle.std.specs.Prelude.{nat_eq, slice_set, unwrap_or}
use Rattle.std.proofs.lemmas.Bool.{cond-true, cond-false, cases_eq, eqb-false, eqb-true}
use Rattle.std.proofs.lemmas.List.{drop_more, take_more, get_or-set_same, get_or-set_other}
use Rattle.std.proofs.lemmas.Option.{slice_get-get_or}
use Rattle.std.proofs.lemmas.Slice.Zip.{all_zipped_more}
use Rattle.std.proofs.Math.Nat.{pow-le-pow_right}
use Rattle.opgen_num.specs.Words.{nat}
use Rattle.opgen_num.proofs.Words.{nat-below}
use Rattle.opgen_design.specs.declared.design.Driver.{Driver}
use Rattle.opgen_design.specs.declared.design.Driver.TheVariants.{Assign, Choice, Table, Register, Output}
use Rattle.opgen_runs.specs.Tables.{Row, row_word}
use Rattle.opgen_machine.specs.Laid.{AreLaid, FitRows, Grown, IsLaid, number_at}

-- numbers that are the same where tables may stand
module _ (low : ℕ) (m k : List ℕ) (longer : length m ≤ length k) (same : (i : ℕ) → low ≤ i → i < length m → get_or k i 0 ≡ get_or m i 0)
  where
    pub laid-kept : (d : Driver) (from : ℕ) → IsLaid low m d from → IsLaid low k d from
    laid-kept (Assign to e) from h = tt
    laid-kept (Choice to on one other) from h = tt
    laid-kept (Table to on [] other) from h = tt
    laid-kept (Table to on (r ∷ rows) other) from h = record {
      behind = h.behind;
      within = omega (arith, h.within, longer);
      number = λ n l. same (from + n) (omega (arith, h.behind)) (omega (arith, l, h.within)) ∙ h.number n l;
    }
    laid-kept (Register to e) from h = tt
    laid-kept (Output place e) from h = tt

    pub all-laid-kept : (ks : List Driver) (places : List ℕ) → AreLaid low m ks places → AreLaid low k ks places
    all-laid-kept [] [] h = tt
    all-laid-kept [] (p ∷ places) h = absurd h
    all-laid-kept (d ∷ ks) [] h = absurd h
    all-laid-kept (d ∷ ks) (p ∷ places) h = (laid-kept d p h.0, all-laid-kept ks places h.1)

pub grown-more : (a b c : List ℕ) → Grown a b → Grown b c → Grown a c
grown-more a b c h k = record {
  longer = omega (arith, h.longer, k.longer);
  kept = λ i l. k.kept i (omega (arith, l, h.longer))
      ∙ h.kept i l;
}

pub laid-more : (low : ℕ) (m k : List ℕ) (ks : List Driver) (places more : List ℕ) (i from : ℕ) (d : Driver) → Grown m k → i < length ks
    → d ≡ get_or ks i d → AreLaid low m (take i ks) places → IsLaid low k d from → more ≡ places ++ from ∷ []
    → AreLaid low k (take (i + 1) ks) more
laid-more low m k ks places more i from d grown l is h one e =
    let front : take (i + 1) ks ≡ take i ks ++ d ∷ [] = take_more ks i d l ∙ ap (λ x. take i ks ++ x ∷ []) (sym is) in
    let all = all-laid-kept low m k grown.longer (λ j a b. grown.kept j b) (take i ks) places h in
    subst (λ xs. AreLaid low k xs more) (sym front)
    (subst (AreLaid low k (take i ks ++ d ∷ [])) (sym e) (all_zipped_more (IsLaid low k) (take i ks) places d from all one))

-- one row more
pub row-more : (ns : List ℕ) (rows : List Row) (r : Row) (other : List Bool) (count : ℕ) → length ns ≡ count → nat r.0 < count
    → ((n : ℕ) → n < count → get_or ns n 0 ≡ number_at rows other n)
    → (n : ℕ) → n < count → get_or (slice_set ns (nat r.0) (nat r.1)) n 0 ≡ number_at (r ∷ rows) other n
row-more ns rows r other count long below h n l = elim (cases_eq (nat r.0) n) [
  | inl same ↦
      ap (λ x. get_or (slice_set ns (nat r.0) (nat r.1)) x 0) (sym same)
      ∙ get_or-set_same ns (nat r.0) (nat r.1) 0 (omega (arith, below, long))
      ∙ sym (ap (λ o. nat (unwrap_or o other))
      (cond-true (nat_eq (nat r.0) n) (Some r.1) (row_word rows n) (hit (nat r.0) n (nat_eq (nat r.0) n) refl same)))
  | inr differ ↦
      get_or-set_other ns (nat r.0) n (nat r.1) 0 (λ e. differ (sym e))
      ∙ h n l
      ∙ sym (ap (λ o. nat (unwrap_or o other))
      (cond-false (nat_eq (nat r.0) n) (Some r.1) (row_word rows n) (miss (nat r.0) n (nat_eq (nat r.0) n) refl differ)))
]
  where
    hit : (a b : ℕ) (e : Bool) → nat_eq a b ≡ e → a ≡ b → nat_eq a b ≡ true
    hit a b true q s = q
    hit a b false q s = absurd (eqb-false a b q s)

    miss : (a b : ℕ) (e : Bool) → nat_eq a b ≡ e → (a ≡ b → ⊥) → nat_eq a b ≡ false
    miss a b true q s = absurd (s (eqb-true a b q))
    miss a b false q s = q

-- the numbers of words of at most 64 bits
pub below-64 : (w : List Bool) → length w ≤ 64 → nat w < 2 ^ 64
below-64 w l =
    let most : 2 ^ length w ≤ 2 ^ 64 = pow-le-pow_right {n = 2} (omega arith) {i = length w} {j = 64} l in
    omega (arith, nat-below w, most)

-- the row at a place of a table
pub row-fits : (bits : ℕ) (rows : List Row) (i : ℕ) (r : Row) → FitRows bits rows → i < length rows → r ≡ get_or rows i r
    → (length r.0 ≡ bits) × (length r.1 ≤ 64)
row-fits bits rows i r h l is = subst (λ (x : Row). (length x.0 ≡ bits) × (length x.1 ≤ 64)) (sym is) (h i r l)

pub row-below : (bits : ℕ) (r : Row) → length r.0 ≡ bits → nat r.0 < 2 ^ bits
row-below bits r e = subst (λ n. nat r.0 < 2 ^ n) e (nat-below r.0)

some-row : (x y : Row) → Some x ≡ Some y → x ≡ y
some-row x y h = cc

-- the numbers of the rows from one on, where those behind it are there
pub row-before : (ns : List ℕ) (rows : List Row) (other : List Bool) (bits i address number : ℕ) (d e : Row) → FitRows bits rows
    → i < length rows → length ns ≡ 2 ^ bits → address ≡ nat (get_or rows i d).0 → number ≡ nat (get_or rows i e).1
    → ((n : ℕ) → n < 2 ^ bits → get_or ns n 0 ≡ number_at (drop (i + 1) rows) other n)
    → (n : ℕ) → n < 2 ^ bits → get_or (slice_set ns address number) n 0 ≡ number_at (drop i rows) other n
row-before ns rows other bits i address number d e fits l long p q h n j =
    let r = get_or rows i d in
    let same : get_or rows i e ≡ r = some-row (get_or rows i e) r (sym (slice_get-get_or rows i e l) ∙ slice_get-get_or rows i d l) in
    ap (λ x. get_or (slice_set ns x number) n 0) p
    ∙ ap (λ x. get_or (slice_set ns (nat r.0) x) n 0) (q ∙ ap (λ (x : Row). nat x.1) same)
    ∙ row-more ns (drop (i + 1) rows) r other (2 ^ bits) long (row-below bits r (fits i d l).0) h n j
    ∙ sym (ap (λ rs. number_at rs other n) (drop_more rows i d l))
