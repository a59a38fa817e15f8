-- Each partial sum is a power of two more or less than the one before.
use Rattle.std.proofs.Common.{◌≡◌, ◌≢◌, ◌⊎◌, inl, inr, ⊎_elim, ℕ, zero, suc, ◌+◌, ◌*◌, ◌%◌, ◌^◌, ◌≤◌, ◌<◌, length, drop, map, ◌++◌, Contains, unsigned_abs, append_assoc, length-append, ℤ, pos, negsuc, neg_ℤ, ◌+ℤ◌, ◌*ℤ◌, List, [], ◌∷◌, Bool, true, false, if◌then◌else◌, refl, sym, ap, subst, ◌∙◌, arith}
use Rattle.std.proofs.Math.Nat.{pow-suc}
use Rattle.std.proofs.lemmas.Int.{ints}
use Rattle.std.proofs.lemmas.List.{append-nil}
use Rattle.opgen_csd.specs.Digits.{IsDigit, value_of, IsCanonical, is_zero}
use Rattle.opgen_csd.specs.Partials.{cuts, partials}
use Rattle.opgen_csd.specs.Laws.{IsPartialSum}
use Rattle.opgen_csd.proofs.Canonical.{digit_cases}
use Rattle.opgen_csd.proofs.Sums.{value-snoc}
use Rattle.opgen_csd.proofs.Members.{here, there, of_cons, of_nil}

-- ---- the same sums, from a sum of the digits below a place
abbrev pub next : ℤ → ℕ → ℤ → ℤ
next s k d = s +ℤ d *ℤ pos (2 ^ k)

abbrev pub sums_from : ℤ → ℕ → List ℤ → List ℕ
sums_from s k [] = []
sums_from s k (d ∷ ds) = if is_zero d then sums_from (next s k d) (suc k) ds else unsigned_abs (next s k d) ∷ sums_from (next s k d)
    (suc k) ds

abbrev pub end_from : ℤ → ℕ → List ℤ → ℤ
end_from s k [] = s
end_from s k (d ∷ ds) = end_from (next s k d) (suc k) ds

abbrev sum_above : List ℤ → List ℤ → ℕ
sum_above p c = unsigned_abs (value_of (p ++ c))

sums_cons : (p ds : List ℤ) (d : ℤ) (v : ℤ) (b : Bool) (rest : List ℕ) → value_of (p ++ d ∷ []) ≡ v
    → map (sum_above p) (map (λ c. d ∷ c) (cuts ds)) ≡ rest
    → map (sum_above p) ((if b then [] else (d ∷ []) ∷ []) ++ map (λ c. d ∷ c) (cuts ds)) ≡ (if b then rest else unsigned_abs v ∷ rest)
sums_cons p ds d v true rest e h = h
sums_cons p ds d v false rest e h = rw (e, h) refl

above_cons : (p : List ℤ) (d : ℤ) (cs : List (List ℤ)) → map (sum_above p) (map (λ c. d ∷ c) cs) ≡ map (sum_above (p ++ d ∷ [])) cs
above_cons p d [] = refl
above_cons p d (c ∷ cs) = rw (append_assoc p (d ∷ []) c, above_cons p d cs) refl

all_digits_in : (p ds : List ℤ) (k : ℕ) → length p ≡ k → (d : ℤ) → length (p ++ d ∷ []) ≡ suc k
all_digits_in p ds k e d = omega (arith, length-append p (d ∷ []), e)

pub sums_are : (p ds : List ℤ) (k : ℕ) → length p ≡ k → IsCanonical ds → map (sum_above p) (cuts ds) ≡ sums_from (value_of p) k ds
sums_are p [] k e h = refl
sums_are p (d ∷ ds) k e h =
    let v : value_of (p ++ d ∷ []) ≡ next (value_of p) k d = rw (← e) (value-snoc p d h.0) in
    let rest = sums_are (p ++ d ∷ []) ds (suc k) (all_digits_in p ds k e d) h.2 in
    sums_cons p ds d (next (value_of p) k d) (is_zero d) (sums_from (next (value_of p) k d) (suc k) ds) v
    (above_cons p d (cuts ds) ∙ subst (λ w. map (sum_above (p ++ d ∷ [])) (cuts ds) ≡ sums_from w (suc k) ds) v rest)

pub end_is : (p ds : List ℤ) (k : ℕ) → length p ≡ k → IsCanonical ds → end_from (value_of p) k ds ≡ value_of (p ++ ds)
end_is p [] k e h = rw append-nil refl
end_is p (d ∷ ds) k e h =
    let v : value_of (p ++ d ∷ []) ≡ next (value_of p) k d = rw (← e) (value-snoc p d h.0) in
    ap (λ w. end_from w (suc k) ds) (sym v) ∙ end_is (p ++ d ∷ []) ds (suc k) (all_digits_in p ds k e d) h.2
    ∙ ap value_of (append_assoc p (d ∷ []) ds)

-- ---- one digit that is not zero: s is the sum below, less than half of its weight
pub record Rises (s : ℤ) (k : ℕ) (t : ℤ) : Type 0 where
  pub odd : unsigned_abs t % 2 ≡ 1
  pub above : unsigned_abs s < unsigned_abs t
  pub step : (2 ^ k + unsigned_abs s ≡ unsigned_abs t) ⊎ (2 ^ k ≡ unsigned_abs t + unsigned_abs s)
  pub below : unsigned_abs t < 2 ^ suc k

-- the power itself, and its negative
raised : (s : ℤ) (k q : ℕ) → 2 ^ k ≡ 2 * q → unsigned_abs s % 2 ≡ 1 → unsigned_abs s < q → Rises s k (s +ℤ pos (2 ^ k))
raised (pos n) k q e odd half = record {
  odd = omega (arith, ints);
  above = omega (arith, ints);
  step = inl (omega (arith, ints));
  below = omega (arith, ints, pow-suc 2 k);
}
raised (negsuc n) k q e odd half = record {
  odd = omega (arith, ints);
  above = omega (arith, ints);
  step = inr (omega (arith, ints));
  below = omega (arith, ints, pow-suc 2 k);
}

lowered : (s : ℤ) (k q : ℕ) → 2 ^ k ≡ 2 * q → unsigned_abs s % 2 ≡ 1 → unsigned_abs s < q → Rises s k (s +ℤ neg_ℤ (pos (2 ^ k)))
lowered (pos n) k q e odd half = record {
  odd = omega (arith, ints);
  above = omega (arith, ints);
  step = inr (omega (arith, ints));
  below = omega (arith, ints, pow-suc 2 k);
}
lowered (negsuc n) k q e odd half = record {
  odd = omega (arith, ints);
  above = omega (arith, ints);
  step = inl (omega (arith, ints));
  below = omega (arith, ints, pow-suc 2 k);
}

rises : (s d : ℤ) (k q : ℕ) → IsDigit d → d ≢ pos 0 → 2 ^ k ≡ 2 * q → unsigned_abs s % 2 ≡ 1 → unsigned_abs s < q → Rises s k (next s k d)
rises s d k q hd ne e odd half =
    ⊎_elim (λ (z : d ≡ negsuc 0). let m : negsuc 0 *ℤ pos (2 ^ k)
    ≡ neg_ℤ (pos (2 ^ k)) = omega (arith, ints) in rw (z, m) (lowered s k q e odd half))
    (λ (o : (d ≡ pos 0) ⊎ (d ≡ pos 1)). ⊎_elim (λ (z : d ≡ pos 0). absurd (ne z))
    (λ (z : d ≡ pos 1). let m : pos 1 *ℤ pos (2 ^ k) ≡ pos (2 ^ k) = omega (arith, ints) in rw (z, m) (raised s k q e odd half)) o)
    (digit_cases d hd)

-- ---- the digits from a place up: where the first is not zero, the sum below is less than half of its weight
abbrev pub HasRoom : ℤ → ℕ → List ℤ → Type 0
HasRoom s k [] = Unit {0}
HasRoom s k (d ∷ ds) = d ≢ pos 0 → 2 * unsigned_abs s < 2 ^ k

pub record Below (s : ℤ) (k : ℕ) (ds : List ℤ) : Type 0 where
  pub odd : unsigned_abs s % 2 ≡ 1
  pub small : unsigned_abs s < 2 ^ k
  pub room : HasRoom s k ds

nonzero : (d : ℤ) → is_zero d ≡ false → d ≢ pos 0
nonzero (pos zero) z e = cc
nonzero (pos (suc n)) z e = omega (arith, ints, e)
nonzero (negsuc n) z e = omega (arith, ints, e)

next_zero : (s d : ℤ) (k : ℕ) → is_zero d ≡ true → next s k d ≡ s
next_zero s (pos zero) k z = omega (arith, ints)
next_zero s (pos (suc n)) k z = cc
next_zero s (negsuc n) k z = cc

room_after : (d : ℤ) (ds : List ℤ) (t : ℤ) (k : ℕ) → IsCanonical (d ∷ ds) → d ≢ pos 0 → HasRoom t k ds
room_after d [] t k h ne = tt
room_after d (e ∷ ds) t k h ne = λ some. absurd (some (h.1 ne))

room_zero : (s : ℤ) (k : ℕ) (ds : List ℤ) → unsigned_abs s < 2 ^ k → HasRoom s (suc k) ds
room_zero s k [] h = tt
room_zero s k (d ∷ ds) h = λ _. omega (arith, pow-suc 2 k)

rises_at : (s d : ℤ) (j : ℕ) (ds : List ℤ) → IsCanonical (d ∷ ds) → is_zero d ≡ false → Below s (suc j) (d ∷ ds)
    → Rises s (suc j) (next s (suc j) d)
rises_at s d j ds h z b = let ne = nonzero d z in let p = pow-suc 2 j in rises s d (suc j) (2 ^ j) h.0 ne (omega (arith, p)) b.odd
    (omega (arith, p, b.room ne))

below_next : (s d : ℤ) (j : ℕ) (ds : List ℤ) → IsCanonical (d ∷ ds) → is_zero d ≡ false → Below s (suc j) (d ∷ ds)
    → Below (next s (suc j) d) (suc (suc j)) ds
below_next s d j ds h z b =
    let r = rises_at s d j ds h z b in
    record { odd = r.odd; small = r.below; room = room_after d ds (next s (suc j) d) (suc (suc j)) h (nonzero d z) }

below_zero : (s d : ℤ) (j : ℕ) (ds : List ℤ) → is_zero d ≡ true → Below s (suc j) (d ∷ ds) → Below (next s (suc j) d) (suc (suc j)) ds
below_zero s d j ds z b = rw (next_zero s d (suc j) z)
    (record { odd = b.odd; small = omega (arith, b.small, pow-suc 2 (suc j)); room = room_zero s (suc j) ds b.small })

bool_cases : (b : Bool) → (b ≡ true) ⊎ (b ≡ false)
bool_cases true = inl refl
bool_cases false = inr refl

end_above : (s : ℤ) (j : ℕ) (ds : List ℤ) → IsCanonical ds → Below s (suc j) ds → unsigned_abs s ≤ unsigned_abs (end_from s (suc j) ds)
end_above s j [] h b = omega arith
end_above s j (d ∷ ds) h b =
    ⊎_elim (λ (z : is_zero d ≡ true). omega (
      arith,
      end_above (next s (suc j) d) (suc j) ds h.2 (below_zero s d j ds z b),
      ap unsigned_abs
          (next_zero s d (suc j) z),
    ))
    (λ (z : is_zero d ≡ false). let r = rises_at s d j ds h z b in omega
    (arith, end_above (next s (suc j) d) (suc j) ds h.2 (below_next s d j ds h z b), r.above))
    (bool_cases (is_zero d))

pub record StepsFrom (s : ℤ) (k : ℕ) (ds : List ℤ) (x : ℕ) : Type 0 where
  pub odd : x % 2 ≡ 1
  pub above : unsigned_abs s < x
  pub most : x ≤ unsigned_abs (end_from s k ds)
  pub step : (i : ℕ) × (y : ℕ) × (1 ≤ i) × (y < x) × ((y ≡ unsigned_abs s) ⊎ Contains (sums_from s k ds) y)
      × ((2 ^ i + y ≡ x) ⊎ (2 ^ i ≡ x + y))

sums_zero : (s d : ℤ) (k : ℕ) (ds : List ℤ) → is_zero d ≡ true → sums_from s k (d ∷ ds) ≡ sums_from (next s k d) (suc k) ds
sums_zero s d k ds z = ap (λ b. if b then sums_from (next s k d) (suc k) ds else unsigned_abs (next s k d) ∷ sums_from (next s k d)
    (suc k) ds) z

sums_nonzero : (s d : ℤ) (k : ℕ) (ds : List ℤ) → is_zero d ≡ false → sums_from s k (d ∷ ds)
    ≡ unsigned_abs (next s k d) ∷ sums_from (next s k d) (suc k) ds
sums_nonzero s d k ds z = ap (λ b. if b then sums_from (next s k d) (suc k) ds else unsigned_abs (next s k d) ∷ sums_from (next s k d)
    (suc k) ds) z

pub steps_from : (s : ℤ) (j : ℕ) (ds : List ℤ) → IsCanonical ds → Below s (suc j) ds → (x : ℕ) → Contains (sums_from s (suc j) ds) x
    → StepsFrom s (suc j) ds x
steps_from s j [] h b x c = absurd (of_nil x c)
steps_from s j (d ∷ ds) h b x c =
    let t = next s (suc j) d in
    let later = λ (k : Below t (suc (suc j)) ds) (i : Contains (sums_from t (suc (suc j)) ds) x). steps_from t (suc j) ds h.2 k x i in
    ⊎_elim
    (λ (z : is_zero d ≡ true).
    let r = later (below_zero s d j ds z b) (subst (λ xs. Contains xs x) (sums_zero s d (suc j) ds z) c) in
    let same = ap unsigned_abs (next_zero s d (suc j) z) in
    record {
      odd = r.odd;
      above = omega (arith, r.above, same);
      most = r.most;
      step = let (i, y, le, lt, from, power) = r.step in (
        i,
        y,
        le,
        lt,
        ⊎_elim (λ (e : y ≡ unsigned_abs t). inl (e ∙ same))
            (λ (k : Contains (sums_from t (suc (suc j)) ds) y). inr (subst (λ xs. Contains xs y) (sym (sums_zero s d (suc j) ds z)) k))
            from,
        power,
      );
    })
    (λ (z : is_zero d ≡ false).
    let next_below = below_next s d j ds h z b in
    let rise = rises_at s d j ds h z b in
    let list = sums_nonzero s d (suc j) ds z in
    ⊎_elim
    (λ (e : unsigned_abs t ≡ x). subst (StepsFrom s (suc j) (d ∷ ds)) e (record {
      odd = rise.odd;
      above = rise.above;
      most = end_above t (suc j) ds h.2 next_below;
      step = (suc j, unsigned_abs s, omega arith, rise.above, inl refl, rise.step);
    }))
    (λ (k : Contains (sums_from t (suc (suc j)) ds) x).
    let r = later next_below k in
    record {
      odd = r.odd;
      above = omega (arith, r.above, rise.above);
      most = r.most;
      step = let (i, y, le, lt, from, power) = r.step in (
        i,
        y,
        le,
        lt,
        inr (subst (λ xs. Contains xs y) (sym list)
            (⊎_elim (λ (e : y ≡ unsigned_abs t). subst (Contains (unsigned_abs t ∷ sums_from t (suc (suc j)) ds)) (sym e)
            (here (unsigned_abs t) (sums_from t (suc (suc j)) ds)))
            (λ (m : Contains (sums_from t (suc (suc j)) ds) y). there (unsigned_abs t) y (sums_from t (suc (suc j)) ds) m) from)),
        power,
      );
    })
    (of_cons (unsigned_abs t) x (sums_from t (suc (suc j)) ds) (subst (λ xs. Contains xs x) list c)))
    (bool_cases (is_zero d))

pub end_in : (s : ℤ) (k : ℕ) (d : ℤ) (ds : List ℤ) → IsCanonical (d ∷ ds)
    → Contains (sums_from s k (d ∷ ds)) (unsigned_abs (end_from s k (d ∷ ds)))
end_in s k d [] h =
    ⊎_elim (λ (z : is_zero d ≡ true). absurd (h.1 (zero_is d z)))
    (λ (z : is_zero d ≡ false). subst (λ xs. Contains xs (unsigned_abs (next s k d))) (sym (sums_nonzero s d k [] z))
    (here (unsigned_abs (next s k d)) [])) (bool_cases (is_zero d))
  where
    zero_is : (e : ℤ) → is_zero e ≡ true → e ≡ pos 0
    zero_is (pos zero) z = refl
    zero_is (pos (suc n)) z = cc
    zero_is (negsuc n) z = cc
end_in s k d (e ∷ ds) h =
    let rest = end_in (next s k d) (suc k) e ds h.2 in
    let x = unsigned_abs (end_from s k (d ∷ e ∷ ds)) in
    ⊎_elim (λ (z : is_zero d ≡ true). subst (λ xs. Contains xs x) (sym (sums_zero s d k (e ∷ ds) z)) rest)
    (λ (z : is_zero d ≡ false). subst (λ xs. Contains xs x) (sym (sums_nonzero s d k (e ∷ ds) z))
    (there (unsigned_abs (next s k d)) x (sums_from (next s k d) (suc k) (e ∷ ds)) rest))
    (bool_cases (is_zero d))

-- ---- the laws
first_nonzero : (d : ℤ) (ds : List ℤ) (t : ℕ) → IsDigit d → value_of (d ∷ ds) ≡ pos t → t % 2 ≡ 1 → is_zero d ≡ false
first_nonzero (pos zero) ds t h v odd = absurd
    (let e : value_of ds +ℤ value_of ds ≡ pos t = omega (arith, ints, v) in omega (arith, ints, e))
first_nonzero (pos (suc n)) ds t h v odd = refl
first_nonzero (negsuc n) ds t h v odd = refl

partials_are : (d : ℤ) (ds : List ℤ) → IsCanonical (d ∷ ds) → is_zero d ≡ false → partials (d ∷ ds) ≡ sums_from d 1 ds
partials_are d ds h z =
    let value : value_of (d ∷ []) ≡ d = omega (arith, ints) in
    let list : partials (d ∷ ds) ≡ map (λ c. unsigned_abs (value_of c)) (map (λ c. d ∷ c) (cuts ds)) = ap (λ b. map (λ c. unsigned_abs
    (value_of c)) (drop 1 ((if b then [] else (d ∷ []) ∷ []) ++ map (λ c. d ∷ c) (cuts ds)))) z in
    list ∙ above_cons [] d (cuts ds) ∙ sums_are (d ∷ []) ds 1 refl h.2 ∙ ap (λ w. sums_from w 1 ds) value

end_of : (d : ℤ) (ds : List ℤ) → IsCanonical (d ∷ ds) → end_from d 1 ds ≡ value_of (d ∷ ds)
end_of d ds h = let value : value_of (d ∷ []) ≡ d = omega (arith, ints) in ap (λ w. end_from w 1 ds) (sym value)
    ∙ end_is (d ∷ []) ds 1 refl h.2

one_of : (d : ℤ) → IsDigit d → is_zero d ≡ false → unsigned_abs d ≡ 1
one_of d h z = ⊎_elim (λ (e : d ≡ negsuc 0). ap unsigned_abs e)
    (λ (o : (d ≡ pos 0) ⊎ (d ≡ pos 1)). ⊎_elim (λ (e : d ≡ pos 0). absurd (nonzero d z e)) (λ (e : d ≡ pos 1). ap unsigned_abs e) o)
    (digit_cases d h)

first_below : (d : ℤ) (ds : List ℤ) → IsCanonical (d ∷ ds) → is_zero d ≡ false → Below d 1 ds
first_below d ds h z = let one = one_of d h.0 z
    in record { odd = rw one refl; small = omega (arith, one); room = room_after d ds d 1 h (nonzero d z) }

pub partials_step_up : (ds : List ℤ) (t : ℕ) → IsCanonical ds → value_of ds ≡ pos t → t % 2 ≡ 1 → (x : ℕ) → Contains (partials ds) x
    → IsPartialSum t (partials ds) x
partials_step_up [] t h v odd x c = absurd (of_nil x c)
partials_step_up (d ∷ ds) t h v odd x c =
    let z = first_nonzero d ds t h.0 v odd in
    let list = partials_are d ds h z in
    let one = one_of d h.0 z in
    let r = steps_from d 0 ds h.2 (first_below d ds h z) x (subst (λ xs. Contains xs x) list c) in
    record {
      odd = r.odd;
      large = omega (arith, r.above, one);
      most = omega (arith, r.most, ap unsigned_abs (end_of d ds h ∙ v));
      step = let (i, y, le, lt, from, power) = r.step in (
        i,
        y,
        le,
        lt,
        ⊎_elim (λ (e : y ≡ unsigned_abs d). inl (e ∙ one))
            (λ (k : Contains (sums_from d 1 ds) y). inr (subst (λ xs. Contains xs y) (sym list) k)) from,
        power,
      );
    }

pub partials_end : (ds : List ℤ) (t : ℕ) → IsCanonical ds → value_of ds ≡ pos t → t % 2 ≡ 1 → 1 < t → Contains (partials ds) t
partials_end [] t h v odd large = absurd (omega (arith, ints, v))
partials_end (d ∷ []) t h v odd large = absurd (let e : d ≡ pos t = omega (arith, ints, v) in omega (arith, ints, e, h.0))
partials_end (d ∷ e ∷ ds) t h v odd large =
    let z = first_nonzero d (e ∷ ds) t h.0 v odd in
    let last : unsigned_abs (end_from d 1 (e ∷ ds)) ≡ t = ap unsigned_abs (end_of d (e ∷ ds) h ∙ v) in
    subst (λ xs. Contains xs t) (sym (partials_are d (e ∷ ds) h z)) (subst (Contains (sums_from d 1 (e ∷ ds))) last (end_in d 1 e ds h.2))
