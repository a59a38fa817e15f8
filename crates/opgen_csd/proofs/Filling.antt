-- The partial sums one by one.
use Rattle.std.proofs.Common.{◌≡◌, ◌≢◌, ℕ, zero, suc, ◌+◌, ◌%◌, ◌^◌, ◌≤◌, ◌<◌, length, take, drop, set, get_or, map, replicate, ◌++◌, unsigned_abs, ℤ, pos, negsuc, ◌+ℤ◌, ◌*ℤ◌, List, [], ◌∷◌, true, false, if◌then◌else◌, refl, sym, ap, ◌∙◌, add-one, arith}
use Rattle.std.proofs.Math.Seq.{take-suc-set}
use Rattle.std.proofs.Math.ListN.{length-set}
use Rattle.std.proofs.lemmas.Int.{ints}
use Rattle.std.proofs.lemmas.List.{get_or-set_other, take_more, append-nil}
use Rattle.opgen_csd.specs.Digits.{value_of, is_zero, nonzeros, IsRecoded}
use Rattle.opgen_csd.specs.Partials.{cuts, partials, IsFilled}
use Rattle.opgen_csd.proofs.Fewest.{weight}
use Rattle.opgen_csd.proofs.Sums.{cut_at, cuts-snoc, length-cuts, few, value_more, nonzeros_more}

abbrev size_of : List ℤ → ℕ
size_of c = unsigned_abs (value_of c)

drop_some : (cs zs : List (List ℤ)) → 1 ≤ length cs → drop 1 (cs ++ zs) ≡ drop 1 cs ++ zs
drop_some [] zs h = absurd (omega arith)
drop_some (c ∷ cs) zs h = refl

map_append : (xs ys : List (List ℤ)) → map size_of (xs ++ ys) ≡ map size_of xs ++ map size_of ys
map_append [] ys = refl
map_append (x ∷ xs) ys = ap (λ zs. size_of x ∷ zs) (map_append xs ys)

partials_snoc : (xs : List ℤ) (d : ℤ) → 1 ≤ nonzeros xs → partials (xs ++ d ∷ []) ≡ partials xs ++ map size_of (cut_at xs d)
partials_snoc xs d h = rw (cuts-snoc xs d, drop_some (cuts xs) (cut_at xs d) (omega (arith, h, length-cuts xs)))
    (map_append (drop 1 (cuts xs)) (cut_at xs d))

pub partials_zero : (xs : List ℤ) (d : ℤ) → 1 ≤ nonzeros xs → is_zero d ≡ true → partials (xs ++ d ∷ []) ≡ partials xs
partials_zero xs d h z = partials_snoc xs d h ∙ ap (λ b. partials xs ++ map size_of (if b then [] else (xs ++ d ∷ []) ∷ [])) z
    ∙ append-nil (partials xs)

pub partials_nonzero : (xs : List ℤ) (d : ℤ) → 1 ≤ nonzeros xs → is_zero d ≡ false → partials (xs ++ d ∷ [])
    ≡ partials xs ++ unsigned_abs (value_of (xs ++ d ∷ [])) ∷ []
partials_nonzero xs d h z = partials_snoc xs d h ∙ ap (λ b. partials xs ++ map size_of (if b then [] else (xs ++ d ∷ []) ∷ [])) z

weight_false : (d : ℤ) → is_zero d ≡ false → weight d ≡ 1
weight_false d z = ap (λ b. let k : ℕ = if b then 0 else 1 in k) z

weight_true : (d : ℤ) → is_zero d ≡ true → weight d ≡ 0
weight_true d z = ap (λ b. let k : ℕ = if b then 0 else 1 in k) z

-- the sums up to a place
pub record Fills (digits : List ℤ) (place : ℕ) (sum : ℤ) (sums : List ℕ) (len : ℕ) : Type 0 where
  pub total : sum ≡ value_of (take place digits)
  pub taken : take len sums ≡ partials (take place digits)
  pub count : suc len ≡ nonzeros (take place digits)
  pub size : length sums ≡ 32
  pub short : len < 32
  pub zeros : (k : ℕ) → len ≤ k → get_or sums k 0 ≡ 0

zeros_at : (m k : ℕ) → get_or {A = ℕ} (replicate m 0) k 0 ≡ 0
zeros_at zero k = refl
zeros_at (suc m) zero = refl
zeros_at (suc m) (suc k) = zeros_at m k

not_zero : (d : ℤ) → d ≢ pos 0 → is_zero d ≡ false
not_zero (pos zero) h = absurd (h refl)
not_zero (pos (suc n)) h = refl
not_zero (negsuc n) h = refl

no_partials : (d : ℤ) → is_zero d ≡ false → [] ≡ partials (d ∷ [])
no_partials d z = ap (λ b. map size_of (drop 1 ((if b then [] else (d ∷ []) ∷ []) ++ []))) (sym z)

pub fills_first : (digits : List ℤ) (len : ℕ) → unsigned_abs (value_of (take len digits)) % 2 ≡ 1
    → Fills digits 1 (get_or digits 0 (pos 0)) (replicate 32 0) 0
fills_first digits zero odd = absurd (omega (arith, odd))
fills_first [] (suc n) odd = absurd (omega (arith, odd))
fills_first (d ∷ ds) (suc n) odd =
    let first : d ≢ pos 0 = λ e. omega (arith, ints, e, odd) in
    let z = not_zero d first in
    record {
      total = omega (arith, ints);
      taken = no_partials d z;
      count = omega (arith, weight_false d z);
      size = refl;
      short = omega arith;
      zeros = λ k _. zeros_at 32 k;
    }

pub fills_zero : (digits : List ℤ) (len place : ℕ) (sum : ℤ) (sums : List ℕ) (n : ℕ) → IsRecoded digits len → length digits ≡ 64
    → place < len → is_zero (get_or digits place (pos 0)) ≡ true → Fills digits place sum sums n
    → Fills digits (place + 1) (sum +ℤ get_or digits place (pos 0) *ℤ pos (2 ^ place)) sums n
fills_zero digits len place sum sums n r size h z f =
    let d = get_or digits place (pos 0) in
    let in_range : place < length digits = omega (arith, r.short) in
    let more = take_more digits place (pos 0) in_range in
    let some : 1 ≤ nonzeros (take place digits) = omega (arith, f.count) in
    record {
      total = ap (λ v. v +ℤ d *ℤ pos (2 ^ place)) f.total ∙ sym (value_more digits len place r size h);
      taken = f.taken ∙ sym (ap partials more ∙ partials_zero (take place digits) d some z);
      count = omega (arith, f.count, nonzeros_more digits place in_range, weight_true d z);
      size = f.size;
      short = f.short;
      zeros = f.zeros;
    }

pub room : (digits : List ℤ) (len place : ℕ) (sum : ℤ) (sums : List ℕ) (n : ℕ) → IsRecoded digits len → length digits ≡ 64 → place < len
    → is_zero (get_or digits place (pos 0)) ≡ false → Fills digits place sum sums n → n < 31
room digits len place sum sums n r size h z f =
    let in_range : place < length digits = omega (arith, r.short) in
    omega (
      arith,
      f.count,
      nonzeros_more digits place in_range,
      few digits len (place + 1) r (omega arith),
      r.short,
      weight_false (get_or digits place (pos 0)) z,
    )

pub fills_more : (digits : List ℤ) (len place : ℕ) (sum : ℤ) (sums : List ℕ) (n : ℕ) → IsRecoded digits len → length digits ≡ 64
    → place < len → is_zero (get_or digits place (pos 0)) ≡ false → Fills digits place sum sums n → (next : ℤ) → next
    ≡ sum +ℤ get_or digits place (pos 0) *ℤ pos (2 ^ place) → Fills digits (place + 1) next (set sums n (unsigned_abs next)) (n + 1)
fills_more digits len place sum sums n r size h z f next e =
    let d = get_or digits place (pos 0) in
    let in_range : place < length digits = omega (arith, r.short) in
    let more = take_more digits place (pos 0) in_range in
    let some : 1 ≤ nonzeros (take place digits) = omega (arith, f.count) in
    let value : next ≡ value_of (take (place + 1) digits) = e ∙ ap (λ v. v +ℤ d *ℤ pos (2 ^ place)) f.total
    ∙ sym (value_more digits len place r size h) in
    let fits : n < length sums = omega (arith, f.size, room digits len place sum sums n r size h z f) in
    record {
      total = value;
      taken = ap (λ k. take k (set sums n (unsigned_abs next))) (add-one n) ∙ take-suc-set sums n (unsigned_abs next) fits
          ∙ ap (λ xs. xs ++ unsigned_abs next ∷ []) f.taken
          ∙ ap (λ v. partials (take place digits) ++ unsigned_abs v ∷ []) (value ∙ ap value_of more)
          ∙ sym (ap partials more ∙ partials_nonzero (take place digits) d some z);
      count = omega (arith, f.count, nonzeros_more digits place in_range, weight_false (get_or digits place (pos 0)) z);
      size = length-set sums n (unsigned_abs next) ∙ f.size;
      short = omega (arith, room digits len place sum sums n r size h z f);
      zeros = λ k le. let apart : k ≢ n = omega (arith, le) in rw (get_or-set_other sums n k (unsigned_abs next) 0 apart)
          (f.zeros k (omega (arith, le)));
    }

pub is_filled : (digits : List ℤ) (place : ℕ) (sum : ℤ) (sums : List ℕ) (n : ℕ) → Fills digits place sum sums n → IsFilled sums n
is_filled digits place sum sums n f = record { short = omega (arith, f.short); zeros = f.zeros }
