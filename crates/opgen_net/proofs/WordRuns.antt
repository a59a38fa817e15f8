-- The runs that the bits of a word fall into: how long they are, that they are there, and what they spell.
use Rattle.std.proofs.Common.{◌≡◌, ℕ, suc, ◌+◌, ◌*◌, ◌/◌, ◌^◌, ◌<◌, ◌≤◌, Bool, true, false, nat_eq, ◌&&◌, if◌then◌else◌, List, [], ◌∷◌, ◌++◌, length, length-append, add-one, Some, None, refl, ap, ◌∙◌, subst, arith}
use Rattle.std.proofs.Math.Nat.{two-pow-succ}
use Rattle.opgen_num.specs.Words.{digit, nat, word}
use Rattle.opgen_num.proofs.Words.{digit-below, low-bit, nat-below}
use Rattle.opgen_net.specs.declared.word_bits.WordBit.{WordBit}
use Rattle.opgen_net.specs.declared.word_bits.WordBit.TheVariants.{Zero, One, Of}
use Rattle.opgen_net.specs.declared.word_bits.Piece.{Piece}
use Rattle.opgen_net.specs.declared.word_bits.Piece.TheVariants.{Bits, Part}
use Rattle.opgen_net.specs.WordRule.{over, above, runs, FirstHasAtMost}

-- a bit above a word adds its power of two to the word's number
pub word-with_top : (w : List Bool) (b : Bool) → word (length w + 1) (nat w + digit b * 2 ^ length w) ≡ w ++ b ∷ []
word-with_top [] false = refl
word-with_top [] true = refl
word-with_top (a ∷ w) b =
    let n = nat w + digit b * 2 ^ length w in
    let double : digit b * 2 ^ length (a ∷ w) ≡ digit b * (2 ^ length w + 2 ^ length w) = ap (λ k. digit b * k) (two-pow-succ (length w)) in
    let all : nat (a ∷ w) + digit b * 2 ^ length (a ∷ w) ≡ digit a + 2 * n = omega (arith, double) in
    let half : (digit a + 2 * n) / 2 ≡ n = omega (arith, digit-below a) in
    let longer : length (a ∷ w) + 1 ≡ suc (length w + 1) = omega arith in
    ap (λ k. word k (nat (a ∷ w) + digit b * 2 ^ length (a ∷ w))) longer
    ∙ ap (word (suc (length w + 1))) all
    ∙ ap (λ x. x ∷ word (length w + 1) ((digit a + 2 * n) / 2)) (low-bit a n)
    ∙ ap (λ k. a ∷ word (length w + 1) k) half
    ∙ ap (λ v. a ∷ v) (word-with_top w b)

over-at_most : (n : ℕ) (b : WordBit) (r : Piece) (rs : List Piece) → FirstHasAtMost n (r ∷ rs) → FirstHasAtMost (n + 1) (above b (r ∷ rs))
over-at_most n Zero (Bits w) rs h = omega (arith, h, length-append w (false ∷ []))
over-at_most n One (Bits w) rs h = omega (arith, h, length-append w (true ∷ []))
over-at_most n Zero (Part s) rs h = omega arith
over-at_most n One (Part s) rs h = omega arith
over-at_most n (Of node index) (Bits w) rs h = tt
over-at_most n (Of node index) (Part s) rs h = elim (nat_eq node s.node && nat_eq index (s.high + 1)) as
    (λ c. FirstHasAtMost (n + 1) (over (Of node index) (if c then Some (Part (record { node = node; high = index; low = s.low })) else None)
    (Part s) rs)) [ true ↦ tt | false ↦ tt ]

above-at_most : (n : ℕ) (b : WordBit) (rs : List Piece) → FirstHasAtMost n rs → FirstHasAtMost (n + 1) (above b rs)
above-at_most n Zero [] h = omega arith
above-at_most n One [] h = omega arith
above-at_most n (Of node index) [] h = tt
above-at_most n b (r ∷ rs) h = over-at_most n b r rs h

first-at_most : (n : ℕ) (rs : List Piece) (m : ℕ) → n ≤ m → FirstHasAtMost n rs → FirstHasAtMost m rs
first-at_most n [] m l h = tt
first-at_most n (Bits w ∷ rs) m l h = omega (arith, h, l)
first-at_most n (Part s ∷ rs) m l h = tt

runs-at_most : (bs : List WordBit) → FirstHasAtMost (length bs) (runs bs)
runs-at_most [] = tt
runs-at_most (b ∷ bs) = subst (λ n. FirstHasAtMost n (runs (b ∷ bs))) (omega arith)
    (above-at_most (length bs) b (runs bs) (runs-at_most bs))

pub runs-short : (bs : List WordBit) (n : ℕ) → length bs ≤ n → FirstHasAtMost n (runs bs)
runs-short bs n h = first-at_most (length bs) (runs bs) n h (runs-at_most bs)

-- the number of a word with a bit above it stands in the word's bits and one more
pub top_below : (w : List Bool) (b : Bool) → nat w + digit b * 2 ^ length w < 2 ^ (length w + 1)
top_below w b =
    let e : 2 ^ (length w + 1) ≡ 2 ^ length w + 2 ^ length w = ap (λ k. 2 ^ k) (add-one (length w)) ∙ two-pow-succ (length w) in
    elim b as (λ c. nat w + digit c * 2 ^ length w < 2 ^ (length w + 1))
    [ true ↦ omega (arith, nat-below w, e) | false ↦ omega (arith, nat-below w, e) ]
