-- The bits of a constant at the ends of the columns add its number.
use Rattle.std.proofs.Common.{◌≡◌, ℕ, zero, suc, ◌+◌, ◌-◌, ◌/◌, ◌%◌, ◌<◌, ◌≤◌, Bool, true, false, eqb, List, [], ◌∷◌, ◌++◌, drop, length, append_assoc, refl, sym, ap, ◌∙◌, arith}
use Rattle.std.specs.Prelude.{All, slice_index_or}
use Rattle.std.proofs.lemmas.List.{get_or-drop}
use Rattle.std.proofs.lemmas.List.Elements.{All-append, All-cons, All-nil}
use Rattle.opgen_num.specs.Words.{digit, nat, word}
use Rattle.opgen_heap.specs.Sum.{Words, ones, columns_sum}
use Rattle.opgen_heap.proofs.Sums.{ones-append}
use Rattle.opgen_net.specs.declared.net.Net.{Net}
use Rattle.opgen_net.specs.declared.word_bits.WordBit.{WordBit}
use Rattle.opgen_net.specs.declared.word_bits.WordBit.TheVariants.{One}
use Rattle.opgen_net.specs.Valid.{widths}
use Rattle.opgen_net.specs.WordRule.{IsThere}
use Rattle.opgen_compress.specs.Recipe.{Column, one_if, with_ones}
use Rattle.opgen_heap.specs.Standing.{AllThere}
use Rattle.opgen_compress.proofs.Firsts.{first_column, rest_columns}

drop-one : (k : ℕ) (cs : List Column) → drop 1 (drop k cs) ≡ drop (suc k) cs
drop-one zero [] = refl
drop-one zero (c ∷ cs) = refl
drop-one (suc k) [] = refl
drop-one (suc k) (c ∷ cs) = drop-one k cs

pub one_digit : (all cs : List Column) (k w n : ℕ) → k < w
    → (all ++ (slice_index_or cs k [] ++ one_if (eqb (n % 2) 1)) ∷ []) ++ with_ones (word (w - (k + 1)) (n / 2)) (drop (k + 1) cs)
    ≡ all ++ with_ones (word (w - k) n) (drop k cs)
one_digit all cs k w n h =
    let more : w - k ≡ suc (w - (k + 1)) = omega (arith, h) in
    let place : k + 0 ≡ k = omega arith in
    let next : suc k ≡ k + 1 = omega arith in
    let b = one_if (eqb (n % 2) 1) in
    let rest = word (w - (k + 1)) (n / 2) in
    let first : slice_index_or cs k [] ≡ slice_index_or (drop k cs) 0 [] = sym (get_or-drop k cs 0 [] ∙ ap (λ i. slice_index_or cs i [])
    place) in
    let others : drop (k + 1) cs ≡ drop 1 (drop k cs) = sym (drop-one k cs ∙ ap (λ i. drop i cs) next) in
    append_assoc all ((slice_index_or cs k [] ++ b) ∷ []) (with_ones rest (drop (k + 1) cs))
    ∙ ap (λ c. all ++ (c ++ b) ∷ with_ones rest (drop (k + 1) cs)) first
    ∙ ap (λ r. all ++ (slice_index_or (drop k cs) 0 [] ++ b) ∷ with_ones rest r) others
    ∙ ap (λ m. all ++ with_ones (word m n) (drop k cs)) (sym more)

ones-one_if : (words : Words) (b : Bool) → ones words (one_if b) ≡ digit b
ones-one_if words true = refl
ones-one_if words false = refl

pub with_ones-sum : (words : Words) (bits : List Bool) (cs : List Column) → length cs ≤ length bits → columns_sum words (with_ones bits cs)
    ≡ columns_sum words cs + nat bits
with_ones-sum words [] [] h = refl
with_ones-sum words [] (c ∷ cs) h = absurd (omega (arith, h))
with_ones-sum words (b ∷ bits) [] h = omega (arith, ones-one_if words b, with_ones-sum words bits [] (omega arith))
with_ones-sum words (b ∷ bits) (c ∷ cs) h = omega
    (arith, ones-append words c (one_if b), ones-one_if words b, with_ones-sum words bits cs (omega (arith, h)))

pub with_ones-length : (bits : List Bool) (cs : List Column) → length (with_ones bits cs) ≡ length bits
with_ones-length [] cs = refl
with_ones-length (b ∷ bits) cs = ap suc (with_ones-length bits (drop 1 cs))

module _ (net : Net) where
  abbrev P : WordBit → Type 0
  P = IsThere (widths net.nodes)

  one_if-there : (b : Bool) → All P (one_if b)
  one_if-there true = All-cons P One [] tt (All-nil P)
  one_if-there false = All-nil P

  pub with_ones-there : (bits : List Bool) (cs : List Column) → AllThere net cs → AllThere net (with_ones bits cs)
  with_ones-there [] cs h = All-nil (All P)
  with_ones-there (b ∷ bits) [] h = All-cons (All P) (one_if b) (with_ones bits []) (one_if-there b) (with_ones-there bits [] h)
  with_ones-there (b ∷ bits) (c ∷ cs) h =
      All-cons (All P) (c ++ one_if b) (with_ones bits cs) (All-append P c (one_if b) (first_column (All P) c cs h) (one_if-there b))
      (with_ones-there bits cs (rest_columns (All P) c cs h))
