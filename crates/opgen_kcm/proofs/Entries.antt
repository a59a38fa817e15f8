-- The entries of a table by their addresses, and how far they are above the least.
use Rattle.std.proofs.Common.{◌≡◌, ℕ, zero, suc, ◌^◌, ◌<◌, inl, inr, Bool, List, [], ◌∷◌, ◌++◌, length, length-append, get_or, refl, sym, ap, ◌∙◌, subst, arith}
use Rattle.std.specs.Prelude.{ℤ, pos, ◌+ℤ◌, ◌≤ℤ◌, All, slice_index_or}
use Rattle.std.proofs.Math.Seq.{get_or-append_seam}
use Rattle.std.proofs.lemmas.Bool.{cases_lt}
use Rattle.std.proofs.lemmas.Int.{ints, fold-int_min_bounds}
use Rattle.std.proofs.lemmas.List.{get_or_append_left, get_or-map, length-map}
use Rattle.std.proofs.lemmas.List.Elements.{All-get_or}
use Rattle.opgen_num.specs.declared.format.Ratio.{Ratio}
use Rattle.opgen_num.specs.Rounding.{distance}
use Rattle.opgen_num.specs.Words.{nat, word}
use Rattle.opgen_num.proofs.Words.{nat-below, word-nat}
use Rattle.opgen_kcm.specs.declared.chunk.Chunk.{Chunk}
use Rattle.opgen_kcm.specs.Chunks.{digit_of}
use Rattle.opgen_kcm.specs.Entries.{entry, entries, all_entries, least_of, offsets}

pub length-entries : (q : Ratio) (c : Chunk) (n : ℕ) → length (entries q c n) ≡ n
length-entries q c zero = refl
length-entries q c (suc n) =
    omega (arith, length-append (entries q c n) (entry q c (digit_of c (word c.width n)) ∷ []), length-entries q c n)

pub get_or-entries : (q : Ratio) (c : Chunk) (n i : ℕ) (d : ℤ) → i < n
    → get_or (entries q c n) i d ≡ entry q c (digit_of c (word c.width i))
get_or-entries q c zero i d h = absurd (omega (arith, h))
get_or-entries q c (suc n) i d h =
    let before = entries q c n in
    let last = entry q c (digit_of c (word c.width n)) in
    let size = length-entries q c n in
    elim (cases_lt i n) [
      | inl l ↦ get_or_append_left before (last ∷ []) d i (omega (arith, l, size)) ∙ get_or-entries q c n i d l
      | inr l ↦
          let at : i ≡ n = omega (arith, l, h) in
          ap (λ k. get_or (before ++ last ∷ []) k d) (at ∙ sym size)
          ∙ get_or-append_seam before last [] d
          ∙ ap (λ k. entry q c (digit_of c (word c.width k))) (sym at)
    ]

-- the entry that the bits of a chunk address
pub addressed : (q : Ratio) (c : Chunk) (bits : List Bool) (d : ℤ) → length bits ≡ c.width
    → get_or (all_entries q c) (nat bits) d ≡ entry q c (digit_of c bits)
addressed q c bits d size =
    let below : nat bits < 2 ^ c.width = subst (λ k. nat bits < 2 ^ k) size (nat-below bits) in
    get_or-entries q c (2 ^ c.width) (nat bits) d below
    ∙ ap (λ k. entry q c (digit_of c (word k (nat bits)))) (sym size)
    ∙ ap (λ w. entry q c (digit_of c w)) (word-nat bits)

pub least-below : (es : List ℤ) → All (λ e. least_of es ≤ℤ e) es
least-below es = (fold-int_min_bounds (slice_index_or es 0 (pos 0)) es (least_of es) refl).1

pub length-offsets : (es : List ℤ) → length (offsets es) ≡ length es
length-offsets es = length-map es (λ e. distance e (least_of es))

-- the least and the offset make the number
pub offset-above : (es : List ℤ) (i : ℕ) → i < length es → least_of es +ℤ pos (get_or (offsets es) i 0) ≡ get_or es i (pos 0)
offset-above es i h =
    let e = get_or es i (pos 0) in
    let low : least_of es ≤ℤ e = All-get_or (λ f. least_of es ≤ℤ f) es i (pos 0) h (least-below es) in
    let offset : get_or (offsets es) i 0 ≡ distance e (least_of es) = get_or-map (λ f. distance f (least_of es)) es i (pos 0) 0 h in
    omega (arith, ints, low, offset)

pub addressed-offset : (q : Ratio) (c : Chunk) (bits : List Bool) → length bits ≡ c.width
    → least_of (all_entries q c) +ℤ pos (get_or (offsets (all_entries q c)) (nat bits) 0) ≡ entry q c (digit_of c bits)
addressed-offset q c bits size =
    let below : nat bits < 2 ^ c.width = subst (λ k. nat bits < 2 ^ k) size (nat-below bits) in
    offset-above (all_entries q c) (nat bits) (omega (arith, below, length-entries q c (2 ^ c.width))) ∙ addressed q c bits (pos 0) size
