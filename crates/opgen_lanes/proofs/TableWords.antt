-- The words of tables, by the places of their rows.
use Rattle.std.proofs.Common.{◌≡◌, ℕ, zero, suc, ◌+◌, ◌-◌, ◌*◌, ◌^◌, ◌<◌, ◌≤◌, Bool, true, false, not, ◌&&◌, if◌then◌else◌, All, List, [], ◌∷◌, ◌++◌, length, map, take, drop, get_or, Option, Some, inl, inr, ◌⊎◌, refl, sym, ap, ◌∙◌, arith}
use Rattle.std.specs.Prelude.{nat_eq, unwrap_or}
use Rattle.std.proofs.lemmas.Bool.{cases_eq, cond-true, cond-false, eq-eqb, ne_eqb}
use Rattle.std.proofs.lemmas.List.{drop_more, get_or-map, length-map, length-take-le, map-append, take_all, take_more}
use Rattle.std.proofs.lemmas.Option.{slice_get-get_or, get_or_from_slice_get}
use Rattle.std.proofs.Math.Seq.{take-nil, drop-nil}
use Rattle.std.proofs.Math.ListN.{drop_of_length-le}
use Rattle.opgen_num.specs.Words.{digit, nat}
use Rattle.opgen_num.proofs.Cuts.{nat-append}
use Rattle.opgen_num.proofs.Words.{nat-below}
use Rattle.opgen_runs.specs.Evaluate.{table_word}
use Rattle.opgen_runs.specs.Tables.{Row, row_word}
use Rattle.opgen_streams.specs.Streams.{bit_in, word_in}
use Rattle.opgen_lanes.specs.Tables.{word_of}

pub all-rows : (rows : List Row) (other address : List Bool) → table_word (drop (length rows - 0) rows) other address ≡ other
all-rows rows other address = ap (λ rs. table_word rs other address) (drop_of_length-le rows (omega arith))

found : (b : Bool) (word other : List Bool) (rest : Option (List Bool))
    → (if b then word else unwrap_or rest other) ≡ unwrap_or (if b then Some word else rest) other
found true word other rest = refl
found false word other rest = refl

any-else : (rows : List Row) (i : ℕ) (x y : Row) → i < length rows → get_or rows i x ≡ get_or rows i y
any-else rows i x y l = get_or_from_slice_get rows i (get_or rows i y) x (slice_get-get_or rows i y l)

-- one row more, before those that were looked at
pub row-before : (rows : List Row) (other address : List Bool) (x y : Row) (past : ℕ) → past < length rows
    → (if nat_eq (nat (get_or rows (length rows - 1 - past) x).0) (nat address) then (get_or rows (length rows - 1 - past) y).1
    else table_word (drop (length rows - past) rows) other address)
    ≡ table_word (drop (length rows - (past + 1)) rows) other address
row-before rows other address x y past l =
    let j = length rows - 1 - past in
    let b : j < length rows = omega (arith, l) in
    let r = get_or rows j x in
    let rest = table_word (drop (length rows - past) rows) other address in
    let n : length rows - (past + 1) ≡ j = omega arith in
    let m : j + 1 ≡ length rows - past = omega (arith, l) in
    let split : drop (length rows - (past + 1)) rows ≡ r ∷ drop (length rows - past) rows =
    ap (λ i. drop i rows) n ∙ drop_more rows j x b ∙ ap (λ i. r ∷ drop i rows) m in
    ap (λ q. if nat_eq (nat r.0) (nat address) then q.1 else rest) (any-else rows j y x b)
    ∙ found (nat_eq (nat r.0) (nat address)) r.1 other (row_word (drop (length rows - past) rows) (nat address))
    ∙ sym (ap (λ rs. table_word rs other address) split)

pub no-rows-left : (rows : List Row) (other address : List Bool) (past : ℕ) → length rows ≤ past
    → table_word (drop (length rows - past) rows) other address ≡ table_word rows other address
no-rows-left rows other address past l =
    let n : length rows - past ≡ 0 = omega (arith, l) in
    ap (λ i. table_word (drop i rows) other address) n

-- one more row at its place
pub one-more-row : (rows : List Row) (place : ℕ) (x : Row) → place < length rows
    → ((i : ℕ) → i < place → get_or (map (λ r. nat r.0) rows) i 0 ≡ i) → nat (get_or rows place x).0 ≡ place
    → (i : ℕ) → i < place + 1 → get_or (map (λ r. nat r.0) rows) i 0 ≡ i
one-more-row rows place x l h e i m = by-order (cases_eq i place)
  where
    by-order : (i ≡ place) ⊎ (i ≡ place → ⊥) → get_or (map (λ r. nat r.0) rows) i 0 ≡ i
    by-order (inl q) = ap (λ j. get_or (map (λ r. nat r.0) rows) j 0) q ∙ get_or-map (λ r. nat r.0) rows place x 0 l ∙ e ∙ sym q
    by-order (inr q) = h i (omega (arith, m, q))

-- rows at the addresses from a first one on
rows-from : (rows : List Row) (other : List Bool) (first n : ℕ)
    → ((i : ℕ) → i < length rows → get_or (map (λ r. nat r.0) rows) i 0 ≡ first + i)
    → unwrap_or (row_word rows (first + n)) other ≡ word_of rows other n
rows-from [] other first n h = refl
rows-from (r ∷ rows) other first zero h =
    let e : nat r.0 ≡ first + 0 = h 0 (omega arith) in
    ap (λ o. unwrap_or o other) (cond-true (nat_eq (nat r.0) (first + 0)) (Some r.1) (row_word rows (first + 0)) (eq-eqb (nat r.0) (first + 0) e))
rows-from (r ∷ rows) other first (suc n) h =
    let e : nat r.0 ≡ first + 0 = h 0 (omega arith) in
    let next : first + suc n ≡ suc first + n = omega arith in
    ap (λ o. unwrap_or o other) (cond-false (nat_eq (nat r.0) (first + suc n)) (Some r.1) (row_word rows (first + suc n))
    (ne_eqb (nat r.0) (first + suc n) (λ q. omega (arith, e, q))))
    ∙ ap (λ m. unwrap_or (row_word rows m) other) next
    ∙ rows-from rows other (suc first) n (λ i l. h (suc i) (omega (arith, l)) ∙ omega arith)

pub in-order : (rows : List Row) (other address : List Bool) → ((i : ℕ) → i < length rows → get_or (map (λ r. nat r.0) rows) i 0 ≡ i)
    → table_word rows other address ≡ word_of rows other (nat address)
in-order rows other address h =
    let n : nat address ≡ 0 + nat address = omega arith in
    ap (λ m. unwrap_or (row_word rows m) other) n ∙ rows-from rows other 0 (nat address) (λ i l. h i l ∙ omega arith)

-- the rows below a place, and those from it on
pub lower-rows : (rows : List Row) (other : List Bool) (p n : ℕ) → n < p → word_of (take p rows) other n ≡ word_of rows other n
lower-rows [] other p n l = ap (λ rs. word_of rs other n) (take-nil p)
lower-rows (r ∷ rows) other zero n l = absurd (omega (arith, l))
lower-rows (r ∷ rows) other (suc p) zero l = refl
lower-rows (r ∷ rows) other (suc p) (suc n) l = lower-rows rows other p n (omega (arith, l))

pub upper-rows : (rows : List Row) (other : List Bool) (p n : ℕ) → word_of (drop p rows) other n ≡ word_of rows other (p + n)
upper-rows [] other p n = ap (λ rs. word_of rs other n) (drop-nil p)
upper-rows (r ∷ rows) other zero n = ap (word_of (r ∷ rows) other) (omega arith)
upper-rows (r ∷ rows) other (suc p) n =
    let e : suc (p + n) ≡ suc p + n = omega arith in
    upper-rows rows other p n ∙ ap (word_of (r ∷ rows) other) e

pub word-width : (rows : List Row) (other : List Bool) (n : ℕ) → All (λ r. length r.1 ≡ length other) rows
    → length (word_of rows other n) ≡ length other
word-width [] other n h = refl
word-width (r ∷ rows) other zero h = h 0 r (omega arith)
word-width (r ∷ rows) other (suc n) h = word-width rows other n (λ i q l. h (suc i) q (omega (arith, l)))

-- the word of a row that is there, and that past the rows
pub word-there : (rows : List Row) (other : List Bool) (place : ℕ) (x : Row) → place < length rows → (get_or rows place x).1 ≡ word_of rows other place
word-there [] other place x l = absurd (omega (arith, l))
word-there (r ∷ rows) other zero x l = refl
word-there (r ∷ rows) other (suc place) x l = word-there rows other place x (omega (arith, l))

pub word-past : (rows : List Row) (other : List Bool) (place : ℕ) → length rows ≤ place → word_of rows other place ≡ other
word-past [] other place l = refl
word-past (r ∷ rows) other zero l = absurd (omega (arith, l))
word-past (r ∷ rows) other (suc place) l = word-past rows other place (omega (arith, l))

-- the number of an address, by its highest bit
pub address-split : (address : List (List ℕ)) (top k : ℕ) → length address ≡ top + 1
    → nat (word_in address k) ≡ nat (word_in (take top address) k) + 2 ^ top * digit (bit_in (get_or address top []) k)
address-split address top k n =
    let low = word_in (take top address) k in
    let bit = bit_in (get_or address top []) k in
    let whole : address ≡ take top address ++ get_or address top [] ∷ [] =
    sym (take_all (top + 1) address (omega (arith, n))) ∙ take_more address top [] (omega (arith, n)) in
    let split : word_in address k ≡ low ++ bit ∷ [] =
    ap (λ vs. word_in vs k) whole ∙ map-append (λ v. bit_in v k) (take top address) (get_or address top [] ∷ []) in
    let long : length low ≡ top = length-map (take top address) (λ v. bit_in v k) ∙ length-take-le top address (omega (arith, n)) in
    let one : nat (bit ∷ []) ≡ digit bit = omega arith in
    ap nat split
    ∙ nat-append low (bit ∷ [])
    ∙ ap (λ w. nat low + 2 ^ w * nat (bit ∷ [])) long
    ∙ ap (λ d. nat low + 2 ^ top * d) one

pub address-below : (address : List (List ℕ)) (top k : ℕ) → top ≤ length address → nat (word_in (take top address) k) < 2 ^ top
address-below address top k l =
    let low = word_in (take top address) k in
    let long : length low ≡ top = length-map (take top address) (λ v. bit_in v k) ∙ length-take-le top address l in
    let e : 2 ^ length low ≡ 2 ^ top = ap (λ w. 2 ^ w) long in
    omega (arith, nat-below low, e)

-- the two halves of some streams, one after the other
pub halves : (here high : Bool) (last mid old lower upper word : List Bool)
    → last ≡ (if here && high then upper else mid) → mid ≡ (if here && not high then lower else old)
    → (high ≡ false → lower ≡ word) → (high ≡ true → upper ≡ word) → last ≡ (if here then word else old)
halves false high last mid old lower upper word e f x y = e ∙ f
halves true false last mid old lower upper word e f x y = e ∙ f ∙ x refl
halves true true last mid old lower upper word e f x y = e ∙ y refl

pub first-half : (here high : Bool) → here && not high ≡ true → here ≡ true
first-half false high e = e
first-half true high e = refl

-- the upper half still has zeros
pub second-half : (here high : Bool) (mid old lower : List Bool) → mid ≡ (if here && not high then lower else old)
    → here && high ≡ true → (here ≡ true → nat old ≡ 0) → nat mid ≡ 0
second-half false high mid old lower e f z = absurd (cc)
second-half true false mid old lower e f z = absurd (cc)
second-half true true mid old lower e f z = ap nat e ∙ z refl

-- the word of an address, by its highest bit
module _ (rows : List Row) (other : List Bool) (address : List (List ℕ)) (top k : ℕ) (n : length address ≡ top + 1) where
  pub lower-word : bit_in (get_or address top []) k ≡ false
      → word_of (take (2 ^ top) rows) other (nat (word_in (take top address) k)) ≡ word_of rows other (nat (word_in address k))
  lower-word e =
      let m = nat (word_in (take top address) k) in
      let same : m ≡ nat (word_in address k) = omega
      (arith, address-split address top k n, ap (λ b. 2 ^ top * digit b) e) in
      lower-rows rows other (2 ^ top) m (address-below address top k (omega (arith, n))) ∙ ap (word_of rows other) same

  pub upper-word : bit_in (get_or address top []) k ≡ true
      → word_of (drop (2 ^ top) rows) other (nat (word_in (take top address) k)) ≡ word_of rows other (nat (word_in address k))
  upper-word e =
      let m = nat (word_in (take top address) k) in
      let same : 2 ^ top + m ≡ nat (word_in address k) = omega
      (arith, address-split address top k n, ap (λ b. 2 ^ top * digit b) e) in
      upper-rows rows other (2 ^ top) m ∙ ap (word_of rows other) same

-- the words of an address of one bit
pub single : (rows : List Row) (other : List Bool) (address : List (List ℕ)) (top k : ℕ) → top ≡ 0 → length address ≡ top + 1
    → (first second : List Bool) → first ≡ word_of rows other 0 → second ≡ word_of rows other 1
    → (if bit_in (get_or address top []) k then second else first) ≡ word_of rows other (nat (word_in address k))
single rows other address top k z n first second e f =
    let m : length address ≡ 0 + 1 = omega (arith, n, z) in
    let at : get_or address top [] ≡ get_or address 0 [] = ap (λ i. get_or address i []) z in
    let place : nat (word_in address k) ≡ digit (bit_in (get_or address 0 []) k) = omega (arith, address-split address 0 k m) in
    ap (λ v. if bit_in v k then second else first) at ∙ by-bit (bit_in (get_or address 0 []) k) (nat (word_in address k)) place
  where
    by-bit : (b : Bool) (p : ℕ) → p ≡ digit b → (if b then second else first) ≡ word_of rows other p
    by-bit false p q = e ∙ ap (word_of rows other) (sym q)
    by-bit true p q = f ∙ ap (word_of rows other) (sym q)

pub either-way : (b : Bool) (w : List Bool) → (if b then w else w) ≡ w
either-way false w = refl
either-way true w = refl
