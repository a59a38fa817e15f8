-- The two rows that are left, and their sum.
use Rattle.std.proofs.Common.{◌≡◌, ℕ, zero, suc, ◌+◌, ◌*◌, ◌%◌, ◌^◌, ◌<◌, ◌≤◌, Bool, true, false, List, [], ◌∷◌, ◌++◌, length, map, reverse, Some, refl, sym, ap, ◌∙◌, subst, arith}
use Rattle.std.specs.Prelude.{ℤ, All, slice_index, slice_index_or, option_and_then, None, if◌then◌else◌}
use Rattle.std.proofs.Math.Nat.{add-mul-mod_self_left, mod-eq_of_lt}
use Rattle.std.proofs.lemmas.List.{length-map, length-reverse, map-append, reverse-append}
use Rattle.std.proofs.lemmas.List.Elements.{All-cons, All-nil, All-push}
use Rattle.std.proofs.lemmas.Bool.{eq-eqb}
use Rattle.opgen_num.proofs.Carries.{sum-carry}
use Rattle.opgen_num.specs.Words.{digit, nat, word, sum_with}
use Rattle.opgen_num.specs.WordLaws.{nat-word, length-word}
use Rattle.opgen_num.proofs.Words.{nat-below}
use Rattle.opgen_heap.specs.Contents.{Contents}
use Rattle.opgen_heap.specs.Sum.{Words, bit_under, ones, columns_sum}
use Rattle.opgen_net.specs.declared.cell.Class.TheVariants.{Add}
use Rattle.opgen_design.specs.declared.expr.Op.TheVariants.{Plus}
use Rattle.opgen_net.specs.declared.net.Net.{Net}
use Rattle.opgen_net.specs.declared.node.Node.{Node}
use Rattle.opgen_net.specs.declared.node.Node.TheVariants.{Cells}
use Rattle.opgen_net.specs.declared.word_bits.WordBit.{WordBit}
use Rattle.opgen_net.specs.declared.word_bits.WordBit.TheVariants.{Zero, One, Of}
use Rattle.opgen_design.specs.Tree.{name, none, more}
use Rattle.opgen_net.specs.Flow.{Inputs, flow}
use Rattle.opgen_net.specs.Grown.{HasGrown}
use Rattle.opgen_net.specs.Valid.{widths, IsValid, FitsNodes}
use Rattle.opgen_design.specs.Value.{IsWidth, joined, width, width_on}
use Rattle.opgen_net.specs.WordRule.{IsThere, HasBits, bit_flow, word_flow, with_word}
use Rattle.opgen_net.proofs.Appending.{flow-append_last}
use Rattle.opgen_net.proofs.Grown.{grown-flow}
use Rattle.opgen_net.proofs.FlowLaws.{index_within, length-widths}
use Rattle.opgen_design.proofs.WidthLaws.{length-sum_with}
use Rattle.opgen_compress.specs.Adder.{two}
use Rattle.opgen_compress.specs.Recipe.{Column, State, all_columns, heights_below, lowered, row, fullest}
use Rattle.opgen_heap.specs.Standing.{AllThere}
use Rattle.opgen_compress.specs.Kept.{words_at, IsSumOfColumns, IsSumOf}
use Rattle.opgen_compress.proofs.Ones.{with_ones-sum, with_ones-length, with_ones-there}
use Rattle.opgen_compress.proofs.Passed.{Passed, all-passed}
use Rattle.opgen_net.proofs.Later.{Later, word-grown, words-later, word-nodes}
use Rattle.opgen_net.proofs.WordLaws.{name-width}
use Rattle.opgen_net.proofs.BitLists.{reverse-cons}
use Rattle.opgen_heap.proofs.Kept.{bit-kept}
use Rattle.opgen_compress.proofs.Firsts.{first_of, rest_of, first_column, rest_columns}

-- lists in reverse

reverse-map_reverse : {A B : Type 0} (f : A → B) (xs : List A) → reverse (map f (reverse xs)) ≡ map f xs
reverse-map_reverse f [] = refl
reverse-map_reverse f (x ∷ xs) =
    ap (λ l. reverse (map f l)) (reverse-cons x xs)
    ∙ ap reverse (map-append f (reverse xs) (x ∷ []))
    ∙ reverse-append (map f (reverse xs)) (f x ∷ [])
    ∙ ap (λ l. f x ∷ l) (reverse-map_reverse f xs)

All-reverse : (P : WordBit → Type 0) (bs : List WordBit) → All P bs → All P (reverse bs)
All-reverse P [] h = h
All-reverse P (b ∷ bs) h = subst (All P) (sym (reverse-cons b bs))
    (All-push P (reverse bs) b (All-reverse P bs (rest_of P b bs h)) (first_of P b bs h))

-- the bits of a row, that of the lowest column first
abbrev pub picked : (place : ℕ) → List Column → List WordBit
picked place columns = map (λ column. slice_index_or column place Zero) columns

bit-there : (P : WordBit → Type 0) → P Zero → (column : Column) (place : ℕ) → All P column → P (slice_index_or column place Zero)
bit-there P z [] place h = z
bit-there P z (b ∷ bs) zero h = first_of P b bs h
bit-there P z (b ∷ bs) (suc k) h = bit-there P z bs k (rest_of P b bs h)

picked-there : (net : Net) (place : ℕ) (columns : List Column) → AllThere net columns
    → All (IsThere (widths net.nodes)) (picked place columns)
picked-there net place [] h = All-nil (IsThere (widths net.nodes))
picked-there net place (c ∷ cs) h =
    let P = IsThere (widths net.nodes) in
    All-cons P (slice_index_or c place Zero) (picked place cs) (bit-there P tt c place (first_column (All P) c cs h))
    (picked-there net place cs (rest_columns (All P) c cs h))

pub row-there : (net : Net) (place : ℕ) (columns : List Column) → AllThere net columns
    → All (IsThere (widths net.nodes)) (row place columns)
row-there net place columns h = All-reverse (IsThere (widths net.nodes)) (picked place columns) (picked-there net place columns h)

pub row-length : (place : ℕ) (columns : List Column) → length (row place columns) ≡ length columns
row-length place columns = length-reverse (picked place columns)
    ∙ length-map columns (λ (column : Column). slice_index_or column place Zero)

bits-flow : (nodes : List Node) (inputs : Inputs) (t : ℤ) (bs : List WordBit) → map (bit_flow nodes inputs t) bs
    ≡ map (bit_under (words_at nodes inputs t)) bs
bits-flow nodes inputs t [] = refl
bits-flow nodes inputs t (Zero ∷ bs) = ap (λ l. false ∷ l) (bits-flow nodes inputs t bs)
bits-flow nodes inputs t (One ∷ bs) = ap (λ l. true ∷ l) (bits-flow nodes inputs t bs)
bits-flow nodes inputs t (Of node index ∷ bs) = ap (λ l. slice_index_or (flow nodes inputs node t) index false ∷ l)
    (bits-flow nodes inputs t bs)

row-word : (nodes : List Node) (inputs : Inputs) (t : ℤ) (place : ℕ) (columns : List Column)
    → word_flow nodes inputs (row place columns) t ≡ map (bit_under (words_at nodes inputs t)) (picked place columns)
row-word nodes inputs t place columns = reverse-map_reverse (bit_flow nodes inputs t) (picked place columns)
    ∙ bits-flow nodes inputs t (picked place columns)

bits-kept : (old new : Net) → Later old new → (inputs : Inputs) (t : ℤ) (bs : List WordBit) → All (IsThere (widths old.nodes)) bs
    → map (bit_under (words_at new.nodes inputs t)) bs ≡ map (bit_under (words_at old.nodes inputs t)) bs
bits-kept old new l inputs t [] h = refl
bits-kept old new l inputs t (b ∷ bs) h =
    let P = IsThere (widths old.nodes) in
    ap (λ x. x ∷ map (bit_under (words_at new.nodes inputs t)) bs) (bit-kept old new l.grown inputs t b (first_of P b bs h))
    ∙ ap (λ r. bit_under (words_at old.nodes inputs t) b ∷ r) (bits-kept old new l inputs t bs (rest_of P b bs h))

-- numbers of rows

module _ (words : Words) where
  abbrev number : (place : ℕ) → List Column → ℕ
  number place columns = nat (map (bit_under words) (picked place columns))

  two-bits : (c : Column) → length c ≤ 2 → ones words c
      ≡ digit (bit_under words (slice_index_or c 0 Zero)) + digit (bit_under words (slice_index_or c 1 Zero))
  two-bits [] h = refl
  two-bits (a ∷ []) h = refl
  two-bits (a ∷ b ∷ []) h = omega arith
  two-bits (a ∷ b ∷ c ∷ rest) h = absurd (omega (arith, h))

  two-rows : (columns : List Column) → fullest columns ≤ 2 → columns_sum words columns ≡ number 0 columns + number 1 columns
  two-rows [] h = refl
  two-rows (c ∷ cs) h = omega (arith, two-bits c (omega (arith, h)), two-rows cs (omega (arith, h)))

  one-bit : (c : Column) → length c < 2 → digit (bit_under words (slice_index_or c 1 Zero)) ≡ 0
  one-bit [] h = refl
  one-bit (a ∷ []) h = refl
  one-bit (a ∷ b ∷ rest) h = absurd (omega (arith, h))

  one-row : (columns : List Column) → fullest columns < 2 → number 1 columns ≡ 0
  one-row [] h = refl
  one-row (c ∷ cs) h = omega (arith, one-bit c (omega (arith, h)), one-row cs (omega (arith, h)))

  number-below : (place : ℕ) (columns : List Column) → number place columns < 2 ^ length columns
  number-below place columns =
      let bits = map (bit_under words) (picked place columns) in
      let long : length bits ≡ length columns = length-map (picked place columns) (bit_under words)
      ∙ length-map columns (λ (column : Column). slice_index_or column place Zero) in
      subst (λ n. nat bits < 2 ^ n) long (nat-below bits)

sum-number : (width : ℕ) (a b : List Bool) → length a ≡ width → length b ≡ width → nat (sum_with false a b) ≡ (nat a + nat b) % 2 ^ width
sum-number width a b h g =
    let same : length a ≡ length b = h ∙ sym g in
    let c = sum-carry false a b same in
    let long : length (sum_with false a b) ≡ width = length-sum_with false a b same ∙ h in
    let below : nat (sum_with false a b) < 2 ^ width = subst (λ n. nat (sum_with false a b) < 2 ^ n) long
    (nat-below (sum_with false a b)) in
    let total : nat a + nat b ≡ nat (sum_with false a b) + 2 ^ width * c.0 = omega (arith, c.1, ap (λ n. 2 ^ n * c.0) h) in
    sym (ap (λ n. n % 2 ^ width) total ∙ add-mul-mod_self_left (nat (sum_with false a b)) (2 ^ width) c.0 ∙ mod-eq_of_lt below)

-- a word more

pub word-later : (net new : Net) (bits : List WordBit) → new ≡ record net { nodes = (with_word net.nodes bits).nodes } → IsValid new
    → Later net new
word-later net new bits e v = record { valid = v; grown = subst (HasGrown net) (sym e) (word-grown net bits) }

-- the sum of two nodes of one width

pub node-there : (net : Net) (n width : ℕ) → IsWidth width → slice_index (widths net.nodes) n ≡ width → n < length net.nodes
node-there net n width w h = omega (arith, index_within (widths net.nodes) n 0 (omega (arith, h, w.0)), length-widths net.nodes)

pub sum-fits : (net : Net) (a b width : ℕ) → IsWidth width → slice_index (widths net.nodes) a ≡ width → slice_index (widths net.nodes) b
    ≡ width
    → FitsNodes (widths net.nodes) width (two Plus (name a) (name b))
sum-fits net a b width w h g =
    let ws = widths net.nodes in
    record {
      has_width = ap (option_and_then (λ v. width_on ws [] Plus v (more (name b) none))) (name-width ws a width w h)
          ∙ ap (option_and_then (λ v. option_and_then (λ u. Some u) (joined Plus width v))) (name-width ws b width w g)
          ∙ ap (λ (c : Bool). option_and_then (λ u. Some u) (if c then Some width else None)) (eq-eqb width width refl);
      nests = omega arith;
    }

-- what the rows give

module _ (net : Net) (columns : List Column) (width : ℕ) (many : length columns ≡ width) where
  pub single-sum : (new : Net) (a : ℕ) → fullest columns < 2 → HasBits net (row 0 columns) new.nodes a
      → IsSumOfColumns net columns width new.nodes a
  single-sum new a h bits inputs t words =
      let ws = words_at net.nodes inputs t in
      let value : nat (flow new.nodes inputs a t)
      ≡ columns_sum ws columns = ap nat (bits inputs t words ∙ row-word net.nodes inputs t 0 columns)
      ∙ omega (arith, two-rows ws columns (omega (arith, h)), one-row ws columns h) in
      let below : columns_sum ws columns < 2 ^ width = subst (λ n. columns_sum ws columns < 2 ^ n) many
      (omega (arith, number-below ws 0 columns, two-rows ws columns (omega (arith, h)), one-row ws columns h)) in
      value ∙ sym (mod-eq_of_lt below)

  pub rows-sum : (one two_words new : Net) (a b n : ℕ) → Later net one → Later one two_words → IsWidth width → fullest columns ≤ 2
      → AllThere net columns
      → HasBits net (row 0 columns) one.nodes a → HasBits one (row 1 columns) two_words.nodes b
      → slice_index (widths one.nodes) a ≡ width
      → new ≡ record two_words { nodes = two_words.nodes ++ Cells Add width (two Plus (name a) (name b)) ∷ [] } → n ≡ length two_words.nodes
      → IsSumOfColumns net columns width new.nodes n
  rows-sum one two_words new a b n later after w full there first second wide e p inputs t words =
      let ws = words_at net.nodes inputs t in
      let low = map (bit_under ws) (picked 0 columns) in
      let high = map (bit_under ws) (picked 1 columns) in
      let of_a : flow two_words.nodes inputs a t ≡ low =
      grown-flow one two_words after.grown inputs a t (node-there one a width w wide) ∙ first inputs t words
      ∙ row-word net.nodes inputs t 0 columns in
      let of_b : flow two_words.nodes inputs b t ≡ high =
      second inputs t (words-later net one later inputs words) ∙ row-word one.nodes inputs t 1 columns
      ∙ bits-kept net one later inputs t (picked 1 columns) (picked-there net 1 columns there) in
      let sum : Node = Cells Add width (two Plus (name a) (name b)) in
      let of_sum : flow new.nodes inputs n t ≡ sum_with false (flow two_words.nodes inputs a t) (flow two_words.nodes inputs b t) =
      ap (λ (m : Net). flow m.nodes inputs n t) e ∙ ap (λ k. flow (two_words.nodes ++ sum ∷ []) inputs k t) p
      ∙ flow-append_last two_words.nodes sum inputs t in
      ap nat (of_sum ∙ ap (λ v. sum_with false v (flow two_words.nodes inputs b t)) of_a ∙ ap (sum_with false low) of_b)
      ∙ sum-number width low high (long ws 0) (long ws 1)
      ∙ ap (λ k. k % 2 ^ width) (sym (two-rows ws columns full))
    where
      long : (ws : Words) (place : ℕ) → length (map (bit_under ws) (picked place columns)) ≡ width
      long ws place = length-map (picked place columns) (bit_under ws)
          ∙ length-map columns (λ (column : Column). slice_index_or column place Zero) ∙ many

-- the whole

heap-columns : (words : Words) (heap : Contents) → length heap.columns ≤ heap.width → heap.constant < 2 ^ heap.width
    → columns_sum words (all_columns heap) ≡ columns_sum words heap.columns + heap.constant
heap-columns words heap h k =
    let bits = word heap.width heap.constant in
    omega (
      arith,
      with_ones-sum words bits heap.columns (omega (arith, h, length-word heap.width heap.constant)),
      nat-word heap.width heap.constant k,
    )

pub all_columns-length : (heap : Contents) → length (all_columns heap) ≡ heap.width
all_columns-length heap = with_ones-length (word heap.width heap.constant) heap.columns ∙ length-word heap.width heap.constant

pub all_columns-there : (net : Net) (heap : Contents) → AllThere net heap.columns → AllThere net (all_columns heap)
all_columns-there net heap h = with_ones-there net (word heap.width heap.constant) heap.columns h

pub all-lowered : (net : Net) (heap : Contents) → IsValid net → AllThere net heap.columns
    → Passed net [] (all_columns heap) (lowered net (all_columns heap))
all-lowered net heap v h = all-passed (heights_below (fullest (all_columns heap))) net (all_columns heap) v (all_columns-there net heap h)

-- the columns that are left have the sum of the heap
pub heap-sum : (net : Net) (heap : Contents) (s : State) (after : List Node) (n : ℕ) → length heap.columns ≤ heap.width
    → heap.constant < 2 ^ heap.width
    → Passed net [] (all_columns heap) s → IsSumOfColumns s.net s.columns heap.width after n → IsSumOf net heap after n
heap-sum net heap s after n h k p sum inputs t words =
    let before = words_at net.nodes inputs t in
    let left = columns_sum (words_at s.net.nodes inputs t) s.columns in
    let d = p.sum inputs t words in
    let same : 2 ^ length (all_columns heap) * d.0 ≡ 2 ^ heap.width * d.0 = ap (λ m. 2 ^ m * d.0) (all_columns-length heap) in
    let total : columns_sum before heap.columns + heap.constant
    ≡ left + 2 ^ heap.width * d.0 = omega (arith, d.1, same, heap-columns before heap h k) in
    sum inputs t (words-later net s.net p.later inputs words)
    ∙ sym (ap (λ m. m % 2 ^ heap.width) total ∙ add-mul-mod_self_left left (2 ^ heap.width) d.0)
