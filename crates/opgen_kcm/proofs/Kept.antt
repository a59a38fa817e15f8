-- What a table adds to the sum of a heap, and that a net that grows keeps the sum.
use Rattle.std.proofs.Common.{◌≡◌, ℕ, ◌+◌, ◌*◌, ◌%◌, ◌^◌, ◌<◌, ◌≤◌, Bool, true, false, List, [], ◌∷◌, length, map, take, drop, get_or, refl, sym, ap, ◌∙◌, subst, arith}
use Rattle.std.specs.Prelude.{ℤ, pos, ◌+ℤ◌, ◌==◌, All, slice_index, if◌then◌else◌}
use Rattle.std.proofs.Math.Nat.{mod-add-mod}
use Rattle.std.proofs.lemmas.Bool.{eqb-true}
use Rattle.std.proofs.lemmas.Int.{ints}
use Rattle.std.proofs.lemmas.List.{length-drop, length-take-le, take_all}
use Rattle.std.proofs.lemmas.Nat.{pow_pos}
use Rattle.opgen_num.specs.declared.format.Ratio.{Ratio}
use Rattle.opgen_num.specs.Rounding.{distance}
use Rattle.opgen_num.specs.Words.{nat}
use Rattle.opgen_num.proofs.Words.{nat-below}
use Rattle.opgen_heap.specs.Adding.{residue, with_constant}
use Rattle.opgen_heap.specs.Contents.{Contents}
use Rattle.opgen_heap.specs.Standing.{AllThere}
use Rattle.opgen_heap.specs.Sum.{columns_sum}
use Rattle.opgen_heap.proofs.Bits.{with_row-all}
use Rattle.opgen_heap.proofs.Kept.{sum-kept}
use Rattle.opgen_heap.proofs.Standing.{columns-still_there}
use Rattle.opgen_heap.proofs.Sums.{with_row-width, with_row-sum, with_constant-sum}
use Rattle.opgen_net.specs.declared.net.Net.{Net}
use Rattle.opgen_net.specs.declared.node.Node.TheVariants.{Table}
use Rattle.opgen_net.specs.Flow.{Inputs, flow}
use Rattle.opgen_net.specs.Grown.{HasGrown}
use Rattle.opgen_net.specs.Valid.{IsValid, widths, input_widths}
use Rattle.opgen_net.specs.WordRule.{IsThere, bits_from, with_word}
use Rattle.opgen_net.proofs.Appending.{flow-append_last, width-append_last}
use Rattle.opgen_net.proofs.FlowWidths.{flow-width}
use Rattle.opgen_net.proofs.BitLists.{bits_from-there, bits_from-flow}
use Rattle.opgen_net.proofs.Grown.{grown-same, grown-more, grown-then}
use Rattle.opgen_net.proofs.Later.{word-grown}
use Rattle.opgen_net.proofs.WordLaws.{word-has_bits}
use Rattle.opgen_design.specs.Run.{AreWords}
use Rattle.opgen_kcm.specs.declared.chunk.Chunk.{Chunk}
use Rattle.opgen_kcm.specs.Chunks.{chunk_word, digit_of}
use Rattle.opgen_kcm.specs.Entries.{entry, all_entries, least_of, offsets, greatest_of, shape_of, rows_in}
use Rattle.opgen_kcm.specs.Recipe.{Terms, with_rows_in, with_table, with_entries, input_width, HasTermsMore}
use Rattle.opgen_kcm.specs.Multiple.{sum_at}
use Rattle.opgen_kcm.proofs.Entries.{length-entries, length-offsets, addressed-offset}
use Rattle.opgen_heap.proofs.Residues.{residue-add}
use Rattle.opgen_kcm.proofs.Shapes.{fold-each, length-row, row-number}

module _ (old : Terms) (valid : IsValid old.net) (input : ℕ) (c : Chunk) (within : c.low + c.width ≤ input_width old.net input) where
  -- the word of a chunk
  chunk-flow : (inputs : Inputs) (t : ℤ) → All (AreWords (input_widths old.net)) inputs
      → flow (with_word old.net.nodes (bits_from input c.low c.width)).nodes inputs
      (with_word old.net.nodes (bits_from input c.low c.width)).place t ≡ chunk_word c (flow old.net.nodes inputs input t)
  chunk-flow inputs t words =
      word-has_bits old.net valid (bits_from input c.low c.width)
      (bits_from-there (widths old.net.nodes) input c.low c.width within) inputs t words
      ∙ bits_from-flow old.net.nodes inputs t input c.low c.width (omega (arith, flow-width old.net valid inputs words input t, within))

  pub chunk-length : (inputs : Inputs) (t : ℤ) → All (AreWords (input_widths old.net)) inputs
      → length (chunk_word c (flow old.net.nodes inputs input t)) ≡ c.width
  chunk-length inputs t words =
      let x = flow old.net.nodes inputs input t in
      length-take-le c.width (drop c.low x) (omega (arith, length-drop c.low x, flow-width old.net valid inputs words input t, within))

  module _ (ns : List ℕ) (size : length ns ≡ 2 ^ c.width) where
    offset-there : (inputs : Inputs) (t : ℤ) → All (AreWords (input_widths old.net)) inputs
        → nat (chunk_word c (flow old.net.nodes inputs input t)) < length ns
    offset-there inputs t words =
        let bits = chunk_word c (flow old.net.nodes inputs input t) in
        omega (arith, size, subst (λ k. nat bits < 2 ^ k) (chunk-length inputs t words) (nat-below bits))

    -- a table on the chunk

    rows-grown : HasGrown old.net (with_rows_in (shape_of ns) input c ns old).net
    rows-grown =
        let address = with_word old.net.nodes (bits_from input c.low c.width) in
        let one : Net = record old.net { nodes = address.nodes } in
        grown-then old.net one (with_rows_in (shape_of ns) input c ns old).net
        (word-grown old.net (bits_from input c.low c.width)) (grown-more one (Table address.place (rows_in (shape_of ns) ns) ∷ []) refl)

    rows-more : HasTermsMore old (with_rows_in (shape_of ns) input c ns old)
    rows-more =
        let new = with_rows_in (shape_of ns) input c ns old in
        let s = shape_of ns in
        let address = with_word old.net.nodes (bits_from input c.low c.width) in
        let table = Table address.place (rows_in s ns) in
        let wide : slice_index (widths new.net.nodes) (length address.nodes) ≡ s.width =
        width-append_last address.nodes table ∙ length-row ns 0 (omega (arith, size, pow_pos c.width)) in
        record {
          net = rows-grown;
          bits = λ there. with_row-all (IsThere (widths new.net.nodes)) old.heap (length address.nodes) s.width s.zeros
              (λ i h. omega (arith, h, wide)) (columns-still_there old.net new.net rows-grown old.heap.columns there);
          width = with_row-width old.heap (length address.nodes) s.width s.zeros;
        }

    rows-sum : AllThere old.net old.heap.columns → (inputs : Inputs) (t : ℤ) → All (AreWords (input_widths old.net)) inputs
        → sum_at (with_rows_in (shape_of ns) input c ns old) inputs t
        ≡ (sum_at old inputs t + get_or ns (nat (chunk_word c (flow old.net.nodes inputs input t))) 0) % 2 ^ old.heap.width
    rows-sum there inputs t words =
        let new = with_rows_in (shape_of ns) input c ns old in
        let s = shape_of ns in
        let address = with_word old.net.nodes (bits_from input c.low c.width) in
        let table = Table address.place (rows_in s ns) in
        let x = chunk_word c (flow old.net.nodes inputs input t) in
        let ws = λ (n : ℕ). flow new.net.nodes inputs n t in
        let in_table = offset-there inputs t words in
        let row : ws (length address.nodes) ≡ get_or (rows_in s ns) (nat x) [] =
        flow-append_last address.nodes table inputs t ∙ ap (λ w. get_or (rows_in s ns) (nat w) []) (chunk-flow inputs t words) in
        let whole : take s.width (ws (length address.nodes)) ≡ get_or (rows_in s ns) (nat x) [] =
        ap (λ w. take s.width w) row
        ∙ take_all s.width (get_or (rows_in s ns) (nat x) []) (omega (arith, length-row ns (nat x) in_table)) in
        with_row-sum ws old.heap (length address.nodes) s.width s.zeros
        ∙ ap (λ n. (n + nat (take s.width (ws (length address.nodes))) * 2 ^ s.zeros) % 2 ^ old.heap.width)
        (sum-kept old.net new.net rows-grown inputs t old.heap there)
        ∙ ap (λ w. (sum_at old inputs t + nat w * 2 ^ s.zeros) % 2 ^ old.heap.width) whole
        ∙ ap (λ n. (sum_at old inputs t + n) % 2 ^ old.heap.width) (row-number ns (nat x) in_table)

    -- a table where one of the numbers is not 0

    table-more : HasTermsMore old (with_table input c ns old)
    table-more = by (greatest_of ns == 0)
      where
        by : (b : Bool) → HasTermsMore old (if b then old else with_rows_in (shape_of ns) input c ns old)
        by true = record { net = grown-same old.net; bits = λ there. there; width = refl }
        by false = rows-more

    table-sum : AllThere old.net old.heap.columns → (inputs : Inputs) (t : ℤ) → All (AreWords (input_widths old.net)) inputs
        → sum_at (with_table input c ns old) inputs t
        ≡ (sum_at old inputs t + get_or ns (nat (chunk_word c (flow old.net.nodes inputs input t))) 0) % 2 ^ old.heap.width
    table-sum there inputs t words = by (greatest_of ns == 0) (eqb-true (greatest_of ns) 0)
      where
        x : List Bool
        x = chunk_word c (flow old.net.nodes inputs input t)

        by : (b : Bool) → (b ≡ true → greatest_of ns ≡ 0)
            → sum_at (if b then old else with_rows_in (shape_of ns) input c ns old) inputs t
            ≡ (sum_at old inputs t + get_or ns (nat x) 0) % 2 ^ old.heap.width
        by true none =
            let n = get_or ns (nat x) 0 in
            let zero_there : n ≡ 0 = omega (arith, none refl, fold-each 0 ns (nat x) (offset-there inputs t words)) in
            let total = columns_sum (λ k. flow old.net.nodes inputs k t) old.heap.columns + old.heap.constant in
            sym (mod-add-mod total (2 ^ old.heap.width) n ∙ ap (λ k. k % 2 ^ old.heap.width) (omega (arith, zero_there)))
        by false none = rows-sum there inputs t words

-- the entries of a chunk: the least in the constant, and the others above it
module _ (old : Terms) (valid : IsValid old.net) (input : ℕ) (c : Chunk) (within : c.low + c.width ≤ input_width old.net input)
    (q : Ratio) where
  pub entries-more : HasTermsMore old (with_entries input c (all_entries q c) old)
  entries-more =
      let es = all_entries q c in
      let m = table-more (record old { heap = with_constant old.heap (least_of es) }) valid input c within (offsets es)
      (length-offsets es ∙ length-entries q c (2 ^ c.width)) in
      record { net = m.net; bits = m.bits; width = m.width }

  pub entries-sum : AllThere old.net old.heap.columns → (inputs : Inputs) (t : ℤ) → All (AreWords (input_widths old.net)) inputs
      → sum_at (with_entries input c (all_entries q c) old) inputs t
      ≡ residue (pos (sum_at old inputs t) +ℤ entry q c (digit_of c (chunk_word c (flow old.net.nodes inputs input t))))
      (2 ^ old.heap.width)
  entries-sum there inputs t words =
      let es = all_entries q c in
      let m = 2 ^ old.heap.width in
      let some = pow_pos old.heap.width in
      let base : Terms = record old { heap = with_constant old.heap (least_of es) } in
      let x = chunk_word c (flow old.net.nodes inputs input t) in
      let offset = get_or (offsets es) (nat x) 0 in
      let before = sum_at old inputs t in
      let sum : (pos before +ℤ least_of es) +ℤ pos offset ≡ pos before +ℤ entry q c (digit_of c x) =
      omega (arith, ints, addressed-offset q c x (chunk-length old valid input c within inputs t words)) in
      table-sum base valid input c within (offsets es) (length-offsets es ∙ length-entries q c (2 ^ c.width)) there inputs t words
      ∙ ap (λ n. (n + offset) % m) (with_constant-sum (λ n. flow old.net.nodes inputs n t) old.heap (least_of es) some)
      ∙ residue-add (pos before +ℤ least_of es) offset m some
      ∙ ap (λ z. residue z m) sum

-- two steps

pub terms-same : (a b : Terms) → a.net ≡ b.net → a.heap ≡ b.heap → a ≡ b
terms-same a b e f =
    let net : record { net = a.net; heap = a.heap } ≡ record { net = b.net; heap = a.heap } =
    ap (λ (n : Net). record { net = n; heap = a.heap }) e in
    net ∙ ap (λ (h : Contents). record { net = b.net; heap = h }) f

pub more-then : (a b c : Terms) → HasTermsMore a b → HasTermsMore b c → HasTermsMore a c
more-then a b c p q = record {
  net = grown-then a.net b.net c.net p.net q.net;
  bits = λ there. q.bits (p.bits there);
  width = q.width
      ∙ p.width;
}

pub more-same : (s : Terms) → HasTermsMore s s
more-same s = record { net = grown-same s.net; bits = λ there. there; width = refl }

-- the least of a chunk's entries and the offsets over it, as found on the way
pub chunk-numbers : (q : Ratio) (c : Chunk) (first found : List ℤ) (z : ℤ) (ns : List ℕ) → first ≡ all_entries q c
    → found ≡ all_entries q c → z ≡ least_of first → ns ≡ map (λ e. distance e z) found
    → (z ≡ least_of (all_entries q c)) × (ns ≡ offsets (all_entries q c))
chunk-numbers q c first found z ns is_first is_found least numbers =
    let es = all_entries q c in
    let z_is : z ≡ least_of es = least ∙ ap least_of is_first in
    (z_is, numbers ∙ ap (λ y. map (λ e. distance e y) found) z_is ∙ ap (λ l. map (λ e. distance e (least_of es)) l) is_found)

-- the steps of a chunk
pub chunk-added : (old now : Terms) (base : Contents) (input : ℕ) (c : Chunk) (q : Ratio) (ns : List ℕ) → ns ≡ offsets (all_entries q c)
    → base ≡ with_constant old.heap (least_of (all_entries q c))
    → now.net ≡ (with_table input c ns (record { net = old.net; heap = base })).net
    → now.heap ≡ (with_table input c ns (record { net = old.net; heap = base })).heap
    → now ≡ with_entries input c (all_entries q c) old
chunk-added old now base input c q ns numbers constant net heap =
    terms-same now (with_table input c ns (record { net = old.net; heap = base })) net heap
    ∙ ap (λ l. with_table input c l (record { net = old.net; heap = base })) numbers
    ∙ ap (λ (h : Contents). with_table input c (offsets (all_entries q c)) (record { net = old.net; heap = h })) constant
