-- The net and the heap of a coefficient's tables.
use Rattle.std.proofs.Common.{◌≡◌, ℕ, zero, suc, ◌+◌, ◌^◌, ◌<◌, ◌≤◌, Bool, true, false, List, length, refl, sym, ap, ◌∙◌, arith}
use Rattle.std.specs.Prelude.{ℤ, pos, ◌+ℤ◌, ◌<ℤ◌, ◌==◌, All, if◌then◌else◌}
use Rattle.std.proofs.lemmas.Bool.{eq-eqb}
use Rattle.std.proofs.lemmas.Int.{ints}
use Rattle.std.proofs.lemmas.Nat.{pow_pos}
use Rattle.opgen_design.specs.Run.{AreWords}
use Rattle.opgen_design.specs.Value.{IsWidth}
use Rattle.opgen_heap.specs.Adding.{residue, with_constant}
use Rattle.opgen_heap.specs.Standing.{AllThere}
use Rattle.opgen_heap.specs.Sum.{columns_sum}
use Rattle.opgen_heap.proofs.Residues.{residue-none, residue-then}
use Rattle.opgen_kcm.specs.Chunks.{chunk_at, chunk_count, chunk_word, digit_of, number}
use Rattle.opgen_kcm.specs.Entries.{all_entries, entry, greatest_of, in_guard_units, least_of, offsets, rows_in, shape_of}
use Rattle.opgen_kcm.specs.Multiple.{HasRisen, sum_at}
use Rattle.opgen_kcm.specs.Recipe.{HasNarrowRows, HasTermsMore, Terms, input_width, with_chunks, with_entries, with_rows, with_rows_in, with_table}
use Rattle.opgen_kcm.proofs.Entries.{length-entries, length-offsets}
use Rattle.opgen_kcm.proofs.Kept.{entries-more, entries-sum, more-same, more-then}
use Rattle.opgen_kcm.proofs.Multiples.{total, total-multiple}
use Rattle.opgen_kcm.proofs.Shapes.{fits_table, some-greatest}
use Rattle.opgen_net.specs.declared.net.Net.{Net}
use Rattle.opgen_net.specs.declared.node.Node.TheVariants.{Table}
use Rattle.opgen_net.specs.declared.word_bits.WordBit.{WordBit}
use Rattle.opgen_net.specs.Flow.{Inputs, flow}
use Rattle.opgen_net.specs.Valid.{IsValid, input_widths, widths}
use Rattle.opgen_net.specs.WordRule.{IsThere, bits_from, with_word}
use Rattle.opgen_net.proofs.BitLists.{bits_from-there, length-bits_from}
use Rattle.opgen_net.proofs.FlowWidths.{are_widths, flow-width}
use Rattle.opgen_net.proofs.Grown.{grown-flow, grown-width}
use Rattle.opgen_net.proofs.Later.{Later, bits-later, later-node, words-grown}
use Rattle.opgen_net.proofs.WordLaws.{word-found_width}
use Rattle.opgen_num.specs.declared.format.Ratio.{Ratio}
use Rattle.opgen_num.specs.declared.format.TheConstants.{MAX_WIDTH}
use Rattle.opgen_heap.proofs.Heaps.{IsHeap, constant-heap, row-heap}

-- ---- a table on a chunk
module _ (old : Terms) (valid : IsValid old.net) (heap : IsHeap old.heap) (input w : ℕ) (signed : Bool) (place : ℕ)
    (here : place < chunk_count w) (there : w ≤ input_width old.net input) where
  abbrev low : ℕ
  low = (chunk_at w signed place).low

  abbrev size : ℕ
  size = (chunk_at w signed place).width

  within : low + size ≤ input_width old.net input
  within = omega (arith, here, there)

  some : 1 ≤ size
  some = omega (arith, here)

  few : size ≤ 6
  few = omega arith

  abbrev address : List WordBit
  address = bits_from input low size

  address-width : IsWidth (length address)
  address-width =
      let long = length-bits_from input low size in
      (omega (arith, long, some), omega (arith, long, few))

  address-there : All (IsThere (widths old.net.nodes)) address
  address-there = bits_from-there (widths old.net.nodes) input low size within

  abbrev one : Net
  one = record old.net { nodes = (with_word old.net.nodes address).nodes }

  one-later : Later old.net one
  one-later = bits-later old.net valid address address-width address-there

  module _ (ns : List ℕ) where
    abbrev with_rows_of : Terms
    with_rows_of = with_rows_in (shape_of ns) input (chunk_at w signed place) ns old

    rows-valid : length ns ≡ 2 ^ size → (shape_of ns).width ≤ MAX_WIDTH → 1 ≤ greatest_of ns → IsValid with_rows_of.net
    rows-valid long narrow most =
        let to = (with_word old.net.nodes address).place in
        let wide = word-found_width old.net valid address address-there ∙ length-bits_from input low size in
        let fits = fits_table ns (widths one.nodes) to size wide some few long most narrow in
        (later-node one (Table to (rows_in (shape_of ns) ns)) one-later.valid fits refl).valid

    table-valid : length ns ≡ 2 ^ size → (shape_of ns).width ≤ MAX_WIDTH
        → IsValid (with_table input (chunk_at w signed place) ns old).net
    table-valid long narrow = by (greatest_of ns == 0) refl
      where
        by : (b : Bool) → (greatest_of ns == 0) ≡ b → IsValid (if b then old else with_rows_of).net
        by true e = valid
        by false e =
            rows-valid long narrow (some-greatest (greatest_of ns) (λ none.
            let both : true ≡ false = sym (eq-eqb (greatest_of ns) 0 none) ∙ e in cc))

    table-heap : IsHeap (with_table input (chunk_at w signed place) ns old).heap
    table-heap = by (greatest_of ns == 0)
      where
        by : (b : Bool) → IsHeap (if b then old else with_rows_of).heap
        by true = heap
        by false =
            row-heap old.heap (length (with_word old.net.nodes address).nodes) (shape_of ns).width (shape_of ns).zeros heap

-- the entries of the chunk
module _ (old : Terms) (valid : IsValid old.net) (heap : IsHeap old.heap) (input w : ℕ) (signed : Bool) (place : ℕ)
    (here : place < chunk_count w) (there : w ≤ input_width old.net input) (q : Ratio) where
  abbrev entries : List ℤ
  entries = all_entries q (chunk_at w signed place)

  abbrev base : Terms
  base = record old { heap = with_constant old.heap (least_of entries) }

  base-heap : IsHeap base.heap
  base-heap = constant-heap old.heap (least_of entries) heap

  entries-long : length (offsets entries) ≡ 2 ^ (chunk_at w signed place).width
  entries-long = length-offsets entries ∙ length-entries q (chunk_at w signed place) (2 ^ (chunk_at w signed place).width)

  entries-valid : (shape_of (offsets entries)).width ≤ MAX_WIDTH
      → IsValid (with_entries input (chunk_at w signed place) entries old).net
  entries-valid narrow = table-valid base valid base-heap input w signed place here there (offsets entries) entries-long narrow

  entries-heap : IsHeap (with_entries input (chunk_at w signed place) entries old).heap
  entries-heap = table-heap base valid base-heap input w signed place here there (offsets entries)

-- ---- the chunks of an input
module _ (q : Ratio) (input width : ℕ) (signed : Bool) (old : Terms) where
  record AreChunks (count : ℕ) (now : Terms) : Type 0 where
    valid : IsValid now.net
    heap : IsHeap now.heap
    more : HasTermsMore old now
    sum : AllThere old.net old.heap.columns → (inputs : Inputs) (t : ℤ) → All (AreWords (input_widths old.net)) inputs
        → sum_at now inputs t
        ≡ residue (pos (sum_at old inputs t) +ℤ total q width signed count (flow old.net.nodes inputs input t)) (2 ^ old.heap.width)

  module _ (valid : IsValid old.net) (heap : IsHeap old.heap) (there : input < length old.net.nodes)
      (wide : input_width old.net input ≡ width) (narrow : HasNarrowRows q width signed) where
    no-chunks : AreChunks 0 old
    no-chunks = record {
      valid = valid;
      heap = heap;
      more = more-same old;
      sum = λ stands inputs t words.
          residue-none (columns_sum (λ n. flow old.net.nodes inputs n t) old.heap.columns + old.heap.constant)
          (2 ^ old.heap.width) (pow_pos old.heap.width);
    }

    one-chunk : (k : ℕ) → k < chunk_count width → (before : Terms) → AreChunks k before
        → AreChunks (suc k) (with_entries input (chunk_at width signed k) (all_entries q (chunk_at width signed k)) before)
    one-chunk k lt before i =
        let c = chunk_at width signed k in
        let now = with_entries input c (all_entries q c) before in
        let kept_width : input_width before.net input ≡ width = grown-width old.net before.net i.more.net input there ∙ wide in
        let inside : c.low + c.width ≤ width = omega (arith, lt) in
        let within : c.low + c.width ≤ input_width before.net input = omega (arith, inside, kept_width) in
        let room : width ≤ input_width before.net input = omega (arith, kept_width) in
        record {
          valid = entries-valid before i.valid i.heap input width signed k lt room q (narrow k lt);
          heap = entries-heap before i.valid i.heap input width signed k lt room q;
          more = more-then old before now i.more (entries-more before i.valid input c within q);
          sum = λ stands inputs t words.
              let x = flow old.net.nodes inputs input t in
              let kept : flow before.net.nodes inputs input t ≡ x =
              grown-flow old.net before.net i.more.net inputs input t there in
              let e = entry q c (digit_of c (chunk_word c x)) in
              let m = 2 ^ old.heap.width in
              let start = pos (sum_at old inputs t) in
              let sum : (start +ℤ total q width signed k x) +ℤ e ≡ start +ℤ total q width signed (suc k) x = omega (arith, ints) in
              entries-sum before i.valid input c within q (i.more.bits stands) inputs t
              (words-grown old.net before.net i.more.net inputs words)
              ∙ ap (λ n. residue (pos (sum_at before inputs t)
              +ℤ entry q c (digit_of c (chunk_word c (flow before.net.nodes inputs input t)))) (2 ^ n)) i.more.width
              ∙ ap (λ y. residue (pos (sum_at before inputs t) +ℤ entry q c (digit_of c (chunk_word c y))) m) kept
              ∙ ap (λ n. residue (pos n +ℤ e) m) (i.sum stands inputs t words)
              ∙ residue-then (start +ℤ total q width signed k x) e m (pow_pos old.heap.width)
              ∙ ap (λ z. residue z m) sum;
        }

    all-chunks : (k : ℕ) → k ≤ chunk_count width → AreChunks k (with_chunks q input width signed k old)
    all-chunks zero le = no-chunks
    all-chunks (suc k) le = one-chunk k (omega (arith, le)) (with_chunks q input width signed k old) (all-chunks k (omega (arith, le)))

-- ---- the tables of a coefficient
pub record AreRows (q : Ratio) (guard input : ℕ) (signed : Bool) (old now : Terms) : Type 0 where
  pub valid : IsValid now.net
  pub heap : IsHeap now.heap
  pub more : HasTermsMore old now
  pub risen : AllThere old.net old.heap.columns → (inputs : Inputs) (t : ℤ) → All (AreWords (input_widths old.net)) inputs
      → HasRisen q guard (chunk_count (input_width old.net input))
      (number signed (input_width old.net input) (flow old.net.nodes inputs input t)) old.heap.width
      (sum_at old inputs t) (sum_at now inputs t)

pub all-rows : (q : Ratio) (guard input : ℕ) (signed : Bool) (old : Terms) → pos 0 <ℤ q.den → IsValid old.net → IsHeap old.heap
    → input < length old.net.nodes → HasNarrowRows (in_guard_units q guard) (input_width old.net input) signed
    → AreRows q guard input signed old (with_rows q guard input signed old)
all-rows q guard input signed old positive valid heap there narrow =
    let w = input_width old.net input in
    let units = in_guard_units q guard in
    let all = all-chunks units input w signed old valid heap there refl narrow (chunk_count w) (omega arith) in
    record {
      valid = all.valid;
      heap = all.heap;
      more = all.more;
      risen = λ stands inputs t words. record {
        by = total units w signed (chunk_count w) (flow old.net.nodes inputs input t);
        multiple =
            total-multiple q guard w signed (flow old.net.nodes inputs input t) positive
            (flow-width old.net valid inputs words input t) (are_widths old.net.nodes valid.nodes input there).0;
        sum = all.sum stands inputs t words;
      };
    }
