use Rattle.std.proofs.Common.{◌≡◌, ◌≤◌, ◌^◌, length, ap, ◌∙◌, sym, subst, arith}
use Rattle.std.specs.Prelude.{ℕ, List}
use Rattle.std.specs.Int.{w128}
use Rattle.std.proofs.lemmas.Int.{to_z-of_z}
use Rattle.std.proofs.lemmas.Nat.{pow_pos}
use Rattle.opgen_heap.specs.Adding.{with_constant}
use Rattle.opgen_num.specs.declared.format.TheConstants.{MAX_WIDTH}
use Rattle.opgen_kcm.specs.Entries.{all_entries, least_of, offsets, shape_of}
use Rattle.opgen_kcm.specs.Recipe.{Terms, with_entries, HasTermsMore}
use Rattle.opgen_kcm.specs.Multiple.{sum_at}
use Rattle.opgen_kcm.proofs.Entries.{length-entries, length-offsets}
use Rattle.opgen_kcm.proofs.Kept.{entries-more, entries-sum, chunk-added, chunk-numbers}
use Rattle.opgen_kcm.proofs.rows.add_chunk.Goals as goal

pub least_of-least-requires-clause-some : goal.least_of-least-requires-clause-some
least_of-least-requires-clause-some c =
    let k = c.args.chunk in
    omega (
      arith,
      ap length (c.deref.ensures.value ∙ c.in_ok-entries.ensures.value),
      length-entries c.args.q k (2 ^ k.width),
      pow_pos
          k.width,
    )

-- what the code found before the table, as the recipe says it
made : (c : goal.After-add_table-arg-2-1) → c.deref-3.result.now ≡ offsets (all_entries c.args.q c.args.chunk)
made c =
    (chunk-numbers c.args.q c.args.chunk c.deref.result.now c.deref-2.result.now _ _
    (c.deref.ensures.value ∙ c.in_ok-entries.ensures.value) (c.deref-2.ensures.value ∙ c.in_ok-entries.ensures.value)
    (to_z-of_z w128 c.least_of-least.result (record { sfits = c.least_of-least.type_inv }) ∙ c.least_of-least.ensures.value)
    (c.deref-3.ensures.value ∙ c.in_ok-offsets.ensures.value)).1

pub add_table-requires-clause-offsets : goal.add_table-requires-clause-offsets
add_table-requires-clause-offsets c =
    let k = c.args.chunk in
    ap length (made c) ∙ length-offsets (all_entries c.args.q k) ∙ length-entries c.args.q k (2 ^ k.width)

pub add_table-requires-clause-narrow : goal.add_table-requires-clause-narrow
add_table-requires-clause-narrow c = subst (λ (l : List ℕ). (shape_of l).width ≤ MAX_WIDTH) (sym (made c)) c.requires.narrow

-- the net and the heap by the recipe
all : (c : goal.After-drop-entries-2) → record { net = c.add_table.new.net; heap = c.add_table.new.heap }
    ≡ with_entries c.args.input c.args.chunk (all_entries c.args.q c.args.chunk) (record { net = c.args.net.now; heap = c.args.heap.now })
all c =
    let old : Terms = record { net = c.args.net.now; heap = c.args.heap.now } in
    let now : Terms = record { net = c.add_table.new.net; heap = c.add_table.new.heap } in
    let es = all_entries c.args.q c.args.chunk in
    let found =
    chunk-numbers c.args.q c.args.chunk c.deref.result.now c.deref-2.result.now _ _
    (c.deref.ensures.value ∙ c.in_ok-entries.ensures.value) (c.deref-2.ensures.value ∙ c.in_ok-entries.ensures.value)
    (to_z-of_z w128 c.least_of-least.result (record { sfits = c.least_of-least.type_inv }) ∙ c.least_of-least.ensures.value)
    (c.deref-3.ensures.value ∙ c.in_ok-offsets.ensures.value) in
    let constant : c.add_constant.new.self ≡ with_constant old.heap (least_of es) =
    c.add_constant.ensures.value ∙ ap (λ z. with_constant old.heap z) found.0 in
    chunk-added old now c.add_constant.new.self c.args.input c.args.chunk c.args.q c.deref-3.result.now found.1 constant
    c.in_ok-add_table.ensures.net c.in_ok-add_table.ensures.heap

pub returns-clause-net : goal.returns-clause-net
returns-clause-net c = ap (λ (t : Terms). t.net) (all c)

pub returns-clause-heap : goal.returns-clause-heap
returns-clause-heap c = ap (λ (t : Terms). t.heap) (all c)

pub returns-clause-more : goal.returns-clause-more
returns-clause-more c =
    let old : Terms = record { net = c.args.net.now; heap = c.args.heap.now } in
    subst (λ (t : Terms). HasTermsMore old t) (sym (all c))
    (entries-more old c.requires.net c.args.input c.args.chunk c.requires.there c.args.q)

pub returns-clause-sum : goal.returns-clause-sum
returns-clause-sum c = λ there inputs t words.
    let old : Terms = record { net = c.args.net.now; heap = c.args.heap.now } in
    ap (λ (s : Terms). sum_at s inputs t) (all c)
    ∙ entries-sum old c.requires.net c.args.input c.args.chunk c.requires.there c.args.q there inputs t words
