use Rattle.std.proofs.Common.{◌≡◌, ◌+◌, ◌*◌, ◌<◌, ◌^◌, suc, unsigned_abs, refl, ap, ◌∙◌, sym, subst, arith}
use Rattle.std.specs.Prelude.{pos, ◌+ℤ◌, ◌*ℤ◌}
use Rattle.std.proofs.lemmas.Int.{ints, unsigned_abs-mul}
use Rattle.std.proofs.lemmas.Nat.{pow_pos}
use Rattle.opgen_num.specs.declared.format.Ratio.{Ratio}
use Rattle.opgen_heap.specs.Adding.{residue}
use Rattle.opgen_heap.specs.Sum.{columns_sum}
use Rattle.opgen_net.specs.Flow.{flow}
use Rattle.opgen_net.proofs.FlowWidths.{flow-width, are_widths}
use Rattle.opgen_net.proofs.Grown.{grown-width, grown-flow}
use Rattle.opgen_kcm.specs.Chunks.{chunk_count, chunk_at, chunk_word, digit_of}
use Rattle.opgen_kcm.specs.Entries.{in_guard_units, entry, all_entries}
use Rattle.opgen_kcm.specs.Recipe.{Terms, with_chunks, with_entries, input_width, HasRoom}
use Rattle.opgen_kcm.specs.Multiple.{sum_at}
use Rattle.opgen_kcm.proofs.Bounds.{abs-some, guard-few, scaled-small, scaled-room}
use Rattle.opgen_net.proofs.Later.{words-grown}
use Rattle.opgen_kcm.proofs.Kept.{terms-same, more-then, more-same}
use Rattle.opgen_kcm.proofs.Multiples.{total, total-multiple}
use Rattle.opgen_heap.proofs.Residues.{residue-none, residue-then}
use Rattle.opgen_kcm.proofs.rows.rows_of.Goals as goal

pub in_guard_units-units-requires-clause-guard : goal.in_guard_units-units-requires-clause-guard
in_guard_units-units-requires-clause-guard c =
    guard-few (unsigned_abs c.args.q.num) (input_width c.args.net.now c.args.input) c.args.guard (unsigned_abs c.args.q.den)
    (abs-some c.args.q.num c.requires.some) c.requires.room

pub in_guard_units-units-requires-clause-small : goal.in_guard_units-units-requires-clause-small
in_guard_units-units-requires-clause-small c =
    scaled-small (unsigned_abs c.args.q.num) (input_width c.args.net.now c.args.input) c.args.guard
    (unsigned_abs c.args.q.den) c.requires.room

pub chunks-init : goal.chunks-init
chunks-init c =
    let heap = c.args.heap.now in
    record {
      net = refl;
      heap = refl;
      valid = c.requires.net;
      more = more-same (record { net = c.args.net.now; heap = heap });
      sum = λ there inputs t words. residue-none (columns_sum (λ n. flow c.args.net.now.nodes inputs n t) heap.columns + heap.constant)
          (2 ^ heap.width) (pow_pos heap.width);
    }

pub add_chunk-requires-clause-room : goal.add_chunk-requires-clause-room
add_chunk-requires-clause-room c =
    let q = c.args.q in
    let k = c.at-chunk.result in
    let w = input_width c.args.net.now c.args.input in
    let size : unsigned_abs (q.num *ℤ pos (2 ^ c.args.guard)) ≡ unsigned_abs q.num * 2 ^ c.args.guard =
    unsigned_abs-mul q.num (pos (2 ^ c.args.guard)) in
    let room = scaled-room (unsigned_abs q.num) w c.args.guard (unsigned_abs q.den) (k.low + k.width)
    (omega (arith, c.at-chunk.ensures.within, c.width_of-width.ensures)) c.requires.room in
    subst (λ (r : Ratio). HasRoom r (k.low + k.width)) (sym c.in_guard_units-units.ensures)
    (subst (λ n. n * 2 ^ (k.low + k.width + 1) + unsigned_abs q.den < 2 ^ 126) (sym size) room)

pub add_chunk-requires-clause-there : goal.add_chunk-requires-clause-there
add_chunk-requires-clause-there c =
    omega (
      arith,
      c.at-chunk.ensures.within,
      c.width_of-width.ensures,
      grown-width c.args.net.now c.chunks.net
          c.chunks.invariant.more.net c.args.input c.requires.there,
    )

pub chunks-preserved : goal.chunks-preserved
chunks-preserved c =
    let old : Terms = record { net = c.args.net.now; heap = c.args.heap.now } in
    let before : Terms = record { net = c.chunks.net; heap = c.chunks.heap } in
    let now : Terms = record { net = c.add_chunk.new.net; heap = c.add_chunk.new.heap } in
    let q = c.in_guard_units-units.result in
    let w = c.width_of-width.result in
    let k = c.chunks.place in
    let s = c.args.signed in
    let i = c.chunks.invariant in
    let chunk = chunk_at w s k in
    let next : suc k ≡ k + 1 = omega arith in
    let same : before ≡ with_chunks q c.args.input w s k old = terms-same before (with_chunks q c.args.input w s k old) i.net i.heap in
    let this : now ≡ with_entries c.args.input chunk (all_entries q chunk) before =
    subst (λ d. now ≡ with_entries c.args.input d (all_entries q d) before) c.at-chunk.ensures.value
    (terms-same now (with_entries c.args.input c.at-chunk.result (all_entries q c.at-chunk.result) before) c.in_ok-add_chunk.ensures.net
    c.in_ok-add_chunk.ensures.heap) in
    let all : now ≡ with_chunks q c.args.input w s (k + 1) old =
    this ∙ ap (λ b. with_entries c.args.input chunk (all_entries q chunk) b) same ∙ ap (λ n. with_chunks q c.args.input w s n old) next in
    record {
      net = ap (λ (t : Terms). t.net) all;
      heap = ap (λ (t : Terms). t.heap) all;
      valid = c.add_chunk.ensures.valid;
      more = more-then old before now i.more c.in_ok-add_chunk.ensures.more;
      sum = λ there inputs t words.
          let x = flow c.args.net.now.nodes inputs c.args.input t in
          let kept : flow c.chunks.net.nodes inputs c.args.input t ≡ x =
          grown-flow c.args.net.now c.chunks.net i.more.net inputs c.args.input t c.requires.there in
          let e = entry q chunk (digit_of chunk (chunk_word chunk x)) in
          let m = 2 ^ c.args.heap.now.width in
          let start = pos (sum_at old inputs t) in
          let sum : (start +ℤ total q w s k x) +ℤ e ≡ start +ℤ total q w s (suc k) x = omega (arith, ints) in
          c.in_ok-add_chunk.ensures.sum (i.more.bits there) inputs t (words-grown c.args.net.now c.chunks.net i.more.net inputs words)
          ∙ ap (λ n. residue (pos (sum_at before inputs t) +ℤ entry q c.at-chunk.result
          (digit_of c.at-chunk.result (chunk_word c.at-chunk.result (flow c.chunks.net.nodes inputs c.args.input t)))) (2 ^ n)) i.more.width
          ∙ ap (λ d. residue (pos (sum_at before inputs t) +ℤ entry q d
          (digit_of d (chunk_word d (flow c.chunks.net.nodes inputs c.args.input t)))) m) c.at-chunk.ensures.value
          ∙ ap (λ y. residue (pos (sum_at before inputs t) +ℤ entry q chunk (digit_of chunk (chunk_word chunk y))) m) kept
          ∙ ap (λ n. residue (pos n +ℤ e) m) (i.sum there inputs t words)
          ∙ residue-then (start +ℤ total q w s k x) e m (pow_pos c.args.heap.now.width)
          ∙ ap (λ z. residue z m) sum
          ∙ ap (λ n. residue (start +ℤ total q w s n x) m) next;
    }

pub returns-clause-risen : goal.returns-clause-risen
returns-clause-risen c = λ there inputs t words.
    let net = c.args.net.now in
    let w = input_width net c.args.input in
    let x = flow net.nodes inputs c.args.input t in
    let q = in_guard_units c.args.q c.args.guard in
    let start = pos (sum_at (record { net = net; heap = c.args.heap.now }) inputs t) in
    let m = 2 ^ c.args.heap.now.width in
    let end : c.chunks.place ≡ chunk_count c.width_of-width.result =
    omega (arith, c.chunks-test.false, c.chunks.auto, c.div_ceil-place-end.ensures) in
    let wide : c.width_of-width.result ≡ w = c.width_of-width.ensures in
    record {
      by = total q w c.args.signed (chunk_count w) x;
      multiple =
          total-multiple c.args.q c.args.guard w c.args.signed x c.requires.positive
          (flow-width net c.requires.net inputs words c.args.input t)
          (are_widths net.nodes c.requires.net.nodes c.args.input c.requires.there).0;
      sum = c.chunks.invariant.sum there inputs t words
          ∙ ap (λ n. residue (start +ℤ total c.in_guard_units-units.result c.width_of-width.result c.args.signed n x) m) end
          ∙ ap (λ n. residue (start +ℤ total c.in_guard_units-units.result n c.args.signed (chunk_count n) x) m) wide
          ∙ ap (λ (r : Ratio). residue (start +ℤ total r w c.args.signed (chunk_count w) x) m) c.in_guard_units-units.ensures;
    }
