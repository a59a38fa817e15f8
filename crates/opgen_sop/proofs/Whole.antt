-- The net of an accepted sum of products, by its recipe, fits the operator in each mode.
use Rattle.std.proofs.Common.{◌≡◌, ⊎_elim, ℕ, zero, suc, ◌+◌, ◌-◌, ◌*◌, ◌^◌, ◌<◌, ◌≤◌, Bool, true, false, List, [], ◌∷◌, ◌++◌, length, map, take, get_or, refl, sym, ap, ◌∙◌, subst, arith}
use Rattle.std.specs.Prelude.{ℤ, pos, negsuc, ◌<ℤ◌, ◌≤ℤ◌, unsigned_abs, codes, All, if◌then◌else◌}
use Rattle.std.proofs.lemmas.Bool.{cases_lt}
use Rattle.std.proofs.lemmas.Int.{ints}
use Rattle.std.proofs.lemmas.List.{length-map, map-append, take_all, take_more}
use Rattle.std.proofs.lemmas.List.Elements.{All-head, All-nil, All-tail}
use Rattle.std.proofs.lemmas.Nat.{pow_pos}
use Rattle.opgen_num.specs.Words.{nat}
use Rattle.opgen_compress.specs.Kept.{IsSumOf}
use Rattle.opgen_compress.specs.Recipe.{compressed}
use Rattle.opgen_compress.proofs.Compressing.{IsCompressed, compressed-is}
use Rattle.opgen_heap.proofs.Heaps.{IsHeap, constant-heap}
use Rattle.opgen_design.specs.Value.{IsWidth}
use Rattle.opgen_gpc.specs.Recipe.{Counting}
use Rattle.opgen_gpc.proofs.Counting.{IsCounted, counted_if-is, sum-before}
use Rattle.opgen_ports.specs.Recipes.{has_counters}
use Rattle.opgen_heap.specs.Adding.{with_constant}
use Rattle.opgen_kcm.specs.Chunks.{chunk_count}
use Rattle.opgen_kcm.specs.Entries.{in_guard_units}
use Rattle.opgen_kcm.specs.Recipe.{HasNarrowRows, Terms, with_rows}
use Rattle.opgen_net.specs.declared.net.Net.{Net}
use Rattle.opgen_net.specs.declared.net.Output.{Output}
use Rattle.opgen_net.specs.declared.node.Node.TheVariants.{Input}
use Rattle.opgen_net.specs.Flow.{flow}
use Rattle.opgen_net.specs.Placed.{Placed}
use Rattle.opgen_net.specs.Valid.{IsValid, widths}
use Rattle.opgen_net.specs.WordRule.{IsThere}
use Rattle.opgen_net.proofs.Appending.{valid-input, valid-output}
use Rattle.opgen_net.proofs.Grown.{grown-same, grown-then}
use Rattle.opgen_num.specs.declared.format.Ratio.{Ratio}
use Rattle.opgen_num.specs.declared.format.Format.{Format}
use Rattle.opgen_partial.specs.declared.pairs.Placing.{Placing}
use Rattle.opgen_partial.specs.declared.pairs.Products.{Products}
use Rattle.opgen_partial.specs.declared.pairs.Work.{Work}
use Rattle.opgen_partial.specs.Law.{HasPlaced, IsPlaced}
use Rattle.opgen_partial.specs.Recipe.{with_placed}
use Rattle.opgen_partial.proofs.Laws.{placed-law}
use Rattle.opgen_ports.specs.declared.ports.PortFormat.{PortFormat}
use Rattle.opgen_ports.specs.Ranges.{IsInput}
use Rattle.opgen_ports.specs.Reaches.{down, places_down, places_up}
use Rattle.opgen_ports.proofs.InputPorts.{input_bit}
use Rattle.opgen_terms.specs.declared.sop.Sop.{Sop}
use Rattle.opgen_terms.specs.declared.sop.Scaled.{Scaled}
use Rattle.opgen_terms.specs.declared.sop.Times.{Times}
use Rattle.opgen_terms.specs.Sop.{IsAcceptedSop, IsSop, format_of, scaled_term, times_term}
use Rattle.opgen_terms.proofs.Lawful.{accepted_sop}
use Rattle.opgen_terms.proofs.EachTerm.{input_fits}
use Rattle.opgen_operator.specs.declared.operator.Operator.TheVariants.{Sop as sop_operator}
use Rattle.opgen_operator.specs.Fits.{FitsInEachMode}
use Rattle.opgen_operator.proofs.Operators.{outputs_held}
use Rattle.opgen_sop.specs.Recipe.{IsNetOfSop, counted, heap_width, input_nodes, input_net, is_zero, net_with, start, with_all_scaled, with_all_times, with_offset, with_scaled, with_times}
use Rattle.opgen_sop.specs.Sizes.{IsGuard, finer, floors, floors_in, is_rounded, lost, offset_fraction, placing, products, rounding, rows_cut, scaled_fraction, tables, tables_in, turned_fraction, floor}
use Rattle.opgen_sop.specs.Small.{HasSmallTerms, IsSmallGuard, IsSmallScaled, IsSmallTimes}
use Rattle.opgen_sop.specs.Summed.{AreSummed, Stands}
use Rattle.opgen_sop.proofs.AcceptedTerms.{small-terms}
use Rattle.opgen_sop.proofs.Fits.{fits-sop}
use Rattle.opgen_sop.proofs.GuardBits.{small-guard}
use Rattle.opgen_sop.proofs.InputNodes.{input-there, input-wide, nodes-more}
use Rattle.opgen_sop.proofs.ProductTerm.{are-factors, same-factor, times-stands, times-sum}
use Rattle.opgen_sop.proofs.ScaledTerm.{den-is, none-sum, rows-narrow, scaled-sum, zero-is}
use Rattle.opgen_sop.proofs.Steps.{none-summed, scaled-step, times-step}
use Rattle.opgen_kcm.proofs.Tables.{AreRows, all-rows}

-- ---- the inputs
abbrev name_and_width : PortFormat → List ℕ × ℕ
name_and_width p = (p.name, p.format.width)

abbrev net_of : List PortFormat → Net
net_of ps = record { inputs = map name_and_width ps; nodes = input_nodes 0 ps; outputs = [] }

abbrev with_port : PortFormat → Net → Net
with_port p n = record n {
  inputs = n.inputs ++ (p.name, p.format.width) ∷ [];
  nodes = n.nodes ++ Input (length n.inputs) p.format.width ∷ [];
}

port-more : (ps : List PortFormat) (p : PortFormat) → with_port p (net_of ps) ≡ net_of (ps ++ p ∷ [])
port-more ps p =
    let count : length (map name_and_width ps) ≡ 0 + length ps = omega (arith, length-map ps name_and_width) in
    ap (λ is. record { inputs = is; nodes = input_nodes 0 ps ++ Input (length (map name_and_width ps)) p.format.width ∷ []; outputs = [] })
    (sym (map-append name_and_width ps (p ∷ [])))
    ∙ ap (λ k. record { inputs = map name_and_width (ps ++ p ∷ []); nodes = input_nodes 0 ps ++ Input k p.format.width ∷ []; outputs = [] }) count
    ∙ ap (λ ns. record { inputs = map name_and_width (ps ++ p ∷ []); nodes = ns; outputs = [] }) (sym (nodes-more 0 ps p))

input-width : (f : Format) → IsInput f → IsWidth f.width
input-width f is = (input_bit f is, omega (arith, is.most))

no-input : IsValid (net_of [])
no-input = record { nodes = tt; inputs = refl; outputs = All-nil _ }

inputs-valid : (ps : List PortFormat) → All (λ (p : PortFormat). IsInput p.format) ps → (k : ℕ) → k ≤ length ps → IsValid (net_of (take k ps))
inputs-valid ps each zero le = no-input
inputs-valid ps each (suc k) le =
    let none : PortFormat = record { name = []; format = record { signed = false; width = 1; lsb = pos 0 } } in
    let p = get_or ps k none in
    let within : k < length ps = omega (arith, le) in
    let next : k + 1 ≡ suc k = omega arith in
    let more : take k ps ++ p ∷ [] ≡ take (suc k) ps = sym (take_more ps k none within) ∙ ap (λ n. take n ps) next in
    subst (λ qs. IsValid (net_of qs)) more
    (subst IsValid (port-more (take k ps) p)
    (valid-input (net_of (take k ps)) p.name p.format.width (inputs-valid ps each k (omega (arith, le)))
    (input-width p.format (each k none within))))

-- ---- how much is lost with eleven guard bits
at-most : (b : Bool) (x most : ℕ) → x ≤ most → (if b then x else 0) ≤ most
at-most true x most le = le
at-most false x most le = omega arith

cut-few : (p : Products) (square : Bool) → rows_cut p square ≤ p.a.width
cut-few p true = omega arith
cut-few p false = omega arith

module _ (s : Sop) (sop : IsSop s) (guard : ℕ) where
  input-few : (i : ℕ) → i < length s.inputs → (format_of s i).width ≤ 48
  input-few i within = omega (arith, (input_fits s i sop within).most)

  tables-few : (ts : List Scaled) → All (IsSmallScaled s) ts → tables_in s guard ts ≤ 8 * length ts
  tables-few [] each = omega arith
  tables-few (t ∷ ts) each =
      let wide = input-few t.input (All-head (IsSmallScaled s) t ts each).ranged.input in
      let here = at-most (is_rounded (scaled_fraction s guard t)) (chunk_count (format_of s t.input).width) 8 (omega (arith, wide)) in
      let rest = tables-few ts (All-tail (IsSmallScaled s) t ts each) in
      omega (arith, here, rest)

  lost-few : (q : Ratio) → lost q ≤ 1
  lost-few q = at-most (is_rounded q) 1 1 (omega arith)

  floors-few : (us : List Times) → All (IsSmallTimes s) us → floors_in s guard us ≤ 49 * length us
  floors-few [] each = omega arith
  floors-few (t ∷ us) each =
      let wide = input-few t.a (All-head (IsSmallTimes s) t us each).ranged.a in
      let cut = cut-few (products s guard t) (placing s guard t).square in
      let rest = floors-few us (All-tail (IsSmallTimes s) t us each) in
      omega (arith, cut, wide, lost-few (turned_fraction s guard t), rest)

  enough : HasSmallTerms s → tables s guard + floors s guard ≤ 1297
  enough small =
      omega (
        arith,
        tables-few s.scaled small.scaled,
        floors-few s.products small.products,
        lost-few (offset_fraction s guard),
        sop.terms.few_scaled,
        sop.terms.few_products,
      )

positive_product : (a b : ℕ) → 0 < a → 0 < b → 0 < a * b
positive_product zero b h k = absurd (omega (arith, h))
positive_product (suc a) b h k = omega (arith, k)

-- ---- from term to term
module _ (s : Sop) (accepted : IsAcceptedSop s) (guard : ℕ) (is_guard : IsGuard s guard) (few : guard ≤ 11) where
  sop : IsSop s
  sop = accepted_sop s accepted

  small : HasSmallTerms s
  small = small-terms s accepted

  abbrev fit : IsSmallGuard s guard
  fit = small-guard s accepted guard is_guard few

  record Made (ts : List Scaled) (us : List Times) (w : Work) : Type 0 where
    stands : Stands s guard w
    heap : IsHeap w.heap
    summed : AreSummed s guard ts us w

  none-made : Made s.scaled s.products (start s guard)
  none-made = record {
    stands = record {
      valid = subst (λ ps. IsValid (net_of ps)) (take_all (length s.inputs) s.inputs (omega arith))
          (inputs-valid s.inputs sop.inputs.formats (length s.inputs) (omega arith));
      grown = grown-same (input_net s);
      there = All-nil (All (IsThere (widths (input_net s).nodes)));
      width = refl;
    };
    heap = record { below = pow_pos (heap_width s guard); few = omega arith };
    summed = none-summed s guard;
  }

  module _ (t : Scaled) (term : IsSmallScaled s t) (ts : List Scaled) (us : List Times) (w : Work) (m : Made (t ∷ ts) us w) where
    abbrev q : Ratio
    q = scaled_fraction s guard t

    abbrev old : Terms
    old = record { net = w.net; heap = w.heap }

    abbrev now : Terms
    now = with_rows q 0 t.input (format_of s t.input).signed old

    no-table : is_zero t.coefficient ≡ true → Made ts us w
    no-table e = record {
      stands = m.stands;
      heap = m.heap;
      summed = scaled-step s guard t ts us w w m.summed (none-sum s guard t sop fit term w m.stands (zero-is t.coefficient e));
    }

    some-den : (d : ℤ) → pos 1 ≤ℤ d → 0 < unsigned_abs d
    some-den (pos n) h = omega (arith, ints, h)
    some-den (negsuc n) h = omega arith

    positive : pos 0 <ℤ q.den
    positive =
        let natural : q.den ≡ pos (unsigned_abs s.den * down (finer guard (scaled_term s t).shift)) = den-is s guard t sop fit term in
        let some = positive_product _ _ (some-den s.den sop.numbers.positive) (pow_pos (places_down (finer guard (scaled_term s t).shift))) in
        omega (arith, ints, natural, some)

    some-table : Made ts us (record { net = now.net; heap = now.heap })
    some-table =
        let signed = (format_of s t.input).signed in
        let wide = input-wide s guard w m.stands t.input term.ranged.input in
        let rows : AreRows q 0 t.input signed old now =
        all-rows q 0 t.input signed old positive m.stands.valid m.heap (input-there s guard w m.stands t.input term.ranged.input)
        (subst (λ k. HasNarrowRows (in_guard_units q 0) k signed) (sym wide) (rows-narrow s guard t sop fit term)) in
        let new : Work = record { net = now.net; heap = now.heap } in
        record {
          stands = record {
            valid = rows.valid;
            grown = grown-then (input_net s) w.net now.net m.stands.grown rows.more.net;
            there = rows.more.bits m.stands.there;
            width = rows.more.width ∙ m.stands.width;
          };
          heap = rows.heap;
          summed = scaled-step s guard t ts us w new m.summed
              (scaled-sum s guard t sop fit term w new m.stands q (format_of s t.input) refl refl (rows.risen m.stands.there));
        }

    one-scaled : Made ts us (with_scaled s guard t w)
    one-scaled = by (is_zero t.coefficient) refl
      where
        by : (b : Bool) → is_zero t.coefficient ≡ b → Made ts us (if b then w else record { net = now.net; heap = now.heap })
        by true e = no-table e
        by false e = some-table

  all-scaled : (ts : List Scaled) (us : List Times) → All (IsSmallScaled s) ts → (w : Work) → Made ts us w
      → Made [] us (with_all_scaled s guard ts w)
  all-scaled [] us each w m = m
  all-scaled (t ∷ ts) us each w m =
      all-scaled ts us (All-tail (IsSmallScaled s) t ts each) (with_scaled s guard t w)
      (one-scaled t (All-head (IsSmallScaled s) t ts each) ts us w m)

  up-few : (z : ℤ) → z ≤ℤ pos 48 → places_up (finer guard z) ≤ 59
  up-few z h = go (finer guard z) (omega (arith, ints, h, few))
    where
      go : (y : ℤ) → y ≤ℤ pos 59 → places_up y ≤ 59
      go (pos n) h = omega (arith, ints, h)
      go (negsuc n) h = omega arith

  module _ (t : Times) (term : IsSmallTimes s t) (us : List Times) (w : Work) (m : Made [] (t ∷ us) w) where
    abbrev p : Products
    p = products s guard t

    abbrev f : Placing
    f = placing s guard t

    abbrev mid : Work
    mid = with_placed p f w

    is-placed : IsPlaced p f
    is-placed = record {
      lowered = omega arith;
      raised = omega (arith, up-few (times_term s t).shift term.small.shift.1);
      same = same-factor s guard t sop term;
    }

    has : HasPlaced p f w mid
    has =
        placed-law p f is-placed w m.stands.valid
        (are-factors s guard t sop term w m.stands
        (input-width (format_of s t.a) (input_fits s t.a sop term.ranged.a))
        (input-width (format_of s t.b) (input_fits s t.b sop term.ranged.b))) m.stands.there

    one-times : Made [] us (with_times s guard t w)
    one-times = record {
      stands = times-stands s guard t sop term w mid m.stands has;
      heap = constant-heap mid.heap (floor (turned_fraction s guard t)) (record {
        below = omega (arith, m.heap.below, has.constant, ap (λ k. 2 ^ k) has.width);
        few = has.few m.heap.few;
      });
      summed = times-step s guard t us w (with_times s guard t w) m.summed (times-sum s guard t sop term w mid m.stands has);
    }

  all-times : (us : List Times) → All (IsSmallTimes s) us → (w : Work) → Made [] us w → Made [] [] (with_all_times s guard us w)
  all-times [] each w m = m
  all-times (t ∷ us) each w m =
      all-times us (All-tail (IsSmallTimes s) t us each) (with_times s guard t w)
      (one-times t (All-head (IsSmallTimes s) t us each) us w m)

  -- ---- the net
  abbrev terms : Work
  terms = with_all_times s guard s.products (with_all_scaled s guard s.scaled (start s guard))

  made : Made [] [] terms
  made =
      all-times s.products small.products (with_all_scaled s guard s.scaled (start s guard))
      (all-scaled s.scaled s.products small.scaled (start s guard) none-made)

  with-fits : FitsInEachMode (sop_operator s) (net_with s guard)
  with-fits =
      let m = made in
      let last = with_offset s guard terms in
      let offset = with_constant terms.heap (floor (offset_fraction s guard)) in
      let before : IsHeap last.heap =
      constant-heap offset (pos (rounding s guard)) (constant-heap terms.heap (floor (offset_fraction s guard)) m.heap) in
      let u : Counting = counted s guard in
      let count : IsCounted last.net last.heap u = counted_if-is (has_counters s.compressor) last.net last.heap m.stands.valid m.stands.there in
      let width : u.heap.width ≡ heap_width s guard = count.width ∙ m.stands.width in
      let is_width : IsWidth u.heap.width = (omega (arith, width, fit.some), omega (arith, width, fit.narrow)) in
      let below : u.heap.constant < 2 ^ u.heap.width = omega (arith, before.below, count.constant, ap (λ k. 2 ^ k) count.width) in
      let p : Placed = compressed u.net u.heap in
      let c : IsCompressed u.net u.heap p =
      compressed-is u.net u.heap count.later.valid is_width (record { below = below; few = count.few before.few }) count.there in
      let sum : IsSumOf last.net last.heap p.net.nodes p.place =
      sum-before last.net last.heap u.net u.heap count.later.grown count.sum (λ ins t. nat (flow p.net.nodes ins p.place t)) c.sum in
      let wide = c.wide ∙ width in
      let y : Output = record { name = codes "y"; from = record { node = p.place; high = heap_width s guard - 1; low = guard } } in
      let valid = valid-output p.net y c.later.valid (omega (arith, fit.some), omega (arith, fit.some, wide)) in
      fits-sop s accepted (outputs_held (sop_operator s)) guard is_guard fit terms m.stands m.summed p.net p.place sum wide
      (grown-then last.net u.net p.net count.later.grown c.later.grown) c.later.valid (net_with s guard) refl valid

-- the least number of guard bits is at most eleven
pub eleven-enough : (s : Sop) → IsAcceptedSop s → tables s 11 + floors s 11 < 2 ^ 11
eleven-enough s accepted = omega (arith, enough s (accepted_sop s accepted) 11 (small-terms s accepted))

pub fits_modes : (s : Sop) → IsAcceptedSop s → (net : Net) → IsNetOfSop s net → FitsInEachMode (sop_operator s) net
fits_modes s accepted net is =
    subst (FitsInEachMode (sop_operator s)) (sym is.made)
    (with-fits s accepted is.guard is.least (is.least.least 11 (eleven-enough s accepted)))
