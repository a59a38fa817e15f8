-- The net of an accepted sum, by its recipe, fits its operators, scale and filter, in each mode.
use Rattle.std.proofs.Common.{◌≡◌, ℕ, zero, suc, ◌+◌, ◌-◌, ◌^◌, ◌<◌, ◌≤◌, Bool, true, false, [], ◌∷◌, length, get_or, codes, refl, sym, ap, ◌∙◌, subst, arith}
use Rattle.std.specs.Prelude.{ℤ, pos, ◌<ℤ◌, All, if◌then◌else◌}
use Rattle.std.proofs.lemmas.Int.{ints}
use Rattle.std.proofs.lemmas.List.Elements.{All-nil}
use Rattle.std.proofs.lemmas.Nat.{pow_pos}
use Rattle.opgen_num.specs.Words.{nat}
use Rattle.opgen_compress.specs.Kept.{IsSumOf}
use Rattle.opgen_compress.specs.Recipe.{compressed}
use Rattle.opgen_design.specs.Run.{AreWords}
use Rattle.opgen_design.specs.Value.{IsWidth}
use Rattle.opgen_fir.specs.Recipe.{above_guard, counted_sum, factor, is_zero, net_of_sum, no_terms, sum_width, taps, tapped, with_half, with_term, with_terms}
use Rattle.opgen_fir.specs.Summed.{HasSum, HasTerm, recent}
use Rattle.opgen_fir.proofs.Delays.{length-line, line}
use Rattle.opgen_fir.proofs.Factors.{den-units, units-some}
use Rattle.opgen_fir.proofs.Fits.{fits-sum, half-width}
use Rattle.opgen_fir.proofs.Narrow.{narrow-terms}
use Rattle.opgen_fir.proofs.Steps.{half-columns, step-sum, tap-number, tap-there, tap-width, term-input}
use Rattle.opgen_fir.proofs.Summed.{none-summed}
use Rattle.opgen_gpc.specs.Recipe.{Counting}
use Rattle.opgen_gpc.proofs.Counting.{IsCounted, counted_if-is, sum-before}
use Rattle.opgen_ports.specs.Recipes.{has_counters}
use Rattle.opgen_heap.specs.Contents.{Contents}
use Rattle.opgen_heap.specs.Standing.{AllThere}
use Rattle.opgen_heap.specs.Sum.{columns_sum}
use Rattle.opgen_heap.proofs.Residues.{residue-natural, residue-none}
use Rattle.opgen_kcm.specs.Chunks.{chunk_count, number}
use Rattle.opgen_kcm.specs.Entries.{in_guard_units}
use Rattle.opgen_kcm.specs.Multiple.{HasRisen, sum_at}
use Rattle.opgen_kcm.specs.Recipe.{HasNarrowRows, HasTermsMore, Terms, input_width, with_rows}
use Rattle.opgen_kcm.proofs.Kept.{more-same, more-then}
use Rattle.opgen_net.specs.declared.net.Net.{Net}
use Rattle.opgen_net.specs.declared.net.Output.{Output}
use Rattle.opgen_net.specs.declared.node.Node.TheVariants.{Delay}
use Rattle.opgen_net.specs.Flow.{Inputs, flow}
use Rattle.opgen_net.specs.Placed.{Placed}
use Rattle.opgen_net.specs.Valid.{IsValid, input_widths, widths}
use Rattle.opgen_net.specs.WordRule.{IsThere}
use Rattle.opgen_net.proofs.Appending.{valid-append, valid-output}
use Rattle.opgen_net.proofs.FlowLaws.{length-widths}
use Rattle.opgen_net.proofs.Grown.{grown-then}
use Rattle.opgen_net.proofs.Later.{words-grown}
use Rattle.opgen_kinds.specs.declared.sum.Sum.{Sum}
use Rattle.opgen_operator.specs.declared.operator.Operator.TheVariants.{Scale, Fir}
use Rattle.opgen_operator.specs.Fits.{FitsInEachMode}
use Rattle.opgen_kinds.specs.Sum.{IsAcceptedSum, guard_bits, sum_places, sum_format, IsSum}
use Rattle.opgen_operator.proofs.Accepted.{accepted_ranges, accepted_width}
use Rattle.opgen_operator.proofs.Operators.{outputs_held}
use Rattle.opgen_ports.proofs.InputPorts.{input_bit}
use Rattle.opgen_ports.proofs.Widths.{some_width}
use Rattle.opgen_compress.proofs.Compressing.{IsCompressed, compressed-is}
use Rattle.opgen_heap.proofs.Heaps.{IsHeap, constant-heap}
use Rattle.opgen_kcm.proofs.Tables.{AreRows, all-rows}

-- ---- the input and its delays
abbrev lined : (width count : ℕ) → Net
lined width count = record { inputs = (codes "x", width) ∷ []; nodes = line width count; outputs = [] }

lined-valid : (width count : ℕ) → IsWidth width → IsValid (lined width count)
lined-valid width zero is = record { nodes = (is, tt); inputs = refl; outputs = λ k d l. absurd (omega (arith, l)) }
lined-valid width (suc k) is =
    let there : k < length (widths (line width k)) = omega (arith, length-widths (line width k), length-line width k) in
    valid-append (lined width k) (Delay k) (lined-valid width k is) there refl

half-heap : (guard : ℕ) (heap : Contents) → IsHeap heap → IsHeap (with_half guard heap)
half-heap zero heap h = h
half-heap (suc k) heap h = constant-heap heap (pos (2 ^ k)) h

module _ (s : Sum) (accepted : IsAcceptedSum s) where
  ranges : IsSum 256 s
  ranges = accepted_ranges (Fir s) accepted

  fits : sum_width s ≤ 96
  fits = accepted_width (Fir s) (sum_width s) accepted refl

  some : 1 ≤ (sum_format s).width
  some = some_width (sum_places s)

  input-width : IsWidth s.input.width
  input-width = (input_bit s.input ranges.input, omega (arith, ranges.input.most))

  tapped-valid : IsValid (tapped s)
  tapped-valid = lined-valid s.input.width (taps s.coefs - 1) input-width

  -- ---- the tables of one coefficient
  module _ (k : ℕ) (within : k < length s.coefs) (old : Terms) (valid : IsValid old.net) (heap : IsHeap old.heap)
      (more : HasTermsMore (no_terms s) old) (there : AllThere old.net old.heap.columns) where
    abbrev coef : ℤ
    coef = get_or s.coefs k (pos 0)

    record IsTerm (now : Terms) : Type 0 where
      valid_now : IsValid now.net
      heap_now : IsHeap now.heap
      more_now : HasTermsMore old now
      term : (inputs : Inputs) (t : ℤ) → All (AreWords (input_widths old.net)) inputs
          → HasTerm s coef (number s.input.signed s.input.width (flow old.net.nodes inputs k t)) old.heap.width
          (sum_at old inputs t) (sum_at now inputs t)

    no-table : is_zero coef ≡ true → IsTerm old
    no-table none = record {
      valid_now = valid;
      heap_now = heap;
      more_now = more-same old;
      term = λ inputs t words. record {
        by = pos 0;
        nothing = λ e. refl;
        multiple = λ e. let both : true ≡ false = sym none ∙ e in let no : ⊥ = cc in absurd no;
        sum = residue-none (columns_sum (λ n. flow old.net.nodes inputs n t) old.heap.columns + old.heap.constant)
            (2 ^ old.heap.width) (pow_pos old.heap.width);
      };
    }

    some-table : is_zero coef ≡ false → IsTerm (with_rows (factor s coef) (guard_bits s) k s.input.signed old)
    some-table some =
        let q = factor s coef in
        let g = guard_bits s in
        let signed = s.input.signed in
        let now = with_rows q g k signed old in
        let den = den-units s coef ranges in
        let positive : pos 0 <ℤ q.den = omega (arith, ints, den, units-some s ranges) in
        let wide : input_width old.net k ≡ s.input.width = tap-width s k within some old.net more.net in
        let narrow = narrow-terms s ranges k within fits in
        let rows : AreRows q g k signed old now =
        all-rows q g k signed old positive valid heap (tap-there s k within some old.net more.net)
        (subst (λ w. HasNarrowRows (in_guard_units q g) w signed) (sym wide) narrow) in
        record {
          valid_now = rows.valid;
          heap_now = rows.heap;
          more_now = rows.more;
          term = λ inputs t words.
              let risen =
              subst (λ w. HasRisen q g (chunk_count w) (number signed w (flow old.net.nodes inputs k t)) old.heap.width
              (sum_at old inputs t) (sum_at now inputs t)) wide (rows.risen there inputs t words) in
              record {
                by = risen.by;
                nothing = λ e. let both : true ≡ false = sym e ∙ some in let no : ⊥ = cc in absurd no;
                multiple = λ e. risen.multiple;
                sum = risen.sum;
              };
        }

    one-term : IsTerm (with_term s k coef old)
    one-term = by (is_zero coef) refl
      where
        by : (b : Bool) → is_zero coef ≡ b
            → IsTerm (if b then old else with_rows (factor s coef) (guard_bits s) k s.input.signed old)
        by true e = no-table e
        by false e = some-table e

  -- ---- those of all coefficients
  record AreTerms (k : ℕ) (now : Terms) : Type 0 where
    valid : IsValid now.net
    heap : IsHeap now.heap
    more : HasTermsMore (no_terms s) now
    there : AllThere now.net now.heap.columns
    sum : (inputs : Inputs) (t : ℤ) → All (AreWords (input_widths (tapped s))) inputs
        → HasSum s (recent s inputs t) k (sum_width s) (sum_at now inputs t)

  none-yet : AreTerms 0 (no_terms s)
  none-yet = record {
    valid = tapped-valid;
    heap = record { below = pow_pos (sum_width s); few = omega arith };
    more = more-same (no_terms s);
    there = All-nil (All (IsThere (widths (tapped s).nodes)));
    sum = λ inputs t words. record {
      total = pos 0;
      summed = none-summed s (recent s inputs t);
      is = sym (residue-natural 0 (2 ^ sum_width s) (pow_pos (sum_width s)));
    };
  }

  one-more : (k : ℕ) → k < length s.coefs → (before : Terms) → AreTerms k before
      → AreTerms (suc k) (with_term s k (get_or s.coefs k (pos 0)) before)
  one-more k within before i =
      let c = get_or s.coefs k (pos 0) in
      let now = with_term s k c before in
      let step : IsTerm k within before i.valid i.heap i.more i.there now = one-term k within before i.valid i.heap i.more i.there in
      record {
        valid = step.valid_now;
        heap = step.heap_now;
        more = more-then (no_terms s) before now i.more step.more_now;
        there = step.more_now.bits i.there;
        sum = λ inputs t words.
            let x = recent s inputs t in
            let tap = number s.input.signed s.input.width (flow before.net.nodes inputs k t) in
            let a = sum_at before inputs t in
            let b = sum_at now inputs t in
            let term = step.term inputs t (words-grown (tapped s) before.net i.more.net inputs words) in
            let fitting = subst (λ w. HasTerm s c tap w a b) i.more.width term in
            let here = term-input s c tap (x k) (sum_width s) a b
            (λ e. tap-number s k within e before.net i.more.net inputs t) fitting in
            step-sum s ranges x k within c refl (sum_width s) a b (i.sum inputs t words) here;
      }

  all-terms : (k : ℕ) → k ≤ length s.coefs → AreTerms k (with_terms s k)
  all-terms zero le = none-yet
  all-terms (suc k) le = one-more k (omega (arith, le)) (with_terms s k) (all-terms k (omega (arith, le)))

  -- ---- the net
  pub fits_modes : FitsInEachMode (Scale s) (net_of_sum s) × FitsInEachMode (Fir s) (net_of_sum s)
  fits_modes =
      let g = guard_bits s in
      let t = with_terms s (length s.coefs) in
      let all = all-terms (length s.coefs) (omega arith) in
      let heap = with_half g t.heap in
      let wide : heap.width ≡ sum_width s = half-width g t.heap ∙ all.more.width in
      let there : AllThere t.net heap.columns = subst (AllThere t.net) (sym (half-columns g t.heap)) all.there in
      let u : Counting = counted_sum s in
      let counted : IsCounted t.net heap u = counted_if-is (has_counters s.compressor) t.net heap all.valid there in
      let width : u.heap.width ≡ sum_width s = counted.width ∙ wide in
      let is_width : IsWidth u.heap.width = (omega (arith, width, some), omega (arith, width, fits)) in
      let before : IsHeap heap = half-heap g t.heap all.heap in
      let below : u.heap.constant < 2 ^ u.heap.width =
      omega (arith, before.below, counted.constant, ap (λ w. 2 ^ w) counted.width) in
      let p : Placed = compressed u.net u.heap in
      let c : IsCompressed u.net u.heap p =
      compressed-is u.net u.heap counted.later.valid is_width (record { below = below; few = counted.few before.few }) counted.there in
      let sum : IsSumOf t.net heap p.net.nodes p.place =
      sum-before t.net heap u.net u.heap counted.later.grown counted.sum (λ inputs t. nat (flow p.net.nodes inputs p.place t)) c.sum in
      let place = c.wide ∙ width in
      let y : Output = record { name = codes "y"; from = above_guard s p.place } in
      let valid = valid-output p.net y c.later.valid (omega (arith, some), omega (arith, some, place)) in
      fits-sum s ranges outputs_held some t all.more all.sum p.net p.place sum place (grown-then t.net u.net p.net counted.later.grown c.later.grown)
      c.later.valid (net_of_sum s) refl valid
