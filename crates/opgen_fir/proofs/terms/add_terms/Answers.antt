use Rattle.std.proofs.Common.{◌≡◌, ◌+◌, ◌<◌, ◌^◌, suc, length, get_or, of_z, to_z, sym, ap, ◌∙◌, subst, arith}
use Rattle.std.specs.Prelude.{pos, All}
use Rattle.std.specs.Int.{w64}
use Rattle.std.proofs.lemmas.Int.{to_z-of_z}
use Rattle.std.proofs.lemmas.List.Elements.{All-nil}
use Rattle.std.proofs.lemmas.Nat.{pow_pos}
use Rattle.opgen_heap.specs.Contents.{Contents}
use Rattle.opgen_net.specs.declared.net.Net.{Net}
use Rattle.opgen_net.specs.Flow.{flow}
use Rattle.opgen_heap.specs.Standing.{AllThere}
use Rattle.opgen_net.specs.Valid.{widths, input_widths}
use Rattle.opgen_net.specs.WordRule.{IsThere}
use Rattle.opgen_design.specs.Run.{AreWords}
use Rattle.opgen_operator.specs.declared.operator.Operator.TheVariants.{Fir}
use Rattle.opgen_operator.proofs.Accepted.{accepted_ranges}
use Rattle.opgen_kcm.specs.Chunks.{number}
use Rattle.opgen_kcm.specs.Multiple.{sum_at}
use Rattle.opgen_kcm.specs.Recipe.{Terms, HasTermsMore}
use Rattle.opgen_net.proofs.Later.{words-grown}
use Rattle.opgen_kcm.proofs.Kept.{more-same, more-then, terms-same}
use Rattle.opgen_heap.proofs.Residues.{residue-natural}
use Rattle.opgen_fir.specs.Recipe.{is_zero, tapped, no_terms, with_term, with_terms, sum_width}
use Rattle.opgen_fir.specs.Summed.{recent, HasTerm, HasSum}
use Rattle.opgen_fir.proofs.Factors.{coef-fits}
use Rattle.opgen_fir.proofs.Steps.{term-input, step-sum, tap-there, tap-width, tap-number}
use Rattle.opgen_fir.proofs.Summed.{none-summed}
use Rattle.opgen_fir.proofs.terms.add_terms.Goals as goal

pub taps-init : goal.taps-init
taps-init c =
    let s = c.args.sum.now in
    let start : Terms = record { net = c.args.net.now; heap = c.args.heap.now } in
    let same : start ≡ no_terms s = terms-same start (no_terms s) c.requires.net c.requires.heap in
    record {
      net = c.requires.net;
      heap = c.requires.heap;
      valid = c.requires.valid;
      more = subst (λ (t : Terms). HasTermsMore (no_terms s) t) (sym same)
          (more-same (no_terms s));
      bits = subst (λ (t : Terms). AllThere t.net t.heap.columns) (sym same) (All-nil (All (IsThere (widths (tapped s).nodes))));
      sum = λ inputs t words. subst (λ (u : Terms). HasSum s (recent s inputs t) 0 u.heap.width (sum_at u inputs t)) (sym same) (record {
        total = pos 0;
        summed = none-summed s (recent s inputs t);
        is = sym (residue-natural 0 (2 ^ sum_width s) (pow_pos (sum_width s)));
      });
    }

pub add_term-requires-clause-coef : goal.add_term-requires-clause-coef
add_term-requires-clause-coef c =
    let s = c.args.sum.now in
    let k = c.taps.tap in
    let within : k < length s.coefs = omega (arith, c.taps-test.true, c.len-tap-end.ensures) in
    let fits = coef-fits s (accepted_ranges (Fir s) c.requires.sum) k within in
    sym (to_z-of_z w64 (get_or s.coefs k (pos 0)) fits) ∙ ap (λ l. to_z w64 (of_z w64 (get_or l k (pos 0)))) (sym c.as_slice.ensures)

pub add_term-requires-clause-there : goal.add_term-requires-clause-there
add_term-requires-clause-there c = λ some.
    let s = c.args.sum.now in
    let k = c.taps.tap in
    let within : k < length s.coefs = omega (arith, c.taps-test.true, c.len-tap-end.ensures) in
    let fits = coef-fits s (accepted_ranges (Fir s) c.requires.sum) k within in
    let same = sym (to_z-of_z w64 (get_or s.coefs k (pos 0)) fits)
    ∙ ap (λ l. to_z w64 (of_z w64 (get_or l k (pos 0)))) (sym c.as_slice.ensures) in
    tap-there s k within (ap is_zero same ∙ some) c.taps.net c.taps.invariant.more.net

pub add_term-requires-clause-width : goal.add_term-requires-clause-width
add_term-requires-clause-width c = λ some.
    let s = c.args.sum.now in
    let k = c.taps.tap in
    let within : k < length s.coefs = omega (arith, c.taps-test.true, c.len-tap-end.ensures) in
    let fits = coef-fits s (accepted_ranges (Fir s) c.requires.sum) k within in
    let same = sym (to_z-of_z w64 (get_or s.coefs k (pos 0)) fits)
    ∙ ap (λ l. to_z w64 (of_z w64 (get_or l k (pos 0)))) (sym c.as_slice.ensures) in
    tap-width s k within (ap is_zero same ∙ some) c.taps.net c.taps.invariant.more.net

pub taps-preserved : goal.taps-preserved
taps-preserved c =
    let s = c.args.sum.now in
    let k = c.taps.tap in
    let i = c.taps.invariant in
    let ranges = accepted_ranges (Fir s) c.requires.sum in
    let within : k < length s.coefs = omega (arith, c.taps-test.true, c.len-tap-end.ensures) in
    let known = to_z w64 (of_z w64 (get_or c.as_slice.result.now k (pos 0))) in
    let same : get_or s.coefs k (pos 0) ≡ known =
    sym (to_z-of_z w64 (get_or s.coefs k (pos 0)) (coef-fits s ranges k within))
    ∙ ap (λ l. to_z w64 (of_z w64 (get_or l k (pos 0)))) (sym c.as_slice.ensures) in
    let before : Terms = record { net = c.taps.net; heap = c.taps.heap } in
    let now : Terms = record { net = c.add_term.new.net; heap = c.add_term.new.heap } in
    let next : suc k ≡ k + 1 = omega arith in
    let all : now ≡ with_terms s (k + 1) =
    terms-same now (with_term s k known before) c.in_ok-add_term.ensures.net c.in_ok-add_term.ensures.heap
    ∙ ap (λ z. with_term s k z before) (sym same)
    ∙ ap (λ (t : Terms). with_term s k (get_or s.coefs k (pos 0)) t) (terms-same before (with_terms s k) i.net i.heap)
    ∙ ap (λ n. with_terms s n) next in
    record {
      net = ap (λ (t : Terms). t.net) all;
      heap = ap (λ (t : Terms). t.heap) all;
      valid = c.add_term.ensures.valid;
      more = more-then (no_terms s) before now i.more c.in_ok-add_term.ensures.more;
      bits = c.in_ok-add_term.ensures.more.bits i.bits;
      sum = λ inputs t words.
          let x = recent s inputs t in
          let given : All (AreWords (input_widths (tapped s))) inputs =
          subst (λ (n : Net). All (AreWords (input_widths n)) inputs) c.requires.net words in
          let term = c.in_ok-add_term.ensures.term inputs t (words-grown (tapped s) c.taps.net i.more.net inputs given) in
          let width : c.taps.heap.width ≡ c.args.heap.now.width = i.more.width ∙ ap (λ (h : Contents). h.width) (sym c.requires.heap) in
          let fitting =
          subst (λ w. HasTerm s known (number s.input.signed s.input.width (flow c.taps.net.nodes inputs k t)) w
          (sum_at before inputs t) (sum_at now inputs t)) width term in
          let here = term-input s known (number s.input.signed s.input.width (flow c.taps.net.nodes inputs k t))
          (x k) c.args.heap.now.width (sum_at before inputs t) (sum_at now inputs t)
          (λ some. tap-number s k within (ap is_zero same ∙ some) c.taps.net i.more.net inputs t) fitting in
          subst (λ n. HasSum s x n c.args.heap.now.width (sum_at now inputs t)) next
          (step-sum s ranges x k within known same c.args.heap.now.width (sum_at before inputs t) (sum_at now inputs t)
          (i.sum inputs t words) here);
    }
