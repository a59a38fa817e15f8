-- From term to term.
use Rattle.std.proofs.Common.{◌≡◌, ℕ, ◌+◌, ◌^◌, ◌<◌, List, [], ◌∷◌, length, drop, get_or, sym, ap, ◌∙◌, arith}
use Rattle.std.specs.Prelude.{pos, ◌+ℤ◌}
use Rattle.std.proofs.lemmas.Int.{ints}
use Rattle.std.proofs.lemmas.List.{drop_more}
use Rattle.std.proofs.lemmas.Nat.{pow_pos}
use Rattle.opgen_heap.specs.Adding.{residue}
use Rattle.opgen_heap.proofs.Residues.{residue-then, residue-natural}
use Rattle.opgen_partial.specs.declared.pairs.Work.{Work}
use Rattle.opgen_terms.specs.declared.sop.Sop.{Sop}
use Rattle.opgen_terms.specs.declared.sop.Scaled.{Scaled}
use Rattle.opgen_terms.specs.declared.sop.Times.{Times}
use Rattle.opgen_terms.specs.Sop.{scaled_term, times_term}
use Rattle.opgen_sop.specs.Recipe.{start, with_scaled, with_all_scaled, with_times, with_all_times, heap_width}
use Rattle.opgen_sop.specs.Sizes.{tables_of, floors_of}
use Rattle.opgen_sop.specs.Small.{units}
use Rattle.opgen_sop.specs.Summed.{numbers, share, HasScaled, HasTimes, AreSummed}
use Rattle.opgen_sop.proofs.Nearness.{near-none, near-sum}

module _ (s : Sop) (guard : ℕ) where
  pub scaled-step : (t : Scaled) (ts : List Scaled) (us : List Times) (old new : Work) → AreSummed s guard (t ∷ ts) us old
      → HasScaled s guard t old new → AreSummed s guard ts us new
  scaled-step t ts us old new before term inputs u words =
      let h = before inputs u words in
      let a = term inputs u words in
      let x = numbers s inputs u in
      let n = share s guard x (scaled_term s t) in
      record {
        number = h.number +ℤ n;
        rounded = h.rounded + tables_of s guard t;
        cut = h.cut + 0;
        sum = h.sum +ℤ a.by;
        near = near-sum (units s) h.number n h.sum a.by h.rounded (tables_of s guard t) h.cut 0 h.near a.near;
        numbers = omega (arith, ints, h.numbers);
        all_rounded = omega (arith, h.all_rounded);
        all_cut = omega (arith, h.all_cut);
        is = a.sum ∙ ap (λ n. residue (pos n +ℤ a.by) (2 ^ heap_width s guard)) h.is
            ∙ residue-then h.sum a.by (2 ^ heap_width s guard) (pow_pos (heap_width s guard));
      }

  pub times-step : (t : Times) (us : List Times) (old new : Work) → AreSummed s guard [] (t ∷ us) old
      → HasTimes s guard t old new → AreSummed s guard [] us new
  times-step t us old new before term inputs u words =
      let h = before inputs u words in
      let a = term inputs u words in
      let x = numbers s inputs u in
      let n = share s guard x (times_term s t) in
      record {
        number = h.number +ℤ n;
        rounded = h.rounded + 0;
        cut = h.cut + floors_of s guard t;
        sum = h.sum +ℤ a.by;
        near = near-sum (units s) h.number n h.sum a.by h.rounded 0 h.cut (floors_of s guard t) h.near a.near;
        numbers = omega (arith, ints, h.numbers);
        all_rounded = omega (arith, h.all_rounded);
        all_cut = omega (arith, h.all_cut);
        is = a.sum ∙ ap (λ n. residue (pos n +ℤ a.by) (2 ^ heap_width s guard)) h.is
            ∙ residue-then h.sum a.by (2 ^ heap_width s guard) (pow_pos (heap_width s guard));
      }

  pub none-summed : AreSummed s guard s.scaled s.products (start s guard)
  none-summed inputs u words = record {
    number = pos 0;
    rounded = 0;
    cut = 0;
    sum = pos 0;
    near = near-none (units s);
    numbers = omega (arith, ints);
    all_rounded = omega arith;
    all_cut = omega arith;
    is = sym (residue-natural 0 (2 ^ heap_width s guard) (pow_pos (heap_width s guard)));
  }

  pub scaled-made : (ts : List Scaled) (k : ℕ) (d : Scaled) (old new all : Work) → k < length ts
      → with_all_scaled s guard (drop k ts) old ≡ all → new ≡ with_scaled s guard (get_or ts k d) old
      → with_all_scaled s guard (drop (k + 1) ts) new ≡ all
  scaled-made ts k d old new all within before is =
      ap (with_all_scaled s guard (drop (k + 1) ts)) is ∙ ap (λ l. with_all_scaled s guard l old) (sym (drop_more ts k d within)) ∙ before

  pub times-made : (ts : List Times) (k : ℕ) (d : Times) (old new all : Work) → k < length ts
      → with_all_times s guard (drop k ts) old ≡ all → new ≡ with_times s guard (get_or ts k d) old
      → with_all_times s guard (drop (k + 1) ts) new ≡ all
  times-made ts k d old new all within before is =
      ap (with_all_times s guard (drop (k + 1) ts)) is ∙ ap (λ l. with_all_times s guard l old) (sym (drop_more ts k d within)) ∙ before
