-- A product of two inputs: its factors are nodes of the net, and what its bits and its constant add to the heap.
use Rattle.std.proofs.Common.{◌≡◌, ℕ, ◌+◌, ◌*◌, ◌^◌, ◌<◌, Bool, true, List, refl, sym, ap, ◌∙◌, subst, arith}
use Rattle.std.specs.Prelude.{ℤ, pos, negsuc, ◌+ℤ◌, ◌*ℤ◌, ◌≤ℤ◌, unsigned_abs, length}
use Rattle.std.proofs.lemmas.Bool.{eqb-true}
use Rattle.std.proofs.lemmas.Int.{ints}
use Rattle.std.proofs.lemmas.Nat.{pow_pos}
use Rattle.opgen_num.proofs.Integers.{product_assoc}
use Rattle.opgen_design.specs.Value.{IsWidth}
use Rattle.opgen_heap.specs.Adding.{residue, with_constant}
use Rattle.opgen_heap.proofs.Residues.{residue-natural, residue-then}
use Rattle.opgen_heap.proofs.Sums.{with_constant-sum}
use Rattle.opgen_net.specs.Flow.{flow, input_at}
use Rattle.opgen_net.proofs.Grown.{grown-then}
use Rattle.opgen_net.proofs.Later.{words-grown}
use Rattle.opgen_ports.specs.Reaches.{up, down}
use Rattle.opgen_ports.proofs.Bounds.{one_way}
use Rattle.opgen_partial.specs.declared.pairs.Work.{Work}
use Rattle.opgen_partial.specs.declared.pairs.Placing.{Placing}
use Rattle.opgen_partial.specs.declared.pairs.Products.{Products}
use Rattle.opgen_partial.specs.Law.{IsFactor, AreFactors, HasPlaced, IsSumWithPlaced, placed_product}
use Rattle.opgen_terms.specs.declared.sop.Sop.{Sop}
use Rattle.opgen_terms.specs.declared.sop.Times.{Times}
use Rattle.opgen_terms.specs.Sop.{IsSop, format_of, times_term}
use Rattle.opgen_sop.specs.Recipe.{input_net, heap_width}
use Rattle.opgen_sop.specs.Sizes.{finer, factor, products, placing, turned_fraction, floor, floors_of}
use Rattle.opgen_sop.specs.Small.{units, IsSmallTimes}
use Rattle.opgen_sop.specs.Summed.{numbers, share, IsNear, HasTimes, Stands, sum_at}
use Rattle.opgen_sop.proofs.InputNodes.{input-wide, input-flow}
use Rattle.opgen_sop.proofs.Nearness.{near-times}
use Rattle.opgen_sop.proofs.TermSums.{placed-near, moved-near}

module _ (s : Sop) (guard : ℕ) (t : Times) (sop : IsSop s) (term : IsSmallTimes s t) where
  abbrev p : Products
  p = products s guard t

  abbrev f : Placing
  f = placing s guard t

  abbrev z : ℤ
  z = finer guard (times_term s t).shift

  pub same-factor : f.square ≡ true → p.b ≡ p.a
  same-factor e = ap (factor s) (sym (eqb-true t.a t.b e))

  module _ (w : Work) (stands : Stands s guard w) where
    is-factor : (i : ℕ) → i < length s.inputs → IsWidth (format_of s i).width → IsFactor (factor s i) w.net
    is-factor i within wide = record { width = input-wide s guard w stands i within; is_width = wide }

    pub are-factors : IsWidth (format_of s t.a).width → IsWidth (format_of s t.b).width → AreFactors p w.net
    are-factors a b = record { first = is-factor t.a term.ranged.a a; second = is-factor t.b term.ranged.b b }

  -- the net and the heap, with the constant
  module _ (old mid : Work) (stands : Stands s guard old) (has : HasPlaced p f old mid) where
    abbrev K : ℤ
    K = floor (turned_fraction s guard t)

    abbrev new : Work
    new = record mid { heap = with_constant mid.heap K }

    pub times-stands : Stands s guard new
    times-stands = record {
      valid = has.valid;
      grown = grown-then (input_net s) old.net mid.net stands.grown has.grown;
      there = has.there;
      width = has.width ∙ stands.width;
    }

    pub times-sum : HasTimes s guard t old new
    times-sum inputs u words = record { by = pos at.by +ℤ K; near = near; sum = sum }
      where
        x : List Bool
        x = input_at inputs t.a (format_of s t.a).width u

        y : List Bool
        y = input_at inputs t.b (format_of s t.b).width u

        at : IsSumWithPlaced p f x y old.heap.width (sum_at old inputs u) (sum_at mid inputs u)
        at =
            subst (λ v. IsSumWithPlaced p f v y old.heap.width (sum_at old inputs u) (sum_at mid inputs u))
            (input-flow s guard old stands t.a term.ranged.a inputs u)
            (subst (λ v. IsSumWithPlaced p f (flow old.net.nodes inputs t.a u) v old.heap.width (sum_at old inputs u) (sum_at mid inputs u))
            (input-flow s guard old stands t.b term.ranged.b inputs u)
            (has.sum inputs u (words-grown (input_net s) old.net stands.grown inputs words)))

        P : ℤ
        P = placed_product p f x y

        d : ℕ
        d = unsigned_abs s.den

        plain : IsNear (2 ^ f.lowered) (P *ℤ pos (2 ^ f.raised)) (pos at.by +ℤ K) 0 (floors_of s guard t)
        plain =
            placed-near p f width-same refl (one_way z) x y old.heap.width
            (sum_at old inputs u) (sum_at mid inputs u) at
          where
            width-same : f.square ≡ true → p.b.width ≡ p.a.width
            width-same e = ap (λ i. (format_of s i).width) (sym (eqb-true t.a t.b e))

        den-is : s.den ≡ pos d
        den-is = by s.den sop.numbers.positive
          where
            by : (z : ℤ) → pos 1 ≤ℤ z → z ≡ pos (unsigned_abs z)
            by (pos n) h = refl
            by (negsuc n) h = absurd (omega (arith, ints, h))

        over : IsNear (d * down z) ((s.den *ℤ P) *ℤ pos (up z)) (pos at.by +ℤ K) 0 (floors_of s guard t)
        over =
            let turn : 2 ^ f.lowered * d ≡ d * down z = omega arith in
            let number : pos d *ℤ (P *ℤ pos (up z)) ≡ (s.den *ℤ P) *ℤ pos (up z) =
            sym (product_assoc (pos d) P (pos (up z))) ∙ ap (λ v. (v *ℤ P) *ℤ pos (up z)) (sym den-is) in
            subst (λ k. IsNear k ((s.den *ℤ P) *ℤ pos (up z)) (pos at.by +ℤ K) 0 (floors_of s guard t)) turn
            (subst (λ v. IsNear (2 ^ f.lowered * d) v (pos at.by +ℤ K) 0 (floors_of s guard t)) number
            (near-times (2 ^ f.lowered) d (P *ℤ pos (up z)) (pos at.by +ℤ K) 0 (floors_of s guard t) plain))

        near : IsNear (units s) (share s guard (numbers s inputs u) (times_term s t)) (pos at.by +ℤ K) 0 (floors_of s guard t)
        near = moved-near s (times_term s t) guard term.small.deep (s.den *ℤ P) (pos at.by +ℤ K) 0 (floors_of s guard t) over

        M : ℕ
        M = 2 ^ old.heap.width

        sum : sum_at new inputs u ≡ residue (pos (sum_at old inputs u) +ℤ (pos at.by +ℤ K)) (2 ^ heap_width s guard)
        sum =
            let both : pos (sum_at old inputs u + at.by) +ℤ K ≡ pos (sum_at old inputs u) +ℤ (pos at.by +ℤ K) = omega (arith, ints) in
            with_constant-sum (λ n. flow mid.net.nodes inputs n u) mid.heap K (pow_pos mid.heap.width)
            ∙ ap (λ k. residue (pos (sum_at mid inputs u) +ℤ K) (2 ^ k)) has.width
            ∙ ap (λ n. residue (pos n +ℤ K) M) (at.sum ∙ sym (residue-natural (sum_at old inputs u + at.by) M (pow_pos old.heap.width)))
            ∙ residue-then (pos (sum_at old inputs u + at.by)) K M (pow_pos old.heap.width)
            ∙ ap (λ v. residue v M) both
            ∙ ap (λ k. residue (pos (sum_at old inputs u) +ℤ (pos at.by +ℤ K)) (2 ^ k)) stands.width
