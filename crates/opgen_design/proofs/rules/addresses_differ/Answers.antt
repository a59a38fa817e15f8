use Rattle.std.proofs.Common.{◌≡◌, ◌≢◌, ◌↔◌, ◌<◌, Bool, IsTrue, List, [], length, map, get_or, Result, Ok, Err, IfOk, ap, sym, ◌∙◌, subst, arith}
use Rattle.std.specs.List.{AllPairs}
use Rattle.std.proofs.lemmas.List.{get_or-map, length-map, take_all}
use Rattle.std.proofs.lemmas.Option.{slice_get_within, slice_get-get_or, get_or_from_slice_get}
use Rattle.opgen_num.specs.Words.{nat}
use Rattle.opgen_num.proofs.Words.{same-word}
use Rattle.opgen_design.specs.Rules.{DifferentAddresses}
use Rattle.opgen_design.proofs.rules.addresses_differ.Goals as goal

abbrev Row : Type 0
Row = List Bool × List Bool

module _ (rows : List Row) (lengths : AllPairs (λ r q. length r.0 ≡ length q.0) rows) where
  pairs-differ : AllPairs (λ x y. x ≢ y) (map (λ r. nat r.0) rows) → DifferentAddresses rows
  pairs-differ h = λ i j r q l e f g.
      let m = slice_get_within rows j q f in
      let a = get_or-map (λ r. nat r.0) rows i r 0 (omega (arith, l, m)) ∙ ap (λ x. nat x.0) (get_or_from_slice_get rows i r r e) in
      let b = get_or-map (λ r. nat r.0) rows j q 0 m ∙ ap (λ x. nat x.0) (get_or_from_slice_get rows j q q f) in
      h i j 0 l (omega (arith, m, length-map rows (λ r. nat r.0))) (a ∙ ap nat g ∙ sym b)

  differ-pairs : DifferentAddresses rows → AllPairs (λ x y. x ≢ y) (map (λ r. nat r.0) rows)
  differ-pairs h = λ i j d l m.
      let n : j < length rows = omega (arith, m, length-map rows (λ r. nat r.0)) in
      let k : i < length rows = omega (arith, l, n) in
      let z : Row = ([], []) in
      let a = get_or-map (λ r. nat r.0) rows i z d k in
      let b = get_or-map (λ r. nat r.0) rows j z d n in
      λ e. h i j (get_or rows i z) (get_or rows j z) l (slice_get-get_or rows i z k) (slice_get-get_or rows j z n)
      (same-word (get_or rows i z).0 (get_or rows j z).0 (lengths i j z l n) (sym a ∙ e ∙ b))

of-all : {E : Type 0} (r : Result Bool E) (P Q : Type 0) → IfOk r (λ b. IsTrue b ↔ P) → (P → Q) → (Q → P) → IfOk r (λ b. IsTrue b ↔ Q)
of-all (Ok b) P Q h f g = ((λ t. f (h.0 t)), (λ q. h.1 (g q)))
of-all (Err e) P Q h f g = tt

pub returns : goal.returns
returns c =
    let rows = c.args.rows.now in
    let e : c.deref.result.now ≡ map (λ r. nat r.0) rows = c.deref.ensures.value ∙ c.loop-address.invariant
    ∙ ap (λ x. map (λ r. nat r.0) x) (take_all c.loop-address.address-index rows c.loop-address-test.false) in
    of-all c.all_differ.result (AllPairs (λ x y. x ≢ y) c.deref.result.now) (DifferentAddresses rows) c.all_differ.ensures
    (λ h. pairs-differ rows c.requires (subst (AllPairs (λ x y. x ≢ y)) e h))
    (λ h. subst (AllPairs (λ x y. x ≢ y)) (sym e) (differ-pairs rows c.requires h))
