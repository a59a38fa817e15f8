-- A sound design's drivers, evaluated in order, give a cycle.
use Rattle.std.proofs.Common.{◌≡◌, ℕ, zero, suc, ◌<◌, Bool, true, false, if◌then◌else◌, List, [], ◌∷◌, length, map, get_or, Some, refl, sym, ap, ◌∙◌, subst, arith}
use Rattle.std.specs.Prelude.{◌≢◌, IfSome, nat_eq, slice_get, unwrap_or}
use Rattle.std.proofs.lemmas.Bool.{cond-true, cond-false, eqb-true, eqb-false}
use Rattle.std.proofs.lemmas.List.{length-map}
use Rattle.std.proofs.lemmas.Option.{slice_get-get_or, slice_get_within, get_or_from_slice_get}
use Rattle.opgen_num.specs.Words.{nat}
use Rattle.opgen_num.proofs.Words.{same-word}
use Rattle.opgen_design.specs.declared.design.Design.{Design}
use Rattle.opgen_design.specs.declared.design.Dir.{Dir}
use Rattle.opgen_design.specs.declared.design.Dir.TheVariants.{In, Out}
use Rattle.opgen_design.specs.declared.design.Port.{Port}
use Rattle.opgen_design.specs.declared.design.Driver.{Driver}
use Rattle.opgen_design.specs.declared.design.Driver.TheVariants.{Assign, Choice, Table, Register, Output}
use Rattle.opgen_design.specs.Order.{IsOrderOf}
use Rattle.opgen_design.specs.Run.{Words, scope, moved, at_ports, is_in, IsTableWord, Meets, Cycle}
use Rattle.opgen_design.specs.declared.sound.Rule.TheVariants.{ChoiceTwice}
use Rattle.opgen_design.specs.Sound.{IsSound, DriverPasses, HasWidth, signal_widths, at_driver}
use Rattle.opgen_design.specs.Value.{value, word_at}
use Rattle.opgen_runs.specs.Evaluate.{HaveWidths, table_word, settle, hand_all_on}
use Rattle.opgen_runs.specs.Tables.{Row, row_word}
use Rattle.opgen_runs.proofs.Widths.{agree-at, declared-there, long, settle-widths}
use Rattle.opgen_runs.proofs.Equations.{stands, register-kept, input-kept, targets-differ}
use Rattle.opgen_runs.proofs.Registers.{handed}

nat_eq-false : (b : Bool) (m n : ℕ) → nat_eq m n ≡ b → (m ≡ n → ⊥) → nat_eq m n ≡ false
nat_eq-false true m n e f = absurd (f (eqb-true m n e))
nat_eq-false false m n e f = e

nat_eq-true : (b : Bool) (n : ℕ) → nat_eq n n ≡ b → nat_eq n n ≡ true
nat_eq-true true n e = e
nat_eq-true false n e = absurd (eqb-false n n e refl)

module _ (other address : List Bool) where
  pub at-first : (r : Row) (rows : List Row) → nat_eq (nat r.0) (nat address) ≡ true → table_word (r ∷ rows) other address ≡ r.1
  at-first r rows e = ap (λ o. unwrap_or o other) (cond-true (nat_eq (nat r.0) (nat address)) (Some r.1) (row_word rows (nat address)) e)

  pub past-first : (r : Row) (rows : List Row) → nat_eq (nat r.0) (nat address) ≡ false → table_word (r ∷ rows) other address
      ≡ table_word rows other address
  past-first r rows e = ap (λ o. unwrap_or o other) (cond-false (nat_eq (nat r.0) (nat address)) (Some r.1) (row_word rows (nat address)) e)

  skip : (r : Row) (rows : List Row) → length r.0 ≡ length address → (r.0 ≡ address → ⊥) → table_word (r ∷ rows) other address
      ≡ table_word rows other address
  skip r rows l f = past-first r rows (nat_eq-false (nat_eq (nat r.0) (nat address)) (nat r.0) (nat address) refl
      (λ e. f (same-word r.0 address l e)))

  table-hit : (rows : List Row) (i : ℕ) (r : Row) → slice_get rows i ≡ Some r
      → ((j : ℕ) (q : Row) → slice_get rows j ≡ Some q → length q.0 ≡ length address)
      → ((i j : ℕ) (r q : Row) → i < j → slice_get rows i ≡ Some r → slice_get rows j ≡ Some q → r.0 ≢ q.0) → r.0 ≡ address
      → table_word rows other address ≡ r.1
  table-hit [] i r e l f h = absurd (cc)
  table-hit (q ∷ rows) zero r e l f h =
      let same : q ≡ r = cc in
      let a : q.0 ≡ address = ap (λ x. x.0) same ∙ h in
      at-first q rows (ap (λ x. nat_eq (nat x) (nat address)) a ∙ nat_eq-true (nat_eq (nat address) (nat address)) (nat address) refl)
      ∙ ap (λ x. x.1) same
  table-hit (q ∷ rows) (suc i) r e l f h =
      skip q rows (l 0 q refl) (λ x. f 0 (suc i) q r (omega arith) refl e (x ∙ sym h))
      ∙ table-hit rows i r e (λ j p g. l (suc j) p g) (λ a b x y k g m. f (suc a) (suc b) x y (omega (arith, k)) g m) h

  table-miss : (rows : List Row) → ((j : ℕ) (q : Row) → slice_get rows j ≡ Some q → length q.0 ≡ length address)
      → ((j : ℕ) (q : Row) → slice_get rows j ≡ Some q → q.0 ≡ address → ⊥) → table_word rows other address ≡ other
  table-miss [] l f = refl
  table-miss (q ∷ rows) l f = skip q rows (l 0 q refl) (f 0 q refl) ∙ table-miss rows (λ j p g. l (suc j) p g) (λ j p g. f (suc j) p g)

  is-table_word : (rows : List Row) → ((j : ℕ) (q : Row) → slice_get rows j ≡ Some q → length q.0 ≡ length address)
      → ((i j : ℕ) (r q : Row) → i < j → slice_get rows i ≡ Some r → slice_get rows j ≡ Some q → r.0 ≢ q.0) → (w : List Bool) → w
      ≡ table_word rows other address → IsTableWord rows other address w
  is-table_word rows l f w e = record {
    of_row = λ i x k h. e ∙ table-hit rows i (get_or rows i x) (slice_get-get_or rows i x k) l f h;
    of_none = λ g. e ∙ table-miss rows l (λ j q h x. g j q (slice_get_within rows j q h) (subst (λ y. y.0 ≡ address)
        (sym (get_or_from_slice_get rows j q q h)) x));
  }

cons-dir : (b : Dir) (x y : List Bool) (xs ys : List (List Bool)) → xs ≡ ys → (b ≡ In → x ≡ y) → (if is_in b then x ∷ xs else xs)
    ≡ (if is_in b then y ∷ ys else ys)
cons-dir In x y xs ys e f = ap (λ z. z ∷ xs) (f refl) ∙ ap (λ zs. y ∷ zs) e
cons-dir Out x y xs ys e f = e

at_ports-same : (ps : List Port) (xs ys : List (List Bool)) → length xs ≡ length ys
    → ((i : ℕ) (q : Port) → slice_get ps i ≡ Some q → q.dir ≡ In → get_or xs i [] ≡ get_or ys i []) → at_ports is_in ps xs
    ≡ at_ports is_in ps ys
at_ports-same [] xs ys l f = refl
at_ports-same (p ∷ ps) [] [] l f = refl
at_ports-same (p ∷ ps) [] (y ∷ ys) l f = absurd (omega (arith, l))
at_ports-same (p ∷ ps) (x ∷ xs) [] l f = absurd (omega (arith, l))
at_ports-same (p ∷ ps) (x ∷ xs) (y ∷ ys) l f =
    cons-dir p.dir x y (at_ports is_in ps xs) (at_ports is_in ps ys)
    (at_ports-same ps xs ys (omega (arith, l)) (λ i q e g. f (suc i) q e g)) (λ e. f 0 p refl e)

module _ (d : Design) (sound : IsSound d) (order : List ℕ) (o : IsOrderOf d order) (v0 : Words) (h : HaveWidths d v0)
    (next : List (List Bool)) (room : map length next ≡ signal_widths d) where
  abbrev v : Words
  v = settle d.drivers order v0

  settled : HaveWidths d v
  settled = settle-widths d sound order v0 h

  meets : (i : ℕ) (k : Driver) → slice_get d.drivers i ≡ Some k → Meets d.enable v0.signals v (hand_all_on d.enable d.drivers v next) k
  meets i (Assign to e) g = stands d sound order o v0 h i (Assign to e) g refl
  meets i (Choice to on one other) g = stands d sound order o v0 h i (Choice to on one other) g refl
  meets i (Table to on rows other) g =
      let a = agree-at d sound i (Table to on rows other) g in
      is-table_word other (value (scope v) on) rows
      (λ j q e. sym (long d sound v settled on (length q.0)
      (subst (λ x. HasWidth d on (length x.0)) (get_or_from_slice_get rows j q q e) (a.0 j q (slice_get_within rows j q e)).0)))
      (subst (λ x. IfSome x (DriverPasses d ChoiceTwice i)) g (sound.addresses (at_driver i)))
      (word_at v.signals to) (stands d sound order o v0 h i (Table to on rows other) g refl)
  meets i (Register to e) g =
      let w : HaveWidths d (record { signals = next; ports = v.ports }) = record { signals = room; ports = settled.ports } in
      let kept = register-kept d sound order o v0 i to e g in (
        kept,
        handed d.enable d.drivers i to e v next g
            (λ j m l f t. targets-differ d sound order o i j (Register to e) m g f (λ x. omega (arith, l, x)) (sym t))
            (declared-there d sound (record { signals = next; ports = v.ports }) w i (Register to e) g)
            ∙ ap (moved d.enable v (value (scope v) e)) kept,
      )
  meets i (Output place e) g = stands d sound order o v0 h i (Output place e) g refl

  pub is-cycle : Cycle d v0.signals (at_ports is_in d.ports v0.ports) v (hand_all_on d.enable d.drivers v next)
  is-cycle = record {
    signal_widths = settled.signals;
    port_widths = settled.ports;
    inputs = at_ports-same d.ports v.ports v0.ports
        (sym (length-map v.ports length) ∙ ap length (settled.ports ∙ sym h.ports) ∙ length-map v0.ports length)
        (λ i q e f. input-kept d sound order o v0 i (q, e, f));
    equations = λ i x l. meets i (get_or d.drivers i x) (slice_get-get_or d.drivers i x l);
  }
