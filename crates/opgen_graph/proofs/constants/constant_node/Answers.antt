use mir.Val.{of_z, to_z}
use mir.Syntax.{w64}
use Rattle.std.proofs.Common.{◌≡◌, ◌<◌, ℕ, zero, suc, Bool, true, false, FitsSigned, refl, sym, ap, ◌∙◌, subst, arith}
use Rattle.std.specs.Prelude.{ℤ, pos, negsuc, int_lt, unsigned_abs, slice_index, Contains}
use Rattle.std.proofs.lemmas.Int.{ints, to_z-of_z}
use Rattle.std.proofs.lemmas.Result.{IfOk-weaker, on_ok_weaker}
use Rattle.opgen_net.specs.declared.net.Net.{Net}
use Rattle.opgen_net.specs.Placed.{Placed}
use Rattle.opgen_net.specs.Valid.{widths}
use Rattle.opgen_graph.specs.Placing.{factors}
use Rattle.opgen_graph.specs.Recipe.{Multiples, negated, with_magnitude, with_constant}
use Rattle.opgen_ports.specs.OddParts.{odd_part}
use Rattle.opgen_graph.proofs.Products.{magnitude-placed}
use Rattle.opgen_graph.proofs.TargetLists.{some_number}
use Rattle.opgen_graph.proofs.constants.constant_node.Goals as goal

-- a constant, as its word of 64 bits has it
module _ (t : ℤ) (fits : FitsSigned w64 t) where
  size : (n : ℕ) → n ≡ unsigned_abs (to_z w64 (of_z w64 t)) → n ≡ unsigned_abs t
  size n e = e ∙ ap unsigned_abs (to_z-of_z w64 t fits)

  sign : (b : Bool) → int_lt (pos 0) (to_z w64 (of_z w64 t)) ≡ b → int_lt (pos 0) t ≡ b
  sign b e = ap (int_lt (pos 0)) (sym (to_z-of_z w64 t fits)) ∙ e

  not_zero : (of_z w64 t ≡ 0 → ⊥) → t ≡ pos 0 → ⊥
  not_zero some e = some (ap (of_z w64) e)

-- the node of a constant above 0, and of one below
module _ (signed : Bool) (width : ℕ) (b : Multiples) where
  above : (t : ℤ) → int_lt (pos 0) t ≡ true → with_magnitude signed width b (unsigned_abs t) ≡ with_constant signed width b t
  above (pos zero) h = absurd (grind (arith, ints, h))
  above (pos (suc n)) h = refl
  above (negsuc n) h = absurd (grind (arith, ints, h))

  below : (t : ℤ) → (t ≡ pos 0 → ⊥) → int_lt (pos 0) t ≡ false
      → negated width (with_magnitude signed width b (unsigned_abs t)) ≡ with_constant signed width b t
  below (pos zero) some h = absurd (some refl)
  below (pos (suc n)) some h = absurd (grind (arith, ints, h))
  below (negsuc n) some h = refl

  -- a node that was made is that of the size
  placed : (n m node : ℕ) (net : Net) → n ≡ m → net ≡ (with_magnitude signed width b n).net → node ≡ (with_magnitude signed width b n).place
      → ◌≡◌ {A = Placed} (record { net = net; place = node }) (with_magnitude signed width b m)
  placed n m node net e to at = rw (to, at, e) refl

pub magnitude-requires-clause-some : goal.magnitude-requires-clause-some
magnitude-requires-clause-some c =
    let t = c.args.constant in
    subst (λ n. 0 < n) (sym (size t c.ranges.constant c.unsigned_abs-number.result c.unsigned_abs-number.ensures.value))
    (some_number t (not_zero t c.ranges.constant c.if-constant-eq0.false))

pub magnitude-requires-clause-odd : goal.magnitude-requires-clause-odd
magnitude-requires-clause-odd c =
    let t = c.args.constant in
    subst (λ n. Contains (factors c.args.known.now) (odd_part n))
    (sym (size t c.ranges.constant c.unsigned_abs-number.result c.unsigned_abs-number.ensures.value))
    (c.requires.odd (not_zero t c.ranges.constant c.if-constant-eq0.false))

pub returns-then-constant-gt0-clause-ok : goal.returns-then-constant-gt0-clause-ok
returns-then-constant-gt0-clause-ok c =
    let a = c.args in
    let b : Multiples = record { net = a.net.now; known = a.known.now } in
    let e = size a.constant c.ranges.constant c.unsigned_abs-number.result c.unsigned_abs-number.ensures.value in
    c.in_ok-node.ensures.ok
    ∙ ap (λ (n : ℕ). (with_magnitude a.signed a.width b n).net) e
    ∙ ap (λ (p : Placed). p.net) (above a.signed a.width b a.constant (sign a.constant c.ranges.constant true c.if-constant-gt0.true))

pub returns-then-constant-gt0-clause-place : goal.returns-then-constant-gt0-clause-place
returns-then-constant-gt0-clause-place c =
    let a = c.args in
    let b : Multiples = record { net = a.net.now; known = a.known.now } in
    let e = size a.constant c.ranges.constant c.unsigned_abs-number.result c.unsigned_abs-number.ensures.value in
    c.in_ok-node.ensures.place
    ∙ ap (λ (n : ℕ). (with_magnitude a.signed a.width b n).place) e
    ∙ ap (λ (p : Placed). p.place) (above a.signed a.width b a.constant (sign a.constant c.ranges.constant true c.if-constant-gt0.true))

pub negated-requires-clause-node : goal.negated-requires-clause-node
negated-requires-clause-node c =
    let a = c.args in
    let b : Multiples = record { net = a.net.now; known = a.known.now } in
    let n = unsigned_abs a.constant in
    let odd : Contains (factors b.known) (odd_part n) = c.requires.odd (not_zero a.constant c.ranges.constant c.if-constant-eq0.false) in
    let e = size a.constant c.ranges.constant c.unsigned_abs-number.result c.unsigned_abs-number.ensures.value in
    let made = placed a.signed a.width b _ n c.in_ok-node.node c.magnitude.new.net e c.in_ok-node.ensures.ok c.in_ok-node.ensures.place in
    ap (λ (p : Placed). slice_index (widths p.net.nodes) p.place) made
    ∙ (magnitude-placed a.signed b c.requires.net c.requires.nodes a.width c.requires.width n odd).width

-- the node of a constant below 0
made : (c : goal.After-negated) → negated c.args.width (record { net = c.magnitude.new.net; place = c.in_ok-node.node })
    ≡ with_constant c.args.signed c.args.width (record { net = c.args.net.now; known = c.args.known.now }) c.args.constant
made c =
    let a = c.args in
    let b : Multiples = record { net = a.net.now; known = a.known.now } in
    let e = size a.constant c.ranges.constant c.unsigned_abs-number.result c.unsigned_abs-number.ensures.value in
    ap (negated a.width)
    (placed a.signed a.width b _ (unsigned_abs a.constant) c.in_ok-node.node c.magnitude.new.net e c.in_ok-node.ensures.ok c.in_ok-node.ensures.place)
    ∙ below a.signed a.width b a.constant (not_zero a.constant c.ranges.constant c.if-constant-eq0.false)
    (sign a.constant c.ranges.constant false c.if-constant-gt0.false)

pub returns-clause-ok : goal.returns-clause-ok
returns-clause-ok c = on_ok_weaker c.negated.result (λ e. e ∙ ap (λ (p : Placed). p.net) (made c)) c.negated.ensures.ok

pub returns-clause-place : goal.returns-clause-place
returns-clause-place c = IfOk-weaker c.negated.result _ _ (λ n e. e ∙ ap (λ (p : Placed). p.place) (made c)) c.negated.ensures.place
