use Rattle.std.proofs.Common.{◌≡◌, ◌<◌, ◌+◌, ℕ, Bool, true, false, not, cond, IsTrue, List, [], length, get_or, Bor, HashSet, inl, inr, refl, ap, sym, ◌∙◌, arith}
use Rattle.std.specs.Prelude.{codes}
use Rattle.std.specs.HashSet.{contains}
use Rattle.std.specs.Str.{bytes_eq}
use Rattle.std.proofs.lemmas.Bool.{cases_eq}
use Rattle.std.proofs.lemmas.Slice.Eq.{bytes_eq-Decides}
use Rattle.opgen_design.specs.Sound.{names_of}
use Rattle.opgen_design.proofs.FirstFailing.{none-failing}
use Rattle.opgen_design.proofs.NameWalk.{IsNew, names-length, clock-fails, met-fails, new-holds}
use Rattle.opgen_design.proofs.design.Design.declared_twice.Goals as goal

pub returns : goal.returns
returns c =
    let d = c.args.self.now in
    none-failing (IsNew (names_of d)) (names_of d) c.loop-i.i
    (omega (arith, names-length d, c.loop-i-test.false, c.len.ensures, c.len-2.ensures)) c.loop-i.invariant.holds

was-met : (b f : Bool) → f ≡ not b → f ≡ false → b ≡ true
was-met true f e h = refl
was-met false f e h = absurd (cc)

was-not : (b f : Bool) → f ≡ not b → f ≡ true → b ≡ false
was-not true f e h = absurd (cc)
was-not false f e h = refl

pub returns-then-eq : goal.returns-then-eq
returns-then-eq c =
    let d = c.args.self.now in
    let within : c.loop-i.i < length (names_of d) = omega (arith, names-length d, c.loop-i-test.true, c.len.ensures, c.len-2.ensures) in
    clock-fails (names_of d) c.loop-i.i within c.name-name.result.now c.name-name.ensures c.loop-i.invariant.holds
    ((bytes_eq-Decides c.name-name.result.now (codes "clk")).0 (sym c.if-eq.ensures))

pub returns-then-not-branch : goal.returns-then-not-branch
returns-then-not-branch c =
    let d = c.args.self.now in
    let within : c.loop-i.i < length (names_of d) = omega (arith, names-length d, c.loop-i-test.true, c.len.ensures, c.len-2.ensures) in
    let met = was-met _ _ c.in_ok-insert.ensures.added c.if-not-branch.true in
    let j = c.loop-i.invariant.met c.name-name.result met in
    met-fails (names_of d) c.loop-i.i within c.name-name.result.now c.name-name.ensures c.loop-i.invariant.holds j.0 j.1 j.2

-- a walk past a name that was not met
abbrev Met : {S : Type 0} → HashSet (Bor (List ℕ)) S → Bor (List ℕ) → Bool
Met s q = contains (λ x y. bytes_eq x.now y.now) s q

module _ {S : Type 0} (names : List (List ℕ)) (i : ℕ) (name : Bor (List ℕ)) (is : name.now ≡ get_or names i [])
    (old new : HashSet (Bor (List ℕ)) S)
    (met : (q : Bor (List ℕ)) → IsTrue (Met old q) → (j : ℕ) × (j < i) × (get_or names j [] ≡ q.now))
    (all : (j : ℕ) (q : Bor (List ℕ)) → j < i → get_or names j [] ≡ q.now → IsTrue (Met old q))
    (updates : (q : Bor (List ℕ)) → Met new q ≡ cond (bytes_eq name.now q.now) true (Met old q)) where
  met-by : (q : Bor (List ℕ)) (b : Bool) → bytes_eq name.now q.now ≡ b → cond b true (Met old q) ≡ true → (j : ℕ) × (j < i + 1)
      × (get_or names j [] ≡ q.now)
  met-by q true e h = (i, omega arith, sym is ∙ (bytes_eq-Decides name.now q.now).0 e)
  met-by q false e h = let m = met q h in (m.0, omega (arith, m.1), m.2)

  met-more : (q : Bor (List ℕ)) → IsTrue (Met new q) → (j : ℕ) × (j < i + 1) × (get_or names j [] ≡ q.now)
  met-more q h = met-by q (bytes_eq name.now q.now) refl (sym (updates q) ∙ h)

  all-by : (b m : Bool) → m ≡ true → cond b true m ≡ true
  all-by true m h = refl
  all-by false m h = h

  all-more : (j : ℕ) (q : Bor (List ℕ)) → j < i + 1 → get_or names j [] ≡ q.now → IsTrue (Met new q)
  all-more j q l e =
      elim (cases_eq j i) [
        | inl f ↦
            let same : name.now ≡ q.now = is ∙ ap (λ x. get_or names x []) (sym f) ∙ e in
            updates q ∙ ap (λ b. cond b true (Met old q)) ((bytes_eq-Decides name.now q.now).1 same)
        | inr f ↦ updates q ∙ all-by (bytes_eq name.now q.now) (Met old q) (all j q (omega (arith, l, f)) e)
      ]

pub loop-i-preserved : goal.loop-i-preserved
loop-i-preserved c =
    let d = c.args.self.now in
    let names = names_of d in
    let i = c.loop-i.i in
    let name = c.name-name.result in
    let within : i < length names = omega (arith, names-length d, c.loop-i-test.true, c.len.ensures, c.len-2.ensures) in
    let unmet : Met c.loop-i.met name ≡ false = was-not _ _ c.in_ok-insert.ensures.added c.if-not-branch.false in
    record {
      holds = new-holds names i within name.now c.name-name.ensures c.loop-i.invariant.holds
          (λ e. let a : bytes_eq name.now (codes "clk") ≡ true = (bytes_eq-Decides name.now (codes "clk")).1 e in let b : false
          ≡ true = c.if-eq.ensures ∙ a in absurd (cc))
          (λ j l e. let a = c.loop-i.invariant.all j name l e in let b : false ≡ true = sym unmet ∙ a in absurd (cc));
      met = met-more names i name c.name-name.ensures c.loop-i.met c.insert.new.self c.loop-i.invariant.met c.loop-i.invariant.all
          (λ q. c.in_ok-insert.ensures.updates.0 q);
      all = all-more names i name c.name-name.ensures c.loop-i.met c.insert.new.self c.loop-i.invariant.met c.loop-i.invariant.all
          (λ q. c.in_ok-insert.ensures.updates.0 q);
    }
