use Rattle.std.proofs.Common.{◌≡◌, ◌<◌, ◌≤◌, ◌-◌, ℕ, Bool, true, false, List, length, get_or, set, not, refl, sym, ap, ◌∙◌, subst, arith, inl, inr}
use Rattle.std.specs.Prelude.{max, nat_eq, if◌then◌else◌}
use Rattle.std.proofs.lemmas.Bool.{cases_Bool, eqb-true, eqb-false}
use Rattle.std.proofs.lemmas.List.{get_or-set_same, get_or-set_other}
use Rattle.std.proofs.lemmas.Option.{slice_get_read}
use Rattle.opgen_net.specs.declared.node.Node.{Node}
use Rattle.opgen_schedule.specs.Reads.{is_constant, is_some_constant, is_constant_at}
use Rattle.opgen_schedule.specs.Stage.{slot_at}
use Rattle.opgen_pipe.proofs.counts.raise.Goals as goal

-- a count that may change at one place alone
at-one : (read j old new most : ℕ) → (read ≡ j → new ≡ max old most) → ((read ≡ j → ⊥) → new ≡ old)
    → new ≡ max old (if nat_eq read j then most else 0)
at-one read j old new most same other =
    elim (cases_Bool (nat_eq read j)) [
      | inl t ↦ same (eqb-true read j t) ∙ ap (λ b. max old (if b then most else 0)) (sym t)
      | inr f ↦
          let none : (if nat_eq read j then most else 0) ≡ 0 = ap (λ b. if b then most else 0) f in
          omega (arith, other (eqb-false read j f), none)
    ]

module _ (counts : List ℕ) (read copy : ℕ) (f : ℕ → ℕ) (is : copy ≡ f read) where
  -- the count of the node that is read, where it is raised
  raised : read < length counts → get_or counts read 0 < copy → (j : ℕ)
      → get_or (set counts read copy) j 0 ≡ max (get_or counts j 0) (if nat_eq read j then f j else 0)
  raised l m j =
      let here : get_or (set counts read copy) read 0 ≡ max (get_or counts read 0) (f read) =
      omega (arith, get_or-set_same counts read copy 0 l, m, is) in
      at-one read j (get_or counts j 0) (get_or (set counts read copy) j 0) (f j)
      (λ e. subst (λ k. get_or (set counts read copy) k 0 ≡ max (get_or counts k 0) (f k)) e here)
      (λ n. get_or-set_other counts read j copy 0 (λ e. n (sym e)))

  -- and where it is not
  kept : copy ≤ get_or counts read 0 → (j : ℕ) → get_or counts j 0 ≡ max (get_or counts j 0) (if nat_eq read j then f j else 0)
  kept m j =
      let here : get_or counts read 0 ≡ max (get_or counts read 0) (f read) = omega (arith, m, is) in
      at-one read j (get_or counts j 0) (get_or counts j 0) (f j)
      (λ e. subst (λ k. get_or counts k 0 ≡ max (get_or counts k 0) (f k)) e here) (λ n. refl)

-- of a constant and a node that is none, neither is the other
differ : (nodes : List Node) (i j : ℕ) (n : Node) (b : Bool) → i < length nodes → n ≡ get_or nodes i n → is_constant n ≡ b
    → is_constant_at nodes j ≡ not b → i ≡ j → ⊥
differ nodes i j n b l e f g same =
    no b (sym f ∙ sym (ap is_some_constant (slice_get_read nodes (length nodes) i n refl l e)) ∙ ap (is_constant_at nodes) same ∙ g)
  where
    no : (b : Bool) → b ≡ not b → ⊥
    no true h = cc
    no false h = cc

pub returns-then-counts-read-clause-live : goal.returns-then-counts-read-clause-live
returns-then-counts-read-clause-live c = λ j l h.
    raised c.args.counts.now c.args.read c.saturating_sub-copy.result (λ k. c.args.cycle - (slot_at c.args.slots.now k).cycle)
    c.saturating_sub-copy.ensures (omega (arith, c.requires.there, c.requires.counts)) c.if-counts-read.true j

pub returns-then-counts-read-clause-still : goal.returns-then-counts-read-clause-still
returns-then-counts-read-clause-still c = λ j h.
    get_or-set_other c.args.counts.now c.args.read j c.saturating_sub-copy.result 0
    (λ e. differ c.args.nodes.now c.args.read j c.index-nodes-read.result false c.requires.there c.index-nodes-read.is
    (sym c.is_constant.ensures ∙ c.if-not-is_constant.true) h (sym e))

pub returns-else-counts-read-clause-live : goal.returns-else-counts-read-clause-live
returns-else-counts-read-clause-live c = λ j l h.
    kept c.args.counts.now c.args.read c.saturating_sub-copy.result (λ k. c.args.cycle - (slot_at c.args.slots.now k).cycle)
    c.saturating_sub-copy.ensures c.if-counts-read.false j

pub returns-else-not-is_constant-clause-live : goal.returns-else-not-is_constant-clause-live
returns-else-not-is_constant-clause-live c = λ j l h.
    let old = get_or c.args.counts.now j 0 in
    at-one c.args.read j old old (c.args.cycle - (slot_at c.args.slots.now j).cycle)
    (λ e. absurd (differ c.args.nodes.now c.args.read j c.index-nodes-read.result true c.requires.there c.index-nodes-read.is
    (sym c.is_constant.ensures ∙ c.if-not-is_constant.false) h e))
    (λ n. refl)
