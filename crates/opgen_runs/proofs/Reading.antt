-- A driver's word over words that agree where it reads.
use Rattle.std.proofs.Common.{◌≡◌, ℕ, ◌<◌, Bool, false, List, [], length, refl, ap, ◌∙◌, subst, inl, inr}
use Rattle.std.specs.Prelude.{IfSome, slice_get}
use Rattle.std.proofs.lemmas.List.{get_or-set_other}
use Rattle.opgen_design.specs.declared.design.Design.{Design}
use Rattle.opgen_design.specs.declared.design.Dir.TheVariants.{In}
use Rattle.opgen_design.specs.declared.design.Driver.{Driver}
use Rattle.opgen_design.specs.declared.design.Driver.TheVariants.{Assign, Choice, Table, Register, Output}
use Rattle.opgen_design.specs.Order.{is_register}
use Rattle.opgen_design.specs.Sound.{AllReads, AllOperandsRead, ReadsName, SomeOperandReads, Needs, IsInput, ReadsInputs, Names}
use Rattle.opgen_design.specs.Run.{Words, scope}
use Rattle.opgen_design.specs.declared.design.Target.{Target}
use Rattle.opgen_design.specs.declared.design.Target.TheVariants.{Signal as signal, Port as port_of}
use Rattle.opgen_design.specs.Tree.{Tree, Trees, name, part, bits, port, inverse, chain, none, more}
use Rattle.opgen_design.specs.Value.{value, chosen, word_at}
use Rattle.opgen_design.proofs.ValueLaws.{same_value}
use Rattle.opgen_design.proofs.NameWalk.{some-item}
use Rattle.opgen_runs.specs.Evaluate.{driver_word, table_word, put_at}

module _ (P Q : ℕ → Type 0) (r : ℕ) where
  mutual
    -- what does not read a name reads others
    reads-others : (t : Tree) → AllReads P Q t → (ReadsName r t → ⊥) → AllReads (λ n. n ≡ r → ⊥) Q t
    reads-others (name n) h f = f
    reads-others (part n high low) h f = f
    reads-others (bits w) h f = tt
    reads-others (port n) h f = h
    reads-others (inverse t) h f = reads-others t h f
    reads-others (chain op ts) h f = operands-others ts h f

    operands-others : (ts : Trees) → AllOperandsRead P Q ts → (SomeOperandReads r ts → ⊥) → AllOperandsRead (λ n. n ≡ r → ⊥) Q ts
    operands-others none h f = tt
    operands-others (more t ts) h f = (reads-others t h.0 (λ x. f (inl x)), operands-others ts h.1 (λ x. f (inr x)))

abbrev pub at : Target → Words → List Bool
at (signal s) v = word_at v.signals s
at (port_of p) v = word_at v.ports p

abbrev Reads : Design → ℕ → Type 0
Reads d p = IfSome (slice_get d.ports p) (λ q. q.dir ≡ In)

is-input : (d : Design) (p : ℕ) → p < length d.ports → Reads d p → IsInput d (port_of p)
is-input d p l h = let q = some-item d.ports p l in (q.0, q.1, subst (λ o. IfSome o (λ q. q.dir ≡ In)) q.1 h)

module _ (d : Design) (w : List Bool) (v : Words) where
  tree-same : (t : Target) (e : Tree) → AllReads (λ s. Unit {0}) (Reads d) e → ((s : ℕ) → t ≡ signal s → ReadsName s e → ⊥)
      → (IsInput d t → ⊥) → Names d t → value (scope (put_at t w v)) e ≡ value (scope v) e
  tree-same (signal s) e h f g n =
      same_value (λ n. n ≡ s → ⊥) (Reads d) (scope (put_at (signal s) w v)) (scope v) (λ n k. get_or-set_other v.signals s n w [] k)
      (λ n k. refl) e (reads-others (λ s. Unit {0}) (Reads d) s e h (f s refl))
  tree-same (port_of p) e h f g n =
      same_value (λ s. Unit {0}) (Reads d) (scope (put_at (port_of p) w v)) (scope v) (λ n k. refl)
      (λ q k. get_or-set_other v.ports p q w [] (λ x. g (is-input d p n (subst (Reads d) x k)))) e h

  -- a word put where a driver reads nothing leaves the driver's word
  pub driver-same : (t : Target) (k : Driver) → ReadsInputs d k → is_register k ≡ false → ((s : ℕ) → t ≡ signal s → Needs s k → ⊥)
      → (IsInput d t → ⊥) → Names d t → driver_word (scope (put_at t w v)) k ≡ driver_word (scope v) k
  driver-same t (Assign to e) h r f g n = tree-same t e h.0 (λ s e k. f s e (inl k)) g n
  driver-same t (Choice to on one other) h r f g n =
      let new = scope (put_at t w v) in
      ap (λ x. chosen x (value new one) (value new other)) (tree-same t on h.0 (λ s e k. f s e (inl k)) g n)
      ∙ ap (λ x. chosen (value (scope v) on) x (value new other)) (tree-same t one h.1.0 (λ s e k. f s e (inr (inl k))) g n)
      ∙ ap (chosen (value (scope v) on) (value (scope v) one)) (tree-same t other h.1.1.0 (λ s e k. f s e (inr (inr (inl k)))) g n)
  driver-same t (Table to on rows other) h r f g n = ap (table_word rows other) (tree-same t on h.0 (λ s e k. f s e (inl k)) g n)
  driver-same t (Register to e) h r f g n = absurd (cc)
  driver-same t (Output place e) h r f g n = tree-same t e h.0 (λ s e k. f s e (inl k)) g n
