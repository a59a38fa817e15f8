use Rattle.std.proofs.Common.{◌≡◌, ℕ, ◌<◌, List, [], get_or, IsTrue, Bor}
use Rattle.std.specs.HashSet.{contains}
use Rattle.std.specs.Str.{bytes_eq}
use Rattle.opgen_design.specs.Rules.{HoldsBefore}
use Rattle.opgen_design.specs.Sound.{IsNewName, names_of}
use Rattle.opgen_design.proofs.design.Design.declared_twice.Given as goal

abbrev pub invariant-loop-i : goal.invariant-loop-i
invariant-loop-i l = record {
  holds : HoldsBefore (λ i name. IsNewName (names_of l.self) i) (names_of l.self) l.i;
  met : (q : Bor (List ℕ)) → IsTrue (contains (λ x y. bytes_eq x.now y.now) l.met q) → (j : ℕ) × (j < l.i)
      × (get_or (names_of l.self) j [] ≡ q.now);
  all : (j : ℕ) (q : Bor (List ℕ)) → j < l.i → get_or (names_of l.self) j [] ≡ q.now
      → IsTrue (contains (λ x y. bytes_eq x.now y.now) l.met q);
}
