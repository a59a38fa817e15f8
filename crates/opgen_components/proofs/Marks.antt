-- Marks after one was set, and after many were.
use Rattle.std.proofs.Common.{◌≡◌, ◌≢◌, ℕ, ◌+◌, ◌<◌, List, [], ◌∷◌, length, get_or, set, drop, refl, sym, ◌∙◌, subst, inl, inr, suc, zero, add-one, arith}
use Rattle.std.specs.Prelude.{Contains}
use Rattle.std.proofs.lemmas.Bool.{cases_eq}
use Rattle.std.proofs.lemmas.List.{get_or-set_same, get_or-set_other, length-set, get_or-drop, length-drop}
use Rattle.opgen_components.specs.declared.walk.Mark.{Mark}
use Rattle.opgen_components.specs.declared.walk.Mark.TheVariants.{New}
use Rattle.opgen_components.specs.Walk.{mark_of, marked}

pub marked-out : (ms : List Mark) (ns : List ℕ) (m : Mark) (t : ℕ) → (Contains ns t → ⊥) → mark_of (marked ms ns m) t ≡ mark_of ms t
marked-out ms [] m t h = refl
marked-out ms (n ∷ ns) m t h =
    let other : t ≢ n = λ e. h (subst (λ x. Contains (x ∷ ns) t) e (0, omega arith, refl)) in
    marked-out (set ms n m) ns m t (λ c. h (c.0 + 1, omega (arith, c.1), rw add-one c.2)) ∙ get_or-set_other ms n t m New other

pub marked-again : (ms : List Mark) (ns : List ℕ) (m : Mark) (t : ℕ) → mark_of ms t ≡ m → t < length ms → mark_of (marked ms ns m) t ≡ m
marked-again ms [] m t h l = h
marked-again ms (n ∷ ns) m t h l =
    let there : t < length (set ms n m) = omega (arith, length-set ms n m, l) in
    elim (cases_eq t n) [
      | inl e ↦ marked-again (set ms n m) ns m t (rw e (get_or-set_same ms n m New (omega (arith, e, l)))) there
      | inr d ↦ marked-again (set ms n m) ns m t (get_or-set_other ms n t m New d ∙ h) there
    ]

pub marked-in : (ms : List Mark) (ns : List ℕ) (m : Mark) (k : ℕ) → k < length ns → get_or ns k 0 < length ms
    → mark_of (marked ms ns m) (get_or ns k 0) ≡ m
marked-in ms [] m k l h = absurd (omega (arith, l))
marked-in ms (n ∷ ns) m zero l h =
    marked-again (set ms n m) ns m n (get_or-set_same ms n m New h) (omega (arith, length-set ms n m, h))
marked-in ms (n ∷ ns) m (suc k) l h = marked-in (set ms n m) ns m k (omega (arith, l)) (omega (arith, length-set ms n m, h))

pub length-marked : (ms : List Mark) (ns : List ℕ) (m : Mark) → length (marked ms ns m) ≡ length ms
length-marked ms [] m = refl
length-marked ms (n ∷ ns) m = length-marked (set ms n m) ns m ∙ length-set ms n m

pub contains-drop : (i : ℕ) (xs : List ℕ) (t : ℕ) → Contains (drop i xs) t → Contains xs t
contains-drop i xs t c =
    (i + c.0, omega (arith, c.1, length-drop i xs), sym (get_or-drop i xs c.0 t) ∙ c.2)
