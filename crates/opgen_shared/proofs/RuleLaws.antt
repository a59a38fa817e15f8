-- Numbers have one graph by the rule.
use Rattle.std.proofs.Common.{◌≡◌, ℕ, List, [], ◌∷◌, ◌++◌, Contains, refl, sym, ap, subst, ◌∙◌}
use Rattle.opgen_graph.specs.declared.ranks.Adder.{Adder}
use Rattle.opgen_graph.proofs.SignedSets.{one_targets}
use Rattle.opgen_shared.specs.Rule.{IsBest, Grows, stands, made, GrowsBy, over, next, OneRuleGraph, PartsAloneCount}
use Rattle.opgen_shared.specs.Sums.{placed_by}
use Rattle.opgen_shared.proofs.Ranking.{one_best}

-- ---- one number
nothing_new : (done : List Adder) (number : ℕ) (after : List Adder) → Grows done number after → Contains (placed_by done) number → after ≡ done
nothing_new done number _ (stands c) has = refl
nothing_new done number _ (made a new best u v) has = absurd (new has)

record IsMade (done : List Adder) (number : ℕ) (after : List Adder) : Type 0 where
  adder : Adder
  first : List Adder
  both : List Adder
  best : IsBest done number adder
  u : Grows done adder.u first
  v : Grows first adder.v both
  last : after ≡ both ++ adder ∷ []

made_of : (done : List Adder) (number : ℕ) (after : List Adder) → Grows done number after → (Contains (placed_by done) number → ⊥)
    → IsMade done number after
made_of done number _ (stands c) non = absurd (non c)
made_of done number _ (made {first = first} {both = both} a new best u v) non =
    record { adder = a; first = first; both = both; best = best; u = u; v = v; last = refl }

same_growth : (done : List Adder) (number : ℕ) (after other : List Adder) → Grows done number after → Grows done number other → after ≡ other
same_growth done number _ other (stands c) g = sym (nothing_new done number other g c)
same_growth done number _ other (made {first = first} {both = both} a new best u v) g =
    same (made_of done number other g new) (λ x. same_growth done a.u first x u) (λ x. same_growth first a.v both x v)
  where
    same : IsMade done number other → ((x : List Adder) → Grows done a.u x → first ≡ x) → ((x : List Adder) → Grows first a.v x → both ≡ x)
        → both ++ a ∷ [] ≡ other
    same m by_u by_v =
        let e : m.adder ≡ a = one_best done number m.adder a m.best best in
        let firsts : first ≡ m.first = by_u m.first (subst (λ b. Grows done b.u m.first) e m.u) in
        let boths : both ≡ m.both =
        by_v m.both (subst (λ b. Grows first b.v m.both) e (subst (λ xs. Grows xs m.adder.v m.both) (sym firsts) m.v)) in
        ap (λ xs. xs ++ a ∷ []) boths ∙ ap (λ b. m.both ++ b ∷ []) (sym e) ∙ sym m.last

-- ---- many numbers
abbrev IsNext : List Adder → ℕ → List ℕ → List Adder → Type 0
IsNext done number numbers after = (first : List Adder) × Grows done number first × GrowsBy first numbers after

next_of : (done : List Adder) (xs : List ℕ) (after : List Adder) → GrowsBy done xs after → (x : ℕ) (rest : List ℕ) → xs ≡ x ∷ rest
    → IsNext done x rest after
next_of done _ _ over x rest e = cc
next_of done _ after (next {first = first} {number = number} {numbers = numbers} g more) x rest e =
    let head : number ≡ x = cc in
    let tail : numbers ≡ rest = cc in
    (first, subst (λ n. Grows done n first) head g, subst (λ ns. GrowsBy first ns after) tail more)

none_of : (done : List Adder) (xs : List ℕ) (after : List Adder) → GrowsBy done xs after → xs ≡ [] → after ≡ done
none_of done _ _ over e = refl
none_of done _ after (next g more) e = cc

same_growths : (done : List Adder) (numbers : List ℕ) (after other : List Adder) → GrowsBy done numbers after → GrowsBy done numbers other
    → after ≡ other
same_growths done [] after other g h = none_of done [] after g refl ∙ sym (none_of done [] other h refl)
same_growths done (x ∷ xs) after other g h =
    let (first, a, later) = next_of done (x ∷ xs) after g x xs refl in
    let (second, b, bs) = next_of done (x ∷ xs) other h x xs refl in
    let e = same_growth done x first second a b in
    same_growths first xs after other later (subst (λ ys. GrowsBy ys xs other) (sym e) bs)

pub grows_more : (done : List Adder) (numbers : List ℕ) (mid : List Adder) (number : ℕ) (after : List Adder) → GrowsBy done numbers mid
    → Grows mid number after → GrowsBy done (numbers ++ number ∷ []) after
grows_more done _ _ number after over g = next g over
grows_more done _ mid number after (next {first = first} {numbers = numbers} h more) g =
    next h (grows_more first numbers mid number after more g)

-- ---- one graph
pub one_rule_graph : OneRuleGraph
one_rule_graph numbers adders others a b =
    same_growths [] b.parts adders others
    (subst (λ parts. GrowsBy [] parts adders) (one_targets numbers a.parts b.parts a.are_parts b.are_parts) a.grows) b.grows

pub parts_alone_count : PartsAloneCount
parts_alone_count numbers others adders same a = record {
  parts = a.parts;
  are_parts = record {
    increasing = a.are_parts.increasing;
    members = λ x. (λ c. (same x).0 ((a.are_parts.members x).0 c), λ t. (a.are_parts.members x).1 ((same x).1 t));
  };
  grows = a.grows;
}
