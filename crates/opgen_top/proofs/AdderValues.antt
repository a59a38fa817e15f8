-- The numbers of an adder graph.
use Rattle.std.proofs.Common.{◌≡◌, ◌↔◌, ◌∙◌, ℕ, ◌+◌, ◌<◌, List, [], ◌∷◌, ◌++◌, take, length, get_or, Contains, sym, ap}
use lib.Dec.{eqb}
use Rattle.std.specs.List.{dedup}
use Rattle.std.specs.List.Sorted.{IsPermutation}
use Rattle.std.proofs.lemmas.List.Kept.{Contains-from_dedup, Contains-dedup_nat}
use Rattle.std.proofs.lemmas.List.Sorted.{IsPermutation-sym, Contains-permutation}
use Rattle.std.proofs.lemmas.List.{map-append, take_more}
use Rattle.opgen_graph.specs.declared.ranks.Adder.{Adder}
use Rattle.opgen_graph.specs.Graphs.{values}

-- one value more
pub value_more : (adders : List Adder) (i : ℕ) (d : Adder) (found : List ℕ) (value : ℕ) → i < length adders → found ≡ values (take i adders)
    → value ≡ (get_or adders i d).value → found ++ value ∷ [] ≡ values (take (i + 1) adders)
value_more adders i d found value lt so_far e =
    ap (λ xs. xs ++ value ∷ []) so_far ∙ ap (λ v. values (take i adders) ++ v ∷ []) e
    ∙ sym (map-append (λ (a : Adder). a.value) (take i adders) (get_or adders i d ∷ []))
    ∙ ap values (sym (take_more adders i d lt))

-- sorted, each once
pub sorted_members : (found sorted : List ℕ) → IsPermutation found sorted → (x : ℕ) → Contains (dedup eqb sorted) x ↔ Contains found x
sorted_members found sorted perm x = (
  λ c. Contains-permutation sorted found x (IsPermutation-sym found sorted perm) (Contains-from_dedup eqb sorted x c),
  λ c. Contains-dedup_nat sorted x (Contains-permutation found sorted x perm c),
)
