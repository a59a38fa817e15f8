-- Steps of one round.
use Rattle.std.proofs.Common.{◌≡◌, ℕ, ◌+◌, ◌≤◌, ◌<◌, List, [], ◌∷◌, ◌++◌, length, get_or, drop, subst, append_assoc, add-one, drop-cons}
use Rattle.std.proofs.lemmas.List.{drop_all, append-nil}
use Rattle.opgen_graph.specs.declared.ranks.Adder.{Adder}
use Rattle.opgen_graph.specs.Reach.{Among}
use Rattle.opgen_graph.specs.Graphs.{IsFirstAdder, Round, over, made, stays}

-- what is made and left of the first numbers, whatever is of the others
abbrev pub RoundUpTo : List ℕ → List ℕ → ℕ → List Adder → List ℕ → Type 0
RoundUpTo placed left i fresh rest = (more : List Adder) (others : List ℕ) → Round placed (drop i left) more others
    → Round placed left (fresh ++ more) (rest ++ others)

made_of : (placed left : List ℕ) (fresh : List Adder) (rest : List ℕ) (a : Adder) (f : ℕ) → a.value ≡ f → IsFirstAdder placed a
    → Round placed left fresh rest → Round placed (f ∷ left) (a ∷ fresh) rest
made_of placed left fresh rest a f e first r = subst (λ n. Round placed (n ∷ left) (a ∷ fresh) rest) e (made a first r)

pub one_made : (placed left : List ℕ) (i : ℕ) (fresh : List Adder) (rest : List ℕ) (a : Adder) → i < length left
    → a.value ≡ get_or left i 0 → IsFirstAdder placed a → RoundUpTo placed left i fresh rest
    → RoundUpTo placed left (i + 1) (fresh ++ a ∷ []) rest
one_made placed left i fresh rest a lt e first before = λ more others r.
    let next = rw add-one at r in
    let first_made : Round placed (drop i left) (a ∷ more) others =
    rw (drop-cons left i 0) (made_of placed _ more others a _ e first next) in
    rw append_assoc (before (a ∷ more) others first_made)

pub one_stays : (placed left : List ℕ) (i : ℕ) (fresh : List Adder) (rest : List ℕ) → i < length left
    → (Among placed (get_or left i 0) → ⊥) → RoundUpTo placed left i fresh rest
    → RoundUpTo placed left (i + 1) fresh (rest ++ get_or left i 0 ∷ [])
one_stays placed left i fresh rest lt none before = λ more others r.
    let next = rw add-one at r in
    let first_stays : Round placed (drop i left) more (get_or left i 0 ∷ others) =
    rw (drop-cons left i 0) (stays (get_or left i 0) none next) in
    rw append_assoc (before more (get_or left i 0 ∷ others) first_stays)

pub all_seen : (placed left : List ℕ) (i : ℕ) (fresh : List Adder) (rest : List ℕ) → length left ≤ i → RoundUpTo placed left i fresh rest
    → Round placed left fresh rest
all_seen placed left i fresh rest le before = let all = before [] [] (rw (drop_all i left le) over) in rw (append-nil, append-nil) at all
