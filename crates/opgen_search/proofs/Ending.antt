-- The end of a search: its answer is the least set.
use Rattle.std.proofs.Common.{◌≡◌, inl, inr, ℕ, ◌+◌, ◌^◌, ◌≤◌, ◌<◌, min, List, [], ◌∷◌, length, Option, Some, IsSomeAnd, true, ◌==◌, refl, ap, subst, ◌∙◌, arith}
use Rattle.std.proofs.lemmas.List.Sums.{sum_by-le}
use Rattle.std.proofs.lemmas.List.Elements.{All-nil, All-head}
use Rattle.std.proofs.lemmas.List.Sorted.{IsPermutation-refl}
use Rattle.opgen_bound.specs.declared.view.View.{View}
use Rattle.opgen_bound.specs.Views.{most}
use Rattle.opgen_num.proofs.BitLength.{length_least, power_order}
use Rattle.opgen_graph.specs.SetCost.{set_cost, adder_cost, bit_length}
use Rattle.std.proofs.lemmas.Bool.Decides.{nat_tests}
use Rattle.opgen_graph.proofs.Members.{here, of_nil, all_of}
use Rattle.opgen_search.specs.declared.hunt.Search.{Search}
use Rattle.opgen_search.specs.Space.{limit, InSpace}
use Rattle.opgen_search.specs.Least.{IsBefore, IsLeast}
use Rattle.opgen_search.specs.Covered.{Covered}
use Rattle.opgen_search.specs.Hunts.{IsChoice, IsSearch}
use Rattle.opgen_search.specs.Forks.{parts_of}
use Rattle.opgen_search.proofs.Order.{before_irrefl}
use Rattle.opgen_search.proofs.Leasts.{all_parts, part_space}
use Rattle.opgen_search.proofs.Merging.{closed}

-- ---- the whole space
pub digits_cost : (search : Search) → IsSearch search → set_cost search.width search.digits.items < most
digits_cost search s =
    let bound = sum_by-le (adder_cost search.width) (2 ^ 32) search.digits.items
    (all_of (λ x. adder_cost search.width x ≤ 2 ^ 32) search.digits.items (λ x _. omega (arith, s.width))) in
    omega (arith, bound, s.digit_count)

abbrev pub IsFirst : Search → List ℕ → Type 0
IsFirst search set = parts_of search 0 search.pieces set × ((other : List ℕ) → parts_of search 0 search.pieces other
    → IsBefore search.width other set → ⊥)

pub some_first : (search : Search) (best : Option (List ℕ)) (v : View) (word : ℕ) → IsSearch search
    → Covered (parts_of search 0 search.pieces) search.width best v → v.start ≡ set_cost search.width search.digits.items
    → word ≡ min v.start v.published → word ≤ v.seen → IsSomeAnd best (IsFirst search)
some_first search best v word s c start w le =
    closed (parts_of search 0 search.pieces) search.width best v search.digits.items word c
    (all_parts search.targets.items search.extra search.pieces search.digits.items s.pieces.0 (inr s.digits)) (digits_cost search s)
    (w ∙ ap (λ n. min n v.published) start) le

pub first_least : (search : Search) (best : Option (List ℕ)) (set : List ℕ) → IsSearch search → best ≡ Some set
    → IsSomeAnd best (IsFirst search) → IsLeast search.targets.items search.width search.extra set
first_least search best set s e h =
    let one : IsFirst search set = subst (λ (b : Option (List ℕ)). IsSomeAnd b (IsFirst search)) e h in
    record {
      member = part_space search.targets.items search.extra search.pieces 0 search.pieces set one.0;
      least = λ other space b. one.1 other (all_parts search.targets.items search.extra search.pieces other s.pieces.0 space) b;
    }

-- ---- no target
lowest_limit : limit [] ≤ 2 ^ 1
lowest_limit = let none = length_least 32 0 (omega arith) 0 (omega arith) in power_order (bit_length 0 + 1) 1 (omega (arith, none))

empty_space : (extra : ℕ) (set : List ℕ) → InSpace [] extra set → set ≡ []
empty_space extra [] space = refl
empty_space extra (x ∷ xs) (inl c) = let h = All-head (IsChoice (limit [])) x xs c.range in absurd (omega (arith, h.1, h.2, lowest_limit))
empty_space extra (x ∷ xs) (inr d) = absurd (of_nil _ ((d.members x).0 (here x xs)).1)

pub empty_least : (targets : List ℕ) (width extra : ℕ) (set : List ℕ) → targets ≡ [] → set ≡ [] → IsLeast targets width extra set
empty_least targets width extra set none e = rw (none, e) (record {
  member =
      inl (record {
        increasing = λ k lt. absurd (omega (arith, lt));
        has_targets = λ t c. c;
        few = omega arith;
        range = All-nil (IsChoice (limit []));
        reachable = ([], IsPermutation-refl [], tt);
      });
  least = λ other space. rw (empty_space extra other space) (before_irrefl width []);
})

pub no_items : (targets : List ℕ) → true ≡ (length targets == 0) → targets ≡ []
no_items [] t = refl
no_items (x ∷ xs) t = let z : length (x ∷ xs) ≡ 0 = grind (arith, nat_tests, t) in absurd (omega (arith, z))
