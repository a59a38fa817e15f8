-- What a hunt keeps.
use Rattle.std.proofs.Common.{◌≡◌, inl, inr, ℕ, ◌+◌, min, List, Option, Some, None, IfSome, refl, sym, subst, arith}
use Rattle.opgen_bound.specs.Passes.{view}
use Rattle.opgen_graph.specs.SetCost.{set_cost}
use Rattle.opgen_search.specs.declared.hunt.Search.{Search}
use Rattle.opgen_search.specs.declared.hunt.Piece.{Piece}
use Rattle.opgen_search.specs.declared.hunt.Hunt.{Hunt}
use Rattle.opgen_search.specs.Least.{IsBefore}
use Rattle.opgen_search.specs.Parts.{Part}
use Rattle.opgen_search.specs.Covered.{best_of, IsNotBefore, IsDone, IsNotLater, Covered}
use Rattle.opgen_search.specs.Hunts.{IsPiece, IsHunt, IsSettled, IsCovered, part_of}
use Rattle.opgen_search.specs.Forks.{parts_of}
use Rattle.opgen_search.proofs.Order.{before_irrefl, before_trans}
use Rattle.opgen_search.proofs.Merging.{IsPublished, published_later, published_both}
use Rattle.opgen_search.proofs.Closing.{one_digit_set}

-- ---- a better set is taken
pub not_later_taken : (width : ℕ) (old : Option (List ℕ)) (set : List ℕ) → ((best : List ℕ) → old ≡ Some best → IsBefore width set best)
    → IsNotLater width (Some set) old
not_later_taken width None set better = tt
not_later_taken width (Some F) set better = λ b. before_irrefl width F (before_trans width F set F b (better F refl))

pub published_taken : (width p : ℕ) (old : Option (List ℕ)) (set : List ℕ)
    → ((best : List ℕ) → old ≡ Some best → IsBefore width set best) → IsPublished width old p
    → IsPublished width (Some set) (min p (set_cost width set))
published_taken width p old set better h =
    published_both width p (set_cost width set) (Some set)
    (published_later width p (Some set) old (not_later_taken width old set better) h) (inr (omega arith))

pub not_before_itself : (width : ℕ) (set : List ℕ) (best : Option (List ℕ)) → best ≡ Some set → IsNotBefore width set best
not_before_itself width set best e = subst (IsNotBefore width set) (sym e) (before_irrefl width set)

-- ---- a whole piece
some_part : (search : Search) (number : ℕ) (best : Option (List ℕ))
    → IfSome best (Part search.targets.items search.extra search.pieces number) → IfSome best (parts_of search number (number + 1))
some_part search number None h = tt
some_part search number (Some F) h = (number, omega arith, omega arith, h)

part_at : (search : Search) (number : ℕ) (set : List ℕ) → parts_of search number (number + 1) set
    → Part search.targets.items search.extra search.pieces number set
part_at search number set (k, low, high, part) = let e : k ≡ number = omega (arith, low, high) in
    subst (λ n. Part search.targets.items search.extra search.pieces n set) e part

pub piece_covered : (piece : Piece) (hunt : Hunt) → IsPiece piece → IsHunt piece hunt
    → IsCovered piece hunt piece.search.now.targets.items piece.search.now.extra
    → (piece.number ≡ 0 → IsSettled piece hunt piece.search.now.digits.items)
    → Covered (parts_of piece.search.now piece.number (piece.number + 1)) piece.search.now.width (best_of hunt.best) (view hunt.pass)
piece_covered piece hunt s h all digits = record {
  member = some_part piece.search.now piece.number (best_of hunt.best) h.member;
  all = λ set p. subst (λ seen. IsDone piece.search.now.width (best_of hunt.best) seen set) h.seen
      (done set (part_at piece.search.now piece.number set p));
  published = h.published;
}
  where
    done : (set : List ℕ) → part_of piece set → IsSettled piece hunt set
    done set (inl own) = all set own own.0.has_targets own.0.few
    done set (inr d) =
        subst (IsSettled piece hunt) (one_digit_set piece.search.now.targets.items piece.search.now.digits.items set s.search.digits d.0)
        (digits d.1)
