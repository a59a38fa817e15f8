-- The table of a driver among those of all.
use Rattle.std.proofs.Common.{◌≡◌, ℕ, zero, suc, ◌+◌, ◌<◌, Bool, List, [], ◌∷◌, ◌++◌, length, take, get_or, Some, sym, ap, ◌∙◌, subst, arith}
use Rattle.std.specs.Prelude.{slice_get}
use Rattle.std.specs.HashMap.{HashMap}
use Rattle.std.proofs.lemmas.List.{take_more}
use Rattle.std.proofs.lemmas.Option.{slice_get_within}
use Rattle.std.proofs.lemmas.Slice.Zip.{AllZip-long, all_zipped_more}
use Rattle.opgen_design.specs.declared.design.Driver.{Driver}
use Rattle.opgen_sim.specs.Tables.{AreTables, HasRows, rows_of}

module _ {S : Type 0} where
  pub table-there : (ks : List Driver) (tables : List (HashMap ℕ (List Bool) S)) (i : ℕ) (k : Driver) → AreTables ks tables
      → slice_get ks i ≡ Some k → i < length tables
  table-there ks tables i k t e = omega (arith, slice_get_within ks i k e, AllZip-long (λ k m. HasRows (rows_of k) m) ks tables t)

  pub table-at : (ks : List Driver) (tables : List (HashMap ℕ (List Bool) S)) (i : ℕ) (k : Driver) (m : HashMap ℕ (List Bool) S)
      → AreTables ks tables → slice_get ks i ≡ Some k → m ≡ get_or tables i m → HasRows (rows_of k) m
  table-at [] tables i k m t e is = absurd (cc)
  table-at (q ∷ ks) [] i k m t e is = absurd t
  table-at (q ∷ ks) (n ∷ tables) zero k m t e is =
      let same : q ≡ k = cc in
      subst (λ x. HasRows (rows_of x) m) same (subst (HasRows (rows_of q)) (sym is) t.0)
  table-at (q ∷ ks) (n ∷ tables) (suc i) k m t e is = table-at ks tables i k m t.1 e is

  pub tables-more : (ks : List Driver) (tables more : List (HashMap ℕ (List Bool) S)) (i : ℕ) (k : Driver) (m : HashMap ℕ (List Bool) S)
      → i < length ks → k ≡ get_or ks i k → more ≡ tables ++ m ∷ []
      → AreTables (take i ks) tables → HasRows (rows_of k) m → AreTables (take (i + 1) ks) more
  tables-more ks tables more i k m l is e t h =
      let one = all_zipped_more (λ k m. HasRows (rows_of k) m) (take i ks) tables k m t h in
      let front : take (i + 1) ks ≡ take i ks ++ k ∷ [] = take_more ks i k l ∙ ap (λ x. take i ks ++ x ∷ []) (sym is) in
      subst (λ xs. AreTables xs more) (sym front) (subst (AreTables (take i ks ++ k ∷ [])) (sym e) one)
