-- Pieces taken one after the other.
use Rattle.std.proofs.Common.{◌≡◌, ◌≢◌, ℕ, ◌+◌, List, [], ◌∷◌, ◌++◌, Some, None, Err, refl, ap, sym, ◌∙◌, append_assoc, length-append, arith}
use Rattle.std.proofs.lemmas.List.{append-nil}
use Rattle.opgen_vhdl.specs.declared.place.Place.{Place}
use Rattle.opgen_vhdl.specs.declared.place.Place.TheVariants.{Library, End}
use Rattle.opgen_vhdl.specs.Symbols.{Symbol, pieces}
use Rattle.opgen_vhdl.specs.Reader.{takes_at}
use Rattle.opgen_vhdl.specs.Statements.{Reading, nothing, Follows, stay}
use Rattle.opgen_vhdl.proofs.Takes.{takes-is}
use Rattle.opgen_vhdl.proofs.Walks.{Follows-push, refuses}
use Rattle.opgen_vhdl.specs.Spelled.{StopsAt}
use Rattle.opgen_read.specs.Reached.{Reached, IsPieceFault}
use Rattle.opgen_read.specs.Stepped.{Steps}
use Rattle.opgen_read.specs.declared.draft.Draft.{Draft}
use Rattle.opgen_read.specs.declared.fault.ReadFault.{ReadFault}
use Rattle.opgen_read.specs.declared.fault.ReadFault.TheVariants.{Lexical, Syntax, TooLarge, Unsound, Memory}

pub reached_start : (ss : List Symbol) (r : Reading) → r ≡ nothing → Reached ss ss Library r 0
reached_start ss r e = record { taken = []; split = refl; follow = rw e stay; count = refl }

pub reached_more : (whole rest : List Symbol) (p q : Place) (r r2 : Reading) (n : ℕ) (piece more : List Symbol) → Reached whole rest p r n →
    pieces rest ≡ piece ∷ pieces more → takes_at p r piece ≡ Some (q, r2) → Reached whole more q r2 (n + 1)
reached_more whole rest p q r r2 n piece more reached e t = record {
  taken = reached.taken ++ piece ∷ [];
  split = reached.split ∙ ap (λ u. reached.taken ++ u) e ∙ sym (append_assoc reached.taken (piece ∷ []) (pieces more));
  follow = Follows-push reached.follow (takes-is p q r r2 piece t);
  count = omega (arith, reached.count, length-append reached.taken (piece ∷ []));
}

reached_fault : (whole rest : List Symbol) (p : Place) (r : Reading) (n : ℕ) (piece more : List Symbol) → Reached whole rest p r n →
    pieces rest ≡ piece ∷ pieces more → takes_at p r piece ≡ None → StopsAt (pieces whole) (n + 1)
reached_fault whole rest p r n piece more reached e t = record {
  taken = reached.taken;
  left = piece ∷ pieces more;
  split = reached.split ∙ ap (λ u. reached.taken ++ u) e;
  place = p;
  read = r;
  follow = reached.follow;
  stops = refuses p r piece t;
  piece = ap (λ u. u + 1) reached.count;
}

pub step_fault : (whole rest : List Symbol) (p : Place) (r : Reading) (n : ℕ) (piece more : List Symbol) (draft : Draft) (fault : ReadFault)
    → Reached whole rest p r n →
    pieces rest ≡ piece ∷ pieces more → Steps draft (Err fault) (n + 1) (takes_at p r piece) → IsPieceFault whole fault
step_fault whole rest p r n piece more draft Memory reached e t = tt
step_fault whole rest p r n piece more draft (Lexical offset) reached e t = t
step_fault whole rest p r n piece more draft TooLarge reached e t = t
step_fault whole rest p r n piece more draft (Unsound rule item) reached e t = t
step_fault whole rest p r n piece more draft (Syntax k) reached e t = rw t.1 (reached_fault whole rest p r n piece more reached e t.0)

pub reached_end : (whole rest : List Symbol) (p : Place) (r : Reading) (n : ℕ) → Reached whole rest p r n → rest ≡ [] → p ≡ End
    → Follows Library nothing (pieces whole) End r
reached_end whole rest p r n reached e h =
    rw (reached.split ∙ ap (λ u. reached.taken ++ pieces u) e ∙ append-nil reached.taken, ← h) reached.follow

pub reached_early : (whole rest : List Symbol) (p : Place) (r : Reading) (n : ℕ) → Reached whole rest p r n → rest ≡ [] → p ≢ End
    → StopsAt (pieces whole) (n + 1)
reached_early whole rest p r n reached e h = record {
  taken = reached.taken;
  left = [];
  split = reached.split ∙ ap (λ u. reached.taken ++ pieces u) e;
  place = p;
  read = r;
  follow = reached.follow;
  stops = h;
  piece = ap (λ u. u + 1) reached.count;
}
