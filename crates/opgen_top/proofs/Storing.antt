-- Stores one after another.
use Rattle.std.proofs.Common.{◌≡◌, ℕ, true, List, [], ◌∷◌, Option, Some, None, refl, sym, ap, ◌∙◌, subst, append-nil}
use Rattle.std.specs.Prelude.{is_some, IsSome}
use Rattle.opgen_io.specs.Files.{Files, stored, KeepsOthers}
use Rattle.opgen_top.specs.Stores.{Store, stored_all, HasFirst, HasBroken}

pub none_done : (stores : List Store) (files : Files) (after : Option Files) → after ≡ Some files → HasFirst stores files after
none_done stores files after stands = record { done = []; left = stores; order = refl; stands = stands }

pub all_done : (stores : List Store) (files : Files) (after : Option Files) → after ≡ Some (stored_all stores files)
    → HasFirst stores files after
all_done stores files after stands = record { done = stores; left = []; order = sym (append-nil stores); stands = stands }

tells : (after : Option Files) → is_some after ≡ true → IsSome after
tells None e = cc
tells (Some files) e = refl

-- the first store failed, or was done and a later one failed
module _ (s : Store) (later : List Store) (files : Files) (after : Option Files) (name bytes : List ℕ) (is_name : name ≡ s.name) where
  pub first_broke : (old : Option Files) → is_some after ≡ is_some old → old ≡ Some files → KeepsOthers name old after
      → HasBroken (s ∷ later) files after
  first_broke old same told others = record {
    done = [];
    broken = s;
    left = later;
    order = refl;
    tells = tells after (same ∙ ap is_some told);
    others = subst (λ o. KeepsOthers s.name o after) told (subst (λ n. KeepsOthers n old after) is_name others);
  }

  module _ (is_bytes : bytes ≡ s.bytes) where
    pub later_broke : HasBroken later (stored name bytes files) after → HasBroken (s ∷ later) files after
    later_broke broke =
        let h = subst (λ b. HasBroken later (stored s.name b files) after) is_bytes
        (subst (λ n. HasBroken later (stored n bytes files) after) is_name broke) in record {
          done = s ∷ h.done;
          broken = h.broken;
          left = h.left;
          order = ap (λ ss. s ∷ ss) h.order;
          tells = h.tells;
          others = h.others;
        }

    pub first_done : HasFirst later (stored name bytes files) after → HasFirst (s ∷ later) files after
    first_done done =
        let h = subst (λ b. HasFirst later (stored s.name b files) after) is_bytes
        (subst (λ n. HasFirst later (stored n bytes files) after) is_name done) in
        record { done = s ∷ h.done; left = h.left; order = ap (λ ss. s ∷ ss) h.order; stands = h.stands }
