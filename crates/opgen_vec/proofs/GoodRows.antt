-- A row is good where its outputs are good, or its inputs are out of range.
use Rattle.std.proofs.Common.{◌≡◌, Bool, true, false, refl}
use Rattle.std.specs.Prelude.{IsTrue, ◌↔◌}

pub good_row : {InRange Good : Type 0} (b : Bool) → (InRange → (IsTrue b ↔ Good)) → ((InRange → ⊥) → IsTrue b)
    → IsTrue b ↔ (InRange → Good)
good_row true within past = (λ t r. (within r).0 t, λ f. refl)
good_row false within past = (
  λ t r. (within r).0 t,
  λ f. past (λ r. let no_mark : false ≡ true = (within r).1 (f r) in cc),
)
