-- Modes of outputs that are exact or faithful, numbers that are good in modes, and compressors of bits.
use Rattle.std.proofs.Common.{◌≡◌, ◌↔◌, Bool, true, false, IsTrue, refl}
use Rattle.opgen_ports.specs.Modes.{is_exact, mode_of_exact, IsExactOrFaithful}
use Rattle.opgen_ports.specs.Recipes.{compressor_of, has_counters, is_of_bits}

pub is_exact-of : (exact : Bool) → is_exact (mode_of_exact exact) ≡ exact
is_exact-of true = refl
is_exact-of false = refl

pub exact_or_faithful : (exact : Bool) → IsExactOrFaithful (mode_of_exact exact)
exact_or_faithful true = tt
exact_or_faithful false = tt

pub has_counters-of : (counters : Bool) → has_counters (compressor_of counters) ≡ counters
has_counters-of true = refl
has_counters-of false = refl

pub of_bits : (counters : Bool) → IsTrue (is_of_bits (compressor_of counters))
of_bits true = refl
of_bits false = refl

-- What is so where a mark is exact is good in the mode of the mark, of the kinds that have no other modes.
module _ (exact : Bool) (IsSo : Bool → Type 0) where
  pub good_by_mark : IsSo exact → IsExactOrFaithful (mode_of_exact exact) × IsSo (is_exact (mode_of_exact exact))
  good_by_mark so = go exact so
    where
      go : (mark : Bool) → IsSo mark → IsExactOrFaithful (mode_of_exact mark) × IsSo (is_exact (mode_of_exact mark))
      go true so = (tt, so)
      go false so = (tt, so)

  pub mark_by_good : IsExactOrFaithful (mode_of_exact exact) × IsSo (is_exact (mode_of_exact exact)) → IsSo exact
  mark_by_good good = go exact good.1
    where
      go : (mark : Bool) → IsSo (is_exact (mode_of_exact mark)) → IsSo mark
      go true so = so
      go false so = so

  pub judged_by_mark : (answer : Bool) → (IsTrue answer ↔ IsSo exact)
      → IsTrue answer ↔ (IsExactOrFaithful (mode_of_exact exact) × IsSo (is_exact (mode_of_exact exact)))
  judged_by_mark answer (there, back) = (λ yes. good_by_mark (there yes), λ good. back (mark_by_good good))
