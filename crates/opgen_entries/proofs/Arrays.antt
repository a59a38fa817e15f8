-- Arrays of numbers that are not out of range.
use Rattle.std.proofs.Common.{◌≡◌, ℕ, zero, suc, ◌≤◌, ◌<◌, Bool, true, false, cond, List, [], ◌∷◌, length, get_or, Option, Some, None, find, nat_lt, ap, ◌∙◌, sym, arith, refl}
use Rattle.std.specs.Prelude.{ℤ, pos, unsigned_abs, All}
use Rattle.std.specs.Option.{option_or}
use Rattle.std.proofs.lemmas.Int.{ints}
use Rattle.std.proofs.lemmas.List.{length-map}
use Rattle.toml.specs.Data.{Items}
use Rattle.opgen_ports.specs.Ranges.{IsWithin}
use Rattle.opgen_document.specs.Document.{list_of}
use Rattle.opgen_document.specs.Numbers.{coefficient, places_among, numerators}
use Rattle.opgen_document.specs.Ranges.{is_beyond, first_beyond, length_outside, array_outside}
use Rattle.opgen_document.proofs.Ranges.{inside}

-- of two things that may be wrong, neither is
pub or_none : {A : Type 0} (x y : Option A) → option_or x y ≡ None → (x ≡ None) × (y ≡ None)
or_none (Some a) y h = cc
or_none None y h = (refl, h)

not_below : (a b : ℕ) → nat_lt a b ≡ false → b ≤ a
not_below a b h = grind arith

-- numbers of which none is beyond a limit
none_beyond : (limit : ℕ) (ns : List ℤ) → find (is_beyond limit) ns ≡ None → All (IsWithin limit) ns
none_beyond limit [] h k d lt = absurd (omega arith)
none_beyond limit (n ∷ ns) h k d lt = go (is_beyond limit n) refl k (λ j none below. none_beyond limit ns none j d below) lt
  where
    go : (b : Bool) → is_beyond limit n ≡ b → (k : ℕ)
        → ((j : ℕ) → find (is_beyond limit) ns ≡ None → j < length ns → IsWithin limit (get_or ns j d)) → k < length (n ∷ ns)
        → IsWithin limit (get_or (n ∷ ns) k d)
    go true e k later lt =
        let some : Some n ≡ None = ap (λ b. cond b (Some n) (find (is_beyond limit) ns)) (sym e) ∙ h in
        cc
    go false e zero later lt = not_below limit (unsigned_abs n) e
    go false e (suc k) later lt = later k (ap (λ b. cond b (Some n) (find (is_beyond limit) ns)) (sym e) ∙ h) (omega arith)

pub record IsArray (least most limit : ℕ) (items : Items) : Type 0 where
  pub some : least ≤ length (numerators items)
  pub few : length (numerators items) ≤ most
  pub each : All (IsWithin limit) (numerators items)

pub array_in : (least most limit : ℕ) (items : Items) → array_outside least most limit items ≡ None → IsArray least most limit items
array_in least most limit items h =
    let (lengths, numbers) = or_none (length_outside least most items) (first_beyond limit items) h in
    let (fewest, greatest) = inside (pos least) (pos most) (pos (length (list_of items))) lengths in
    let same = length-map (list_of items) (coefficient (places_among items)) in
    record {
      some = omega (arith, ints, same);
      few = omega (arith, ints, same);
      each = none_beyond limit (numerators items) numbers;
    }
