-- The width and the sign of an output of a document without a fault: its version and its kind let them be chosen, and they are written.
use Rattle.std.proofs.Common.{◌≡◌, ◌||◌, not, Bool, true, false, Option, Some, None, is_some, is_none, option_map, option_and_then, refl, ap, sym, ◌∙◌, arith}
use Rattle.std.specs.Prelude.{pos}
use Rattle.std.specs.Option.{option_map_or}
use Rattle.toml.specs.Data.{Data, as_bool, Members}
use Rattle.opgen_operator.specs.declared.kind.Kind.{Kind}
use Rattle.opgen_operator.specs.Valid.{IsChoice}
use Rattle.opgen_document.specs.declared.key.Key.TheVariants as key
use Rattle.opgen_document.specs.Document.{value_at, number_at, flag_in, count_at, optional_count_at, optional_flag_at, IsCountIfAny, IsFlagIfAny, version_of}
use Rattle.opgen_document.specs.Ranges.{out_width_outside}
use Rattle.opgen_document.proofs.Ranges.{inside, counted}
use Rattle.opgen_document.proofs.Values.{IsFlag, flag_stands, count_written}
use Rattle.opgen_entries.specs.kinds.{kind_of, entry}
use Rattle.opgen_spec.proofs.Fine.{AreFine, IsFine, typed, there_inside, own_range}
use Rattle.opgen_spec.proofs.Known.{allowed, width_key}
use Rattle.opgen_spec.proofs.Versions.{late}
use Rattle.opgen_spec.proofs.sound.Sound.{IsChosen}
use Rattle.opgen_spec.proofs.sound.All.{sound}

-- a width that is there
chosen : (ms : Members) (one : Kind) → AreFine ms → kind_of ms ≡ Some one → (d : Data) → value_at ms key.OutWidth ≡ Some d
    → IsChosen one (version_of ms)
chosen ms one f e d some =
    let there = ap is_some some in
    (sound one).chosen ms f e (allowed ms one key.OutWidth f e width_key refl there) there

width_fine : (ms : Members) (one : Kind) → AreFine ms → kind_of ms ≡ Some one → (d : Data) → value_at ms key.OutWidth ≡ Some d
    → IsFine ms key.OutWidth (out_width_outside ms)
width_fine ms one f e d some =
    let there : is_none (value_at ms key.OutWidth) ≡ false = ap is_none some in
    record {
      there = there;
      typed = typed ms key.OutWidth f refl;
      within = there_inside (value_at ms key.OutWidth) (out_width_outside ms) there
          (ap (λ x. option_and_then (λ _. x) (value_at ms key.OutWidth)) (sym ((chosen ms one f e d some).range ms))
          ∙ own_range ms one key.OutWidth f e refl);
    }

-- a sign without a width is of a wrong type
clash : (a b : Bool) → b ≡ true → (a || b) ≡ false → ⊥
clash true b is h = cc
clash false true is h = cc
clash false false is h = cc

first_of_or : (a b : Bool) → (a || b) ≡ false → (a || false) ≡ false
first_of_or true b h = cc
first_of_or false b h = refl

no_sign : (width sign : Option Data) → width ≡ None → option_map_or (λ d. not (is_some (as_bool d)) || is_none width) sign false ≡ false
    → sign ≡ None
no_sign width None none typed = refl
no_sign width (Some d) none typed = absurd (clash (not (is_some (as_bool d))) (is_none width) (ap is_none none) typed)

sign_typed : (width sign : Option Data) → option_map_or (λ d. not (is_some (as_bool d)) || is_none width) sign false ≡ false → IsFlag sign
sign_typed width None typed = refl
sign_typed width (Some d) typed = first_of_or (not (is_some (as_bool d))) (is_none width) typed

pub choice : (ms : Members) (one : Kind) → AreFine ms → kind_of ms ≡ Some one
    → IsChoice (count_at ms key.Version) ((entry one).make ms) (optional_count_at ms key.OutWidth) (optional_flag_at ms key.OutSigned)
choice ms one f e = by (value_at ms key.OutWidth) refl
  where
    by : (o : Option Data) → value_at ms key.OutWidth ≡ o
        → IsChoice (count_at ms key.Version) ((entry one).make ms) (option_map (λ _. count_at ms key.OutWidth) o) (optional_flag_at ms key.OutSigned)
    by None none =
        ap (option_map (λ d. flag_in (value_at ms key.OutSigned)))
        (no_sign (value_at ms key.OutWidth) (value_at ms key.OutSigned) none (typed ms key.OutSigned f refl))
    by (Some d) some =
        let is = chosen ms one f e d some in
        let (least, most) = inside (pos 2) (pos 96) (number_at ms key.OutWidth) (width_fine ms one f e d some).within in
        let (fewest, few) = counted (number_at ms key.OutWidth) 2 96 least most (omega arith) in
        (late ms f is.late, is.value ms, fewest, few)

pub width_written : (ms : Members) (one : Kind) → AreFine ms → kind_of ms ≡ Some one
    → IsCountIfAny ms key.OutWidth (optional_count_at ms key.OutWidth)
width_written ms one f e = by (value_at ms key.OutWidth) refl
  where
    by : (o : Option Data) → value_at ms key.OutWidth ≡ o
        → IsCountIfAny ms key.OutWidth (option_map (λ _. count_at ms key.OutWidth) o)
    by None none = none
    by (Some d) some =
        let fine = width_fine ms one f e d some in
        count_written (value_at ms key.OutWidth) 2 96 fine.there fine.typed (inside (pos 2) (pos 96) (number_at ms key.OutWidth) fine.within)
        (omega arith)

pub sign_written : (ms : Members) → AreFine ms → IsFlagIfAny ms key.OutSigned (optional_flag_at ms key.OutSigned)
sign_written ms f = by (value_at ms key.OutSigned) refl
  where
    by : (o : Option Data) → value_at ms key.OutSigned ≡ o
        → IsFlagIfAny ms key.OutSigned (option_map (λ _. flag_in (value_at ms key.OutSigned)) o)
    by None none = none
    by (Some d) some =
        flag_stands (value_at ms key.OutSigned) (ap is_none some)
        (sign_typed (value_at ms key.OutWidth) (value_at ms key.OutSigned) (typed ms key.OutSigned f refl))
