-- Quotients of a document without a fault.
use Rattle.std.proofs.Common.{◌∙◌, ⊎_elim, inl, inr, sym, subst, ◌≡◌, ℕ, true, false, List, [], Some, None, is_some, refl, ap}
use Rattle.std.specs.Prelude.{IsTrue, codes}
use Rattle.opgen_operator.specs.declared.kind.Kind.TheVariants as kind
use Rattle.opgen_ports.proofs.Marks.{is_exact-of}
use Rattle.opgen_ports.proofs.InputPorts.{all_two}
use Rattle.opgen_ports.specs.Recipes.{is_restoring}
use Rattle.toml.specs.Data.{string, Members}
use Rattle.opgen_document.specs.declared.key.Key.TheVariants as key
use Rattle.opgen_entries.specs.kinds.{kind_of, entry}
use Rattle.opgen_entries.specs.kinds.Pair.{recurrence_in, IsRecurrenceAsWritten}
use Rattle.opgen_spec.proofs.sound.Sound.{IsFew, IsSound, none_given}
use Rattle.opgen_document.specs.declared.key.Version.{Version}
use Rattle.opgen_document.specs.declared.key.Version.TheVariants.{First, Second, Third, Fourth}
use Rattle.opgen_document.specs.Document.{value_at, flag_in, flag_at, text_in, text_at, version_of, since_fourth}
use Rattle.opgen_document.specs.Keys.{may_be}
use Rattle.opgen_document.specs.Ranges.{width_outside, near_outside}
use Rattle.opgen_spec.proofs.Fine.{AreFine, IsFine, own, typed}
use Rattle.opgen_spec.proofs.Fourth.{HasWord, word_cases}
use Rattle.opgen_spec.proofs.Known.{not_there, recurrence_key, signed_key}
use Rattle.opgen_spec.proofs.Made.{kind_made, nothing}
use Rattle.opgen_spec.proofs.Ranges.{widest, width_few, input_in, near_in, near_power}
use Rattle.opgen_spec.proofs.Versions.{IsEarly, early, not_below, not_in_early, only_fourth}
use Rattle.opgen_spec.proofs.Writing.{input_written, near_written, optional_flag_written}

record HasPair (ms : Members) : Type 0 where
  width_a : IsFine ms key.WidthA (width_outside (widest ms) ms key.WidthA)
  lsb_a : IsFine ms key.LsbA (near_outside ms key.LsbA)
  width_b : IsFine ms key.WidthB (width_outside (widest ms) ms key.WidthB)
  lsb_b : IsFine ms key.LsbB (near_outside ms key.LsbB)
  out_lsb : IsFine ms key.OutLsb (near_outside ms key.OutLsb)

keys : (ms : Members) → AreFine ms → kind_of ms ≡ Some kind.Divide → HasPair ms
unfolding entry
keys ms f e = record {
  width_a = own ms kind.Divide key.WidthA f e refl refl;
  lsb_a = own ms kind.Divide key.LsbA f e refl refl;
  width_b = own ms kind.Divide key.WidthB f e refl refl;
  lsb_b = own ms kind.Divide key.LsbB f e refl refl;
  out_lsb = own ms kind.Divide key.OutLsb f e refl refl;
}

-- the first two versions have no signed quotients
no_sign : (ms : Members) → AreFine ms → kind_of ms ≡ Some kind.Divide → IsEarly (version_of ms) → flag_at ms key.Signed ≡ false
unfolding entry
no_sign ms f e is_early = ap flag_in (not_there ms kind.Divide key.Signed f e signed_key refl (not_in_early (version_of ms) is_early))

-- quotients are made with restoring before version 4
is_restoring_before : (version : Version) (name : List ℕ) → (version ≡ Fourth → ⊥) → IsTrue (is_restoring (recurrence_in version name))
is_restoring_before First name other = refl
is_restoring_before Second name other = refl
is_restoring_before Third name other = refl
is_restoring_before Fourth name other = absurd (other refl)

-- the recurrence is that of the word, or else that of the version
left_out : (ms : Members) (version : Version) → version_of ms ≡ version → value_at ms key.Recurrence ≡ None
    → IsRecurrenceAsWritten ms (recurrence_in version [])
left_out ms First is none = inr (none, λ fourth. let no : First ≡ Fourth = sym is ∙ fourth in cc)
left_out ms Second is none = inr (none, λ fourth. let no : Second ≡ Fourth = sym is ∙ fourth in cc)
left_out ms Third is none = inr (none, λ fourth. let no : Third ≡ Fourth = sym is ∙ fourth in cc)
left_out ms Fourth is none = inr (none, is)

recurrence_is : (ms : Members) (name : List ℕ) → version_of ms ≡ Fourth → value_at ms key.Recurrence ≡ Some (string name)
    → recurrence_in (version_of ms) (text_at ms key.Recurrence) ≡ recurrence_in Fourth name
recurrence_is ms name fourth is =
    ap (λ version. recurrence_in version (text_at ms key.Recurrence)) fourth ∙ ap (λ o. recurrence_in Fourth (text_in o)) is

recurrence_written : (ms : Members) → AreFine ms → kind_of ms ≡ Some kind.Divide
    → IsRecurrenceAsWritten ms (recurrence_in (version_of ms) (text_at ms key.Recurrence))
unfolding entry
recurrence_written ms f e =
    ⊎_elim (λ (none : value_at ms key.Recurrence ≡ None). subst (IsRecurrenceAsWritten ms)
    (sym (ap (λ o. recurrence_in (version_of ms) (text_in o)) none)) (left_out ms (version_of ms) refl none))
    (λ (h : HasWord ms key.Recurrence (codes "restoring") (codes "nonrestoring")).
    ⊎_elim (λ (is : value_at ms key.Recurrence ≡ Some (string (codes "restoring"))). subst (IsRecurrenceAsWritten ms)
    (sym (recurrence_is ms (codes "restoring") h.fourth is)) (inl is))
    (λ (is : value_at ms key.Recurrence ≡ Some (string (codes "nonrestoring"))). subst (IsRecurrenceAsWritten ms)
    (sym (recurrence_is ms (codes "nonrestoring") h.fourth is)) (inl is)) h.word)
    (word_cases ms kind.Divide key.Recurrence (codes "restoring") (codes "nonrestoring") f e (typed ms key.Recurrence f refl)
    (record { only = recurrence_key; apart = refl; stands = λ version may. only_fourth version may; range = λ version may ms. refl }))

-- the width of a quotient is chosen in the fourth version alone, which makes no circuits of such quotients yet
not_chosen : (ms : Members) → AreFine ms → kind_of ms ≡ Some kind.Divide → may_be (since_fourth (version_of ms)) ≡ true
    → is_some (value_at ms key.OutWidth) ≡ true → ⊥
not_chosen ms f e may there =
    let none = nothing (value_at ms key.OutWidth) (kind_made ms kind.Divide f e (only_fourth (version_of ms) may)) in
    let no : false ≡ true = sym (ap is_some none) ∙ there in
    cc

pub divide : IsSound kind.Divide
unfolding entry
divide = record {
  kind_is = λ ms. refl;
  ranges = λ ms f e. let h = keys ms f e in record {
    a = input_in ms key.WidthA key.LsbA h.width_a (near_power ms key.LsbA h.lsb_a);
    b = input_in ms key.WidthB key.LsbB h.width_b (near_power ms key.LsbB h.lsb_b);
    alike = refl;
    a_lsb = near_in ms key.LsbA h.lsb_a;
    b_lsb = near_in ms key.LsbB h.lsb_b;
    out_lsb = near_in ms key.OutLsb h.out_lsb;
  };
  inputs = λ ms f e. all_two (IsFew ms) _ _ (width_few ms key.WidthA (keys ms f e).width_a) (width_few ms key.WidthB (keys ms f e).width_b);
  written = λ ms f e. let h = keys ms f e in record {
    signed = optional_flag_written ms key.Signed (typed ms key.Signed f refl);
    a = input_written ms key.WidthA key.LsbA h.width_a h.width_a.typed (near_written ms key.LsbA h.lsb_a h.lsb_a.typed);
    b = input_written ms key.WidthB key.LsbB h.width_b h.width_b.typed (near_written ms key.LsbB h.lsb_b h.lsb_b.typed);
    out_lsb = near_written ms key.OutLsb h.out_lsb h.out_lsb.typed;
    recurrence = recurrence_written ms f e;
  };
  agrees = λ ms. refl;
  marked = λ ms asked. sym (is_exact-of (flag_at ms key.Exact)) ∙ asked;
  has = λ ms f e. record {
    unsigned = λ below. no_sign ms f e (early ms f below);
    restoring = λ below. is_restoring_before (version_of ms) (text_at ms key.Recurrence) (not_below ms f below);
  };
  names = λ ms f e. none_given (text_at ms key.Name);
  chosen = λ ms f e may there. absurd (not_chosen ms f e may there);
}
