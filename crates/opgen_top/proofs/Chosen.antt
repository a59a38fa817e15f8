-- The target that is chosen, and its table after delay lines.
use Rattle.std.proofs.Common.{◌≡◌, ◌⊎◌, inl, inr, ℕ, ◌+◌, ◌<◌, ◌≤◌, Bool, true, false, cond, List, [], ◌∷◌, length, Option, Some, None, refl, sym, ap, ◌∙◌, subst, get_or, drop, find, option_map, bytes_eq, arith}
use Rattle.std.proofs.lemmas.List.{drop_more}
use Rattle.opgen_operator.specs.declared.spec.DelayLine.{DelayLine}
use Rattle.opgen_operator.specs.declared.spec.Spec.{Spec}
use Rattle.opgen_target.specs.Delays.{Delays, with_line}
use Rattle.opgen_top.specs.declared.line.Line.TheVariants as printed
use Rattle.opgen_top.specs.Answer.{refusal}
use Rattle.opgen_top.specs.Specified.{OnLines, OnTarget}
use Rattle.opgen_top.specs.Targets.{Device, IsTableOf, devices_of, first_of_name, takes_lines, tuned}

module _ {T : Type 0} (name_of : T → List ℕ) (delays_of : T → Delays) (adjustable_of : T → Bool) where
  abbrev device_of : T → Device
  device_of t = record { name = name_of t; delays = delays_of t; adjustable = adjustable_of t }

  chosen_is : (name : List ℕ) (ts : List T) → first_of_name name (devices_of name_of delays_of adjustable_of ts)
      ≡ option_map (λ t. record { name = name_of t; delays = delays_of t; adjustable = adjustable_of t })
      (find (λ t. bytes_eq (name_of t) name) ts)
  chosen_is name [] = refl
  chosen_is name (t ∷ ts) = go (bytes_eq (name_of t) name) (chosen_is name ts)
    where
      go : (b : Bool) → first_of_name name (devices_of name_of delays_of adjustable_of ts)
          ≡ option_map device_of (find (λ x. bytes_eq (name_of x) name) ts)
          → cond b (Some (device_of t)) (first_of_name name (devices_of name_of delays_of adjustable_of ts))
          ≡ option_map device_of (cond b (Some t) (find (λ x. bytes_eq (name_of x) name) ts))
      go true e = refl
      go false e = e

  -- what was found among the targets decides
  module _ (spec : Spec) (ts : List T) (name : List ℕ) (called : name ≡ spec.target) where
    chosen_from : (r : Option T) → r ≡ find (λ t. bytes_eq (name_of t) name) ts
        → first_of_name spec.target (devices_of name_of delays_of adjustable_of ts) ≡ option_map
        (λ t. record { name = name_of t; delays = delays_of t; adjustable = adjustable_of t }) r
    chosen_from r found =
        ap (λ n. first_of_name n (devices_of name_of delays_of adjustable_of ts)) (sym called) ∙ chosen_is name ts
        ∙ ap (option_map (λ t. record { name = name_of t; delays = delays_of t; adjustable = adjustable_of t })) (sym found)

    pub none_chosen : (r : Option T) → ((t : T) → r ≡ Some t → ⊥) → r ≡ find (λ t. bytes_eq (name_of t) name) ts
        → OnTarget (first_of_name spec.target (devices_of name_of delays_of adjustable_of ts)) spec (refusal printed.UnknownTarget)
        (λ table. ⊥)
    none_chosen None none found =
        subst (λ d. OnTarget d spec (refusal printed.UnknownTarget) (λ table. ⊥)) (sym (chosen_from None found)) refl
    none_chosen (Some t) none found = absurd (none t refl)

    module _ (t : T) (found : Some t ≡ find (λ x. bytes_eq (name_of x) name) ts) (lines : List DelayLine)
        (are_lines : lines ≡ spec.delays) where
      pub fixed_chosen : false ≡ takes_lines (adjustable_of t) lines
          → OnTarget (first_of_name spec.target (devices_of name_of delays_of adjustable_of ts)) spec (refusal printed.NotAdjustable)
          (λ table. ⊥)
      fixed_chosen takes =
          let takes_none : false ≡ takes_lines (adjustable_of t) spec.delays = takes ∙ ap (takes_lines (adjustable_of t)) are_lines in
          subst (λ d. OnTarget d spec (refusal printed.NotAdjustable) (λ table. ⊥)) (sym (chosen_from (Some t) found))
          (subst (λ b. OnLines b (refusal printed.NotAdjustable) ⊥) takes_none refl)

      pub table_chosen : true ≡ takes_lines (adjustable_of t) lines → (table : Delays) → table ≡ tuned (delays_of t) lines
          → IsTableOf spec (devices_of name_of delays_of adjustable_of ts) table
      table_chosen takes table is = record {
        device = device_of t;
        is_chosen = chosen_from (Some t) found;
        takes = sym (takes ∙ ap (takes_lines (adjustable_of t)) are_lines);
        is_tuned = is ∙ ap (tuned (delays_of t)) are_lines;
      }

-- lines are taken by a table that can be changed
pub takes_some : (adjustable : Bool) (lines : List DelayLine) (i : ℕ) → i < length lines → takes_lines adjustable lines ≡ adjustable
takes_some adjustable [] i h = absurd (omega (arith, h))
takes_some adjustable (line ∷ lines) i h = refl

pub takes_all : (adjustable : Bool) (lines : List DelayLine) (i : ℕ) → length lines ≤ i → (i ≡ 0) ⊎ (adjustable ≡ true)
    → takes_lines adjustable lines ≡ true
takes_all adjustable [] i h begun = refl
takes_all adjustable (line ∷ lines) i h (inl e) = absurd (omega (arith, h, e))
takes_all adjustable (line ∷ lines) i h (inr e) = e

-- one line more
pub tuned_next : (delays now : Delays) (lines : List DelayLine) (i : ℕ) (d : DelayLine) → i < length lines
    → now ≡ with_line (get_or lines i d).class (get_or lines i d).base (get_or lines i d).per_bit delays
    → tuned now (drop (i + 1) lines) ≡ tuned delays (drop i lines)
tuned_next delays now lines i d here is = ap (λ t. tuned t (drop (i + 1) lines)) is ∙ ap (tuned delays) (sym (drop_more lines i d here))
