-- The first fault of a document, by its parts.
use Rattle.std.proofs.Common.{◌≡◌, [], ◌∷◌, Option, Some, None, Ok, Err, Result, refl, ap, ◌∙◌}
use Rattle.std.specs.Option.{option_or}
use Rattle.toml.specs.Data.{Members}
use Rattle.opgen_spec.specs.declared.fault.SpecFault.{SpecFault}
use Rattle.opgen_spec.specs.declared.fault.SpecFault.TheVariants as fault
use Rattle.opgen_spec.specs.declared.lines.Check.TheVariants.{Unknown, Missing, WrongType, Range}
use Rattle.opgen_operator.specs.declared.spec.Spec.{Spec}
use Rattle.opgen_spec.specs.Faults.{first_of, check_fault, bad_version, bad_name, bad_kind, not_exact, coarse, too_wide, field_fault, limit_fault, fault_of, spec_or_fault, read, Gives}
use Rattle.opgen_spec.specs.Spec.{spec_of}

grouped : (a b c d e f g h i j : Option SpecFault) → first_of (a ∷ b ∷ c ∷ d ∷ e ∷ f ∷ g ∷ h ∷ i ∷ j ∷ [])
    ≡ option_or (option_or (first_of (a ∷ b ∷ c ∷ [])) (first_of (d ∷ e ∷ f ∷ g ∷ []))) (first_of (h ∷ i ∷ j ∷ []))
grouped (Some a) b c d e f g h i j = refl
grouped None (Some b) c d e f g h i j = refl
grouped None None (Some c) d e f g h i j = refl
grouped None None None (Some d) e f g h i j = refl
grouped None None None None (Some e) f g h i j = refl
grouped None None None None None (Some f) g h i j = refl
grouped None None None None None None (Some g) h i j = refl
grouped None None None None None None None h i j = refl

pub parts : (ms : Members) → fault_of ms ≡ option_or (field_fault ms) (limit_fault (spec_of ms))
unfolding fault_of
parts ms = grouped (check_fault Unknown ms) (check_fault Missing ms) (check_fault WrongType ms) (bad_version ms) (bad_name ms) (bad_kind ms)
    (check_fault Range ms) (not_exact (spec_of ms)) (coarse (spec_of ms)) (too_wide (spec_of ms))

pub field_first : (ms : Members) (f : SpecFault) → field_fault ms ≡ Some f → read (Some ms) ≡ Err f
field_first ms f h = ap (spec_or_fault ms) (parts ms ∙ ap (λ o. option_or o (limit_fault (spec_of ms))) h)

pub limit_first : (ms : Members) (f : SpecFault) → field_fault ms ≡ None → limit_fault (spec_of ms) ≡ Some f → read (Some ms) ≡ Err f
limit_first ms f none h = ap (spec_or_fault ms) (parts ms ∙ ap (λ o. option_or o (limit_fault (spec_of ms))) none ∙ h)

pub none_first : (ms : Members) → field_fault ms ≡ None → limit_fault (spec_of ms) ≡ None → read (Some ms) ≡ Ok (spec_of ms)
none_first ms none h = ap (spec_or_fault ms) (parts ms ∙ ap (λ o. option_or o (limit_fault (spec_of ms))) none ∙ h)

pub gives_fault : (f : SpecFault) (answer : Result Spec SpecFault) → answer ≡ Err f → Gives (Err f) answer
gives_fault fault.Memory answer h = tt
gives_fault _ answer h = h
