-- What reading a document gives is written in it, and valid.
use Rattle.std.proofs.Common.{◌≡◌, Option, Some, None, Ok, refl, subst}
use Rattle.std.specs.Prelude.{unwrap_or}
use Rattle.toml.specs.Data.{Members}
use Rattle.opgen_operator.specs.declared.kind.Kind.{Kind}
use Rattle.opgen_operator.specs.declared.kind.Kind.TheVariants as kind
use Rattle.opgen_operator.specs.declared.spec.Spec.{Spec}
use Rattle.opgen_operator.specs.Valid.{IsValidSpec}
use Rattle.opgen_spec.specs.Faults.{field_fault, read}
use Rattle.opgen_spec.specs.Spec.{spec_with, spec_of}
use Rattle.opgen_spec.specs.Written.{IsAsWritten}
use Rattle.opgen_entries.specs.kinds.{kind_of}
use Rattle.opgen_spec.proofs.Fine.{fine, no_kind}
use Rattle.opgen_spec.proofs.Validity.{clear_of, valid_read}
use Rattle.opgen_spec.proofs.Written.{written}

-- the document of a specification that was read
pub record IsReadFrom (found : Option Members) (spec : Spec) : Type 0 where
  pub document : Members
  pub parsed : found ≡ Some document
  pub written : IsAsWritten document spec
  pub valid : IsValidSpec spec

written_members : (ms : Members) → field_fault ms ≡ None → IsAsWritten ms (spec_of ms)
written_members ms none = by (kind_of ms) refl
  where
    by : (o : Option Kind) → kind_of ms ≡ o → IsAsWritten ms (spec_with (unwrap_or o kind.Scale) ms)
    by (Some one) e = written ms one none e
    by None e = absurd (no_kind ms (fine ms none).kind e)

pub read_from : (found : Option Members) (spec : Spec) → read found ≡ Ok spec → IsReadFrom found spec
read_from None spec reads = let no : ⊥ = cc in absurd no
read_from (Some ms) spec reads =
    let c = clear_of ms spec reads in
    record {
      document = ms;
      parsed = refl;
      written = subst (IsAsWritten ms) c.same (written_members ms c.none);
      valid = valid_read (Some ms) spec reads;
    }
