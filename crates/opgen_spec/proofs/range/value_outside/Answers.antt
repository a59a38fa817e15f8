use Rattle.std.proofs.Common.{◌≡◌, ℕ, ◌⊎◌, inl, inr, refl, ◌∙◌}
use Rattle.toml.specs.Data.{Members}
use Rattle.toml.specs.View.{table_view}
use Rattle.opgen_document.specs.declared.key.Key.{Key}
use Rattle.opgen_document.specs.declared.key.Key.TheVariants as key
use Rattle.opgen_spec.specs.Faults.{value_outside}
use Rattle.opgen_entries.specs.kinds.Sop.{factor_outside}
use Rattle.opgen_spec.proofs.range.value_outside.Goals as goal

-- the three keys whose values are names of inputs
factors : (doc : Members) (line : ℕ) (ms : Members) (k : Key) → (k ≡ key.ScaledInput) ⊎ ((k ≡ key.FactorA) ⊎ (k ≡ key.FactorB))
    → factor_outside doc line ms k ≡ value_outside doc line ms k
factors doc line ms k (inl is) = rw is refl
factors doc line ms k (inr (inl is)) = rw is refl
factors doc line ms k (inr (inr is)) = rw is refl

pub returns-in-ScaledInput : goal.returns-in-ScaledInput
returns-in-ScaledInput c =
    c.factor_outside.ensures ∙ factors (table_view c.args.document.now) c.args.line (table_view c.args.table.now) c.args.key c.in-ScaledInput.is
