use Rattle.std.proofs.Common.{◌∙◌}
use Rattle.opgen_vhdl.specs.DesignText.{architecture_text}
use Rattle.opgen_write.proofs.Paging.{comes_then, comes_as}
use Rattle.opgen_write.proofs.architecture.put_architecture.Goals as goal

pub returns : goal.returns
unfolding architecture_text
returns g c =
    let name = comes_as _ _ _ _ _ _ _ _ (c.as_bytes.ensures.value ∙ c.as_str.ensures) c.put_bytes-2.ensures in
    let head = comes_then _ _ _ _ _ _ _ _ _ _ _ (comes_then _ _ _ _ _ _ _ _ _ _ _ c.put_bytes.ensures name) c.put_bytes-3.ensures in
    let begun = comes_then _ _ _ _ _ _ _ _ _ _ _ (comes_then _ _ _ _ _ _ _ _ _ _ _ head c.put_signals.ensures) c.put_bytes-4.ensures in
    let statements =
    comes_then _ _ _ _ _ _ _ _ _ _ _ (comes_then _ _ _ _ _ _ _ _ _ _ _ begun c.put_drivers.ensures) c.put_process.ensures in
    comes_then _ _ _ _ _ _ _ _ _ _ _ (comes_then _ _ _ _ _ _ _ _ _ _ _ statements c.put_drivers-2.ensures) c.put_bytes-5.ensures
