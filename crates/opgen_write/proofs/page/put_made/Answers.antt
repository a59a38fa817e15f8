use Rattle.std.proofs.Common.{◌≡◌, string_bytes, ◌∙◌}
use Rattle.opgen_write.proofs.Paging.{comes_as}
use Rattle.opgen_write.proofs.page.put_made.Goals as goal

pub returns-in-Ok : goal.returns-in-Ok
returns-in-Ok g c = λ text h.
    let same : string_bytes c.in-Ok.text ≡ text = rw c.in-Ok.is at h in
    comes_as _ _ _ _ _ _ _ _ (c.as_bytes.ensures.value ∙ same) c.put_bytes.ensures
