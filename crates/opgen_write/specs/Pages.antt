-- Text on its way into a sink, page by page.
use Rattle.std.specs.Prelude.{◌≡◌, ℕ, ◌≤◌, List, ◌++◌, Option, Some, None, is_some, IsSome}
use Rattle.opgen_io.specs.Bytes.{TakesPrefix}
use Rattle.opgen_io.specs.Counts.{Rose}
use Rattle.opgen_write.specs.declared.page.Page.{Page}
use Rattle.opgen_write.specs.declared.write.WriteFault.TheVariants.{Failed}

-- the sink took all that came but for what stands in the page
abbrev pub TakesAll : Option (List ℕ) → (came : List ℕ) → Page → Option (List ℕ) → Type 0
TakesAll base came page taken = (held : List ℕ) → base ≡ Some held → (sent : List ℕ) × (taken ≡ Some (held ++ sent))
    × (sent ++ page.bytes.items ≡ came)

-- this text came since the sink held `base` and counted `faults`: until the first fault all of it is in the sink or in the page,
-- which is not full, and from then on the sink keeps a first part of it
pub record Came (base : Option (List ℕ)) (faults : ℕ) (came : List ℕ) (page : Page) (taken : Option (List ℕ)) (count : ℕ) : Type 0 where
  pub tells : is_some taken ≡ is_some base
  pub kept : faults ≤ count
  pub all : page.fault ≡ None → TakesAll base came page taken
  pub part : IsSome page.fault → TakesPrefix base came taken
  pub failed : page.fault ≡ Some Failed → Rose faults count

-- this text came besides
abbrev pub Comes : Page → Option (List ℕ) → ℕ → (text : List ℕ) → Page → Option (List ℕ) → ℕ → Type 0
Comes page taken count text later_page later_taken later_count =
    (base : Option (List ℕ)) (faults : ℕ) (came : List ℕ) → Came base faults came page taken count
    → Came base faults (came ++ text) later_page later_taken later_count
