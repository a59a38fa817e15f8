-- A function of the reader returns what the grammar says, unless memory runs out.
use Rattle.std.specs.Prelude.{◌≡◌, Option, Some, None, Result, Ok, Err}
use Rattle.opgen_read.specs.declared.refusal.Refusal.{Refusal}
use Rattle.opgen_read.specs.declared.refusal.Refusal.TheVariants as refusals

abbrev pub Fails : {Y : Type 0} → Refusal → Option Y → Type 0
Fails refusals.Memory read = Unit {0}
Fails refusals.Refused read = read ≡ None

abbrev pub Gives : {X Y : Type 0} → (X → Y) → Result X Refusal → Option Y → Type 0
Gives view (Ok x) read = read ≡ Some (view x)
Gives view (Err e) read = Fails e read
