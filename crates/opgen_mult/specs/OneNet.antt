-- A product has only one net.
use Rattle.std.specs.Prelude.{◌≡◌}
use Rattle.opgen_net.specs.declared.net.Net.{Net}
use Rattle.opgen_kinds.specs.declared.product.Product.{Product}
use Rattle.opgen_mult.specs.Recipe.{IsNetOfProduct}

abbrev pub HasOneNet : Type 0
HasOneNet = (p : Product) (x y : Net) → IsNetOfProduct p x → IsNetOfProduct p y → x ≡ y
