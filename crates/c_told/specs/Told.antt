-- What the three numbers that a C caller lends mean. Assumes nothing: these are definitions.
use Rattle.std.specs.Prelude.{List, ℕ, get_or}
use Rattle.plan_format.specs.declared.Told.{Told}

-- R77, told: number, place, answer
unfoldable pub told_of : List ℕ → Told
told_of ns = record { number = get_or ns 0 0; place = get_or ns 1 0; answer = get_or ns 2 0 }
