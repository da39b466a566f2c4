-- What a change in place answers and stores. Assumes nothing: these are definitions.
use Rattle.std.specs.Prelude.{◌≡◌, cond, ℕ, eqb}
use Rattle.frontier.specs.declared.Frontier.{Frontier}
use Rattle.frontier.specs.declared.Merged.{Merged}

-- what is stored: the new frontier where the number is 0, else the one that was stored
unfoldable pub stored_after : (stored : Frontier) → (new : Merged) → Frontier
stored_after stored new = cond (eqb new.number 0) new.frontier stored

-- R65, in place: the number of the form by value is handed back, and a refusal changes nothing
abbrev pub Changed : (stored : Frontier) → (by_value : Merged) → (number : ℕ) → (stored_now : Frontier) → Type 0
Changed stored by_value number stored_now = (number ≡ by_value.number) × (stored_now ≡ stored_after stored by_value)
