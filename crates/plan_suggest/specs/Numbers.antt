-- The number and the values of each case of an advice (R92). Assumes nothing: these are definitions.
use Rattle.std.specs.Prelude.{List, [], ◌∷◌, ℕ}
use Rattle.plan_suggest.specs.declared.Advice.{Advice}
use Rattle.plan_suggest.specs.declared.Advice.TheVariants.{NoneNeeded, Wait, NoneWouldHelp}

-- R92: 0 none needed, 1 the wait, 2 none would help
unfoldable pub number_of : Advice → ℕ
number_of NoneNeeded = 0
number_of (Wait s v) = 1
number_of NoneWouldHelp = 2

-- R92: the semaphore and the value of the wait; 0 where there is none
unfoldable pub semaphore_of : Advice → ℕ
semaphore_of NoneNeeded = 0
semaphore_of (Wait s v) = s
semaphore_of NoneWouldHelp = 0

unfoldable pub value_of : Advice → ℕ
value_of NoneNeeded = 0
value_of (Wait s v) = v
value_of NoneWouldHelp = 0

unfoldable pub wait_numbers : Advice → List ℕ
wait_numbers a = semaphore_of a ∷ value_of a ∷ []
