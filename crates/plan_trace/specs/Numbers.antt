-- The number and the values of each case of what was followed (R86). Assumes nothing: these are definitions.
use Rattle.std.specs.Prelude.{List, [], ◌∷◌, ℕ}
use Rattle.plan_trace.specs.declared.Traced.{Traced}
use Rattle.plan_trace.specs.declared.Followed.{Followed}
use Rattle.plan_trace.specs.declared.Followed.TheVariants.{
  Full,
  Unfinished,
  Unknown,
  Repeated,
  NotFirst,
  WaitNotMet,
}

-- R86: 0 full, 1 unfinished, 2 unknown, 3 repeated, 4 not first, 5 wait not met
unfoldable pub number_of : Followed → ℕ
number_of Full = 0
number_of Unfinished = 1
number_of (Unknown i) = 2
number_of (Repeated i) = 3
number_of (NotFirst i) = 4
number_of (WaitNotMet u) = 5

-- R86: the operation of the step that departs, and the wait in its list; 0 where there is none
unfoldable pub operation_of : Followed → ℕ
operation_of Full = 0
operation_of Unfinished = 0
operation_of (Unknown i) = i
operation_of (Repeated i) = i
operation_of (NotFirst i) = i
operation_of (WaitNotMet u) = u.operation

unfoldable pub wait_of : Followed → ℕ
wait_of Full = 0
wait_of Unfinished = 0
wait_of (Unknown i) = 0
wait_of (Repeated i) = 0
wait_of (NotFirst i) = 0
wait_of (WaitNotMet u) = u.wait

-- R86: step, operation, wait, and three places for what the wait rests on, which are 0
unfoldable pub found_numbers : Traced → List ℕ
found_numbers x = x.step ∷ operation_of x.followed ∷ wait_of x.followed ∷ 0 ∷ 0 ∷ 0 ∷ []
