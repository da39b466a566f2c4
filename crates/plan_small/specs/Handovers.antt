-- R79: small plans in which several queues signal a semaphore, each with its answer. Assumes nothing: these are
-- definitions.
use Rattle.std.specs.Prelude.{List, [], ◌∷◌, ◌++◌, ℕ}
use Rattle.plan_small.specs.Cases.{at, use_of, free_of, operation, plan, wide, Case, case, passed, refused}

-- T14: queue 0 signals S0 to 1, queue 1 waits for that and signals it to 2, queue 2 waits for that: it passes,
-- whichever queue owns S0; an owner that is no queue is 4
unfoldable pub pipeline : (owner : ℕ) → List ℕ
pipeline o =
    plan (1 ∷ 2 ∷ 3 ∷ []) (o ∷ []) []
    (operation 0 [] (at 0 1 ∷ []) [] ∷ operation 1 (at 0 1 ∷ []) (at 0 2 ∷ []) []
    ∷ operation 2 (at 0 2 ∷ []) [] [] ∷ [])

unfoldable pub t14 : List Case
t14 =
    case (pipeline 0)
    (passed (0 ∷ 1 ∷ 2 ∷ []) (1 ∷ 1 ∷ 1 ∷ []) (wide ((1 ∷ 0 ∷ 0 ∷ []) ∷ (1 ∷ 1 ∷ 0 ∷ []) ∷ (1 ∷ 1 ∷ 1 ∷ []) ∷ [])))
    ∷ case (pipeline 2)
    (passed (0 ∷ 1 ∷ 2 ∷ []) (1 ∷ 1 ∷ 1 ∷ []) (wide ((1 ∷ 0 ∷ 0 ∷ []) ∷ (1 ∷ 1 ∷ 0 ∷ []) ∷ (1 ∷ 1 ∷ 1 ∷ []) ∷ [])))
    ∷ case (pipeline 3) (refused 4 26) ∷ []

-- T15: two signallers without an order between: 17 at 1; one operation signals 1 and 2: passed
unfoldable pub t15 : List Case
t15 =
    case (plan (1 ∷ 2 ∷ []) (0 ∷ []) [] (operation 0 [] (at 0 1 ∷ []) [] ∷ operation 1 [] (at 0 2 ∷ []) [] ∷ []))
    (refused 17 1)
    ∷ case (plan (1 ∷ []) (0 ∷ []) [] (operation 0 [] (at 0 1 ∷ at 0 2 ∷ []) [] ∷ []))
    (passed (0 ∷ []) (1 ∷ []) (wide ((1 ∷ []) ∷ []))) ∷ []

-- T16: queue 0 signals 1, queue 1 waits for that and signals 2, queue 0 signals 3: 17 at 2 without a wait; passed, with
-- last row 2 1, where it waits for 2
unfoldable pub there_and_back : (waits : List (List ℕ)) → List ℕ
there_and_back ws =
    plan (1 ∷ 2 ∷ []) (0 ∷ []) []
    (operation 0 [] (at 0 1 ∷ []) [] ∷ operation 1 (at 0 1 ∷ []) (at 0 2 ∷ []) []
    ∷ operation 0 ws (at 0 3 ∷ []) [] ∷ [])

unfoldable pub t16 : List Case
t16 =
    case (there_and_back []) (refused 17 2)
    ∷ case (there_and_back (at 0 2 ∷ []))
    (passed (0 ∷ 1 ∷ 2 ∷ []) (1 ∷ 1 ∷ 1 ∷ []) (wide ((1 ∷ 0 ∷ []) ∷ (1 ∷ 1 ∷ []) ∷ (2 ∷ 1 ∷ []) ∷ []))) ∷ []

-- T17: operation 0, on queue 1, waits for S1 at 1 and signals S0 to 1; operation 1, on queue 0, signals S1 to 1 and S0
-- to 2: 17 at 1, by the order of the plan and not of the run
unfoldable pub t17 : List Case
t17 =
    case (plan (1 ∷ 2 ∷ []) (1 ∷ 0 ∷ []) []
    (operation 1 (at 1 1 ∷ []) (at 0 1 ∷ []) [] ∷ operation 0 [] (at 1 1 ∷ at 0 2 ∷ []) [] ∷ [])) (refused 17 1) ∷ []

-- T18: what comes first: a broken mark at 1 and a signal out of turn at 2 is 17 at 2; a signal out of turn at 1 and
-- operation 2 stuck is 10 at 2; signals to 2 and then, on another queue, to 1 are 7 at 1
unfoldable pub t18 : List Case
t18 =
    case (plan (1 ∷ 2 ∷ []) (0 ∷ []) (64 ∷ [])
    (operation 0 [] (at 0 1 ∷ []) (use_of 0 ∷ free_of 0 ∷ []) ∷ operation 1 [] [] (use_of 0 ∷ [])
    ∷ operation 1 [] (at 0 2 ∷ []) [] ∷ [])) (refused 17 2)
    ∷ case (plan (1 ∷ 2 ∷ 3 ∷ []) (0 ∷ 2 ∷ []) []
    (operation 0 [] (at 0 1 ∷ []) [] ∷ operation 1 [] (at 0 2 ∷ []) []
    ∷ operation 2 (at 1 1 ∷ []) (at 1 1 ∷ []) [] ∷ [])) (refused 10 2)
    ∷ case (plan (1 ∷ 2 ∷ []) (0 ∷ []) [] (operation 0 [] (at 0 2 ∷ []) [] ∷ operation 1 [] (at 0 1 ∷ []) [] ∷ []))
    (refused 7 1) ∷ []

-- T19: operation 0, on queue 2, waits for S0 at 1; operation 1, on queue 0, waits for S1 at 1 and signals S0 and S1 to
-- 1; operation 2, on queue 1, signals S0 to 2: 10 at 0, since the wait rests on operation 1, whatever S0 has come to
unfoldable pub t19_stored : List ℕ
t19_stored =
    plan (1 ∷ 2 ∷ 3 ∷ []) (0 ∷ 0 ∷ []) []
    (operation 2 (at 0 1 ∷ []) [] [] ∷ operation 0 (at 1 1 ∷ []) (at 0 1 ∷ at 1 1 ∷ []) []
    ∷ operation 1 [] (at 0 2 ∷ []) [] ∷ [])

unfoldable pub t19 : List Case
t19 = case t19_stored (refused 10 0) ∷ []

unfoldable pub handover_cases : List Case
handover_cases = t14 ++ t15 ++ t16 ++ t17 ++ t18 ++ t19
