-- R79: the small plans and frontiers, T1 to T13, those of the second form and those with a wait for 0, each with its
-- answer. Assumes nothing: these are definitions.
use Rattle.std.specs.Prelude.{true, false, cond, ℕ, ◌-◌, length, replicate}
use mathlib.Core.List.{List, [], ◌∷◌, ◌++◌, map, flatten}
use Rattle.frontier_slots.specs.declared.Entry.{Entry}
use Rattle.frontier.specs.Frontiers.{pack, merge, dominance}
use Rattle.frontier.specs.declared.Frontier.{Frontier}
use Rattle.frontier.specs.declared.Merged.{Merged}
use Rattle.frontier.specs.Frontiers.{Verdict}
use Rattle.frontier.specs.Frontiers.{No, Unknown}
use Rattle.plan_format.specs.Refusal.{given}
use Rattle.plan_format.specs.Grammar.{digits}
use Rattle.plan_format.specs.Stored.{plan_in, listed, spelled}
use Rattle.plan_order.specs.Rows.{rows}
use Rattle.plan_order.specs.Runs.{standard, ready_numbers}
use Rattle.plan_order.specs.Check.{check_outcome}

-- ---- stored bytes, written out section by section
unfoldable pub section : (width : ℕ) → (entries : List (List ℕ)) → List ℕ
section w es = digits w (length es) ++ flatten es

-- a value of a semaphore, waited for or signalled, in the first form and in the second
unfoldable pub at : (semaphore value : ℕ) → List ℕ
at s v = s ∷ digits 8 v

unfoldable pub at_wide : (semaphore value : ℕ) → List ℕ
at_wide s v = digits 2 s ++ digits 8 v

unfoldable pub use_of : (buffer : ℕ) → List ℕ
use_of b = digits 2 b ++ (0 ∷ [])

unfoldable pub free_of : (buffer : ℕ) → List ℕ
free_of b = digits 2 b ++ (1 ∷ [])

unfoldable pub operation : (queue : ℕ) → (waits signals marks : List (List ℕ)) → List ℕ
operation q ws ss ms = q ∷ section 1 ws ++ section 1 ss ++ section 1 ms

unfoldable pub plan : (axes owners sizes : List ℕ) → (operations : List (List ℕ)) → List ℕ
plan axes owners sizes operations =
    section 1 (map (λ a. digits 8 a) axes) ++ section 1 (map (λ o. o ∷ []) owners)
    ++ section 2 (map (λ b. digits 4 b) sizes) ++ section 2 operations

-- the first two sections in the second form, with so many semaphores of queue 0; and a plan
unfoldable pub second_head : (axes : List ℕ) → (semaphores : ℕ) → List ℕ
second_head axes s = 242 ∷ section 1 (map (λ a. digits 8 a) axes) ++ section 2 (replicate s (0 ∷ []))

unfoldable pub second_plan : (axes : List ℕ) → (semaphores : ℕ) → (sizes : List ℕ) → (operations : List (List ℕ)) →
    List ℕ
second_plan axes s sizes operations =
    second_head axes s ++ section 2 (map (λ b. digits 4 b) sizes) ++ section 2 operations

-- ---- questions and answers
pub data Question : Type 0 where
  check : (bytes : List ℕ) → Question
  write : (numbers : List ℕ) → Question
  merge_of : (f g : Frontier) → (capacity : ℕ) → Question
  dominance_of : (f g : Frontier) → Question

pub data Answer : Type 0 where
  passed : (run ready rows : List ℕ) → Answer
  refused : (number place : ℕ) → Answer
  written : (bytes : List ℕ) → Answer
  merged : Merged → Answer
  dominates : Verdict → Answer

-- rows of few columns, filled up with zeros to sixteen
unfoldable pub wide : List (List ℕ) → List ℕ
wide rs = flatten (map (λ r. r ++ replicate (16 - length r) 0) rs)

unfoldable pub checked : (bytes : List ℕ) → Answer
checked bs =
    let f = (check_outcome bs 1000 1000).refusal in
    let p = plan_in bs in
    cond (given f) (refused f.number f.place) (passed (standard p) (ready_numbers p [] (standard p)) (rows p))

unfoldable pub write_answer : (numbers : List ℕ) → Answer
write_answer xs =
    let f = (listed xs).fault in
    cond (given f) (refused f.number f.place) (written (spelled xs))

unfoldable pub judge : Question → Answer
judge (check bs) = checked bs
judge (write xs) = write_answer xs
judge (merge_of f g k) = merged (merge f g k)
judge (dominance_of f g) = dominates (dominance f g)

pub record Case : Type 0 where
  pub question : Question
  pub answer : Answer

unfoldable pub asked : Question → Answer → Case
asked q a = record { question = q; answer = a }

unfoldable pub case : (bytes : List ℕ) → Answer → Case
case bs a = asked (check bs) a

-- ---- the cases, in the order of R79
-- T1: zero bytes only: six pass with an empty run, five are 1 at 4, seven 3 at 6
unfoldable pub t1 : List Case
t1 =
    case (replicate 6 0) (passed [] [] [])
    ∷ case (replicate 5 0) (refused 1 4)
    ∷ case (replicate 7 0) (refused 3 6) ∷ []

-- T2: passed, row 1
unfoldable pub t2 : List Case
t2 =
    case (1 ∷ 7 ∷ 0 ∷ 0 ∷ 0 ∷ 0 ∷ 0 ∷ 0 ∷ 0 ∷ 0 ∷ 0 ∷ 0 ∷ 1 ∷ 0 ∷ 0 ∷ 0 ∷ 0 ∷ 0 ∷ [])
    (passed (0 ∷ []) (1 ∷ []) (wide ((1 ∷ []) ∷ []))) ∷ []

-- first byte 17: 2 at 0
unfoldable pub first_17 : List Case
first_17 = case (17 ∷ replicate 5 0) (refused 2 0) ∷ []

-- T3: run 0 1 2, ready 1 1 1, rows 1 0 0, 1 1 0 and 1 1 1
unfoldable pub t3_stored : List ℕ
t3_stored =
    plan (1 ∷ 2 ∷ 3 ∷ []) (0 ∷ 1 ∷ []) (4096 ∷ [])
    (operation 0 [] (at 0 1 ∷ []) (use_of 0 ∷ [])
    ∷ operation 1 (at 0 1 ∷ []) (at 1 1 ∷ []) (use_of 0 ∷ free_of 0 ∷ [])
    ∷ operation 2 (at 1 1 ∷ []) [] (use_of 0 ∷ []) ∷ [])

unfoldable pub t3 : List Case
t3 =
    case t3_stored
    (passed (0 ∷ 1 ∷ 2 ∷ []) (1 ∷ 1 ∷ 1 ∷ []) (wide ((1 ∷ 0 ∷ 0 ∷ []) ∷ (1 ∷ 1 ∷ 0 ∷ []) ∷ (1 ∷ 1 ∷ 1 ∷ []) ∷ []))) ∷ []

-- T4: two queues wait for each other's first signal: 10 at 0
unfoldable pub t4 : List Case
t4 =
    case (plan (1 ∷ 2 ∷ []) (0 ∷ 1 ∷ []) []
    (operation 0 (at 1 1 ∷ []) (at 0 1 ∷ []) [] ∷ operation 1 (at 0 1 ∷ []) (at 1 1 ∷ []) [] ∷ [])) (refused 10 0) ∷ []

-- T5: an operation waits for its own signal: 10 at 0
unfoldable pub t5 : List Case
t5 = case (plan (1 ∷ []) (0 ∷ []) [] (operation 0 (at 0 1 ∷ []) (at 0 1 ∷ []) [] ∷ [])) (refused 10 0) ∷ []

-- T6: operation 0, on queue 1, waits for operation 1, on queue 0: run 1 0, rows 1 1 and 1 0
unfoldable pub t6 : List Case
t6 =
    case (plan (1 ∷ 2 ∷ []) (0 ∷ []) [] (operation 1 (at 0 1 ∷ []) [] [] ∷ operation 0 [] (at 0 1 ∷ []) [] ∷ []))
    (passed (1 ∷ 0 ∷ []) (1 ∷ 1 ∷ []) (wide ((1 ∷ 1 ∷ []) ∷ (1 ∷ 0 ∷ []) ∷ []))) ∷ []

-- T7: five operations of queue 0 signal 1 to 5, and operation 5, on queue 1, waits for 2: its row is 2 1
unfoldable pub signals_to : List ℕ → List (List ℕ)
signals_to vs = map (λ v. operation 0 [] (at 0 v ∷ []) []) vs

unfoldable pub t7 : List Case
t7 =
    case (plan (1 ∷ 2 ∷ []) (0 ∷ []) [] (signals_to (1 ∷ 2 ∷ 3 ∷ 4 ∷ 5 ∷ []) ++ (operation 1 (at 0 2 ∷ []) [] [] ∷ [])))
    (passed (0 ∷ 1 ∷ 2 ∷ 3 ∷ 4 ∷ 5 ∷ []) (1 ∷ 1 ∷ 2 ∷ 2 ∷ 2 ∷ 1 ∷ [])
    (wide ((1 ∷ []) ∷ (2 ∷ []) ∷ (3 ∷ []) ∷ (4 ∷ []) ∷ (5 ∷ []) ∷ (2 ∷ 1 ∷ []) ∷ []))) ∷ []

-- T8: with signals to 3 and 7, a wait for 4 rests on the second, and a wait for 8 is 8 at 2
unfoldable pub t8_stored : (wait : ℕ) → List ℕ
t8_stored v = plan (1 ∷ 2 ∷ []) (0 ∷ []) [] (signals_to (3 ∷ 7 ∷ []) ++ (operation 1 (at 0 v ∷ []) [] [] ∷ []))

unfoldable pub t8 : List Case
t8 =
    case (t8_stored 4) (passed (0 ∷ 1 ∷ 2 ∷ []) (1 ∷ 1 ∷ 1 ∷ []) (wide ((1 ∷ []) ∷ (2 ∷ []) ∷ (2 ∷ 1 ∷ []) ∷ [])))
    ∷ case (t8_stored 8) (refused 8 2) ∷ []

-- T9: a buffer is used and freed on queue 0, and used on queue 1 without a wait: 11 at 1
unfoldable pub t9 : List Case
t9 =
    case (plan (1 ∷ 2 ∷ []) [] (64 ∷ [])
    (operation 0 [] [] (use_of 0 ∷ free_of 0 ∷ []) ∷ operation 1 [] [] (use_of 0 ∷ []) ∷ [])) (refused 11 1) ∷ []

-- T10: the marks of an operation are a free and then a use: 11 at 0
unfoldable pub t10 : List Case
t10 = case (plan (1 ∷ []) [] (64 ∷ []) (operation 0 [] [] (free_of 0 ∷ use_of 0 ∷ []) ∷ [])) (refused 11 0) ∷ []

-- T11: a buffer is used on queue 0 and freed on queue 1 with no order between: 11 at 0
unfoldable pub t11 : List Case
t11 =
    case (plan (1 ∷ 2 ∷ []) [] (64 ∷ [])
    (operation 0 [] [] (use_of 0 ∷ []) ∷ operation 1 [] [] (free_of 0 ∷ []) ∷ [])) (refused 11 0) ∷ []

-- T12: 1:5 2:3 merged with 2:7 3:4 at capacity 2 is 1:5 2:7, tainted
unfoldable pub entry : (axis epoch : ℕ) → Entry
entry a e = record { axis = a; epoch = e }

unfoldable pub t12 : List Case
t12 =
    asked (merge_of (pack (entry 1 5 ∷ entry 2 3 ∷ []) false) (pack (entry 2 7 ∷ entry 3 4 ∷ []) false) 2)
    (merged (record { number = 0; frontier = pack (entry 1 5 ∷ entry 2 7 ∷ []) true })) ∷ []

-- T13: 1:5 2:7 over 1:3 3:4 is no, with the left tainted unknown; 1:5 over 1:3 with the right tainted is unknown
unfoldable pub t13 : List Case
t13 =
    asked (dominance_of (pack (entry 1 5 ∷ entry 2 7 ∷ []) false) (pack (entry 1 3 ∷ entry 3 4 ∷ []) false))
    (dominates No)
    ∷ asked (dominance_of (pack (entry 1 5 ∷ entry 2 7 ∷ []) true) (pack (entry 1 3 ∷ entry 3 4 ∷ []) false))
    (dominates Unknown)
    ∷ asked (dominance_of (pack (entry 1 5 ∷ []) false) (pack (entry 1 3 ∷ []) true)) (dominates Unknown) ∷ []

-- a signal to 2^64 − 1 passes, and another one after it is 7
unfoldable pub greatest_signal : List Case
greatest_signal =
    case (plan (1 ∷ []) (0 ∷ []) [] (signals_to (18446744073709551615 ∷ [])))
    (passed (0 ∷ []) (1 ∷ []) (wide ((1 ∷ []) ∷ [])))
    ∷ case (plan (1 ∷ []) (0 ∷ []) [] (signals_to (18446744073709551615 ∷ 18446744073709551615 ∷ []))) (refused 7 1)
    ∷ case (plan (1 ∷ []) (0 ∷ []) [] (signals_to (18446744073709551615 ∷ 1 ∷ []))) (refused 7 1) ∷ []

-- 65 semaphores: an operation on queue 1 waits for one on queue 0, by the last semaphore; an operation waits for its
-- own signal; a buffer is freed on queue 0 and used on queue 1 without a wait
unfoldable pub second_plans : List Case
second_plans =
    case (second_plan (1 ∷ 2 ∷ []) 65 []
    (operation 0 [] (at_wide 64 1 ∷ []) [] ∷ operation 1 (at_wide 64 1 ∷ []) [] [] ∷ []))
    (passed (0 ∷ 1 ∷ []) (1 ∷ 1 ∷ []) (wide ((1 ∷ []) ∷ (1 ∷ 1 ∷ []) ∷ [])))
    ∷ case (second_plan (1 ∷ []) 65 [] (operation 0 (at_wide 64 1 ∷ []) (at_wide 64 1 ∷ []) [] ∷ [])) (refused 10 0)
    ∷ case (second_plan (1 ∷ 2 ∷ []) 65 (64 ∷ [])
    (operation 0 [] [] (use_of 0 ∷ free_of 0 ∷ []) ∷ operation 1 [] [] (use_of 0 ∷ []) ∷ [])) (refused 11 1) ∷ []

-- bytes that begin with 242 and are no plan: cut short, 17 queues, 64, none or 1,025 semaphores, no queue to own one
unfoldable pub second_refused : List Case
second_refused =
    case (242 ∷ []) (refused 1 1)
    ∷ case (242 ∷ 17 ∷ []) (refused 2 1)
    ∷ case (242 ∷ 0 ∷ 64 ∷ []) (refused 1 2)
    ∷ case (242 ∷ 0 ∷ 64 ∷ 0 ∷ []) (refused 2 2)
    ∷ case (242 ∷ 0 ∷ 64 ∷ 0 ∷ replicate 68 0) (refused 2 2)
    ∷ case (242 ∷ 0 ∷ 0 ∷ 0 ∷ []) (refused 2 2)
    ∷ case (242 ∷ 0 ∷ 0 ∷ 0 ∷ replicate 4 0) (refused 2 2)
    ∷ case (242 ∷ 0 ∷ 1 ∷ 4 ∷ []) (refused 2 2)
    ∷ case (242 ∷ 0 ∷ 65 ∷ 0 ∷ []) (refused 1 4)
    ∷ case (242 ∷ 0 ∷ 65 ∷ 0 ∷ 0 ∷ []) (refused 4 4) ∷ []

-- 65 semaphores in the first form; a first byte that begins no form
unfoldable pub other_leads : List Case
other_leads =
    case (0 ∷ 65 ∷ []) (refused 2 1)
    ∷ case (243 ∷ []) (refused 2 0)
    ∷ case (243 ∷ replicate 8 0) (refused 2 0)
    ∷ case (241 ∷ replicate 8 0) (refused 2 0) ∷ []

-- one queue, 65 semaphores, and an operation at 81 with one wait: position 65, or only one byte of a position
unfoldable pub second_positions : List Case
second_positions =
    case (second_plan (1 ∷ []) 65 [] (operation 0 (at_wide 65 1 ∷ []) [] [] ∷ [])) (refused 4 83)
    ∷ case (second_head (1 ∷ []) 65 ++ (0 ∷ 0 ∷ 1 ∷ 0 ∷ 0 ∷ 1 ∷ 64 ∷ [])) (refused 1 83) ∷ []

-- the writer: 1,025 semaphores; 64 and 65 of one queue
unfoldable pub with_semaphores : (semaphores : ℕ) → List ℕ
with_semaphores s = 1 ∷ 7 ∷ s ∷ replicate s 0 ++ (0 ∷ 0 ∷ [])

unfoldable pub written_forms : List Case
written_forms =
    asked (write (0 ∷ 1025 ∷ 0 ∷ 0 ∷ [])) (refused 2 1)
    ∷ asked (write (with_semaphores 64)) (written (plan (7 ∷ []) (replicate 64 0) [] []))
    ∷ asked (write (with_semaphores 65)) (written (second_plan (7 ∷ []) 65 [] [])) ∷ []

-- one queue, one semaphore, and an operation at 15: a wait for 0; with 7 of the 8 bytes of its value; of a semaphore
-- that the plan lacks; after another wait; after a count of 4; and in the second form, at 81
unfoldable pub lone : (operation : List ℕ) → List ℕ
lone o = plan (7 ∷ []) (0 ∷ []) [] (o ∷ [])

unfoldable pub waits_for_0 : List Case
waits_for_0 =
    case (lone (operation 0 (at 0 0 ∷ []) [] [])) (refused 16 18)
    ∷ case (lone (0 ∷ 1 ∷ 0 ∷ replicate 7 0)) (refused 1 18)
    ∷ case (lone (operation 0 (at 1 0 ∷ []) [] [])) (refused 4 17)
    ∷ case (lone (operation 0 (at 0 1 ∷ at 0 0 ∷ []) [] [])) (refused 16 27)
    ∷ case (lone (operation 0 (replicate 4 (at 0 0)) [] [])) (refused 2 16)
    ∷ case (second_plan (7 ∷ []) 65 [] (operation 0 (at_wide 64 0 ∷ []) [] [] ∷ [])) (refused 16 85) ∷ []

-- a signal of 0; a wait for 1 without a signal
unfoldable pub least_values : List Case
least_values =
    case (lone (operation 0 [] (at 0 0 ∷ []) [])) (refused 7 0)
    ∷ case (lone (operation 0 (at 0 1 ∷ []) [] [])) (refused 8 0) ∷ []

-- the writer: a wait for 0; of a semaphore that the plan lacks; without its value
unfoldable pub written_for_0 : List Case
written_for_0 =
    asked (write (1 ∷ 7 ∷ 1 ∷ 0 ∷ 0 ∷ 1 ∷ 0 ∷ 1 ∷ 0 ∷ 0 ∷ 0 ∷ 0 ∷ [])) (refused 16 9)
    ∷ asked (write (1 ∷ 7 ∷ 1 ∷ 0 ∷ 0 ∷ 1 ∷ 0 ∷ 1 ∷ 1 ∷ 0 ∷ 0 ∷ 0 ∷ [])) (refused 4 8)
    ∷ asked (write (1 ∷ 7 ∷ 1 ∷ 0 ∷ 0 ∷ 1 ∷ 0 ∷ 1 ∷ 0 ∷ [])) (refused 1 9) ∷ []

unfoldable pub cases : List Case
cases =
    t1 ++ t2 ++ first_17 ++ t3 ++ t4 ++ t5 ++ t6 ++ t7 ++ t8 ++ t9 ++ t10 ++ t11 ++ t12 ++ t13 ++ greatest_signal
    ++ second_plans ++ second_refused ++ other_leads ++ second_positions ++ written_forms ++ waits_for_0
    ++ least_values ++ written_for_0
