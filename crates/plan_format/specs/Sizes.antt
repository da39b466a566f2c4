-- The limits of a plan and the sizes made of them; src/limits.rt has the same names. Assumes nothing: these are
-- definitions.
use Rattle.std.specs.Prelude.{ℕ, ◌+◌, ◌*◌}

-- R1: what a plan has at most
abbrev pub most_queues : ℕ
most_queues = 16

abbrev pub most_semaphores : ℕ
most_semaphores = 1024

abbrev pub most_buffers : ℕ
most_buffers = 256

abbrev pub most_operations : ℕ
most_operations = 1024

-- R8, forms: how many semaphores the first form has room for, the byte that the second form begins with, and the bytes
-- of a semaphore's position and of the semaphore count in each
abbrev pub first_semaphores : ℕ
first_semaphores = 64

abbrev pub second_lead : ℕ
second_lead = 242

abbrev pub first_width : ℕ
first_width = 1

abbrev pub second_width : ℕ
second_width = 2

-- R2: what one operation has at most
abbrev pub most_waits : ℕ
most_waits = 3

abbrev pub most_signals : ℕ
most_signals = 2

abbrev pub most_marks : ℕ
most_marks = 4

-- R18: the least value of a wait and of a signal
abbrev pub least_wait : ℕ
least_wait = 1

abbrev pub least_signal : ℕ
least_signal = 0

-- places for the waits, the signals and the marks of all operations
abbrev pub wait_places : ℕ
wait_places = most_waits * most_operations

abbrev pub signal_places : ℕ
signal_places = most_signals * most_operations

abbrev pub mark_places : ℕ
mark_places = most_marks * most_operations

-- R20: a row has a place for each queue; the rows have two more than there are operations, which stay zero
abbrev pub row_width : ℕ
row_width = most_queues

abbrev pub row_places : ℕ
row_places = row_width * (most_operations + 2)

-- R46: room for the rows and the run of every plan
abbrev pub table_numbers : ℕ
table_numbers = row_width * most_operations

abbrev pub list_numbers : ℕ
list_numbers = 2 * most_operations

-- R7: the most numbers before the operations, of one operation and of a plan
abbrev pub head_numbers : ℕ
head_numbers = 4 + most_queues + most_semaphores + most_buffers

abbrev pub block_numbers : ℕ
block_numbers = 4 + 2 * (most_waits + most_signals + most_marks)

abbrev pub plan_numbers : ℕ
plan_numbers = head_numbers + most_operations * block_numbers

-- and the most bytes, in the second form: its lead, and each count, position and number in the bytes of its field
abbrev pub head_bytes : ℕ
head_bytes = 6 + second_width + 8 * most_queues + most_semaphores + 4 * most_buffers

abbrev pub block_bytes : ℕ
block_bytes = 4 + (second_width + 8) * (most_waits + most_signals) + 3 * most_marks

abbrev pub plan_bytes : ℕ
plan_bytes = head_bytes + most_operations * block_bytes

-- R75: the most bytes of an input in the second form that the program judges
abbrev pub most_input : ℕ
most_input = 65536

-- a recorded trace: the bytes of a step and of the count of steps, the most steps, and the most bytes
abbrev pub step_bytes : ℕ
step_bytes = 2

abbrev pub most_steps : ℕ
most_steps = 65535

abbrev pub trace_bytes : ℕ
trace_bytes = step_bytes + step_bytes * most_steps

-- the state after a part of a run has a place for each queue, then one for each semaphore
abbrev pub state_size : ℕ
state_size = most_queues + most_semaphores

-- the number that means no operation
abbrev pub no_operation : ℕ
no_operation = most_operations

-- the value that means no wait: it is below the least
abbrev pub no_wait : ℕ
no_wait = 0
