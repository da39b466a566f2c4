-- R1, R2: the grammars of the sections once the counts are known. Each check has the limit that it asks for.
-- Assumes nothing: these are definitions.
use Rattle.std.specs.Prelude.{cond, ℕ, zero, suc, ltb}
use Rattle.plan_format.specs.Sizes.{most_waits, most_signals, most_marks, least_wait, least_signal}
use Rattle.plan_format.specs.Grammar.{Check, Grammar, field, seq, counted, nothing}
use Rattle.plan_format.specs.Form.{Form, any_number, at_least, new_axis}

unfoldable pub limited : (limit over : ℕ) → Check
limited l n g v = cond (ltb v l) 0 n

-- so many of a thing
unfoldable pub repeat : ℕ → Grammar → Grammar
repeat zero g = nothing
repeat (suc n) g = seq (repeat n g) g

unfoldable pub axis_field : Grammar
axis_field = field 8 new_axis

unfoldable pub size_field : Grammar
size_field = field 4 any_number

-- the section of owners, in the form's bytes
abbrev pub owned : Form → Check → Grammar
owned F c = counted F.semaphores_least F.semaphores_most F.semaphore_width (field 1 c)

-- a semaphore's position has as many bytes as the form says
unfoldable pub point_below : (width semaphores least : ℕ) → Grammar
point_below w m l = seq (field w (limited m 4)) (field 8 (at_least l))

-- the lists of points of an operation, the first so many of them: its waits, then its signals
unfoldable pub most_in : (list : ℕ) → ℕ
most_in zero = most_waits
most_in (suc i) = most_signals

unfoldable pub least_in : (list : ℕ) → ℕ
least_in zero = least_wait
least_in (suc i) = least_signal

unfoldable pub lists_below : (width semaphores lists : ℕ) → Grammar
lists_below w m zero = nothing
lists_below w m (suc i) = seq (lists_below w m i) (counted 0 (most_in i) 1 (point_below w m (least_in i)))

unfoldable pub mark_below : (buffers : ℕ) → Grammar
mark_below b = seq (field 2 (limited b 4)) (field 1 (limited 2 4))

unfoldable pub operation_below : (width queues semaphores buffers : ℕ) → Grammar
operation_below w q m b =
    seq (field 1 (limited q 4))
    (seq (counted 0 most_waits 1 (point_below w m least_wait))
    (seq (counted 0 most_signals 1 (point_below w m least_signal)) (counted 0 most_marks 1 (mark_below b))))
