-- T14 to T19, plans in which several queues signal a semaphore: one list, one claim; and what T19 would be by value.
-- Assumes nothing.
use mathlib.Core.Path.{◌≡◌, refl}
use mathlib.Core.List.{map, flatten}
use mathlib.Core.Option.{some, or_else}
use Rattle.base_lists.specs.Lists.{member, filter, all, tally, all_below, first_from, when_true, is_some, tabulate_from}
use Rattle.base_lists.specs.Lists.{join_from}
use Rattle.order.specs.Runs.{can}
use Rattle.order.specs.Greedy.{with_next, greedy}
use Rattle.order.specs.Closure.{any_of, fresh, round, rounds, predecessors}
use Rattle.plan_format.specs.Refusal.{refusal, none_given, given, or_refusal}
use Rattle.plan_format.specs.Grammar.{value, digits, bytes, scan, refused, field_number, read_field, last_got, times}
use Rattle.plan_format.specs.Grammar.{count_check, read_by, ended}
use Rattle.plan_format.specs.Form.{first_form, queue_count, semaphore_count, buffer_count, any_number, below, at_least}
use Rattle.plan_format.specs.Form.{new_axis, a_queue, a_semaphore, a_buffer, a_kind, point, mark}
use Rattle.plan_format.specs.Form.{operation as FormOperation}
use Rattle.plan_format.specs.Form.{plan_grammar, scanned_by, second_form, form_by, is_second}
use Rattle.plan_format.specs.Plan.{count, op, queues, points_in, marks_in, heading, operation_in, operation_long}
use Rattle.plan_format.specs.Plan.{operations_in, plan_of}
use Rattle.plan_format.specs.Sound.{highest_in, highest, signals_number, signals_refusal, too_high, any_too_high}
use Rattle.plan_format.specs.Sound.{waits_refusal, rules_refusal}
use Rattle.plan_format.specs.Stored.{scanned, plan_in, plan_refusal, room_for}
use Rattle.plan_order.specs.Precedence.{signals_of, signals_from, plan_signals, reaches, nearer, nearest, resolution_of}
use Rattle.plan_order.specs.Precedence.{resolve, rests_on, any_rests_on, same_queue, direct, all_before, before}
use Rattle.plan_order.specs.Rows.{column, row, rows}
use Rattle.plan_order.specs.Runs.{reached, rested, wait_met, earlier_run, enabled, ready, ready_on, next, standard}
use Rattle.plan_order.specs.Runs.{number_ready, ready_numbers, missing}
use Rattle.plan_order.specs.Holdings.{placed, marks_of, marks_from, buffer_marks, is_free, freed_by, free_after}
use Rattle.plan_order.specs.Holdings.{use_asks, later_asks, asks_from, asks, asked_of, met, all_asks, has_broken}
use Rattle.plan_order.specs.Holdings.{broken}
use Rattle.plan_order.specs.Handovers.{last_signaller, handover, handovers_from, handovers, out_of_turn, disordered}
use Rattle.plan_order.specs.Check.{room_refusal, refused_at, order_refusal, outcome, or_then, check_outcome}
use Rattle.plan_order.specs.OnlyOwners.{met_by_value, enabled_by_value, ready_by_value, ready_on_by_value}
use Rattle.plan_order.specs.OnlyOwners.{next_by_value, standard_by_value, missing_by_value}
use Rattle.plan_small.specs.Cases.{section, at, use_of, free_of, operation, plan, wide, checked, judge, asked}
use Rattle.plan_small.specs.Cases.{case}
use Rattle.plan_small.specs.Handovers.{pipeline, t14, t15, there_and_back, t16, t17, t18, t19_stored, t19}
use Rattle.plan_small.specs.Handovers.{handover_cases}

pub judged : map (λ c. judge c.question) handover_cases ≡ map (λ c. c.answer) handover_cases
unfolding flatten or_else checked asked section at use_of free_of operation plan wide judge case pipeline t14 t15
    there_and_back t16 t17 t18 t19_stored t19 handover_cases member filter all tally all_below first_from when_true
    is_some tabulate_from join_from can with_next greedy any_of fresh round rounds predecessors refusal none_given given
    or_refusal value digits bytes scan refused field_number read_field last_got times count_check read_by ended
    first_form
    queue_count semaphore_count buffer_count any_number below at_least new_axis a_queue a_semaphore a_buffer a_kind
    point mark FormOperation plan_grammar scanned_by second_form form_by is_second count op queues points_in marks_in
    heading operation_in operation_long operations_in plan_of highest_in highest signals_number signals_refusal too_high
    any_too_high waits_refusal rules_refusal scanned plan_in plan_refusal room_for signals_of signals_from plan_signals
    reaches nearer nearest resolution_of resolve rests_on any_rests_on same_queue direct all_before before column row
    rows reached rested wait_met earlier_run enabled ready ready_on next standard number_ready ready_numbers missing
    placed marks_of marks_from buffer_marks is_free freed_by free_after use_asks later_asks asks_from asks asked_of met
    all_asks has_broken broken last_signaller handover handovers_from handovers out_of_turn disordered room_refusal
    refused_at order_refusal outcome or_then check_outcome
judged = refl

-- T19 by value: the semaphore comes to 2 by operation 2 alone, and only operation 1 would be missing
pub t19_by_value : missing_by_value (plan_in t19_stored) ≡ some 1
unfolding flatten or_else section at operation plan t19_stored member all all_below first_from when_true can with_next
    greedy none_given given value digits bytes scan refused field_number read_field last_got times count_check read_by
    ended first_form queue_count semaphore_count buffer_count any_number below at_least new_axis a_queue a_semaphore
    a_buffer a_kind point mark FormOperation plan_grammar scanned_by second_form form_by is_second count op queues
    points_in marks_in heading operation_in operation_long operations_in plan_of highest_in scanned plan_in same_queue
    reached earlier_run met_by_value enabled_by_value ready_by_value ready_on_by_value next_by_value standard_by_value
    missing_by_value
t19_by_value = refl
