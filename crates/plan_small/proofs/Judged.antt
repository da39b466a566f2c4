-- T1 to T13, the plan with first byte 17, the signals of 2^64−1, plans and bytes of the second form, and waits for 0:
-- one list, one claim. Assumes nothing.
use mathlib.Core.Path.{◌≡◌, refl}
use mathlib.Core.List.{map, flatten}
use mathlib.Core.Option.{or_else}
use lib.ListN.{length}
use Rattle.base_lists.specs.Lists.{member, filter, all, tally, all_below, first_from, when_true, is_some, tabulate_from}
use Rattle.base_lists.specs.Lists.{join_from}
use Rattle.order.specs.Runs.{can}
use Rattle.order.specs.Greedy.{with_next, greedy}
use Rattle.order.specs.Closure.{any_of, fresh, round, rounds, predecessors}
use Rattle.plan_format.specs.Refusal.{refusal, none_given, given, or_refusal}
use Rattle.plan_format.specs.Grammar.{value, digits, bytes, scan, refused, field_number, read_field, last_got, times}
use Rattle.plan_format.specs.Grammar.{count_check, read_by, ended, numbers, spell_field, spell_by}
use Rattle.plan_format.specs.Form.{first_form, queue_count, semaphore_count, buffer_count, any_number, below, at_least}
use Rattle.plan_format.specs.Form.{new_axis, a_queue, a_semaphore, a_buffer, a_kind, point, mark}
use Rattle.plan_format.specs.Form.{operation as FormOperation}
use Rattle.plan_format.specs.Form.{plan_grammar, scanned_by, second_form, list_form, form_by, is_second}
use Rattle.plan_format.specs.Plan.{count, op, queues, points_in, marks_in, heading, operation_in, operation_long}
use Rattle.plan_format.specs.Plan.{operations_in, plan_of}
use Rattle.plan_format.specs.Sound.{highest_in, highest, signals_number, signals_refusal, too_high, any_too_high}
use Rattle.plan_format.specs.Sound.{waits_refusal, rules_refusal}
use Rattle.plan_format.specs.Stored.{scanned, listed, spelled, plan_in, plan_refusal, room_for}
use Rattle.plan_order.specs.Precedence.{signals_of, signals_from, plan_signals, reaches, nearer, nearest, resolution_of}
use Rattle.plan_order.specs.Precedence.{resolve, rests_on, any_rests_on, same_queue, direct, all_before, before}
use Rattle.plan_order.specs.Rows.{column, row, rows}
use Rattle.plan_order.specs.Runs.{reached, rested, wait_met, earlier_run, enabled, ready, ready_on, next, standard}
use Rattle.plan_order.specs.Runs.{number_ready, ready_numbers, missing}
use Rattle.plan_order.specs.Holdings.{placed, marks_of, marks_from, buffer_marks, is_free, freed_by, free_after}
use Rattle.plan_order.specs.Holdings.{use_asks, later_asks, asks_from, asks, asked_of, met, all_asks, has_broken}
use Rattle.plan_order.specs.Holdings.{broken}
use Rattle.plan_order.specs.Handovers.{last_signaller, handover, handovers_from, handovers, out_of_turn, disordered}
use Rattle.plan_order.specs.Check.{room_refusal, refused_at, order_refusal, outcome, or_then, check_outcome}
use Rattle.frontier_slots.specs.Entries.{rising_from, find, put, union, exceeds, exceeding, cut}
use Rattle.frontier_slots.specs.Slots.{slot, slots, row_formed, slots_formed}
use Rattle.frontier.specs.Frontiers.{entries, pack, joined}
use Rattle.frontier.specs.Frontiers.{merge_number, merge, met as entry_met, reached as all_reached}
use Rattle.frontier.specs.Frontiers.{answer as dominance_answer, dominance_number, dominance}
use Rattle.plan_small.specs.Cases.{section, at, use_of, free_of, operation, plan, wide, checked, judge, asked}
use Rattle.plan_small.specs.Cases.{case, t1, t2, first_17, t3_stored, t3, t4, t5, t6, signals_to, t7, t8_stored}
use Rattle.plan_small.specs.Cases.{t8, t9, t10, t11, entry, t12, t13, greatest_signal, cases, at_wide}
use Rattle.plan_small.specs.Cases.{second_head, second_plan, write_answer, second_plans, second_refused}
use Rattle.plan_small.specs.Cases.{other_leads, second_positions, with_semaphores, written_forms, lone}
use Rattle.plan_small.specs.Cases.{waits_for_0, least_values}
use Rattle.plan_small.specs.Cases.{written_for_0}

-- R79: T3 takes 96 bytes
pub t3_length : length t3_stored ≡ 96
unfolding t3_stored section at use_of free_of operation plan digits flatten
t3_length = refl

pub judged : map (λ c. judge c.question) cases ≡ map (λ c. c.answer) cases
unfolding flatten or_else checked asked entry t12 t13 section at use_of free_of operation plan wide judge case t1 t2
    first_17 t3_stored t3 t4 t5 t6 signals_to t7 t8_stored t8 t9 t10 t11 greatest_signal cases member filter all tally
    all_below first_from when_true is_some tabulate_from join_from can with_next greedy any_of fresh round rounds
    predecessors refusal none_given given or_refusal value digits bytes scan refused field_number read_field last_got
    times
    count_check read_by ended first_form queue_count semaphore_count buffer_count any_number below at_least new_axis
    a_queue a_semaphore a_buffer a_kind point mark FormOperation plan_grammar scanned_by count op queues points_in
    marks_in heading operation_in operation_long operations_in plan_of highest_in highest signals_number signals_refusal
    too_high any_too_high waits_refusal rules_refusal scanned plan_in plan_refusal room_for signals_of signals_from
    plan_signals reaches nearer nearest resolution_of resolve rests_on any_rests_on same_queue direct all_before before
    column row rows reached rested wait_met earlier_run enabled ready ready_on next standard number_ready ready_numbers
    missing placed marks_of marks_from buffer_marks is_free freed_by free_after use_asks later_asks asks_from asks
    asked_of met all_asks has_broken broken last_signaller handover handovers_from handovers out_of_turn disordered
    room_refusal refused_at order_refusal outcome or_then check_outcome rising_from find put union exceeds exceeding cut
    slot slots entries row_formed slots_formed pack joined merge_number merge entry_met all_reached
    dominance_answer dominance_number dominance at_wide second_head second_plan write_answer second_plans second_refused
    other_leads second_positions with_semaphores written_forms numbers spell_field spell_by second_form list_form
    form_by is_second listed spelled lone waits_for_0 least_values written_for_0
judged = refl
