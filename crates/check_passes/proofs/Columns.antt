-- What the passes are given: the columns of a plan within the limits, then ruled and resolved. Assumes nothing.
use mathlib.Core.Path.{◌≡◌, refl, sym, ap, ◌∙◌, subst}
use mathlib.Core.Bool.{Bool, true, false, cond}
use mathlib.Core.List.{List}
use Prim.Native.Nat.{ℕ, ◌≤◌, ◌<◌}
use native.Mathlib.Omega.{arith}
use lib.Dec.{leb, eqb}
use lib.ListN.{length, replicate, length-replicate}
use borrow.Author.Tests.{le-leb, leb-true, lt-leb}
use Rattle.base_lists.proofs.Tests.{by_cases}
use Rattle.plan_format.specs.Sizes.{most_operations, most_semaphores, first_semaphores}
use Rattle.plan_format.specs.Refusal.{Refusal}
use Rattle.plan_format.specs.Stored.{Tells}
use Rattle.plan_format.specs.Plan.{Plan}
use Rattle.plan_format.specs.Sound.{Sound}
use Rattle.plan_format.specs.declared.Told.{Told}
use Rattle.plan_format.proofs.Plans.{limits_sound}
use Rattle.plan_format.proofs.Positions.{in_range, few_waits, limits_above_zero}
use Rattle.plan_order.specs.Runs.{standard}
use Rattle.check_columns.specs.Columns.{Columns}
use Rattle.check_columns.proofs.Limits.{few_operations}
use Rattle.check_signals.specs.Walks.{SignalsGiven, Judged}
use Rattle.check_signals.proofs.Told.{answer_told}
use Rattle.check_waits.specs.Waits.{WaitsGiven}
use Rattle.check_run.specs.Run.{RunGiven, RowsOf}
use Rattle.check_passes.specs.Answering.{zeros, OrderColumns, order_columns}
use Rattle.check_passes.specs.Given.{CheckGiven, RulesGiven, Ruled, OrderGiven, JudgeGiven}

-- ---- 7 and 8
-- places for last values: those that are made have room for each semaphore
pub zeros_few : (semaphores : ℕ) → semaphores ≤ first_semaphores → replicate first_semaphores 0 ≡ zeros semaphores
unfolding zeros
zeros_few semaphores few = rw (le-leb semaphores first_semaphores few)

pub zeros_many : (semaphores : ℕ) → first_semaphores < semaphores → replicate most_semaphores 0 ≡ zeros semaphores
unfolding zeros
zeros_many semaphores many = rw (lt-leb semaphores first_semaphores many)

zeros_long : (semaphores : ℕ) {owners : ℕ} → owners ≡ semaphores → owners ≤ most_semaphores →
    owners ≤ length (zeros semaphores)
unfolding zeros
zeros_long semaphores e few = by_cases (leb semaphores first_semaphores)
    (λ t. rw t (omega (arith, leb-true semaphores first_semaphores t, length-replicate {A = ℕ} first_semaphores 0)))
    (λ f. rw f (omega (arith, length-replicate {A = ℕ} most_semaphores 0)))

module _ {p : Plan} {n semaphores signals : ℕ} {owner queue wsem wval ssem sval sop : List ℕ}
    (g : RulesGiven p n semaphores signals owner queue wsem wval ssem sval sop) where
  pub signals_given : SignalsGiven p semaphores signals owner queue ssem sval sop (zeros semaphores)
  signals_given = record {
    own_semaphores = g.own_semaphores;
    room = zeros_long semaphores g.own_semaphores g.limits.few_semaphores;
    in_range = in_range g.limits;
    owners_shown = g.owners_shown;
    queues_shown = g.queues_shown;
    signals_shown = g.signals_shown;
  }

  pub waits_given : {r : Told} {last : List ℕ} → Judged p r last → r.number ≡ 0 →
      WaitsGiven p n semaphores signals ssem sval sop wsem wval last
  waits_given j z = record {
    operations = g.many;
    few = subst (λ (k : ℕ). k ≤ most_operations) g.many (few_operations g.limits);
    own_semaphores = g.own_semaphores;
    few_semaphores = subst (λ (k : ℕ). k ≤ most_semaphores) g.own_semaphores g.limits.few_semaphores;
    in_range = in_range g.limits;
    above_zero = limits_above_zero g.limits;
    rules = sym j.told.number ∙ z;
    signals_shown = g.signals_shown;
    waits_shown = g.waits_shown;
    highest_shown = j.highest_shown z;
  }

-- ---- the whole check
-- yes or no, told as 1 or 0
is_one : (b : Bool) → eqb (cond b 1 0) 1 ≡ b
is_one true = refl
is_one false = refl

pub owned_told : {f : Refusal} {b owned : Bool} →
    Tells f (cond b 1 0) (record { number = 0; place = 0; answer = cond owned 1 0 }) → owned ≡ b
owned_told {b = b} {owned} h =
    sym (is_one owned) ∙ ap (λ (k : ℕ). eqb k 1) (answer_told h refl) ∙ is_one b

module _ {p : Plan} {n semaphores signals marks : ℕ} {owner : List ℕ} {cs : Columns}
    (g : CheckGiven p n semaphores signals marks owner cs) where
  pub rules_given : RulesGiven p n semaphores signals owner cs.queue cs.wait_semaphore cs.wait_value
      cs.signal_semaphore cs.signal_value cs.signal_operation
  rules_given = record {
    limits = g.limits;
    many = g.many;
    own_semaphores = g.own_semaphores;
    owners_shown = g.owners_shown;
    queues_shown = g.shown.queues_shown;
    waits_shown = g.shown.waits_shown;
    signals_shown = g.shown.signals_shown;
  }

  pub order_given : {owned : Bool} {source : List ℕ} →
      Ruled p (record { number = 0; place = 0; answer = cond owned 1 0 }) source →
      OrderGiven p n source (order_columns semaphores signals marks owned cs.queue
      cs.signal_semaphore cs.signal_operation cs.mark cs.mark_operation)
  order_given {owned} ruled = record {
    limits = g.limits;
    rules = sym ruled.told.number;
    many = g.many;
    sources_shown = ruled.sources_shown refl;
    shown = record {
      own_semaphores = g.own_semaphores;
      only_owners = λ e. ruled.owned_means.0 (sym (owned_told ruled.told) ∙ e);
      queues_shown = g.shown.queues_shown;
      values = cs.signal_value;
      signals_shown = g.shown.signals_shown;
      marks_shown = g.shown.marks_shown;
    };
  }

-- ---- the order
module _ {p : Plan} {n : ℕ} {source : List ℕ} {cs : OrderColumns} (g : OrderGiven p n source cs) where
  pub order_sound : Sound p
  order_sound = limits_sound p g.limits g.rules

  pub order_few : n ≤ most_operations
  order_few = subst (λ (k : ℕ). k ≤ most_operations) g.many (few_operations g.limits)

  pub run_given : RunGiven p n cs.queue source
  run_given = record {
    sound = order_sound;
    many = g.many;
    few_waits = few_waits g.limits;
    queues = g.shown.queues_shown;
    sources = g.sources_shown;
  }

  pub judge_given : (ran : ℕ) (rows : List ℕ) → ran ≡ length (standard p) → RowsOf p (standard p) rows →
      JudgeGiven p n ran cs rows
  judge_given ran rows long filled = record {
    sound = order_sound;
    many = g.many;
    few_semaphores = g.limits.few_semaphores;
    few_buffers = g.limits.few_buffers;
    shown = g.shown;
    long = long;
    filled = filled;
  }
