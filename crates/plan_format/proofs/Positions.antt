-- What the limits of a plan say by positions: of each owner and of each operation. Assumes nothing.
use mathlib.Core.List.{List, [], ◌∷◌}
use Prim.Native.Nat.{ℕ, zero, suc, ◌≤◌, ◌<◌}
use native.Mathlib.Nat.{not-suc-le-zero, le_of_suc-le-suc}
use native.Mathlib.Omega.{arith}
use lib.ListN.{length, get_or}
use Rattle.plan_format.specs.Sizes.{most_waits, most_signals, most_marks}
use Rattle.plan_format.specs.Plan.{Plan, empty_operation, count, op, queues}
use Rattle.plan_format.specs.Limits.{Each, Fits, OperationWithin, PlanWithin}
use Rattle.plan_format.specs.Sound.{InRange, WaitsAboveZero}
use Rattle.plan_format.proofs.RulesFirst.{wait_inside}

each_at : {A : Type 0} (W : A → Type 0) (d : A) (xs : List A) → Each W xs → (i : ℕ) → i < length xs → W (get_or xs i d)
each_at W d [] e i l = absurd (not-suc-le-zero l)
each_at W d (x ∷ xs) e zero l = e.0
each_at W d (x ∷ xs) e (suc i) l = each_at W d xs e.1 i (le_of_suc-le-suc l)

module _ {fits : Fits} {p : Plan} (w : PlanWithin fits p) where
  pub owners_in : (s : ℕ) → s < length p.owners → get_or p.owners s 0 < queues p
  unfolding queues
  owners_in s l = each_at (λ q. q < length p.axes) 0 p.owners w.owners s l

  module _ (i : ℕ) (l : i < count p) where
    operation_in : OperationWithin fits (length p.axes) (length p.owners) (length p.sizes) (op p i)
    unfolding op count
    operation_in =
        each_at (OperationWithin fits (length p.axes) (length p.owners) (length p.sizes)) empty_operation
        p.operations w.operations i l

    pub in_range : InRange p (op p i)
    unfolding queues
    in_range = let o = operation_in in record {
      queue = o.queue;
      waits = λ k h. (each_at _ (record { semaphore = 0; value = 0 }) (op p i).waits o.waits k h).semaphore;
      signals = λ k h. (each_at _ (record { semaphore = 0; value = 0 }) (op p i).signals o.signals k h).semaphore;
      marks = λ k h. (each_at _ (record { buffer = 0; kind = 0 }) (op p i).marks o.marks k h).buffer;
      kinds = λ k h. omega (arith, (each_at _ (record { buffer = 0; kind = 0 }) (op p i).marks o.marks k h).kind);
    }

    above_zero : (k : ℕ) → k < length (op p i).waits →
        0 < (get_or (op p i).waits k (record { semaphore = 0; value = 0 })).value
    above_zero k h = omega (
      arith,
      (each_at _ (record { semaphore = 0; value = 0 }) (op p i).waits operation_in.waits k h).not_below,
    )

    pub few_waits : length (op p i).waits ≤ most_waits
    few_waits = operation_in.few_waits

    pub few_signals : length (op p i).signals ≤ most_signals
    few_signals = operation_in.few_signals

    pub few_marks : length (op p i).marks ≤ most_marks
    few_marks = operation_in.few_marks

  pub limits_above_zero : WaitsAboveZero p
  limits_above_zero i k h = above_zero i (wait_inside p i k h) k h
