-- Why a reading stopped has a number that isn't 0: a reason, and a number above 0. Assumes nothing.
use Rattle.std.specs.Prelude.{◌≡◌, ℕ, ◌<◌}
use native.Mathlib.Omega.{arith}
use Rattle.plan_format.specs.declared.refusal.Reason.{Reason}
use Rattle.plan_format.specs.declared.refusal.Reason.TheVariants.{CutShort, CountOverLimit, BytesFollow, NotInList}
use Rattle.plan_format.specs.declared.refusal.Reason.TheVariants.{AxisTwice, SignalNotHigher, WaitTooHigh, RoomTooShort}
use Rattle.plan_format.specs.declared.refusal.Reason.TheVariants.{Stuck, BrokenMark, NoSuchQueue, NoSuchBuffer}
use Rattle.plan_format.specs.declared.refusal.Reason.TheVariants.{BadFrontier, BadCapacity, WaitForZero, OutOfTurn}
use Rattle.plan_format.specs.declared.refusal.Reason.TheVariants.{NoSignalFrees, NoSuchOperation, BadTrace}
use Rattle.plan_format.specs.Told.{number_of}

-- every reason has a number
pub reason_given : (e : Reason) → number_of e ≡ 0 → ⊥
reason_given CutShort z = omega arith
reason_given CountOverLimit z = omega arith
reason_given BytesFollow z = omega arith
reason_given NotInList z = omega arith
reason_given AxisTwice z = omega arith
reason_given SignalNotHigher z = omega arith
reason_given WaitTooHigh z = omega arith
reason_given RoomTooShort z = omega arith
reason_given Stuck z = omega arith
reason_given BrokenMark z = omega arith
reason_given NoSuchQueue z = omega arith
reason_given NoSuchBuffer z = omega arith
reason_given BadFrontier z = omega arith
reason_given BadCapacity z = omega arith
reason_given WaitForZero z = omega arith
reason_given OutOfTurn z = omega arith
reason_given NoSignalFrees z = omega arith
reason_given NoSuchOperation z = omega arith
reason_given BadTrace z = omega arith

-- and so has any number above 0
pub above_0_given : (n : ℕ) → 0 < n → n ≡ 0 → ⊥
above_0_given n above z = omega (arith, above, z)
