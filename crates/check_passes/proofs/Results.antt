-- A result and the number that it tells. Assumes nothing.
use mathlib.Core.Path.{◌≡◌, refl}
use mathlib.Core.Bool.{true, false}
use native.Mathlib.Omega.{arith}
use Rattle.std.specs.Prelude.{Result, Ok, Err, is_ok, ⊤}
use Rattle.plan_format.specs.Told.{Refused, number_of, told_as}
use Rattle.plan_format.specs.declared.Told.{Told}
use Rattle.plan_format.specs.declared.refusal.Reason.{Reason}
use Rattle.plan_format.specs.declared.refusal.Reason.TheVariants.{CutShort, CountOverLimit, BytesFollow, NotInList}
use Rattle.plan_format.specs.declared.refusal.Reason.TheVariants.{AxisTwice, SignalNotHigher, WaitTooHigh, RoomTooShort}
use Rattle.plan_format.specs.declared.refusal.Reason.TheVariants.{Stuck, BrokenMark, NoSuchQueue, NoSuchBuffer}
use Rattle.plan_format.specs.declared.refusal.Reason.TheVariants.{BadFrontier, BadCapacity, WaitForZero, OutOfTurn}
use Rattle.plan_format.specs.declared.refusal.Reason.TheVariants.{NoSignalFrees, NoSuchOperation, BadTrace}

-- no reason has the number 0
pub reason_given : (r : Reason) → number_of r ≡ 0 → ⊥
reason_given CutShort e = omega (arith, e)
reason_given CountOverLimit e = omega (arith, e)
reason_given BytesFollow e = omega (arith, e)
reason_given NotInList e = omega (arith, e)
reason_given AxisTwice e = omega (arith, e)
reason_given SignalNotHigher e = omega (arith, e)
reason_given WaitTooHigh e = omega (arith, e)
reason_given RoomTooShort e = omega (arith, e)
reason_given Stuck e = omega (arith, e)
reason_given BrokenMark e = omega (arith, e)
reason_given NoSuchQueue e = omega (arith, e)
reason_given NoSuchBuffer e = omega (arith, e)
reason_given BadFrontier e = omega (arith, e)
reason_given BadCapacity e = omega (arith, e)
reason_given WaitForZero e = omega (arith, e)
reason_given OutOfTurn e = omega (arith, e)
reason_given NoSignalFrees e = omega (arith, e)
reason_given NoSuchOperation e = omega (arith, e)
reason_given BadTrace e = omega (arith, e)

-- a result without an answer
abbrev pub told_of : Result ⊤ Refused → Told
told_of r = told_as (λ _. 0) r

pub passed_by : (r : Result ⊤ Refused) → (told_of r).number ≡ 0 → is_ok r ≡ true
passed_by (Ok x) e = refl
passed_by (Err f) e = absurd (reason_given f.reason e)

pub refused_as : (r : Result ⊤ Refused) → ((told_of r).number ≡ 0 → ⊥) → is_ok r ≡ false
refused_as (Ok x) z = absurd (z refl)
refused_as (Err f) z = refl
