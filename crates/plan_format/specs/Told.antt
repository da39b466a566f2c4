-- What a call tells, by its result. Assumes nothing: these are definitions.
use Rattle.std.specs.Prelude.{ℕ, Result, Ok, Err}
use Rattle.plan_format.specs.declared.refusal.Reason.{Reason}
use Rattle.plan_format.specs.declared.refusal.Reason.TheVariants.{CutShort, CountOverLimit, BytesFollow, NotInList}
use Rattle.plan_format.specs.declared.refusal.Reason.TheVariants.{AxisTwice, SignalNotHigher, WaitTooHigh, RoomTooShort}
use Rattle.plan_format.specs.declared.refusal.Reason.TheVariants.{Stuck, BrokenMark, NoSuchQueue, NoSuchBuffer}
use Rattle.plan_format.specs.declared.refusal.Reason.TheVariants.{BadFrontier, BadCapacity, WaitForZero, OutOfTurn}
use Rattle.plan_format.specs.declared.refusal.Reason.TheVariants.{NoSignalFrees, NoSuchOperation, BadTrace}
use Rattle.plan_format.specs.declared.refusal.Refusal as refusal
use Rattle.plan_format.specs.declared.Told.{Told}

-- R37 to R52: the number of each reason
abbrev pub number_of : Reason → ℕ
number_of CutShort = 1
number_of CountOverLimit = 2
number_of BytesFollow = 3
number_of NotInList = 4
number_of AxisTwice = 5
number_of SignalNotHigher = 7
number_of WaitTooHigh = 8
number_of RoomTooShort = 9
number_of Stuck = 10
number_of BrokenMark = 11
number_of NoSuchQueue = 12
number_of NoSuchBuffer = 13
number_of BadFrontier = 14
number_of BadCapacity = 15
number_of WaitForZero = 16
number_of OutOfTurn = 17
number_of NoSignalFrees = 19
number_of NoSuchOperation = 21
number_of BadTrace = 22

-- a refusal as the library hands it back
abbrev pub Refused : Type 0
Refused = refusal.Refusal

abbrev pub refused_by : Reason → (place : ℕ) → Refused
refused_by r p = record { reason = r; place = p }

-- R13, R37: the number and the place of a refusal, or 0 and 0 with what is made of the answer
abbrev pub told_as : {A : Type 0} → (A → ℕ) → Result A Refused → Told
told_as f (Ok x) = record { number = 0; place = 0; answer = f x }
told_as f (Err e) = record { number = number_of e.reason; place = e.place; answer = 0 }

abbrev pub told_by : Result ℕ Refused → Told
told_by r = told_as (λ x. x) r
