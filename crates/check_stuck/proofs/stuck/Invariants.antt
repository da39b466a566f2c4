-- `check_stuck::stuck` gives the first operation whose own cell is zero: no operation passed has one. Assumes nothing.
use mathlib.Core.Path.{◌≡◌}
use Prim.Native.Nat.{ℕ, ◌+◌, ◌*◌, ◌%◌, ◌≤◌, ◌<◌}
use lib.ListN.{get_or}
use Rattle.check_stuck.proofs.stuck.Given as goal

abbrev pub invariant-loop-i : goal.invariant-loop-i
invariant-loop-i l =
    (l.i ≤ l.n) × ((k : ℕ) → k < l.i → get_or l.rows (16 * k + get_or l.queue k 0 % 16) 0 ≡ 0 → ⊥)
