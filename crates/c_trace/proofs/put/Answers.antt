-- `put` stores the numbers found. Assumes nothing.
use Rattle.plan_trace.specs.Numbers.{found_numbers}
use Rattle.c_trace.proofs.put.Goals as goal

pub returns : goal.returns
unfolding found_numbers
returns c = cc
