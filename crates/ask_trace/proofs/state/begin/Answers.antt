-- `begin` stores the counts, then zeros. Assumes nothing.
use mathlib.Core.Path.{refl}
use Rattle.ask_trace.proofs.state.begin.Goals as goal

pub returns : goal.returns
returns c = rw (c.copy_from_slice.ensures.after, c.clear.ensures, c.split_at_mut-queues.ensures.back) refl
