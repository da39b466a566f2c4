-- `tell` goes from the first signal on: the state from here is the whole. Assumes nothing.
use Rattle.ask_trace.specs.Raising.{raised_from}
use Rattle.ask_trace.proofs.Raising.{Raising}
use Rattle.ask_trace.proofs.state.tell.Given as goal

abbrev pub invariant-loop-k : goal.invariant-loop-k
invariant-loop-k l = Raising l.columns.queue l.table l.counts l.columns.signal_semaphore l.columns.signal_value
    l.columns.signal_operation l.signals
    (raised_from l.columns.queue l.table l.counts l.columns.signal_semaphore l.columns.signal_value
    l.columns.signal_operation l.signals 0 l.initial.state) l.k l.state
