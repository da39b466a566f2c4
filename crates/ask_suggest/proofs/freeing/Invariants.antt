-- `freeing` goes over the signals: none of those before is of the free's operation or of one after it. Assumes nothing.
use Rattle.ask_suggest.proofs.SuggestTurns.{Past}
use Rattle.ask_suggest.proofs.freeing.Given as goal

abbrev pub invariant-loop-k : goal.invariant-loop-k
invariant-loop-k l = Past l.columns.queue l.table l.columns.signal_operation l.i l.q l.own l.k
