-- `by_signals` hands back the wait for the signal that was found, or refuses with 19. Assumes nothing.
use mathlib.Core.Path.{◌∙◌}
use Rattle.ask_suggest.proofs.SuggestTurns.{without_signal, one_signal}
use Rattle.ask_suggest.proofs.by_signals.Goals as goal

pub returns-in_default : goal.returns-in_default
returns-in_default c = without_signal _ _ _ _ (rw c.in_default.is at c.freeing.ensures) c.refused.ensures

pub returns : goal.returns
returns c =
    one_signal _ _ _ _ (rw c.in-Some.is at c.freeing.ensures) (c.from-semaphore.ensures ∙ c.get_or.ensures)
    c.get_or-2.ensures c.advised.ensures
