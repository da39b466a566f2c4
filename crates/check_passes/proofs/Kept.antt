-- What stays of the column of the waits. Assumes nothing.
use mathlib.Core.Path.{ap}
use mathlib.Core.List.{List}
use Prim.Native.Nat.{ℕ, ◌*◌}
use lib.ListN.{length, get_or}
use Rattle.base_lists.proofs.Tests.{by_cases}
use Rattle.plan_format.specs.Sizes.{most_waits}
use Rattle.plan_format.specs.Refusal.{given}
use Rattle.plan_order.specs.Meaning.{PastKept}
use Rattle.check_signals.specs.Walks.{signals_found}
use Rattle.check_passes.specs.Answering.{zeros, SourcesBy}

-- the resolution leaves what is past the places of n operations
pub sources_kept : {n semaphores signals : ℕ} {wsem wval ssem sval sop source : List ℕ} →
    SourcesBy n semaphores signals wsem wval ssem sval sop source → PastKept (most_waits * n) wsem source
sources_kept {n} {semaphores} {signals} {wsem} {ssem = ssem} {sval = sval} {sop = sop} s =
    by_cases (given (signals_found semaphores signals ssem sval sop (zeros semaphores)))
    (λ g. let same = s.refused g in record {
      long = λ _. ap (λ (l : List ℕ). length l) same;
      past = λ i h. ap (λ (l : List ℕ). get_or l i 0) same;
    })
    (λ f. let r = s.resolved f in record { long = λ _. r.long; past = r.past })
