-- `steps::all` ends with the standard run. The invariant: after i steps the pass is at a run of i operations, for
-- every plan that the columns show. Assumes nothing.
use mathlib.Core.Path.{◌≡◌, refl}
use native.Mathlib.Omega.{arith}
use Rattle.check_run.proofs.Ends.{tables_are, started, ended_early, ended_full}
use Rattle.check_run.proofs.Bounds.{bounds_none}
use Rattle.check_run.proofs.steps.all.Goals as goal

pub loop-i-init : goal.loop-i-init
loop-i-init c = (
  omega arith,
  refl,
  λ queue prepared. bounds_none queue _ _ _ _ _ _ _ _ _ prepared,
  λ p queue shown cleared room prepared. started p _ queue _ _ _ _ _ _ _ _ _ shown cleared prepared refl,
)

pub returns-then-word-eq0 : goal.returns-then-word-eq0
returns-then-word-eq0 c =
    record {
      bounds = λ queue prepared. (c.loop-i.invariant.2 queue prepared).bounded;
      of_plans = λ p queue shown cleared room prepared.
          ended_early p _ queue _ shown _ _ _ _ _ _ _ _ _ room
          (c.loop-i.invariant.3 p queue shown cleared room prepared)
          c.if-word-eq0.true;
    }

pub loop-i-preserved : goal.loop-i-preserved
loop-i-preserved c = (
  omega (arith, c.loop-i-test.true),
  omega (arith, c.turn-word.auto.list, c.loop-i.invariant.1),
  λ queue prepared.
      c.turn-word.ensures.bounds queue _ _ (tables_are queue _ _ _ _ prepared.chained refl)
      (c.loop-i.invariant.2 queue prepared),
  λ p queue shown cleared room prepared.
      c.turn-word.ensures.of_plans p queue _ shown (tables_are queue _ _ _ _ prepared.chained refl) room
      (c.loop-i.invariant.3 p queue shown cleared room prepared),
)

pub returns : goal.returns
returns c =
    let e : c.loop-i.i ≡ c.args.n = omega (arith, c.loop-i.auto.i-end, c.loop-i-test.false) in
    let at_end = rw e at c.loop-i.invariant in
    record {
      bounds = λ queue prepared. (at_end.2 queue prepared).bounded;
      of_plans = λ p queue shown cleared room prepared.
          ended_full p _ queue _ shown _ _ _ _ _ _ _ _ _ room (at_end.3 p queue shown cleared room prepared) refl;
    }
