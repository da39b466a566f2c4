-- `check_signals::judge` walks the signals: the invariant is what is left of the walk, and of the look at owners.
-- Assumes nothing.
use mathlib.Core.Path.{refl, sym, ap, ◌∙◌}
use mathlib.Core.Bool.{Bool, cond}
use Prim.Native.Nat.{ℕ}
use native.Mathlib.Omega.{arith}
use lib.ListN.{length, length-set}
use Rattle.plan_format.specs.Refusal.{refusal, none_given}
use Rattle.plan_format.proofs.Telling.{tells}
use Rattle.check_signals.specs.Walks.{held_in}
use Rattle.check_signals.proofs.Told.{refused_alike, passed_with}
use Rattle.check_signals.proofs.Loops.{stops_found, signals_none, signals_seven}
use Rattle.check_signals.proofs.Loops.{signals_more, signals_end}
use Rattle.check_signals.proofs.Owners.{owned_none, owned_is, owned_more, owned_end, owned_cut}
use Rattle.check_signals.proofs.Shows.{judged}
use Rattle.check_signals.proofs.judge.Goals as goal

pub loop-k-init : goal.loop-k-init
unfolding held_in
loop-k-init c = (
  refl,
  signals_none,
  omega (arith, c.held-many.ensures),
  omega (arith, c.held-many.ensures),
  omega (arith, c.held-many.ensures),
  owned_none,
)

pub returns-then-value-get_or : goal.returns-then-value-get_or
returns-then-value-get_or c =
    let e = stops_found c.clear.ensures c.held-many.ensures
    (signals_seven c.loop-k.invariant.1 c.loop-k-test.true c.from-s.ensures refl
    c.get_or.ensures c.if-value-get_or.true c.from-i.ensures) in
    let t = refused_alike (tells (sym e.found)) (λ z. omega (arith, z)) in
    rw c.at.ensures (record {
      told = t;
      lasts = e.table;
      of_plans = λ p shown. judged shown t e.table;
    })

pub loop-k-preserved : goal.loop-k-preserved
loop-k-preserved c = (
  ap length c.put.ensures ∙ simp length-set c.loop-k.invariant.0,
  signals_more c.loop-k.invariant.1 c.loop-k-test.true c.from-s.ensures refl
      c.get_or.ensures c.if-value-get_or.false c.put.ensures,
  c.loop-k.invariant.2,
  c.loop-k.invariant.3,
  c.loop-k.invariant.4,
  owned_more c.loop-k.invariant.5 c.loop-k-test.true
      (owned_is _ _ _ _ _ _ _ c.from-s.ensures c.from-i.ensures
      c.owned-own.ensures)
      c.both-all.ensures,
)

pub returns : goal.returns
unfolding none_given refusal
returns c =
    let e = stops_found c.clear.ensures c.held-many.ensures
    (signals_end c.loop-k.invariant.1 c.loop-k-test.false) in
    let all = owned_cut _ _ _ _ _ _ _ c.held-many.ensures (owned_end c.loop-k-test.false c.loop-k.invariant.5) in
    let t = passed_with (tells (sym e.found)) refl
    (ap (λ (b : Bool). cond {A = ℕ} b 1 0) all) in
    (record {
      told = t;
      lasts = e.table;
      of_plans = λ p shown. judged shown t e.table;
    })
