-- `decide::judge` meets its contract: an operation that did not run, a signal out of turn, a broken mark, or none of
-- these. Assumes nothing.
use mathlib.Core.Path.{◌≡◌, ◌∙◌}
use Prim.Native.Nat.{ℕ, ◌≤◌}
use native.Mathlib.Nat.{le_refl}
use Rattle.std.specs.Prelude.{Option, None, unwrap_or}
use Rattle.check_passes.proofs.Orders.{stuck_told, handovers_given, disordered_told, marks_given, broken_told}
use Rattle.check_passes.proofs.Orders.{passed_told}
use Rattle.check_passes.proofs.AnyColumns.{order_stuck, order_disordered, order_broken, order_passed}
use Rattle.check_passes.proofs.decide.judge.Goals.{In_default, in_default-via-in-None-1}
use Rattle.check_passes.proofs.decide.judge.Goals.{in_default-via-in-Some+else-unturned-many, In_default-2}
use Rattle.check_passes.proofs.decide.judge.Goals.{in_default-2-via-in-None-1}
use Rattle.check_passes.proofs.decide.judge.Goals.{in_default-2-via-in-Some-broken+else-i-many}
use Rattle.check_passes.proofs.decide.judge.Goals as goal

pub returns-then-ran-many : goal.returns-then-ran-many
returns-then-ran-many c =
    let short = rw c.from-many.ensures at c.if-ran-many.true in
    let i_is = rw c.from-many.ensures at c.unwrap_or-i.ensures in
    rw c.at.ensures (record {
      told = order_stuck _ _ _ _ short (i_is ∙ c.stuck.ensures.found);
      of_plans = λ p given. stuck_told given short
          (i_is ∙ c.stuck.ensures.of_plans p given.sound given.many given.shown.queues_shown given.filled);
    })

pub returns : goal.returns
returns c =
    let all = rw c.from-many.ensures at c.if-ran-many.false in
    let low = rw c.from-many.ensures at c.if-unturned-many.true in
    rw c.at-2.ensures (record {
      told = order_disordered _ _ _ _ all c.in-Some.ensures.found low;
      of_plans = λ p given. disordered_told given all (c.in-Some.ensures.of_plans p (handovers_given given all)) low;
    })

-- none, or an operation that is not below n
turned : (c : In_default) → c.args.order.now.n ≤ unwrap_or c.disordered.result c.args.order.now.n
turned c = elim c.in_default.branch [
  | in_default-via-in-None-1 none ↦
      let e : ◌≡◌ {A = Option ℕ} c.disordered.result None = cc in rw e (le_refl c.args.order.now.n)
  | in_default-via-in-Some+else-unturned-many w ↦ rw w.in-Some.is (rw c.from-many.ensures at w.if-unturned-many.false)
]

unbroken : (c : In_default-2) → c.args.order.now.n ≤ unwrap_or c.broken.result c.args.order.now.n
unbroken c = elim c.in_default-2.branch [
  | in_default-2-via-in-None-1 none ↦
      let e : ◌≡◌ {A = Option ℕ} c.broken.result None = cc in rw e (le_refl c.args.order.now.n)
  | in_default-2-via-in-Some-broken+else-i-many w ↦
      rw w.in-Some-broken.is (rw c.from-many.ensures at w.if-i-many.false)
]

pub returns-2 : goal.returns-2
returns-2 c =
    let all = rw c.from-many.ensures at c.if-ran-many.false in
    let in_turn = turned (goal.at.returns-2 c).In_default in
    let low = rw c.from-many.ensures at c.if-i-many.true in
    rw c.at-3.ensures (record {
      told = order_broken _ _ _ _ all c.disordered.ensures.found in_turn c.in-Some-broken.ensures.found low;
      of_plans = λ p given. broken_told given all (c.disordered.ensures.of_plans p (handovers_given given all))
          in_turn low
          (c.in-Some-broken.ensures.of_plans p (marks_given given all));
    })

pub returns-3 : goal.returns-3
returns-3 c =
    let all = rw c.from-many.ensures at c.if-ran-many.false in
    let in_turn = turned (goal.at.returns-3 c).In_default in
    let kept = unbroken (goal.at.returns-3 c).In_default-2 in
    record {
      told = order_passed _ _ _ _ all c.disordered.ensures.found in_turn c.broken.ensures.found kept;
      of_plans = λ p given. passed_told given all (c.disordered.ensures.of_plans p (handovers_given given all))
          in_turn kept
          (c.broken.ensures.of_plans p (marks_given given all));
    }
