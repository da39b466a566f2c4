-- `check_handover::disordered` meets its contract: none where only owners signal, else the walk, with places for the
-- plan's semaphores. Assumes nothing.
use Rattle.check_handover.proofs.Found.{plans_by, below_by, owners_is, walk_few, walk_many}
use Rattle.check_handover.proofs.disordered.Goals as goal

pub returns-then-owned-clause-exact : goal.returns-then-owned-clause-exact
returns-then-owned-clause-exact c = λ m. owners_is _ _ _ _ m _ _ _ c.if-owned.true

pub returns-then-owned-clause-of_plans : goal.returns-then-owned-clause-of_plans
returns-then-owned-clause-of_plans c = λ p given. plans_by (owners_is _ _ _ _ _ _ _ _ c.if-owned.true) given

pub returns-then-semaphores-le-FIRST_SEMAPHORES-clause-exact :
    goal.returns-then-semaphores-le-FIRST_SEMAPHORES-clause-exact
returns-then-semaphores-le-FIRST_SEMAPHORES-clause-exact c =
    λ m. walk_few _ _ _ _ m _ _ _ c.if-owned.false c.if-semaphores-le-FIRST_SEMAPHORES.true (c.walk.ensures m)

pub returns-then-semaphores-le-FIRST_SEMAPHORES-clause-below :
    goal.returns-then-semaphores-le-FIRST_SEMAPHORES-clause-below
returns-then-semaphores-le-FIRST_SEMAPHORES-clause-below c =
    λ p given. below_by _ (λ m. walk_few _ _ _ _ m _ _ _ c.if-owned.false c.if-semaphores-le-FIRST_SEMAPHORES.true
    (c.walk.ensures m)) given

pub returns-then-semaphores-le-FIRST_SEMAPHORES-clause-of_plans :
    goal.returns-then-semaphores-le-FIRST_SEMAPHORES-clause-of_plans
returns-then-semaphores-le-FIRST_SEMAPHORES-clause-of_plans c =
    λ p given. plans_by (walk_few _ _ _ _ _ _ _ _ c.if-owned.false c.if-semaphores-le-FIRST_SEMAPHORES.true
    (c.walk.ensures _)) given

pub returns-clause-exact : goal.returns-clause-exact
returns-clause-exact c =
    λ m. walk_many _ _ _ _ m _ _ _ c.if-owned.false c.if-semaphores-le-FIRST_SEMAPHORES.false (c.walk-2.ensures m)

pub returns-clause-below : goal.returns-clause-below
returns-clause-below c =
    λ p given. below_by _ (λ m. walk_many _ _ _ _ m _ _ _ c.if-owned.false c.if-semaphores-le-FIRST_SEMAPHORES.false
    (c.walk-2.ensures m)) given

pub returns-clause-of_plans : goal.returns-clause-of_plans
returns-clause-of_plans c =
    λ p given. plans_by (walk_many _ _ _ _ _ _ _ _ c.if-owned.false c.if-semaphores-le-FIRST_SEMAPHORES.false
    (c.walk-2.ensures _)) given
