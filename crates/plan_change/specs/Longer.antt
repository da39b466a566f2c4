-- A plan with one operation more at the end (R87). Assumes nothing: these are definitions.
use Rattle.std.specs.Prelude.{[], ◌∷◌, ◌++◌, ℕ}
use Rattle.plan_format.specs.Plan.{Point, Operation, Plan}

-- R87: one operation more at the end, and every other section as it was
unfoldable pub with_last : Plan → Operation → Plan
with_last p o =
    record { axes = p.axes; owners = p.owners; sizes = p.sizes; operations = p.operations ++ (o ∷ []) }

-- R87: an operation on a queue that has one wait, and signals and marks nothing
unfoldable pub waiting : (queue : ℕ) → (wait : Point) → Operation
waiting q w = record { queue = q; waits = w ∷ []; signals = []; marks = [] }

-- R87, longer plan
abbrev pub longer : Plan → (queue : ℕ) → (wait : Point) → Plan
longer p q w = with_last p (waiting q w)
