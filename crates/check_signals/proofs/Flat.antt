-- Refusal 7 over all signals of a plan in one list, by a table of last values: where it is not given the last value of
-- a semaphore is its highest. Assumes nothing.
use mathlib.Core.Path.{◌≡◌, refl, sym, ap, ◌∙◌, subst}
use mathlib.Core.Bool.{false, cond}
use mathlib.Core.List.Memᴰ
use mathlib.Core.List.{List, [], ◌∷◌, ◌++◌, Memᴰ}
use Prim.Native.Nat.{ℕ, suc, ◌+◌, ◌≤◌, ◌<◌, max}
use native.Mathlib.Omega.{arith}
use lib.Dec.{leb, eqb}
use lib.ListN.{length, get_or, set, length-set}
use lib.Seq.{get_or-set_same, get_or-set_other}
use borrow.Author.Tests.{leb-false, eqb-true, eqb-false}
use Rattle.base_lists.proofs.Tests.{by_cases, either}
use Rattle.plan_format.specs.Refusal.{Refusal, refusal, none_given}
use Rattle.plan_format.specs.Plan.{Point, Operation, Plan, empty_operation, count, op}
use Rattle.plan_format.specs.Sound.{highest_in, highest, signals_number, signals_refusal, InRange}
use Rattle.plan_order.specs.Precedence.{Signal, signals_of, signals_from, plan_signals}
use Rattle.check_columns.specs.Columns.{no_point}

unfoldable pub flat : (last : List ℕ) → List Signal → Refusal
flat t [] = none_given
flat t (x ∷ xs) =
    cond (leb x.value (get_or t x.semaphore 0)) (refusal 7 x.operation)
    (flat (set t x.semaphore x.value) xs)

-- the table after some signals
unfoldable pub after : (last : List ℕ) → List Signal → List ℕ
after t [] = t
after t (x ∷ xs) = after (set t x.semaphore x.value) xs

after_append : (t : List ℕ) (xs ys : List Signal) → after t (xs ++ ys) ≡ after (after t xs) ys
unfolding after
after_append t [] ys = refl
after_append t (x ∷ xs) ys = after_append (set t x.semaphore x.value) xs ys

-- the table holds f of each semaphore
pub record TableHolds (p : Plan) (t : List ℕ) (f : ℕ → ℕ) : Type 0 where
  pub room : length p.owners ≤ length t
  pub values : (s : ℕ) → s < length p.owners → get_or t s 0 ≡ f s

holds_same : {p : Plan} {t : List ℕ} (f g : ℕ → ℕ) → ((s : ℕ) → f s ≡ g s) → TableHolds p t f → TableHolds p t g
holds_same f g e h = record { room = h.room; values = λ s l. h.values s l ∙ e s }

-- semaphores that a list names are in the plan
abbrev pub Named : Plan → List Point → Type 0
Named p xs = (k : ℕ) → k < length xs → (get_or xs k no_point).semaphore < length p.owners

module _ (p : Plan) (bs : List Operation) where
  -- what is signalled before a place in an operation's list
  abbrev so_far : List Point → ℕ → ℕ
  so_far own s = max (highest s bs) (highest_in s own)

  holds_set : (t : List ℕ) (own : List Point) (x : Point) → TableHolds p t (so_far own) →
      x.semaphore < length p.owners → leb x.value (so_far own x.semaphore) ≡ false →
      TableHolds p (set t x.semaphore x.value) (so_far (x ∷ own))
  unfolding highest_in
  holds_set t own x h inside high = record {
    room = rw length-set h.room;
    values = λ s l. by_cases (eqb x.semaphore s)
        (λ e. let same = eqb-true x.semaphore s e in
        rw e
        (subst (λ (z : ℕ). get_or (set t x.semaphore x.value) z 0 ≡
        max (highest z bs) (max x.value (highest_in z own)))
        same
        (get_or-set_same t x.semaphore x.value 0 (omega (arith, h.room))
        ∙ omega (arith, leb-false x.value (so_far own x.semaphore) high))))
        (λ e. rw e (get_or-set_other t x.semaphore s x.value 0 (λ z. eqb-false x.semaphore s e (sym z))
        ∙ h.values s l ∙ omega arith));
  }

  module _ (i : ℕ) where
    -- one operation's signals, then the rest
    of_flat : (k : ℕ) (t : List ℕ) (own xs : List Point) (rest : List Signal) →
        TableHolds p t (so_far own) → Named p xs →
        flat t (signals_of i k xs ++ rest) ≡
        cond (eqb (signals_number bs own xs) 0) (flat (after t (signals_of i k xs)) rest)
        (refusal (signals_number bs own xs) i)
    unfolding flat after signals_of signals_number
    of_flat k t own [] rest h ok = refl
    of_flat k t own (x ∷ xs) rest h ok =
        let inside = ok 0 (omega arith) in
        by_cases (leb x.value (so_far own x.semaphore))
        (λ b. rw (h.values x.semaphore inside, b))
        (λ b. rw (h.values x.semaphore inside, b)
        (of_flat (suc k) (set t x.semaphore x.value) (x ∷ own) xs rest (holds_set t own x h inside b)
        (λ j l. ok (suc j) (omega arith))))

    of_holds : (k : ℕ) (t : List ℕ) (own xs : List Point) → TableHolds p t (so_far own) → Named p xs →
        signals_number bs own xs ≡ 0 →
        TableHolds p (after t (signals_of i k xs)) (λ s. max (so_far own s) (highest_in s xs))
    unfolding after signals_of signals_number highest_in
    of_holds k t own [] h ok z = holds_same (so_far own) (λ s. max (so_far own s) 0) (λ s. omega arith) h
    of_holds k t own (x ∷ xs) h ok z =
        let inside = ok 0 (omega arith) in
        by_cases (leb x.value (so_far own x.semaphore))
        (λ b. absurd (let y : 7 ≡ 0 = rw b at z in omega arith))
        (λ b. holds_same (λ s. max (so_far (x ∷ own) s) (highest_in s xs))
        (λ s. max (so_far own s) (highest_in s (x ∷ xs))) (λ s. omega arith)
        (of_holds (suc k) (set t x.semaphore x.value) (x ∷ own) xs (holds_set t own x h inside b)
        (λ j l. ok (suc j) (omega arith)) (rw b at z)))

highest_snoc : (s : ℕ) (bs : List Operation) (o : Operation) →
    highest s (bs ++ (o ∷ [])) ≡ max (highest s bs) (highest_in s o.signals)
unfolding highest
highest_snoc s [] o = omega arith
highest_snoc s (b ∷ bs) o = omega (arith, highest_snoc s bs o)

-- the same of each operation in a list
abbrev AllNamed : Plan → List Operation → Type 0
AllNamed p os = (k : ℕ) → k < length os → Named p (get_or os k empty_operation).signals

module _ (p : Plan) where
  started : {t : List ℕ} (bs : List Operation) → TableHolds p t (λ s. highest s bs) → TableHolds p t (so_far p bs [])
  unfolding highest_in
  started bs h = holds_same (λ s. highest s bs) (so_far p bs []) (λ s. omega arith) h

  -- the table after one more operation that is not given 7
  stepped : (i : ℕ) (t : List ℕ) (bs : List Operation) (o : Operation) → Named p o.signals →
      TableHolds p t (λ s. highest s bs) → signals_number bs [] o.signals ≡ 0 →
      TableHolds p (after t (signals_of i 0 o.signals)) (λ s. highest s (bs ++ (o ∷ [])))
  unfolding highest_in
  stepped i t bs o ok h z =
      holds_same (λ s. max (so_far p bs [] s) (highest_in s o.signals)) (λ s. highest s (bs ++ (o ∷ [])))
      (λ s. omega (arith, highest_snoc s bs o))
      (of_holds p bs i 0 t [] o.signals (started bs h) ok z)

  pub refusal_flat : (i : ℕ) (t : List ℕ) (bs os : List Operation) → TableHolds p t (λ s. highest s bs) →
      AllNamed p os → signals_refusal i bs os ≡ flat t (signals_from i os)
  unfolding signals_refusal signals_from flat
  refusal_flat i t bs [] h ok = refl
  refusal_flat i t bs (o ∷ os) h ok =
      let names = ok 0 (omega arith) in
      by_cases (eqb (signals_number bs [] o.signals) 0)
      (λ e. rw (of_flat p bs i 0 t [] o.signals (signals_from (suc i) os) (started bs h) names, e)
      (refusal_flat (suc i) (after t (signals_of i 0 o.signals)) (bs ++ (o ∷ [])) os
      (stepped i t bs o names h (eqb-true (signals_number bs [] o.signals) 0 e)) (λ k l. ok (suc k) (omega arith))))
      (λ e. rw (of_flat p bs i 0 t [] o.signals (signals_from (suc i) os) (started bs h) names, e))

  -- where it is not given the table ends with the highest of all
  pub refusal_holds : (i : ℕ) (t : List ℕ) (bs os : List Operation) → TableHolds p t (λ s. highest s bs) →
      AllNamed p os → (signals_refusal i bs os).number ≡ 0 →
      TableHolds p (after t (signals_from i os)) (λ s. max (highest s bs) (highest s os))
  unfolding signals_refusal signals_from after highest refusal
  refusal_holds i t bs [] h ok z = holds_same (λ s. highest s bs) (λ s. max (highest s bs) 0) (λ s. omega arith) h
  refusal_holds i t bs (o ∷ os) h ok z =
      let names = ok 0 (omega arith) in
      let n = signals_number bs [] o.signals in
      by_cases (eqb n 0)
      (λ e. rw (after_append t (signals_of i 0 o.signals) (signals_from (suc i) os))
      (holds_same (λ s. max (highest s (bs ++ (o ∷ []))) (highest s os))
      (λ s. max (highest s bs) (max (highest_in s o.signals) (highest s os)))
      (λ s. omega (arith, highest_snoc s bs o))
      (refusal_holds (suc i) (after t (signals_of i 0 o.signals)) (bs ++ (o ∷ [])) os
      (stepped i t bs o names h (eqb-true n 0 e)) (λ k l. ok (suc k) (omega arith)) (rw e at z))))
      (λ e. absurd (eqb-false n 0 e (rw e at z)))

-- ---- what a plan's signals name
pub record Inside (p : Plan) (y : Signal) : Type 0 where
  pub semaphore : y.semaphore < length p.owners
  pub operation : y.operation < count p

of_inside : (p : Plan) (i k : ℕ) (xs : List Point) → i < count p → Named p xs → (y : Signal) →
    Memᴰ y (signals_of i k xs) → Inside p y
unfolding signals_of
of_inside p i k [] l ok y m = absurd (Memᴰ.not-nil m)
of_inside p i k (x ∷ xs) l ok y m =
    either (Memᴰ.cases_cons m)
    (λ e. record {
      semaphore = subst (λ (n : ℕ). n < length p.owners) (sym (ap (λ (z : Signal). z.semaphore) e))
          (ok 0 (omega arith));
      operation = subst (λ (n : ℕ). n < count p) (sym (ap (λ (z : Signal). z.operation) e)) l;
    })
    (λ t. of_inside p i (suc k) xs l (λ j b. ok (suc j) (omega arith)) y t)

from_inside : (p : Plan) (i : ℕ) (os : List Operation) → i + length os ≤ count p → AllNamed p os → (y : Signal) →
    Memᴰ y (signals_from i os) → Inside p y
unfolding signals_from
from_inside p i [] l ok y m = absurd (Memᴰ.not-nil m)
from_inside p i (o ∷ os) l ok y m =
    either (Memᴰ.append_cases (signals_of i 0 o.signals) m)
    (λ t. of_inside p i 0 o.signals (omega arith) (ok 0 (omega arith)) y t)
    (λ t. from_inside p (suc i) os (omega arith) (λ k b. ok (suc k) (omega arith)) y t)

-- ---- a whole plan, from a table with a zero for each of its semaphores
module _ (p : Plan) (in_range : (i : ℕ) → i < count p → InRange p (op p i)) where
  all_named : AllNamed p p.operations
  unfolding op count
  all_named k l = (in_range k l).signals

  pub plan_inside : (y : Signal) → Memᴰ y (plan_signals p) → Inside p y
  unfolding plan_signals count
  plan_inside = from_inside p 0 p.operations (omega arith) all_named

  module _ (t : List ℕ) (room : length p.owners ≤ length t)
      (none : (s : ℕ) → s < length p.owners → get_or t s 0 ≡ 0) where
    start : TableHolds p t (λ s. highest s [])
    unfolding highest
    start = record { room = room; values = none }

    pub plan_flat : signals_refusal 0 [] p.operations ≡ flat t (plan_signals p)
    unfolding plan_signals
    plan_flat = refusal_flat p 0 t [] p.operations start all_named

    pub plan_holds : (signals_refusal 0 [] p.operations).number ≡ 0 →
        TableHolds p (after t (plan_signals p)) (λ s. highest s p.operations)
    unfolding plan_signals highest
    plan_holds z =
        holds_same (λ s. max 0 (highest s p.operations)) (λ s. highest s p.operations) (λ s. omega arith)
        (refusal_holds p 0 t [] p.operations start all_named z)
