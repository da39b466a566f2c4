-- Operations chained by queue, from the last to the first. Assumes nothing.
use mathlib.Core.Path.{◌≡◌, sym, ap, ◌∙◌, subst}
use mathlib.Core.List.{List}
use Prim.Native.Nat.{ℕ, suc, ◌≤◌, ◌<◌}
use native.Mathlib.Nat.{le_refl}
use native.Mathlib.Omega.{arith}
use lib.Dec.{eqb}
use lib.ListN.{length, get_or, set, replicate, length-set, length-replicate, get_or-replicate}
use lib.Seq.{get_or-set_same, get_or-set_other}
use borrow.Author.Tests.{eqb-true, eqb-false}
use Rattle.base_lists.proofs.Tests.{by_cases}
use Rattle.plan_format.specs.Sizes.{no_operation, most_operations, most_queues}
use Rattle.check_run.specs.Queues.{FirstFrom, found, absent, Chained}

-- an operation that is not on the queue goes before
first_back : (queue : List ℕ) (q k n x : ℕ) → (get_or queue k 0 ≡ q → ⊥) → FirstFrom queue q (suc k) n x →
    FirstFrom queue q k n x
first_back queue q k n x ne (found _ l u e h) =
    found x (omega arith) u e
    (λ i a b z. by_cases (eqb i k) (λ t. ne (subst (λ (y : ℕ). get_or queue y 0 ≡ q) (eqb-true i k t) z))
    (λ f. h i (omega (arith, eqb-false i k f)) b z))
first_back queue q k n x ne (absent h) =
    absent (λ i a b z. by_cases (eqb i k) (λ t. ne (subst (λ (y : ℕ). get_or queue y 0 ≡ q) (eqb-true i k t) z))
    (λ f. h i (omega (arith, eqb-false i k f)) b z))

-- sixteen bits hold it
pub first_small : (queue : List ℕ) (q start n x : ℕ) → n ≤ most_operations → FirstFrom queue q start n x →
    x ≤ no_operation
first_small queue q start n x few (found _ l u e h) = omega arith
first_small queue q start n x few (absent h) = le_refl no_operation

module _ (queue : List ℕ) (n : ℕ) (few : n ≤ most_operations) where
  pub chained_none : (head next : List ℕ) → head ≡ replicate most_queues no_operation → length next ≡ most_operations →
      Chained queue n n head next
  chained_none head next e long = record {
    heads = λ q l. subst (λ (x : ℕ). FirstFrom queue q n n x)
        (sym (ap (λ (x : List ℕ). get_or x q 0) e ∙ get_or-replicate most_queues q no_operation 0 l))
        (absent (λ k a b z. omega arith));
    nexts = λ i a b l. absurd (omega arith);
    head_long = ap length e ∙ length-replicate {A = ℕ} most_queues no_operation;
    next_long = long;
  }

  module _ (k q first : ℕ) (head next head_now next_now : List ℕ) (inside : k < n) (i : ℕ) (i_is : i ≡ suc k)
      (before : Chained queue i n head next)
      (q_is : q ≡ get_or queue k 0) (first_is : first ≡ get_or head q 0)
      (next_is : next_now ≡ set next k first) (head_is : head_now ≡ set head q k) where
    chained : Chained queue (suc k) n head next
    chained = subst (λ (x : ℕ). Chained queue x n head next) i_is before

    head_same : (r : ℕ) → r < 16 → r ≡ q → get_or head_now r 0 ≡ k
    head_same r l e =
        ap (λ (x : List ℕ). get_or x r 0) head_is
        ∙ ap (λ (x : ℕ). get_or (set head q k) x 0) e
        ∙ get_or-set_same head q k 0 (let h : q < length head = omega (arith, chained.head_long) in h)

    head_other : (r : ℕ) → (r ≡ q → ⊥) → get_or head_now r 0 ≡ get_or head r 0
    head_other r ne = ap (λ (x : List ℕ). get_or x r 0) head_is ∙ get_or-set_other head q r k 0 ne

    next_same : q < 16 → FirstFrom queue q (suc k) n (get_or next_now k 0)
    next_same l =
        let h = chained.heads q l in
        subst (λ (x : ℕ). FirstFrom queue q (suc k) n x)
        (sym (ap (λ (x : List ℕ). get_or x k 0) next_is
        ∙ get_or-set_same next k first 0 (let h : k < length next = omega (arith, chained.next_long) in h)
        ∙ first_is)) h

    next_other : (i : ℕ) → (i ≡ k → ⊥) → get_or next_now i 0 ≡ get_or next i 0
    next_other i ne = ap (λ (x : List ℕ). get_or x i 0) next_is ∙ get_or-set_other next k i first 0 ne

    pub chained_more : Chained queue k n head_now next_now
    chained_more = record {
      heads = λ r l. by_cases (eqb r q)
          (λ t. let e = eqb-true r q t in
          subst (λ (x : ℕ). FirstFrom queue r k n x) (sym (head_same r l e))
          (found k (le_refl k) inside (sym q_is ∙ sym e) (λ i a b z. omega arith)))
          (λ f. let ne = eqb-false r q f in
          subst (λ (x : ℕ). FirstFrom queue r k n x) (sym (head_other r ne))
          (first_back queue r k n (get_or head r 0) (λ z. ne (sym z ∙ sym q_is)) (chained.heads r l)));
      nexts = λ i a b l. by_cases (eqb i k)
          (λ t. let e = eqb-true i k t in
          subst (λ (x : ℕ). FirstFrom queue (get_or queue x 0) (suc x) n (get_or next_now x 0)) (sym e)
          (subst (λ (x : ℕ). FirstFrom queue x (suc k) n (get_or next_now k 0)) q_is (next_same (rw (e, ← q_is) at l))))
          (λ f. let ne = eqb-false i k f in
          subst (λ (x : ℕ). FirstFrom queue (get_or queue i 0) (suc i) n x) (sym (next_other i ne))
          (chained.nexts i (omega arith) b l));
      head_long = ap length head_is ∙ length-set head q k ∙ chained.head_long;
      next_long = ap length next_is ∙ length-set next k first ∙ chained.next_long;
    }
