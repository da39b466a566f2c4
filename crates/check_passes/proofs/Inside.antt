-- Whatever the columns show, the operation that 10, 17 or 11 names is one of the n. Assumes nothing.
use mathlib.Core.Path.{◌≡◌, refl, sym, ◌∙◌, subst}
use mathlib.Core.Bool.{true, false}
use mathlib.Core.List.{List, [], ◌∷◌}
use Prim.Native.Nat.{ℕ, zero, suc, ◌+◌, ◌*◌, ◌%◌, ◌≤◌, ◌<◌}
use native.Mathlib.Omega.{arith}
use lib.Dec.{ltb}
use lib.ListN.{length, get_or, take, replicate}
use lib.Seq.{length-take-le, take-suc}
use borrow.Author.Tests.{ltb-true, eq-eqb}
use Rattle.base_lists.specs.Lists.{member, lowest_below, place_or}
use Rattle.base_lists.proofs.Tests.{by_cases, by_option, clash, is_false}
use Rattle.base_lists.proofs.Distinct.{Sized, sized_nil, sized_snoc, sized_full}
use Rattle.base_lists.proofs.Elements.{replicate_at}
use Rattle.base_lists.proofs.Places.{take_place, place_take}
use Rattle.base_lists.proofs.Searches.{lowest_some, lowest_none}
use Rattle.plan_format.specs.Sizes.{row_width, row_places}
use Rattle.plan_format.specs.Refusal.{refusal, none_given}
use Rattle.check_run.specs.Run.{Bounded}
use Rattle.check_stuck.specs.Zeros.{own_zero, first_zero}
use Rattle.check_passes.specs.Answering.{OrderColumns, disordered_by, broken_by, order_by}

module _ {n ran : ℕ} {rows list list_now : List ℕ}
    (bounded : Bounded n ran (replicate row_places 0) rows list list_now) (room : n ≤ length list) where
  -- what is listed is below n, and none twice
  listed : (k : ℕ) → k ≤ ran → Sized n (take k list_now)
  listed zero l = subst (λ (xs : List ℕ). Sized n xs) (sym (none_taken list_now)) (sized_nil n)
    where
      none_taken : (xs : List ℕ) → take 0 xs ≡ []
      none_taken [] = refl
      none_taken (x ∷ xs) = refl
  listed (suc k) l =
      let here : k < length list = omega (arith, bounded.few) in
      let long : k < length list_now = omega (arith, bounded.few, bounded.long) in
      rw (take-suc list_now k 0 long)
      (sized_snoc n (get_or list_now k 0) (take k list_now) (bounded.steps k l here)
      (is_false (member (get_or list_now k 0) (take k list_now)) (λ m.
      let a = take_place list_now k (get_or list_now k 0) (omega arith) m in
      bounded.once a.0 k a.1 l here a.2))
      (listed k (omega arith)))

  unlaid_zero : (queue : List ℕ) (i : ℕ) → member i (take ran list_now) ≡ false → own_zero queue rows i ≡ true
  unfolding own_zero
  unlaid_zero queue i f =
      eq-eqb (get_or rows (row_width * i + get_or queue i 0 % row_width) 0) 0
      (bounded.unlaid (omega (arith, bounded.few)) i (get_or queue i 0 % row_width) (omega arith)
      (λ k l e. clash (member i (take ran list_now))
      (place_take list_now ran i (omega (arith, bounded.few, bounded.long)) (k, l, e)) f)
      ∙ replicate_at row_places 0 (row_width * i + get_or queue i 0 % row_width))

  -- fewer than n ran: one that did not is found
  one_missing : (queue : List ℕ) → ran < n → first_zero n queue rows < n
  unfolding place_or
  one_missing queue l =
      by_option (lowest_below n (own_zero queue rows))
      (λ none. absurd (omega (
        arith,
        length-take-le ran list_now (omega (arith, bounded.few, bounded.long)),
        sized_full n (take ran list_now) (listed ran (omega arith))
            (λ i b. by_cases (member i (take ran list_now)) (λ t. t)
            (λ f. clash (own_zero queue rows i) (unlaid_zero queue i f)
            (lowest_none n (own_zero queue rows) none i b))),
      )))
      (λ j e. rw e (lowest_some n (own_zero queue rows) j e).inside)

  pub order_inside : (cs : OrderColumns) → ((order_by n cs ran rows).number ≡ 0 → ⊥) →
      (order_by n cs ran rows).place < n
  unfolding order_by refusal none_given
  order_inside cs z =
      by_cases (ltb ran n)
      (λ t. rw t (one_missing cs.queue (ltb-true ran n t)))
      (λ f. by_cases (ltb (disordered_by n cs rows) n)
      (λ t. rw (f, t) (ltb-true (disordered_by n cs rows) n t))
      (λ g. by_cases (ltb (broken_by n cs rows) n)
      (λ t. rw (f, g, t) (ltb-true (broken_by n cs rows) n t))
      (λ h. absurd (z (rw (f, g, h))))))
